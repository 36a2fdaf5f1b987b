use Rattle.std.proofs.Common.{sym, ap, ◌∙◌}
use Rattle.jvm_pool_bytes.specs.Names.{is_ascii}
use Rattle.jvm_pool_judging.proofs.Told.{field_told}
use Rattle.jvm_pool_judging.proofs.texts.is_field.Goals as goal

pub returns-then-is_ascii : goal.returns-then-is_ascii
returns-then-is_ascii c =
    field_told c.args.text.now c.is_field_descriptor.result
    (ap is_ascii (sym c.as_bytes.ensures.value) ∙ sym c.is_ascii.ensures ∙ c.if-is_ascii.true)
    c.is_field_descriptor.ensures
