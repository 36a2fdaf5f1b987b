use Rattle.std.proofs.Common.{ap, ◌∙◌}
use Rattle.std.specs.Prelude.{option_map}
use Rattle.jvm_class_types.specs.Seen.{code_seen}
use Rattle.class_writer.proofs.Written.{on_ok, some_code_so}
use Rattle.class_writer.proofs.methods.put_some_code.Goals as goal

pub returns : goal.returns
returns c =
    on_ok c.put_code.result _ _
    (λ put. some_code_so c.args.pool.now c.args.class.now c.args.method.now.flags c.args.method.now.name
    c.args.method.now.descriptor (option_map code_seen c.args.code.now) (code_seen c.in-Some.code) c.deref.result.now
    (c.deref.ensures.value ∙ c.in_ok-start-in-Some.ensures) (ap (option_map code_seen) c.in-Some.is)
    c.args.into.now.items c.put_half.new.into.items c.put_code.new.into.items c.in_ok-put_half-in-Some.ensures put)
    c.put_code.ensures
