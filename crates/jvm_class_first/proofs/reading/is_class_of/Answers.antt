use Rattle.std.proofs.Common.{◌∙◌, ap}
use Rattle.std.specs.Str.{bytes_eq}
use Rattle.jvm_class_first.proofs.Read.{is_written}
use Rattle.jvm_class_first.proofs.reading.is_class_of.Goals as goal

pub returns-in_ok-written-clause-no : goal.returns-in_ok-written-clause-no
returns-in_ok-written-clause-no c = λ class.
    is_written c.args.bytes.now c.in_ok-written.written.items c.args.code.now c.eq.result c.in_ok-written.ensures (c.eq.ensures ∙ ap (λ l. bytes_eq l c.args.bytes.now) c.as_slice.ensures.value) class
