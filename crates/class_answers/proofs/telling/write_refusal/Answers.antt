use Rattle.std.proofs.Common.{List, ℕ, ◌++◌, codes, string_bytes, refl, ap, ◌∙◌}
use Rattle.class_answers.specs.declared.answers.Answer.TheVariants as answer
use Rattle.class_answers.proofs.Lines.{told}
use Rattle.class_answers.proofs.telling.write_refusal.Goals as goal

pub returns-in-CannotRead-clause-all : goal.returns-in-CannotRead-clause-all
returns-in-CannotRead-clause-all g c =
    told c.write_line-in-CannotRead.result (g.S.Sink.taken c.args.sink.now) (g.S.Sink.taken c.write_line-in-CannotRead.new.sink)
    c.args.answer.now (answer.CannotRead c.in-CannotRead.file)
    (codes "cannot read " ++ c.as_bytes-in-CannotRead.result.now) (codes "cannot read " ++ string_bytes c.in-CannotRead.file)
    c.in-CannotRead.is
    (ap (λ (t : List ℕ). codes "cannot read " ++ t) (c.as_bytes-in-CannotRead.ensures.value ∙ c.as_str-in-CannotRead.ensures.value))
    refl c.write_line-in-CannotRead.ensures.all

pub returns-in-Missing-clause-all : goal.returns-in-Missing-clause-all
returns-in-Missing-clause-all g c =
    told c.write_line-in-Missing.result (g.S.Sink.taken c.args.sink.now) (g.S.Sink.taken c.write_line-in-Missing.new.sink)
    c.args.answer.now (answer.Missing c.in-Missing.class)
    (codes "missing class " ++ c.as_bytes-in-Missing.result.now) (codes "missing class " ++ c.in-Missing.class)
    c.in-Missing.is (ap (λ (t : List ℕ). codes "missing class " ++ t) c.as_bytes-in-Missing.ensures.value)
    refl c.write_line-in-Missing.ensures.all

pub returns-in-Cyclic-clause-all : goal.returns-in-Cyclic-clause-all
returns-in-Cyclic-clause-all g c =
    told c.write_line-in-Cyclic.result (g.S.Sink.taken c.args.sink.now) (g.S.Sink.taken c.write_line-in-Cyclic.new.sink)
    c.args.answer.now (answer.Cyclic c.in-Cyclic.class)
    (codes "cyclic class " ++ c.as_bytes-in-Cyclic.result.now) (codes "cyclic class " ++ c.in-Cyclic.class)
    c.in-Cyclic.is (ap (λ (t : List ℕ). codes "cyclic class " ++ t) c.as_bytes-in-Cyclic.ensures.value)
    refl c.write_line-in-Cyclic.ensures.all
