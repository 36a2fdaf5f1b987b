use Rattle.std.proofs.Common.{◌++◌, codes, ◌∙◌}
use Rattle.std.specs.Fmt.{decimal}
use Rattle.class_answers.proofs.Lines.{joined}
use Rattle.class_answers.proofs.telling.write_place.Goals as goal

pub returns-clause-all : goal.returns-clause-all
returns-clause-all g c =
    joined c.write_number.result (g.S.Sink.taken c.args.sink.now) _ _ c.as_bytes.result.now (decimal c.args.method)
    (codes " rejected at " ++ decimal c.args.offset) (c.as_bytes.ensures.value ∙ c.format.ensures.text) c.in_ok-write_all.ensures.all c.write_number.ensures.all
