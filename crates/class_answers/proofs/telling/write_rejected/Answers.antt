use Rattle.std.proofs.Common.{◌++◌, codes, refl}
use Rattle.std.specs.Fmt.{decimal}
use Rattle.class_answers.proofs.Lines.{joined}
use Rattle.class_answers.proofs.telling.write_rejected.Goals as goal

pub returns-clause-all : goal.returns-clause-all
returns-clause-all g c =
    joined c.write_place.result (g.S.Sink.taken c.args.sink.now) _ _ c.as_bytes.result.now c.args.class.now
    (codes ".class: method " ++ (decimal c.args.method ++ (codes " rejected at " ++ decimal c.args.offset)))
    c.as_bytes.ensures.value c.in_ok-write_all.ensures.all
    (joined c.write_place.result _ _ _ (codes ".class: method ") (codes ".class: method ")
    (decimal c.args.method ++ (codes " rejected at " ++ decimal c.args.offset)) refl c.in_ok-write_all-2.ensures.all c.write_place.ensures.all)
