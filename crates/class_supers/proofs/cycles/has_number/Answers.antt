use Rattle.std.proofs.Common.{rules}
use Rattle.std.specs.Prelude.{◌==◌}
use Rattle.std.proofs.lemmas.Iterator.{YieldsList-from_slice}
use Rattle.std.proofs.lemmas.Iterator.Search.{any_from_yields_List}
use Rattle.class_supers.proofs.cycles.has_number.Goals as goal

pub returns : goal.returns
returns c =
    any_from_yields_List (λ x. x == c.args.number) _ _ c.any.result c.any.ensures.ran
    (YieldsList-from_slice c.args.row.now cc) (λ x b q k. search rules)
