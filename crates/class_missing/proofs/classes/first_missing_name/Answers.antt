use Rattle.std.proofs.Common.{rules}
use Rattle.std.proofs.lemmas.Iterator.{YieldsList-from_slice}
use Rattle.std.proofs.lemmas.Iterator.Search.{find_from_yields_List}
use Rattle.class_missing.specs.Missing.{is_missing}
use Rattle.class_missing.proofs.classes.first_missing_name.Goals as goal

pub returns : goal.returns
returns c =
    find_from_yields_List (is_missing c.args.h.now) _ _ c.find.result c.find.ensures.ran
    (YieldsList-from_slice c.args.names.now cc) (λ x b q k. search rules)
