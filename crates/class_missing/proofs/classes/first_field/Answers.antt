use Rattle.std.proofs.Common.{rules}
use Rattle.std.specs.Prelude.{is_some}
use Rattle.std.proofs.lemmas.Iterator.{YieldsList-from_slice}
use Rattle.std.proofs.lemmas.Iterator.Search.{find_from_yields_List}
use Rattle.class_missing.specs.Missing.{type_missing}
use Rattle.class_missing.proofs.classes.first_field.Goals as goal

pub returns : goal.returns
returns c =
    find_from_yields_List (λ f. is_some (type_missing c.args.h.now f.descriptor)) _ _ c.find.result c.find.ensures.ran
    (YieldsList-from_slice c.args.fields.now cc) (λ x b q k. search rules)
