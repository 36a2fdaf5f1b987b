use Rattle.std.proofs.Common.{rules, ap, ◌∙◌}
use Rattle.std.specs.Prelude.{◌==◌, find}
use Rattle.std.specs.Cmp.Lexicographic.{pointwise}
use Rattle.std.proofs.lemmas.Iterator.{YieldsList-from_slice}
use Rattle.std.proofs.lemmas.Iterator.Search.{find_from_yields_List}
use Rattle.kt_types_builtins.specs.Types.{type_name, type_of_name}
use Rattle.kt_types_builtins.proofs.types.BuiltInType.of_name.Goals as goal

pub returns : goal.returns
unfolding type_of_name
returns c =
    let found = find_from_yields_List (λ t. pointwise ◌==◌ (type_name t) c.args.name.now) _ _ c.find.result c.find.ensures.ran (YieldsList-from_slice c.types.result.now cc) (λ x b q k. search rules) in
    c.copied.ensures ∙ found ∙ ap (find (λ t. pointwise ◌==◌ (type_name t) c.args.name.now)) c.types.ensures
