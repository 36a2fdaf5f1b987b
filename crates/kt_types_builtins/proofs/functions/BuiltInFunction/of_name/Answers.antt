use Rattle.std.proofs.Common.{rules, ap, ◌∙◌}
use Rattle.std.specs.Prelude.{◌==◌, find}
use Rattle.std.specs.Cmp.Lexicographic.{pointwise}
use Rattle.std.proofs.lemmas.Iterator.{YieldsList-from_slice}
use Rattle.std.proofs.lemmas.Iterator.Search.{find_from_yields_List}
use Rattle.kt_types_builtins.specs.Functions.{function_name, function_of_name}
use Rattle.kt_types_builtins.proofs.functions.BuiltInFunction.of_name.Goals as goal

pub returns : goal.returns
unfolding function_of_name
returns c =
    let found = find_from_yields_List (λ t. pointwise ◌==◌ (function_name t) c.args.name.now) _ _ c.find.result c.find.ensures.ran (YieldsList-from_slice c.functions.result.now cc) (λ x b q k. search rules) in
    c.copied.ensures ∙ found ∙ ap (find (λ t. pointwise ◌==◌ (function_name t) c.args.name.now)) c.functions.ensures
