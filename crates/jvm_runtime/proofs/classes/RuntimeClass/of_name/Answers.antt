use Rattle.std.proofs.Common.{rules, ap, ◌∙◌}
use Rattle.std.specs.Prelude.{find}
use Rattle.std.proofs.lemmas.Iterator.{YieldsList-from_slice}
use Rattle.std.proofs.lemmas.Iterator.Search.{find_from_yields_List}
use Rattle.jvm_pool.specs.Entries.{same_text}
use Rattle.jvm_runtime.specs.Classes.{class_name, class_named}
use Rattle.jvm_runtime.proofs.classes.RuntimeClass.of_name.Goals as goal

pub returns : goal.returns
unfolding class_named
returns c =
    let found = find_from_yields_List (λ k. same_text (class_name k) c.args.name.now) _ _ c.find.result c.find.ensures.ran
    (YieldsList-from_slice c.runtime_classes.result.now cc) (λ x b q k. search rules) in
    c.copied.ensures ∙ found ∙ ap (find (λ k. same_text (class_name k) c.args.name.now)) c.runtime_classes.ensures
