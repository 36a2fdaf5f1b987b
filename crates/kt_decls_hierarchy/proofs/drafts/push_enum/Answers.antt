use Rattle.std.specs.Prelude.{List, [], ◌∷◌, ◌++◌, ◌≡◌, map, refl}
use Rattle.std.proofs.Common.{ap, ◌∙◌}
use Rattle.kt_tree.specs.Declarations.{enum}
use Rattle.kt_types_tree.specs.declared.hierarchy.ClassHeader.{ClassHeader}
use Rattle.kt_types_tree.specs.Hierarchy.{HeaderForm, header_form}
use Rattle.kt_decls_hierarchy.specs.Drafts.{Classes, class_draft}
use Rattle.kt_decls_hierarchy.proofs.drafts.push_enum.Goals as goal

one_more : (old : List ClassHeader) (x : ClassHeader) → map header_form (old ++ x ∷ []) ≡ map header_form old ++ header_form x ∷ []
one_more [] x = refl
one_more (y ∷ old) x = ap (λ hs. header_form y ∷ hs) (one_more old x)

pushed : (old new : List ClassHeader) (x : ClassHeader) (h : HeaderForm) → new ≡ old ++ x ∷ [] → header_form x ≡ h → map header_form new ≡ map header_form old ++ h ∷ []
pushed old new x h e f = ap (map header_form) e ∙ (one_more old x ∙ (λ i. map header_form old ++ f i ∷ []))

pub returns-clause-drafts : goal.returns-clause-drafts
returns-clause-drafts c = λ (classes : Classes). pushed c.args.done.now c.push.new.self c.enum_draft.result (class_draft classes c.args.first (enum c.args.declared.now)) c.in_ok-push.ensures.ok (c.enum_draft.ensures classes)
