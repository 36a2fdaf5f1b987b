-- A function at top level obeys the rules of such functions where the tests say so.
use Rattle.std.specs.Prelude.{ℕ, zero, suc, Bool, true, false, List, ◌||◌, ◌≡◌, ◌↔◌, Option, Some, IsTrue, length, map, refl, Result, Ok, Err, IfOk}
use Rattle.std.proofs.Common.{ap, sym, ◌∙◌, subst}
use Rattle.std.proofs.lemmas.List.{length-map}
use Rattle.kt_base.specs.declared.errors.NoMemory.{NoMemory}
use Rattle.kt_tree.specs.Types.{TypeTree}
use Rattle.kt_tree.specs.declared.declarations.TypeParameter.{TypeParameter}
use Rattle.kt_tree.specs.Declarations.{DeclarationTree, FunctionTree, type_parameter_tree}
use Rattle.kt_types_tree.specs.Types.{TypeForm}
use Rattle.kt_typed.specs.declared.headers.DeclaredTypeParameter.{DeclaredTypeParameter}
use Rattle.kt_decls_bounds.proofs.Deciding.{always}
use Rattle.kt_decls_hierarchy.specs.Drafts.{Classes}
use Rattle.kt_decls_types.specs.References.{resolved}
use Rattle.kt_decls_rules.specs.Tables.{class_named, meant}
use Rattle.kt_decls_rules.specs.Members.{result_meant, unit_type}
use Rattle.kt_decls_rules.specs.Rules.{IsFineFunction, is_main}
use Rattle.kt_decls_tops.specs.Parts.{IsFineMain}

clash : (b : Bool) → b ≡ true → b ≡ false → ⊥
clash true d e = absurd cc
clash false d e = absurd cc

first_off : (a b : Bool) → (a || b) ≡ false → a ≡ false
first_off true b e = absurd cc
first_off false b e = refl

second_off : (a b : Bool) → (a || b) ≡ false → b ≡ false
second_off true b e = absurd cc
second_off false b e = e

both_off : (a b : Bool) → a ≡ false → b ≡ false → (a || b) ≡ false
both_off true b d e = absurd cc
both_off false b d e = e

pub result_so : (ds : List DeclarationTree) (classes : Classes) → ((y : List ℕ) → classes y ≡ class_named ds y) → (scope : List DeclaredTypeParameter) (t : TypeTree) (o : Option TypeForm) (b : Bool) → o ≡ resolved classes scope t → (IsTrue b ↔ (o ≡ Some unit_type)) → IsTrue b ↔ (meant ds scope t ≡ Some unit_type)
result_so ds classes names scope t o b found told =
    subst (λ (p : Option TypeForm). IsTrue b ↔ (p ≡ Some unit_type)) (found ∙ (λ i. resolved (λ y. names y i) scope t)) told

none_long : (n : ℕ) → n ≡ 0 → suc n ≡ 0 → ⊥
none_long n d e = absurd cc

module _ (ds : List DeclarationTree) (scope : List DeclaredTypeParameter) (f : FunctionTree) where
  pub other_name : (main : Bool) → main ≡ is_main f → main ≡ false → IsTrue true ↔ IsFineMain ds scope f
  other_name main e off = always ((λ is. absurd (clash (is_main f) is (sym e ∙ off))), (λ is. absurd (clash (is_main f) is (sym e ∙ off))))

  pub has_parameters : (main : Bool) → main ≡ is_main f → main ≡ true → (length f.type_parameters ≡ 0 → ⊥) → IsTrue false ↔ IsFineMain ds scope f
  has_parameters main e on some = ((λ t. absurd (clash false t refl)), (λ m. absurd (some (m.0 (sym e ∙ on)))))

  pub main_told : (main : Bool) → main ≡ is_main f → main ≡ true → length f.type_parameters ≡ 0 → (r : Result Bool NoMemory) → IfOk r (λ b. IsTrue b ↔ (result_meant ds scope f.result ≡ Some unit_type)) → IfOk r (λ b. IsTrue b ↔ IsFineMain ds scope f)
  main_told main e on none (Ok b) told = ((λ t. ((λ _. none), (λ _. told.0 t))), (λ m. told.1 (m.1 (sym e ∙ on))))
  main_told main e on none (Err z) told = tt

  module _ (marked : Bool) (is : marked ≡ (f.modifiers.is_override || f.modifiers.is_open || f.modifiers.is_abstract)) where
    plain : marked ≡ false → (f.modifiers.is_override ≡ false) × ((f.modifiers.is_open ≡ false) × (f.modifiers.is_abstract ≡ false))
    plain off =
        let all : (f.modifiers.is_override || f.modifiers.is_open || f.modifiers.is_abstract) ≡ false = sym is ∙ off in
        let two = first_off (f.modifiers.is_override || f.modifiers.is_open) f.modifiers.is_abstract all in
        (first_off f.modifiers.is_override f.modifiers.is_open two, (second_off f.modifiers.is_override f.modifiers.is_open two, second_off (f.modifiers.is_override || f.modifiers.is_open) f.modifiers.is_abstract all))

    pub is_marked : marked ≡ true → IsTrue false ↔ IsFineFunction ds scope f
    is_marked on = (
      (λ t. absurd (clash false t refl)),
      (λ g. absurd (clash marked on (is ∙ both_off (f.modifiers.is_override || f.modifiers.is_open) f.modifiers.is_abstract (both_off f.modifiers.is_override f.modifiers.is_open g.no_override g.not_open) g.not_abstract))),
    )

    pub function_told : marked ≡ false → (r : Result Bool NoMemory) → IfOk r (λ b. IsTrue b ↔ IsFineMain ds scope f) → IfOk r (λ b. IsTrue b ↔ IsFineFunction ds scope f)
    function_told off (Ok b) told =
        let p = plain off in (
          (λ t. let m = told.0 t in record { no_override = p.0; not_open = p.1.0; not_abstract = p.1.1; main_alone = m.0; main_result = m.1 }),
          (λ g. told.1 (g.main_alone, g.main_result)),
        )
    function_told off (Err z) told = tt

pub none_written : (ps : List TypeParameter) → length ps ≡ 0 → length (map type_parameter_tree ps) ≡ 0
none_written ps e = length-map ps type_parameter_tree ∙ e

pub some_written : (ps : List TypeParameter) → length (map type_parameter_tree ps) ≡ 0 → (length ps ≡ 0 → ⊥) → ⊥
some_written ps e some = some (sym (length-map ps type_parameter_tree) ∙ e)
