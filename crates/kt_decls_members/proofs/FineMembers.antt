-- The header of a member is well formed where the tests say so.
use Rattle.std.specs.Prelude.{ℕ, Bool, true, false, List, [], ◌∷◌, ◌&&◌, ◌≡◌, ◌↔◌, IsTrue, map, not, refl, Result, Ok, Err, IfOk}
use Rattle.std.specs.List.{list_any}
use Rattle.std.proofs.Common.{ap, sym, ◌∙◌}
use Rattle.kt_base.specs.declared.errors.NoMemory.{NoMemory}
use Rattle.kt_tree.specs.Declarations.{DeclarationTree, FunctionTree, PropertyTree}
use Rattle.kt_typed.specs.declared.headers.DeclaredTypeParameter.{DeclaredTypeParameter}
use Rattle.kt_decls_bounds.proofs.Deciding.{always}
use Rattle.kt_decls_methods.specs.Overriding.{OverridesWell}
use Rattle.kt_decls_rules.specs.Names.{Taken, a_value, are_free, are_distinct, is_name, taken_by_function}
use Rattle.kt_decls_rules.specs.Members.{inherited_properties}
use Rattle.kt_decls_rules.specs.Rules.{AreMeant, HasMeaning, IsGrounded, types_of_function}
use Rattle.kt_decls_rules.specs.Tables.{hierarchy_of, meant}
use Rattle.kt_decls_rules.specs.ClassRules.{IsFineMethod, IsFineProperty}

clash : (b : Bool) → b ≡ true → b ≡ false → ⊥
clash true d e = absurd cc
clash false d e = absurd cc

first_of : (a b : Bool) → (a && b) ≡ true → a ≡ true
first_of true b e = refl
first_of false b e = absurd cc

second_of : (a b : Bool) → (a && b) ≡ true → b ≡ true
second_of true b e = e
second_of false b e = absurd cc

both_of : (a b : Bool) → a ≡ true → b ≡ true → (a && b) ≡ true
both_of true b d e = e
both_of false b d e = absurd cc

module _ (ds : List DeclarationTree) (row : ℕ) (scope : List DeclaredTypeParameter) (f : FunctionTree) (is_free apart named : Bool) (distinct : apart ≡ are_distinct (map (λ p. p.name) f.parameters)) (both : named ≡ (is_free && apart)) where
  pub not_named : named ≡ false → (earlier : List Taken) → is_free ≡ are_free earlier (taken_by_function f ∷ []) → IsTrue false ↔ IsFineMethod ds row scope earlier f
  not_named off earlier free =
      ((λ t. absurd (clash false t refl)), (λ m. absurd (clash named (both ∙ both_of is_free apart (free ∙ m.free) (distinct ∙ m.distinct_parameters)) off)))

  module _ (meant : Bool) (types : IsTrue meant ↔ AreMeant ds scope (types_of_function f)) where
    pub not_meant : meant ≡ false → (earlier : List Taken) → is_free ≡ are_free earlier (taken_by_function f ∷ []) → IsTrue false ↔ IsFineMethod ds row scope earlier f
    not_meant off earlier free =
        ((λ t. absurd (clash false t refl)), (λ m. absurd (clash meant (types.1 m.types_meant) off)))

    whole : named ≡ true → meant ≡ true → (earlier : List Taken) → is_free ≡ are_free earlier (taken_by_function f ∷ []) → (IsGrounded (hierarchy_of ds) row → OverridesWell ds row scope f) → IsFineMethod ds row scope earlier f
    whole n m earlier free well = record {
      free = sym free ∙ first_of is_free apart (sym both ∙ n);
      distinct_parameters = sym distinct ∙ second_of is_free apart (sym both ∙ n);
      types_meant = types.0 m;
      overrides_something = λ g. (well g).0;
      overrides_each = λ g. (well g).1.0;
      one_descriptor = λ g. (well g).1.1;
    }

    pub all_told : named ≡ true → meant ≡ true → (r : Result Bool NoMemory) → IfOk r (λ yes. IsTrue yes ↔ (IsGrounded (hierarchy_of ds) row → OverridesWell ds row scope f)) → IfOk r (λ yes. (earlier : List Taken) → is_free ≡ are_free earlier (taken_by_function f ∷ []) → IsTrue yes ↔ IsFineMethod ds row scope earlier f)
    all_told n m (Ok b) told = λ earlier free. (
      (λ t. whole n m earlier free (told.0 t)),
      (λ f. told.1 (λ g. (f.overrides_something g, (f.overrides_each g, f.one_descriptor g)))),
    )
    all_told n m (Err z) told = tt

pub property_told :
    (ds : List DeclarationTree) (row : ℕ) (scope : List DeclaredTypeParameter) (p : PropertyTree) (is_free is_meant is_new fine : Bool) →
    fine ≡ (is_free && is_meant && is_new) →
    (IsTrue is_meant ↔ HasMeaning (hierarchy_of ds) (meant ds scope p.annotation)) →
    (IsTrue is_new ↔ (IsGrounded (hierarchy_of ds) row → list_any (is_name p.name) (inherited_properties ds row) ≡ false)) →
    (earlier : List Taken) → is_free ≡ are_free earlier (a_value p.name ∷ []) → IsTrue fine ↔ IsFineProperty ds row scope earlier p
property_told ds row scope p is_free is_meant is_new fine e types fresh earlier free = (
  λ t.
      let all : (is_free && is_meant && is_new) ≡ true = sym e ∙ t in
      let two = first_of (is_free && is_meant) is_new all in
      record {
        free = sym free ∙ first_of is_free is_meant two;
        type_meant = (types.0 (second_of is_free is_meant two), tt);
        is_new = fresh.0 (second_of (is_free && is_meant) is_new all);
      },
  λ f. e ∙ both_of (is_free && is_meant) is_new (both_of is_free is_meant (free ∙ f.free) (types.1 f.type_meant.0)) (fresh.1 f.is_new),
)

-- a property that is asked for is new where it isn't found
pub new_if : (E : Type 0) (b found : Bool) → b ≡ found → E → IsTrue (not b) ↔ (E → found ≡ false)
new_if E true found same e = ((λ t. absurd (clash false t refl)), (λ f. absurd (clash found (sym same) (f e))))
new_if E false found same e = ((λ t _. sym same), (λ f. refl))
