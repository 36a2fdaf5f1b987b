-- A declaration obeys the rules of all declarations where the tests say so.
use Rattle.std.specs.Prelude.{ℕ, Bool, true, false, List, ◌&&◌, ◌≡◌, ◌↔◌, IsTrue, map, not, refl, Result, Ok, Err, IfOk}
use Rattle.std.specs.List.{flat_map}
use Rattle.std.proofs.Common.{ap, sym, ◌∙◌, subst}
use Rattle.kt_base.specs.declared.errors.NoMemory.{NoMemory}
use Rattle.kt_tree.specs.Declarations.{DeclarationTree, function, class, interface, enum, constant}
use Rattle.kt_typed.specs.declared.headers.DeclaredTypeParameter.{DeclaredTypeParameter}
use Rattle.kt_decls_rules.specs.Names.{are_free, are_distinct, is_reserved, taken_by}
use Rattle.kt_decls_rules.specs.Tables.{hierarchy_of, row_count, scope_of, type_parameters_of}
use Rattle.kt_decls_rules.specs.Rules.{DoBoundsEnd, IsFineDeclaration, parameter_names, top_name}
use Rattle.kt_decls_rules.specs.ClassRules.{row_behind}
use Rattle.kt_decls_rules.specs.Headers.{IsFine, IsFineKind, top}
use Rattle.kt_decls_tops.specs.Parts.{AreHeaderTypesMeant, IsFineKindIn, are_names_fine}

clash : (b : Bool) → b ≡ true → b ≡ false → ⊥
clash true d e = absurd cc
clash false d e = absurd cc

first_of : (a b : Bool) → (a && b) ≡ true → a ≡ true
first_of true b e = refl
first_of false b e = absurd cc

second_of : (a b : Bool) → (a && b) ≡ true → b ≡ true
second_of true b e = e
second_of false b e = absurd cc

both_of : (a b : Bool) → a ≡ true → b ≡ true → (a && b) ≡ true
both_of true b d e = e
both_of false b d e = absurd cc

isn't : (b : Bool) → not b ≡ true → b ≡ false
isn't true e = absurd cc
isn't false e = refl

module _ (ds before : List DeclarationTree) (d : DeclarationTree) (is_free named : Bool) (free : is_free ≡ are_free (flat_map taken_by before) (taken_by d)) (names : named ≡ are_names_fine d is_free) where
  names_told : IsFineDeclaration ds before d → named ≡ true
  names_told f =
      names
      ∙ both_of (not (is_reserved (top_name d)) && is_free) _
      (both_of (not (is_reserved (top_name d))) is_free (ap not f.not_reserved) (free ∙ f.free))
      (both_of (are_distinct (map (λ p. p.name) (type_parameters_of d))) (are_distinct (parameter_names d)) f.distinct_type_parameters f.distinct_parameters)

  pub not_named : named ≡ false → IsTrue false ↔ IsFineDeclaration ds before d
  not_named off = ((λ t. absurd (clash false t refl)), (λ f. absurd (clash named (names_told f) off)))

  module _ (scope : List DeclaredTypeParameter) (same : scope ≡ scope_of before d) (meant : Bool) (types : IsTrue meant ↔ AreHeaderTypesMeant ds scope d) where
    in_scope : IsTrue meant ↔ AreHeaderTypesMeant ds (scope_of before d) d
    in_scope = subst (λ (s : List DeclaredTypeParameter). IsTrue meant ↔ AreHeaderTypesMeant ds s d) same types

    pub not_meant : meant ≡ false → IsTrue false ↔ IsFineDeclaration ds before d
    not_meant off = ((λ t. absurd (clash false t refl)), (λ f. absurd (clash meant (in_scope.1 (f.bounds_meant, f.types_meant)) off)))

    whole : named ≡ true → meant ≡ true → DoBoundsEnd (hierarchy_of ds) (row_count before) (type_parameters_of d) → IsFineDeclaration ds before d
    whole n m b =
        let all : are_names_fine d is_free ≡ true = sym names ∙ n in
        let one = first_of (not (is_reserved (top_name d)) && is_free) _ all in
        let two = second_of (not (is_reserved (top_name d)) && is_free) _ all in
        let types = in_scope.0 m in
        record {
          not_reserved = isn't (is_reserved (top_name d)) (first_of (not (is_reserved (top_name d))) is_free one);
          free = sym free ∙ second_of (not (is_reserved (top_name d))) is_free one;
          distinct_type_parameters = first_of (are_distinct (map (λ p. p.name) (type_parameters_of d))) (are_distinct (parameter_names d)) two;
          distinct_parameters = second_of (are_distinct (map (λ p. p.name) (type_parameters_of d))) (are_distinct (parameter_names d)) two;
          bounds_meant = types.0;
          types_meant = types.1;
          bounds_end = b;
        }

    pub ends_told : named ≡ true → meant ≡ true → (first : ℕ) → first ≡ row_count before → (b : Bool) → (IsTrue b ↔ DoBoundsEnd (hierarchy_of ds) first (type_parameters_of d)) → IsTrue b ↔ IsFineDeclaration ds before d
    ends_told n m first row b told =
        let there = subst (λ (k : ℕ). IsTrue b ↔ DoBoundsEnd (hierarchy_of ds) k (type_parameters_of d)) row told in
        ((λ t. whole n m (there.0 t)), (λ f. there.1 f.bounds_end))

-- the same of an answer
pub all_told :
    (ds : List DeclarationTree) (d : DeclarationTree) (is_free named meant : Bool) (scope : List DeclaredTypeParameter) (first : ℕ) →
    named ≡ are_names_fine d is_free → (IsTrue meant ↔ AreHeaderTypesMeant ds scope d) → named ≡ true → meant ≡ true →
    (r : Result Bool NoMemory) → IfOk r (λ b. IsTrue b ↔ DoBoundsEnd (hierarchy_of ds) first (type_parameters_of d)) →
    IfOk r (λ b. (before : List DeclarationTree) → scope ≡ scope_of before d → first ≡ row_count before → is_free ≡ are_free (flat_map taken_by before) (taken_by d) → IsTrue b ↔ IsFineDeclaration ds before d)
all_told ds d is_free named meant scope first names types n m (Ok b) told =
    λ before same row free. ends_told ds before d is_free named free names scope same meant types n m first row b told
all_told ds d is_free named meant scope first names types n m (Err z) told = tt

-- the rules of a kind, where a declaration stands
kind_there : (ds before : List DeclarationTree) (d : DeclarationTree) → IsFineKindIn ds (row_behind before) (scope_of before d) d ↔ IsFineKind ds before d
kind_there ds before (function f) = ((λ k. k), (λ k. k))
kind_there ds before (class c) = ((λ k. k), (λ k. k))
kind_there ds before (interface i) = ((λ k. k), (λ k. k))
kind_there ds before (enum e) = ((λ k. k), (λ k. k))
kind_there ds before (constant c) = ((λ k. k), (λ k. k))

module _ (ds before : List DeclarationTree) (d : DeclarationTree) (fine : Bool) (told : IsTrue fine ↔ IsFineDeclaration ds before d) where
  pub not_fine : fine ≡ false → IsTrue false ↔ IsFine ds (top before d)
  not_fine off = ((λ t. absurd (clash false t refl)), (λ f. absurd (clash fine (told.1 f.0) off)))

  pub kind_told : fine ≡ true → (scope : List DeclaredTypeParameter) (row : ℕ) → scope ≡ scope_of before d → row ≡ row_behind before → (b : Bool) → (IsTrue b ↔ IsFineKindIn ds row scope d) → IsTrue b ↔ IsFine ds (top before d)
  kind_told on scope row same where_ b kind =
      let there : IsTrue b ↔ IsFineKindIn ds (row_behind before) (scope_of before d) d =
      subst (λ (s : List DeclaredTypeParameter). IsTrue b ↔ IsFineKindIn ds (row_behind before) s d) same
      (subst (λ (k : ℕ). IsTrue b ↔ IsFineKindIn ds k scope d) where_ kind) in
      ((λ t. (told.0 on, (kind_there ds before d).0 (there.0 t))), (λ f. there.1 ((kind_there ds before d).1 f.1)))

pub top_told :
    (ds : List DeclarationTree) (d : DeclarationTree) (is_free fine : Bool) (scope : List DeclaredTypeParameter) (row first : ℕ) →
    ((before : List DeclarationTree) → scope ≡ scope_of before d → first ≡ row_count before → is_free ≡ are_free (flat_map taken_by before) (taken_by d) → IsTrue fine ↔ IsFineDeclaration ds before d) →
    fine ≡ true → (r : Result Bool NoMemory) → IfOk r (λ b. IsTrue b ↔ IsFineKindIn ds row scope d) →
    IfOk r (λ b. (before : List DeclarationTree) → scope ≡ scope_of before d → row ≡ row_behind before → first ≡ row_count before → is_free ≡ are_free (flat_map taken_by before) (taken_by d) → IsTrue b ↔ IsFine ds (top before d))
top_told ds d is_free fine scope row first told on (Ok b) kind =
    λ before same there count free. kind_told ds before d fine (told before same count free) on scope row same there b kind
top_told ds d is_free fine scope row first told on (Err z) kind = tt
