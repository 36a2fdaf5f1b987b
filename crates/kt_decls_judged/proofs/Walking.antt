-- The declarations of a file are judged one behind the other.
use Rattle.std.specs.Prelude.{ℕ, Bool, true, false, List, [], ◌∷◌, ◌++◌, ◌+◌, ◌≡◌, ◌↔◌, Option, Some, None, IsTrue, is_some, length, map, refl, Result, Ok, Err, IfOk, OnOk}
use Rattle.std.proofs.lemmas.List.{length-map}
use Rattle.std.specs.List.{flat_map}
use Rattle.std.proofs.Common.{arith, ap, sym, ◌∙◌, subst, append_assoc, append-nil, length-append}
use Rattle.std.proofs.lemmas.List.Concat.{flat_map-append}
use Rattle.kt_base.specs.declared.errors.NoMemory.{NoMemory}
use Rattle.kt_base.specs.declared.refusals.Pos.{Pos}
use Rattle.kt_tree.specs.Declarations.{DeclarationTree, TypeParameterTree}
use Rattle.kt_types_builtins.specs.Throwables.{throwables}
use Rattle.kt_typed.specs.declared.headers.DeclaredTypeParameter.{DeclaredTypeParameter}
use Rattle.kt_decls_rules.specs.Names.{Taken, are_free, clash_with_any, taken_by}
use Rattle.kt_decls_rules.specs.Tables.{class_entry, numbered, row_count, scope_of, type_parameters_of}
use Rattle.kt_decls_rules.specs.ClassRules.{row_behind}
use Rattle.kt_decls_rules.specs.Headers.{Header, IsFine, declaration_place, headers, headers_from, headers_of_members, top}
use Rattle.kt_decls_classes.specs.Faults.{AreJudged}
use Rattle.kt_decls_classes.proofs.Faults.{no_header, fine_here, fault_here, fine_first, fault_first}
use Rattle.kt_decls_members.specs.Known.{IsTakenBy}
use Rattle.kt_decls_judged.specs.Walk.{IsFileWalk, headers_of}

clash : (b : Bool) → b ≡ true → b ≡ false → ⊥
clash true d e = absurd cc
clash false d e = absurd cc

-- One declaration.
module _ (ds : List DeclarationTree) (d : DeclarationTree) (scope : List DeclaredTypeParameter) (row first : ℕ) (is_free fine : Bool) (old : Taken → Bool)
    (free : (earlier : List Taken) → IsTakenBy old earlier → is_free ≡ are_free earlier (taken_by d))
    (told : (before : List DeclarationTree) → scope ≡ scope_of before d → row ≡ row_behind before → first ≡ row_count before → is_free ≡ are_free (flat_map taken_by before) (taken_by d) → IsTrue fine ↔ IsFine ds (top before d)) where
  pub not_fine : fine ≡ false → (p : Pos) → p ≡ declaration_place d → (before : List DeclarationTree) → scope ≡ scope_of before d → row ≡ row_behind before → first ≡ row_count before → IsTakenBy old (flat_map taken_by before) → AreJudged ds (headers_of before d) (Some p)
  not_fine off p at before same there count names =
      subst (λ (q : Pos). AreJudged ds (headers_of before d) (Some q)) (sym at)
      (fault_here ds (top before d) (headers_of_members before d)
      (λ is. clash fine ((told before same there count (free (flat_map taken_by before) names)).1 is) off))

  pub members_told : fine ≡ true → (r : Result (Option Pos) NoMemory) → IfOk r (λ place. (before : List DeclarationTree) → row ≡ row_behind before → scope ≡ scope_of before d → AreJudged ds (headers_of_members before d) place) → IfOk r (λ place. (before : List DeclarationTree) → scope ≡ scope_of before d → row ≡ row_behind before → first ≡ row_count before → IsTakenBy old (flat_map taken_by before) → AreJudged ds (headers_of before d) place)
  members_told on (Ok o) j = λ before same there count names.
      fine_here ds (top before d) (headers_of_members before d) o ((told before same there count (free (flat_map taken_by before) names)).0 on) (j before there same)
  members_told on (Err z) j = tt

rows_behind : (before : List DeclarationTree) (d : DeclarationTree) → row_behind (before ++ d ∷ []) ≡ row_behind before + length (class_entry d)
rows_behind before d =
    ap (λ (es : ℕ). length throwables + es)
    (ap length (flat_map-append class_entry before (d ∷ []))
    ∙ (length-append (flat_map class_entry before) (class_entry d ++ [])
    ∙ ap (λ es. length (flat_map class_entry before) + length es) (append-nil (class_entry d))))
    ∙ omega arith

rows_on : (before : List DeclarationTree) (d : DeclarationTree) → row_count (before ++ d ∷ []) ≡ row_count before + length (type_parameters_of d)
rows_on before d =
    ap length (flat_map-append type_parameters_of before (d ∷ []))
    ∙ (length-append (flat_map type_parameters_of before) (type_parameters_of d ++ [])
    ∙ ap (λ ps. row_count before + length ps) (append-nil (type_parameters_of d)))

taken_behind : (taken : Taken → Bool) (before : List DeclarationTree) (d : DeclarationTree) → IsTakenBy taken (flat_map taken_by before ++ taken_by d) → IsTakenBy taken (flat_map taken_by (before ++ d ∷ []))
taken_behind taken before d names =
    subst (IsTakenBy taken)
    (sym (flat_map-append taken_by before (d ∷ []) ∙ ap (λ ts. flat_map taken_by before ++ ts) (append-nil (taken_by d)))) names

module _ (ds : List DeclarationTree) where
  pub begun : (taken : Taken → Bool) (row : ℕ) → ((t : Taken) → taken t ≡ false) → row ≡ length throwables → IsFileWalk ds taken row 0 [] ds
  begun taken row free count = record {
    names = free;
    class_row = count ∙ omega arith;
    first_row = refl;
    judged = λ o j. j;
  }

  module _ (old : Taken → Bool) (row first : ℕ) (before rest : List DeclarationTree) (d : DeclarationTree) (w : IsFileWalk ds old row first before (d ∷ rest)) where
    -- the headers of a declaration stand before those behind it
    behind : headers_from before (d ∷ rest) ≡ headers_of before d ++ headers_from (before ++ d ∷ []) rest
    behind = refl

    pub goes_on : (new : Taken → Bool) (row_next next : ℕ) → AreJudged ds (headers_of before d) None → row_next ≡ row + length (class_entry d) → next ≡ first + length (type_parameters_of d) → IsTakenBy new (flat_map taken_by before ++ taken_by d) → IsFileWalk ds new row_next next (before ++ d ∷ []) rest
    goes_on new row_next next fine r n names = record {
      names = taken_behind new before d names;
      class_row = r ∙ (ap (λ (k : ℕ). k + length (class_entry d)) w.class_row ∙ sym (rows_behind before d));
      first_row = n ∙ (ap (λ (k : ℕ). k + length (type_parameters_of d)) w.first_row ∙ sym (rows_on before d));
      judged = λ o j. w.judged o (fine_first ds (headers_of before d) (headers_from (before ++ d ∷ []) rest) o fine j);
    }

    pub stops_here : (o : Option Pos) → is_some o ≡ true → AreJudged ds (headers_of before d) o → AreJudged ds (headers ds) o
    stops_here None there j = absurd cc
    stops_here (Some p) there j = w.judged (Some p) (fault_first ds (headers_of before d) (headers_from (before ++ d ∷ []) rest) p j)

  pub ended : (taken : Taken → Bool) (row first : ℕ) (before : List DeclarationTree) → IsFileWalk ds taken row first before [] → AreJudged ds (headers ds) None
  ended taken row first before w = w.judged None (no_header ds)

-- As calls meet it.

pub on_ok : {A P : Type 0} (r : Result A NoMemory) → P → OnOk r P
on_ok (Ok a) p = p
on_ok (Err e) p = tt

pub entries_told : (ds : List DeclarationTree) (d : DeclarationTree) (scope : List DeclaredTypeParameter) (row : ℕ) (r : Result (Option Pos) NoMemory) → IfOk r (λ place. (file before : List DeclarationTree) → AreJudged file (headers_of_members before d) place) → IfOk r (λ place. (before : List DeclarationTree) → row ≡ row_behind before → scope ≡ scope_of before d → AreJudged ds (headers_of_members before d) place)
entries_told ds d scope row (Ok place) j = λ before _ _. j ds before
entries_told ds d scope row (Err e) j = tt

pub in_scope : (before : List DeclarationTree) (d : DeclarationTree) (first : ℕ) (ps : List TypeParameterTree) (scope : List DeclaredTypeParameter) → scope ≡ numbered first ps → ps ≡ type_parameters_of d → first ≡ row_count before → scope ≡ scope_of before d
in_scope before d first ps scope e same count = e ∙ (λ i. numbered (count i) (same i))

pub long_enough : {A : Type 0} (d : DeclarationTree) (first next : ℕ) (xs : List A) (view : A → TypeParameterTree) → next ≡ first + length xs → map view xs ≡ type_parameters_of d → next ≡ first + length (type_parameters_of d)
long_enough d first next xs view e same = e ∙ ap (λ (n : ℕ). first + n) (sym (length-map xs view) ∙ ap length same)

none_there : (ds : List DeclarationTree) (hs : List Header) (o : Option Pos) → is_some o ≡ false → AreJudged ds hs o → AreJudged ds hs None
none_there ds hs None e j = j
none_there ds hs (Some p) e j = absurd cc

module _ (ds : List DeclarationTree) (old : Taken → Bool) (row first : ℕ) (before rest more : List DeclarationTree) (d : DeclarationTree) (e : rest ≡ d ∷ more) (w : IsFileWalk ds old row first before rest) (o : Option Pos) (judged : (b : List DeclarationTree) → row ≡ row_behind b → first ≡ row_count b → IsTakenBy old (flat_map taken_by b) → AreJudged ds (headers_of b d) o) (failed : Bool) (is : failed ≡ is_some o) where
  at_one : IsFileWalk ds old row first before (d ∷ more)
  at_one = subst (IsFileWalk ds old row first before) e w

  judged_here : AreJudged ds (headers_of before d) o
  judged_here = judged before at_one.class_row at_one.first_row at_one.names

  pub step_off : failed ≡ true → AreJudged ds (headers ds) o
  step_off on = stops_here ds old row first before more d at_one o (sym is ∙ on) judged_here

  pub step_on : failed ≡ false → (after : List DeclarationTree) → before ++ d ∷ [] ≡ after → (new : Taken → Bool) (row_next next : ℕ) → row_next ≡ row + length (class_entry d) → next ≡ first + length (type_parameters_of d) → ((b : List DeclarationTree) → IsTakenBy old (flat_map taken_by b) → IsTakenBy new (flat_map taken_by b ++ taken_by d)) → IsFileWalk ds new row_next next after more
  step_on off after passed new row_next next r n names =
      subst (λ (b : List DeclarationTree). IsFileWalk ds new row_next next b more) passed
      (goes_on ds old row first before more d at_one new row_next next (none_there ds (headers_of before d) o (sym is ∙ off) judged_here) r n (names before at_one.names))

pub at_end : (ds : List DeclarationTree) (taken : Taken → Bool) (row first : ℕ) (before rest : List DeclarationTree) → rest ≡ [] → IsFileWalk ds taken row first before rest → AreJudged ds (headers ds) None
at_end ds taken row first before rest e w = ended ds taken row first before (subst (IsFileWalk ds taken row first before) e w)
