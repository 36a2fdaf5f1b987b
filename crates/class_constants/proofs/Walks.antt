-- Parameters one by one.
use Rattle.std.proofs.Common.{◌≡◌, ℕ, zero, suc, ◌+◌, ◌-◌, ◌<◌, List, [], ◌∷◌, ◌++◌, length, map, Option, Some, None}
use Rattle.std.proofs.Common.{refl, sym, ap, ◌∙◌, append_assoc, arith}
use Rattle.std.proofs.lemmas.List.{append-nil}
use Rattle.jvm_pool.specs.declared.descriptors.FieldType.{FieldType}
use Rattle.jvm_class_grammar.specs.Kinds.{types_before_close, parameters}
use Rattle.jvm_class_start.specs.Arguments.{behind_first, next_type}
use Rattle.jvm_class_start.proofs.Walks.{types_step, types_end, types_none, parameters_are}
use Rattle.class_constants.specs.Kinds.{behind_types, behind_parameters}

module _ {B : Type 0} (f : FieldType → B) where
  pub kinds_started : (n : ℕ) (d start : List ℕ) → start ≡ behind_first d → n ≡ length start
      → map f (types_before_close (n - 0) start) ≡ map f (parameters d)
  kinds_started n d start is len =
      ap (λ (m : ℕ). map f (types_before_close m start)) (omega (arith, len))
      ∙ ap (λ (l : List ℕ). map f (types_before_close (length l) l)) is
      ∙ ap (map f) (sym (parameters_are d))

  pub kinds_further : (n i : ℕ) (kinds : List B) (bytes rest : List ℕ) (t : FieldType) (all : List B) → i < n
      → next_type bytes ≡ Some (t, rest) → kinds ++ map f (types_before_close (n - i) bytes) ≡ all
      → (kinds ++ f t ∷ []) ++ map f (types_before_close (n - (i + 1)) rest) ≡ all
  kinds_further n i kinds bytes rest t all lt next so_far =
      let left : n - i ≡ suc (n - (i + 1)) = omega (arith, lt) in
      append_assoc kinds (f t ∷ []) (map f (types_before_close (n - (i + 1)) rest))
      ∙ ap (λ (l : List FieldType). kinds ++ map f l) (sym (types_step (n - (i + 1)) bytes rest t next))
      ∙ ap (λ (m : ℕ). kinds ++ map f (types_before_close m bytes)) (sym left) ∙ so_far

  pub kinds_ended : (n : ℕ) (kinds : List B) (bytes : List ℕ) (all : List B) → next_type bytes ≡ None
      → kinds ++ map f (types_before_close n bytes) ≡ all → kinds ≡ all
  kinds_ended n kinds bytes all next so_far =
      sym (append-nil kinds) ∙ ap (λ (l : List FieldType). kinds ++ map f l) (sym (types_end n bytes next)) ∙ so_far

  pub kinds_all : (n : ℕ) (kinds : List B) (bytes : List ℕ) (all : List B) → n ≡ 0
      → kinds ++ map f (types_before_close n bytes) ≡ all → kinds ≡ all
  kinds_all n kinds bytes all none so_far =
      sym (append-nil kinds) ∙ ap (λ (l : List FieldType). kinds ++ map f l) (sym (types_none n bytes none)) ∙ so_far

-- ---- what stands behind them

pub behind_started : (n : ℕ) (d start : List ℕ) → start ≡ behind_first d → n ≡ length start
    → behind_types (n - 0) start ≡ behind_parameters d
behind_started n d start is len =
    ap (λ (m : ℕ). behind_types m start) (omega (arith, len)) ∙ ap (λ (l : List ℕ). behind_types (length l) l) is

some_is : (x y : FieldType × List ℕ) → Some x ≡ Some y → x ≡ y
some_is x y h = cc

one_found : (o : Option (FieldType × List ℕ)) (n : ℕ) (bytes rest : List ℕ) (t : FieldType) → o ≡ Some (t, rest)
    → elim o [ None ↦ bytes | Some found ↦ behind_types n found.1 ] ≡ behind_types n rest
one_found None n bytes rest t e = absurd cc
one_found (Some x) n bytes rest t e = ap (λ (y : FieldType × List ℕ). behind_types n y.1) (some_is x (t, rest) e)

none_found : (o : Option (FieldType × List ℕ)) (n : ℕ) (bytes : List ℕ) → o ≡ None
    → elim o [ None ↦ bytes | Some found ↦ behind_types n found.1 ] ≡ bytes
none_found None n bytes e = refl
none_found (Some x) n bytes e = absurd cc

one_type : (n : ℕ) (bytes rest : List ℕ) (t : FieldType) → next_type bytes ≡ Some (t, rest)
    → behind_types (suc n) bytes ≡ behind_types n rest
unfolding behind_types
one_type n bytes rest t next = one_found (next_type bytes) n bytes rest t next

pub behind_further : (n i : ℕ) (bytes rest : List ℕ) (t : FieldType) (all : List ℕ) → i < n
    → next_type bytes ≡ Some (t, rest) → behind_types (n - i) bytes ≡ all → behind_types (n - (i + 1)) rest ≡ all
behind_further n i bytes rest t all lt next so_far =
    let left : n - i ≡ suc (n - (i + 1)) = omega (arith, lt) in
    sym (one_type (n - (i + 1)) bytes rest t next) ∙ ap (λ (m : ℕ). behind_types m bytes) (sym left) ∙ so_far

pub behind_ended : (n : ℕ) (bytes all : List ℕ) → next_type bytes ≡ None → behind_types n bytes ≡ all → bytes ≡ all
unfolding behind_types
behind_ended zero bytes all next so_far = so_far
behind_ended (suc n) bytes all next so_far = sym (none_found (next_type bytes) n bytes next) ∙ so_far

pub behind_all : (n : ℕ) (bytes all : List ℕ) → n ≡ 0 → behind_types n bytes ≡ all → bytes ≡ all
unfolding behind_types
behind_all zero bytes all none so_far = so_far
behind_all (suc n) bytes all none so_far = absurd (omega (arith, none))
