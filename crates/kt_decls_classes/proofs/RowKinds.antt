-- How rows may be extended, by the file.
use Rattle.std.specs.Prelude.{ℕ, zero, suc, List, [], ◌∷◌, ◌++◌, ◌≡◌, Option, Some, None, map, slice_get, refl}
use Rattle.std.proofs.Common.{ap, sym, ◌∙◌}
use Rattle.kt_tree.specs.Declarations.{DeclarationTree, function, class, interface, enum, constant}
use Rattle.kt_types_tree.specs.Hierarchy.{SuperForm}
use Rattle.kt_types_builtins.specs.declared.throwables.BuiltInThrowable.{BuiltInThrowable}
use Rattle.kt_types_builtins.specs.Throwables.{throwables}
use Rattle.kt_decls_rules.specs.Tables.{Row, rows, rows_of, placed, placed_from, throwable_row}
use Rattle.kt_decls_rules.specs.ClassRules.{SuperKind, kind_of_placed, kind_of_row, kind_of_super}
use Rattle.kt_decls_classes.specs.declared.kinds.Extension.{Extension}
use Rattle.kt_decls_classes.specs.Kinds.{kind_seen, kinds_from, always_open, all_kinds, or_neither, named_kind}

kind_of_one : Row → SuperKind
kind_of_one r = kind_of_placed r.declaration

throwable_kinds : (ts : List BuiltInThrowable) (rs : List Row) → map kind_of_one (map throwable_row ts ++ rs) ≡ map always_open ts ++ map kind_of_one rs
unfolding kind_of_one always_open
throwable_kinds [] rs = refl
throwable_kinds (t ∷ ts) rs = ap (λ ks. always_open t ∷ ks) (throwable_kinds ts rs)

file_kinds : (ds before rest : List DeclarationTree) → map kind_of_one (rows_of ds (placed_from before rest)) ≡ kinds_from rest
unfolding kind_of_one
file_kinds ds before [] = refl
file_kinds ds before (function f ∷ rest) = file_kinds ds (before ++ function f ∷ []) rest
file_kinds ds before (constant c ∷ rest) = file_kinds ds (before ++ constant c ∷ []) rest
file_kinds ds before (class c ∷ rest) = ap (λ ks. kind_of_placed (Some (record { before = before; declaration = class c })) ∷ ks) (file_kinds ds (before ++ class c ∷ []) rest)
file_kinds ds before (interface c ∷ rest) = ap (λ ks. kind_of_placed (Some (record { before = before; declaration = interface c })) ∷ ks) (file_kinds ds (before ++ interface c ∷ []) rest)
file_kinds ds before (enum c ∷ rest) = ap (λ ks. kind_of_placed (Some (record { before = before; declaration = enum c })) ∷ ks) (file_kinds ds (before ++ enum c ∷ []) rest)

rows_kinds : (ds : List DeclarationTree) → map kind_of_one (rows ds) ≡ all_kinds ds
rows_kinds ds = throwable_kinds throwables (rows_of ds (placed ds)) ∙ ap (λ ks. map always_open throwables ++ ks) (file_kinds ds [] ds)

at_row : (rs : List Row) (row : ℕ) → or_neither (slice_get (map kind_of_one rs) row) ≡ kind_of_row (slice_get rs row)
unfolding kind_of_one
at_row [] row = refl
at_row (r ∷ rs) zero = refl
at_row (r ∷ rs) (suc row) = at_row rs row

pub known_kind : (ds : List DeclarationTree) (ks : List Extension) → map kind_seen ks ≡ all_kinds ds → (o : Option SuperForm) → named_kind ks o ≡ kind_of_super ds o
known_kind ds ks e None = refl
known_kind ds ks e (Some s) = ap (λ all. or_neither (slice_get all s.class)) (e ∙ sym (rows_kinds ds)) ∙ at_row (rows ds) s.class
