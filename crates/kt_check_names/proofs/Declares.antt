-- A further local.
use Rattle.std.proofs.Common.{ℕ, List, [], ◌∷◌, ◌++◌, ◌≡◌, refl, ap, map, length}
use Rattle.kt_types_tree.specs.Types.{type_form}
use Rattle.kt_typed.specs.declared.operators.LocalKind.{LocalKind}
use Rattle.kt_typed.specs.declared.operators.TypedLocal.{TypedLocal}
use Rattle.kt_typed.specs.Operators.{local_form}
use Rattle.kt_check_rules.specs.States.{Named, declaring}
use Rattle.kt_check_names.specs.declared.known.Known.{Known}
use Rattle.kt_check_names.specs.declared.scopes.NamedLocal.{NamedLocal}
use Rattle.kt_check_names.specs.Views.{scope_in, declared_in, state_of}
use Rattle.kt_check_names.proofs.InScopes.{one_more, one_declared}

map_one : {A B : Type 0} (f : A → B) (xs : List A) (x : A) → map f (xs ++ x ∷ []) ≡ map f xs ++ f x ∷ []
map_one f [] x = refl
map_one f (y ∷ xs) x = ap (◌∷◌ (f y)) (map_one f xs x)

length_map : {A B : Type 0} (f : A → B) (xs : List A) → length (map f xs) ≡ length xs
length_map f [] = refl
length_map f (x ∷ xs) = rw (length_map f xs) refl

pub declares : (ls new : List NamedLocal) (l : NamedLocal) (k : Known) (locals : List TypedLocal) (t : TypedLocal)
    (x : List ℕ) (outer : List Named) (outside : ℕ) → new ≡ ls ++ l ∷ [] → locals ≡ k.locals ++ t ∷ [] →
    l.name ≡ x → t.name ≡ x → l.number ≡ length k.locals →
    state_of (scope_in new outer) (declared_in new []) outside
    (record { facts = k.facts; locals = locals; breaks = k.breaks; continues = k.continues })
    ≡ declaring x t.kind (type_form t.declared) (state_of (scope_in ls outer) (declared_in ls []) outside k)
declares ls new l k locals t x outer outside e f p q n =
    rw (
      e,
      f,
      one_more ls l outer,
      one_declared ls l [],
      map_one local_form k.locals t,
      p,
      q,
      n,
      length_map local_form k.locals,
    ) refl
