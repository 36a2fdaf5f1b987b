-- What is left to mean, behind what is done.
use Rattle.std.specs.Prelude.{List, [], ◌∷◌, ◌++◌, ◌≡◌, Option, Some, None, refl}
use Rattle.std.proofs.Common.{ap, sym, ◌∙◌}
use Rattle.std.proofs.lemmas.List.{append_assoc, append-nil}
use Rattle.kt_decls_types.specs.References.{then_on}
use Rattle.kt_decls_table.specs.Meanings.{first_then, all_meant, behind}

grouped : {B : Type 0} (done : List B) (y : B) (o : Option (List B)) → behind done (first_then y o) ≡ behind (done ++ y ∷ []) o
grouped done y None = refl
grouped done y (Some ys) = ap Some (sym (append_assoc done (y ∷ []) ys))

pub one_more : {A B : Type 0} (f : A → Option B) (done : List B) (x : A) (xs : List A) (y : B) → f x ≡ Some y → behind done (all_meant f (x ∷ xs)) ≡ behind (done ++ y ∷ []) (all_meant f xs)
one_more f done x xs y e = ap (λ o. behind done (then_on o (λ z. first_then z (all_meant f xs)))) e ∙ grouped done y (all_meant f xs)

pub no_more : {A B : Type 0} (f : A → Option B) (done : List B) (x : A) (xs : List A) → f x ≡ None → behind done (all_meant f (x ∷ xs)) ≡ None
no_more f done x xs e = ap (λ o. behind done (then_on o (λ z. first_then z (all_meant f xs)))) e

pub all_done : {B : Type 0} (done : List B) → behind done (Some []) ≡ Some done
all_done done = ap Some (append-nil done)
