-- What is taken from then on, and what was free.
use Rattle.std.specs.Prelude.{ℕ, Bool, true, false, List, [], ◌∷◌, ◌++◌, ◌+◌, ◌<◌, ◌||◌, ◌≡◌, get_or, length, map, not, refl, take, Result, Ok, Err, IfOk, OnOk}
use Rattle.std.specs.List.{flat_map, list_any}
use Rattle.std.proofs.Common.{ap, append-nil, append_assoc, sym, ◌∙◌, subst}
use Rattle.std.proofs.lemmas.List.{map-append, take_more}
use Rattle.std.proofs.lemmas.List.Concat.{flat_map-append}
use Rattle.std.proofs.lemmas.List.Folds.{list_any-append}
use Rattle.kt_base.specs.declared.errors.NoMemory.{NoMemory}
use Rattle.kt_decls_rules.specs.Names.{Taken, clash, clash_with_any, are_free}
use Rattle.kt_decls_members.specs.Known.{IsTakenBy}

turned : (a b : Bool) → (a || b) ≡ (b || (a || false))
turned true true = refl
turned true false = refl
turned false true = refl
turned false false = refl

alone : (a : Bool) → not a ≡ not (a || false)
alone true = refl
alone false = refl

module _ (old new : Taken → Bool) (u : Taken) where
  pub taken_on : (earlier : List Taken) → ((t : Taken) → new t ≡ (clash t u || old t)) → IsTakenBy old earlier → IsTakenBy new (earlier ++ u ∷ [])
  taken_on earlier next known t =
      next t
      ∙ (ap (λ b. clash t u || b) (known t)
      ∙ (turned (clash t u) (list_any (clash t) earlier) ∙ sym (list_any-append (clash t) earlier (u ∷ []))))

  pub is_free_if : (earlier : List Taken) (free : Bool) → free ≡ not (old u) → IsTakenBy old earlier → free ≡ are_free earlier (u ∷ [])
  is_free_if earlier free e known = e ∙ (ap not (known u) ∙ alone (clash_with_any earlier u))

  pub free_told : (r : Result Bool NoMemory) → IfOk r (λ free. free ≡ not (old u)) → IfOk r (λ free. (earlier : List Taken) → IsTakenBy old earlier → free ≡ are_free earlier (u ∷ []))
  free_told (Ok b) e = λ earlier known. is_free_if earlier b e known
  free_told (Err z) e = tt

  pub taken_told : (r : Result Bool NoMemory) → OnOk r ((t : Taken) → new t ≡ (clash t u || old t)) → OnOk r ((earlier : List Taken) → IsTakenBy old earlier → IsTakenBy new (earlier ++ u ∷ []))
  taken_told (Ok b) e = λ earlier known. taken_on earlier e known
  taken_told (Err z) e = tt

pub free_as : (old : Taken → Bool) (u v : Taken) → u ≡ v → (r : Result Bool NoMemory) → IfOk r (λ free. free ≡ not (old u)) → IfOk r (λ free. (earlier : List Taken) → IsTakenBy old earlier → free ≡ are_free earlier (v ∷ []))
free_as old u v same (Ok b) e = λ earlier known. subst (λ (w : Taken). b ≡ are_free earlier (w ∷ [])) same (is_free_if old old u earlier b e known)
free_as old u v same (Err z) e = tt

pub taken_as : (old new : Taken → Bool) (u v : Taken) → u ≡ v → (r : Result Bool NoMemory) → OnOk r ((t : Taken) → new t ≡ (clash t u || old t)) → OnOk r ((earlier : List Taken) → IsTakenBy old earlier → IsTakenBy new (earlier ++ v ∷ []))
taken_as old new u v same (Ok b) e = λ earlier known. subst (λ (w : Taken). IsTakenBy new (earlier ++ w ∷ [])) same (taken_on old new u earlier e known)
taken_as old new u v same (Err z) e = tt

-- one more list of names, behind those of a list of parts
pub more_taken : {A B : Type 0} (by : B → List Taken) (view : A → B) (earlier : List Taken) (xs : List A) (i : ℕ) (x : A) → i < length xs → x ≡ get_or xs i x → (earlier ++ flat_map by (map view (take i xs))) ++ by (view x) ≡ earlier ++ flat_map by (map view (take (i + 1) xs))
more_taken by view earlier xs i x less is =
    append_assoc earlier (flat_map by (map view (take i xs))) (by (view x))
    ∙ ap (λ ts. earlier ++ ts)
    (sym (ap (λ ys. flat_map by (map view ys)) (take_more xs i x less ∙ ap (λ y. take i xs ++ y ∷ []) (sym is))
    ∙ (ap (flat_map by) (map-append view (take i xs) (x ∷ []))
    ∙ (flat_map-append by (map view (take i xs)) (view x ∷ [])
    ∙ ap (λ ts. flat_map by (map view (take i xs)) ++ ts) (append-nil (by (view x)))))))
