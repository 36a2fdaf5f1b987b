-- A turn of a loop, and a turn of a list with commas.
use Rattle.std.proofs.Common.{◌≡◌, ◌≢◌, Result, IsErr, IsErrAnd, ℕ, suc, ◌+◌, ◌-◌, ◌<◌, ◌≤◌, Bool, List, [], ◌∷◌, ◌++◌, Some, None, Ok, Err, map, refl, ap, sym, subst, ◌∙◌, arith, inl, inr, ◌⊎◌}
use Rattle.kt_grammar_parsers.specs.Parsers.{Cursor, Parser, Outcome, further, loop, repeat, ◌>>=◌, token, comma_turn, comma_list, maybe_comma_list}
use Rattle.kt_parser_steps.specs.Cursors.{Turned}
use Rattle.kt_parser_steps.specs.declared.error.ParseError.{ParseError}
use Rattle.kt_parser_steps.specs.declared.error.ParseError.TheVariants as parse_error
use Rattle.std.proofs.lemmas.List.{map-append}
use Rattle.kt_parser_steps.specs.Steps.{ReadsAs, turn_tree}
use Rattle.kt_parser_steps.specs.declared.loops.Turn.{Turn}
use Rattle.kt_parser_steps.specs.declared.loops.Turn.TheVariants as turns
use Rattle.kt_parser_steps.proofs.Turns.{on_taken, on_missed}

module _ {T S B : Type 0} (turn : S → Parser T (S ⊎ B)) (n at : ℕ) (some : at < n) (x : S) (c : Cursor T) where
  left : n - at ≡ suc (n - (at + 1))
  left = omega (arith, some)

  one : loop turn (n - at) x c ≡ loop turn (suc (n - (at + 1))) x c
  one = ap (λ (k : ℕ). loop turn k x c) left

  pub loop_goes : (y : S) (c' : Cursor T) → turn x c ≡ Ok (inl y, c') → loop turn (n - at) x c ≡ loop turn (n - (at + 1)) y c'
  unfolding loop
  loop_goes y c' e = one ∙ rw e refl

  pub loop_ends : (b : B) (c' : Cursor T) → turn x c ≡ Ok (inr b, c') → loop turn (n - at) x c ≡ Ok (b, c')
  unfolding loop
  loop_ends b c' e = one ∙ rw e refl

  pub loop_fails : (k : List T) → turn x c ≡ Err k → loop turn (n - at) x c ≡ Err k
  unfolding loop
  loop_fails k e = one ∙ rw e refl

pub loop_spent : {T S B : Type 0} (turn : S → Parser T (S ⊎ B)) (n at : ℕ) → n ≤ at → (x : S) (c : Cursor T) → loop turn (n - at) x c ≡ Err (further c.rest c.far)
unfolding loop
loop_spent turn n at done x c = let none : n - at ≡ 0 = omega (arith, done) in ap (λ (k : ℕ). loop turn k x c) none

module _ {T A : Type 0} (comma close : T → Bool) (item : Parser T A) (xs : List A) (c c1 : Cursor T) where
  pub comma_goes : (t : T) → Turned comma c (Some t) c1 → (x : A) (c2 : Cursor T) → item c1 ≡ Ok (x, c2) → (ys : List A) → ys ≡ xs ++ x ∷ [] → comma_turn comma close item xs c ≡ Ok (inl ys, c2)
  comma_goes t h x c2 e ys more = on_taken comma c _ _ t c1 h ∙ rw e (ap (λ (z : List A). Ok (inl z, c2)) (sym more))

  pub comma_fails : (t : T) → Turned comma c (Some t) c1 → (k : List T) → item c1 ≡ Err k → comma_turn comma close item xs c ≡ Err k
  comma_fails t h k e = on_taken comma c _ _ t c1 h ∙ rw e refl

  pub close_ends : Turned comma c None c1 → (t : T) (c2 : Cursor T) → token close c1 ≡ Ok (t, c2) → comma_turn comma close item xs c ≡ Ok (inr xs, c2)
  close_ends h t c2 e = on_missed comma c _ _ c1 h ∙ rw e refl

  pub close_fails : Turned comma c None c1 → (k : List T) → token close c1 ≡ Err k → comma_turn comma close item xs c ≡ Err k
  close_fails h k e = on_missed comma c _ _ c1 h ∙ rw e refl

-- the exit of a `?`
pub refused : {T A B : Type 0} (tree : A → B) (outcome : Outcome T B) (x : ParseError) (new : Cursor T) → (x ≢ parse_error.NoMemory → outcome ≡ Err new.far)
    → (r : Result A ParseError) → IsErr r × IsErrAnd r (λ e. e ≡ x) → ReadsAs tree outcome r new
refused tree outcome x new h (Ok a) i = absurd (cc)
refused tree outcome x new h (Err e) i = λ some. h (λ z. some (i.1 ∙ z))

-- the exit of a `?` behind a step that takes no memory
pub stopped : {T A B : Type 0} (tree : A → B) (outcome : Outcome T B) (new : Cursor T) → outcome ≡ Err new.far → (r : Result A ParseError) → IsErr r → ReadsAs tree outcome r new
stopped tree outcome new h (Ok a) i = absurd (cc)
stopped tree outcome new h (Err e) i = λ some. h

-- a turn of the code is one of the parser's
module _ {T S B X Y : Type 0} (state : S → X) (outcome : B → Y) (t : X → Parser T (X ⊎ Y)) (n at : ℕ) (some : at < n) (x : X) (c c' : Cursor T)
    (found : Turn S B) (e : t x c ≡ Ok (turn_tree state outcome found, c')) where
  pub turn_goes : (s : S) → found ≡ turns.More s → loop t (n - at) x c ≡ loop t (n - (at + 1)) (state s) c'
  turn_goes s is = loop_goes t n at some x c (state s) c' (e ∙ ap (λ (z : Turn S B). Ok (turn_tree state outcome z, c')) is)

  pub turn_ends : (b : B) → found ≡ turns.Done b → loop t (n - at) x c ≡ Ok (outcome b, c')
  turn_ends b is = loop_ends t n at some x c (outcome b) c' (e ∙ ap (λ (z : Turn S B). Ok (turn_tree state outcome z, c')) is)

-- an item more, as the trees see it
pub pushed : {A B : Type 0} (tree : A → B) (xs : List A) (x : A) (ys : List A) → ys ≡ xs ++ x ∷ [] → map tree ys ≡ map tree xs ++ tree x ∷ []
pushed tree xs x ys more = ap (map tree) more ∙ map-append tree xs (x ∷ [])

-- a list goes on from its first item
pub first_listed : {T A B : Type 0} (tree : A → B) (item : Parser T B) (t : List B → Parser T (List B ⊎ List B)) (c c' : Cursor T) (x : A) → item c ≡ Ok (tree x, c')
    → (none : List A) → none ≡ [] → (xs : List A) → xs ≡ none ++ x ∷ []
    → (r : Result (List A) ParseError) (new : Cursor T) → ReadsAs (map tree) (repeat t (map tree xs) c') r new → ReadsAs (map tree) ((item >>= (λ y. repeat t (y ∷ []))) c) r new
first_listed tree item t c c' x e none empty xs more r new h =
    let one : map tree xs ≡ tree x ∷ [] = ap (map tree) (more ∙ ap (λ (z : List _). z ++ x ∷ []) empty) in
    let listed : (item >>= (λ y. repeat t (y ∷ []))) c ≡ repeat t (map tree xs) c' = rw e (ap (λ (z : List _). repeat t z c') (sym one)) in
    subst (λ (z : Outcome _ _). ReadsAs (map tree) z r new) (sym listed) h

-- a list that may be empty
module _ {T A B : Type 0} (tree : A → B) (comma close : T → Bool) (item : Parser T B) (c c' : Cursor T) where
  pub none_listed : (t : T) → Turned close c (Some t) c' → (xs : List A) → xs ≡ [] → maybe_comma_list comma close item c ≡ Ok (map tree xs, c')
  none_listed t h xs e = on_taken close c _ _ t c' h ∙ ap (λ (z : List A). Ok (map tree z, c')) (sym e)

  pub some_listed : Turned close c None c' → (r : Result (List A) ParseError) (new : Cursor T) → ReadsAs (map tree) (comma_list comma close item c') r new → ReadsAs (map tree) (maybe_comma_list comma close item c) r new
  some_listed h r new e = subst (λ (z : Outcome T (List B)). ReadsAs (map tree) z r new) (sym (on_missed close c _ _ c' h)) e
