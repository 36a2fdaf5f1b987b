-- A turn of a list between separators.
use Rattle.std.proofs.Common.{◌≡◌, ℕ, zero, suc, Bool, List, [], ◌∷◌, ◌++◌, Some, None, Result, Ok, Err, map, refl, ap, sym, subst, ◌∙◌, length, inl, inr, ◌⊎◌}
use Rattle.kt_tree.specs.declared.tokens.Token.{Token}
use Rattle.kt_base.specs.declared.refusals.Pos.{Pos}
use Rattle.kt_parser_steps.specs.declared.error.ParseError.{ParseError}
use Rattle.kt_grammar_parsers.specs.Parsers.{Cursor, Outcome, Parser, skip, ahead, and_then, again, loop, repeat, pure, ◌>>=◌, ◌>>◌, gap, item_turn, items}
use Rattle.kt_parser_steps.specs.Cursors.{Turned}
use Rattle.kt_parser_steps.proofs.Turns.{on_taken, on_missed}
use Rattle.kt_parser_steps.specs.Steps.{ReadsAs, given, ended, place_of}

-- ---- the gap

module _ {T : Type 0} (separator close : T → Bool) (c c1 c2 : Cursor T) where
  pub gap_taken : (t : T) → Turned separator c (Some t) c1 → skip separator c1 ≡ Ok (tt, c2) → gap separator close c ≡ Ok (tt, c2)
  gap_taken t h e = on_taken separator c _ _ t c1 h ∙ e

  pub gap_closed : Turned separator c None c1 → ahead close c1 ≡ Ok (tt, c2) → gap separator close c ≡ Ok (tt, c2)
  gap_closed h e = on_missed separator c _ _ c1 h ∙ e

  pub gap_missed : Turned separator c None c1 → ahead close c1 ≡ Err c2.far → gap separator close c ≡ Err c2.far
  gap_missed h e = on_missed separator c _ _ c1 h ∙ e

-- ---- a turn

module _ {A : Type 0} (separator close : Token → Bool) (item : Parser Token A) (xs : List A) (c c1 : Cursor Token) where
  pub close_taken : (t : Token) → Turned close c (Some t) c1 → given (ended place_of) (item_turn separator close item xs) c ≡ Ok (inr (xs, t.pos), c1)
  close_taken t h =
      let closed : item_turn separator close item xs c ≡ Ok (inr (xs, t), c1) = on_taken close c _ _ t c1 h in
      rw closed refl

  module _ (missed : Turned close c None c1) where
    passed : item_turn separator close item xs c ≡ (item >>= (λ x. gap separator close >> pure (inl (xs ++ x ∷ [])))) c1
    passed = on_missed close c _ _ c1 missed

    pub item_fails : (k : List Token) → item c1 ≡ Err k → given (ended place_of) (item_turn separator close item xs) c ≡ Err k
    item_fails k e = rw passed (rw e refl)

    module _ (x : A) (c2 : Cursor Token) (e : item c1 ≡ Ok (x, c2)) where
      pub gap_fails : (k : List Token) → gap separator close c2 ≡ Err k → given (ended place_of) (item_turn separator close item xs) c ≡ Err k
      gap_fails k f = rw passed (rw e (rw f refl))

      pub item_goes : (c3 : Cursor Token) → gap separator close c2 ≡ Ok (tt, c3) → (ys : List A) → ys ≡ xs ++ x ∷ [] → given (ended place_of) (item_turn separator close item xs) c ≡ Ok (inl ys, c3)
      item_goes c3 f ys more = rw passed (rw e (rw f (ap (λ (z : List A). Ok (inl z, c3)) (sym more))))

-- ---- a loop, seen as something else

module _ {T S B C : Type 0} (f : B → C) (t : S → Parser T (S ⊎ B)) where
  abbrev seen : S → Parser T (S ⊎ C)
  seen x = given (ended f) (t x)

  turn_given : (n : ℕ) → ((y : S) (c : Cursor T) → loop seen n y c ≡ given f (loop t n y) c) → (z : S ⊎ B) (c : Cursor T)
      → again (loop seen n) (ended f z) c ≡ given f (again (loop t n) z) c
  turn_given n ih (inl y) c = ih y c
  turn_given n ih (inr b) c = refl

  step_given : (n : ℕ) → ((y : S) (c : Cursor T) → loop seen n y c ≡ given f (loop t n y) c) → (o : Outcome T (S ⊎ B))
      → and_then (and_then o (λ z. λ c. Ok (ended f z, c))) (again (loop seen n)) ≡ and_then (and_then o (again (loop t n))) (λ b. λ c. Ok (f b, c))
  step_given n ih (Ok x) = turn_given n ih x.0 x.1
  step_given n ih (Err k) = refl

  pub loop_given : (n : ℕ) (x : S) (c : Cursor T) → loop seen n x c ≡ given f (loop t n x) c
  unfolding loop
  loop_given zero x c = refl
  loop_given (suc n) x c = step_given n (loop_given n) (t x c)

-- the whole list
pub items_listed : {A B : Type 0} (tree : A → B) (separator close : Token → Bool) (item : Parser Token B) (c c1 : Cursor Token) → skip separator c ≡ Ok (tt, c1) → (none : List A) → none ≡ []
    → (r : Result (List A × Pos) ParseError) (new : Cursor Token)
    → ReadsAs (λ list. (map tree list.0, list.1)) (repeat (λ xs. given (ended place_of) (item_turn separator close item xs)) (map tree none) c1) r new
    → ReadsAs (λ list. (map tree list.0, list.1)) (given place_of (items separator close item) c) r new
items_listed tree separator close item c c1 skipped none empty r new h =
    let begun : repeat (λ xs. given (ended place_of) (item_turn separator close item xs)) (map tree none) c1 ≡ repeat (λ xs. given (ended place_of) (item_turn separator close item xs)) [] c1
    = ap (λ (z : List _). repeat (λ xs. given (ended place_of) (item_turn separator close item xs)) (map tree z) c1) empty in
    let seen_so : given place_of (items separator close item) c ≡ given place_of (repeat (item_turn separator close item) []) c1 = rw skipped refl in
    let listed = seen_so ∙ sym (loop_given place_of (item_turn separator close item) (suc (length c1.rest)) [] c1) ∙ sym begun in
    subst (λ (z : Outcome _ _). ReadsAs (λ list. (map tree list.0, list.1)) z r new) (sym listed) h

-- ---- what is made of a list and the place of its end

module _ {A B : Type 0} where
  placed : (o : Outcome Token (A × Token)) (go : A → Pos → Parser Token B) → and_then (and_then o (λ a. pure (place_of a))) (λ b. go b.0 b.1) ≡ and_then o (λ b. go b.0 b.1.pos)
  placed (Ok x) go = refl
  placed (Err k) go = refl

  refused_so : (o : Outcome Token (A × Token)) (go : A × Token → Parser Token B) (k : List Token) → and_then o (λ a. pure (place_of a)) ≡ Err k → and_then o go ≡ Err k
  refused_so (Ok x) go k e = absurd cc
  refused_so (Err k') go k e = let same : k' ≡ k = cc in ap (λ (z : List Token). Err z) same

  module _ (q : Parser Token (A × Token)) (c : Cursor Token) where
    pub placed_ok : (go : A → Pos → Parser Token B) (x : A) (at : Pos) (c' : Cursor Token) → given place_of q c ≡ Ok ((x, at), c') → (q >>= (λ b. go b.0 b.1.pos)) c ≡ go x at c'
    placed_ok go x at c' e = sym (placed (q c) go) ∙ ap (λ (z : Outcome Token (A × Pos)). and_then z (λ b. go b.0 b.1)) e

    pub placed_err : (go : A × Token → Parser Token B) (k : List Token) → given place_of q c ≡ Err k → (q >>= go) c ≡ Err k
    placed_err go k e = refused_so (q c) go k e
