-- What holds of each value of a language, from what holds of its parts.
use Rattle.std.proofs.Common.{
  ◌≡◌,
  ℕ,
  ◌≤◌,
  Bool,
  true,
  false,
  List,
  [],
  ◌∷◌,
  ◌++◌,
  Option,
  None,
  Some,
  sym,
  subst,
  arith,
  inl,
  inr,
  ◌⊎◌,
  map,
}
use Rattle.kt_tree.specs.Levels.{most}
use Rattle.kt_tree.specs.declared.tokens.Token.{Token}
use Rattle.kt_grammar_parsers.specs.Phrases.{
  IsNothing,
  IsToken,
  IsSkipped,
  Seq,
  Either,
  FirstOf,
  If,
  WhereRoom,
  WhereNext,
  Loop,
  ends,
  turns,
  CommaTurn,
  CommaList,
  MaybeCommaList,
  MoreTurn,
  Several,
  ItemTurn,
  Items,
  ChainTurn,
  Chain,
}
use Rattle.kt_grammar.specs.Words.{Empty, Maybe}

-- each value of the language meets P
pub record Each {T A : Type 0} (L : A → List T → List T → Type 0) (P : A → Type 0) : Type 0 where
  pub value : (a : A) (u rest : List T) → L a u rest → P a

module _ {T A : Type 0} {P : A → Type 0} where
  pub each_gives : {b : A} → P b → Each {T = T} (IsNothing b) P
  each_gives p = record { value = λ a u rest g. subst P (sym g.value) p }

  pub each_either : {L M : A → List T → List T → Type 0} → Each L P → Each M P → Each (Either L M) P
  each_either l m = record { value = λ a u rest e. elim e [ inl x ↦ l.value a u rest x | inr x ↦ m.value a u rest x ] }

  pub each_if : {L M : A → List T → List T → Type 0} (b : Bool) → (b ≡ true → Each L P) → (b ≡ false → Each M P) → Each (If b L M) P
  each_if b l m = record { value = λ a u rest e. elim e [ inl x ↦ (l x.0).value a u rest x.1 | inr x ↦ (m x.0).value a u rest x.1 ] }

  pub each_past : {line : T → Bool} {L : A → List T → List T → Type 0} → Each L P → Each (Seq (IsSkipped line) (λ _. L)) P
  each_past l = record { value = λ a u rest s. l.value a s.back rest s.phrase' }

module _ {T A B : Type 0} {P : A → Type 0} {Q : B → Type 0} {L : A → List T → List T → Type 0} {M : A → B → List T → List T → Type 0} where
  -- the first tells of its value
  pub each_seq : Each L P → ((a : A) → P a → Each (M a) Q) → Each (Seq L M) Q
  each_seq l m = record { value = λ b u rest s. (m s.value (l.value s.value s.front (s.back ++ rest) s.phrase)).value b s.back rest s.phrase' }

module _ {T A B : Type 0} {Q : B → Type 0} {L : A → List T → List T → Type 0} {M : A → B → List T → List T → Type 0} where
  -- the first tells nothing
  pub each_then : ((a : A) → Each (M a) Q) → Each (Seq L M) Q
  each_then m = record { value = λ b u rest s. (m s.value).value b s.back rest s.phrase' }

module _ {T A B : Type 0} {Q : B → Type 0} {K : A → List T → List T → Type 0} {L : A → B → List T → List T → Type 0} {M : B → List T → List T → Type 0} where
  pub each_where : Each (Seq K L) Q → Each M Q → Each (FirstOf K L M) Q
  each_where l m = record { value = λ b u rest e. elim e [ inl s ↦ l.value b u rest s | inr s ↦ m.value b u rest s.0 ] }

  pub each_room : (room : Bool) → (room ≡ true → Each (Seq K L) Q) → Each M Q → Each (WhereRoom room K L M) Q
  each_room room l m = record { value = λ b u rest e. elim e [ inl x ↦ (each_where (l x.0) m).value b u rest x.1 | inr x ↦ m.value b u rest x.1 ] }

-- ---- loops

-- of what a loop goes on with the one holds, of what it ends with the other
abbrev pub Turns : {S B : Type 0} → (S → Type 0) → (B → Type 0) → S ⊎ B → Type 0
Turns P Q (inl y) = P y
Turns P Q (inr b) = Q b

module _ {T S B : Type 0} (P : S → Type 0) (Q : B → Type 0) {Turn : S → S ⊎ B → List T → List T → Type 0} (t : (x : S) → P x → Each (Turn x) (Turns P Q)) where
  loop_value : (x : S) → P x → (b : B) (u rest : List T) → Loop Turn x b u rest → Q b
  loop_value x p b u rest (ends e) = (t x p).value (inr b) u rest e
  loop_value x p b u rest (turns {y = y} {v = v} {w = w} one more is) = loop_value y ((t x p).value (inl y) v (w ++ rest) one) b w rest more

  pub each_loop : (x : S) → P x → Each (Loop Turn x) Q
  each_loop x p = record { value = loop_value x p }

-- ---- lists

abbrev pub All : {A : Type 0} → (A → Type 0) → List A → Type 0
All P [] = Unit {0}
All P (x ∷ xs) = P x × All P xs

pub all_last : {A : Type 0} (P : A → Type 0) (xs : List A) (x : A) → All P xs → P x → All P (xs ++ x ∷ [])
all_last P [] x all p = (p, tt)
all_last P (y ∷ xs) x all p = (all.0, all_last P xs x all.1 p)

pub most_of : {A : Type 0} (f : A → ℕ) (n : ℕ) (xs : List A) → All (λ x. f x ≤ n) xs → most (map f xs) ≤ n
most_of f n [] all = omega arith
most_of f n (x ∷ xs) all = let h = most_of f n xs all.1 in omega (arith, all.0, h)

module _ {T A : Type 0} (P : A → Type 0) {Item : A → List T → List T → Type 0} (item : Each Item P) where
  pub each_comma_list : {comma close : T → Bool} → Each (CommaList comma close Item) (All P)
  each_comma_list {comma} {close} = each_seq item (λ x p. each_loop (All P) (All P) turn (x ∷ []) (p, tt))
    where
      turn : (xs : List A) → All P xs → Each (CommaTurn comma close Item xs) (Turns (All P) (All P))
      turn xs all = each_either (each_then (λ _. each_seq item (λ x p. each_gives (all_last P xs x all p)))) (each_then (λ _. each_gives all))

  pub each_maybe_comma_list : {comma close : T → Bool} → Each (MaybeCommaList comma close Item) (All P)
  each_maybe_comma_list = each_either (each_then (λ _. each_gives tt)) each_comma_list

  pub each_several : {Lead : Unit {0} → List T → List T → Type 0} {comma line : T → Bool} → Each (Several Lead comma line Item) (All P)
  each_several {Lead} {comma} {line} = each_seq item (λ x p. each_loop (All P) (All P) turn (x ∷ []) (p, tt))
    where
      turn : (xs : List A) → All P xs → Each (MoreTurn Lead comma line Item xs) (Turns (All P) (All P))
      turn xs all = each_where (each_then (λ _. each_then (λ _. each_seq item (λ x p. each_gives (all_last P xs x all p))))) (each_gives all)

  pub each_items : {separator close : T → Bool} → Each (Items separator close Item) (λ b. All P b.0)
  each_items {separator} {close} = each_then (λ _. each_loop (All P) (λ b. All P b.0) turn [] tt)
    where
      turn : (xs : List A) → All P xs → Each (ItemTurn separator close Item xs) (Turns (All P) (λ b. All P b.0))
      turn xs all = each_either (each_then (λ _. each_gives all)) (each_seq item (λ x p. each_then (λ _. each_gives (all_last P xs x all p))))

-- a part behind a token, which may be absent
abbrev pub Perhaps : {A : Type 0} → (A → Type 0) → Option A → Type 0
Perhaps P None = Unit {0}
Perhaps P (Some a) = P a

pub each_maybe : {A : Type 0} (P : A → Type 0) {test : Token → Bool} {L : A → List Token → List Token → Type 0} → Each L P → Each (Maybe test L) (Perhaps P)
each_maybe P l = each_where (each_then (λ _. each_seq l (λ a p. each_gives p))) (each_gives tt)

pub each_empty : {A : Type 0} {P : A → Type 0} → Each {T = Token} Empty P
each_empty = record { value = λ a u rest none. absurd none }
