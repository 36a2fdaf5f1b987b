-- The words of which a grammar is made: which tokens spell which value, where certain tokens follow.
use Rattle.std.specs.Prelude.{◌≡◌, Bool, true, false, List, [], ◌∷◌, ◌++◌, ◌⊎◌}
use Rattle.std.proofs.Common.{inl, inr}
use Rattle.kt_grammar_parsers.specs.Parsers.{first}

-- a language: the value, the tokens that spell it, and the tokens that follow
abbrev pub Language : Type 0 → Type 0 → Type 1
Language T A = A → List T → List T → Type 0

-- nothing, which stands for this value
pub record IsNothing {T A : Type 0} (b : A) (a : A) (u rest : List T) : Type 0 where
  pub value : a ≡ b
  pub none : u ≡ []

-- one token that passes the test
pub record IsToken {T : Type 0} (test : T → Bool) (t : T) (u rest : List T) : Type 0 where
  pub passes : test t ≡ true
  pub one : u ≡ t ∷ []

-- each token passes the test
abbrev pub AllPass : {T : Type 0} → (T → Bool) → List T → Type 0
AllPass test [] = Unit {0}
AllPass test (t ∷ ts) = (test t ≡ true) × AllPass test ts

-- all the tokens, none or more, that pass the test
pub record IsSkipped {T : Type 0} (test : T → Bool) (a : Unit {0}) (u rest : List T) : Type 0 where
  pub pass : AllPass test u
  pub all : first test rest ≡ false

-- one after the other, where the value of the first decides what the second may be
pub record Seq {T A B : Type 0} (L : A → List T → List T → Type 0) (M : A → B → List T → List T → Type 0) (b : B)
    (u rest : List T) : Type 0 where
  pub value : A
  pub front : List T
  pub back : List T
  pub is : u ≡ front ++ back
  pub phrase : L value front (back ++ rest)
  pub phrase' : M value b back rest

-- one or the other
abbrev pub Either : {T B : Type 0} → (B → List T → List T → Type 0) → (B → List T → List T → Type 0) → B → List T
    → List T → Type 0
Either L M b u rest = L b u rest ⊎ M b u rest

-- no phrase stands at the front
abbrev pub NotReads : {T A : Type 0} → (A → List T → List T → Type 0) → List T → Type 0
NotReads {T} {A} K ts = (a : A) (u rest : List T) → ts ≡ u ++ rest → K a u rest → ⊥

-- where the first stands at the front, it and what goes with it, else the other
abbrev pub FirstOf : {T A B : Type 0} → (A → List T → List T → Type 0) → (A → B → List T → List T → Type 0)
    → (B → List T → List T → Type 0) → B → List T → List T → Type 0
FirstOf K L M b u rest = Seq K L b u rest ⊎ (M b u rest × NotReads K (u ++ rest))

-- turns from x: a turn leads to a further one, inl y, or to the end, inr b
pub data Loop {T S B : Type 0} (Turn : S → S ⊎ B → List T → List T → Type 0) : S → B → List T → List T → Type 0 where
  ends : {x : S} {b : B} {u rest : List T} → Turn x (inr b) u rest → Loop Turn x b u rest
  turns : {x y : S} {b : B} {u v w rest : List T} → Turn x (inl y) v (w ++ rest) → Loop Turn y b w rest → u ≡ v ++ w
      → Loop Turn x b u rest

-- nothing is read; a token that passes the test comes next
pub record IsAhead {T : Type 0} (test : T → Bool) (a : Unit {0}) (u rest : List T) : Type 0 where
  pub none : u ≡ []
  pub next : first test rest ≡ true

-- where a condition holds the one, else the other
abbrev pub If : {T A : Type 0} → Bool → (A → List T → List T → Type 0) → (A → List T → List T → Type 0) → A → List T
    → List T → Type 0
If b L M a u rest = ((b ≡ true) × L a u rest) ⊎ ((b ≡ false) × M a u rest)

-- a part that may be absent: where K stands it is read, and goes on as L says; elsewhere M
abbrev pub Where : {T A B : Type 0} → (A → List T → List T → Type 0) → (A → B → List T → List T → Type 0)
    → (B → List T → List T → Type 0) → B → List T → List T → Type 0
Where K L M = FirstOf K L M

-- the same, where there is room for it
abbrev pub WhereRoom : {T A B : Type 0} → Bool → (A → List T → List T → Type 0) → (A → B → List T → List T → Type 0)
    → (B → List T → List T → Type 0) → B → List T → List T → Type 0
WhereRoom room K L M = If room (FirstOf K L M) M

-- a part that may be absent, as the next token tells: where it passes the test L, and elsewhere M
abbrev pub WhereNext : {T B : Type 0} → (T → Bool) → (B → List T → List T → Type 0) → (B → List T → List T → Type 0) → B
    → List T → List T → Type 0
WhereNext test L M = FirstOf (IsAhead test) (λ _. L) M

-- ---- lists

-- ',' item, or the token that ends the list
abbrev pub CommaTurn : {T A : Type 0} → (T → Bool) → (T → Bool) → (A → List T → List T → Type 0) → List A → List A
    ⊎ List A → List T → List T → Type 0
CommaTurn comma close Item xs =
    Either (Seq (IsToken comma) (λ _. Seq Item (λ x. IsNothing (inl (xs ++ x ∷ [])))))
    (Seq (IsToken close) (λ _. IsNothing (inr xs)))

-- item (',' item)* close
abbrev pub CommaList : {T A : Type 0} → (T → Bool) → (T → Bool) → (A → List T → List T → Type 0) → List A → List T
    → List T → Type 0
CommaList comma close Item = Seq Item (λ x. Loop (CommaTurn comma close Item) (x ∷ []))

-- (item (',' item)*)? close
abbrev pub MaybeCommaList : {T A : Type 0} → (T → Bool) → (T → Bool) → (A → List T → List T → Type 0) → List A → List T
    → List T → Type 0
MaybeCommaList comma close Item = Either (Seq (IsToken close) (λ _. IsNothing [])) (CommaList comma close Item)

-- lead ',' lines item, as long as a comma follows
abbrev pub MoreTurn : {T A : Type 0} → (Unit {0} → List T → List T → Type 0) → (T → Bool) → (T → Bool)
    → (A → List T → List T → Type 0) → List A → List A ⊎ List A → List T → List T → Type 0
MoreTurn Lead comma line Item xs =
    FirstOf (Seq Lead (λ _. IsToken comma))
    (λ _. Seq (IsSkipped line) (λ _. Seq Item (λ x. IsNothing (inl (xs ++ x ∷ []))))) (IsNothing (inr xs))

-- item (lead ',' lines item)*
abbrev pub Several : {T A : Type 0} → (Unit {0} → List T → List T → Type 0) → (T → Bool) → (T → Bool)
    → (A → List T → List T → Type 0) → List A → List T → List T → Type 0
Several Lead comma line Item = Seq Item (λ x. Loop (MoreTurn Lead comma line Item) (x ∷ []))

-- what stands behind an item: separators, or nothing where the closing token comes next
abbrev pub IsGap : {T : Type 0} → (T → Bool) → (T → Bool) → Unit {0} → List T → List T → Type 0
IsGap separator close = Either (Seq (IsToken separator) (λ _. IsSkipped separator)) (IsAhead close)

-- an item and the gap behind it, or the closing token
abbrev pub ItemTurn : {T A : Type 0} → (T → Bool) → (T → Bool) → (A → List T → List T → Type 0) → List A → List A
    ⊎ (List A × T) → List T → List T → Type 0
ItemTurn separator close Item xs =
    Either (Seq (IsToken close) (λ t. IsNothing (inr (xs, t))))
    (Seq Item (λ x. Seq (IsGap separator close) (λ _. IsNothing (inl (xs ++ x ∷ [])))))

-- separators, the items, and the closing token
abbrev pub Items : {T A : Type 0} → (T → Bool) → (T → Bool) → (A → List T → List T → Type 0) → List A × T → List T
    → List T → Type 0
Items separator close Item = Seq (IsSkipped separator) (λ _. Loop (ItemTurn separator close Item) [])

-- ---- chains

-- operator lines operand, as long as an operator follows and there is room
abbrev pub ChainTurn : {T A O : Type 0} → (A → Bool) → (O → List T → List T → Type 0) → (T → Bool)
    → (A → List T → List T → Type 0) → (O → A → A → A) → A → A ⊎ A → List T → List T → Type 0
ChainTurn room Operator line Operand build a =
    WhereRoom (room a) Operator (λ o. Seq (IsSkipped line) (λ _. Seq Operand (λ b. IsNothing (inl (build o a b)))))
    (IsNothing (inr a))

-- operand (operator lines operand)*, grouped to the left
abbrev pub Chain : {T A O : Type 0} → (A → Bool) → (A → List T → List T → Type 0) → (O → List T → List T → Type 0)
    → (T → Bool) → (A → List T → List T → Type 0) → (O → A → A → A) → A → List T → List T → Type 0
Chain room First Operator line Operand build = Seq First (λ a. Loop (ChainTurn room Operator line Operand build) a)
