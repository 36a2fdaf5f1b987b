-- Modifiers and the word behind them are read exactly.
use Rattle.std.proofs.Common.{
  ◌≡◌,
  ◌==◌,
  ◌<◌,
  ℕ,
  Bool,
  true,
  false,
  not,
  List,
  [],
  ◌∷◌,
  ◌++◌,
  length,
  None,
  refl,
  sym,
  ap,
  ◌∙◌,
  append_assoc,
  arith,
  inl,
  inr,
  ◌⊎◌,
}
use Rattle.std.specs.Cmp.Lexicographic.{pointwise, same_text, other_text}
use Rattle.kt_base.specs.declared.refusals.Pos.{Pos}
use Rattle.kt_tree.specs.declared.tokens.Token.{Token}
use Rattle.kt_tree.specs.declared.tokens.TokenKind.{TokenKind}
use Rattle.kt_tree.specs.declared.tokens.TokenKind.TheVariants as kind
use Rattle.kt_tree.specs.declared.tokens.Keyword.{Keyword}
use Rattle.kt_tree.specs.declared.tokens.SoftKeyword.{SoftKeyword}
use Rattle.kt_tree.specs.Tokens.{
  spelling,
  kind_is_soft_keyword,
  kind_is_identifier,
  kind_is_keyword,
  is_soft_keyword,
  is_identifier,
  is_keyword,
}
use Rattle.kt_grammar_parsers.specs.Parsers.{Parser, first, behind, ◌>>=◌, pure, token, repeat}
use Rattle.kt_grammar_parsers.specs.Phrases.{IsNothing, IsToken, Seq, Either, If, Loop, ends, turns}
use Rattle.kt_grammar.specs.Words.{Empty}
use Rattle.kt_grammar.specs.Declarations.{Modified, first_place, start_of, IsModifier, ModifierTurn}
use Rattle.kt_grammar.specs.DeclarationParser.{modifier}
use Rattle.kt_grammar_parsers.proofs.Steps.{truth}
use Rattle.kt_grammar_parsers.proofs.Behind.{behind_done, behind_more}
use Rattle.kt_grammar.proofs.parts.Sequences.{Part, Anything, made, then}
use Rattle.kt_grammar.proofs.parts.Choices.{same_part, other_part, seq_left, seq_right}
use Rattle.kt_grammar.proofs.tokens.Begins.{of_kind, Begins}
use Rattle.kt_grammar.proofs.tokens.Keywords.{or_keyword, or_left, or_right}
use Rattle.kt_grammar.proofs.parts.Left.{on_only}
use Rattle.kt_grammar.proofs.tokens.Witnesses.{a_keyword, a_soft_keyword, keyword_is, keyword_part}
use Rattle.kt_grammar.proofs.parts.Enclosed.{ended_part}

-- ---- words of other spellings

soft_kind : (w v : SoftKeyword) → pointwise ◌==◌ (spelling w) (spelling v) ≡ false → (k : TokenKind) → kind_is_soft_keyword w k ≡ true → kind_is_soft_keyword v k ≡ false
soft_kind w v e (kind.Identifier name) h = ap (λ (z : List ℕ). pointwise ◌==◌ z (spelling v)) (same_text name (spelling w) (sym h)) ∙ e
soft_kind w v e _ h = absurd cc

pub soft_apart : (w v : SoftKeyword) → pointwise ◌==◌ (spelling w) (spelling v) ≡ false → (t : Token) → is_soft_keyword w t ≡ true → is_soft_keyword v t ≡ false
soft_apart w v e t h = soft_kind w v e t.kind h

soft_kind_is_identifier : (w : SoftKeyword) (k : TokenKind) → kind_is_soft_keyword w k ≡ true → kind_is_identifier k ≡ true
soft_kind_is_identifier w (kind.Identifier name) h = refl
soft_kind_is_identifier w _ h = absurd cc

pub soft_is_identifier : (w : SoftKeyword) (t : Token) → is_soft_keyword w t ≡ true → is_identifier t ≡ true
soft_is_identifier w t h = soft_kind_is_identifier w t.kind h

keyword_kind_no_soft : (k : Keyword) (v : SoftKeyword) (q : TokenKind) → kind_is_keyword k q ≡ true → kind_is_soft_keyword v q ≡ false
keyword_kind_no_soft k v (kind.Keyword found) h = refl
keyword_kind_no_soft k v _ h = absurd cc

pub keyword_no_soft : (k : Keyword) (v : SoftKeyword) (t : Token) → is_keyword k t ≡ true → is_soft_keyword v t ≡ false
keyword_no_soft k v t h = keyword_kind_no_soft k v t.kind h

keyword_kind_no_identifier : (k : Keyword) (q : TokenKind) → kind_is_keyword k q ≡ true → kind_is_identifier q ≡ false
keyword_kind_no_identifier k (kind.Keyword found) h = refl
keyword_kind_no_identifier k _ h = absurd cc

keyword_no_identifier : (k : Keyword) (t : Token) → is_keyword k t ≡ true → is_identifier t ≡ false
keyword_no_identifier k t h = keyword_kind_no_identifier k t.kind h

soft_itself : (w : SoftKeyword) → is_soft_keyword w (a_soft_keyword w) ≡ true
soft_itself w = elim (truth (is_soft_keyword w (a_soft_keyword w))) [ inl y ↦ y | inr n ↦ absurd (other_text (spelling w) (spelling w) (sym n) refl) ]

-- ---- a list of modifiers

pub record Modifier (M : Type 0) : Type 0 where
  pub word : SoftKeyword
  pub stands : M → Bool
  pub add : M → M

module _ {M : Type 0} where
  -- one of them
  abbrev pub OneOf : List (Modifier M) → Modified M → Modified M → List Token → List Token → Type 0
  OneOf [] m = Empty
  OneOf (x ∷ []) m = IsModifier x.word x.stands x.add m
  OneOf (x ∷ y ∷ xs) m = Either (IsModifier x.word x.stands x.add m) (OneOf (y ∷ xs) m)

  -- one of them, or else the other
  abbrev pub turn_of : {B : Type 0} → List (Modifier M) → Parser Token (Modified M ⊎ B) → Modified M → Parser Token (Modified M ⊎ B)
  turn_of [] other m = other
  turn_of (x ∷ xs) other m = modifier x.word x.stands x.add m (turn_of xs other m)

  -- none of them is spelled like this word
  abbrev pub Unlike : SoftKeyword → List (Modifier M) → Type 0
  Unlike w [] = Unit {0}
  Unlike w (x ∷ xs) = (pointwise ◌==◌ (spelling x.word) (spelling w) ≡ false) × Unlike w xs

  -- no two are spelled alike
  abbrev pub Distinct : List (Modifier M) → Type 0
  Distinct [] = Unit {0}
  Distinct (x ∷ xs) = Unlike x.word xs × Distinct xs

  -- the token is one of these words
  abbrev pub Spelled : List (Modifier M) → Token → Type 0
  Spelled [] t = ⊥
  Spelled (x ∷ xs) t = (is_soft_keyword x.word t ≡ true) ⊎ Spelled xs t

  spelled_unlike : (w : SoftKeyword) (xs : List (Modifier M)) → Unlike w xs → (t : Token) → Spelled xs t → is_soft_keyword w t ≡ false
  spelled_unlike w [] apart t s = absurd s
  spelled_unlike w (x ∷ xs) apart t (inl y) = soft_apart x.word w apart.0 t y
  spelled_unlike w (x ∷ xs) apart t (inr s) = spelled_unlike w xs apart.1 t s

  spelled_identifier : (xs : List (Modifier M)) (t : Token) → Spelled xs t → is_identifier t ≡ true
  spelled_identifier [] t s = absurd s
  spelled_identifier (x ∷ xs) t (inl y) = soft_is_identifier x.word t y
  spelled_identifier (x ∷ xs) t (inr s) = spelled_identifier xs t s

  one_or_more : (x : Modifier M) (xs : List (Modifier M)) (m n : Modified M) (u rest : List Token) → Either (IsModifier x.word x.stands x.add m) (OneOf xs m) n u rest → OneOf (x ∷ xs) m n u rest
  one_or_more x [] m n u rest (inl l) = l
  one_or_more x [] m n u rest (inr l) = absurd l
  one_or_more x (y ∷ xs) m n u rest l = l

  first_or_more : (x : Modifier M) (xs : List (Modifier M)) (m n : Modified M) (u rest : List Token) → OneOf (x ∷ xs) m n u rest → Either (IsModifier x.word x.stands x.add m) (OneOf xs m) n u rest
  first_or_more x [] m n u rest l = inl l
  first_or_more x (y ∷ xs) m n u rest l = l

  -- a modifier is one token
  modifier_is : (x : Modifier M) (m n : Modified M) (u rest : List Token) → IsModifier x.word x.stands x.add m n u rest → (t : Token) × (u ≡ t ∷ []) × (is_soft_keyword x.word t ≡ true)
  modifier_is x m n u rest (inl y) = absurd y.1
  modifier_is x m n u rest (inr y) = let s = y.1 in (s.value, s.is ∙ ap (λ (z : List Token). z ++ s.back) s.phrase.one ∙ ap (λ (z : List Token). s.value ∷ z) s.phrase'.none, s.phrase.passes)

  one_is : (xs : List (Modifier M)) (m n : Modified M) (u rest : List Token) → OneOf xs m n u rest → (t : Token) × (u ≡ t ∷ []) × Spelled xs t
  one_is [] m n u rest l = absurd l
  one_is (x ∷ xs) m n u rest l = elim (first_or_more x xs m n u rest l) [ inl y ↦ let i = modifier_is x m n u rest y in (i.0, i.1, inl i.2) | inr o ↦ let i = one_is xs m n u rest o in (i.0, i.1, inr i.2) ]

not_false : (b : Bool) → b ≡ false → not b ≡ true
not_false b h = ap not h

not_is_true : (b : Bool) → not b ≡ true → b ≡ false
not_is_true true h = absurd (let e : false ≡ true = h in cc)
not_is_true false h = refl

abbrev map_first : {A B : Type 0} {K L : A → List Token → List Token → Type 0} {M : A → B → List Token → List Token → Type 0} → ((a : A) (u rest : List Token) → K a u rest → L a u rest) → (b : B) (u rest : List Token) → Seq K M b u rest → Seq L M b u rest
map_first to b u rest s = record { value = s.value; front = s.front; back = s.back; is = s.is; phrase = to s.value s.front (s.back ++ rest) s.phrase; phrase' = s.phrase' }

-- ---- modifiers, none twice, and the keyword behind them

module _ {M : Type 0} (w : Keyword) (xs : List (Modifier M)) (distinct : Distinct xs) (none_yet : M) where
  -- the value at the keyword
  abbrev finish : Modified M → Token → Pos × M
  finish m t = (start_of m.start t, m.modifiers)

  abbrev last : Modified M → Parser Token (Modified M ⊎ (Pos × M))
  last m = token (is_keyword w) >>= (λ t. pure (inr (finish m t)))

  abbrev Last : Modified M → Modified M ⊎ (Pos × M) → List Token → List Token → Type 0
  Last m = Seq (IsToken (is_keyword w)) (λ t. IsNothing (inr (finish m t)))

  abbrev More : (ys : List (Modifier M)) → Modified M → Modified M ⊎ (Pos × M) → List Token → List Token → Type 0
  More ys m = Either (Seq (OneOf ys m) (λ n. IsNothing (inl n))) (Last m)

  abbrev pub Turn : Modified M → Modified M ⊎ (Pos × M) → List Token → List Token → Type 0
  Turn = ModifierTurn (OneOf xs) (IsToken (is_keyword w))

  abbrev pub turn : Modified M → Parser Token (Modified M ⊎ (Pos × M))
  turn m = turn_of xs (last m) m

  last_is : (m : Modified M) (b : Modified M ⊎ (Pos × M)) (u rest : List Token) → Last m b u rest → (t : Token) × (u ≡ t ∷ []) × (is_keyword w t ≡ true)
  last_is m b u rest s = (s.value, s.is ∙ ap (λ (z : List Token). z ++ s.back) s.phrase.one ∙ ap (λ (z : List Token). s.value ∷ z) s.phrase'.none, s.phrase.passes)

  step_is : (ys : List (Modifier M)) (m : Modified M) (b : Modified M ⊎ (Pos × M)) (u rest : List Token) → Seq (OneOf ys m) (λ n. IsNothing (inl n)) b u rest → (t : Token) × (u ≡ t ∷ []) × Spelled ys t
  step_is ys m b u rest s = let i = one_is ys m s.value s.front (s.back ++ rest) s.phrase in (i.0, s.is ∙ ap (λ (z : List Token). z ++ s.back) i.1 ∙ ap (λ (z : List Token). i.0 ∷ z) s.phrase'.none, i.2)

  -- a turn begins with no other word
  more_unlike : (v : SoftKeyword) (ys : List (Modifier M)) → Unlike v ys → (m : Modified M) (b : Modified M ⊎ (Pos × M)) (u rest : List Token) → More ys m b u rest → first (is_soft_keyword v) (u ++ rest) ≡ false
  more_unlike v ys apart m b u rest (inl s) = let i = step_is ys m b u rest s in ap (λ (z : List Token). first (is_soft_keyword v) (z ++ rest)) i.1 ∙ spelled_unlike v ys apart i.0 i.2
  more_unlike v ys apart m b u rest (inr s) = let i = last_is m b u rest s in ap (λ (z : List Token). first (is_soft_keyword v) (z ++ rest)) i.1 ∙ keyword_no_soft w v i.0 i.2

  last_part : (m : Modified M) → Part (last m) (Last m) Anything (λ _. Anything)
  last_part m = then (keyword_part w) (λ t. made (inr (finish m t)) (λ tail h. tt))

  abbrev next : Modifier M → Modified M → Token → Modified M
  next x m t = record { start = first_place m.start t; modifiers = x.add m.modifiers }

  -- what the parser asks of the next token
  abbrev Asked : Modifier M → List (Modifier M) → Modified M → Modified M ⊎ (Pos × M) → List Token → List Token → Type 0
  Asked x ys m = Either (If (not (x.stands m.modifiers)) (Seq (IsToken (is_soft_keyword x.word)) (λ t. Seq (IsNothing (next x m t)) (λ n. IsNothing (inl n)))) Empty) (More ys m)

  to_more : (x : Modifier M) (ys : List (Modifier M)) (m : Modified M) (b : Modified M ⊎ (Pos × M)) (u rest : List Token) → Asked x ys m b u rest → More (x ∷ ys) m b u rest
  to_more x ys m b u rest (inl (inl y)) = inl (map_first (λ n v more q. one_or_more x ys m n v more (inl (inr (not_is_true (x.stands m.modifiers) y.0, q)))) b u rest (seq_left (IsToken (is_soft_keyword x.word)) (λ t. IsNothing (next x m t)) (λ n. IsNothing (inl n)) b u rest y.1))
  to_more x ys m b u rest (inl (inr n)) = absurd n.1
  to_more x ys m b u rest (inr (inl s)) = inl (map_first (λ n v more q. one_or_more x ys m n v more (inr q)) b u rest s)
  to_more x ys m b u rest (inr (inr s)) = inr s

  from_more : (x : Modifier M) (ys : List (Modifier M)) (m : Modified M) (b : Modified M ⊎ (Pos × M)) (u rest : List Token) → More (x ∷ ys) m b u rest → Asked x ys m b u rest
  from_more x ys m b u rest (inr s) = inr (inr s)
  from_more x ys m b u rest (inl s) = elim (first_or_more x ys m s.value s.front (s.back ++ rest) s.phrase) [
    | inl y ↦ elim y [
      | inl e ↦ absurd e.1
      | inr n ↦ inl (inl (not_false (x.stands m.modifiers) n.0, seq_right (IsToken (is_soft_keyword x.word)) (λ t. IsNothing (next x m t)) (λ n. IsNothing (inl n)) b u rest (record { value = s.value; front = s.front; back = s.back; is = s.is; phrase = n.1; phrase' = s.phrase' })))
    ]
    | inr o ↦ inr (inl (record { value = s.value; front = s.front; back = s.back; is = s.is; phrase = o; phrase' = s.phrase' }))
  ]

  more_part : (ys : List (Modifier M)) → Distinct ys → (m : Modified M) → Part (turn_of ys (last m) m) (More ys m) Anything (λ _. Anything)
  more_part [] apart m = other_part (λ b u rest s. s.phrase) (last_part m)
  more_part (x ∷ ys) apart m = same_part (to_more x ys m) (from_more x ys m) (on_only (a_soft_keyword x.word) (soft_itself x.word) (not (x.stands m.modifiers)) (λ h t. then {F' = Anything} (made (next x m t) (λ tail n. tt)) (λ n. made (inl n) (λ tail n. tt))) (more_part ys apart.1 m) (more_unlike x.word ys apart.0 m))

  -- ---- turns up to the keyword

  not_last : (n : Modified M) (b : Pos × M) → inl n ≡ inr b → ⊥
  not_last n b e = absurd cc

  turn_goes : (m n : Modified M) (u rest : List Token) → Turn m (inl n) u rest → (t : Token) × (u ≡ t ∷ []) × Spelled xs t
  turn_goes m n u rest (inl s) = step_is xs m (inl n) u rest s
  turn_goes m n u rest (inr s) = absurd (not_last n (finish m s.value) s.phrase'.value)

  turn_ends : (m : Modified M) (b : Pos × M) (u rest : List Token) → Turn m (inr b) u rest → (t : Token) × (u ≡ t ∷ []) × (is_keyword w t ≡ true)
  turn_ends m b u rest (inl s) = absurd (not_last s.value b (sym s.phrase'.value))
  turn_ends m b u rest (inr s) = last_is m (inr b) u rest s

  turn_eats : (m n : Modified M) (u rest : List Token) → Turn m (inl n) u rest → 0 < length u
  turn_eats m n u rest l = omega (arith, ap length (turn_goes m n u rest l).1)

  ends_here : (m : Modified M) (tail : List Token) → Turn m (inr (finish m (a_keyword w))) (a_keyword w ∷ []) tail
  ends_here m tail = inr (record { value = a_keyword w; front = a_keyword w ∷ []; back = []; is = refl; phrase = record { passes = keyword_is w; one = refl }; phrase' = record { value = refl; none = refl } })

  abbrev pub start : Modified M
  start = record { start = None; modifiers = none_yet }

  pub word_part : Part (repeat turn start) (Loop Turn start) Anything (λ _. Anything)
  word_part = ended_part (λ m. (more_part xs distinct m).correct) turn_eats (λ m. finish m (a_keyword w)) (a_keyword w ∷ []) ends_here (λ tail. tt) start

  abbrev pub begins_modified : TokenKind → Bool
  begins_modified = or_keyword w kind_is_identifier

  pub word_begins : (m : Modified M) → Begins begins_modified (Loop Turn m)
  word_begins m b u rest (ends l) = let i = turn_ends m b u rest l in ap (first (of_kind begins_modified)) i.1 ∙ or_left (kind_is_keyword w i.0.kind) (kind_is_identifier i.0.kind) i.2
  word_begins m b u rest (turns {y = y} {v = v} {w = more} l next is) = let i = turn_goes m y v (more ++ rest) l in
      ap (first (of_kind begins_modified)) (is ∙ ap (λ (z : List Token). z ++ more) i.1) ∙ or_right (kind_is_keyword w i.0.kind) (kind_is_identifier i.0.kind) (spelled_identifier xs i.0 i.2)

  -- with no word that is none of them
  pub word_unlike : (v : SoftKeyword) → Unlike v xs → (m : Modified M) (b : Pos × M) (u rest : List Token) → Loop Turn m b u rest → first (is_soft_keyword v) (u ++ rest) ≡ false
  word_unlike v apart m b u rest (ends l) = more_unlike v xs apart m (inr b) u rest l
  word_unlike v apart m b u rest (turns {y = y} {v = front} {w = more} l next is) = ap (first (is_soft_keyword v)) (ap (λ (z : List Token). z ++ rest) is ∙ append_assoc front more rest) ∙ more_unlike v xs apart m (inl y) front (more ++ rest) l

  keyword_first : (t : Token) (ts : List Token) → is_keyword w t ≡ true → first (is_keyword w) (behind is_identifier (t ∷ ts)) ≡ true
  keyword_first t ts h = ap (first (is_keyword w)) (behind_done is_identifier (t ∷ ts) (keyword_no_identifier w t h)) ∙ h

  -- behind the identifiers that it begins with stands the keyword
  pub keyword_behind : (m : Modified M) (b : Pos × M) (u rest : List Token) → Loop Turn m b u rest → first (is_keyword w) (behind is_identifier (u ++ rest)) ≡ true
  keyword_behind m b u rest (ends l) = let i = turn_ends m b u rest l in ap (λ (z : List Token). first (is_keyword w) (behind is_identifier (z ++ rest))) i.1 ∙ keyword_first i.0 rest i.2
  keyword_behind m b u rest (turns {y = y} {v = v} {w = more} l next is) = let i = turn_goes m y v (more ++ rest) l in
      ap (λ (z : List Token). first (is_keyword w) (behind is_identifier (z ++ rest))) (is ∙ ap (λ (z : List Token). z ++ more) i.1)
      ∙ ap (first (is_keyword w)) (behind_more is_identifier (i.0 ∷ more ++ rest) (spelled_identifier xs i.0 i.2)) ∙ keyword_behind y b more rest next
