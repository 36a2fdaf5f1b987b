-- A comment that is found is one: the counter of open comments finds what the nesting says.
use Rattle.std.proofs.Common.{
  ◌≡◌,
  ℕ,
  zero,
  suc,
  ◌+◌,
  ◌-◌,
  ◌<◌,
  Bool,
  true,
  false,
  cond,
  ◌&&◌,
  List,
  [],
  ◌∷◌,
  ◌++◌,
  Some,
  length,
  refl,
  sym,
  ap,
  subst,
  ◌∙◌,
  ⊎_elim,
  arith,
}
use Rattle.std.specs.Prelude.{◌==◌}
use Rattle.std.proofs.lemmas.Bool.{eqb-true, ne_eqb}
use Rattle.std.proofs.lemmas.List.{append_assoc}
use Rattle.kt_lexer.specs.Lexemes.{
  first,
  begins,
  IsCommentRest,
  closed,
  nested,
  more,
  AtLineEnd,
  at_end,
  at_line_feed,
  at_both,
  IsToLineEnd,
  here,
  there,
}
use Rattle.kt_lexer.specs.Scanning.{at_line_end, line_rest, opens_comment, closes_comment, comment_rest}
use Rattle.kt_lexer.proofs.Cases.{either, both}

-- ---- comments to the line's end

abbrev line_end : List ℕ → Bool
line_end [] = true
line_end (c ∷ cs) = at_line_end c cs

pub line_end_test : {text : List ℕ} → AtLineEnd text → line_end text ≡ true
line_end_test at_end = refl
line_end_test at_line_feed = refl
line_end_test at_both = refl

begins_feed : (c : ℕ) (cs : List ℕ) → c ≡ 13 → first (λ d. d == 10) cs ≡ true → AtLineEnd (c ∷ cs)
begins_feed c [] is feed = cc
begins_feed c (d ∷ cs) is feed = subst (λ l. AtLineEnd l) (λ i. sym is i ∷ sym (eqb-true d 10 feed) i ∷ cs) at_both

pub line_end_is : (c : ℕ) (cs : List ℕ) → at_line_end c cs ≡ true → AtLineEnd (c ∷ cs)
line_end_is c cs h = ⊎_elim
    (λ is. subst (λ c. AtLineEnd (c ∷ cs)) (sym (eqb-true c 10 is)) at_line_feed)
    (λ is. let parts = both _ _ is in begins_feed c cs (eqb-true c 13 parts.0) parts.1)
    (either _ _ h)

-- the characters up to the line's end
pub record LineSplit (text rest : List ℕ) : Type 0 where
  pub front : List ℕ
  pub is : text ≡ front ++ rest
  pub to_end : IsToLineEnd front rest

line_step : (c : ℕ) (cs : List ℕ) (b : Bool) → at_line_end c cs ≡ b → LineSplit cs (line_rest cs) → LineSplit (c ∷ cs) (cond b (c ∷ cs) (line_rest cs))
line_step c cs true is split = record { front = []; is = refl; to_end = here (line_end_is c cs is) }
line_step c cs false is split = record {
  front = c ∷ split.front;
  is = ap (λ l. c ∷ l) split.is;
  to_end = there (λ ends. let true_too : at_line_end c cs ≡ true = line_end_test (subst (λ l. AtLineEnd (c ∷ l)) (sym split.is) ends) in absurd (cc (sym is ∙ true_too))) split.to_end;
}

pub line_split : (text : List ℕ) → LineSplit text (line_rest text)
line_split [] = record { front = []; is = refl; to_end = here at_end }
line_split (c ∷ cs) = line_step c cs (at_line_end c cs) refl (line_split cs)

-- ---- nested comments

pub comment_nonempty : {u : List ℕ} → IsCommentRest u → 0 < length u
comment_nonempty closed = omega arith
comment_nonempty (nested a b) = omega arith
comment_nonempty (more x y a) = omega arith

-- the rests of so many comments more than one, the innermost first
abbrev AreRests : ℕ → List ℕ → Type 0
AreRests zero u = IsCommentRest u
AreRests (suc depth) u = (a b : List ℕ) × (u ≡ a ++ b) × IsCommentRest a × AreRests depth b

-- with a comment that opens and closes before them
opened : (depth : ℕ) (u : List ℕ) → AreRests (suc depth) u → AreRests depth (47 ∷ 42 ∷ u)
opened zero u rests = subst (λ l. IsCommentRest (47 ∷ 42 ∷ l)) (sym rests.2) (nested rests.3 rests.4)
opened (suc depth) u rests =
    let outer = rests.4 in
    (47 ∷ 42 ∷ (rests.0 ++ outer.0), outer.1, ap (λ l. 47 ∷ 42 ∷ l) (rests.2 ∙ ap (λ l. rests.0 ++ l) outer.2 ∙ sym (append_assoc rests.0 outer.0 outer.1)), nested rests.3 outer.3, outer.4)

spelled_out : (p q : Bool) → (p && q) ≡ false → (p && (q && true)) ≡ false
spelled_out true true h = h
spelled_out true false h = h
spelled_out false q h = refl

unmarked : (c d : ℕ) (u cs : List ℕ) → opens_comment c d ≡ false → closes_comment c d ≡ false → 0 < length u → (rest : List ℕ) → d ∷ cs ≡ u ++ rest
    → (begins (42 ∷ 47 ∷ []) (c ∷ u) ≡ false) × (begins (47 ∷ 42 ∷ []) (c ∷ u) ≡ false)
unmarked c d [] cs o x some rest is = absurd (omega arith)
unmarked c d (e ∷ u) cs o x some rest is =
    let same : d ≡ e = cc in
    (spelled_out (c == 42) (e == 47) ((λ i. (c == 42) && (sym same i == 47)) ∙ x), spelled_out (c == 47) (e == 42) ((λ i. (c == 47) && (sym same i == 42)) ∙ o))

-- with another character before them
longer : (depth c d : ℕ) (cs u rest : List ℕ) → opens_comment c d ≡ false → closes_comment c d ≡ false → d ∷ cs ≡ u ++ rest → AreRests depth u → AreRests depth (c ∷ u)
longer zero c d cs u rest o x is rests = let marks = unmarked c d u cs o x (comment_nonempty rests) rest is in more marks.0 marks.1 rests
longer (suc depth) c d cs u rest o x is rests =
    let there_is : d ∷ cs ≡ rests.0 ++ (rests.1 ++ rest) = is ∙ ap (λ l. l ++ rest) rests.2 ∙ append_assoc rests.0 rests.1 rest in
    let marks = unmarked c d rests.0 cs o x (comment_nonempty rests.3) (rests.1 ++ rest) there_is in
    (c ∷ rests.0, rests.1, ap (λ l. c ∷ l) rests.2, more marks.0 marks.1 rests.3, rests.4)

abbrev CommentSplit : ℕ → List ℕ → List ℕ → Type 0
CommentSplit depth text rest = (u : List ℕ) × AreRests depth u × (text ≡ u ++ rest)

begun : (a b c d : ℕ) (u text rest : List ℕ) → ((a == c) && (b == d)) ≡ true → text ≡ u ++ rest → a ∷ b ∷ text ≡ (c ∷ d ∷ u) ++ rest
begun a b c d u text rest is split =
    let parts = both _ _ is in
    λ i. eqb-true a c parts.0 i ∷ eqb-true b d parts.1 i ∷ split i

closing : (depth : ℕ) (c d : ℕ) (cs rest : List ℕ) → closes_comment c d ≡ true
    → (comment_rest (depth - 1) cs ≡ Some rest → CommentSplit (depth - 1) cs rest)
    → cond (depth == 0) (Some cs) (comment_rest (depth - 1) cs) ≡ Some rest → CommentSplit depth (c ∷ d ∷ cs) rest
closing zero c d cs rest is higher e = let same : cs ≡ rest = cc in (42 ∷ 47 ∷ [], closed, begun c d 42 47 [] cs rest is same)
closing (suc depth) c d cs rest is higher e =
    let less : suc depth - 1 ≡ depth = omega arith in
    let above : CommentSplit depth cs rest = subst (λ n. CommentSplit n cs rest) less (higher (outside depth e)) in
    (42 ∷ 47 ∷ above.0, (42 ∷ 47 ∷ [], above.0, refl, closed, above.1), begun c d 42 47 above.0 cs rest is above.2)
  where
    outside : (depth : ℕ) → cond (suc depth == 0) (Some cs) (comment_rest (suc depth - 1) cs) ≡ Some rest → comment_rest (suc depth - 1) cs ≡ Some rest
    outside depth e = let no : (suc depth == 0) ≡ false = ne_eqb _ _ (λ h. omega arith) in ap (λ b. cond b (Some cs) (comment_rest (suc depth - 1) cs)) (sym no) ∙ e

split_at : (depth : ℕ) (c d : ℕ) (cs rest : List ℕ) (o x : Bool) → opens_comment c d ≡ o → closes_comment c d ≡ x
    → (comment_rest (depth + 1) cs ≡ Some rest → CommentSplit (depth + 1) cs rest)
    → (comment_rest (depth - 1) cs ≡ Some rest → CommentSplit (depth - 1) cs rest)
    → (comment_rest depth (d ∷ cs) ≡ Some rest → CommentSplit depth (d ∷ cs) rest)
    → cond o (comment_rest (depth + 1) cs) (cond x (cond (depth == 0) (Some cs) (comment_rest (depth - 1) cs)) (comment_rest depth (d ∷ cs))) ≡ Some rest
    → CommentSplit depth (c ∷ d ∷ cs) rest
split_at depth c d cs rest true x o_is x_is deeper higher further e =
    let up : depth + 1 ≡ suc depth = omega arith in
    let below : CommentSplit (suc depth) cs rest = subst (λ n. CommentSplit n cs rest) up (deeper e) in
    (47 ∷ 42 ∷ below.0, opened depth below.0 below.1, begun c d 47 42 below.0 cs rest o_is below.2)
split_at depth c d cs rest false true o_is x_is deeper higher further e = closing depth c d cs rest x_is higher e
split_at depth c d cs rest false false o_is x_is deeper higher further e =
    let on = further e in
    (c ∷ on.0, longer depth c d cs on.0 rest o_is x_is on.2 on.1, ap (λ l. c ∷ l) on.2)

comment_split : (depth : ℕ) (text rest : List ℕ) → comment_rest depth text ≡ Some rest → CommentSplit depth text rest
comment_split depth [] rest e = cc
comment_split depth (c ∷ []) rest e = cc
comment_split depth (c ∷ d ∷ cs) rest e =
    split_at depth c d cs rest (opens_comment c d) (closes_comment c d) refl refl (comment_split (depth + 1) cs rest) (comment_split (depth - 1) cs rest) (comment_split depth (d ∷ cs) rest) e

-- what stands before the rest is the rest of one comment
pub comment_found : (text rest : List ℕ) → comment_rest 0 text ≡ Some rest → (u : List ℕ) × IsCommentRest u × (text ≡ u ++ rest)
comment_found text rest e = comment_split 0 text rest e
