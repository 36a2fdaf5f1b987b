-- What the parser of files gives of a list of tokens whose last one alone is the end of the text.
use Rattle.std.proofs.Common.{◌≡◌, ℕ, zero, suc, ◌+◌, ◌-◌, ◌≤◌, ◌<◌, Bool, true, false, not, ◌&&◌, List, [], ◌∷◌, ◌++◌, length, take, drop, Option, Result, Ok, Err, Some, min, slice_get, refl, sym, ap, subst, ◌∙◌, append_assoc, arith, inl, inr, ◌⊎◌, length-append}
use Rattle.std.proofs.lemmas.List.{append-nil, take_at}
use Rattle.kt_base.specs.declared.refusals.Pos.{Pos}
use Rattle.kt_base.specs.declared.refusals.Refusal.{Refusal}
use Rattle.kt_base.specs.declared.refusals.Kind.{Kind}
use Rattle.kt_base.specs.declared.refusals.Kind.TheVariants as stage
use Rattle.kt_base.specs.declared.refusals.FrontErr.{FrontErr}
use Rattle.kt_base.specs.declared.refusals.FrontErr.TheVariants as front_err
use Rattle.kt_tree.specs.declared.declarations.FileTree.{FileTree}
use Rattle.kt_tree.specs.declared.tokens.Token.{Token}
use Rattle.kt_tree.specs.Declarations.{DeclarationTree}
use Rattle.kt_grammar_parsers.specs.Parsers.{Cursor, Outcome, cursor}
use Rattle.kt_grammar_parsers.specs.Phrases.{Loop, ends, turns, ItemTurn}
use Rattle.kt_grammar.specs.Terminals.{is_end, is_separator}
use Rattle.kt_grammar_parsers.specs.Sentences.{IsSentence, IsPrefix, IsRefusedAt}
use Rattle.kt_grammar.specs.Declarations.{IsDeclaration, IsFile, IsFileOf, IsFileRefusedAt, most_levels}
use Rattle.kt_grammar.specs.DeclarationParser.{file_parser}
use Rattle.kt_grammar_parsers.proofs.Ends.{Tied}
use Rattle.kt_grammar.proofs.declarations.FunctionsRead.{Expressions, Statements}
use Rattle.kt_grammar.proofs.declarations.FilesRead.{expressions_are_read, statements_are_read, file_correct, read_is_file_over}
use Rattle.kt_grammar.proofs.declarations.FileLaws.{file_is_read, file_is_refused}
use Rattle.kt_grammar.proofs.statements.LevelsRead.{levels_read}
use Rattle.kt_tree.specs.Tokens.{ends_alone}
use Rattle.kt_parser.specs.Trees.{IsPlaceAt, IsSyntaxRefused}

-- ---- the end of the text comes last in a file, and nothing stands behind it

-- the last of the tokens is the end of the text
record LastIsEnd (u : List Token) : Type 0 where
  pub before : List Token
  pub last : Token
  pub is : u ≡ before ++ last ∷ []
  pub end : is_end last ≡ true

behind_more : (v w : List Token) → LastIsEnd w → LastIsEnd (v ++ w)
behind_more v w l = record { before = v ++ l.before; last = l.last; is = ap (λ (z : List Token). v ++ z) l.is ∙ sym (append_assoc v l.before (l.last ∷ [])); end = l.end }

loop_ends_in_end : (ds : List DeclarationTree) (b : List DeclarationTree × Token) (u rest : List Token) → Loop (ItemTurn is_separator is_end IsDeclaration) ds b u rest → LastIsEnd u
loop_ends_in_end ds b u rest (ends (inl s)) =
    let here : u ≡ s.value ∷ [] = s.is ∙ ap (λ (z : List Token). z ++ s.back) s.phrase.one ∙ ap (λ (z : List Token). s.value ∷ z) s.phrase'.none in
    record { before = []; last = s.value; is = here; end = s.phrase.passes }
loop_ends_in_end ds b u rest (ends (inr s)) = absurd (never (s.phrase'.phrase'.value))
  where
    never : {b : List DeclarationTree × Token} {x : List DeclarationTree} → inr b ≡ inl x → ⊥
    never e = cc
loop_ends_in_end ds b u rest (turns {y = y} {v = v} {w = w} t more is) = subst LastIsEnd (sym is) (behind_more v w (loop_ends_in_end y b w rest more))

file_ends_in_end : (file : List DeclarationTree) (u rest : List Token) → IsFile file u rest → LastIsEnd u
file_ends_in_end file u rest s =
    let items = s.phrase in
    let all : u ≡ s.front = s.is ∙ ap (λ (z : List Token). s.front ++ z) s.phrase'.none ∙ append-nil s.front in
    subst LastIsEnd (sym (all ∙ items.is)) (behind_more items.front items.back (loop_ends_in_end [] s.value items.back (s.back ++ rest) items.phrase'))

nothing_behind : (before : List Token) (last : Token) (rest : List Token) → is_end last ≡ true → ends_alone (before ++ last ∷ rest) ≡ true → rest ≡ []
nothing_behind [] last [] e h = refl
nothing_behind [] last (t ∷ rest) e h = absurd (clash (is_end last) e h)
  where
    clash : (b : Bool) → b ≡ true → (not b && ends_alone (t ∷ rest)) ≡ true → ⊥
    clash true e h = cc
    clash false e h = cc
nothing_behind (t ∷ []) last rest e h = nothing_behind [] last rest e (second (is_end t) _ h)
  where
    second : (a b : Bool) → (not a && b) ≡ true → b ≡ true
    second true b h = absurd (cc)
    second false b h = h
nothing_behind (t ∷ u ∷ before) last rest e h = nothing_behind (u ∷ before) last rest e (second (is_end t) _ h)
  where
    second : (a b : Bool) → (not a && b) ≡ true → b ≡ true
    second true b h = absurd (cc)
    second false b h = h

E : Expressions
E = expressions_are_read (levels_read most_levels)

S : Statements
S = statements_are_read (levels_read most_levels)

-- what is read is a file
pub is_file : (ts : List Token) (file : List DeclarationTree) (c : Cursor Token) → ends_alone ts ≡ true → file_parser (cursor ts ts) ≡ Ok (file, c) → IsFileOf ts file
is_file ts file c alone e =
    let tied : Tied (cursor ts ts) = record { whole = ts; before = []; before' = []; is = refl; is' = refl } in
    let x = (file_correct E S).sound (cursor ts ts) file c tied e in
    let l = file_ends_in_end file x.read c.rest x.phrase in
    let split : ts ≡ l.before ++ l.last ∷ c.rest = x.is ∙ ap (λ (z : List Token). z ++ c.rest) l.is ∙ append_assoc l.before (l.last ∷ []) c.rest in
    read_is_file_over E S ts file c e (nothing_behind l.before l.last c.rest l.end (subst (λ (z : List Token). ends_alone z ≡ true) split alone))

-- ---- one answer alone

abbrev done : List DeclarationTree × Cursor Token → Outcome Token (List DeclarationTree)
done x = Ok x

done_is : (a b : List DeclarationTree) (c d : Cursor Token) → done (a, c) ≡ done (b, d) → a ≡ b
done_is a b c d e = let pairs : (a, c) ≡ (b, d) = cc in ap (λ (q : List DeclarationTree × Cursor Token). q.0) pairs

pub file_is : (ts : List Token) (found file : List DeclarationTree) (c : Cursor Token) → file_parser (cursor ts ts) ≡ Ok (found, c) → IsFileOf ts file → found ≡ file
file_is ts found file c e s = let x = file_is_read ts file s in done_is found file c (cursor [] x.0) (sym e ∙ x.1)

pub refused_is_no_file : (ts k : List Token) (file : List DeclarationTree) → file_parser (cursor ts ts) ≡ Err k → IsFileOf ts file → ⊥
refused_is_no_file ts k file e s = (file_is_refused ts k e).whole file s

earlier : (ts : List Token) (a b : ℕ) → IsFileRefusedAt ts a → IsFileRefusedAt ts b → a < b → ⊥
earlier ts a b r s less =
    let within : a < length ts = omega (arith, less, s.within) in
    let p = s.prefix in
    let shorter : take (a + 1) ts ++ (drop (a + 1) (take b ts) ++ p.0) ≡ take b ts ++ p.0 = sym (append_assoc (take (a + 1) ts) (drop (a + 1) (take b ts)) p.0) ∙ ap (λ (z : List Token). z ++ p.0) (regroup ts (a + 1) b (omega (arith, less))) in
    r.longer within (drop (a + 1) (take b ts) ++ p.0, p.1, subst (λ (z : List Token). IsFileOf z p.1) (sym shorter) p.2)
  where
    regroup : (ts : List Token) (m n : ℕ) → m ≤ n → take m ts ++ drop m (take n ts) ≡ take n ts
    regroup ts zero n h = refl
    regroup [] (suc m) zero h = absurd (omega (arith, h))
    regroup [] (suc m) (suc n) h = refl
    regroup (t ∷ ts) (suc m) zero h = absurd (omega (arith, h))
    regroup (t ∷ ts) (suc m) (suc n) h = ap (λ (z : List Token). t ∷ z) (regroup ts m n (omega (arith, h)))

pub one_index : (ts : List Token) (a b : ℕ) → IsFileRefusedAt ts a → IsFileRefusedAt ts b → a ≡ b
one_index ts a b r s = omega (arith, earlier ts a b r s, earlier ts b a s r)

-- ---- from a cursor at the first token

abbrev pub the_error : Refusal → Result FileTree FrontErr
the_error r = Err (front_err.Refused r)

pub parsed_reads : (ts : List Token) (c : Cursor Token) (file : List DeclarationTree) (new : Cursor Token) → c ≡ cursor ts ts → file_parser c ≡ Ok (file, new) → file_parser (cursor ts ts) ≡ Ok (file, new)
parsed_reads ts c file new is e = ap file_parser (sym is) ∙ e

pub refused_reads : (ts : List Token) (c : Cursor Token) (k : List Token) → c ≡ cursor ts ts → file_parser c ≡ Err k → file_parser (cursor ts ts) ≡ Err k
refused_reads ts c k is e = ap file_parser (sym is) ∙ e

-- the refusal that the code gives is the one that the definition gives
pub refused_here : (ts k : List Token) (left : ℕ) (place : Pos) → file_parser (cursor ts ts) ≡ Err k → left ≡ length k → IsPlaceAt ts (length ts - left) place
    → IsSyntaxRefused ts (record { kind = stage.Syntax; pos = place })
refused_here ts k left place e n p = record {
  kind = refl;
  at = length ts - length k;
  refused = file_is_refused ts k e;
  place = subst (λ (m : ℕ). IsPlaceAt ts (length ts - m) place) n p;
}

same_place : (ts : List Token) (at : ℕ) (a b : Pos) → IsPlaceAt ts at a → IsPlaceAt ts at b → a ≡ b
same_place ts at a b p q = p.2 ∙ ap (λ (t : Token). t.pos) (same_token (slice_get ts (min at (length ts - 1))) p.0 q.0 p.1 q.1) ∙ sym q.2
  where
    same_token : (o : Option Token) (t u : Token) → o ≡ Some t → o ≡ Some u → t ≡ u
    same_token o t u e f = cc

-- there is one refusal alone
pub one_refusal : (ts : List Token) (r s : Refusal) → IsSyntaxRefused ts r → IsSyntaxRefused ts s → r ≡ s
one_refusal ts r s x y =
    let index : x.at ≡ y.at = one_index ts x.at y.at x.refused y.refused in
    let place : r.pos ≡ s.pos = same_place ts y.at r.pos s.pos (subst (λ (n : ℕ). IsPlaceAt ts n r.pos) index x.place) y.place in
    let kinds : r.kind ≡ s.kind = x.kind ∙ sym y.kind in
    ap (λ (k : Kind). refusal k r.pos) kinds ∙ ap (λ (p : Pos). refusal s.kind p) place
  where
    refusal : Kind → Pos → Refusal
    refusal kind place = record { kind = kind; pos = place }

pub told : (a b : Refusal) → the_error a ≡ the_error b → a ≡ b
told a b e = cc
