-- The steps of the parser of types, one equation for each way through its code.
use Rattle.std.proofs.Common.{◌≡◌, ℕ, zero, suc, ◌+◌, ◌-◌, ◌<◌, Bool, true, false, List, [], ◌∷◌, ◌++◌, map, Option, Some, None, Result, Ok, Err, refl, ap, sym, subst, ◌∙◌, sub-one, arith, MatchOption}
use Rattle.kt_tree.specs.declared.tokens.Token.{Token}
use Rattle.kt_tree.specs.declared.tokens.Sign.TheVariants as sign
use Rattle.kt_tree.specs.declared.types.TypeReference.{TypeReference}
use Rattle.kt_tree.specs.Tokens.{is_sign}
use Rattle.kt_tree.specs.Types.{TypeTree, named, nullable, parenthesized, types_of, type_tree}
use Rattle.kt_parser_steps.specs.declared.error.ParseError.{ParseError}
use Rattle.kt_grammar_parsers.specs.Parsers.{Cursor, Parser, Outcome, cursor, further, first, token, ahead, attempt, on, ◌>>◌, some_levels}
use Rattle.kt_parser_steps.specs.Cursors.{Turned}
use Rattle.kt_grammar.specs.Readers.{type_parser, type_over, type_arguments, suspend_type, behind_parenthesis, behind_types, result_type, maybe_nullable}
use Rattle.kt_parser_steps.proofs.Turns.{on_taken, on_missed, token_taken, token_missed}
use Rattle.kt_parser_steps.specs.Steps.{ReadsAs}
use Rattle.kt_parser_steps.proofs.Ways.{attempt_ok, attempt_err, past_taken, past_missed}
use Rattle.kt_parser_types.specs.Below.{behind_name, named_or_nullable, suspend_ahead, only_one}

-- ---- lists

pub only_last : {A : Type 0} (old new : List A) (last : Option A) → MatchOption last ((old ≡ []) × (new ≡ [])) (λ x. old ≡ new ++ x ∷ []) → new ≡ [] → last ≡ only_one old
only_last old new None h e = ap only_one (sym h.0)
only_last old new (Some x) h e = sym (ap only_one (h ∙ ap (λ (z : List _). z ++ x ∷ []) e))

longer : {A : Type 0} (new : List A) (x : A) → (new ≡ [] → ⊥) → None ≡ only_one (new ++ x ∷ [])
longer [] x h = absurd (h refl)
longer (a ∷ []) x h = refl
longer (a ∷ b ∷ new) x h = refl

pub only_none : {A : Type 0} (old new : List A) (last : Option A) → MatchOption last ((old ≡ []) × (new ≡ [])) (λ x. old ≡ new ++ x ∷ []) → (new ≡ [] → ⊥) → None ≡ only_one old
only_none old new None h e = absurd (e h.1)
only_none old new (Some x) h e = longer new x e ∙ ap only_one (sym h)

-- ---- types

pub question_taken : (inner whole : TypeTree) (c c1 : Cursor Token) (t : Token) → Turned (is_sign sign.Question) c (Some t) c1 → whole ≡ nullable inner → maybe_nullable inner c ≡ Ok (whole, c1)
question_taken inner whole c c1 t h e = on_taken (is_sign sign.Question) c _ _ t c1 h ∙ ap (λ (z : TypeTree). Ok (z, c1)) (sym e)

pub question_missed : (inner : TypeTree) (c c1 : Cursor Token) → Turned (is_sign sign.Question) c None c1 → maybe_nullable inner c ≡ Ok (inner, c1)
question_missed inner c c1 h = on_missed (is_sign sign.Question) c _ _ c1 h

module _ (deep : Bool) (part : Parser Token TypeTree) (some : deep ≡ true) (c : Cursor Token) where
  pub name_then_arguments : (name : List ℕ) (ts : List TypeTree) (c1 : Cursor Token) (t : TypeTree) → type_arguments part c ≡ Ok (ts, c1) → t ≡ named name (types_of ts) → behind_name deep part name c ≡ Ok (t, c1)
  name_then_arguments name ts c1 t e is = rw some (attempt_ok (type_arguments part) _ _ c ts c1 e ∙ ap (λ (z : TypeTree). Ok (z, c1)) (sym is))

  pub name_alone : (name : List ℕ) (k : List Token) → type_arguments part c ≡ Err k → (place : List Token) → place ≡ c.rest → (c1 : Cursor Token) → c1 ≡ cursor place k
      → (xs : List TypeReference) → xs ≡ [] → (t : TypeTree) → t ≡ named name (types_of (map type_tree xs)) → behind_name deep part name c ≡ Ok (t, c1)
  name_alone name k e place f c1 g xs none t is =
      let tree : t ≡ named name (types_of []) = is ∙ ap (λ (z : List TypeReference). named name (types_of (map type_tree z))) none in
      let back : c1 ≡ cursor c.rest k = g ∙ ap (λ (z : List Token). cursor z k) f in
      rw some (attempt_err (type_arguments part) _ _ c k e ∙ ap (λ (z : TypeTree). Ok (z, cursor c.rest k)) (sym tree) ∙ ap (λ (z : Cursor Token). Ok (t, z)) (sym back))

  pub over_suspend : (c1 : Cursor Token) → suspend_ahead c ≡ Ok (tt, c1) → type_over deep part c ≡ suspend_type part c1
  over_suspend c1 e = rw some (attempt_ok suspend_ahead (λ _. suspend_type part) _ c tt c1 e)

  module _ (c1 : Cursor Token) (e : suspend_ahead c ≡ Err c1.far) (back : c1.rest ≡ c.rest) where
    here : cursor c.rest c1.far ≡ c1
    here = ap (λ (z : List Token). cursor z c1.far) (sym back)

    abbrev others : Parser Token TypeTree
    others = on (is_sign sign.OpenParenthesis) (λ _. behind_parenthesis part) (named_or_nullable true part)

    pub over_parenthesis : (t : Token) (c2 : Cursor Token) → Turned (is_sign sign.OpenParenthesis) c1 (Some t) c2 → type_over deep part c ≡ behind_parenthesis part c2
    over_parenthesis t c2 h = rw some (attempt_err suspend_ahead (λ _. suspend_type part) others c c1.far e ∙ ap others here
        ∙ on_taken (is_sign sign.OpenParenthesis) c1 (λ _. behind_parenthesis part) (named_or_nullable true part) t c2 h)

    pub over_named : (c2 : Cursor Token) → Turned (is_sign sign.OpenParenthesis) c1 None c2 → type_over deep part c ≡ named_or_nullable deep part c2
    over_named c2 h = rw some (attempt_err suspend_ahead (λ _. suspend_type part) others c c1.far e ∙ ap others here
        ∙ on_missed (is_sign sign.OpenParenthesis) c1 (λ _. behind_parenthesis part) (named_or_nullable true part) c2 h)

module _ (part : Parser Token TypeTree) (c c1 : Cursor Token) where
  pub types_arrow : (t : Token) → Turned (is_sign sign.Arrow) c (Some t) c1 → (ts : List TypeTree) → behind_types part ts c ≡ result_type false part ts c1
  types_arrow t h [] = past_taken (is_sign sign.Arrow) _ c c1 t h
  types_arrow t h (a ∷ []) = on_taken (is_sign sign.Arrow) c _ _ t c1 h
  types_arrow t h (a ∷ b ∷ ts) = past_taken (is_sign sign.Arrow) _ c c1 t h

  module _ (h : Turned (is_sign sign.Arrow) c None c1) where
    pub types_one : (ts : List TypeReference) (a : TypeReference) → only_one ts ≡ Some a → (p : TypeTree) → p ≡ parenthesized (type_tree a) → behind_types part (map type_tree ts) c ≡ maybe_nullable p c1
    types_one [] a e p is = absurd cc
    types_one (b ∷ []) a e p is =
        let same : b ≡ a = cc in
        on_missed (is_sign sign.Arrow) c _ _ c1 h ∙ ap (λ (z : TypeReference). maybe_nullable (parenthesized (type_tree z)) c1) same ∙ ap (λ (z : TypeTree). maybe_nullable z c1) (sym is)
    types_one (b ∷ d ∷ ts) a e p is = absurd cc

    pub types_none : (ts : List TypeReference) → only_one ts ≡ None → behind_types part (map type_tree ts) c ≡ Err c1.far
    types_none [] e = past_missed (is_sign sign.Arrow) _ c c1 h
    types_none (b ∷ []) e = absurd cc
    types_none (b ∷ d ∷ ts) e = past_missed (is_sign sign.Arrow) _ c c1 h

pub type_zero : (n : ℕ) (c : Cursor Token) → n ≡ 0 → type_parser n c ≡ Err (further c.rest c.far)
unfolding type_parser
type_zero zero c h = refl
type_zero (suc n) c h = absurd (omega arith)

pub type_less : (n : ℕ) (c : Cursor Token) → 0 < n → type_parser n c ≡ type_over (some_levels (n - 1)) (type_parser (n - 1)) c
unfolding type_parser
type_less zero c h = absurd (omega arith)
type_less (suc n) c h = rw sub-one refl
