-- A turn of a list that goes on as long as a comma follows.
use Rattle.std.proofs.Common.{◌≡◌, Bool, List, [], ◌∷◌, ◌++◌, Some, None, Ok, Err, refl, ap, sym, ◌∙◌, inl, inr}
use Rattle.kt_tree.specs.declared.tokens.Token.{Token}
use Rattle.kt_tree.specs.declared.tokens.Sign.TheVariants as sign
use Rattle.kt_tree.specs.Tokens.{is_sign}
use Rattle.kt_grammar_parsers.specs.Parsers.{Cursor, Parser, cursor, token, skip, ◌>>◌, more_turn}
use Rattle.kt_parser_steps.specs.Cursors.{Turned}
use Rattle.kt_parser_steps.proofs.Turns.{token_taken, token_missed}
use Rattle.kt_parser_steps.specs.declared.lists.Lead.{Lead}
use Rattle.kt_parser_steps.specs.Steps.{lead_of, led_comma}
use Rattle.kt_parser_steps.proofs.Ways.{attempt_ok, attempt_err}

-- the comma behind what may stand before it
module _ (l : Lead) (c c1 c2 : Cursor Token) (led : lead_of l c ≡ Ok (tt, c1)) where
  pub led_found : (t : Token) → Turned (is_sign sign.Comma) c1 (Some t) c2 → led_comma l c ≡ Ok (t, c2)
  led_found t h = rw led (token_taken (is_sign sign.Comma) c1 t c2 h)

  pub led_missed : Turned (is_sign sign.Comma) c1 None c2 → (place : List Token) (c3 : Cursor Token) → c3 ≡ cursor place c2.far → led_comma l c ≡ Err c3.far
  led_missed h place c3 back = rw led (token_missed (is_sign sign.Comma) c1 c2 h ∙ ap (λ (z : Cursor Token). Err z.far) (sym back))

pub led_back : (c c3 : Cursor Token) (place far : List Token) → place ≡ c.rest → c3 ≡ cursor place far → c3.rest ≡ c.rest
led_back c c3 place far here back = ap (λ (z : Cursor Token). z.rest) back ∙ here

module _ {T A : Type 0} (lead : Parser T (Unit {0})) (comma line : T → Bool) (item : Parser T A) (xs : List A) (c c1 : Cursor T) where
  module _ (t : T) (found : (lead >> token comma) c ≡ Ok (t, c1)) (c2 : Cursor T) (skipped : skip line c1 ≡ Ok (tt, c2)) where
    pub more_goes : (x : A) (c3 : Cursor T) → item c2 ≡ Ok (x, c3) → (ys : List A) → ys ≡ xs ++ x ∷ [] → more_turn lead comma line item xs c ≡ Ok (inl ys, c3)
    more_goes x c3 e ys more = attempt_ok (lead >> token comma) _ _ c t c1 found ∙ rw skipped (rw e (ap (λ (z : List A). Ok (inl z, c3)) (sym more)))

    pub more_fails : (k : List T) → item c2 ≡ Err k → more_turn lead comma line item xs c ≡ Err k
    more_fails k e = attempt_ok (lead >> token comma) _ _ c t c1 found ∙ rw skipped (rw e refl)

  pub more_ends : (lead >> token comma) c ≡ Err c1.far → c1.rest ≡ c.rest → more_turn lead comma line item xs c ≡ Ok (inr xs, c1)
  more_ends missed back = attempt_err (lead >> token comma) _ _ c c1.far missed ∙ ap (λ (z : List T). Ok (inr xs, cursor z c1.far)) (sym back)
