-- What a call of the cursor says of the step that it is.
use Rattle.std.proofs.Common.{◌≡◌, Bool, false, List, [], ◌∷◌, Some, None, Ok, Err, refl, sym, ap, ◌∙◌}
use Rattle.kt_grammar_parsers.specs.Parsers.{Cursor, Parser, cursor, further, first, token, on}
use Rattle.kt_parser_steps.specs.Cursors.{Turned}

no_turn : {T B : Type 0} (test : T → Bool) (go : T → Parser T B) (other : Parser T B) (ts far : List T) → first test ts ≡ false → on test go other (cursor ts far) ≡ other (cursor ts (further ts far))
unfolding on
no_turn test go other [] far e = refl
no_turn test go other (t ∷ ts) far e = rw e refl

no_token : {T : Type 0} (test : T → Bool) (ts far : List T) → first test ts ≡ false → token test (cursor ts far) ≡ Err (further ts far)
unfolding token
no_token test [] far e = refl
no_token test (t ∷ ts) far e = rw e refl

module _ {T : Type 0} (test : T → Bool) (c : Cursor T) where
  pub on_taken : {B : Type 0} (go : T → Parser T B) (other : Parser T B) (t : T) (c' : Cursor T) → Turned test c (Some t) c' → on test go other c ≡ go t c'
  unfolding on
  on_taken go other t c' h =
      let there : on test go other c ≡ on test go other (cursor (t ∷ c'.rest) c'.far) = ap (λ (z : List T). on test go other (cursor z c.far)) h.0 ∙ ap (λ (z : List T). on test go other (cursor (t ∷ c'.rest) z)) (sym h.2) in
      there ∙ rw h.1 refl

  pub on_missed : {B : Type 0} (go : T → Parser T B) (other : Parser T B) (c' : Cursor T) → Turned test c None c' → on test go other c ≡ other c'
  on_missed go other c' h = no_turn test go other c.rest c.far h.0 ∙ ap other (sym h.1)

  pub token_taken : (t : T) (c' : Cursor T) → Turned test c (Some t) c' → token test c ≡ Ok (t, c')
  unfolding token
  token_taken t c' h =
      let there : token test c ≡ token test (cursor (t ∷ c'.rest) c'.far) = ap (λ (z : List T). token test (cursor z c.far)) h.0 ∙ ap (λ (z : List T). token test (cursor (t ∷ c'.rest) z)) (sym h.2) in
      there ∙ rw h.1 refl

  pub token_missed : (c' : Cursor T) → Turned test c None c' → token test c ≡ Err c'.far
  token_missed c' h = no_token test c.rest c.far h.0 ∙ ap (λ (z : Cursor T). Err z.far) (sym h.1)
