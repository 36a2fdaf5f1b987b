-- What a parser that takes nothing gives, and what is made of a part that may be absent.
use Rattle.std.proofs.Common.{◌≡◌, Bool, Option, Some, None, Ok, refl, ap, sym, subst, option_map}
use Rattle.kt_grammar_parsers.specs.Parsers.{Cursor, Parser, pure, attempt_if}
use Rattle.kt_parser_steps.specs.Chosen.{FindsIf}
use Rattle.kt_parser_steps.proofs.Choosing.{attempt_if_gives, attempt_if_passes}

-- what was made, as its maker tells it
pub so_made : {T A : Type 0} (a b : A) (c : Cursor T) → b ≡ a → pure a c ≡ Ok (b, c)
so_made a b c is = ap (λ (z : _). Ok (z, c)) (sym is)

-- what was found, by another name
pub found_is : {T X Y : Type 0} (there : Bool) (view : X → Y) (p : Parser T Y) (c : Cursor T) (found given : Option X) (c1 : Cursor T) → FindsIf there view p c found c1 → found ≡ given → FindsIf there view p c given c1
found_is there view p c found given c1 h is = subst (λ (z : Option _). FindsIf there view p c z c1) is h

module _ {T B X Y : Type 0} (there allowed : Bool) (view : X → Y) (p : Parser T Y) (make : Option Y → B) (c c1 : Cursor T) where
  pub maybe_made : (found : Option X) → there ≡ allowed → FindsIf there view p c found c1
      → attempt_if allowed p (λ y. pure (make (Some y))) (pure (make None)) c ≡ Ok (make (option_map view found), c1)
  maybe_made (Some x) same h = attempt_if_gives there allowed view p _ _ c c1 _ x same h refl
  maybe_made None same h = attempt_if_passes there allowed view p _ _ c c1 _ same h refl
