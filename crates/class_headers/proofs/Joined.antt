-- The headers that need no class file, put together.
use Rattle.std.proofs.Common.{◌≡◌, refl, List, [], ◌∷◌, ◌++◌}
use Rattle.class_headers.specs.declared.headers.Header.{Header}

pub joined : (own made one two : List Header) (a b x y : Header) → made ≡ own → one ≡ made ++ a ∷ [] → two ≡ one ++ b ∷ [] → a ≡ x → b ≡ y → two ≡ own ++ x ∷ [] ++ y ∷ []
joined own made one two a b x y e f g h i = rw (g, f, e, h, i) refl
