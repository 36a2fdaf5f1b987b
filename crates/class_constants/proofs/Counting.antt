-- How many fields one more class declares.
use Rattle.std.proofs.Common.{◌≡◌, ℕ, ◌+◌, List, [], ◌∷◌, ◌++◌, length, take, sym, ap, ◌∙◌, arith}
use Rattle.class_headers.specs.declared.headers.Header.{Header}
use Rattle.class_headers.specs.declared.headers.FieldHeader.{FieldHeader}
use Rattle.class_constants.specs.Fields.{fields_at, fields_declared}

declared_last : (hs : List Header) (cs : List ℕ) (x : ℕ)
    → fields_declared hs (cs ++ x ∷ []) ≡ fields_declared hs cs + length (fields_at hs x)
declared_last hs [] x = omega arith
declared_last hs (c ∷ cs) x =
    let rest : fields_declared hs (cs ++ x ∷ []) ≡ fields_declared hs cs + length (fields_at hs x) = declared_last hs cs x in
    omega (arith, rest)

pub declared_next : (hs : List Header) (cs : List ℕ) (i old new x : ℕ) (fs : List FieldHeader)
    → take (i + 1) cs ≡ take i cs ++ x ∷ [] → old ≡ fields_declared hs (take i cs) → fs ≡ fields_at hs x
    → new ≡ old + length fs → new ≡ fields_declared hs (take (i + 1) cs)
declared_next hs cs i old new x fs t o f n =
    n ∙ ap (λ k. k + length fs) o ∙ ap (λ (l : List FieldHeader). fields_declared hs (take i cs) + length l) f
    ∙ sym (declared_last hs (take i cs) x) ∙ ap (fields_declared hs) (sym t)
