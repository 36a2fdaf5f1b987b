-- What a writer of descriptors keeps, and that it writes ASCII.
use Rattle.std.proofs.Common.{◌≡◌, ℕ, ◌+◌, ◌<◌, List, [], ◌∷◌, ◌++◌, length, take, drop, get_or, codes, refl, sym, ap, ◌∙◌, append_assoc, arith}
use Rattle.std.specs.List.{flat_map}
use Rattle.std.specs.Str.{IsAscii}
use Rattle.std.proofs.lemmas.List.{append-nil, take_at, take_more, take-append-drop}
use Rattle.std.proofs.lemmas.List.Elements.{All-nil, All-cons}
use Rattle.std.proofs.lemmas.Str.{IsAscii-append}
use Rattle.std.proofs.lemmas.Str.Ascii.{IsAscii-from_all}
use Rattle.std.proofs.lemmas.Grind.{flat_map-append}
use Rattle.jvm_pool.specs.declared.descriptors.FieldType.{FieldType}
use Rattle.jvm_pool.specs.Descriptors.{spelled_type}

pub kept_front : (old mid new x : List ℕ) → mid ≡ old ++ x → take (length mid) new ≡ mid → take (length old) new ≡ old
kept_front old mid new x is kept =
    let whole : new ≡ old ++ (x ++ drop (length mid) new) =
    sym (take-append-drop (length mid) new) ∙ ap (λ l. l ++ drop (length mid) new) (kept ∙ is) ∙ append_assoc old x (drop (length mid) new) in
    ap (take (length old)) whole ∙ take_at old (x ++ drop (length mid) new) (length old) refl

ascii_one : (b : ℕ) → b < 128 → IsAscii (b ∷ [])
ascii_one b lt = IsAscii-from_all (b ∷ []) (All-cons (λ b. b < 128) b [] lt (All-nil (λ b. b < 128)))

pub method_ascii : (parameters result : List ℕ) → IsAscii parameters → IsAscii result → IsAscii (codes "(" ++ parameters ++ codes ")" ++ result)
method_ascii parameters result p q =
    IsAscii-append ((codes "(" ++ parameters) ++ codes ")") result
    (IsAscii-append (codes "(" ++ parameters) (codes ")") (IsAscii-append (codes "(") parameters (ascii_one 40 (omega arith)) p) (ascii_one 41 (omega arith))) q

pub types_more : (types : List FieldType) (i : ℕ) (t : FieldType) → i < length types → t ≡ get_or types i t
    → flat_map spelled_type (take (i + 1) types) ≡ flat_map spelled_type (take i types) ++ spelled_type t
types_more types i t lt is =
    ap (flat_map spelled_type) (take_more types i t lt ∙ ap (λ y. take i types ++ y ∷ []) (sym is))
    ∙ flat_map-append spelled_type (take i types) (t ∷ []) ∙ ap (λ l. flat_map spelled_type (take i types) ++ l) (append-nil (spelled_type t))

pub appended : (old mid new a b whole : List ℕ) → mid ≡ old ++ a → new ≡ mid ++ b → whole ≡ a ++ b → new ≡ old ++ whole
appended old mid new a b whole first second is = second ∙ ap (λ l. l ++ b) first ∙ append_assoc old a b ∙ ap (λ l. old ++ l) (sym is)
