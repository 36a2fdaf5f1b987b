-- Bytes that are taken one piece after another.
use Rattle.std.proofs.Common.{◌≡◌, ℕ, ◌-◌, ◌≤◌, List, [], ◌++◌, Option, None, Some, length, take, drop, refl, sym, ap, subst, ◌∙◌, Result, Ok, arith}
use Rattle.std.proofs.lemmas.List.{append-nil, append_assoc, take_all, take-append-drop, length-drop}
use Rattle.std.specs.Io.KnownBytes.{Appends, Keeps, WriteAppends}

pub appends_nothing : (known : Option (List ℕ)) → Appends known known []
appends_nothing None = tt
appends_nothing (Some xs) = sym (append-nil xs)

pub appends_more : (a b c : Option (List ℕ)) (x y : List ℕ) → Appends a b x → Appends b c y → Appends a c (x ++ y)
appends_more None b c x y h k = tt
appends_more (Some xs) None c x y h k = absurd h
appends_more (Some xs) (Some ys) None x y h k = absurd k
appends_more (Some xs) (Some ys) (Some zs) x y h k = k ∙ ap (λ l. l ++ y) h ∙ append_assoc xs x y

pub appends_kept : (a b c : Option (List ℕ)) (x : List ℕ) → Appends a b x → Keeps b c → Appends a c x
appends_kept None b c x h k = tt
appends_kept (Some xs) None c x h k = absurd h
appends_kept (Some xs) (Some ys) None x h k = absurd k
appends_kept (Some xs) (Some ys) (Some zs) x h k = k ∙ h

-- one piece more is taken from the front of the rest
pub takes_more : (a b c : Option (List ℕ)) (bytes front rest : List ℕ) (count : ℕ) → count ≤ length rest
    → bytes ≡ front ++ rest → Appends a b front → Appends b c (take count rest)
    → (more : List ℕ) × (bytes ≡ more ++ take (length rest - count) (drop count rest)) × Appends a c more
takes_more a b c bytes front rest count within is before piece =
    let all : take (length rest - count) (drop count rest) ≡ drop count rest = take_all _ _ (omega (arith, length-drop count rest)) in
    let split : bytes ≡ (front ++ take count rest) ++ drop count rest = is ∙ ap (λ l. front ++ l) (sym (take-append-drop count rest)) ∙ sym (append_assoc front (take count rest) (drop count rest)) in
    (front ++ take count rest, (rw all split), appends_more a b c front (take count rest) before piece)

pub keeps_itself : (known : Option (List ℕ)) → Keeps known known
keeps_itself None = tt
keeps_itself (Some xs) = refl

-- bytes that were kept grow
pub kept_appends : (a b c : Option (List ℕ)) (x : List ℕ) → Keeps a b → Appends b c x → Appends a c x
kept_appends None b c x h k = tt
kept_appends (Some xs) None c x h k = absurd h
kept_appends (Some xs) (Some ys) None x h k = absurd k
kept_appends (Some xs) (Some ys) (Some zs) x h k = k ∙ ap (λ l. l ++ x) h

-- bytes that were kept are kept
pub kept_keeps : (a b c : Option (List ℕ)) → Keeps a b → Keeps b c → Keeps a c
kept_keeps None b c h k = tt
kept_keeps (Some xs) None c h k = absurd h
kept_keeps (Some xs) (Some ys) None h k = absurd k
kept_keeps (Some xs) (Some ys) (Some zs) h k = k ∙ h

-- no byte more is none
pub appends_none : (a b : Option (List ℕ)) → Appends a b [] → Keeps a b
appends_none None b h = tt
appends_none (Some xs) None h = absurd h
appends_none (Some xs) (Some ys) h = h ∙ append-nil xs

-- a write that took no byte
pub writes_none : {E : Type 0} (a b : Option (List ℕ)) (r : Result ℕ E) (bytes : List ℕ) (n : ℕ) → WriteAppends a b r bytes → r ≡ Ok n → n ≡ 0 → Keeps a b
writes_none {E} a b r bytes n writes is none =
    let taken : WriteAppends {E = E} a b (Ok n) bytes = subst (λ o. WriteAppends {E = E} a b o bytes) is writes in
    appends_none a b (subst (λ (k : ℕ). Appends a b (take k bytes)) none taken)
