-- The bytes of a pool, entry by entry.
use Rattle.std.proofs.Common.{◌≡◌, ℕ, zero, suc, ◌+◌, ◌<◌, List, [], ◌∷◌, ◌++◌, length, take, get_or, sym, ap, ◌∙◌, append_assoc, arith}
use Rattle.std.specs.List.{flat_map}
use Rattle.std.proofs.lemmas.List.{append-nil, take_more}
use Rattle.std.proofs.lemmas.Grind.{flat_map-append}
use Rattle.jvm_pool.specs.declared.entries.Entry.{Entry}
use Rattle.jvm_class_first.specs.ClassFile.{IsOfPlain, AreOfPlain, cp_info}

-- one entry more is written
pub entry_more : (pool es : List Entry) (i : ℕ) (e : Entry) (old into new head : List ℕ) → i < length es → e ≡ get_or es i e
    → into ≡ old ++ (head ++ flat_map (cp_info pool) (take i es)) → new ≡ into ++ cp_info pool e
    → new ≡ old ++ (head ++ flat_map (cp_info pool) (take (i + 1) es))
entry_more pool es i e old into new head lt is first second =
    let f = flat_map (cp_info pool) in
    let more : f (take (i + 1) es) ≡ f (take i es) ++ cp_info pool e =
    ap f (take_more es i e lt ∙ ap (λ y. take i es ++ y ∷ []) (sym is))
    ∙ flat_map-append (cp_info pool) (take i es) (e ∷ []) ∙ ap (λ l. f (take i es) ++ l) (append-nil (cp_info pool e)) in
    second
    ∙ ap (λ l. l ++ cp_info pool e) first
    ∙ append_assoc old (head ++ f (take i es)) (cp_info pool e)
    ∙ ap (λ l. old ++ l) (append_assoc head (f (take i es)) (cp_info pool e) ∙ ap (λ l. head ++ l) (sym more))

pub kind_at : (es : List Entry) (i : ℕ) (d : Entry) → AreOfPlain es → i < length es → IsOfPlain (get_or es i d)
kind_at [] i d kinds lt = absurd (omega arith)
kind_at (e ∷ es) zero d kinds lt = kinds.0
kind_at (e ∷ es) (suc i) d kinds lt = kind_at es i d kinds.1 (omega arith)
