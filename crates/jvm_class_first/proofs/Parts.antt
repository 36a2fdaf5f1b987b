-- Pieces one part after the other.
use Rattle.std.proofs.Common.{◌≡◌, ℕ, ◌+◌, ◌<◌, List, [], ◌∷◌, ◌++◌, length, get_or, drop, Result, Ok, Err, sym, ap, ◌∙◌, append_assoc, arith}
use Rattle.std.specs.List.{flat_map}
use Rattle.std.proofs.lemmas.List.{at_drop_more}
use Rattle.kt_base.specs.declared.stack_code.Plain.{Plain}
use Rattle.jvm_pieces.specs.Pieces.{Piece, Bytes, Mention, Draft, with_piece, with_pieces}
use Rattle.jvm_pieces.proofs.Drafts.{writes_in_parts}
use Rattle.jvm_class_first.specs.Instructions.{call, tick, step_pieces, instructions, max_stack}
use Rattle.jvm_class_first.specs.ClassFile.{u4, number, widths, class_pieces}
use Rattle.jvm_class_first.specs.Parts.{names, counts, method_front, code_front, ending}
use Rattle.jvm_pool.specs.declared.entries.Entry.TheVariants.{Utf8}
use Rattle.std.specs.Prelude.{codes, OnOk}

-- one step more is written
pub step_more : (code : List Plain) (i : ℕ) (x : Plain) (d next : Draft) → i < length code → next ≡ with_pieces (step_pieces (get_or code i x)) d
    → with_pieces (flat_map step_pieces (drop (i + 1) code)) next ≡ with_pieces (flat_map step_pieces (drop i code)) d
step_more code i x d next lt is =
    ap (with_pieces (flat_map step_pieces (drop (i + 1) code))) is
    ∙ sym (writes_in_parts (step_pieces (get_or code i x)) (flat_map step_pieces (drop (i + 1) code)) d)
    ∙ sym (at_drop_more (λ code. with_pieces (flat_map step_pieces code) d) code i x lt)

widths_both : (ps qs : List Piece) → widths (ps ++ qs) ≡ widths ps + widths qs
widths_both [] qs = omega arith
widths_both (p ∷ ps) qs = omega (arith, widths_both ps qs)

-- one step more is counted
pub width_more : (code : List Plain) (i : ℕ) (x : Plain) → i < length code
    → widths (flat_map step_pieces (drop i code)) ≡ widths (step_pieces (get_or code i x)) + widths (flat_map step_pieces (drop (i + 1) code))
width_more code i x lt =
    at_drop_more (λ code. widths (flat_map step_pieces code)) code i x lt
    ∙ widths_both (step_pieces (get_or code i x)) (flat_map step_pieces (drop (i + 1) code))

pub code_width : (code : List Plain) → widths (instructions code) ≡ widths (flat_map step_pieces code) + 4
code_width code = omega (arith, widths_both (flat_map step_pieces code) (Bytes (0xb1 ∷ []) ∷ []))

-- ---- the whole class

abbrev assembled : ℕ → List Plain → List Piece → List Piece
assembled n code rest =
    names ++ (counts ++ (method_front ++ Mention (Utf8 (codes "Code")) ∷ Bytes (u4 n) ∷ number (max_stack code) ∷ number 0 ∷ Bytes (u4 (widths (instructions code))) ∷ rest))

-- the pieces are those of the parts
class_parts : (code : List Plain) → class_pieces code ≡ names ++ (counts ++ (method_front ++ (code_front code ++ (instructions code ++ ending))))
class_parts code =
    ap (λ n. assembled n code ((instructions code ++ number 0 ∷ number 0 ∷ []) ++ number 0 ∷ [])) (omega (arith, widths_both (instructions code) (number 0 ∷ number 0 ∷ [])))
    ∙ ap (assembled (widths (instructions code) + 12) code) (append_assoc (instructions code) (number 0 ∷ number 0 ∷ []) (number 0 ∷ []))

-- three parts, one after the other
pub three_parts : {T E : Type 0} (r : Result T E) (ps qs rs : List Piece) (a b c d : Draft) → b ≡ with_pieces ps a → c ≡ with_pieces qs b
    → OnOk r (d ≡ with_pieces rs c) → OnOk r (d ≡ with_pieces (ps ++ (qs ++ rs)) a)
three_parts (Err e) ps qs rs a b c d p q last = tt
three_parts (Ok x) ps qs rs a b c d p q last =
    last
    ∙ ap (with_pieces rs) q
    ∙ sym (writes_in_parts qs rs b)
    ∙ ap (with_pieces (qs ++ rs)) p
    ∙ sym (writes_in_parts ps (qs ++ rs) a)

-- the head, and then the code and what is behind it, are the class
pub in_parts : (code : List Plain) (a b : Draft) → b ≡ with_pieces (names ++ (counts ++ method_front)) a
    → with_pieces (code_front code ++ (instructions code ++ ending)) b ≡ with_pieces (class_pieces code) a
in_parts code a b p =
    ap (with_pieces (code_front code ++ (instructions code ++ ending))) p
    ∙ sym (writes_in_parts (names ++ (counts ++ method_front)) (code_front code ++ (instructions code ++ ending)) a)
    ∙ ap (λ ps. with_pieces ps a) (sym (class_parts code))

pub instructions_in_parts : (code : List Plain) (a b c : Draft) → b ≡ with_pieces (call tick) a → c ≡ with_pieces (flat_map step_pieces code) b
    → with_piece (Bytes (0xb1 ∷ [])) c ≡ with_pieces (instructions code) a
unfolding with_pieces
instructions_in_parts code a b c p q =
    let end = flat_map step_pieces code ++ Bytes (0xb1 ∷ []) ∷ [] in
    ap (with_pieces (Bytes (0xb1 ∷ []) ∷ [])) q
    ∙ sym (writes_in_parts (flat_map step_pieces code) (Bytes (0xb1 ∷ []) ∷ []) b)
    ∙ ap (with_pieces end) p
    ∙ sym (writes_in_parts (call tick) end a)
