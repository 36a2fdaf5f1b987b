-- Which offsets follow, and the bytes of one instruction more.
use Rattle.std.proofs.Common.{◌≡◌, ℕ, ◌+◌, ◌<◌, List, [], ◌∷◌, ◌++◌, length, take, get_or, append_assoc, sym, ap, subst, ◌∙◌}
use Rattle.std.proofs.lemmas.List.{append-nil, map_more}
use Rattle.jvm_code_instructions.specs.declared.instr.Instr.{Instr}
use Rattle.jvm_code_instructions.specs.Table.{Row, row_of}
use Rattle.jvm_code_instructions.specs.Spelling.{row_bytes, Allowed}
use Rattle.jvm_code_instructions.proofs.Lengths.{Same}
use Rattle.jvm_code.specs.Spelling.{Follows, spelling}
use Rattle.jvm_code.specs.Decoding.{rows, at_row}

pub one_follows : (at : ℕ) (i : ℕ × Row) (is : List (ℕ × Row)) (whole : Type 0) → Same whole (Follows at (i ∷ is)) → i.0 ≡ at → Allowed i.1 → Same whole (Follows (i.0 + length (row_bytes i.0 i.1)) is)
one_follows at i is whole s e a = record {
  forth = λ w. subst (λ (k : ℕ). Follows (k + length (row_bytes k i.1)) is) (sym e) (s.forth w).2;
  back = λ f. s.back (e, a, subst (λ (k : ℕ). Follows (k + length (row_bytes k i.1)) is) e f);
}

-- ---- writing one instruction more

spelling_push : (is : List (ℕ × Row)) (i : ℕ × Row) → spelling (is ++ i ∷ []) ≡ spelling is ++ row_bytes i.0 i.1
spelling_push [] i = append-nil (row_bytes i.0 i.1)
spelling_push (j ∷ is) i = ap (λ (x : List ℕ). row_bytes j.0 j.1 ++ x) (spelling_push is i) ∙ sym (append_assoc (row_bytes j.0 j.1) (spelling is) (row_bytes i.0 i.1))

pub spelling_more : (code : List (ℕ × Instr)) (i : ℕ) (d : ℕ × Instr) → i < length code → spelling (rows (take (i + 1) code)) ≡ spelling (rows (take i code)) ++ row_bytes (get_or code i d).0 (row_of (get_or code i d).1)
spelling_more code i d lt = ap spelling (map_more at_row code i d lt) ∙ spelling_push (rows (take i code)) (at_row (get_or code i d))
