-- Appending several parts in turn.
use Rattle.std.proofs.Common.{◌≡◌, ℕ, ◌%◌, ◌^◌, List, ◌++◌, ◌∙◌, append_assoc, arith}

pub low_bits : (n : ℕ) → n % 2 ^ 32 % 65536 ≡ n % 2 ^ 16
low_bits n = omega arith

pub five_parts : (old a b c d e x1 x2 x3 x4 x5 : List ℕ) → x1 ≡ old ++ a → x2 ≡ x1 ++ b → x3 ≡ x2 ++ c → x4 ≡ x3 ++ d → x5 ≡ x4 ++ e → x5 ≡ old ++ (a ++ (b ++ (c ++ (d ++ e))))
five_parts old a b c d e x1 x2 x3 x4 x5 e1 e2 e3 e4 e5 = e5 ∙ rw (e4, e3, e2, e1) (simp append_assoc)

pub four_parts : (old a b c d x1 x2 x3 x4 : List ℕ) → x1 ≡ old ++ a → x2 ≡ x1 ++ b → x3 ≡ x2 ++ c → x4 ≡ x3 ++ d → x4 ≡ old ++ (a ++ (b ++ (c ++ d)))
four_parts old a b c d x1 x2 x3 x4 e1 e2 e3 e4 = e4 ∙ rw (e3, e2, e1) (simp append_assoc)
