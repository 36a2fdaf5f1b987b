-- Locals against the parameters of a method, one by one.
use Rattle.std.proofs.Common.{◌≡◌, ℕ, suc, ◌+◌, ◌-◌, ◌<◌, List, [], length, map, Option, Some, None, sym, ap, ◌∙◌, arith}
use Rattle.jvm_pool.specs.declared.descriptors.FieldType.{FieldType}
use Rattle.jvm_class_types.specs.declared.frames.FrameType.{FrameType}
use Rattle.jvm_class_grammar.specs.Grammar.{in_frame}
use Rattle.jvm_class_grammar.specs.Kinds.{parameters, types_before_close}
use Rattle.jvm_class_start.specs.Arguments.{behind_first, next_type}
use Rattle.jvm_class_start.proofs.Walks.{types_step, types_end, types_none, parameters_are}
use Rattle.jvm_frames_judging.specs.declared.starts.Difference.{Difference}
use Rattle.jvm_frames_judging.specs.Starts.{next, behind_next, walk}

pub walk_started : (n : ℕ) (d start : List ℕ) (ls : List FrameType) (k : ℕ) → start ≡ behind_first d → n ≡ length start
    → walk (map in_frame (types_before_close (n - 0) start)) ls k ≡ walk (map in_frame (parameters d)) ls k
walk_started n d start ls k is len =
    ap (λ (m : ℕ). walk (map in_frame (types_before_close m start)) ls k) (omega (arith, len))
    ∙ ap (λ (l : List ℕ). walk (map in_frame (types_before_close (length l) l)) ls k) is
    ∙ ap (λ (l : List FieldType). walk (map in_frame l) ls k) (sym (parameters_are d))

-- one more parameter
walk_step : (n i : ℕ) (bytes rest : List ℕ) (t : FieldType) (ls : List FrameType) (k : ℕ) → i < n
    → next_type bytes ≡ Some (t, rest)
    → walk (map in_frame (types_before_close (n - i) bytes)) ls k
    ≡ behind_next (next (in_frame t) ls k) (walk (map in_frame (types_before_close (n - (i + 1)) rest)))
walk_step n i bytes rest t ls k lt is =
    let left : n - i ≡ suc (n - (i + 1)) = omega (arith, lt) in
    ap (λ (m : ℕ). walk (map in_frame (types_before_close m bytes)) ls k) left
    ∙ ap (λ (l : List FieldType). walk (map in_frame l) ls k) (types_step (n - (i + 1)) bytes rest t is)

pub walk_further : (n i : ℕ) (bytes rest : List ℕ) (t : FieldType) (ls more : List FrameType) (k j : ℕ) (all : Difference)
    → i < n → next_type bytes ≡ Some (t, rest) → next (in_frame t) ls k ≡ Some (more, j)
    → walk (map in_frame (types_before_close (n - i) bytes)) ls k ≡ all
    → walk (map in_frame (types_before_close (n - (i + 1)) rest)) more j ≡ all
walk_further n i bytes rest t ls more k j all lt is goes so_far =
    sym (walk_step n i bytes rest t ls k lt is
    ∙ ap (λ (o : Option (List FrameType × ℕ)). behind_next o (walk (map in_frame (types_before_close (n - (i + 1)) rest)))) goes)
    ∙ so_far

pub walk_stopped : (n i : ℕ) (bytes rest : List ℕ) (t : FieldType) (ls : List FrameType) (k : ℕ) (all : Difference)
    → i < n → next_type bytes ≡ Some (t, rest) → next (in_frame t) ls k ≡ None
    → walk (map in_frame (types_before_close (n - i) bytes)) ls k ≡ all → behind_next None (walk []) ≡ all
walk_stopped n i bytes rest t ls k all lt is stops so_far =
    sym (walk_step n i bytes rest t ls k lt is
    ∙ ap (λ (o : Option (List FrameType × ℕ)). behind_next o (walk (map in_frame (types_before_close (n - (i + 1)) rest)))) stops)
    ∙ so_far

pub walk_ended : (n : ℕ) (bytes : List ℕ) (ls : List FrameType) (k : ℕ) (all : Difference) → next_type bytes ≡ None
    → walk (map in_frame (types_before_close n bytes)) ls k ≡ all → walk [] ls k ≡ all
walk_ended n bytes ls k all is so_far =
    ap (λ (l : List FieldType). walk (map in_frame l) ls k) (sym (types_end n bytes is)) ∙ so_far

pub walk_all : (n : ℕ) (bytes : List ℕ) (ls : List FrameType) (k : ℕ) (all : Difference) → n ≡ 0
    → walk (map in_frame (types_before_close n bytes)) ls k ≡ all → walk [] ls k ≡ all
walk_all n bytes ls k all none so_far =
    ap (λ (l : List FieldType). walk (map in_frame l) ls k) (sym (types_none n bytes none)) ∙ so_far
