use Rattle.std.proofs.Common.{◌≡◌, ℕ, ap, ◌∙◌}
use Rattle.std.specs.Prelude.{slice_get}
use Rattle.jvm_code_instructions.specs.declared.instr.Instr.{Instr}
use Rattle.class_verify_frames.proofs.Offsets.{finds, finds_none}
use Rattle.class_verify_frames.proofs.bodies.instruction_at.Goals as goal

pub returns-in-None : goal.returns-in-None
returns-in-None c = finds_none (λ (i : ℕ × Instr). i.0) c.args.method.now.code.now.instructions c.args.method.now.starts.now c.args.offset c.requires.starts c.in-None.ensures

pub returns-in-Some : goal.returns-in-Some
returns-in-Some c =
    c.at.ensures ∙ ap (λ xs. slice_get xs c.in-Some.place) c.as_slice.ensures
    ∙ finds (λ (i : ℕ × Instr). i.0) c.args.method.now.code.now.instructions c.args.method.now.starts.now c.in-Some.place c.args.offset c.requires.starts c.requires.ascending c.in-Some.ensures
