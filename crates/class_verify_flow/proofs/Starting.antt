-- Where an instruction starts.
use Rattle.std.proofs.Common.{◌≡◌, ℕ, List, map, Option, Some, None, refl, sym, ap, subst, ◌∙◌}
use Rattle.std.specs.Prelude.{slice_get}
use Rattle.jvm_code_instructions.specs.declared.instr.Instr.{Instr}
use Rattle.class_supers.specs.Graph.{Ascends}
use Rattle.class_verify_rules.specs.Bodies.{Body, HasInstruction}
use Rattle.class_verify_frames.proofs.Offsets.{found, finds_none, mapped}

abbrev pub offset_of : ℕ × Instr → ℕ
offset_of i = i.0

pub starts_there : (b : Body) (starts : List ℕ) (place o : ℕ) → starts ≡ map (λ i. i.0) b.code.instructions → Ascends 0 starts → slice_get starts place ≡ Some o → HasInstruction b o
starts_there b starts place o is up e =
    let m = mapped offset_of b.code.instructions place o (subst (λ xs. slice_get xs place ≡ Some o) is e) in
    (m.0.1, found offset_of 0 b.code.instructions place o m.0 (subst (Ascends 0) is up) m.1 m.2 ∙ ap (λ x. Some (x, m.0.1)) m.2)

pub nothing_there : (b : Body) (starts : List ℕ) (o : ℕ) → starts ≡ map (λ i. i.0) b.code.instructions → ((k : ℕ) → slice_get starts k ≡ Some o → ⊥) → HasInstruction b o → ⊥
nothing_there b starts o is none h =
    let e : ◌≡◌ {A = Option (ℕ × Instr)} None (Some (o, h.0)) = finds_none offset_of b.code.instructions starts o is none ∙ h.1 in cc
