-- What the code holds, as the definitions speak of it.
use Rattle.std.specs.Prelude.{List, ◌≡◌, true, false, Bool, ℕ, length, drop, map}
use Rattle.class_supers.specs.Graph.{Ascends}
use Rattle.class_linked.specs.declared.classes.Linked.{Linked}
use Rattle.class_linked.specs.declared.kinds.Kind.{Kind}
use Rattle.class_verify_rules.specs.Kinds.{TopFits}
use Rattle.class_verify_rules.specs.Frames.{Frame}
use Rattle.class_verify_rules.specs.Bodies.{Body}
use Rattle.class_verify_frames.specs.declared.bodies.Body.{Body as HeldBody}
use Rattle.class_verify_frames.specs.declared.frames.Frame.{Frame as HeldFrame}

abbrev pub body : HeldBody → Body
body b = record {
  program = b.program.now;
  class = b.class;
  constants = b.constants.now;
  method = b.method.now;
  code = b.code.now;
}

abbrev pub frame : HeldFrame → Frame
frame f = record { locals = f.locals.items; stack = f.stack; raw = f.raw }

-- the offsets that are held are those of the instructions and of the frames, and ascend
pub record IsIndexed (b : HeldBody) : Type 0 where
  pub starts : b.starts.now ≡ map (λ i. i.0) b.code.now.instructions
  pub ascending : Ascends 0 b.starts.now
  pub frame_starts : b.frame_starts.now ≡ map (λ f. f.offset) b.code.now.frames
  pub in_order : Ascends 0 b.frame_starts.now

-- the topmost operands were what is wanted, and are taken
abbrev pub Took : Linked → List Kind → List Kind → Bool → List Kind → Type 0
Took p wanted old true new = TopFits p wanted old × (new ≡ drop (length wanted) old)
Took p wanted old false new = TopFits p wanted old → ⊥
