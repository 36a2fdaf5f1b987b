-- The code of a method, where each class that it names is a number (JVMS SE 8 §4.7.3, §4.7.4).
use Rattle.std.specs.Prelude.{ℕ, List, [], ◌∷◌, map, reverse, flat_map, Option, None, Some}
use Rattle.jvm_class_types.specs.declared.classes.Code.{Code}
use Rattle.jvm_class_types.specs.declared.classes.Handler.{Handler}
use Rattle.jvm_class_types.specs.declared.frames.Frame.{Frame}
use Rattle.jvm_class_types.specs.declared.frames.FrameType.{FrameType}
use Rattle.jvm_class_types.specs.declared.frames.FrameType.TheVariants as type
use Rattle.class_headers.specs.declared.headers.Header.{Header}
use Rattle.class_linked.specs.Numbers.{throwable_class}
use Rattle.class_linked.specs.declared.kinds.Kind.{Kind}
use Rattle.class_linked.specs.declared.kinds.Kind.TheVariants as kind
use Rattle.class_linked.specs.declared.code.LinkedCode.{LinkedCode}
use Rattle.class_linked.specs.declared.code.LinkedFrame.{LinkedFrame}
use Rattle.class_linked.specs.declared.code.LinkedHandler.{LinkedHandler}
use Rattle.class_constants.specs.Kinds.{class_of}

-- in the units of local variables: a `long` takes two
abbrev pub in_units : Kind → List Kind
in_units kind.Long = kind.Long ∷ kind.Top ∷ []
in_units k = k ∷ []

module _ (hs : List Header) where
  -- ---- frames

  abbrev pub frame_kind : FrameType → Kind
  frame_kind type.Top = kind.Top
  frame_kind type.Integer = kind.Int
  frame_kind type.Long = kind.Long
  frame_kind type.Null = kind.Null
  frame_kind type.UninitializedThis = kind.FreshThis
  frame_kind (type.Object name) = kind.Object (class_of hs name)
  frame_kind (type.Uninitialized offset) = kind.Fresh offset

  abbrev pub local_kinds : List FrameType → List Kind
  local_kinds types = flat_map (λ t. in_units (frame_kind t)) types

  -- the top of the stack first
  abbrev pub stack_kinds : List FrameType → List Kind
  stack_kinds types = reverse (map frame_kind types)

  abbrev pub linked_frame : Frame → LinkedFrame
  linked_frame f = record {
    offset = f.offset;
    locals = local_kinds f.locals.items;
    stack = stack_kinds f.stack.items;
  }

  -- ---- the exception table

  -- an entry without a class catches every throwable
  abbrev pub caught : Option (List ℕ) → ℕ
  caught None = throwable_class
  caught (Some name) = class_of hs name

  abbrev pub linked_handler : Handler → LinkedHandler
  linked_handler h = record { start = h.start; end = h.end; handler = h.handler; catch = caught h.catch }

  -- ---- code

  abbrev pub linked_code : Code → LinkedCode
  linked_code c = record {
    max_stack = c.max_stack;
    max_locals = c.max_locals;
    instructions = c.instructions.items;
    handlers = map linked_handler c.handlers.items;
    frames = map linked_frame c.frames.items;
  }
