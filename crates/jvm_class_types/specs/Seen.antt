-- What a class is, as the definitions see it: each list as a list.
use Rattle.std.specs.Prelude.{ℕ, List, map, Option, option_map}
use Rattle.jvm_code_instructions.specs.Table.{Row}
use Rattle.jvm_code.specs.Decoding.{rows}
use Rattle.jvm_class_types.specs.declared.flags.ClassFlags.{ClassFlags}
use Rattle.jvm_class_types.specs.declared.flags.FieldFlags.{FieldFlags}
use Rattle.jvm_class_types.specs.declared.flags.MethodFlags.{MethodFlags}
use Rattle.jvm_class_types.specs.declared.frames.FrameType.{FrameType}
use Rattle.jvm_class_types.specs.declared.frames.Frame as rust_frame
use Rattle.jvm_class_types.specs.declared.classes.Handler as rust_handler
use Rattle.jvm_class_types.specs.declared.classes.Code as rust_code
use Rattle.jvm_class_types.specs.declared.classes.Field as rust_field
use Rattle.jvm_class_types.specs.declared.classes.Method as rust_method
use Rattle.jvm_class_types.specs.declared.classes.ClassFile as rust_class

pub record Frame : Type 0 where
  pub offset : ℕ
  pub locals : List FrameType
  pub stack : List FrameType

pub record Handler : Type 0 where
  pub start : ℕ
  pub end : ℕ
  pub handler : ℕ
  pub catch : Option (List ℕ)

-- code, each instruction by its offset and its row of the instruction table
pub record Code : Type 0 where
  pub max_stack : ℕ
  pub max_locals : ℕ
  pub instructions : List (ℕ × Row)
  pub handlers : List Handler
  pub frames : List Frame

pub record Field : Type 0 where
  pub flags : FieldFlags
  pub name : List ℕ
  pub descriptor : List ℕ

pub record Method : Type 0 where
  pub flags : MethodFlags
  pub name : List ℕ
  pub descriptor : List ℕ
  pub code : Option Code

-- a class without its pool
pub record Class : Type 0 where
  pub flags : ClassFlags
  pub name : List ℕ
  pub super_class : List ℕ
  pub interfaces : List (List ℕ)
  pub fields : List Field
  pub methods : List Method

abbrev pub frame_seen : rust_frame.Frame → Frame
frame_seen f = record { offset = f.offset; locals = f.locals.items; stack = f.stack.items }

abbrev pub handler_seen : rust_handler.Handler → Handler
handler_seen h = record { start = h.start; end = h.end; handler = h.handler; catch = h.catch }

abbrev pub code_seen : rust_code.Code → Code
code_seen c = record {
  max_stack = c.max_stack;
  max_locals = c.max_locals;
  instructions = rows c.instructions.items;
  handlers = map handler_seen c.handlers.items;
  frames = map frame_seen c.frames.items;
}

abbrev pub field_seen : rust_field.Field → Field
field_seen f = record { flags = f.flags; name = f.name; descriptor = f.descriptor }

abbrev pub method_seen : rust_method.Method → Method
method_seen m = record { flags = m.flags; name = m.name; descriptor = m.descriptor; code = option_map code_seen m.code }

abbrev pub class_seen : rust_class.ClassFile → Class
class_seen c = record {
  flags = c.flags;
  name = c.name;
  super_class = c.super_class;
  interfaces = c.interfaces.items;
  fields = map field_seen c.fields.items;
  methods = map method_seen c.methods.items;
}
