-- The grammar of what stands behind the constant pool of a class file (JVMS SE 8 §4.1, §4.5, §4.6, §4.7).
use Rattle.std.specs.Prelude.{ℕ, Bool, true, false, ◌&&◌, List, [], ◌∷◌, ◌++◌, length, map, Option, None, Some, nat_lt, ◌==◌, codes, if◌then◌else◌}
use Rattle.std.specs.Int.{w16, w32}
use Rattle.jvm_code_instructions.specs.Table.{Row}
use Rattle.jvm_code.specs.Spelling.{spelling}
use Rattle.jvm_pool.specs.declared.entries.Entry.{Entry}
use Rattle.jvm_pool.specs.declared.entries.Entry.TheVariants as entry
use Rattle.jvm_pool.specs.declared.descriptors.FieldType.{FieldType}
use Rattle.jvm_pool.specs.declared.descriptors.FieldType.TheVariants as field_type
use Rattle.jvm_class_types.specs.declared.flags.ClassFlags.{ClassFlags}
use Rattle.jvm_class_types.specs.declared.flags.FieldFlags.{FieldFlags}
use Rattle.jvm_class_types.specs.declared.flags.MethodFlags.{MethodFlags}
use Rattle.jvm_class_types.specs.declared.flags.MethodFlags.TheVariants as method_flag
use Rattle.jvm_class_types.specs.declared.frames.FrameType.{FrameType}
use Rattle.jvm_class_types.specs.declared.frames.FrameType.TheVariants as type
use Rattle.jvm_class_types.specs.Flags.{class_flags, class_flags_of, field_flags, field_flags_of, method_flags, method_flags_of}
use Rattle.jvm_class_types.specs.Seen.{Frame, Handler, Code, Field, Method, Class}
use Rattle.jvm_class_formats.specs.Formats.{Format, number, u2, the, mention, optional, seq, as_named, variant, choose, counted, sized}
use Rattle.jvm_maps.specs.Types.{class_inside, class_name}
use Rattle.jvm_maps.specs.Frames.{Before, before, frames, nothing}
use Rattle.jvm_class_grammar.specs.Coded.{coded}
use Rattle.jvm_class_grammar.specs.Instructions.{code}
use Rattle.jvm_class_grammar.specs.Kinds.{parameters, text_is, name_inside, field_descriptor_inside, method_descriptor_inside, this_text}

-- ---- the frame at the start of a method (§4.10.1.6)

abbrev pub in_frame : FieldType → FrameType
in_frame field_type.Int = type.Integer
in_frame field_type.Long = type.Long
in_frame field_type.Bool = type.Integer
in_frame field_type.Char = type.Integer
in_frame (field_type.Class name) = type.Object name
in_frame field_type.IntArray = type.Object (codes "[I")
in_frame field_type.ObjectArray = type.Object (codes "[Ljava/lang/Object;")

-- a constructor begins with an object that isn't one of its class yet
abbrev pub receiver : List ℕ → MethodFlags → List ℕ → List FrameType
receiver class method_flag.Static name = []
receiver class _ name = (if text_is (codes "<init>") name then type.UninitializedThis else type.Object class) ∷ []

abbrev pub at_start : List ℕ → MethodFlags → List ℕ → List ℕ → Before
at_start class flags name descriptor = before None (receiver class flags name ++ map in_frame (parameters descriptor))

module _ (es : List Entry) where
  -- ---- names and descriptors

  abbrev pub named : Format (List ℕ)
  named = mention es entry.Utf8 name_inside

  abbrev pub field_descriptor : Format (List ℕ)
  field_descriptor = mention es entry.Utf8 field_descriptor_inside

  abbrev pub method_descriptor : Format (List ℕ)
  method_descriptor = mention es entry.Utf8 method_descriptor_inside

  -- the name of an attribute
  abbrev pub attribute_name : List ℕ → Format (List ℕ)
  attribute_name name = mention es entry.Utf8 (this_text name)

  -- what stands in an attribute: its name, and behind its length what it has
  abbrev pub attribute : {A : Type 0} → List ℕ → Format A → Format A
  attribute name f = as_named (λ x. x.1) (λ a. (name, a)) (seq (attribute_name name) (λ n. sized f))

  -- ---- fields: flags, name, descriptor, and no attributes

  abbrev pub field_of : FieldFlags × (List ℕ × (List ℕ × ℕ)) → Field
  field_of p = record { flags = p.0; name = p.1.0; descriptor = p.1.1.0 }

  abbrev pub field_parts : Field → FieldFlags × (List ℕ × (List ℕ × ℕ))
  field_parts f = (f.flags, (f.name, (f.descriptor, 0)))

  abbrev pub field : Format Field
  field = as_named field_of field_parts
      (seq (coded w16 field_flags field_flags_of) (λ flags. seq named (λ name. seq field_descriptor (λ d. the w16 0))))

  -- ---- code

  -- an entry of the exception table: its range, its handler, and the class that it catches, or 0 for each throwable
  abbrev pub handler_of : ℕ × (ℕ × (ℕ × Option (List ℕ))) → Handler
  handler_of p = record { start = p.0; end = p.1.0; handler = p.1.1.0; catch = p.1.1.1 }

  abbrev pub handler_parts : Handler → ℕ × (ℕ × (ℕ × Option (List ℕ)))
  handler_parts h = (h.start, (h.end, (h.handler, h.catch)))

  abbrev pub handler : Format Handler
  handler = as_named handler_of handler_parts
      (seq u2 (λ start. seq u2 (λ end. seq u2 (λ handler. optional es entry.Class class_inside))))

  abbrev pub is_some_count : ℕ → Bool
  is_some_count n = nat_lt 0 n

  -- frames behind their number, which isn't 0
  abbrev pub counted_frames : Before → Format (List Frame)
  counted_frames start =
      as_named (λ x. x.1) (λ fs. (length fs, fs)) (seq (number w16 is_some_count) (λ n. frames es start n))

  abbrev pub no_frames_inside : List Frame → Option (Unit {0})
  no_frames_inside [] = Some tt
  no_frames_inside (f ∷ fs) = None

  abbrev pub no_frames : Format (List Frame)
  no_frames = variant (λ u. []) no_frames_inside nothing

  abbrev pub table_count : List Frame → ℕ
  table_count [] = 0
  table_count (f ∷ fs) = 1

  abbrev pub is_table_count : ℕ → Bool
  is_table_count n = nat_lt n 2

  -- the attributes of code: a StackMapTable where there are frames, else none
  abbrev pub code_attributes : Before → Format (List Frame)
  code_attributes start = as_named (λ x. x.1) (λ fs. (table_count fs, fs))
      (seq (number w16 is_table_count)
      (λ n. choose (n == 0) no_frames (attribute (codes "StackMapTable") (counted_frames start))))

  abbrev pub is_code_length : ℕ → Bool
  is_code_length n = nat_lt 0 n && nat_lt n 0x10000

  abbrev pub CodeParts : Type 0
  CodeParts = ℕ × (ℕ × (ℕ × (List (ℕ × Row) × (List Handler × List Frame))))

  abbrev pub code_of : CodeParts → Code
  code_of p = record {
    max_stack = p.0;
    max_locals = p.1.0;
    instructions = p.1.1.1.0;
    handlers = p.1.1.1.1.0;
    frames = p.1.1.1.1.1;
  }

  abbrev pub code_parts : Code → CodeParts
  code_parts c =
      (c.max_stack, (c.max_locals, (length (spelling c.instructions), (c.instructions, (c.handlers, c.frames)))))

  -- stack, local variables, the code behind its length, the exception table, and the frames
  abbrev pub code_body : Before → Format Code
  code_body start = as_named code_of code_parts
      (seq u2 (λ stack. seq u2 (λ locals. seq (number w32 is_code_length)
      (λ n. seq (code es n) (λ is. seq (counted handler) (λ handlers. code_attributes start))))))

  -- ---- methods: flags, name, descriptor, and an attribute with the code, but for an abstract one

  abbrev pub none_inside : Option Code → Option ℕ
  none_inside None = Some 0
  none_inside (Some c) = None

  abbrev pub no_code : Format (Option Code)
  no_code = variant (λ n. None) none_inside (the w16 0)

  abbrev pub code_inside : Option Code → Option (ℕ × Code)
  code_inside None = None
  code_inside (Some c) = Some (1, c)

  abbrev pub some_code : Before → Format (Option Code)
  some_code start = variant (λ x. Some x.1) code_inside
      (seq (the w16 1) (λ n. attribute (codes "Code") (code_body start)))

  abbrev pub is_abstract : MethodFlags → Bool
  is_abstract method_flag.Abstract = true
  is_abstract _ = false

  abbrev pub MethodParts : Type 0
  MethodParts = MethodFlags × (List ℕ × (List ℕ × Option Code))

  abbrev pub method_of : MethodParts → Method
  method_of p = record { flags = p.0; name = p.1.0; descriptor = p.1.1.0; code = p.1.1.1 }

  abbrev pub method_parts : Method → MethodParts
  method_parts m = (m.flags, (m.name, (m.descriptor, m.code)))

  abbrev pub method : List ℕ → Format Method
  method class = as_named method_of method_parts
      (seq (coded w16 method_flags method_flags_of) (λ flags. seq named (λ name. seq method_descriptor
      (λ descriptor. choose (is_abstract flags) no_code (some_code (at_start class flags name descriptor))))))

  -- ---- the class: flags, its name, the class above it, interfaces, fields, methods, and no attributes

  abbrev pub ClassParts : Type 0
  ClassParts = ClassFlags × (List ℕ × (List ℕ × (List (List ℕ) × (List Field × (List Method × ℕ)))))

  abbrev pub class_of : ClassParts → Class
  class_of p = record {
    flags = p.0;
    name = p.1.0;
    super_class = p.1.1.0;
    interfaces = p.1.1.1.0;
    fields = p.1.1.1.1.0;
    methods = p.1.1.1.1.1.0;
  }

  abbrev pub class_parts : Class → ClassParts
  class_parts c = (c.flags, (c.name, (c.super_class, (c.interfaces, (c.fields, (c.methods, 0))))))

  abbrev pub class : Format Class
  class = as_named class_of class_parts
      (seq (coded w16 class_flags class_flags_of) (λ flags. seq (class_name es) (λ name. seq (class_name es)
      (λ above. seq (counted (class_name es)) (λ interfaces. seq (counted field) (λ fields. seq (counted (method name))
      (λ methods. the w16 0)))))))
