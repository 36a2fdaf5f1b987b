-- Parts of a class file from within others, and what was read of them as the definitions see it.
use Rattle.std.specs.Prelude.{ℕ, List, map, Option}
use Rattle.std.specs.Int.{w16}
use Rattle.jvm_code_instructions.specs.Table.{Row}
use Rattle.jvm_pool.specs.declared.entries.Entry.{Entry}
use Rattle.jvm_class_types.specs.declared.classes.ClassFile as rust_class
use Rattle.jvm_class_types.specs.Seen.{Class, Field, Frame, Handler, Method, class_seen, field_seen, method_seen}
use Rattle.jvm_class_formats.specs.Formats.{Format, counted, seq, the}
use Rattle.jvm_maps.specs.Frames.{Before}
use Rattle.jvm_maps.specs.Types.{class_name}
use Rattle.jvm_class_grammar.specs.Instructions.{code}
use Rattle.jvm_class_grammar.specs.Grammar.{code_attributes, field, handler, method}
use Rattle.class_reader.specs.declared.class.Members as rust_members
use Rattle.class_reader.specs.declared.class.ClassBody as rust_body

-- the exception table and the frames behind code
abbrev pub behind_code : List Entry → Before → Format (List Handler × List Frame)
behind_code es start = seq (counted (handler es)) (λ handlers. code_attributes es start)

-- code of so many bytes, and what stands behind it
abbrev pub with_code : List Entry → Before → ℕ → Format (List (ℕ × Row) × (List Handler × List Frame))
with_code es start n = seq (code es n) (λ is. behind_code es start)

-- the interfaces, fields and methods of a class, which has no attributes
abbrev pub MemberParts : Type 0
MemberParts = List (List ℕ) × (List Field × (List Method × ℕ))

abbrev pub members : List Entry → List ℕ → Format MemberParts
members es name = seq (counted (class_name es)) (λ interfaces. seq (counted (field es))
    (λ fields. seq (counted (method es name)) (λ methods. the w16 0)))

abbrev pub members_seen : rust_members.Members → MemberParts
members_seen m = (m.interfaces.items, (map field_seen m.fields.items, (map method_seen m.methods.items, 0)))

abbrev pub class_parts_seen : rust_body.ClassBody → Class
class_parts_seen c = record {
  flags = c.flags;
  name = c.name;
  super_class = c.super_class;
  interfaces = c.members.interfaces.items;
  fields = map field_seen c.members.fields.items;
  methods = map method_seen c.members.methods.items;
}

-- a class with its pool
abbrev pub file_seen : rust_class.ClassFile → List Entry × Class
file_seen c = (c.pool, class_seen c)
