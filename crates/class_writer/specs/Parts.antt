-- Parts of a class file from within others.
use Rattle.std.specs.Prelude.{ℕ, List, Option}
use Rattle.std.specs.Int.{w16}
use Rattle.jvm_pool.specs.declared.entries.Entry.{Entry}
use Rattle.jvm_class_types.specs.Seen.{Class, Code, Field, Method}
use Rattle.jvm_class_formats.specs.Formats.{Format, choose, counted, seq, the}
use Rattle.jvm_maps.specs.Types.{class_name}
use Rattle.jvm_class_grammar.specs.Grammar.{at_start, field, is_abstract, method, no_code, some_code}

-- the attributes of a method of a class
abbrev pub attributes : List Entry → List ℕ → Method → Format (Option Code)
attributes es class m =
    choose (is_abstract es m.flags) (no_code es) (some_code es (at_start class m.flags m.name m.descriptor))
