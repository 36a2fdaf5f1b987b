-- Laws of the definitions.
use Rattle.std.specs.Prelude.{ℕ, Bool, List}
use Rattle.std.specs.Int.{w8, w16, w32}
use Rattle.jvm_pool.specs.declared.entries.Entry.{Entry}
use Rattle.jvm_class_formats.specs.Formats.{number}
use Rattle.jvm_class_formats.specs.Lawful.{Lawful}

-- numbers of one, two and four bytes are lawful, whatever their rule
abbrev pub NumbersAreLawful : Type 0
NumbersAreLawful = (es : List Entry) (rule : ℕ → Bool)
    → Lawful es (number w8 rule) × Lawful es (number w16 rule) × Lawful es (number w32 rule)
