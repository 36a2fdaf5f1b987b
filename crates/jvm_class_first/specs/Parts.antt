-- The pieces of a class file in the parts in which they are written.
use Rattle.std.specs.Prelude.{◌+◌, List, [], ◌∷◌, codes}
use Rattle.kt_base.specs.declared.stack_code.Plain.{Plain}
use Rattle.jvm_pool.specs.declared.entries.Entry.TheVariants.{Utf8, Class}
use Rattle.jvm_pieces.specs.Pieces.{Piece, Bytes, Mention}
use Rattle.jvm_class_first.specs.Instructions.{instructions, max_stack}
use Rattle.jvm_class_first.specs.ClassFile.{u4, number, widths}

-- the flags of the class, its name, and that of the class above it
abbrev pub names : List Piece
names = number 0x0031 ∷ Mention (Class (codes "MainKt")) ∷ Mention (Class (codes "java/lang/Object")) ∷ []

-- how many interfaces, fields and methods there are
abbrev pub counts : List Piece
counts = number 0 ∷ number 0 ∷ number 1 ∷ []

-- the method as far as its attribute
abbrev pub method_front : List Piece
method_front = number 0x0009 ∷ Mention (Utf8 (codes "main")) ∷ Mention (Utf8 (codes "()V")) ∷ number 1 ∷ []

-- the attribute as far as its instructions
abbrev pub code_front : List Plain → List Piece
code_front code =
    Mention (Utf8 (codes "Code")) ∷ Bytes (u4 (widths (instructions code) + 12)) ∷ number (max_stack code) ∷ number 0
    ∷ Bytes (u4 (widths (instructions code))) ∷ []

-- no exceptions and no attributes of the code, no attributes of the class
abbrev pub ending : List Piece
ending = number 0 ∷ number 0 ∷ number 0 ∷ []
