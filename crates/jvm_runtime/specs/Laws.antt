-- Laws of the table.
use Rattle.std.specs.Prelude.{◌≡◌, Some}
use Rattle.jvm_runtime.specs.declared.classes.RuntimeClass.{RuntimeClass}
use Rattle.jvm_runtime.specs.Classes.{class_name, class_named}

-- the class of a class's name is the class itself
abbrev pub OneName : Type 0
OneName = (class : RuntimeClass) → class_named (class_name class) ≡ Some class
