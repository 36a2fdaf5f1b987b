-- Access flags: the combinations that the profile has, as the sums of their bits (JVMS SE 8 §4.1, §4.5, §4.6).
use Rattle.std.specs.Prelude.{ℕ, ◌+◌, ◌==◌, [], ◌∷◌, Option, find}
use Rattle.jvm_class_types.specs.declared.flags.ClassFlags.{ClassFlags}
use Rattle.jvm_class_types.specs.declared.flags.ClassFlags.TheVariants as class
use Rattle.jvm_class_types.specs.declared.flags.FieldFlags.{FieldFlags}
use Rattle.jvm_class_types.specs.declared.flags.FieldFlags.TheVariants as field
use Rattle.jvm_class_types.specs.declared.flags.MethodFlags.{MethodFlags}
use Rattle.jvm_class_types.specs.declared.flags.MethodFlags.TheVariants as method
use Rattle.jvm_class_types.specs.Constants.{acc_public, acc_static, acc_final, acc_super, acc_interface, acc_abstract}

abbrev pub class_flags : ClassFlags → ℕ
class_flags class.Open = acc_public + acc_super
class_flags class.Final = acc_public + acc_final + acc_super
class_flags class.Abstract = acc_public + acc_super + acc_abstract
class_flags class.Interface = acc_public + acc_interface + acc_abstract

abbrev pub field_flags : FieldFlags → ℕ
field_flags field.Variable = acc_public
field_flags field.Final = acc_public + acc_final

abbrev pub method_flags : MethodFlags → ℕ
method_flags method.Instance = acc_public
method_flags method.Static = acc_public + acc_static
method_flags method.Abstract = acc_public + acc_abstract

-- the flags whose number is n
abbrev pub class_flags_of : ℕ → Option ClassFlags
class_flags_of n = find (λ flags. n == class_flags flags)
    (class.Open ∷ class.Final ∷ class.Abstract ∷ class.Interface ∷ [])

abbrev pub field_flags_of : ℕ → Option FieldFlags
field_flags_of n = find (λ flags. n == field_flags flags) (field.Variable ∷ field.Final ∷ [])

abbrev pub method_flags_of : ℕ → Option MethodFlags
method_flags_of n = find (λ flags. n == method_flags flags) (method.Instance ∷ method.Static ∷ method.Abstract ∷ [])
