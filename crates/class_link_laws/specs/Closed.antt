-- Linked classes are closed: what one of them names is one of them, or a member of one.
use Rattle.std.specs.Prelude.{◌≡◌, ℕ, ◌<◌, List, [], length, Option, None, Some, slice_get}
use Rattle.jvm_class_types.specs.declared.classes.ClassFile.{ClassFile}
use Rattle.class_linked.specs.declared.classes.Linked.{Linked}
use Rattle.class_linked.specs.declared.classes.LinkedClass.{LinkedClass}
use Rattle.class_linked.specs.declared.classes.LinkedField.{LinkedField}
use Rattle.class_linked.specs.declared.constants.Constant.{Constant}
use Rattle.class_linked.specs.declared.constants.Constant.TheVariants as constant
use Rattle.class_linked.specs.declared.constants.FieldMention.{FieldMention}
use Rattle.class_linked.specs.declared.constants.MethodMention.{MethodMention}
use Rattle.class_linked.specs.declared.methods.LinkedMethod.{LinkedMethod}
use Rattle.class_link.specs.Linking.{AreLinked}

abbrev pub methods_of : Option LinkedClass → List LinkedMethod
methods_of None = []
methods_of (Some k) = k.methods

abbrev pub fields_of : Option LinkedClass → List LinkedField
fields_of None = []
fields_of (Some k) = k.fields

module _ (linked : Linked) where
  abbrev pub IsClass : ℕ → Type 0
  IsClass c = c < length linked.classes

  -- the class that declares the field has it at that place of its objects
  abbrev pub IsField : FieldMention → Type 0
  IsField m = IsClass m.named × IsClass m.owner × (m.slot < length (fields_of (slice_get linked.classes m.owner)))

  abbrev pub IsMethod : MethodMention → Type 0
  IsMethod m = IsClass m.named × IsClass m.owner × (m.place < length (methods_of (slice_get linked.classes m.owner)))

  abbrev pub IsThere : Constant → Type 0
  IsThere constant.Nothing = Unit {0}
  IsThere (constant.Int n) = Unit {0}
  IsThere (constant.Long n) = Unit {0}
  IsThere (constant.Text text) = Unit {0}
  IsThere (constant.Class c) = IsClass c
  IsThere (constant.Field m) = IsField m
  IsThere (constant.Method m) = IsMethod m
  IsThere (constant.InterfaceMethod m) = IsMethod m

  pub record NamesWhatIsThere (k : LinkedClass) : Type 0 where
    pub above : (c : ℕ) → k.above ≡ Some c → IsClass c
    pub interfaces : (i c : ℕ) → slice_get k.interfaces i ≡ Some c → IsClass c
    pub supers : (i c : ℕ) → slice_get k.supers i ≡ Some c → IsClass c
    pub constants : (i : ℕ) (x : Constant) → slice_get k.constants i ≡ Some x → IsThere x

  abbrev pub AreClosed : Type 0
  AreClosed = (c : ℕ) (k : LinkedClass) → slice_get linked.classes c ≡ Some k → NamesWhatIsThere k

abbrev pub LinkedAreClosed : Type 0
LinkedAreClosed = (classes : List ClassFile) (linked : Linked) → AreLinked classes linked → AreClosed linked
