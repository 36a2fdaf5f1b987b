-- Laws of linking: classes have one answer.
use Rattle.std.specs.Prelude.{◌≡◌, ◌≢◌, List}
use Rattle.jvm_class_types.specs.declared.classes.ClassFile.{ClassFile}
use Rattle.class_linked.specs.declared.classes.Linked.{Linked}
use Rattle.class_link.specs.declared.errors.LinkErr.{LinkErr}
use Rattle.class_link.specs.declared.errors.LinkErr.TheVariants.{NoMemory}
use Rattle.class_link.specs.Linking.{AreLinked, WhyNot}

-- one thing is made of them
abbrev pub OneLinked : Type 0
OneLinked = (classes : List ClassFile) (linked other : Linked) → AreLinked classes linked → AreLinked classes other
    → linked ≡ other

-- what is linked isn't refused
abbrev pub NotBoth : Type 0
NotBoth = (classes : List ClassFile) (linked : Linked) (error : LinkErr) → AreLinked classes linked
    → WhyNot classes error → error ≡ NoMemory

-- one thing is told of what is refused
abbrev pub OneRefusal : Type 0
OneRefusal = (classes : List ClassFile) (error other : LinkErr) → WhyNot classes error → WhyNot classes other
    → error ≢ NoMemory → other ≢ NoMemory → error ≡ other
