-- Entries of a constant pool (JVMS SE 8 §4.4), and their parts.
use Rattle.std.specs.Prelude.{ℕ, ◌+◌, Bool, false, ◌&&◌, List, [], ◌∷◌, ◌==◌}
use Rattle.std.specs.Cmp.Lexicographic.{pointwise}
use Rattle.std.specs.Ordering.{int_eq}
use Rattle.jvm_pool.specs.declared.entries.Entry.{Entry}
use Rattle.jvm_pool.specs.declared.entries.Entry.TheVariants.{Utf8, Int, Long, Class, Text, Field, Method, InterfaceMethod, NameAndType}

-- how many indices an entry takes
abbrev pub size : Entry → ℕ
size (Long n) = 2
size _ = 1

-- the parts of an entry, and behind each of them its own parts
abbrev pub behind : Entry → List Entry
behind (Utf8 text) = []
behind (Int n) = []
behind (Long n) = []
behind (Class name) = Utf8 name ∷ []
behind (Text text) = Utf8 text ∷ []
behind (Field class name descriptor) = Class class ∷ Utf8 class ∷ NameAndType name descriptor ∷ Utf8 name
    ∷ Utf8 descriptor ∷ []
behind (Method class name descriptor) = Class class ∷ Utf8 class ∷ NameAndType name descriptor ∷ Utf8 name
    ∷ Utf8 descriptor ∷ []
behind (InterfaceMethod class name descriptor) = Class class ∷ Utf8 class ∷ NameAndType name descriptor ∷ Utf8 name
    ∷ Utf8 descriptor ∷ []
behind (NameAndType name descriptor) = Utf8 name ∷ Utf8 descriptor ∷ []

-- whether two entries are the same
abbrev pub same_text : List ℕ → List ℕ → Bool
same_text = pointwise ◌==◌

abbrev pub same : Entry → Entry → Bool
same (Utf8 t) (Utf8 u) = same_text t u
same (Int m) (Int n) = int_eq m n
same (Long m) (Long n) = int_eq m n
same (Class m) (Class n) = same_text m n
same (Text t) (Text u) = same_text t u
same (Field b m d) (Field c n e) = same_text b c && (same_text m n && same_text d e)
same (Method b m d) (Method c n e) = same_text b c && (same_text m n && same_text d e)
same (InterfaceMethod b m d) (InterfaceMethod c n e) = same_text b c && (same_text m n && same_text d e)
same (NameAndType m d) (NameAndType n e) = same_text m n && same_text d e
same _ _ = false

-- how many indices these entries take
abbrev pub units : List Entry → ℕ
units [] = 0
units (e ∷ es) = size e + units es
