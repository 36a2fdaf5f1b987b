-- Which classes are linked, and why others aren't.
use Rattle.std.specs.Prelude.{◌≡◌, ℕ, Bool, true, false, ◌&&◌, ◌||◌, List, map, Option, Some, None, bytes_eq, codes}
use Rattle.std.specs.Prelude.{slice_get}
use Rattle.std.specs.List.{list_any}
use Rattle.jvm_class_types.specs.Seen.{class_seen}
use Rattle.jvm_class_types.specs.declared.classes.ClassFile.{ClassFile}
use Rattle.jvm_class_types.specs.declared.flags.MethodFlags.{MethodFlags}
use Rattle.jvm_class_types.specs.declared.flags.MethodFlags.TheVariants as flag
use Rattle.class_headers.specs.declared.headers.Header.{Header}
use Rattle.class_headers.specs.declared.headers.MethodHeader.{MethodHeader}
use Rattle.class_headers.specs.Headers.{headers_of}
use Rattle.class_headers.specs.Places.{number_of}
use Rattle.class_supers.specs.Graph.{HasNoCycle, IsFirstOnCycle}
use Rattle.class_members.specs.declared.hierarchy.Hierarchy.{Hierarchy}
use Rattle.class_members.specs.Above.{IsHierarchy}
use Rattle.class_missing.specs.Missing.{files_missing, methods_of}
use Rattle.class_linked.specs.Numbers.{first_file_class}
use Rattle.class_linked.specs.declared.classes.Linked.{Linked}
use Rattle.class_link.specs.Classes.{linked_of}
use Rattle.class_link.specs.declared.errors.LinkErr.{LinkErr}
use Rattle.class_link.specs.declared.errors.LinkErr.TheVariants.{Missing, Cycle, NoMain, NoMemory}

abbrev pub is_static : MethodFlags → Bool
is_static flag.Static = true
is_static flag.Instance = false
is_static flag.Abstract = false

-- `main()V`, or `main(Lkt/rt/ContinuationImpl;)Ljava/lang/Object;`
abbrev pub is_main : MethodHeader → Bool
is_main m = is_static m.flags && (bytes_eq m.name (codes "main")
    && (bytes_eq m.descriptor (codes "()V")
    || bytes_eq m.descriptor (codes "(Lkt/rt/ContinuationImpl;)Ljava/lang/Object;")))

abbrev pub has_main_in : Hierarchy → Option ℕ → Bool
has_main_in h None = false
has_main_in h (Some c) = list_any is_main (methods_of (slice_get h.headers c))

abbrev pub has_main : Hierarchy → Bool
has_main h = has_main_in h (number_of h.headers (codes "MainKt"))

-- nothing is missing, no class is above itself, and there is a `main`
pub record IsClosed (classes : List ClassFile) (h : Hierarchy) : Type 0 where
  pub complete : files_missing h first_file_class classes ≡ None
  pub acyclic : HasNoCycle h.links
  pub main : has_main h ≡ true

abbrev pub name_of : Option Header → Option (List ℕ)
name_of None = None
name_of (Some header) = Some header.name

-- the class of this name is the first that is above itself
pub record IsFirstCycle (h : Hierarchy) (name : List ℕ) : Type 0 where
  pub class : ℕ
  pub first : IsFirstOnCycle h.links class
  pub named : name_of (slice_get h.headers class) ≡ Some name

-- the errors come in this order, each where none before it does
abbrev pub Fails : List ClassFile → Hierarchy → LinkErr → Type 0
Fails classes h (Missing name) = files_missing h first_file_class classes ≡ Some name
Fails classes h (Cycle name) = (files_missing h first_file_class classes ≡ None) × IsFirstCycle h name
Fails classes h NoMain =
    (files_missing h first_file_class classes ≡ None) × HasNoCycle h.links × (has_main h ≡ false)
Fails classes h NoMemory = Unit {0}

abbrev pub IsHierarchyOf : List ClassFile → Hierarchy → Type 0
IsHierarchyOf classes h = IsHierarchy (headers_of (map class_seen classes)) h

-- what linking makes of classes that are closed
abbrev pub AreLinked : List ClassFile → Linked → Type 0
AreLinked classes linked =
    (h : Hierarchy) × IsHierarchyOf classes h × IsClosed classes h × (linked ≡ linked_of h classes)

-- why classes aren't linked; want of memory is free
abbrev pub WhyNot : List ClassFile → LinkErr → Type 0
WhyNot classes NoMemory = Unit {0}
WhyNot classes (Missing name) = (h : Hierarchy) × IsHierarchyOf classes h × Fails classes h (Missing name)
WhyNot classes (Cycle name) = (h : Hierarchy) × IsHierarchyOf classes h × Fails classes h (Cycle name)
WhyNot classes NoMain = (h : Hierarchy) × IsHierarchyOf classes h × Fails classes h NoMain

-- ---- the errors one by one

abbrev pub IsMissing : List ℕ → LinkErr → Type 0
IsMissing name (Missing n) = n ≡ name
IsMissing name NoMemory = Unit {0}
IsMissing name (Cycle n) = ⊥
IsMissing name NoMain = ⊥

abbrev pub FailsMissing : List ClassFile → Hierarchy → LinkErr → Type 0
FailsMissing classes h (Missing name) = files_missing h first_file_class classes ≡ Some name
FailsMissing classes h NoMemory = Unit {0}
FailsMissing classes h (Cycle n) = ⊥
FailsMissing classes h NoMain = ⊥

abbrev pub IsCycle : Option (List ℕ) → LinkErr → Type 0
IsCycle name (Cycle n) = name ≡ Some n
IsCycle name NoMemory = Unit {0}
IsCycle name (Missing n) = ⊥
IsCycle name NoMain = ⊥

abbrev pub FailsCycle : Hierarchy → LinkErr → Type 0
FailsCycle h (Cycle name) = IsFirstCycle h name
FailsCycle h NoMemory = Unit {0}
FailsCycle h (Missing n) = ⊥
FailsCycle h NoMain = ⊥
