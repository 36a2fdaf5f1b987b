-- The classes that have a name.
use Rattle.std.specs.Prelude.{ℕ, List, Option}
use Rattle.kt_decls_types.specs.declared.scopes.NamedClass.{NamedClass}

abbrev pub Classes : Type 0
Classes = List ℕ → Option NamedClass
