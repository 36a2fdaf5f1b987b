-- Descriptors that are one, without the functions that have them.
use Rattle.std.specs.Prelude.{List, [], ◌∷◌, Option, None}
use Rattle.kt_decls_rules.specs.Erasure.{Descriptor}
use Rattle.kt_decls_rules.specs.ClassRules.{HaveSameDescriptor}
use Rattle.kt_decls_inherited.specs.Descriptors.{first_or}

abbrev pub AreDescriptor : Option Descriptor → List (Option Descriptor) → Type 0
AreDescriptor d [] = Unit {0}
AreDescriptor d (e ∷ es) = HaveSameDescriptor d e × AreDescriptor d es

-- all are that of the first
abbrev pub AreFirst : List (Option Descriptor) → Type 0
AreFirst es = AreDescriptor (first_or es None) es
