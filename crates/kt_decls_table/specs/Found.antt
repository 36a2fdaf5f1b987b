-- What a call answers where something is so, and where nothing is.
use Rattle.std.specs.Prelude.{Result, Ok, Err}
use Rattle.kt_decls_types.specs.declared.scopes.Unresolved.{Unresolved}
use Rattle.kt_decls_types.specs.declared.scopes.Unresolved.TheVariants as unresolved

abbrev pub AnswersWith : {A : Type 0} → Result A Unresolved → (A → Type 0) → Type 0 → Type 0
AnswersWith (Ok a) is not = is a
AnswersWith (Err unresolved.Refused) is not = not
AnswersWith (Err unresolved.NoMemory) is not = Unit {0}
