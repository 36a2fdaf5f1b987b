-- What a call answers beside a definition that may have no value.
use Rattle.std.specs.Prelude.{Option, Some, None, Result, Ok, Err, ◌≡◌}
use Rattle.kt_types_tree.specs.declared.types.KtType.{KtType}
use Rattle.kt_types_tree.specs.Types.{TypeForm, type_form}
use Rattle.kt_decls_types.specs.declared.scopes.Unresolved.{Unresolved}
use Rattle.kt_decls_types.specs.declared.scopes.Unresolved.TheVariants as unresolved

abbrev pub Answers : {A B : Type 0} → (A → B) → Result A Unresolved → Option B → Type 0
Answers view (Ok a) found = found ≡ Some (view a)
Answers view (Err unresolved.Refused) found = found ≡ None
Answers view (Err unresolved.NoMemory) found = Unit {0}

abbrev pub Resolves : Result KtType Unresolved → Option TypeForm → Type 0
Resolves = Answers type_form
