-- Values as they pass from one coroutine to another: without references.
use Rattle.std.specs.Prelude.{ℕ, suc, ◌+◌, Bool, List, [], ◌∷◌, ◌++◌, length, take, drop, Option, Some, None, option_map, option_and_then, codes, decimal, pos, find, slice_get}
use Rattle.std.specs.List.{range_with_len}
use Rattle.kt_base.specs.declared.lumps.Lump.{Lump}
use Rattle.kt_base.specs.declared.lumps.Node.{Node}
use Rattle.kt_base.specs.declared.lumps.Node.TheVariants as node
use Rattle.kt_base.specs.declared.events.Fate.{Fate}
use Rattle.kt_base.specs.declared.events.Fate.TheVariants as fate
use Rattle.kt_types_tree.specs.declared.hierarchy.ClassKind.{ClassKind}
use Rattle.kt_types_tree.specs.declared.hierarchy.ClassKind.TheVariants as kind
use Rattle.kt_typed.specs.Order.{lambdas}
use Rattle.kt_typed.specs.Units.{UnitForm}
use Rattle.kt_values.specs.Values as v
use Rattle.kt_values.specs.Values.{Value, Object, instance, values_of, listed}
use Rattle.kt_values.specs.Runs.{Run, ◌>>=◌, give, or_unfit, throws}
use Rattle.kt_values.specs.Heap.{make}
use Rattle.kt_meaning.specs.Classes.{same_text, class_at, class_name, class_named, entry_name}

-- the class of a lambda in class files; the first lambda of a file has the number 0
abbrev pub lambda_name : ℕ → List ℕ
lambda_name n = codes "MainKt$L" ++ decimal (n + 1)

-- From values to lumps.

abbrev pub all_exported : (Value → Option (List Node)) → List Value → Option (List Node)
all_exported export [] = Some []
all_exported export (x ∷ xs) =
    option_and_then (λ first. option_map (λ rest. first ++ rest) (all_exported export xs)) (export x)

-- an object by its class, with its fields in order
abbrev pub object_lump : (Value → Option (List Node)) → List ℕ → List Value → Option (List Node)
object_lump export name fields =
    option_map (λ nodes. node.Object name (length fields) ∷ nodes) (all_exported export fields)

abbrev pub entry_lump : List ℕ → ℕ → List ℕ → List Node
entry_lump class ordinal name = node.Object class 2 ∷ node.Text name ∷ node.Int (pos ordinal) ∷ []

-- the lump of a value, whose objects stand in one another at most so deep; an array has none
unfoldable pub exported : UnitForm → List Object → ℕ → Value → Option (List Node)
exported u heap depth (v.int n) = Some (node.Int n ∷ [])
exported u heap depth (v.long n) = Some (node.Long n ∷ [])
exported u heap depth (v.truth b) = Some (node.Bool b ∷ [])
exported u heap depth (v.character c) = Some (node.Char c ∷ [])
exported u heap depth (v.text t) = Some (node.Text t ∷ [])
exported u heap depth v.null = Some (node.Null ∷ [])
exported u heap depth v.unit = Some (node.UnitNode ∷ [])
exported u heap depth (v.entry c ordinal) =
    option_map (entry_lump (class_name u c) ordinal) (entry_name u c ordinal)
exported u heap depth (v.cell c) = Some (node.Cell c ∷ [])
exported u heap (suc depth) (v.closure n captures) =
    object_lump (exported u heap depth) (lambda_name n) (listed captures)
exported u heap (suc depth) (v.reference (instance c) place) =
    option_and_then (λ o. object_lump (exported u heap depth) (class_name u c) o.slots) (slice_get heap place)
exported u heap depth _ = None

-- no object of a lump stands in itself, so it is at most as deep as the heap has objects, and one more for a lambda
abbrev pub lump_of : UnitForm → Value → Run Lump
lump_of u x s = or_unfit (exported u s.heap (length s.heap + 2) x) s

-- From lumps to values.

abbrev pub is_lambda_name : List ℕ → ℕ → Bool
is_lambda_name name n = same_text name (lambda_name n)

-- the lambda of a name
abbrev pub lambda_named : UnitForm → List ℕ → Option ℕ
lambda_named u name = find (is_lambda_name name) (range_with_len 0 (length (lambdas u)))

abbrev pub entry_from : ℕ → List Value → Option Value
entry_from c (v.text name ∷ v.int (pos ordinal) ∷ []) = Some (v.entry c ordinal)
entry_from c _ = None

abbrev pub made_from : Option ClassKind → ℕ → List Value → Run Value
made_from (Some kind.Enum) c fields = or_unfit (entry_from c fields)
made_from _ c fields = make (instance c) fields

abbrev pub closure_from : Option ℕ → List Value → Option Value
closure_from None fields = None
closure_from (Some n) fields = Some (v.closure n (values_of fields))

-- an object of a class of the unit or a throwable, or a lambda
abbrev pub object_from : UnitForm → Option ℕ → List ℕ → List Value → Run Value
object_from u (Some c) name fields = made_from (option_map (λ k. k.kind) (class_at u c)) c fields
object_from u None name fields = or_unfit (closure_from (lambda_named u name) fields)

-- the value of a node, before those of the nodes behind it, of which it takes its fields
abbrev pub with_node : UnitForm → Node → List Value → Run (List Value)
with_node u (node.Int n) behind = give (v.int n ∷ behind)
with_node u (node.Long n) behind = give (v.long n ∷ behind)
with_node u (node.Bool b) behind = give (v.truth b ∷ behind)
with_node u (node.Char c) behind = give (v.character c ∷ behind)
with_node u (node.Text t) behind = give (v.text t ∷ behind)
with_node u node.Null behind = give (v.null ∷ behind)
with_node u node.UnitNode behind = give (v.unit ∷ behind)
with_node u (node.Cell c) behind = give (v.cell c ∷ behind)
with_node u (node.Object name count) behind =
    object_from u (class_named u name) name (take count behind) >>= λ x. give (x ∷ drop count behind)

-- the values of lumps that stand behind one another. Their objects are made from behind, fields before the object
abbrev pub all_imported : UnitForm → List Node → Run (List Value)
all_imported u [] = give []
all_imported u (n ∷ nodes) = all_imported u nodes >>= with_node u n

abbrev pub one : List Value → Option Value
one (x ∷ []) = Some x
one _ = None

abbrev pub imported : UnitForm → Lump → Run Value
imported u lump = all_imported u lump >>= λ xs. or_unfit (one xs)

-- what the suspended call gives or throws
abbrev pub outcome : UnitForm → Fate Lump → Run Value
outcome u (fate.Value lump) = imported u lump
outcome u (fate.Thrown lump) = imported u lump >>= throws
