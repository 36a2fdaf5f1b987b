-- Places, as the rules speak of them.
use Rattle.std.specs.Prelude.{List, []}
use Rattle.kt_types_order.specs.Graph.{ClassesEnd}
use Rattle.kt_types_tree.specs.Hierarchy.{hierarchy_form}
use Rattle.kt_check_rules.specs.States.{Context, State}
use Rattle.kt_check_names.specs.declared.known.Known.{Known}
use Rattle.kt_check_names.specs.declared.scopes.NamedLocal.{NamedLocal}
use Rattle.kt_check_names.specs.Views.{context_form, scope_of, scope_in, declared_in, state_of, state_form}
use Rattle.kt_check_places.specs.declared.places.Place.{Place}

abbrev pub context_at : Place → Context
context_at p = context_form p.context.now

-- no class of the file is above itself
abbrev pub ClassesEndAt : Place → Type 0
ClassesEndAt p = ClassesEnd (hierarchy_form p.context.now.headers.now.hierarchy)

abbrev pub state_at : Place → Known → State
state_at p k = state_form p.frames.now p.outside k

-- inside a block that stands there and has declared some names
abbrev pub state_in : Place → List NamedLocal → Known → State
state_in p names k = state_of (scope_in names (scope_of p.frames.now)) (declared_in names []) p.outside k
