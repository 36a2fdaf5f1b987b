-- Classes with arguments, and what is found above them.
use Rattle.std.specs.Prelude.{ℕ, List, [], ◌∷◌, ◌++◌, map, ◌≡◌, ◌⊎◌, ◌+◌}
use Rattle.kt_types_tree.specs.declared.hierarchy.Supertype.{Supertype}
use Rattle.kt_types_tree.specs.Types.{TypeForms, forms_of, type_form, substituted_all}
use Rattle.kt_types_tree.specs.Hierarchy.{SuperForm, HierarchyForm, HasSuper}
use Rattle.kt_types_order.specs.Climbing.{Climbs}
use Rattle.kt_types_order.specs.Graph.{Graph}
use Rattle.kt_types_climbing.specs.declared.walk.Ahead.{Ahead, Nothing, These'}
use Rattle.kt_types_climbing.specs.declared.walk.Behind.{Behind, Nobody, Met'}
use Rattle.kt_types_climbing.specs.Reading.{layers, read_all}
use Rattle.kt_types_climbing.specs.Weights.{sum_of, weight}

-- a class with arguments
pub record Node : Type 0 where
  pub class : ℕ
  pub arguments : TypeForms

abbrev pub node : ℕ → TypeForms → Node
node c all = record { class = c; arguments = all }

-- a declared supertype of a class with arguments
abbrev pub above : TypeForms → SuperForm → Node
above all s = node s.class (substituted_all all s.arguments)

-- a supertype in an environment
abbrev pub in_layers : List TypeForms → Supertype → Node
in_layers ls s = node s.class (read_all ls (forms_of (map type_form s.arguments)))

abbrev pub ahead_nodes : Ahead → List Node
ahead_nodes Nothing = []
ahead_nodes (These' all e p later) = map (in_layers (layers e.now)) all.now ++ ahead_nodes later

abbrev pub behind_nodes : Behind → List Node
behind_nodes Nobody = []
behind_nodes (Met' c all e p earlier) =
    node c (read_all (layers e.now) (forms_of (map type_form all.now))) ∷ behind_nodes earlier

abbrev pub Among : Node → List Node → Type 0
Among n [] = ⊥
Among n (m ∷ ms) = (n ≡ m) ⊎ Among n ms

abbrev pub ClimbsTo : HierarchyForm → Node → Node → Type 0
ClimbsTo h n t = Climbs h n.class n.arguments t.class t.arguments

-- one of several is the target or has it above it
abbrev pub AnyClimbs : HierarchyForm → List Node → Node → Type 0
AnyClimbs h [] t = ⊥
AnyClimbs h (n ∷ ns) t = ClimbsTo h n t ⊎ AnyClimbs h ns t

-- what was met isn't the target, and its supertypes were met or are still ahead
abbrev pub IsClosed : HierarchyForm → List Node → List Node → Node → Type 0
IsClosed h behind ahead t =
    (v : Node) →
    Among v behind →
    (v ≡ t → ⊥)
    × ((s : SuperForm) → HasSuper h v.class s →
    Among (above v.arguments s) behind ⊎ Among (above v.arguments s) ahead)

-- how much is ahead
abbrev pub ahead_weight : Graph → Ahead → ℕ
ahead_weight g Nothing = 0
ahead_weight g (These' all e p later) = sum_of (weight g) (map (λ s. s.class) all.now) + ahead_weight g later + 1
