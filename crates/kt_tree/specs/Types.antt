-- Types as definitions match on them.
use Rattle.std.specs.Prelude.{ℕ, Bool, List, [], ◌∷◌, Option, Some, None}
use Rattle.kt_tree.specs.declared.types.TypeReference.{TypeReference}
use Rattle.kt_tree.specs.declared.types.TypeReference.TheOpen.{TypeReference-F}
use Rattle.kt_tree.specs.declared.types.TypeReference.TheFolds.{fold-TypeReference}

mutual
  pub data TypeTree : Type 0 where
    named : List ℕ → TypeTrees → TypeTree
    -- whether it suspends, the parameters' types, the result's
    function : Bool → TypeTrees → TypeTree → TypeTree
    nullable : TypeTree → TypeTree
    parenthesized : TypeTree → TypeTree

  pub data TypeTrees : Type 0 where
    types_end : TypeTrees
    type_then : TypeTree → TypeTrees → TypeTrees

abbrev pub types_of : List TypeTree → TypeTrees
types_of [] = types_end
types_of (t ∷ ts) = type_then t (types_of ts)

-- one node, with each child already seen as its tree
abbrev pub type_seen : TypeReference-F TypeTree → TypeTree
type_seen (TypeReference-F.Named x ts) = named x (types_of ts)
type_seen (TypeReference-F.Function suspends ts t) = function suspends (types_of ts) t
type_seen (TypeReference-F.Nullable t) = nullable t
type_seen (TypeReference-F.Parenthesized t) = parenthesized t

abbrev pub type_tree : TypeReference → TypeTree
type_tree = fold-TypeReference TypeTree type_seen

abbrev pub maybe_type : Option TypeReference → Option TypeTree
maybe_type None = None
maybe_type (Some t) = Some (type_tree t)
