-- Lumps in prefix form.
use Rattle.std.specs.Prelude.{ℕ, zero, suc, ◌+◌, Bool, true, false, List, [], ◌∷◌, IsTrue}
use Rattle.kt_base.specs.declared.lumps.Node.{Node}
use Rattle.kt_base.specs.declared.lumps.Node.TheVariants as n

-- how many lumps follow a node directly: those of its fields
abbrev pub field_count : Node → ℕ
field_count (n.Object class count) = count
field_count _ = 0

-- the nodes are so many lumps, one after another
abbrev pub are_lumps : ℕ → List Node → Bool
are_lumps zero [] = true
are_lumps zero (node ∷ nodes) = false
are_lumps (suc count) [] = false
are_lumps (suc count) (node ∷ nodes) = are_lumps (field_count node + count) nodes

-- a node, then the lumps of its fields in order
abbrev pub IsPrefixForm : List Node → Type 0
IsPrefixForm nodes = IsTrue (are_lumps 1 nodes)
