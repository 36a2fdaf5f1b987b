use Rattle.std.proofs.Common.{◌≡◌, ◌∷◌, ◌++◌, [], take}
use Rattle.std.specs.Prelude.{flat_map}
use Rattle.class_linked.specs.declared.constants.Constant.TheVariants as constant
use Rattle.class_constants.specs.Constants.{at_indices, constant_of}
use Rattle.class_constants.proofs.constants.constants_of.Given as goal

abbrev pub invariant-loop-e : goal.invariant-loop-e
invariant-loop-e l =
    l.made ≡ (constant.Nothing ∷ []) ++ flat_map (λ e. at_indices (constant_of l.h e)) (take l.e-index l.entries)
