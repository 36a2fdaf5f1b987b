-- What the next frame is written against, behind others.
use Rattle.std.specs.Prelude.{List, [], ◌∷◌}
use Rattle.jvm_class_types.specs.Seen.{Frame}
use Rattle.jvm_maps.specs.Frames.{Before, after}

abbrev pub behind_all : Before → List Frame → Before
behind_all b [] = b
behind_all b (f ∷ fs) = behind_all (after f) fs
