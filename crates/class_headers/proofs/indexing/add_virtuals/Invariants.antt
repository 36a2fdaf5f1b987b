use Rattle.std.proofs.Common.{◌≡◌, ℕ, List, take}
use Rattle.std.specs.Prelude.{◌==◌, position}
use Rattle.class_headers.specs.Indexed.{or_own}
use Rattle.class_headers.specs.Places.{is_virtual}
use Rattle.class_index.specs.Members.{IsWhole, member_in}
use Rattle.class_headers.proofs.indexing.add_virtuals.Given as goal

abbrev pub invariant-loop-place : goal.invariant-loop-place
invariant-loop-place l =
    IsWhole l.index
    × ((c : ℕ) (n d : List ℕ) → member_in l.index c n d ≡ or_own (member_in l.fn.index c n d) (l.class == c) (position (is_virtual n d) (take l.place l.methods)))
