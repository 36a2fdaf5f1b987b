-- The numbers of the classes that rules speak of: their places among the machine's own classes, behind which the two of
-- arrays stand.
use Rattle.std.specs.Prelude.{ℕ}

abbrev pub object_class : ℕ
object_class = 0

abbrev pub string_class : ℕ
string_class = 1

abbrev pub throwable_class : ℕ
throwable_class = 6

abbrev pub turn_class : ℕ
turn_class = 22

abbrev pub continuation_class : ℕ
continuation_class = 25

abbrev pub int_array_class : ℕ
int_array_class = 34

abbrev pub object_array_class : ℕ
object_array_class = 35

-- the first class of a class file
abbrev pub first_file_class : ℕ
first_file_class = 36
