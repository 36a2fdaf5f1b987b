-- What instructions need of the entries that they mention.
use Rattle.std.specs.Prelude.{Bool}
use Rattle.jvm_pool.specs.declared.entries.Entry.{Entry}
use Rattle.jvm_class_grammar.specs.Kinds.{is_of, is_called}
use Rattle.jvm_code_needs.specs.declared.needs.Need.{Need}
use Rattle.jvm_code_needs.specs.declared.needs.Need.TheVariants as need

abbrev pub wants : Need → Entry → Bool
wants (need.Kind kind) = is_of kind
wants (need.Called count) = is_called count
