-- The laws on types.
use Rattle.std.proofs.Common.{ℕ, suc, [], refl}
use Rattle.kt_tree.specs.Types.{TypeTree}
use Rattle.kt_grammar_parsers.specs.Parsers.{cursor, some_levels}
use Rattle.kt_grammar.specs.Types.{IsType}
use Rattle.kt_grammar.specs.Readers.{type_parser}
use Rattle.kt_grammar.specs.Laws.{OneType, TypeIsRead, TypeIsRefused, TypeReadsTypes}
use Rattle.kt_grammar_parsers.proofs.On.{Phrase}
use Rattle.kt_grammar_parsers.proofs.Steps.{Any}
use Rattle.kt_grammar_parsers.proofs.Whole.{one_value, read_is_sentence, sentence_is_read, refused_at_first}
use Rattle.kt_grammar.proofs.types.TypesRead.{TypeEnds, type_phrase, types_correct}

ends_there : (t : TypeTree) → TypeEnds t []
ends_there t = record { no_question = refl; no_less = refl; no_arrow = refl }

pub some_type : (n : ℕ) → Phrase (IsType (suc n)) TypeEnds
unfolding IsType
some_type n = type_phrase (IsType n) (some_levels n)

pub one_type : OneType
one_type n = one_value (type_parser (suc n)) (IsType (suc n)) Any TypeEnds (types_correct n) (λ a. tt) ends_there (some_type n)

pub type_is_read : TypeIsRead
type_is_read n = sentence_is_read (type_parser (suc n)) (IsType (suc n)) Any TypeEnds (types_correct n) (λ a. tt) ends_there (some_type n)

pub type_reads_types : TypeReadsTypes
type_reads_types n ts t far e = read_is_sentence (type_parser (suc n)) (IsType (suc n)) Any TypeEnds (types_correct n) (λ a. tt) ends_there (some_type n) ts t (cursor [] far) e refl

pub type_is_refused : TypeIsRefused
type_is_refused n = refused_at_first (type_parser (suc n)) (IsType (suc n)) Any TypeEnds (types_correct n) (λ a. tt) ends_there (some_type n)
