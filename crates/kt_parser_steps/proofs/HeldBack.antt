-- What a part read that stands beside a value that was made already.
use Rattle.std.proofs.Common.{◌≡◌, ◌≢◌, Result, Ok, Err, subst}
use Rattle.kt_parser_steps.specs.declared.error.ParseError.{ParseError}
use Rattle.kt_parser_steps.specs.declared.error.ParseError.TheVariants as parse_error
use Rattle.kt_grammar_parsers.specs.Parsers.{Cursor, Outcome}
use Rattle.kt_parser_steps.specs.declared.refused.Refused.{Refused}
use Rattle.kt_parser_steps.specs.Steps.{Expects, ReadsAs}

module _ {T A B : Type 0} (tree : A → B) (o : Outcome T B) (new : Cursor T) where
  pub read_beside : (r : Result A ParseError) (a : A) → r ≡ Ok a → ReadsAs tree o r new → o ≡ Ok (tree a, new)
  read_beside r a is h = subst (λ (z : Result A ParseError). ReadsAs tree o z new) is h

  pub refused_beside : (r : Result A ParseError) (e : ParseError) → r ≡ Err e → ReadsAs tree o r new → e ≢ parse_error.NoMemory → o ≡ Err new.far
  refused_beside r e is h = subst (λ (z : Result A ParseError). ReadsAs tree o z new) is h

  pub taken_beside : (r : Result A Refused) (a : A) → r ≡ Ok a → Expects tree o r new → o ≡ Ok (tree a, new)
  taken_beside r a is h = subst (λ (z : Result A Refused). Expects tree o z new) is h

  pub missed_beside : (r : Result A Refused) (e : Refused) → r ≡ Err e → Expects tree o r new → o ≡ Err new.far
  missed_beside r e is h = subst (λ (z : Result A Refused). Expects tree o z new) is h
