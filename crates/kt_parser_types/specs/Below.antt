-- The parser of types in the shape of its code.
use Rattle.std.specs.Prelude.{ℕ, Bool, List, [], ◌∷◌, Option, Some, None, Result}
use denote.Ref.{MutBor}
use Rattle.std.specs.declared.alloc.Global.{Global}
use Rattle.kt_tree.specs.declared.tokens.Token.{Token}
use Rattle.kt_tree.specs.declared.tokens.Sign.TheVariants as sign
use Rattle.kt_tree.specs.declared.tokens.SoftKeyword.TheVariants as soft
use Rattle.kt_tree.specs.declared.types.TypeReference.{TypeReference}
use Rattle.kt_tree.specs.Tokens.{is_sign, is_soft_keyword}
use Rattle.kt_tree.specs.Types.{TypeTree, named, types_of, type_tree}
use Rattle.kt_parser_steps.specs.declared.error.ParseError.{ParseError}
use Rattle.kt_grammar_parsers.specs.Parsers.{Cursor, Parser, ◌>>=◌, ◌>>◌, pure, token, ahead, attempt_if}
use Rattle.kt_grammar.specs.Readers.{type_parser, type_arguments, named_type, maybe_nullable}
use Rattle.kt_parser_steps.specs.Steps.{ReadsAs}

-- a function value that reads types of so many levels
pub record ReadsBelow (room : ℕ) (pre : Global → ℕ → MutBor (Cursor Token) → Type 0)
    (post : Global → ℕ → MutBor (Cursor Token) → Result TypeReference ParseError → MutBor (Cursor Token) → Type 0) :
    Type 0 where
  pub callable : (alloc : Global) (old : MutBor (Cursor Token)) → pre alloc room old
  pub reads : (alloc : Global) (old new : MutBor (Cursor Token)) (r : Result TypeReference ParseError)
      → post alloc room old r new
      → ReadsAs type_tree (type_parser room old.now) r new.now

-- targs?
abbrev pub behind_name : Bool → Parser Token TypeTree → List ℕ → Parser Token TypeTree
behind_name deep part name =
    attempt_if deep (type_arguments part) (λ ts. pure (named name (types_of ts))) (pure (named name (types_of [])))

-- ID targs? '?'?
abbrev pub named_or_nullable : Bool → Parser Token TypeTree → Parser Token TypeTree
named_or_nullable deep part = named_type deep part >>= maybe_nullable

-- 'suspend', where '(' follows
abbrev pub suspend_ahead : Parser Token (Unit {0})
suspend_ahead = token (is_soft_keyword soft.Suspend) >> ahead (is_sign sign.OpenParenthesis)

-- the element of a list that has one alone
abbrev pub only_one : {A : Type 0} → List A → Option A
only_one (a ∷ []) = Some a
only_one _ = None

-- a type that is written where one may be absent
abbrev pub some_type : ℕ → Parser Token (Option TypeTree)
some_type room = type_parser room >>= (λ t. pure (Some t))
