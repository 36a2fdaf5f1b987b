-- Files are read exactly, over expressions and statements.
use Rattle.std.proofs.Common.{
  ◌≡◌,
  Bool,
  true,
  false,
  List,
  [],
  ◌∷◌,
  ◌++◌,
  refl,
  ap,
  ◌∙◌,
  inl,
  inr,
  ◌-◌,
  Err,
  Ok,
  append_assoc,
  length,
  subst,
  sym,
}
use Rattle.kt_tree.specs.declared.tokens.TokenKind.{TokenKind}
use Rattle.kt_tree.specs.declared.tokens.TokenKind.TheVariants as kind
use Rattle.kt_tree.specs.declared.tokens.Keyword.TheVariants as word
use Rattle.kt_tree.specs.declared.tokens.SoftKeyword.{SoftKeyword}
use Rattle.kt_tree.specs.declared.tokens.SoftKeyword.TheVariants as soft
use Rattle.kt_tree.specs.declared.tokens.Token.{Token}
use Rattle.kt_tree.specs.Declarations as d
use Rattle.kt_tree.specs.Declarations.{DeclarationTree}
use Rattle.kt_tree.specs.Tokens.{
  is_identifier,
  is_keyword,
  is_soft_keyword,
  kind_is_identifier,
  kind_is_keyword,
  same_keyword,
  same_sign,
}
use Rattle.kt_grammar_parsers.specs.Parsers.{◌>>=◌, Cursor, attempt, behind, cursor, first, pure, some_levels}
use Rattle.kt_grammar_parsers.specs.Phrases.{Either, IsNothing, IsToken, NotReads, Seq}
use Rattle.kt_grammar.specs.Terminals.{kind_is_end}
use Rattle.kt_grammar.specs.Statements.{phrases}
use Rattle.kt_grammar.specs.Declarations.{
  IsClassWord,
  IsDeclaration,
  IsFile,
  IsFileOf,
  IsFileRefusedAt,
  IsFunction,
  OneTree,
  at_top,
  most_levels,
  outside,
}
use Rattle.kt_grammar.specs.StatementParser.{parsers}
use Rattle.kt_grammar.specs.DeclarationParser.{class_rest, class_word, declaration_parser, file_parser, function_parser}
use Rattle.kt_grammar_parsers.proofs.Correct.{Correct}
use Rattle.kt_grammar_parsers.proofs.Steps.{Any}
use Rattle.kt_grammar_parsers.proofs.Whole.{one_value, read_is_sentence, refused_at_first, sentence_is_read}
use Rattle.kt_grammar.proofs.tokens.Closing.{goes_on, kind_end}
use Rattle.kt_grammar.proofs.parts.Sequences.{Anything, Closes, Part, made, phrase_of, then}
use Rattle.kt_grammar.proofs.parts.Choices.{either_part, on_part, same_part, seq_left, seq_right}
use Rattle.kt_grammar.proofs.tokens.Begins.{
  Begins,
  either_begins_with,
  first_no,
  first_yes,
  of_kind,
  seq_begins_with,
  token_begins_with,
  kind_begins_expression,
  kind_begins_statement,
}
use Rattle.kt_grammar.proofs.parts.Below.{IsExpressionRead, ReadsBelow}
use Rattle.kt_grammar.proofs.tokens.Distinct.{no_keyword, token_no}
use Rattle.kt_grammar.proofs.tokens.Keywords.{keyword_or, or_keyword, or_left, or_right}
use Rattle.kt_grammar.proofs.tokens.Witnesses.{a_keyword, a_soft_keyword, keyword_is, begins_no_keyword}
use Rattle.kt_grammar.proofs.tokens.Following.{both_ways}
use Rattle.kt_grammar.proofs.parts.Enclosed.{as_read, items_until_part}
use Rattle.kt_grammar.proofs.declarations.ModifiersRead.{Unlike, soft_apart, soft_is_identifier}
use Rattle.kt_grammar.proofs.declarations.FunctionsRead.{
  Expressions,
  Statements,
  fun_behind,
  fun_unlike,
  function_begins,
  function_modifiers,
  function_part,
}
use Rattle.kt_grammar.proofs.declarations.ClassesRead.{
  AtEnd,
  IsClassRest,
  IsInterfaceRest,
  class_behind,
  class_modifiers,
  class_part,
  class_unlike,
  class_word_begins,
  class_word_part,
  interface_part,
}
use Rattle.kt_grammar.proofs.declarations.ConstantsRead.{IsConstantRest, IsEnumRest, constant_part, enum_part}

-- what holds of the tokens from a phrase on, where it holds from its first part on
seq_from : {A B : Type 0} {L : A → List Token → List Token → Type 0} {M : A → B → List Token → List Token → Type 0} (Holds : List Token → Type 0) → ((a : A) (u rest : List Token) → L a u rest → Holds (u ++ rest)) → (b : B) (u rest : List Token) → Seq L M b u rest → Holds (u ++ rest)
seq_from Holds from b u rest s = subst Holds (sym (ap (λ (z : List Token). z ++ rest) s.is ∙ append_assoc s.front s.back rest)) (from s.value s.front (s.back ++ rest) s.phrase)

-- ---- with which tokens declarations begin

abbrev begins_other : TokenKind → Bool
begins_other (kind.Identifier name) = true
begins_other (kind.Keyword word.Fun) = true
begins_other (kind.Keyword word.Class) = true
begins_other _ = false

identifier_begins : (k : TokenKind) → kind_is_identifier k ≡ true → begins_other k ≡ true
identifier_begins (kind.Identifier name) h = refl
identifier_begins _ h = absurd cc

soft_begins : {B : Type 0} {M : Token → B → List Token → List Token → Type 0} (w : SoftKeyword) → Begins begins_other (Seq (IsToken (is_soft_keyword w)) M)
soft_begins w = seq_begins_with begins_other (token_begins_with (is_soft_keyword w) begins_other (λ t h. identifier_begins t.kind (soft_is_identifier w t h)))

-- ---- the alternatives

abbrev IsFunctionDeclaration : DeclarationTree → List Token → List Token → Type 0
IsFunctionDeclaration = Seq (IsFunction at_top) (λ f. IsNothing (d.function f))

abbrev IsClassDeclaration : DeclarationTree → List Token → List Token → Type 0
IsClassDeclaration = Seq IsClassWord (λ m. Seq (IsClassRest m) (λ c. IsNothing (d.class c)))

abbrev IsConstantDeclaration : DeclarationTree → List Token → List Token → Type 0
IsConstantDeclaration = Seq (IsToken (is_soft_keyword soft.Const)) (λ t. Seq (IsConstantRest t) (λ c. IsNothing (d.constant c)))

abbrev IsEnumDeclaration : DeclarationTree → List Token → List Token → Type 0
IsEnumDeclaration = Seq (IsToken (is_soft_keyword soft.Enum)) IsEnumRest

abbrev IsInterfaceDeclaration : DeclarationTree → List Token → List Token → Type 0
IsInterfaceDeclaration = Seq (IsToken (is_keyword word.Interface)) (λ t. Seq (IsInterfaceRest t) (λ i. IsNothing (d.interface i)))

-- in the order of the parser
abbrev Modifiable : DeclarationTree → List Token → List Token → Type 0
Modifiable = Either IsClassDeclaration IsFunctionDeclaration

abbrev FromConstant : DeclarationTree → List Token → List Token → Type 0
FromConstant = Either IsConstantDeclaration Modifiable

abbrev FromEnum : DeclarationTree → List Token → List Token → Type 0
FromEnum = Either IsEnumDeclaration FromConstant

abbrev FromInterface : DeclarationTree → List Token → List Token → Type 0
FromInterface = Either IsInterfaceDeclaration FromEnum

modifiable_begins : Begins begins_other Modifiable
modifiable_begins = either_begins_with begins_other
    (seq_begins_with begins_other (λ a u rest l. first_yes (of_kind (or_keyword word.Class kind_is_identifier)) (of_kind begins_other) u (λ t h. keyword_or word.Class kind_is_identifier begins_other refl identifier_begins t.kind h) (class_word_begins a u rest l)))
    (seq_begins_with begins_other (λ a u rest l. first_yes (of_kind (or_keyword word.Fun kind_is_identifier)) (of_kind begins_other) u (λ t h. keyword_or word.Fun kind_is_identifier begins_other refl identifier_begins t.kind h) (function_begins at_top a u rest l)))

from_enum_begins : Begins begins_other FromEnum
from_enum_begins = either_begins_with begins_other (soft_begins soft.Enum) (either_begins_with begins_other (soft_begins soft.Const) modifiable_begins)

abbrev begins_declaration : TokenKind → Bool
begins_declaration = or_keyword word.Interface begins_other

from_interface_begins : Begins begins_declaration FromInterface
from_interface_begins = either_begins_with begins_declaration
    (seq_begins_with begins_declaration (token_begins_with (is_keyword word.Interface) begins_declaration (λ t h. or_left (kind_is_keyword word.Interface t.kind) (begins_other t.kind) h)))
    (λ a u rest l. first_yes (of_kind begins_other) (of_kind begins_declaration) u (λ t h. or_right (kind_is_keyword word.Interface t.kind) (begins_other t.kind) h) (from_enum_begins a u rest l))

-- ---- what tells them apart

class_no_fun : (t : Token) → is_keyword word.Class t ≡ true → is_keyword word.Fun t ≡ false
unfolding same_keyword
class_no_fun = no_keyword (kind_is_keyword word.Class) word.Fun refl

-- Behind the identifiers that they begin with stands `fun` in the one, `class` in the other.
fun_no_class : (b : DeclarationTree) (u rest : List Token) → IsFunctionDeclaration b u rest → NotReads IsClassWord (u ++ rest)
fun_no_class b u rest s m v more is l =
    let ts = behind is_identifier (u ++ rest) in
    let f : first (is_keyword word.Fun) ts ≡ true = seq_from (λ (z : List Token). first (is_keyword word.Fun) (behind is_identifier z) ≡ true) (seq_from (λ (z : List Token). first (is_keyword word.Fun) (behind is_identifier z) ≡ true) fun_behind) b u rest s in
    let c : first (is_keyword word.Class) ts ≡ true = ap (λ (z : List Token). first (is_keyword word.Class) (behind is_identifier z)) is ∙ class_behind m v more l in
    both_ways (first (is_keyword word.Fun) ts) f (first_no (is_keyword word.Class) (is_keyword word.Fun) ts class_no_fun c)

modifiable_unlike : (v : SoftKeyword) → Unlike v class_modifiers → Unlike v function_modifiers → (b : DeclarationTree) (u rest : List Token) → Modifiable b u rest → first (is_soft_keyword v) (u ++ rest) ≡ false
modifiable_unlike v c f b u rest (inl s) = seq_from (λ (z : List Token). first (is_soft_keyword v) z ≡ false) (class_unlike v c) b u rest s
modifiable_unlike v c f b u rest (inr s) = seq_from (λ (z : List Token). first (is_soft_keyword v) z ≡ false) (seq_from (λ (z : List Token). first (is_soft_keyword v) z ≡ false) (fun_unlike v f)) b u rest s

no_const : (b : DeclarationTree) (u rest : List Token) → Modifiable b u rest → first (is_soft_keyword soft.Const) (u ++ rest) ≡ false
unfolding class_modifiers function_modifiers
no_const = modifiable_unlike soft.Const (refl, (refl, (refl, tt))) (refl, (refl, (refl, (refl, tt))))

no_enum : (b : DeclarationTree) (u rest : List Token) → FromConstant b u rest → first (is_soft_keyword soft.Enum) (u ++ rest) ≡ false
unfolding class_modifiers function_modifiers
no_enum b u rest (inl s) = seq_from (λ (z : List Token). first (is_soft_keyword soft.Enum) z ≡ false) (token_no (is_soft_keyword soft.Const) (is_soft_keyword soft.Enum) (soft_apart soft.Const soft.Enum refl)) b u rest s
no_enum b u rest (inr s) = modifiable_unlike soft.Enum (refl, (refl, (refl, tt))) (refl, (refl, (refl, (refl, tt)))) b u rest s

no_interface : (b : DeclarationTree) (u rest : List Token) → FromEnum b u rest → first (is_keyword word.Interface) (u ++ rest) ≡ false
no_interface = begins_no_keyword begins_other word.Interface refl from_enum_begins

-- ---- declarations

to_declaration : (b : DeclarationTree) (u rest : List Token) → FromInterface b u rest → IsDeclaration b u rest
to_declaration b u rest (inl s) = inr (inr (inl (seq_left (IsToken (is_keyword word.Interface)) IsInterfaceRest (λ i. IsNothing (d.interface i)) b u rest s)))
to_declaration b u rest (inr (inl s)) = inr (inr (inr (inl s)))
to_declaration b u rest (inr (inr (inl s))) = inr (inr (inr (inr (seq_left (IsToken (is_soft_keyword soft.Const)) IsConstantRest (λ c. IsNothing (d.constant c)) b u rest s))))
to_declaration b u rest (inr (inr (inr (inl s)))) = inr (inl (seq_left IsClassWord IsClassRest (λ c. IsNothing (d.class c)) b u rest s))
to_declaration b u rest (inr (inr (inr (inr s)))) = inl s

from_declaration : (b : DeclarationTree) (u rest : List Token) → IsDeclaration b u rest → FromInterface b u rest
from_declaration b u rest (inl s) = inr (inr (inr (inr s)))
from_declaration b u rest (inr (inl s)) = inr (inr (inr (inl (seq_right IsClassWord IsClassRest (λ c. IsNothing (d.class c)) b u rest s))))
from_declaration b u rest (inr (inr (inl s))) = inl (seq_right (IsToken (is_keyword word.Interface)) IsInterfaceRest (λ i. IsNothing (d.interface i)) b u rest s)
from_declaration b u rest (inr (inr (inr (inl s)))) = inr (inl s)
from_declaration b u rest (inr (inr (inr (inr s)))) = inr (inr (inl (seq_right (IsToken (is_soft_keyword soft.Const)) IsConstantRest (λ c. IsNothing (d.constant c)) b u rest s)))

declaration_begins : Begins begins_declaration IsDeclaration
declaration_begins b u rest l = from_interface_begins b u rest (from_declaration b u rest l)

end_closes : (tail : List Token) → AtEnd tail → Closes tail
unfolding same_sign
end_closes [] h = refl
end_closes (t ∷ tail) h = ap (λ (k : TokenKind). goes_on (record { kind = k; pos = t.pos })) (kind_end t.kind h)

module _ (E : Expressions) (S : Statements) where
  function_declaration_part : Part (function_parser at_top >>= (λ f. pure (d.function f))) IsFunctionDeclaration Anything (λ _. AtEnd)
  function_declaration_part = then (function_part E S at_top) (λ f. made (d.function f) end_closes)

  modifiable_part : Part (attempt class_word (λ m. class_rest m >>= (λ c. pure (d.class c))) (function_parser at_top >>= (λ f. pure (d.function f)))) Modifiable Anything (λ _. AtEnd)
  modifiable_part = either_part {D = Anything} class_word_part (λ m. then (class_part E S m) (λ c. made (d.class c) (λ tail h. h))) function_declaration_part fun_no_class

  -- decl : fun | class | iface | enum | const
  declaration_part : Part declaration_parser IsDeclaration Anything (λ _. AtEnd)
  declaration_part = same_part to_declaration from_declaration
      (on_part (a_keyword word.Interface) (keyword_is word.Interface) (λ t. then (interface_part E S t) (λ i. made (d.interface i) (λ tail h. h)))
      (on_part (a_soft_keyword soft.Enum) refl (λ t. enum_part t)
      (on_part (a_soft_keyword soft.Const) refl (λ t. then {F' = AtEnd} (constant_part t) (λ c. made (d.constant c) (λ tail h. h))) modifiable_part no_const)
      no_enum) no_interface)

  -- file : sep? (decl (sep decl)*)? sep? END
  pub file_part : Part file_parser IsFile Anything (λ _. Anything)
  unfolding file_parser
  file_part = then {F' = Anything} (items_until_part kind_is_end kind.End kind_end refl (λ at. refl) refl (λ tail h. h) (as_read declaration_part declaration_begins)) (λ ds. made ds.0 (λ tail h. tt))

  pub file_correct : Correct file_parser IsFile Any (λ _. Anything)
  file_correct = file_part.correct

  -- ---- whole files

  pub read_is_file_over : (ts : List Token) (file : List DeclarationTree) (c : Cursor Token) → file_parser (cursor ts ts) ≡ Ok (file, c) → c.rest ≡ [] → IsFileOf ts file
  read_is_file_over = read_is_sentence file_parser IsFile Any (λ _. Anything) file_correct (λ a. tt) (λ a. tt) (phrase_of file_part)

  pub file_is_read_over : (ts : List Token) (file : List DeclarationTree) → IsFileOf ts file → (far : List Token) × (file_parser (cursor ts ts) ≡ Ok (file, cursor [] far))
  file_is_read_over = sentence_is_read file_parser IsFile Any (λ _. Anything) file_correct (λ a. tt) (λ a. tt) (phrase_of file_part)

  pub one_tree_over : OneTree
  one_tree_over = one_value file_parser IsFile Any (λ _. Anything) file_correct (λ a. tt) (λ a. tt) (phrase_of file_part)

  pub file_is_refused_over : (ts k : List Token) → file_parser (cursor ts ts) ≡ Err k → IsFileRefusedAt ts (length ts - length k)
  file_is_refused_over = refused_at_first file_parser IsFile Any (λ _. Anything) file_correct (λ a. tt) (λ a. tt) (phrase_of file_part)

-- ---- from what is known of all levels

some_left : some_levels (parsers most_levels).levels ≡ true
unfolding parsers most_levels
some_left = refl

module _ (R : ReadsBelow (parsers most_levels) (phrases most_levels)) where
  pub expressions_are_read : Expressions
  expressions_are_read = subst (λ (b : Bool). IsExpressionRead b ((parsers most_levels).disjunction outside) ((phrases most_levels).disjunction outside) kind_begins_expression) some_left (R.disjunction outside)

  pub statements_are_read : Statements
  statements_are_read = subst (λ (b : Bool). IsExpressionRead b ((parsers most_levels).statement outside) ((phrases most_levels).statement outside) kind_begins_statement) some_left (R.statement outside)
