-- The grammar of declarations and of files.
use Rattle.std.specs.Prelude.{ℕ, Bool, true, false, not, List, [], ◌∷◌, ◌++◌, Option, None, Some, is_some, ◌⊎◌}
use Rattle.std.proofs.Common.{inl, inr}
use Rattle.kt_base.specs.declared.refusals.Pos.{Pos}
use Rattle.kt_tree.specs.declared.tokens.Token.{Token}
use Rattle.kt_tree.specs.declared.tokens.Sign.TheVariants as sign
use Rattle.kt_tree.specs.declared.tokens.Keyword.TheVariants as word
use Rattle.kt_tree.specs.declared.tokens.SoftKeyword.{SoftKeyword}
use Rattle.kt_tree.specs.declared.tokens.SoftKeyword.TheVariants as soft
use Rattle.kt_tree.specs.declared.bodies.TextPart.{TextPart}
use Rattle.kt_tree.specs.declared.declarations.FunctionModifiers.{FunctionModifiers}
use Rattle.kt_tree.specs.declared.declarations.ClassModifiers.{ClassModifiers}
use Rattle.kt_tree.specs.declared.declarations.ConstructorParameterKind.{ConstructorParameterKind}
use Rattle.kt_tree.specs.declared.declarations.ConstructorParameterKind.TheVariants as parameter
use Rattle.kt_tree.specs.declared.declarations.EnumEntry.{EnumEntry}
use Rattle.kt_tree.specs.declared.declarations.ConstantValue.{ConstantValue}
use Rattle.kt_tree.specs.declared.declarations.ConstantValue.TheVariants as value
use Rattle.kt_tree.specs.Tokens.{is_keyword, is_sign}
use Rattle.kt_tree.specs.Types.{TypeTree}
use Rattle.kt_tree.specs.Bodies.{ExpressionTree}
use Rattle.kt_tree.specs.Declarations as d
use Rattle.kt_tree.specs.Declarations.{
  TypeParameterTree,
  TypedParameterTree,
  FunctionBodyTree,
  FunctionTree,
  ConstructorParameterTree,
  SuperArgumentsTree,
  SupertypeTree,
  PropertyTree,
  MemberTree,
  ClassTree,
  InterfaceTree,
  ConstantTree,
  DeclarationTree,
}
use Rattle.kt_grammar_parsers.specs.Phrases.{IsToken, Seq, Either, Loop, If, Where}
use Rattle.kt_grammar_parsers.specs.Sentences.{IsSentence, IsRefusedAt, OneValue}
use Rattle.kt_grammar.specs.Terminals.{
  Meaning,
  means,
  nothing,
  name_of,
  is_end,
  is_open_quote,
  is_close_quote,
  literal_of,
  text_of,
  variable_of,
}
use Rattle.kt_grammar.specs.Words.{
  Empty,
  Gives,
  IsSign,
  IsKeyword,
  IsSoftKeyword,
  IsIdentifier,
  IsMeant,
  IsLines,
  IsPast,
  Maybe,
  CommaList,
  MaybeCommaList,
  Several,
  Items,
  Directly,
}
use Rattle.kt_grammar.specs.Types.{IsType, IsNamedType}
use Rattle.kt_grammar.specs.Levels.{Phrases, place}
use Rattle.kt_grammar.specs.declared.context.Context.{Context}
use Rattle.kt_grammar.specs.Expressions.{IsBlock}
use Rattle.kt_grammar.specs.Statements.{phrases}

-- the greatest number of levels
unfoldable pub most_levels : ℕ
most_levels = 200

abbrev pub top : Phrases
top = phrases most_levels

-- one level less, for the parts of a supertype
abbrev pub IsTypeArgument : TypeTree → List Token → List Token → Type 0
IsTypeArgument = IsType 199

-- outside of every loop and lambda
abbrev pub outside : Context
outside = record { in_loop = false; in_lambda = false }

-- where a function stands
pub data Scope : Type 0 where
  at_top : Scope
  in_class : Scope
  in_interface : Scope

-- ---- parameters

-- tparam : ID (':' type)?
abbrev pub IsTypeParameter : TypeParameterTree → List Token → List Token → Type 0
IsTypeParameter = Seq IsIdentifier
    (λ x. Seq (Maybe (is_sign sign.Colon) (IsType most_levels)) (λ t. Gives (record { name = name_of x; bound = t })))

-- tparams? with tparams : '<' tparam (',' tparam)* '>'
abbrev pub IsTypeParameters : List TypeParameterTree → List Token → List Token → Type 0
IsTypeParameters = Where (IsSign sign.Less) (λ _. CommaList (is_sign sign.Greater) IsTypeParameter) (Gives [])

-- param : ID ':' type
abbrev pub IsTypedParameter : TypedParameterTree → List Token → List Token → Type 0
IsTypedParameter = Seq IsIdentifier
    (λ x. Seq (IsSign sign.Colon)
    (λ _. Seq (IsType most_levels) (λ t. Gives (record { name = name_of x; annotation = t }))))

-- ---- functions

-- a list of modifiers, of which each stands once
pub record Modified (M : Type 0) : Type 0 where
  -- the place of the first of them
  pub start : Option Pos
  pub modifiers : M

abbrev pub first_place : Option Pos → Token → Option Pos
first_place None t = Some t.pos
first_place (Some at) t = Some at

-- the place of the first token
abbrev pub start_of : Option Pos → Token → Pos
start_of None t = t.pos
start_of (Some at) t = at

-- one modifier more, where it doesn't stand yet
abbrev pub IsModifier : {M : Type 0} → SoftKeyword → (M → Bool) → (M → M) → Modified M → Modified M → List Token
    → List Token → Type 0
IsModifier w stands add m =
    If (stands m.modifiers) Empty
    (Seq (IsSoftKeyword w) (λ t. Gives (record { start = first_place m.start t; modifiers = add m.modifiers })))

-- fmod : 'override' | 'open' | 'abstract' | 'suspend'
abbrev pub IsFunctionModifier : Modified FunctionModifiers → Modified FunctionModifiers → List Token → List Token
    → Type 0
IsFunctionModifier m = Either (IsModifier soft.Override (λ f. f.is_override) (λ f. record f { is_override = true }) m)
    (Either (IsModifier soft.Open (λ f. f.is_open) (λ f. record f { is_open = true }) m)
    (Either (IsModifier soft.Abstract (λ f. f.is_abstract) (λ f. record f { is_abstract = true }) m)
    (IsModifier soft.Suspend (λ f. f.is_suspend) (λ f. record f { is_suspend = true }) m)))

-- (a modifier)* and the word behind them, with the place of the first token
abbrev pub ModifierTurn : {M : Type 0} → (Modified M → Modified M → List Token → List Token → Type 0)
    → (Token → List Token → List Token → Type 0) → Modified M → Modified M ⊎ (Pos × M) → List Token → List Token
    → Type 0
ModifierTurn Modifier Word m =
    Either (Seq (Modifier m) (λ n. Gives (inl n))) (Seq Word (λ t. Gives (inr (start_of m.start t, m.modifiers))))

-- fmod* 'fun'
abbrev pub IsFun : Pos × FunctionModifiers → List Token → List Token → Type 0
IsFun = Loop (ModifierTurn IsFunctionModifier (IsKeyword word.Fun))
    (record {
      start = None;
      modifiers = record { is_override = false; is_open = false; is_abstract = false; is_suspend = false };
    })

-- n block | '=' n expr
-- A body behind `=` needs the result type.
abbrev pub IsFunctionBody : Bool → FunctionBodyTree → List Token → List Token → Type 0
IsFunctionBody typed =
    Either (Seq (IsPast (IsBlock (top.statement outside))) (λ b. Gives (d.braces b)))
    (If typed (Seq (IsSign sign.Assign) (λ _. Seq (IsPast (top.disjunction outside)) (λ a. Gives (d.result a)))) Empty)

abbrev pub has_body : Scope → FunctionModifiers → Bool
has_body in_interface m = false
has_body _ m = not m.is_abstract

abbrev pub may_be_generic : Scope → Bool
may_be_generic at_top = true
may_be_generic _ = false

-- fun : fmod* 'fun' tparams? ID '(' params? ')' (':' type)? (n block | '=' n expr)?      params : param (',' param)*
-- There is no body exactly where it is abstract or in an interface. In a class or an interface it has no type
-- parameters.
abbrev pub IsFunction : Scope → FunctionTree → List Token → List Token → Type 0
IsFunction scope = Seq IsFun
    (λ m. Seq (If (may_be_generic scope) IsTypeParameters (Gives []))
    (λ ts. Seq IsIdentifier
    (λ x. Seq (IsSign sign.OpenParenthesis)
    (λ _. Seq (MaybeCommaList (is_sign sign.CloseParenthesis) IsTypedParameter) (λ ps.
    Seq (Maybe (is_sign sign.Colon) (IsType most_levels))
    (λ r. Seq (If (has_body scope m.1) (Seq (IsFunctionBody (is_some r)) (λ b. Gives (Some b))) (Gives None)) (λ b.
    Gives (record {
      at = m.0;
      modifiers = m.1;
      type_parameters = ts;
      name = name_of x;
      parameters = ps;
      result = r;
      body = b;
    }))))))))

-- ---- classes and interfaces

-- 'val'?, 'var'? or neither
abbrev pub kind_of : Meaning ConstructorParameterKind
kind_of = means (is_keyword word.Val) parameter.Val (means (is_keyword word.Var) parameter.Var nothing)

-- cparam : ('val' | 'var')? ID ':' type
abbrev pub IsConstructorParameter : ConstructorParameterTree → List Token → List Token → Type 0
IsConstructorParameter =
    Seq (Where (IsMeant kind_of) (λ k. Gives k.1) (Gives parameter.Plain))
    (λ k. Seq IsTypedParameter (λ p. Gives (record { kind = k; name = p.name; annotation = p.annotation })))

-- ('(' cparams? ')')?      cparams : cparam (',' cparam)*
abbrev pub IsConstructor : List ConstructorParameterTree → List Token → List Token → Type 0
IsConstructor = Where (IsSign sign.OpenParenthesis)
    (λ _. MaybeCommaList (is_sign sign.CloseParenthesis) IsConstructorParameter) (Gives [])

-- the place of the first argument, or of `(`
abbrev pub arguments_at : Token → List ExpressionTree → Pos
arguments_at t [] = t.pos
arguments_at t (a ∷ as') = place a

-- super : ID targs? ('(' args? ')')?
abbrev pub IsSupertype : SupertypeTree → List Token → List Token → Type 0
IsSupertype = Seq (IsNamedType IsTypeArgument)
    (λ t. Seq (Where (IsSign sign.OpenParenthesis)
    (λ open_. Seq (MaybeCommaList (is_sign sign.CloseParenthesis) (top.disjunction outside))
    (λ es. Gives (Some (record { at = arguments_at open_ es; values = es })))) (Gives None))
    (λ as'. Gives (record { parent = t; arguments = as' })))

-- (':' n super (',' n super)*)?
abbrev pub IsSupertypes : {A : Type 0} → (A → List Token → List Token → Type 0) → List A → List Token → List Token
    → Type 0
IsSupertypes Super = Where (IsSign sign.Colon) (λ _. IsPast (Several Directly Super)) (Gives [])

-- (n '{' sep? (item (sep item)*)? sep? '}')?
abbrev pub IsMembers : {A : Type 0} → (A → List Token → List Token → Type 0) → List A → List Token → List Token → Type 0
IsMembers Item = Where (IsPast (IsSign sign.OpenBrace))
    (λ _. Seq (Items (is_sign sign.CloseBrace) Item) (λ ms. Gives ms.0)) (Gives [])

-- ('val' | 'var') ID ':' type '=' n expr
abbrev pub IsProperty : PropertyTree → List Token → List Token → Type 0
IsProperty = Seq (IsMeant variable_of)
    (λ var. Seq IsTypedParameter
    (λ p. Seq (IsSign sign.Assign)
    (λ _. Seq (IsPast (top.disjunction outside))
    (λ a. Gives (record {
      at = var.0.pos;
      is_variable = var.1;
      name = p.name;
      annotation = p.annotation;
      initializer = a;
    })))))

-- member : fun | ('val' | 'var') ID ':' type '=' n expr
abbrev pub IsMember : MemberTree → List Token → List Token → Type 0
IsMember = Either (Seq (IsFunction in_class) (λ f. Gives (d.method f))) (Seq IsProperty (λ p. Gives (d.property p)))

-- 'open' | 'abstract' | 'data'
abbrev pub IsClassModifier : Modified ClassModifiers → Modified ClassModifiers → List Token → List Token → Type 0
IsClassModifier m = Either (IsModifier soft.Open (λ c. c.is_open) (λ c. record c { is_open = true }) m)
    (Either (IsModifier soft.Abstract (λ c. c.is_abstract) (λ c. record c { is_abstract = true }) m)
    (IsModifier soft.Data (λ c. c.is_data) (λ c. record c { is_data = true }) m))

-- ('open' | 'abstract' | 'data')* 'class'
abbrev pub IsClassWord : Pos × ClassModifiers → List Token → List Token → Type 0
IsClassWord = Loop (ModifierTurn IsClassModifier (IsKeyword word.Class))
    (record { start = None; modifiers = record { is_open = false; is_abstract = false; is_data = false } })

-- class : ('open' | 'abstract' | 'data')* 'class' ID tparams? ('(' cparams? ')')? (':' n super (',' n super)*)?
--         (n '{' sep? (member (sep member)*)? sep? '}')?
abbrev pub IsClass : ClassTree → List Token → List Token → Type 0
IsClass = Seq IsClassWord
    (λ m. Seq IsIdentifier
    (λ x. Seq IsTypeParameters
    (λ ts. Seq IsConstructor (λ ps. Seq (IsSupertypes IsSupertype) (λ ss. Seq (IsMembers IsMember) (λ ms.
    Gives (record {
      at = m.0;
      modifiers = m.1;
      name = name_of x;
      type_parameters = ts;
      parameters = ps;
      supertypes = ss;
      members = ms;
    })))))))

-- iface : 'interface' ID tparams? (':' n super (',' n super)*)? (n '{' sep? (fun (sep fun)*)? sep? '}')?
-- Its supertypes have no arguments.
abbrev pub IsInterface : InterfaceTree → List Token → List Token → Type 0
IsInterface = Seq (IsKeyword word.Interface)
    (λ t. Seq IsIdentifier
    (λ x. Seq IsTypeParameters
    (λ ts. Seq (IsSupertypes (IsNamedType IsTypeArgument)) (λ ss. Seq (IsMembers (IsFunction in_interface)) (λ fs.
    Gives (record { at = t.pos; name = name_of x; type_parameters = ts; supertypes = ss; functions = fs }))))))

-- ---- enums and constants

abbrev pub IsEnumEntry : EnumEntry → List Token → List Token → Type 0
IsEnumEntry = Seq IsIdentifier (λ t. Gives (record { at = t.pos; name = name_of t }))

-- enum : 'enum' 'class' ID n '{' n ID (n ',' n ID)* n '}'
abbrev pub IsEnum : DeclarationTree → List Token → List Token → Type 0
IsEnum = Seq (IsSoftKeyword soft.Enum)
    (λ t. Seq (IsKeyword word.Class)
    (λ _. Seq IsIdentifier
    (λ x. Seq (IsPast (IsSign sign.OpenBrace))
    (λ _. Seq (IsPast (Several IsLines IsEnumEntry)) (λ es. Seq (IsPast (IsSign sign.CloseBrace)) (λ _.
    Gives (d.enum (record { at = t.pos; name = name_of x; entries = es }))))))))

-- '-'? literal
abbrev pub IsConstantLiteral : ConstantValue → List Token → List Token → Type 0
IsConstantLiteral = Seq (Where (IsSign sign.Minus) (λ _. Gives true) (Gives false))
    (λ minus. Seq (IsMeant literal_of) (λ l. Gives (value.Literal minus l.1)))

abbrev pub TextTurn : List TextPart → List TextPart ⊎ List TextPart → List Token → List Token → Type 0
TextTurn ps = Either (Seq (IsMeant text_of) (λ t. Gives (inl (ps ++ t.1 ∷ []))))
    (Seq (IsToken is_close_quote) (λ _. Gives (inr ps)))

-- a string all of whose parts are text
abbrev pub IsConstantText : ConstantValue → List Token → List Token → Type 0
IsConstantText = Seq (IsToken is_open_quote) (λ _. Seq (Loop TextTurn []) (λ ps. Gives (value.Text ps)))

-- const : 'const' 'val' ID (':' type)? '=' n ('-'? literal | string)
abbrev pub IsConstant : ConstantTree → List Token → List Token → Type 0
IsConstant = Seq (IsSoftKeyword soft.Const)
    (λ t. Seq (IsKeyword word.Val)
    (λ _. Seq IsIdentifier
    (λ x. Seq (Maybe (is_sign sign.Colon) (IsType most_levels))
    (λ a. Seq (IsSign sign.Assign) (λ _. Seq (IsPast (Either IsConstantLiteral IsConstantText)) (λ v.
    Gives (record { at = t.pos; name = name_of x; annotation = a; value = v })))))))

-- ---- files

-- decl : fun | class | iface | enum | const
abbrev pub IsDeclaration : DeclarationTree → List Token → List Token → Type 0
IsDeclaration = Either (Seq (IsFunction at_top) (λ f. Gives (d.function f)))
    (Either (Seq IsClass (λ c. Gives (d.class c)))
    (Either (Seq IsInterface (λ i. Gives (d.interface i)))
    (Either IsEnum (Seq IsConstant (λ c. Gives (d.constant c))))))

-- file : sep? (decl (sep decl)*)? sep? END
abbrev pub IsFile : List DeclarationTree → List Token → List Token → Type 0
IsFile = Seq (Items is_end IsDeclaration) (λ ds. Gives ds.0)

-- the tokens of a file with this tree
abbrev pub IsFileOf : List Token → List DeclarationTree → Type 0
IsFileOf ts file = IsSentence IsFile ts file

-- the first token that extends no prefix of a file's tokens
abbrev pub IsFileRefusedAt : List Token → ℕ → Type 0
IsFileRefusedAt ts at = IsRefusedAt IsFile ts at

-- a list of tokens has at most one tree
abbrev pub OneTree : Type 0
OneTree = OneValue IsFile
