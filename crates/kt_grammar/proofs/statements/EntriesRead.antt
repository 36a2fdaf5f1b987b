-- What `when` and `try` hold is read exactly.
use Rattle.std.proofs.Common.{
  ◌≡◌,
  ℕ,
  suc,
  Bool,
  true,
  false,
  not,
  List,
  [],
  ◌∷◌,
  ◌++◌,
  None,
  Some,
  Err,
  refl,
  sym,
  ap,
  ◌∙◌,
  inl,
  inr,
}
use Rattle.std.proofs.lemmas.List.{append-nil}
use Rattle.kt_tree.specs.declared.tokens.Token.{Token}
use Rattle.kt_tree.specs.declared.tokens.TokenKind.{TokenKind}
use Rattle.kt_tree.specs.declared.tokens.TokenKind.TheVariants as kind
use Rattle.kt_tree.specs.declared.tokens.Keyword.TheVariants as word
use Rattle.kt_tree.specs.declared.tokens.Sign.TheVariants as sign
use Rattle.kt_tree.specs.Tokens.{same_sign, same_keyword, kind_is_sign, is_sign, is_keyword, is_new_line}
use Rattle.kt_tree.specs.Bodies as e
use Rattle.kt_tree.specs.Bodies.{ExpressionTree, BodyTree, EntryTree, ConditionTree, CatchTree, conditions_of}
use Rattle.kt_grammar_parsers.specs.Parsers.{
  Cursor,
  Outcome,
  Parser,
  cursor,
  and_then,
  further,
  first,
  some_levels,
  ◌>>=◌,
  pure,
  repeat,
  more_turn,
  attempt,
}
use Rattle.kt_grammar_parsers.specs.Phrases.{IsNothing, IsToken, Seq, Either, NotReads}
use Rattle.kt_grammar.specs.Words.{Empty, IsMeant, IsPast, Several, Directly}
use Rattle.kt_grammar.specs.Terminals.{Meaning, type_check_of, means, nothing}
use Rattle.kt_grammar.specs.Types.{IsType}
use Rattle.kt_grammar.specs.Levels.{Phrases}
use Rattle.kt_grammar.specs.declared.context.Context.{Context}
use Rattle.kt_grammar.specs.Statements.{IsCondition, IsEntry, IsCatchRest}
use Rattle.kt_grammar.specs.Readers.{meant, several_items, type_parser}
use Rattle.kt_grammar.specs.ExpressionParser.{Parsers}
use Rattle.kt_grammar.specs.StatementParser.{
  condition_parser,
  refused_if,
  entry_head,
  entry_rest,
  entry_parser,
  catch_parser,
}
use Rattle.kt_grammar.proofs.types.TypesRead.{a_sign}
use Rattle.kt_grammar_parsers.proofs.Ends.{tied_move}
use Rattle.kt_grammar_parsers.proofs.Correct.{Correct, below as below_n, correct, same_parser, same_language, which}
use Rattle.kt_grammar_parsers.proofs.Steps.{Any, truth, pure_correct}
use Rattle.kt_grammar_parsers.proofs.Forms.{from_true, from_false}
use Rattle.kt_grammar.proofs.tokens.Meant.{meant_is_refused}
use Rattle.kt_grammar.proofs.tokens.Meanings.{meant_part}
use Rattle.kt_grammar.proofs.parts.Left.{further_again, on_dead_correct}
use Rattle.kt_grammar_parsers.proofs.On.{Phrase}
use Rattle.kt_grammar.proofs.tokens.Closing.{kind_sign}
use Rattle.kt_grammar.proofs.parts.Sequences.{Part, Anything, Closes, then, made}
use Rattle.kt_grammar.proofs.parts.Choices.{either_part, on_part, past_then}
use Rattle.kt_grammar.proofs.types.TypeParts.{type_part, halting_type}
use Rattle.kt_grammar.proofs.tokens.Begins.{
  of_kind,
  Begins,
  kind_begins_expression,
  kind_begins_statement,
  kind_begins_condition,
  kind_begins_entry,
  begins_no,
  first_yes,
  first_of_front,
  seq_begins_with,
  either_begins_with,
  token_begins_with,
}
use Rattle.kt_grammar.proofs.parts.Below.{Halts, IsExpressionRead, two_levels, condition_levels, ReadsBelow}
use Rattle.kt_grammar.proofs.tokens.Distinct.{
  kind_keyword,
  no_new_line,
  no_sign,
  no_keyword,
  means_none,
  means_some,
  no_meaning,
  token_no,
}
use Rattle.kt_grammar.proofs.parts.Productions.{from_read}
use Rattle.kt_grammar.proofs.tokens.Witnesses.{parenthesis_ends, a_keyword, keyword_is, sign_is, sign_part, close_then}
use Rattle.kt_grammar.proofs.tokens.BeforeArrow.{ArrowNext, several_before_arrow}
use Rattle.kt_grammar.proofs.expressions.BlocksRead.{block_part}
use Rattle.kt_grammar.proofs.statements.LoopsRead.{block_no_line}

module _ (below : Parsers) (under : Phrases) (R : ReadsBelow below under) (at : Context) where
  -- type ')' n block
  pub catch_part : (name : List ℕ) → Part (catch_parser (suc below.levels) below at name) (IsCatchRest (suc below.levels) under at name) Anything (λ _. Anything)
  catch_part name = close_then sign.CloseParenthesis parenthesis_ends (type_part below.levels) (λ t _. past_then (block_no_line (under.statement at)) (block_part (R.statement at)) (λ b. made (e.catch name t b) (λ tail h. tt)))

-- ---- conditions

type_check_part : Part (meant type_check_of) (IsMeant type_check_of) Anything (λ _. Anything)
unfolding same_sign same_keyword
type_check_part = meant_part type_check_of (a_keyword word.Is) false refl (λ tail h. tt)

is-is : type_check_of (a_keyword word.Is) ≡ Some false
unfolding same_sign same_keyword
is-is = refl

-- what begins no expression
check_none : (t : Token) → of_kind kind_begins_expression t ≡ true → type_check_of t ≡ None
check_none t h = means_none (is_keyword word.Is) false (means (is_sign sign.NotIs) true nothing) t (no_keyword kind_begins_expression word.Is refl t h) (means_none (is_sign sign.NotIs) true nothing t (no_sign kind_begins_expression sign.NotIs refl t h) refl)

check_begins : (t : Token) (b : Bool) → type_check_of t ≡ Some b → kind_begins_condition t.kind ≡ true
check_begins t b h = elim (means_some (is_keyword word.Is) false (means (is_sign sign.NotIs) true nothing) t b h) [
  | inl y ↦ ap kind_begins_condition (kind_keyword word.Is t.kind y)
  | inr more ↦ elim (means_some (is_sign sign.NotIs) true nothing t b more) [ inl y ↦ ap kind_begins_condition (kind_sign sign.NotIs t.kind y) | inr none ↦ absurd (let i : None ≡ Some b = none in cc) ]
]

condition_wider : (k : TokenKind) → kind_begins_expression k ≡ true → kind_begins_condition k ≡ true
condition_wider (kind.Keyword word.Is) h = refl
condition_wider (kind.Sign sign.NotIs) h = refl
condition_wider _ h = h

entry_wider : (k : TokenKind) → kind_begins_condition k ≡ true → kind_begins_entry k ≡ true
entry_wider (kind.Keyword word.Else) h = refl
entry_wider _ h = h

arrow_no_line : (t : Token) (u rest : List Token) → IsToken (is_sign sign.Arrow) t u rest → first is_new_line (u ++ rest) ≡ false
arrow_no_line = token_no (is_sign sign.Arrow) is_new_line (no_new_line (kind_is_sign sign.Arrow) refl)

-- where the other refuses, an attempt at a token that stands for something is that token
dead_meant : {A B : Type 0} (of : Meaning A) (witness : Token) (value : A) → of witness ≡ Some value → (go : Token × A → Parser Token B) (other : Parser Token B) → ((c : Cursor Token) → other c ≡ Err (further c.rest c.far)) → (c : Cursor Token) → attempt (meant of) go other c ≡ (meant of >>= go) c
unfolding attempt
dead_meant of witness value stands go other dead c = elim (which (meant of c)) [
  | inl o ↦ rw o.1 refl
  | inr k ↦
      let marks : further c.rest c.far ≡ k.0 = meant_is_refused of witness value stands (λ _ _. Unit {0}) c.rest c.far k.0 k.1 in
      rw k.1 (dead (cursor c.rest k.0) ∙ ap Err (ap (further c.rest) (sym marks) ∙ further_again c.rest c.far ∙ marks))
]

module _ (below : Parsers) (under : Phrases) (R : ReadsBelow below under) (at : Context) where
  abbrev IsEquals : ConditionTree → List Token → List Token → Type 0
  IsEquals = Seq (under.disjunction at) (λ a. IsNothing (e.equals a))

  abbrev IsTyped : ConditionTree → List Token → List Token → Type 0
  IsTyped = Seq (IsMeant type_check_of) (λ negated. Seq (IsType (suc below.levels)) (λ t. IsNothing (e.of_type negated.1 t)))

  abbrev equals : Parser Token ConditionTree
  equals = below.disjunction at >>= (λ a. pure (e.equals a))

  abbrev typed : Token × Bool → Parser Token ConditionTree
  typed negated = type_parser (suc below.levels) >>= (λ t. pure (e.of_type negated.1 t))

  equals_part : some_levels below.levels ≡ true → Part equals IsEquals Anything (λ _. Closes)
  equals_part h = then (from_read (R.disjunction at) h) (λ a. made (e.equals a) (λ tail c. c))

  no_check : (c : ConditionTree) (u rest : List Token) → IsEquals c u rest → NotReads (IsMeant type_check_of) (u ++ rest)
  no_check c u rest s = no_meaning type_check_of kind_begins_expression check_none (u ++ rest) (first_of_front (of_kind kind_begins_expression) u rest (seq_begins_with kind_begins_expression (R.disjunction at).begins c u rest s))

  no_equals : some_levels below.levels ≡ false → (c : ConditionTree) (u rest : List Token) → IsEquals c u rest → ⊥
  no_equals h c u rest s = (R.disjunction at).none h s.value s.front (s.back ++ rest) s.phrase

  dead_equals : some_levels below.levels ≡ false → (c : Cursor Token) → equals c ≡ Err (further c.rest c.far)
  dead_equals h c = ap (λ (o : Outcome Token ExpressionTree). and_then o (λ a. pure (e.equals a))) ((R.disjunction at).refuses h c)

  typed_part : (negated : Token × Bool) → Part (typed negated) (Seq (IsType (suc below.levels)) (λ t. IsNothing (e.of_type negated.1 t))) Anything (λ _. Closes)
  typed_part negated = then (type_part below.levels) (λ t. made (e.of_type negated.1 t) (λ tail c. c))

  flat_correct : some_levels below.levels ≡ false → Correct (attempt (meant type_check_of) typed equals) (Either IsTyped IsEquals) Any (λ _. Closes)
  flat_correct h = correct (attempt (meant type_check_of) typed equals) (Either IsTyped IsEquals) Any (λ _. Closes) (λ n. same_parser n (meant type_check_of >>= typed) (attempt (meant type_check_of) typed equals) (Either IsTyped IsEquals) Any (λ _. Closes) (λ c t. dead_meant type_check_of (a_keyword word.Is) false is-is typed equals (dead_equals h) c) tied_move
      (same_language n (meant type_check_of >>= typed) IsTyped (Either IsTyped IsEquals) Any Any (λ _. Closes) (λ _. Closes) (λ c u rest s. inl s) (λ c u rest l g. elim l [ inl s ↦ s | inr s ↦ absurd (no_equals h c u rest s) ]) (λ c rest g. g) (λ c rest i. i)
      (below_n n (meant type_check_of >>= typed) IsTyped Any (λ _. Closes) (then type_check_part typed_part).correct)))

  choice_correct : Correct (attempt (meant type_check_of) typed equals) (Either IsTyped IsEquals) Any (λ _. Closes)
  choice_correct = elim (truth (some_levels below.levels)) [ inl h ↦ (either_part type_check_part typed_part (equals_part h) no_check).correct | inr h ↦ flat_correct h ]

  subject_correct : Correct (condition_parser (suc below.levels) below at true) (IsCondition (suc below.levels) under at true) Any (λ _. Closes)
  subject_correct = correct (attempt (meant type_check_of) typed equals) (IsCondition (suc below.levels) under at true) Any (λ _. Closes) (λ n. same_language n (attempt (meant type_check_of) typed equals) (Either IsTyped IsEquals) (IsCondition (suc below.levels) under at true) Any Any (λ _. Closes) (λ _. Closes)
      (λ c u rest l. elim l [ inl s ↦ inr (inl (refl, s)) | inr s ↦ inl s ]) (λ c u rest l g. elim l [ inl s ↦ inr s | inr i ↦ inl (from_true IsTyped Empty c u rest i) ]) (λ c rest g. g) (λ c rest i. i)
      (below_n n (attempt (meant type_check_of) typed equals) (Either IsTyped IsEquals) Any (λ _. Closes) choice_correct))

  -- `is` and a name
  typed_phrase : Phrase (IsCondition (suc below.levels) under at true) (λ _. Halts)
  typed_phrase = let s = halting_type below.levels in record {
    whole = e.of_type false s.whole;
    tokens = a_keyword word.Is ∷ s.tokens;
    phrase = λ tail h. inr (inl (
      refl,
      record {
        value = (a_keyword word.Is, false);
        front = a_keyword word.Is ∷ [];
        back = s.tokens;
        is = refl;
        phrase = record { means = is-is; one = refl };
        phrase' = record { value = s.whole; front = s.tokens; back = []; is = sym (append-nil s.tokens); phrase = s.phrase tail h; phrase' = record { value = refl; none = refl } };
      },
    ));
  }

  equals_begins : Begins kind_begins_condition IsEquals
  equals_begins c u rest s = first_yes (of_kind kind_begins_expression) (of_kind kind_begins_condition) u (λ t h. condition_wider t.kind h) (seq_begins_with kind_begins_expression (R.disjunction at).begins c u rest s)

  typed_begins : Begins kind_begins_condition IsTyped
  typed_begins = seq_begins_with kind_begins_condition (λ found u rest l. ap (first (of_kind kind_begins_condition)) l.one ∙ check_begins found.0 found.1 l.means)

  condition_begins : (subject : Bool) → Begins kind_begins_condition (IsCondition (suc below.levels) under at subject)
  condition_begins subject c u rest (inl s) = equals_begins c u rest s
  condition_begins subject c u rest (inr (inl s)) = typed_begins c u rest s.1
  condition_begins subject c u rest (inr (inr s)) = absurd s.1

  plain_correct : some_levels below.levels ≡ true → Correct equals (IsCondition (suc below.levels) under at false) Any (λ _. Closes)
  plain_correct h = correct equals (IsCondition (suc below.levels) under at false) Any (λ _. Closes) (λ n. same_language n equals IsEquals (IsCondition (suc below.levels) under at false) Any Any (λ _. Closes) (λ _. Closes) (λ c u rest s. inl s)
      (λ c u rest l g. elim l [ inl s ↦ s | inr i ↦ absurd (from_false IsTyped Empty c u rest i) ]) (λ c rest g. g) (λ c rest i. i) (below_n n equals IsEquals Any (λ _. Closes) (equals_part h).correct))

  plain_phrase : some_levels below.levels ≡ true → Phrase (IsCondition (suc below.levels) under at false) (λ _. Halts)
  plain_phrase h = let s = (R.disjunction at).phrase h in record { whole = e.equals s.whole; tokens = s.tokens; phrase = λ tail i. inl (record { value = s.whole; front = s.tokens; back = []; is = sym (append-nil s.tokens); phrase = s.phrase tail i; phrase' = record { value = refl; none = refl } }) }

  no_plain : some_levels below.levels ≡ false → (c : ConditionTree) (u rest : List Token) → IsCondition (suc below.levels) under at false c u rest → ⊥
  no_plain h c u rest (inl s) = no_equals h c u rest s
  no_plain h c u rest (inr i) = from_false IsTyped Empty c u rest i

  pub condition_read : (subject : Bool) → IsExpressionRead (condition_levels subject (suc below.levels)) (condition_parser (suc below.levels) below at subject) (IsCondition (suc below.levels) under at subject) kind_begins_condition
  condition_read true = record { correct = λ h. subject_correct; phrase = λ h. typed_phrase; begins = condition_begins true; refuses = λ h. absurd (let i : true ≡ false = h in cc); none = λ h. absurd (let i : true ≡ false = h in cc) }
  condition_read false = record { correct = plain_correct; phrase = plain_phrase; begins = condition_begins false; refuses = dead_equals; none = no_plain }

  -- ---- entries

  abbrev IsConditions : Bool → List ConditionTree → List Token → List Token → Type 0
  IsConditions subject = Several Directly (under.condition at subject)

  abbrev IsHead : Bool → List ConditionTree → List Token → List Token → Type 0
  IsHead subject = Either (Seq (IsToken (is_keyword word.Else)) (λ _. IsNothing [])) (IsConditions subject)

  abbrev conditions : Bool → Parser Token (List ConditionTree)
  conditions subject = several_items (pure tt) (below.condition at subject)

  body_no_line : (b : BodyTree) (u rest : List Token) → under.body at b u rest → first is_new_line (u ++ rest) ≡ false
  body_no_line = begins_no kind_begins_statement is_new_line (no_new_line kind_begins_statement refl) (R.body at).begins

  rest_part : some_levels below.levels ≡ true → (cs : List ConditionTree) → Part (entry_rest (suc below.levels) below at cs) (Seq (IsPast (IsToken (is_sign sign.Arrow))) (λ _. Seq (IsPast (under.body at)) (λ b. IsNothing (e.entry (conditions_of cs) b)))) ArrowNext (λ _. Closes)
  rest_part h cs = past_then arrow_no_line (sign_part sign.Arrow (λ tail. sign_is sign.Arrow)) (λ _. past_then body_no_line (from_read (R.body at) h) (λ b. made (e.entry (conditions_of cs) b) (λ tail c. c)))

  some_conditions : (subject : Bool) → condition_levels subject below.levels ≡ true → Part (conditions subject) (IsConditions subject) Anything (λ _. ArrowNext)
  some_conditions subject h = several_before_arrow (R.condition at subject) h refl

  conditions_no_else : (subject : Bool) (cs : List ConditionTree) (u rest : List Token) → IsConditions subject cs u rest → first (is_keyword word.Else) (u ++ rest) ≡ false
  conditions_no_else subject cs u rest s = begins_no kind_begins_condition (is_keyword word.Else) (no_keyword kind_begins_condition word.Else refl) (seq_begins_with kind_begins_condition (R.condition at subject).begins) cs u rest s

  dead_conditions : (subject : Bool) → condition_levels subject below.levels ≡ false → (c : Cursor Token) → conditions subject c ≡ Err (further c.rest c.far)
  dead_conditions subject h c = ap (λ (o : Outcome Token ConditionTree). and_then o (λ x. repeat (more_turn (pure tt) (is_sign sign.Comma) is_new_line (below.condition at subject)) (x ∷ []))) ((R.condition at subject).refuses h c)

  no_conditions : (subject : Bool) → condition_levels subject below.levels ≡ false → (cs : List ConditionTree) (u rest : List Token) → IsConditions subject cs u rest → ⊥
  no_conditions subject h cs u rest s = (R.condition at subject).none h s.value s.front (s.back ++ rest) s.phrase

  else_phrase : (tail : List Token) → Seq {B = List ConditionTree} (IsToken (is_keyword word.Else)) (λ _. IsNothing []) [] (a_keyword word.Else ∷ []) tail
  else_phrase tail = record { value = a_keyword word.Else; front = a_keyword word.Else ∷ []; back = []; is = refl; phrase = record { passes = keyword_is word.Else; one = refl }; phrase' = record { value = refl; none = refl } }

  head_correct : (subject : Bool) → Correct (entry_head (suc below.levels) below at subject) (IsHead subject) Any (λ _. ArrowNext)
  head_correct subject = elim (truth (condition_levels subject below.levels)) [
    | inl h ↦ (on_part (a_keyword word.Else) (keyword_is word.Else) (λ t. made [] (λ tail i. tt)) (some_conditions subject h) (conditions_no_else subject)).correct
    | inr h ↦ on_dead_correct (is_keyword word.Else) (a_keyword word.Else) (keyword_is word.Else) (λ _. pure []) (conditions subject) (λ _. IsNothing []) (IsConditions subject) (λ _. ArrowNext) (λ t. pure_correct [] Any (λ _. ArrowNext)) (λ t. record { whole = []; tokens = []; phrase = λ tail i. record { value = refl; none = refl } }) (dead_conditions subject h) (no_conditions subject h)
  ]

  head_part : (subject : Bool) → Part (entry_head (suc below.levels) below at subject) (IsHead subject) Anything (λ _. ArrowNext)
  head_part subject = record { correct = head_correct subject; whole = []; tokens = a_keyword word.Else ∷ []; phrase = λ tail h. (inl (else_phrase tail), tt) }

  entry_correct : (subject : Bool) (left : Bool) → left ≡ true → some_levels below.levels ≡ true → Correct (refused_if (not left) (entry_head (suc below.levels) below at subject >>= entry_rest (suc below.levels) below at)) (IsEntry (suc below.levels) under at subject) Any (λ _. Closes)
  entry_correct subject true e h = (then (head_part subject) (rest_part h)).correct
  entry_correct subject false e h = absurd (let i : false ≡ true = e in cc)

  -- 'else' '->' and a body
  entry_phrase : (subject : Bool) → some_levels below.levels ≡ true → Phrase (IsEntry (suc below.levels) under at subject) (λ _. Halts)
  entry_phrase subject h = let s = (R.body at).phrase h in record {
    whole = e.entry (conditions_of []) s.whole;
    tokens = a_keyword word.Else ∷ a_sign sign.Arrow ∷ s.tokens;
    phrase = λ tail i. let b = s.phrase tail i in record {
      value = [];
      front = a_keyword word.Else ∷ [];
      back = a_sign sign.Arrow ∷ s.tokens;
      is = refl;
      phrase = inl (else_phrase (a_sign sign.Arrow ∷ s.tokens ++ tail));
      phrase' = record {
        value = a_sign sign.Arrow;
        front = a_sign sign.Arrow ∷ [];
        back = s.tokens;
        is = refl;
        phrase = record { value = tt; front = []; back = a_sign sign.Arrow ∷ []; is = refl; phrase = record { pass = tt; all = refl }; phrase' = record { passes = sign_is sign.Arrow; one = refl } };
        phrase' = record {
          value = s.whole;
          front = s.tokens;
          back = [];
          is = sym (append-nil s.tokens);
          phrase = record { value = tt; front = []; back = s.tokens; is = refl; phrase = record { pass = tt; all = body_no_line s.whole s.tokens tail b }; phrase' = b };
          phrase' = record { value = refl; none = refl };
        };
      };
    };
  }

  entry_begins : (subject : Bool) → Begins kind_begins_entry (IsEntry (suc below.levels) under at subject)
  entry_begins subject = seq_begins_with kind_begins_entry (either_begins_with kind_begins_entry (seq_begins_with kind_begins_entry (token_begins_with (is_keyword word.Else) kind_begins_entry (λ t h. ap kind_begins_entry (kind_keyword word.Else t.kind h))))
      (λ cs u rest s. first_yes (of_kind kind_begins_condition) (of_kind kind_begins_entry) u (λ t h. entry_wider t.kind h) (seq_begins_with kind_begins_condition (R.condition at subject).begins cs u rest s)))

  pub entry_read : (subject : Bool) → IsExpressionRead (two_levels (suc below.levels)) (entry_parser (suc below.levels) below at subject) (IsEntry (suc below.levels) under at subject) kind_begins_entry
  entry_read subject = record {
    correct = λ h. entry_correct subject (some_levels below.levels) h h;
    phrase = entry_phrase subject;
    begins = entry_begins subject;
    refuses = λ h c. ap (λ (z : Bool). refused_if (not z) (entry_head (suc below.levels) below at subject >>= entry_rest (suc below.levels) below at) c) h;
    none = λ h x u rest s. let b = s.phrase'.phrase' in (R.body at).none h b.value b.phrase.back (b.back ++ rest) b.phrase.phrase';
  }
