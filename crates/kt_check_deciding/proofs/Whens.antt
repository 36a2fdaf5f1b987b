-- `when` is decided where its parts are.
use Rattle.std.proofs.Common.{List, [], ◌∷◌, ◌++◌, Option, Some, None, ◌≡◌, refl, Bool, true, false}
use Rattle.std.specs.Prelude.{find}
use Rattle.kt_types_tree.specs.Types.{TypeForm}
use Rattle.kt_types_order.specs.Graph.{ClassesEnd}
use Rattle.kt_typed.specs.declared.operators.TypedOperator.TheVariants as op
use Rattle.kt_typed.specs.Bodies.{ExpressionForm, binary, type_test, MaybeExpression, EntryForm, EntryForms, entries_of, ConditionForm, equals, holds, of_type, BlockForm}
use Rattle.kt_flow.specs.Facts.{FactsForm}
use Rattle.kt_check_rules.specs.Choices.{pairs}
use Rattle.kt_check_rules.specs.Kinds.{boolean_type}
use Rattle.kt_check_rules.specs.States.{Context, State, hierarchy, with_facts, Path, joined, met}
use Rattle.kt_check_rules.specs.Completion.{is_exhaustive}
use Rattle.kt_check_rules.specs.Typings.{Rule, BlockRule, Use, unused, as_value, meeting, IsTyped}
use Rattle.kt_check_rules.specs.Operators.{AreComparable, after_test}
use Rattle.kt_check_rules.specs.Conditionals.{ConditionRule, Equals, Holds, Conditions, OfTypes, TypeConditions, ConditionsRule, NoConditions, ConditionThen, EntriesRule, NoEntries, EntryThen, NamesEnough, WhenRest, WhensWithout, Whens, no_entry, shown_subject, no_subject}
use Rattle.kt_check_deciding.specs.Outcomes.{found, Reading, reading, Decision}
use Rattle.kt_check_deciding.specs.Choosing.{typed_by, are_comparable, branch_type}
use Rattle.kt_check_deciding.specs.Expressions.{Typings}
use Rattle.kt_check_deciding.specs.Access.{testable}
use Rattle.kt_check_deciding.specs.Whens.{AskForm, ask, Ask, asked_equal, asks, type_asks, AskForms, ask_forms, Asks, no_asks, ask_more, ask_then, EntriesForm, entries_form, Entries, no_entries, entry_more, entry_then, names_enough, when_of, when_rest, whens_without, whens}
use Rattle.kt_check_deciding.proofs.Deciding.{Is, is_found, is_then, is_only_if, went_on, was_if, gave, Decides}
use Rattle.kt_check_deciding.proofs.Choosing.{first_found, first_is, comparable_is, typed_decided, branch_found, branch_is}
use Rattle.kt_check_deciding.proofs.Expressions.{if_made, is_made}
use Rattle.kt_check_deciding.proofs.Access.{testable_found, testable_is}

-- each of these is decided for each list of typings that the subject has

pub record DecidesAsk (R : ConditionRule) (d : Ask) : Type 0 where
  pub sound :
      (us : List ExpressionForm) (s : State) (r : Reading AskForm) → d us s ≡ found r →
      R us s r.value.condition r.value.question r.behind
  pub tells :
      (us : List ExpressionForm) (s : State) (x : ConditionForm) (u : ExpressionForm) (b : State) → R us s x u b →
      Is (d us s) (reading (ask x u) b)

pub record DecidesAsks (R : ConditionsRule) (d : Asks) : Type 0 where
  pub sound :
      (us : List ExpressionForm) (s : State) (r : Reading AskForms) → d us s ≡ found r →
      R us s r.value.conditions r.value.holding r.behind
  pub tells :
      (us : List ExpressionForm) (s : State) (xs : List ConditionForm) (fs : List FactsForm) (b : State) →
      R us s xs fs b → Is (d us s) (reading (ask_forms xs fs) b)

pub record DecidesEntries (R : EntriesRule) (d : Entries) : Type 0 where
  pub sound :
      (us : List ExpressionForm) (s : State) (w : Use) (r : Reading EntriesForm) → d us s w ≡ found r →
      R us s w r.value.entries r.value.types r.value.ways r.behind
  pub tells :
      (us : List ExpressionForm) (s : State) (w : Use) (es : List EntryForm) (ts : List TypeForm) (ps : List Path)
      (b : State) → R us s w es ts ps b → Is (d us s w) (reading (entries_form es ts ps) b)

pub no_asks_decided : DecidesAsks NoConditions no_asks
no_asks_decided = record {
  sound = λ us s r f.
      gave (λ xs b. NoConditions us s xs.conditions xs.holding b) (ask_forms [] []) s r f (refl, refl, refl);
  tells = λ us s xs fs b y. rw (y.0, y.1, y.2) is_found;
}

pub ask_then_decided : (K : Context) (One : ConditionRule) (Others : ConditionsRule) (c : Ask) (d : Asks) →
    DecidesAsk One c → DecidesAsks Others d → DecidesAsks (ConditionThen K One Others) (ask_then K c d)
ask_then_decided K One Others c d i j = record {
  sound = λ us s r f.
      let x = went_on (c us s) _ r f in
      let y = went_on (d us (with_facts (after_test K false x.0.value.question x.0.behind) x.0.behind)) _ r x.1.1 in
      let p = i.sound us s x.0 x.1.0 in
      let q = j.sound us (with_facts (after_test K false x.0.value.question x.0.behind) x.0.behind) y.0 y.1.0 in
      gave (λ xs b. ConditionThen K One Others us s xs.conditions xs.holding b) (ask_more K x.0 y.0.value)
      y.0.behind r y.1.1
      (record {
        x = x.0.value.condition;
        asks = x.0.value.question;
        more = y.0.value.conditions;
        later = y.0.value.holding;
        between = x.0.behind;
        first = p;
        rest = q;
        whole = refl;
        holds = refl;
      });
  tells = λ us s xs fs b y.
      is_then (c us s) (reading (ask y.x y.asks) y.between) _ _ (i.tells us s y.x y.asks y.between y.first)
      (is_then (d us (with_facts (after_test K false y.asks y.between) y.between))
      (reading (ask_forms y.more y.later) b) _ _ (j.tells us _ y.more y.later b y.rest)
      (rw (y.whole, y.holds) is_found));
}

pub no_entries_decided : DecidesEntries NoEntries no_entries
no_entries_decided = record {
  sound = λ us s w r f.
      gave (λ es b. NoEntries us s w es.entries es.types es.ways b) (entries_form [] [] []) s r f
      (refl, refl, refl, refl);
  tells = λ us s w es ts ps b y. rw (y.0, y.1, y.2, y.3) is_found;
}

pub entry_then_decided : (K : Context) (Tests : ConditionsRule) (Does : BlockRule) (Others : EntriesRule) (c : Asks)
    (d : Decision BlockForm) (f : Entries) → DecidesAsks Tests c → Decides Does d → DecidesEntries Others f →
    DecidesEntries (EntryThen K Tests Does Others) (entry_then K c d f)
entry_then_decided K Tests Does Others c d f i j k = record {
  sound = λ us s w r g.
      let x = went_on (c us s) _ r g in
      let b = went_on (d (with_facts (met x.0.behind.facts x.0.value.holding) x.0.behind) w) _ r x.1.1 in
      let y = went_on (f us (with_facts x.0.behind.facts b.0.behind) w) _ r b.1.1 in
      let p = i.sound us s x.0 x.1.0 in
      let q = j.sound (with_facts (met x.0.behind.facts x.0.value.holding) x.0.behind) w b.0 b.1.0 in
      let z = k.sound us (with_facts x.0.behind.facts b.0.behind) w y.0 y.1.0 in
      gave (λ es e. EntryThen K Tests Does Others us s w es.entries es.types es.ways e)
      (entry_more K x.0.value b.0 y.0.value) y.0.behind r y.1.1
      (record {
        xs = x.0.value.conditions;
        holding = x.0.value.holding;
        x = b.0.value;
        more = y.0.value.entries;
        later = y.0.value.types;
        paths = y.0.value.ways;
        tested = x.0.behind;
        between = b.0.behind;
        asked = p;
        done = q;
        rest = z;
        whole = refl;
        types = refl;
        ways = refl;
      });
  tells = λ us s w es ts ps e y.
      is_then (c us s) (reading (ask_forms y.xs y.holding) y.tested) _ _
      (i.tells us s y.xs y.holding y.tested y.asked)
      (is_then (d (with_facts (met y.tested.facts y.holding) y.tested) w) (reading y.x y.between) _ _
      (j.tells _ w y.x y.between y.done)
      (is_then (f us (with_facts y.tested.facts y.between) w) (reading (entries_form y.more y.later y.paths) e) _ _
      (k.tells us _ w y.more y.later y.paths e y.rest) (rw (y.whole, y.types, y.ways) is_found)));
}

module _ (K : Context) (ends : ClassesEnd (hierarchy K)) where
  equal_found : (us vs : List ExpressionForm) (s : State) (e : Rule) (before : State) (r : Reading AskForm) →
      e before as_value vs s → (o : Option (ExpressionForm × ExpressionForm)) →
      find (are_comparable (hierarchy K)) (pairs us vs) ≡ o → asked_equal o s ≡ found r →
      Equals K e us before r.value.condition r.value.question r.behind
  equal_found us vs s e before r p None g f = cc
  equal_found us vs s e before r p (Some q) g f =
      gave (λ x b. Equals K e us before x.condition x.question b)
      (ask (equals q.1) (binary boolean_type op.Equal q.0 q.1)) s r f
      (record {
        values = vs;
        chosen = q;
        reads = p;
        first = first_found (AreComparable (hierarchy K)) (are_comparable (hierarchy K))
            (comparable_is (hierarchy K) ends) (pairs us vs) q g;
        whole = refl;
        question = refl;
      })

  pub asks_decided : (e : Rule) (d : Typings) → Decides e d → DecidesAsk (Conditions K e) (asks K d)
  asks_decided e d i = record { sound = to; tells = from }
    where
      j : Decides (IsTyped K e) (typed_by K d)
      j = typed_decided K ends e d i

      to : (us : List ExpressionForm) (s : State) (r : Reading AskForm) → asks K d us s ≡ found r →
          Conditions K e us s r.value.condition r.value.question r.behind
      to [] s r f =
          let x = went_on (typed_by K d s (meeting boolean_type)) _ r f in
          let p = j.sound s (meeting boolean_type) x.0 x.1.0 in
          gave (λ x b. Holds K e s x.condition x.question b) (ask (holds x.0.value) x.0.value) x.0.behind r x.1.1
          (record { u = x.0.value; typed = p; whole = refl; question = refl })
      to (u ∷ us) s r f =
          let x = went_on (d s as_value) _ r f in
          equal_found (u ∷ us) x.0.value x.0.behind e s r (i.sound s as_value x.0 x.1.0)
          (find (are_comparable (hierarchy K)) (pairs (u ∷ us) x.0.value)) refl x.1.1

      from : (us : List ExpressionForm) (s : State) (x : ConditionForm) (u : ExpressionForm) (b : State) →
          Conditions K e us s x u b → Is (asks K d us s) (reading (ask x u) b)
      from [] s x u b y =
          is_then (typed_by K d s (meeting boolean_type)) (reading y.u b) _ _
          (j.tells s (meeting boolean_type) y.u b y.typed) (rw (y.whole, y.question) is_found)
      from (v ∷ us) s x u b y =
          is_then (d s as_value) (reading y.values b) _ _ (i.tells s as_value y.values b y.reads)
          (rw (first_is (AreComparable (hierarchy K)) (are_comparable (hierarchy K))
          (comparable_is (hierarchy K) ends) (pairs (v ∷ us) y.values) y.chosen y.first)
          (rw (y.whole, y.question) is_found))

  pub type_asks_decided : (is_negated : Bool) (meant : Option TypeForm) →
      DecidesAsk (TypeConditions K is_negated meant) (type_asks K is_negated meant)
  type_asks_decided is_negated meant = record { sound = to; tells = from }
    where
      to : (us : List ExpressionForm) (s : State) (r : Reading AskForm) →
          type_asks K is_negated meant us s ≡ found r →
          TypeConditions K is_negated meant us s r.value.condition r.value.question r.behind
      to [] s r f = cc
      to (u ∷ us) s r f =
          let v = went_on (testable K meant) _ r f in
          let p = testable_found K ends meant v.0 v.1.0 in
          gave (λ x b. OfTypes K is_negated meant u s x.condition x.question b)
          (ask (of_type is_negated v.0) (type_test boolean_type u is_negated v.0)) s r v.1.1
          (record { tested = v.0; means = p.0; allowed = p.1; whole = refl; question = refl; same = refl })

      from : (us : List ExpressionForm) (s : State) (x : ConditionForm) (u : ExpressionForm) (b : State) →
          TypeConditions K is_negated meant us s x u b → Is (type_asks K is_negated meant us s) (reading (ask x u) b)
      from [] s x u b y = absurd y
      from (v ∷ us) s x u b y =
          rw (testable_is K ends meant y.tested y.means y.allowed)
          (rw (y.whole, y.question, y.same) is_found)

  enough_found : (w : Use) (b : Bool) → names_enough w b ≡ true → NamesEnough w b
  enough_found unused b e = tt
  enough_found as_value b e = e
  enough_found (meeting t) b e = e

  enough_is : (w : Use) (b : Bool) → NamesEnough w b → names_enough w b ≡ true
  enough_is unused b y = refl
  enough_is as_value b y = y
  enough_is (meeting t) b y = y

  -- how many values are named
  abbrev enough_of : (EntryForms → MaybeExpression) → List EntryForm → Bool
  enough_of shown es = is_exhaustive K.headers (shown (entries_of es)) (entries_of es)

  abbrev state_of : (EntryForms → MaybeExpression) → State → List EntryForm → List Path → State → State
  state_of shown s es ps end =
      with_facts (joined s.facts (ps ++ no_entry (enough_of shown es) end.facts)) end

  rest_found : (R : EntriesRule) (d : Entries) → DecidesEntries R d → (us : List ExpressionForm)
      (shown : EntryForms → MaybeExpression) (s : State) (w : Use) (r : Reading (List ExpressionForm)) →
      when_rest K d us shown s w ≡ found r → WhenRest K R us shown s w r.value r.behind
  rest_found R d i us shown s w r f =
      let x = went_on (d us s w) _ r f in
      let l = was_if (names_enough w (enough_of shown x.0.value.entries)) _ r x.1.1 in
      let z =
      if_made (when_of (shown (entries_of x.0.value.entries)) (entries_of x.0.value.entries))
      (branch_type K w x.0.value.types)
      (state_of shown s x.0.value.entries x.0.value.ways x.0.behind) r l.1
      in
      record {
        es = x.0.value.entries;
        types = x.0.value.types;
        paths = x.0.value.ways;
        whole = z.0;
        end = x.0.behind;
        are = i.sound us s w x.0 x.1.0;
        enough = enough_found w (enough_of shown x.0.value.entries) l.0;
        has = branch_found K ends w x.0.value.types z.0 z.1.0;
        gives = z.1.1;
      }

  rest_is : (R : EntriesRule) (d : Entries) → DecidesEntries R d → (us : List ExpressionForm)
      (shown : EntryForms → MaybeExpression) (s : State) (w : Use) (vs : List ExpressionForm) (b : State) →
      WhenRest K R us shown s w vs b → Is (when_rest K d us shown s w) (reading vs b)
  rest_is R d i us shown s w vs b y =
      is_then (d us s w) (reading (entries_form y.es y.types y.paths) y.end) _ _
      (i.tells us s w y.es y.types y.paths y.end y.are)
      (is_only_if (names_enough w (enough_of shown y.es)) _ _ (enough_is w (enough_of shown y.es) y.enough)
      (is_made (when_of (shown (entries_of y.es)) (entries_of y.es)) (branch_type K w y.types) y.whole
      (state_of shown s y.es y.paths y.end) vs b (branch_is K ends w y.types y.whole y.has) y.gives))

  pub whens_without_decided : (R : EntriesRule) (d : Entries) → DecidesEntries R d →
      Decides (WhensWithout K R) (whens_without K d)
  whens_without_decided R d i = record {
    sound = λ s w r f. rest_found R d i [] no_subject s w r f;
    tells = λ s w us b y. rest_is R d i [] no_subject s w us b y;
  }

  pub whens_decided : (e : Rule) (R : EntriesRule) (c : Typings) (d : Entries) → Decides e c →
      DecidesEntries R d → Decides (Whens K e R) (whens K c d)
  whens_decided e R c d i j = record {
    sound = λ s w r f.
        let x = went_on (c s as_value) _ r f in
        record {
          subject = x.0.value;
          between = x.0.behind;
          evaluated = i.sound s as_value x.0 x.1.0;
          rest = rest_found R d j x.0.value (shown_subject K x.0.value) x.0.behind w r x.1.1;
        };
    tells = λ s w us b y.
        is_then (c s as_value) (reading y.subject y.between) _ _
        (i.tells s as_value y.subject y.between y.evaluated)
        (rest_is R d j y.subject (shown_subject K y.subject) y.between w us b y.rest);
  }
