-- Expressions are decided where their parts are.
use Rattle.std.proofs.Common.{ℕ, List, [], ◌∷◌, Option, Some, None, ◌≡◌, refl, subst, Bool, true, false, if◌then◌else◌}
use Rattle.std.specs.Prelude.{not, find, option_map}
use Rattle.kt_base.specs.declared.refusals.Pos.{Pos}
use Rattle.kt_tree.specs.declared.bodies.BinaryOperator.{BinaryOperator}
use Rattle.kt_tree.specs.declared.bodies.BinaryOperator.TheVariants as o
use Rattle.kt_tree.specs.declared.bodies.PrefixOperator.{PrefixOperator}
use Rattle.kt_tree.specs.declared.bodies.PrefixOperator.TheVariants as before
use Rattle.kt_tree.specs.declared.bodies.Literal.{Literal}
use Rattle.kt_types_order.specs.Graph.{ClassesEnd}
use Rattle.kt_typed.specs.declared.operators.TypedOperator.{TypedOperator}
use Rattle.kt_typed.specs.declared.operators.TypedOperator.TheVariants as op
use Rattle.kt_typed.specs.Bodies.{ExpressionForm, binary, prefix}
use Rattle.kt_flow.specs.Facts.{meet}
use Rattle.kt_check_rules.specs.Choices.{first_some, pairs}
use Rattle.kt_check_rules.specs.Kinds.{type_of, boolean_type, present_type}
use Rattle.kt_check_rules.specs.States.{Context, State, hierarchy, local_named, with_facts}
use Rattle.kt_check_rules.specs.Typings.{Rule, Use, as_value, meeting, IsNone, GivesOne}
use Rattle.kt_check_rules.specs.Literals.{Literals, literal_of, can_print}
use Rattle.kt_check_rules.specs.Names.{Names, named}
use Rattle.kt_check_rules.specs.Operators.{Operations, Equalities, Connectives, Elvises, Binaries, AreComparable, negated, after_test, left_use, value_use}
use Rattle.kt_check_rules.specs.Calls.{Wanted, of_type, printed, Callable, called, Argument, ArgumentsRule, NoArguments, MoreArguments, Calls}
use Rattle.kt_check_rules.specs.Rules.{Prefixes, NoRule, NoStatementRule}
use Rattle.kt_check_deciding.specs.Outcomes.{found, unbuilt, Reading, reading, Decision, DecisionAt, gives_if, unruled, unruled_at, later, later_at}
use Rattle.kt_check_deciding.specs.Choosing.{typed_by, are_comparable, type_for}
use Rattle.kt_check_deciding.specs.Expressions.{Typings, literals, names, prefixes, operated, operations, equated, equalities, connectives, elvis_of, elvises, binaries, Arguments, argument, no_arguments, more_arguments, calls, comes_later, calls_named}
use Rattle.kt_check_deciding.proofs.Deciding.{Is, is_found, is_unbuilt, is_then, went_on, gave, one_found, one_is, if_found, if_is, some_found, some_is, Decides, DecidesAt}
use Rattle.kt_check_deciding.proofs.Choosing.{first_found, first_is, comparable_is, typed_decided, chosen_decided, type_found, type_is}

pub unruled_decided : (all : Bool) → Decides NoRule (unruled all)
unruled_decided true = record { sound = λ s w r e. cc; tells = λ s w a b p. absurd p }
unruled_decided false = record { sound = λ s w r e. cc; tells = λ s w a b p. absurd p }

pub unruled_statement_decided : (all : Bool) → DecidesAt NoStatementRule (unruled_at all)
unruled_statement_decided true = record { sound = λ s r e. cc; tells = λ s a b p. absurd p }
unruled_statement_decided false = record { sound = λ s r e. cc; tells = λ s a b p. absurd p }

pub later_decided : {A : Type 0} (all : Bool) (R : State → Use → A → State → Type 0) (d : Decision A) →
    Decides R d → Decides R (later all d)
later_decided true R d i = record { sound = λ s w r e. i.sound s w r e; tells = λ s w a b p. i.tells s w a b p }
later_decided false R d i = record { sound = λ s w r e. cc; tells = λ s w a b p. is_unbuilt }

pub later_at_decided : {A : Type 0} (all : Bool) (R : State → A → State → Type 0) (d : DecisionAt A) →
    DecidesAt R d → DecidesAt R (later_at all d)
later_at_decided true R d i = record { sound = λ s r e. i.sound s r e; tells = λ s a b p. i.tells s a b p }
later_at_decided false R d i = record { sound = λ s r e. cc; tells = λ s a b p. is_unbuilt }

pub literals_decided : (l : Literal) → Decides (Literals l) (literals l)
literals_decided l = record {
  sound = λ s w r e. if_found (literal_of w l) s r e;
  tells = λ s w us b p. if_is (literal_of w l) s us b p;
}

pub names_decided : (K : Context) (x : List ℕ) → Decides (Names K x) (names K x)
names_decided K x = record {
  sound = λ s w r e. some_found (named K s (local_named s.scope x) x) s r e;
  tells = λ s w us b p. some_is (named K s (local_named s.scope x) x) s us b p;
}

-- what a choice makes
made : {A B : Type 0} (f : A → B) (o : Option A) (a : A) (b : B) → o ≡ Some a → b ≡ f a → option_map f o ≡ Some b
made f o a b e g = rw (e, g) refl

was_made : {A B : Type 0} (f : A → B) (o : Option A) (b : B) → option_map f o ≡ Some b →
    (a : A) × ((o ≡ Some a) × (f a ≡ b))
was_made f (Some a) b e = (a, (refl, cc))
was_made f None b e = cc

pub if_made : {A : Type 0} (f : A → ExpressionForm) (o : Option A) (s : State) (r : Reading (List ExpressionForm)) →
    gives_if (option_map f o) s ≡ found r → (a : A) × ((o ≡ Some a) × GivesOne (f a) s r.value r.behind)
if_made f (Some a) s r e = (a, (refl, one_found (f a) s r e))
if_made f None s r e = cc

pub is_made : {A : Type 0} (f : A → ExpressionForm) (o : Option A) (a : A) (s : State) (us : List ExpressionForm)
    (b : State) → o ≡ Some a → GivesOne (f a) s us b → Is (gives_if (option_map f o) s) (reading us b)
is_made f o a s us b e p = rw e (one_is (f a) s us b p)

module _ (K : Context) (ends : ClassesEnd (hierarchy K)) where
  pub prefixes_decided : (k : PrefixOperator) (e : Rule) (d : Typings) (inner : Use → Use) → Decides e d →
      Decides (Prefixes K k e inner) (prefixes K k d inner)
  prefixes_decided before.Negate e d inner i = record {
    sound = λ s w r f.
        let x = went_on (d s (inner w)) _ r f in
        record {
          operands = x.0.value;
          end = x.0.behind;
          operand = i.sound s (inner w) x.0 x.1.0;
          gives = if_found (first_some negated x.0.value) x.0.behind r x.1.1;
        };
    tells = λ s w us b y.
        is_then (d s (inner w)) (reading y.operands y.end) _ _ (i.tells s (inner w) y.operands y.end y.operand)
        (if_is (first_some negated y.operands) y.end us b y.gives);
  }
  prefixes_decided before.Not e d inner i =
      let j = typed_decided K ends e d i in
      record {
        sound = λ s w r f.
            let x = went_on (typed_by K d s (meeting boolean_type)) _ r f in
            record {
              u = x.0.value;
              end = x.0.behind;
              operand = j.sound s (meeting boolean_type) x.0 x.1.0;
              gives = one_found (prefix boolean_type before.Not x.0.value) x.0.behind r x.1.1;
            };
        tells = λ s w us b y.
            is_then (typed_by K d s (meeting boolean_type)) (reading y.u y.end) _ _
            (j.tells s (meeting boolean_type) y.u y.end y.operand)
            (one_is (prefix boolean_type before.Not y.u) y.end us b y.gives);
      }

  operations_decided : (k : BinaryOperator) (a b : Rule) (c d : Typings) → Decides a c → Decides b d →
      Decides (Operations K k a b) (operations K k c d)
  operations_decided k a b c d i j = record {
    sound = λ s w r f.
        let x = went_on (c s as_value) _ r f in
        let y = went_on (d x.0.behind as_value) _ r x.1.1 in
        record {
          lefts = x.0.value;
          rights = y.0.value;
          between = x.0.behind;
          end = y.0.behind;
          left = i.sound s as_value x.0 x.1.0;
          right = j.sound x.0.behind as_value y.0 y.1.0;
          gives = if_found (operated K k x.0.value y.0.value) y.0.behind r y.1.1;
        };
    tells = λ s w us e y.
        is_then (c s as_value) (reading y.lefts y.between) _ _ (i.tells s as_value y.lefts y.between y.left)
        (is_then (d y.between as_value) (reading y.rights y.end) _ _
        (j.tells y.between as_value y.rights y.end y.right)
        (if_is (operated K k y.lefts y.rights) y.end us e y.gives));
  }

  equalities_decided : (k : TypedOperator) (a b : Rule) (c d : Typings) → Decides a c → Decides b d →
      Decides (Equalities K k a b) (equalities K k c d)
  equalities_decided k a b c d i j = record {
    sound = λ s w r f.
        let x = went_on (c s as_value) _ r f in
        let y = went_on (d x.0.behind as_value) _ r x.1.1 in
        let z =
        if_made (equated k) (find (are_comparable (hierarchy K)) (pairs x.0.value y.0.value)) y.0.behind r y.1.1
        in
        record {
          lefts = x.0.value;
          rights = y.0.value;
          between = x.0.behind;
          end = y.0.behind;
          chosen = z.0;
          left = i.sound s as_value x.0 x.1.0;
          right = j.sound x.0.behind as_value y.0 y.1.0;
          first = first_found (AreComparable (hierarchy K)) (are_comparable (hierarchy K))
              (comparable_is (hierarchy K) ends) (pairs x.0.value y.0.value) z.0 z.1.0;
          gives = z.1.1;
        };
    tells = λ s w us e y.
        is_then (c s as_value) (reading y.lefts y.between) _ _ (i.tells s as_value y.lefts y.between y.left)
        (is_then (d y.between as_value) (reading y.rights y.end) _ _
        (j.tells y.between as_value y.rights y.end y.right)
        (is_made (equated k) (find (are_comparable (hierarchy K)) (pairs y.lefts y.rights)) y.chosen y.end us e
        (first_is (AreComparable (hierarchy K)) (are_comparable (hierarchy K)) (comparable_is (hierarchy K) ends)
        (pairs y.lefts y.rights) y.chosen y.first)
        y.gives));
  }

  connectives_decided : (goes_on : Bool) (k : TypedOperator) (a b : Rule) (c d : Typings) → Decides a c →
      Decides b d → Decides (Connectives K goes_on k a b) (connectives K goes_on k c d)
  connectives_decided goes_on k a b c d ia ib =
      let i = typed_decided K ends a c ia in
      let j = typed_decided K ends b d ib in
      record {
        sound = λ s w r f.
            let x = went_on (typed_by K c s (meeting boolean_type)) _ r f in
            let y =
            went_on
            (typed_by K d (with_facts (after_test K goes_on x.0.value x.0.behind) x.0.behind)
            (meeting boolean_type)) _ r x.1.1
            in
            record {
              u = x.0.value;
              v = y.0.value;
              between = x.0.behind;
              end = y.0.behind;
              left = i.sound s (meeting boolean_type) x.0 x.1.0;
              right = j.sound _ (meeting boolean_type) y.0 y.1.0;
              gives = one_found (binary boolean_type k x.0.value y.0.value)
                  (with_facts (meet (after_test K (not goes_on) x.0.value x.0.behind) y.0.behind.facts) y.0.behind) r
                  y.1.1;
            };
        tells = λ s w us e y.
            is_then (typed_by K c s (meeting boolean_type)) (reading y.u y.between) _ _
            (i.tells s (meeting boolean_type) y.u y.between y.left)
            (is_then
            (typed_by K d (with_facts (after_test K goes_on y.u y.between) y.between) (meeting boolean_type))
            (reading y.v y.end) _ _ (j.tells _ (meeting boolean_type) y.v y.end y.right)
            (one_is (binary boolean_type k y.u y.v)
            (with_facts (meet (after_test K (not goes_on) y.u y.between) y.end.facts) y.end) us e y.gives));
      }

  elvises_decided : (a b : Rule) (c d : Typings) → Decides a c → Decides b d →
      Decides (Elvises K a b) (elvises K c d)
  elvises_decided a b c d ia ib =
      let i = typed_decided K ends a c ia in
      let j = typed_decided K ends b d ib in
      record {
        sound = λ s w r f.
            let x = went_on (typed_by K c s (left_use w)) _ r f in
            let y = went_on (typed_by K d x.0.behind (value_use w)) _ r x.1.1 in
            let z =
            if_made (elvis_of x.0.value y.0.value)
            (type_for K w (present_type (hierarchy K) (type_of x.0.value) ∷ type_of y.0.value ∷ []))
            (with_facts (meet x.0.behind.facts y.0.behind.facts) y.0.behind) r y.1.1
            in
            record {
              u = x.0.value;
              v = y.0.value;
              whole = z.0;
              between = x.0.behind;
              end = y.0.behind;
              left = i.sound s (left_use w) x.0 x.1.0;
              right = j.sound x.0.behind (value_use w) y.0 y.1.0;
              has = type_found K ends w _ z.0 z.1.0;
              gives = z.1.1;
            };
        tells = λ s w us e y.
            is_then (typed_by K c s (left_use w)) (reading y.u y.between) _ _
            (i.tells s (left_use w) y.u y.between y.left)
            (is_then (typed_by K d y.between (value_use w)) (reading y.v y.end) _ _
            (j.tells y.between (value_use w) y.v y.end y.right)
            (is_made (elvis_of y.u y.v)
            (type_for K w (present_type (hierarchy K) (type_of y.u) ∷ type_of y.v ∷ [])) y.whole
            (with_facts (meet y.between.facts y.end.facts) y.end) us e (type_is K ends w _ y.whole y.has) y.gives));
      }

  pub binaries_decided : (all : Bool) (k : BinaryOperator) (a b : Rule) (c d : Typings) → Decides a c →
      Decides b d → Decides (Binaries K k a b) (binaries all K k c d)
  binaries_decided all o.Disjunction a b c d i j = connectives_decided false op.Disjunction a b c d i j
  binaries_decided all o.Conjunction a b c d i j = connectives_decided true op.Conjunction a b c d i j
  binaries_decided all o.Equal a b c d i j = later_decided all _ _ (equalities_decided op.Equal a b c d i j)
  binaries_decided all o.NotEqual a b c d i j = later_decided all _ _ (equalities_decided op.NotEqual a b c d i j)
  binaries_decided all o.Elvis a b c d i j = later_decided all _ _ (elvises_decided a b c d i j)
  binaries_decided all k a b c d i j = operations_decided k a b c d i j

  -- Calls.

  pub argument_decided : (e : Rule) (d : Typings) → Decides e d → (w : Wanted) →
      DecidesAt (Argument K e w) (argument K d w)
  argument_decided e d i (of_type t) =
      let j = typed_decided K ends e d i in
      record {
        sound = λ s r f. j.sound s (meeting t) r f;
        tells = λ s u b y. j.tells s (meeting t) u b y;
      }
  argument_decided e d i printed = chosen_decided K ends (can_print K) e d i

-- for each list of what is wanted
pub record DecidesEach (R : ArgumentsRule) (d : Arguments) : Type 0 where
  pub each : (ws : List Wanted) → DecidesAt (R ws) (d ws)

pub no_arguments_decided : DecidesEach NoArguments no_arguments
no_arguments_decided = record { each = by_wanted }
  where
    by_wanted : (ws : List Wanted) → DecidesAt (NoArguments ws) (no_arguments ws)
    by_wanted [] = record {
      sound = λ s r f. gave (λ us b. IsNone s us b) [] s r f (refl, refl);
      tells = λ s us b y. rw (y.0, y.1) is_found;
    }
    by_wanted (w ∷ ws) = record { sound = λ s r f. cc; tells = λ s us b y. absurd y }

pub more_arguments_decided : (K : Context) → ClassesEnd (hierarchy K) → (e : Rule) (es : ArgumentsRule)
    (d : Typings) (ds : Arguments) → Decides e d → DecidesEach es ds →
    DecidesEach (MoreArguments K e es) (more_arguments K d ds)
more_arguments_decided K ends e es d ds i j = record { each = by_wanted }
  where
    by_wanted : (ws : List Wanted) → DecidesAt (MoreArguments K e es ws) (more_arguments K d ds ws)
    by_wanted [] = record { sound = λ s r f. cc; tells = λ s us b y. absurd y }
    by_wanted (w ∷ ws) =
        let k = argument_decided K ends e d i w in
        let l = j.each ws in
        record {
          sound = λ s r f.
              let x = went_on (argument K d w s) _ r f in
              let y = went_on (ds ws x.0.behind) _ r x.1.1 in
              let p = k.sound s x.0 x.1.0 in
              let q = l.sound x.0.behind y.0 y.1.0 in
              gave (λ us b. MoreArguments K e es (w ∷ ws) s us b) (x.0.value ∷ y.0.value) y.0.behind r y.1.1
              (record {
                one = x.0.value;
                others = y.0.value;
                between = x.0.behind;
                first = p;
                rest = q;
                whole = refl;
              });
          tells = λ s us b y.
              is_then (argument K d w s) (reading y.one y.between) _ _ (k.tells s y.one y.between y.first)
              (is_then (ds ws y.between) (reading y.others b) _ _ (l.tells y.between y.others b y.rest)
              (rw y.whole is_found));
        }

pub calls_decided : (f : Option Callable) (es : ArgumentsRule) (ds : Arguments) (at : Pos) → DecidesEach es ds →
    Decides (Calls f es at) (calls f ds at)
calls_decided None es ds at i = record {
  sound = λ s w r f. cc;
  tells = λ s w us b y. let e = y.is in cc;
}
calls_decided (Some f) es ds at i =
    let j = i.each f.wanted in
    record {
      sound = λ s w r e.
          let x = went_on (ds f.wanted s) _ r e in
          record {
            chosen = f;
            values = x.0.value;
            end = x.0.behind;
            is = refl;
            are = j.sound s x.0 x.1.0;
            gives = one_found (called f x.0.value at) x.0.behind r x.1.1;
          };
      tells = λ s w us b y.
          let e : y.chosen ≡ f = let g = y.is in cc in
          let are = subst (λ f. es f.wanted s y.values y.end) e y.are in
          let gives = subst (λ f. GivesOne (called f y.values at) y.end us b) e y.gives in
          is_then (ds f.wanted s) (reading y.values y.end) _ _ (j.tells s y.values y.end are)
          (one_is (called f y.values at) y.end us b gives);
    }

pub calls_named_decided : (all : Bool) (x : List ℕ) (e : Rule) (d : Typings) → Decides e d →
    Decides e (calls_named all x d)
calls_named_decided true x e d i = record {
  sound = λ s w r f. i.sound s w r f;
  tells = λ s w us b p. i.tells s w us b p;
}
calls_named_decided false x e d i = record {
  sound = λ s w r f. sound_if (comes_later s x) s w r f;
  tells = λ s w us b p. tells_if (comes_later s x) s w us b p;
}
  where
    sound_if : (is_later : Bool) (s : State) (w : Use) (r : Reading (List ExpressionForm)) →
        (if is_later then unbuilt else d s w) ≡ found r → e s w r.value r.behind
    sound_if true s w r f = cc
    sound_if false s w r f = i.sound s w r f

    tells_if : (is_later : Bool) (s : State) (w : Use) (us : List ExpressionForm) (b : State) → e s w us b →
        Is (if is_later then unbuilt else d s w) (reading us b)
    tells_if true s w us b p = is_unbuilt
    tells_if false s w us b p = i.tells s w us b p
