-- Strings, type tests, casts, elements, members and their calls are decided where their parts are.
use Rattle.std.proofs.Common.{ℕ, List, [], ◌∷◌, Option, Some, None, ◌≡◌, refl, ap, subst, Bool, true}
use Rattle.std.specs.Prelude.{IsTrue}
use Rattle.kt_base.specs.declared.refusals.Pos.{Pos}
use Rattle.kt_tree.specs.declared.bodies.TextPart.{TextPart}
use Rattle.kt_tree.specs.declared.bodies.StepOperator.{StepOperator}
use Rattle.kt_tree.specs.declared.bodies.BinaryOperator.{BinaryOperator}
use Rattle.kt_tree.specs.Types.{TypeTree}
use Rattle.kt_types_tree.specs.Types.{TypeForm, or_null}
use Rattle.kt_types_order.specs.Graph.{ClassesEnd}
use Rattle.kt_typed.specs.Bodies.{template, type_test, cast, not_null, PartForm, text, printed, parts_of, assign, step, element_target}
use Rattle.kt_check_rules.specs.Choices.{first_some, pairs}
use Rattle.kt_check_rules.specs.Kinds.{type_of, width_of, boolean_type, string_type, present_type, is_testable}
use Rattle.kt_check_rules.specs.States.{Context, State, hierarchy, with_facts}
use Rattle.kt_check_rules.specs.Typings.{Rule, as_value, IsNone, IsThen}
use Rattle.kt_check_rules.specs.Literals.{can_print, TextParts, PrintedParts, Templates}
use Rattle.kt_check_rules.specs.Access.{TypeTests, Casts, NotNulls, Elements, Members, element_of, member_read}
use Rattle.kt_check_rules.specs.Calls.{called, callable_on, maybe_left_out, ArgumentsRule, MethodCalls}
use Rattle.kt_check_rules.specs.Assignments.{element_at, IsElement, ElementAssignments, ElementSteps}
use Rattle.kt_check_deciding.specs.Outcomes.{found, reading, DecisionAt, unruled}
use Rattle.kt_check_deciding.specs.Choosing.{typed_by, chosen_by}
use Rattle.kt_check_deciding.specs.Expressions.{Typings, Arguments}
use Rattle.kt_check_deciding.specs.Statements.{new_form, new_value}
use Rattle.kt_check_deciding.specs.Access.{no_parts, parts_then, text_parts, printed_parts, templates, testable, tests, casts, not_nulls, elements, members, method_calls, element_by, element_assignments, element_steps}
use Rattle.kt_check_deciding.proofs.Deciding.{is_found, is_then, is_there, went_on, was_if, was_there, gave, one_found, one_is, if_found, if_is, Decides, DecidesAt}
use Rattle.kt_check_deciding.proofs.Choosing.{typed_decided, chosen_decided}
use Rattle.kt_check_deciding.proofs.Expressions.{DecidesEach, unruled_decided}
use Rattle.kt_check_rules.specs.Rules.{NoRule}
use Rattle.kt_check_deciding.proofs.Statements.{new_value_decided}

-- Strings.

pub no_parts_decided : DecidesAt (IsNone {A = PartForm}) no_parts
no_parts_decided = record {
  sound = λ s r f. gave (λ ps b. IsNone s ps b) [] s r f (refl, refl);
  tells = λ s ps b y. rw (y.0, y.1) is_found;
}

pub parts_then_decided : (One : State → PartForm → State → Type 0) (Others : State → List PartForm → State → Type 0)
    (c : DecisionAt PartForm) (d : DecisionAt (List PartForm)) → DecidesAt One c → DecidesAt Others d →
    DecidesAt (IsThen One Others) (parts_then c d)
parts_then_decided One Others c d i j = record {
  sound = λ s r f.
      let x = went_on (c s) _ r f in
      let y = went_on (d x.0.behind) _ r x.1.1 in
      let p = i.sound s x.0 x.1.0 in
      let q = j.sound x.0.behind y.0 y.1.0 in
      gave (λ ps b. IsThen One Others s ps b) (x.0.value ∷ y.0.value) y.0.behind r y.1.1
      (record {
        one = x.0.value;
        others = y.0.value;
        between = x.0.behind;
        first = p;
        rest = q;
        whole = refl;
      });
  tells = λ s ps b y.
      is_then (c s) (reading y.one y.between) _ _ (i.tells s y.one y.between y.first)
      (is_then (d y.between) (reading y.others b) _ _ (j.tells y.between y.others b y.rest)
      (rw y.whole is_found));
}

pub text_decided : (t : TextPart) → DecidesAt (TextParts t) (text_parts t)
text_decided t = record {
  sound = λ s r f. gave (λ p b. TextParts t s p b) (text t) s r f (refl, refl);
  tells = λ s p b y. rw (y.0, y.1) is_found;
}

pub templates_decided : (R : State → List PartForm → State → Type 0) (d : DecisionAt (List PartForm)) →
    DecidesAt R d → Decides (Templates R) (templates d)
templates_decided R d i = record {
  sound = λ s w r f.
      let x = went_on (d s) _ r f in
      record {
        all = x.0.value;
        end = x.0.behind;
        are = i.sound s x.0 x.1.0;
        gives = one_found (template string_type (parts_of x.0.value)) x.0.behind r x.1.1;
      };
  tells = λ s w us b y.
      is_then (d s) (reading y.all y.end) _ _ (i.tells s y.all y.end y.are)
      (one_is (template string_type (parts_of y.all)) y.end us b y.gives);
}

pub elements_decided : (a i : Rule) (c d : Typings) → Decides a c → Decides i d →
    Decides (Elements a i) (elements c d)
elements_decided a i c d ia ib = record {
  sound = λ s w r f.
      let x = went_on (c s as_value) _ r f in
      let y = went_on (d x.0.behind as_value) _ r x.1.1 in
      record {
        arrays = x.0.value;
        indices = y.0.value;
        between = x.0.behind;
        end = y.0.behind;
        array = ia.sound s as_value x.0 x.1.0;
        at = ib.sound x.0.behind as_value y.0 y.1.0;
        gives = if_found (first_some element_of (pairs x.0.value y.0.value)) y.0.behind r y.1.1;
      };
  tells = λ s w us b y.
      is_then (c s as_value) (reading y.arrays y.between) _ _ (ia.tells s as_value y.arrays y.between y.array)
      (is_then (d y.between as_value) (reading y.indices y.end) _ _
      (ib.tells y.between as_value y.indices y.end y.at)
      (if_is (first_some element_of (pairs y.arrays y.indices)) y.end us b y.gives));
}

pub members_decided : (K : Context) (e : Rule) (d : Typings) (is_safe : Bool) (x : List ℕ) → Decides e d →
    Decides (Members K e is_safe x) (members K d is_safe x)
members_decided K e d is_safe x i = record {
  sound = λ s w r f.
      let y = went_on (d s as_value) _ r f in
      record {
        receivers = y.0.value;
        end = y.0.behind;
        of_what = i.sound s as_value y.0 y.1.0;
        gives = if_found (first_some (member_read (hierarchy K) is_safe x) y.0.value) y.0.behind r y.1.1;
      };
  tells = λ s w us b y.
      is_then (d s as_value) (reading y.receivers y.end) _ _ (i.tells s as_value y.receivers y.end y.of_what)
      (if_is (first_some (member_read (hierarchy K) is_safe x) y.receivers) y.end us b y.gives);
}

pub method_calls_decided : (K : Context) (e : Rule) (d : Typings) (is_safe : Bool) (x : List ℕ)
    (ts : List TypeTree) (k : ℕ) (es : ArgumentsRule) (ds : Arguments) (at : Pos) → Decides e d →
    DecidesEach es ds → Decides (MethodCalls K e is_safe x ts k es at) (method_calls K d is_safe x ts k ds at)
method_calls_decided K e d is_safe x ts k es ds at i j = record {
  sound = λ s w r f.
      let y = went_on (d s as_value) _ r f in
      let c = was_there (callable_on K is_safe x ts k y.0.value) _ r y.1.1 in
      let z = went_on (ds c.0.wanted y.0.behind) _ r c.1.1 in
      record {
        receivers = y.0.value;
        chosen = c.0;
        values = z.0.value;
        between = y.0.behind;
        end = z.0.behind;
        of_what = i.sound s as_value y.0 y.1.0;
        is = c.1.0;
        are = (j.each c.0.wanted).sound y.0.behind z.0 z.1.0;
        gives = one_found (called c.0 z.0.value at)
            (with_facts (maybe_left_out is_safe y.0.behind.facts z.0.behind.facts) z.0.behind) r z.1.1;
      };
  tells = λ s w us b y.
      is_then (d s as_value) (reading y.receivers y.between) _ _
      (i.tells s as_value y.receivers y.between y.of_what)
      (is_there (callable_on K is_safe x ts k y.receivers) y.chosen _ _ y.is
      (is_then (ds y.chosen.wanted y.between) (reading y.values y.end) _ _
      ((j.each y.chosen.wanted).tells y.between y.values y.end y.are)
      (one_is (called y.chosen y.values at)
      (with_facts (maybe_left_out is_safe y.between.facts y.end.facts) y.end) us b y.gives)));
}

element_found : (a i : Rule) (c d : Typings) → Decides a c → Decides i d → DecidesAt (IsElement a i) (element_by c d)
element_found a i c d ia ib = record {
  sound = λ s r f.
      let x = went_on (c s as_value) _ r f in
      let y = went_on (d x.0.behind as_value) _ r x.1.1 in
      let p = was_there (first_some element_at (pairs x.0.value y.0.value)) _ r y.1.1 in
      let first = ia.sound s as_value x.0 x.1.0 in
      let second = ib.sound x.0.behind as_value y.0 y.1.0 in
      gave (λ q b. IsElement a i s q b) p.0 y.0.behind r p.1.1
      (record {
        arrays = x.0.value;
        indices = y.0.value;
        between = x.0.behind;
        array = first;
        index = second;
        first = p.1.0;
      });
  tells = λ s q b y.
      is_then (c s as_value) (reading y.arrays y.between) _ _ (ia.tells s as_value y.arrays y.between y.array)
      (is_then (d y.between as_value) (reading y.indices b) _ _ (ib.tells y.between as_value y.indices b y.index)
      (is_there (first_some element_at (pairs y.arrays y.indices)) q _ _ y.first is_found));
}

pub element_steps_decided : (at : Pos) (a i : Rule) (c d : Typings) (k : StepOperator) → Decides a c →
    Decides i d → DecidesAt (ElementSteps at a i k) (element_steps at c d k)
element_steps_decided at a i c d k ia ib =
    let j = element_found a i c d ia ib in
    record {
      sound = λ s r f.
          let p = went_on (element_by c d s) _ r f in
          let v = was_there (width_of p.0.value.2) _ r p.1.1 in
          let q = j.sound s p.0 p.1.0 in
          gave (λ y b. ElementSteps at a i k s y b) (step at (element_target p.0.value.0 p.0.value.1) k v.0)
          p.0.behind r v.1.1
          (record { place = p.0.value; width = v.0; is = q; number = v.1.0; whole = refl });
      tells = λ s x b y.
          is_then (element_by c d s) (reading y.place b) _ _ (j.tells s y.place b y.is)
          (is_there (width_of y.place.2) y.width _ _ y.number (rw y.whole is_found));
    }

module _ (K : Context) (ends : ClassesEnd (hierarchy K)) where
  pub printed_decided : (e : Rule) (d : Typings) → Decides e d → DecidesAt (PrintedParts K e) (printed_parts K d)
  printed_decided e d i =
      let j = chosen_decided K ends (can_print K) e d i in
      record {
        sound = λ s r f.
            let x = went_on (chosen_by (can_print K) d s) _ r f in
            let p = j.sound s x.0 x.1.0 in
            gave (λ p b. PrintedParts K e s p b) (printed x.0.value) x.0.behind r x.1.1
            (record { value = x.0.value; chosen = p; whole = refl });
        tells = λ s p b y.
            is_then (chosen_by (can_print K) d s) (reading y.value b) _ _ (j.tells s y.value b y.chosen)
            (rw y.whole is_found);
      }

  pub unprinted_decided : (all : Bool) → DecidesAt (PrintedParts K NoRule) (printed_parts K (unruled all))
  unprinted_decided all = printed_decided NoRule (unruled all) (unruled_decided all)

  pub testable_found : (meant : Option TypeForm) (u : TypeForm) → testable K meant ≡ found u →
      (meant ≡ Some u) × IsTrue (is_testable (hierarchy K) u)
  testable_found None u e = cc
  testable_found (Some v) u e =
      let p = was_if (is_testable (hierarchy K) v) (found v) u e in
      let same : v ≡ u = let f = p.1 in cc in
      (ap Some same, subst (λ v. is_testable (hierarchy K) v ≡ true) same p.0)

  pub testable_is : (meant : Option TypeForm) (u : TypeForm) → meant ≡ Some u → IsTrue (is_testable (hierarchy K) u) →
      testable K meant ≡ found u
  testable_is meant u e f = rw (e, f) refl

  pub tests_decided : (e : Rule) (d : Typings) (is_negated : Bool) (meant : Option TypeForm) → Decides e d →
      Decides (TypeTests K e is_negated meant) (tests K d is_negated meant)
  tests_decided e d is_negated meant i =
      let j = typed_decided K ends e d i in
      record {
        sound = λ s w r f.
            let x = went_on (typed_by K d s as_value) _ r f in
            let v = went_on (testable K meant) _ r x.1.1 in
            let p = testable_found meant v.0 v.1.0 in
            record {
              u = x.0.value;
              tested = v.0;
              end = x.0.behind;
              operand = j.sound s as_value x.0 x.1.0;
              means = p.0;
              allowed = p.1;
              gives = one_found (type_test boolean_type x.0.value is_negated v.0) x.0.behind r v.1.1;
            };
        tells = λ s w us b y.
            is_then (typed_by K d s as_value) (reading y.u y.end) _ _ (j.tells s as_value y.u y.end y.operand)
            (rw (testable_is meant y.tested y.means y.allowed)
            (one_is (type_test boolean_type y.u is_negated y.tested) y.end us b y.gives));
      }

  pub casts_decided : (e : Rule) (d : Typings) (gives_null : Bool) (meant : Option TypeForm) → Decides e d →
      Decides (Casts K e gives_null meant) (casts K d gives_null meant)
  casts_decided e d gives_null meant i =
      let j = typed_decided K ends e d i in
      record {
        sound = λ s w r f.
            let x = went_on (typed_by K d s as_value) _ r f in
            let v = went_on (testable K meant) _ r x.1.1 in
            let p = testable_found meant v.0 v.1.0 in
            record {
              u = x.0.value;
              wanted = v.0;
              end = x.0.behind;
              operand = j.sound s as_value x.0 x.1.0;
              means = p.0;
              allowed = p.1;
              gives = one_found (cast (or_null gives_null v.0) x.0.value gives_null v.0) x.0.behind r v.1.1;
            };
        tells = λ s w us b y.
            is_then (typed_by K d s as_value) (reading y.u y.end) _ _ (j.tells s as_value y.u y.end y.operand)
            (rw (testable_is meant y.wanted y.means y.allowed)
            (one_is (cast (or_null gives_null y.wanted) y.u gives_null y.wanted) y.end us b y.gives));
      }

  pub not_nulls_decided : (e : Rule) (d : Typings) → Decides e d → Decides (NotNulls K e) (not_nulls K d)
  not_nulls_decided e d i =
      let j = typed_decided K ends e d i in
      record {
        sound = λ s w r f.
            let x = went_on (typed_by K d s as_value) _ r f in
            record {
              u = x.0.value;
              end = x.0.behind;
              operand = j.sound s as_value x.0 x.1.0;
              gives = one_found (not_null (present_type (hierarchy K) (type_of x.0.value)) x.0.value) x.0.behind r
                  x.1.1;
            };
        tells = λ s w us b y.
            is_then (typed_by K d s as_value) (reading y.u y.end) _ _ (j.tells s as_value y.u y.end y.operand)
            (one_is (not_null (present_type (hierarchy K) (type_of y.u)) y.u) y.end us b y.gives);
      }

  pub element_assignments_decided : (at : Pos) (a i e : Rule) (c d f : Typings) (k : Option BinaryOperator) →
      Decides a c → Decides i d → Decides e f →
      DecidesAt (ElementAssignments K at a i k e) (element_assignments K at c d k f)
  element_assignments_decided at a i e c d f k ia ib ie =
      let j = element_found a i c d ia ib in
      record {
        sound = λ s r g.
            let p = went_on (element_by c d s) _ r g in
            let v = went_on (new_value K k f p.0.value.2 p.0.behind) _ r p.1.1 in
            let n = new_value_decided K ends k e f p.0.value.2 ie in
            let q = j.sound s p.0 p.1.0 in
            let z = n.sound p.0.behind v.0 v.1.0 in
            gave (λ y b. ElementAssignments K at a i k e s y b)
            (assign at (element_target p.0.value.0 p.0.value.1) v.0.value.operator v.0.value.value) v.0.behind r
            v.1.1
            (record {
              place = p.0.value;
              f = v.0.value.operator;
              u = v.0.value.value;
              between = p.0.behind;
              is = q;
              new = z;
              whole = refl;
            });
        tells = λ s x b y.
            let n = new_value_decided K ends k e f y.place.2 ie in
            is_then (element_by c d s) (reading y.place y.between) _ _ (j.tells s y.place y.between y.is)
            (is_then (new_value K k f y.place.2 y.between) (reading (new_form y.f y.u) b) _ _
            (n.tells y.between (new_form y.f y.u) b y.new) (rw y.whole is_found));
      }
