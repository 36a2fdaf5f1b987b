-- `do` and `for` are decided where their parts are.
use Rattle.std.proofs.Common.{ℕ, List, refl}
use Rattle.std.specs.Prelude.{find}
use Rattle.kt_base.specs.declared.refusals.Pos.{Pos}
use Rattle.kt_tree.specs.declared.bodies.RangeOperator.{RangeOperator}
use Rattle.kt_types_order.specs.Graph.{ClassesEnd}
use Rattle.kt_typed.specs.Bodies as t
use Rattle.kt_typed.specs.Bodies.{ExpressionForm, BlockForm, StatementForm}
use Rattle.kt_check_rules.specs.Choices.{pairs}
use Rattle.kt_check_rules.specs.Kinds.{type_of, boolean_type}
use Rattle.kt_check_rules.specs.States.{Context, hierarchy, entering, next_local}
use Rattle.kt_check_rules.specs.Typings.{Rule, BlockRule, unused, as_value, meeting}
use Rattle.kt_check_rules.specs.Conditionals.{LinesRule}
use Rattle.kt_check_rules.specs.Loops.{DoWhiles, Fors, repeated, in_loop, at_condition, are_bounds, with_variable}
use Rattle.kt_check_deciding.specs.Outcomes.{reading, Decision}
use Rattle.kt_check_deciding.specs.Choosing.{typed_by}
use Rattle.kt_check_deciding.specs.Expressions.{Typings}
use Rattle.kt_check_deciding.specs.Blocks.{LineForms, lines, block_of}
use Rattle.kt_check_deciding.specs.Loops.{do_state, do_whiles, for_state, fors}
use Rattle.kt_check_deciding.proofs.Deciding.{is_found, is_then, is_there, went_on, was_there, gave, Decides, DecidesAt}
use Rattle.kt_check_deciding.proofs.Choosing.{typed_decided}
use Rattle.kt_check_deciding.proofs.Blocks.{DecidesLines}

pub do_whiles_decided : (K : Context) → ClassesEnd (hierarchy K) → (at : Pos) (body : LinesRule) (test : Rule)
    (d : Decision LineForms) (c : Typings) → DecidesLines body d → Decides test c →
    DecidesAt (DoWhiles K at body test) (do_whiles K at d c)
do_whiles_decided K ends at body test d c l it =
    let j = l.each in
    let i = typed_decided K ends test c it in
    record {
      sound = λ s r f.
          let x = went_on (d (entering (in_loop (repeated s))) unused) _ r f in
          let u =
          went_on (typed_by K c (at_condition K s x.0.value.statements x.0.behind) (meeting boolean_type)) _ r
          x.1.1
          in
          let p = j.sound (entering (in_loop (repeated s))) unused x.0 x.1.0 in
          let q = i.sound (at_condition K s x.0.value.statements x.0.behind) (meeting boolean_type) u.0 u.1.0 in
          gave (λ y b. DoWhiles K at body test s y b) (t.do_while at (block_of x.0.value) u.0.value)
          (do_state K s x.0.behind u.0) r u.1.1
          (record {
            ss = x.0.value.statements;
            v = x.0.value.value;
            u = u.0.value;
            end = x.0.behind;
            tested = u.0.behind;
            done = p;
            condition = q;
            whole = refl;
            after = refl;
          });
      tells = λ s x b y.
          is_then (d (entering (in_loop (repeated s))) unused) (reading (lines y.ss y.v) y.end) _ _
          (j.tells (entering (in_loop (repeated s))) unused (lines y.ss y.v) y.end y.done)
          (is_then (typed_by K c (at_condition K s y.ss y.end) (meeting boolean_type)) (reading y.u y.tested) _ _
          (i.tells (at_condition K s y.ss y.end) (meeting boolean_type) y.u y.tested y.condition)
          (rw (y.whole, y.after) is_found));
    }

pub fors_decided : (at : Pos) (x : List ℕ) (o : RangeOperator) (from to : Rule) (body : BlockRule) (c d : Typings)
    (f : Decision BlockForm) → Decides from c → Decides to d → Decides body f →
    DecidesAt (Fors at x o from to body) (fors at x o c d f)
fors_decided at x o from to body c d f i j k = record {
  sound = λ s r g.
      let a = went_on (c s as_value) _ r g in
      let b = went_on (d a.0.behind as_value) _ r a.1.1 in
      let p = was_there (find are_bounds (pairs a.0.value b.0.value)) _ r b.1.1 in
      let z = went_on (f (with_variable x (type_of p.0.0) b.0.behind) unused) _ r p.1.1 in
      let first = i.sound s as_value a.0 a.1.0 in
      let last = j.sound a.0.behind as_value b.0 b.1.0 in
      let done = k.sound (with_variable x (type_of p.0.0) b.0.behind) unused z.0 z.1.0 in
      gave (λ y e. Fors at x o from to body s y e)
      (t.for at (next_local b.0.behind) p.0.0 o p.0.1 z.0.value) (for_state s b.0.behind z.0.behind) r z.1.1
      (record {
        firsts = a.0.value;
        lasts = b.0.value;
        chosen = p.0;
        b = z.0.value;
        between = a.0.behind;
        begun = b.0.behind;
        end = z.0.behind;
        first = first;
        last = last;
        bounds = p.1.0;
        done = done;
        whole = refl;
        after = refl;
      });
  tells = λ s z b y.
      is_then (c s as_value) (reading y.firsts y.between) _ _ (i.tells s as_value y.firsts y.between y.first)
      (is_then (d y.between as_value) (reading y.lasts y.begun) _ _
      (j.tells y.between as_value y.lasts y.begun y.last)
      (is_there (find are_bounds (pairs y.firsts y.lasts)) y.chosen _ _ y.bounds
      (is_then (f (with_variable x (type_of y.chosen.0) y.begun) unused) (reading y.b y.end) _ _
      (k.tells (with_variable x (type_of y.chosen.0) y.begun) unused y.b y.end y.done)
      (rw (y.whole, y.after) is_found))));
}
