-- Statements and jumps are decided where their parts are.
use Rattle.std.proofs.Common.{ℕ, List, Option, Some, None, ◌≡◌, refl, ap, ◌∙◌, subst, Bool, true}
use Rattle.std.specs.Prelude.{slice_get, option_map}
use Rattle.kt_base.specs.declared.refusals.Pos.{Pos}
use Rattle.kt_tree.specs.declared.bodies.BinaryOperator.{BinaryOperator}
use Rattle.kt_tree.specs.declared.bodies.StepOperator.{StepOperator}
use Rattle.kt_tree.specs.Types.{TypeTree}
use Rattle.kt_types_tree.specs.Types.{TypeForm}
use Rattle.kt_types_order.specs.Graph.{ClassesEnd}
use Rattle.kt_typed.specs.declared.operators.Width.{Width}
use Rattle.kt_typed.specs.Operators.{LocalForm}
use Rattle.kt_typed.specs.Bodies as t
use Rattle.kt_typed.specs.Bodies.{ExpressionForm, no_expression, some_expression, BlockForm, StatementForm, declare, assign, step, local_target}
use Rattle.kt_check_rules.specs.Choices.{first_some}
use Rattle.kt_check_rules.specs.Kinds.{type_of, width_of, boolean_type, nothing_type, is_unit}
use Rattle.kt_check_rules.specs.States.{Context, State, hierarchy, meaning, is_free, local_named, next_local, declaring, assigned, with_facts}
use Rattle.kt_check_rules.specs.Typings.{Rule, BlockRule, unused, as_value, meeting, IsTyped}
use Rattle.kt_check_rules.specs.Operators.{after_test}
use Rattle.kt_check_rules.specs.Loops.{Whiles, Breaks, Continues, Returns, BareReturns, repeated, in_loop, noting_break, noting_continue}
use Rattle.kt_check_rules.specs.Assignments.{Combination, combined, NewValue, may_assign, has_old, IsLocal, LocalAssignments, LocalSteps}
use Rattle.kt_check_rules.specs.Statements.{local_kind, with_value, Bare, Initialized}
use Rattle.kt_check_deciding.specs.Subtypes.{is_below}
use Rattle.kt_check_deciding.specs.Outcomes.{found, Reading, reading, Decision, gives_one}
use Rattle.kt_check_deciding.specs.Choosing.{typed_by}
use Rattle.kt_check_deciding.specs.Expressions.{Typings}
use Rattle.kt_check_deciding.specs.Statements.{while_state, whiles, breaks, continues, returns, bare_returns, typed_locals, untyped_locals, bare_locals, bares, initialized, NewForm, new_form, combines, new_value, Found, numbered, local_at, local_of, local_assignments, assignments_to, stepped, local_steps}
use Rattle.kt_check_deciding.proofs.Subtypes.{below_is}
use Rattle.kt_check_deciding.proofs.Deciding.{Is, is_found, is_then, is_only_if, is_there, went_on, was_if, was_there, gave, one_found, one_is, Decides, DecidesAt}
use Rattle.kt_check_deciding.proofs.Choosing.{typed_decided}
use Rattle.kt_check_deciding.proofs.Expressions.{later_at_decided}

pub breaks_decided : Decides Breaks breaks
breaks_decided = record {
  sound = λ s w r e. one_found (t.break nothing_type) (noting_break s) r e;
  tells = λ s w us b p. one_is (t.break nothing_type) (noting_break s) us b p;
}

pub continues_decided : Decides Continues continues
continues_decided = record {
  sound = λ s w r e. one_found (t.continue nothing_type) (noting_continue s) r e;
  tells = λ s w us b p. one_is (t.continue nothing_type) (noting_continue s) us b p;
}

pub local_found : (x : List ℕ) (s : State) (l : Found) → local_of x s ≡ Some l → IsLocal x s l.number l.local
local_found x s l e = by_number (local_named s.scope x) refl e
  where
    by_local : (n : ℕ) (p : Option LocalForm) → slice_get s.book.locals n ≡ p →
        option_map (numbered n) p ≡ Some l → (n ≡ l.number) × (slice_get s.book.locals n ≡ Some l.local)
    by_local n None g f = cc
    by_local n (Some m) g f =
        let h : numbered n m ≡ l = cc in
        (ap (λ l. l.number) h, g ∙ ap (λ l. Some l.local) h)

    by_number : (o : Option ℕ) → local_named s.scope x ≡ o → local_at s o ≡ Some l → IsLocal x s l.number l.local
    by_number None g f = cc
    by_number (Some n) g f =
        let p = by_local n (slice_get s.book.locals n) refl f in
        record { number = g ∙ ap Some p.0; known = rw (← p.0) p.1 }

local_is : (x : List ℕ) (s : State) (n : ℕ) (l : LocalForm) → IsLocal x s n l → local_of x s ≡ Some (numbered n l)
local_is x s n l p = rw (p.number, p.known) refl

module _ (K : Context) (ends : ClassesEnd (hierarchy K)) where
  pub whiles_decided : (at : Pos) (test : Rule) (body : BlockRule) (c : Typings) (d : Decision BlockForm) →
      Decides test c → Decides body d → DecidesAt (Whiles K at test body) (whiles K at c d)
  whiles_decided at test body c d it j =
      let i = typed_decided K ends test c it in
      record {
        sound = λ s r f.
            let u = went_on (typed_by K c (repeated s) (meeting boolean_type)) _ r f in
            let x =
            went_on (d (in_loop (with_facts (after_test K true u.0.value u.0.behind) u.0.behind)) unused) _ r
            u.1.1
            in
            let p = i.sound (repeated s) (meeting boolean_type) u.0 u.1.0 in
            let q = j.sound _ unused x.0 x.1.0 in
            gave (λ y b. Whiles K at test body s y b) (t.while at u.0.value x.0.value)
            (while_state K s u.0 x.0.behind) r x.1.1
            (record {
              u = u.0.value;
              b = x.0.value;
              tested = u.0.behind;
              end = x.0.behind;
              condition = p;
              done = q;
              whole = refl;
              after = refl;
            });
        tells = λ s x b y.
            is_then (typed_by K c (repeated s) (meeting boolean_type)) (reading y.u y.tested) _ _
            (i.tells (repeated s) (meeting boolean_type) y.u y.tested y.condition)
            (is_then (d (in_loop (with_facts (after_test K true y.u y.tested) y.tested)) unused)
            (reading y.b y.end) _ _ (j.tells _ unused y.b y.end y.done) (rw (y.whole, y.after) is_found));
      }

  pub returns_decided : (e : Rule) (d : Typings) → Decides e d → Decides (Returns K e) (returns K d)
  returns_decided e d i =
      let j = typed_decided K ends e d i in
      record {
        sound = λ s w r f.
            let x = went_on (typed_by K d s (meeting K.result)) _ r f in
            record {
              u = x.0.value;
              end = x.0.behind;
              value = j.sound s (meeting K.result) x.0 x.1.0;
              gives = one_found (t.return nothing_type (some_expression x.0.value)) x.0.behind r x.1.1;
            };
        tells = λ s w us b y.
            is_then (typed_by K d s (meeting K.result)) (reading y.u y.end) _ _
            (j.tells s (meeting K.result) y.u y.end y.value)
            (one_is (t.return nothing_type (some_expression y.u)) y.end us b y.gives);
      }

  pub bare_returns_decided : Decides (BareReturns K) (bare_returns K)
  bare_returns_decided = record {
    sound = λ s w r f.
        let x = was_if (is_unit K.result) (gives_one (t.return nothing_type no_expression) s) r f in
        (x.0, one_found (t.return nothing_type no_expression) s r x.1);
    tells = λ s w us b y.
        is_only_if (is_unit K.result) (gives_one (t.return nothing_type no_expression) s) (reading us b) y.0
        (one_is (t.return nothing_type no_expression) s us b y.1);
  }

  -- Declarations.

  pub bares_decided : (at : Pos) (var : Bool) (x : List ℕ) (w : Option TypeTree) →
      DecidesAt (Bare K at var x w) (bares K at var x w)
  bares_decided at var x None = record { sound = λ s r f. cc; tells = λ s y b p. absurd p }
  bares_decided at var x (Some w) = record {
    sound = λ s r f.
        let i = was_if (is_free x s) (bare_locals at var x (meaning K w) s) r f in
        to s r i.0 (meaning K w) refl i.1;
    tells = λ s y b p.
        is_only_if (is_free x s) (bare_locals at var x (meaning K w) s) (reading y b) p.free
        (rw (p.means, p.whole, p.after) is_found);
  }
    where
      to : (s : State) (r : Reading StatementForm) → is_free x s ≡ true → (o : Option TypeForm) →
          meaning K w ≡ o → bare_locals at var x o s ≡ found r → Bare K at var x (Some w) s r.value r.behind
      to s r e None g f = cc
      to s r e (Some u) g f =
          gave (λ y b. Bare K at var x (Some w) s y b) (declare at (next_local s) no_expression)
          (declaring x (local_kind var) u s) r f
          (record { t = u; free = e; means = g; whole = refl; after = refl })

  pub initialized_decided : (at : Pos) (var : Bool) (x : List ℕ) (w : Option TypeTree) (e : Rule) (d : Typings) →
      Decides e d → DecidesAt (Initialized K at var x w e) (initialized K at var x w d)
  initialized_decided at var x None e d i =
      let j = typed_decided K ends e d i in
      record {
        sound = λ s r f.
            let l = was_if (is_free x s) (untyped_locals K at var x d s) r f in
            let u = went_on (typed_by K d s as_value) _ r l.1 in
            let p = j.sound s as_value u.0 u.1.0 in
            gave (λ y b. Initialized K at var x None e s y b)
            (declare at (next_local u.0.behind) (some_expression u.0.value))
            (with_value var x (type_of u.0.value) u.0.behind) r u.1.1
            (record { u = u.0.value; end = u.0.behind; free = l.0; value = p; whole = refl; after = refl });
        tells = λ s y b p.
            is_only_if (is_free x s) (untyped_locals K at var x d s) (reading y b) p.free
            (is_then (typed_by K d s as_value) (reading p.u p.end) _ _ (j.tells s as_value p.u p.end p.value)
            (rw (p.whole, p.after) is_found));
      }
  initialized_decided at var x (Some w) e d i = record {
    sound = λ s r f.
        let l = was_if (is_free x s) (typed_locals K at var x (meaning K w) d s) r f in
        to s r l.0 (meaning K w) refl l.1;
    tells = λ s y b p.
        is_only_if (is_free x s) (typed_locals K at var x (meaning K w) d s) (reading y b) p.free
        (from s y b p (meaning K w) p.means);
  }
    where
      j : Decides (IsTyped K e) (typed_by K d)
      j = typed_decided K ends e d i

      to : (s : State) (r : Reading StatementForm) → is_free x s ≡ true → (o : Option TypeForm) →
          meaning K w ≡ o → typed_locals K at var x o d s ≡ found r →
          Initialized K at var x (Some w) e s r.value r.behind
      to s r free None g f = cc
      to s r free (Some v) g f =
          let u = went_on (typed_by K d s (meeting v)) _ r f in
          let p = j.sound s (meeting v) u.0 u.1.0 in
          gave (λ y b. Initialized K at var x (Some w) e s y b)
          (declare at (next_local u.0.behind) (some_expression u.0.value)) (with_value var x v u.0.behind) r u.1.1
          (record {
            t = v;
            u = u.0.value;
            end = u.0.behind;
            free = free;
            means = g;
            value = p;
            whole = refl;
            after = refl;
          })

      from : (s : State) (y : StatementForm) (b : State) (p : Initialized K at var x (Some w) e s y b)
          (o : Option TypeForm) → o ≡ Some p.t → Is (typed_locals K at var x o d s) (reading y b)
      from s y b p None g = cc
      from s y b p (Some v) g =
          let same : p.t ≡ v = cc in
          let value = subst (λ v. IsTyped K e s (meeting v) p.u p.end) same p.value in
          let after : b ≡ with_value var x v p.end = p.after ∙ ap (λ v. with_value var x v p.end) same in
          is_then (typed_by K d s (meeting v)) (reading p.u p.end) _ _ (j.tells s (meeting v) p.u p.end value)
          (rw (p.whole, after) is_found)

  -- Assignments.

  abbrev pub NewAs : Option BinaryOperator → Rule → TypeForm → State → NewForm → State → Type 0
  NewAs k e u s n b = NewValue K k e u s n.operator n.value b

  pub new_value_decided : (k : Option BinaryOperator) (e : Rule) (d : Typings) (u : TypeForm) → Decides e d →
      DecidesAt (NewAs k e u) (new_value K k d u)
  new_value_decided None e d u i =
      let j = typed_decided K ends e d i in
      record {
        sound = λ s r f.
            let x = went_on (typed_by K d s (meeting u)) _ r f in
            let p = j.sound s (meeting u) x.0 x.1.0 in
            gave (λ n b. NewAs None e u s n b) (new_form None x.0.value) x.0.behind r x.1.1 (p, refl);
        tells = λ s n b y.
            is_then (typed_by K d s (meeting u)) (reading n.value b) _ _ (j.tells s (meeting u) n.value b y.0)
            (rw y.1 is_found);
      }
  new_value_decided (Some k) e d u i = record {
    sound = λ s r f.
        let x = went_on (d s as_value) _ r f in
        to s r x.0 (i.sound s as_value x.0 x.1.0) (first_some (combined (hierarchy K) k u) x.0.value) refl x.1.1;
    tells = λ s n b y.
        is_then (d s as_value) (reading y.typings b) _ _ (i.tells s as_value y.typings b y.reads)
        (rw y.first
        (is_only_if (is_below (hierarchy K) y.chosen.2 u)
        (found (reading (new_form (Some y.chosen.1) y.chosen.0) b)) (reading n b)
        ((below_is (hierarchy K) ends y.chosen.2 u).1 y.meets) (rw (y.value, y.operator) is_found)));
  }
    where
      to : (s : State) (r : Reading NewForm) (x : Reading (List ExpressionForm)) → e s as_value x.value x.behind →
          (o : Option Combination) → first_some (combined (hierarchy K) k u) x.value ≡ o →
          combines K u o x.behind ≡ found r → NewAs (Some k) e u s r.value r.behind
      to s r x p None g f = cc
      to s r x p (Some c) g f =
          let l = was_if (is_below (hierarchy K) c.2 u) (found (reading (new_form (Some c.1) c.0) x.behind)) r f in
          gave (λ n b. NewAs (Some k) e u s n b) (new_form (Some c.1) c.0) x.behind r l.1
          (record {
            typings = x.value;
            chosen = c;
            reads = p;
            first = g;
            meets = (below_is (hierarchy K) ends c.2 u).0 l.0;
            value = refl;
            operator = refl;
          })

  pub local_assignments_decided : (at : Pos) (x : List ℕ) (k : Option BinaryOperator) (e : Rule) (d : Typings) →
      Decides e d → DecidesAt (LocalAssignments K at x k e) (local_assignments K at x k d)
  local_assignments_decided at x k e d i = record {
    sound = λ s r f.
        let l = was_there (local_of x s) _ r f in
        let o = was_if (has_old k l.0.number s) _ r l.1.1 in
        let v = went_on (new_value K k d l.0.local.declared s) _ r o.1 in
        let m = was_if (may_assign l.0.local.kind l.0.number v.0.behind) _ r v.1.1 in
        let j = new_value_decided k e d l.0.local.declared i in
        let p = j.sound s v.0 v.1.0 in
        gave (λ y b. LocalAssignments K at x k e s y b)
        (assign at (local_target l.0.number) v.0.value.operator v.0.value.value) (assigned l.0.number v.0.behind) r
        m.1
        (record {
          n = l.0.number;
          l = l.0.local;
          f = v.0.value.operator;
          u = v.0.value.value;
          end = v.0.behind;
          is = local_found x s l.0 l.1.0;
          old = o.0;
          new = p;
          allowed = m.0;
          whole = refl;
          after = refl;
        });
    tells = λ s y b p.
        let j = new_value_decided k e d p.l.declared i in
        is_there (local_of x s) (numbered p.n p.l) _ _ (local_is x s p.n p.l p.is)
        (is_only_if (has_old k p.n s) _ _ p.old
        (is_then (new_value K k d p.l.declared s) (reading (new_form p.f p.u) p.end) _ _
        (j.tells s (new_form p.f p.u) p.end p.new)
        (is_only_if (may_assign p.l.kind p.n p.end) _ _ p.allowed (rw (p.whole, p.after) is_found))));
  }

pub assignments_decided : (all : Bool) (K : Context) → ClassesEnd (hierarchy K) → (at : Pos) (x : List ℕ)
    (k : Option BinaryOperator) (e : Rule) (d : Typings) → Decides e d →
    DecidesAt (LocalAssignments K at x k e) (assignments_to all K at x k d)
assignments_decided all K ends at x None e d i = local_assignments_decided K ends at x None e d i
assignments_decided all K ends at x (Some k) e d i =
    later_at_decided all _ _ (local_assignments_decided K ends at x (Some k) e d i)

pub local_steps_decided : (at : Pos) (x : List ℕ) (k : StepOperator) →
    DecidesAt (LocalSteps at x k) (local_steps at x k)
local_steps_decided at x k = record {
  sound = λ s r f.
      let l = was_there (local_of x s) _ r f in
      let o = was_if (s.facts.surely_assigned l.0.number) _ r l.1.1 in
      to s r l.0 l.1.0 o.0 (width_of l.0.local.declared) refl o.1;
  tells = λ s y b p.
      is_there (local_of x s) (numbered p.n p.l) _ _ (rw (p.is.number, p.is.known) refl)
      (is_only_if (s.facts.surely_assigned p.n) _ _ p.old
      (rw p.number (is_only_if (may_assign p.l.kind p.n s) _ _ p.allowed (rw (p.whole, p.after) is_found))));
}
  where
    to : (s : State) (r : Reading StatementForm) (l : Found) → local_of x s ≡ Some l →
        s.facts.surely_assigned l.number ≡ true → (o : Option Width) → width_of l.local.declared ≡ o →
        stepped at k l o s ≡ found r → LocalSteps at x k s r.value r.behind
    to s r l e old None g f = cc
    to s r l e old (Some width) g f =
        let m = was_if (may_assign l.local.kind l.number s) _ r f in
        gave (λ y b. LocalSteps at x k s y b) (step at (local_target l.number) k width) (assigned l.number s) r m.1
        (record {
          n = l.number;
          l = l.local;
          width = width;
          is = local_found x s l e;
          old = old;
          number = g;
          allowed = m.0;
          whole = refl;
          after = refl;
        })
