-- Blocks and `if` are decided where their parts are.
use Rattle.std.proofs.Common.{[], ◌∷◌, ◌≡◌, refl, true, false}
use Rattle.kt_base.specs.declared.refusals.Pos.{Pos}
use Rattle.kt_types_order.specs.Graph.{ClassesEnd}
use Rattle.kt_typed.specs.Bodies.{no_expression, some_expression, BlockForm, no_block, StatementForm, evaluate}
use Rattle.kt_check_rules.specs.Kinds.{boolean_type}
use Rattle.kt_check_rules.specs.States.{Context, State, hierarchy, entering, leaving, with_facts, path, joined}
use Rattle.kt_check_rules.specs.Typings.{Rule, StatementRule, BlockRule, Use, unused, as_value, meeting}
use Rattle.kt_check_rules.specs.Operators.{after_test}
use Rattle.kt_check_rules.specs.Conditionals.{LinesRule, NoLines, LineThen, LastLine, Evaluations, Values, Blocks, block_type, path_of, ElseRule, NoElse, Else, Ifs}
use Rattle.kt_check_deciding.specs.Outcomes.{found, Reading, reading, Decision, DecisionAt}
use Rattle.kt_check_deciding.specs.Choosing.{typed_by, branch_type, meets_unit}
use Rattle.kt_check_deciding.specs.Expressions.{Typings}
use Rattle.kt_check_deciding.specs.Blocks.{LineForms, lines, no_lines, with_line, line_then, evaluations, values, last_line, block_of, blocks, ElseForm, else_form, no_else, else_of, elses, if_of, ifs}
use Rattle.kt_check_deciding.proofs.Deciding.{Is, is_found, is_then, is_only_if, went_on, was_if, gave, Decides, DecidesAt}
use Rattle.kt_check_deciding.proofs.Choosing.{typed_decided, branch_found, branch_is, unit_met, unit_is}
use Rattle.kt_check_deciding.proofs.Expressions.{if_made, is_made}

-- statements and their value as one
abbrev pub LinesAs : LinesRule → State → Use → LineForms → State → Type 0
LinesAs R s w ls b = R s w ls.statements ls.value b

pub record DecidesLines (R : LinesRule) (d : Decision LineForms) : Type 0 where
  pub each : Decides (LinesAs R) d

abbrev pub ElseAs : ElseRule → State → Use → ElseForm → State → Type 0
ElseAs R s w e b = R s w e.shown e.types e.way b

pub record DecidesElse (R : ElseRule) (d : Decision ElseForm) : Type 0 where
  pub otherwise : Decides (ElseAs R) d

pub line_then_decided : (one : StatementRule) (others : LinesRule) (c : DecisionAt StatementForm)
    (d : Decision LineForms) → DecidesAt one c → DecidesLines others d →
    DecidesLines (LineThen one others) (line_then c d)
line_then_decided one others c d i k =
    let j = k.each in
    record {
      each = record {
        sound = λ s w r f.
            let x = went_on (c s) _ r f in
            let y = went_on (d x.0.behind w) _ r x.1.1 in
            let p = i.sound s x.0 x.1.0 in
            let q = j.sound x.0.behind w y.0 y.1.0 in
            gave (λ ls b. LinesAs (LineThen one others) s w ls b) (with_line x.0.value y.0.value) y.0.behind r y.1.1
            (record {
              line = x.0.value;
              lines = y.0.value.statements;
              between = x.0.behind;
              first = p;
              rest = q;
              whole = refl;
            });
        tells = λ s w ls b y.
            is_then (c s) (reading y.line y.between) _ _ (i.tells s y.line y.between y.first)
            (is_then (d y.between w) (reading (lines y.lines ls.value) b) _ _
            (j.tells y.between w (lines y.lines ls.value) b y.rest)
            (rw y.whole is_found));
      };
    }

module _ (K : Context) (ends : ClassesEnd (hierarchy K)) where
  pub no_lines_decided : DecidesLines (NoLines K) (no_lines K)
  no_lines_decided = record {
    each = record {
      sound = λ s w r f.
          let x = was_if (meets_unit K w) (found (reading (lines [] no_expression) s)) r f in
          gave (λ ls b. LinesAs (NoLines K) s w ls b) (lines [] no_expression) s r x.1
          (record { meets = unit_met K ends w x.0; none = refl; no_value = refl; same = refl });
      tells = λ s w ls b y.
          is_only_if (meets_unit K w) (found (reading (lines [] no_expression) s)) (reading ls b)
          (unit_is K ends w y.meets) (rw (y.none, y.no_value, y.same) is_found);
    };
  }

  pub evaluations_decided : (at : Pos) (e : Rule) (d : Typings) → Decides e d →
      DecidesAt (Evaluations K at e) (evaluations K at d)
  evaluations_decided at e d i =
      let j = typed_decided K ends e d i in
      record {
        sound = λ s r f.
            let x = went_on (typed_by K d s unused) _ r f in
            let p = j.sound s unused x.0 x.1.0 in
            gave (λ y b. Evaluations K at e s y b) (evaluate at x.0.value) x.0.behind r x.1.1
            (record { u = x.0.value; typed = p; whole = refl });
        tells = λ s x b y.
            is_then (typed_by K d s unused) (reading y.u b) _ _ (j.tells s unused y.u b y.typed)
            (rw y.whole is_found);
      }

  values_sound : (e : Rule) (d : Typings) → Decides e d → (s : State) (w : Use) (r : Reading LineForms) →
      values K d s w ≡ found r → LinesAs (Values K e) s w r.value r.behind
  values_sound e d i s w r f =
      let j = typed_decided K ends e d i in
      let x = went_on (typed_by K d s w) _ r f in
      let p = j.sound s w x.0 x.1.0 in
      gave (λ ls b. LinesAs (Values K e) s w ls b) (lines [] (some_expression x.0.value)) x.0.behind r x.1.1
      (record { u = x.0.value; typed = p; none = refl; is_value = refl })

  values_tells : (e : Rule) (d : Typings) → Decides e d → (s : State) (w : Use) (ls : LineForms) (b : State) →
      LinesAs (Values K e) s w ls b → Is (values K d s w) (reading ls b)
  values_tells e d i s w ls b y =
      let j = typed_decided K ends e d i in
      is_then (typed_by K d s w) (reading y.u b) _ _ (j.tells s w y.u b y.typed) (rw (y.none, y.is_value) is_found)

  pub last_line_decided : (at : Pos) (e : Rule) (d : Typings) → Decides e d →
      DecidesLines (LastLine K at e) (last_line K at d)
  last_line_decided at e d i = record { each = record { sound = to; tells = from } }
    where
      k : DecidesLines (LineThen (Evaluations K at e) (NoLines K)) (line_then (evaluations K at d) (no_lines K))
      k = line_then_decided (Evaluations K at e) (NoLines K) (evaluations K at d) (no_lines K)
          (evaluations_decided at e d i) no_lines_decided

      to : (s : State) (w : Use) (r : Reading LineForms) → last_line K at d s w ≡ found r →
          LinesAs (LastLine K at e) s w r.value r.behind
      to s unused r f = k.each.sound s unused r f
      to s as_value r f = values_sound e d i s as_value r f
      to s (meeting t) r f = values_sound e d i s (meeting t) r f

      from : (s : State) (w : Use) (ls : LineForms) (b : State) → LinesAs (LastLine K at e) s w ls b →
          Is (last_line K at d s w) (reading ls b)
      from s unused ls b y = k.each.tells s unused ls b y
      from s as_value ls b y = values_tells e d i s as_value ls b y
      from s (meeting t) ls b y = values_tells e d i s (meeting t) ls b y

pub blocks_decided : (R : LinesRule) (d : Decision LineForms) → DecidesLines R d → Decides (Blocks R) (blocks d)
blocks_decided R d i =
    let j = i.each in
    record {
      sound = λ s w r f.
          let x = went_on (d (entering s) w) _ r f in
          let p = j.sound (entering s) w x.0 x.1.0 in
          gave (λ y b. Blocks R s w y b) (block_of x.0.value) (leaving s x.0.behind) r x.1.1
          (record {
            statements = x.0.value.statements;
            value = x.0.value.value;
            end = x.0.behind;
            are = p;
            whole = refl;
            left = refl;
          });
      tells = λ s w x b y.
          is_then (d (entering s) w) (reading (lines y.statements y.value) y.end) _ _
          (j.tells (entering s) w (lines y.statements y.value) y.end y.are) (rw (y.whole, y.left) is_found);
    }

pub no_else_decided : DecidesElse NoElse no_else
no_else_decided = record { otherwise = record { sound = to; tells = from } }
  where
    to : (s : State) (w : Use) (r : Reading ElseForm) → no_else s w ≡ found r → ElseAs NoElse s w r.value r.behind
    to s unused r f =
        gave (λ e b. ElseAs NoElse s unused e b) (else_form no_block [] (path true s.facts)) s r f
        (refl, refl, refl, refl)
    to s as_value r f = cc
    to s (meeting t) r f = cc

    from : (s : State) (w : Use) (e : ElseForm) (b : State) → ElseAs NoElse s w e b → Is (no_else s w) (reading e b)
    from s unused e b y = rw (y.0, y.1, y.2, y.3) is_found
    from s as_value e b y = absurd y
    from s (meeting t) e b y = absurd y

pub else_decided : (K : Context) (R : BlockRule) (d : Decision BlockForm) → Decides R d →
    DecidesElse (Else K R) (elses K d)
else_decided K R d i = record {
  otherwise = record {
    sound = λ s w r f.
        let x = went_on (d s w) _ r f in
        let p = i.sound s w x.0 x.1.0 in
        gave (λ e b. ElseAs (Else K R) s w e b) (else_of K x.0) x.0.behind r x.1.1
        (record { x = x.0.value; is = p; whole = refl; types = refl; ends = refl });
    tells = λ s w e b y.
        is_then (d s w) (reading y.x b) _ _ (i.tells s w y.x b y.is) (rw (y.whole, y.types, y.ends) is_found);
  };
}

pub ifs_decided : (K : Context) → ClassesEnd (hierarchy K) → (test : Rule) (branch : BlockRule)
    (otherwise : ElseRule) (c : Typings) (d : Decision BlockForm) (f : Decision ElseForm) → Decides test c →
    Decides branch d → DecidesElse otherwise f → Decides (Ifs K test branch otherwise) (ifs K c d f)
ifs_decided K ends test branch otherwise c d f it ib io =
    let i = typed_decided K ends test c it in
    let l = io.otherwise in
    record {
      sound = λ s w r g.
          let u = went_on (typed_by K c s (meeting boolean_type)) _ r g in
          let x =
          went_on (d (with_facts (after_test K true u.0.value u.0.behind) u.0.behind) w) _ r u.1.1
          in
          let y =
          went_on (f (with_facts (after_test K false u.0.value u.0.behind) x.0.behind) w) _ r x.1.1
          in
          let z =
          if_made (if_of u.0.value x.0.value y.0.value.shown)
          (branch_type K w (block_type x.0.value ∷ y.0.value.types))
          (with_facts
          (joined u.0.behind.facts (path_of K x.0.value x.0.behind ∷ y.0.value.way ∷ [])) y.0.behind) r y.1.1
          in
          record {
            u = u.0.value;
            x = x.0.value;
            y = y.0.value.shown;
            types = y.0.value.types;
            p = y.0.value.way;
            whole = z.0;
            tested = u.0.behind;
            between = x.0.behind;
            end = y.0.behind;
            condition = i.sound s (meeting boolean_type) u.0 u.1.0;
            first = ib.sound _ w x.0 x.1.0;
            second = l.sound _ w y.0 y.1.0;
            has = branch_found K ends w _ z.0 z.1.0;
            gives = z.1.1;
          };
      tells = λ s w us b y.
          is_then (typed_by K c s (meeting boolean_type)) (reading y.u y.tested) _ _
          (i.tells s (meeting boolean_type) y.u y.tested y.condition)
          (is_then (d (with_facts (after_test K true y.u y.tested) y.tested) w) (reading y.x y.between) _ _
          (ib.tells _ w y.x y.between y.first)
          (is_then (f (with_facts (after_test K false y.u y.tested) y.between) w)
          (reading (else_form y.y y.types y.p) y.end) _ _ (l.tells _ w (else_form y.y y.types y.p) y.end y.second)
          (is_made (if_of y.u y.x y.y) (branch_type K w (block_type y.x ∷ y.types)) y.whole
          (with_facts (joined y.tested.facts (path_of K y.x y.between ∷ y.p ∷ [])) y.end) us b
          (branch_is K ends w _ y.whole y.has) y.gives)));
    }
