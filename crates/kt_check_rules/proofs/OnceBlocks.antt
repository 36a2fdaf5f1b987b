-- Blocks and branches have at most one typing where their parts have.
use Rattle.std.proofs.Common.{List, [], ◌∷◌, Option, ◌≡◌, refl, ap, ◌∙◌, sym, subst, Bool}
use Rattle.kt_base.specs.declared.refusals.Pos.{Pos}
use Rattle.kt_types_tree.specs.Types.{TypeForm}
use Rattle.kt_flow.specs.Facts.{FactsForm}
use Rattle.kt_typed.specs.Bodies.{ExpressionForm, MaybeExpression, EntryForm, EntryForms, ConditionForm, MaybeBlock, StatementForm, evaluate, some_expression}
use Rattle.kt_check_rules.specs.Choices.{pairs}
use Rattle.kt_check_rules.specs.States.{Context, State, Path, hierarchy}
use Rattle.kt_check_rules.specs.Typings.{Rule, StatementRule, BlockRule, Use, unused, as_value, meeting}
use Rattle.kt_check_rules.specs.Operators.{AreComparable}
use Rattle.kt_check_rules.specs.Conditionals.{LinesRule, NoLines, LineThen, Evaluations, Values, LastLine, Blocks, HasBranchType, ElseRule, NoElse, Else, Ifs, ConditionRule, Equals, Holds, Conditions, TypeConditions, ConditionsRule, NoConditions, ConditionThen, EntriesRule, NoEntries, EntryThen, WhenRest, Whens, WhensWithout, shown_subject, no_subject}
use Rattle.kt_check_rules.proofs.Once.{OnceFor, OnceAt, once, once_at, first_once_of, same_some, gives_one, typed_once}
use Rattle.kt_check_rules.proofs.OnceOperators.{type_once}

-- what lines of a block are
pub record OnceLines (e : LinesRule) : Type 0 where
  pub all :
      (s t : State) (w x : Use) (us vs : List StatementForm) (m n : MaybeExpression) (a b : State) →
      s ≡ t → w ≡ x → e s w us m a → e t x vs n b → (us ≡ vs) × (m ≡ n) × (a ≡ b)

pub once_lines :
    {e : LinesRule} {s t : State} {w x : Use} {us vs : List StatementForm} {m n : MaybeExpression} {a b : State} →
    OnceLines e → s ≡ t → w ≡ x → e s w us m a → e t x vs n b → (us ≡ vs) × (m ≡ n) × (a ≡ b)
once_lines i p q y z = i.all _ _ _ _ _ _ _ _ _ _ p q y z

pub no_lines_once : (K : Context) → OnceLines (NoLines K)
no_lines_once K = record {
  all = λ s t w x us vs m n a b p q y z.
      (y.none ∙ sym z.none, y.no_value ∙ sym z.no_value, y.same ∙ p ∙ sym z.same);
}

pub line_then_once : (one : StatementRule) (others : LinesRule) → OnceAt one → OnceLines others →
    OnceLines (LineThen one others)
line_then_once one others i j = record {
  all = λ s t w x us vs m n a b p q y z.
      let f = once_at i p y.first z.first in
      let g = once_lines j f.1 q y.rest z.rest in
      (y.whole ∙ rw (f.0, g.0) refl ∙ sym z.whole, g.1, g.2);
}

pub evaluations_once : (K : Context) (at : Pos) (e : Rule) → OnceFor e → OnceAt (Evaluations K at e)
evaluations_once K at e i = record {
  all = λ s t u v a b p y z.
      let r = once (typed_once K e i) p refl y.typed z.typed in
      (y.whole ∙ ap (evaluate at) r.0 ∙ sym z.whole, r.1);
}

values_once : (K : Context) (e : Rule) → OnceFor e → OnceLines (Values K e)
values_once K e i = record {
  all = λ s t w x us vs m n a b p q y z.
      let r = once (typed_once K e i) p q y.typed z.typed in
      (y.none ∙ sym z.none, y.is_value ∙ ap some_expression r.0 ∙ sym z.is_value, r.1);
}

last_line : (K : Context) (at : Pos) (e : Rule) → OnceFor e → (s t : State) (w : Use) (us vs : List StatementForm)
    (m n : MaybeExpression) (a b : State) → s ≡ t → LastLine K at e s w us m a → LastLine K at e t w vs n b →
    (us ≡ vs) × (m ≡ n) × (a ≡ b)
last_line K at e i s t unused us vs m n a b p y z =
    once_lines (line_then_once (Evaluations K at e) (NoLines K) (evaluations_once K at e i) (no_lines_once K))
    p refl y z
last_line K at e i s t as_value us vs m n a b p y z = once_lines (values_once K e i) p refl y z
last_line K at e i s t (meeting u) us vs m n a b p y z = once_lines (values_once K e i) p refl y z

pub last_line_once : (K : Context) (at : Pos) (e : Rule) → OnceFor e → OnceLines (LastLine K at e)
last_line_once K at e i = record {
  all = λ s t w x us vs m n a b p q y z.
      last_line K at e i s t w us vs m n a b p y (subst (λ w. LastLine K at e t w vs n b) (sym q) z);
}

pub blocks_once : (lines : LinesRule) → OnceLines lines → OnceFor (Blocks lines)
blocks_once lines i = record {
  all = λ s t w x u v a b p q y z.
      let r = once_lines i (rw p refl) q y.are z.are in
      (y.whole ∙ rw (r.0, r.1) refl ∙ sym z.whole, y.left ∙ rw (p, r.2) refl ∙ sym z.left);
}

branch_type : (K : Context) (w : Use) (ts : List TypeForm) (u v : TypeForm) → HasBranchType K w ts u →
    HasBranchType K w ts v → u ≡ v
branch_type K unused ts u v y z = y ∙ sym z
branch_type K as_value ts u v y z = type_once K as_value as_value ts ts u v refl refl y z
branch_type K (meeting t) ts u v y z = y ∙ sym z

branch_type_of : (K : Context) (w x : Use) (ts us : List TypeForm) (u v : TypeForm) → w ≡ x → ts ≡ us →
    HasBranchType K w ts u → HasBranchType K x us v → u ≡ v
branch_type_of K w x ts us u v e f y z =
    branch_type K w ts u v y
    (subst (λ w. HasBranchType K w ts v) (sym e) (subst (λ ts. HasBranchType K x ts v) (sym f) z))

-- `if`

pub record OnceElse (e : ElseRule) : Type 0 where
  pub all :
      (s t : State) (w x : Use) (u v : MaybeBlock) (ts us : List TypeForm) (k l : Path) (a b : State) →
      s ≡ t → w ≡ x → e s w u ts k a → e t x v us l b → (u ≡ v) × (ts ≡ us) × (k ≡ l) × (a ≡ b)

once_else :
    {e : ElseRule} {s t : State} {w x : Use} {u v : MaybeBlock} {ts us : List TypeForm} {k l : Path} {a b : State} →
    OnceElse e → s ≡ t → w ≡ x → e s w u ts k a → e t x v us l b → (u ≡ v) × (ts ≡ us) × (k ≡ l) × (a ≡ b)
once_else i p q y z = i.all _ _ _ _ _ _ _ _ _ _ _ _ p q y z

no_else : (s t : State) (w : Use) (u v : MaybeBlock) (ts us : List TypeForm) (k l : Path) (a b : State) → s ≡ t →
    NoElse s w u ts k a → NoElse t w v us l b → (u ≡ v) × (ts ≡ us) × (k ≡ l) × (a ≡ b)
no_else s t unused u v ts us k l a b p y z =
    (y.0 ∙ sym z.0, y.1 ∙ sym z.1, y.2 ∙ rw p refl ∙ sym z.2, y.3 ∙ p ∙ sym z.3)
no_else s t as_value u v ts us k l a b p y z = absurd y
no_else s t (meeting r) u v ts us k l a b p y z = absurd y

pub no_else_once : OnceElse NoElse
no_else_once = record {
  all = λ s t w x u v ts us k l a b p q y z.
      no_else s t w u v ts us k l a b p y (subst (λ w. NoElse t w v us l b) (sym q) z);
}

pub else_once : (K : Context) (body : BlockRule) → OnceFor body → OnceElse (Else K body)
else_once K body i = record {
  all = λ s t w x u v ts us k l a b p q y z.
      let r = once i p q y.is z.is in (
        y.whole ∙ rw r.0 refl ∙ sym z.whole,
        y.types ∙ rw r.0 refl ∙ sym z.types,
        y.ends ∙ rw (r.0, r.1) refl ∙ sym z.ends,
        r.1,
      );
}

pub ifs_once : (K : Context) (test : Rule) (branch : BlockRule) (otherwise : ElseRule) → OnceFor test →
    OnceFor branch → OnceElse otherwise → OnceFor (Ifs K test branch otherwise)
ifs_once K test branch otherwise i j k = record {
  all = λ s t w x us vs a b p q y z.
      let c = once (typed_once K test i) p refl y.condition z.condition in
      let f = once j (rw (c.0, c.1) refl) q y.first z.first in
      let g = once_else k (rw (c.0, c.1, f.1) refl) q y.second z.second in
      let h = branch_type_of K w x _ _ y.whole z.whole q (rw (f.0, g.1) refl) y.has z.has in
      gives_one _ _ _ _ us vs a b (rw (c.0, f.0, g.0, h) refl) (rw (c.1, f.0, f.1, g.2, g.3) refl) y.gives z.gives;
}

-- `when`

pub record OnceCondition (e : ConditionRule) : Type 0 where
  pub all :
      (l m : List ExpressionForm) (s t : State) (u v : ConditionForm) (f g : ExpressionForm) (a b : State) →
      l ≡ m → s ≡ t → e l s u f a → e m t v g b → (u ≡ v) × (f ≡ g) × (a ≡ b)

conditions_of_no_subject : (K : Context) (e : Rule) → OnceFor e → (s t : State) (u v : ConditionForm)
    (f g : ExpressionForm) (a b : State) → s ≡ t → Holds K e s u f a → Holds K e t v g b → (u ≡ v) × (f ≡ g) × (a ≡ b)
conditions_of_no_subject K e i s t u v f g a b p y z =
    let r = once (typed_once K e i) p refl y.typed z.typed in
    (y.whole ∙ rw r.0 refl ∙ sym z.whole, y.question ∙ r.0 ∙ sym z.question, r.1)

conditions_of_subject : (K : Context) (e : Rule) → OnceFor e → (l : List ExpressionForm) (s t : State)
    (u v : ConditionForm) (f g : ExpressionForm) (a b : State) → s ≡ t → Equals K e l s u f a →
    Equals K e l t v g b → (u ≡ v) × (f ≡ g) × (a ≡ b)
conditions_of_subject K e i l s t u v f g a b p y z =
    let r = once i p refl y.reads z.reads in
    let h = first_once_of (AreComparable (hierarchy K)) _ _ y.chosen z.chosen (ap (pairs l) r.0) y.first z.first in
    (y.whole ∙ rw h refl ∙ sym z.whole, y.question ∙ rw h refl ∙ sym z.question, r.1)

conditions_homogeneous : (K : Context) (e : Rule) → OnceFor e → (l : List ExpressionForm) (s t : State)
    (u v : ConditionForm) (f g : ExpressionForm) (a b : State) → s ≡ t → Conditions K e l s u f a →
    Conditions K e l t v g b → (u ≡ v) × (f ≡ g) × (a ≡ b)
conditions_homogeneous K e i [] s t u v f g a b p y z = conditions_of_no_subject K e i s t u v f g a b p y z
conditions_homogeneous K e i (x ∷ l) s t u v f g a b p y z = conditions_of_subject K e i (x ∷ l) s t u v f g a b p y z

pub conditions_once : (K : Context) (e : Rule) → OnceFor e → OnceCondition (Conditions K e)
conditions_once K e i = record {
  all = λ l m s t u v f g a b o p y z.
      conditions_homogeneous K e i l s t u v f g a b p y (subst (λ l. Conditions K e l t v g b) (sym o) z);
}

type_conditions : (K : Context) (n : Bool) (m : Option TypeForm) (l : List ExpressionForm) (s t : State)
    (u v : ConditionForm) (f g : ExpressionForm) (a b : State) → s ≡ t → TypeConditions K n m l s u f a →
    TypeConditions K n m l t v g b → (u ≡ v) × (f ≡ g) × (a ≡ b)
type_conditions K n m [] s t u v f g a b p y z = absurd y
type_conditions K n m (x ∷ l) s t u v f g a b p y z =
    let h = same_some m m y.tested z.tested refl y.means z.means in
    (y.whole ∙ rw h refl ∙ sym z.whole, y.question ∙ rw h refl ∙ sym z.question, y.same ∙ p ∙ sym z.same)

pub type_conditions_once : (K : Context) (n : Bool) (m : Option TypeForm) → OnceCondition (TypeConditions K n m)
type_conditions_once K n r = record {
  all = λ l m s t u v f g a b o p y z.
      type_conditions K n r l s t u v f g a b p y (subst (λ l. TypeConditions K n r l t v g b) (sym o) z);
}

pub record OnceConditions (e : ConditionsRule) : Type 0 where
  pub all :
      (l m : List ExpressionForm) (s t : State) (u v : List ConditionForm) (f g : List FactsForm) (a b : State) →
      l ≡ m → s ≡ t → e l s u f a → e m t v g b → (u ≡ v) × (f ≡ g) × (a ≡ b)

pub no_conditions_once : OnceConditions NoConditions
no_conditions_once = record {
  all = λ l m s t u v f g a b o p y z. (y.0 ∙ sym z.0, y.1 ∙ sym z.1, y.2 ∙ p ∙ sym z.2);
}

pub condition_then_once : (K : Context) (one : ConditionRule) (others : ConditionsRule) → OnceCondition one →
    OnceConditions others → OnceConditions (ConditionThen K one others)
condition_then_once K one others i j = record {
  all = λ l m s t u v f g a b o p y z.
      let c = i.all l m s t _ _ _ _ _ _ o p y.first z.first in
      let r = j.all l m _ _ _ _ _ _ a b o (rw (c.1, c.2) refl) y.rest z.rest in
      (y.whole ∙ rw (c.0, r.0) refl ∙ sym z.whole, y.holds ∙ rw (c.1, c.2, r.1) refl ∙ sym z.holds, r.2);
}

pub record OnceEntries (e : EntriesRule) : Type 0 where
  pub all :
      (l m : List ExpressionForm) (s t : State) (w x : Use) (u v : List EntryForm) (ts us : List TypeForm)
      (f g : List Path) (a b : State) →
      l ≡ m → s ≡ t → w ≡ x → e l s w u ts f a → e m t x v us g b → (u ≡ v) × (ts ≡ us) × (f ≡ g) × (a ≡ b)

pub no_entries_once : OnceEntries NoEntries
no_entries_once = record {
  all = λ l m s t w x u v ts us f g a b o p q y z.
      (y.0 ∙ sym z.0, y.1 ∙ sym z.1, y.2 ∙ sym z.2, y.3 ∙ p ∙ sym z.3);
}

pub entry_then_once : (K : Context) (conditions : ConditionsRule) (body : BlockRule) (others : EntriesRule) →
    OnceConditions conditions → OnceFor body → OnceEntries others → OnceEntries (EntryThen K conditions body others)
entry_then_once K conditions body others i j k = record {
  all = λ l m s t w x u v ts us f g a b o p q y z.
      let c = i.all l m s t _ _ _ _ _ _ o p y.asked z.asked in
      let d = once j (rw (c.1, c.2) refl) q y.done z.done in
      let r = k.all l m _ _ w x _ _ _ _ _ _ a b o (rw (c.2, d.1) refl) q y.rest z.rest in (
        y.whole ∙ rw (c.0, d.0, r.0) refl ∙ sym z.whole,
        y.types ∙ rw (d.0, r.1) refl ∙ sym z.types,
        y.ways ∙ rw (d.0, d.1, r.2) refl ∙ sym z.ways,
        r.3,
      );
}

when_rest : (K : Context) (entries : EntriesRule) → OnceEntries entries → (l m : List ExpressionForm)
    (f g : EntryForms → MaybeExpression) (s t : State) (w x : Use) (us vs : List ExpressionForm) (a b : State) →
    l ≡ m → f ≡ g → s ≡ t → w ≡ x → WhenRest K entries l f s w us a → WhenRest K entries m g t x vs b → (us ≡ vs)
    × (a ≡ b)
when_rest K entries i l m f g s t w x us vs a b o h p q y z =
    let r = i.all l m s t w x _ _ _ _ _ _ _ _ o p q y.are z.are in
    let d = branch_type_of K w x _ _ y.whole z.whole q r.1 y.has z.has in
    gives_one _ _ _ _ us vs a b (rw (r.0, h, d) refl) (rw (p, r.0, r.2, r.3, h) refl) y.gives z.gives

pub whens_without_once : (K : Context) (entries : EntriesRule) → OnceEntries entries → OnceFor (WhensWithout K entries)
whens_without_once K entries i = record {
  all = λ s t w x us vs a b p q y z.
      when_rest K entries i [] [] no_subject no_subject s t w x us vs a b refl refl p q y z;
}

pub whens_once : (K : Context) (e : Rule) (entries : EntriesRule) → OnceFor e → OnceEntries entries →
    OnceFor (Whens K e entries)
whens_once K e entries i j = record {
  all = λ s t w x us vs a b p q y z.
      let r = once i p refl y.evaluated z.evaluated in
      when_rest K entries j _ _ _ _ _ _ w x us vs a b r.0 (ap (shown_subject K) r.0) r.1 q y.rest z.rest;
}
