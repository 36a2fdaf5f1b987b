-- Literals, names, operators and access have at most one typing where their parts have.
use Rattle.std.proofs.Common.{ℕ, List, Option, ◌≡◌, refl, ap, ◌∙◌, sym, subst, Bool, true, false}
use Rattle.kt_types_tree.specs.Types.{TypeForm}
use Rattle.kt_tree.specs.declared.bodies.BinaryOperator.{BinaryOperator}
use Rattle.kt_tree.specs.declared.bodies.BinaryOperator.TheVariants as o
use Rattle.kt_tree.specs.declared.bodies.PrefixOperator.{PrefixOperator}
use Rattle.kt_tree.specs.declared.bodies.PrefixOperator.TheVariants as before
use Rattle.kt_tree.specs.declared.bodies.Literal.{Literal}
use Rattle.kt_tree.specs.declared.bodies.TextPart.{TextPart}
use Rattle.kt_typed.specs.declared.operators.TypedOperator.{TypedOperator}
use Rattle.kt_typed.specs.declared.operators.TypedOperator.TheVariants as op
use Rattle.kt_typed.specs.Bodies.{PartForm, printed}
use Rattle.kt_check_rules.specs.States.{Context, State, hierarchy}
use Rattle.kt_check_rules.specs.Typings.{Rule, Use, unused, as_value, meeting}
use Rattle.kt_check_rules.specs.Literals.{Literals, Templates, TextParts, PrintedParts, can_print, literal_of}
use Rattle.kt_check_rules.specs.Names.{Names}
use Rattle.kt_check_rules.specs.Operators.{Operations, Equalities, Connectives, Elvises, Binaries, Negations, Nots, AreComparable, HasType, left_use, value_use}
use Rattle.kt_check_rules.specs.Access.{TypeTests, Casts, NotNulls, Elements, Members}
use Rattle.kt_check_rules.specs.Rules.{Prefixes, NoRule}
use Rattle.kt_check_rules.proofs.Once.{OnceFor, OnceAt, once, once_at, first_once_of, same_some, gives_one, gives_if, gives_some, typed_once, chosen_once}

pub literals_once : (l : Literal) → OnceFor (Literals l)
literals_once l = record {
  all = λ s t w x us vs a b p q y z. gives_if _ _ s t us vs a b (ap (λ w. literal_of w l) q) p y z;
}

pub no_rule_once : OnceFor NoRule
no_rule_once = record { all = λ s t w x us vs a b p q y z. absurd y }

pub text_once : (r : TextPart) → OnceAt (TextParts r)
text_once r = record { all = λ s t u v a b p y z. (y.0 ∙ sym z.0, y.1 ∙ p ∙ sym z.1) }

pub printed_once : (K : Context) (e : Rule) → OnceFor e → OnceAt (PrintedParts K e)
printed_once K e i = record {
  all = λ s t u v a b p y z.
      let r = once_at (chosen_once (can_print K) e i) p y.chosen z.chosen in
      (y.whole ∙ ap printed r.0 ∙ sym z.whole, r.1);
}

pub templates_once : (parts : State → List PartForm → State → Type 0) → OnceAt parts → OnceFor (Templates parts)
templates_once parts i = record {
  all = λ s t w x us vs a b p q y z.
      let r = once_at i p y.are z.are in
      gives_one _ _ _ _ us vs a b (rw r.0 refl) r.1 y.gives z.gives;
}

pub names_once : (K : Context) (n : List ℕ) → OnceFor (Names K n)
names_once K n = record {
  all = λ s t w x us vs a b p q y z. gives_some _ _ s t us vs a b (rw p refl) p y z;
}

-- operators

operations_once : (K : Context) (k : BinaryOperator) (a b : Rule) → OnceFor a → OnceFor b → OnceFor (Operations K k a b)
operations_once K k a b i j = record {
  all = λ s t w x us vs c d p q y z.
      let l = once i p refl y.left z.left in
      let r = once j l.1 refl y.right z.right in
      gives_if _ _ _ _ us vs c d (rw (l.0, r.0) refl) r.1 y.gives z.gives;
}

equalities_once : (K : Context) (k : TypedOperator) (a b : Rule) → OnceFor a → OnceFor b → OnceFor (Equalities K k a b)
equalities_once K k a b i j = record {
  all = λ s t w x us vs c d p q y z.
      let l = once i p refl y.left z.left in
      let r = once j l.1 refl y.right z.right in
      let f = first_once_of (AreComparable (hierarchy K)) _ _ y.chosen z.chosen (rw (l.0, r.0) refl) y.first z.first in
      gives_one _ _ _ _ us vs c d (rw f refl) r.1 y.gives z.gives;
}

connectives_once : (K : Context) (g : Bool) (k : TypedOperator) (a b : Rule) → OnceFor a → OnceFor b →
    OnceFor (Connectives K g k a b)
connectives_once K g k a b i j = record {
  all = λ s t w x us vs c d p q y z.
      let l = once (typed_once K a i) p refl y.left z.left in
      let r = once (typed_once K b j) (rw (l.0, l.1) refl) refl y.right z.right in
      gives_one _ _ _ _ us vs c d (rw (l.0, r.0) refl) (rw (l.0, l.1, r.1) refl) y.gives z.gives;
}

common_type : (K : Context) (w : Use) (ts : List TypeForm) (u v : TypeForm) → HasType K w ts u → HasType K w ts v →
    u ≡ v
common_type K (meeting t) ts u v y z = y ∙ sym z
common_type K as_value ts u v y z = first_once_of _ ts ts u v refl y z
common_type K unused ts u v y z = first_once_of _ ts ts u v refl y z

pub type_once : (K : Context) (w x : Use) (ts us : List TypeForm) (u v : TypeForm) → w ≡ x → ts ≡ us →
    HasType K w ts u → HasType K x us v → u ≡ v
type_once K w x ts us u v e f y z =
    common_type K w ts u v y (subst (λ w. HasType K w ts v) (sym e) (subst (λ ts. HasType K x ts v) (sym f) z))

elvises_once : (K : Context) (a b : Rule) → OnceFor a → OnceFor b → OnceFor (Elvises K a b)
elvises_once K a b i j = record {
  all = λ s t w x us vs c d p q y z.
      let l = once (typed_once K a i) p (ap left_use q) y.left z.left in
      let r = once (typed_once K b j) l.1 (ap value_use q) y.right z.right in
      let h = type_once K w x _ _ y.whole z.whole q (rw (l.0, r.0) refl) y.has z.has in
      gives_one _ _ _ _ us vs c d (rw (l.0, r.0, h) refl) (rw (l.1, r.1) refl) y.gives z.gives;
}

pub binaries_once : (K : Context) (k : BinaryOperator) (a b : Rule) → OnceFor a → OnceFor b → OnceFor (Binaries K k a b)
binaries_once K o.Disjunction a b i j = connectives_once K false op.Disjunction a b i j
binaries_once K o.Conjunction a b i j = connectives_once K true op.Conjunction a b i j
binaries_once K o.Equal a b i j = equalities_once K op.Equal a b i j
binaries_once K o.NotEqual a b i j = equalities_once K op.NotEqual a b i j
binaries_once K o.Elvis a b i j = elvises_once K a b i j
binaries_once K o.Less a b i j = operations_once K o.Less a b i j
binaries_once K o.Greater a b i j = operations_once K o.Greater a b i j
binaries_once K o.LessOrEqual a b i j = operations_once K o.LessOrEqual a b i j
binaries_once K o.GreaterOrEqual a b i j = operations_once K o.GreaterOrEqual a b i j
binaries_once K o.And a b i j = operations_once K o.And a b i j
binaries_once K o.Or a b i j = operations_once K o.Or a b i j
binaries_once K o.Xor a b i j = operations_once K o.Xor a b i j
binaries_once K o.Shl a b i j = operations_once K o.Shl a b i j
binaries_once K o.Shr a b i j = operations_once K o.Shr a b i j
binaries_once K o.Ushr a b i j = operations_once K o.Ushr a b i j
binaries_once K o.Plus a b i j = operations_once K o.Plus a b i j
binaries_once K o.Minus a b i j = operations_once K o.Minus a b i j
binaries_once K o.Times a b i j = operations_once K o.Times a b i j
binaries_once K o.Divide a b i j = operations_once K o.Divide a b i j
binaries_once K o.Remainder a b i j = operations_once K o.Remainder a b i j

negations_once : (e : Rule) (inner : Use → Use) → OnceFor e → OnceFor (λ s w. Negations e (inner w) s w)
negations_once e inner i = record {
  all = λ s t w x us vs a b p q y z.
      let r = once i p (ap inner q) y.operand z.operand in
      gives_if _ _ _ _ us vs a b (rw r.0 refl) r.1 y.gives z.gives;
}

nots_once : (K : Context) (e : Rule) → OnceFor e → OnceFor (Nots K e)
nots_once K e i = record {
  all = λ s t w x us vs a b p q y z.
      let r = once (typed_once K e i) p refl y.operand z.operand in
      gives_one _ _ _ _ us vs a b (rw r.0 refl) r.1 y.gives z.gives;
}

pub prefixes_once : (K : Context) (o : PrefixOperator) (e : Rule) (inner : Use → Use) → OnceFor e →
    OnceFor (Prefixes K o e inner)
prefixes_once K before.Negate e inner i = negations_once e inner i
prefixes_once K before.Not e inner i = nots_once K e i

-- access

pub tests_once : (K : Context) (e : Rule) (n : Bool) (m : Option TypeForm) → OnceFor e → OnceFor (TypeTests K e n m)
tests_once K e n m i = record {
  all = λ s t w x us vs a b p q y z.
      let r = once (typed_once K e i) p refl y.operand z.operand in
      let h = same_some m m y.tested z.tested refl y.means z.means in
      gives_one _ _ _ _ us vs a b (rw (r.0, h) refl) r.1 y.gives z.gives;
}

pub casts_once : (K : Context) (e : Rule) (n : Bool) (m : Option TypeForm) → OnceFor e → OnceFor (Casts K e n m)
casts_once K e n m i = record {
  all = λ s t w x us vs a b p q y z.
      let r = once (typed_once K e i) p refl y.operand z.operand in
      let h = same_some m m y.wanted z.wanted refl y.means z.means in
      gives_one _ _ _ _ us vs a b (rw (r.0, h) refl) r.1 y.gives z.gives;
}

pub not_nulls_once : (K : Context) (e : Rule) → OnceFor e → OnceFor (NotNulls K e)
not_nulls_once K e i = record {
  all = λ s t w x us vs a b p q y z.
      let r = once (typed_once K e i) p refl y.operand z.operand in
      gives_one _ _ _ _ us vs a b (rw r.0 refl) r.1 y.gives z.gives;
}

pub elements_once : (a i : Rule) → OnceFor a → OnceFor i → OnceFor (Elements a i)
elements_once a i j k = record {
  all = λ s t w x us vs c d p q y z.
      let l = once j p refl y.array z.array in
      let r = once k l.1 refl y.at z.at in
      gives_if _ _ _ _ us vs c d (rw (l.0, r.0) refl) r.1 y.gives z.gives;
}

pub members_once : (K : Context) (e : Rule) (n : Bool) (m : List ℕ) → OnceFor e → OnceFor (Members K e n m)
members_once K e n m i = record {
  all = λ s t w x us vs a b p q y z.
      let r = once i p refl y.of_what z.of_what in
      gives_if _ _ _ _ us vs a b (rw r.0 refl) r.1 y.gives z.gives;
}
