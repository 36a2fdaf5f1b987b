-- Calls have at most one typing where their parts have.
use Rattle.std.proofs.Common.{ℕ, List, [], ◌∷◌, Option, ◌≡◌, refl, ap, sym, subst, Bool}
use Rattle.kt_base.specs.declared.refusals.Pos.{Pos}
use Rattle.kt_tree.specs.Types.{TypeTree}
use Rattle.kt_typed.specs.Bodies.{ExpressionForm}
use Rattle.kt_check_rules.specs.States.{Context, State}
use Rattle.kt_check_rules.specs.Typings.{Rule}
use Rattle.kt_check_rules.specs.Literals.{can_print}
use Rattle.kt_check_rules.specs.Calls.{Wanted, of_type, printed, Callable, Argument, ArgumentsRule, NoArguments, MoreArguments, Calls, MethodCalls, callable_on}
use Rattle.kt_check_rules.proofs.Once.{OnceFor, OnceAt, once, once_at, same_some, gives_one, typed_once, chosen_once, none_once, then_once}

-- for what arguments have to be
pub record OnceEach (es : ArgumentsRule) : Type 0 where
  pub each : (ws : List Wanted) → OnceAt (es ws)

argument_once : (K : Context) (e : Rule) (w : Wanted) → OnceFor e → OnceAt (Argument K e w)
argument_once K e (of_type t) i = record { all = λ s r u v a b p y z. once (typed_once K e i) p refl y z }
argument_once K e printed i = chosen_once (can_print K) e i

no_arguments : (ws : List Wanted) → OnceAt (NoArguments ws)
no_arguments [] = none_once
no_arguments (w ∷ ws) = record { all = λ s t u v a b p y z. absurd y }

pub no_arguments_once : OnceEach NoArguments
no_arguments_once = record { each = no_arguments }

more_arguments : (K : Context) (e : Rule) (es : ArgumentsRule) (ws : List Wanted) → OnceFor e → OnceEach es →
    OnceAt (MoreArguments K e es ws)
more_arguments K e es [] i j = record { all = λ s t u v a b p y z. absurd y }
more_arguments K e es (w ∷ ws) i j = then_once (Argument K e w) (es ws) (argument_once K e w i) (j.each ws)

pub more_arguments_once : (K : Context) (e : Rule) (es : ArgumentsRule) → OnceFor e → OnceEach es →
    OnceEach (MoreArguments K e es)
more_arguments_once K e es i j = record { each = λ ws. more_arguments K e es ws i j }

arguments_of : (es : ArgumentsRule) (f g : Callable) (s t : State) (us vs : List ExpressionForm) (a b : State) →
    OnceEach es → f ≡ g → s ≡ t → es f.wanted s us a → es g.wanted t vs b → (us ≡ vs) × (a ≡ b)
arguments_of es f g s t us vs a b i e p y z =
    once_at (i.each f.wanted) p y (subst (λ g. es g.wanted t vs b) (sym e) z)

pub calls_once : (f : Option Callable) (es : ArgumentsRule) (at : Pos) → OnceEach es → OnceFor (Calls f es at)
calls_once f es at i = record {
  all = λ s t w x us vs a b p q y z.
      let h = same_some f f y.chosen z.chosen refl y.is z.is in
      let r = arguments_of es y.chosen z.chosen s t _ _ _ _ i h p y.are z.are in
      gives_one _ _ _ _ us vs a b (rw (h, r.0) refl) r.1 y.gives z.gives;
}

pub method_calls_once : (K : Context) (e : Rule) (n : Bool) (m : List ℕ) (ts : List TypeTree) (k : ℕ)
    (es : ArgumentsRule) (at : Pos) → OnceFor e → OnceEach es → OnceFor (MethodCalls K e n m ts k es at)
method_calls_once K e n m ts k es at i j = record {
  all = λ s t w x us vs a b p q y z.
      let l = once i p refl y.of_what z.of_what in
      let h = same_some _ _ y.chosen z.chosen (ap (callable_on K n m ts k) l.0) y.is z.is in
      let r = arguments_of es y.chosen z.chosen _ _ _ _ _ _ j h l.1 y.are z.are in
      gives_one _ _ _ _ us vs a b (rw (h, r.0) refl) (rw (l.1, r.1) refl) y.gives z.gives;
}
