-- A call of a constructor.
use Rattle.std.proofs.Common.{◌≡◌, ℕ, zero, suc, Bool, true, List, [], ◌∷◌, ◌++◌, length, drop, Option, Some, None, refl, sym, ap, subst, ◌∙◌}
use Rattle.std.specs.Prelude.{slice_get, map, reverse, option_map}
use Rattle.jvm_code_opcodes.specs.declared.opcodes.InvokeOp.TheVariants.{Invokespecial}
use Rattle.class_linked.specs.declared.kinds.Kind.{Kind}
use Rattle.class_linked.specs.declared.kinds.Kind.TheVariants.{Top}
use Rattle.class_linked.specs.declared.classes.Linked.{Linked}
use Rattle.class_linked.specs.declared.constants.MethodMention.{MethodMention}
use Rattle.class_linked.specs.declared.methods.LinkedMethod.{LinkedMethod}
use Rattle.class_verify_rules.specs.Kinds.{TopFits, fits, kind_of}
use Rattle.class_verify_frames.proofs.Pairs.{top_fits}
use Rattle.class_verify_rules.specs.Acts.{Call}
use Rattle.class_verify_rules.specs.Bodies.{Body, constant_at, list_of, meant, method_named, then_get}
use Rattle.class_verify_rules.specs.Frames.{Frame, arguments_taken, becomes, behind, built, initialized, method_meant, parameters_of, result_of, still_raw}
use Rattle.class_verify_rules.specs.Typing.{Builds, IsThere, IsCallable, MayCall}
use Rattle.class_verify_steps.specs.Stepping.{Allows, IsInitialized}
use Rattle.class_verify_steps.proofs.Taking.{split_fits, join_fits, drop_both, top_left}

there : {A : Type 0} (o : Option A) (a : A) (P : A → Type 0) → o ≡ Some a → P a → IsThere o P
there o a P e h = subst (λ x. IsThere x P) (sym e) h

is_there : {A : Type 0} (o : Option A) (a : A) (P : A → Type 0) → o ≡ Some a → IsThere o P → P a
is_there o a P e h = subst (λ x. IsThere x P) e h

first_left : (n : ℕ) (ks : List Kind) → slice_get ks n ≡ slice_get (drop n ks) 0
first_left zero ks = refl
first_left (suc n) [] = refl
first_left (suc n) (k ∷ ks) = first_left n ks

any_fits : (p : Linked) (k : Kind) → fits p k Top ≡ true
any_fits = top_fits

same_frames : (l l' s s' : List Kind) (r r' : Bool) → l ≡ l' → s ≡ s' → r ≡ r' → ◌≡◌ {A = Frame} (record { locals = l; stack = s; raw = r }) (record { locals = l'; stack = s'; raw = r' })
same_frames l l' s s' r r' a b c =
    ap (λ x. record { locals = x; stack = s; raw = r }) a ∙ ap (λ x. record { locals = l'; stack = x; raw = r }) b
    ∙ ap (λ x. record { locals = l'; stack = s'; raw = x }) c

module _ (b : Body) (at p : ℕ) (f : Frame) (m : MethodMention) (callee : LinkedMethod) (named : method_named (constant_at b p) ≡ Some m) (means : meant b.program m ≡ Some callee) where
  arguments_are : arguments_taken b (method_named (constant_at b p)) ≡ reverse (map kind_of callee.parameters)
  arguments_are = ap (λ o. reverse (parameters_of (method_meant b o))) named ∙ ap (λ o. reverse (parameters_of o)) means

  result_is : result_of (method_meant b (method_named (constant_at b p))) ≡ list_of (option_map kind_of callee.result)
  result_is = ap (λ o. result_of (method_meant b o)) named ∙ ap result_of means

  pub no_arguments : (TopFits b.program (reverse (map kind_of callee.parameters)) f.stack → ⊥) → Allows b at (Call Invokespecial p) f → ⊥
  no_arguments none h =
      none (subst (λ ws. TopFits b.program ws f.stack) arguments_are
      (split_fits b.program (arguments_taken b (method_named (constant_at b p))) (Top ∷ []) f.stack h.operands).0)

  pub no_object : (mid : List Kind) → mid ≡ drop (length (reverse (map kind_of callee.parameters))) f.stack → (IsThere (slice_get mid 0) (λ k. Builds b k m.owner) → ⊥) → Allows b at (Call Invokespecial p) f → ⊥
  no_object mid rest none h =
      let c = is_there (meant b.program m) callee _ means (is_there (method_named (constant_at b p)) m _ named h.also) in
      let d : IsThere (slice_get f.stack (length (reverse (map kind_of callee.parameters)))) (λ k. Builds b k m.owner) =
      subst (λ ws. IsThere (slice_get f.stack (length ws)) (λ k. Builds b k m.owner)) arguments_are c.3 in
      none (subst (λ o. IsThere o (λ k. Builds b k m.owner)) (first_left (length (reverse (map kind_of callee.parameters))) f.stack ∙ ap (λ ks. slice_get ks 0) (sym rest)) d)

  module _ (k : Kind) (low : List Kind) (taken : TopFits b.program (reverse (map kind_of callee.parameters)) f.stack) (left : drop (length (reverse (map kind_of callee.parameters))) f.stack ≡ k ∷ low) (init : IsInitialized callee m) (builds : Builds b k m.owner) where
    object_is : built b (Call Invokespecial p) f ≡ Some k
    object_is = ap (λ ws. slice_get f.stack (length ws)) arguments_are ∙ top_left (length (reverse (map kind_of callee.parameters))) f.stack low k left

    pub allowed : Allows b at (Call Invokespecial p) f
    allowed = record {
      operands =
          join_fits b.program (arguments_taken b (method_named (constant_at b p))) (Top ∷ []) f.stack
          (subst (λ ws. TopFits b.program ws f.stack) (sym arguments_are) taken)
          (subst (λ ws. TopFits b.program (Top ∷ []) (drop (length ws) f.stack)) (sym arguments_are) (subst (TopFits b.program (Top ∷ [])) (sym left) (any_fits b.program k, tt)));
      also =
          there (method_named (constant_at b p)) m _ named
          (there (meant b.program m) callee _ means (init.0, init.1, init.2, there (built b (Call Invokespecial p) f) k _ object_is builds));
    }

    stack_is : drop (length (arguments_taken b (method_named (constant_at b p)) ++ Top ∷ [])) f.stack ≡ low
    stack_is =
        drop_both (arguments_taken b (method_named (constant_at b p))) (Top ∷ []) f.stack
        ∙ ap (λ ws. drop 1 (drop (length ws) f.stack)) arguments_are ∙ ap (drop 1) left

    pub stepped : (locals stack : List Kind) (raw : Bool) → locals ≡ map (becomes b k) f.locals → stack ≡ list_of (option_map kind_of callee.result) ++ map (becomes b k) low → raw ≡ still_raw (Some k) f.raw → record { locals = locals; stack = stack; raw = raw } ≡ behind b at (Call Invokespecial p) f
    stepped locals stack raw l s r =
        same_frames locals (initialized b (built b (Call Invokespecial p) f) f.locals) stack (result_of (method_meant b (method_named (constant_at b p))) ++ initialized b (built b (Call Invokespecial p) f) (drop (length (arguments_taken b (method_named (constant_at b p)) ++ Top ∷ [])) f.stack)) raw (still_raw (built b (Call Invokespecial p) f) f.raw)
        (l ∙ ap (λ o. initialized b o f.locals) (sym object_is))
        (s ∙ ap (λ ks. ks ++ map (becomes b k) low) (sym result_is) ∙ ap (λ ks. result_of (method_meant b (method_named (constant_at b p))) ++ map (becomes b k) ks) (sym stack_is)
        ∙ ap (λ o. result_of (method_meant b (method_named (constant_at b p))) ++ initialized b o (drop (length (arguments_taken b (method_named (constant_at b p)) ++ Top ∷ [])) f.stack)) (sym object_is))
        (r ∙ ap (λ o. still_raw o f.raw) (sym object_is))
