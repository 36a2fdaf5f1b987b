-- The rule of transitivity, and the others, follow from those that climb from the lower type; and the laws.
use Rattle.std.proofs.Common.{ℕ, Bool, true, false, ◌≡◌, refl, Some, subst, sym}
use Rattle.std.specs.Prelude.{◌||◌, slice_get, IsTrue, ◌↔◌}
use Rattle.kt_types_tree.specs.declared.types.TypeConstructor.{TypeConstructor}
use Rattle.kt_types_tree.specs.declared.types.TypeConstructor.TheVariants.{Class}
use Rattle.kt_types_tree.specs.Types.{TypeForm, ShapeForm, TypeForms, typed, nothing, any, parameter, of, substituted_all}
use Rattle.kt_types_tree.specs.Hierarchy.{SuperForm, HierarchyForm, HasSuper}
use Rattle.kt_types_order.specs.Below.{IsBelow, CannotBeNull, same, through, nothing_below, null_below, nullable, both_nullable, below_any, below_any_nullable, declared, bounded}
use Rattle.kt_types_order.specs.Climbing.{Under, IsUnder, Allows, IsNoClass, u_nothing, u_same, u_any, u_any_nullable, u_declared, u_bounded}
use Rattle.kt_types_order.specs.Laws.{IsPreorder, NullStays, ArgumentsStay, AnyIsGreatest}

pub allows_same : (n : Bool) → Allows n n
allows_same true = tt
allows_same false = tt

pub allows_true : (n : Bool) → Allows n true
allows_true true = tt
allows_true false = tt

pub allows_false : (n : Bool) → Allows false n
allows_false true = tt
allows_false false = tt

pub allows_both : (n m k : Bool) → Allows n m → Allows m k → Allows n k
allows_both true true k p q = q
allows_both true false k p q = absurd p
allows_both false true true p q = tt
allows_both false true false p q = absurd q
allows_both false false k p q = q

pub allows_or : (n m k : Bool) → Allows n m → Allows (n || k) (m || k)
allows_or true true k p = allows_same true
allows_or true false k p = absurd p
allows_or false true k p = allows_true k
allows_or false false k p = allows_same k

pub allows_left : (n k m : Bool) → Allows (n || k) m → Allows n m
allows_left true k m p = p
allows_left false k m p = allows_false m

allows_only_true : (k : Bool) → Allows true k → k ≡ true
allows_only_true true p = refl
allows_only_true false p = absurd p

module _ (h : HierarchyForm) where
  -- null is never lost on the way up
  pub grows : (n : Bool) (s : ShapeForm) (m : Bool) (t : ShapeForm) → IsUnder h n s m t → Allows n m
  grows n _ m t (u_nothing p) = p
  grows n s m _ (u_same p) = p
  grows n s m _ (u_any p q) = p
  grows n s _ _ u_any_nullable = allows_true n
  grows n _ m t (u_declared {s = s} {all = all} p q) = grows n (of (Class s.class) (substituted_all all s.arguments)) m t q
  grows n _ m t (u_bounded {k = k} {s = s} p q) = allows_left n k m (grows (n || k) s m t q)

  -- without null it is below all that it is below with null
  pub weaker : (n l : Bool) (s : ShapeForm) (m : Bool) (t : ShapeForm) → Allows l n → IsUnder h n s m t → IsUnder h l s m t
  weaker n l _ m t a (u_nothing p) = u_nothing (allows_both l n m a p)
  weaker n l s m _ a (u_same p) = u_same (allows_both l n m a p)
  weaker n l s m _ a (u_any p q) = u_any (allows_both l n m a p) q
  weaker n l s _ _ a u_any_nullable = u_any_nullable
  weaker n l _ m t a (u_declared {s = s} {all = all} p q) = u_declared p (weaker n l (of (Class s.class) (substituted_all all s.arguments)) m t a q)
  weaker n l _ m t a (u_bounded {k = k} {s = s} p q) = u_bounded p (weaker (n || k) (l || k) s m t (allows_or l n k a) q)

  -- only Any is above Any
  pub above_any : (n m : Bool) (t : ShapeForm) → IsUnder h n any m t → t ≡ any
  above_any n m _ (u_same p) = refl
  above_any n m _ (u_any p q) = refl
  above_any n _ _ u_any_nullable = refl

  past_any : (n m k : Bool) (s t : ShapeForm) → Allows n m → CannotBeNull s → IsUnder h m any k t → IsUnder h n s k t
  past_any n m k s t p q r = subst (λ t. IsUnder h n s k t) (sym (above_any m k t r)) (u_any (allows_both n m k p (grows m any k t r)) q)

  past_any_nullable : (n k : Bool) (s t : ShapeForm) → IsUnder h true any k t → IsUnder h n s k t
  past_any_nullable n k s t r =
      let e = allows_only_true k (grows true any k t r) in
      let f = above_any true k t r in
      rw (e, f) u_any_nullable

  transitive : (n : Bool) (s : ShapeForm) (m : Bool) (t : ShapeForm) (k : Bool) (w : ShapeForm) → IsUnder h n s m t → IsUnder h m t k w → IsUnder h n s k w
  transitive n _ m t k w (u_nothing p) r = u_nothing (allows_both n m k p (grows m t k w r))
  transitive n s m _ k w (u_same p) r = weaker m n s k w p r
  transitive n s m _ k w (u_any p q) r = past_any n m k s w p q r
  transitive n s _ _ k w u_any_nullable r = past_any_nullable n k s w r
  transitive n _ m t k w (u_declared {s = s} {all = all} p q) r = u_declared p (transitive n (of (Class s.class) (substituted_all all s.arguments)) m t k w q r)
  transitive n _ m t k w (u_bounded {k = l} {s = s} p q) r = u_bounded p (transitive (n || l) s m t k w q r)

  -- with null on both sides
  both : (n : Bool) (s : ShapeForm) (m : Bool) (t : ShapeForm) → IsUnder h n s m t → IsUnder h true s true t
  both n _ m t (u_nothing p) = u_nothing tt
  both n s m _ (u_same p) = u_same tt
  both n s m _ (u_any p q) = u_any_nullable
  both n s _ _ u_any_nullable = u_any_nullable
  both n _ m t (u_declared {s = s} {all = all} p q) = u_declared p (both n (of (Class s.class) (substituted_all all s.arguments)) m t q)
  both n _ m t (u_bounded {k = k} {s = s} p q) = u_bounded p (both (n || k) s m t q)

  reflexive : (a : TypeForm) → Under h a a
  reflexive (typed n s) = u_same (allows_same n)

  two : (a b c : TypeForm) → Under h a b → Under h b c → Under h a c
  two (typed n s) (typed m t) (typed k w) p q = transitive n s m t k w p q

  -- what the rules allow is found by climbing
  pub climbs : (a b : TypeForm) → IsBelow h a b → Under h a b
  climbs a _ same = reflexive a
  climbs a c (through {b = b} p q) = two a b c (climbs a b p) (climbs b c q)
  climbs _ (typed m t) nothing_below = u_nothing (allows_false m)
  climbs _ _ null_below = u_nothing tt
  climbs _ _ nullable = u_same tt
  climbs _ _ (both_nullable {n = n} {m = m} {s = s} {t = t} p) = both n s m t (climbs (typed n s) (typed m t) p)
  climbs _ _ (below_any p) = u_any tt p
  climbs (typed n s) _ below_any_nullable = u_any_nullable
  climbs _ _ (declared p) = u_declared p (u_same tt)
  climbs _ (typed m t) (bounded p) = u_bounded p (u_same (allows_same m))

  wider : (n m : Bool) (s : ShapeForm) → Allows n m → IsBelow h (typed n s) (typed m s)
  wider true true s p = same
  wider true false s p = absurd p
  wider false true s p = nullable
  wider false false s p = same

  above_nothing : (n m : Bool) (t : ShapeForm) → Allows n m → IsBelow h (typed n nothing) (typed m t)
  above_nothing true true t p = null_below
  above_nothing true false t p = absurd p
  above_nothing false m t p = nothing_below

  to_any : (n m : Bool) (s : ShapeForm) → Allows n m → CannotBeNull s → IsBelow h (typed n s) (typed m any)
  to_any n true s p q = below_any_nullable
  to_any true false s p q = absurd p
  to_any false false s p q = below_any q

  to_super : (n : Bool) (c : ℕ) (all : TypeForms) (s : SuperForm) → HasSuper h c s → IsBelow h (typed n (of (Class c) all)) (typed n (of (Class s.class) (substituted_all all s.arguments)))
  to_super true c all s p = both_nullable (declared p)
  to_super false c all s p = declared p

  to_bound : (n k : Bool) (row place : ℕ) (s : ShapeForm) → slice_get h.bounds row ≡ Some (typed k s) → IsBelow h (typed n (parameter row place)) (typed (n || k) s)
  to_bound true k row place s p = both_nullable (bounded p)
  to_bound false k row place s p = bounded p

  -- what is found by climbing the rules allow
  allowed : (n : Bool) (s : ShapeForm) (m : Bool) (t : ShapeForm) → IsUnder h n s m t → IsBelow h (typed n s) (typed m t)
  allowed n _ m t (u_nothing p) = above_nothing n m t p
  allowed n s m _ (u_same p) = wider n m s p
  allowed n s m _ (u_any p q) = to_any n m s p q
  allowed n s _ _ u_any_nullable = below_any_nullable
  allowed n _ m t (u_declared {c = c} {s = s} {all = all} p q) = through (to_super n c all s p) (allowed n (of (Class s.class) (substituted_all all s.arguments)) m t q)
  allowed n _ m t (u_bounded {k = k} {row = row} {place = place} {s = s} p q) = through (to_bound n k row place s p) (allowed (n || k) s m t q)

  pub only_climbs : (a b : TypeForm) → Under h a b → IsBelow h a b
  only_climbs (typed n s) (typed m t) p = allowed n s m t p

  invariant : (n m : Bool) (c d : TypeConstructor) (ts us : TypeForms) → IsNoClass c → IsUnder h n (of c ts) m (of d us) → (c ≡ d) × (ts ≡ us)
  invariant n m c _ ts _ f (u_same p) = (refl, refl)
  invariant n m _ d _ us f (u_declared {c = c} p q) = absurd (f c refl)

-- a test of climbing is one of the rules
pub by_rules : (h : HierarchyForm) (r : Bool) (a b : TypeForm) → IsTrue r ↔ Under h a b → IsTrue r ↔ IsBelow h a b
by_rules h r a b f = ((λ t. only_climbs h a b (f.0 t)), (λ p. f.1 (climbs h a b p)))

pub preorder : IsPreorder
preorder h = ((λ a. same), (λ a b c p q. through p q))

pub null_stays : NullStays
null_stays h s t p = grows h true s false t (climbs h (typed true s) (typed false t) p)

pub arguments_stay : ArgumentsStay
arguments_stay h n m c d ts us f p = invariant h n m c d ts us f (climbs h (typed n (of c ts)) (typed m (of d us)) p)

pub any_is_greatest : AnyIsGreatest
any_is_greatest h n m t p = above_any h n m t (climbs h (typed n any) (typed m t) p)
