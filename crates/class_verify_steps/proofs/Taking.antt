-- Operands that are taken one part after the other.
use Rattle.std.proofs.Common.{◌≡◌, ℕ, zero, suc, List, [], ◌∷◌, ◌++◌, length, drop, Some, refl, sym, ap, ◌∙◌}
use Rattle.std.specs.Prelude.{slice_get}
use Rattle.class_linked.specs.declared.kinds.Kind.{Kind}
use Rattle.class_linked.specs.declared.classes.Linked.{Linked}
use Rattle.class_verify_rules.specs.Kinds.{TopFits}

pub split_fits : (p : Linked) (ws vs old : List Kind) → TopFits p (ws ++ vs) old → TopFits p ws old × TopFits p vs (drop (length ws) old)
split_fits p [] vs old h = (tt, h)
split_fits p (w ∷ ws) vs (k ∷ old) h = let r = split_fits p ws vs old h.1 in ((h.0, r.0), r.1)
split_fits p (w ∷ ws) vs [] h = absurd h

pub join_fits : (p : Linked) (ws vs old : List Kind) → TopFits p ws old → TopFits p vs (drop (length ws) old) → TopFits p (ws ++ vs) old
join_fits p [] vs old a b = b
join_fits p (w ∷ ws) vs (k ∷ old) a b = (a.0, join_fits p ws vs old a.1 b)
join_fits p (w ∷ ws) vs [] a b = absurd a

none_left : {A : Type 0} (n : ℕ) → ◌≡◌ {A = List A} (drop n []) []
none_left zero = refl
none_left (suc n) = refl

pub drop_both : (ws vs old : List Kind) → drop (length (ws ++ vs)) old ≡ drop (length vs) (drop (length ws) old)
drop_both [] vs old = refl
drop_both (w ∷ ws) vs (k ∷ old) = drop_both ws vs old
drop_both (w ∷ ws) vs [] = sym (none_left (length vs))

pub top_left : (n : ℕ) (old low : List Kind) (k : Kind) → drop n old ≡ k ∷ low → slice_get old n ≡ Some k
top_left zero [] low k e = absurd cc
top_left zero (x ∷ old) low k e = let same : x ≡ k = cc in ap Some same
top_left (suc n) [] low k e = absurd cc
top_left (suc n) (x ∷ old) low k e = top_left n old low k e
