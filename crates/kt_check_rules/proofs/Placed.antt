-- A file is refused at one place at most, and not where it has a typed unit.
use Rattle.std.proofs.Common.{ℕ, zero, suc, ◌+◌, ◌-◌, ◌<◌, arith, List, [], ◌∷◌, Some, ◌≡◌, refl, ap, ◌∙◌, sym, length, take, Bool, inl, inr, ◌⊎◌}
use Rattle.std.specs.Prelude.{slice_get}
use Rattle.std.proofs.lemmas.Bool.{cases_order}
use Rattle.kt_base.specs.declared.refusals.Pos.{Pos}
use Rattle.kt_typed.specs.Bodies.{StatementForm, FunForm}
use Rattle.kt_check_rules.specs.States.{Context, State}
use Rattle.kt_check_rules.specs.Bodies.{Direct, AreDirects, Body, IsBody, AreBodies, place_of}
use Rattle.kt_check_rules.specs.Units.{bodies}
use Rattle.kt_check_rules.specs.Place.{directs, with_directs, FailsAt, HasNoTyping, at_statement, without_main}
use Rattle.kt_check_rules.specs.Laws.{OnePlace, NotBoth, CutsHaveTyping}

-- what has a typing has one when it is cut

pub directs_cut : (K : Context) (ds : List Direct) (n : ℕ) (s : State) (o : Bool) (us : List StatementForm) (a : State)
    → AreDirects K ds s o us a → (vs : List StatementForm) × (b : State) × AreDirects K (take n ds) s o vs b
directs_cut K ds zero s o us a y = ([], s, (refl, refl))
directs_cut K [] (suc n) s o us a y = ([], s, (refl, refl))
directs_cut K (d ∷ ds) (suc n) s o us a y =
    let r = directs_cut K ds n y.between y.goes_on y.more a y.rest in (
      y.y ∷ r.0,
      r.1,
      record {
        y = y.y;
        more = r.0;
        between = y.between;
        goes_on = y.goes_on;
        first = y.first;
        rest = r.2;
        whole = refl;
      },
    )

body_cut : (b : Body) (n : ℕ) (f : FunForm) → IsBody b f → (g : FunForm) × IsBody (with_directs b (take n b.directs)) g
body_cut b n f y =
    let r = directs_cut b.context b.directs n _ _ _ _ y.are in
    (_, record { statements = r.0; end = r.1; are = r.2; whole = refl })

pub cuts_have_typing : CutsHaveTyping
cuts_have_typing n [] fs y = ([], refl)
cuts_have_typing n (b ∷ bs) fs (f, more, (y, (ys, e))) =
    let c = body_cut b n f y in
    let r = cuts_have_typing (n - length b.directs) bs more ys in
    (c.0 ∷ r.0, (c.0, r.0, (c.1, (r.1, refl))))

-- one place

pub first_place : (Fails : List Body → Type 0) (bs : List Body) (p q : Pos) → FailsAt Fails bs p →
    FailsAt Fails bs q → p ≡ q
first_place Fails bs p q y z = place_in_order (cases_order y.n z.n)
  where
    place_in_order : (y.n ≡ z.n) ⊎ (y.n < z.n) ⊎ (z.n < y.n) → p ≡ q
    place_in_order (inl same) =
        let e : Some y.d ≡ Some z.d = sym y.first.stands ∙ ap (slice_get (directs bs)) same ∙ z.first.stands in
        let d : y.d ≡ z.d = cc in
        sym y.place ∙ ap place_of d ∙ z.place
    place_in_order (inr (inl less)) = absurd (z.first.before (y.n + 1) (omega arith) y.first.fails)
    place_in_order (inr (inr more)) = absurd (y.first.before (z.n + 1) (omega arith) z.first.fails)

typed_is_fine : (bs : List Body) (fs : List FunForm) (p : Pos) → AreBodies bs fs → FailsAt HasNoTyping bs p → ⊥
typed_is_fine bs fs p y z =
    let c = cuts_have_typing (z.n + 1) bs fs y in
    z.first.fails c.0 c.1

pub one_place : OnePlace
one_place f p q (at_statement y) (at_statement z) = first_place HasNoTyping (bodies f) p q y z
one_place f p q (at_statement y) (without_main fs z m e) = absurd (typed_is_fine (bodies f) fs p z y)
one_place f p q (without_main fs y m e) (at_statement z) = absurd (typed_is_fine (bodies f) fs q y z)
one_place f p q (without_main fs y m e) (without_main gs z l d) = e ∙ sym d

pub not_both : NotBoth
not_both f u p y m (at_statement z) = typed_is_fine (bodies f) u.functions p y.typed z
not_both f u p y m (without_main fs z l d) = cc
