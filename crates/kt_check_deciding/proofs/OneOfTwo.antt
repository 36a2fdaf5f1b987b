-- Each file has a typed unit or is refused.
use Rattle.std.proofs.Common.{List, [], ◌∷◌, ◌++◌, Bool, true, false, inl, inr, if◌then◌else◌}
use Rattle.std.specs.Prelude.{not, ◌||◌}
use Rattle.kt_base.specs.declared.refusals.Pos.{Pos}
use Rattle.kt_typed.specs.Bodies.{StatementForm, FunForm}
use Rattle.kt_typed.specs.Units.{UnitForm}
use Rattle.kt_check_rules.specs.Kinds.{is_unit}
use Rattle.kt_check_rules.specs.States.{Context, State}
use Rattle.kt_check_rules.specs.Typings.{meeting}
use Rattle.kt_check_rules.specs.Bodies.{Direct, statement, value, closing, place_of, Body, begun}
use Rattle.kt_check_rules.specs.Units.{File, bodies, has_main}
use Rattle.kt_check_rules.specs.Place.{at_start}
use Rattle.kt_check_deciding.specs.Outcomes.{Outcome}
use Rattle.kt_check_deciding.specs.Choosing.{typed_by}
use Rattle.kt_check_deciding.specs.Checked.{checked, checked_statement}
use Rattle.kt_check_deciding.specs.Files.{checked_direct, Verdict, fine, refused_at, or_refused, go_on, checked_directs, checked_whole, checked_bodies, unit_of, with_main, checked_file}
use Rattle.kt_check_deciding.specs.Laws.{IsSaid, IsTypedOrRefused, OneOfTwo}
use Rattle.kt_check_deciding.proofs.Files.{decided}
use Rattle.kt_check_deciding.proofs.Settled.{Settled, is_typed, is_none, then_settled, only_settled, typed_total, expression, statement as statement_total}

-- a result, or a place
data Told {A : Type 0} : Verdict A → Type 0 where
  is_fine : {a : A} → Told (fine a)
  is_refused : {p : Pos} → Told (refused_at p)

direct_settled : (K : Context) (d : Direct) (s : State) (reached : Bool) → Settled (checked_direct true K d s reached)
direct_settled K (statement x) s reached =
    then_settled (checked_statement true K x s) _ ((statement_total K x).all s) (λ r. is_typed)
direct_settled K (value at e) s reached =
    then_settled (typed_by K (checked true K e) s (meeting K.result)) _
    ((typed_total K (checked true K e) (expression K e)).all s (meeting K.result)) (λ r. is_typed)
direct_settled K (closing at) s reached = only_settled (not reached || is_unit K.result) _ is_typed

or_told : {A B : Type 0} (p : Pos) (o : Outcome A) (go : A → Verdict B) → Settled o → ((a : A) → Told (go a)) →
    Told (or_refused p o go)
or_told p _ go (is_typed {a = a}) q = q a
or_told p _ go is_none q = is_refused

on_told : {A B : Type 0} (v : Verdict A) (go : A → Verdict B) → Told v → ((a : A) → Told (go a)) → Told (go_on v go)
on_told _ go (is_fine {a = a}) q = q a
on_told _ go is_refused q = is_refused

directs_told : (K : Context) (done : List StatementForm) (ds : List Direct) (s : State) (reached : Bool) →
    Told (checked_directs true K done ds s reached)
directs_told K done [] s reached = is_fine
directs_told K done (d ∷ ds) s reached =
    or_told (place_of d) (checked_direct true K d s reached) _ (direct_settled K d s reached)
    (λ r. directs_told K (done ++ r.typed ∷ []) ds r.behind r.goes_on)

bodies_told : (done : List FunForm) (bs : List Body) → Told (checked_bodies true done bs)
bodies_told done [] = is_fine
bodies_told done (b ∷ bs) =
    on_told (checked_whole true b) _
    (on_told (checked_directs true b.context [] b.directs (begun b) true) _
    (directs_told b.context [] b.directs (begun b) true) (λ w. is_fine))
    (λ f. bodies_told (done ++ f ∷ []) bs)

main_told : (f : File) (fs : List FunForm) → Told (with_main f fs)
main_told f fs = by_main (has_main f)
  where
    by_main : (m : Bool) → Told (if m then fine (unit_of f fs) else refused_at at_start)
    by_main true = is_fine
    by_main false = is_refused

file_told : (f : File) → Told (checked_file true f)
file_told f = on_told (checked_bodies true [] (bodies f)) _ (bodies_told [] (bodies f)) (main_told f)

said : (f : File) (v : Verdict UnitForm) → Told v → IsSaid f v → IsTypedOrRefused f
said f _ (is_fine {a = u}) s = inl (u, s)
said f _ (is_refused {p = p}) s = inr (p, s)

pub one_of_two : OneOfTwo
one_of_two f ends = said f (checked_file true f) (file_told f) (decided true f ends)
