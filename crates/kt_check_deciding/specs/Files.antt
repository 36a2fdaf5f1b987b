-- Bodies and files: what comes of them, or where they are refused.
use Rattle.std.specs.Prelude.{Bool, true, false, not, ◌&&◌, ◌||◌, List, [], ◌∷◌, ◌++◌, length, map, if◌then◌else◌}
use Rattle.kt_base.specs.declared.refusals.Pos.{Pos}
use Rattle.kt_typed.specs.Bodies as form
use Rattle.kt_typed.specs.Bodies.{StatementForm, FunForm, fun, statements_of}
use Rattle.kt_typed.specs.Units.{UnitForm}
use Rattle.kt_check_rules.specs.Kinds.{is_unit}
use Rattle.kt_check_rules.specs.States.{Context, State}
use Rattle.kt_check_rules.specs.Typings.{meeting}
use Rattle.kt_check_rules.specs.Completion.{statement_completes}
use Rattle.kt_check_rules.specs.Bodies.{Direct, statement, value, closing, place_of, Body, begun}
use Rattle.kt_check_rules.specs.Units.{File, bodies, has_main, without_bodies}
use Rattle.kt_check_rules.specs.Place.{at_start}
use Rattle.kt_check_deciding.specs.Outcomes.{Outcome, found, none, unbuilt, then_go, only_if}
use Rattle.kt_check_deciding.specs.Choosing.{typed_by}
use Rattle.kt_check_deciding.specs.Checked.{checked, checked_statement}

-- a direct statement: what it is, what is known behind it, and whether the place behind it is reached
pub record Passed : Type 0 where
  pub typed : StatementForm
  pub behind : State
  pub goes_on : Bool

abbrev pub passed : StatementForm → State → Bool → Passed
passed y s o = record { typed = y; behind = s; goes_on = o }

abbrev pub checked_direct : Bool → Context → Direct → State → Bool → Outcome Passed
checked_direct all K (statement x) s reached =
    then_go (checked_statement all K x s)
    (λ r. found (passed r.value r.behind (reached && statement_completes K.headers r.value)))
checked_direct all K (value at e) s reached =
    then_go (typed_by K (checked all K e) s (meeting K.result))
    (λ r. found (passed (form.result at r.value) r.behind false))
checked_direct all K (closing at) s reached =
    only_if (not reached || is_unit K.result) (found (passed (form.end at) s false))

-- what comes of several, one behind the other: the place of the first that has no typing, unless one comes before it
-- that isn't decided
pub data Verdict (A : Type 0) : Type 0 where
  fine : A → Verdict A
  refused_at : Pos → Verdict A
  undecided : Verdict A

abbrev pub or_refused : {A B : Type 0} → Pos → Outcome A → (A → Verdict B) → Verdict B
or_refused p (found a) go = go a
or_refused p none go = refused_at p
or_refused p unbuilt go = undecided

abbrev pub go_on : {A B : Type 0} → Verdict A → (A → Verdict B) → Verdict B
go_on (fine a) go = go a
go_on (refused_at p) go = refused_at p
go_on undecided go = undecided

-- the statements of a body, and what is known at its end
pub record Whole : Type 0 where
  pub statements : List StatementForm
  pub end : State

abbrev pub whole_of : List StatementForm → State → Whole
whole_of ss s = record { statements = ss; end = s }

-- direct statements, behind those that are done
abbrev pub checked_directs : Bool → Context → List StatementForm → List Direct → State → Bool → Verdict Whole
checked_directs all K done [] s reached = fine (whole_of done s)
checked_directs all K done (d ∷ ds) s reached =
    or_refused (place_of d) (checked_direct all K d s reached)
    (λ r. checked_directs all K (done ++ r.typed ∷ []) ds r.behind r.goes_on)

abbrev pub fun_of : Body → Whole → FunForm
fun_of b w =
    fun b.at b.context.is_suspend [] (length b.parameters) w.end.book.locals b.context.result
    (statements_of w.statements)

abbrev pub checked_whole : Bool → Body → Verdict FunForm
checked_whole all b = go_on (checked_directs all b.context [] b.directs (begun b) true) (λ w. fine (fun_of b w))

-- bodies, behind those that are done
abbrev pub checked_bodies : Bool → List FunForm → List Body → Verdict (List FunForm)
checked_bodies all done [] = fine done
checked_bodies all done (b ∷ bs) = go_on (checked_whole all b) (λ f. checked_bodies all (done ++ f ∷ []) bs)

abbrev pub unit_of : File → List FunForm → UnitForm
unit_of f fs = record { headers = f.headers; functions = fs; classes = map without_bodies f.headers.classes }

abbrev pub with_main : File → List FunForm → Verdict UnitForm
with_main f fs = if has_main f then fine (unit_of f fs) else refused_at at_start

abbrev pub checked_file : Bool → File → Verdict UnitForm
checked_file all f = go_on (checked_bodies all [] (bodies f)) (with_main f)
