-- Locals that are declared, found and assigned.
use Rattle.std.proofs.Common.{ℕ, Bool, List, Option, Some, None, ◌≡◌, refl, ap, sym, subst, ◌∙◌, map}
use Rattle.std.specs.Prelude.{Result, Ok, Err, slice_get, option_map}
use Rattle.std.proofs.lemmas.Option.{slice_get-map}
use Rattle.kt_base.specs.declared.refusals.Pos.{Pos}
use Rattle.kt_types_tree.specs.Types.{TypeForm, type_form}
use Rattle.kt_typed.specs.declared.operators.TypedLocal.{TypedLocal}
use Rattle.kt_typed.specs.Operators.{LocalForm, local_form}
use Rattle.kt_typed.specs.Bodies.{StatementForm}
use Rattle.kt_flow.specs.declared.facts.Facts.{Facts}
use Rattle.kt_flow.specs.Facts.{assign}
use Rattle.kt_flow.specs.Rows.{facts_form}
use Rattle.kt_check_rules.specs.States.{State, Named, assigned}
use Rattle.kt_check_deciding.specs.Outcomes.{Outcome, found, none, unbuilt, Reading, reading, there, then_go}
use Rattle.kt_check_deciding.specs.Statements.{Found, numbered, local_at, bare_locals}
use Rattle.kt_check_names.specs.declared.known.Known.{Known}
use Rattle.kt_check_names.specs.declared.why.Why.{Why}
use Rattle.kt_check_names.specs.declared.why.Why.TheVariants as why
use Rattle.kt_check_names.specs.Answers.{Answers, Reads}
use Rattle.kt_check_names.specs.Views.{state_of}

pub assigned_is : (scope : List Named) (declared : List (List ℕ)) (outside : ℕ) (k : Known) (f : Facts) (n : ℕ)
    (s : State) → state_of scope declared outside k ≡ s → facts_form f ≡ assign n (facts_form k.facts) →
    state_of scope declared outside
    (record { facts = f; locals = k.locals; breaks = k.breaks; continues = k.continues })
    ≡ assigned n s
assigned_is scope declared outside k f n s e is = rw (sym e, is) refl

pub assigned_later : (scope : List Named) (declared : List (List ℕ)) (outside : ℕ) (k : Known) (f : Facts) (m n : ℕ)
    (s : State) → state_of scope declared outside k ≡ s → facts_form f ≡ assign m (facts_form k.facts) → m ≡ n →
    state_of scope declared outside
    (record { facts = f; locals = k.locals; breaks = k.breaks; continues = k.continues })
    ≡ assigned n s
assigned_later scope declared outside k f m n s e is same = rw (sym e, is, same) refl

pub there_some : {A : Type 0} (o : Option A) (a : A) → there o ≡ found a → o ≡ Some a
there_some None a e = cc
there_some (Some b) a e = let f : b ≡ a = cc in ap (λ a. Some a) f

pub there_none : {A : Type 0} (o : Option A) → there o ≡ none → o ≡ None
there_none None e = refl
there_none (Some b) e = cc

-- a type that is written has a meaning
pub bare_is : {A : Type 0} (view : A → StatementForm) (r : Result A Why) (behind s : State) (at : Pos) (var : Bool)
    (x : List ℕ) (o : Option TypeForm) (t : TypeForm) → there o ≡ found t →
    Reads view r behind (bare_locals at var x (Some t) s) → Reads view r behind (bare_locals at var x o s)
bare_is view r behind s at var x o t e is =
    subst (λ o. Reads view r behind (bare_locals at var x o s)) (sym (there_some o t e)) is

pub bare_fails : {A B : Type 0} (type : A → TypeForm) (view : B → StatementForm) (w : Why) (behind s : State) (at : Pos)
    (var : Bool) (x : List ℕ) (o : Option TypeForm) → Answers {A = A} type (Err w) (there o) →
    Reads {A = B} view (Err w) behind (bare_locals at var x o s)
bare_fails type view why.Refused behind s at var x o e = ap (λ o. bare_locals at var x o s) (there_none o e)
bare_fails type view why.NotBuilt behind s at var x None e = cc
bare_fails type view why.NotBuilt behind s at var x (Some t) e = cc
bare_fails type view why.NoMemory behind s at var x o e = tt

-- a number that a local has
pub local_at_is : (locals : List TypedLocal) (n : ℕ) (l copy : TypedLocal) → Some l ≡ slice_get locals n →
    local_form copy ≡ local_form l →
    there (option_map (numbered n) (slice_get (map local_form locals) n)) ≡ found (numbered n (local_form copy))
local_at_is locals n l copy e same =
    ap (λ o. there (option_map (numbered n) o)) (slice_get-map local_form locals n ∙ ap (option_map local_form) (sym e))
    ∙ ap (λ f. found (numbered n f)) (sym same)

pub no_local_at : (locals : List TypedLocal) (n : ℕ) → None ≡ slice_get locals n →
    there (option_map (numbered n) (slice_get (map local_form locals) n)) ≡ none
no_local_at locals n e =
    ap (λ o. there (option_map (numbered n) o)) (slice_get-map local_form locals n ∙ ap (option_map local_form) (sym e))

-- where nothing is found, the whole has no typing
pub not_found : {A B C D : Type 0} (first : A → B) (view : C → D) (w : Why) (behind : State) (o : Outcome B)
    (go : B → Outcome (Reading D)) → Answers {A = A} first (Err w) o → Reads {A = C} view (Err w) behind (then_go o go)
not_found first view why.Refused behind o go e = ap (λ o. then_go o go) e
not_found first view why.NotBuilt behind o go e = ap (λ o. then_go o go) e
not_found first view why.NoMemory behind o go e = tt
