-- What comes of one part, and of what stands behind it.
use Rattle.std.proofs.Common.{◌≡◌, refl, ap, sym, subst, ◌∙◌}
use Rattle.std.specs.Prelude.{Result, Ok, Err, Option, Some, None}
use Rattle.kt_check_rules.specs.States.{State}
use Rattle.kt_check_deciding.specs.Outcomes.{Outcome, found, none, Reading, reading, then_go, there, gives_some}
use Rattle.kt_check_names.specs.declared.why.Why.{Why}
use Rattle.kt_check_names.specs.declared.why.Why.TheVariants as why
use Rattle.kt_check_names.specs.Answers.{Answers, Reads}

-- where the part is typed, it is what stands behind it that counts
pub goes : {A B C : Type 0} (view : A → C) (r : Result A Why) (behind : State) (o : Outcome B) (b : B)
    (go : B → Outcome (Reading C)) → o ≡ found b → Reads view r behind (go b) → Reads view r behind (then_go o go)
goes view r behind o b go e is = subst (λ o. Reads view r behind (then_go o go)) (sym e) is

-- where it isn't, so isn't the whole
pub fails : {A B C D : Type 0} (first : A → B) (view : C → D) (w : Why) (s behind : State) (o : Outcome (Reading B))
    (go : Reading B → Outcome (Reading D)) → Reads {A = A} first (Err w) s o →
    Reads {A = C} view (Err w) behind (then_go o go)
fails first view why.Refused s behind o go e = ap (λ o. then_go o go) e
fails first view why.NotBuilt s behind o go e = ap (λ o. then_go o go) e
fails first view why.NoMemory s behind o go e = tt

-- what is answered is what is read, at the place behind it
pub reads_at : {A B : Type 0} (view : A → B) (r : Result A Why) (b : B) (s t : State) → s ≡ t →
    Answers view r (found b) → Reads view r s (found (reading b t))
reads_at view (Ok a) b s t e is = let f : b ≡ view a = cc in ap (λ b. found (reading b t)) f ∙ ap (λ s. found (reading (view a) s)) (sym e)
reads_at view (Err why.Refused) b s t e is = cc
reads_at view (Err why.NotBuilt) b s t e is = cc
reads_at view (Err why.NoMemory) b s t e is = tt

pub reads_here : {A B : Type 0} (view : A → B) (r : Result A Why) (b : B) (s : State) →
    Answers view r (found b) → Reads view r s (found (reading b s))
reads_here view r b s is = reads_at view r b s s refl is

-- one of several typings
pub some_reads : {A B : Type 0} (view : A → B) (r : Result A Why) (o : Option B) (s : State) →
    Answers view r (there o) → Reads view r s (gives_some o s)
some_reads view r None s is = none_reads view r s is
  where
    none_reads : {A B : Type 0} (view : A → B) (r : Result A Why) (s : State) →
        Answers view r none → Reads view r s none
    none_reads view (Ok a) s is = cc
    none_reads view (Err why.Refused) s is = refl
    none_reads view (Err why.NotBuilt) s is = cc
    none_reads view (Err why.NoMemory) s is = tt
some_reads view r (Some b) s is = reads_here view r b s is
