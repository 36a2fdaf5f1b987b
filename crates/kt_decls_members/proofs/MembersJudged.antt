-- The members of a declaration are judged one behind the other.
use Rattle.std.specs.Prelude.{ℕ, Bool, true, false, List, [], ◌∷◌, ◌++◌, ◌+◌, ◌<◌, ◌≤◌, ◌≡◌, ◌↔◌, IsTrue, Option, Some, None, drop, get_or, length, map, Result, Ok, Err, IfOk}
use Rattle.kt_base.specs.declared.errors.NoMemory.{NoMemory}
use Rattle.kt_typed.specs.declared.headers.DeclaredTypeParameter.{DeclaredTypeParameter}
use Rattle.kt_decls_rules.specs.ClassRules.{row_behind}
use Rattle.kt_decls_rules.specs.Tables.{scope_of}
use Rattle.std.proofs.Common.{ap, sym, ◌∙◌, subst}
use Rattle.std.proofs.lemmas.List.{drop_all, drop_more}
use Rattle.kt_base.specs.declared.refusals.Pos.{Pos}
use Rattle.kt_tree.specs.Declarations.{DeclarationTree, MemberTree}
use Rattle.kt_decls_rules.specs.Names.{Taken, are_free, taken_by_member}
use Rattle.kt_decls_rules.specs.Headers.{IsFineMember, member, member_place, members_from}
use Rattle.kt_decls_classes.specs.Faults.{AreJudged}
use Rattle.kt_decls_classes.proofs.Faults.{no_header, fine_here, fault_here}
use Rattle.kt_decls_members.specs.Known.{IsTakenBy}
use Rattle.kt_decls_members.specs.Walk.{IsMemberWalk}

module _ (ds before : List DeclarationTree) (d : DeclarationTree) (earlier : List Taken) (all : List MemberTree) where
  pub begun : (taken : Taken → Bool) → IsTakenBy taken earlier → IsMemberWalk ds before d earlier all taken all
  begun taken names = record { passed = earlier; names = names; judged = λ o j. j }

  module _ (taken : Taken → Bool) where
    pub goes_on : (new : Taken → Bool) (m : MemberTree) (rest : List MemberTree) (w : IsMemberWalk ds before d earlier all taken (m ∷ rest)) → IsFineMember ds before d w.passed m → IsTakenBy new (w.passed ++ taken_by_member m ∷ []) → IsMemberWalk ds before d earlier all new rest
    goes_on new m rest w fine names = record {
      passed = w.passed ++ taken_by_member m ∷ [];
      names = names;
      judged = λ o j. w.judged o (fine_here ds (member before d w.passed m) (members_from before d (w.passed ++ taken_by_member m ∷ []) rest) o fine j);
    }

    pub stops_here : (m : MemberTree) (rest : List MemberTree) (w : IsMemberWalk ds before d earlier all taken (m ∷ rest)) → (IsFineMember ds before d w.passed m → ⊥) → AreJudged ds (members_from before d earlier all) (Some (member_place m))
    stops_here m rest w fails =
        w.judged (Some (member_place m)) (fault_here ds (member before d w.passed m) (members_from before d (w.passed ++ taken_by_member m ∷ []) rest) fails)

    pub ended : IsMemberWalk ds before d earlier all taken [] → AreJudged ds (members_from before d earlier all) None
    ended w = w.judged None (no_header ds)

-- The same, as a loop meets it.

pub ahead : {A B : Type 0} (view : A → B) (xs : List A) (i : ℕ) (x : A) → i < length xs → x ≡ get_or xs i x → map view (drop i xs) ≡ view x ∷ map view (drop (i + 1) xs)
ahead view xs i x less is = ap (map view) (drop_more xs i x less ∙ ap (λ y. y ∷ drop (i + 1) xs) (sym is))

pub none_ahead : {A B : Type 0} (view : A → B) (xs : List A) (i : ℕ) → length xs ≤ i → map view (drop i xs) ≡ []
none_ahead view xs i le = ap (map view) (drop_all i xs le)

clash : (b : Bool) → b ≡ true → b ≡ false → ⊥
clash true d e = absurd cc
clash false d e = absurd cc

module _ (ds before : List DeclarationTree) (d : DeclarationTree) (earlier : List Taken) (all : List MemberTree) (taken : Taken → Bool) (m : MemberTree) (rest more : List MemberTree) (e : rest ≡ m ∷ more) (w : IsMemberWalk ds before d earlier all taken rest) (fine : Bool) (told : (passed : List Taken) → IsTakenBy taken passed → IsTrue fine ↔ IsFineMember ds before d passed m) where
  at_member : IsMemberWalk ds before d earlier all taken (m ∷ more)
  at_member = subst (IsMemberWalk ds before d earlier all taken) e w

  pub stop_at : fine ≡ false → (p : Pos) → p ≡ member_place m → AreJudged ds (members_from before d earlier all) (Some p)
  stop_at off p at =
      subst (λ (q : Pos). AreJudged ds (members_from before d earlier all) (Some q)) (sym at)
      (stops_here ds before d earlier all taken m more at_member (λ is. clash fine ((told at_member.passed at_member.names).1 is) off))

  pub go_on : fine ≡ true → (new : Taken → Bool) → ((passed : List Taken) → IsTakenBy taken passed → IsTakenBy new (passed ++ taken_by_member m ∷ [])) → IsMemberWalk ds before d earlier all new more
  go_on on new names =
      goes_on ds before d earlier all taken new m more at_member ((told at_member.passed at_member.names).0 on) (names at_member.passed at_member.names)

pub at_end : (ds before : List DeclarationTree) (d : DeclarationTree) (earlier : List Taken) (all : List MemberTree) (taken : Taken → Bool) (rest : List MemberTree) → rest ≡ [] → IsMemberWalk ds before d earlier all taken rest → AreJudged ds (members_from before d earlier all) None
at_end ds before d earlier all taken rest e w = ended ds before d earlier all taken (subst (IsMemberWalk ds before d earlier all taken) e w)

-- a member is judged where it stands
pub placed : (Fine : ℕ → List DeclaredTypeParameter → List Taken → Type 0) (row : ℕ) (scope : List DeclaredTypeParameter) (is_free : Bool) (old : Taken → Bool) (u : Taken) → ((earlier : List Taken) → IsTakenBy old earlier → is_free ≡ are_free earlier (u ∷ [])) → (r : Result Bool NoMemory) → IfOk r (λ fine. (earlier : List Taken) → is_free ≡ are_free earlier (u ∷ []) → IsTrue fine ↔ Fine row scope earlier) → IfOk r (λ fine. (before : List DeclarationTree) (d : DeclarationTree) (earlier : List Taken) → row ≡ row_behind before → scope ≡ scope_of before d → IsTakenBy old earlier → IsTrue fine ↔ Fine (row_behind before) (scope_of before d) earlier)
placed Fine row scope is_free old u free (Ok b) told = λ before d earlier there same known.
    subst (λ (k : ℕ). IsTrue b ↔ Fine k (scope_of before d) earlier) there
    (subst (λ (s : List DeclaredTypeParameter). IsTrue b ↔ Fine row s earlier) same (told earlier (free earlier known)))
placed Fine row scope is_free old u free (Err z) told = tt

-- all members, behind the names that are taken before them
pub from_names : (ds : List DeclarationTree) (d : DeclarationTree) (row : ℕ) (scope : List DeclaredTypeParameter) (taken : Taken → Bool) (names first : List Taken) (ms all : List MemberTree) → IsTakenBy taken names → names ≡ first → ms ≡ all → (r : Result (Option Pos) NoMemory) → IfOk r (λ place. (before : List DeclarationTree) (d : DeclarationTree) (earlier : List Taken) → row ≡ row_behind before → scope ≡ scope_of before d → IsTakenBy taken earlier → AreJudged ds (members_from before d earlier ms) place) → IfOk r (λ place. (before : List DeclarationTree) → row ≡ row_behind before → scope ≡ scope_of before d → AreJudged ds (members_from before d first all) place)
from_names ds d row scope taken names first ms all known e same (Ok place) told = λ before there in_scope.
    subst (λ (us : List Taken). AreJudged ds (members_from before d us all) place) e
    (subst (λ (ns : List MemberTree). AreJudged ds (members_from before d names ns) place) same (told before d names there in_scope known))
from_names ds d row scope taken names first ms all known e same (Err z) told = tt
