use Rattle.kt_decls_bounds.proofs.Deciding.{always, turned}
use Rattle.kt_decls_facts.proofs.meanings.is_meant_if.Goals as goal

pub returns-in-None : goal.returns-in-None
returns-in-None c = rw c.in-None.is (always tt)

pub returns-in-Some : goal.returns-in-Some
returns-in-Some c = rw c.in-Some.is (turned _ _ c.is_meant.result ((λ h. (h, tt)), (λ p. p.0)) c.is_meant.ensures)
