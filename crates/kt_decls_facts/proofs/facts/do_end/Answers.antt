use Rattle.kt_decls_bounds.proofs.Deciding.{after, not_first}
use Rattle.kt_decls_facts.proofs.facts.do_end.Goals as goal

pub returns-then-classes_end : goal.returns-then-classes_end
returns-then-classes_end c = after _ c.in_ok-classes_end.classes_end c.has_no_cycle-then-classes_end.result c.in_ok-classes_end.ensures c.if-classes_end.true c.has_no_cycle-then-classes_end.ensures

pub returns-else-classes_end : goal.returns-else-classes_end
returns-else-classes_end c = not_first c.in_ok-classes_end.classes_end c.in_ok-classes_end.ensures c.if-classes_end.false
