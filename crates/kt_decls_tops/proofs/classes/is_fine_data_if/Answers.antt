use Rattle.kt_decls_bounds.proofs.Deciding.{asked, not_asked}
use Rattle.kt_decls_tops.proofs.classes.is_fine_data_if.Goals as goal

pub returns-then-is_data : goal.returns-then-is_data
returns-then-is_data c = asked _ c.is_fine_data.result c.if-is_data.true c.is_fine_data.ensures

pub returns-else-is_data : goal.returns-else-is_data
returns-else-is_data c = not_asked _ (λ e. e) c.if-is_data.false
