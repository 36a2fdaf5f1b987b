use Rattle.kt_limits.proofs.Noted.{seen_append, true_and, false_and}
use Rattle.kt_limits.proofs.notes.Notes.beside.Goals as goal

pub returns-then-self : goal.returns-then-self
returns-then-self c = λ a b is other.
    seen_append c.args.self c.args.other c.saturating_add.result c.args.other.are_fine a b c.saturating_add.ensures
    (true_and c.args.self.are_fine c.args.other.are_fine c.if-self.true) is other

pub returns-else-self : goal.returns-else-self
returns-else-self c = λ a b is other.
    seen_append c.args.self c.args.other c.saturating_add.result c.args.self.are_fine a b c.saturating_add.ensures
    (false_and c.args.self.are_fine c.args.other.are_fine c.if-self.false) is other
