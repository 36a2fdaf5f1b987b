use Rattle.std.proofs.Common.{rules}
use Rattle.kt_decls_names.proofs.Adding.{value_taken}
use Rattle.kt_decls_names.proofs.taken.TakenNames.take_value.Goals as goal

pub returns-then-is_new-clause-taken : goal.returns-then-is_new-clause-taken
returns-then-is_new-clause-taken c =
    value_taken c.args.self.now c.insert.new.self c.in_ok-clone.field-0 c.args.name.now (search rules) c.in_ok-is_new.ensures.updates

pub returns-else-is_new-clause-taken : goal.returns-else-is_new-clause-taken
returns-else-is_new-clause-taken c =
    value_taken c.args.self.now c.insert.new.self c.in_ok-clone.field-0 c.args.name.now (search rules) c.in_ok-is_new.ensures.updates
