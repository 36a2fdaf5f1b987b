use Rattle.std.proofs.Common.{rules}
use Rattle.kt_decls_names.proofs.Adding.{type_taken}
use Rattle.kt_decls_names.proofs.taken.TakenNames.take_type.Goals as goal

pub returns-clause-taken : goal.returns-clause-taken
returns-clause-taken c =
    type_taken c.args.self.now c.insert.new.self c.in_ok-clone.field-0 c.args.name.now (search rules) c.in_ok-insert.ensures.updates
