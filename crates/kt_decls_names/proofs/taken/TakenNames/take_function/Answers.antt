use Rattle.std.proofs.Common.{rules}
use Rattle.kt_decls_names.proofs.Adding.{function_taken}
use Rattle.kt_decls_names.proofs.taken.TakenNames.take_function.Goals as goal

pub returns-then-is_new-clause-taken : goal.returns-then-is_new-clause-taken
returns-then-is_new-clause-taken c =
    function_taken c.args.self.now c.insert.new.self c.insert-2.new.self c.in_ok-clone.field-0 c.in_ok-clone-2.field-0 c.args.name.now c.args.parameters (search rules) (search rules) c.in_ok-is_new.ensures.updates c.in_ok-_first.ensures.updates

pub returns-else-is_new-clause-taken : goal.returns-else-is_new-clause-taken
returns-else-is_new-clause-taken c =
    function_taken c.args.self.now c.insert.new.self c.insert-2.new.self c.in_ok-clone.field-0 c.in_ok-clone-2.field-0 c.args.name.now c.args.parameters (search rules) (search rules) c.in_ok-is_new.ensures.updates c.in_ok-_first.ensures.updates
