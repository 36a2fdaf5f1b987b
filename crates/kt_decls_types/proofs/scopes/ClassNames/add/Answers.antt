use Rattle.std.proofs.Common.{rules}
use Rattle.kt_decls_types.proofs.Adding.{class_added}
use Rattle.kt_decls_types.proofs.scopes.ClassNames.add.Goals as goal

pub returns-in_ok-_before : goal.returns-in_ok-_before
returns-in_ok-_before c =
    class_added c.args.self.now.by_name c.insert.new.self c.in_ok-clone.field-0 c.args.name.now c.args.class (search rules) (search rules) c.in_ok-_before.ensures.updates
