use Rattle.std.proofs.Common.{◌∙◌, rules}
use Rattle.kt_check_names.proofs.Declares.{declares}
use Rattle.kt_check_names.proofs.known.declare.Goals as goal

pub returns-clause-state : goal.returns-clause-state
returns-clause-state c = λ outer outside.
    declares c.args.names.now c.push-2.new.self _ c.args.known.now c.push.new.self _ c.args.name.now outer outside
    c.in_ok-push-2.ensures.ok c.in_ok-push.ensures.ok (search rules) (search rules)
    (c.in_ok-number.ensures ∙ c.len.ensures)
