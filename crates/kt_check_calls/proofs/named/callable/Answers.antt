use Rattle.std.proofs.Common.{rules, sym, map}
use Rattle.kt_tree.specs.Types.{type_tree}
use Rattle.kt_typed.specs.Headers.{function_form}
use Rattle.kt_check_places.specs.Places.{context_at}
use Rattle.kt_check_calls.specs.Targets.{numbered_form, target_form}
use Rattle.kt_check_calls.proofs.Callables.{named_is, not_named}
use Rattle.kt_check_calls.proofs.named.callable.Goals as goal

pub returns-in-Ok : goal.returns-in-Ok
returns-in-Ok c =
    named_is (context_at c.args.p.now) (map function_form c.args.p.now.context.now.headers.now.functions)
    c.args.name.now (map type_tree c.args.written.now) c.args.count (numbered_form c.in-Some.function) _
    (target_form c.in-Ok.target) (sym c.in-Some.ensures) c.in-Ok.ensures

pub returns-in-Err-Refused : goal.returns-in-Err-Refused
returns-in-Err-Refused c =
    not_named (context_at c.args.p.now) (map function_form c.args.p.now.context.now.headers.now.functions)
    c.args.name.now (map type_tree c.args.written.now) c.args.count target_form c.built_in_named.result
    (numbered_form c.in-Some.function) _ (sym c.in-Some.ensures) (search rules) c.built_in_named.ensures
