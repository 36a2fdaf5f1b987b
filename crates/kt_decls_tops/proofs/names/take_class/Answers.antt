use Rattle.kt_decls_tops.proofs.Takings.{both_free_as, both_taken_as}
use Rattle.kt_decls_tops.proofs.names.take_class.Goals as goal

pub returns-clause-free : goal.returns-clause-free
returns-clause-free c = both_free_as _ _ c.args.name.now c.in_ok-number.ensures c.in_ok-is_type_free.ensures.taken c.in_ok-is_type_free.ensures.free c.in_ok-is_function_free.ensures.free c.both.ensures

pub returns-clause-taken : goal.returns-clause-taken
returns-clause-taken c = both_taken_as _ _ c.args.name.now c.in_ok-number.ensures c.in_ok-is_type_free.ensures.taken _ c.in_ok-is_function_free.ensures.taken
