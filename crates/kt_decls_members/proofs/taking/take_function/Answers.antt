use Rattle.std.proofs.Common.{ap, sym, ◌∙◌}
use Rattle.std.proofs.lemmas.List.{length-map}
use Rattle.kt_tree.specs.Declarations.{typed_parameter_tree}
use Rattle.kt_decls_rules.specs.Names.{a_function}
use Rattle.kt_decls_members.proofs.TakenOn.{free_as, taken_as}
use Rattle.kt_decls_members.proofs.taking.take_function.Goals as goal

pub returns-clause-free : goal.returns-clause-free
returns-clause-free c = free_as _ _ _ (ap (a_function c.args.function.now.name) (c.in_ok-count.ensures ∙ (c.len.ensures ∙ sym (length-map c.args.function.now.parameters typed_parameter_tree)))) _ c.take_function.ensures.free

pub returns-clause-taken : goal.returns-clause-taken
returns-clause-taken c = taken_as _ _ _ _ (ap (a_function c.args.function.now.name) (c.in_ok-count.ensures ∙ (c.len.ensures ∙ sym (length-map c.args.function.now.parameters typed_parameter_tree)))) _ c.take_function.ensures.taken
