use Rattle.std.proofs.Common.{◌∙◌, sym, ap, is_some, arith}
use Rattle.jvm_class_first.proofs.Stacks.{plain_code, plain_height}
use Rattle.jvm_class_first.proofs.reading.is_plain_code.Goals as goal

pub returns-then-code-le-MOST_STEPS-clause-yes : goal.returns-then-code-le-MOST_STEPS-clause-yes
returns-then-code-le-MOST_STEPS-clause-yes c = λ t. plain_code c.args.code.now (omega arith) (sym (c.is_some.ensures ∙ ap is_some c.max_stack.ensures) ∙ t)

pub returns-then-code-le-MOST_STEPS-clause-no : goal.returns-then-code-le-MOST_STEPS-clause-no
returns-then-code-le-MOST_STEPS-clause-no c = λ p. c.is_some.ensures ∙ ap is_some c.max_stack.ensures ∙ plain_height c.args.code.now p
