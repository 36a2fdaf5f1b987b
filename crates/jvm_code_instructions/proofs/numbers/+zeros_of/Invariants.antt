use Rattle.jvm_code_instructions.proofs.numbers.+zeros_of.Given as goal

abbrev pub decreases-zeros_of : goal.decreases-zeros_of
decreases-zeros_of l = l.count
