use Rattle.class_missing.proofs.descriptors.+missing_within.Given as goal

abbrev pub decreases-missing_within : goal.decreases-missing_within
decreases-missing_within l = l.left
