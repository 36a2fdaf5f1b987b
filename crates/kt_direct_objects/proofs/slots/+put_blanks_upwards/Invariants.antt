use Rattle.kt_direct_objects.proofs.slots.+put_blanks_upwards.Given as goal

abbrev pub decreases-put_blanks_upwards : goal.decreases-put_blanks_upwards
decreases-put_blanks_upwards l = l.steps
