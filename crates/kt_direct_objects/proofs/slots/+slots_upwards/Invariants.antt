use Rattle.kt_direct_objects.proofs.slots.+slots_upwards.Given as goal

abbrev pub decreases-slots_upwards : goal.decreases-slots_upwards
decreases-slots_upwards l = l.steps
