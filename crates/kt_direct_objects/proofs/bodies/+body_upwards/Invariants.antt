use Rattle.kt_direct_objects.proofs.bodies.+body_upwards.Given as goal

abbrev pub decreases-body_upwards : goal.decreases-body_upwards
decreases-body_upwards l = l.steps
