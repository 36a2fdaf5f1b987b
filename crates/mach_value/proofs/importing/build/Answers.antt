use Rattle.mach_value.proofs.Turns.{built_none, built_turn}
use Rattle.mach_value.proofs.importing.build.Goals as goal

pub loop-left-init : goal.loop-left-init
loop-left-init c =
    built_none c.args.first c.args.nodes.now (record { objects = c.new.result; fields = c.new-2.result }) c.new.ensures c.new-2.ensures

pub loop-left-preserved : goal.loop-left-preserved
loop-left-preserved c =
    built_turn c.args.first c.args.nodes.now c.loop-left.left c.index-nodes-left.result c.loop-left.made c.build_node.new.built
    c.loop-left-test.true c.loop-left.invariant.0 c.index-nodes-left.is c.in_ok-build_node.ensures.made c.in_ok-build_node.ensures.unit
    c.loop-left.invariant.1 c.loop-left.invariant.2
