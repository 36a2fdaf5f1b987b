use Rattle.mach_value.specs.Openings.{opening}
use Rattle.mach_value.proofs.Advancing.{enter_advances}
use Rattle.mach_value.proofs.exporting.put_object.Goals as goal

pub returns-in_ok-enter : goal.returns-in_ok-enter
returns-in_ok-enter c =
    enter_advances c.args.objects.now c.args.field c.args.address (opening c.args.found) c.args.progress.now c.enter.new.progress
    c.requires.refers c.requires.may c.requires.found c.requires.new
    c.in_ok-enter.ensures.nodes c.in_ok-enter.ensures.pending c.in_ok-enter.ensures.path
