use Rattle.std.proofs.Common.{◌≡◌, map, take}
use Rattle.class_code.specs.Code.{linked_handler}
use Rattle.class_code.proofs.handlers.linked_handlers.Given as goal

abbrev pub invariant-loop-handler : goal.invariant-loop-handler
invariant-loop-handler l = l.made ≡ map (linked_handler l.headers) (take l.handler-index l.handlers)
