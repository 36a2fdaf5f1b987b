use Rattle.std.proofs.Common.{◌≡◌, ℕ, ◌<◌, Some}
use Rattle.std.specs.Prelude.{slice_get}
use Rattle.class_linked.specs.declared.code.LinkedHandler.{LinkedHandler}
use Rattle.class_verify_frames.specs.Views.{body, frame}
use Rattle.class_verify_flow.specs.Checks.{HandlerFits}
use Rattle.class_verify_flow.proofs.flow.handlers_fit.Given as goal

abbrev pub invariant-loop-handler : goal.invariant-loop-handler
invariant-loop-handler l = (k : ℕ) → k < l.handler-index → (h : LinkedHandler) → slice_get l.method.code.now.handlers k ≡ Some h → HandlerFits (body l.method) l.offset (frame l.held) h
