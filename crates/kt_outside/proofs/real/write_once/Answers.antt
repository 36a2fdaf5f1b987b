use Rattle.std.proofs.Common.{ℕ, take, subst, sym}
use Rattle.std.specs.Io.KnownBytes.{Appends}
use Rattle.kt_outside.proofs.Appending.{keeps_itself, kept_appends, kept_keeps, writes_none}
use Rattle.kt_outside.proofs.real.write_once.Goals as goal

pub loop-init : goal.loop-init
loop-init g c = keeps_itself _

pub returns-in-Ok-eq0-clause-nothing : goal.returns-in-Ok-eq0-clause-nothing
returns-in-Ok-eq0-clause-nothing g c =
    let w = c.in-Ok-eq0 in
    λ _. kept_keeps _ _ _ c.loop.invariant (writes_none _ _ c.write.result c.args.bytes.now w.field-0 c.write.ensures.bytes w.is w.field-0-test)

pub returns-in-Ok-clause-prefix : goal.returns-in-Ok-clause-prefix
returns-in-Ok-clause-prefix g c = kept_appends _ _ _ _ c.loop.invariant (subst (λ (n : ℕ). Appends (g.W.Write.contents c.loop.stream) (g.W.Write.contents c.write.new.self) (take n c.args.bytes.now)) (sym c.in-Ok.count-is) c.in-Ok.ensures.bytes)

pub returns-in-Err-2-clause-nothing : goal.returns-in-Err-2-clause-nothing
returns-in-Err-2-clause-nothing g c = λ _. kept_keeps _ _ _ c.loop.invariant c.in-Err.ensures.bytes

pub loop-preserved : goal.loop-preserved
loop-preserved g c = kept_keeps _ _ _ c.loop.invariant c.in-Err.ensures.bytes

pub returns-clause-nothing : goal.returns-clause-nothing
returns-clause-nothing g c = λ _. c.loop.invariant
