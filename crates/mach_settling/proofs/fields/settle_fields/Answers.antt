use Rattle.std.proofs.Common.{get_or, refl, sym, ap, ◌∙◌, arith}
use Rattle.mach_settling.specs.Settled.{Settling}
use Rattle.mach_settling.proofs.Turning.{fields_turn, fields_done}
use Rattle.mach_settling.proofs.fields.settle_fields.Goals as goal

pub loop-at-preserved : goal.loop-at-preserved
loop-at-preserved c =
    let s : Settling = record { objects = c.loop-at.objects; fields = c.loop-at.settled } in
    let next : Settling = record { objects = c.settle_field.new.objects; fields = c.settle_field.new.settled } in
    fields_turn c.args.kinds.now c.loop-at.at c.args.fields.now c.kind_at.result (get_or c.args.fields.now c.loop-at.at _) _ s next
    (omega (arith, c.loop-at-test.true)) refl c.kind_at.ensures c.in_ok-settle_field.ensures.objects c.in_ok-settle_field.ensures.fields
    ∙ c.loop-at.invariant

pub returns-clause-objects : goal.returns-clause-objects
returns-clause-objects c =
    let s : Settling = record { objects = c.loop-at.objects; fields = c.loop-at.settled } in
    ap (λ t. t.objects) (sym (fields_done c.args.kinds.now c.loop-at.at c.args.fields.now s (omega (arith, c.loop-at-test.false))) ∙ c.loop-at.invariant)

pub returns-clause-fields : goal.returns-clause-fields
returns-clause-fields c =
    let s : Settling = record { objects = c.loop-at.objects; fields = c.loop-at.settled } in
    ap (λ t. t.fields) (sym (fields_done c.args.kinds.now c.loop-at.at c.args.fields.now s (omega (arith, c.loop-at-test.false))) ∙ c.loop-at.invariant)
