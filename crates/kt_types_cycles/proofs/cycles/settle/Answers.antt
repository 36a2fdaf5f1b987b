use Rattle.std.proofs.Common.{◌≡◌, ℕ, List, refl, [], length, arith, ap, ◌∙◌, length-append, ◌∷◌}
use Rattle.std.proofs.lemmas.Option.{slice_get_within}
use Rattle.kt_types_cycles.proofs.Marks.{done_stays}
use Rattle.kt_types_cycles.proofs.Settling.{marked, pushed, popped, first_done, no_end, turn_falls}
use Rattle.kt_types_cycles.proofs.cycles.settle.Goals as goal

empty : (xs : List ℕ) → length xs ≡ 0 → xs ≡ []
empty [] h = refl
empty (x ∷ xs) h = absurd (omega arith)

pub returns-then-len-graph-clause-cycle : goal.returns-then-len-graph-clause-cycle
returns-then-len-graph-clause-cycle c = λ _. no_end c.args.graph.now _ _ _ c.loop-next.waiting.items c.push.new.self.items _ _ c.loop-next.invariant (rw c.deref.ensures.value at c.in-Some.ensures) c.in_ok-push-in-Some.ensures.items (let e = c.push.new.self.ok.0 in let l = c.len.ensures in let t = c.if-len-graph.true in omega arith)

pub loop-next-preserved-in-Some : goal.loop-next-preserved-in-Some
loop-next-preserved-in-Some c = pushed c.args.graph.now _ _ _ _ _ _ _ c.loop-next.invariant (rw c.deref.ensures.value at c.in-Some.ensures) c.in_ok-push-in-Some.ensures.items (let e = c.push.new.self.ok.0 in let l = c.len.ensures in let t = c.if-len-graph.false in omega arith)

pub index_mut-requires : goal.index_mut-requires
index_mut-requires c = let h = slice_get_within c.loop-next.done.items c.loop-next.row _ c.loop-next.invariant.open_here in let e = c.loop-next.done.ok.0 in omega arith

pub loop-next-smaller : goal.loop-next-smaller
loop-next-smaller c = turn_falls c.loop-next.done.items c.loop-next.row (length c.args.graph.now) (length c.pop.new.self.items) (length c.loop-next.waiting.items) c.loop-next.invariant.open_here (ap length c.in-Some-pop.ensures.items ∙ length-append c.pop.new.self.items (c.in-Some-pop.before ∷ []))

pub loop-next-preserved : goal.loop-next-preserved
loop-next-preserved c = popped c.args.graph.now _ _ _ _ _ _ _ c.loop-next.invariant (rw c.deref.ensures.value at c.in-None.ensures) c.in-Some-pop.ensures.items

pub returns-in-None-pop-clause-settled : goal.returns-in-None-pop-clause-settled
returns-in-None-pop-clause-settled c = marked c.args.graph.now c.loop-next.done.items c.loop-next.invariant.settled c.loop-next.row c.loop-next.invariant.open_here (rw c.deref.ensures.value at c.in-None.ensures)

pub returns-in-None-pop-clause-first : goal.returns-in-None-pop-clause-first
returns-in-None-pop-clause-first c = λ _. first_done c.args.graph.now _ _ _ c.loop-next.waiting.items c.loop-next.row c.loop-next.invariant (empty c.loop-next.waiting.items (let e = c.loop-next.waiting.ok.0 in let k = c.in-None-pop.ensures.cases.0 in omega arith))

pub returns-in-None-pop-clause-kept : goal.returns-in-None-pop-clause-kept
returns-in-None-pop-clause-kept c = λ d h. done_stays c.loop-next.done.items c.loop-next.row d (c.loop-next.invariant.kept d h)
