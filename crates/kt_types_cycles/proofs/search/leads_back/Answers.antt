use Rattle.std.proofs.Common.{◌≡◌, ◌+◌, ℕ, List, refl, ap, [], ◌∷◌, ◌++◌, ◌∙◌, length, length-append, arith}
use Rattle.std.specs.Prelude.{slice_get}
use Rattle.std.proofs.lemmas.Option.{slice_get_within}
use Rattle.kt_types_tree.proofs.Parts.{yes, no, not_both}
use Rattle.kt_types_order.specs.Graph.{row_or_none}
use Rattle.kt_types_cycles.proofs.Searching.{none_marked, as_long, begins, ends, comes_back, dropped, added, fewer_open}
use Rattle.kt_types_cycles.proofs.search.leads_back.Goals as goal

empty : (xs : List ℕ) → length xs ≡ 0 → xs ≡ []
empty [] h = refl
empty (x ∷ xs) h = absurd (omega arith)

pub returns-in-None : goal.returns-in-None
returns-in-None c = no (ends c.args.graph.now c.args.row _ c.loop-waiting.waiting.items c.loop-waiting.invariant (empty c.loop-waiting.waiting.items (let e = c.loop-waiting.waiting.ok.0 in let k = c.in-None.ensures.cases.0 in omega arith)))

pub returns-then-next-row : goal.returns-then-next-row
returns-then-next-row c = yes (comes_back c.args.graph.now c.args.row _ _ _ c.in-Some.next c.loop-waiting.invariant c.in-Some.ensures.items c.if-next-row.true)

pub index_mut-requires : goal.index_mut-requires
index_mut-requires c = let h = slice_get_within c.loop-waiting.seen.items c.in-Some.next _ (rw c.deref.ensures.value at (c.is_open.ensures.0 c.if-is_open.true)) in let e = c.loop-waiting.seen.ok.0 in omega arith

pub loop-waiting-preserved-in-Continue-branch-3 : goal.loop-waiting-preserved-in-Continue-branch-3
loop-waiting-preserved-in-Continue-branch-3 c = added c.args.graph.now c.args.row _ _ _ c.in-Some.next c.loop-waiting.invariant c.in-Some.ensures.items _ (rw c.deref.ensures.value at (c.is_open.ensures.0 c.if-is_open.true)) c.if-next-row.false c.in_ok-push_links-in-Some.ensures

pub loop-waiting-preserved : goal.loop-waiting-preserved
loop-waiting-preserved c = dropped c.args.graph.now c.args.row _ _ _ c.in-Some.next c.loop-waiting.invariant c.in-Some.ensures.items (λ o. not_both (c.is_open.ensures.1 (rw c.deref.ensures.value o)) c.if-is_open.false)

pub loop-waiting-smaller-in-Continue-branch-3 : goal.loop-waiting-smaller-in-Continue-branch-3
loop-waiting-smaller-in-Continue-branch-3 c =
    let less = fewer_open c.args.graph.now c.loop-waiting.seen.items c.in-Some.next (length c.pop.new.self.items) (rw c.deref.ensures.value at (c.is_open.ensures.0 c.if-is_open.true)) in
    let now : length c.push_links-then-is_open.new.waiting.items ≡ length c.pop.new.self.items + length (row_or_none (slice_get c.args.graph.now c.in-Some.next)) = ap length c.in_ok-push_links-in-Some.ensures ∙ length-append c.pop.new.self.items _ in
    let before : length c.loop-waiting.waiting.items ≡ length c.pop.new.self.items + 1 = ap length c.in-Some.ensures.items ∙ length-append c.pop.new.self.items (c.in-Some.next ∷ []) in
    rw (now, before) less

pub loop-waiting-init : goal.loop-waiting-init
loop-waiting-init c =
    let fresh = c.in_ok-seen.ensures.items_if_clones_equal (λ y e. e) in
    begins c.args.graph.now c.args.row _ _ (λ d. none_marked _ (length c.args.graph.now) d fresh) (as_long _ (length c.args.graph.now) fresh) (c.in_ok-push_links.ensures ∙ ap (λ xs. xs ++ row_or_none (slice_get c.args.graph.now c.args.row)) c.new-waiting.ensures.items)
