use Rattle.std.proofs.Common.{◌≡◌, ◌+◌, ℕ, List, refl, ap, [], ◌∷◌, ◌++◌, ◌∙◌, length, length-append, arith}
use Rattle.std.specs.Prelude.{slice_get}
use Rattle.std.proofs.lemmas.Option.{slice_get_within}
use Rattle.class_supers.specs.Graph.{row_or_none}
use Rattle.class_supers.proofs.LeadingBack.{not_both}
use Rattle.class_supers.proofs.Marks.{none_marked, as_long, fewer_open}
use Rattle.class_supers.proofs.Searching.{begins, dropped, added, ends}
use Rattle.class_supers.proofs.reach.reached.Goals as goal

empty : (xs : List ℕ) → length xs ≡ 0 → xs ≡ []
empty [] h = refl
empty (x ∷ xs) h = absurd (omega arith)

pub loop-seen-init : goal.loop-seen-init
loop-seen-init c =
    let fresh = c.in_ok-seen.ensures.items_if_clones_equal (λ y e. e) in
    begins c.args.graph.now c.args.start _ _ (λ d. none_marked _ (length c.args.graph.now) d fresh)
    (as_long _ (length c.args.graph.now) fresh)
    (c.in_ok-push.ensures.items ∙ ap (λ xs. xs ++ c.args.start ∷ []) c.new-waiting.ensures.items)

pub returns-in-None : goal.returns-in-None
returns-in-None c =
    ends c.args.graph.now c.args.start _ c.loop-seen.waiting.items c.loop-seen.invariant
    (empty c.loop-seen.waiting.items (let e = c.loop-seen.waiting.ok.0 in let k = c.in-None.ensures.cases.0 in omega arith))

pub index_mut-requires : goal.index_mut-requires
index_mut-requires c =
    let h = slice_get_within c.loop-seen.seen.items c.in-Some.next _ (rw c.deref.ensures.value at (c.is_open.ensures.0 c.if-is_open.true)) in
    let e = c.loop-seen.seen.ok.0 in omega arith

pub loop-seen-preserved-in-Continue-branch-3 : goal.loop-seen-preserved-in-Continue-branch-3
loop-seen-preserved-in-Continue-branch-3 c =
    added c.args.graph.now c.args.start _ _ _ c.in-Some.next c.loop-seen.invariant c.in-Some.ensures.items _
    (rw c.deref.ensures.value at (c.is_open.ensures.0 c.if-is_open.true)) c.in_ok-push_links-in-Some.ensures

pub loop-seen-preserved : goal.loop-seen-preserved
loop-seen-preserved c =
    dropped c.args.graph.now c.args.start _ _ _ c.in-Some.next c.loop-seen.invariant c.in-Some.ensures.items
    (λ o. not_both (c.is_open.ensures.1 (rw c.deref.ensures.value o)) c.if-is_open.false)

pub loop-seen-smaller-in-Continue-branch-3 : goal.loop-seen-smaller-in-Continue-branch-3
loop-seen-smaller-in-Continue-branch-3 c =
    let less = fewer_open c.args.graph.now c.loop-seen.seen.items c.in-Some.next (length c.pop.new.self.items) (rw c.deref.ensures.value at (c.is_open.ensures.0 c.if-is_open.true)) in
    let now : length c.push_links.new.waiting.items ≡ length c.pop.new.self.items + length (row_or_none (slice_get c.args.graph.now c.in-Some.next)) = ap length c.in_ok-push_links-in-Some.ensures ∙ length-append c.pop.new.self.items _ in
    let before : length c.loop-seen.waiting.items ≡ length c.pop.new.self.items + 1 = ap length c.in-Some.ensures.items ∙ length-append c.pop.new.self.items (c.in-Some.next ∷ []) in
    rw (now, before) less
