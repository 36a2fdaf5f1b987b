use Rattle.std.specs.Prelude.{ℕ, Bool, List, ◌≡◌, true}
use Rattle.std.proofs.Common.{ap, sym, ◌∙◌}
use Rattle.kt_types_order.specs.Graph.{Graph}
use Rattle.kt_decls_hierarchy.specs.Marking.{is_due}
use Rattle.kt_decls_hierarchy.proofs.ComingRight.{marks_on, fewer_open}
use Rattle.kt_decls_hierarchy.proofs.marks.mark.Goals as goal

due_now : (r : Bool) (g : Graph) (own slice marks : List Bool) (row : ℕ) → r ≡ is_due g own slice row → r ≡ true → slice ≡ marks → is_due g own marks row ≡ true
due_now r g own slice marks row is so same = ap (λ (m : List Bool). is_due g own m row) (sym same) ∙ (sym is ∙ so)

pub returns-then-is_to_mark-clause-marking : goal.returns-then-is_to_mark-clause-marking
returns-then-is_to_mark-clause-marking c =
    marks_on c.args.graph.now c.args.own.now c.args.marks.now.items c.requires.marking c.args.row (rw c.deref.ensures.value at (c.is_open.ensures.0 c.if-is_open.true)) (due_now c.is_to_mark.result c.args.graph.now c.args.own.now _ c.args.marks.now.items c.args.row c.is_to_mark.ensures c.if-is_to_mark.true cc)

pub returns-then-is_to_mark-clause-fewer : goal.returns-then-is_to_mark-clause-fewer
returns-then-is_to_mark-clause-fewer c = λ _. fewer_open c.args.marks.now.items c.args.row (rw c.deref.ensures.value at (c.is_open.ensures.0 c.if-is_open.true))
