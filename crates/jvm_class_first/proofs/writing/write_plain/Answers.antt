use Rattle.std.proofs.Common.{◌∙◌, ap, subst, sym, ◌++◌, ◌+◌, ◌<◌, ◌^◌}
use Rattle.jvm_pool.specs.Entries.{units}
use Rattle.jvm_class_first.specs.ClassFile.{IsClosed, class_pieces, pool}
use Rattle.jvm_class_first.proofs.Closed.{draft_closed}
use Rattle.jvm_class_first.proofs.Written.{class_written}
use Rattle.jvm_class_first.proofs.writing.write_plain.Goals as goal

pub put_pool-requires-clause-closed : goal.put_pool-requires-clause-closed
put_pool-requires-clause-closed c =
    let d = c.in_ok-draft.draft in
    subst IsClosed (sym c.pool.ensures.value) (draft_closed (class_pieces c.args.code.now) d c.in_ok-draft.ensures)

pub returns : goal.returns
returns c =
    let d = c.in_ok-draft.draft in
    class_written c.args.code.now d c.extend_from_slice.new.self.items c.requires.steps c.requires.runs c.in_ok-draft.ensures
    c.pool.ensures.kinds
    (subst (λ es. 1 + units es < 2 ^ 16) c.pool.ensures.value c.in_ok-put_pool.ensures.fits)
    (c.in_ok-extend_from_slice.ensures.items
    ∙ ap (λ l. c.put_pool.new.into.items ++ l) c.body.ensures
    ∙ ap (λ l. l ++ d.body) (c.in_ok-put_pool.ensures.ok ∙ ap (λ es. c.in_ok-bytes.bytes.items ++ pool es) c.pool.ensures.value ∙ ap (λ l. l ++ pool d.pool) c.in_ok-bytes.ensures.items))
