use Rattle.std.proofs.Common.{◌≡◌, List, ℕ, [], ◌∷◌, subst}
use Rattle.std.proofs.lemmas.Result.{err_from_is_err_and}
use Rattle.jvm_pool.specs.declared.entries.Entry.TheVariants.{Class}
use Rattle.jvm_pieces.specs.Pieces.{draft, Mention}
use Rattle.jvm_frames.specs.Putting.{Puts}
use Rattle.jvm_frames.proofs.Puts.{grew_nothing, mention_put}
use Rattle.jvm_frames.proofs.writing.put_class.Goals as goal

pub returns-in_err-clone : goal.returns-in_err-clone
returns-in_err-clone c =
    let p = err_from_is_err_and c.from_residual.result c.from_residual.ensures.1 in
    rw (p.1, p.2) (grew_nothing (draft c.args.pool.now c.args.into.now.items))

pub returns : goal.returns
returns c =
    let copy : c.in_ok-clone.field-0 ≡ c.args.name.now = c.in_ok-clone.ensures.cases in
    subst (λ (n : List ℕ). Puts (draft c.args.pool.now c.args.into.now.items)
    (draft c.put_mention.new.pool c.put_mention.new.into.items) (Mention (Class n) ∷ []) c.put_mention.result) copy
    (mention_put (Class c.in_ok-clone.field-0) c.args.pool.now c.put_mention.new.pool c.args.into.now.items
    c.put_mention.new.into.items c.put_mention.result c.put_mention.ensures.ok c.put_mention.ensures.full
    c.put_mention.ensures.err)
