use Rattle.std.proofs.Common.{None, ◌++◌, List, ℕ, ap, ◌∙◌}
use Rattle.jvm_pieces.specs.Pieces.{pieces}
use Rattle.jvm_class_types.specs.Seen.{code_seen}
use Rattle.jvm_maps.specs.Frames.{before}
use Rattle.jvm_class_grammar.specs.Grammar.{code_body}
use Rattle.class_writer.proofs.Written.{sized_fits, sized_so}
use Rattle.class_writer.proofs.bodies.put_sized_body.Goals as goal

pub put_behind_length-requires : goal.put_behind_length-requires
put_behind_length-requires c =
    let es = c.args.pool.now in
    let f = code_body es (before None c.args.start.now) in
    let a = code_seen c.args.code.now in
    sized_fits es f a c.deref.result.now (c.deref.ensures.value ∙ c.in_ok-put_body.ensures
    ∙ ap (λ (l : List ℕ). l ++ pieces es (f.spell a)) c.new-body.ensures.items) c.requires

pub returns : goal.returns
returns c =
    let es = c.args.pool.now in
    let f = code_body es (before None c.args.start.now) in
    let a = code_seen c.args.code.now in
    sized_so es f a c.deref.result.now c.args.into.now.items c.put_behind_length.new.into.items
    (c.deref.ensures.value ∙ c.in_ok-put_body.ensures
    ∙ ap (λ (l : List ℕ). l ++ pieces es (f.spell a)) c.new-body.ensures.items) c.in_ok-put_behind_length.ensures
