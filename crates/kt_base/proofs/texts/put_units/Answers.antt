use Rattle.std.proofs.Common.{◌≡◌, [], sym, ap, ◌∙◌}
use Rattle.std.proofs.lemmas.Bool.{eqb-true}
use Rattle.std.proofs.lemmas.List.{append-nil, nil_from_length}
use Rattle.kt_base.specs.Text.{utf8_of}
use Rattle.kt_base.proofs.Utf16.{utf8_of_nothing}
use Rattle.kt_base.proofs.texts.put_units.Goals as goal

pub returns-clause-ok : goal.returns-clause-ok
returns-clause-ok c =
    let done : c.loop-rest.rest.now ≡ [] = nil_from_length _ (eqb-true _ _ cc) in
    let nothing : utf8_of c.loop-rest.rest.now ≡ [] = ap utf8_of done ∙ utf8_of_nothing in
    sym (append-nil _) ∙ (rw nothing at c.loop-rest.invariant.written)
