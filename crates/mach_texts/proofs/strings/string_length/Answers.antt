use Rattle.std.proofs.Common.{length, ap, ◌∙◌}
use Rattle.mach_rows.specs.Courses.{count, ended, given}
use Rattle.mach_texts.proofs.strings.string_length.Goals as goal

pub returns-in-Some-clause-end : goal.returns-in-Some-clause-end
returns-in-Some-clause-end c =
    let h = c.args.heap.now in
    c.give_count.ensures h
    ∙ ap (λ t. ended (count (length t)) h) c.units.ensures
    ∙ ap (λ o. ended (given o (λ t. count (length t))) h) c.in-Some.ensures
