use Rattle.std.proofs.Common.{◌≡◌, ◌<◌, length, arith}
use Rattle.std.proofs.lemmas.Bool.Decides.{nat_tests}
use Rattle.kt_parser_steps.proofs.Ways.{reads_from}
use Rattle.kt_parser_primaries.proofs.Parting.{first_part, later_part, fewer}
use Rattle.kt_parser_primaries.proofs.primaries.Primaries.next_part.Goals as goal

pub returns-then-is_empty : goal.returns-then-is_empty
returns-then-is_empty g c =
    let none : length c.args.parts.now ≡ 0 = grind (arith, nat_tests) in
    reads_from _ _ _ (first_part c.args.self.now.below.room c.args.at c.args.tokens.now c.args.parts.now none) _ _ c.string_part.ensures

pub returns : goal.returns
returns g c =
    let some : 0 < length c.args.parts.now = grind (arith, nat_tests) in
    reads_from _ _ _ (later_part c.args.self.now.below.room c.args.at c.args.tokens.now _ c.lower.ensures.room c.args.parts.now some (fewer _ _ _ c.requires.small c.levels.ensures (omega arith))) _ _ c.string_part-2.ensures
