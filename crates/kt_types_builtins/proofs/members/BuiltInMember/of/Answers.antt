use Rattle.std.proofs.Common.{rules, ap, ◌∙◌}
use Rattle.std.specs.Prelude.{find}
use Rattle.std.proofs.lemmas.Iterator.{YieldsList-from_slice}
use Rattle.std.proofs.lemmas.Iterator.Search.{find_from_yields_List}
use Rattle.kt_types_builtins.specs.Members.{is_written, member_of}
use Rattle.kt_types_builtins.proofs.members.BuiltInMember.of.Goals as goal

pub returns : goal.returns
unfolding member_of
returns c =
    let found = find_from_yields_List (λ m. is_written m c.args.receiver c.args.name.now) _ _ c.find.result c.find.ensures.ran (YieldsList-from_slice c.members.result.now cc) (λ x b q k. search rules) in
    c.copied.ensures ∙ found ∙ ap (find (λ m. is_written m c.args.receiver c.args.name.now)) c.members.ensures
