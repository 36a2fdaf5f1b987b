use Rattle.std.specs.Prelude.{map, refl}
use Rattle.std.proofs.Common.{arith}
use Rattle.kt_tree.specs.Declarations.{declaration_tree, member_tree}
use Rattle.kt_decls_names.specs.Taken.{is_taken}
use Rattle.kt_decls_members.proofs.MembersJudged.{ahead, at_end, begun, go_on, none_ahead, stop_at}
use Rattle.kt_decls_members.proofs.judging.judge_members.Goals as goal

pub loop-member-init : goal.loop-member-init
loop-member-init c = λ before d earlier row scope names. begun (map declaration_tree c.args.file.now) before d earlier (map member_tree c.args.members.now) (is_taken c.args.taken.now) names

pub returns-then-not-fine : goal.returns-then-not-fine
returns-then-not-fine c = λ before d earlier row scope names. stop_at (map declaration_tree c.args.file.now) before d earlier (map member_tree c.args.members.now) (is_taken c.loop-member.taken) (member_tree c.member-item.result) _ _ (ahead member_tree c.args.members.now c.loop-member.member-index c.member-item.result (omega arith) c.member-item.is) (c.loop-member.invariant before d earlier row scope names) c.in_ok-fine.fine (λ passed known. c.in_ok-fine.ensures.fine before d passed row scope known) c.if-not-fine.true c.place_of.result c.place_of.ensures

pub loop-member-preserved : goal.loop-member-preserved
loop-member-preserved c = λ before d earlier row scope names. go_on (map declaration_tree c.args.file.now) before d earlier (map member_tree c.args.members.now) (is_taken c.loop-member.taken) (member_tree c.member-item.result) _ _ (ahead member_tree c.args.members.now c.loop-member.member-index c.member-item.result (omega arith) c.member-item.is) (c.loop-member.invariant before d earlier row scope names) c.in_ok-fine.fine (λ passed known. c.in_ok-fine.ensures.fine before d passed row scope known) c.if-not-fine.false (is_taken c.one_member.new.taken) c.in_ok-fine.ensures.taken

pub returns : goal.returns
returns c = λ before d earlier row scope names. at_end (map declaration_tree c.args.file.now) before d earlier (map member_tree c.args.members.now) (is_taken c.loop-member.taken) _ (none_ahead member_tree c.args.members.now c.loop-member.member-index (omega arith)) (c.loop-member.invariant before d earlier row scope names)
