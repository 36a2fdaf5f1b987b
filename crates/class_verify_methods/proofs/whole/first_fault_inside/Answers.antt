use Rattle.std.proofs.Common.{◌≡◌, sym, ap, subst, ◌∙◌}
use Rattle.class_verify_frames.specs.Views.{body}
use Rattle.class_verify_rules.specs.Verified.{BodyKeeps}
use Rattle.class_verify_methods.specs.Faults.{Least, less_of}
use Rattle.class_verify_methods.proofs.Least.{all_rules}
use Rattle.class_verify_methods.proofs.whole.first_fault_inside.Goals as goal

pub returns : goal.returns
returns c =
    let b = body c.args.method.now in
    let one = c.lesser.ensures ∙ ap (λ x. less_of x c.offset_of-untimed.result) c.offset_of-mistyped.ensures ∙ ap (less_of _) c.offset_of-untimed.ensures in
    let all = c.lesser-3.ensures ∙ ap (λ x. less_of x c.lesser-2.result) one ∙ ap (less_of _) c.lesser-2.ensures in
    subst (Least (BodyKeeps b)) (sym all)
    (all_rules b c.args.method.now.starts.now c.in_ok-first_mistyped.field-0 c.in_ok-first_untimed.field-0 c.first_bad_handler-handler.result c.first_bad_frame-frame.result
    c.requires.indexed.starts c.requires.indexed.ascending c.requires.stands c.in_ok-first_mistyped.ensures c.in_ok-first_untimed.ensures c.first_bad_handler-handler.ensures c.first_bad_frame-frame.ensures)
