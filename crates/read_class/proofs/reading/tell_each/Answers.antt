use Rattle.std.proofs.Common.{◌++◌, ◌∷◌, List, ℕ, [], map, take, refl, sym, subst, ◌∙◌, arith}
use Rattle.std.specs.Prelude.{string_bytes}
use Rattle.kt_outside.specs.Held.{Contents}
use Rattle.class_answers.specs.Telling.{stream}
use Rattle.class_answers.proofs.Names.{names_all, names_next}
use Rattle.class_answers.proofs.Streams.{tells_nothing}
use Rattle.read_class.specs.Reading.{IsAnswer, Told}
use Rattle.read_class.proofs.Answered.{told_more}
use Rattle.read_class.proofs.reading.tell_each.Goals as goal

pub loop-name-init : goal.loop-name-init
loop-name-init g c = record {
  told = record {
    answers = [];
    are = refl;
    status_is = refl;
    out = tells_nothing (stream (g.O.Sink.taken c.args.out.now) (g.O.Sink.faults c.args.out.now));
    err = tells_nothing (stream (g.E.Sink.taken c.args.err.now) (g.E.Sink.faults c.args.err.now));
  };
  held = refl;
  puts = refl;
  out_later = omega arith;
  err_later = omega arith;
}

pub loop-name-preserved : goal.loop-name-preserved
loop-name-preserved g c =
    let l = c.loop-name in
    let a = c.answer_of-answer.result in
    let held = g.F.Files.held c.args.files.now in
    let before = g.F.Files.read_faults c.args.files.now in
    let mid = g.F.Files.read_faults l.files in
    let after = g.F.Files.read_faults c.answer_of-answer.new.files in
    let o0 = stream (g.O.Sink.taken c.args.out.now) (g.O.Sink.faults c.args.out.now) in
    let o1 = stream (g.O.Sink.taken l.out) (g.O.Sink.faults l.out) in
    let o2 = stream (g.O.Sink.taken c.tell.new.out) (g.O.Sink.faults c.tell.new.out) in
    let e0 = stream (g.E.Sink.taken c.args.err.now) (g.E.Sink.faults c.args.err.now) in
    let e1 = stream (g.E.Sink.taken l.err) (g.E.Sink.faults l.err) in
    let e2 = stream (g.E.Sink.taken c.tell.new.err) (g.E.Sink.faults c.tell.new.err) in
    let name = string_bytes c.name-item.result in
    let names = map string_bytes (take l.name-index c.args.names.now) in
    let next = names_next c.args.names.now l.name-index c.name-item.result (omega arith) c.name-item.is in
    let named = subst (λ (n : List ℕ). IsAnswer (g.F.Files.held l.files) n mid after a) c.as_str.ensures.value c.answer_of-answer.ensures.answer in
    let is = subst (λ (h : Contents). IsAnswer h name mid after a) l.invariant.held named in
    let more = told_more held names name before mid after o0 o1 o2 e0 e1 e2 l.status a l.invariant.told is
    l.invariant.out_later c.tell.ensures.out_not_lowered l.invariant.err_later c.tell.ensures.err_not_lowered
    c.tell.ensures.out c.tell.ensures.err in
    let status = subst (λ (s : ℕ). Told held (names ++ name ∷ []) before after o0 o2 e0 e2 s) (sym c.first_status-status.ensures) more in
    record {
      told = subst (λ (ns : List (List ℕ)). Told held ns before after o0 o2 e0 e2 c.first_status-status.result) (sym next) status;
      held = c.answer_of-answer.ensures.files_stay ∙ l.invariant.held;
      puts = c.answer_of-answer.ensures.no_put ∙ l.invariant.puts;
      out_later = omega (arith, l.invariant.out_later, c.tell.ensures.out_not_lowered);
      err_later = omega (arith, l.invariant.err_later, c.tell.ensures.err_not_lowered);
    }

pub returns-clause-told : goal.returns-clause-told
returns-clause-told g c =
    let l = c.loop-name in
    let held = g.F.Files.held c.args.files.now in
    let before = g.F.Files.read_faults c.args.files.now in
    let after = g.F.Files.read_faults l.files in
    let o0 = stream (g.O.Sink.taken c.args.out.now) (g.O.Sink.faults c.args.out.now) in
    let o1 = stream (g.O.Sink.taken l.out) (g.O.Sink.faults l.out) in
    let e0 = stream (g.E.Sink.taken c.args.err.now) (g.E.Sink.faults c.args.err.now) in
    let e1 = stream (g.E.Sink.taken l.err) (g.E.Sink.faults l.err) in
    subst (λ (ns : List (List ℕ)). Told held ns before after o0 o1 e0 e1 l.status)
    (names_all c.args.names.now l.name-index (omega arith)) l.invariant.told
