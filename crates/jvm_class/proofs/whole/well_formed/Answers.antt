use Rattle.std.proofs.Common.{subst}
use Rattle.jvm_pool_bytes.specs.Spelling.{AreEntries}
use Rattle.jvm_class_types.specs.Seen.{class_seen}
use Rattle.jvm_class.proofs.Judged.{judged_has, has_judged, none_judged}
use Rattle.jvm_class.proofs.whole.well_formed.Goals as goal

pub returns-in-Some : goal.returns-in-Some
returns-in-Some c =
    let es = c.args.class.now.pool in
    let k = class_seen c.args.class.now in
    let entries = subst AreEntries c.entries.ensures (c.are_entries.ensures.0 c.if-not-are_entries.false) in
    let laid = rw c.deref.ensures.value at (c.are_laid.ensures.0 c.if-not-are_laid.false) in (
      λ whole. judged_has es k c.in-Some.tally c.count.result entries c.count.ensures.value c.count.ensures.fits laid
          c.in-Some.ensures whole,
      λ has. has_judged es k c.in-Some.tally c.count.result c.count.ensures.value c.in-Some.ensures has,
    )

pub returns-in-None : goal.returns-in-None
returns-in-None c =
    (λ no. absurd cc, λ has. absurd (none_judged c.args.class.now.pool (class_seen c.args.class.now) c.in-None.ensures has))
