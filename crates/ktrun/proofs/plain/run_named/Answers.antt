use Rattle.std.proofs.Common.{ℕ, List, Err, refl, sym, ap, subst, ◌∙◌}
use Rattle.ktrun.specs.declared.running.Stop.{Stop}
use Rattle.ktrun.specs.Headline.{Ran}
use Rattle.ktrun.proofs.Endings.{whole, not_unread, unread, unbuilt, refuses, ran}
use Rattle.ktrun.proofs.Lines.{taken_or_risen}
use Rattle.ktrun.proofs.plain.run_named.Goals as goal

pub returns-in-Ok : goal.returns-in-Ok
returns-in-Ok g c = record {
  headline = whole _ _ _ _ _ (ran _ _ _ _ _ c.in-Ok.run'.text.items c.deliver-outcome.ensures.only
      (record { held = c.in-Ok.ensures.files_stay; put_faults = c.in-Ok.ensures.no_put })
      (subst (λ (choices : List ℕ). Ran (g.F.Files.held c.args.files.now) c.args.name.now choices c.in-Ok.run'.text.items)
      (sym c.deliver-outcome.ensures.choices) c.in-Ok.ensures.ran)
      (c.in-Ok.ensures.no_read_fault (λ is. absurd cc))
      c.deliver-outcome.ensures.done c.deliver-outcome.ensures.cannot_write c.deliver-outcome.ensures.no_fault
      (taken_or_risen c.write_line.result _ _ c.write_line.ensures.all c.write_line.ensures.failed));
}

pub returns-in-Err-Refused : goal.returns-in-Err-Refused
returns-in-Err-Refused g c = record {
  headline = whole _ _ _ _ _ (refuses _ _ _ _ _ c.in-Err-Refused.refusal c.refuse.ensures.statuses
      (record {
        kept = record { held = c.in-Err-Refused.ensures.files_stay; put_faults = c.in-Err-Refused.ensures.no_put };
        out = refl;
        none = c.refuse.ensures.no_choices;
      }) (c.run_file.ensures.refused c.in-Err-Refused.refusal (c.in-Err-Refused.is ∙ ap (λ (stop : Stop). Err stop) c.in-Err-Refused.field-0-is)) (not_unread c.run_file.result _ (c.in-Err-Refused.is ∙ ap (λ (stop : Stop). Err stop) c.in-Err-Refused.field-0-is) (λ is. absurd cc) c.run_file.ensures.no_read_fault) c.refuse.ensures.refused c.refuse.ensures.no_memory);
}

pub returns-in-Err-ReadFault : goal.returns-in-Err-ReadFault
returns-in-Err-ReadFault g c = record {
  headline = whole _ _ _ _ _ (unread _ _ _ _ _ c.stopped-in-Err-ReadFault.ensures.status
      (record {
        kept = record { held = c.in-Err-ReadFault.ensures.files_stay; put_faults = c.in-Err-ReadFault.ensures.no_put };
        out = refl;
        none = c.stopped-in-Err-ReadFault.ensures.no_choices;
      }) (c.run_file.ensures.read_fault (c.in-Err-ReadFault.is ∙ ap (λ (stop : Stop). Err stop) c.in-Err-ReadFault.field-0-is)) c.stopped-in-Err-ReadFault.ensures.line);
}

pub returns-in-Err-NotBuilt : goal.returns-in-Err-NotBuilt
returns-in-Err-NotBuilt g c = record {
  headline = whole _ _ _ _ _ (unbuilt _ _ _ _ _ c.stopped-in-Err-NotBuilt.ensures.status
      (record {
        kept = record { held = c.in-Err-NotBuilt.ensures.files_stay; put_faults = c.in-Err-NotBuilt.ensures.no_put };
        out = refl;
        none = c.stopped-in-Err-NotBuilt.ensures.no_choices;
      }) (c.run_file.ensures.not_built (c.in-Err-NotBuilt.is ∙ ap (λ (stop : Stop). Err stop) c.in-Err-NotBuilt.field-0-is)) (not_unread c.run_file.result _ (c.in-Err-NotBuilt.is ∙ ap (λ (stop : Stop). Err stop) c.in-Err-NotBuilt.field-0-is) (λ is. absurd cc) c.run_file.ensures.no_read_fault) c.stopped-in-Err-NotBuilt.ensures.line);
}
