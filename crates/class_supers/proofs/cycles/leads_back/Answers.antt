use Rattle.class_supers.proofs.LeadingBack.{leads_back_is}
use Rattle.class_supers.proofs.cycles.leads_back.Goals as goal

pub returns : goal.returns
returns c =
    leads_back_is c.args.graph.now c.args.rows.now c.requires.supers c.args.row c.requires.within c.link_leads_back.result
    c.link_leads_back.ensures
