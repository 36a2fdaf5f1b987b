use Rattle.kt_decls_facts.proofs.facts.file_facts.Goals as goal

pub returns : goal.returns
returns c = record {
  names = c.in_ok-classes.ensures;
  tree = c.in_ok-hierarchy.ensures;
  leads = c.in_ok-links.ensures;
}
