use Rattle.kt_decls.proofs.declaring.declare.Goals as goal

pub returns-clause-names : goal.returns-clause-names
returns-clause-names c = rw c.as_slice-file.ensures at c.declared.ensures.names

pub returns-clause-well_formed : goal.returns-clause-well_formed
returns-clause-well_formed c = rw c.as_slice-file.ensures at c.declared.ensures.well_formed
