use Rattle.kt_decls_members.proofs.judging.one_member.Goals as goal

pub returns-in-Method-clause-fine : goal.returns-in-Method-clause-fine
returns-in-Method-clause-fine c = rw c.in-Method.is c.one_method.ensures.fine

pub returns-in-Method-clause-taken : goal.returns-in-Method-clause-taken
returns-in-Method-clause-taken c = rw c.in-Method.is c.one_method.ensures.taken

pub returns-in-Property-clause-fine : goal.returns-in-Property-clause-fine
returns-in-Property-clause-fine c = rw c.in-Property.is c.one_property.ensures.fine

pub returns-in-Property-clause-taken : goal.returns-in-Property-clause-taken
returns-in-Property-clause-taken c = rw c.in-Property.is c.one_property.ensures.taken
