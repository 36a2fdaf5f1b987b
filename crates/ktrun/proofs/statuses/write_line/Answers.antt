use Rattle.ktrun.proofs.Lines.{name_line}
use Rattle.ktrun.proofs.statuses.write_line.Goals as goal

pub returns-in_ok-write_all-in-7-clause-all : goal.returns-in_ok-write_all-in-7-clause-all
returns-in_ok-write_all-in-7-clause-all g c =
    name_line c.in-7.is (g.E.Sink.taken c.args.err.now) _ _ c.args.told.now c.write_text_line-in-7.result c.in_ok-write_all-in-7.ensures.all c.write_text_line-in-7.ensures.all
