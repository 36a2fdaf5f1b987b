use Rattle.std.proofs.Common.{◌≡◌, false, true}
use Rattle.class_answers.proofs.Held.{may_hold, unread, whole_is}
use Rattle.class_answers.proofs.files.read_file.Goals as goal

pub returns-in-Ok-clause-read : goal.returns-in-Ok-clause-read
returns-in-Ok-clause-read g c =
    may_hold (g.F.Files.held c.args.files.now) c.args.name.now _
    (λ bytes holds. whole_is bytes (c.in-Ok.ensures.whole bytes holds) c.new-bytes.ensures.items)
    (λ lacks. let no : false ≡ true = c.in-Ok.ensures.absent lacks in cc)

pub returns-in-Err-Failed-clause-unread : goal.returns-in-Err-Failed-clause-unread
returns-in-Err-Failed-clause-unread g c =
    unread c.cannot_read.result c.args.name.now _ _ c.cannot_read.ensures
    (c.read.ensures.failed cc)
