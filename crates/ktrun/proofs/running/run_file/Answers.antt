use Rattle.std.proofs.Common.{◌≡◌, false, true}
use Rattle.ktrun.proofs.Runs.{has_source, read_ran, told}
use Rattle.ktrun.proofs.running.run_file.Goals as goal

pub returns-clause-ran : goal.returns-clause-ran
returns-clause-ran g c =
    read_ran (g.F.Files.held c.args.files.now) c.args.name.now c.as_slice.result.now c.run_text.result
    (has_source _ _ _ (λ bytes holds. told bytes (c.in_ok-read.ensures.whole bytes holds) c.new-source.ensures.items c.as_slice.ensures.value)
    (λ lacks. let no : false ≡ true = c.in_ok-read.ensures.absent lacks in cc)) c.run_text.ensures.ran

pub returns-clause-not_built : goal.returns-clause-not_built
returns-clause-not_built g c = λ is. (
  c.as_slice.result.now,
  has_source _ _ _ (λ bytes holds. told bytes (c.in_ok-read.ensures.whole bytes holds) c.new-source.ensures.items c.as_slice.ensures.value)
      (λ lacks. let no : false ≡ true = c.in_ok-read.ensures.absent lacks in cc),
  c.run_text.ensures.not_built is,
)

pub returns-clause-refused : goal.returns-clause-refused
returns-clause-refused g c r is = (
  c.as_slice.result.now,
  has_source _ _ _ (λ bytes holds. told bytes (c.in_ok-read.ensures.whole bytes holds) c.new-source.ensures.items c.as_slice.ensures.value)
      (λ lacks. let no : false ≡ true = c.in_ok-read.ensures.absent lacks in cc),
  c.run_text.ensures.refused r is,
)
