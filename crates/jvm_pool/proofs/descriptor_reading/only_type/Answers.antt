use Rattle.std.proofs.Common.{◌≡◌, ◌<◌, length, arith}
use Rattle.std.proofs.lemmas.Bool.Decides.{nat_tests}
use Rattle.std.proofs.lemmas.Result.{err_from_is_err_and}
use Rattle.jvm_pool.specs.DescriptorReading.{first_type}
use Rattle.jvm_pool.proofs.DescriptorLaws.{answers_bad, err_is, no_type, not_only, only}
use Rattle.jvm_pool.proofs.descriptor_reading.only_type.Goals as goal

pub returns-in_err-found-clause-bad : goal.returns-in_err-found-clause-bad
returns-in_err-found-clause-bad c =
    let p = err_from_is_err_and c.from_residual.result c.from_residual.ensures.1 in
    λ bad. no_type c.args.bytes.now (answers_bad c.in_err-found.field-0.0 (first_type c.args.bytes.now) c.in_err-found.ensures (err_is c.from_residual.result p.0 c.in_err-found.field-0.0 p.1 p.2 bad))

pub returns-then-is_empty-clause-found : goal.returns-then-is_empty-clause-found
returns-then-is_empty-clause-found c =
    let none : length c.in_ok-found.rest.now ≡ 0 = grind (arith, nat_tests) in
    only c.args.bytes.now c.in_ok-found.rest.now c.in_ok-found.found c.in_ok-found.ensures none

pub returns-else-is_empty-clause-bad : goal.returns-else-is_empty-clause-bad
returns-else-is_empty-clause-bad c =
    let some : 0 < length c.in_ok-found.rest.now = grind (arith, nat_tests) in
    λ _. not_only c.args.bytes.now c.in_ok-found.rest.now c.in_ok-found.found c.in_ok-found.ensures some
