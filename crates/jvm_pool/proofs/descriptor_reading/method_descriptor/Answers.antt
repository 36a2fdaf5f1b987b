use Rattle.std.proofs.Common.{Err, ap}
use Rattle.std.proofs.lemmas.Result.{err_from_is_err_and}
use Rattle.jvm_pool.proofs.DescriptorLaws.{err_is, not_method}
use Rattle.jvm_pool.proofs.descriptor_reading.method_descriptor.Goals as goal

pub returns-in_err-result-clause-bad : goal.returns-in_err-result-clause-bad
returns-in_err-result-clause-bad c =
    let p = err_from_is_err_and c.from_residual-in_err-result.result c.from_residual-in_err-result.ensures.1 in
    λ bad. not_method c.args.bytes.now c.in_ok-parameters.parameters.items c.in_ok-parameters.rest.now c.in_ok-parameters.ensures.found.0 c.in_ok-parameters.ensures.found.1
    (c.in_err-result.ensures.bad (ap (λ e. Err e) (err_is c.from_residual-in_err-result.result p.0 c.in_err-result.field-0.0 p.1 p.2 bad)))
