use Rattle.std.proofs.Common.{◌≡◌, false, sym, ◌∙◌}
use Rattle.std.proofs.lemmas.List.Elements.{All-push}
use Rattle.std.proofs.lemmas.Result.{err_from_is_err_and}
use Rattle.jvm_pool.specs.Descriptors.{IsFieldType}
use Rattle.jvm_pool.specs.DescriptorReading.{first_type, begins_with}
use Rattle.jvm_pool.proofs.DescriptorLaws.{answers_bad, err_is, not_closed, types_further, type_shorter, type_ascii}
use Rattle.jvm_pool.proofs.Types.{type_takes}
use Rattle.jvm_pool.proofs.descriptor_reading.parameters.Goals as goal

pub returns-in_err-found-clause-bad : goal.returns-in_err-found-clause-bad
returns-in_err-found-clause-bad c =
    let p = err_from_is_err_and c.from_residual.result c.from_residual.ensures.1 in
    let apart : begins_with 41 c.types.rest.now ≡ false = sym c.is_closed.ensures.value ∙ c.types-test.true in
    λ bad. not_closed c.types.types.items c.types.rest.now c.args.bytes.now c.types.invariant.types c.types.invariant.read
    (answers_bad c.in_err-found.field-0.0 (first_type c.types.rest.now) c.in_err-found.ensures (err_is c.from_residual.result p.0 c.in_err-found.field-0.0 p.1 p.2 bad)) apart

pub types-smaller : goal.types-smaller
types-smaller c = type_shorter c.types.rest.now c.in_ok-found.behind.now c.in_ok-found.found c.in_ok-found.ensures

pub types-preserved : goal.types-preserved
types-preserved c =
    let is = type_takes c.types.rest.now c.in_ok-found.found c.in_ok-found.behind.now c.in_ok-found.ensures in
    record {
      read = rw c.in_ok-push.ensures.items (types_further c.types.types.items c.types.rest.now c.args.bytes.now c.in_ok-found.behind.now c.in_ok-found.found c.types.invariant.read c.in_ok-found.ensures);
      types = rw c.in_ok-push.ensures.items (All-push IsFieldType c.types.types.items c.in_ok-found.found c.types.invariant.types is.1);
      ascii = type_ascii c.types.rest.now c.in_ok-found.behind.now c.in_ok-found.found c.in_ok-found.ensures c.types.invariant.ascii;
    }
