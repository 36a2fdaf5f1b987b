use Rattle.std.proofs.Common.{◌≡◌, ◌++◌, ◌∷◌, [], false, sym, ◌∙◌}
use Rattle.std.proofs.lemmas.List.Elements.{All-push}
use Rattle.jvm_pool.specs.Descriptors.{IsFieldType}
use Rattle.jvm_pool.specs.DescriptorReading.{first_type, begins_with}
use Rattle.jvm_pool.proofs.DescriptorLaws.{not_closed, types_further, type_shorter}
use Rattle.jvm_pool.proofs.Judged.{before, nothing_before}
use Rattle.jvm_pool.proofs.Types.{type_takes}
use Rattle.jvm_pool.proofs.descriptor_kinds.behind_parameters.Goals as goal

pub returns-in_err-rest-clause-none : goal.returns-in_err-rest-clause-none
returns-in_err-rest-clause-none c =
    let apart : begins_with 41 c.types.rest.now ≡ false = sym c.is_closed.ensures.value ∙ c.types-test.true in
    λ _. not_closed c.types.invariant.0 c.types.rest.now c.args.bytes.now c.types.invariant.1 c.types.invariant.2 (nothing_before (first_type c.types.rest.now) c.in_err-rest.ensures) apart

pub types-smaller : goal.types-smaller
types-smaller c =
    let p = before (first_type c.types.rest.now) c.in_ok-rest.rest.now c.in_ok-rest.ensures in
    type_shorter c.types.rest.now c.in_ok-rest.rest.now p.0 p.1

pub types-preserved : goal.types-preserved
types-preserved c =
    let p = before (first_type c.types.rest.now) c.in_ok-rest.rest.now c.in_ok-rest.ensures in (
      c.types.invariant.0 ++ p.0 ∷ [],
      All-push IsFieldType c.types.invariant.0 p.0 c.types.invariant.1 (type_takes c.types.rest.now p.0 c.in_ok-rest.rest.now p.1).1,
      types_further c.types.invariant.0 c.types.rest.now c.args.bytes.now c.in_ok-rest.rest.now p.0 c.types.invariant.2 p.1,
    )
