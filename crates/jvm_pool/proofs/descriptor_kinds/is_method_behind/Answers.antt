use Rattle.jvm_pool.proofs.Judged.{is_method, method_result}
use Rattle.jvm_pool.proofs.descriptor_kinds.is_method_behind.Goals as goal

pub returns-in-Some : goal.returns-in-Some
returns-in-Some c =
    let types = c.in-Some.ensures.some in (
      λ t. let r = c.is_result.ensures.yes t in is_method c.args.bytes.now c.in-Some.rest.now types.0 r.0 types.1 types.2 r.1 r.2,
      λ m. c.is_result.ensures.no m.1 m.3 (method_result c.args.bytes.now c.in-Some.rest.now types.0 m types.1 types.2),
    )
