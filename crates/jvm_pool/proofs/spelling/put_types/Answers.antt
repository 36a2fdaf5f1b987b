use Rattle.std.proofs.Common.{◌<◌, length, arith}
use Rattle.std.proofs.lemmas.Str.{IsAscii-append}
use Rattle.jvm_pool.proofs.Spelled.{appended, types_more}
use Rattle.jvm_pool.proofs.spelling.put_types.Goals as goal

pub loop-parameter-preserved : goal.loop-parameter-preserved
loop-parameter-preserved c =
    let lt : c.loop-parameter.parameter-index < length c.args.types.now = omega arith in
    let more = types_more c.args.types.now c.loop-parameter.parameter-index c.parameter-item.result lt c.parameter-item.is in
    record {
      written = appended _ _ _ _ _ _ c.loop-parameter.invariant.written c.in_ok-put_type.ensures.ok more;
      ascii = rw more (IsAscii-append _ _ c.loop-parameter.invariant.ascii c.in_ok-put_type.ensures.ascii);
    }
