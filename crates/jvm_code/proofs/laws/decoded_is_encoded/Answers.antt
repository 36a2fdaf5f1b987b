use Rattle.std.proofs.Common.{sym, arith}
use Rattle.jvm_code.proofs.Theorem.{decode_takes}
use Rattle.jvm_code.proofs.laws.decoded_is_encoded.Goals as goal

pub returns : goal.returns
returns c = λ code read. let t = decode_takes c.args.bytes.now code c.requires (λ i. omega (arith, c.type_inv.bytes i)) read in (t.0, sym t.1)
