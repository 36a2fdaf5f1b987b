use Rattle.jvm_code.proofs.Theorem.{decode_again}
use Rattle.jvm_code.proofs.laws.encoded_is_decoded.Goals as goal

pub returns : goal.returns
returns c = λ code laid short. decode_again code short laid
