use Rattle.std.proofs.Common.{length, ap, subst, ◌∙◌, arith}
use Rattle.jvm_code.specs.Decoding.{Decodes, rows, decode_of}
use Rattle.jvm_code.proofs.Theorem.{is_found, decode_again}
use Rattle.jvm_code.proofs.Whys.{why_not}
use Rattle.jvm_code.proofs.decoding.decode.Goals as goal

pub returns-clause-found : goal.returns-clause-found
returns-clause-found c = is_found c.args.bytes.now c.code_of.result c.requires (λ i. omega (arith, c.type_inv.bytes i)) c.code_of.ensures

pub returns-clause-only : goal.returns-clause-only
returns-clause-only c = λ is fits e. subst (λ f. Decodes (λ v. rows v.items) c.code_of.result f) (ap decode_of e ∙ decode_again is (omega (arith, c.requires, ap length e)) fits) c.code_of.ensures

pub returns-clause-why : goal.returns-clause-why
returns-clause-why c = why_not c.args.bytes.now c.code_of.result c.requires (λ i. omega (arith, c.type_inv.bytes i)) c.code_of.ensures
