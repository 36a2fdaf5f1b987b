use Rattle.std.proofs.Common.{sym, arith, subst}
use Rattle.std.specs.List.Sorted.{IsStrictlyIncreasing}
use Rattle.jvm_code.specs.Decoding.{rows, starts_of}
use Rattle.jvm_code.proofs.Theorem.{read_ascends}
use Rattle.jvm_code.proofs.decoding.code_of.Goals as goal

pub bad_target-requires : goal.bad_target-requires
bad_target-requires c =
    subst (λ is. IsStrictlyIncreasing (starts_of (rows is))) (sym c.deref.ensures.value) (read_ascends c.args.bytes.now (rows c.in_ok-code.code.items) c.requires (λ i. omega (arith, c.type_inv.bytes i)) c.in_ok-code.ensures)
