use Rattle.std.proofs.Common.{◌≡◌, ◌<◌, length, ◌+◌, ◌-◌, [], ◌∷◌, ◌++◌, arith, sym, ◌∙◌}
use Rattle.std.proofs.lemmas.Bool.{eqb-true, eqb-false}
use Rattle.std.proofs.lemmas.List.{map_push, length_push}
use Rattle.jvm_code_instructions.specs.Table.{row_of}
use Rattle.jvm_code.specs.Decoding.{rows, at_row}
use Rattle.jvm_code.proofs.Passes.{code_goes_on, code_ends, code_done}
use Rattle.jvm_code.proofs.decoding.instrs_of.Goals as goal

pub loop-rest-preserved : goal.loop-rest-preserved
loop-rest-preserved c =
    let e : rows c.push.new.self.items ≡ rows c.loop-rest.code.items ++ (length c.args.bytes.now - length c.loop-rest.rest.now, row_of c.in-Ok.instr) ∷ [] = rw c.in_ok-push-in-Ok.ensures.items (map_push at_row _ _) in
    let len : length c.push.new.self.items ≡ length c.loop-rest.code.items + 1 = rw c.in_ok-push-in-Ok.ensures.items (length_push _ _) in
    let some : 0 < length c.loop-rest.rest.now = omega (arith, eqb-false _ _ (sym c.is_empty.ensures ∙ c.loop-rest-test.true)) in
    record {
      so_far = rw e (code_goes_on (rows c.loop-rest.code.items) (length c.args.bytes.now - length c.loop-rest.code.items) (length c.args.bytes.now - length c.push.new.self.items) (length c.args.bytes.now) c.loop-rest.rest.now (row_of c.in-Ok.instr, c.in-Ok.after.now) _ (omega arith) some c.in-Ok.ensures.is c.loop-rest.invariant.so_far);
      room = omega (arith, c.in-Ok.ensures.shorter);
    }

pub returns-in-Err : goal.returns-in-Err
returns-in-Err c =
    let some : 0 < length c.loop-rest.rest.now = omega (arith, eqb-false _ _ (sym c.is_empty.ensures ∙ c.loop-rest-test.true)) in
    rw c.error_of.ensures (code_ends (rows c.loop-rest.code.items) (length c.args.bytes.now - length c.loop-rest.code.items) (length c.args.bytes.now) c.loop-rest.rest.now c.in-Err.fault _ (omega arith) some c.in-Err.ensures.is c.loop-rest.invariant.so_far)

pub returns : goal.returns
returns c = code_done (rows c.loop-rest.code.items) (length c.args.bytes.now - length c.loop-rest.code.items) (length c.args.bytes.now) c.loop-rest.rest.now _ (eqb-true _ _ (sym c.is_empty.ensures ∙ c.loop-rest-test.false)) c.loop-rest.invariant.so_far
