use Rattle.std.proofs.Common.{◌≡◌, ◌<◌, ◌^◌, length, Some, None, sym, arith}
use Rattle.std.proofs.lemmas.Bool.Decides.{nat_tests}
use Rattle.std.proofs.lemmas.List.Elements.{All-push}
use Rattle.jvm_pool.specs.ModifiedReading.{first_unit}
use Rattle.jvm_pool.proofs.Texts.{no_text, text_further}
use Rattle.jvm_pool.proofs.Units.{first_unit_takes}
use Rattle.jvm_pool.proofs.modified.read_modified.Goals as goal

pub returns-in_default-clause-bad : goal.returns-in_default-clause-bad
returns-in_default-clause-bad c =
    let some : 0 < length c.loop-rest.rest.now = grind (arith, nat_tests) in
    let none : first_unit c.loop-rest.rest.now ≡ None = sym c.in_default.ensures in
    λ _. no_text c.loop-rest.units.items c.loop-rest.rest.now c.args.bytes.now c.loop-rest.invariant.text c.loop-rest.invariant.read some none

pub loop-rest-preserved : goal.loop-rest-preserved
loop-rest-preserved c =
    let found : first_unit c.loop-rest.rest.now ≡ Some (c.in-Some.unit, c.in-Some.behind.now) = sym c.in-Some.ensures in
    let t = first_unit_takes c.loop-rest.rest.now c.in-Some.unit c.in-Some.behind.now found in
    record {
      read = rw c.in_ok-push.ensures.items (text_further c.loop-rest.units.items c.loop-rest.rest.now c.args.bytes.now c.in-Some.behind.now c.in-Some.unit c.loop-rest.invariant.read found);
      text = rw c.in_ok-push.ensures.items (All-push (λ unit. unit < 2 ^ 16) c.loop-rest.units.items c.in-Some.unit c.loop-rest.invariant.text t.1);
    }
