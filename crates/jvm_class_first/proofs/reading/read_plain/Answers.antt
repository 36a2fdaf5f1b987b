use Rattle.std.proofs.Common.{◌≡◌, sym, subst}
use Rattle.std.specs.Result.{MatchResult}
use Rattle.jvm_class_first.specs.declared.error.PlainErr.TheVariants.{NoMemory}
use Rattle.jvm_class_first.specs.ClassFile.{IsClassOf}
use Rattle.jvm_class_first.proofs.Read.{found_is, none_found}
use Rattle.jvm_class_first.proofs.reading.read_plain.Goals as goal

pub returns-in-Some-clause-only : goal.returns-in-Some-clause-only
returns-in-Some-clause-only c = λ code class.
    let bytes = c.args.bytes.now in
    let found = c.in-Some.code.items in
    let same : found ≡ code = found_is bytes found code (rw c.in-Some.is at c.in_ok-code.ensures) class in
    subst (λ l. MatchResult c.confirmed.result (λ found. found.items ≡ l) (λ e. e ≡ NoMemory)) same
    (c.confirmed.ensures.only (subst (λ l. IsClassOf bytes l) (sym same) class))

pub returns-in-None-clause-only : goal.returns-in-None-clause-only
returns-in-None-clause-only c = λ code class. absurd (none_found c.args.bytes.now code (rw c.in-None.is at c.in_ok-code.ensures) class)
