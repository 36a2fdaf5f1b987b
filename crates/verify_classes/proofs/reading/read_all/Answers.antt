use Rattle.std.proofs.Common.{◌≡◌, suc, ◌+◌, ◌++◌, ◌∷◌, [], List, ℕ, map, take, drop, sym, subst, ◌∙◌, arith}
use Rattle.std.proofs.lemmas.Result.{err_from_is_err_and}
use Rattle.std.specs.Prelude.{string_bytes}
use Rattle.kt_outside.specs.Held.{Contents}
use Rattle.jvm_class_types.specs.declared.classes.ClassFile.{ClassFile}
use Rattle.class_answers.proofs.Names.{names_around, names_next}
use Rattle.class_answers.specs.declared.answers.Answer.{Answer}
use Rattle.verify_classes.specs.Reading.{AreRead, IsNot, IsReadAs, WhyNot}
use Rattle.verify_classes.proofs.Read.{read_next}
use Rattle.verify_classes.proofs.reading.read_all.Goals as goal

pub returns-in_err-read_more-clause-not : goal.returns-in_err-read_more-clause-not
returns-in_err-read_more-clause-not g c =
    let l = c.loop-name in
    let held = g.F.Files.held c.args.files.now in
    let before = g.F.Files.read_faults c.args.files.now in
    let after = g.F.Files.read_faults c.read_more.new.files in
    let a = c.in_err-read_more.field-0.0 in
    let name = string_bytes c.name-item.result in
    let first = subst (λ (n : List ℕ). IsNot (g.F.Files.held l.files) n (g.F.Files.read_faults l.files) after a) c.as_str.ensures.value c.in_err-read_more.ensures.not in
    let second = subst (λ (h : Contents). IsNot h name (g.F.Files.read_faults l.files) after a) l.invariant.held first in
    let third = subst (λ (b : List (List ℕ)). IsNot held name b after a) l.invariant.no_fault second in
    let why : WhyNot held (map string_bytes c.args.names.now) before after a = record {
      front = map string_bytes (take l.name-index c.args.names.now);
      name = name;
      behind = map string_bytes (drop (suc l.name-index) c.args.names.now);
      names_are = names_around c.args.names.now l.name-index c.name-item.result (omega arith) c.name-item.is;
      classes = l.classes.items;
      read = l.invariant.read;
      answered = third;
    } in
    let p = err_from_is_err_and c.from_residual.result c.from_residual.ensures.1 in
    rw (p.1, p.2) why

pub loop-name-preserved : goal.loop-name-preserved
loop-name-preserved g c =
    let l = c.loop-name in
    let held = g.F.Files.held c.args.files.now in
    let name = string_bytes c.name-item.result in
    let r = c.in_ok-read_more.ensures.read in
    let named = subst (λ (n : List ℕ). IsReadAs (g.F.Files.held l.files) n r.0) c.as_str.ensures.value r.1 in
    let is = subst (λ (h : Contents). IsReadAs h name r.0) l.invariant.held named in
    let more = read_next held (map string_bytes (take l.name-index c.args.names.now)) name l.classes.items r.0 l.invariant.read is in
    let next = names_next c.args.names.now l.name-index c.name-item.result (omega arith) c.name-item.is in
    let grown = subst (λ (cs : List ClassFile). AreRead held (map string_bytes (take l.name-index c.args.names.now) ++ name ∷ []) cs) (sym r.2) more in
    record {
      read = subst (λ (ns : List (List ℕ)). AreRead held ns c.read_more.new.classes.items) (sym next) grown;
      no_fault = c.in_ok-read_more.ensures.no_fault ∙ l.invariant.no_fault;
      held = c.in_ok-read_more.ensures.files_stay ∙ l.invariant.held;
      puts = c.in_ok-read_more.ensures.no_put ∙ l.invariant.puts;
    }
