use Rattle.std.specs.Prelude.{List, [], Result, Ok, Err, Option, ◌≡◌, IfOk}
use Rattle.std.proofs.Common.{ap, subst, sym, ◌∙◌}
use Rattle.kt_base.specs.declared.errors.NoMemory.{NoMemory}
use Rattle.kt_base.specs.declared.refusals.Pos.{Pos}
use Rattle.kt_tree.specs.declared.declarations.EnumEntry.{EnumEntry}
use Rattle.kt_tree.specs.Declarations.{DeclarationTree}
use Rattle.kt_decls_rules.specs.Names.{none_taken}
use Rattle.kt_decls_rules.specs.Headers.{entries_from}
use Rattle.kt_decls_classes.specs.Entries.{first_taken}
use Rattle.kt_decls_classes.specs.Faults.{AreJudged}
use Rattle.kt_decls_classes.proofs.EntriesJudged.{enum_judged}
use Rattle.kt_decls_classes.proofs.entries.judge_entries.Goals as goal

told : (slice es : List EnumEntry) (r : Result (Option Pos) NoMemory) → slice ≡ es → IfOk r (λ place. place ≡ first_taken none_taken slice) → IfOk r (λ place. (file before : List DeclarationTree) → AreJudged file (entries_from [] es) place)
told slice es (Ok place) same is = λ file before. subst (AreJudged file (entries_from [] es)) (sym (is ∙ ap (first_taken none_taken) same)) (enum_judged file es)
told slice es (Err e) same is = tt

pub returns : goal.returns
returns c = told c.as_slice.result.now c.args.declared.now.entries c.first_repeated.result c.as_slice.ensures c.first_repeated.ensures
