use Rattle.std.specs.Prelude.{map}
use Rattle.kt_tree.specs.Declarations.{declaration_tree, enum}
use Rattle.kt_decls_classes.proofs.Faults.{no_header}
use Rattle.kt_decls_judged.proofs.Walking.{entries_told}
use Rattle.kt_decls_judged.proofs.judging.judge_members_of.Goals as goal

pub returns-in-Class : goal.returns-in-Class
returns-in-Class c = rw c.in-Class.is c.judge_class_members.ensures

pub returns-in-Interface : goal.returns-in-Interface
returns-in-Interface c = rw c.in-Interface.is c.judge_interface_functions.ensures

pub returns-in-Enum : goal.returns-in-Enum
returns-in-Enum c = rw c.in-Enum.is (entries_told (map declaration_tree c.args.file.now) (enum c.in-Enum.declared) c.args.scope.now c.args.row c.judge_entries.result c.judge_entries.ensures)

pub returns-in-Function : goal.returns-in-Function
returns-in-Function c = rw c.in-Function.is (λ before there same. no_header (map declaration_tree c.args.file.now))

pub returns-in-Constant : goal.returns-in-Constant
returns-in-Constant c = rw c.in-Constant.is (λ before there same. no_header (map declaration_tree c.args.file.now))
