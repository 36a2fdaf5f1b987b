-- Small classes and where they are rejected.
use Rattle.std.specs.Prelude.{ℕ, List, [], ◌∷◌, ◌++◌, Some, None, codes, replicate}
use Rattle.jvm_code_opcodes.specs.declared.opcodes.InvokeOp.TheVariants.{Invokestatic}
use Rattle.jvm_code_opcodes.specs.declared.opcodes.ReturnOp.TheVariants.{Return}
use Rattle.jvm_code_opcodes.specs.declared.opcodes.StackOp.TheVariants.{Pop}
use Rattle.jvm_code_instructions.specs.declared.instr.Instr.{Instr}
use Rattle.jvm_code_instructions.specs.declared.instr.Instr.TheVariants as instr
use Rattle.jvm_class_types.specs.declared.flags.ClassFlags.TheVariants as class_flag
use Rattle.jvm_class_types.specs.declared.flags.MethodFlags.TheVariants as flag
use Rattle.class_linked.specs.Numbers.{first_file_class, turn_class}
use Rattle.class_linked.specs.declared.constants.Constant.TheVariants as constant
use Rattle.class_linked.specs.declared.methods.LinkedMethod.{LinkedMethod}
use Rattle.class_linked.specs.declared.methods.Role.TheVariants as role
use Rattle.class_linked.specs.declared.classes.Linked.{Linked}
use Rattle.class_linked.specs.declared.classes.LinkedClass.{LinkedClass}
use Rattle.class_verify_rules.specs.Verified.{IsRejected, IsVerified}

-- a static method that takes nothing and gives nothing
abbrev pub ticking : LinkedMethod
ticking = record {
  flags = flag.Static;
  role = role.Ordinary;
  parameters = [];
  result = None;
  selector = None;
  code = None;
}

-- each of the machine's classes, with that method alone
abbrev pub own_class : LinkedClass
own_class = record {
  name = [];
  flags = class_flag.Open;
  above = None;
  interfaces = [];
  supers = [];
  fields = [];
  methods = ticking ∷ [];
  table = [];
  faces = [];
  constants = [];
}

abbrev pub main_method : List (ℕ × Instr) → LinkedMethod
main_method code = record {
  flags = flag.Static;
  role = role.Ordinary;
  parameters = [];
  result = None;
  selector = None;
  code = Some (record { max_stack = 1; max_locals = 0; instructions = code; handlers = []; frames = [] });
}

-- a class with one static method `main()V`, without frames, in whose pool the first entry is `kt/rt/Turn.tick()V`
abbrev pub main_class : List (ℕ × Instr) → LinkedClass
main_class code = record {
  name = codes "MainKt";
  flags = class_flag.Open;
  above = Some 0;
  interfaces = [];
  supers = 0 ∷ 36 ∷ [];
  fields = [];
  methods = main_method code ∷ [];
  table = [];
  faces = [];
  constants = constant.Nothing ∷ constant.Method (record { named = 22; owner = 22; place = 0 }) ∷ [];
}

abbrev pub example : List (ℕ × Instr) → Linked
example code = record { classes = replicate 36 own_class ++ main_class code ∷ [] }

abbrev pub tick : Instr
tick = instr.Invoke Invokestatic 1

abbrev pub return : Instr
return = instr.Return Return

-- a tick, an instruction at offset 3, and a return
abbrev pub ticked : Instr → ℕ → List (ℕ × Instr)
ticked i end = (0, tick) ∷ (3, i) ∷ (end, return) ∷ []

-- a tick and a return
abbrev pub shortest : List (ℕ × Instr)
shortest = (0, tick) ∷ (3, return) ∷ []

abbrev pub IsAccepted : Type 0
IsAccepted = IsVerified (example shortest)

-- a return without a tick before it; a tick, and a *pop* of nothing; a tick, and a *goto* to itself that has no frame
abbrev pub AreRejected : Type 0
AreRejected =
    IsRejected (example ((0, return) ∷ [])) first_file_class 1 0
    × IsRejected (example (ticked (instr.Stack Pop) 4)) first_file_class 1 3
    × IsRejected (example (ticked (instr.Goto 3) 6)) first_file_class 1 3
