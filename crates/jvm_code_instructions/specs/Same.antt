-- Instructions that are one, as far as a clause may see: a table's list may lie elsewhere in memory.
use Rattle.std.specs.Prelude.{◌≡◌, ◌⊎◌}
use Rattle.jvm_code_instructions.specs.declared.instr.TableSwitch.{TableSwitch}
use Rattle.jvm_code_instructions.specs.declared.instr.LookupSwitch.{LookupSwitch}
use Rattle.jvm_code_instructions.specs.declared.instr.Instr.{Instr}
use Rattle.jvm_code_instructions.specs.declared.instr.Instr.TheVariants as instr

abbrev pub SameTables : Instr → Instr → Type 0
SameTables i j = (s : TableSwitch) × (t : TableSwitch) × (i ≡ instr.TableSwitch s) × (j ≡ instr.TableSwitch t)
    × (s.default ≡ t.default) × (s.low ≡ t.low) × (s.targets.items ≡ t.targets.items)

abbrev pub SameLookups : Instr → Instr → Type 0
SameLookups i j = (s : LookupSwitch) × (t : LookupSwitch) × (i ≡ instr.LookupSwitch s) × (j ≡ instr.LookupSwitch t)
    × (s.default ≡ t.default) × (s.pairs.items ≡ t.pairs.items)

abbrev pub SameInstr : Instr → Instr → Type 0
SameInstr i j = (i ≡ j) ⊎ (SameTables i j ⊎ SameLookups i j)
