-- Where the instructions of each row lead.
use Rattle.std.proofs.Common.{◌≡◌, ℕ, true, false, List, [], refl}
use Rattle.jvm_code_opcodes.specs.declared.opcodes.LoadOp.{LoadOp}
use Rattle.jvm_code_opcodes.specs.declared.opcodes.LoadOp.TheVariants.{Iload, Lload, Aload}
use Rattle.jvm_code_opcodes.specs.declared.opcodes.FixedLoad.{FixedLoad}
use Rattle.jvm_code_opcodes.specs.declared.opcodes.FixedLoad.TheVariants.{Iload0, Iload1, Iload2, Iload3, Lload0, Lload1, Lload2, Lload3, Aload0, Aload1, Aload2, Aload3}
use Rattle.jvm_code_opcodes.specs.declared.opcodes.ArrayLoad.{ArrayLoad}
use Rattle.jvm_code_opcodes.specs.declared.opcodes.ArrayLoad.TheVariants.{Iaload, Aaload}
use Rattle.jvm_code_opcodes.specs.declared.opcodes.StoreOp.{StoreOp}
use Rattle.jvm_code_opcodes.specs.declared.opcodes.StoreOp.TheVariants.{Istore, Lstore, Astore}
use Rattle.jvm_code_opcodes.specs.declared.opcodes.FixedStore.{FixedStore}
use Rattle.jvm_code_opcodes.specs.declared.opcodes.FixedStore.TheVariants.{Istore0, Istore1, Istore2, Istore3, Lstore0, Lstore1, Lstore2, Lstore3, Astore0, Astore1, Astore2, Astore3}
use Rattle.jvm_code_opcodes.specs.declared.opcodes.ArrayStore.{ArrayStore}
use Rattle.jvm_code_opcodes.specs.declared.opcodes.ArrayStore.TheVariants.{Iastore, Aastore}
use Rattle.jvm_code_opcodes.specs.declared.opcodes.Arithmetic.{Arithmetic}
use Rattle.jvm_code_opcodes.specs.declared.opcodes.Arithmetic.TheVariants.{Iadd, Ladd, Isub, Lsub, Imul, Lmul}
use Rattle.jvm_code_opcodes.specs.declared.opcodes.Division.{Division}
use Rattle.jvm_code_opcodes.specs.declared.opcodes.Division.TheVariants.{Idiv, Ldiv, Irem, Lrem}
use Rattle.jvm_code_opcodes.specs.declared.opcodes.Negation.{Negation}
use Rattle.jvm_code_opcodes.specs.declared.opcodes.Negation.TheVariants.{Ineg, Lneg}
use Rattle.jvm_code_opcodes.specs.declared.opcodes.Shift.{Shift}
use Rattle.jvm_code_opcodes.specs.declared.opcodes.Shift.TheVariants.{Ishl, Lshl, Ishr, Lshr, Iushr, Lushr}
use Rattle.jvm_code_opcodes.specs.declared.opcodes.Bitwise.{Bitwise}
use Rattle.jvm_code_opcodes.specs.declared.opcodes.Bitwise.TheVariants.{Iand, Land, Ior, Lor, Ixor, Lxor}
use Rattle.jvm_code_opcodes.specs.declared.opcodes.Conversion.{Conversion}
use Rattle.jvm_code_opcodes.specs.declared.opcodes.Conversion.TheVariants.{I2l, L2i, I2c}
use Rattle.jvm_code_opcodes.specs.declared.opcodes.ReturnOp.{ReturnOp}
use Rattle.jvm_code_opcodes.specs.declared.opcodes.ReturnOp.TheVariants.{Ireturn, Lreturn, Areturn, Return}
use Rattle.jvm_code_opcodes.specs.declared.opcodes.FieldOp.{FieldOp}
use Rattle.jvm_code_opcodes.specs.declared.opcodes.FieldOp.TheVariants.{Getfield, Putfield}
use Rattle.class_verify_rules.specs.Acts.{load, fixed_load, load_element, store, fixed_store, store_element, arithmetic, divide, negate, shift, bitwise, convert, leave, use_field}
use Rattle.class_verify_rules.specs.Frames.{goes_on, targets}

pub load_on : (op : LoadOp) (x : ℕ) → true ≡ goes_on (load op x)
load_on Iload x = refl
load_on Lload x = refl
load_on Aload x = refl

pub load_targets : (op : LoadOp) (x : ℕ) → ◌≡◌ {A = List ℕ} [] (targets (load op x))
load_targets Iload x = refl
load_targets Lload x = refl
load_targets Aload x = refl

pub fixed_load_on : (op : FixedLoad) → true ≡ goes_on (fixed_load op)
fixed_load_on Iload0 = refl
fixed_load_on Iload1 = refl
fixed_load_on Iload2 = refl
fixed_load_on Iload3 = refl
fixed_load_on Lload0 = refl
fixed_load_on Lload1 = refl
fixed_load_on Lload2 = refl
fixed_load_on Lload3 = refl
fixed_load_on Aload0 = refl
fixed_load_on Aload1 = refl
fixed_load_on Aload2 = refl
fixed_load_on Aload3 = refl

pub fixed_load_targets : (op : FixedLoad) → ◌≡◌ {A = List ℕ} [] (targets (fixed_load op))
fixed_load_targets Iload0 = refl
fixed_load_targets Iload1 = refl
fixed_load_targets Iload2 = refl
fixed_load_targets Iload3 = refl
fixed_load_targets Lload0 = refl
fixed_load_targets Lload1 = refl
fixed_load_targets Lload2 = refl
fixed_load_targets Lload3 = refl
fixed_load_targets Aload0 = refl
fixed_load_targets Aload1 = refl
fixed_load_targets Aload2 = refl
fixed_load_targets Aload3 = refl

pub load_element_on : (op : ArrayLoad) → true ≡ goes_on (load_element op)
load_element_on Iaload = refl
load_element_on Aaload = refl

pub load_element_targets : (op : ArrayLoad) → ◌≡◌ {A = List ℕ} [] (targets (load_element op))
load_element_targets Iaload = refl
load_element_targets Aaload = refl

pub store_on : (op : StoreOp) (x : ℕ) → true ≡ goes_on (store op x)
store_on Istore x = refl
store_on Lstore x = refl
store_on Astore x = refl

pub store_targets : (op : StoreOp) (x : ℕ) → ◌≡◌ {A = List ℕ} [] (targets (store op x))
store_targets Istore x = refl
store_targets Lstore x = refl
store_targets Astore x = refl

pub fixed_store_on : (op : FixedStore) → true ≡ goes_on (fixed_store op)
fixed_store_on Istore0 = refl
fixed_store_on Istore1 = refl
fixed_store_on Istore2 = refl
fixed_store_on Istore3 = refl
fixed_store_on Lstore0 = refl
fixed_store_on Lstore1 = refl
fixed_store_on Lstore2 = refl
fixed_store_on Lstore3 = refl
fixed_store_on Astore0 = refl
fixed_store_on Astore1 = refl
fixed_store_on Astore2 = refl
fixed_store_on Astore3 = refl

pub fixed_store_targets : (op : FixedStore) → ◌≡◌ {A = List ℕ} [] (targets (fixed_store op))
fixed_store_targets Istore0 = refl
fixed_store_targets Istore1 = refl
fixed_store_targets Istore2 = refl
fixed_store_targets Istore3 = refl
fixed_store_targets Lstore0 = refl
fixed_store_targets Lstore1 = refl
fixed_store_targets Lstore2 = refl
fixed_store_targets Lstore3 = refl
fixed_store_targets Astore0 = refl
fixed_store_targets Astore1 = refl
fixed_store_targets Astore2 = refl
fixed_store_targets Astore3 = refl

pub store_element_on : (op : ArrayStore) → true ≡ goes_on (store_element op)
store_element_on Iastore = refl
store_element_on Aastore = refl

pub store_element_targets : (op : ArrayStore) → ◌≡◌ {A = List ℕ} [] (targets (store_element op))
store_element_targets Iastore = refl
store_element_targets Aastore = refl

pub arithmetic_on : (op : Arithmetic) → true ≡ goes_on (arithmetic op)
arithmetic_on Iadd = refl
arithmetic_on Ladd = refl
arithmetic_on Isub = refl
arithmetic_on Lsub = refl
arithmetic_on Imul = refl
arithmetic_on Lmul = refl

pub arithmetic_targets : (op : Arithmetic) → ◌≡◌ {A = List ℕ} [] (targets (arithmetic op))
arithmetic_targets Iadd = refl
arithmetic_targets Ladd = refl
arithmetic_targets Isub = refl
arithmetic_targets Lsub = refl
arithmetic_targets Imul = refl
arithmetic_targets Lmul = refl

pub divide_on : (op : Division) → true ≡ goes_on (divide op)
divide_on Idiv = refl
divide_on Ldiv = refl
divide_on Irem = refl
divide_on Lrem = refl

pub divide_targets : (op : Division) → ◌≡◌ {A = List ℕ} [] (targets (divide op))
divide_targets Idiv = refl
divide_targets Ldiv = refl
divide_targets Irem = refl
divide_targets Lrem = refl

pub negate_on : (op : Negation) → true ≡ goes_on (negate op)
negate_on Ineg = refl
negate_on Lneg = refl

pub negate_targets : (op : Negation) → ◌≡◌ {A = List ℕ} [] (targets (negate op))
negate_targets Ineg = refl
negate_targets Lneg = refl

pub shift_on : (op : Shift) → true ≡ goes_on (shift op)
shift_on Ishl = refl
shift_on Lshl = refl
shift_on Ishr = refl
shift_on Lshr = refl
shift_on Iushr = refl
shift_on Lushr = refl

pub shift_targets : (op : Shift) → ◌≡◌ {A = List ℕ} [] (targets (shift op))
shift_targets Ishl = refl
shift_targets Lshl = refl
shift_targets Ishr = refl
shift_targets Lshr = refl
shift_targets Iushr = refl
shift_targets Lushr = refl

pub bitwise_on : (op : Bitwise) → true ≡ goes_on (bitwise op)
bitwise_on Iand = refl
bitwise_on Land = refl
bitwise_on Ior = refl
bitwise_on Lor = refl
bitwise_on Ixor = refl
bitwise_on Lxor = refl

pub bitwise_targets : (op : Bitwise) → ◌≡◌ {A = List ℕ} [] (targets (bitwise op))
bitwise_targets Iand = refl
bitwise_targets Land = refl
bitwise_targets Ior = refl
bitwise_targets Lor = refl
bitwise_targets Ixor = refl
bitwise_targets Lxor = refl

pub convert_on : (op : Conversion) → true ≡ goes_on (convert op)
convert_on I2l = refl
convert_on L2i = refl
convert_on I2c = refl

pub convert_targets : (op : Conversion) → ◌≡◌ {A = List ℕ} [] (targets (convert op))
convert_targets I2l = refl
convert_targets L2i = refl
convert_targets I2c = refl

pub leave_on : (op : ReturnOp) → false ≡ goes_on (leave op)
leave_on Ireturn = refl
leave_on Lreturn = refl
leave_on Areturn = refl
leave_on Return = refl

pub leave_targets : (op : ReturnOp) → ◌≡◌ {A = List ℕ} [] (targets (leave op))
leave_targets Ireturn = refl
leave_targets Lreturn = refl
leave_targets Areturn = refl
leave_targets Return = refl

pub field_on : (op : FieldOp) (x : ℕ) → true ≡ goes_on (use_field op x)
field_on Getfield x = refl
field_on Putfield x = refl

pub field_targets : (op : FieldOp) (x : ℕ) → ◌≡◌ {A = List ℕ} [] (targets (use_field op x))
field_targets Getfield x = refl
field_targets Putfield x = refl
