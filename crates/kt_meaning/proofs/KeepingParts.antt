-- The rules of each chapter keep what code keeps.
use Rattle.std.proofs.Common.{◌≤◌, ℕ, zero, suc, ℤ, pos, negsuc, Bool, true, false, List, [], ◌∷◌, ◌++◌, Option, Some, None, arith, map}
use Rattle.std.specs.Prelude.{◌&&◌, ◌==◌, slice_get, int_le, length, take, option_map, codes, replicate, ◌+◌, ◌+ℤ◌, int_lt, not}
use Rattle.kt_base.specs.declared.lumps.Lump.{Lump}
use Rattle.kt_base.specs.declared.lumps.Node.{Node}
use Rattle.kt_base.specs.declared.lumps.Node.TheVariants as node
use Rattle.kt_base.specs.declared.events.Fate.{Fate}
use Rattle.kt_base.specs.declared.events.Fate.TheVariants as fate
use Rattle.kt_base.specs.declared.events.Event.TheVariants as event
use Rattle.kt_base.specs.declared.events.Answer.{Answer}
use Rattle.kt_base.specs.declared.events.Answer.TheVariants as answer
use Rattle.kt_tree.specs.declared.bodies.PrefixOperator.{PrefixOperator}
use Rattle.kt_tree.specs.declared.bodies.PrefixOperator.TheVariants as prefix
use Rattle.kt_tree.specs.declared.bodies.StepOperator.{StepOperator}
use Rattle.kt_tree.specs.declared.bodies.StepOperator.TheVariants as step
use Rattle.kt_tree.specs.declared.bodies.RangeOperator.{RangeOperator}
use Rattle.kt_types_tree.specs.declared.hierarchy.ClassKind.{ClassKind}
use Rattle.kt_types_tree.specs.declared.hierarchy.ClassKind.TheVariants as kind
use Rattle.kt_types_tree.specs.Types.{TypeForm}
use Rattle.kt_typed.specs.declared.operators.Width.{Width}
use Rattle.kt_typed.specs.declared.operators.ArithmeticOperator.{ArithmeticOperator}
use Rattle.kt_typed.specs.declared.operators.ArithmeticOperator.TheVariants as arithmetic
use Rattle.kt_typed.specs.declared.operators.TypedOperator.{TypedOperator}
use Rattle.kt_typed.specs.declared.operators.TypedOperator.TheVariants as operator
use Rattle.kt_typed.specs.declared.operators.TypedProperty.{TypedProperty}
use Rattle.kt_typed.specs.declared.operators.TypedProperty.TheVariants as property
use Rattle.kt_typed.specs.declared.operators.BuiltIn.{BuiltIn}
use Rattle.kt_typed.specs.declared.operators.BuiltIn.TheVariants as built_in
use Rattle.kt_typed.specs.declared.operators.BuiltInMethod.{BuiltInMethod}
use Rattle.kt_typed.specs.declared.operators.BuiltInMethod.TheVariants as method
use Rattle.kt_typed.specs.declared.operators.CaptureSource.{CaptureSource}
use Rattle.kt_typed.specs.declared.operators.CaptureSource.TheVariants as source
use Rattle.kt_typed.specs.Operators.{CaptureForm}
use Rattle.kt_typed.specs.Bodies.{FunForm, fun}
use Rattle.kt_typed.specs.Headers.{PropertyForm}
use Rattle.kt_typed.specs.Units.{UnitForm}
use Rattle.kt_values.specs.Values as v
use Rattle.kt_values.specs.Values.{Value, Shape, Object, instance, numbers, elements, variable, as_int, as_truth, as_text, as_cell, listed, is_null}
use Rattle.kt_values.specs.Numbers.{count_as_int}
use Rattle.kt_values.specs.Throwables.{Fault, failed_cast, null_asserted, array_index, text_index, negative_size, already_resumed, zero_divisor, text_too_long}
use Rattle.kt_values.specs.Texts.{text_of_basic, is_too_long}
use Rattle.kt_values.specs.Runs.{Store, Gives, gave, thrown, returned, broken, continued, stopped, Run}
use Rattle.kt_values.specs.Heap.{object_of}
use Rattle.kt_values.proofs.Keeping.{Kept, IsFine, Keeps, restrict, then_fine, binds, follows, gives, throws_keeps, unfit_keeps, spent_keeps, or_unfit_keeps, charge_keeps, charged_keeps, no_turn_keeps, ask_keeps, make_keeps, reads, read_slot_keeps, write_slot_keeps, raise_keeps, cond_keeps}
use Rattle.kt_meaning.specs.Activations.{Activation, Called, of_member, of_constructor, of_lambda, generated_equals, generated_to_string}
use Rattle.kt_meaning.specs.Classes as c
use Rattle.kt_meaning.specs.Types.{is_of, cast_result, cast_to, asserted}
use Rattle.kt_meaning.specs.Variables.{local_slot, set_local_slot, value_in, read_local, write_in, write_local, read_captured, write_taken, write_captured, declare_as, declared, captured_from, captured_all, lambda_value}
use Rattle.kt_meaning.specs.Lumps.{lump_of, exported, entry_from, made_from, closure_from, object_from, with_node, all_imported, one, imported, outcome, lambda_named}
use Rattle.kt_meaning.specs.Equality.{equal_basic, call_equals, equals_of, equal, compared, properties_equal, data_equal}
use Rattle.kt_meaning.specs.Printing.{call_to_string, to_string_of, text_of, joined, concatenated, put_properties, data_text}
use Rattle.kt_values.specs.Numbers.{quotient, remainder}
use Rattle.std.specs.Int.{int_wrapping_add, int_wrapping_sub, int_wrapping_mul}
use Rattle.kt_meaning.specs.Operators.{bits_of, number, operand, joined_bits, shifted, is_ordered, rank, negated, divided, calculated, prefixed, stepped, both, applied, if_true, if_false, if_null, operation}
use Rattle.kt_meaning.specs.Access.{object_at, size_of, read_property, write_property, at_index, index_in, slot_at, or_raise, element_at, element, put_at, put_element}
use Rattle.kt_meaning.specs.Assignments.{Place, in_local, in_captured, in_property, in_element, read_place, write_place}
use Rattle.kt_meaning.specs.Conditionals.{branch, unless_null}
use Rattle.kt_meaning.specs.Loops.{turned, after_turn, while_true, while_loop, do_loop, for_loop, over_range, last_of}
use Rattle.kt_meaning.specs.Exceptions.{or_caught, caught_by, and_last, with_last, breaks, continues}
use Rattle.kt_meaning.specs.Calls.{constructed, message_of, built_throwable, run_superclass, built_above, initialized, declaration, body_on, called_on, called_value}
use Rattle.kt_meaning.specs.BuiltIns.{done, printed, print, drawn, launch, awaited, suspend, won, resumed, filled, new_array, call_built_in, cut_out, is_outside, units_between, substring, converted, call_built_in_on}

pub reflexive : (m : ℕ) → m ≤ m
reflexive m = omega arith

-- Types.

cast_result_keeps : {n m : ℕ} (fits or_null : Bool) (x : Value) → Keeps n m (cast_result fits or_null x)
cast_result_keeps true or_null x = gives x
cast_result_keeps false true x = gives v.null
cast_result_keeps false false x = raise_keeps failed_cast

pub cast_keeps : {n m : ℕ} (u : UnitForm) (or_null : Bool) (t : TypeForm) (x : Value)
    → Keeps n m (cast_to u or_null t x)
cast_keeps u or_null t x = cast_result_keeps (is_of u t x) or_null x

pub asserted_keeps : {n m : ℕ} (x : Value) → Keeps n m (asserted x)
asserted_keeps v.null = raise_keeps null_asserted
asserted_keeps x = gives x

-- Variables.

local_slot_keeps : {n m : ℕ} (i : ℕ) → Keeps n m (local_slot i)
local_slot_keeps i = reads (λ s. slice_get s.variables i)

pub set_local_keeps : {n m : ℕ} (i : ℕ) (x : Value) → Keeps n m (set_local_slot i x)
set_local_keeps i x = record { each = λ k le s w. w }

value_in_keeps : {n m : ℕ} (x : Value) → Keeps n m (value_in x)
value_in_keeps (v.reference variable place) = read_slot_keeps (v.reference variable place) 0
value_in_keeps x = gives x

pub read_local_keeps : {n m : ℕ} (i : ℕ) → Keeps n m (read_local i)
read_local_keeps i = binds (local_slot_keeps i) value_in_keeps

write_in_keeps : {n m : ℕ} (i : ℕ) (new x : Value) → Keeps n m (write_in i new x)
write_in_keeps i new (v.reference variable place) = write_slot_keeps (v.reference variable place) 0 new
write_in_keeps i new _ = set_local_keeps i new

write_local_keeps : {n m : ℕ} (i : ℕ) (new : Value) → Keeps n m (write_local i new)
write_local_keeps i new = binds (local_slot_keeps i) (write_in_keeps i new)

pub read_captured_keeps : {n m : ℕ} (here : Activation) (i : ℕ) → Keeps n m (read_captured here i)
read_captured_keeps here i = binds (or_unfit_keeps (slice_get here.captures i)) value_in_keeps

write_taken_keeps : {n m : ℕ} (new x : Value) → Keeps n m (write_taken new x)
write_taken_keeps new (v.reference variable place) = write_slot_keeps (v.reference variable place) 0 new
write_taken_keeps new _ = unfit_keeps

write_captured_keeps : {n m : ℕ} (here : Activation) (i : ℕ) (new : Value) → Keeps n m (write_captured here i new)
write_captured_keeps here i new = binds (or_unfit_keeps (slice_get here.captures i)) (write_taken_keeps new)

declare_as_keeps : {n m : ℕ} (shared : Bool) (i : ℕ) (first : Value) → Keeps n m (declare_as shared i first)
declare_as_keeps false i first = set_local_keeps i first
declare_as_keeps true i first = binds (make_keeps variable (first ∷ [])) (λ x. set_local_keeps i x)

pub declared_keeps : {n m : ℕ} (here : Activation) (i : ℕ) (first : Value) → Keeps n m (declared here i first)
declared_keeps here i first = declare_as_keeps (here.is_shared i) i first

captured_from_keeps : {n m : ℕ} (here : Activation) (c : CaptureSource) → Keeps n m (captured_from here c)
captured_from_keeps here source.This = gives here.receiver
captured_from_keeps here (source.Local i) = local_slot_keeps i
captured_from_keeps here (source.Captured i) = or_unfit_keeps (slice_get here.captures i)

captured_all_keeps : {n m : ℕ} (here : Activation) (cs : List CaptureForm) → Keeps n m (captured_all here cs)
captured_all_keeps here [] = gives []
captured_all_keeps here (c ∷ cs) =
    binds (captured_from_keeps here c.source) (λ first. binds (captured_all_keeps here cs)
    (λ rest. gives (first ∷ rest)))

pub lambda_keeps : {n m : ℕ} (here : Activation) (i : ℕ) (f : FunForm) → Keeps n m (lambda_value here i f)
lambda_keeps here i (fun at suspends captures parameters locals result statements) =
    follows charge_keeps (binds (captured_all_keeps here captures) (λ taken. gives _))

-- Lumps.

lump_keeps : {n m : ℕ} (u : UnitForm) (x : Value) → Keeps n m (lump_of u x)
lump_keeps u x = reads (λ s. exported u s.heap (length s.heap + 2) x)

made_from_keeps : {n m : ℕ} (k : Option ClassKind) (c : ℕ) (fields : List Value) → Keeps n m (made_from k c fields)
made_from_keeps (Some kind.Enum) c fields = or_unfit_keeps (entry_from c fields)
made_from_keeps _ c fields = make_keeps (instance c) fields

object_from_keeps : {n m : ℕ} (u : UnitForm) (c : Option ℕ) (name : List ℕ) (fields : List Value)
    → Keeps n m (object_from u c name fields)
object_from_keeps u (Some c) name fields = made_from_keeps _ c fields
object_from_keeps u None name fields = or_unfit_keeps (closure_from (lambda_named u name) fields)

with_node_keeps : {n m : ℕ} (u : UnitForm) (i : Node) (behind : List Value) → Keeps n m (with_node u i behind)
with_node_keeps u (node.Int i) behind = gives _
with_node_keeps u (node.Long i) behind = gives _
with_node_keeps u (node.Bool b) behind = gives _
with_node_keeps u (node.Char c) behind = gives _
with_node_keeps u (node.Text t) behind = gives _
with_node_keeps u node.Null behind = gives _
with_node_keeps u node.UnitNode behind = gives _
with_node_keeps u (node.Cell c) behind = gives _
with_node_keeps u (node.Object name count) behind =
    binds (object_from_keeps u (c.class_named u name) name (take count behind)) (λ x. gives _)

all_imported_keeps : {n m : ℕ} (u : UnitForm) (nodes : List Node) → Keeps n m (all_imported u nodes)
all_imported_keeps u [] = gives []
all_imported_keeps u (i ∷ nodes) = binds (all_imported_keeps u nodes) (with_node_keeps u i)

pub imported_keeps : {n m : ℕ} (u : UnitForm) (lump : Lump) → Keeps n m (imported u lump)
imported_keeps u lump = binds (all_imported_keeps u lump) (λ xs. or_unfit_keeps (one xs))

outcome_keeps : {n m : ℕ} (u : UnitForm) (given : Fate Lump) → Keeps n m (outcome u given)
outcome_keeps u (fate.Value lump) = imported_keeps u lump
outcome_keeps u (fate.Thrown lump) = binds (imported_keeps u lump) (λ x. throws_keeps x)

-- Access.

object_at_keeps : {n m : ℕ} (x : Value) → Keeps n m (object_at x)
object_at_keeps x = reads (λ s. object_of s.heap x)

size_keeps : {n m : ℕ} (x : Value) → Keeps n m (size_of x)
size_keeps (v.reference numbers place) =
    binds (object_at_keeps (v.reference numbers place)) (λ o. gives (v.int (count_as_int (length o.slots))))
size_keeps (v.reference elements place) =
    binds (object_at_keeps (v.reference elements place)) (λ o. gives (v.int (count_as_int (length o.slots))))
size_keeps _ = unfit_keeps

pub read_property_keeps : {n m : ℕ} (u : UnitForm) (p : TypedProperty) (x : Value) → Keeps n m (read_property u p x)
read_property_keeps u (property.Declared c place) x = binds (or_unfit_keeps _) (read_slot_keeps x)
read_property_keeps u property.EntryName x = or_unfit_keeps _
read_property_keeps u property.Ordinal x = or_unfit_keeps _
read_property_keeps u property.Size x = size_keeps x
read_property_keeps u property.Length x = or_unfit_keeps _
read_property_keeps u property.Code x = or_unfit_keeps _

write_property_keeps : {n m : ℕ} (u : UnitForm) (p : TypedProperty) (x new : Value)
    → Keeps n m (write_property u p x new)
write_property_keeps u (property.Declared c place) x new =
    binds (or_unfit_keeps _) (λ slot. write_slot_keeps x slot new)
write_property_keeps u _ x new = unfit_keeps

or_raise_keeps : {A : Type 0} {n m : ℕ} (o : Option A) (fault : Fault) → Keeps n m (or_raise o fault)
or_raise_keeps (Some a) fault = gives a
or_raise_keeps None fault = raise_keeps fault

slot_at_keeps : {n m : ℕ} (x : Value) (i : ℤ) → Keeps n m (slot_at x i)
slot_at_keeps x i =
    binds (binds (object_at_keeps x) (λ o. gives (at_index o.slots i)))
    (λ found. or_raise_keeps found (array_index i))

element_at_keeps : {n m : ℕ} (x : Value) (i : ℤ) → Keeps n m (element_at x i)
element_at_keeps (v.text t) i = or_raise_keeps (option_map v.character (at_index t i)) (text_index i)
element_at_keeps (v.reference numbers place) i = slot_at_keeps (v.reference numbers place) i
element_at_keeps (v.reference elements place) i = slot_at_keeps (v.reference elements place) i
element_at_keeps _ i = unfit_keeps

pub element_keeps : {n m : ℕ} (x y : Value) → Keeps n m (element x y)
element_keeps x y = binds (or_unfit_keeps (as_int y)) (element_at_keeps x)

put_at_keeps : {n m : ℕ} (x : Value) (i : ℤ) (new : Value) → Keeps n m (put_at x i new)
put_at_keeps x i new =
    binds (binds (object_at_keeps x) (λ o. gives (index_in o.slots i)))
    (λ there. binds (or_raise_keeps there (array_index i)) (λ slot. write_slot_keeps x slot new))

put_element_keeps : {n m : ℕ} (x y new : Value) → Keeps n m (put_element x y new)
put_element_keeps (v.reference numbers place) y new =
    binds (or_unfit_keeps (as_int y)) (λ i. put_at_keeps (v.reference numbers place) i new)
put_element_keeps (v.reference elements place) y new =
    binds (or_unfit_keeps (as_int y)) (λ i. put_at_keeps (v.reference elements place) i new)
put_element_keeps _ y new = unfit_keeps

-- Assignments.

pub read_place_keeps : {n m : ℕ} (here : Activation) (p : Place) → Keeps n m (read_place here p)
read_place_keeps here (in_local i) = read_local_keeps i
read_place_keeps here (in_captured i) = read_captured_keeps here i
read_place_keeps here (in_property p x) = read_property_keeps here.unit p x
read_place_keeps here (in_element x y) = element_keeps x y

pub write_place_keeps : {n m : ℕ} (here : Activation) (p : Place) (new : Value) → Keeps n m (write_place here p new)
write_place_keeps here (in_local i) new = write_local_keeps i new
write_place_keeps here (in_captured i) new = write_captured_keeps here i new
write_place_keeps here (in_property p x) new = write_property_keeps here.unit p x new
write_place_keeps here (in_element x y) new = put_element_keeps x y new

-- Conditionals.

pub branch_keeps : {n m : ℕ} {yes_branch no_branch : Run Value} (x : Value)
    → Keeps n m yes_branch → Keeps n m no_branch → Keeps n m (branch yes_branch no_branch x)
branch_keeps x h f = binds (or_unfit_keeps (as_truth x)) (λ b. cond_keeps b h f)

pub unless_null_keeps : {n m : ℕ} {go : Value → Run Value} (x : Value)
    → ((x : Value) → Keeps n m (go x)) → Keeps n m (unless_null go x)
unless_null_keeps v.null h = gives v.null
unless_null_keeps x h = h x

-- Loops.

turned_fine : (n k : ℕ) (g : Gives Value) (again : Run (Unit {0}))
    → IsFine n k g → ((s : Store) → Kept n k s.world → IsFine n k (again s)) → IsFine n k (turned g again)
turned_fine n k (gave x s) again h f = f s h
turned_fine n k (continued s) again h f = f s h
turned_fine n k (broken s) again h f = h
turned_fine n k (thrown x s) again h f = h
turned_fine n k (returned x s) again h f = h
turned_fine n k (stopped why w) again h f = h

after_turn_keeps : {n m : ℕ} {body : Run Value} {again : Run (Unit {0})}
    → Keeps n m body → Keeps n m again → Keeps n m (after_turn body again)
after_turn_keeps {n} {body} {again} h f =
    record { each = λ k le s w. turned_fine n k (body s) again (h.each k le s w) (f.each k le) }

while_true_keeps : {n m : ℕ} {test : Run Value} {again : Run (Unit {0})}
    → Keeps n m test → Keeps n m again → Keeps n m (while_true test again)
while_true_keeps h f = binds h (λ x. binds (or_unfit_keeps (as_truth x)) (λ b. cond_keeps b f (gives tt)))

pub while_loop_keeps : {n m : ℕ} {test body : Run Value} (j : ℕ) → j ≤ m
    → Keeps n m test → Keeps n m body → Keeps n j (while_loop j test body)
unfolding while_loop
while_loop_keeps zero le h f = no_turn_keeps _
while_loop_keeps {m = m} (suc j) le h f =
    let less : j ≤ m = omega (arith, le) in
    charged_keeps (while_true_keeps (restrict j less h)
    (after_turn_keeps (restrict j less f) (while_loop_keeps j less h f)))

pub do_loop_keeps : {n m : ℕ} {body test : Run Value} (j : ℕ) → j ≤ m
    → Keeps n m body → Keeps n m test → Keeps n j (do_loop j body test)
unfolding do_loop
do_loop_keeps zero le h f = no_turn_keeps _
do_loop_keeps {m = m} (suc j) le h f =
    let less : j ≤ m = omega (arith, le) in
    charged_keeps (after_turn_keeps (restrict j less h)
    (while_true_keeps (restrict j less f) (do_loop_keeps j less h f)))

for_loop_keeps : {n m : ℕ} {body : Run Value} (as_value : ℤ → Value) (i : ℕ) (last : ℤ) (j : ℕ) (first : ℤ) → j ≤ m
    → Keeps n m body → Keeps n j (for_loop j as_value i first last body)
unfolding for_loop
for_loop_keeps as_value i last zero first le h = cond_keeps (int_le first last) (no_turn_keeps _) (gives tt)
for_loop_keeps {m = m} as_value i last (suc j) first le h =
    let less : j ≤ m = omega (arith, le) in
    cond_keeps (int_le first last)
    (charged_keeps (follows (set_local_keeps i (as_value first))
    (after_turn_keeps (restrict j less h) (for_loop_keeps as_value i last j (first +ℤ pos 1) less h))))
    (gives tt)

pub over_range_keeps : {n m : ℕ} {body : Run Value} (i : ℕ) (o : RangeOperator) (a b : Value)
    → Keeps n m body → Keeps n m (over_range m i o body a b)
over_range_keeps {m = m} i o (v.int first) (v.int end) h =
    for_loop_keeps v.int i (last_of o end) m first (omega arith) h
over_range_keeps {m = m} i o (v.long first) (v.long end) h =
    for_loop_keeps v.long i (last_of o end) m first (omega arith) h
over_range_keeps i o _ _ h = unfit_keeps

-- `try`.

caught_fine : (n k : ℕ) (g : Gives Value) (catches : Value → Run Value)
    → IsFine n k g → ((x : Value) (s : Store) → Kept n k s.world → IsFine n k (catches x s))
    → IsFine n k (or_caught g catches)
caught_fine n k (gave x s) catches h f = h
caught_fine n k (thrown x s) catches h f = f x s h
caught_fine n k (returned x s) catches h f = h
caught_fine n k (broken s) catches h f = h
caught_fine n k (continued s) catches h f = h
caught_fine n k (stopped why w) catches h f = h

pub caught_keeps : {n m : ℕ} {body : Run Value} {catches : Value → Run Value}
    → Keeps n m body → ((x : Value) → Keeps n m (catches x)) → Keeps n m (caught_by body catches)
caught_keeps {n} {body} {catches} h f =
    record { each = λ k le s w. caught_fine n k (body s) catches (h.each k le s w) (λ x. (f x).each k le) }

last_fine : (n k : ℕ) (g : Gives Value) (last : Run Value)
    → IsFine n k g → ((s : Store) → Kept n k s.world → IsFine n k (last s)) → IsFine n k (and_last g last)
last_fine n k (gave x s) last h f = then_fine n k (last s) (λ ignored s. gave x s) (f s h) (λ a s w. w)
last_fine n k (thrown x s) last h f = then_fine n k (last s) (λ ignored s. thrown x s) (f s h) (λ a s w. w)
last_fine n k (returned x s) last h f = then_fine n k (last s) (λ ignored s. returned x s) (f s h) (λ a s w. w)
last_fine n k (broken s) last h f = then_fine n k (last s) (λ ignored s. broken s) (f s h) (λ a s w. w)
last_fine n k (continued s) last h f = then_fine n k (last s) (λ ignored s. continued s) (f s h) (λ a s w. w)
last_fine n k (stopped why w) last h f = h

pub with_last_keeps : {n m : ℕ} {body last : Run Value} → Keeps n m body → Keeps n m last
    → Keeps n m (with_last body last)
with_last_keeps {n} {body} {last} h f =
    record { each = λ k le s w. last_fine n k (body s) last (h.each k le s w) (f.each k le) }

pub breaks_keeps : {n m : ℕ} → Keeps n m breaks
breaks_keeps = record { each = λ k le s w. w }

pub continues_keeps : {n m : ℕ} → Keeps n m continues
continues_keeps = record { each = λ k le s w. w }

-- Texts.

pub joined_keeps : {n m : ℕ} (t u : List ℕ) → Keeps n m (joined t u)
joined_keeps t u = cond_keeps (is_too_long (t ++ u)) (raise_keeps text_too_long) (gives (t ++ u))

-- What calls bodies keeps what they keep.

module _ (n m : ℕ) (here : Activation) (calls_keep : (c : Called) (xs : List Value) → Keeps n m (here.call c xs)) where
  call_to_string_keeps : (is_data : Bool) (own above : Option (ℕ × ℕ)) (d : ℕ) (x : Value)
      → Keeps n m (call_to_string here is_data own above d x)
  call_to_string_keeps is_data (Some own) above d x = calls_keep (of_member own.0 own.1 x) []
  call_to_string_keeps true None above d x = calls_keep (generated_to_string d x) []
  call_to_string_keeps false None (Some found) d x = calls_keep (of_member found.0 found.1 x) []
  call_to_string_keeps false None None d x = unfit_keeps

  to_string_keeps : (d : ℕ) (x : Value) → Keeps n m (to_string_of here d x)
  to_string_keeps d x =
      call_to_string_keeps (c.is_data here.unit d) (c.own_body here.unit (codes "toString") 0 d)
      (c.body_for here.unit (codes "toString") 0 d) d x

  pub text_of_keeps : (x : Value) → Keeps n m (text_of here x)
  text_of_keeps (v.reference (instance d) place) =
      binds (to_string_keeps d (v.reference (instance d) place)) (λ t. or_unfit_keeps (as_text t))
  text_of_keeps (v.entry d ordinal) = or_unfit_keeps (c.entry_name here.unit d ordinal)
  text_of_keeps x = or_unfit_keeps (text_of_basic x)

  concatenated_keeps : (x y : Value) → Keeps n m (concatenated here x y)
  concatenated_keeps x y =
      binds (text_of_keeps x) (λ t. binds (text_of_keeps y)
      (λ u. binds (joined_keeps t u) (λ whole. gives (v.text whole))))

  put_properties_keeps : (x : Value) (done before : List ℕ) (slot : ℕ) (ps : List PropertyForm)
      → Keeps n m (put_properties here x done before slot ps)
  put_properties_keeps x done before slot [] = joined_keeps done (codes ")")
  put_properties_keeps x done before slot (p ∷ ps) =
      binds (joined_keeps done (before ++ p.name ++ codes "=")) (λ named.
      binds (read_slot_keeps x slot) (λ content.
      binds (text_of_keeps content) (λ t.
      binds (joined_keeps named t) (λ more.
      put_properties_keeps x more (codes ", ") (slot + 1) ps))))

  pub data_text_keeps : (d : ℕ) (x : Value) → Keeps n m (data_text here d x)
  data_text_keeps d x =
      put_properties_keeps x (c.class_name here.unit d) (codes "(") (c.first_slot here.unit d)
      (c.data_properties here.unit d)

  -- Equality.

  call_equals_keeps : (is_data : Bool) (own above : Option (ℕ × ℕ)) (d : ℕ) (x y : Value)
      → Keeps n m (call_equals here is_data own above d x y)
  call_equals_keeps is_data (Some own) above d x y = calls_keep (of_member own.0 own.1 x) (y ∷ [])
  call_equals_keeps true None above d x y = calls_keep (generated_equals d x) (y ∷ [])
  call_equals_keeps false None (Some found) d x y = calls_keep (of_member found.0 found.1 x) (y ∷ [])
  call_equals_keeps false None None d x y = unfit_keeps

  equals_of_keeps : (d : ℕ) (x y : Value) → Keeps n m (equals_of here d x y)
  equals_of_keeps d x y =
      call_equals_keeps (c.is_data here.unit d) (c.own_body here.unit (codes "equals") 1 d)
      (c.body_for here.unit (codes "equals") 1 d) d x y

  equal_keeps : (x y : Value) → Keeps n m (equal here x y)
  equal_keeps (v.reference (instance d) place) y =
      binds (equals_of_keeps d (v.reference (instance d) place) y) (λ b. or_unfit_keeps (as_truth b))
  equal_keeps x y = or_unfit_keeps (equal_basic x y)

  pub compared_keeps : (is_null_literal : Bool) (x y : Value) → Keeps n m (compared here is_null_literal x y)
  compared_keeps true x y = gives (is_null x && is_null y)
  compared_keeps false x y = equal_keeps x y

  properties_equal_keeps : (x y : Value) (slot : ℕ) (ps : List PropertyForm)
      → Keeps n m (properties_equal here x y slot ps)
  properties_equal_keeps x y slot [] = gives true
  properties_equal_keeps x y slot (p ∷ ps) =
      binds (read_slot_keeps x slot) (λ a.
      binds (read_slot_keeps y slot) (λ b.
      binds (equal_keeps a b) (λ same.
      cond_keeps same (properties_equal_keeps x y (slot + 1) ps) (gives false))))

  pub data_equal_keeps : (d : ℕ) (x y : Value) → Keeps n m (data_equal here d x y)
  data_equal_keeps d x (v.reference (instance e) place) =
      cond_keeps (d == e)
      (properties_equal_keeps x (v.reference (instance e) place) (c.first_slot here.unit d)
      (c.data_properties here.unit d))
      (gives false)
  data_equal_keeps d x _ = gives false

  -- Operators.

  divided_keeps : (w : Width) (o : Option ℤ) → Keeps n m (divided w o)
  divided_keeps w (Some q) = gives (number w q)
  divided_keeps w None = raise_keeps zero_divisor

  calculated_keeps : (o : ArithmeticOperator) (w : Width) (x y : ℤ) → Keeps n m (calculated o w x y)
  calculated_keeps arithmetic.Plus w x y = gives (number w (int_wrapping_add (bits_of w) x y))
  calculated_keeps arithmetic.Minus w x y = gives (number w (int_wrapping_sub (bits_of w) x y))
  calculated_keeps arithmetic.Times w x y = gives (number w (int_wrapping_mul (bits_of w) x y))
  calculated_keeps arithmetic.Divide w x y = divided_keeps w (quotient (bits_of w) x y)
  calculated_keeps arithmetic.Remainder w x y = divided_keeps w (remainder (bits_of w) x y)

  pub prefixed_keeps : (o : PrefixOperator) (x : Value) → Keeps n m (prefixed o x)
  prefixed_keeps prefix.Negate x = or_unfit_keeps (negated x)
  prefixed_keeps prefix.Not x = or_unfit_keeps (option_map (λ b. v.truth (not b)) (as_truth x))

  pub stepped_keeps : (o : StepOperator) (w : Width) (x : Value) → Keeps n m (stepped o w x)
  stepped_keeps step.Increment w x =
      binds (or_unfit_keeps (operand w x)) (λ i. calculated_keeps arithmetic.Plus w i (pos 1))
  stepped_keeps step.Decrement w x =
      binds (or_unfit_keeps (operand w x)) (λ i. calculated_keeps arithmetic.Minus w i (pos 1))

  both_keeps : {A B : Type 0} (a : Option A) (b : Option B) {go : A → B → Run Value}
      → ((x : A) (y : B) → Keeps n m (go x y)) → Keeps n m (both a b go)
  both_keeps a b h = binds (or_unfit_keeps a) (λ x. binds (or_unfit_keeps b) (λ y. h x y))

  pub applied_keeps : (o : TypedOperator) (has_null : Bool) (x y : Value) → Keeps n m (applied here o has_null x y)
  applied_keeps operator.Equal has_null x y = binds (compared_keeps has_null x y) (λ b. gives (v.truth b))
  applied_keeps operator.NotEqual has_null x y = binds (compared_keeps has_null x y) (λ b. gives (v.truth (not b)))
  applied_keeps operator.Concatenate has_null x y = concatenated_keeps x y
  applied_keeps (operator.Arithmetic o w) has_null x y =
      both_keeps (operand w x) (operand w y) (λ i j. calculated_keeps o w i j)
  applied_keeps (operator.Bitwise o w) has_null x y =
      both_keeps (operand w x) (operand w y) (λ i j. gives (joined_bits o w i j))
  applied_keeps (operator.Shift o w) has_null x y =
      both_keeps (operand w x) (as_int y) (λ i j. gives (shifted o w i j))
  applied_keeps (operator.Compare o kind) has_null x y =
      both_keeps (rank kind x) (rank kind y) (λ i j. gives (v.truth (is_ordered o i j)))
  applied_keeps _ has_null x y = unfit_keeps

  if_true_keeps : {right : Run Value} (x : Value) → Keeps n m right → Keeps n m (if_true right x)
  if_true_keeps x h = binds (or_unfit_keeps (as_truth x)) (λ b. cond_keeps b h (gives (v.truth false)))

  if_false_keeps : {right : Run Value} (x : Value) → Keeps n m right → Keeps n m (if_false right x)
  if_false_keeps x h = binds (or_unfit_keeps (as_truth x)) (λ b. cond_keeps b (gives (v.truth true)) h)

  if_null_keeps : {right : Run Value} (x : Value) → Keeps n m right → Keeps n m (if_null right x)
  if_null_keeps v.null h = h
  if_null_keeps x h = gives x

  pub operation_keeps : (o : TypedOperator) (has_null : Bool) {left right : Run Value}
      → Keeps n m left → Keeps n m right → Keeps n m (operation here o has_null left right)
  operation_keeps operator.Disjunction has_null h f = binds h (λ x. if_false_keeps x f)
  operation_keeps operator.Conjunction has_null h f = binds h (λ x. if_true_keeps x f)
  operation_keeps operator.Elvis has_null h f = binds h (λ x. if_null_keeps x f)
  operation_keeps operator.Equal has_null h f = binds h (λ x. binds f (λ y. applied_keeps operator.Equal has_null x y))
  operation_keeps operator.NotEqual has_null h f =
      binds h (λ x. binds f (λ y. applied_keeps operator.NotEqual has_null x y))
  operation_keeps operator.Concatenate has_null h f =
      binds h (λ x. binds f (λ y. applied_keeps operator.Concatenate has_null x y))
  operation_keeps (operator.Arithmetic o w) has_null h f =
      binds h (λ x. binds f (λ y. applied_keeps (operator.Arithmetic o w) has_null x y))
  operation_keeps (operator.Bitwise o w) has_null h f =
      binds h (λ x. binds f (λ y. applied_keeps (operator.Bitwise o w) has_null x y))
  operation_keeps (operator.Shift o w) has_null h f =
      binds h (λ x. binds f (λ y. applied_keeps (operator.Shift o w) has_null x y))
  operation_keeps (operator.Compare o kind) has_null h f =
      binds h (λ x. binds f (λ y. applied_keeps (operator.Compare o kind) has_null x y))

  -- Calls.

  pub constructed_keeps : (d : ℕ) (xs : List Value) → Keeps n m (constructed here d xs)
  constructed_keeps d xs =
      binds (make_keeps (instance d) (map (λ p. c.blank p.annotation) (c.all_properties here.unit d))) (λ x.
      follows (calls_keep (of_constructor d x) xs) (gives x))

  built_throwable_keeps : (d : ℕ) (xs : List Value) → Keeps n m (built_throwable d xs)
  built_throwable_keeps d xs = binds (or_unfit_keeps (message_of xs)) (λ x. make_keeps (instance d) (x ∷ []))

  run_superclass_keeps : (built_in : Bool) (d : ℕ) (xs : List Value) → Keeps n m (run_superclass here built_in d xs)
  run_superclass_keeps true d xs = binds (or_unfit_keeps (message_of xs)) (λ x. write_slot_keeps here.receiver 0 x)
  run_superclass_keeps false d xs = follows (calls_keep (of_constructor d here.receiver) xs) (gives tt)

  pub built_above_keeps : (xs : List Value) → Keeps n m (built_above here xs)
  built_above_keeps xs =
      binds (or_unfit_keeps (c.superclass_of here.unit here.class)) (λ d. run_superclass_keeps (c.is_built_in d) d xs)

  pub initialized_keeps : (place : ℕ) (x : Value) → Keeps n m (initialized here place x)
  initialized_keeps place x = write_slot_keeps here.receiver (c.first_slot here.unit here.class + place) x

  pub called_on_keeps : (d place : ℕ) (x : Value) (xs : List Value) → Keeps n m (called_on here d place x xs)
  called_on_keeps d place x xs =
      binds (or_unfit_keeps (declaration here d place)) (λ f.
      binds (or_unfit_keeps (body_on here f x)) (λ body. calls_keep (of_member body.0 body.1 x) xs))

  pub called_value_keeps : (x : Value) (xs : List Value) → Keeps n m (called_value here x xs)
  called_value_keeps (v.closure i taken) xs = calls_keep (of_lambda i (listed taken)) xs
  called_value_keeps _ xs = unfit_keeps

  -- The functions that every file has.

  done_keeps : (a : Answer Lump) → Keeps n m (done a)
  done_keeps answer.Done = gives v.unit
  done_keeps _ = unfit_keeps

  printed_keeps : (t : List ℕ) → Keeps n m (printed t)
  printed_keeps t = follows charge_keeps (binds (ask_keeps (event.Print t)) done_keeps)

  print_keeps : (xs : List Value) → Keeps n m (print here xs)
  print_keeps [] = printed_keeps []
  print_keeps (x ∷ []) = binds (text_of_keeps x) printed_keeps
  print_keeps (x ∷ y ∷ xs) = unfit_keeps

  drawn_keeps : (a : Answer Lump) → Keeps n m (drawn a)
  drawn_keeps (answer.Number i) = gives i
  drawn_keeps answer.Full = spent_keeps
  drawn_keeps _ = unfit_keeps

  launch_keeps : (xs : List Value) → Keeps n m (launch here xs)
  launch_keeps [] = unfit_keeps
  launch_keeps (body ∷ []) =
      follows charge_keeps (binds (lump_keeps here.unit body) (λ lump.
      binds (ask_keeps (event.Launch lump)) (λ a. binds (drawn_keeps a) (λ i. gives v.unit))))
  launch_keeps (x ∷ y ∷ xs) = unfit_keeps

  awaited_keeps : (a : Answer Lump) → Keeps n m (awaited here a)
  awaited_keeps (answer.Outcome given) = outcome_keeps here.unit given
  awaited_keeps _ = unfit_keeps

  suspend_keeps : (xs : List Value) → Keeps n m (suspend here xs)
  suspend_keeps [] = unfit_keeps
  suspend_keeps (block ∷ []) =
      follows charge_keeps (binds (ask_keeps event.Draw) (λ a. binds (drawn_keeps a) (λ i.
      follows (called_value_keeps block (v.cell i ∷ [])) (binds (ask_keeps (event.Await i)) awaited_keeps))))
  suspend_keeps (x ∷ y ∷ xs) = unfit_keeps

  won_keeps : (a : Answer Lump) → Keeps n m (won a)
  won_keeps answer.Won = gives v.unit
  won_keeps answer.Lost = raise_keeps already_resumed
  won_keeps _ = unfit_keeps

  resumed_keeps : (fate_of : Lump → Fate Lump) (x : Value) (xs : List Value) → Keeps n m (resumed here fate_of x xs)
  resumed_keeps fate_of x [] = unfit_keeps
  resumed_keeps fate_of x (given ∷ []) =
      binds (or_unfit_keeps (as_cell x)) (λ i. binds (lump_keeps here.unit given) (λ lump.
      binds (ask_keeps (event.Resume i (fate_of lump))) won_keeps))
  resumed_keeps fate_of x (y ∷ z ∷ xs) = unfit_keeps

  filled_keeps : (shape : Shape) (first : Value) (size : ℤ) → Keeps n m (filled shape first size)
  filled_keeps shape first (pos size) = make_keeps shape (replicate size first)
  filled_keeps shape first (negsuc size) = raise_keeps (negative_size (negsuc size))

  new_array_keeps : (shape : Shape) (first : Value) (xs : List Value) → Keeps n m (new_array shape first xs)
  new_array_keeps shape first [] = unfit_keeps
  new_array_keeps shape first (size ∷ []) = binds (or_unfit_keeps (as_int size)) (filled_keeps shape first)
  new_array_keeps shape first (x ∷ y ∷ xs) = unfit_keeps

  pub call_built_in_keeps : (b : BuiltIn) (xs : List Value) → Keeps n m (call_built_in here b xs)
  call_built_in_keeps built_in.Println xs = print_keeps xs
  call_built_in_keeps built_in.Launch xs = launch_keeps xs
  call_built_in_keeps built_in.SuspendCoroutine xs = suspend_keeps xs
  call_built_in_keeps built_in.IntArray xs = new_array_keeps numbers (v.int (pos 0)) xs
  call_built_in_keeps built_in.ArrayOfNulls xs = new_array_keeps elements v.null xs
  call_built_in_keeps (built_in.Throwable d) xs = built_throwable_keeps d xs

  cut_out_keeps : (t : List ℕ) (start end : ℤ) → Keeps n m (cut_out t start end)
  cut_out_keeps t start end =
      cond_keeps (is_outside (length t) start) (raise_keeps (text_index start))
      (cond_keeps (is_outside (length t) end) (raise_keeps (text_index end))
      (cond_keeps (int_lt end start) (raise_keeps (text_index start))
      (gives (v.text (units_between (length t) start end t)))))

  substring_keeps : (x : Value) (xs : List Value) → Keeps n m (substring x xs)
  substring_keeps x [] = unfit_keeps
  substring_keeps x (y ∷ []) = unfit_keeps
  substring_keeps x (start ∷ end ∷ []) =
      binds (or_unfit_keeps (as_text x)) (λ t. binds (or_unfit_keeps (as_int start)) (λ i.
      binds (or_unfit_keeps (as_int end)) (λ j. cut_out_keeps t i j)))
  substring_keeps x (y ∷ z ∷ w ∷ xs) = unfit_keeps

  pub call_built_in_on_keeps : (b : BuiltInMethod) (x : Value) (xs : List Value)
      → Keeps n m (call_built_in_on here b x xs)
  call_built_in_on_keeps method.Resume x xs = resumed_keeps fate.Value x xs
  call_built_in_on_keeps method.ResumeWithException x xs = resumed_keeps fate.Thrown x xs
  call_built_in_on_keeps method.Substring x xs = substring_keeps x xs
  call_built_in_on_keeps method.ToString x xs = binds (text_of_keeps x) (λ t. gives (v.text t))
  call_built_in_on_keeps method.Join x xs = unfit_keeps
  call_built_in_on_keeps method.ToLong x xs = or_unfit_keeps (converted method.ToLong x)
  call_built_in_on_keeps method.ToChar x xs = or_unfit_keeps (converted method.ToChar x)
  call_built_in_on_keeps method.ToInt x xs = or_unfit_keeps (converted method.ToInt x)
  call_built_in_on_keeps method.Inv x xs = or_unfit_keeps (converted method.Inv x)
