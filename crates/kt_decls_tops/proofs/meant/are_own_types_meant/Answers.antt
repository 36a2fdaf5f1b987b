use Rattle.kt_decls_bounds.proofs.Deciding.{always}
use Rattle.kt_decls_tops.proofs.meant.are_own_types_meant.Goals as goal

pub returns-in-Function : goal.returns-in-Function
returns-in-Function c = rw c.in-Function.is c.are_function_types_meant.ensures

pub returns-in-Class : goal.returns-in-Class
returns-in-Class c = rw c.in-Class.is c.are_class_types_meant.ensures

pub returns-in-Interface : goal.returns-in-Interface
returns-in-Interface c = rw c.in-Interface.is (rw c.as_slice.ensures at c.are_types_meant.ensures)

pub returns-in-Enum : goal.returns-in-Enum
returns-in-Enum c = rw c.in-Enum.is (always tt)

pub returns-in-Constant : goal.returns-in-Constant
returns-in-Constant c = rw c.in-Constant.is c.is_meant_if.ensures
