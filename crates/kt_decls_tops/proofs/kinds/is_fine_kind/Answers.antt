use Rattle.kt_decls_bounds.proofs.Deciding.{always}
use Rattle.kt_decls_tops.proofs.kinds.is_fine_kind.Goals as goal

pub returns-in-Function : goal.returns-in-Function
returns-in-Function c = rw c.in-Function.is c.is_fine_function.ensures

pub returns-in-Class : goal.returns-in-Class
returns-in-Class c = rw c.in-Class.is c.is_fine_class.ensures

pub returns-in-Interface : goal.returns-in-Interface
returns-in-Interface c = rw c.in-Interface.is c.is_fine_interface.ensures

pub returns-in-Enum : goal.returns-in-Enum
returns-in-Enum c = rw c.in-Enum.is (always tt)

pub returns-in-Constant : goal.returns-in-Constant
returns-in-Constant c = rw c.in-Constant.is c.is_fine_constant.ensures
