use Rattle.kt_decls_bounds.proofs.Deciding.{always}
use Rattle.kt_decls_meeting.proofs.keys.are_fine_of.Goals as goal

pub returns-in-Class : goal.returns-in-Class
returns-in-Class c = rw c.in-Class.is (rw c.as_slice.ensures at c.are_fine_members.ensures)

pub returns-in-Interface : goal.returns-in-Interface
returns-in-Interface c = rw c.in-Interface.is (rw c.as_slice-in-Interface.ensures at c.are_fine_functions.ensures)

pub returns-in-Function : goal.returns-in-Function
returns-in-Function c = rw c.in-Function.is (always tt)

pub returns-in-Enum : goal.returns-in-Enum
returns-in-Enum c = rw c.in-Enum.is (always tt)

pub returns-in-Constant : goal.returns-in-Constant
returns-in-Constant c = rw c.in-Constant.is (always tt)
