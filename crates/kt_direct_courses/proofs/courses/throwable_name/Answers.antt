use Rattle.std.proofs.Common.{refl}
use Rattle.std.specs.Prelude.{codes}
use Rattle.kt_direct_courses.proofs.Small.{each_small}
use Rattle.kt_direct_courses.proofs.courses.throwable_name.Goals as goal

pub returns-in-2-clause-ascii : goal.returns-in-2-clause-ascii
returns-in-2-clause-ascii c = each_small (codes "java/lang/RuntimeException") refl

pub returns-in-3-clause-ascii : goal.returns-in-3-clause-ascii
returns-in-3-clause-ascii c = each_small (codes "java/lang/IllegalStateException") refl

pub returns-in-4-clause-ascii : goal.returns-in-4-clause-ascii
returns-in-4-clause-ascii c = each_small (codes "java/lang/IllegalArgumentException") refl

pub returns-in-5-clause-ascii : goal.returns-in-5-clause-ascii
returns-in-5-clause-ascii c = each_small (codes "java/lang/ArithmeticException") refl

pub returns-in-6-clause-ascii : goal.returns-in-6-clause-ascii
returns-in-6-clause-ascii c = each_small (codes "java/lang/NullPointerException") refl

pub returns-in-7-clause-ascii : goal.returns-in-7-clause-ascii
returns-in-7-clause-ascii c = each_small (codes "java/lang/ClassCastException") refl

pub returns-in-8-clause-ascii : goal.returns-in-8-clause-ascii
returns-in-8-clause-ascii c = each_small (codes "java/lang/NegativeArraySizeException") refl

pub returns-in-9-clause-ascii : goal.returns-in-9-clause-ascii
returns-in-9-clause-ascii c = each_small (codes "java/lang/IndexOutOfBoundsException") refl

pub returns-in-10-clause-ascii : goal.returns-in-10-clause-ascii
returns-in-10-clause-ascii c = each_small (codes "java/lang/ArrayIndexOutOfBoundsException") refl

pub returns-in-11-clause-ascii : goal.returns-in-11-clause-ascii
returns-in-11-clause-ascii c = each_small (codes "java/lang/StringIndexOutOfBoundsException") refl
