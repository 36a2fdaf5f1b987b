-- The names of the classes that are thrown are ASCII.
use Rattle.std.proofs.Common.{ℕ, suc, zero, Bool, true, false, ◌≡◌, ◌<◌, refl, List, [], ◌∷◌, arith}
use Rattle.std.specs.Prelude.{nat_lt, ◌&&◌}
use Rattle.std.specs.List.{list_all}
use Rattle.std.specs.Str.{IsAscii}
use Rattle.mach_rows.specs.declared.throwing.Fault.{Fault}
use Rattle.mach_rows.specs.declared.throwing.Fault.TheVariants as fault
use Rattle.mach_rows.specs.Throwing.{fault_class}

first_true : (b c : Bool) → (b && c) ≡ true → b ≡ true
first_true true c h = refl
first_true false c h = cc

second_true : (b c : Bool) → (b && c) ≡ true → c ≡ true
second_true true c h = h
second_true false c h = cc

small : (b : ℕ) → nat_lt b 128 ≡ true → b < 128
small b h = grind (arith, h)

each_small : (bs : List ℕ) → list_all (λ b. nat_lt b 128) bs ≡ true → IsAscii bs
each_small [] h i = omega arith
each_small (b ∷ bs) h zero = small b (first_true (nat_lt b 128) (list_all (λ c. nat_lt c 128) bs) h)
each_small (b ∷ bs) h (suc i) = each_small bs (second_true (nat_lt b 128) (list_all (λ c. nat_lt c 128) bs) h) i

pub class_name : (f : Fault) → IsAscii (fault_class f)
class_name fault.NullPointer = each_small (fault_class fault.NullPointer) refl
class_name fault.NoMethod = each_small (fault_class fault.NoMethod) refl
class_name (fault.TextIndex i) = each_small (fault_class (fault.TextIndex i)) refl
class_name (fault.ArrayIndex i) = each_small (fault_class (fault.ArrayIndex i)) refl
class_name (fault.NegativeSize i) = each_small (fault_class (fault.NegativeSize i)) refl
class_name fault.ZeroDivisor = each_small (fault_class fault.ZeroDivisor) refl
class_name fault.FailedCast = each_small (fault_class fault.FailedCast) refl
class_name fault.TextTooLong = each_small (fault_class fault.TextTooLong) refl
class_name fault.NotShareable = each_small (fault_class fault.NotShareable) refl
class_name fault.Suspended = each_small (fault_class fault.Suspended) refl
class_name fault.NotWaiting = each_small (fault_class fault.NotWaiting) refl
class_name fault.AlreadyResumed = each_small (fault_class fault.AlreadyResumed) refl
class_name fault.Done = each_small (fault_class fault.Done) refl
