-- What is read is what the bytes are the class file of.
use Rattle.std.proofs.Common.{◌≡◌, ℕ, Bool, true, List, Option, Some, None, sym, subst, ◌∙◌}
use Rattle.kt_base.specs.declared.stack_code.Plain.{Plain}
use Rattle.jvm_class_first.specs.ClassFile.{IsClassOf}
use Rattle.jvm_class_first.specs.Finding.{code_of}
use Rattle.std.specs.Str.{bytes_eq}
use Rattle.std.specs.Cmp.Lexicographic.{bytes_decides}
use Rattle.jvm_class_first.proofs.Unique.{one_class}
use Rattle.jvm_class_first.proofs.Found.{code_is_found}

-- the code that is found is that of the class file
pub found_is : (bytes : List ℕ) (found code : List Plain) → Some found ≡ code_of bytes → IsClassOf bytes code → found ≡ code
found_is bytes found code is class =
    let same : ◌≡◌ {A = Option (List Plain)} (Some found) (Some code) = is ∙ code_is_found bytes code class in
    cc

-- where none is found, the bytes are no class file
pub none_found : (bytes : List ℕ) (code : List Plain) → ◌≡◌ {A = Option (List Plain)} None (code_of bytes) → IsClassOf bytes code → ⊥
none_found bytes code none class =
    let same : ◌≡◌ {A = Option (List Plain)} None (Some code) = none ∙ code_is_found bytes code class in
    absurd (cc same)

-- bytes that are written so are the class file, and the class file is written so
pub by_writing : (bytes written : List ℕ) (code : List Plain) (same : Bool) → IsClassOf written code → same ≡ bytes_eq written bytes → same ≡ true → IsClassOf bytes code
by_writing bytes written code same is tested there = subst (λ bytes. IsClassOf bytes code) ((bytes_decides written bytes).0 (sym tested ∙ there)) is

pub is_written : (bytes written : List ℕ) (code : List Plain) (same : Bool) → IsClassOf written code → same ≡ bytes_eq written bytes → IsClassOf bytes code → same ≡ true
is_written bytes written code same is tested class = tested ∙ (bytes_decides written bytes).1 (one_class code written bytes is class)
