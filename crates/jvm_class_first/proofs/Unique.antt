-- One class file for code, and one code for a class file.
use Rattle.std.proofs.Common.{◌≡◌, ℕ, List, ◌++◌, Option, Some, sym, ap, ◌∙◌}
use Rattle.kt_base.specs.declared.stack_code.Plain.{Plain}
use Rattle.jvm_pieces.proofs.Drafts.{one_spelling}
use Rattle.jvm_class_first.specs.ClassFile.{IsClassOf, class_pieces, magic, pool, version}
use Rattle.jvm_class_first.proofs.Found.{code_is_found}

pub one_class : (code : List Plain) (bytes other : List ℕ) → IsClassOf bytes code → IsClassOf other code → bytes ≡ other
one_class code bytes other p q =
    let same = one_spelling (class_pieces code) p.entries q.entries p.behind q.behind p.spells q.spells in
    p.bytes_are
    ∙ ap (λ es. magic ++ (version ++ (pool es ++ p.behind))) same.0
    ∙ ap (λ l. magic ++ (version ++ (pool q.entries ++ l))) same.1
    ∙ sym q.bytes_are

pub one_code : (bytes : List ℕ) (code other : List Plain) → IsClassOf bytes code → IsClassOf bytes other → code ≡ other
one_code bytes code other p q =
    let same : ◌≡◌ {A = Option (List Plain)} (Some code) (Some other) = sym (code_is_found bytes code p) ∙ code_is_found bytes other q in
    cc
