-- Classes by their names, one declaration behind the other.
use Rattle.std.specs.Prelude.{ℕ, Bool, true, false, List, [], ◌∷◌, ◌++◌, ◌+◌, ◌≡◌, Option, Some, None, length, refl, if◌then◌else◌}
use Rattle.std.specs.List.{flat_map}
use Rattle.std.proofs.Common.{ap, sym, ◌∙◌, arith}
use Rattle.kt_tree.specs.Declarations.{DeclarationTree, function, class, interface, enum, constant}
use Rattle.kt_decls_types.specs.declared.scopes.NamedClass.{NamedClass}
use Rattle.kt_decls_types.specs.Scopes.{or_named}
use Rattle.kt_decls_rules.specs.Names.{is_name}
use Rattle.kt_decls_rules.specs.Tables.{ClassEntry, class_entry, class_from}
use Rattle.kt_decls_hierarchy.specs.Drafts.{or_found}

pub found_named : (o : Option NamedClass) (name : List ℕ) (row count : ℕ) (x : List ℕ) → or_named o name (record { row = row; parameters = count }) x ≡ or_found o (class_from row (record { name = name; parameters = count } ∷ []) x)
found_named (Some c) name row count x = refl
found_named None name row count x = refl

grouped : (a b c : Option NamedClass) → or_found (or_found a b) c ≡ or_found a (or_found b c)
grouped (Some x) b c = refl
grouped None b c = refl

pub found_or_none : (a : Option NamedClass) → a ≡ or_found a None
found_or_none None = refl
found_or_none (Some c) = refl

one_of : (b : Bool) (c : NamedClass) (later : Option NamedClass) → (if b then Some c else later) ≡ or_found (if b then Some c else None) later
one_of true c later = refl
one_of false c later = refl

both_parts : (row : ℕ) (d : DeclarationTree) (rest : List ClassEntry) (x : List ℕ) → class_from row (class_entry d ++ rest) x ≡ or_found (class_from row (class_entry d) x) (class_from (row + length (class_entry d)) rest x)
both_parts row (function f) rest x = let e : row ≡ row + 0 = omega arith in ap (λ r. class_from r rest x) e
both_parts row (constant c) rest x = let e : row ≡ row + 0 = omega arith in ap (λ r. class_from r rest x) e
both_parts row (class c) rest x = one_of (is_name c.name x) (record { row = row; parameters = length c.type_parameters }) (class_from (row + 1) rest x)
both_parts row (interface c) rest x = one_of (is_name c.name x) (record { row = row; parameters = length c.type_parameters }) (class_from (row + 1) rest x)
both_parts row (enum c) rest x = one_of (is_name c.name x) (record { row = row; parameters = 0 }) (class_from (row + 1) rest x)

-- what is found among a declaration and those behind it
pub further : (old new : Option NamedClass) (row next : ℕ) (d : DeclarationTree) (rest : List DeclarationTree) (x : List ℕ) →
    new ≡ or_found old (class_from row (class_entry d) x) → next ≡ row + length (class_entry d) →
    or_found old (class_from row (flat_map class_entry (d ∷ rest)) x) ≡ or_found new (class_from next (flat_map class_entry rest) x)
further old new row next d rest x e f =
    ap (or_found old) (both_parts row d (flat_map class_entry rest) x)
    ∙ (sym (grouped old (class_from row (class_entry d) x) (class_from (row + length (class_entry d)) (flat_map class_entry rest) x))
    ∙ (λ i. or_found (sym e i) (class_from (sym f i) (flat_map class_entry rest) x)))
