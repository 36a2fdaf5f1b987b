-- What is found by the facts of a file is what its rules say.
use Rattle.std.specs.Prelude.{ℕ, Bool, List, ◌++◌, ◌≡◌, Option, option_map, length, map, Result, Ok, Err, IfOk}
use Rattle.std.specs.List.{list_any}
use Rattle.std.proofs.Common.{ap, sym, ◌∙◌}
use Rattle.std.proofs.lemmas.List.{length-map}
use Rattle.kt_base.specs.declared.errors.NoMemory.{NoMemory}
use Rattle.kt_tree.specs.Declarations.{DeclarationTree}
use Rattle.kt_types_tree.specs.declared.hierarchy.Hierarchy.{Hierarchy}
use Rattle.kt_types_tree.specs.Hierarchy.{HierarchyForm, header_form, hierarchy_form}
use Rattle.kt_decls_types.specs.Scopes.{class_named}
use Rattle.kt_decls_rules.specs.Members.{inherited, inherited_properties}
use Rattle.kt_decls_rules.specs.Names.{is_name}
use Rattle.kt_decls_rules.specs.Tables.{hierarchy_of, rows}
use Rattle.kt_decls_facts.specs.declared.facts.FileFacts.{FileFacts}
use Rattle.kt_decls_facts.specs.Facts.{Knows}
use Rattle.kt_decls_inherited.specs.declared.erasing.Descriptor.{Descriptor}
use Rattle.kt_decls_inherited.specs.declared.sights.Sight.{Sight}
use Rattle.kt_decls_inherited.specs.Descriptors.{descriptor_in, descriptors_up}
use Rattle.kt_decls_inherited.specs.Erased.{descriptor_form}
use Rattle.kt_decls_inherited.specs.Properties.{properties_up}
use Rattle.kt_decls_inherited.specs.Rows.{sights_up}
use Rattle.kt_decls_inherited.specs.Sights.{places, sight_form, sight_of}
use Rattle.kt_decls_inherited.proofs.AsRuled as sights
use Rattle.kt_decls_inherited.proofs.DescriptorsAsRuled as descriptors
use Rattle.kt_decls_inherited.proofs.PropertiesAsRuled as properties

module _ (ds : List DeclarationTree) (f : FileFacts) (known : Knows ds f) (ps : List ℕ) (ends : ps ≡ places ds) (k row : ℕ) (steps : k ≡ length f.hierarchy.classes) where
  all_rows : k ≡ length (rows ds)
  all_rows =
      steps
      ∙ (sym (length-map f.hierarchy.classes header_form)
      ∙ (ap (λ (h : HierarchyForm). length h.classes) known.tree ∙ sights.rows_long ds))

  pub sights_told : (x : List ℕ) (n : ℕ) (r : Result (List Sight) NoMemory) → IfOk r (λ found. map sight_form found ≡ sights_up (class_named f.classes) (hierarchy_form f.hierarchy) ds ps x n k row) → IfOk r (λ found. map sight_form found ≡ map sight_of (inherited ds x n row))
  sights_told x n (Ok found) e =
      e ∙ (sights.known_so ds x n (class_named f.classes) (hierarchy_form f.hierarchy) ps k row known.names known.tree ends all_rows ∙ sights.as_ruled ds x n row)
  sights_told x n (Err z) e = tt

  pub descriptors_told : (x : List ℕ) (n : ℕ) (r : Result (List (Option Descriptor)) NoMemory) → IfOk r (λ found. map (option_map descriptor_form) found ≡ descriptors_up (class_named f.classes) (hierarchy_form f.hierarchy) ds ps x n k row) → IfOk r (λ found. map (option_map descriptor_form) found ≡ map descriptor_in (inherited ds x n row))
  descriptors_told x n (Ok found) e =
      e ∙ descriptors.known_so ds x n (class_named f.classes) (hierarchy_form f.hierarchy) ps k row known.names known.tree ends all_rows
  descriptors_told x n (Err z) e = tt

  pub properties_told : (x : List ℕ) (b : Bool) → b ≡ list_any (is_name x) (properties_up (hierarchy_form f.hierarchy) ds ps k row) → b ≡ list_any (is_name x) (inherited_properties ds row)
  properties_told x b e =
      e ∙ ap (list_any (is_name x)) (properties.known_so ds (hierarchy_form f.hierarchy) ps k row known.tree ends all_rows)
