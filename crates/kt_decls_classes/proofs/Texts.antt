-- Values that are printed and compared, by the facts and by the file.
use Rattle.std.proofs.Common.{◌≡◌, Bool, true, false, List, Option, refl, sym, subst, ◌∙◌}
use Rattle.std.specs.Prelude.{◌&&◌, ◌||◌, IsTrue, ◌↔◌, not, nat_le, length, Result, Ok, Err, IfOk}
use Rattle.std.specs.List.{list_all}
use Rattle.kt_base.specs.declared.errors.NoMemory.{NoMemory}
use Rattle.kt_tree.specs.Types.{TypeTree}
use Rattle.kt_tree.specs.Declarations.{DeclarationTree, ClassTree}
use Rattle.kt_types_tree.specs.Types.{TypeForm}
use Rattle.kt_types_tree.specs.Hierarchy.{HierarchyForm, hierarchy_form}
use Rattle.kt_typed.specs.declared.headers.DeclaredTypeParameter.{DeclaredTypeParameter}
use Rattle.kt_decls_types.specs.References.{resolved}
use Rattle.kt_decls_types.specs.Scopes.{class_named}
use Rattle.kt_decls_rules.specs.ClassRules.{IsMeantText, HaveText, IsFineData, is_property}
use Rattle.kt_decls_rules.specs.Tables.{hierarchy_of, meant}
use Rattle.kt_decls_hierarchy.proofs.Known.{meant_known}
use Rattle.kt_decls_facts.specs.declared.facts.FileFacts.{FileFacts}
use Rattle.kt_decls_facts.specs.Facts.{Knows}
use Rattle.kt_decls_classes.specs.Data.{is_data_shape}

pub text_so : (ds : List DeclarationTree) (f : FileFacts) → Knows ds f → (scope : List DeclaredTypeParameter) (t : TypeTree) (o : Option TypeForm) (b : Bool) → o ≡ resolved (class_named f.classes) scope t → (IsTrue b ↔ IsMeantText (hierarchy_form f.hierarchy) o) → IsTrue b ↔ IsMeantText (hierarchy_of ds) (meant ds scope t)
text_so ds f known scope t o b found told =
    subst (λ (m : Option TypeForm). IsTrue b ↔ IsMeantText (hierarchy_of ds) m) (found ∙ meant_known (class_named f.classes) ds known.names scope t)
    (subst (λ (h : HierarchyForm). IsTrue b ↔ IsMeantText h o) known.tree told)

clash : IsTrue false → ⊥
clash e = cc

first_of : (a b : Bool) → (a && b) ≡ true → a ≡ true
first_of true b e = refl
first_of false b e = absurd cc

second_of : (a b : Bool) → (a && b) ≡ true → b ≡ true
second_of true b e = e
second_of false b e = absurd cc

both_of : (a b : Bool) → a ≡ true → b ≡ true → (a && b) ≡ true
both_of true b d e = e
both_of false b d e = absurd cc

neither : (a b : Bool) → not a ≡ true → not b ≡ true → (a || b) ≡ false
neither true b d e = absurd cc
neither false true d e = absurd cc
neither false false d e = refl

not_first : (a b : Bool) → (a || b) ≡ false → not a ≡ true
not_first true b e = absurd cc
not_first false b e = refl

not_second : (a b : Bool) → (a || b) ≡ false → not b ≡ true
not_second true b e = absurd cc
not_second false true e = absurd cc
not_second false false e = refl

module _ (ds : List DeclarationTree) (scope : List DeclaredTypeParameter) (c : ClassTree) where
  shape_of : IsFineData ds scope c → is_data_shape c ≡ true
  shape_of f =
      both_of (not c.modifiers.is_open) _ (not_first c.modifiers.is_open c.modifiers.is_abstract f.is_final)
      (both_of (not c.modifiers.is_abstract) _ (not_second c.modifiers.is_open c.modifiers.is_abstract f.is_final)
      (both_of (nat_le 1 (length c.parameters)) (list_all (λ p. is_property p.kind) c.parameters) f.not_empty f.properties))

  fine_data : is_data_shape c ≡ true → HaveText ds scope c.parameters → IsFineData ds scope c
  fine_data e texts =
      let two : (not c.modifiers.is_abstract && (nat_le 1 (length c.parameters) && list_all (λ p. is_property p.kind) c.parameters)) ≡ true = second_of (not c.modifiers.is_open) _ e in
      let three : (nat_le 1 (length c.parameters) && list_all (λ p. is_property p.kind) c.parameters) ≡ true = second_of (not c.modifiers.is_abstract) _ two in
      record {
        is_final = neither c.modifiers.is_open c.modifiers.is_abstract (first_of (not c.modifiers.is_open) _ e) (first_of (not c.modifiers.is_abstract) _ two);
        not_empty = first_of (nat_le 1 (length c.parameters)) _ three;
        properties = second_of (nat_le 1 (length c.parameters)) _ three;
        texts = texts;
      }

  pub data_told : (plain : Bool) (r : Result Bool NoMemory) → plain ≡ is_data_shape c → plain ≡ true → IfOk r (λ yes. IsTrue yes ↔ HaveText ds scope c.parameters) → IfOk r (λ yes. IsTrue yes ↔ IsFineData ds scope c)
  data_told plain (Ok b) e p told = ((λ t. fine_data (sym e ∙ p) (told.0 t)), (λ f. told.1 f.texts))
  data_told plain (Err x) e p told = tt

  pub not_data : (plain : Bool) → plain ≡ is_data_shape c → plain ≡ false → IsTrue false ↔ IsFineData ds scope c
  not_data plain e p = ((λ t. absurd (clash t)), (λ f. absurd (clash (sym p ∙ (e ∙ shape_of f)))))
