-- A constant has a header exactly where its rule holds.
use Rattle.std.specs.Prelude.{ℕ, Bool, true, false, List, [], ◌≡◌, ◌↔◌, Option, Some, None, IsTrue, is_some, refl, Result, Ok, Err, IfOk, if◌then◌else◌}
use Rattle.kt_base.specs.declared.errors.NoMemory.{NoMemory}
use Rattle.std.proofs.Common.{ap, sym, ◌∙◌, subst}
use Rattle.kt_tree.specs.Types.{TypeTree}
use Rattle.kt_tree.specs.Declarations.{DeclarationTree, ConstantTree}
use Rattle.kt_types_tree.specs.Types.{TypeForm}
use Rattle.kt_typed.specs.Headers.{ConstantForm}
use Rattle.kt_decls_types.specs.References.{then_on}
use Rattle.kt_decls_rules.specs.Tables.{class_named, meant}
use Rattle.kt_decls_rules.specs.Rules.{IsConstantMeant, IsConstantWritten, IsFineConstant}
use Rattle.kt_decls_table.specs.Classes.{Classes}
use Rattle.kt_decls_table.specs.Constants.{constant_value, is_long_type, fits, form_of, with_value, typed_header, own_form, constant_header, constructor_of}
use Rattle.kt_decls_table.proofs.ConstantValues.{type_of_value, value_of_type, fits_if, only_if_fits}

-- what was gone on from was there
went_on : {A B : Type 0} (o : Option A) (f : A → Option B) (b : B) → then_on o f ≡ Some b → (a : A) × ((o ≡ Some a) × (f a ≡ Some b))
went_on None f b e = absurd cc
went_on (Some a) f b e = (a, (refl, e))

if_some : {A : Type 0} (b : Bool) (o : Option A) (a : A) → (if b then o else None) ≡ Some a → b ≡ true
if_some true o a e = refl
if_some false o a e = absurd cc

module _ (ds : List DeclarationTree) (c : ConstantTree) where
  is_written : (o : Option TypeTree) (h : ConstantForm) → constant_header (class_named ds) c o ≡ Some h → IsConstantWritten ds o c
  is_written None h e =
      let value = went_on (constant_value false c.value) (own_form c) h e in
      (constructor_of value.0, type_of_value false c.value value.0 value.1.0)
  is_written (Some x) h e =
      let t = went_on (meant ds [] x) (typed_header c) h e in
      let value = went_on (constant_value (is_long_type t.0) c.value) (with_value c t.0) h t.1.1 in
      let is = if_some (fits value.0 t.0) (Some (form_of c t.0 value.0)) h value.1.1 in
      subst (λ o. IsConstantMeant o c) (sym t.1.0) (fits_if t.0 c.value value.0 value.1.0 is)

  header_meant : (o : Option TypeForm) → IsConstantMeant o c → (h : ConstantForm) × (then_on o (typed_header c) ≡ Some h)
  header_meant None is = absurd is
  header_meant (Some t) is =
      let l = only_if_fits t c.value is in
      (form_of c t l.0, ap (λ o. then_on o (with_value c t)) l.1.0 ∙ ap (λ b. if b then Some (form_of c t l.0) else None) l.1.1)

  has_header : (o : Option TypeTree) → IsConstantWritten ds o c → (h : ConstantForm) × (constant_header (class_named ds) c o ≡ Some h)
  has_header None is =
      let l = value_of_type false c.value is.0 is.1 in
      (_, ap (λ o. then_on o (own_form c)) l.1.0)
  has_header (Some x) is = header_meant (meant ds [] x) is

  module _ (classes : Classes) (names : (y : List ℕ) → classes y ≡ class_named ds y) where
    same : (o : Option TypeTree) → constant_header classes c o ≡ constant_header (class_named ds) c o
    same o = λ i. constant_header (λ y. names y i) c o

    is_there : (h : ConstantForm) → constant_header classes c c.annotation ≡ Some h → IsTrue true ↔ IsFineConstant ds c
    is_there h e = ((λ _. is_written c.annotation h (sym (same c.annotation) ∙ e)), (λ _. refl))

    is_refused : constant_header classes c c.annotation ≡ None → IsTrue false ↔ IsFineConstant ds c
    is_refused e = (
      (λ t. absurd (no_truth t)),
      (λ fine. let h = has_header c.annotation fine in absurd (no_header h.0 (sym e ∙ (same c.annotation ∙ h.1)))),
    )
      where
        no_truth : IsTrue false → ⊥
        no_truth t = absurd cc

        no_header : (h : ConstantForm) → None ≡ Some h → ⊥
        no_header h e = absurd cc

    by_header : (b : Bool) (o : Option ConstantForm) → constant_header classes c c.annotation ≡ o → b ≡ is_some o → IsTrue b ↔ IsFineConstant ds c
    by_header b None is e = subst (λ (a : Bool). IsTrue a ↔ IsFineConstant ds c) (sym e) (is_refused is)
    by_header b (Some h) is e = subst (λ (a : Bool). IsTrue a ↔ IsFineConstant ds c) (sym e) (is_there h is)

    pub header_told : (r : Result Bool NoMemory) → IfOk r (λ there. there ≡ is_some (constant_header classes c c.annotation)) → IfOk r (λ fine. IsTrue fine ↔ IsFineConstant ds c)
    header_told (Ok b) e = by_header b (constant_header classes c c.annotation) refl e
    header_told (Err z) e = tt
