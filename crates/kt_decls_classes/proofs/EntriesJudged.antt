-- The entries of an enum are judged by the names that are taken.
use Rattle.std.specs.Prelude.{ℕ, Bool, true, false, List, [], ◌∷◌, ◌++◌, ◌==◌, ◌&&◌, ◌||◌, ◌≡◌, Some, refl, if◌then◌else◌}
use Rattle.std.specs.List.{list_any}
use Rattle.std.proofs.Common.{rules, sym, ◌∙◌}
use Rattle.std.proofs.lemmas.List.Folds.{list_any-append}
use Rattle.kt_tree.specs.declared.declarations.EnumEntry.{EnumEntry}
use Rattle.kt_tree.specs.Declarations.{DeclarationTree}
use Rattle.kt_decls_rules.specs.Names.{Taken, a_value, and_taken, none_taken, is_name}
use Rattle.kt_decls_rules.specs.Headers.{entry, entries_from}
use Rattle.kt_decls_classes.specs.Faults.{AreJudged}
use Rattle.kt_decls_classes.specs.Entries.{first_taken}
use Rattle.kt_decls_classes.proofs.Faults.{no_header, fine_here, fault_here}

numbers_turned : (n m : ℕ) → (n == m) ≡ (m == n)
numbers_turned n m = search rules

names_turned : (x y : List ℕ) → is_name x y ≡ is_name y x
names_turned [] [] = refl
names_turned [] (m ∷ y) = refl
names_turned (n ∷ x) [] = refl
names_turned (n ∷ x) (m ∷ y) = λ i. numbers_turned n m i && names_turned x y i

turned : (a b : Bool) → (a || b) ≡ (b || (a || false))
turned true true = refl
turned true false = refl
turned false true = refl
turned false false = refl

-- the names of the entries before are taken
abbrev pub Known : List EnumEntry → (Taken → Bool) → Type 0
Known earlier taken = (x : List ℕ) → taken (a_value x) ≡ list_any (λ e. is_name x e.name) earlier

taken_on : (earlier : List EnumEntry) (taken : Taken → Bool) (e : EnumEntry) → Known earlier taken → Known (earlier ++ e ∷ []) (and_taken taken (a_value e.name))
taken_on earlier taken e known x =
    (λ i. names_turned e.name x i || known x i)
    ∙ (turned (is_name x e.name) (list_any (λ y. is_name x y.name) earlier)
    ∙ sym (list_any-append (λ y. is_name x y.name) earlier (e ∷ [])))

module _ (ds : List DeclarationTree) where
  one_entry : (earlier es : List EnumEntry) (taken : Taken → Bool) (e : EnumEntry) (b : Bool) → taken (a_value e.name) ≡ b → Known earlier taken → AreJudged ds (entries_from (earlier ++ e ∷ []) es) (first_taken (and_taken taken (a_value e.name)) es) → AreJudged ds (entries_from earlier (e ∷ es)) (if b then Some e.at else first_taken (and_taken taken (a_value e.name)) es)
  one_entry earlier es taken e true is known later =
      fault_here ds (entry earlier e) (entries_from (earlier ++ e ∷ []) es) (λ fine. clash (sym is ∙ (known e.name ∙ fine)))
    where
      clash : true ≡ false → ⊥
      clash c = cc
  one_entry earlier es taken e false is known later =
      fine_here ds (entry earlier e) (entries_from (earlier ++ e ∷ []) es) (first_taken (and_taken taken (a_value e.name)) es) (sym (known e.name) ∙ is) later

  pub entries_judged : (earlier es : List EnumEntry) (taken : Taken → Bool) → Known earlier taken → AreJudged ds (entries_from earlier es) (first_taken taken es)
  entries_judged earlier [] taken known = no_header ds
  entries_judged earlier (e ∷ es) taken known =
      one_entry earlier es taken e (taken (a_value e.name)) refl known
      (entries_judged (earlier ++ e ∷ []) es (and_taken taken (a_value e.name)) (taken_on earlier taken e known))

  pub enum_judged : (es : List EnumEntry) → AreJudged ds (entries_from [] es) (first_taken none_taken es)
  enum_judged es = entries_judged [] es none_taken (λ x. refl)
