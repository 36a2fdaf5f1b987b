-- Ways without a choice.
use Rattle.std.proofs.Common.{ℕ, suc, zero, ◌≡◌, ◌<◌, ◌≤◌, ◌+◌, refl, ap, sym, subst, ◌∙◌, ◌⊎◌, inl, inr, List, [], ◌∷◌, Option, Some, None, map, length, get_or, arith}
use Rattle.std.specs.Prelude.{Bool, IsTrue, slice_get, ◌↔◌, option_map}
use Rattle.std.proofs.lemmas.Option.{slice_get-map, slice_get-get_or, slice_get_within}
use Rattle.std.proofs.lemmas.List.{length-map}
use Rattle.kt_types_tree.specs.declared.hierarchy.Supertype.{Supertype}
use Rattle.kt_types_tree.specs.declared.types.KtType.{KtType}
use Rattle.kt_types_tree.specs.Types.{TypeForms, forms_end, forms_of, type_form, substituted_all}
use Rattle.kt_types_tree.specs.Hierarchy.{SuperForm, super_form, HierarchyForm, supers_of}
use Rattle.kt_types_order.specs.Climbing.{Climbs, here, up}
use Rattle.kt_types_order.specs.Graph.{HasNoCycle, class_graph}
use Rattle.kt_types_climbing.specs.Weights.{weight}
use Rattle.kt_types_climbing.specs.OnlyWays.{LeadsNowhere, NowhereBut, LeadsSame}
use Rattle.kt_types_climbing.proofs.Weights.{lighter}
use Rattle.kt_types_climbing.proofs.Steps.{rows}

pub either_way : (c d : ℕ) → (c ≡ d) ⊎ (c ≡ d → ⊥)
either_way zero zero = inl refl
either_way zero (suc d) = inr (λ e. omega arith)
either_way (suc c) zero = inr (λ e. omega arith)
either_way (suc c) (suc d) = elim (either_way c d) [ inl e ↦ inl (ap suc e) | inr f ↦ inr (λ e. f (omega arith)) ]

none_there : (ss : List SuperForm) (i : ℕ) (s : SuperForm) → ss ≡ [] → slice_get ss i ≡ Some s → ⊥
none_there [] i s e m = cc
none_there (x ∷ ss) i s e m = cc

module _ (h : HierarchyForm) where
  nowhere_up : (c wanted : ℕ) (all others : TypeForms) → supers_of h c ≡ [] → (c ≡ wanted → ⊥) → Climbs h c all wanted others → ⊥
  nowhere_up c _ all _ e f here = f refl
  nowhere_up c wanted all others e f (up {s = s} m r) = none_there (supers_of h c) m.0 s e m.1

  empty_supers : (items : List Supertype) (ss : List SuperForm) → length items < 1 → map super_form items ≡ ss → ss ≡ []
  empty_supers [] ss lt e = sym e
  empty_supers (s ∷ items) ss lt e = absurd (omega arith)

  pub nowhere : (c wanted : ℕ) (items : List Supertype) → length items < 1 → map super_form items ≡ supers_of h c → (c ≡ wanted → ⊥) → LeadsNowhere h c wanted
  nowhere c wanted items lt e f = λ all others. nowhere_up c wanted all others (empty_supers items (supers_of h c) lt e) f

  pub item_at : (items : List Supertype) (k : ℕ) (s : Supertype) → k < length items → s ≡ get_or items k s → slice_get (map super_form items) k ≡ Some (super_form s)
  item_at items k s lt e = slice_get-map super_form items k ∙ ap (option_map super_form) (slice_get-get_or items k s lt ∙ ap Some (sym e))

  -- what is known of the first so many supertypes, but for the one that was found
  abbrev pub Known : List SuperForm → ℕ → Option ℕ → ℕ → Type 0
  Known ss n way wanted = (i : ℕ) (s : SuperForm) → i < n → slice_get ss i ≡ Some s → (way ≡ Some i → ⊥) → LeadsNowhere h s.class wanted

  pub one_more : (ss : List SuperForm) (n : ℕ) (way way2 : Option ℕ) (wanted : ℕ) (s : SuperForm) → slice_get ss n ≡ Some s → way2 ≡ way → LeadsNowhere h s.class wanted → Known ss n way wanted → Known ss (n + 1) way2 wanted
  one_more ss n way way2 wanted s m same new before i t lt k f = elim (either_way i n) [
    | inl e ↦ let one : s ≡ t = cc in subst (λ x. LeadsNowhere h x.class wanted) one new
    | inr g ↦ before i t (omega arith) k (λ x. f (same ∙ x))
  ]

  pub one_found : (ss : List SuperForm) (n : ℕ) (way way2 : Option ℕ) (wanted : ℕ) → way ≡ None → way2 ≡ Some n → Known ss n way wanted → Known ss (n + 1) way2 wanted
  one_found ss n way way2 wanted none found before i t lt k f = elim (either_way i n) [
    | inl e ↦ absurd (f (found ∙ ap Some (sym e)))
    | inr g ↦ before i t (omega arith) k (λ x. let y : None ≡ Some i = sym none ∙ x in cc)
  ]

  pub found_within : (way2 : Option ℕ) (n len : ℕ) → way2 ≡ Some n → n < len → (k : ℕ) → way2 ≡ Some k → k < len
  found_within way2 n len found lt k e = let same : n ≡ k = cc in subst (λ x. x < len) same lt

  pub all_known : (items : List Supertype) (n : ℕ) (way : Option ℕ) (wanted k : ℕ) → length items ≤ n → way ≡ Some k → Known (map super_form items) n way wanted → NowhereBut h (map super_form items) k wanted
  all_known items n way wanted k le found known i s m apart =
      let lt : i < length (map super_form items) = slice_get_within (map super_form items) i s m in
      let same : length (map super_form items) ≡ length items = length-map items super_form in
      known i s (omega arith) m (λ x. apart (let y : k ≡ i = cc in sym y))

  up_only : (c k wanted : ℕ) (s : SuperForm) (others : TypeForms) → NowhereBut h (supers_of h c) k wanted → slice_get (supers_of h c) k ≡ Some s → s.arguments ≡ forms_end → (c ≡ wanted → ⊥) → (d : ℕ) (us : TypeForms) → Climbs h c forms_end d us → d ≡ wanted → us ≡ others → Climbs h s.class forms_end wanted others
  up_only c k wanted s others but m plain other _ _ here e g = absurd (other e)
  up_only c k wanted s others but m plain other d us (up {s = t} n r) e g = elim (either_way n.0 k) [
    | inl same ↦
        let x : t ≡ s = let y = n.1 in cc in
        let a : Climbs h s.class (substituted_all forms_end s.arguments) d us = subst (λ z. Climbs h z.class (substituted_all forms_end z.arguments) d us) x r in
        rw (plain, e, g) at a
    | inr apart ↦ absurd (but n.0 t n.1 apart (substituted_all forms_end t.arguments) us (subst (λ z. Climbs h t.class (substituted_all forms_end t.arguments) z us) e r))
  ]

  pub same_up : (c k wanted : ℕ) (s : SuperForm) → NowhereBut h (supers_of h c) k wanted → slice_get (supers_of h c) k ≡ Some s → s.arguments ≡ forms_end → (c ≡ wanted → ⊥) → LeadsSame h c s.class wanted
  same_up c k wanted s but m plain other = λ others. (
    (λ x. up_only c k wanted s others but m plain other wanted others x refl refl),
    (λ x. up (k, m) (rw plain x)),
  )

  pub lower : (c k : ℕ) (items : List Supertype) (s : Supertype) → HasNoCycle (class_graph h) → map super_form items ≡ supers_of h c → k < length items → s ≡ get_or items k s → weight (class_graph h) s.class < weight (class_graph h) c
  lower c k items s ends e lt g = lighter (class_graph h) ends c s.class (k, rw (rows h c items e) (slice_get-map (λ s. s.class) items k ∙ ap (option_map (λ s. s.class)) (slice_get-get_or items k s lt ∙ ap Some (sym g))))

  pub onward : (c k wanted : ℕ) (items : List Supertype) (s : Supertype) (d : ℕ) → map super_form items ≡ supers_of h c → NowhereBut h (map super_form items) k wanted → k < length items → s ≡ get_or items k s → s.class ≡ d → forms_of (map type_form s.arguments) ≡ forms_end → (c ≡ wanted → ⊥) → LeadsSame h c d wanted
  onward c k wanted items s d e but lt g class plain other =
      let there : slice_get (supers_of h c) k ≡ Some (super_form s) = subst (λ ss. slice_get ss k ≡ Some (super_form s)) e (item_at items k s lt g) in
      let near : NowhereBut h (supers_of h c) k wanted = subst (λ ss. NowhereBut h ss k wanted) e but in
      subst (λ x. LeadsSame h c x wanted) class (same_up c k wanted (super_form s) near there plain other)

  pub both_same : (a b c wanted : ℕ) → LeadsSame h a b wanted → LeadsSame h b c wanted → LeadsSame h a c wanted
  both_same a b c wanted f g = λ others. ((λ x. (g others).0 ((f others).0 x)), (λ x. (f others).1 ((g others).1 x)))

-- a class without arguments, as the code meets them
pub by_straight : (h : HierarchyForm) (r : Bool) (c d wanted : ℕ) (arguments : List KtType) (others : TypeForms) → length arguments < 1 → LeadsSame h c d wanted → IsTrue r ↔ Climbs h d (forms_of (map type_form arguments)) wanted others → IsTrue r ↔ Climbs h c (forms_of (map type_form arguments)) wanted others
by_straight h r c d wanted [] others lt same f = ((λ x. (same others).1 (f.0 x)), (λ x. f.1 ((same others).0 x)))
by_straight h r c d wanted (a ∷ arguments) others lt same f = absurd (omega arith)
