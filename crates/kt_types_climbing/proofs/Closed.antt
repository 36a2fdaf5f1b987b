-- A walk whose closed part doesn't hold the target finds it ahead or not at all.
use Rattle.std.proofs.Common.{ℕ, suc, zero, ◌≡◌, refl, ap, sym, subst, ◌∙◌, ◌⊎◌, inl, inr, List, [], ◌∷◌, ◌++◌, Some, map}
use Rattle.std.specs.Prelude.{slice_get, ◌↔◌}
use Rattle.kt_types_tree.specs.declared.hierarchy.Supertype.{Supertype}
use Rattle.kt_types_tree.specs.Types.{TypeForms, substituted_all}
use Rattle.kt_types_tree.specs.Hierarchy.{SuperForm, super_form, HierarchyForm, HasSuper, supers_of}
use Rattle.kt_types_order.specs.Climbing.{Climbs, here, up}
use Rattle.kt_types_climbing.specs.Reading.{read_all}
use Rattle.kt_types_climbing.specs.Nodes.{Node, node, above, in_layers, Among, ClimbsTo, AnyClimbs, IsClosed}

pub among_left : (n : Node) (ns ms : List Node) → Among n ns → Among n (ns ++ ms)
among_left n [] ms a = absurd a
among_left n (x ∷ ns) ms (inl e) = inl e
among_left n (x ∷ ns) ms (inr a) = inr (among_left n ns ms a)

pub among_right : (n : Node) (ns ms : List Node) → Among n ms → Among n (ns ++ ms)
among_right n [] ms a = a
among_right n (x ∷ ns) ms a = inr (among_right n ns ms a)

among_supers : (all : TypeForms) (ss : List SuperForm) (i : ℕ) (s : SuperForm) → slice_get ss i ≡ Some s → Among (above all s) (map (above all) ss)
among_supers all [] i s h = cc
among_supers all (x ∷ ss) zero s h = let e : s ≡ x = cc in inl (ap (above all) e)
among_supers all (x ∷ ss) (suc i) s h = inr (among_supers all ss i s h)

module _ (h : HierarchyForm) (d : ℕ) (wanted : TypeForms) where
  abbrev target : Node
  target = node d wanted

  pub any_left : (ns ms : List Node) → AnyClimbs h ns target → AnyClimbs h (ns ++ ms) target
  any_left [] ms a = absurd a
  any_left (n ∷ ns) ms (inl c) = inl c
  any_left (n ∷ ns) ms (inr a) = inr (any_left ns ms a)

  pub any_right : (ns ms : List Node) → AnyClimbs h ms target → AnyClimbs h (ns ++ ms) target
  any_right [] ms a = a
  any_right (n ∷ ns) ms a = inr (any_right ns ms a)

  pub any_split : (ns ms : List Node) → AnyClimbs h (ns ++ ms) target → AnyClimbs h ns target ⊎ AnyClimbs h ms target
  any_split [] ms a = inr a
  any_split (n ∷ ns) ms (inl c) = inl (inl c)
  any_split (n ∷ ns) ms (inr a) = elim (any_split ns ms a) [ inl x ↦ inl (inr x) | inr y ↦ inr y ]

  any_among : (n : Node) (ns : List Node) → Among n ns → ClimbsTo h n target → AnyClimbs h ns target
  any_among n [] a c = absurd a
  any_among n (m ∷ ns) (inl e) c = inl (subst (λ x. ClimbsTo h x target) e c)
  any_among n (m ∷ ns) (inr a) c = inr (any_among n ns a c)

  -- what climbs from a closed part comes by what is ahead
  reached : (behind ahead : List Node) → IsClosed h behind ahead target → (c : ℕ) (all : TypeForms) (e : ℕ) (us : TypeForms) → Climbs h c all e us → node e us ≡ target → Among (node c all) behind → AnyClimbs h ahead target
  reached behind ahead closed c all _ _ here same a = absurd ((closed (node c all) a).0 same)
  reached behind ahead closed c all e us (up {s = s} m r) same a = elim ((closed (node c all) a).1 s m) [
    | inl b ↦ reached behind ahead closed s.class (substituted_all all s.arguments) e us r same b
    | inr b ↦ any_among (above all s) ahead b (subst (λ x. ClimbsTo h (above all s) x) same r)
  ]

  reach : (behind ahead : List Node) → IsClosed h behind ahead target → (c : ℕ) (all : TypeForms) → Among (node c all) behind → Climbs h c all d wanted → AnyClimbs h ahead target
  reach behind ahead closed c all a r = reached behind ahead closed c all d wanted r refl a

  abbrev Onward : Node → Type 0
  Onward n = (s : SuperForm) × (HasSuper h n.class s × ClimbsTo h (above n.arguments s) target)

  step : (c : ℕ) (all : TypeForms) → Climbs h c all d wanted → (node c all ≡ target) ⊎ Onward (node c all)
  step c all here = inl refl
  step c all (up {s = s} m r) = inr (s, (m, r))

  any_supers : (all : TypeForms) (ss : List SuperForm) (i : ℕ) (s : SuperForm) → slice_get ss i ≡ Some s → ClimbsTo h (above all s) target → AnyClimbs h (map (above all) ss) target
  any_supers all ss i s m c = any_among (above all s) (map (above all) ss) (among_supers all ss i s m) c

  which_super : (all : TypeForms) (ss : List SuperForm) → AnyClimbs h (map (above all) ss) target → (s : SuperForm) × (((i : ℕ) × (slice_get ss i ≡ Some s)) × ClimbsTo h (above all s) target)
  which_super all [] a = absurd a
  which_super all (s ∷ ss) (inl c) = (s, ((0, refl), c))
  which_super all (s ∷ ss) (inr a) = let r = which_super all ss a in (r.0, ((suc r.1.0.0, r.1.0.1), r.1.1))

  -- what isn't the target climbs by its supertypes
  pub by_supers : (n : Node) (rest : List Node) → (n ≡ target → ⊥) → AnyClimbs h (n ∷ rest) target ↔ AnyClimbs h (map (above n.arguments) (supers_of h n.class) ++ rest) target
  by_supers n rest other = (
    (λ a. elim a [
      | inl c ↦ elim (step n.class n.arguments c) [
        | inl e ↦ absurd (other e)
        | inr o ↦ any_left (map (above n.arguments) (supers_of h n.class)) rest (any_supers n.arguments (supers_of h n.class) o.1.0.0 o.0 o.1.0.1 o.1.1)
      ]
      | inr r ↦ any_right (map (above n.arguments) (supers_of h n.class)) rest r
    ]),
    (λ a. elim (any_split (map (above n.arguments) (supers_of h n.class)) rest a) [
      | inl s ↦ let r = which_super n.arguments (supers_of h n.class) s in inl (up r.1.0 r.1.1)
      | inr r ↦ inr r
    ]),
  )

  -- one that was met is done
  pub met_closed : (n : Node) (behind rest : List Node) → Among n behind → IsClosed h behind (n ∷ rest) target → IsClosed h behind rest target
  met_closed n behind rest a closed = λ v b. (
    (closed v b).0,
    (λ s m. elim ((closed v b).1 s m) [
      | inl x ↦ inl x
      | inr y ↦ elim y [ inl e ↦ inl (subst (λ x. Among x behind) (sym e) a) | inr z ↦ inr z ]
    ]),
  )

  pub met_adds_none : (n : Node) (behind rest : List Node) → Among n behind → IsClosed h behind (n ∷ rest) target → AnyClimbs h (n ∷ rest) target ↔ AnyClimbs h rest target
  met_adds_none n behind rest a closed = (
    (λ x. elim x [
      | inl c ↦ reach behind rest (met_closed n behind rest a closed) n.class n.arguments a c
      | inr r ↦ r
    ]),
    (λ r. inr r),
  )

  -- one that is new is closed by its supertypes
  pub new_closed : (n : Node) (behind rest : List Node) → (n ≡ target → ⊥) → IsClosed h behind (n ∷ rest) target → IsClosed h (n ∷ behind) (map (above n.arguments) (supers_of h n.class) ++ rest) target
  new_closed n behind rest other closed = λ v b. elim b [
    | inl e ↦ rw e (
      other,
      (λ s m. inr (among_left (above n.arguments s) (map (above n.arguments) (supers_of h n.class)) rest (among_supers n.arguments (supers_of h n.class) m.0 s m.1))),
    )
    | inr old ↦ (
      (closed v old).0,
      (λ s m. elim ((closed v old).1 s m) [
        | inl x ↦ inl (inr x)
        | inr y ↦ elim y [ inl e ↦ inl (inl e) | inr z ↦ inr (among_right (above v.arguments s) (map (above n.arguments) (supers_of h n.class)) rest z) ]
      ]),
    )
  ]

  pub none_closed : (ahead : List Node) → IsClosed h [] ahead target
  none_closed ahead = λ v b. absurd b

-- the supertypes of a class with arguments, as the code meets them
pub supers_in_layers : (ls : List TypeForms) (all : TypeForms) (items : List Supertype) (ss : List SuperForm) → map super_form items ≡ ss → map (in_layers (all ∷ ls)) items ≡ map (above (read_all ls all)) ss
supers_in_layers ls all items ss e = each items ∙ ap (map (above (read_all ls all))) e
  where
    each : (items : List Supertype) → map (in_layers (all ∷ ls)) items ≡ map (above (read_all ls all)) (map super_form items)
    each [] = refl
    each (s ∷ items) = ap (λ ns. above (read_all ls all) (super_form s) ∷ ns) (each items)
