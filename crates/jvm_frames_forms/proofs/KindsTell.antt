-- A form is told by its kind and by what it stands for.
use Rattle.std.proofs.Common.{◌≡◌, ℕ, Bool, true, false, ◌&&◌, List, [], ◌∷◌, ◌++◌, Result, Ok, refl, sym, ap, ◌∙◌}
use Rattle.std.specs.Prelude.{◌==◌}
use Rattle.std.proofs.lemmas.Bool.{eq-eqb}
use Rattle.std.proofs.lemmas.List.{append_cancel_left}
use Rattle.jvm_class_types.specs.declared.frames.FrameType.{FrameType}
use Rattle.jvm_maps.specs.Types.{same_type, same_types}
use Rattle.jvm_maps.specs.Frames.{Step, step, Form, Same, SameOne, SameOneFar, Chop, SameFar, Append, Full, meaning, kind_of, same_form}
use Rattle.jvm_maps.proofs.TypeLaws.{same_types_self}
use Rattle.jvm_frames_forms.specs.KindsSeen.{same_kind}

and_true : (b : Bool) → (b && true) ≡ b
and_true true = refl
and_true false = refl

true_and : (a b c : Bool) → a ≡ true → b ≡ c → (a && b) ≡ c
true_and a b c p q = ap (λ (x : Bool). x && b) p ∙ q

same_number : (d e : ℕ) → d ≡ e → (d == e) ≡ true
same_number d e h = eq-eqb d e h

same_list : (ts us : List FrameType) → ts ≡ us → same_types ts us ≡ true
same_list ts us h = ap (same_types ts) (sym h) ∙ same_types_self ts

module _ (before : List FrameType) where
  delta_is : (s t : Step) → s ≡ t → s.delta ≡ t.delta
  delta_is s t h = ap (λ (x : Step). x.delta) h

  locals_are : (s t : Step) → s ≡ t → s.locals ≡ t.locals
  locals_are s t h = ap (λ (x : Step). x.locals) h

  stack_is : (s t : Step) → s ≡ t → s.stack ≡ t.stack
  stack_is s t h = ap (λ (x : Step). x.stack) h

  -- two forms that stand for the same are the same where their kinds are
  pub kinds_tell : (f g : Form) → meaning before f ≡ meaning before g
      → same_form f g ≡ same_kind (kind_of f) (kind_of g)
  kinds_tell (Same d) (Same e) h = refl
  kinds_tell (SameOne d t) (SameOne e u) h =
      ap (λ (b : Bool). d == e && b) (same_list (t ∷ []) (u ∷ []) (stack_is _ _ h)) ∙ and_true (d == e)
  kinds_tell (SameOneFar d t) (SameOneFar e u) h =
      true_and (d == e) _ true (same_number d e (delta_is _ _ h)) (same_list (t ∷ []) (u ∷ []) (stack_is _ _ h))
  kinds_tell (Chop k d) (Chop l e) h =
      ap (λ (b : Bool). k == l && b) (same_number d e (delta_is _ _ h)) ∙ and_true (k == l)
  kinds_tell (SameFar d) (SameFar e) h = same_number d e (delta_is _ _ h)
  kinds_tell (Append k d more) (Append l e others) h =
      ap (λ (b : Bool). k == l && b) (true_and (d == e) _ true (same_number d e (delta_is _ _ h))
      (same_list more others (append_cancel_left before more others (locals_are _ _ h)))) ∙ and_true (k == l)
  kinds_tell (Full d locals stack) (Full e others more) h =
      true_and (d == e) _ true (same_number d e (delta_is _ _ h))
      (true_and (same_types locals others) _ true (same_list locals others (locals_are _ _ h))
      (same_list stack more (stack_is _ _ h)))
  kinds_tell _ _ h = refl
