-- A type that is read is spelled so, and what is spelled is read.
use Rattle.std.proofs.Common.{◌≡◌, ℕ, Bool, true, false, ◌&&◌, cond, eqb, List, [], ◌∷◌, Option, Some, None, Ok, refl, sym, ap, subst, ◌∙◌, true≢false}
use Rattle.std.specs.Prelude.{◌==◌}
use Rattle.std.specs.Int.{w8, w16}
use Rattle.std.specs.List.{find}
use Rattle.std.specs.Cmp.Lexicographic.{bytes_decides}
use Rattle.std.proofs.lemmas.Bool.{and_parts, eqb-true, eq-eqb}
use Rattle.jvm_pool.specs.declared.entries.Entry.{Entry}
use Rattle.jvm_pool.specs.declared.entries.Entry.TheVariants.{Utf8, Int, Long, Class, Text, Field, Method, InterfaceMethod, NameAndType}
use Rattle.jvm_pool.specs.Mentions.{count_mentions}
use Rattle.jvm_class_types.specs.declared.frames.FrameType.{FrameType}
use Rattle.jvm_class_types.specs.declared.frames.FrameType.TheVariants as type
use Rattle.jvm_class_formats.specs.Formats.{Spot, spot, Format, any, number, u2, seq, allowed_in, variant, choose}
use Rattle.jvm_class_formats.specs.Lawful.{Takes, Lawful, IsPool, Says}
use Rattle.jvm_class_formats.proofs.Steps.{done, done_is, some_is, byte, half, takes_nothing}
use Rattle.jvm_class_formats.proofs.Parts.{lawful_number, lawful_seq, lawful_as, lawful_variant, lawful_choose, lawful_mention}
use Rattle.jvm_maps.specs.Types.{same_type, same_types, type_tag, bare_types, bare_type, bare_read, bare, class_inside, object_inside, uninitialized_inside, is_type_tag, class_name, behind_tag, frame_type}

-- ---- the same type

pub same_type_is : (t u : FrameType) → same_type t u ≡ true → t ≡ u
same_type_is type.Top type.Top h = refl
same_type_is type.Integer type.Integer h = refl
same_type_is type.Long type.Long h = refl
same_type_is type.Null type.Null h = refl
same_type_is type.UninitializedThis type.UninitializedThis h = refl
same_type_is (type.Object n) (type.Object m) h = ap type.Object ((bytes_decides n m).0 h)
same_type_is (type.Uninitialized i) (type.Uninitialized j) h = ap type.Uninitialized (eqb-true i j h)
same_type_is _ _ h = absurd (true≢false (sym h))

pub same_type_self : (t : FrameType) → same_type t t ≡ true
same_type_self type.Top = refl
same_type_self type.Integer = refl
same_type_self type.Long = refl
same_type_self type.Null = refl
same_type_self type.UninitializedThis = refl
same_type_self (type.Object n) = (bytes_decides n n).1 refl
same_type_self (type.Uninitialized i) = eq-eqb i i refl

pub same_types_are : (ts us : List FrameType) → same_types ts us ≡ true → ts ≡ us
same_types_are [] [] h = refl
same_types_are [] (u ∷ us) h = absurd (true≢false (sym h))
same_types_are (t ∷ ts) [] h = absurd (true≢false (sym h))
same_types_are (t ∷ ts) (u ∷ us) h =
    let p = and_parts (same_type t u) (same_types ts us) h in
    ap (λ (x : FrameType). x ∷ ts) (same_type_is t u p.0) ∙ ap (λ (l : List FrameType). u ∷ l) (same_types_are ts us p.1)

both : (a b : Bool) → a ≡ true → b ≡ true → (a && b) ≡ true
both true b p q = q
both false b p q = p

pub same_types_self : (ts : List FrameType) → same_types ts ts ≡ true
same_types_self [] = refl
same_types_self (t ∷ ts) = both (same_type t t) (same_types ts ts) (same_type_self t) (same_types_self ts)

-- ---- variants

object_back : (x : List ℕ) (t : FrameType) → object_inside t ≡ Some x → type.Object x ≡ t
object_back x type.Top h = absurd cc
object_back x type.Integer h = absurd cc
object_back x type.Long h = absurd cc
object_back x type.Null h = absurd cc
object_back x type.UninitializedThis h = absurd cc
object_back x (type.Object a) h = let e : a ≡ x = cc in ap type.Object (sym e)
object_back x (type.Uninitialized a) h = absurd cc

uninitialized_back : (x : ℕ) (t : FrameType) → uninitialized_inside t ≡ Some x → type.Uninitialized x ≡ t
uninitialized_back x type.Top h = absurd cc
uninitialized_back x type.Integer h = absurd cc
uninitialized_back x type.Long h = absurd cc
uninitialized_back x type.Null h = absurd cc
uninitialized_back x type.UninitializedThis h = absurd cc
uninitialized_back x (type.Object a) h = absurd cc
uninitialized_back x (type.Uninitialized a) h = let e : a ≡ x = cc in ap type.Uninitialized (sym e)

pub class_says : Says Class class_inside
class_says (Class n) a h = let e : n ≡ a = cc in ap Class (sym e)
class_says (Utf8 t) a h = absurd cc
class_says (Int n) a h = absurd cc
class_says (Long n) a h = absurd cc
class_says (Text t) a h = absurd cc
class_says (Field c n d) a h = absurd cc
class_says (Method c n d) a h = absurd cc
class_says (InterfaceMethod c n d) a h = absurd cc
class_says (NameAndType n d) a h = absurd cc

find_keeps : {A : Type 0} (p : A → Bool) (xs : List A) (x : A) → find p xs ≡ Some x → p x ≡ true
find_keeps p [] x h = absurd cc
find_keeps {A} p (y ∷ ys) x h = by (p y) refl h (λ r. find_keeps p ys x r)
  where
    by : (b : Bool) → p y ≡ b → cond b (Some y) (find p ys) ≡ Some x → (find p ys ≡ Some x → p x ≡ true) → p x ≡ true
    by true is h later = let e : y ≡ x = cc in ap p (sym e) ∙ is
    by false is h later = later h

bare_tag : (tag : ℕ) (t : FrameType) → bare_type tag ≡ Some t → type_tag t ≡ tag
unfolding bare_type
bare_tag tag t h = sym (eqb-true tag (type_tag t) (find_keeps (λ t. tag == type_tag t) bare_types t h))

opt : {A : Type 0} (f : Format A) (o : Option A) → allowed_in f o → (a : A) × (o ≡ Some a)
opt f None h = absurd h
opt f (Some a) h = (a, refl)

bare_ok : (s : Spot) (o : Option FrameType) (x : FrameType × Spot) → bare_read s o ≡ Ok x → (o ≡ Some x.0) × (s ≡ x.1)
bare_ok s None x h = absurd cc
bare_ok s (Some t) x h =
    let e = done_is (t, s) x h in (ap (λ (y : FrameType × Spot). Some y.0) e, ap (λ (y : FrameType × Spot). y.1) e)

module _ (es : List Entry) where
  lawful_bare : (tag : ℕ) → Lawful es (bare tag)
  unfolding count_mentions
  lawful_bare tag = record {
    found = λ s x fits h.
        let o = bare_ok s (bare_type tag) x h in
        (o.0, subst (λ (y : Spot). Takes es s [] y) o.1 (takes_nothing es s fits));
    only = λ t total b c bytes allowed count.
        ap (bare_read (spot total b bytes)) allowed
        ∙ ap (λ (k : ℕ). done {A = FrameType × Spot} (t, spot total k bytes)) (some_is b c count);
  }

  pub lawful_class_name : IsPool es → Lawful es (class_name es)
  lawful_class_name pool = lawful_mention es Class class_inside class_says pool

  lawful_behind : IsPool es → (tag : ℕ) → Lawful es (behind_tag es tag)
  lawful_behind pool tag =
      let object = variant type.Object object_inside (class_name es) in
      let uninitialized = variant type.Uninitialized uninitialized_inside u2 in
      lawful_choose es (tag == 7) object (choose (tag == 8) uninitialized (bare tag))
      (lawful_variant es type.Object object_inside (class_name es) (λ a _. refl) object_back (lawful_class_name pool))
      (lawful_choose es (tag == 8) uninitialized (bare tag)
      (lawful_variant es type.Uninitialized uninitialized_inside u2 (λ a _. refl) uninitialized_back
      (lawful_number es w16 any half)) (lawful_bare tag))

  tag_is : (tag : ℕ) (t : FrameType) → (behind_tag es tag).allows t → type_tag t ≡ tag
  tag_is tag t h = by (eqb tag 7) refl (eqb tag 8) refl h
    where
      by : (b : Bool) → eqb tag 7 ≡ b → (c : Bool) → eqb tag 8 ≡ c
          → (choose b (variant type.Object object_inside (class_name es))
          (choose c (variant type.Uninitialized uninitialized_inside u2) (bare tag))).allows t → type_tag t ≡ tag
      by true is c at h =
          let x = opt (class_name es) (object_inside t) h in
          ap type_tag (sym (object_back x.0 t x.1)) ∙ sym (eqb-true tag 7 is)
      by false is true at h =
          let x = opt u2 (uninitialized_inside t) h in
          ap type_tag (sym (uninitialized_back x.0 t x.1)) ∙ sym (eqb-true tag 8 at)
      by false is false at h = bare_tag tag t h

  pub lawful_type : IsPool es → Lawful es (frame_type es)
  lawful_type pool =
      lawful_as es (λ (x : ℕ × FrameType). x.1) (λ (t : FrameType). (type_tag t, t))
      (seq (number w8 is_type_tag) (behind_tag es)) (λ t. refl)
      (λ x allowed.
      ap (λ (n : ℕ). (n, x.1)) (tag_is x.0 x.1 allowed.1))
      (lawful_seq es (number w8 is_type_tag) (behind_tag es) (lawful_number es w8 is_type_tag byte) (λ n _. lawful_behind pool n))
