-- An entry that is read as it stands is spelled so, and what is spelled is read.
use Rattle.std.proofs.Common.{◌≡◌, ℕ, ◌^◌, ◌<◌, Bool, true, false, cond, List, [], ◌∷◌, Option, Some, None, refl, sym, ap, ◌∙◌}
use Rattle.std.specs.Prelude.{◌==◌}
use Rattle.std.specs.List.{find}
use Rattle.std.specs.Ordering.{int_eq}
use Rattle.std.specs.Int.{Width, w8, w16, w32, w64, cast_signed, cast_unsigned}
use Rattle.std.proofs.lemmas.Bool.{eqb-true}
use Rattle.std.proofs.lemmas.Bool.Decides.{Decides-int_eq}
use Rattle.std.proofs.lemmas.Int.{of_z-to_z}
use Rattle.jvm_pool.specs.declared.entries.Entry.{Entry}
use Rattle.jvm_class_formats.specs.Formats.{Format, any, number, u2, u4, seq, as_named, allowed_in}
use Rattle.jvm_class_formats.specs.Lawful.{Lawful}
use Rattle.jvm_class_formats.proofs.Steps.{some_is, byte, half, word, double}
use Rattle.jvm_class_formats.proofs.Parts.{lawful_number, lawful_seq, lawful_as, lawful_variant, lawful_item}
use Rattle.jvm_pool_bytes.specs.declared.tags.Tag.{Tag}
use Rattle.jvm_pool_bytes.specs.declared.tags.Tag.TheVariants as tag
use Rattle.jvm_pool_bytes.specs.declared.raws.RawEntry.{RawEntry}
use Rattle.jvm_pool_bytes.specs.declared.raws.RawEntry.TheVariants as raw
use Rattle.jvm_pool_bytes.specs.Raws.{tag_number, tag_of_number, raw_tag}
use Rattle.jvm_pool_bytes.specs.Reading.{text, utf8_inside, int_inside, long_inside, class_inside, text_inside, field_inside, method_inside, interface_method_inside, name_and_type_inside, u8, two, tagged, behind_tag, is_tag, raw_entry}
use Rattle.jvm_pool_bytes.proofs.TextLaws.{lawful_text}

-- ---- signed numbers

signed_same : (w : Width) (n : ℕ) → cast_unsigned w (cast_signed w n) ≡ n
    → int_eq (cast_signed w (cast_unsigned w (cast_signed w n))) (cast_signed w n) ≡ true
signed_same w n back =
    (Decides-int_eq (cast_signed w (cast_unsigned w (cast_signed w n))) (cast_signed w n)).1 (ap (cast_signed w) back)

int_into : (n : ℕ) → n < 2 ^ 32 → int_inside (raw.Int (cast_signed w32 n)) ≡ Some n
int_into n lt =
    ap (λ (b : Bool). cond b (Some (cast_unsigned w32 (cast_signed w32 n))) None) (signed_same w32 n (of_z-to_z w32 n lt))
    ∙ ap (λ (k : ℕ). Some k) (of_z-to_z w32 n lt)

long_into : (n : ℕ) → n < 2 ^ 64 → long_inside (raw.Long (cast_signed w64 n)) ≡ Some n
long_into n lt =
    ap (λ (b : Bool). cond b (Some (cast_unsigned w64 (cast_signed w64 n))) None) (signed_same w64 n (of_z-to_z w64 n lt))
    ∙ ap (λ (k : ℕ). Some k) (of_z-to_z w64 n lt)

int_back : (n : ℕ) (r : RawEntry) → int_inside r ≡ Some n → raw.Int (cast_signed w32 n) ≡ r
int_back n (raw.Int z) h = by (int_eq (cast_signed w32 (cast_unsigned w32 z)) z) refl h
  where
    by : (b : Bool) → int_eq (cast_signed w32 (cast_unsigned w32 z)) z ≡ b
        → cond b (Some (cast_unsigned w32 z)) None ≡ Some n → raw.Int (cast_signed w32 n) ≡ raw.Int z
    by true is h =
        ap (λ (k : ℕ). raw.Int (cast_signed w32 k)) (sym (some_is (cast_unsigned w32 z) n h))
        ∙ ap raw.Int ((Decides-int_eq (cast_signed w32 (cast_unsigned w32 z)) z).0 is)
    by false is h = absurd cc
int_back n (raw.Utf8 a) h = absurd cc
int_back n (raw.Long a) h = absurd cc
int_back n (raw.Class a) h = absurd cc
int_back n (raw.Text a) h = absurd cc
int_back n (raw.Field a b) h = absurd cc
int_back n (raw.Method a b) h = absurd cc
int_back n (raw.InterfaceMethod a b) h = absurd cc
int_back n (raw.NameAndType a b) h = absurd cc

long_back : (n : ℕ) (r : RawEntry) → long_inside r ≡ Some n → raw.Long (cast_signed w64 n) ≡ r
long_back n (raw.Long z) h = by (int_eq (cast_signed w64 (cast_unsigned w64 z)) z) refl h
  where
    by : (b : Bool) → int_eq (cast_signed w64 (cast_unsigned w64 z)) z ≡ b
        → cond b (Some (cast_unsigned w64 z)) None ≡ Some n → raw.Long (cast_signed w64 n) ≡ raw.Long z
    by true is h =
        ap (λ (k : ℕ). raw.Long (cast_signed w64 k)) (sym (some_is (cast_unsigned w64 z) n h))
        ∙ ap raw.Long ((Decides-int_eq (cast_signed w64 (cast_unsigned w64 z)) z).0 is)
    by false is h = absurd cc
long_back n (raw.Utf8 a) h = absurd cc
long_back n (raw.Int a) h = absurd cc
long_back n (raw.Class a) h = absurd cc
long_back n (raw.Text a) h = absurd cc
long_back n (raw.Field a b) h = absurd cc
long_back n (raw.Method a b) h = absurd cc
long_back n (raw.InterfaceMethod a b) h = absurd cc
long_back n (raw.NameAndType a b) h = absurd cc

-- ---- what is in a variant

utf8_back : (x : List ℕ) (r : RawEntry) → utf8_inside r ≡ Some x → raw.Utf8 x ≡ r
utf8_back x (raw.Utf8 a) h = let e : a ≡ x = cc in ap raw.Utf8 (sym e)
utf8_back x (raw.Int a) h = absurd cc
utf8_back x (raw.Long a) h = absurd cc
utf8_back x (raw.Class a) h = absurd cc
utf8_back x (raw.Text a) h = absurd cc
utf8_back x (raw.Field a b) h = absurd cc
utf8_back x (raw.Method a b) h = absurd cc
utf8_back x (raw.InterfaceMethod a b) h = absurd cc
utf8_back x (raw.NameAndType a b) h = absurd cc

class_back : (x : ℕ) (r : RawEntry) → class_inside r ≡ Some x → raw.Class x ≡ r
class_back x (raw.Utf8 a) h = absurd cc
class_back x (raw.Int a) h = absurd cc
class_back x (raw.Long a) h = absurd cc
class_back x (raw.Class a) h = let e : a ≡ x = cc in ap raw.Class (sym e)
class_back x (raw.Text a) h = absurd cc
class_back x (raw.Field a b) h = absurd cc
class_back x (raw.Method a b) h = absurd cc
class_back x (raw.InterfaceMethod a b) h = absurd cc
class_back x (raw.NameAndType a b) h = absurd cc

text_back : (x : ℕ) (r : RawEntry) → text_inside r ≡ Some x → raw.Text x ≡ r
text_back x (raw.Utf8 a) h = absurd cc
text_back x (raw.Int a) h = absurd cc
text_back x (raw.Long a) h = absurd cc
text_back x (raw.Class a) h = absurd cc
text_back x (raw.Text a) h = let e : a ≡ x = cc in ap raw.Text (sym e)
text_back x (raw.Field a b) h = absurd cc
text_back x (raw.Method a b) h = absurd cc
text_back x (raw.InterfaceMethod a b) h = absurd cc
text_back x (raw.NameAndType a b) h = absurd cc

field_back : (x : ℕ × ℕ) (r : RawEntry) → field_inside r ≡ Some x → raw.Field x.0 x.1 ≡ r
field_back x (raw.Utf8 a) h = absurd cc
field_back x (raw.Int a) h = absurd cc
field_back x (raw.Long a) h = absurd cc
field_back x (raw.Class a) h = absurd cc
field_back x (raw.Text a) h = absurd cc
field_back x (raw.Field a b) h = let e : (a, b) ≡ x = cc in ap (λ (p : ℕ × ℕ). raw.Field p.0 p.1) (sym e)
field_back x (raw.Method a b) h = absurd cc
field_back x (raw.InterfaceMethod a b) h = absurd cc
field_back x (raw.NameAndType a b) h = absurd cc

method_back : (x : ℕ × ℕ) (r : RawEntry) → method_inside r ≡ Some x → raw.Method x.0 x.1 ≡ r
method_back x (raw.Utf8 a) h = absurd cc
method_back x (raw.Int a) h = absurd cc
method_back x (raw.Long a) h = absurd cc
method_back x (raw.Class a) h = absurd cc
method_back x (raw.Text a) h = absurd cc
method_back x (raw.Field a b) h = absurd cc
method_back x (raw.Method a b) h = let e : (a, b) ≡ x = cc in ap (λ (p : ℕ × ℕ). raw.Method p.0 p.1) (sym e)
method_back x (raw.InterfaceMethod a b) h = absurd cc
method_back x (raw.NameAndType a b) h = absurd cc

interface_method_back : (x : ℕ × ℕ) (r : RawEntry) → interface_method_inside r ≡ Some x → raw.InterfaceMethod x.0 x.1 ≡ r
interface_method_back x (raw.Utf8 a) h = absurd cc
interface_method_back x (raw.Int a) h = absurd cc
interface_method_back x (raw.Long a) h = absurd cc
interface_method_back x (raw.Class a) h = absurd cc
interface_method_back x (raw.Text a) h = absurd cc
interface_method_back x (raw.Field a b) h = absurd cc
interface_method_back x (raw.Method a b) h = absurd cc
interface_method_back x (raw.InterfaceMethod a b) h = let e : (a, b) ≡ x = cc in ap (λ (p : ℕ × ℕ). raw.InterfaceMethod p.0 p.1) (sym e)
interface_method_back x (raw.NameAndType a b) h = absurd cc

name_and_type_back : (x : ℕ × ℕ) (r : RawEntry) → name_and_type_inside r ≡ Some x → raw.NameAndType x.0 x.1 ≡ r
name_and_type_back x (raw.Utf8 a) h = absurd cc
name_and_type_back x (raw.Int a) h = absurd cc
name_and_type_back x (raw.Long a) h = absurd cc
name_and_type_back x (raw.Class a) h = absurd cc
name_and_type_back x (raw.Text a) h = absurd cc
name_and_type_back x (raw.Field a b) h = absurd cc
name_and_type_back x (raw.Method a b) h = absurd cc
name_and_type_back x (raw.InterfaceMethod a b) h = absurd cc
name_and_type_back x (raw.NameAndType a b) h = let e : (a, b) ≡ x = cc in ap (λ (p : ℕ × ℕ). raw.NameAndType p.0 p.1) (sym e)

-- ---- tags

find_keeps : {A : Type 0} (p : A → Bool) (xs : List A) (x : A) → find p xs ≡ Some x → p x ≡ true
find_keeps p [] x h = absurd cc
find_keeps {A} p (y ∷ ys) x h = by (p y) refl h (λ r. find_keeps p ys x r)
  where
    by : (b : Bool) → p y ≡ b → cond b (Some y) (find p ys) ≡ Some x → (find p ys ≡ Some x → p x ≡ true) → p x ≡ true
    by true is h later = let e : y ≡ x = cc in ap p (sym e) ∙ is
    by false is h later = later h

tag_is_number : (n : ℕ) (t : Tag) → tag_of_number n ≡ Some t → tag_number t ≡ n
unfolding tag_of_number
tag_is_number n t h = sym (eqb-true n (tag_number t) (find_keeps (λ t. n == tag_number t)
    (tag.Utf8 ∷ tag.Integer ∷ tag.Long ∷ tag.Class ∷ tag.Text ∷ tag.Field ∷ tag.Method ∷ tag.InterfaceMethod
    ∷ tag.NameAndType ∷ []) t h))

number_is_tag : (t : Tag) → tag_of_number (tag_number t) ≡ Some t
unfolding tag_of_number
number_is_tag tag.Utf8 = refl
number_is_tag tag.Integer = refl
number_is_tag tag.Long = refl
number_is_tag tag.Class = refl
number_is_tag tag.Text = refl
number_is_tag tag.Field = refl
number_is_tag tag.Method = refl
number_is_tag tag.InterfaceMethod = refl
number_is_tag tag.NameAndType = refl

opt : {A : Type 0} (f : Format A) (o : Option A) → allowed_in f o → (a : A) × (o ≡ Some a)
opt f None h = absurd h
opt f (Some a) h = (a, refl)

-- what stands behind a tag is of it
tag_kept : (t : Tag) (r : RawEntry) → (tagged t).allows r → raw_tag r ≡ t
tag_kept tag.Utf8 r h = let x = opt text (utf8_inside r) h in sym (ap raw_tag (utf8_back x.0 r x.1))
tag_kept tag.Integer r h = let x = opt u4 (int_inside r) h in sym (ap raw_tag (int_back x.0 r x.1))
tag_kept tag.Long r h = let x = opt u8 (long_inside r) h in sym (ap raw_tag (long_back x.0 r x.1))
tag_kept tag.Class r h = let x = opt u2 (class_inside r) h in sym (ap raw_tag (class_back x.0 r x.1))
tag_kept tag.Text r h = let x = opt u2 (text_inside r) h in sym (ap raw_tag (text_back x.0 r x.1))
tag_kept tag.Field r h = let x = opt two (field_inside r) h in sym (ap raw_tag (field_back x.0 r x.1))
tag_kept tag.Method r h = let x = opt two (method_inside r) h in sym (ap raw_tag (method_back x.0 r x.1))
tag_kept tag.InterfaceMethod r h = let x = opt two (interface_method_inside r) h in sym (ap raw_tag (interface_method_back x.0 r x.1))
tag_kept tag.NameAndType r h = let x = opt two (name_and_type_inside r) h in sym (ap raw_tag (name_and_type_back x.0 r x.1))

module _ (es : List Entry) where
  lawful_two : Lawful es two
  lawful_two = lawful_seq es u2 (λ i. u2) (lawful_number es w16 any half) (λ i _. lawful_number es w16 any half)

  lawful_tagged : (t : Tag) → Lawful es (tagged t)
  lawful_tagged tag.Utf8 =
      lawful_variant es raw.Utf8 utf8_inside text (λ a _. refl)
      utf8_back (lawful_text es)
  lawful_tagged tag.Integer =
      lawful_variant es (λ (n : ℕ). raw.Int (cast_signed w32 n)) int_inside u4 (λ a allowed. int_into a allowed.0)
      int_back (lawful_number es w32 any word)
  lawful_tagged tag.Long =
      lawful_variant es (λ (n : ℕ). raw.Long (cast_signed w64 n)) long_inside u8 (λ a allowed. long_into a allowed.0)
      long_back (lawful_number es w64 any double)
  lawful_tagged tag.Class =
      lawful_variant es raw.Class class_inside u2 (λ a _. refl)
      class_back (lawful_number es w16 any half)
  lawful_tagged tag.Text =
      lawful_variant es raw.Text text_inside u2 (λ a _. refl)
      text_back (lawful_number es w16 any half)
  lawful_tagged tag.Field =
      lawful_variant es (λ (p : ℕ × ℕ). raw.Field p.0 p.1) field_inside two (λ a _. refl)
      field_back lawful_two
  lawful_tagged tag.Method =
      lawful_variant es (λ (p : ℕ × ℕ). raw.Method p.0 p.1) method_inside two (λ a _. refl)
      method_back lawful_two
  lawful_tagged tag.InterfaceMethod =
      lawful_variant es (λ (p : ℕ × ℕ). raw.InterfaceMethod p.0 p.1) interface_method_inside two (λ a _. refl)
      interface_method_back lawful_two
  lawful_tagged tag.NameAndType =
      lawful_variant es (λ (p : ℕ × ℕ). raw.NameAndType p.0 p.1) name_and_type_inside two (λ a _. refl)
      name_and_type_back lawful_two

  lawful_behind : (o : Option Tag) → Lawful es (behind_tag o)
  lawful_behind None = record { found = λ s x fits h. absurd cc; only = λ a t b c bytes allowed count. absurd allowed }
  lawful_behind (Some t) = lawful_tagged t

  tag_parted : (n : ℕ) (o : Option Tag) (r : RawEntry) → tag_of_number n ≡ o → (behind_tag o).allows r
      → tag_number (raw_tag r) ≡ n
  tag_parted n None r is h = absurd h
  tag_parted n (Some t) r is h = ap tag_number (tag_kept t r h) ∙ tag_is_number n t is

  pub lawful_raw : Lawful es raw_entry
  lawful_raw =
      let f = as_named (λ (x : ℕ × RawEntry). x.1) (λ r. (tag_number (raw_tag r), r))
      (seq (number w8 is_tag) (λ n. behind_tag (tag_of_number n))) in
      lawful_item es f (lawful_as es (λ (x : ℕ × RawEntry). x.1) (λ (r : RawEntry). (tag_number (raw_tag r), r))
      (seq (number w8 is_tag) (λ n. behind_tag (tag_of_number n))) (λ r. refl)
      (λ x allowed.
      ap (λ (n : ℕ). (n, x.1)) (tag_parted x.0 (tag_of_number x.0) x.1 refl allowed.1))
      (lawful_seq es (number w8 is_tag) (λ n. behind_tag (tag_of_number n)) (lawful_number es w8 is_tag byte)
      (λ n _. lawful_behind (tag_of_number n))))
