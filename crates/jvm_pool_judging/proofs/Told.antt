-- What was told of names, of descriptors, and of entries that aren't there.
use Rattle.std.proofs.Common.{◌≡◌, ◌↔◌, ℕ, Bool, true, false, List, Option, None, Some, is_some, refl, sym, subst, ◌∙◌, ap}
use Rattle.jvm_pool.specs.Descriptors.{IsOfField, IsOfMethod}
use Rattle.jvm_pool.specs.declared.entries.Entry.{Entry}
use Rattle.jvm_pool.specs.Mentions.{has, seek}
use Rattle.jvm_pool.proofs.Seeking.{has_seek}
use Rattle.jvm_pool_bytes.specs.Names.{is_ascii, is_field_descriptor, is_method_descriptor}
use Rattle.jvm_pool_bytes.proofs.DescriptorKinds.{descriptor_kinds}

same_bool : (a b : Bool) → (a ≡ true → b ≡ true) → (b ≡ true → a ≡ true) → a ≡ b
same_bool true b to from = sym (to refl)
same_bool false true to from = from refl
same_bool false false to from = refl

pub field_told : (text : List ℕ) (b : Bool) → is_ascii text ≡ true → (b ≡ true) ↔ IsOfField text
    → b ≡ is_field_descriptor text
field_told text b ascii told =
    let kinds = (descriptor_kinds text ascii).0 in
    same_bool b (is_field_descriptor text) (λ t. kinds.1 (told.0 t)) (λ t. told.1 (kinds.0 t))

pub method_told : (text : List ℕ) (b : Bool) → is_ascii text ≡ true → (b ≡ true) ↔ IsOfMethod text
    → b ≡ is_method_descriptor text
method_told text b ascii told =
    let kinds = (descriptor_kinds text ascii).1 in
    same_bool b (is_method_descriptor text) (λ t. kinds.1 (told.0 t)) (λ t. told.1 (kinds.0 t))

none_is : (o : Option ℕ) → false ≡ is_some o → None ≡ o
none_is None h = refl
none_is (Some i) h = absurd cc

pub none_there : (es : List Entry) (e : Entry) → has es e ≡ false → None ≡ seek 1 es e
none_there es e h = none_is (seek 1 es e) (sym h ∙ has_seek 1 es e)
