-- The names in a pool are ASCII.
use Rattle.std.proofs.Common.{◌≡◌, ℕ, zero, suc, ◌+◌, ◌<◌, Bool, true, false, ◌&&◌, ◌||◌, List, [], ◌∷◌, ◌++◌, length, map, take, get_or, slice_get, Some, refl, sym, ap, subst, ◌∙◌, true≢false}
use Rattle.std.specs.Prelude.{nat_lt}
use Rattle.std.proofs.lemmas.Bool.{and_parts}
use Rattle.std.proofs.lemmas.List.{take_more, map_push}
use Rattle.jvm_pool.specs.declared.entries.Entry.{Entry}
use Rattle.jvm_pool.specs.declared.entries.Entry.TheVariants.{Utf8, Int, Long, Class, Text, Field, Method, InterfaceMethod, NameAndType}
use Rattle.jvm_pool.specs.Entries.{same}
use Rattle.jvm_pool.specs.Mentions.{has}
use Rattle.jvm_pool.proofs.Same.{same_self, same_is}
use Rattle.jvm_pool.specs.DescriptorReading.{first_type}
use Rattle.jvm_pool_bytes.specs.declared.raws.RawEntry.{RawEntry}
use Rattle.jvm_pool_bytes.specs.Names.{is_ascii, is_name, is_field_descriptor, is_method_descriptor, is_last, opened}
use Rattle.jvm_pool_bytes.specs.Raws.{entry_of}
use Rattle.jvm_pool_bytes.specs.Reading.{entries_of}
use Rattle.jvm_pool_bytes.specs.Spelling.{IsEntry, AreEntries, IsPool, parts}
use Rattle.jvm_pool_reader.specs.JudgedSoFar.{HasNames, HaveNames}

kept : (es : List Entry) (e : Entry) → AreEntries es → has es e ≡ true → IsEntry e
kept [] e are h = absurd (true≢false (sym h))
kept (x ∷ es) e are h = by (same e x) refl h (λ g. kept es e are.1 g)
  where
    by : (b : Bool) → same e x ≡ b → (b || has es e) ≡ true → (has es e ≡ true → IsEntry e) → IsEntry e
    by true is h later = subst IsEntry (sym (same_is e x is)) are.0
    by false is h later = later h

name_ascii : (text : List ℕ) → is_name text ≡ true → is_ascii text ≡ true
name_ascii text h = (and_parts (nat_lt 0 (length text)) (is_ascii text) h).1

descriptor_ascii : (text : List ℕ) → (is_field_descriptor text || is_method_descriptor text) ≡ true → is_ascii text ≡ true
descriptor_ascii text h = by (is_ascii text) (is_last (first_type text)) (opened text) h
  where
    by : (a b c : Bool) → (a && b || a && c) ≡ true → a ≡ true
    by true b c h = refl
    by false b c h = absurd (true≢false (sym h))

first_part : (p q : Entry) (ps : List Entry) → has (p ∷ ps) p ≡ true
first_part p q ps = rw (same_self p) refl

second_part : (p q : Entry) → has (p ∷ q ∷ []) q ≡ true
second_part p q = by (same q p)
  where
    by : (b : Bool) → (b || (same q q || false)) ≡ true
    by true = refl
    by false = rw (same_self q) refl

module _ (es : List Entry) (pool : IsPool es) where
  class_ascii : (name : List ℕ) → has es (Class name) ≡ true → is_ascii name ≡ true
  class_ascii name h = name_ascii name (kept es (Class name) pool.entries h)

  pair_ascii : (name descriptor : List ℕ) → has es (NameAndType name descriptor) ≡ true
      → (is_ascii name ≡ true) × (is_ascii descriptor ≡ true)
  pair_ascii name descriptor h =
      let e = kept es (NameAndType name descriptor) pool.entries h in
      (name_ascii name e.0, descriptor_ascii descriptor e.1)

  member_ascii : (e : Entry) (class name descriptor : List ℕ) → has es e ≡ true
      → parts e ≡ Class class ∷ NameAndType name descriptor ∷ []
      → (is_ascii class ≡ true) × (is_ascii name ≡ true) × (is_ascii descriptor ≡ true)
  member_ascii e class name descriptor h are =
      let p = Class class in
      let q = NameAndType name descriptor in
      let first : has es p ≡ true = pool.whole e h p (ap (λ (l : List Entry). has l p) are ∙ first_part p q (q ∷ [])) in
      let second : has es q ≡ true = pool.whole e h q (ap (λ (l : List Entry). has l q) are ∙ second_part p q) in
      let both = pair_ascii name descriptor second in
      (class_ascii class first, both.0, both.1)

  names : (e : Entry) → has es e ≡ true → HasNames e
  names (Utf8 text) h = tt
  names (Int n) h = tt
  names (Long n) h = tt
  names (Class name) h = class_ascii name h
  names (Text text) h = tt
  names (Field class name descriptor) h = member_ascii (Field class name descriptor) class name descriptor h refl
  names (Method class name descriptor) h = member_ascii (Method class name descriptor) class name descriptor h refl
  names (InterfaceMethod class name descriptor) h =
      member_ascii (InterfaceMethod class name descriptor) class name descriptor h refl
  names (NameAndType name descriptor) h = pair_ascii name descriptor h

there : (all rs : List RawEntry) (i : ℕ) (r : RawEntry) → slice_get rs i ≡ Some r
    → has (map (entry_of all) rs) (entry_of all r) ≡ true
there all [] i r h = absurd cc
there all (x ∷ rs) zero r h =
    let e : x ≡ r = cc in
    rw (e, same_self (entry_of all r)) refl
there all (x ∷ rs) (suc i) r h = by (same (entry_of all r) (entry_of all x)) (there all rs i r h)
  where
    by : (b : Bool) → has (map (entry_of all) rs) (entry_of all r) ≡ true
        → (b || has (map (entry_of all) rs) (entry_of all r)) ≡ true
    by true h = refl
    by false h = h

pub have_names : (all : List RawEntry) → IsPool (entries_of all) → HaveNames all
have_names all pool i r h = names (entries_of all) pool (entry_of all r) (there all all i r h)

pub one_entry : (all : List RawEntry) (i : ℕ) (r d : RawEntry) (before after : List Entry) → i < length all
    → r ≡ get_or all i d → before ≡ map (entry_of all) (take i all) → after ≡ before ++ entry_of all r ∷ []
    → after ≡ map (entry_of all) (take (i + 1) all)
one_entry all i r d before after lt is so_far pushed =
    pushed ∙ ap (λ (l : List Entry). l ++ entry_of all r ∷ []) so_far
    ∙ ap (λ (x : RawEntry). map (entry_of all) (take i all) ++ entry_of all x ∷ []) is
    ∙ sym (map_push (entry_of all) (take i all) (get_or all i d))
    ∙ ap (map (entry_of all)) (sym (take_more all i d lt))
