-- What an entry is spelled by, and which entries those that were read stand for.
use Rattle.std.proofs.Common.{◌≡◌, ℕ, ◌+◌, ◌^◌, ◌<◌, Bool, true, false, ◌||◌, cond, List, ◌∷◌, ◌++◌, length, map, Option, Some, None, refl, sym, ap, subst, ◌∙◌, arith}
use Rattle.std.specs.Prelude.{ℤ, FitsSigned, not}
use Rattle.std.specs.Int.{w16, w32, w64, to_be_bytes, cast_signed, cast_unsigned}
use Rattle.std.specs.Ordering.{int_eq}
use Rattle.std.proofs.lemmas.Bool.{and_parts}
use Rattle.std.proofs.lemmas.Bool.Decides.{Decides-int_eq}
use Rattle.std.proofs.lemmas.Int.{to_z-of_z, ints}
use Rattle.std.proofs.lemmas.List.{append-nil}
use Rattle.jvm_pool.specs.declared.entries.Entry.{Entry}
use Rattle.jvm_pool.specs.declared.entries.Entry.TheVariants as entry
use Rattle.jvm_pool.specs.Modified.{modified}
use Rattle.jvm_pieces.specs.Pieces.{index, pieces}
use Rattle.jvm_class_formats.specs.Formats.{u4, spelled_in, allowed_in}
use Rattle.jvm_pool_bytes.specs.declared.raws.RawEntry.{RawEntry}
use Rattle.jvm_pool_bytes.specs.declared.raws.RawEntry.TheVariants as raw
use Rattle.jvm_pool_bytes.specs.Names.{is_name, is_field_descriptor, is_method_descriptor}
use Rattle.jvm_pool_bytes.specs.Spelling.{parts, cp_info, IsEntry}
use Rattle.jvm_pool_bytes.specs.Raws.{tag_of_number, raw_units, raw_at, text_in, text_at, descriptor_in, entry_of}
use Rattle.jvm_pool_bytes.specs.Reading.{int_inside, long_inside, u8, raw_entry, fits, names, is_class, is_pair, is_text, text_keeps}
use Rattle.jvm_pool_bytes.proofs.Standing.{with_indices, named_text, named_pair, AllFit}

-- an entry with the indices that its parts have
abbrev pub raw_of : List Entry → Entry → RawEntry
raw_of es e = with_indices e (map (index es) (parts e))

pub int_seen : (n : ℤ) → FitsSigned w32 n → int_inside (raw.Int n) ≡ Some (cast_unsigned w32 n)
int_seen n fits =
    ap (λ (b : Bool). cond b (Some (cast_unsigned w32 n)) None)
    ((Decides-int_eq (cast_signed w32 (cast_unsigned w32 n)) n).1 (to_z-of_z w32 n fits))

pub long_seen : (n : ℤ) → FitsSigned w64 n → long_inside (raw.Long n) ≡ Some (cast_unsigned w64 n)
long_seen n fits =
    ap (λ (b : Bool). cond b (Some (cast_unsigned w64 n)) None)
    ((Decides-int_eq (cast_signed w64 (cast_unsigned w64 n)) n).1 (to_z-of_z w64 n fits))

pub raw_spelled : (none es : List Entry) (e : Entry) → IsEntry e
    → pieces none (raw_entry.spell (raw_of es e)) ≡ cp_info es e
unfolding tag_of_number
raw_spelled none es (entry.Utf8 t) fits =
    ap (λ (l : List ℕ). 1 ∷ (to_be_bytes w16 (length (modified t)) ++ l)) (append-nil (modified t))
    ∙ ap (λ (l : List ℕ). 1 ∷ l) (sym (append-nil (to_be_bytes w16 (length (modified t)) ++ modified t)))
raw_spelled none es (entry.Int n) fits =
    ap (λ (o : Option ℕ). 3 ∷ pieces none (spelled_in u4 o)) (int_seen n fits)
raw_spelled none es (entry.Long n) fits =
    ap (λ (o : Option ℕ). 5 ∷ pieces none (spelled_in u8 o)) (long_seen n fits)
raw_spelled none es (entry.Class n) fits = refl
raw_spelled none es (entry.Text t) fits = refl
raw_spelled none es (entry.Field c n d) fits = refl
raw_spelled none es (entry.Method c n d) fits = refl
raw_spelled none es (entry.InterfaceMethod c n d) fits = refl
raw_spelled none es (entry.NameAndType n d) fits = refl

-- ---- which entries

signed_fits : (n : ℕ) → n < 2 ^ 32 → FitsSigned w32 (cast_signed w32 n)
signed_fits n lt = omega (arith, ints, lt)

signed_fits_64 : (n : ℕ) → n < 2 ^ 64 → FitsSigned w64 (cast_signed w64 n)
signed_fits_64 n lt = omega (arith, ints, lt)

int_fits : (n : ℤ) (o : Option ℕ) → int_inside (raw.Int n) ≡ o → allowed_in u4 o → FitsSigned w32 n
int_fits n None is h = absurd h
int_fits n (Some m) is h = by (int_eq (cast_signed w32 (cast_unsigned w32 n)) n) refl is
  where
    by : (b : Bool) → int_eq (cast_signed w32 (cast_unsigned w32 n)) n ≡ b
        → cond b (Some (cast_unsigned w32 n)) None ≡ Some m → FitsSigned w32 n
    by true same g =
        let e : cast_unsigned w32 n ≡ m = cc in
        subst (FitsSigned w32) ((Decides-int_eq (cast_signed w32 (cast_unsigned w32 n)) n).0 same)
        (signed_fits (cast_unsigned w32 n) (subst (λ (k : ℕ). k < 2 ^ 32) (sym e) h.0))
    by false same g = absurd cc

long_fits : (n : ℤ) (o : Option ℕ) → long_inside (raw.Long n) ≡ o → allowed_in u8 o → FitsSigned w64 n
long_fits n None is h = absurd h
long_fits n (Some m) is h = by (int_eq (cast_signed w64 (cast_unsigned w64 n)) n) refl is
  where
    by : (b : Bool) → int_eq (cast_signed w64 (cast_unsigned w64 n)) n ≡ b
        → cond b (Some (cast_unsigned w64 n)) None ≡ Some m → FitsSigned w64 n
    by true same g =
        let e : cast_unsigned w64 n ≡ m = cc in
        subst (FitsSigned w64) ((Decides-int_eq (cast_signed w64 (cast_unsigned w64 n)) n).0 same)
        (signed_fits_64 (cast_unsigned w64 n) (subst (λ (k : ℕ). k < 2 ^ 64) (sym e) h.0))
    by false same g = absurd cc

one_kind : (a b : Bool) → (a || b) ≡ true → not b ≡ true → a ≡ true
one_kind true b h g = refl
one_kind false true h g = absurd cc
one_kind false false h g = absurd cc

other_kind : (a b : Bool) → (a || b) ≡ true → not a ≡ true → b ≡ true
other_kind a true h g = refl
other_kind true false h g = absurd cc
other_kind false false h g = absurd cc

module _ (all : List RawEntry) (fit : AllFit all) where
  -- the descriptor that an entry names is one, and not of the other kind
  descriptor_fits : (other : List ℕ → Bool) (j : ℕ)
      → names all (1 + raw_units all) (is_pair all (1 + raw_units all) other) j ≡ true
      → ((is_field_descriptor (descriptor_in all (raw_at 1 all j)) || is_method_descriptor (descriptor_in all (raw_at 1 all j)))
      ≡ true) × (not (other (descriptor_in all (raw_at 1 all j))) ≡ true)
  descriptor_fits other j h =
      let p = named_pair all other j h in
      let q = and_parts (names all (1 + raw_units all) (is_text all (1 + raw_units all) is_name) p.0)
      (names all (1 + raw_units all)
      (is_text all (1 + raw_units all) (λ t. is_field_descriptor t || is_method_descriptor t)) p.1)
      (fit j (raw.NameAndType p.0 p.1) p.2) in
      let d = named_text all (λ t. is_field_descriptor t || is_method_descriptor t) p.1 q.1 in
      let is : descriptor_in all (raw_at 1 all j) ≡ d.0 =
      ap (descriptor_in all) p.2 ∙ ap (text_in all) d.1 in
      let keeps : not (other d.0) ≡ true =
      sym (ap (text_keeps all (1 + raw_units all) (λ t. not (other t))) d.1) ∙ p.3 in
      subst (λ (t : List ℕ). ((is_field_descriptor t || is_method_descriptor t) ≡ true) × (not (other t) ≡ true)) (sym is)
      (d.2, keeps)

  name_fits : (rule : List ℕ → Bool) (i : ℕ)
      → names all (1 + raw_units all) (is_text all (1 + raw_units all) rule) i ≡ true → rule (text_at all i) ≡ true
  name_fits rule i h =
      let t = named_text all rule i h in
      ap (λ (o : Option RawEntry). rule (text_in all o)) t.1 ∙ t.2

  pub entry_fits : (r : RawEntry) → raw_entry.allows r → fits all (1 + raw_units all) r ≡ true → IsEntry (entry_of all r)
  unfolding tag_of_number
  entry_fits (raw.Utf8 t) allowed h = (allowed.1.1.0, allowed.1.0.0)
  entry_fits (raw.Int n) allowed h = int_fits n (int_inside (raw.Int n)) refl allowed.1
  entry_fits (raw.Long n) allowed h = long_fits n (long_inside (raw.Long n)) refl allowed.1
  entry_fits (raw.Class i) allowed h = name_fits is_name i h
  entry_fits (raw.Text i) allowed h = tt
  entry_fits (raw.Field i j) allowed h =
      let p = and_parts (names all (1 + raw_units all) (is_class all (1 + raw_units all)) i)
      (names all (1 + raw_units all) (is_pair all (1 + raw_units all) is_method_descriptor) j) h in
      let d = descriptor_fits is_method_descriptor j p.1 in
      one_kind _ _ d.0 d.1
  entry_fits (raw.Method i j) allowed h =
      let p = and_parts (names all (1 + raw_units all) (is_class all (1 + raw_units all)) i)
      (names all (1 + raw_units all) (is_pair all (1 + raw_units all) is_field_descriptor) j) h in
      let d = descriptor_fits is_field_descriptor j p.1 in
      other_kind _ _ d.0 d.1
  entry_fits (raw.InterfaceMethod i j) allowed h =
      let p = and_parts (names all (1 + raw_units all) (is_class all (1 + raw_units all)) i)
      (names all (1 + raw_units all) (is_pair all (1 + raw_units all) is_field_descriptor) j) h in
      let d = descriptor_fits is_field_descriptor j p.1 in
      other_kind _ _ d.0 d.1
  entry_fits (raw.NameAndType i j) allowed h =
      let p = and_parts (names all (1 + raw_units all) (is_text all (1 + raw_units all) is_name) i)
      (names all (1 + raw_units all)
      (is_text all (1 + raw_units all) (λ t. is_field_descriptor t || is_method_descriptor t)) j) h in
      (name_fits is_name i p.0, name_fits (λ t. is_field_descriptor t || is_method_descriptor t) j p.1)
