-- What the files in memory hold after a put.
use Rattle.std.proofs.Common.{◌≡◌, ◌≢◌, ℕ, Bool, true, false, List, [], ◌∷◌, ◌++◌, Some, None, get_or, refl, sym, ap, ◌∙◌}
use Rattle.std.proofs.Math.ListN.{set}
use Rattle.std.proofs.lemmas.Slice.Eq.{bytes_eq-Decides}
use Rattle.std.specs.Prelude.{find, position, string_bytes, Vec}
use Rattle.std.specs.Option.{option_map}
use Rattle.std.specs.Str.{bytes_eq}
use Rattle.std.specs.declared.alloc.Global.{Global}
use Rattle.kt_outside.specs.Memory.{MemFile, is_named, file_named}
use Rattle.kt_outside.proofs.Finding.{find_placed, find_none, find_set, find_set_other, find_push, find_push_other, placed_passes}

same_name : (xs ys : List ℕ) → xs ≡ ys → bytes_eq xs ys ≡ true
same_name xs ys is = (bytes_eq-Decides xs ys).1 is

is_false : (b : Bool) → (b ≡ true → ⊥) → b ≡ false
is_false true h = absurd (h refl)
is_false false h = refl

other_name : (xs ys zs : List ℕ) → xs ≡ ys → zs ≢ ys → bytes_eq xs zs ≡ false
other_name xs ys zs is apart = is_false (bytes_eq xs zs) (λ h. apart (sym ((bytes_eq-Decides xs zs).0 h) ∙ is))

module _ (files : List MemFile) (name : List ℕ) where
  module _ (i : ℕ) (file : MemFile) (copy : Vec ℕ Global) (at : position (is_named name) files ≡ Some i) (there : file ≡ get_or files i file) where
    named : string_bytes file.0 ≡ name
    named = (bytes_eq-Decides (string_bytes file.0) name).0 (ap (is_named name) there ∙ placed_passes (is_named name) files i file at)

    pub set_replaces : file_named (set files i (file.0, copy)) name ≡ Some copy.items
    set_replaces = ap (option_map (λ (f : MemFile). f.1.items)) (find_set (is_named name) files i file (file.0, copy) at (same_name _ _ named))

    pub set_keeps : (other : List ℕ) → other ≢ name → file_named (set files i (file.0, copy)) other ≡ file_named files other
    set_keeps other apart =
        let no = other_name (string_bytes file.0) name other named apart in
        ap (option_map (λ (f : MemFile). f.1.items)) (find_set_other (is_named other) files i file (file.0, copy) no (ap (is_named other) (sym there) ∙ no))

  module _ (file : MemFile) (named : string_bytes file.0 ≡ name) where
    pub push_replaces : position (is_named name) files ≡ None → file_named (files ++ file ∷ []) name ≡ Some file.1.items
    push_replaces absent = ap (option_map (λ (f : MemFile). f.1.items)) (find_push (is_named name) files file (find_none (is_named name) files absent) (same_name _ _ named))

    pub push_keeps : (other : List ℕ) → other ≢ name → file_named (files ++ file ∷ []) other ≡ file_named files other
    push_keeps other apart = ap (option_map (λ (f : MemFile). f.1.items)) (find_push_other (is_named other) files file (other_name (string_bytes file.0) name other named apart))

  pub placed_holds : (i : ℕ) (file : MemFile) → position (is_named name) files ≡ Some i → file ≡ get_or files i file → file_named files name ≡ Some file.1.items
  placed_holds i file at there =
      let found : find (is_named name) files ≡ Some file = find_placed (is_named name) files i file at ∙ ap Some (sym there) in
      ap (option_map (λ (f : MemFile). f.1.items)) found

  pub absent_holds : position (is_named name) files ≡ None → file_named files name ≡ None
  absent_holds absent = ap (option_map (λ (f : MemFile). f.1.items)) (find_none (is_named name) files absent)
