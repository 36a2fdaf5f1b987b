-- A pool that is read is spelled so.
use Rattle.std.proofs.Common.{◌≡◌, ℕ, ◌+◌, ◌<◌, Bool, true, false, cond, eqb, List, [], ◌∷◌, map, Some, refl, sym, ap, ◌∙◌, arith, true≢false}
use Rattle.jvm_pool.specs.declared.entries.Entry.{Entry}
use Rattle.jvm_pool.specs.Entries.{size, same, units}
use Rattle.jvm_pool.specs.Mentions.{seek}
use Rattle.jvm_pool.proofs.Same.{same_is, same_self}
use Rattle.jvm_pieces.specs.Pieces.{index, found}
use Rattle.jvm_pool_bytes.specs.declared.raws.RawEntry.{RawEntry}
use Rattle.jvm_pool_bytes.specs.declared.raws.RawEntry.TheVariants as raw
use Rattle.jvm_pool_bytes.specs.Spelling.{parts}
use Rattle.jvm_pool_bytes.specs.Raws.{raw_size, raw_units, indices, raw_at, entry_of}
use Rattle.jvm_pool_bytes.specs.Reading.{entries_of}
use Rattle.jvm_pool_bytes.proofs.Standing.{raw_here, raw_later, Fresh, one_place, Aligned, level, aligned, AllFit, with_indices, indices_back, same_content}

pub entry_size : (all : List RawEntry) (r : RawEntry) → size (entry_of all r) ≡ raw_size r
entry_size all (raw.Utf8 t) = refl
entry_size all (raw.Int n) = refl
entry_size all (raw.Long n) = refl
entry_size all (raw.Class i) = refl
entry_size all (raw.Text i) = refl
entry_size all (raw.Field i j) = refl
entry_size all (raw.Method i j) = refl
entry_size all (raw.InterfaceMethod i j) = refl
entry_size all (raw.NameAndType i j) = refl

pub entries_units : (all rs : List RawEntry) → units (map (entry_of all) rs) ≡ raw_units rs
entries_units all [] = refl
entries_units all (r ∷ rs) = let h = entries_units all rs in let s = entry_size all r in omega (arith, h, s)

-- what an entry stands for has its index, where no other stands for the same
pub sought : (all : List RawEntry) (k : ℕ) (rs : List RawEntry) (i : ℕ) (q : RawEntry) → raw_at k rs i ≡ Some q
    → ((j : ℕ) (r : RawEntry) → raw_at k rs j ≡ Some r → entry_of all r ≡ entry_of all q → j ≡ i)
    → seek k (map (entry_of all) rs) (entry_of all q) ≡ Some i
unfolding seek raw_at
sought all k [] i q h only = absurd cc
sought all k (x ∷ rs) i q h only =
    by (same (entry_of all q) (entry_of all x)) refl
    (λ g. sought all (k + raw_size x) rs i q g (λ j r p e. only j r (raw_later k x rs j r p) e))
  where
    tail : (b : Bool) → eqb i k ≡ b → cond b (Some x) (raw_at (k + raw_size x) rs i) ≡ Some q
        → same (entry_of all q) (entry_of all x) ≡ false → raw_at (k + raw_size x) rs i ≡ Some q
    tail true is p isn't =
        let e : x ≡ q = cc in
        let z : same (entry_of all q) (entry_of all x) ≡ true =
        ap (λ (y : RawEntry). same (entry_of all q) (entry_of all y)) e ∙ same_self (entry_of all q) in
        absurd (true≢false (sym z ∙ isn't))
    tail false is p isn't = p

    by : (b : Bool) → same (entry_of all q) (entry_of all x) ≡ b
        → (raw_at (k + raw_size x) rs i ≡ Some q
        → seek (k + raw_size x) (map (entry_of all) rs) (entry_of all q) ≡ Some i)
        → cond (same (entry_of all q) (entry_of all x)) (Some k)
        (seek (k + size (entry_of all x)) (map (entry_of all) rs) (entry_of all q)) ≡ Some i
    by true is later =
        ap (λ (b : Bool). cond b (Some k) (seek (k + size (entry_of all x)) (map (entry_of all) rs) (entry_of all q))) is
        ∙ ap (λ (n : ℕ). Some n) (only k x (raw_here k x rs) (sym (same_is (entry_of all q) (entry_of all x) is)))
    by false is later =
        ap (λ (b : Bool). cond b (Some k) (seek (k + size (entry_of all x)) (map (entry_of all) rs) (entry_of all q))) is
        ∙ ap (λ (n : ℕ). seek (k + n) (map (entry_of all) rs) (entry_of all q)) (entry_size all x)
        ∙ later (tail (eqb i k) refl h is)

pub level_low : (all : List RawEntry) (r : RawEntry) → level all r < 3
level_low all (raw.Utf8 t) = omega arith
level_low all (raw.Int n) = omega arith
level_low all (raw.Long n) = omega arith
level_low all (raw.Class i) = omega arith
level_low all (raw.Text i) = omega arith
level_low all (raw.Field i j) = omega arith
level_low all (raw.Method i j) = omega arith
level_low all (raw.InterfaceMethod i j) = omega arith
level_low all (raw.NameAndType i j) = omega arith

module _ (all : List RawEntry) (fresh : Fresh [] all) (fit : AllFit all) where
  pub index_stands : (i : ℕ) (q : RawEntry) → raw_at 1 all i ≡ Some q
      → seek 1 (entries_of all) (entry_of all q) ≡ Some i
  index_stands i q h =
      sought all 1 all i q h
      (λ j r p e. one_place 1 [] all j i q fresh
      (p ∙ ap (λ (x : RawEntry). Some x) (same_content all fresh fit 3 r q j i p h (level_low all r) (level_low all q) e)) h)

  indices_are : (n : ℕ) (ps : List Entry) (is : List ℕ) → Aligned all n ps is → map (index (entries_of all)) ps ≡ is
  indices_are n [] [] a = refl
  indices_are n (p ∷ ps) (i ∷ is) a =
      let x = a.0 in
      let at : seek 1 (entries_of all) p ≡ Some i =
      ap (seek 1 (entries_of all)) (sym x.is) ∙ index_stands i x.of x.at in
      let first : index (entries_of all) p ≡ i = ap found at in
      let others : map (index (entries_of all)) ps ≡ is = indices_are n ps is a.1 in
      ap (λ (k : ℕ). k ∷ map (index (entries_of all)) ps) first ∙ ap (λ (l : List ℕ). i ∷ l) others
  indices_are n [] (i ∷ is) a = absurd a
  indices_are n (p ∷ ps) [] a = absurd a

  -- an entry is the one that its contents give
  pub raw_again : (i : ℕ) (r : RawEntry) → raw_at 1 all i ≡ Some r
      → with_indices (entry_of all r) (map (index (entries_of all)) (parts (entry_of all r))) ≡ r
  raw_again i r h =
      ap (with_indices (entry_of all r))
      (indices_are (level all r) (parts (entry_of all r)) (indices r) (aligned all r (fit i r h)))
      ∙ indices_back all r
