-- Sums of counts, as far as they count.
use Rattle.std.proofs.lemmas.List.{drop_more, drop_all}
use Rattle.std.proofs.Common.{◌<◌, ◌≤◌, List, [], ◌∷◌, length, get_or, drop, subst, ◌≡◌, ℕ, ◌+◌, min, ap, arith, sym, ◌∙◌}
use Rattle.kt_sizes.specs.declared.sizes.Sizes.{Sizes}
use Rattle.kt_sizes.specs.Counting.{nothing, both, ◌&◌}
use Rattle.kt_sizes.specs.Capped.{cap, capped, Partly}

-- counts that agree one by one
fields : (a b : Sizes) → a.nodes ≡ b.nodes → a.heavy ≡ b.heavy → a.captured ≡ b.captured → a.points ≡ b.points
    → a.kept ≡ b.kept → a.depth ≡ b.depth → a ≡ b
fields a b nodes heavy captured points kept depth = λ i.
    record {
      nodes = nodes i;
      heavy = heavy i;
      captured = captured i;
      points = points i;
      kept = kept i;
      depth = depth i;
    }

pub none_before : (a : Sizes) → nothing & a ≡ a
unfolding both
none_before a = fields (nothing & a) a (omega arith) (omega arith) (omega arith) (omega arith) (omega arith) (omega arith)

pub none_behind : (a : Sizes) → a & nothing ≡ a
unfolding both
none_behind a = fields (a & nothing) a (omega arith) (omega arith) (omega arith) (omega arith) (omega arith) (omega arith)

pub together : (a b c : Sizes) → a & (b & c) ≡ (a & b) & c
unfolding both
together a b c =
    fields (a & (b & c)) ((a & b) & c) (omega arith) (omega arith) (omega arith) (omega arith) (omega arith) (omega arith)

pub partly_begun : (done whole : Sizes) → done ≡ capped nothing → Partly done whole whole
partly_begun done whole is = record { so_far = nothing; is = is; makes = none_before whole }

partly_on : (done first rest whole more : Sizes) → Partly done (first & rest) whole
    → ((a : Sizes) → done ≡ capped a → more ≡ capped (a & first)) → Partly more rest whole
partly_on done first rest whole more p on =
    record {
      so_far = p.so_far & first;
      is = on p.so_far p.is;
      makes = sym (together p.so_far first rest) ∙ p.makes;
    }

partly_done : (done whole : Sizes) → Partly done nothing whole → done ≡ capped whole
partly_done done whole p = p.is ∙ ap capped (sym (none_behind p.so_far) ∙ p.makes)

-- a loop over a list takes the next element
pub partly_next : {A : Type 0} (f g : List A → Sizes) (first : A → Sizes) → ((x : A) (xs : List A) → f (x ∷ xs) ≡ first x & g xs)
    → (xs : List A) (i : ℕ) (x : A) → i < length xs → x ≡ get_or xs i x → (done more whole : Sizes)
    → Partly done (f (drop i xs)) whole → ((a : Sizes) → done ≡ capped a → more ≡ capped (a & first x))
    → Partly more (g (drop (i + 1) xs)) whole
partly_next f g first one xs i x less is done more whole p on =
    let e : drop i xs ≡ x ∷ drop (i + 1) xs = drop_more xs i x less ∙ ap (λ y. y ∷ drop (i + 1) xs) (sym is) in
    partly_on done (first x) (g (drop (i + 1) xs)) whole more
    (subst (λ rest. Partly done rest whole) (ap f e ∙ one x (drop (i + 1) xs)) p) on

-- and ends where none is left
pub partly_all : {A : Type 0} (f : List A → Sizes) → f [] ≡ nothing → (xs : List A) (i : ℕ) → length xs ≤ i
    → (done whole : Sizes) → Partly done (f (drop i xs)) whole → done ≡ capped whole
partly_all f none xs i le done whole p =
    partly_done done whole (subst (λ rest. Partly done rest whole) (ap f (drop_all i xs le) ∙ none) p)

pub cap_next : (w : ℕ) → min (cap w + 1) 18446744073709551615 ≡ cap (w + 1)
cap_next w = omega arith
