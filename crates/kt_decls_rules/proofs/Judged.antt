-- A file's headers are well formed or refused at one place, and not both.
use Rattle.std.specs.Prelude.{ℕ, zero, suc, List, ◌<◌, ◌≡◌, Option, Some, slice_get, length, refl}
use Rattle.std.proofs.Common.{arith, inl, inr, ap, subst, sym, ◌∙◌}
use Rattle.std.proofs.lemmas.Bool.{cases_order}
use Rattle.std.proofs.lemmas.Option.{slice_get_within}
use Rattle.kt_base.specs.declared.refusals.Pos.{Pos}
use Rattle.kt_tree.specs.Declarations.{DeclarationTree}
use Rattle.kt_decls_rules.specs.Headers.{Header, headers, place, IsFine, AreWellFormed, AreRefusedAt, IsJudgedOnce}

both : (ds : List DeclarationTree) (p : Pos) → AreWellFormed ds → AreRefusedAt ds p → ⊥
both ds p fine r = r.fails (fine r.number r.header r.stands)

same_header : (o : Option Header) (a b : Header) → o ≡ Some a → o ≡ Some b → a ≡ b
same_header o a b p q = cc

one : (ds : List DeclarationTree) (p q : Pos) → AreRefusedAt ds p → AreRefusedAt ds q → p ≡ q
one ds p q r s =
    elim (cases_order r.number s.number) [
      | inl e ↦
          let same : r.header ≡ s.header =
          same_header (slice_get (headers ds) r.number) r.header s.header r.stands (ap (slice_get (headers ds)) e ∙ s.stands) in
          sym r.at ∙ (ap place same ∙ s.at)
      | inr order ↦
          elim order [
            | inl less ↦ absurd (r.fails (s.before r.number r.header less r.stands))
            | inr more ↦ absurd (s.fails (r.before s.number s.header more s.stands))
          ]
    ]

-- the first so many are well formed
AreFineBelow : List DeclarationTree → ℕ → Type 0
AreFineBelow ds k = (n : ℕ) (h : Header) → n < k → slice_get (headers ds) n ≡ Some h → IsFine ds h

one_more : (ds : List DeclarationTree) (k : ℕ) → ((p : Pos) → AreRefusedAt ds p → ⊥) → (AreFineBelow ds (suc k) → ⊥) → AreFineBelow ds k → ⊥
unfolding AreFineBelow
one_more ds k never not below =
    let fails : (h : Header) → slice_get (headers ds) k ≡ Some h → IsFine ds h → ⊥ =
    λ h stands fine. not (λ n g less there. at_or_below n g less there h stands fine) in
    not (λ n g less there. elim (cases_order n k) [
      | inl e ↦
          let here : slice_get (headers ds) k ≡ Some g = sym (ap (slice_get (headers ds)) e) ∙ there in
          absurd (never (place g) (record { number = k; header = g; stands = here; fails = fails g here; before = below; at = refl }))
      | inr order ↦ elim order [
        | inl lower ↦ below n g lower there
        | inr higher ↦ absurd (omega arith)
      ]
    ])
  where
    at_or_below : (n : ℕ) (g : Header) → n < suc k → slice_get (headers ds) n ≡ Some g → (h : Header) → slice_get (headers ds) k ≡ Some h → IsFine ds h → IsFine ds g
    at_or_below n g less there h stands fine = elim (cases_order n k) [
      | inl e ↦ subst (IsFine ds) (same_header (slice_get (headers ds) k) h g stands (sym (ap (slice_get (headers ds)) e) ∙ there)) fine
      | inr order ↦ elim order [
        | inl lower ↦ below n g lower there
        | inr higher ↦ absurd (omega arith)
      ]
    ]

never_all : (ds : List DeclarationTree) (k : ℕ) → ((p : Pos) → AreRefusedAt ds p → ⊥) → (AreFineBelow ds k → ⊥) → ⊥
unfolding AreFineBelow
never_all ds zero never not = not (λ n h less there. absurd (omega arith))
never_all ds (suc k) never not = never_all ds k never (one_more ds k never not)

pub judged : IsJudgedOnce
unfolding AreFineBelow
judged ds = record {
  not_both = both ds;
  one_place = one ds;
  not_neither = λ not never. never_all ds (length (headers ds)) never (λ below. not (λ n h there. below n h (slice_get_within (headers ds) n h there) there));
}
