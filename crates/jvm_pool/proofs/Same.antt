-- What is the same entry, and how many indices entries take.
use Rattle.std.proofs.Common.{◌≡◌, ℕ, ◌+◌, ◌<◌, Bool, true, false, ◌&&◌, List, [], ◌∷◌, ◌++◌, refl, sym, ap, ◌∙◌, true≢false, arith}
use Rattle.std.specs.Cmp.Lexicographic.{bytes_decides}
use Rattle.std.proofs.lemmas.Bool.{and_parts}
use Rattle.std.proofs.lemmas.Bool.Decides.{Decides-int_eq}
use Rattle.jvm_pool.specs.declared.entries.Entry.{Entry}
use Rattle.jvm_pool.specs.declared.entries.Entry.TheVariants.{Utf8, Int, Long, Class, Text, Field, Method, InterfaceMethod, NameAndType}
use Rattle.jvm_pool.specs.Entries.{size, same, same_text, units}

two_same : (a b : Bool) → a ≡ true → b ≡ true → (a && b) ≡ true
two_same true b p q = q
two_same false b p q = p

text_is : (t u : List ℕ) → same_text t u ≡ true → t ≡ u
text_is t u = (bytes_decides t u).0

text_self : (t : List ℕ) → same_text t t ≡ true
text_self t = (bytes_decides t t).1 refl

member_is : {A : Type 0} (f : List ℕ → List ℕ → List ℕ → A) (b m d c n e : List ℕ) → (same_text b c && (same_text m n && same_text d e)) ≡ true → f b m d ≡ f c n e
member_is f b m d c n e h =
    let p = and_parts (same_text b c) (same_text m n && same_text d e) h in
    let q = and_parts (same_text m n) (same_text d e) p.1 in
    ap (λ x. f x m d) (text_is b c p.0) ∙ ap (λ x. f c x d) (text_is m n q.0) ∙ ap (λ x. f c n x) (text_is d e q.1)

pub same_is : (x y : Entry) → same x y ≡ true → x ≡ y
same_is (Utf8 t) (Utf8 u) h = ap Utf8 (text_is t u h)
same_is (Int m) (Int n) h = ap Int ((Decides-int_eq m n).0 h)
same_is (Long m) (Long n) h = ap Long ((Decides-int_eq m n).0 h)
same_is (Class m) (Class n) h = ap Class (text_is m n h)
same_is (Text t) (Text u) h = ap Text (text_is t u h)
same_is (Field b m d) (Field c n e) h = member_is Field b m d c n e h
same_is (Method b m d) (Method c n e) h = member_is Method b m d c n e h
same_is (InterfaceMethod b m d) (InterfaceMethod c n e) h = member_is InterfaceMethod b m d c n e h
same_is (NameAndType m d) (NameAndType n e) h =
    let p = and_parts (same_text m n) (same_text d e) h in
    ap (λ x. NameAndType x d) (text_is m n p.0) ∙ ap (λ x. NameAndType n x) (text_is d e p.1)
same_is _ _ h = absurd (true≢false (sym h))

pub same_self : (x : Entry) → same x x ≡ true
same_self (Utf8 t) = text_self t
same_self (Int n) = (Decides-int_eq n n).1 refl
same_self (Long n) = (Decides-int_eq n n).1 refl
same_self (Class n) = text_self n
same_self (Text t) = text_self t
same_self (Field c n d) = two_same _ _ (text_self c) (two_same _ _ (text_self n) (text_self d))
same_self (Method c n d) = two_same _ _ (text_self c) (two_same _ _ (text_self n) (text_self d))
same_self (InterfaceMethod c n d) = two_same _ _ (text_self c) (two_same _ _ (text_self n) (text_self d))
same_self (NameAndType n d) = two_same _ _ (text_self n) (text_self d)

pub size_some : (e : Entry) → 0 < size e
size_some (Long n) = omega arith
size_some _ = omega arith

pub units-append : (es more : List Entry) → units (es ++ more) ≡ units es + units more
units-append [] more = omega arith
units-append (e ∷ es) more = omega (arith, units-append es more)
