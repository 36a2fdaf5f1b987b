-- A pool that grew from mentions has what was mentioned, and each part of what it has.
use Rattle.std.proofs.Common.{◌≡◌, ℕ, Bool, true, false, cond, ◌||◌, List, [], ◌∷◌, ◌++◌, Option, Some, None, is_some, ◌⊎◌, inl, inr, refl, sym, ap, ◌∙◌, true≢false}
use Rattle.jvm_pool.specs.declared.entries.Entry.{Entry}
use Rattle.jvm_pool.specs.declared.entries.Entry.TheVariants.{Utf8, Int, Long, Class, Text, Field, Method, InterfaceMethod, NameAndType}
use Rattle.jvm_pool.specs.Entries.{behind, same}
use Rattle.jvm_pool.specs.Mentions.{has, seek, with_one, with_each, with_mention, with_mentions}
use Rattle.jvm_pool.specs.Laws.{MentionsStand, PartsStand}
use Rattle.jvm_pool.proofs.Growing.{each_extends}
use Rattle.jvm_pool.proofs.Same.{same_is, same_self}
use Rattle.jvm_pool.proofs.Seeking.{has_seek}

-- ---- members of a list

one_of : (a b : Bool) → (a || b) ≡ true → (a ≡ true) ⊎ (b ≡ true)
one_of true b h = inl refl
one_of false b h = inr h

here : (y : Entry) (l : List Entry) (p : Entry) → same p y ≡ true → has (y ∷ l) p ≡ true
here y l p h = rw h refl

there : (y : Entry) (l : List Entry) (p : Entry) → has l p ≡ true → has (y ∷ l) p ≡ true
there y l p h = by (same p y)
  where
    by : (b : Bool) → (b || has l p) ≡ true
    by true = refl
    by false = h

alone : (y p : Entry) → has (y ∷ []) p ≡ true → p ≡ y
alone y p h = by (one_of (same p y) false h)
  where
    by : (same p y ≡ true) ⊎ (false ≡ true) → p ≡ y
    by (inl is) = same_is p y is
    by (inr not) = absurd (true≢false (sym not))

has_left : (es more : List Entry) (p : Entry) → has es p ≡ true → has (es ++ more) p ≡ true
has_left [] more p h = absurd (true≢false (sym h))
has_left (e ∷ es) more p h = by (one_of (same p e) (has es p) h) (has_left es more p)
  where
    by : (same p e ≡ true) ⊎ (has es p ≡ true) → (has es p ≡ true → has (es ++ more) p ≡ true) → has (e ∷ (es ++ more)) p ≡ true
    by (inl is) later = here e (es ++ more) p is
    by (inr x) later = there e (es ++ more) p (later x)

has_last : (es : List Entry) (e : Entry) → has (es ++ e ∷ []) e ≡ true
has_last [] e = here e [] e (same_self e)
has_last (x ∷ es) e = there x (es ++ e ∷ []) e (has_last es e)

has_split : (es more : List Entry) (p : Entry) → has (es ++ more) p ≡ true → (has es p ≡ true) ⊎ (has more p ≡ true)
has_split [] more p h = inr h
has_split (e ∷ es) more p h = by (one_of (same p e) (has (es ++ more) p) h) (has_split es more p)
  where
    later : (has es p ≡ true) ⊎ (has more p ≡ true) → (has (e ∷ es) p ≡ true) ⊎ (has more p ≡ true)
    later (inl x) = inl (there e es p x)
    later (inr x) = inr x

    by : (same p e ≡ true) ⊎ (has (es ++ more) p ≡ true) → (has (es ++ more) p ≡ true → (has es p ≡ true) ⊎ (has more p ≡ true)) → (has (e ∷ es) p ≡ true) ⊎ (has more p ≡ true)
    by (inl is) split = inl (here e es p is)
    by (inr x) split = later (split x)

-- ---- the parts of parts are parts

member_parts : (c n d : List ℕ) (x p : Entry) → has (Class c ∷ Utf8 c ∷ NameAndType n d ∷ Utf8 n ∷ Utf8 d ∷ []) x ≡ true → has (behind x) p ≡ true → has (Class c ∷ Utf8 c ∷ NameAndType n d ∷ Utf8 n ∷ Utf8 d ∷ []) p ≡ true
member_parts c n d x p h q = first (one_of (same x (Class c)) (has (Utf8 c ∷ NameAndType n d ∷ Utf8 n ∷ Utf8 d ∷ []) x) h)
  where
    no_part : (t : List ℕ) → x ≡ Utf8 t → false ≡ true
    no_part t is = sym (ap (λ (y : Entry). has (behind y) p) is) ∙ q

    fourth : (same x (Utf8 n) ≡ true) ⊎ (has (Utf8 d ∷ []) x ≡ true) → false ≡ true
    fourth (inl is) = no_part n (same_is x (Utf8 n) is)
    fourth (inr y) = no_part d (alone (Utf8 d) x y)

    third : (same x (NameAndType n d) ≡ true) ⊎ (has (Utf8 n ∷ Utf8 d ∷ []) x ≡ true) → has (Class c ∷ Utf8 c ∷ NameAndType n d ∷ Utf8 n ∷ Utf8 d ∷ []) p ≡ true
    third (inl is) = there (Class c) (Utf8 c ∷ NameAndType n d ∷ Utf8 n ∷ Utf8 d ∷ []) p (there (Utf8 c) (NameAndType n d ∷ Utf8 n ∷ Utf8 d ∷ []) p (there (NameAndType n d) (Utf8 n ∷ Utf8 d ∷ []) p (sym (ap (λ (y : Entry). has (behind y) p) (same_is x (NameAndType n d) is)) ∙ q)))
    third (inr y) = absurd (true≢false (sym (fourth (one_of (same x (Utf8 n)) (has (Utf8 d ∷ []) x) y))))

    second : (same x (Utf8 c) ≡ true) ⊎ (has (NameAndType n d ∷ Utf8 n ∷ Utf8 d ∷ []) x ≡ true) → has (Class c ∷ Utf8 c ∷ NameAndType n d ∷ Utf8 n ∷ Utf8 d ∷ []) p ≡ true
    second (inl is) = absurd (true≢false (sym (no_part c (same_is x (Utf8 c) is))))
    second (inr y) = third (one_of (same x (NameAndType n d)) (has (Utf8 n ∷ Utf8 d ∷ []) x) y)

    first : (same x (Class c) ≡ true) ⊎ (has (Utf8 c ∷ NameAndType n d ∷ Utf8 n ∷ Utf8 d ∷ []) x ≡ true) → has (Class c ∷ Utf8 c ∷ NameAndType n d ∷ Utf8 n ∷ Utf8 d ∷ []) p ≡ true
    first (inl is) = there (Class c) (Utf8 c ∷ NameAndType n d ∷ Utf8 n ∷ Utf8 d ∷ []) p (has_left (Utf8 c ∷ []) (NameAndType n d ∷ Utf8 n ∷ Utf8 d ∷ []) p (sym (ap (λ (y : Entry). has (behind y) p) (same_is x (Class c) is)) ∙ q))
    first (inr y) = second (one_of (same x (Utf8 c)) (has (NameAndType n d ∷ Utf8 n ∷ Utf8 d ∷ []) x) y)

-- a text has no parts
text_parts : (t : List ℕ) (l : List Entry) (x p : Entry) → x ≡ Utf8 t → has (behind x) p ≡ true → has l p ≡ true
text_parts t l x p is q = absurd (true≢false (sym (sym (ap (λ (y : Entry). has (behind y) p) is) ∙ q)))

parts_of_parts : (e x p : Entry) → has (behind e) x ≡ true → has (behind x) p ≡ true → has (behind e) p ≡ true
parts_of_parts (Utf8 t) x p h q = absurd (true≢false (sym h))
parts_of_parts (Int n) x p h q = absurd (true≢false (sym h))
parts_of_parts (Long n) x p h q = absurd (true≢false (sym h))
parts_of_parts (Class t) x p h q = text_parts t (Utf8 t ∷ []) x p (alone (Utf8 t) x h) q
parts_of_parts (Text t) x p h q = text_parts t (Utf8 t ∷ []) x p (alone (Utf8 t) x h) q
parts_of_parts (Field c n d) x p h q = member_parts c n d x p h q
parts_of_parts (Method c n d) x p h q = member_parts c n d x p h q
parts_of_parts (InterfaceMethod c n d) x p h q = member_parts c n d x p h q
parts_of_parts (NameAndType n d) x p h q = by (one_of (same x (Utf8 n)) (has (Utf8 d ∷ []) x) h)
  where
    by : (same x (Utf8 n) ≡ true) ⊎ (has (Utf8 d ∷ []) x ≡ true) → has (Utf8 n ∷ Utf8 d ∷ []) p ≡ true
    by (inl is) = text_parts n (Utf8 n ∷ Utf8 d ∷ []) x p (same_is x (Utf8 n) is) q
    by (inr y) = text_parts d (Utf8 n ∷ Utf8 d ∷ []) x p (alone (Utf8 d) x y) q

-- ---- a pool that grows

-- one mention alone
one_has : (es : List Entry) (m : Entry) → has (with_one m (λ es. es) es) m ≡ true
one_has es m = by (has es m) refl
  where
    by : (b : Bool) → has es m ≡ b → has (cond b es (es ++ m ∷ [])) m ≡ true
    by true is = is
    by false is = has_last es m

each_keeps_members : (ms es : List Entry) (p : Entry) → has es p ≡ true → has (with_each ms es) p ≡ true
each_keeps_members ms es p h = let x = each_extends ms es in ap (λ (l : List Entry). has l p) x.1 ∙ has_left es x.0 p h

each_has : (ms es : List Entry) (p : Entry) → has ms p ≡ true → has (with_each ms es) p ≡ true
each_has [] es p h = absurd (true≢false (sym h))
each_has (m ∷ ms) es p h = by (one_of (same p m) (has ms p) h) (each_has ms (with_one m (λ es. es) es) p)
  where
    by : (same p m ≡ true) ⊎ (has ms p ≡ true) → (has ms p ≡ true → has (with_each ms (with_one m (λ es. es) es)) p ≡ true) → has (with_each ms (with_one m (λ es. es) es)) p ≡ true
    by (inl is) later = each_keeps_members ms (with_one m (λ es. es) es) p (ap (λ (y : Entry). has (with_one m (λ es. es) es) y) (same_is p m is) ∙ one_has es m)
    by (inr x) later = later x

-- what a mention alone adds is what is mentioned
one_from : (es : List Entry) (m p : Entry) → has (with_one m (λ es. es) es) p ≡ true → (has es p ≡ true) ⊎ (p ≡ m)
one_from es m p h = by (has es m) h
  where
    added : (has es p ≡ true) ⊎ (has (m ∷ []) p ≡ true) → (has es p ≡ true) ⊎ (p ≡ m)
    added (inl x) = inl x
    added (inr x) = inr (alone m p x)

    by : (b : Bool) → has (cond b es (es ++ m ∷ [])) p ≡ true → (has es p ≡ true) ⊎ (p ≡ m)
    by true x = inl x
    by false x = added (has_split es (m ∷ []) p x)

each_from : (ms es : List Entry) (p : Entry) → has (with_each ms es) p ≡ true → (has es p ≡ true) ⊎ (has ms p ≡ true)
each_from [] es p h = inl h
each_from (m ∷ ms) es p h = by (each_from ms (with_one m (λ es. es) es) p h)
  where
    first : (has es p ≡ true) ⊎ (p ≡ m) → (has es p ≡ true) ⊎ (has (m ∷ ms) p ≡ true)
    first (inl x) = inl x
    first (inr is) = inr (here m ms p (ap (λ (y : Entry). same p y) (sym is) ∙ same_self p))

    by : (has (with_one m (λ es. es) es) p ≡ true) ⊎ (has ms p ≡ true) → (has es p ≡ true) ⊎ (has (m ∷ ms) p ≡ true)
    by (inl x) = first (one_from es m p x)
    by (inr x) = inr (there m ms p x)

-- each part of what the entries have is among them
Closed : List Entry → Type 0
Closed es = (e p : Entry) → has es e ≡ true → has (behind e) p ≡ true → has es p ≡ true

closed_new : (es : List Entry) (m : Entry) → Closed es → Closed (with_each (behind m) (es ++ m ∷ []))
unfolding Closed
closed_new es m closed e p h q = by (each_from (behind m) (es ++ m ∷ []) e h)
  where
    old : (has es e ≡ true) ⊎ (has (m ∷ []) e ≡ true) → has (with_each (behind m) (es ++ m ∷ [])) p ≡ true
    old (inl x) = each_keeps_members (behind m) (es ++ m ∷ []) p (has_left es (m ∷ []) p (closed e p x q))
    old (inr x) = each_has (behind m) (es ++ m ∷ []) p (sym (ap (λ (y : Entry). has (behind y) p) (alone m e x)) ∙ q)

    by : (has (es ++ m ∷ []) e ≡ true) ⊎ (has (behind m) e ≡ true) → has (with_each (behind m) (es ++ m ∷ [])) p ≡ true
    by (inl x) = old (has_split es (m ∷ []) e x)
    by (inr x) = each_has (behind m) (es ++ m ∷ []) p (parts_of_parts m e p x q)

closed_mention : (es : List Entry) (m : Entry) → Closed es → Closed (with_mention m es)
closed_mention es m closed = by (has es m)
  where
    by : (b : Bool) → Closed (cond b es (with_each (behind m) (es ++ m ∷ [])))
    by true = closed
    by false = closed_new es m closed

closed_mentions : (ms es : List Entry) → Closed es → Closed (with_mentions ms es)
unfolding with_mentions
closed_mentions [] es closed = closed
closed_mentions (m ∷ ms) es closed = closed_mentions ms (with_mention m es) (closed_mention es m closed)

closed_nothing : Closed []
unfolding Closed
closed_nothing e p h q = h

-- ---- what is mentioned

mention_keeps_members : (es : List Entry) (m p : Entry) → has es p ≡ true → has (with_mention m es) p ≡ true
mention_keeps_members es m p h = by (has es m)
  where
    by : (b : Bool) → has (cond b es (with_each (behind m) (es ++ m ∷ []))) p ≡ true
    by true = h
    by false = each_keeps_members (behind m) (es ++ m ∷ []) p (has_left es (m ∷ []) p h)

mention_has : (es : List Entry) (m : Entry) → has (with_mention m es) m ≡ true
mention_has es m = by (has es m) refl
  where
    by : (b : Bool) → has es m ≡ b → has (cond b es (with_each (behind m) (es ++ m ∷ []))) m ≡ true
    by true is = is
    by false is = each_keeps_members (behind m) (es ++ m ∷ []) m (has_last es m)

mentions_keep_members : (ms es : List Entry) (p : Entry) → has es p ≡ true → has (with_mentions ms es) p ≡ true
unfolding with_mentions
mentions_keep_members [] es p h = h
mentions_keep_members (m ∷ ms) es p h = mentions_keep_members ms (with_mention m es) p (mention_keeps_members es m p h)

mentions_have : (ms es : List Entry) (p : Entry) → has ms p ≡ true → has (with_mentions ms es) p ≡ true
unfolding with_mentions
mentions_have [] es p h = absurd (true≢false (sym h))
mentions_have (m ∷ ms) es p h = by (one_of (same p m) (has ms p) h) (mentions_have ms (with_mention m es) p)
  where
    by : (same p m ≡ true) ⊎ (has ms p ≡ true) → (has ms p ≡ true → has (with_mentions ms (with_mention m es)) p ≡ true) → has (with_mentions ms (with_mention m es)) p ≡ true
    by (inl is) later = mentions_keep_members ms (with_mention m es) p (ap (λ (y : Entry). has (with_mention m es) y) (same_is p m is) ∙ mention_has es m)
    by (inr x) later = later x

-- ---- the laws

found : (es : List Entry) (p : Entry) → has es p ≡ true → (i : ℕ) × (seek 1 es p ≡ Some i)
found es p h = by (seek 1 es p) refl
  where
    by : (o : Option ℕ) → seek 1 es p ≡ o → (i : ℕ) × (seek 1 es p ≡ Some i)
    by (Some i) is = (i, is)
    by None is = absurd (true≢false (sym (sym (has_seek 1 es p ∙ ap is_some is) ∙ h)))

pub mentions_stand : MentionsStand
mentions_stand ms m h = found (with_mentions ms []) m (mentions_have ms [] m h)

pub parts_stand : PartsStand
unfolding Closed
parts_stand ms e p i at h = found (with_mentions ms []) p (closed_mentions ms [] closed_nothing e p (has_seek 1 (with_mentions ms []) e ∙ ap is_some at) h)
