-- What a mention does to a pool of the entries that these classes have.
use Rattle.std.proofs.Common.{◌≡◌, ℕ, ◌+◌, ◌≤◌, Bool, true, false, List, [], ◌∷◌, ◌++◌, arith}
use Rattle.jvm_pool.specs.declared.entries.Entry.{Entry}
use Rattle.jvm_pool.specs.declared.entries.Entry.TheVariants.{Utf8, Int, Long, Class, Text, Field, Method, InterfaceMethod, NameAndType}
use Rattle.jvm_pool.specs.Entries.{size, behind, units}
use Rattle.jvm_pool.specs.Mentions.{has, with_one, with_each, with_mention}
use Rattle.jvm_class_first.specs.ClassFile.{IsOfPlain, AreOfPlain}

both_kept : (es fs : List Entry) → AreOfPlain es → AreOfPlain fs → AreOfPlain (es ++ fs)
both_kept [] fs p q = q
both_kept (e ∷ es) fs p q = (p.0, both_kept es fs p.1 q)

one_kept : (e : Entry) (g : List Entry → List Entry) (es : List Entry) → IsOfPlain e → ((fs : List Entry) → AreOfPlain fs → AreOfPlain (g fs)) → AreOfPlain es → AreOfPlain (with_one e g es)
one_kept e g es p keeps q = by (has es e)
  where
    by : (b : Bool) → AreOfPlain (Rattle.std.specs.Prelude.cond b es (g (es ++ e ∷ [])))
    by true = q
    by false = keeps (es ++ e ∷ []) (both_kept es (e ∷ []) q (p, tt))

each_kept : (ms es : List Entry) → AreOfPlain ms → AreOfPlain es → AreOfPlain (with_each ms es)
each_kept [] es p q = q
each_kept (m ∷ ms) es p q = each_kept ms (with_one m (λ es. es) es) p.1 (one_kept m (λ es. es) es p.0 (λ fs r. r) q)

pub mention_kept : (e : Entry) (es : List Entry) → AreOfPlain (e ∷ behind e) → AreOfPlain es → AreOfPlain (with_mention e es)
mention_kept e es p q = one_kept e (with_each (behind e)) es p.0 (λ fs r. each_kept (behind e) fs p.1 r) q

units_both : (es fs : List Entry) → units (es ++ fs) ≡ units es + units fs
units_both [] fs = omega arith
units_both (e ∷ es) fs = omega (arith, units_both es fs)

one_grows : (e : Entry) (g : List Entry → List Entry) (n : ℕ) (es : List Entry) → ((fs : List Entry) → units (g fs) ≤ units fs + n) → units (with_one e g es) ≤ units es + (size e + n)
one_grows e g n es grows = by (has es e)
  where
    by : (b : Bool) → units (Rattle.std.specs.Prelude.cond b es (g (es ++ e ∷ []))) ≤ units es + (size e + n)
    by true = omega arith
    by false = omega (arith, grows (es ++ e ∷ []), units_both es (e ∷ []))

each_grows : (ms es : List Entry) → units (with_each ms es) ≤ units es + units ms
each_grows [] es = omega arith
each_grows (m ∷ ms) es = omega (arith, each_grows ms (with_one m (λ es. es) es), one_grows m (λ es. es) 0 es (λ fs. omega arith))

-- an entry and its parts
most : (e : Entry) → size e + units (behind e) ≤ 6
most (Utf8 text) = omega arith
most (Int n) = omega arith
most (Long n) = omega arith
most (Class name) = omega arith
most (Text text) = omega arith
most (Field class name descriptor) = omega arith
most (Method class name descriptor) = omega arith
most (InterfaceMethod class name descriptor) = omega arith
most (NameAndType name descriptor) = omega arith

pub mention_grows : (e : Entry) (es : List Entry) → units (with_mention e es) ≤ units es + 6
mention_grows e es = omega (arith, one_grows e (with_each (behind e)) (units (behind e)) es (λ fs. each_grows (behind e) fs), most e)
