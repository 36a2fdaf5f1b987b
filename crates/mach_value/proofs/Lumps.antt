-- Lumps of several fields, one after another.
use Rattle.std.proofs.Common.{◌≡◌, ◌+◌, true, List, [], ◌∷◌, ◌++◌, length, Option, None, Some, refl, sym, ap, ◌∙◌, subst}
use Rattle.std.proofs.lemmas.List.{append_assoc, length-append}
use Rattle.kt_base.specs.declared.lumps.Node.{Node}
use Rattle.kt_base.specs.Lump.{field_count, are_lumps}
use Rattle.mach_value.specs.declared.values.Field.{Field}
use Rattle.mach_value.specs.declared.objects.Object.{Object}
use Rattle.mach_value.specs.Exports.{Opened, opened, Opens, AreLumps}
use Rattle.mach_value.proofs.Opened.{counts}

-- the lump of the first field begins with its node, and those of what it holds follow
pub record Begins (objects : List Object) (x : Field) (xs : List Field) (all : List Node) : Type 0 where
  pub first : Opened
  pub is : opened objects x ≡ Some first
  pub rest : List Node
  pub splits : all ≡ first.node ∷ rest
  pub lumps : AreLumps objects rest (first.fields ++ xs)

pub begins : (objects : List Object) (x : Field) (xs : List Field) (all : List Node) → AreLumps objects all (x ∷ xs) → Begins objects x xs all
begins objects x xs [] h = absurd h
begins objects x xs (node ∷ nodes) h = of (opened objects x) refl h
  where
    of : (o : Option Opened) → opened objects x ≡ o → Opens o node (λ inside. AreLumps objects nodes (inside ++ xs)) → Begins objects x xs (node ∷ nodes)
    of None e h = absurd h
    of (Some o) e h = record { first = o; is = e; rest = nodes; splits = ap (λ m. m ∷ nodes) (sym h.0); lumps = h.1 }

pub follows : (objects : List Object) (x : Field) (xs : List Field) (o : Opened) (rest : List Node) → opened objects x ≡ Some o → AreLumps objects rest (o.fields ++ xs) → AreLumps objects (o.node ∷ rest) (x ∷ xs)
follows objects x xs o rest e h = subst (λ p. Opens p o.node (λ inside. AreLumps objects rest (inside ++ xs))) (sym e) (refl, h)

-- lumps of the first fields, and those of the others
pub record Split (objects : List Object) (xs ys : List Field) (all : List Node) : Type 0 where
  pub front : List Node
  pub back : List Node
  pub splits : all ≡ front ++ back
  pub first : AreLumps objects front xs
  pub second : AreLumps objects back ys

pub split : (objects : List Object) (all : List Node) (xs ys : List Field) → AreLumps objects all (xs ++ ys) → Split objects xs ys all
split objects all [] ys h = record { front = []; back = all; splits = refl; first = tt; second = h }
split objects [] (x ∷ xs) ys h = absurd h
split objects (node ∷ nodes) (x ∷ xs) ys h = of (opened objects x) refl h (λ inside k. split objects nodes (inside ++ xs) ys k)
  where
    of : (o : Option Opened) → opened objects x ≡ o → Opens o node (λ inside. AreLumps objects nodes (inside ++ (xs ++ ys)))
        → ((inside : List Field) → AreLumps objects nodes ((inside ++ xs) ++ ys) → Split objects (inside ++ xs) ys nodes)
        → Split objects (x ∷ xs) ys (node ∷ nodes)
    of None e h go = absurd h
    of (Some o) e h go =
        let s = go o.fields (subst (λ fs. AreLumps objects nodes fs) (sym (append_assoc o.fields xs ys)) h.1) in
        let f : AreLumps objects (o.node ∷ s.front) (x ∷ xs) = follows objects x xs o s.front e s.first in
        record {
          front = node ∷ s.front;
          back = s.back;
          splits = ap (λ l. node ∷ l) s.splits;
          first = subst (λ m. AreLumps objects (m ∷ s.front) (x ∷ xs)) h.0 f;
          second = s.second;
        }

pub together : (objects : List Object) (front : List Node) (xs : List Field) (back : List Node) (ys : List Field) → AreLumps objects front xs → AreLumps objects back ys → AreLumps objects (front ++ back) (xs ++ ys)
together objects [] [] back ys h k = k
together objects [] (x ∷ xs) back ys h k = absurd h
together objects (node ∷ nodes) [] back ys h k = absurd h
together objects (node ∷ nodes) (x ∷ xs) back ys h k =
    of (opened objects x) h (λ inside i. together objects nodes (inside ++ xs) back ys i k)
  where
    of : (o : Option Opened) → Opens o node (λ inside. AreLumps objects nodes (inside ++ xs))
        → ((inside : List Field) → AreLumps objects nodes (inside ++ xs) → AreLumps objects (nodes ++ back) ((inside ++ xs) ++ ys))
        → Opens o node (λ inside. AreLumps objects (nodes ++ back) (inside ++ (xs ++ ys)))
    of None h go = absurd h
    of (Some o) h go = (h.0, subst (λ fs. AreLumps objects (nodes ++ back) fs) (append_assoc o.fields xs ys) (go o.fields h.1))

-- fields have one list of lumps at most
pub one_list : (objects : List Object) (xs : List Field) (all more : List Node) → AreLumps objects all xs → AreLumps objects more xs → all ≡ more
one_list objects [] [] [] h k = refl
one_list objects [] [] (m ∷ more) h k = absurd k
one_list objects [] (node ∷ nodes) more h k = absurd h
one_list objects (x ∷ xs) [] more h k = absurd h
one_list objects (x ∷ xs) (node ∷ nodes) [] h k = absurd k
one_list objects (x ∷ xs) (node ∷ nodes) (m ∷ more) h k =
    of (opened objects x) h k (λ inside i j. one_list objects (inside ++ xs) nodes more i j)
  where
    of : (o : Option Opened) → Opens o node (λ inside. AreLumps objects nodes (inside ++ xs)) → Opens o m (λ inside. AreLumps objects more (inside ++ xs))
        → ((inside : List Field) → AreLumps objects nodes (inside ++ xs) → AreLumps objects more (inside ++ xs) → nodes ≡ more)
        → node ∷ nodes ≡ m ∷ more
    of None h k go = absurd h
    of (Some o) h k go = let p : node ≡ m = sym h.0 ∙ k.0 in let q : nodes ≡ more = go o.fields h.1 k.1 in cc

-- lumps of so many fields are so many lumps
pub prefix_form : (objects : List Object) (all : List Node) (xs : List Field) → AreLumps objects all xs → are_lumps (length xs) all ≡ true
prefix_form objects [] [] h = refl
prefix_form objects [] (x ∷ xs) h = absurd h
prefix_form objects (node ∷ nodes) [] h = absurd h
prefix_form objects (node ∷ nodes) (x ∷ xs) h =
    of (opened objects x) refl h (λ inside k. prefix_form objects nodes (inside ++ xs) k)
  where
    of : (o : Option Opened) → opened objects x ≡ o → Opens o node (λ inside. AreLumps objects nodes (inside ++ xs))
        → ((inside : List Field) → AreLumps objects nodes (inside ++ xs) → are_lumps (length (inside ++ xs)) nodes ≡ true)
        → are_lumps (field_count node + length xs) nodes ≡ true
    of None e h go = absurd h
    of (Some o) e h go =
        let c : field_count node ≡ length o.fields = ap field_count (sym h.0) ∙ counts objects x o e in
        subst (λ n. are_lumps n nodes ≡ true) (length-append o.fields xs ∙ ap (λ n. n + length xs) (sym c)) (go o.fields h.1)
