-- The test of sameness is equality.
use Rattle.std.proofs.Common.{arith, ℕ, Bool, true, false, ◌≡◌, refl, ap}
use Rattle.std.specs.Prelude.{◌==◌, ◌&&◌, IsTrue, ◌↔◌}
use Rattle.kt_types_tree.specs.declared.types.TypeConstructor.{TypeConstructor}
use Rattle.kt_types_tree.specs.declared.types.TypeConstructor.TheVariants as c
use Rattle.kt_types_tree.specs.Types.{TypeForm, ShapeForm, TypeForms, typed, nothing, any, parameter, of, forms_end, form_then}
use Rattle.kt_flow.specs.Sameness.{same_flag, same_constructor, same_type, same_shape, same_types}

flag_refl : (a : Bool) → same_flag a a ≡ true
flag_refl true = refl
flag_refl false = refl

pub number_refl : (n : ℕ) → (n == n) ≡ true
number_refl n = grind arith

pub constructor_refl : (a : TypeConstructor) → same_constructor a a ≡ true
constructor_refl c.Int = refl
constructor_refl c.Long = refl
constructor_refl c.Boolean = refl
constructor_refl c.Char = refl
constructor_refl c.String = refl
constructor_refl c.Unit = refl
constructor_refl c.IntArray = refl
constructor_refl c.Array = refl
constructor_refl c.Continuation = refl
constructor_refl (c.Class n) = number_refl n
constructor_refl (c.Function b) = flag_refl b

mutual
  pub type_refl : (t : TypeForm) → same_type t t ≡ true
  type_refl (typed n s) = rw (flag_refl n, shape_refl s) refl

  shape_refl : (s : ShapeForm) → same_shape s s ≡ true
  shape_refl nothing = refl
  shape_refl any = refl
  shape_refl (parameter row place) = rw (number_refl row, number_refl place) refl
  shape_refl (of d ts) = rw (constructor_refl d, types_refl ts) refl

  pub types_refl : (ts : TypeForms) → same_types ts ts ≡ true
  types_refl forms_end = refl
  types_refl (form_then t ts) = rw (type_refl t, types_refl ts) refl

both_true : (a b : Bool) → (a && b) ≡ true → (a ≡ true) × (b ≡ true)
both_true true b e = (refl, e)
both_true false b e = cc

flag_only : (a b : Bool) → same_flag a b ≡ true → a ≡ b
flag_only true true e = refl
flag_only false false e = refl
flag_only true false e = cc
flag_only false true e = cc

pub number_only : (n m : ℕ) → (n == m) ≡ true → n ≡ m
number_only n m e = grind arith

pub constructor_only : (a b : TypeConstructor) → same_constructor a b ≡ true → a ≡ b
constructor_only c.Int c.Int e = refl
constructor_only c.Long c.Long e = refl
constructor_only c.Boolean c.Boolean e = refl
constructor_only c.Char c.Char e = refl
constructor_only c.String c.String e = refl
constructor_only c.Unit c.Unit e = refl
constructor_only c.IntArray c.IntArray e = refl
constructor_only c.Array c.Array e = refl
constructor_only c.Continuation c.Continuation e = refl
constructor_only (c.Class n) (c.Class m) e = ap c.Class (number_only n m e)
constructor_only (c.Function n) (c.Function m) e = ap c.Function (flag_only n m e)
constructor_only _ _ e = cc

mutual
  pub type_only : (t u : TypeForm) → same_type t u ≡ true → t ≡ u
  type_only (typed n s) (typed m r) e =
      let b = both_true (same_flag n m) (same_shape s r) e in
      rw (flag_only n m b.0, shape_only s r b.1) refl

  shape_only : (s r : ShapeForm) → same_shape s r ≡ true → s ≡ r
  shape_only nothing nothing e = refl
  shape_only any any e = refl
  shape_only (parameter row place) (parameter row1 place1) e =
      let b = both_true (row == row1) (place == place1) e in
      rw (number_only row row1 b.0, number_only place place1 b.1) refl
  shape_only (of d ts) (of f us) e =
      let b = both_true (same_constructor d f) (same_types ts us) e in
      rw (constructor_only d f b.0, types_only ts us b.1) refl
  shape_only _ _ e = cc

  pub types_only : (ts us : TypeForms) → same_types ts us ≡ true → ts ≡ us
  types_only forms_end forms_end e = refl
  types_only (form_then t ts) (form_then u us) e =
      let b = both_true (same_type t u) (same_types ts us) e in
      rw (type_only t u b.0, types_only ts us b.1) refl
  types_only _ _ e = cc

-- a test that tells equality tells sameness
pub same_is : (r : Bool) (t u : TypeForm) → IsTrue r ↔ (t ≡ u) → r ≡ same_type t u
same_is true t u f = rw (f.0 refl, type_refl u) refl
same_is false t u f = only (same_type t u) refl
  where
    only : (b : Bool) → same_type t u ≡ b → false ≡ b
    only false e = refl
    only true e = f.1 (type_only t u e)
