-- Which names a file's declarations take, and which may not stand beside one another.
use Rattle.std.specs.Prelude.{ℕ, Bool, true, false, List, [], ◌∷◌, ◌==◌, ◌&&◌, ◌||◌, length, map, codes, is_some, not, if◌then◌else◌}
use Rattle.std.specs.List.{list_any}
use Rattle.std.specs.Cmp.Lexicographic.{pointwise}
use Rattle.kt_tree.specs.declared.declarations.ConstructorParameterKind.{ConstructorParameterKind}
use Rattle.kt_tree.specs.declared.declarations.ConstructorParameterKind.TheVariants.{Plain, Val, Var}
use Rattle.kt_tree.specs.Declarations.{DeclarationTree, function, class, interface, enum, constant, FunctionTree, ConstructorParameterTree, MemberTree, method, property}
use Rattle.kt_types_builtins.specs.Types.{type_of_name}
use Rattle.kt_types_builtins.specs.Throwables.{throwable_of_name}
use Rattle.kt_types_builtins.specs.Functions.{function_of_name}

abbrev pub is_name : List ℕ → List ℕ → Bool
is_name = pointwise ◌==◌

-- What a declaration takes in its scope: the name of a type, of a function with its number of parameters, or of a
-- property or a constant. A constructor counts as a function.
pub data Taken : Type 0 where
  a_type : List ℕ → Taken
  a_function : List ℕ → ℕ → Taken
  a_value : List ℕ → Taken

-- functions of one name differ in the number of their parameters; types are apart from the rest
abbrev pub clash : Taken → Taken → Bool
clash (a_type x) (a_type y) = is_name y x
clash (a_function x n) (a_function y m) = is_name y x && m == n
clash (a_function x n) (a_value y) = is_name y x
clash (a_value x) (a_function y m) = is_name y x
clash (a_value x) (a_value y) = is_name y x
clash _ _ = false

abbrev pub clash_with_any : List Taken → Taken → Bool
clash_with_any earlier t = list_any (clash t) earlier

-- what is taken beside what was taken earlier
abbrev pub are_free : List Taken → List Taken → Bool
are_free earlier ts = not (list_any (clash_with_any earlier) ts)

abbrev pub taken_by_function : FunctionTree → Taken
taken_by_function f = a_function f.name (length f.parameters)

abbrev pub taken_by : DeclarationTree → List Taken
taken_by (function f) = taken_by_function f ∷ []
taken_by (class c) = a_type c.name ∷ a_function c.name (length c.parameters) ∷ []
taken_by (interface i) = a_type i.name ∷ []
taken_by (enum e) = a_type e.name ∷ []
taken_by (constant c) = a_value c.name ∷ []

abbrev pub taken_by_member : MemberTree → Taken
taken_by_member (method f) = taken_by_function f
taken_by_member (property p) = a_value p.name

-- a parameter of a constructor with `val` or `var` is a property
abbrev pub taken_by_kind : ConstructorParameterKind → List ℕ → List Taken
taken_by_kind Plain x = []
taken_by_kind Val x = a_value x ∷ []
taken_by_kind Var x = a_value x ∷ []

abbrev pub taken_by_parameter : ConstructorParameterTree → List Taken
taken_by_parameter p = taken_by_kind p.kind p.name

-- what clashes with one more, or with what was taken before
abbrev pub and_taken : (Taken → Bool) → Taken → Taken → Bool
and_taken taken t u = clash u t || taken u

-- each is free beside what was taken before and what stands before it
abbrev pub are_apart : (Taken → Bool) → List Taken → Bool
are_apart taken [] = true
are_apart taken (t ∷ ts) = if taken t then false else are_apart (and_taken taken t) ts

-- nothing is taken
abbrev pub none_taken : Taken → Bool
none_taken t = false

-- names that differ
abbrev pub are_distinct : List (List ℕ) → Bool
are_distinct xs = are_apart none_taken (map a_value xs)

-- no declaration at top level takes the name of a built-in type, of a throwable, of a built-in function that is called
-- without a receiver, or of the class that has the functions of a file
abbrev pub is_reserved : List ℕ → Bool
is_reserved x =
    is_some (type_of_name x) || is_some (throwable_of_name x) || is_some (function_of_name x)
    || is_name x (codes "MainKt")
