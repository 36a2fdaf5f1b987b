-- Worked rows, computed.
use Rattle.std.specs.Prelude.{None, ℕ, true, false, List, [], ◌∷◌, ◌≡◌, Option, Some, map, codes, refl}
use Rattle.kt_base.specs.declared.refusals.Pos.{Pos}
use Rattle.kt_tree.specs.declared.declarations.FunctionModifiers.{FunctionModifiers}
use Rattle.kt_tree.specs.Types.{TypeTree, named, types_end}
use Rattle.kt_tree.specs.Bodies.{block, statements_end}
use Rattle.kt_tree.specs.Declarations.{DeclarationTree, function, class, enum, ConstructorParameterTree, TypedParameterTree, FunctionTree, method, FunctionBodyTree, braces}
use Rattle.kt_decls_rules.specs.Members.{inherited_properties, properties_within}
use Rattle.kt_types_tree.specs.declared.types.TypeConstructor.TheVariants as constructor
use Rattle.kt_types_tree.specs.Types.{typed, of, forms_end}
use Rattle.kt_types_builtins.specs.Types.{types, type_of_name}
use Rattle.kt_types_builtins.specs.Throwables.{throwables, throwable_of_name}
use Rattle.kt_decls_rules.specs.Tables.{meant}
use Rattle.kt_decls_rules.specs.Members.{inherited_within}
use Rattle.kt_decls_rules.specs.ClassRules.{above, row_behind, may_extend}
use Rattle.kt_decls_rules.specs.Names.{are_free, taken_by}
use Rattle.std.specs.List.{flat_map}
use Rattle.kt_tree.specs.declared.declarations.ConstructorParameterKind.TheVariants.{Plain}
use Rattle.kt_decls_rules.specs.Headers.{headers, place}

at : ℕ → ℕ → Pos
at l c = record { line = l; column = c }

abbrev plain : FunctionModifiers
plain = record { is_override = false; is_open = false; is_abstract = false; is_suspend = false }

abbrev int : TypeTree
int = named (codes "Int") types_end

abbrev body : Option FunctionBodyTree
body = Some (braces (block statements_end (record { line = 1; column = 1 })))

abbrev f_of : Pos → FunctionModifiers → FunctionTree
f_of p m = record { at = p; modifiers = m; type_parameters = []; name = codes "f"; parameters = []; result = Some int; body = body }

-- open class A { fun f(): Int { return 1 } }
abbrev first : DeclarationTree
first = class (record {
  at = record { line = 1; column = 1 };
  modifiers = record { is_open = true; is_abstract = false; is_data = false };
  name = codes "A";
  type_parameters = [];
  parameters = [];
  supertypes = [];
  members = method (f_of (record { line = 1; column = 16 }) plain) ∷ [];
})

-- class B : A() { override fun f(): Int { return 2 } }
abbrev g : FunctionTree
g = f_of (record { line = 2; column = 17 }) (record plain { is_override = true })

abbrev second : DeclarationTree
second = class (record {
  at = record { line = 2; column = 1 };
  modifiers = record { is_open = false; is_abstract = false; is_data = false };
  name = codes "B";
  type_parameters = [];
  parameters = [];
  supertypes = record { parent = named (codes "A") types_end; arguments = Some (record { at = record { line = 2; column = 12 }; values = [] }) } ∷ [];
  members = method g ∷ [];
})

abbrev file : List DeclarationTree
file = first ∷ second ∷ []

int_is_meant : meant file [] int ≡ Some (typed false (of constructor.Int forms_end))
unfolding types type_of_name throwables
int_is_meant = refl

row_of_second : row_behind (first ∷ []) ≡ 13
unfolding throwables
row_of_second = refl

-- what B has from above isn't open
not_open : map (λ m. m.is_open) (above file 13 g) ≡ false ∷ []
unfolding types type_of_name throwables throwable_of_name inherited_within
not_open = refl

-- the third header that is judged behind two classes and a function is at 2:17
places : map place (headers file) ≡ record { line = 1; column = 1 } ∷ record { line = 1; column = 16 } ∷ record { line = 2; column = 1 } ∷ record { line = 2; column = 17 } ∷ []
places = refl

-- A class and a function of its name with as many parameters can't stand beside one another; with another number of
-- parameters they can. A constant of that name can't; an enum can.

abbrev x_int : ConstructorParameterTree
x_int = record { kind = Plain; name = codes "x"; annotation = int }

abbrev a_of_one : DeclarationTree
a_of_one = class (record {
  at = record { line = 1; column = 1 };
  modifiers = record { is_open = false; is_abstract = false; is_data = false };
  name = codes "A";
  type_parameters = [];
  parameters = x_int ∷ [];
  supertypes = [];
  members = [];
})

abbrev named_a : List TypedParameterTree → DeclarationTree
named_a ps = function (record { at = record { line = 2; column = 1 }; modifiers = plain; type_parameters = []; name = codes "A"; parameters = ps; result = None; body = body })

two_constructors : are_free (flat_map taken_by (a_of_one ∷ [])) (taken_by (named_a (record { name = codes "y"; annotation = int } ∷ []))) ≡ false
two_constructors = refl

told_apart : are_free (flat_map taken_by (a_of_one ∷ [])) (taken_by (named_a [])) ≡ true
told_apart = refl

same_class : are_free (flat_map taken_by (a_of_one ∷ [])) (taken_by a_of_one) ≡ false
same_class = refl

enum_beside_function : are_free (flat_map taken_by (enum (record { at = record { line = 1; column = 1 }; name = codes "A"; entries = [] }) ∷ [])) (taken_by (named_a [])) ≡ true
enum_beside_function = refl

-- B extends A, which is open, with parentheses; not without them, and nothing extends B, which is final
extends_open : may_extend file [] (record { parent = named (codes "A") types_end; arguments = Some (record { at = record { line = 2; column = 12 }; values = [] }) }) ≡ true
unfolding types type_of_name throwables throwable_of_name
extends_open = refl

without_parentheses : may_extend file [] (record { parent = named (codes "A") types_end; arguments = None }) ≡ false
unfolding types type_of_name throwables throwable_of_name
without_parentheses = refl

extends_final : may_extend file [] (record { parent = named (codes "B") types_end; arguments = Some (record { at = record { line = 2; column = 12 }; values = [] }) }) ≡ false
unfolding types type_of_name throwables throwable_of_name
extends_final = refl

extends_exception : may_extend file [] (record { parent = named (codes "Exception") types_end; arguments = Some (record { at = record { line = 2; column = 12 }; values = [] }) }) ≡ true
unfolding types type_of_name throwables throwable_of_name
extends_exception = refl

extends_int : may_extend file [] (record { parent = named (codes "Int") types_end; arguments = Some (record { at = record { line = 2; column = 12 }; values = [] }) }) ≡ false
unfolding types type_of_name throwables throwable_of_name
extends_int = refl

-- what a class has from Exception
message : inherited_properties file 1 ≡ codes "message" ∷ []
unfolding throwables properties_within
message = refl
