-- The headers and the direct statements of a unit, in text order, by what each adds.
use Rattle.std.specs.Prelude.{ℕ, zero, suc, ◌+◌, List, [], ◌∷◌, ◌++◌, length, map, take, Option, Some, None, option_map, slice_get}
use Rattle.std.specs.List.{flat_map, slice_range}
use Rattle.kt_base.specs.declared.refusals.Pos.{Pos}
use Rattle.kt_tree.specs.declared.bodies.TextPart.{TextPart}
use Rattle.kt_types_tree.specs.Hierarchy.{supers_of}
use Rattle.kt_typed.specs.declared.headers.ConstantLiteral.{ConstantLiteral}
use Rattle.kt_typed.specs.declared.headers.ConstantLiteral.TheVariants as value
use Rattle.kt_typed.specs.declared.headers.DeclarationNumber.{DeclarationNumber}
use Rattle.kt_typed.specs.declared.headers.DeclarationNumber.TheVariants as number
use Rattle.kt_typed.specs.declared.headers.DeclaredEntry.{DeclaredEntry}
use Rattle.kt_typed.specs.declared.headers.DeclaredTypeParameter.{DeclaredTypeParameter}
use Rattle.kt_typed.specs.declared.headers.MemberNumber.{MemberNumber}
use Rattle.kt_typed.specs.declared.headers.MemberNumber.TheVariants as member
use Rattle.kt_typed.specs.Headers.{HeadersForm, FunctionForm, ParameterForm, ClassForm, ClassParameterForm, PropertyForm, ConstantForm}
use Rattle.kt_typed.specs.Bodies.{StatementForm, declare, assign, step, while, do_while, for, evaluate, superclass, initialize, result, end, StatementForms, statements_end, statement_then, FunForm, fun}
use Rattle.kt_typed.specs.Order.{BodyName, of_function, of_constructor, of_method, DirectForm, directs_of_declaration}
use Rattle.kt_typed.specs.Units.{UnitForm, ClassBodies}
use Rattle.kt_sizes.specs.Counting.{sizes_of_statement}
use Rattle.kt_sizes.specs.Weight.{weight}
use Rattle.kt_limits.specs.Limits.{Part, Owner, the_file, declared_at, local_names}
use Rattle.kt_limits.specs.Noted.{noted_in_statement, noted_in_statements, locals_among, texts_among, lambdas_among, units_of}

-- Headers.

abbrev pub header : Pos → ℕ → ℕ → List (List ℕ) → List (List ℕ) → Part
header at nodes parameters names texts =
    record {
      at = at;
      nodes = nodes;
      weight = 0;
      parameters = parameters;
      names = names;
      texts = texts;
      lambdas = [];
    }

abbrev pub type_parameter_names : List DeclaredTypeParameter → List (List ℕ)
type_parameter_names ps = map (λ p. p.name) ps

-- the function and its parameters are nodes
abbrev pub function_header : FunctionForm → Part
function_header f =
    header f.at (1 + length f.parameters) (length f.parameters)
    (f.name ∷ type_parameter_names f.type_parameters ++ map (λ p. p.name) f.parameters) []

-- the whole text of a constant is one part
abbrev pub constant_texts : ConstantLiteral → List (List ℕ)
constant_texts (value.Text parts) = flat_map units_of parts ∷ []
constant_texts _ = []

abbrev pub constant_header : ConstantForm → Part
constant_header c = header c.at 1 0 (c.name ∷ []) (constant_texts c.value)

-- a parameter of a constructor is a node, and so is the property that it declares
abbrev pub parameter_nodes : ClassParameterForm → ℕ
parameter_nodes p = 1 + property_nodes p.property
  where
    property_nodes : Option ℕ → ℕ
    property_nodes None = 0
    property_nodes (Some n) = 1

abbrev pub parameters_nodes : List ClassParameterForm → ℕ
parameters_nodes [] = 0
parameters_nodes (p ∷ ps) = parameter_nodes p + parameters_nodes ps

-- a class with its supertypes and the parameters of its constructor
abbrev pub class_header : ℕ → ClassForm → Part
class_header supers c =
    header c.at (supers + parameters_nodes c.parameters) (length c.parameters)
    (c.name ∷ type_parameter_names c.type_parameters ++ map (λ p. p.name) c.parameters) []

abbrev pub entry_header : DeclaredEntry → Part
entry_header e = header e.at 1 0 (e.name ∷ []) []

abbrev pub property_header : PropertyForm → Part
property_header p = header p.at 1 0 (p.name ∷ []) []

abbrev pub in_list : {A B : Type 0} → (A → B) → Option A → List B
in_list f None = []
in_list f (Some x) = f x ∷ []

abbrev pub member_headers : ClassForm → MemberNumber → List Part
member_headers c (member.Function n) = in_list function_header (slice_get c.functions n)
member_headers c (member.Property n) = in_list property_header (slice_get c.properties n)

-- a class, its entries, and the members of its body
abbrev pub class_headers : ℕ → Option ClassForm → List Part
class_headers supers None = []
class_headers supers (Some c) =
    class_header supers c ∷ map entry_header c.entries ++ flat_map (member_headers c) c.members

abbrev pub declaration_headers : HeadersForm → DeclarationNumber → List Part
declaration_headers h (number.Function n) = in_list function_header (slice_get h.functions n)
declaration_headers h (number.Class c) = class_headers (length (supers_of h.hierarchy c)) (slice_get h.classes c)
declaration_headers h (number.Constant n) = in_list constant_header (slice_get h.constants n)

-- Direct statements.

abbrev pub statement_place : StatementForm → Pos
statement_place (declare at n e) = at
statement_place (assign at x o e) = at
statement_place (step at x o w) = at
statement_place (while at e b) = at
statement_place (do_while at b e) = at
statement_place (for at n a o c b) = at
statement_place (evaluate at e) = at
statement_place (superclass at es) = at
statement_place (initialize at n e) = at
statement_place (result at e) = at
statement_place (end at) = at

-- the first statements, so many
abbrev pub front : ℕ → StatementForms → StatementForms
front zero ss = statements_end
front (suc n) statements_end = statements_end
front (suc n) (statement_then s ss) = statement_then s (front n ss)

-- how many locals a body has behind these of its statements, its parameters among them
abbrev pub locals_behind : ℕ → StatementForms → ℕ
locals_behind parameters ss = parameters + locals_among (noted_in_statements ss)

-- a body that is cut behind so many direct statements, with the locals that are declared so far
abbrev pub cut : ℕ → FunForm → FunForm
cut n (fun at suspends captures parameters locals t ss) =
    fun at suspends captures parameters (take (locals_behind parameters (front n ss)) locals) t (front n ss)

-- the names of the locals that a statement declares
abbrev pub locals_with : ℕ → FunForm → List (List ℕ)
locals_with i (fun at suspends captures parameters locals t ss) =
    local_names
    (slice_range locals (locals_behind parameters (front i ss)) (locals_behind parameters (front (suc i) ss)))

-- the body of a direct statement
abbrev pub flat : {A : Type 0} → Option (Option A) → Option A
flat None = None
flat (Some o) = o

abbrev pub body_of : UnitForm → BodyName → Option FunForm
body_of u (of_function n) = slice_get u.functions n
body_of u (of_constructor c) = flat (option_map (λ b. b.constructor) (slice_get u.classes c))
body_of u (of_method c n) = flat (flat (option_map (λ b. slice_get b.functions n) (slice_get u.classes c)))

abbrev pub weight_behind : ℕ → Option FunForm → ℕ
weight_behind n None = 0
weight_behind n (Some f) = weight (cut n f)

abbrev pub names_with : ℕ → Option FunForm → List (List ℕ)
names_with i None = []
names_with i (Some f) = locals_with i f

abbrev pub statement_of : Option FunForm → ℕ → StatementForm → Part
statement_of body i s =
    record {
      at = statement_place s;
      nodes = (sizes_of_statement s).nodes;
      weight = weight_behind (suc i) body;
      parameters = 0;
      names = names_with i body;
      texts = texts_among (noted_in_statement s);
      lambdas = lambdas_among (noted_in_statement s);
    }

abbrev pub direct_part : UnitForm → DirectForm → Part
direct_part u d = statement_of (body_of u d.body) d.index d.statement

abbrev pub declaration_statements : UnitForm → DeclarationNumber → List Part
declaration_statements u d = map (direct_part u) (directs_of_declaration u d)

-- A unit.

abbrev pub owner_of : ℕ → DeclarationNumber → Owner
owner_of k (number.Function n) = the_file
owner_of k (number.Class c) = declared_at k
owner_of k (number.Constant n) = the_file

abbrev pub owned : Owner → List Part → List (Owner × Part)
owned c ps = map (λ p. (c, p)) ps

-- the parts of declarations, the first of which is at a place
abbrev pub owned_from : (DeclarationNumber → List Part) → ℕ → List DeclarationNumber → List (Owner × Part)
owned_from f k [] = []
owned_from f k (d ∷ ds) = owned (owner_of k d) (f d) ++ owned_from f (suc k) ds

abbrev pub headers : UnitForm → List (Owner × Part)
headers u = owned_from (declaration_headers u.headers) 0 u.headers.order

abbrev pub statements : UnitForm → List (Owner × Part)
statements u = owned_from (declaration_statements u) 0 u.headers.order

-- first all headers in text order, then all direct statements in text order
abbrev pub parts : UnitForm → List (Owner × Part)
parts u = headers u ++ statements u
