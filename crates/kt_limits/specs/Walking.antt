-- The limits as the code goes through a unit. No public clause names this.
use Rattle.std.specs.Prelude.{ℕ, zero, suc, ◌+◌, Bool, true, false, ◌&&◌, List, [], ◌∷◌, ◌++◌, length, map, take, nat_le, if◌then◌else◌, Option, Some, None, slice_get, Result, Ok, Err}
use Rattle.std.specs.List.{list_all, flat_map, slice_range}
use Rattle.kt_base.specs.declared.refusals.Pos.{Pos}
use Rattle.kt_typed.specs.declared.headers.DeclarationNumber.{DeclarationNumber}
use Rattle.kt_typed.specs.declared.headers.DeclarationNumber.TheVariants as number
use Rattle.kt_typed.specs.declared.headers.MemberNumber.{MemberNumber}
use Rattle.kt_typed.specs.declared.headers.MemberNumber.TheVariants as member
use Rattle.kt_typed.specs.Headers.{HeadersForm, ClassForm}
use Rattle.kt_typed.specs.Bodies.{StatementForm, StatementForms, statements_end, statement_then, FunForm, fun}
use Rattle.kt_typed.specs.Units.{UnitForm, ClassBodies}
use Rattle.kt_sizes.specs.declared.sizes.Sizes.{Sizes}
use Rattle.kt_sizes.specs.Capped.{cap, capped}
use Rattle.kt_sizes.specs.Counting.{nothing, ◌&◌, sizes_of_statement}
use Rattle.kt_sizes.specs.Weight.{weight_of}
use Rattle.kt_limits.specs.declared.so_far.SoFar.{SoFar}
use Rattle.kt_limits.specs.Limits.{Part, most_weight, most_nodes, most_parameters, parameters_of, captures_of, locals_of, local_names}
use Rattle.kt_limits.specs.Noted.{noted_in_statement, locals_among, texts_among, lambdas_among}
use Rattle.kt_limits.specs.Noting.{is_short, fits_constant, is_fine_lambda}
use Rattle.kt_limits.specs.Parts.{declaration_headers, statement_place}

abbrev pub is_fine : Part → Bool
is_fine p =
    nat_le p.weight most_weight
    && (nat_le p.parameters most_parameters
    && (list_all is_short p.names && (list_all fits_constant p.texts && list_all is_fine_lambda p.lambdas)))

-- the nodes of the class with a part more, or the place of the part that passes a limit
abbrev pub step_of : ℕ → ℕ → Bool → Pos → Result ℕ Pos
step_of count nodes fine at = if fine && nat_le (count + nodes) most_nodes then Ok (count + nodes) else Err at

unfoldable pub step : ℕ → Part → Result ℕ Pos
step count p = step_of count p.nodes (is_fine p) p.at

abbrev pub then_on : {A B : Type 0} → Result A Pos → (A → Result B Pos) → Result B Pos
then_on (Ok x) f = f x
then_on (Err at) f = Err at

-- the parts of one class, one after the other
abbrev pub walk : ℕ → List Part → Result ℕ Pos
walk count [] = Ok count
walk count (p ∷ ps) = then_on (step count p) (λ n. walk n ps)

-- the headers of a declaration: those of the file are counted together, those of a class by themselves
abbrev pub headed : HeadersForm → ℕ → DeclarationNumber → Result ℕ Pos
headed h count (number.Function n) = walk count (declaration_headers h (number.Function n))
headed h count (number.Class c) = then_on (walk 0 (declaration_headers h (number.Class c))) (λ m. Ok count)
headed h count (number.Constant n) = walk count (declaration_headers h (number.Constant n))

abbrev pub walk_headers : HeadersForm → ℕ → List DeclarationNumber → Result ℕ Pos
walk_headers h count [] = Ok count
walk_headers h count (d ∷ ds) = then_on (headed h count d) (λ m. walk_headers h m ds)

-- What a body has behind some of its statements: what they count for, and how many locals are declared.
pub record State : Type 0 where
  pub sizes : Sizes
  pub locals : ℕ

unfoldable pub kept : State → SoFar
kept s = record { sizes = capped s.sizes; locals = cap s.locals }

abbrev pub begun : FunForm → State
begun f = record { sizes = nothing; locals = parameters_of f }

abbrev pub behind : State → StatementForm → State
behind s x =
    record {
      sizes = s.sizes & sizes_of_statement x;
      locals = s.locals + locals_among (noted_in_statement x);
    }

abbrev pub weight_with : FunForm → State → ℕ
weight_with f s = weight_of s.sizes (captures_of f) (parameters_of f) (length (take s.locals (locals_of f)))

abbrev pub is_light_with : FunForm → State → Bool
is_light_with f s = nat_le (weight_with f s) most_weight

-- a statement behind others
abbrev pub part_behind : FunForm → State → StatementForm → Part
part_behind f s x =
    record {
      at = statement_place x;
      nodes = (sizes_of_statement x).nodes;
      weight = weight_with f (behind s x);
      parameters = 0;
      names = local_names (slice_range (locals_of f) s.locals (behind s x).locals);
      texts = texts_among (noted_in_statement x);
      lambdas = lambdas_among (noted_in_statement x);
    }

abbrev pub stepped : FunForm → State → StatementForm → ℕ → Result (SoFar × ℕ) Pos
stepped f s x count = then_on (step count (part_behind f s x)) (λ n. Ok (kept (behind s x), n))

abbrev pub parts_behind : FunForm → State → StatementForms → List Part
parts_behind f s statements_end = []
parts_behind f s (statement_then x xs) = part_behind f s x ∷ parts_behind f (behind s x) xs

abbrev pub statements_of_body : FunForm → StatementForms
statements_of_body (fun at suspends captures parameters locals t ss) = ss

abbrev pub body_parts : FunForm → List Part
body_parts f = parts_behind f (begun f) (statements_of_body f)

abbrev pub maybe_parts : Option FunForm → List Part
maybe_parts None = []
maybe_parts (Some f) = body_parts f

abbrev pub method_parts : Option (Option FunForm) → List Part
method_parts None = []
method_parts (Some f) = maybe_parts f

-- the next statement of a constructor, and what is behind it, where one is left

abbrev pub next_parts : Option FunForm → State → StatementForms → List Part
next_parts (Some f) s (statement_then x xs) = part_behind f s x ∷ []
next_parts f s xs = []

abbrev pub next_state : Option FunForm → State → StatementForms → State
next_state (Some f) s (statement_then x xs) = behind s x
next_state f s xs = s

abbrev pub next_rest : Option FunForm → StatementForms → StatementForms
next_rest (Some f) (statement_then x xs) = xs
next_rest f xs = xs

-- the members of a class body; an initialiser is the next statement of the constructor
abbrev pub members_behind :
    List (Option FunForm) → Option FunForm → State → StatementForms → List MemberNumber → List Part
members_behind fs f s xs [] = []
members_behind fs f s xs (member.Function n ∷ ms) = method_parts (slice_get fs n) ++ members_behind fs f s xs ms
members_behind fs f s xs (member.Property n ∷ ms) =
    next_parts f s xs ++ members_behind fs f (next_state f s xs) (next_rest f xs) ms

-- first the arguments of the superclass
abbrev pub constructed :
    List (Option FunForm) → Option FunForm → State → StatementForms → List MemberNumber → Option ℕ → List Part
constructed fs f s xs ms None = members_behind fs f s xs ms
constructed fs f s xs ms (Some parent) =
    next_parts f s xs ++ members_behind fs f (next_state f s xs) (next_rest f xs) ms

abbrev pub state_of : Option FunForm → State
state_of None = record { sizes = nothing; locals = 0 }
state_of (Some f) = begun f

abbrev pub rest_of : Option FunForm → StatementForms
rest_of None = statements_end
rest_of (Some f) = statements_of_body f

abbrev pub class_parts : Option ClassForm → Option ClassBodies → List Part
class_parts (Some header) (Some bodies) =
    constructed bodies.functions bodies.constructor (state_of bodies.constructor) (rest_of bodies.constructor)
    header.members header.superclass
class_parts _ _ = []

-- the statements of a declaration: a class begins with its headers
abbrev pub stated : UnitForm → ℕ → DeclarationNumber → Result ℕ Pos
stated u count (number.Function n) = walk count (maybe_parts (slice_get u.functions n))
stated u count (number.Class c) =
    then_on (walk 0 (declaration_headers u.headers (number.Class c)))
    (λ n. then_on (walk n (class_parts (slice_get u.headers.classes c) (slice_get u.classes c))) (λ m. Ok count))
stated u count (number.Constant n) = Ok count

abbrev pub walk_statements : UnitForm → ℕ → List DeclarationNumber → Result ℕ Pos
walk_statements u count [] = Ok count
walk_statements u count (d ∷ ds) = then_on (stated u count d) (λ m. walk_statements u m ds)

abbrev pub walk_unit : UnitForm → Result ℕ Pos
walk_unit u = then_on (walk_headers u.headers 0 u.headers.order) (λ n. walk_statements u n u.headers.order)
