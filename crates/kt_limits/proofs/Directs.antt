-- The direct statements of a declaration, as the code goes through them.
use Rattle.std.proofs.Common.{◌≡◌, ℕ, zero, suc, ◌+◌, List, [], ◌∷◌, ◌++◌, Option, Some, None, map, length, take, refl, ap, ap₂, subst, sym, ◌∙◌, arith}
use Rattle.std.specs.Prelude.{slice_get, option_map}
use Rattle.std.specs.List.{slice_range}
use Rattle.std.proofs.lemmas.List.{append_assoc, append-nil}
use Rattle.kt_typed.specs.declared.headers.DeclarationNumber.{DeclarationNumber}
use Rattle.kt_typed.specs.declared.headers.DeclarationNumber.TheVariants as number
use Rattle.kt_typed.specs.declared.headers.MemberNumber.{MemberNumber}
use Rattle.kt_typed.specs.declared.headers.MemberNumber.TheVariants as member
use Rattle.kt_typed.specs.Headers.{ClassForm}
use Rattle.kt_typed.specs.Bodies.{StatementForm, StatementForms, statements_end, statement_then, FunForm, fun}
use Rattle.kt_typed.specs.Order.{BodyName, of_function, of_constructor, of_method, DirectForm, directs_from, directs_of_body, directs_of_maybe, directs_of_members, directs_of_parts, directs_of_class}
use Rattle.kt_typed.specs.Units.{UnitForm, ClassBodies}
use Rattle.kt_sizes.specs.Counting.{nothing, ◌&◌, both, sizes_of_statement, sizes_of_statements}
use Rattle.kt_sizes.proofs.Sums.{none_before, none_behind, together}
use Rattle.kt_limits.specs.Limits.{Part, locals_of, local_names}
use Rattle.kt_limits.specs.Noted.{noted_in_statement, noted_in_statements, locals_among, texts_among, lambdas_among}
use Rattle.kt_limits.specs.Parts.{front, cut, flat, body_of, statement_of, statement_place, direct_part, declaration_statements, locals_behind}
use Rattle.kt_limits.specs.Walking.{State, begun, behind, weight_with, part_behind, parts_behind, statements_of_body, body_parts, maybe_parts, method_parts, next_parts, next_state, next_rest, members_behind, constructed, state_of, rest_of, class_parts}
use Rattle.kt_limits.proofs.Walked.{code_parts}
use Rattle.kt_limits.proofs.Noted.{locals-append}

-- the statements behind so many
back : ℕ → StatementForms → StatementForms
back zero ss = ss
back (suc n) statements_end = statements_end
back (suc n) (statement_then s ss) = back n ss

state_at : FunForm → ℕ → State
state_at (fun at suspends captures parameters locals t ss) i =
    record { sizes = sizes_of_statements (front i ss); locals = locals_behind parameters (front i ss) }

sizes_more : (i : ℕ) (ss : StatementForms) (s : StatementForm) (rest : StatementForms) → back i ss ≡ statement_then s rest
    → sizes_of_statements (front (suc i) ss) ≡ sizes_of_statements (front i ss) & sizes_of_statement s
unfolding back
sizes_more zero statements_end s rest e = absurd (let clash : statements_end ≡ statement_then s rest = e in cc)
sizes_more zero (statement_then x ss) s rest e =
    let same : x ≡ s = statement_is e in
    none_behind (sizes_of_statement x) ∙ (ap sizes_of_statement same ∙ sym (none_before (sizes_of_statement s)))
  where
    statement_is : statement_then x ss ≡ statement_then s rest → x ≡ s
    statement_is d = cc
sizes_more (suc i) statements_end s rest e = absurd (let clash : statements_end ≡ statement_then s rest = e in cc)
sizes_more (suc i) (statement_then x ss) s rest e =
    ap (λ z. sizes_of_statement x & z) (sizes_more i ss s rest e)
    ∙ together (sizes_of_statement x) (sizes_of_statements (front i ss)) (sizes_of_statement s)

locals_more : (i : ℕ) (ss : StatementForms) (s : StatementForm) (rest : StatementForms) → back i ss ≡ statement_then s rest
    → locals_among (noted_in_statements (front (suc i) ss)) ≡ locals_among (noted_in_statements (front i ss)) + locals_among (noted_in_statement s)
unfolding back
locals_more zero statements_end s rest e = absurd (let clash : statements_end ≡ statement_then s rest = e in cc)
locals_more zero (statement_then x ss) s rest e =
    let same = ap locals_among (append-nil (noted_in_statement x)) ∙ ap (λ y. locals_among (noted_in_statement y)) (statement_is e) in
    omega (arith, same)
  where
    statement_is : statement_then x ss ≡ statement_then s rest → x ≡ s
    statement_is d = cc
locals_more (suc i) statements_end s rest e = absurd (let clash : statements_end ≡ statement_then s rest = e in cc)
locals_more (suc i) (statement_then x ss) s rest e =
    let more = locals_more i ss s rest e in
    let all = locals-append (noted_in_statement x) (noted_in_statements (front (suc i) ss)) in
    let before = locals-append (noted_in_statement x) (noted_in_statements (front i ss)) in
    omega (arith, more, all, before)

back_more : (i : ℕ) (ss : StatementForms) (s : StatementForm) (rest : StatementForms) → back i ss ≡ statement_then s rest → back (suc i) ss ≡ rest
unfolding back
back_more zero statements_end s rest e = absurd (let clash : statements_end ≡ statement_then s rest = e in cc)
back_more zero (statement_then x ss) s rest e = rest_is e
  where
    rest_is : statement_then x ss ≡ statement_then s rest → ss ≡ rest
    rest_is d = cc
back_more (suc i) statements_end s rest e = absurd (let clash : statements_end ≡ statement_then s rest = e in cc)
back_more (suc i) (statement_then x ss) s rest e = back_more i ss s rest e

state_more : (f : FunForm) (i : ℕ) (s : StatementForm) (rest : StatementForms) → back i (statements_of_body f) ≡ statement_then s rest
    → state_at f (suc i) ≡ behind (state_at f i) s
unfolding state_at
state_more (fun at suspends captures parameters locals t ss) i s rest e =
    let more = locals_more i ss s rest e in
    let count : locals_behind parameters (front (suc i) ss) ≡ locals_behind parameters (front i ss) + locals_among (noted_in_statement s) = omega (arith, more) in
    ap₂ (λ a b. record { sizes = a; locals = b }) (sizes_more i ss s rest e) count

-- a statement's part, by the state behind it
with_state : FunForm → ℕ → StatementForm → State → Part
with_state f i s z =
    record {
      at = statement_place s;
      nodes = (sizes_of_statement s).nodes;
      weight = weight_with f z;
      parameters = 0;
      names = local_names (slice_range (locals_of f) (state_at f i).locals z.locals);
      texts = texts_among (noted_in_statement s);
      lambdas = lambdas_among (noted_in_statement s);
    }

part_at : (f : FunForm) (i : ℕ) (s : StatementForm) → state_at f (suc i) ≡ behind (state_at f i) s
    → statement_of (Some f) i s ≡ part_behind f (state_at f i) s
unfolding state_at with_state
part_at (fun at suspends captures parameters locals t ss) i s e =
    ap (with_state (fun at suspends captures parameters locals t ss) i s) e

-- the statements of a body from one on
directs_run : (u : UnitForm) (b : BodyName) (f : FunForm) → body_of u b ≡ Some f → (i : ℕ) (rest : StatementForms) → back i (statements_of_body f) ≡ rest
    → map (direct_part u) (directs_from b i rest) ≡ parts_behind f (state_at f i) rest
directs_run u b f is i statements_end e = refl
directs_run u b f is i (statement_then s rest) e =
    let more = state_more f i s rest e in
    let next : i + 1 ≡ suc i = omega arith in
    ap₂ (λ p ps. p ∷ ps) (ap (λ o. statement_of o i s) is ∙ part_at f i s more)
    (ap (λ j. map (direct_part u) (directs_from b j rest)) next
    ∙ (directs_run u b f is (suc i) rest (back_more i (statements_of_body f) s rest e)
    ∙ ap (λ z. parts_behind f z rest) more))

at_begin : (f : FunForm) → state_at f zero ≡ begun f
unfolding state_at
at_begin (fun at suspends captures parameters locals t ss) =
    let none : parameters + 0 ≡ parameters = omega arith in
    ap (λ n. record { sizes = nothing; locals = n }) none

whole_body : (f : FunForm) → back zero (statements_of_body f) ≡ statements_of_body f
unfolding back
whole_body f = refl

body_same : (u : UnitForm) (b : BodyName) (f : FunForm) → body_of u b ≡ Some f → map (direct_part u) (directs_of_body b f) ≡ body_parts f
body_same u b (fun at suspends captures parameters locals t ss) is =
    directs_run u b (fun at suspends captures parameters locals t ss) is zero ss (whole_body (fun at suspends captures parameters locals t ss))
    ∙ ap (λ z. parts_behind (fun at suspends captures parameters locals t ss) z ss) (at_begin (fun at suspends captures parameters locals t ss))

pub function_same : (u : UnitForm) (n : ℕ) (o : Option FunForm) → slice_get u.functions n ≡ o
    → map (direct_part u) (directs_of_maybe (of_function n) (option_map Some o)) ≡ maybe_parts o
function_same u n None is = refl
function_same u n (Some f) is = body_same u (of_function n) f is

method_same : (u : UnitForm) (c n : ℕ) (o : Option (Option FunForm)) → body_of u (of_method c n) ≡ flat o
    → map (direct_part u) (directs_of_maybe (of_method c n) o) ≡ method_parts o
method_same u c n None is = refl
method_same u c n (Some None) is = refl
method_same u c n (Some (Some f)) is = body_same u (of_method c n) f is

map-append : (u : UnitForm) (a b : List DirectForm) → map (direct_part u) (a ++ b) ≡ map (direct_part u) a ++ map (direct_part u) b
map-append u [] b = refl
map-append u (x ∷ a) b = ap (λ ps. direct_part u x ∷ ps) (map-append u a b)

-- the methods of a class are those of its bodies
AreMethods : UnitForm → ℕ → List (Option FunForm) → Type 0
AreMethods u c fs = (n : ℕ) → body_of u (of_method c n) ≡ flat (slice_get fs n)

without_constructor : (u : UnitForm) (c : ℕ) (fs : List (Option FunForm)) → AreMethods u c fs → (ms : List MemberNumber) (z : State)
    → map (direct_part u) (directs_of_members c fs ms []) ≡ members_behind fs None z statements_end ms
unfolding AreMethods
without_constructor u c fs are [] z = refl
without_constructor u c fs are (member.Function n ∷ ms) z =
    map-append u (directs_of_maybe (of_method c n) (slice_get fs n)) (directs_of_members c fs ms [])
    ∙ ap₂ (λ a b. a ++ b) (method_same u c n (slice_get fs n) (are n)) (without_constructor u c fs are ms z)
without_constructor u c fs are (member.Property n ∷ ms) z = without_constructor u c fs are ms z

with_constructor : (u : UnitForm) (c : ℕ) (fs : List (Option FunForm)) → AreMethods u c fs → (f : FunForm) → body_of u (of_constructor c) ≡ Some f
    → (ms : List MemberNumber) (i : ℕ) (rest : StatementForms) → back i (statements_of_body f) ≡ rest
    → map (direct_part u) (directs_of_members c fs ms (directs_from (of_constructor c) i rest)) ≡ members_behind fs (Some f) (state_at f i) rest ms
unfolding AreMethods
with_constructor u c fs are f is [] i rest e = refl
with_constructor u c fs are f is (member.Function n ∷ ms) i rest e =
    map-append u (directs_of_maybe (of_method c n) (slice_get fs n)) (directs_of_members c fs ms (directs_from (of_constructor c) i rest))
    ∙ ap₂ (λ a b. a ++ b) (method_same u c n (slice_get fs n) (are n)) (with_constructor u c fs are f is ms i rest e)
with_constructor u c fs are f is (member.Property n ∷ ms) i statements_end e = with_constructor u c fs are f is ms i statements_end e
with_constructor u c fs are f is (member.Property n ∷ ms) i (statement_then s rest) e =
    let more = state_more f i s rest e in
    let next : i + 1 ≡ suc i = omega arith in
    ap₂ (λ p ps. p ∷ ps) (ap (λ o. statement_of o i s) is ∙ part_at f i s more)
    (ap (λ j. map (direct_part u) (directs_of_members c fs ms (directs_from (of_constructor c) j rest))) next
    ∙ (with_constructor u c fs are f is ms (suc i) rest (back_more i (statements_of_body f) s rest e)
    ∙ ap (λ z. members_behind fs (Some f) z rest ms) more))

-- a constructor without statements left
without_statements : (u : UnitForm) (c : ℕ) (fs : List (Option FunForm)) → AreMethods u c fs → (f : FunForm) (ms : List MemberNumber) (z : State)
    → map (direct_part u) (directs_of_members c fs ms []) ≡ members_behind fs (Some f) z statements_end ms
unfolding AreMethods
without_statements u c fs are f [] z = refl
without_statements u c fs are f (member.Function n ∷ ms) z =
    map-append u (directs_of_maybe (of_method c n) (slice_get fs n)) (directs_of_members c fs ms [])
    ∙ ap₂ (λ a b. a ++ b) (method_same u c n (slice_get fs n) (are n)) (without_statements u c fs are f ms z)
without_statements u c fs are f (member.Property n ∷ ms) z = without_statements u c fs are f ms z

superclass_first : (u : UnitForm) (c : ℕ) (fs : List (Option FunForm)) → AreMethods u c fs → (f : FunForm) → body_of u (of_constructor c) ≡ Some f
    → (ms : List MemberNumber) (s : StatementForm) (ss : StatementForms) → statements_of_body f ≡ statement_then s ss
    → (direct_part u (record { body = of_constructor c; index = 0; statement = s }) ∷ map (direct_part u) (directs_of_members c fs ms (directs_from (of_constructor c) (0 + 1) ss)))
    ≡ (part_behind f (begun f) s ∷ members_behind fs (Some f) (behind (begun f) s) ss ms)
superclass_first u c fs are f is ms s ss e =
    let first = whole_body f ∙ e in
    let more = state_more f zero s ss first in
    let begin = at_begin f in
    ap₂ (λ p ps. p ∷ ps) (ap (λ o. statement_of o zero s) is ∙ (part_at f zero s more ∙ ap (λ z. part_behind f z s) begin))
    (with_constructor u c fs are f is ms 1 ss (back_more zero (statements_of_body f) s ss first)
    ∙ ap (λ z. members_behind fs (Some f) z ss ms) (more ∙ ap (λ z. behind z s) begin))

-- first the arguments of the superclass
class_begins : (u : UnitForm) (c : ℕ) (fs : List (Option FunForm)) → AreMethods u c fs → (o : Option FunForm) → body_of u (of_constructor c) ≡ o
    → (ms : List MemberNumber) (parent : Option ℕ)
    → map (direct_part u) (directs_of_parts c fs ms parent (directs_of_maybe (of_constructor c) (Some o)))
    ≡ constructed fs o (state_of o) (rest_of o) ms parent
class_begins u c fs are None is ms None = without_constructor u c fs are ms (state_of None)
class_begins u c fs are None is ms (Some parent) = without_constructor u c fs are ms (state_of None)
class_begins u c fs are (Some (fun at suspends captures parameters locals t ss)) is ms None =
    with_constructor u c fs are (fun at suspends captures parameters locals t ss) is ms zero ss (whole_body (fun at suspends captures parameters locals t ss))
    ∙ ap (λ z. members_behind fs (Some (fun at suspends captures parameters locals t ss)) z ss ms) (at_begin (fun at suspends captures parameters locals t ss))
class_begins u c fs are (Some (fun at suspends captures parameters locals t statements_end)) is ms (Some parent) =
    without_statements u c fs are (fun at suspends captures parameters locals t statements_end) ms
    (begun (fun at suspends captures parameters locals t statements_end))
class_begins u c fs are (Some (fun at suspends captures parameters locals t (statement_then s ss))) is ms (Some parent) =
    superclass_first u c fs are (fun at suspends captures parameters locals t (statement_then s ss)) is ms s ss refl

class_same : (u : UnitForm) (c : ℕ) (h : Option ClassForm) (o : Option ClassBodies) → slice_get u.classes c ≡ o
    → map (direct_part u) (directs_of_class c h o) ≡ class_parts h o
unfolding AreMethods
class_same u c None o is = refl
class_same u c (Some h) None is = refl
class_same u c (Some h) (Some bodies) is =
    class_begins u c bodies.functions (λ n. ap (λ b. flat (flat (option_map (λ x. slice_get x.functions n) b))) is) bodies.constructor
    (ap (λ b. flat (option_map (λ x. x.constructor) b)) is) h.members h.superclass

-- the direct statements of a declaration are those that the code goes through
pub code_same : (u : UnitForm) (d : DeclarationNumber) → declaration_statements u d ≡ code_parts u d
code_same u (number.Function n) = function_same u n (slice_get u.functions n) refl
code_same u (number.Class c) = class_same u c (slice_get u.headers.classes c) (slice_get u.classes c) refl
code_same u (number.Constant n) = refl
