-- The code of a program prints its values, and a text has one meaning.
use Rattle.std.proofs.Common.{◌≡◌, ℕ, ℤ, List, [], ◌∷◌, ◌++◌, Option, Some, None, refl, sym, ap, subst, ◌∙◌}
use Rattle.std.proofs.lemmas.List.{append_assoc, append-nil}
use Rattle.std.specs.Prelude.{option_and_then}
use Rattle.kt_base.specs.declared.stack_code.Plain.{Plain}
use Rattle.kt_base.specs.declared.stack_code.Plain.TheVariants as plain
use Rattle.kt_base.specs.StackCode.{Stacked, stepped, runs, Prints}
use Rattle.kt_tree.specs.declared.tokens.Token.{Token}
use Rattle.kt_tree.specs.Declarations.{DeclarationTree}
use Rattle.kt_grammar.specs.Declarations.{IsFileOf}
use Rattle.kt_grammar.proofs.declarations.FileLaws.{one_tree}
use Rattle.kt_lexer.proofs.Whole.{one_tokens}
use Rattle.kt_first.specs.Programs.{Operation, sum, difference, product, Expression, number, under, result_of, step_of, expression_code, value_of, Program, print_code, values_of, code_of}
use Rattle.kt_first.specs.Trees.{IsFirst, program_of_file}
use Rattle.kt_first.specs.Laws.{OneMeaning}

abbrev state : List ℤ → List ℤ → Stacked
state stack printed = record { stack = stack; printed = printed }

in_turn : {S : Type 0} (f g both : S → Option S) → ((s : S) → both s ≡ option_and_then g (f s)) → (t : Option S) → option_and_then both t ≡ option_and_then g (option_and_then f t)
in_turn f g both same None = refl
in_turn f g both same (Some s) = same s

-- code behind other code goes on from where that ends
runs_append : (front back : List Plain) (s : Stacked) → runs (front ++ back) s ≡ option_and_then (runs back) (runs front s)
runs_append [] back s = refl
runs_append (step ∷ front) back s = in_turn (runs front) (runs back) (runs (front ++ back)) (runs_append front back) (stepped step s.stack s.printed)

-- the step of an operation takes two operands and pushes its result
operates : (o : Operation) (a b : ℤ) (stack printed : List ℤ) → runs (step_of o ∷ []) (state (b ∷ a ∷ stack) printed) ≡ Some (state (result_of o a b ∷ stack) printed)
operates sum a b stack printed = refl
operates difference a b stack printed = refl
operates product a b stack printed = refl

-- the code of an expression pushes its value
pushes : (e : Expression) (stack printed : List ℤ) → runs (expression_code e) (state stack printed) ≡ Some (state (value_of e ∷ stack) printed)
pushes (number n) stack printed = refl
pushes (under o a b) stack printed =
    runs_append (expression_code a) (expression_code b ++ step_of o ∷ []) (state stack printed)
    ∙ ap (option_and_then (runs (expression_code b ++ step_of o ∷ []))) (pushes a stack printed)
    ∙ runs_append (expression_code b) (step_of o ∷ []) (state (value_of a ∷ stack) printed)
    ∙ ap (option_and_then (runs (step_of o ∷ []))) (pushes b (value_of a ∷ stack) printed)
    ∙ operates o (value_of a) (value_of b) stack printed

prints_from : (p : Program) (printed : List ℤ) → runs (code_of p) (state [] printed) ≡ Some (state [] (printed ++ values_of p))
prints_from [] printed = ap (λ (l : List ℤ). Some (state [] l)) (sym (append-nil printed))
prints_from (e ∷ p) printed =
    runs_append (print_code e) (code_of p) (state [] printed)
    ∙ ap (option_and_then (runs (code_of p))) (runs_append (expression_code e) (plain.Print ∷ []) (state [] printed) ∙ ap (option_and_then (runs (plain.Print ∷ []))) (pushes e [] printed))
    ∙ prints_from p (printed ++ value_of e ∷ [])
    ∙ ap (λ (l : List ℤ). Some (state [] l)) (append_assoc printed (value_of e ∷ []) (values_of p))

pub code_prints : (p : Program) → Prints (code_of p) (values_of p)
code_prints p = prints_from p []

-- a text is one program
pub one_program : (text : List ℕ) (p q : Program) → IsFirst text p → IsFirst text q → p ≡ q
one_program text p q x y =
    let tokens : x.tokens ≡ y.tokens = one_tokens _ _ _ x.has_tokens.tokens y.has_tokens.tokens in
    let files : x.file ≡ y.file = one_tree y.tokens x.file y.file (subst (λ (ts : List Token). IsFileOf ts x.file) tokens x.is_file) y.is_file in
    let programs : Some p ≡ Some q = sym x.program ∙ ap (λ (f : List DeclarationTree). program_of_file f) files ∙ y.program in
    cc

pub one_meaning : OneMeaning
one_meaning text p q x y = ap (λ (z : Program). values_of z) (one_program text p q x y)
