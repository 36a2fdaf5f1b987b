-- What is read of a text of the first subset.
use Rattle.std.proofs.Common.{◌≡◌, ℕ, true, false, Bool, List, length, Option, None, Some, Result, Ok, Err, refl, sym, ap, subst, ◌∙◌}
use Rattle.std.specs.Prelude.{option_map, nat_le, ◌≤◌, MatchResult, Vec, if◌then◌else◌}
use Rattle.std.specs.Result.{IfOk, IsErr, IsErrAnd}
use Rattle.std.specs.declared.alloc.Global.{Global}
use Rattle.std.proofs.lemmas.Bool.{le-leb, leb-true}
use Rattle.kt_base.specs.declared.refusals.FrontErr.{FrontErr}
use Rattle.kt_base.specs.declared.refusals.FrontErr.TheVariants as front_err
use Rattle.kt_base.specs.declared.stack_code.Plain.{Plain}
use Rattle.kt_base.specs.StackCode.{Prints}
use Rattle.kt_tree.specs.declared.tokens.Token.{Token}
use Rattle.kt_tree.specs.Declarations.{DeclarationTree}
use Rattle.kt_first.specs.declared.reading.FirstErr.{FirstErr}
use Rattle.kt_first.specs.declared.reading.FirstErr.TheVariants.{NotBuilt, NoMemory}
use Rattle.kt_first.specs.Programs.{Program, code_of, values_of}
use Rattle.kt_lexer.specs.Sources.{AreTokensOfSource}
use Rattle.kt_grammar.specs.Declarations.{IsFileOf}
use Rattle.kt_first.specs.Trees.{IsFirst, begins_with_head, program_of_file}
use Rattle.kt_first.specs.Answers.{Answers, few, first_err_of}
use Rattle.kt_first.proofs.Meanings.{code_prints}

abbrev Code : Type 0
Code = Vec Plain Global

-- the code that the definition has of these tokens and this file
abbrev pub code_at : List Token → List DeclarationTree → Option (List Plain)
code_at tokens file = if begins_with_head tokens then few (option_map code_of (program_of_file file)) else None

-- a front end that wants memory is the only one that gives no tokens or no tree
pub front_only : (r : Result Code FirstErr) (e : FrontErr) (found : Code → Type 0) → IsErr r × IsErrAnd r (λ x. x ≡ first_err_of e) → e ≡ front_err.NoMemory → MatchResult r found (λ x. x ≡ NoMemory)
front_only (Ok code) e found is wants = cc (is.0)
front_only (Err x) e found is wants = is.1 ∙ ap first_err_of wants

-- of the tokens and the file of a program it is the program's
pub code_is : (text : List ℕ) (p : Program) (tokens : List Token) (file : List DeclarationTree) (x : IsFirst text p) → tokens ≡ x.tokens → file ≡ x.file → code_at tokens file ≡ Some (code_of p)
code_is text p tokens file x t f =
    let short : nat_le (length (code_of p)) 512 ≡ true = le-leb _ _ x.steps in
    ap (λ (ts : List Token). code_at ts file) t
    ∙ ap (λ (fs : List DeclarationTree). code_at x.tokens fs) f
    ∙ ap (λ b. if b then few (option_map code_of (program_of_file x.file)) else None) x.head
    ∙ ap (λ (o : Option Program). few (option_map code_of o)) x.program
    ∙ ap (λ b. if b then Some (code_of p) else None) short

pub code_only : (r : Result Code FirstErr) (o : Option (List Plain)) (code : List Plain) → Answers (λ (c : Code). c.items) r o → o ≡ Some code → MatchResult r (λ c. c.items ≡ code) (λ e. e ≡ NoMemory)
code_only (Ok c) o code answers is = let same : Some c.items ≡ Some code = sym answers ∙ is in cc
code_only (Err NotBuilt) o code answers is = absurd (let none : None ≡ Some code = sym answers ∙ is in cc)
code_only (Err NoMemory) o code answers is = refl

-- the code that was read prints the values of the program that the text is
pub prints_values : (text : List ℕ) (r : Result Code FirstErr)
    → ((p : Program) → IsFirst text p → MatchResult r (λ code. code.items ≡ code_of p) (λ e. e ≡ NoMemory))
    → IfOk r (λ code. (p : Program) → IsFirst text p → Prints code.items (values_of p))
prints_values text (Ok code) only = λ p is. subst (λ (l : List Plain). Prints l (values_of p)) (sym (only p is)) (code_prints p)
prints_values text (Err e) only = tt

-- what is known of a text, its tokens and its file before its code is looked at
record Read (text : List ℕ) (tokens : List Token) (file : List DeclarationTree) : Type 0 where
  pub short : length text ≤ 512
  pub has_tokens : AreTokensOfSource text tokens
  pub is_file : IsFileOf tokens file

-- the program that a text is, by its code
abbrev ProgramOf : List ℕ → List Plain → Type 0
ProgramOf text code = (p : Program) × IsFirst text p × (code ≡ code_of p)

code_of_short : (text : List ℕ) (tokens : List Token) (file : List DeclarationTree) (code : List Plain) → Read text tokens file
    → begins_with_head tokens ≡ true → (p : Program) → program_of_file file ≡ Some p
    → (b : Bool) → nat_le (length (code_of p)) 512 ≡ b → (if b then Some (code_of p) else None) ≡ Some code → ProgramOf text code
code_of_short text tokens file code x head p program true steps is = (
  p,
  record {
    short = x.short;
    tokens = tokens;
    has_tokens = x.has_tokens;
    head = head;
    file = file;
    is_file = x.is_file;
    program = program;
    steps = leb-true _ _ steps;
  },
  (let same : Some (code_of p) ≡ Some code = is in cc),
)
code_of_short text tokens file code x head p program false steps is = absurd (let none : None ≡ Some code = is in cc)

code_of_one : (text : List ℕ) (tokens : List Token) (file : List DeclarationTree) (code : List Plain) → Read text tokens file
    → begins_with_head tokens ≡ true → (o : Option Program) → program_of_file file ≡ o → few (option_map code_of o) ≡ Some code → ProgramOf text code
code_of_one text tokens file code x head None program is = absurd (let none : None ≡ Some code = is in cc)
code_of_one text tokens file code x head (Some p) program is = code_of_short text tokens file code x head p program _ refl is

code_of_headed : (text : List ℕ) (tokens : List Token) (file : List DeclarationTree) (code : List Plain) → Read text tokens file
    → (b : Bool) → begins_with_head tokens ≡ b → (if b then few (option_map code_of (program_of_file file)) else None) ≡ Some code → ProgramOf text code
code_of_headed text tokens file code x true head is = code_of_one text tokens file code x head _ refl is
code_of_headed text tokens file code x false head is = absurd (let none : None ≡ Some code = is in cc)

-- code that was read is that of the program that the text is
pub code_read : (text : List ℕ) (tokens : List Token) (file : List DeclarationTree) (r : Result Code FirstErr) → length text ≤ 512
    → AreTokensOfSource text tokens → IsFileOf tokens file → Answers (λ (c : Code). c.items) r (code_at tokens file)
    → IfOk r (λ code. ProgramOf text code.items)
code_read text tokens file (Ok c) short has is answers = code_of_headed text tokens file c.items (record { short = short; has_tokens = has; is_file = is }) _ refl answers
code_read text tokens file (Err e) short has is answers = tt
