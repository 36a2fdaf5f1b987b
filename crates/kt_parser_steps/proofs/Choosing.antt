-- A choice reads what the part reads that it chooses.
use Rattle.std.proofs.Common.{◌≡◌, Bool, true, false, List, Some, None, Result, Err, refl, ap, sym, subst, ◌∙◌}
use Rattle.kt_parser_steps.specs.declared.error.ParseError.{ParseError}
use Rattle.kt_tree.specs.declared.tokens.Token.{Token}
use Rattle.kt_grammar_parsers.specs.Parsers.{Cursor, Parser, Outcome, ◌>>=◌, cursor, ahead, attempt, attempt_if, where_next, on}
use Rattle.kt_grammar.specs.Readers.{on_if}
use Rattle.kt_parser_steps.specs.Cursors.{Turned}
use Rattle.kt_parser_steps.proofs.Turns.{on_taken, on_missed}
use Rattle.kt_parser_steps.specs.Steps.{ReadsAs, Tries}
use Rattle.kt_parser_steps.specs.Chosen.{TurnedIf, FindsIf, TriesIf}
use Rattle.kt_parser_steps.proofs.Ways.{reads_from, attempt_ok, attempt_err}

module _ {T A B : Type 0} (tree : A → B) (test : T → Bool) (go : T → Parser T B) (other : Parser T B) (c c1 new : Cursor T) (r : Result A ParseError) where
  pub on_reads : (t : T) → Turned test c (Some t) c1 → ReadsAs tree (go t c1) r new → ReadsAs tree (on test go other c) r new
  on_reads t h e = reads_from tree _ _ (on_taken test c go other t c1 h) r new e

  pub on_skips : Turned test c None c1 → ReadsAs tree (other c1) r new → ReadsAs tree (on test go other c) r new
  on_skips h e = reads_from tree _ _ (on_missed test c go other c1 h) r new e

-- where the code knows by another name whether the choice is there
module _ {A B : Type 0} (tree : A → B) (there allowed : Bool) (test : Token → Bool) (go : Token → Parser Token B) (other : Parser Token B) (c c1 new : Cursor Token) (r : Result A ParseError) where
  pub on_if_reads : (t : Token) → there ≡ allowed → TurnedIf there test c (Some t) c1 → ReadsAs tree (go t c1) r new → ReadsAs tree (on_if allowed test go other c) r new
  on_if_reads t same h e = subst (λ (b : Bool). ReadsAs tree (on_if b test go other c) r new) same (reads there h e)
    where
      reads : (b : Bool) → TurnedIf b test c (Some t) c1 → ReadsAs tree (go t c1) r new → ReadsAs tree (on_if b test go other c) r new
      reads true h e = on_reads tree test go other c c1 new r t h e
      reads false h e = absurd (cc)

  pub on_if_skips : there ≡ allowed → TurnedIf there test c None c1 → ReadsAs tree (other c1) r new → ReadsAs tree (on_if allowed test go other c) r new
  on_if_skips same h e = subst (λ (b : Bool). ReadsAs tree (on_if b test go other c) r new) same (skips there h e)
    where
      skips : (b : Bool) → TurnedIf b test c None c1 → ReadsAs tree (other c1) r new → ReadsAs tree (on_if b test go other c) r new
      skips true h e = on_skips tree test go other c c1 new r h e
      skips false h e = reads_from tree _ _ (ap other (sym h.1)) r new e

module _ {T A B X Y : Type 0} (tree : A → B) (there allowed : Bool) (view : X → Y) (p : Parser T Y) (go : Y → Parser T B) (other : Parser T B) (c c1 new : Cursor T) (r : Result A ParseError) where
  pub attempt_if_reads : (x : X) → there ≡ allowed → FindsIf there view p c (Some x) c1 → ReadsAs tree (go (view x) c1) r new → ReadsAs tree (attempt_if allowed p go other c) r new
  attempt_if_reads x same h e = subst (λ (b : Bool). ReadsAs tree (attempt_if b p go other c) r new) same (reads there h e)
    where
      reads : (b : Bool) → FindsIf b view p c (Some x) c1 → ReadsAs tree (go (view x) c1) r new → ReadsAs tree (attempt_if b p go other c) r new
      reads true h e = reads_from tree _ _ (attempt_ok p go other c (view x) c1 h) r new e
      reads false h e = absurd (cc)

  pub attempt_if_skips : there ≡ allowed → FindsIf there view p c None c1 → ReadsAs tree (other c1) r new → ReadsAs tree (attempt_if allowed p go other c) r new
  attempt_if_skips same h e = subst (λ (b : Bool). ReadsAs tree (attempt_if b p go other c) r new) same (skips there h e)
    where
      skips : (b : Bool) → FindsIf b view p c None c1 → ReadsAs tree (other c1) r new → ReadsAs tree (attempt_if b p go other c) r new
      skips true h e = reads_from tree _ _ (attempt_err p go other c c1.far h.0 ∙ ap (λ (z : List T). other (cursor z c1.far)) (sym h.1)) r new e
      skips false h e = reads_from tree _ _ (ap other (sym h.1)) r new e

-- an attempt of what is always allowed
module _ {T A B X Y : Type 0} (tree : A → B) (view : X → Y) (p : Parser T Y) (go : Y → Parser T B) (other : Parser T B) (c c1 new : Cursor T) (r : Result A ParseError) where
  pub attempt_reads : (x : X) → FindsIf true view p c (Some x) c1 → ReadsAs tree (go (view x) c1) r new → ReadsAs tree (attempt p go other c) r new
  attempt_reads x h e = attempt_if_reads tree true true view p go other c c1 new r x refl h e

  pub attempt_skips : FindsIf true view p c None c1 → ReadsAs tree (other c1) r new → ReadsAs tree (attempt p go other c) r new
  attempt_skips h e = attempt_if_skips tree true true view p go other c c1 new r refl h e

-- a choice by a look ahead, and one by the next token
module _ {T A B : Type 0} (tree : A → B) (there allowed : Bool) (p : Parser T (Unit {0})) (go : Unit {0} → Parser T B) (other : Parser T B) (c c1 new : Cursor T) (r : Result A ParseError) where
  pub looked_reads : there ≡ allowed → TriesIf there p c true c1 → ReadsAs tree (go tt c1) r new → ReadsAs tree (attempt_if allowed p go other c) r new
  looked_reads same h e = subst (λ (b : Bool). ReadsAs tree (attempt_if b p go other c) r new) same (reads there h)
    where
      reads : (b : Bool) → TriesIf b p c true c1 → ReadsAs tree (attempt_if b p go other c) r new
      reads true h = reads_from tree _ _ (attempt_ok p go other c tt c1 h) r new e
      reads false h = absurd (cc)

  pub looked_skips : there ≡ allowed → TriesIf there p c false c1 → ReadsAs tree (other c1) r new → ReadsAs tree (attempt_if allowed p go other c) r new
  looked_skips same h e = subst (λ (b : Bool). ReadsAs tree (attempt_if b p go other c) r new) same (skips there h)
    where
      skips : (b : Bool) → TriesIf b p c false c1 → ReadsAs tree (attempt_if b p go other c) r new
      skips true h = reads_from tree _ _ (attempt_err p go other c c1.far h.0 ∙ ap (λ (z : List T). other (cursor z c1.far)) (sym h.1)) r new e
      skips false h = reads_from tree _ _ (ap other (sym h.1)) r new e

module _ {T A B : Type 0} (tree : A → B) (test : T → Bool) (p other : Parser T B) (c c1 new : Cursor T) (r : Result A ParseError) where
  pub next_reads : Tries (ahead test c) c true c1 → ReadsAs tree (p c1) r new → ReadsAs tree (where_next test p other c) r new
  next_reads h e = looked_reads tree true true (ahead test) (λ _. p) other c c1 new r refl h e

  pub next_skips : Tries (ahead test c) c false c1 → ReadsAs tree (other c1) r new → ReadsAs tree (where_next test p other c) r new
  next_skips h e = looked_skips tree true true (ahead test) (λ _. p) other c c1 new r refl h e

-- a part that has to be there
module _ {T A B X Y : Type 0} (tree : A → B) (view : X → Y) (p : Parser T Y) (go : Y → Parser T B) (c c1 : Cursor T) where
  pub found_reads : (x : X) (r : Result A ParseError) (new : Cursor T) → FindsIf true view p c (Some x) c1 → ReadsAs tree (go (view x) c1) r new → ReadsAs tree ((p >>= go) c) r new
  found_reads x r new h e = reads_from tree _ _ (rw h refl) r new e

  pub unfound_fails : FindsIf true view p c None c1 → (p >>= go) c ≡ Err c1.far
  unfound_fails h = rw h.0 refl

-- ---- the same, where what comes out is known: any equation carries over

module _ {T B : Type 0} (test : T → Bool) (go : T → Parser T B) (other : Parser T B) (c c1 : Cursor T) (z : Outcome T B) where
  pub on_gives : (t : T) → Turned test c (Some t) c1 → go t c1 ≡ z → on test go other c ≡ z
  on_gives t h e = on_taken test c go other t c1 h ∙ e

  pub on_passes : Turned test c None c1 → other c1 ≡ z → on test go other c ≡ z
  on_passes h e = on_missed test c go other c1 h ∙ e

module _ {T B : Type 0} (test : T → Bool) (p other : Parser T B) (c c1 : Cursor T) (z : Outcome T B) where
  pub next_passes : Tries (ahead test c) c false c1 → other c1 ≡ z → where_next test p other c ≡ z
  next_passes h e = attempt_err (ahead test) (λ _. p) other c c1.far h.0 ∙ ap (λ (k : List T). other (cursor k c1.far)) (sym h.1) ∙ e

module _ {B : Type 0} (there allowed : Bool) (test : Token → Bool) (go : Token → Parser Token B) (other : Parser Token B) (c c1 : Cursor Token) (z : Outcome Token B) where
  pub on_if_gives : (t : Token) → there ≡ allowed → TurnedIf there test c (Some t) c1 → go t c1 ≡ z → on_if allowed test go other c ≡ z
  on_if_gives t same h e = subst (λ (b : Bool). on_if b test go other c ≡ z) same (gives there h)
    where
      gives : (b : Bool) → TurnedIf b test c (Some t) c1 → on_if b test go other c ≡ z
      gives true h = on_gives test go other c c1 z t h e
      gives false h = absurd (cc)

  pub on_if_passes : there ≡ allowed → TurnedIf there test c None c1 → other c1 ≡ z → on_if allowed test go other c ≡ z
  on_if_passes same h e = subst (λ (b : Bool). on_if b test go other c ≡ z) same (passes there h)
    where
      passes : (b : Bool) → TurnedIf b test c None c1 → on_if b test go other c ≡ z
      passes true h = on_passes test go other c c1 z h e
      passes false h = ap other (sym h.1) ∙ e

module _ {T B X Y : Type 0} (there allowed : Bool) (view : X → Y) (p : Parser T Y) (go : Y → Parser T B) (other : Parser T B) (c c1 : Cursor T) (z : Outcome T B) where
  pub attempt_if_gives : (x : X) → there ≡ allowed → FindsIf there view p c (Some x) c1 → go (view x) c1 ≡ z → attempt_if allowed p go other c ≡ z
  attempt_if_gives x same h e = subst (λ (b : Bool). attempt_if b p go other c ≡ z) same (gives there h)
    where
      gives : (b : Bool) → FindsIf b view p c (Some x) c1 → attempt_if b p go other c ≡ z
      gives true h = attempt_ok p go other c (view x) c1 h ∙ e
      gives false h = absurd (cc)

  pub attempt_if_passes : there ≡ allowed → FindsIf there view p c None c1 → other c1 ≡ z → attempt_if allowed p go other c ≡ z
  attempt_if_passes same h e = subst (λ (b : Bool). attempt_if b p go other c ≡ z) same (passes there h)
    where
      passes : (b : Bool) → FindsIf b view p c None c1 → attempt_if b p go other c ≡ z
      passes true h = attempt_err p go other c c1.far h.0 ∙ ap (λ (k : List T). other (cursor k c1.far)) (sym h.1) ∙ e
      passes false h = ap other (sym h.1) ∙ e
