-- Lists of items, as the trees see them.
use Rattle.std.proofs.Common.{◌≡◌, List, [], Result, Ok, Err, map, ap, sym, subst, ◌∙◌, ◌⊎◌, inl}
use Rattle.std.proofs.lemmas.List.{map-id}
use Rattle.kt_parser_steps.specs.declared.error.ParseError.{ParseError}
use Rattle.kt_grammar_parsers.specs.Parsers.{Cursor, Parser, Outcome, repeat}
use Rattle.kt_parser_steps.specs.Steps.{ReadsAs}

-- a list that is absent
pub none_read : {T A B : Type 0} (tree : A → B) (xs : List A) → xs ≡ [] → (c : Cursor T) → (let none : Outcome T (List B) = Ok ([], c) in none) ≡ Ok (map tree xs, c)
none_read tree xs e c = ap (λ (z : List _). Ok (map tree z, c)) (sym e)

-- a turn that goes on with what the trees see
pub goes_on : {T S B : Type 0} (x y : S) → y ≡ x → (c : Cursor T) → (let turn : Outcome T (S ⊎ B) = Ok (inl x, c) in turn) ≡ Ok (inl y, c)
goes_on x y e c = ap (λ (z : _). Ok (inl z, c)) (sym e)

-- items without a part that is a tree are seen as themselves
pub as_themselves : {T A : Type 0} (o : Outcome T (List A)) (r : Result (List A) ParseError) (new : Cursor T) → ReadsAs (map (λ x. x)) o r new → ReadsAs (λ xs. xs) o r new
as_themselves o (Ok xs) new h = h ∙ ap (λ (z : List _). Ok (z, new)) (map-id xs)
as_themselves o (Err e) new h = h

-- a loop over such items that begins with none
pub begun : {T A : Type 0} (turn : List A → Parser T (List A ⊎ List A)) (c : Cursor T) (none : List A) → none ≡ [] → (r : Result (List A) ParseError) (new : Cursor T)
    → ReadsAs (map (λ x. x)) (repeat turn (map (λ x. x) none) c) r new → ReadsAs (λ xs. xs) (repeat turn [] c) r new
begun turn c none e r new h = as_themselves _ r new (subst (λ (z : List _). ReadsAs (map (λ x. x)) (repeat turn (map (λ x. x) z) c) r new) e h)
