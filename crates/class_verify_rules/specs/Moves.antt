-- How *pop*, *dup*, *swap* and their kin move operands, by units: one text for kinds and for values (JVMS SE 8 §6.5).
use Rattle.std.specs.Prelude.{List, [], ◌∷◌, Option, Some, None}
use Rattle.jvm_code_opcodes.specs.declared.opcodes.StackOp.{StackOp}
use Rattle.jvm_code_opcodes.specs.declared.opcodes.StackOp.TheVariants.{Pop, Pop2, Dup, DupX1, DupX2, Dup2, Dup2X1, Dup2X2, Swap}

-- how many units an operand takes; one of which nothing is known isn't moved
pub data Size : Type 0 where
  One : Size
  Two : Size
  Neither : Size

abbrev pub by_size : {A : Type 0} → Size → Option A → Option A → Option A
by_size One a b = a
by_size Two a b = b
by_size Neither a b = None

module _ {A : Type 0} (size : A → Size) where
  -- the topmost operand and those below it, where it has one unit and where it has two
  abbrev pub top_of : List A → (A → List A → Option (List A)) → (A → List A → Option (List A)) → Option (List A)
  top_of [] one two = None
  top_of (x ∷ xs) one two = by_size (size x) (one x xs) (two x xs)

  abbrev pub top_unit : List A → (A → List A → Option (List A)) → Option (List A)
  top_unit xs one = top_of xs one (λ x xs. None)

  -- the operands afterwards: none where these operands can't be moved so
  abbrev pub moved : StackOp → List A → Option (List A)
  moved Pop xs = top_unit xs (λ a xs. Some xs)
  moved Pop2 xs = top_of xs
      (λ a xs. top_unit xs (λ b xs. Some xs))
      (λ a xs. Some xs)
  moved Dup xs = top_unit xs (λ a xs. Some (a ∷ a ∷ xs))
  moved DupX1 xs = top_unit xs (λ a xs. top_unit xs (λ b xs. Some (a ∷ b ∷ a ∷ xs)))
  moved DupX2 xs = top_unit xs (λ a xs. top_of xs
      (λ b xs. top_unit xs (λ c xs. Some (a ∷ b ∷ c ∷ a ∷ xs)))
      (λ b xs. Some (a ∷ b ∷ a ∷ xs)))
  moved Dup2 xs = top_of xs
      (λ a xs. top_unit xs (λ b xs. Some (a ∷ b ∷ a ∷ b ∷ xs)))
      (λ a xs. Some (a ∷ a ∷ xs))
  moved Dup2X1 xs = top_of xs
      (λ a xs. top_unit xs (λ b xs. top_unit xs (λ c xs. Some (a ∷ b ∷ c ∷ a ∷ b ∷ xs))))
      (λ a xs. top_unit xs (λ b xs. Some (a ∷ b ∷ a ∷ xs)))
  moved Dup2X2 xs = top_of xs
      (λ a xs. top_unit xs (λ b xs. top_of xs
      (λ c xs. top_unit xs (λ d xs. Some (a ∷ b ∷ c ∷ d ∷ a ∷ b ∷ xs)))
      (λ c xs. Some (a ∷ b ∷ c ∷ a ∷ b ∷ xs))))
      (λ a xs. top_of xs
      (λ b xs. top_unit xs (λ c xs. Some (a ∷ b ∷ c ∷ a ∷ xs)))
      (λ b xs. Some (a ∷ b ∷ a ∷ xs)))
  moved Swap xs = top_unit xs (λ a xs. top_unit xs (λ b xs. Some (b ∷ a ∷ xs)))
