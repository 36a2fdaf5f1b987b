-- What was written of a class.
use Rattle.std.proofs.Common.{◌≡◌, ℕ, zero, suc, ◌+◌, ◌<◌, ◌^◌, List, [], ◌∷◌, ◌++◌, length, map, get_or, codes, Option, Some, None, Result, Ok, Err, refl, sym, ap, subst, ◌∙◌, append_assoc, arith}
use Rattle.std.specs.Prelude.{OnOk}
use Rattle.std.specs.Int.{w16, w32, to_be_bytes}
use Rattle.std.specs.List.{flat_map, AllByRecursion}
use Rattle.std.proofs.lemmas.List.{append-nil}
use Rattle.jvm_code_instructions.specs.declared.instr.Instr.{Instr}
use Rattle.jvm_code.specs.Decoding.{rows}
use Rattle.jvm_code.specs.Spelling.{spelling}
use Rattle.jvm_pool.specs.declared.entries.Entry.{Entry}
use Rattle.jvm_pool.specs.declared.entries.Entry.TheVariants as entry
use Rattle.jvm_pieces.specs.Pieces.{Bytes, index, pieces, mentions}
use Rattle.jvm_class_types.specs.declared.flags.MethodFlags.{MethodFlags}
use Rattle.jvm_class_types.specs.declared.frames.FrameType.{FrameType}
use Rattle.jvm_class_types.specs.Flags.{class_flags}
use Rattle.jvm_class_types.specs.Seen.{Class, Code}
use Rattle.jvm_class_formats.specs.Formats.{Format, counted, widths, sized}
use Rattle.jvm_class_formats.proofs.Steps.{pieces-append, widths_are}
use Rattle.jvm_maps.specs.Types.{class_name}
use Rattle.jvm_maps.specs.Frames.{Before, before}
use Rattle.jvm_class_grammar.specs.File.{head_bytes, HasClassFile, IsClassFile}
use Rattle.jvm_class_grammar.specs.Grammar.{at_start, attribute, class, code_attributes, code_body, field, handler, method, some_code}
use Rattle.jvm_class_grammar.specs.Instructions.{row_pieces, Names}
use Rattle.jvm_class_grammar.proofs.CodeLaws.{bytes_are}
use Rattle.jvm_class_start.specs.Arguments.{start_locals}
use Rattle.jvm_pool_bytes.specs.Spelling.{pool, IsPool}
use Rattle.jvm_pool_bytes.proofs.Ordered.{order_is_pool}
use Rattle.class_writer_members.proofs.Appends.{two_parts, three_and_more}

-- what each of many allows
pub allowed_at : {X A : Type 0} (allows : A → Type 0) (seen : X → A) (xs : List X) (i : ℕ) (x : X) → i < length xs
    → x ≡ get_or xs i x → AllByRecursion allows (map seen xs) → allows (seen x)
allowed_at allows seen [] i x lt is all = absurd (omega arith)
allowed_at allows seen (y ∷ xs) zero x lt is all = subst (λ z. allows (seen z)) (sym is) all.0
allowed_at allows seen (y ∷ xs) (suc i) x lt is all = allowed_at allows seen xs i x (omega (arith, lt)) is all.1

-- the pool of a class that has a class file
pub pool_of : (es : List Entry) (c : Class) → HasClassFile es c → IsPool es
pool_of es c h =
    order_is_pool es (mentions ((class es).spell c)) h.1.spells.order h.1.entries h.1.count

pub allowed : (es : List Entry) (c : Class) → HasClassFile es c → (class es).allows c
allowed es c h = h.1.class_is

-- the head, the pool and what stands behind it are the class file
pub whole : (es : List Entry) (c : Class) → HasClassFile es c → (a b d : List ℕ) → a ≡ [] ++ head_bytes
    → b ≡ a ++ pool es
    → d ≡ b ++ pieces es ((class es).spell c) → IsClassFile d es c
whole es c h a b d head entries body =
    record {
      behind = pieces es ((class es).spell c);
      entries = h.1.entries;
      count = h.1.count;
      class_is = h.1.class_is;
      spells = record { order = h.1.spells.order; bytes = refl };
      bytes_are = two_parts [] a d head_bytes (pool es ++ pieces es ((class es).spell c)) head
          (two_parts a b d (pool es) (pieces es ((class es).spell c)) entries body);
    }

-- ---- what stands behind its length

body_length : {A : Type 0} (es : List Entry) (f : Format A) (a : A) (body : List ℕ) → body ≡ [] ++ pieces es (f.spell a)
    → length body ≡ widths (f.spell a)
body_length es f a body is = ap length is ∙ widths_are es (f.spell a)

pub sized_fits : {A : Type 0} (es : List Entry) (f : Format A) (a : A) (body : List ℕ) → body ≡ [] ++ pieces es (f.spell a)
    → (sized f).allows a → length body < 2 ^ 32
sized_fits es f a body is allowed =
    let len = body_length es f a body is in
    let fits : widths (f.spell a) < 2 ^ 32 = allowed.1 in
    omega (arith, len, fits)

pub sized_so : {A : Type 0} (es : List Entry) (f : Format A) (a : A) (body old new : List ℕ)
    → body ≡ [] ++ pieces es (f.spell a) → new ≡ old ++ (to_be_bytes w32 (length body) ++ body)
    → new ≡ old ++ pieces es ((sized f).spell a)
sized_so es f a body old new is put =
    put ∙ ap (λ (n : ℕ). old ++ (to_be_bytes w32 n ++ body)) (body_length es f a body is)
    ∙ ap (λ (l : List ℕ). old ++ (to_be_bytes w32 (widths (f.spell a)) ++ l)) is

-- ---- the parts of a method and of a class

-- what was put of code that was borrowed
pub put_so : (code items : List (ℕ × Instr)) (into new : List ℕ) → code ≡ items
    → new ≡ into ++ (to_be_bytes w32 (length (spelling (rows code))) ++ spelling (rows code))
    → new ≡ into ++ (to_be_bytes w32 (length (spelling (rows items))) ++ spelling (rows items))
put_so code items into new is h =
    subst (λ (l : List (ℕ × Instr)). new ≡ into ++ (to_be_bytes w32 (length (spelling (rows l))) ++ spelling (rows l))) is h

pub body_so : (es : List Entry) (start : Before) (c : Code) → AllByRecursion (Names es) c.instructions
    → (o a b d e : List ℕ) → a ≡ o ++ to_be_bytes w16 c.max_stack → b ≡ a ++ to_be_bytes w16 c.max_locals
    → d ≡ b ++ (to_be_bytes w32 (length (spelling c.instructions)) ++ spelling c.instructions)
    → e ≡ d ++ (pieces es ((counted (handler es)).spell c.handlers) ++ pieces es ((code_attributes es start).spell c.frames))
    → e ≡ o ++ pieces es ((code_body es start).spell c)
body_so es start c names o a b d e p q r s =
    let stack = to_be_bytes w16 c.max_stack in
    let locals = to_be_bytes w16 c.max_locals in
    let len = to_be_bytes w32 (length (spelling c.instructions)) in
    let is = flat_map (row_pieces es) c.instructions in
    let handlers = (counted (handler es)).spell c.handlers in
    let frames = (code_attributes es start).spell c.frames in
    let behind = pieces es handlers ++ pieces es frames in
    let all : pieces es (is ++ (handlers ++ frames)) ≡ spelling c.instructions ++ behind =
    pieces-append es is (handlers ++ frames)
    ∙ ap (λ (l : List ℕ). l ++ pieces es (handlers ++ frames)) (bytes_are es c.instructions names)
    ∙ ap (λ (l : List ℕ). spelling c.instructions ++ l) (pieces-append es handlers frames) in
    three_and_more o a b d e stack locals (len ++ spelling c.instructions) behind p q r s
    ∙ ap (λ (l : List ℕ). o ++ (stack ++ (locals ++ l)))
    (append_assoc len (spelling c.instructions) behind ∙ ap (λ (l : List ℕ). len ++ l) (sym all))

pub on_ok : {T E : Type 0} (r : Result T E) (P Q : Type 0) → (P → Q) → OnOk r P → OnOk r Q
on_ok (Ok x) P Q f h = f h
on_ok (Err e) P Q f h = tt

pub some_code_so : (es : List Entry) (class : List ℕ) (flags : MethodFlags) (name descriptor : List ℕ) (code : Option Code)
    (x : Code) (locals : List FrameType) → locals ≡ start_locals class flags name descriptor → code ≡ Some x
    → (o a b : List ℕ) → a ≡ o ++ to_be_bytes w16 1
    → b ≡ a ++ pieces es ((attribute es (codes "Code") (code_body es (before None locals))).spell x)
    → b ≡ o ++ pieces es ((some_code es (at_start class flags name descriptor)).spell code)
some_code_so es class flags name descriptor code x locals start is o a b p q =
    let spelled = λ (l : List FrameType). pieces es ((attribute es (codes "Code") (code_body es (before None l))).spell x) in
    subst (λ (y : Option Code). b ≡ o ++ pieces es ((some_code es (at_start class flags name descriptor)).spell y)) (sym is)
    (two_parts o a b (to_be_bytes w16 1) (spelled (start_locals class flags name descriptor)) p
    (q ∙ ap (λ (l : List FrameType). a ++ spelled l) start))

pub class_so : (es : List Entry) (c : Class) (o a b : List ℕ)
    → a ≡ o ++ (to_be_bytes w16 (class_flags c.flags)
    ++ (to_be_bytes w16 (index es (entry.Class c.name)) ++ to_be_bytes w16 (index es (entry.Class c.super_class))))
    → b ≡ a ++ (pieces es ((counted (class_name es)).spell c.interfaces) ++ (pieces es ((counted (field es)).spell c.fields)
    ++ (pieces es ((counted (method es c.name)).spell c.methods) ++ to_be_bytes w16 0)))
    → b ≡ o ++ pieces es ((class es).spell c)
class_so es c o a b p q =
    let flags = to_be_bytes w16 (class_flags c.flags) in
    let name = to_be_bytes w16 (index es (entry.Class c.name)) in
    let above = to_be_bytes w16 (index es (entry.Class c.super_class)) in
    let interfaces = (counted (class_name es)).spell c.interfaces in
    let fields = (counted (field es)).spell c.fields in
    let methods = (counted (method es c.name)).spell c.methods in
    let last = Bytes (to_be_bytes w16 0) ∷ [] in
    let members = pieces es interfaces ++ (pieces es fields ++ (pieces es methods ++ to_be_bytes w16 0)) in
    let all : pieces es (interfaces ++ (fields ++ (methods ++ last))) ≡ members =
    pieces-append es interfaces (fields ++ (methods ++ last))
    ∙ ap (λ (l : List ℕ). pieces es interfaces ++ l) (pieces-append es fields (methods ++ last)
    ∙ ap (λ (l : List ℕ). pieces es fields ++ l) (pieces-append es methods last
    ∙ ap (λ (l : List ℕ). pieces es methods ++ l) (append-nil (to_be_bytes w16 0)))) in
    two_parts o a b (flags ++ (name ++ above)) members p q
    ∙ ap (λ (l : List ℕ). o ++ l) (append_assoc flags (name ++ above) members
    ∙ ap (λ (l : List ℕ). flags ++ l) (append_assoc name above members
    ∙ ap (λ (l : List ℕ). name ++ (above ++ l)) (sym all)))
