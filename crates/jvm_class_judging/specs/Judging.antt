-- The grammar of a class file once more, as judgements: each part with what it makes of a tally.
use Rattle.std.specs.Prelude.{ℕ, ◌^◌, Bool, true, false, ◌&&◌, List, [], ◌∷◌, length, Option, None, Some, nat_lt, ◌==◌, codes}
use Rattle.std.specs.Int.{w16, w32}
use Rattle.jvm_code_instructions.specs.Table.{Row}
use Rattle.jvm_code.specs.Spelling.{spelling}
use Rattle.jvm_code.specs.Decoding.{IsLaid}
use Rattle.jvm_pool.specs.declared.entries.Entry.{Entry}
use Rattle.jvm_pool.specs.declared.entries.Entry.TheVariants as entry
use Rattle.jvm_pool.specs.Mentions.{then_count, count_mention}
use Rattle.jvm_pool_bytes.specs.Names.{is_name, is_field_descriptor, is_method_descriptor}
use Rattle.jvm_class_types.specs.declared.frames.FrameType.{FrameType}
use Rattle.jvm_class_types.specs.declared.frames.FrameType.TheVariants as type
use Rattle.jvm_class_types.specs.Seen.{Frame, Handler, Code, Field, Method, Class}
use Rattle.jvm_class_formats.specs.Formats.{any, named}
use Rattle.jvm_maps.specs.Frames.{Form, Same, SameOne, SameOneFar, Chop, SameFar, Append, Full, Before, form_of, step_of, is_later, after}
use Rattle.jvm_class_grammar.specs.Kinds.{Needed, needed, text_is}
use Rattle.jvm_class_grammar.specs.Grammar.{at_start, class_parts, code_inside, code_parts, field_parts, handler_parts, is_abstract, is_code_length, is_some_count, method_parts, none_inside}
use Rattle.jvm_class_tally.specs.declared.tally.Tally.{Tally}
use Rattle.jvm_class_tally.specs.Tallies.{on, when, took, moved, judge_number, judge_mention, judge_optional, judge_seq, judge_in, judge_one, judge_each, judge_counted, judge_sized}

abbrev pub judge_two : ℕ → Tally → Option Tally
judge_two = judge_number w16 any

abbrev pub judge_this : ℕ → ℕ → Tally → Option Tally
judge_this k = judge_number w16 (λ n. n == k)

-- each combination of flags that a value has is one of the format
abbrev pub judge_flags : {A : Type 0} → A → Tally → Option Tally
judge_flags flags t = took 2 t

-- ---- what is known of code beforehand

abbrev pub LaidCode : Code → Type 0
LaidCode c = IsLaid c.instructions

abbrev pub LaidOption : Option Code → Type 0
LaidOption None = Unit {0}
LaidOption (Some c) = LaidCode c

abbrev pub LaidMethod : Method → Type 0
LaidMethod m = LaidOption m.code

module _ (es : List Entry) where
  -- ---- names and descriptors

  abbrev pub judge_name : List ℕ → Tally → Option Tally
  judge_name = judge_mention es entry.Utf8 is_name

  abbrev pub judge_field_descriptor : List ℕ → Tally → Option Tally
  judge_field_descriptor = judge_mention es entry.Utf8 is_field_descriptor

  abbrev pub judge_method_descriptor : List ℕ → Tally → Option Tally
  judge_method_descriptor = judge_mention es entry.Utf8 is_method_descriptor

  abbrev pub judge_class_name : List ℕ → Tally → Option Tally
  judge_class_name = judge_mention es entry.Class (λ name. true)

  abbrev pub judge_attribute : {A : Type 0} → List ℕ → (A → Tally → Option Tally) → A → Tally → Option Tally
  judge_attribute name f a t = on (judge_mention es entry.Utf8 (text_is name) name t) (judge_sized f a)

  -- ---- fields

  abbrev pub judge_field : Field → Tally → Option Tally
  judge_field f =
      judge_seq judge_flags (λ flags. judge_seq judge_name (λ name. judge_seq judge_field_descriptor (λ d. judge_this 0)))
      (field_parts es f)

  -- ---- frames

  abbrev pub judge_type : FrameType → Tally → Option Tally
  judge_type (type.Object name) t = on (took 1 t) (judge_class_name name)
  judge_type (type.Uninitialized at) t = on (took 1 t) (judge_two at)
  judge_type _ t = took 1 t

  abbrev pub judge_types : List FrameType → Tally → Option Tally
  judge_types = judge_each judge_type

  abbrev pub judge_form : Form → Tally → Option Tally
  judge_form (Same d) t = took 1 t
  judge_form (SameOne d one) t = on (took 1 t) (judge_type one)
  judge_form (SameOneFar d one) t = on (took 1 t) (λ u. on (judge_two d u) (judge_type one))
  judge_form (Chop k d) t = on (took 1 t) (judge_two d)
  judge_form (SameFar d) t = on (took 1 t) (judge_two d)
  judge_form (Append k d more) t = on (took 1 t) (λ u. on (judge_two d u) (judge_types more))
  judge_form (Full d locals stack) t =
      on (took 1 t) (λ u. on (judge_two d u) (λ v. on (judge_counted judge_type locals v) (judge_counted judge_type stack)))

  abbrev pub judge_frame : Before → Frame → Tally → Option Tally
  judge_frame b f t =
      when (is_later b.offset f.offset && nat_lt f.offset (2 ^ 32)) (judge_form (form_of b.locals (step_of b f)) t)

  abbrev pub judge_frames : Before → List Frame → Tally → Option Tally
  judge_frames b [] t = Some t
  judge_frames b (f ∷ fs) t = on (judge_frame b f t) (judge_frames (after f) fs)

  abbrev pub judge_counted_frames : Before → List Frame → Tally → Option Tally
  judge_counted_frames start fs t = on (judge_number w16 (is_some_count es) (length fs) t) (judge_frames start fs)

  abbrev pub judge_code_attributes : Before → List Frame → Tally → Option Tally
  judge_code_attributes start [] t = took 2 t
  judge_code_attributes start (f ∷ fs) t =
      on (took 2 t) (judge_attribute (codes "StackMapTable") (judge_counted_frames start) (f ∷ fs))

  -- ---- code

  abbrev pub judge_handler : Handler → Tally → Option Tally
  judge_handler h =
      judge_seq judge_two (λ start. judge_seq judge_two (λ end. judge_seq judge_two
      (λ handler. judge_optional es entry.Class (λ name. true)))) (handler_parts es h)

  abbrev pub judge_found : (Entry → Bool) → Option Entry → ℕ → Option ℕ
  judge_found keeps None c = None
  judge_found keeps (Some e) c = when (keeps e) (count_mention es e c)

  abbrev pub judge_needed : Option Needed → ℕ → Option ℕ
  judge_needed None c = Some c
  judge_needed (Some n) c = judge_found n.1 (named es n.0) c

  abbrev pub judge_row : ℕ × Row → ℕ → Option ℕ
  judge_row i c = judge_needed (needed i.1.opcode i.1.operands) c

  abbrev pub judge_rows : List (ℕ × Row) → ℕ → Option ℕ
  judge_rows [] c = Some c
  judge_rows (i ∷ is) c = then_count (judge_row i c) (judge_rows is)

  -- instructions that are laid, whose bytes are so many
  abbrev pub judge_code : ℕ → List (ℕ × Row) → Tally → Option Tally
  judge_code n is t =
      when (length (spelling is) == n) (on (took (length (spelling is)) t) (λ u. moved u (judge_rows is u.counter)))

  abbrev pub judge_code_body : Before → Code → Tally → Option Tally
  judge_code_body start c =
      judge_seq judge_two (λ stack. judge_seq judge_two (λ locals. judge_seq (judge_number w32 (is_code_length es))
      (λ n. judge_seq (judge_code n) (λ is. judge_seq (judge_counted judge_handler)
      (λ handlers. judge_code_attributes start))))) (code_parts es c)

  -- ---- methods

  abbrev pub judge_no_code : Option Code → Tally → Option Tally
  judge_no_code code = judge_in (judge_this 0) (none_inside es code)

  abbrev pub judge_some_code : Before → Option Code → Tally → Option Tally
  judge_some_code start code =
      judge_in (judge_seq (judge_this 1) (λ n. judge_attribute (codes "Code") (judge_code_body start))) (code_inside es code)

  abbrev pub judge_method : List ℕ → Method → Tally → Option Tally
  judge_method class m =
      judge_seq judge_flags (λ flags. judge_seq judge_name (λ name. judge_seq judge_method_descriptor
      (λ descriptor. judge_one (is_abstract es flags) judge_no_code
      (judge_some_code (at_start class flags name descriptor))))) (method_parts es m)

  -- ---- the class

  abbrev pub judge_class : Class → Tally → Option Tally
  judge_class c =
      judge_seq judge_flags (λ flags. judge_seq judge_class_name (λ name. judge_seq judge_class_name
      (λ above. judge_seq (judge_counted judge_class_name) (λ interfaces. judge_seq (judge_counted judge_field)
      (λ fields. judge_seq (judge_counted (judge_method name)) (λ methods. judge_this 0)))))) (class_parts es c)
