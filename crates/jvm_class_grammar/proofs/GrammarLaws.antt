-- What each part behind the pool reads, it spells, and what it spells, it reads.
use Rattle.std.proofs.Common.{◌≡◌, ℕ, zero, suc, ◌*◌, ◌^◌, ◌<◌, Bool, true, false, cond, eqb, List, [], ◌∷◌, ◌++◌, length, Option, Some, None, Result, Ok, refl, sym, ap, subst, ◌∙◌, arith, true≢false}
use Rattle.std.specs.Prelude.{◌==◌, codes, find}
use Rattle.std.specs.Int.{Width, w16, w32, byte_len, to_be_bytes}
use Rattle.std.specs.Cmp.Lexicographic.{bytes_decides}
use Rattle.std.proofs.lemmas.Bool.{eqb-true, ltb-true}
use Rattle.std.proofs.lemmas.List.{append-nil}
use Rattle.jvm_pool.specs.declared.entries.Entry.{Entry}
use Rattle.jvm_pool.specs.declared.entries.Entry.TheVariants as entry
use Rattle.jvm_pool.specs.Mentions.{count_mentions}
use Rattle.jvm_class_types.specs.declared.flags.ClassFlags.{ClassFlags}
use Rattle.jvm_class_types.specs.declared.flags.ClassFlags.TheVariants as class_flag
use Rattle.jvm_class_types.specs.declared.flags.FieldFlags.{FieldFlags}
use Rattle.jvm_class_types.specs.declared.flags.FieldFlags.TheVariants as field_flag
use Rattle.jvm_class_types.specs.declared.flags.MethodFlags.{MethodFlags}
use Rattle.jvm_class_types.specs.declared.flags.MethodFlags.TheVariants as method_flag
use Rattle.jvm_class_types.specs.Flags.{class_flags, class_flags_of, field_flags, field_flags_of, method_flags, method_flags_of}
use Rattle.jvm_class_types.specs.Seen.{Frame, Code, Field}
use Rattle.jvm_class_formats.specs.Formats.{Spot, spot, here, Format, ◌>>=◌, any, number_at, number, u2, the, optional, seq, choose, counted, sized}
use Rattle.jvm_class_formats.specs.Lawful.{Takes, Lawful, IsPool, Says}
use Rattle.jvm_class_formats.proofs.Steps.{bind_ok, done, done_is, some_is, HasWidth, half, word}
use Rattle.jvm_class_formats.proofs.Parts.{number_takes, number_again, lawful_number, lawful_mention, lawful_optional, lawful_seq, lawful_as, lawful_variant, lawful_choose, lawful_counted, lawful_sized}
use Rattle.jvm_maps.specs.Types.{class_inside, class_name}
use Rattle.jvm_maps.specs.Frames.{Before, frames, nothing}
use Rattle.jvm_maps.proofs.TypeLaws.{class_says, lawful_class_name}
use Rattle.jvm_maps.proofs.FormLaws.{lawful_nothing}
use Rattle.jvm_maps.proofs.FrameLaws.{frames_are_lawful}
use Rattle.jvm_class_grammar.specs.Coded.{coded_as, coded}
use Rattle.jvm_class_grammar.specs.Instructions.{code}
use Rattle.jvm_class_grammar.specs.Kinds.{if_so, text_is, name_inside, field_descriptor_inside, method_descriptor_inside, this_text}
use Rattle.jvm_class_grammar.specs.Grammar.{at_start, named, field_descriptor, method_descriptor, attribute_name, attribute, field_of, field_parts, field, handler_of, handler_parts, handler, is_some_count, counted_frames, no_frames_inside, no_frames, table_count, is_table_count, code_attributes, is_code_length, code_of, code_parts, code_body, none_inside, no_code, code_inside, some_code, is_abstract, method_of, method_parts, method, class_of, class_parts, class}
use Rattle.jvm_class_grammar.proofs.CodeLaws.{lawful_code}

-- ---- texts

if_so_is : (b : Bool) (t a : List ℕ) → if_so b t ≡ Some a → (b ≡ true) × (t ≡ a)
if_so_is true t a h = (refl, cc)
if_so_is false t a h = absurd cc

name_says : Says entry.Utf8 name_inside
name_says (entry.Utf8 t) a h = ap entry.Utf8 (sym (if_so_is _ t a h).1)
name_says (entry.Int n) a h = absurd cc
name_says (entry.Long n) a h = absurd cc
name_says (entry.Class n) a h = absurd cc
name_says (entry.Text u) a h = absurd cc
name_says (entry.Field c n d) a h = absurd cc
name_says (entry.Method c n d) a h = absurd cc
name_says (entry.InterfaceMethod c n d) a h = absurd cc
name_says (entry.NameAndType n d) a h = absurd cc

field_descriptor_says : Says entry.Utf8 field_descriptor_inside
field_descriptor_says (entry.Utf8 t) a h = ap entry.Utf8 (sym (if_so_is _ t a h).1)
field_descriptor_says (entry.Int n) a h = absurd cc
field_descriptor_says (entry.Long n) a h = absurd cc
field_descriptor_says (entry.Class n) a h = absurd cc
field_descriptor_says (entry.Text u) a h = absurd cc
field_descriptor_says (entry.Field c n d) a h = absurd cc
field_descriptor_says (entry.Method c n d) a h = absurd cc
field_descriptor_says (entry.InterfaceMethod c n d) a h = absurd cc
field_descriptor_says (entry.NameAndType n d) a h = absurd cc

method_descriptor_says : Says entry.Utf8 method_descriptor_inside
method_descriptor_says (entry.Utf8 t) a h = ap entry.Utf8 (sym (if_so_is _ t a h).1)
method_descriptor_says (entry.Int n) a h = absurd cc
method_descriptor_says (entry.Long n) a h = absurd cc
method_descriptor_says (entry.Class n) a h = absurd cc
method_descriptor_says (entry.Text u) a h = absurd cc
method_descriptor_says (entry.Field c n d) a h = absurd cc
method_descriptor_says (entry.Method c n d) a h = absurd cc
method_descriptor_says (entry.InterfaceMethod c n d) a h = absurd cc
method_descriptor_says (entry.NameAndType n d) a h = absurd cc

this_text_says : (wanted : List ℕ) → Says entry.Utf8 (this_text wanted)
this_text_says wanted (entry.Utf8 t) a h = ap entry.Utf8 (sym (if_so_is (text_is wanted t) t a h).1)
this_text_says wanted (entry.Int n) a h = absurd cc
this_text_says wanted (entry.Long n) a h = absurd cc
this_text_says wanted (entry.Class n) a h = absurd cc
this_text_says wanted (entry.Text u) a h = absurd cc
this_text_says wanted (entry.Field c n d) a h = absurd cc
this_text_says wanted (entry.Method c n d) a h = absurd cc
this_text_says wanted (entry.InterfaceMethod c n d) a h = absurd cc
this_text_says wanted (entry.NameAndType n d) a h = absurd cc

this_text_is : (wanted text : List ℕ) → this_text wanted (entry.Utf8 text) ≡ Some text → text ≡ wanted
this_text_is wanted text h = (bytes_decides text wanted).0 (if_so_is (text_is wanted text) text text h).0

zero_is : (n : ℕ) → (n == 0) ≡ true → 0 ≡ n
zero_is n h = sym (eqb-true n 0 h)

-- ---- flags

find_keeps : {A : Type 0} (p : A → Bool) (xs : List A) (x : A) → find p xs ≡ Some x → p x ≡ true
find_keeps p [] x h = absurd cc
find_keeps {A} p (y ∷ ys) x h = by (p y) refl h (λ r. find_keeps p ys x r)
  where
    by : (b : Bool) → p y ≡ b → cond b (Some y) (find p ys) ≡ Some x → (find p ys ≡ Some x → p x ≡ true) → p x ≡ true
    by true is h later = let e : y ≡ x = cc in ap p (sym e) ∙ is
    by false is h later = later h

class_flags_back : (n : ℕ) (f : ClassFlags) → class_flags_of n ≡ Some f → class_flags f ≡ n
class_flags_back n f h =
    sym (eqb-true n (class_flags f) (find_keeps (λ f. n == class_flags f)
    (class_flag.Open ∷ class_flag.Final ∷ class_flag.Abstract ∷ class_flag.Interface ∷ []) f h))

field_flags_back : (n : ℕ) (f : FieldFlags) → field_flags_of n ≡ Some f → field_flags f ≡ n
field_flags_back n f h =
    sym (eqb-true n (field_flags f) (find_keeps (λ f. n == field_flags f) (field_flag.Variable ∷ field_flag.Final ∷ []) f h))

method_flags_back : (n : ℕ) (f : MethodFlags) → method_flags_of n ≡ Some f → method_flags f ≡ n
method_flags_back n f h =
    sym (eqb-true n (method_flags f) (find_keeps (λ f. n == method_flags f)
    (method_flag.Instance ∷ method_flag.Static ∷ method_flag.Abstract ∷ []) f h))

coded_ok : {A : Type 0} (at : ℕ) (rest : Spot) (o : Option A) (x : A × Spot) → coded_as at rest o ≡ Ok x
    → (o ≡ Some x.0) × (rest ≡ x.1)
coded_ok at rest None x h = absurd cc
coded_ok {A} at rest (Some a) x h =
    let e = done_is (a, rest) x h in (ap (λ (y : A × Spot). Some y.0) e, ap (λ (y : A × Spot). y.1) e)

module _ (es : List Entry) where
  lawful_coded : {A : Type 0} (w : Width) → HasWidth w → (number_of : A → ℕ) (of_number : ℕ → Option A)
      → ((n : ℕ) (a : A) → of_number n ≡ Some a → number_of a ≡ n) → Lawful es (coded w number_of of_number)
  unfolding count_mentions
  lawful_coded {A} w wide number_of of_number back = record {
    found = λ s x fits h.
        let n = bind_ok (number_at w any s) (λ n. coded_as (here s) n.1 (of_number n.0)) x h in
        let t = number_takes w wide any s n.0 fits n.1 in
        let c = coded_ok (here s) n.0.1 (of_number n.0.0) x n.2 in
        let is : number_of x.0 ≡ n.0.0 = back n.0.0 x.0 c.0 in (
          (subst (λ (k : ℕ). k < 2 ^ (8 * byte_len w)) (sym is) t.below, ap of_number is ∙ c.0),
          subst (λ (y : Spot). Takes es s ((coded w number_of of_number).spell x.0) y) c.1 record {
            parts = t.bytes ∙ ap (λ (k : ℕ). to_be_bytes w k ++ n.0.1.bytes) (sym is)
                ∙ ap (λ (l : List ℕ). l ++ n.0.1.bytes) (sym (append-nil (to_be_bytes w (number_of x.0))));
            counted = ap (λ (k : ℕ). Some k) t.counter;
            total = t.total;
            rest_fits = t.rest_fits;
          },
        );
    only = λ a t b c bytes allowed count.
        let start = here (spot t b ((to_be_bytes w (number_of a) ++ []) ++ bytes)) in
        ap (λ (l : List ℕ). number_at w any (spot t b (l ++ bytes)) >>= λ n. coded_as start n.1 (of_number n.0))
        (append-nil (to_be_bytes w (number_of a)))
        ∙ ap (λ (r : Result (ℕ × Spot) ℕ). r >>= λ n. coded_as start n.1 (of_number n.0))
        (number_again w wide any (number_of a) t b bytes allowed.0 refl)
        ∙ ap (coded_as start (spot t b bytes)) allowed.1
        ∙ ap (λ (k : ℕ). done {A = A × Spot} (a, spot t k bytes)) (some_is b c count);
  }

  lawful_two : Lawful es u2
  lawful_two = lawful_number es w16 any half

  lawful_zero : Lawful es (the w16 0)
  lawful_zero = lawful_number es w16 (λ n. n == 0) half

  module _ (pool : IsPool es) where
    lawful_named : Lawful es (named es)
    lawful_named = lawful_mention es entry.Utf8 name_inside name_says pool

    lawful_attribute : {A : Type 0} (name : List ℕ) (f : Format A) → Lawful es f → Lawful es (attribute es name f)
    lawful_attribute {A} name f lf =
        lawful_as es (λ (x : List ℕ × A). x.1) (λ (a : A). (name, a)) (seq (attribute_name es name) (λ n. sized f)) (λ a. refl)
        (λ x allowed.
        ap (λ (n : List ℕ). (n, x.1)) (sym (this_text_is name x.0 allowed.0)))
        (lawful_seq es (attribute_name es name) (λ n. sized f)
        (lawful_mention es entry.Utf8 (this_text name) (this_text_says name) pool) (λ n _. lawful_sized es f lf))

    lawful_field : Lawful es (field es)
    lawful_field =
        lawful_as es field_of_it field_parts_it
        (seq (coded w16 field_flags field_flags_of) (λ flags. seq (named es) (λ name. seq (field_descriptor es) (λ d. the w16 0))))
        (λ f. refl)
        (λ x allowed.
        ap (λ (n : ℕ). (x.0, (x.1.0, (x.1.1.0, n)))) (zero_is x.1.1.1 allowed.1.1.1.1))
        (lawful_seq es (coded w16 field_flags field_flags_of)
        (λ flags. seq (named es) (λ name. seq (field_descriptor es) (λ d. the w16 0)))
        (lawful_coded w16 half field_flags field_flags_of field_flags_back)
        (λ flags _. lawful_seq es (named es) (λ name. seq (field_descriptor es) (λ d. the w16 0)) lawful_named
        (λ name _. lawful_seq es (field_descriptor es) (λ d. the w16 0)
        (lawful_mention es entry.Utf8 field_descriptor_inside field_descriptor_says pool) (λ d _. lawful_zero))))
      where
        field_of_it : FieldFlags × (List ℕ × (List ℕ × ℕ)) → Field
        field_of_it p = field_of es p

        field_parts_it : Field → FieldFlags × (List ℕ × (List ℕ × ℕ))
        field_parts_it f = field_parts es f

    lawful_handler : Lawful es (handler es)
    lawful_handler =
        lawful_as es (handler_of es) (handler_parts es)
        (seq u2 (λ start. seq u2 (λ end. seq u2 (λ handler. optional es entry.Class class_inside)))) (λ h. refl)
        (λ x allowed. refl)
        (lawful_seq es u2 (λ start. seq u2 (λ end. seq u2 (λ handler. optional es entry.Class class_inside))) lawful_two
        (λ start _. lawful_seq es u2 (λ end. seq u2 (λ handler. optional es entry.Class class_inside)) lawful_two
        (λ end _. lawful_seq es u2 (λ handler. optional es entry.Class class_inside) lawful_two
        (λ handler _. lawful_optional es entry.Class class_inside class_says pool))))

    lawful_counted_frames : (start : Before) → Lawful es (counted_frames es start)
    lawful_counted_frames start =
        lawful_as es (λ (x : ℕ × List Frame). x.1) (λ (fs : List Frame). (length fs, fs))
        (seq (number w16 (is_some_count es)) (λ n. frames es start n)) (λ fs. refl)
        (λ x allowed.
        ap (λ (n : ℕ). (n, x.1)) allowed.1.0)
        (lawful_seq es (number w16 (is_some_count es)) (λ n. frames es start n) (lawful_number es w16 (is_some_count es) half)
        (λ n _. frames_are_lawful es start n pool))

    no_frames_back : (u : Unit {0}) (fs : List Frame) → no_frames_inside es fs ≡ Some u → [] ≡ fs
    no_frames_back u [] h = refl
    no_frames_back u (f ∷ fs) h = absurd cc

    table_is : (n : ℕ) (fs : List Frame) (start : Before) → is_table_count es n ≡ true → (b : Bool) → eqb n 0 ≡ b
        → (choose b (no_frames es) (attribute es (codes "StackMapTable") (counted_frames es start))).allows fs
        → table_count es fs ≡ n
    table_is n [] start small true is h = zero_is n is
    table_is n (f ∷ fs) start small true is h = absurd h
    table_is n [] start small false is h = let none : 0 < 0 = ltb-true 0 0 h.1.0.0.1 in absurd (omega (arith, none))
    table_is n (f ∷ fs) start small false is h =
        let below : n < 2 = ltb-true n 2 small in
        one n below is
      where
        one : (n : ℕ) → n < 2 → eqb n 0 ≡ false → 1 ≡ n
        one zero below is = absurd (true≢false is)
        one (suc zero) below is = refl
        one (suc (suc n)) below is = absurd (omega (arith, below))

    lawful_code_attributes : (start : Before) → Lawful es (code_attributes es start)
    lawful_code_attributes start =
        lawful_as es (λ (x : ℕ × List Frame). x.1) (λ (fs : List Frame). (table_count es fs, fs))
        (seq (number w16 (is_table_count es))
        (λ n. choose (n == 0) (no_frames es) (attribute es (codes "StackMapTable") (counted_frames es start)))) (λ fs. refl)
        (λ x allowed.
        ap (λ (n : ℕ). (n, x.1)) (table_is x.0 x.1 start allowed.0.1 (eqb x.0 0) refl allowed.1))
        (lawful_seq es (number w16 (is_table_count es))
        (λ n. choose (n == 0) (no_frames es) (attribute es (codes "StackMapTable") (counted_frames es start)))
        (lawful_number es w16 (is_table_count es) half)
        (λ n _. lawful_choose es (n == 0) (no_frames es) (attribute es (codes "StackMapTable") (counted_frames es start))
        (lawful_variant es (λ (u : Unit {0}). []) (no_frames_inside es) nothing (λ u _. refl) no_frames_back (lawful_nothing es))
        (lawful_attribute (codes "StackMapTable") (counted_frames es start) (lawful_counted_frames start))))

    lawful_code_body : (start : Before) → Lawful es (code_body es start)
    lawful_code_body start =
        let attributes = code_attributes es start in
        lawful_as es (code_of es) (code_parts es)
        (seq u2 (λ stack. seq u2 (λ locals. seq (number w32 (is_code_length es))
        (λ n. seq (code es n) (λ is. seq (counted (handler es)) (λ handlers. code_attributes es start)))))) (λ c. refl)
        (λ x allowed.
        ap (λ (n : ℕ). (x.0, (x.1.0, (n, x.1.1.1)))) allowed.1.1.1.0.0)
        (lawful_seq es u2 (λ stack. seq u2 (λ locals. seq (number w32 (is_code_length es))
        (λ n. seq (code es n) (λ is. seq (counted (handler es)) (λ handlers. code_attributes es start))))) lawful_two
        (λ stack _. lawful_seq es u2 (λ locals. seq (number w32 (is_code_length es))
        (λ n. seq (code es n) (λ is. seq (counted (handler es)) (λ handlers. code_attributes es start)))) lawful_two
        (λ locals _. lawful_seq es (number w32 (is_code_length es))
        (λ n. seq (code es n) (λ is. seq (counted (handler es)) (λ handlers. code_attributes es start)))
        (lawful_number es w32 (is_code_length es) word)
        (λ n small. lawful_seq es (code es n) (λ is. seq (counted (handler es)) (λ handlers. code_attributes es start))
        (lawful_code es n small.0)
        (λ is _. lawful_seq es (counted (handler es)) (λ handlers. code_attributes es start)
        (lawful_counted es (handler es) lawful_handler) (λ handlers _. lawful_code_attributes start))))))

    none_into : (n : ℕ) → (the w16 0).allows n → none_inside es None ≡ Some n
    none_into n allowed = ap (λ (k : ℕ). Some k) (zero_is n allowed.1)

    none_back : (n : ℕ) (o : Option Code) → none_inside es o ≡ Some n → None ≡ o
    none_back n None h = refl
    none_back n (Some c) h = absurd cc

    code_back : (x : ℕ × Code) (o : Option Code) → code_inside es o ≡ Some x → Some x.1 ≡ o
    code_back x None h = absurd cc
    code_back x (Some c) h = let e : (1, c) ≡ x = cc in ap (λ (y : ℕ × Code). Some y.1) (sym e)

    lawful_some_code : (start : Before) → Lawful es (some_code es start)
    lawful_some_code start =
        lawful_variant es (λ (x : ℕ × Code). Some x.1) (code_inside es)
        (seq (the w16 1) (λ n. attribute es (codes "Code") (code_body es start)))
        (λ x allowed.
        ap (λ (n : ℕ). Some (n, x.1)) (sym (eqb-true x.0 1 allowed.0.1))) code_back
        (lawful_seq es (the w16 1) (λ n. attribute es (codes "Code") (code_body es start))
        (lawful_number es w16 (λ n. n == 1) half)
        (λ n _. lawful_attribute (codes "Code") (code_body es start) (lawful_code_body start)))

    lawful_method : (class : List ℕ) → Lawful es (method es class)
    lawful_method class =
        lawful_as es (method_of es) (method_parts es)
        (seq (coded w16 method_flags method_flags_of) (λ flags. seq (named es) (λ name. seq (method_descriptor es)
        (λ descriptor. choose (is_abstract es flags) (no_code es) (some_code es (at_start class flags name descriptor))))))
        (λ m. refl) (λ x allowed. refl)
        (lawful_seq es (coded w16 method_flags method_flags_of) (λ flags. seq (named es) (λ name. seq (method_descriptor es)
        (λ descriptor. choose (is_abstract es flags) (no_code es) (some_code es (at_start class flags name descriptor)))))
        (lawful_coded w16 half method_flags method_flags_of method_flags_back)
        (λ flags _. lawful_seq es (named es) (λ name. seq (method_descriptor es)
        (λ descriptor. choose (is_abstract es flags) (no_code es) (some_code es (at_start class flags name descriptor)))) lawful_named
        (λ name _. lawful_seq es (method_descriptor es)
        (λ descriptor. choose (is_abstract es flags) (no_code es) (some_code es (at_start class flags name descriptor)))
        (lawful_mention es entry.Utf8 method_descriptor_inside method_descriptor_says pool)
        (λ descriptor _. lawful_choose es (is_abstract es flags) (no_code es) (some_code es (at_start class flags name descriptor))
        (lawful_variant es (λ (n : ℕ). None) (none_inside es) (the w16 0) none_into none_back lawful_zero)
        (lawful_some_code (at_start class flags name descriptor))))))

    pub lawful_class : Lawful es (class es)
    lawful_class =
        lawful_as es (class_of es) (class_parts es)
        (seq (coded w16 class_flags class_flags_of) (λ flags. seq (class_name es) (λ name. seq (class_name es)
        (λ above. seq (counted (class_name es)) (λ interfaces. seq (counted (field es)) (λ fields. seq (counted (method es name))
        (λ methods. the w16 0))))))) (λ c. refl)
        (λ x allowed.
        ap (λ (n : ℕ). (x.0, (x.1.0, (x.1.1.0, (x.1.1.1.0, (x.1.1.1.1.0, (x.1.1.1.1.1.0, n)))))))
        (zero_is x.1.1.1.1.1.1 allowed.1.1.1.1.1.1.1))
        (lawful_seq es (coded w16 class_flags class_flags_of) (λ flags. seq (class_name es) (λ name. seq (class_name es)
        (λ above. seq (counted (class_name es)) (λ interfaces. seq (counted (field es)) (λ fields. seq (counted (method es name))
        (λ methods. the w16 0)))))) (lawful_coded w16 half class_flags class_flags_of class_flags_back)
        (λ flags _. lawful_seq es (class_name es) (λ name. seq (class_name es)
        (λ above. seq (counted (class_name es)) (λ interfaces. seq (counted (field es)) (λ fields. seq (counted (method es name))
        (λ methods. the w16 0))))) (lawful_class_name es pool)
        (λ name _. lawful_seq es (class_name es)
        (λ above. seq (counted (class_name es)) (λ interfaces. seq (counted (field es)) (λ fields. seq (counted (method es name))
        (λ methods. the w16 0)))) (lawful_class_name es pool)
        (λ above _. lawful_seq es (counted (class_name es)) (λ interfaces. seq (counted (field es))
        (λ fields. seq (counted (method es name)) (λ methods. the w16 0)))
        (lawful_counted es (class_name es) (lawful_class_name es pool))
        (λ interfaces _. lawful_seq es (counted (field es)) (λ fields. seq (counted (method es name)) (λ methods. the w16 0))
        (lawful_counted es (field es) lawful_field)
        (λ fields _. lawful_seq es (counted (method es name)) (λ methods. the w16 0)
        (lawful_counted es (method es name) (lawful_method name)) (λ methods _. lawful_zero)))))))
