-- A class file is read exactly where it is one.
use Rattle.std.proofs.Common.{◌≡◌, ℕ, ◌+◌, ◌^◌, ◌<◌, Bool, true, cond, List, [], ◌∷◌, ◌++◌, length, Some, Result, Ok, Err, refl, sym, ap, subst, ◌∙◌, arith}
use Rattle.std.specs.Prelude.{◌==◌}
use Rattle.std.specs.Int.{w16, w32}
use Rattle.std.proofs.lemmas.Bool.{eqb-true, eq-eqb}
use Rattle.std.proofs.lemmas.List.{append-nil, drop_at}
use Rattle.jvm_pool.specs.declared.entries.Entry.{Entry}
use Rattle.jvm_pool.specs.Entries.{units}
use Rattle.jvm_pool.specs.Mentions.{count_mentions}
use Rattle.jvm_pieces.specs.Pieces.{mentions, pieces}
use Rattle.jvm_class_types.specs.Constants.{magic, minor_version, major_version}
use Rattle.jvm_class_types.specs.Seen.{Class}
use Rattle.jvm_class_formats.specs.Formats.{Spot, spot, here, ◌>>=◌, the, seq}
use Rattle.jvm_class_formats.specs.Lawful.{IsBytes, Lawful}
use Rattle.jvm_class_formats.proofs.Steps.{bind_ok, where_ok, done, done_is, some_is, bytes_behind, half, word}
use Rattle.jvm_class_formats.proofs.Parts.{lawful_number, lawful_seq}
use Rattle.jvm_pool_bytes.specs.Spelling.{pool, IsPool}
use Rattle.jvm_pool_bytes.specs.Reading.{pool_at}
use Rattle.jvm_pool_bytes.proofs.Ordered.{order_is_pool}
use Rattle.jvm_pool_bytes.proofs.PoolAgain.{pool_is_read}
use Rattle.jvm_pool_bytes.proofs.PoolFound.{pool_is_spelled}
use Rattle.jvm_class_grammar.specs.File.{head, head_bytes, IsClassFile, ended, behind_pool, read_of}
use Rattle.jvm_class_grammar.specs.Grammar.{class}
use Rattle.jvm_class_grammar.specs.Laws.{ClassIsLawful, FileIsRead, FileIsSpelled, OneClass, OneFile}
use Rattle.jvm_class_grammar.proofs.GrammarLaws.{lawful_class}

pub class_is_lawful : ClassIsLawful
class_is_lawful es is_pool = lawful_class es is_pool

-- ---- the head

lawful_head : Lawful [] head
lawful_head =
    lawful_seq [] (the w32 magic) (λ m. seq (the w16 minor_version) (λ minor. the w16 major_version))
    (lawful_number [] w32 (λ n. n == magic) word)
    (λ m _. lawful_seq [] (the w16 minor_version) (λ minor. the w16 major_version)
    (lawful_number [] w16 (λ n. n == minor_version) half) (λ minor _. lawful_number [] w16 (λ n. n == major_version) half))

head_again : (t : ℕ) (rest : List ℕ)
    → head.read (spot t 1 (head_bytes ++ rest)) ≡ Ok ((magic, (minor_version, major_version)), spot t 1 rest)
unfolding count_mentions
head_again t rest =
    lawful_head.only (magic, (minor_version, major_version)) t 1 1 rest
    ((omega arith, refl), ((omega arith, refl), (omega arith, refl))) refl

head_is : (x : ℕ × (ℕ × ℕ)) → head.allows x → x ≡ (magic, (minor_version, major_version))
head_is x h =
    ap (λ (n : ℕ). (n, x.1)) (eqb-true x.0 magic h.0.1)
    ∙ ap (λ (n : ℕ). (magic, (n, x.1.1))) (eqb-true x.1.0 minor_version h.1.0.1)
    ∙ ap (λ (n : ℕ). (magic, (minor_version, n))) (eqb-true x.1.1 major_version h.1.1.1)

-- ---- a class file is read

ended_again : (es : List Entry) (c : Class) (t : ℕ) → ended es (c, spot t (1 + units es) []) ≡ Ok (es, c)
ended_again es c t =
    ap (λ (b : Bool). cond b (done {A = List Entry × Class} (es, c)) (Err t)) (eq-eqb (1 + units es) (1 + units es) refl)

pub file_is_read : FileIsRead
unfolding read_of
file_is_read bytes es c f =
    let total = length bytes in
    let is_pool = order_is_pool es (mentions ((class es).spell c)) f.spells.order f.entries f.count in
    let body : f.behind ≡ pieces es ((class es).spell c) ++ [] =
    f.spells.bytes ∙ sym (append-nil (pieces es ((class es).spell c))) in
    let class_read = (lawful_class es f.count).only c (length bytes) 1 (1 + units es) [] f.class_is f.spells.order in
    ap (λ (l : List ℕ). head.read (spot (length bytes) 1 l) >>= λ h. pool_at h.1 >>= behind_pool) f.bytes_are
    ∙ ap (λ (r : Result ((ℕ × (ℕ × ℕ)) × Spot) ℕ). r >>= λ h. pool_at h.1 >>= behind_pool)
    (head_again (length bytes) (pool es ++ f.behind))
    ∙ ap (λ (r : Result (List Entry × Spot) ℕ). r >>= behind_pool) (pool_is_read es (length bytes) 1 f.behind is_pool)
    ∙ ap (λ (l : List ℕ). (class es).read (spot (length bytes) 1 l) >>= ended es) body
    ∙ ap (λ (r : Result (Class × Spot) ℕ). r >>= ended es) class_read
    ∙ ended_again es c (length bytes)

-- ---- what is read is a class file

no_bytes : (l : List ℕ) → (length l == 0) ≡ true → l ≡ []
no_bytes [] h = refl
no_bytes (b ∷ l) h = let e : length (b ∷ l) ≡ 0 = eqb-true (length (b ∷ l)) 0 h in absurd (omega (arith, e))

pub record Ended (es : List Entry) (x : Class × Spot) (y : List Entry × Class) : Type 0 where
  pub bytes : x.1.bytes ≡ []
  pub counter : x.1.counter ≡ 1 + units es
  pub is : (es, x.0) ≡ y

ended_ok : (es : List Entry) (x : Class × Spot) (y : List Entry × Class) → ended es x ≡ Ok y → Ended es x y
ended_ok es x y h =
    let g = where_ok (length x.1.bytes == 0) (here x.1)
    (cond (x.1.counter == 1 + units es) (done {A = List Entry × Class} (es, x.0)) (Err x.1.total)) y h in
    let k = where_ok (x.1.counter == 1 + units es) x.1.total (done {A = List Entry × Class} (es, x.0)) y g.1 in
    record {
      bytes = no_bytes x.1.bytes g.0;
      counter = eqb-true x.1.counter (1 + units es) k.0;
      is = done_is (es, x.0) y k.1;
    }

none_counted : (c d : ℕ) → count_mentions [] [] c ≡ Some d → c ≡ d
unfolding count_mentions
none_counted c d h = some_is c d h

pub file_is_spelled : FileIsSpelled
unfolding read_of
file_is_spelled bytes es c fits h =
    let s = spot (length bytes) 1 bytes in
    let a = bind_ok (head.read s) (λ h. pool_at h.1 >>= behind_pool) (es, c) h in
    let p = bind_ok (pool_at a.0.1) behind_pool (es, c) a.2 in
    let k = bind_ok ((class p.0.0).read p.0.1) (ended p.0.0) (es, c) p.2 in
    let e = ended_ok p.0.0 k.0 (es, c) k.2 in
    let t = lawful_head.found s a.0 fits a.1 in
    let u = pool_is_spelled a.0.1 p.0.0 p.0.1 t.1.rest_fits p.1 in
    let rest_fits : IsBytes p.0.1.bytes = rest_of a.0.1.bytes (pool p.0.0) p.0.1.bytes t.1.rest_fits u.1 in
    let v = (lawful_class p.0.0 (pool_count u.0)).found p.0.1 k.0 rest_fits k.1 in
    let started : 1 ≡ a.0.1.counter = none_counted 1 a.0.1.counter t.1.counted in
    let order : count_mentions p.0.0 (mentions ((class p.0.0).spell k.0.0)) 1 ≡ Some (1 + units p.0.0) =
    ap (count_mentions p.0.0 (mentions ((class p.0.0).spell k.0.0))) (started ∙ u.2) ∙ v.1.counted
    ∙ ap (λ (n : ℕ). Some n) e.counter in
    let behind : p.0.1.bytes ≡ pieces p.0.0 ((class p.0.0).spell k.0.0) =
    v.1.parts ∙ ap (λ (l : List ℕ). pieces p.0.0 ((class p.0.0).spell k.0.0) ++ l) e.bytes
    ∙ append-nil (pieces p.0.0 ((class p.0.0).spell k.0.0)) in
    let head_bytes_are : pieces [] (head.spell a.0.0) ≡ head_bytes =
    ap (λ (x : ℕ × (ℕ × ℕ)). pieces [] (head.spell x)) (head_is a.0.0 t.0) in
    let all : bytes ≡ head_bytes ++ (pool p.0.0 ++ p.0.1.bytes) =
    t.1.parts ∙ ap (λ (l : List ℕ). l ++ a.0.1.bytes) head_bytes_are ∙ ap (λ (l : List ℕ). head_bytes ++ l) u.1 in
    subst (λ (y : List Entry × Class). IsClassFile bytes y.0 y.1) e.is record {
      behind = p.0.1.bytes;
      entries = (u.0).entries;
      count = (u.0).count;
      class_is = v.0;
      spells = record { order = order; bytes = behind };
      bytes_are = all;
    }
  where
    pool_count : {l : List Entry} → IsPool l → 1 + units l < 2 ^ 16
    pool_count is = is.count

    rest_of : (l front rest : List ℕ) → IsBytes l → l ≡ front ++ rest → IsBytes rest
    rest_of l front rest fits is =
        subst IsBytes (drop_at front rest (length front) refl) (bytes_behind (length front) (front ++ rest) (subst IsBytes is fits))

-- ---- one file, one class

pub one_file : OneFile
one_file bytes other es c f g =
    f.bytes_are ∙ ap (λ (l : List ℕ). head_bytes ++ (pool es ++ l)) (f.spells.bytes ∙ sym g.spells.bytes) ∙ sym g.bytes_are

pub one_class : OneClass
one_class bytes es fs c d f g =
    let same : (es, c) ≡ (fs, d) =
    done_is (es, c) (fs, d) (sym (file_is_read bytes es c f) ∙ file_is_read bytes fs d g) in
    (ap (λ (x : List Entry × Class). x.0) same, ap (λ (x : List Entry × Class). x.1) same)
