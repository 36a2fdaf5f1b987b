-- A form of a frame that is read is spelled so, and what is spelled is read.
use Rattle.std.proofs.Common.{◌≡◌, ℕ, ◌+◌, ◌-◌, ◌<◌, ◌≤◌, Bool, true, false, ◌&&◌, cond, eqb, List, [], ◌∷◌, ◌++◌, length, take, drop, Option, Some, None, refl, sym, ap, subst, ◌∙◌, arith, true≢false}
use Rattle.std.specs.Prelude.{◌==◌, nat_lt, nat_le, find, if◌then◌else◌}
use Rattle.std.specs.Int.{w8, w16}
use Rattle.std.proofs.lemmas.Bool.{and_parts, eqb-true, eq-eqb, ltb-true, ltb-false}
use Rattle.std.proofs.lemmas.List.{take-append-drop}
use Rattle.jvm_pool.specs.declared.entries.Entry.{Entry}
use Rattle.jvm_pool.specs.Mentions.{count_mentions}
use Rattle.jvm_class_types.specs.declared.frames.FrameType.{FrameType}
use Rattle.jvm_class_formats.specs.Formats.{Spot, spot, Format, any, number, u2, seq, allowed_in, times, counted}
use Rattle.jvm_class_formats.specs.Lawful.{Takes, Lawful, IsPool}
use Rattle.jvm_class_formats.proofs.Steps.{done, done_is, some_is, byte, half, takes_nothing}
use Rattle.jvm_class_formats.proofs.Parts.{lawful_number, lawful_seq, lawful_as, lawful_variant, lawful_times, lawful_counted}
use Rattle.jvm_maps.specs.Types.{same_types, frame_type}
use Rattle.jvm_maps.specs.Frames.{step, Form, Same, SameOne, SameOneFar, Chop, SameFar, Append, Full, meaning, lacks, has_more, one_to_three, appended, chopped, form_with, Kind, IsSame, IsSameOne, IsSameOneFar, IsChop, IsSameFar, IsAppend, IsFull, kind_of, kind_tag, tagged, is_frame_tag, same_inside, same_one_inside, same_one_far_inside, chop_inside, same_far_inside, append_inside, full_inside, nothing, behind_kind, behind, form, same_form}
use Rattle.jvm_maps.specs.Laws.{FormMeans}
use Rattle.jvm_maps.proofs.TypeLaws.{same_types_are, same_types_self, lawful_type}

-- ---- tags

some_kind : (j k : Kind) → Some j ≡ Some k → j ≡ k
some_kind j k e = cc

kind_is : (t : ℕ) (k : Kind) → tagged t ≡ Some k → kind_tag k ≡ t
unfolding tagged
kind_is t k h = one (nat_lt t 64) refl h
  where
    eight : (b : Bool) → nat_lt t 256 ≡ b → nat_lt t 255 ≡ false → cond b (Some IsFull) None ≡ Some k → kind_tag k ≡ t
    eight true is low h =
        let e = some_kind IsFull k h in
        let below : t < 256 = ltb-true t 256 is in
        let above : 255 ≤ t = ltb-false t 255 low in
        sym (ap kind_tag e) ∙ omega (arith, below, above)
    eight false is low h = absurd cc

    seven : (b : Bool) → nat_lt t 255 ≡ b → nat_lt t 252 ≡ false
        → cond b (Some (IsAppend (t - 251))) (if nat_lt t 256 then Some IsFull else None) ≡ Some k → kind_tag k ≡ t
    seven true is low h =
        let e = some_kind (IsAppend (t - 251)) k h in
        let above : 252 ≤ t = ltb-false t 252 low in
        sym (ap kind_tag e) ∙ omega (arith, above)
    seven false is low h = eight (nat_lt t 256) refl is h

    six : (b : Bool) → nat_lt t 252 ≡ b → nat_lt t 251 ≡ false
        → cond b (Some IsSameFar) (if nat_lt t 255 then Some (IsAppend (t - 251)) else
        if nat_lt t 256 then Some IsFull else None) ≡ Some k → kind_tag k ≡ t
    six true is low h =
        let e = some_kind IsSameFar k h in
        let below : t < 252 = ltb-true t 252 is in
        let above : 251 ≤ t = ltb-false t 251 low in
        sym (ap kind_tag e) ∙ omega (arith, below, above)
    six false is low h = seven (nat_lt t 255) refl is h

    five : (b : Bool) → nat_lt t 251 ≡ b → nat_lt t 248 ≡ false
        → cond b (Some (IsChop (251 - t))) (if nat_lt t 252 then Some IsSameFar else
        if nat_lt t 255 then Some (IsAppend (t - 251)) else if nat_lt t 256 then Some IsFull else None) ≡ Some k
        → kind_tag k ≡ t
    five true is low h =
        let e = some_kind (IsChop (251 - t)) k h in
        let below : t < 251 = ltb-true t 251 is in
        sym (ap kind_tag e) ∙ omega (arith, below)
    five false is low h = six (nat_lt t 252) refl is h

    four : (b : Bool) → nat_lt t 248 ≡ b → nat_lt t 247 ≡ false
        → cond b (Some IsSameOneFar) (if nat_lt t 251 then Some (IsChop (251 - t)) else
        if nat_lt t 252 then Some IsSameFar else if nat_lt t 255 then Some (IsAppend (t - 251)) else
        if nat_lt t 256 then Some IsFull else None) ≡ Some k → kind_tag k ≡ t
    four true is low h =
        let e = some_kind IsSameOneFar k h in
        let below : t < 248 = ltb-true t 248 is in
        let above : 247 ≤ t = ltb-false t 247 low in
        sym (ap kind_tag e) ∙ omega (arith, below, above)
    four false is low h = five (nat_lt t 251) refl is h

    three : (b : Bool) → nat_lt t 247 ≡ b
        → cond b None (if nat_lt t 248 then Some IsSameOneFar else if nat_lt t 251 then Some (IsChop (251 - t)) else
        if nat_lt t 252 then Some IsSameFar else if nat_lt t 255 then Some (IsAppend (t - 251)) else
        if nat_lt t 256 then Some IsFull else None) ≡ Some k → kind_tag k ≡ t
    three true is h = absurd cc
    three false is h = four (nat_lt t 248) refl is h

    two : (b : Bool) → nat_lt t 128 ≡ b → nat_lt t 64 ≡ false
        → cond b (Some (IsSameOne (t - 64))) (if nat_lt t 247 then None else
        if nat_lt t 248 then Some IsSameOneFar else if nat_lt t 251 then Some (IsChop (251 - t)) else
        if nat_lt t 252 then Some IsSameFar else if nat_lt t 255 then Some (IsAppend (t - 251)) else
        if nat_lt t 256 then Some IsFull else None) ≡ Some k → kind_tag k ≡ t
    two true is low h =
        let e = some_kind (IsSameOne (t - 64)) k h in
        let above : 64 ≤ t = ltb-false t 64 low in
        sym (ap kind_tag e) ∙ omega (arith, above)
    two false is low h = three (nat_lt t 247) refl h

    one : (b : Bool) → nat_lt t 64 ≡ b
        → cond b (Some (IsSame t)) (if nat_lt t 128 then Some (IsSameOne (t - 64)) else if nat_lt t 247 then None else
        if nat_lt t 248 then Some IsSameOneFar else if nat_lt t 251 then Some (IsChop (251 - t)) else
        if nat_lt t 252 then Some IsSameFar else if nat_lt t 255 then Some (IsAppend (t - 251)) else
        if nat_lt t 256 then Some IsFull else None) ≡ Some k → kind_tag k ≡ t
    one true is h = sym (ap kind_tag (some_kind (IsSame t) k h))
    one false is h = two (nat_lt t 128) refl is h

-- ---- variants

same_back : (n : ℕ) (x : Unit {0}) (f : Form) → same_inside n f ≡ Some x → Same n ≡ f
same_back n x (Same a) h =
    by (eqb a n) refl h
  where
    by : (t : Bool) → eqb a n ≡ t → cond t (Some tt) None ≡ Some x → Same n ≡ Same a
    by true is g = ap Same (sym (eqb-true a n is))
    by false is g = absurd cc
same_back n x (SameOne a b) h = absurd cc
same_back n x (SameOneFar a b) h = absurd cc
same_back n x (Chop a b) h = absurd cc
same_back n x (SameFar a) h = absurd cc
same_back n x (Append a b c) h = absurd cc
same_back n x (Full a b c) h = absurd cc

same_one_back : (n : ℕ) (x : FrameType) (f : Form) → same_one_inside n f ≡ Some x → SameOne n x ≡ f
same_one_back n x (Same a) h = absurd cc
same_one_back n x (SameOne a b) h =
    by (eqb a n) refl h
  where
    by : (t : Bool) → eqb a n ≡ t → cond t (Some b) None ≡ Some x → SameOne n x ≡ SameOne a b
    by true is g = let e : b ≡ x = cc in ap (λ (k : ℕ). SameOne k x) (sym (eqb-true a n is)) ∙ ap (SameOne a) (sym e)
    by false is g = absurd cc
same_one_back n x (SameOneFar a b) h = absurd cc
same_one_back n x (Chop a b) h = absurd cc
same_one_back n x (SameFar a) h = absurd cc
same_one_back n x (Append a b c) h = absurd cc
same_one_back n x (Full a b c) h = absurd cc

same_one_far_back : (x : ℕ × FrameType) (f : Form) → same_one_far_inside f ≡ Some x → SameOneFar x.0 x.1 ≡ f
same_one_far_back x (Same a) h = absurd cc
same_one_far_back x (SameOne a b) h = absurd cc
same_one_far_back x (SameOneFar a b) h = let e : (a, b) ≡ x = cc in ap (λ (p : ℕ × FrameType). SameOneFar p.0 p.1) (sym e)
same_one_far_back x (Chop a b) h = absurd cc
same_one_far_back x (SameFar a) h = absurd cc
same_one_far_back x (Append a b c) h = absurd cc
same_one_far_back x (Full a b c) h = absurd cc

chop_back : (n : ℕ) (x : ℕ) (f : Form) → chop_inside n f ≡ Some x → Chop n x ≡ f
chop_back n x (Same a) h = absurd cc
chop_back n x (SameOne a b) h = absurd cc
chop_back n x (SameOneFar a b) h = absurd cc
chop_back n x (Chop a b) h =
    by (eqb a n) refl h
  where
    by : (t : Bool) → eqb a n ≡ t → cond t (Some b) None ≡ Some x → Chop n x ≡ Chop a b
    by true is g = let e : b ≡ x = cc in ap (λ (k : ℕ). Chop k x) (sym (eqb-true a n is)) ∙ ap (Chop a) (sym e)
    by false is g = absurd cc
chop_back n x (SameFar a) h = absurd cc
chop_back n x (Append a b c) h = absurd cc
chop_back n x (Full a b c) h = absurd cc

same_far_back : (x : ℕ) (f : Form) → same_far_inside f ≡ Some x → SameFar x ≡ f
same_far_back x (Same a) h = absurd cc
same_far_back x (SameOne a b) h = absurd cc
same_far_back x (SameOneFar a b) h = absurd cc
same_far_back x (Chop a b) h = absurd cc
same_far_back x (SameFar a) h = let e : a ≡ x = cc in ap SameFar (sym e)
same_far_back x (Append a b c) h = absurd cc
same_far_back x (Full a b c) h = absurd cc

append_back : (n : ℕ) (x : ℕ × List FrameType) (f : Form) → append_inside n f ≡ Some x → Append n x.0 x.1 ≡ f
append_back n x (Same a) h = absurd cc
append_back n x (SameOne a b) h = absurd cc
append_back n x (SameOneFar a b) h = absurd cc
append_back n x (Chop a b) h = absurd cc
append_back n x (SameFar a) h = absurd cc
append_back n x (Append a b c) h =
    by (eqb a n) refl h
  where
    by : (t : Bool) → eqb a n ≡ t → cond t (Some (b, c)) None ≡ Some x → Append n x.0 x.1 ≡ Append a b c
    by true is g =
        let e : (b, c) ≡ x = cc in
        ap (λ (k : ℕ). Append k x.0 x.1) (sym (eqb-true a n is))
        ∙ ap (λ (p : ℕ × List FrameType). Append a p.0 p.1) (sym e)
    by false is g = absurd cc
append_back n x (Full a b c) h = absurd cc

full_back : (x : ℕ × (List FrameType × List FrameType)) (f : Form) → full_inside f ≡ Some x → Full x.0 x.1.0 x.1.1 ≡ f
full_back x (Same a) h = absurd cc
full_back x (SameOne a b) h = absurd cc
full_back x (SameOneFar a b) h = absurd cc
full_back x (Chop a b) h = absurd cc
full_back x (SameFar a) h = absurd cc
full_back x (Append a b c) h = absurd cc
full_back x (Full a b c) h = let e : (a, (b, c)) ≡ x = cc in ap (λ (p : ℕ × (List FrameType × List FrameType)). Full p.0 p.1.0 p.1.1) (sym e)

opt : {A : Type 0} (f : Format A) (o : Option A) → allowed_in f o → (a : A) × (o ≡ Some a)
opt f None h = absurd h
opt f (Some a) h = (a, refl)

same_into : (n : ℕ) (u : Unit {0}) → same_inside n (Same n) ≡ Some u
same_into n u = ap (λ (b : Bool). cond b (Some tt) None) (eq-eqb n n refl)

same_one_into : (n : ℕ) (t : FrameType) → same_one_inside n (SameOne n t) ≡ Some t
same_one_into n t = ap (λ (b : Bool). cond b (Some t) None) (eq-eqb n n refl)

chop_into : (n d : ℕ) → chop_inside n (Chop n d) ≡ Some d
chop_into n d = ap (λ (b : Bool). cond b (Some d) None) (eq-eqb n n refl)

append_into : (n : ℕ) (x : ℕ × List FrameType) → append_inside n (Append n x.0 x.1) ≡ Some x
append_into n x = ap (λ (b : Bool). cond b (Some x) None) (eq-eqb n n refl)

module _ (es : List Entry) where
  pub lawful_nothing : Lawful es nothing
  unfolding count_mentions
  lawful_nothing = record {
    found = λ s x fits h.
        let e = done_is (tt, s) x h in
        (tt, subst (λ (y : Unit {0} × Spot). Takes es s [] y.1) e (takes_nothing es s fits));
    only = λ u total b c bytes allowed count.
        ap (λ (k : ℕ). done {A = Unit {0} × Spot} (tt, spot total k bytes)) (some_is b c count);
  }

  -- what stands behind a tag is of its kind
  pub kind_kept : (k : Kind) (f : Form) → (behind_kind es k).allows f → kind_of f ≡ k
  kind_kept (IsSame d) f h = let x = opt nothing (same_inside d f) h in sym (ap kind_of (same_back d x.0 f x.1))
  kind_kept (IsSameOne d) f h =
      let x = opt (frame_type es) (same_one_inside d f) h in sym (ap kind_of (same_one_back d x.0 f x.1))
  kind_kept IsSameOneFar f h =
      let x = opt (seq u2 (λ d. frame_type es)) (same_one_far_inside f) h in
      sym (ap kind_of (same_one_far_back x.0 f x.1))
  kind_kept (IsChop k) f h = let x = opt u2 (chop_inside k f) h in sym (ap kind_of (chop_back k x.0 f x.1))
  kind_kept IsSameFar f h = let x = opt u2 (same_far_inside f) h in sym (ap kind_of (same_far_back x.0 f x.1))
  kind_kept (IsAppend k) f h =
      let x = opt (seq u2 (λ d. times (frame_type es) k)) (append_inside k f) h in
      sym (ap kind_of (append_back k x.0 f x.1))
  kind_kept IsFull f h =
      let x = opt (seq u2 (λ d. seq (counted (frame_type es)) (λ locals. counted (frame_type es)))) (full_inside f) h in
      sym (ap kind_of (full_back x.0 f x.1))

  module _ (pool : IsPool es) where
    lawful_two : Lawful es u2
    lawful_two = lawful_number es w16 any half

    lawful_kind : (k : Kind) → Lawful es (behind_kind es k)
    lawful_kind (IsSame d) =
        lawful_variant es (λ (u : Unit {0}). Same d) (same_inside d) nothing (λ u _. same_into d u) (same_back d)
        lawful_nothing
    lawful_kind (IsSameOne d) =
        lawful_variant es (SameOne d) (same_one_inside d) (frame_type es) (λ t _. same_one_into d t) (same_one_back d)
        (lawful_type es pool)
    lawful_kind IsSameOneFar =
        lawful_variant es (λ (x : ℕ × FrameType). SameOneFar x.0 x.1) same_one_far_inside (seq u2 (λ d. frame_type es))
        (λ x _. refl) same_one_far_back (lawful_seq es u2 (λ d. frame_type es) lawful_two (λ d _. lawful_type es pool))
    lawful_kind (IsChop k) =
        lawful_variant es (Chop k) (chop_inside k) u2 (λ d _. chop_into k d) (chop_back k) lawful_two
    lawful_kind IsSameFar = lawful_variant es SameFar same_far_inside u2 (λ d _. refl) same_far_back lawful_two
    lawful_kind (IsAppend k) =
        lawful_variant es (λ (x : ℕ × List FrameType). Append k x.0 x.1) (append_inside k)
        (seq u2 (λ d. times (frame_type es) k)) (λ x _. append_into k x) (append_back k)
        (lawful_seq es u2 (λ d. times (frame_type es) k) lawful_two
        (λ d _. lawful_times es (frame_type es) (lawful_type es pool) k))
    lawful_kind IsFull =
        lawful_variant es (λ (x : ℕ × (List FrameType × List FrameType)). Full x.0 x.1.0 x.1.1) full_inside
        (seq u2 (λ d. seq (counted (frame_type es)) (λ locals. counted (frame_type es)))) (λ x _. refl) full_back
        (lawful_seq es u2 (λ d. seq (counted (frame_type es)) (λ locals. counted (frame_type es))) lawful_two
        (λ d _. lawful_seq es (counted (frame_type es)) (λ locals. counted (frame_type es))
        (lawful_counted es (frame_type es) (lawful_type es pool))
        (λ locals _. lawful_counted es (frame_type es) (lawful_type es pool))))

    lawful_behind : (o : Option Kind) → Lawful es (behind es o)
    lawful_behind None = record { found = λ s x fits h. absurd cc; only = λ a t b c bytes allowed count. absurd allowed }
    lawful_behind (Some k) = lawful_kind k

    tag_parted : (t : ℕ) (o : Option Kind) (f : Form) → tagged t ≡ o → (behind es o).allows f → kind_tag (kind_of f) ≡ t
    tag_parted t None f is h = absurd h
    tag_parted t (Some k) f is h = ap kind_tag (kind_kept k f h) ∙ kind_is t k is

    pub lawful_form : Lawful es (form es)
    lawful_form =
        lawful_as es (λ (x : ℕ × Form). x.1) (λ (f : Form). (kind_tag (kind_of f), f))
        (seq (number w8 is_frame_tag) (λ t. behind es (tagged t))) (λ f. refl)
        (λ x allowed.
        ap (λ (n : ℕ). (n, x.1)) (tag_parted x.0 (tagged x.0) x.1 refl allowed.1))
        (lawful_seq es (number w8 is_frame_tag) (λ t. behind es (tagged t)) (lawful_number es w8 is_frame_tag byte)
        (λ t _. lawful_behind (tagged t)))

-- ---- the first form that fits stands for the frame

find_keeps : {A : Type 0} (p : A → Bool) (xs : List A) (x : A) → find p xs ≡ Some x → p x ≡ true
find_keeps p [] x h = absurd cc
find_keeps {A} p (y ∷ ys) x h = by (p y) refl h (λ r. find_keeps p ys x r)
  where
    by : (b : Bool) → p y ≡ b → cond b (Some y) (find p ys) ≡ Some x → (find p ys ≡ Some x → p x ≡ true) → p x ≡ true
    by true is h later = let e : y ≡ x = cc in ap p (sym e) ∙ is
    by false is h later = later h

means_appended : (before : List FrameType) (d : ℕ) (locals : List FrameType) (o : Option ℕ)
    → find (has_more before locals) one_to_three ≡ o → meaning before (appended before d locals o) ≡ step d locals []
means_appended before d locals None is = refl
means_appended before d locals (Some k) is =
    let p = and_parts (length locals == length before + k) (same_types (take (length before) locals) before)
    (find_keeps (has_more before locals) one_to_three k is) in
    let front : take (length before) locals ≡ before = same_types_are (take (length before) locals) before p.1 in
    ap (λ (l : List FrameType). step d l [])
    (ap (λ (l : List FrameType). l ++ drop (length before) locals) (sym front)
    ∙ take-append-drop (length before) locals)

means_chopped : (before : List FrameType) (d : ℕ) (locals : List FrameType) (o : Option ℕ)
    → find (lacks before locals) one_to_three ≡ o → meaning before (chopped before d locals o) ≡ step d locals []
means_chopped before d locals None is =
    means_appended before d locals (find (has_more before locals) one_to_three) refl
means_chopped before d locals (Some k) is =
    let p = and_parts (nat_le k (length before)) (same_types locals (take (length before - k) before))
    (find_keeps (lacks before locals) one_to_three k is) in
    ap (λ (l : List FrameType). step d l []) (sym (same_types_are locals (take (length before - k) before) p.1))

means_with : (before : List FrameType) (d : ℕ) (locals stack : List FrameType)
    → meaning before (form_with before d locals stack) ≡ step d locals stack
means_with before d locals [] = by (same_types locals before) refl (nat_lt d 64)
  where
    by : (b : Bool) → same_types locals before ≡ b → (c : Bool)
        → meaning before (cond b (cond c (Same d) (SameFar d)) (chopped before d locals (find (lacks before locals) one_to_three)))
        ≡ step d locals []
    by true is true = ap (λ (l : List FrameType). step d l []) (sym (same_types_are locals before is))
    by true is false = ap (λ (l : List FrameType). step d l []) (sym (same_types_are locals before is))
    by false is c = means_chopped before d locals (find (lacks before locals) one_to_three) refl
means_with before d locals (t ∷ []) = by (same_types locals before) refl (nat_lt d 64)
  where
    by : (b : Bool) → same_types locals before ≡ b → (c : Bool)
        → meaning before (cond b (cond c (SameOne d t) (SameOneFar d t)) (Full d locals (t ∷ []))) ≡ step d locals (t ∷ [])
    by true is true = ap (λ (l : List FrameType). step d l (t ∷ [])) (sym (same_types_are locals before is))
    by true is false = ap (λ (l : List FrameType). step d l (t ∷ [])) (sym (same_types_are locals before is))
    by false is c = refl
means_with before d locals (t ∷ u ∷ stack) = refl

pub form_means : FormMeans
form_means before s = means_with before s.delta s.locals s.stack

-- ---- the same form

both : (a b : Bool) → a ≡ true → b ≡ true → (a && b) ≡ true
both true b p q = q
both false b p q = p

one_type : (t u : FrameType) → same_types (t ∷ []) (u ∷ []) ≡ true → t ≡ u
one_type t u h = let e : (t ∷ []) ≡ (u ∷ []) = same_types_are (t ∷ []) (u ∷ []) h in cc

pub same_form_is : (f g : Form) → same_form f g ≡ true → f ≡ g
same_form_is (Same d) (Same e) h = ap Same (eqb-true d e h)
same_form_is (SameOne d t) (SameOne e u) h =
    let p = and_parts (d == e) (same_types (t ∷ []) (u ∷ [])) h in
    ap (λ (n : ℕ). SameOne n t) (eqb-true d e p.0) ∙ ap (SameOne e) (one_type t u p.1)
same_form_is (SameOneFar d t) (SameOneFar e u) h =
    let p = and_parts (d == e) (same_types (t ∷ []) (u ∷ [])) h in
    ap (λ (n : ℕ). SameOneFar n t) (eqb-true d e p.0) ∙ ap (SameOneFar e) (one_type t u p.1)
same_form_is (Chop k d) (Chop l e) h =
    let p = and_parts (k == l) (d == e) h in
    ap (λ (n : ℕ). Chop n d) (eqb-true k l p.0) ∙ ap (Chop l) (eqb-true d e p.1)
same_form_is (SameFar d) (SameFar e) h = ap SameFar (eqb-true d e h)
same_form_is (Append k d more) (Append l e others) h =
    let p = and_parts (k == l) (d == e && same_types more others) h in
    let q = and_parts (d == e) (same_types more others) p.1 in
    ap (λ (n : ℕ). Append n d more) (eqb-true k l p.0) ∙ ap (λ (n : ℕ). Append l n more) (eqb-true d e q.0)
    ∙ ap (Append l e) (same_types_are more others q.1)
same_form_is (Full d locals stack) (Full e others more) h =
    let p = and_parts (d == e) (same_types locals others && same_types stack more) h in
    let q = and_parts (same_types locals others) (same_types stack more) p.1 in
    ap (λ (n : ℕ). Full n locals stack) (eqb-true d e p.0)
    ∙ ap (λ (l : List FrameType). Full e l stack) (same_types_are locals others q.0)
    ∙ ap (Full e others) (same_types_are stack more q.1)
same_form_is _ _ h = absurd (true≢false (sym h))

pub same_form_self : (f : Form) → same_form f f ≡ true
same_form_self (Same d) = eq-eqb d d refl
same_form_self (SameOne d t) = both _ _ (eq-eqb d d refl) (same_types_self (t ∷ []))
same_form_self (SameOneFar d t) = both _ _ (eq-eqb d d refl) (same_types_self (t ∷ []))
same_form_self (Chop k d) = both _ _ (eq-eqb k k refl) (eq-eqb d d refl)
same_form_self (SameFar d) = eq-eqb d d refl
same_form_self (Append k d more) = both _ _ (eq-eqb k k refl) (both _ _ (eq-eqb d d refl) (same_types_self more))
same_form_self (Full d locals stack) =
    both _ _ (eq-eqb d d refl) (both _ _ (same_types_self locals) (same_types_self stack))
