-- How pieces run, one behind the other.
use Rattle.std.proofs.Common.{◌≡◌, ℕ, ◌+◌, ◌-◌, ◌<◌, ◌≤◌, ◌^◌, Bool, true, false, ◌&&◌, cond, List, [], ◌∷◌, ◌++◌, Option, None, Some, refl, sym, ap, subst, ◌∙◌, arith}
use Rattle.std.specs.Prelude.{nat_lt}
use Rattle.std.proofs.lemmas.Bool.{le-ltb, ltb-false}
use Rattle.jvm_pool.specs.declared.entries.Entry.{Entry}
use Rattle.jvm_pool.specs.Mentions.{then_count, count_mention, count_mentions}
use Rattle.jvm_pieces.specs.Pieces.{Piece, Bytes, Mention, mentions}
use Rattle.jvm_class_formats.specs.Formats.{width, widths}
use Rattle.jvm_class_formats.proofs.Steps.{mentions-append, count_both, count_parts}
use Rattle.jvm_class_tally.specs.declared.tally.Tally.{Tally}
use Rattle.jvm_class_tally.specs.Tallies.{tally, on, when, left, with_room, took, moved}
use Rattle.jvm_class_tally.specs.Judges.{Runs, IsSmall}

pub when_some : {A : Type 0} (b : Bool) (o : Option A) (c : A) → when b o ≡ Some c → (b ≡ true) × (o ≡ Some c)
when_some true o c h = (refl, h)
when_some false o c h = absurd cc

pub so_when : {A : Type 0} (b : Bool) (o : Option A) (c : A) → b ≡ true → o ≡ Some c → when b o ≡ Some c
so_when b o c is h = ap (λ (d : Bool). when d o) is ∙ h

pub on_some : (o : Option Tally) (f : Tally → Option Tally) (u : Tally) → on o f ≡ Some u
    → (t : Tally) × (o ≡ Some t) × (f t ≡ Some u)
on_some None f u h = absurd cc
on_some (Some t) f u h = (t, refl, h)

pub so_on : (o : Option Tally) (f : Tally → Option Tally) (t u : Tally) → o ≡ Some t → f t ≡ Some u → on o f ≡ Some u
so_on o f t u is h = ap (λ (p : Option Tally). on p f) is ∙ h

pub both : (a b : Bool) → a ≡ true → b ≡ true → (a && b) ≡ true
both true b p q = q
both false b p q = p

pub some_eq : {A : Type 0} (x y : A) → Some x ≡ Some y → x ≡ y
some_eq x y h = cc

-- ---- room

room_is : (n room : ℕ) (s : Option ℕ) → left n (Some room) ≡ Some s → (n ≤ room) × (s ≡ Some (room - n))
room_is n room s h = by (nat_lt room n) refl h
  where
    by : (b : Bool) → nat_lt room n ≡ b → cond b None (Some (Some (room - n))) ≡ Some s → (n ≤ room) × (s ≡ Some (room - n))
    by true is h = absurd cc
    by false is h = (ltb-false room n is, sym (some_eq (Some (room - n)) s h))

room_so : (n room : ℕ) → n ≤ room → left n (Some room) ≡ Some (Some (room - n))
room_so n room le = ap (λ (b : Bool). cond b None (Some (Some (room - n)))) (le-ltb room n le)

pub left_sum : (m n : ℕ) (r s t : Option ℕ) → left m r ≡ Some s → left n s ≡ Some t → left (m + n) r ≡ Some t
left_sum m n None s t h k =
    let e : None ≡ s = some_eq None s h in subst (λ (o : Option ℕ). left n o ≡ Some t) (sym e) k
left_sum m n (Some room) s t h k =
    let p = room_is m room s h in
    let q = room_is n (room - m) t (subst (λ (o : Option ℕ). left n o ≡ Some t) p.1 k) in
    let le : m + n ≤ room = omega (arith, p.0, q.0) in
    let is : room - (m + n) ≡ room - m - n = omega arith in
    room_so (m + n) room le ∙ ap (λ (k : ℕ). Some (Some k)) is ∙ ap (λ (o : Option ℕ). Some o) (sym q.1)

pub left_parts : (m n : ℕ) (r t : Option ℕ) → left (m + n) r ≡ Some t
    → (s : Option ℕ) × (left m r ≡ Some s) × (left n s ≡ Some t)
left_parts m n None t h = (None, refl, h)
left_parts m n (Some room) t h =
    let p = room_is (m + n) room t h in
    let first : m ≤ room = omega (arith, p.0) in
    let second : n ≤ room - m = omega (arith, p.0) in
    let is : room - m - n ≡ room - (m + n) = omega arith in (
      Some (room - m),
      room_so m room first,
      room_so n (room - m) second ∙ ap (λ (k : ℕ). Some (Some k)) is
          ∙ ap (λ (o : Option ℕ). Some o) (sym p.1),
    )

pub left_none : (r : Option ℕ) → left 0 r ≡ Some r
left_none None = refl
left_none (Some room) =
    let le : 0 ≤ room = omega arith in
    let is : room - 0 ≡ room = omega arith in
    room_so 0 room le ∙ ap (λ (k : ℕ). Some (Some k)) is

pub left_small : (n : ℕ) (r s : Option ℕ) → IsSmall r → left n r ≡ Some s → IsSmall s
left_small n None s small h = subst IsSmall (some_eq None s h) tt
left_small n (Some room) s small h =
    let p = room_is n room s h in
    let lt : room - n < 2 ^ 32 = omega (arith, small) in
    subst IsSmall (sym p.1) lt

-- what has room fits a length field
pub left_fits : (n room : ℕ) (s : Option ℕ) → left n (Some room) ≡ Some s → n ≤ room
left_fits n room s h = (room_is n room s h).0

pub left_so : (n room : ℕ) → n ≤ room → (s : Option ℕ) × (left n (Some room) ≡ Some s)
left_so n room le = (Some (room - n), room_so n room le)

pub took_is : (n : ℕ) (s t : Tally) → took n s ≡ Some t → (s.counter ≡ t.counter) × (left n s.room ≡ Some t.room)
took_is n s t h = by (left n s.room) h
  where
    by : (o : Option (Option ℕ)) → with_room s.counter o ≡ Some t → (s.counter ≡ t.counter) × (o ≡ Some t.room)
    by None h = absurd cc
    by (Some room) h =
        let e : tally s.counter room ≡ t = some_eq (tally s.counter room) t h in
        (ap (λ (u : Tally). u.counter) e, ap (λ (u : Tally). Some u.room) e)

pub took_so : (n : ℕ) (s t : Tally) → s.counter ≡ t.counter → left n s.room ≡ Some t.room → took n s ≡ Some t
took_so n s t c r =
    ap (λ (o : Option (Option ℕ)). with_room s.counter o) r ∙ ap (λ (k : ℕ). Some (tally k t.room)) c

pub moved_is : (s : Tally) (o : Option ℕ) (t : Tally) → moved s o ≡ Some t → (o ≡ Some t.counter) × (s.room ≡ t.room)
moved_is s None t h = absurd cc
moved_is s (Some c) t h =
    let e : tally c s.room ≡ t = some_eq (tally c s.room) t h in
    (ap (λ (u : Tally). Some u.counter) e, ap (λ (u : Tally). u.room) e)

pub moved_so : (s : Tally) (o : Option ℕ) (t : Tally) → o ≡ Some t.counter → s.room ≡ t.room → moved s o ≡ Some t
moved_so s o t c r = ap (moved s) c ∙ ap (λ (room : Option ℕ). Some (tally t.counter room)) r

-- ---- pieces

pub widths-append : (ps qs : List Piece) → widths (ps ++ qs) ≡ widths ps + widths qs
widths-append [] qs = omega arith
widths-append (p ∷ ps) qs = let h = widths-append ps qs in omega (arith, h)

module _ (es : List Entry) where
  pub none_counts : (b : ℕ) → count_mentions es [] b ≡ Some b
  unfolding count_mentions
  none_counts b = refl

  pub counts_none : (b c : ℕ) → count_mentions es [] b ≡ Some c → b ≡ c
  unfolding count_mentions
  counts_none b c h = some_eq b c h

  pub one_counts : (e : Entry) (b c : ℕ) → count_mention es e b ≡ Some c → count_mentions es (e ∷ []) b ≡ Some c
  unfolding count_mentions
  one_counts e b c h = ap (λ (o : Option ℕ). then_count o (λ d. Some d)) h

  pub runs_nothing : (s : Tally) → Runs es [] s s
  runs_nothing s = record { counted = none_counts s.counter; room = left_none s.room }

  pub nothing_runs : (s t : Tally) → Runs es [] s t → s ≡ t
  nothing_runs s t h =
      let c = counts_none s.counter t.counter h.counted in
      let r : s.room ≡ t.room = some_eq s.room t.room (sym (left_none s.room) ∙ h.room) in
      ap (λ (k : ℕ). tally k s.room) c ∙ ap (λ (o : Option ℕ). tally t.counter o) r

  pub runs_both : (ps qs : List Piece) (s t u : Tally) → Runs es ps s t → Runs es qs t u → Runs es (ps ++ qs) s u
  runs_both ps qs s t u h k = record {
    counted = rw (mentions-append ps qs)
        (count_both es (mentions ps) (mentions qs) s.counter t.counter u.counter h.counted k.counted);
    room = ap (λ (n : ℕ). left n s.room) (widths-append ps qs)
        ∙ left_sum (widths ps) (widths qs) s.room t.room u.room h.room k.room;
  }

  pub runs_parts : (ps qs : List Piece) (s u : Tally) → Runs es (ps ++ qs) s u
      → (t : Tally) × Runs es ps s t × Runs es qs t u
  runs_parts ps qs s u h =
      let c = count_parts es (mentions ps) (mentions qs) s.counter u.counter
      (ap (λ (ms : List Entry). count_mentions es ms s.counter) (sym (mentions-append ps qs)) ∙ h.counted) in
      let r = left_parts (widths ps) (widths qs) s.room u.room
      (ap (λ (n : ℕ). left n s.room) (sym (widths-append ps qs)) ∙ h.room) in
      (tally c.0 r.0, record { counted = c.1; room = r.1 }, record { counted = c.2; room = r.2 })

  -- bytes run where there is room for them, and a mention where it counts too
  pub took_runs : (n : ℕ) (bytes : List ℕ) (s t : Tally) → widths (Bytes bytes ∷ []) ≡ n → took n s ≡ Some t
      → Runs es (Bytes bytes ∷ []) s t
  took_runs n bytes s t len h =
      let p = took_is n s t h in
      record {
        counted = none_counts s.counter ∙ ap (λ (k : ℕ). Some k) p.0;
        room = ap (λ (k : ℕ). left k s.room) len ∙ p.1;
      }

  pub runs_took : (n : ℕ) (bytes : List ℕ) (s t : Tally) → widths (Bytes bytes ∷ []) ≡ n
      → Runs es (Bytes bytes ∷ []) s t → took n s ≡ Some t
  runs_took n bytes s t len h =
      took_so n s t (counts_none s.counter t.counter h.counted) (ap (λ (k : ℕ). left k s.room) (sym len) ∙ h.room)
