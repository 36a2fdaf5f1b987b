-- A file is typed, or refused at the first direct statement such that the bodies cut behind it have no typing.
use Rattle.std.proofs.Common.{ℕ, zero, suc, ◌+◌, ◌-◌, ◌<◌, ◌≤◌, arith, List, [], ◌∷◌, ◌++◌, append_assoc, append-nil, Some, ◌≡◌, refl, sym, subst, length, take, Bool, true, false, if◌then◌else◌}
use Rattle.std.specs.Prelude.{slice_get, not, ◌&&◌, ◌||◌}
use Rattle.std.proofs.lemmas.List.{take-take}
use Rattle.kt_base.specs.declared.refusals.Pos.{Pos}
use Rattle.kt_types_order.specs.Graph.{ClassesEnd}
use Rattle.kt_typed.specs.Bodies as form
use Rattle.kt_typed.specs.Bodies.{StatementForm, FunForm, fun, statements_of}
use Rattle.kt_typed.specs.Headers.{FunctionForm}
use Rattle.kt_tree.specs.Declarations.{DeclarationTree, function, class, interface, enum, constant}
use Rattle.kt_typed.specs.Units.{UnitForm}
use Rattle.kt_check_rules.specs.Kinds.{is_unit}
use Rattle.kt_check_rules.specs.States.{Context, State, hierarchy}
use Rattle.kt_check_rules.specs.Typings.{meeting}
use Rattle.kt_check_rules.specs.Completion.{statement_completes}
use Rattle.kt_check_rules.specs.Rules.{Typed}
use Rattle.kt_check_rules.specs.Bodies.{Direct, statement, value, closing, place_of, IsDirect, AreDirects, Body, begun, IsBody, AreBodies}
use Rattle.kt_check_rules.specs.Units.{File, bodies, bodies_among, has_main, IsUnit}
use Rattle.kt_check_rules.specs.Place.{directs, with_directs, cut, FailsAt, HasNoTyping, at_start, IsRefused, at_statement, without_main}
use Rattle.kt_check_rules.proofs.Placed.{directs_cut}
use Rattle.kt_check_deciding.specs.Outcomes.{Outcome, found, none, unbuilt, reading}
use Rattle.kt_check_deciding.specs.Choosing.{typed_by}
use Rattle.kt_check_deciding.specs.Checked.{checked, checked_statement}
use Rattle.kt_check_deciding.specs.Files.{Passed, passed, checked_direct, Verdict, fine, refused_at, undecided, or_refused, go_on, Whole, whole_of, checked_directs, fun_of, checked_bodies, unit_of, with_main, checked_file}
use Rattle.kt_check_deciding.specs.Laws.{IsSaid, Decided}
use Rattle.kt_check_deciding.proofs.Deciding.{Is, is_found, is_then, is_only_if, is_same, is_not_none, went_on, was_if}
use Rattle.kt_check_deciding.proofs.Choosing.{typed_decided}
use Rattle.kt_check_deciding.proofs.Checked.{expression, statement as statement_decided}

-- lists

slice_get_left : {A : Type 0} (xs ys : List A) (n : ℕ) (x : A) → slice_get xs n ≡ Some x →
    slice_get (xs ++ ys) n ≡ Some x
slice_get_left [] ys n x h = cc
slice_get_left (y ∷ xs) ys zero x h = h
slice_get_left (y ∷ xs) ys (suc n) x h = slice_get_left xs ys n x h

slice_get_right : {A : Type 0} (xs ys : List A) (n m : ℕ) (x : A) → m ≡ length xs + n → slice_get ys n ≡ Some x →
    slice_get (xs ++ ys) m ≡ Some x
slice_get_right [] ys n m x e h = let e2 : m ≡ n = omega (arith, e) in rw e2 h
slice_get_right (y ∷ xs) ys n zero x e h = let no_ : ⊥ = omega (arith, e) in absurd no_
slice_get_right (y ∷ xs) ys n (suc m) x e h =
    let e2 : m ≡ length xs + n = omega (arith, e) in slice_get_right xs ys n m x e2 h

-- one direct statement

module _ (K : Context) where
  passes : (P : StatementForm → State → Bool → Type 0) (y : StatementForm) (b : State) (o : Bool) (r : Passed) →
      found (passed y b o) ≡ found r → P y b o → P r.typed r.behind r.goes_on
  passes P y b o r e p = let f : passed y b o ≡ r = cc in subst (λ r. P r.typed r.behind r.goes_on) f p

  -- one body

  -- there is a typing
  abbrev pub SomeDirects : List Direct → State → Bool → Type 0
  SomeDirects ds s o = (us : List StatementForm) × (b : State) × AreDirects K ds s o us b

  -- where a body stops
  pub record Stops (s : State) (o : Bool) (ds : List Direct) (p : Pos) : Type 0 where
    pub n : ℕ
    pub d : Direct
    pub stands : slice_get ds n ≡ Some d
    pub within : n < length ds
    pub at : place_of d ≡ p
    pub typed : List StatementForm
    pub end : State
    pub before : AreDirects K (take n ds) s o typed end
    pub fails : (us : List StatementForm) (b : State) → AreDirects K (take (suc n) ds) s o us b → ⊥

  -- what comes of direct statements
  pub data Says (done : List StatementForm) (s : State) (o : Bool) (ds : List Direct) : Verdict Whole → Type 0 where
    says_fine :
        (us : List StatementForm) (b : State) → AreDirects K ds s o us b →
        Says done s o ds (fine (whole_of (done ++ us) b))
    says_refused : (p : Pos) → Stops s o ds p → Says done s o ds (refused_at p)
    says_undecided : Says done s o ds undecided

  module _ (all : Bool) (ends : ClassesEnd (hierarchy K)) where
    direct_sound : (d : Direct) (s : State) (o : Bool) (r : Passed) → checked_direct all K d s o ≡ found r →
        IsDirect K d s o r.typed r.behind r.goes_on
    direct_sound (statement x) s o r e =
        let j = statement_decided all K ends x in
        let y = went_on (checked_statement all K x s) _ r e in
        let p = j.sound s y.0 y.1.0 in
        passes (λ v b g. IsDirect K (statement x) s o v b g) y.0.value y.0.behind
        (o && statement_completes K.headers y.0.value) r y.1.1 (record { typed = p; ends = refl })
    direct_sound (value at x) s o r e =
        let j = typed_decided K ends (Typed K x) (checked all K x) (expression all K ends x) in
        let y = went_on (typed_by K (checked all K x) s (meeting K.result)) _ r e in
        let p = j.sound s (meeting K.result) y.0 y.1.0 in
        passes (λ v b g. IsDirect K (value at x) s o v b g) (form.result at y.0.value) y.0.behind false r y.1.1
        (record { u = y.0.value; typed = p; whole = refl; ends = refl })
    direct_sound (closing at) s o r e =
        let y = was_if (not o || is_unit K.result) (found (passed (form.end at) s false)) r e in
        passes (λ v b g. IsDirect K (closing at) s o v b g) (form.end at) s false r y.1
        (record { allowed = y.0; whole = refl; same = refl; ends = refl })

    direct_tells : (d : Direct) (s : State) (o : Bool) (v : StatementForm) (b : State) (g : Bool) →
        IsDirect K d s o v b g → Is (checked_direct all K d s o) (passed v b g)
    direct_tells (statement x) s o v b g y =
        let j = statement_decided all K ends x in
        is_then (checked_statement all K x s) (reading v b) _ _ (j.tells s v b y.typed) (rw y.ends is_found)
    direct_tells (value at x) s o v b g y =
        let j = typed_decided K ends (Typed K x) (checked all K x) (expression all K ends x) in
        is_then (typed_by K (checked all K x) s (meeting K.result)) (reading y.u b) _ _
        (j.tells s (meeting K.result) y.u b y.typed) (rw (y.whole, y.ends) is_found)
    direct_tells (closing at) s o v b g y =
        is_only_if (not o || is_unit K.result) (found (passed (form.end at) s false)) (passed v b g) y.allowed
        (rw (y.whole, y.same, y.ends) is_found)

    -- a first direct statement is typed in one way
    same_step : (d : Direct) (rest : List Direct) (s : State) (o : Bool) (r : Passed) (us : List StatementForm)
        (b : State) → checked_direct all K d s o ≡ found r → AreDirects K (d ∷ rest) s o us b →
        SomeDirects rest r.behind r.goes_on
    same_step d rest s o r us b e y =
        let f : r ≡ passed y.y y.between y.goes_on =
        is_same (checked_direct all K d s o) (passed y.y y.between y.goes_on) r
        (direct_tells d s o y.y y.between y.goes_on y.first) e
        in
        (y.more, b, subst (λ r. AreDirects K rest r.behind r.goes_on y.more b) (sym f) y.rest)

    no_step : (d : Direct) (rest : List Direct) (s : State) (o : Bool) (us : List StatementForm) (b : State) →
        checked_direct all K d s o ≡ none → AreDirects K (d ∷ rest) s o us b → ⊥
    no_step d rest s o us b e y =
        is_not_none (checked_direct all K d s o) (passed y.y y.between y.goes_on)
        (direct_tells d s o y.y y.between y.goes_on y.first) e

    one_more : (d : Direct) (ds : List Direct) (s : State) (o : Bool) (r : Passed) (us : List StatementForm)
        (b : State) → checked_direct all K d s o ≡ found r → AreDirects K ds r.behind r.goes_on us b →
        AreDirects K (d ∷ ds) s o (r.typed ∷ us) b
    one_more d ds s o r us b e y = record {
      y = r.typed;
      more = us;
      between = r.behind;
      goes_on = r.goes_on;
      first = direct_sound d s o r e;
      rest = y;
      whole = refl;
    }

    says_more : (done : List StatementForm) (d : Direct) (ds : List Direct) (s : State) (o : Bool) (r : Passed)
        (v : Verdict Whole) → checked_direct all K d s o ≡ found r → Says (done ++ r.typed ∷ []) r.behind r.goes_on ds v →
        Says done s o (d ∷ ds) v
    says_more done d ds s o r _ e (says_fine us b y) =
        subst (λ x. Says done s o (d ∷ ds) (fine (whole_of x b))) (sym (append_assoc done (r.typed ∷ []) us))
        (says_fine (r.typed ∷ us) b (one_more d ds s o r us b e y))
    says_more done d ds s o r _ e (says_refused p y) =
        says_refused p
        (record {
          n = suc y.n;
          d = y.d;
          stands = y.stands;
          within = let l = y.within in omega (arith, l);
          at = y.at;
          typed = r.typed ∷ y.typed;
          end = y.end;
          before = one_more d (take y.n ds) s o r y.typed y.end e y.before;
          fails = λ us b q. let z = same_step d (take (suc y.n) ds) s o r us b e q in y.fails z.0 z.1 z.2;
        })
    says_more done d ds s o r _ e says_undecided = says_undecided

    directs_step : (done : List StatementForm) (d : Direct) (ds : List Direct) (s : State) (o : Bool)
        (x : Outcome Passed) → checked_direct all K d s o ≡ x →
        ((r : Passed) →
        Says (done ++ r.typed ∷ []) r.behind r.goes_on ds
        (checked_directs all K (done ++ r.typed ∷ []) ds r.behind r.goes_on)) →
        Says done s o (d ∷ ds)
        (or_refused (place_of d) x (λ r. checked_directs all K (done ++ r.typed ∷ []) ds r.behind r.goes_on))
    directs_step done d ds s o none e next =
        says_refused (place_of d)
        (record {
          n = 0;
          d = d;
          stands = refl;
          within = omega arith;
          at = refl;
          typed = [];
          end = s;
          before = (refl, refl);
          fails = λ us b q. no_step d [] s o us b e q;
        })
    directs_step done d ds s o unbuilt e next = says_undecided
    directs_step done d ds s o (found r) e next = says_more done d ds s o r _ e (next r)

    pub directs_say : (done : List StatementForm) (ds : List Direct) (s : State) (o : Bool) →
        Says done s o ds (checked_directs all K done ds s o)
    directs_say done [] s o =
        subst (λ x. Says done s o [] (fine (whole_of x s))) (append-nil done) (says_fine [] s (refl, refl))
    directs_say done (d ∷ ds) s o =
        directs_step done d ds s o (checked_direct all K d s o) refl
        (λ r. directs_say (done ++ r.typed ∷ []) ds r.behind r.goes_on)

-- all bodies

unfoldable pub SomeBodies : List Body → Type 0
SomeBodies bs = (fs : List FunForm) × AreBodies bs fs

-- bodies of which nothing is left are typed
bodies_bare : (bs : List Body) (m : ℕ) → m ≡ 0 → SomeBodies (cut m bs)
unfolding SomeBodies
bodies_bare [] m e = ([], refl)
bodies_bare (b ∷ bs) m e =
    let l : m - length b.directs ≡ 0 = omega (arith, e) in
    let z = bodies_bare bs (m - length b.directs) l in
    let f = fun_of b (whole_of [] (begun b)) in
    let y : IsBody (with_directs b (take m b.directs)) f =
    record { statements = []; end = begun b; are = rw e (refl, refl); whole = refl }
    in
    (f ∷ z.0, (f, z.0, (y, (z.1, refl))))

-- where the bodies stop
pub record StopsIn (bs : List Body) (p : Pos) : Type 0 where
  pub n : ℕ
  pub d : Direct
  pub stands : slice_get (directs bs) n ≡ Some d
  pub at : place_of d ≡ p
  pub before : (m : ℕ) → m ≤ n → SomeBodies (cut m bs)
  pub fails : (fs : List FunForm) → AreBodies (cut (suc n) bs) fs → ⊥

pub data SaysAll (done : List FunForm) (bs : List Body) : Verdict (List FunForm) → Type 0 where
  all_fine : (fs : List FunForm) → AreBodies bs fs → SaysAll done bs (fine (done ++ fs))
  all_refused : (p : Pos) → StopsIn bs p → SaysAll done bs (refused_at p)
  all_undecided : SaysAll done bs undecided

-- a first body that stops
stops_here : (b : Body) (bs : List Body) (p : Pos) → Stops b.context (begun b) true b.directs p → StopsIn (b ∷ bs) p
unfolding SomeBodies
stops_here b bs p s = record {
  n = s.n;
  d = s.d;
  stands = slice_get_left b.directs (directs bs) s.n s.d s.stands;
  at = s.at;
  before = λ m l.
      let w = s.within in
      let e : m - length b.directs ≡ 0 = omega (arith, l, w) in
      let z = bodies_bare bs (m - length b.directs) e in
      let r = directs_cut b.context (take s.n b.directs) m (begun b) true s.typed s.end s.before in
      let are : AreDirects b.context (take m b.directs) (begun b) true r.0 r.1 =
      subst (λ ds. AreDirects b.context ds (begun b) true r.0 r.1) (take-take m s.n b.directs l) r.2
      in
      let g = fun_of b (whole_of r.0 r.1) in
      let x : IsBody (with_directs b (take m b.directs)) g =
      record { statements = r.0; end = r.1; are = are; whole = refl }
      in
      (g ∷ z.0, (g, z.0, (x, (z.1, refl))));
  fails = λ fs q. first_fails fs q;
}
  where
    first_fails : (fs : List FunForm) → AreBodies (cut (suc s.n) (b ∷ bs)) fs → ⊥
    first_fails fs (f, more, (y, (ys, e))) = s.fails y.statements y.end y.are

-- a later body that stops
stops_later : (b : Body) (bs : List Body) (f : FunForm) (p : Pos) → IsBody b f → StopsIn bs p → StopsIn (b ∷ bs) p
unfolding SomeBodies
stops_later b bs f p y s = record {
  n = length b.directs + s.n;
  d = s.d;
  stands = slice_get_right b.directs (directs bs) s.n (length b.directs + s.n) s.d refl s.stands;
  at = s.at;
  before = λ m l.
      let e : m - length b.directs ≤ s.n = omega (arith, l) in
      let z = s.before (m - length b.directs) e in
      let r = directs_cut b.context b.directs m (begun b) true y.statements y.end y.are in
      let g = fun_of b (whole_of r.0 r.1) in
      let x : IsBody (with_directs b (take m b.directs)) g =
      record { statements = r.0; end = r.1; are = r.2; whole = refl }
      in
      (g ∷ z.0, (g, z.0, (x, (z.1, refl))));
  fails = λ fs q. others_fail fs q;
}
  where
    others_fail : (fs : List FunForm) → AreBodies (cut (suc (length b.directs + s.n)) (b ∷ bs)) fs → ⊥
    others_fail fs (g, more, (x, (xs, e))) =
        let same : suc (length b.directs + s.n) - length b.directs ≡ suc s.n = omega arith in
        s.fails more (subst (λ m. AreBodies (cut m bs) more) same xs)

all_more : (done : List FunForm) (b : Body) (bs : List Body) (f : FunForm) (v : Verdict (List FunForm)) →
    IsBody b f → SaysAll (done ++ f ∷ []) bs v → SaysAll done (b ∷ bs) v
all_more done b bs f _ y (all_fine fs ys) =
    subst (λ x. SaysAll done (b ∷ bs) (fine x)) (sym (append_assoc done (f ∷ []) fs))
    (all_fine (f ∷ fs) (f, fs, (y, (ys, refl))))
all_more done b bs f _ y (all_refused p s) = all_refused p (stops_later b bs f p y s)
all_more done b bs f _ y all_undecided = all_undecided

bodies_step : (all : Bool) (done : List FunForm) (b : Body) (bs : List Body) (v : Verdict Whole) →
    Says b.context [] (begun b) true b.directs v →
    ((f : FunForm) → SaysAll (done ++ f ∷ []) bs (checked_bodies all (done ++ f ∷ []) bs)) →
    SaysAll done (b ∷ bs)
    (go_on (go_on v (λ w. fine (fun_of b w))) (λ f. checked_bodies all (done ++ f ∷ []) bs))
bodies_step all done b bs _ (says_fine us e y) next =
    let f = fun_of b (whole_of us e) in
    all_more done b bs f _ (record { statements = us; end = e; are = y; whole = refl }) (next f)
bodies_step all done b bs _ (says_refused p s) next = all_refused p (stops_here b bs p s)
bodies_step all done b bs _ says_undecided next = all_undecided

-- no class of the hierarchy is above itself
abbrev pub End : List Body → Type 0
End [] = Unit {0}
End (b ∷ bs) = ClassesEnd (hierarchy b.context) × End bs

pub bodies_say : (all : Bool) (done : List FunForm) (bs : List Body) → End bs → SaysAll done bs (checked_bodies all done bs)
bodies_say all done [] ends = subst (λ x. SaysAll done [] (fine x)) (append-nil done) (all_fine [] refl)
bodies_say all done (b ∷ bs) ends =
    bodies_step all done b bs _ (directs_say b.context all ends.0 [] b.directs (begun b) true)
    (λ f. bodies_say all (done ++ f ∷ []) bs ends.1)

-- files

bodies_end : (f : File) → ClassesEnd f.headers.hierarchy → (ds : List DeclarationTree) (hs : List FunctionForm) →
    End (bodies_among f ds hs)
bodies_end f ends [] hs = tt
bodies_end f ends (function t ∷ ds) [] = tt
bodies_end f ends (function t ∷ ds) (h ∷ hs) = (ends, bodies_end f ends ds hs)
bodies_end f ends (class c ∷ ds) hs = bodies_end f ends ds hs
bodies_end f ends (interface i ∷ ds) hs = bodies_end f ends ds hs
bodies_end f ends (enum e ∷ ds) hs = bodies_end f ends ds hs
bodies_end f ends (constant c ∷ ds) hs = bodies_end f ends ds hs

-- what comes of a file
pub data FileSays (f : File) : Verdict UnitForm → Type 0 where
  file_fine : (u : UnitForm) → IsUnit f u → has_main f ≡ true → FileSays f (fine u)
  file_refused : (p : Pos) → IsRefused f p → FileSays f (refused_at p)
  file_undecided : FileSays f undecided

first_of_all : (f : File) (p : Pos) → (s : StopsIn (bodies f) p) → FailsAt HasNoTyping (bodies f) p
unfolding SomeBodies
first_of_all f p s = record {
  n = s.n;
  d = s.d;
  first = record {
    stands = s.stands;
    fails = let e : suc s.n ≡ s.n + 1 = omega arith in
        subst (λ m. HasNoTyping (cut m (bodies f))) e (λ fs y. s.fails fs y);
    before = λ m l n. let z = s.before m l in n z.0 z.1;
  };
  place = s.at;
}

main_step : (f : File) (fs : List FunForm) (m : Bool) → has_main f ≡ m → AreBodies (bodies f) fs →
    FileSays f (if m then fine (unit_of f fs) else refused_at at_start)
main_step f fs true e y = file_fine (unit_of f fs) (record { typed = y; headers = refl; classes = refl }) e
main_step f fs false e y = file_refused at_start (without_main fs y e refl)

file_step : (f : File) (v : Verdict (List FunForm)) → SaysAll [] (bodies f) v → FileSays f (go_on v (with_main f))
file_step f _ (all_fine fs y) = main_step f fs (has_main f) refl y
file_step f _ (all_refused p s) = file_refused p (at_statement (first_of_all f p s))
file_step f _ all_undecided = file_undecided

pub file_says : (all : Bool) (f : File) → ClassesEnd f.headers.hierarchy → FileSays f (checked_file all f)
file_says all f ends =
    file_step f (checked_bodies all [] (bodies f))
    (bodies_say all [] (bodies f) (bodies_end f ends f.declarations f.headers.functions))

pub said_fine : (f : File) (v : Verdict UnitForm) (u : UnitForm) → v ≡ fine u → FileSays f v →
    IsUnit f u × (has_main f ≡ true)
said_fine f _ u e (file_fine w i m) = let g : w ≡ u = cc in (subst (IsUnit f) g i, m)
said_fine f _ u e (file_refused p i) = cc
said_fine f _ u e file_undecided = cc

pub said_refused : (f : File) (v : Verdict UnitForm) (p : Pos) → v ≡ refused_at p → FileSays f v → IsRefused f p
said_refused f _ p e (file_fine w i m) = cc
said_refused f _ p e (file_refused q i) = let g : q ≡ p = cc in subst (IsRefused f) g i
said_refused f _ p e file_undecided = cc

pub is_said : (f : File) (v : Verdict UnitForm) → FileSays f v → IsSaid f v
is_said f _ (file_fine u i m) = (i, m)
is_said f _ (file_refused p i) = i
is_said f _ file_undecided = tt

pub decided : Decided
decided all f ends = is_said f (checked_file all f) (file_says all f ends)
