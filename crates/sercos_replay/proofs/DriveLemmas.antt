-- What a replay of a drive keeps stays right with one line more.
use Rattle.std.proofs.Common.{◌≡◌, ℕ, Bool, true, false, not, cond, ◌&&◌, ◌||◌, List, [], ◌∷◌, Option, Some, None, is_some, option_map, refl, sym, ◌∙◌, ap, ap₂, subst}
use Rattle.std.specs.Option.{option_or}
use Rattle.std.proofs.lemmas.Bool.{false≢true}
use Rattle.std.proofs.lemmas.Option.{none-some}
use Rattle.std.proofs.lemmas.List.Folds.{find-append}
use Rattle.sercos_model.proofs.OptionLemmas.{option_or-none, option_or-some}
use Rattle.sercos_block.specs.Views.{DriveView}
use Rattle.sercos_trace.specs.Views.{SentView}
use Rattle.sercos_drive.specs.Heard.{DriveCall, Mdt}
use Rattle.sercos_drive.specs.Says.{drive_says}
use Rattle.sercos_drive.specs.Kept.{DriveStandsFor}
use Rattle.sercos_replay.specs.declared.drive_replay.DriveReplay.{DriveReplay}
use Rattle.sercos_replay.specs.Cycles.{Cycle, with_at}
use Rattle.sercos_replay.specs.Places.{PlaceView, if_differs, if_told}
use Rattle.sercos_replay.specs.Differences.{content_of, is_of, mst_calls, at_found, at_place_of, at_place, drive_differs, if_passed, drive_tells}
use Rattle.sercos_replay.specs.Kept.{drive_kept, DriveAwaits, DriveHasPassed, DriveRests, DriveGoes, DriveStandsIn, DriveEndsIn}
use Rattle.sercos_replay.proofs.OptionLemmas.{or-none, or-stays}
use Rattle.sercos_replay.proofs.SharedLemmas.{with_ats, Tells, AnyReplay, kept-stands, kept-ends, awaits-stands}
use Rattle.sercos_replay.proofs.SharedLemmas as shared

or_true : (b : Bool) → (b || true) ≡ true
or_true true = refl
or_true false = refl

none_of : {A : Type 0} (o : Option A) → is_some o ≡ false → o ≡ None
none_of None is = refl
none_of (Some x) is = absurd (false≢true (sym is))

-- WHAT IS TOLD of the newest cycle.
tells-mdt : (d : DriveView) (rate : ℕ) (t : Cycle) (j : List Cycle) (mdt : SentView) → t.mdt ≡ Some mdt → drive_tells d rate (t ∷ j) ≡ drive_differs d rate (t ∷ j)
tells-mdt d rate t j mdt some =
    ap (λ m. option_or (drive_differs d rate j) (if_passed (is_some (at_found d t) || is_some m) (at_place d rate t j))) some
    ∙ ap (λ b. option_or (drive_differs d rate j) (if_passed b (at_place d rate t j))) (or_true (is_some (at_found d t)))

pub awaits-none : (v : DriveReplay) (d : DriveView) (rate : ℕ) (t : Cycle) (j : List Cycle) → DriveAwaits v d rate t j → drive_tells d rate (t ∷ j) ≡ None
awaits-none v d rate t j a =
    or-none (drive_differs d rate j) _ a.before
    ∙ ap (λ b. if_passed (b || is_some t.mdt) (at_place d rate t j)) (sym a.found_is)
    ∙ ap (λ m. if_passed (v.found || is_some m) (at_place d rate t j)) a.mdt_is
    ∙ by v.found a.agrees
  where
    by : (f : Bool) → (f ≡ true → if_differs (at_place d rate t j) ≡ None) → if_passed (f || false) (at_place d rate t j) ≡ None
    by true agrees = agrees refl
    by false agrees = refl

-- with each telegram more it is told again
found-before : (d : DriveView) (t : Cycle) (sent x : SentView) → at_found d t ≡ Some x → at_found d (with_ats t sent) ≡ Some x
found-before d t sent x some = find-append (is_of d.address) t.ats (sent ∷ []) ∙ option_or-some (at_found d t) _ x some

tells-differs : (d : DriveView) (rate : ℕ) (t : Cycle) (j : List Cycle) (x : PlaceView) → drive_tells d rate (t ∷ j) ≡ Some x → drive_differs d rate (t ∷ j) ≡ Some x
tells-differs d rate t j x told = or-stays (drive_differs d rate j) _ _ x (by (is_some (at_found d t) || is_some t.mdt)) told
  where
    by : (b : Bool) → if_passed b (at_place d rate t j) ≡ Some x → if_differs (at_place d rate t j) ≡ Some x
    by true e = e
    by false e = absurd (none-some x e)

at-stays : (d : DriveView) (rate : ℕ) (t : Cycle) (j : List Cycle) (sent : SentView) (x : PlaceView) → t.mdt ≡ None → drive_tells d rate (t ∷ j) ≡ Some x
    → drive_tells d rate (with_ats t sent ∷ j) ≡ Some x
at-stays d rate t j sent x none told = or-stays (drive_differs d rate j) _ _ x (by (at_found d t) refl) told
  where
    by : (o : Option SentView) → at_found d t ≡ o → if_passed (is_some (at_found d t) || is_some t.mdt) (at_place d rate t j) ≡ Some x
        → if_passed (is_some (at_found d (with_ats t sent)) || is_some t.mdt) (at_place d rate (with_ats t sent) j) ≡ Some x
    by None is e = absurd (none-some x (
        sym (ap (λ (m : Option SentView). if_passed (is_some {T = SentView} None || is_some m) (at_place d rate t j)) none)
        ∙ sym (ap (λ (o : Option SentView). if_passed (is_some o || is_some t.mdt) (at_place d rate t j)) is) ∙ e))
    by (Some y) is e =
        ap (λ (o : Option SentView). if_passed (is_some o || is_some t.mdt) (at_place_of rate t.cycle (drive_says d rate (mst_calls t j)) o)) (found-before d t sent y is ∙ sym is)
        ∙ e

pub drive_telling : (d : DriveView) (rate : ℕ) → Tells (drive_tells d rate) (drive_differs d rate)
drive_telling d rate = record {
  none = refl;
  before = λ t j x some. option_or-some (drive_differs d rate j) _ x some;
  after = tells-differs d rate;
  whole = tells-mdt d rate;
  at = at-stays d rate;
  mdt = λ t j sent x none told. tells-differs d rate t j x told;
}

abbrev pub replay_of_drive : DriveReplay → DriveView → ℕ → AnyReplay
replay_of_drive v d rate = record {
  is_open = v.is_open;
  has_told = v.differs;
  told = v.told.value;
  tells = drive_tells d rate;
  differs = drive_differs d rate;
  Awaits = DriveAwaits v d rate;
  Rests = DriveRests v d rate;
  telling = drive_telling d rate;
  open_is = λ t j a. a.open_is;
  mdt_is = λ t j a. a.mdt_is;
  agrees = awaits-none v d rate;
  closed_is = λ j r. r.open_is;
  before = λ j r. r.before;
}

-- THE PLACE OF THE AT is passed.
pub passed-found : (v : DriveReplay) (d : DriveView) (rate : ℕ) (t : Cycle) (j : List Cycle) → DriveAwaits v d rate t j → v.differs ≡ false → v.found ≡ true → DriveHasPassed v d rate t j
passed-found v d rate t j a not found = record {
  address_is = a.address_is;
  rate_is = a.rate_is;
  stands = a.stands;
  before = a.before;
  place = a.agrees found ∙ sym (ap (λ b. if_told b v.told.value) not);
}

-- what was found is compared, by what is kept of the cycle
compared : (v w : DriveReplay) (d : DriveView) (rate : ℕ) (t : Cycle) (j : List Cycle) (found : Option SentView) → v.rate ≡ rate → v.cycle ≡ t.cycle
    → DriveStandsFor v.drive d rate (mst_calls t j)
    → ((h : List DriveCall) → DriveStandsFor v.drive d v.rate h → if_differs (at_place_of v.rate v.cycle (drive_says d v.rate h) found) ≡ drive_kept w)
    → if_differs (at_place_of rate t.cycle (drive_says d rate (mst_calls t j)) found) ≡ drive_kept w
compared v w d rate t j found rate_is cycle_is stands place =
    ap (λ c. if_differs (at_place_of rate c (drive_says d rate (mst_calls t j)) found)) (sym cycle_is)
    ∙ ap (λ r. if_differs (at_place_of r v.cycle (drive_says d r (mst_calls t j)) found)) (sym rate_is)
    ∙ place (mst_calls t j) (subst (λ r. DriveStandsFor v.drive d r (mst_calls t j)) (sym rate_is) stands)

-- what comparing keeps
abbrev pub IsCompared : DriveReplay → DriveReplay → Type 0
IsCompared v w = w ≡ record v { differs = w.differs; told = w.told; said = w.said }

pub passed-missing : (v w : DriveReplay) (d : DriveView) (rate : ℕ) (t : Cycle) (j : List Cycle) → DriveAwaits v d rate t j → v.found ≡ false → IsCompared v w
    → ((h : List DriveCall) → DriveStandsFor v.drive d v.rate h → if_differs (at_place_of v.rate v.cycle (drive_says d v.rate h) None) ≡ drive_kept w)
    → DriveHasPassed w d rate t j
passed-missing v w d rate t j a missing same place = record {
  address_is = ap (λ (x : DriveReplay). x.address) same ∙ a.address_is;
  rate_is = ap (λ (x : DriveReplay). x.rate) same ∙ a.rate_is;
  stands = subst (λ x. DriveStandsFor x d rate (mst_calls t j)) (sym (ap (λ (x : DriveReplay). x.drive) same)) a.stands;
  before = a.before;
  place =
      ap (λ o. if_differs (at_place_of rate t.cycle (drive_says d rate (mst_calls t j)) o)) (none_of (at_found d t) (sym a.found_is ∙ missing))
      ∙ compared v w d rate t j None a.rate_is a.cycle_is a.stands place;
}

-- THE CYCLE ENDS.
pub ended : (v w : DriveReplay) (d : DriveView) (rate : ℕ) (t : Cycle) (j : List Cycle) (mdt : Option SentView) → DriveHasPassed v d rate t j
    → w.address ≡ v.address → w.rate ≡ v.rate → w.is_open ≡ false → w.differs ≡ v.differs → w.told ≡ v.told
    → DriveStandsFor w.drive d rate (Mdt (option_map content_of mdt) ∷ mst_calls t j) → DriveEndsIn w d rate (record t { mdt = mdt } ∷ j)
ended v w d rate t j mdt p address rate_is opened differs told stands =
    kept-ends (replay_of_drive w d rate) (record t { mdt = mdt } ∷ j)
    (or-none (drive_differs d rate j) _ p.before ∙ p.place ∙ ap₂ (λ b x. if_told b x.value) (sym differs) (sym told))
    (λ none. record { address_is = address ∙ p.address_is; rate_is = rate_is ∙ p.rate_is; open_is = opened; stands = stands; before = none })

-- AN AT COMES.
found-first : (d : DriveView) (t : Cycle) (sent : SentView) → at_found d t ≡ None → is_of d.address sent ≡ true → at_found d (with_ats t sent) ≡ Some sent
found-first d t sent none own =
    find-append (is_of d.address) t.ats (sent ∷ [])
    ∙ or-none (at_found d t) _ none
    ∙ ap (λ b. cond b (Some sent) None) own

found-other : (d : DriveView) (t : Cycle) (sent : SentView) → is_of d.address sent ≡ false → at_found d (with_ats t sent) ≡ at_found d t
found-other d t sent other =
    find-append (is_of d.address) t.ats (sent ∷ [])
    ∙ ap (λ b. option_or (at_found d t) (cond b (Some sent) None)) other
    ∙ option_or-none (at_found d t)

-- it is the one that is awaited
pub own-at : (v w : DriveReplay) (d : DriveView) (rate : ℕ) (t : Cycle) (j : List Cycle) (sent : SentView) → DriveAwaits v d rate t j → v.found ≡ false
    → is_of v.address sent ≡ true
    → IsCompared (record v { found = true }) w
    → ((h : List DriveCall) → DriveStandsFor v.drive d v.rate h → if_differs (at_place_of v.rate v.cycle (drive_says d v.rate h) (Some sent)) ≡ drive_kept w)
    → DriveStandsIn w d rate (with_ats t sent ∷ j)
own-at v w d rate t j sent a missing own same place = kept-stands (replay_of_drive w d rate) cycle j tells (λ none. record {
  address_is = ap (λ (x : DriveReplay). x.address) same ∙ a.address_is;
  rate_is = ap (λ (x : DriveReplay). x.rate) same ∙ a.rate_is;
  cycle_is = ap (λ (x : DriveReplay). x.cycle) same ∙ a.cycle_is;
  open_is = ap (λ (x : DriveReplay). x.is_open) same ∙ a.open_is;
  mdt_is = a.mdt_is;
  found_is = ap (λ (x : DriveReplay). x.found) same ∙ sym (ap (λ (o : Option SentView). is_some o) found);
  stands = subst (λ x. DriveStandsFor x d rate (mst_calls t j)) (sym (ap (λ (x : DriveReplay). x.drive) same)) a.stands;
  before = a.before;
  agrees = λ _. here ∙ sym tells ∙ none;
})
  where
    cycle : Cycle
    cycle = with_ats t sent

    found : at_found d cycle ≡ Some sent
    found = found-first d t sent (none_of (at_found d t) (sym a.found_is ∙ missing)) (ap (λ x. is_of x sent) (sym a.address_is) ∙ own)

    here : if_differs (at_place d rate cycle j) ≡ drive_kept w
    here =
        ap (λ o. if_differs (at_place_of rate t.cycle (drive_says d rate (mst_calls t j)) o)) found
        ∙ compared v w d rate t j (Some sent) a.rate_is a.cycle_is a.stands place

    tells : drive_tells d rate (cycle ∷ j) ≡ drive_kept w
    tells =
        or-none (drive_differs d rate j) _ a.before
        ∙ ap (λ (o : Option SentView). if_passed (is_some o || is_some t.mdt) (at_place d rate cycle j)) found
        ∙ here

-- it isn't
same-found : (v : DriveReplay) (d : DriveView) (rate : ℕ) (t : Cycle) (j : List Cycle) (sent : SentView) → DriveAwaits v d rate t j
    → at_found d (with_ats t sent) ≡ at_found d t → DriveAwaits v d rate (with_ats t sent) j
same-found v d rate t j sent a same = record {
  address_is = a.address_is;
  rate_is = a.rate_is;
  cycle_is = a.cycle_is;
  open_is = a.open_is;
  mdt_is = a.mdt_is;
  found_is = a.found_is ∙ sym (ap (λ (o : Option SentView). is_some o) same);
  stands = a.stands;
  before = a.before;
  agrees = λ found. ap (λ o. if_differs (at_place_of rate t.cycle (drive_says d rate (mst_calls t j)) o)) same ∙ a.agrees found;
}

some_of : {A : Type 0} (o : Option A) → is_some o ≡ true → (x : A) × (o ≡ Some x)
some_of None is = absurd (false≢true is)
some_of (Some x) is = (x, refl)

other-at : (v : DriveReplay) (d : DriveView) (rate : ℕ) (t : Cycle) (j : List Cycle) (sent : SentView) → DriveAwaits v d rate t j
    → (not v.found && is_of v.address sent) ≡ false → DriveAwaits v d rate (with_ats t sent) j
other-at v d rate t j sent a other = by v.found refl other
  where
    by : (f : Bool) → v.found ≡ f → (not f && is_of v.address sent) ≡ false → DriveAwaits v d rate (with_ats t sent) j
    by true is e =
        let first = some_of (at_found d t) (sym a.found_is ∙ is) in
        same-found v d rate t j sent a (found-before d t sent first.0 first.1 ∙ sym first.1)
    by false is e = same-found v d rate t j sent a (found-other d t sent (ap (λ x. is_of x sent) (sym a.address_is) ∙ e))

pub at-left : (v : DriveReplay) (d : DriveView) (rate : ℕ) (j : List Cycle) (sent : SentView) → v.differs ≡ false
    → (v.is_open && (not v.found && is_of v.address sent)) ≡ false → DriveGoes v d rate j → DriveStandsIn v d rate (with_at sent j)
at-left v d rate j sent not_differs left goes = by v.is_open refl left
  where
    by : (b : Bool) → v.is_open ≡ b → (b && (not v.found && is_of v.address sent)) ≡ false → DriveStandsIn v d rate (with_at sent j)
    by true opened e = shared.at-taken (replay_of_drive v d rate) (replay_of_drive v d rate) j sent opened
        (λ t before a. awaits-stands (replay_of_drive v d rate) (with_ats t sent) before not_differs (other-at v d rate t before sent a e)) goes
    by false closed e = shared.at-left (replay_of_drive v d rate) j sent not_differs closed goes

pub at-taken : (v w : DriveReplay) (d : DriveView) (rate : ℕ) (j : List Cycle) (sent : SentView) → (v.is_open && (not v.found && is_of v.address sent)) ≡ true
    → ((t : Cycle) (before : List Cycle) → DriveAwaits v d rate t before → v.found ≡ false → is_of v.address sent ≡ true → DriveStandsIn w d rate (with_ats t sent ∷ before))
    → DriveGoes v d rate j → DriveStandsIn w d rate (with_at sent j)
at-taken v w d rate j sent all f goes = by v.is_open refl v.found refl all
  where
    by : (b : Bool) → v.is_open ≡ b → (f : Bool) → v.found ≡ f → (b && (not f && is_of v.address sent)) ≡ true → DriveStandsIn w d rate (with_at sent j)
    by true opened false missing own = shared.at-taken (replay_of_drive v d rate) (replay_of_drive w d rate) j sent opened (λ t before a. f t before a missing own) goes
    by true opened true missing own = absurd (false≢true own)
    by false opened f missing own = absurd (false≢true own)
