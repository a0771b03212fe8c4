-- In which phase a drive stands, and why.
use Rattle.sercos_law_run.proofs.Words.{◌≡◌, ◌⊎◌, inl, inr, ℕ, ◌+◌, ◌≤◌, ◌==◌, Bool, true, false, not, ◌&&◌, ◌||◌, List, [], ◌∷◌, Option, Some, None, IfSome, refl, sym, ◌∙◌, ap, subst, arith, if◌then◌else◌, nat_le, is_some, and_parts, false≢true, nat_tests, DriveView, is_passed, Told, DriveCall, Mst, Mdt, mst_got, mdt_got, Moment, phase_in, has_mst, has_missed, annals, phase_at, store_at, may_rise, stands_in, ends_in, takes, mst_below, newest_got, IsByMst, StandsByMst, HasPassed, RisesByOne, misses, missed_before, Drops, ByPhase, ByMst, ByMdt, ByRestart, DropsByCause, cases_Bool, DriveRestart, command_calls, eqb-true, eqb-false, eq-eqb, and_from}

got_same : (d : DriveView) (rate : ℕ) (h : List DriveCall) → has_mst (annals d rate h) ≡ is_some (newest_got h)
got_same d rate [] = refl
got_same d rate (Mst cycle content ∷ h) = refl
got_same d rate (Mdt content ∷ h) = got_same d rate h
got_same d rate (DriveRestart ∷ h) = refl

none_got : (o : Option ℕ) → is_some o ≡ false → o ≡ None
none_got None e = refl
none_got (Some n) e = cc

missed_same : (d : DriveView) (rate : ℕ) (h : List DriveCall) → has_missed (annals d rate h) ≡ missed_before d rate h
missed_same d rate [] = refl
missed_same d rate (Mst cycle content ∷ h) = missed_same d rate h
missed_same d rate (Mdt content ∷ h) =
    elim (cases_Bool (nat_le 3 (phase_at d rate h))) [
      | inl high ↦ let one : nat_le 1 (phase_at d rate h) ≡ true = grind (arith, nat_tests, high) in rw (high, one) refl
      | inr high ↦ rw high
    ]
    ∙ ap (λ (got : Bool). nat_le 3 (phase_at d rate h) && not (got && is_some (mdt_got d.address (phase_at d rate h) (store_at d rate h) content))) (got_same d rate h)
missed_same d rate (DriveRestart ∷ h) = refl

-- an MDT's place leaves the phase, or it takes the drive to phase 0
ends_so : (told : Option Told) (past : List Moment) → (ends_in told past ≡ phase_in past) ⊎ (ends_in told past ≡ 0)
ends_so told past = elim (cases_Bool (nat_le 3 (phase_in past) && (not (takes told past) && has_missed past))) [
  | inl on ↦ rw on (inr refl)
  | inr off ↦ rw off (inl refl)
]

-- How a drive stands at an MST's place, by what it got there: in its phase if it got its own, or none for the first time; in the next phase
-- if it got that and may rise; and otherwise in phase 0.
pub data StandsBy (d : DriveView) (rate cycle : ℕ) (past : List Moment) (o : Option ℕ) : Type 0 where
  GotNone : o ≡ None → has_mst past ≡ true → stands_in d rate cycle o past ≡ phase_in past → StandsBy d rate cycle past o
  MissesTwo : o ≡ None → has_mst past ≡ false → stands_in d rate cycle o past ≡ 0 → StandsBy d rate cycle past o
  GotOwn : (phase : ℕ) → o ≡ Some phase → phase ≡ phase_in past → stands_in d rate cycle o past ≡ phase → StandsBy d rate cycle past o
  GotNext : (phase : ℕ) → o ≡ Some phase → phase ≡ phase_in past + 1 → may_rise d rate cycle phase past ≡ true
      → stands_in d rate cycle o past ≡ phase → StandsBy d rate cycle past o
  GotOther : (phase : ℕ) → o ≡ Some phase → (phase ≡ phase_in past → ⊥)
      → (phase ≡ phase_in past + 1 → may_rise d rate cycle phase past ≡ true → ⊥)
      → stands_in d rate cycle o past ≡ 0 → StandsBy d rate cycle past o

pub stands_by : (d : DriveView) (rate cycle : ℕ) (past : List Moment) (o : Option ℕ) → StandsBy d rate cycle past o
stands_by d rate cycle past None = elim (cases_Bool (has_mst past)) [
  | inl on ↦ GotNone refl on (rw on refl)
  | inr off ↦ MissesTwo refl off (rw off refl)
]
stands_by d rate cycle past (Some phase) = elim (cases_Bool (phase == phase_in past)) [
  | inl own ↦ GotOwn phase refl (eqb-true phase (phase_in past) own) (rw own refl)
  | inr apart ↦ elim (cases_Bool ((phase == phase_in past + 1) && may_rise d rate cycle phase past)) [
    | inl next ↦
        let (one, may) = and_parts (phase == phase_in past + 1) (may_rise d rate cycle phase past) next in
        GotNext phase refl (eqb-true phase (phase_in past + 1) one) may (rw (apart, next) refl)
    | inr other ↦ GotOther phase refl (eqb-false phase (phase_in past) apart) (λ one may. false≢true (sym other
        ∙ and_from (phase == phase_in past + 1) (may_rise d rate cycle phase past) (eq-eqb phase (phase_in past + 1) one) may))
        (rw (apart, other) refl)
  ]
]

pub stands_by_mst : StandsByMst
stands_by_mst d rate [] high = absurd (omega (arith, high))
stands_by_mst d rate (DriveRestart ∷ h) high = absurd (omega (arith, high))
stands_by_mst d rate (Mdt content ∷ h) high = elim (ends_so (mdt_got d.address (phase_at d rate h) (store_at d rate h) content) (annals d rate h)) [
  | inl same ↦ subst (λ (n : ℕ). 1 ≤ n → IsByMst h n) (sym same) (stands_by_mst d rate h) high
  | inr zero ↦ absurd (omega (arith, high, zero))
]
stands_by_mst d rate (Mst cycle content ∷ h) high =
    let up : 1 ≤ stands_in d rate cycle (mst_got content) (annals d rate h) = high in
    elim (stands_by d rate cycle (annals d rate h) (mst_got content)) [
      | GotNone none some same ↦ inr (
        none,
        (elim (stands_by_mst d rate h (omega (arith, up, same))) [
          | inl is ↦ is ∙ ap Some (sym same)
          | inr missed ↦ absurd (false≢true (sym (ap is_some missed.0) ∙ sym (got_same d rate h) ∙ some))
        ]),
      )
      | MissesTwo none missed zero ↦ absurd (omega (arith, up, zero))
      | GotOwn phase got own same ↦ inl (got ∙ ap Some (sym same))
      | GotNext phase got next may same ↦ inl (got ∙ ap Some (sym same))
      | GotOther phase got apart never zero ↦ absurd (omega (arith, up, zero))
    ]

-- whether a check is passed
passed_so : (d : DriveView) (rate cycle phase : ℕ) (h : List DriveCall) → may_rise d rate cycle phase (annals d rate h) ≡ true
    → HasPassed d rate cycle phase h
passed_so d rate cycle phase h has = (
  λ three. subst (λ (p : ℕ). may_rise d rate cycle p (annals d rate h) ≡ true) three has,
  λ four. subst (λ (p : ℕ). may_rise d rate cycle p (annals d rate h) ≡ true) four has,
)

so_passed : (d : DriveView) (rate cycle phase : ℕ) (h : List DriveCall) → phase ≤ 4 → HasPassed d rate cycle phase h
    → may_rise d rate cycle phase (annals d rate h) ≡ true
so_passed d rate cycle phase h below has = by (nat_le phase 2) (phase == 3) refl refl
  where
    by : (low three : Bool) → nat_le phase 2 ≡ low → (phase == 3) ≡ three
        → (low || (if three then is_passed rate d.command 127 (command_calls (annals d rate h)) cycle else is_passed rate d.command 128 (command_calls (annals d rate h)) cycle)) ≡ true
    by true three low is = refl
    by false true low is = has.0 (grind (arith, nat_tests, is))
    by false false low is = has.1 (grind (arith, nat_tests, is, low, below))

pub rises_by_one : RisesByOne
rises_by_one d rate DriveRestart h = inr (inl refl)
rises_by_one d rate (Mdt content) h = elim (ends_so (mdt_got d.address (phase_at d rate h) (store_at d rate h) content) (annals d rate h)) [
  | inl same ↦ inl same
  | inr zero ↦ inr (inl zero)
]
rises_by_one d rate (Mst cycle content) h = elim (stands_by d rate cycle (annals d rate h) (mst_got content)) [
  | GotNone none some same ↦ inl same
  | MissesTwo none missed zero ↦ inr (inl zero)
  | GotOwn phase got own same ↦ inl (same ∙ own)
  | GotNext phase got next may same ↦ inr (inr (record {
    cycle = cycle;
    content = content;
    is_mst = refl;
    got = got ∙ ap Some next;
    passed = subst (λ (p : ℕ). HasPassed d rate cycle p h) next (passed_so d rate cycle phase h may);
    next = same ∙ next;
  }))
  | GotOther phase got apart never zero ↦ inr (inl zero)
]

mst_low : (content : Option (List ℕ)) (phase : ℕ) → mst_got content ≡ Some phase → phase ≤ 4
mst_low None phase is = cc
mst_low (Some content) phase is = subst (λ (o : Option ℕ). IfSome o (λ p. p ≤ 4)) is (mst_below content)

-- A drive goes to phase 0 for a cause.
now_same : (d : DriveView) (rate : ℕ) (content : Option (List ℕ)) (h : List DriveCall)
    → (nat_le 3 (phase_at d rate h) && not (takes (mdt_got d.address (phase_at d rate h) (store_at d rate h) content) (annals d rate h))) ≡ misses d rate content h
now_same d rate content h = missed_same d rate (Mdt content ∷ h)

drops_so : (d : DriveView) (rate : ℕ) (call : DriveCall) (h : List DriveCall) → 1 ≤ phase_at d rate h → phase_at d rate (call ∷ h) ≡ 0
    → Drops d rate call h
drops_so d rate DriveRestart h high zero = ByRestart refl
drops_so d rate (Mdt content) h high zero =
    let took = takes (mdt_got d.address (phase_at d rate h) (store_at d rate h) content) (annals d rate h) in
    elim (cases_Bool (nat_le 3 (phase_at d rate h) && (not took && has_missed (annals d rate h)))) [
      | inl is ↦
          let (late, both) = and_parts (nat_le 3 (phase_at d rate h)) (not took && has_missed (annals d rate h)) is in
          let (none, before) = and_parts (not took) (has_missed (annals d rate h)) both in
          ByMdt content refl (sym (now_same d rate content h) ∙ rw (late, none) refl) (sym (missed_same d rate h) ∙ before)
      | inr is ↦ absurd (omega (arith, high, (rw is at zero)))
    ]
drops_so d rate (Mst cycle content) h high zero =
    let down : stands_in d rate cycle (mst_got content) (annals d rate h) ≡ 0 = zero in
    elim (stands_by d rate cycle (annals d rate h) (mst_got content)) [
      | GotNone none some same ↦ absurd (omega (arith, high, down, same))
      | MissesTwo none missed is ↦ ByMst cycle content refl none (none_got (newest_got h) (sym (got_same d rate h) ∙ missed))
      | GotOwn phase got own same ↦ absurd (omega (arith, high, down, same, own))
      | GotNext phase got next may same ↦ absurd (omega (arith, down, same, next))
      | GotOther phase got apart never is ↦
          ByPhase cycle phase content refl got apart
          (λ next has. never next (so_passed d rate cycle phase h (mst_low content phase got) has))
    ]

so_drops : (d : DriveView) (rate : ℕ) (call : DriveCall) (h : List DriveCall) → Drops d rate call h → phase_at d rate (call ∷ h) ≡ 0
so_drops d rate call h (ByRestart is) = ap (λ (c : DriveCall). phase_at d rate (c ∷ h)) is
so_drops d rate call h (ByMdt content is now before) =
    let took = takes (mdt_got d.address (phase_at d rate h) (store_at d rate h) content) (annals d rate h) in
    ap (λ (c : DriveCall). phase_at d rate (c ∷ h)) is ∙
    let parts = and_parts (nat_le 3 (phase_at d rate h)) (not took) (now_same d rate content h ∙ now) in
    rw (parts.0, parts.1, missed_same d rate h ∙ before) refl
so_drops d rate call h (ByMst cycle content is none before) =
    ap (λ (c : DriveCall). phase_at d rate (c ∷ h)) is ∙ ap (λ (o : Option ℕ). stands_in d rate cycle o (annals d rate h)) none ∙ rw (got_same d rate h ∙ ap is_some before) refl
so_drops d rate call h (ByPhase cycle phase content is got other never) =
    ap (λ (c : DriveCall). phase_at d rate (c ∷ h)) is ∙ ap (λ (o : Option ℕ). stands_in d rate cycle o (annals d rate h)) got
    ∙ elim (cases_Bool (phase == phase_at d rate h)) [
      | inl stays ↦ absurd (other (grind (arith, nat_tests, stays)))
      | inr stays ↦ elim (cases_Bool ((phase == phase_at d rate h + 1) && may_rise d rate cycle phase (annals d rate h))) [
        | inl rise ↦ rw (stays, rise) (
            let (one, has) = and_parts (phase == phase_at d rate h + 1) (may_rise d rate cycle phase (annals d rate h)) rise in
            absurd (never (grind (arith, nat_tests, one)) (passed_so d rate cycle phase h has)))
        | inr rise ↦ rw (stays, rise)
      ]
    ]

pub drops_by_cause : DropsByCause
drops_by_cause d rate call h high = (drops_so d rate call h high, so_drops d rate call h)
