-- Cycles in which every telegram comes.
use Rattle.sercos_law_channel.proofs.Words.{cases_Option, ◌≡◌, ◌⊎◌, inl, inr, ℕ, ◌+◌, ◌≤◌, true, ◌&&◌, List, [], ◌∷◌, ◌++◌, length, refl, sym, ap, ◌∙◌, arith, nat_le, Option, Some, None, IsSome, is_some, cases_eq, and_from, le-leb, cond-true, cond-false, Request, Begun, Said, open_in, answers_in, Heard, View, got_in, standing, stood_in, record_in, processed_of, command, with_heard, with_begun, unless_restart, epoch_begun, begun_in, IsRun, IsClean, AreClean, was_addressed, IsWhole, AreWhole, IsPassed, IsUp, AreUp, StandsThroughout, StaysClean, AreHeard, HearsThroughout, IsCleanOrDown, RecoversInTime, StaysDead}
use Rattle.sercos_law_channel.proofs.Handshake.PhaseMoves.{ends}
use Rattle.sercos_law_channel.proofs.Handshake.EpochRuns.{commanded, start, start_begun, two_ways, unless_restart-on}
use Rattle.sercos_law_channel.proofs.Handshake.RunFacts.{stands_as_commanded, stays_down, stood_by, ended_by, stands_down}
use Rattle.sercos_law_channel.proofs.Pace.LateRuns.{takes_time_since}
use Rattle.sercos_law_channel.proofs.Pace.EpochBegins.{none_begun}
pub use Rattle.sercos_law_channel.proofs.Handshake.RunFacts.{moved_next}
pub use Rattle.sercos_law_channel.proofs.Handshake.EpochRuns.{next_phase}

-- a record that is sent comes to the drive
pub got_some : (v : View) → v.mdt_comes ≡ true → is_some v.sent ≡ true → is_some (got_in v) ≡ true
got_some v comes sent = ap is_some (cond-true v.mdt_comes v.sent None comes) ∙ sent

pub processed_some : (v : View) (cycle stood : ℕ) (o : Option Said) → v.mst_comes ≡ true → 2 ≤ stood → is_some o ≡ true → is_some (processed_of v cycle stood o) ≡ true
processed_some v cycle stood None came two some = absurd (cc)
processed_some v cycle stood (Some s) came two some = ap is_some (cond-true (v.mst_comes && nat_le 2 stood) (Some (record_in v cycle stood s)) None (and_from v.mst_comes (nat_le 2 stood) came (le-leb 2 stood two)))

-- a drive in the commanded phase, or in the one below with its check passed, comes to it in a whole cycle and stays
pub up_by : (v : View) (past : List View) → IsWhole v past → IsPassed v past → ((standing past).ended ≡ v.phase) ⊎ ((standing past).ended + 1 ≡ v.phase) → IsUp v past
up_by v past whole passed was =
    let stood = stood_by v past whole.mst whole.drive passed was in
    let got : 3 ≤ v.phase → is_some (got_in v) ≡ true = λ late.
    let sent = whole.joint late in got_some v (whole.mdt sent (omega (arith, stood, late))) sent in
    (stood, ended_by v past whole.mst stood got)

module _ (busy : ℕ) where
  -- while a step is open, phase 2 or later is commanded
  pub open_late : (v : View) (past : List View) → IsRun busy (v ∷ past) → is_some (open_in (begun_in v past)) ≡ true → 2 ≤ v.phase
  open_late v past run some = elim (two_ways v.phase) [
    | inl low ↦ let none : open_in (begun_in v past) ≡ None = ap open_in (start_begun busy v past run.1 low (start busy v past run low).0) in absurd (cc)
    | inr two ↦ two
  ]

  open_later : (v : View) (past : List View) → IsRun busy (v ∷ past) → is_some (open_in (unless_restart v (epoch_begun past))) ≡ true → 2 ≤ v.phase
  open_later v past run some = elim (two_ways v.phase) [
    | inl low ↦ let none : open_in (unless_restart v (epoch_begun past)) ≡ None = ap open_in (start busy v past run low).0 in absurd (cc)
    | inr two ↦ two
  ]

  -- a step that is open at the end of a whole cycle was sent in it, and came to the drive
  addressed : (u : View) (past : List View) → IsRun busy (u ∷ past) → IsWhole u past → (2 ≤ u.phase → 1 ≤ stood_in u (standing past)) → is_some (open_in (epoch_begun (u ∷ past))) ≡ true → was_addressed (u ∷ past) ≡ true
  addressed u past run whole up some =
      let at : is_some (open_in (begun_in u past)) ≡ true = ap (λ (l : List Begun). is_some (open_in l)) (sym (cond-false u.falls [] (begun_in u past) whole.stays)) ∙ some in
      let sent = whole.sends at in
      and_from u.mst_comes (is_some (got_in u)) whole.mst (got_some u (whole.mdt sent (up (open_late u past run at))) sent)

  -- a whole cycle in which the drive stands in the commanded phase is clean, if an open step came to it in the cycle before
  clean_so : (v : View) (past : List View) → IsRun busy (v ∷ past) → IsWhole v past → (2 ≤ v.phase → is_some (open_in (epoch_begun past)) ≡ true → was_addressed past ≡ true) → (2 ≤ v.phase → stood_in v (standing past) ≡ v.phase) → IsClean v past
  clean_so v past run whole addressed up = record {
    stays = whole.stays;
    goes_on = whole.master;
    undisturbed = record {
      hears = λ some.
          let two = open_later v past run some in
          let at : is_some (open_in (epoch_begun past)) ≡ true = ap (λ (l : List Begun). is_some (open_in l)) (sym (unless_restart-on v (epoch_begun past) whole.master)) ∙ some in
          let same = up two in
          whole.hears at (addressed two at) (omega arith);
      takes = λ some.
          let two = open_late v past run some in
          let same = up two in
          let sent = whole.sends some in
          let comes = whole.mdt sent (omega arith) in
          processed_some v (length past) (stood_in v (standing past)) (got_in v) whole.mst (omega arith) (got_some v comes sent);
    };
  }

  -- so one that stands later was up in the cycle before
  was_up : (v u : View) (past : List View) → 2 ≤ v.phase → stood_in v (standing (u ∷ past)) ≡ v.phase → 1 ≤ stood_in u (standing past)
  was_up v u past two up = elim (cases_eq (standing (u ∷ past)).ended 0) [
    | inl z ↦ let down = stands_down v (u ∷ past) z two in absurd (omega arith)
    | inr nz ↦ elim (ends u past) [ inl z ↦ absurd (nz z) | inr same ↦ omega (arith, same, nz) ]
  ]

  -- From the start of an epoch on.

  -- in phase 0 only the MST is needed
  zero_up : (v : View) (past : List View) → IsWhole v past → v.phase ≡ 0 → IsUp v past
  zero_up v past whole zero =
      let stood : stood_in v (standing past) ≡ 0 = elim (stands_as_commanded v past whole.mst) [ inl z ↦ z | inr same ↦ same ∙ zero ] in
      (stood ∙ sym zero, elim (ends v past) [ inl z ↦ z ∙ sym zero | inr same ↦ same ∙ stood ∙ sym zero ])

  phase_is : (v : View) (past : List View) → IsRun busy (v ∷ past) → IsWhole v past → v.phase ≡ command past
  phase_is v past run whole = elim (commanded v past run.1.commanded) [ inl r ↦ absurd (let on = r.0 in let off = whole.master in cc) | inr c ↦ c.1 ]

  pub stands_throughout : StandsThroughout busy
  stands_throughout [] past run begins whole passed = tt
  stands_throughout (v ∷ []) past run begins whole passed = (tt, zero_up v past whole.1 (phase_is v past run whole.1 ∙ begins))
  stands_throughout (v ∷ u ∷ cycles) past run begins whole passed =
      let before = stands_throughout (u ∷ cycles) past run.0 begins whole.0 passed.0 in
      let is = phase_is v (u ∷ (cycles ++ past)) run whole.1 in
      (before, up_by v (u ∷ (cycles ++ past)) whole.1 passed.1 (elim (next_phase u (cycles ++ past) whole.0.1.stays) [ inl same ↦ inl (before.1.1 ∙ sym same ∙ sym is) | inr up ↦ inr (let at = before.1.1 in omega arith) ]))

  pub stays_clean : StaysClean busy
  stays_clean cycles past run begins whole passed = by cycles run whole (stands_throughout cycles past run begins whole passed)
    where
      by : (cycles : List View) → IsRun busy (cycles ++ past) → AreWhole cycles past → AreUp cycles past → AreClean cycles past
      by [] run whole up = tt
      by (v ∷ []) run whole up = (tt, clean_so v past run whole.1 (λ two some. let none : open_in (epoch_begun past) ≡ None = ap open_in (none_begun busy past run.0 begins) in absurd (cc)) (λ two. up.1.0))
      by (v ∷ u ∷ cycles) run whole up = (by (u ∷ cycles) run.0 whole.0 up.0, clean_so v (u ∷ (cycles ++ past)) run whole.1 (λ two. addressed u (cycles ++ past) run.0 whole.0.1 (λ late. let same = up.0.1.0 in omega (arith, same, late))) (λ two. up.1.0))

  -- so the master hears it
  pub hears_throughout : HearsThroughout busy
  hears_throughout cycles past run begins whole passed = by cycles whole (stands_throughout cycles past run begins whole passed)
    where
      by : (cycles : List View) → AreWhole cycles past → AreUp cycles past → AreHeard cycles past
      by [] whole up = tt
      by (v ∷ cycles) whole up = (by cycles whole.0 up.0, λ late. let stood = up.1.0 in whole.1.listens late (omega (arith, stood, late)))

  -- After whatever was lost.

  abbrev StandsUp : List View → List View → Type 0
  StandsUp [] past = Unit {0}
  StandsUp (v ∷ cycles) past = StandsUp cycles past × (2 ≤ v.phase → stood_in v (standing (cycles ++ past)) ≡ v.phase)

  low_before : (v u : View) (past : List View) → IsRun busy (v ∷ u ∷ past) → IsWhole v (u ∷ past) → IsWhole u past → v.phase ≤ 1 → u.phase ≤ 1
  low_before v u past run whole earlier low =
      let is = phase_is v (u ∷ past) run whole in
      elim (next_phase u past earlier.stays) [ inl same ↦ omega arith | inr up ↦ omega arith ]

  low_up : (v : View) (cycles past : List View) → IsRun busy (v ∷ (cycles ++ past)) → AreWhole (v ∷ cycles) past → v.phase ≤ 1 → StandsUp (v ∷ cycles) past
  low_up v [] past run whole low = (tt, λ two. absurd (omega arith))
  low_up v (u ∷ cycles) past run whole low = (low_up u cycles past run.0 whole.0 (low_before v u (cycles ++ past) run whole.1 whole.0.1 low), λ two. absurd (omega arith))

  up_or_down : (cycles past : List View) → IsRun busy (cycles ++ past) → AreWhole cycles past → ((standing (cycles ++ past)).ended ≡ 0) ⊎ StandsUp cycles past
  up_or_down [] past run whole = inr tt
  up_or_down (v ∷ cycles) past run whole = elim (two_ways v.phase) [
    | inl low ↦ inr (low_up v cycles past run whole low)
    | inr two ↦ elim (cases_eq (standing (v ∷ (cycles ++ past))).ended 0) [
      | inl z ↦ inl z
      | inr nz ↦ elim (up_or_down cycles past run.0 whole.0) [
        | inl down ↦ absurd (nz (stays_down v (cycles ++ past) down two))
        | inr up ↦ inr (
          up,
          λ late. elim (stands_as_commanded v (cycles ++ past) whole.1.mst)
              [ inl z ↦ absurd (nz (elim (ends v (cycles ++ past)) [ inl y ↦ y | inr same ↦ same ∙ z ])) | inr is ↦ is ],
        )
      ]
    ]
  ]

  pub is_clean_or_down : IsCleanOrDown busy
  is_clean_or_down cycles first past run one whole = elim (up_or_down cycles (first ∷ past) run whole) [ inl down ↦ inl down | inr up ↦ inr (by cycles run whole up) ]
    where
      by : (cycles : List View) → IsRun busy (cycles ++ first ∷ past) → AreWhole cycles (first ∷ past) → StandsUp cycles (first ∷ past) → AreClean cycles (first ∷ past)
      by [] run whole up = tt
      by (v ∷ []) run whole up = (tt, clean_so v (first ∷ past) run whole.1 (λ two. addressed first past run.0 one (λ late. was_up v first past two (up.1 two))) up.1)
      by (v ∷ u ∷ cycles) run whole up = (by (u ∷ cycles) run.0 whole.0 up.0, clean_so v (u ∷ (cycles ++ first ∷ past)) run whole.1 (λ two. addressed u (cycles ++ first ∷ past) run.0 whole.0.1 (λ late. was_up v u (cycles ++ first ∷ past) two (up.1 two))) up.1)

  pub recovers_in_time : RecoversInTime busy
  recovers_in_time cycles first past run one whole = elim (is_clean_or_down cycles first past run one whole) [ inl down ↦ inl down | inr clean ↦ inr (takes_time_since busy cycles (first ∷ past) run clean) ]

  -- A drive in phase 0.

  pub stays_dead : StaysDead busy
  stays_dead v past run zero two = record {
    stands = stands_down v past zero two;
    ended = stays_down v past zero two;
    heard = none;
    answers = elim (cases_Option v.begins) [ inl none ↦ rw none (ap answers_in unheard) | inr some ↦ rw some.1 (ap answers_in unheard) ];
    waits = λ some. still v.begins some run.1.begins;
  }
    where
      none : v.heard ≡ None
      none = elim (cases_Option v.heard) [
        | inl off ↦ off
        | inr (a, some) ↦ let up = (rw some at run.1.heard).stands in absurd (omega (arith, stands_down v past zero two))
      ]

      unheard : with_heard v.heard (unless_restart v (epoch_begun past)) ≡ unless_restart v (epoch_begun past)
      unheard = ap (λ (o : Option Heard). with_heard o (unless_restart v (epoch_begun past))) none

      still : (o : Option Request) → is_some (open_in (unless_restart v (epoch_begun past))) ≡ true → (IsSome o → open_in (with_heard v.heard (unless_restart v (epoch_begun past))) ≡ None) → with_begun o (with_heard v.heard (unless_restart v (epoch_begun past))) ≡ unless_restart v (epoch_begun past)
      still None some shut = unheard
      still (Some r) some shut = let off : open_in (unless_restart v (epoch_begun past)) ≡ None = ap open_in (sym unheard) ∙ shut refl in absurd (cc)
