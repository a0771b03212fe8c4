-- The laws on phases, and on each cycle.
use Rattle.sercos_law_channel.proofs.Words.{◌≡◌, ◌⊎◌, inl, inr, ℕ, suc, ◌+◌, ◌≤◌, Bool, true, false, not, ◌&&◌, ◌||◌, List, [], ◌∷◌, length, refl, sym, ap, ap₂, ◌∙◌, subst, arith, if◌then◌else◌, nat_le, ◌==◌, max, is_some, cases_eq, and_from, leb-true, le-leb, eq-eqb, ne_eqb, cond-true, cond-false, beq, Processed, Entry, ahs, reply_of, log_of, AreInStep, View, Standing, afresh, before_mst, moved, got_in, takes_in, standing, stood_in, record_in, kept_in, accepted_of, all_entries, begun_in, phase_commanded, StandsNoLater, StaysDown, ComesUp, KeepsUp, AreBefore, AcceptsInOrder, ProcessesInPhase, ComesToZero, Handshake, cond_both, cases_Bool}
use Rattle.sercos_law_channel.proofs.Handshake.PhaseMoves.{Stands, Down, Moves, Stays, stands, before, ends, Nothing, Record, processes, processed_phase, of_processed}
use Rattle.sercos_law_channel.proofs.Handshake.EpochRuns.{commanded, joined, in_step_in, same_log}
pub use Rattle.sercos_law_channel.proofs.Handshake.PhaseMoves.{stands_as_commanded}

-- where the MST came it ends no later than its phase
beat_ends : (u : View) (past : List View) → (standing (u ∷ past)).got_mst ≡ true → (standing (u ∷ past)).ended ≤ u.phase
beat_ends u past got_mst = elim (ends u past) [
  | inl y ↦ omega arith
  | inr e ↦ elim (stands_as_commanded u past got_mst) [ inl z ↦ omega arith | inr same ↦ omega arith ]
]

pub stands_no_later : StandsNoLater
stands_no_later v past = by past (stands v (standing past))
  where
    by : (past : List View) → Stands v (standing past) → stood_in v (standing past) ≤ max v.phase (phase_commanded past)
    by past (Down z) = omega arith
    by past (Moves m is down up) = omega arith
    by [] (Stays missed got_mst still is) = omega arith
    by (u ∷ past) (Stays missed got_mst still is) = let le = beat_ends u past got_mst in omega arith

pub processes_in_phase : ProcessesInPhase
processes_in_phase v past t is = elim (processes v past) [
  | Nothing none ↦ absurd (cc)
  | Record s got came two some ↦
      let same : record_in v (length past) (stood_in v (standing past)) s ≡ t = cc in
      let phase : t.phase ≡ stood_in v (standing past) = ap (λ (x : Processed). x.phase) (sym same) in
      (phase ∙ processed_phase v past came (omega arith), ap (λ (x : Processed). x.cycle) (sym same), omega arith)
]

pub handshake : (busy : ℕ) → Handshake busy
handshake busy v past run two on = elim (same_log busy v past run (omega arith)) [
  | inl z ↦ absurd (omega arith)
  | inr same ↦ subst (λ (h : List Processed). AreInStep (begun_in v past) (log_of h)) (sym same) (in_step_in busy v past run)
]

pub comes_to_zero : (busy : ℕ) → ComesToZero busy
comes_to_zero busy past run two = (joined busy past run).two_zero two

-- while 2 to 4 is commanded, a drive in phase 0 stands there
pub stands_down : (v : View) (past : List View) → (standing past).ended ≡ 0 → 2 ≤ v.phase → stood_in v (standing past) ≡ 0
stands_down v past zero two = elim (stands v (standing past)) [
  | Down z ↦ z
  | Moves m is down up ↦ elim (before v (standing past)) [
    | inl r ↦ let none = ap (λ (f : Standing). f.ended) r.1 in absurd (omega arith)
    | inr on ↦ let same = ap (λ (f : Standing). f.ended) on.1 in absurd (omega arith)
  ]
  | Stays missed got_mst still is ↦ is ∙ zero
]

pub stays_down : StaysDown
stays_down v past zero two = elim (ends v past) [ inl z ↦ z | inr same ↦ same ∙ stands_down v past zero two ]

-- a move by an MST
pub comes_to : (v : View) (f : Standing) (q : ℕ) → v.mst_comes ≡ true → (before_mst v f).ended ≡ q → stood_in v f ≡ moved v.checked v.phase q
comes_to v f q came is = cond-true v.mst_comes _ _ came ∙ ap (moved v.checked v.phase) is

pub moved_same : (checked : Bool) (p : ℕ) → moved checked p p ≡ p
moved_same checked p = cond-true (p == p) p _ (eq-eqb p p refl)

-- the step up to the next phase
pub moved_next : (checked : Bool) (p q : ℕ) → q + 1 ≡ p → (3 ≤ p → checked ≡ true) → moved checked p q ≡ p
moved_next checked p q up on =
    let other : (p == q) ≡ false = ne_eqb p q (λ same. omega arith) in
    let next : (p == q + 1) ≡ true = eq-eqb p (q + 1) (sym up) in
    cond-false (p == q) p _ other ∙ cond-true ((p == q + 1) && (nat_le p 2 || checked)) p 0 (and_from (p == q + 1) (nat_le p 2 || checked) next (allowed (nat_le p 2) refl))
  where
    allowed : (low : Bool) → nat_le p 2 ≡ low → (low || checked) ≡ true
    allowed true is = refl
    allowed false is = on (grind (arith, is))

moved_one : (checked : Bool) (q : ℕ) → q ≤ 1 → moved checked 1 q ≡ 1
moved_one checked q low = elim (cases_eq q 0) [ inl z ↦ rw z refl | inr more ↦ let one : q ≡ 1 = omega arith in rw one refl ]

pub comes_up : (busy : ℕ) → ComesUp busy
comes_up busy v past run low came = elim (cases_eq v.phase 0) [
  | inl zero ↦ elim (stands_as_commanded v past came) [ inl z ↦ z ∙ sym zero | inr same ↦ same ]
  | inr more ↦
      let one : v.phase ≡ 1 = omega arith in
      let at : (before_mst v (standing past)).ended ≤ 1 = elim (before v (standing past)) [
        | inl r ↦ let none = ap (λ (f : Standing). f.ended) r.1 in omega arith
        | inr on ↦ let same = ap (λ (f : Standing). f.ended) on.1 in elim (commanded v past run.1.commanded) [
          | inl r ↦ absurd (omega (arith, r.1))
          | inr c ↦ let below = (joined busy past run.0).one (sym c.1 ∙ one) in omega arith
        ]
      ] in
      comes_to v (standing past) (before_mst v (standing past)).ended came refl ∙ ap (λ (p : ℕ). moved v.checked p (before_mst v (standing past)).ended) one ∙ moved_one v.checked (before_mst v (standing past)).ended at ∙ sym one
]

-- a drive in the commanded phase, or in the one below with its check passed, comes to it in a cycle in which it gets the MST
pub stood_by : (v : View) (past : List View) → v.mst_comes ≡ true → v.drive_restarts ≡ false →
    (3 ≤ v.phase → (standing past).ended + 1 ≡ v.phase → v.checked ≡ true) →
    ((standing past).ended ≡ v.phase) ⊎ ((standing past).ended + 1 ≡ v.phase) → stood_in v (standing past) ≡ v.phase
stood_by v past came still checked was =
    comes_to v (standing past) (standing past).ended came (ap (λ (f : Standing). f.ended)
    (cond-false v.drive_restarts afresh (standing past) still)) ∙ elim was [
      | inl e ↦ ap (moved v.checked v.phase) e ∙ moved_same v.checked v.phase
      | inr up ↦ moved_next v.checked v.phase (standing past).ended up (λ late. checked late up)
    ]

-- and stays there, if it gets its record in phases 3 and 4
pub ended_by : (v : View) (past : List View) → v.mst_comes ≡ true → stood_in v (standing past) ≡ v.phase →
    (3 ≤ v.phase → is_some (got_in v) ≡ true) →
    (standing (v ∷ past)).ended ≡ v.phase
ended_by v past came stood takes = elim (cases_Bool (nat_le 3 (stood_in v (standing past)))) [
  | inl on ↦
      let three = leb-true 3 (stood_in v (standing past)) on in
      let got = and_from (nat_le 1 (stood_in v (standing past))) (is_some (got_in v)) (le-leb 1 (stood_in v (standing past)) (omega (arith, three))) (takes (omega (arith, stood, three))) in
      ap₂ (λ (a t : Bool). if a && (not t && (before_mst v (standing past)).missed_mdt) then 0 else stood_in v (standing past)) on (and_from v.mst_comes _ came got) ∙ stood
  | inr off ↦ ap (λ (a : Bool). if a && (not (takes_in v (stood_in v (standing past))) && (before_mst v (standing past)).missed_mdt) then 0 else stood_in v (standing past)) off ∙ stood
]

pub keeps_up : KeepsUp
keeps_up v past came still checked was takes =
    let stood = stood_by v past came still (λ late up. checked) was in (stood, ended_by v past came stood takes)

before-weaker : (n k : ℕ) (entries : List Entry) → n ≤ k → AreBefore n entries → AreBefore k entries
before-weaker n k [] le are = tt
before-weaker n k (e ∷ entries) le are = (let less = are.0 in omega arith, are.1)

pub accepts_in_order : AcceptsInOrder
accepts_in_order [] = tt
accepts_in_order (v ∷ past) =
    of_processed v past (λ o. AreBefore (suc (length past)) (accepted_of o (kept_in v past) (all_entries past)))
    (before-weaker (length past) (suc (length past)) (all_entries past) (omega arith) (accepts_in_order past))
    (λ s got came two. cond_both (beq (record_in v (length past) (stood_in v (standing past)) s).mhs (ahs (kept_in v past)))
    (all_entries past) ((record {
      processed = (record_in v (length past) (stood_in v (standing past)) s);
      answer = reply_of
          (record_in v (length past) (stood_in v (standing past)) s) (log_of (kept_in v past));
    }) ∷ all_entries past)
    (AreBefore (suc (length past)))
    (λ same. before-weaker (length past) (suc (length past)) (all_entries past) (omega arith) (accepts_in_order past))
    (λ other. (omega arith, subst (λ (n : ℕ). AreBefore n (all_entries past)) (sym refl) (accepts_in_order past))))
