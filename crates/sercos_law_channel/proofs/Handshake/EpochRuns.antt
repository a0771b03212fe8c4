-- Over falls and restarts: the drive is in step with the epoch of the master.
use Rattle.sercos_law_channel.proofs.Words.{◌≡◌, ◌⊎◌, inl, inr, ℕ, suc, ◌+◌, ◌≤◌, Bool, true, false, not, ◌&&◌, List, [], ◌∷◌, length, refl, sym, ap, ◌∙◌, subst, arith, if◌then◌else◌, ◌==◌, Option, Some, None, IsSome, IfSome, cases_eq, cases_Bool, eqb-true, cond-true, cond-false, Request, change_in, Processed, Entry, reply_of, log_of, channel_says, shown_by, Begun, Said, open_in, master_says, AreInStep, Idle, Heard, View, Standing, stood_in, got_in, standing, record_in, processed_in, with_record, kept_in, since_reset, command, command_in, whole_row, with_heard, with_begun, unless_restart, epoch_begun, begun_in, epoch_records, records_in_views, epoch_log, log_in, IsShown, IsNext, IsRun, zero_run}
use Rattle.sercos_law_channel.proofs.Handshake.HandshakeMoves.{hears, begins, takes, ahs-log, log-taken}
use Rattle.sercos_law_channel.proofs.Handshake.PhaseMoves.{chosen, Stands, Down, Moves, Stays, stands, before, ends, processed_phase, kept_on, kept_below, reset_on, of_processed, uncut}

whole_le_zero : (whole here there restart : Bool) (a b : ℕ) → a ≤ b → (if whole && (here && not there) then (if restart then 0 else a) + 1 else 0) ≤ (if here then b + 1 else 0)
whole_le_zero true true false true a b le = omega arith
whole_le_zero true true false false a b le = omega arith
whole_le_zero true true true r a b le = omega arith
whole_le_zero true false there r a b le = omega arith
whole_le_zero false here there r a b le = omega arith

pub whole_row-le : (past : List View) → whole_row past ≤ zero_run past
whole_row-le [] = omega arith
whole_row-le (v ∷ past) = whole_le_zero v.whole (v.phase == 0) v.falls v.master_restarts (whole_row past) (zero_run past) (whole_row-le past)

run_parts : (b : Bool) (n k : ℕ) → suc k ≤ (if b then n + 1 else 0) → (b ≡ true) × (k ≤ n)
run_parts true n k le = (refl, omega arith)
run_parts false n k le = absurd (omega arith)

pub command_up : (falls rises : Bool) (p : ℕ) → 1 ≤ (if falls then 0 else (if rises then p + 1 else p)) → (falls ≡ false) × ((rises ≡ true) ⊎ (1 ≤ p))
command_up true rises p h = absurd (omega arith)
command_up false true p h = (refl, inl refl)
command_up false false p h = (refl, inr h)

-- the phase that is commanded after a cycle without a fall
pub next_phase : (u : View) (past : List View) → u.falls ≡ false → (command (u ∷ past) ≡ u.phase) ⊎ (command (u ∷ past) ≡ u.phase + 1)
next_phase u past on = elim (chosen u.rises (u.phase + 1) u.phase) [
  | inl up ↦ inr (cond-false u.falls 0 _ on ∙ up.1)
  | inr rests ↦ inl (cond-false u.falls 0 _ on ∙ rests.1)
]

command_one : (falls rises : Bool) (p : ℕ) → (if falls then 0 else (if rises then p + 1 else p)) ≡ 1 → ((rises ≡ true) × (p ≡ 0)) ⊎ (p ≡ 1)
command_one true rises p h = absurd (omega arith)
command_one false true p h = inl (refl, omega arith)
command_one false false p h = inr h

pub two_ways : (p : ℕ) → (p ≤ 1) ⊎ (2 ≤ p)
two_ways p = elim (cases_eq p 0) [ inl z ↦ inl (omega arith) | inr nz ↦ elim (cases_eq p 1) [ inl one ↦ inl (omega arith) | inr more ↦ inr (omega arith) ] ]

-- the commanded phase of a cycle: 0 where the master restarts
pub commanded : (v : View) (past : List View) → v.phase ≡ command_in v past → ((v.master_restarts ≡ true) × (v.phase ≡ 0)) ⊎ ((v.master_restarts ≡ false) × (v.phase ≡ command past))
commanded v past is = elim (chosen v.master_restarts 0 (command past)) [
  | inl r ↦ inl (r.0, is ∙ r.1)
  | inr on ↦ inr (on.0, is ∙ on.1)
]

-- what an epoch has after a cycle without a fall
pub begun_on : (v : View) (past : List View) → v.falls ≡ false → epoch_begun (v ∷ past) ≡ begun_in v past
begun_on v past on = cond-false v.falls [] (begun_in v past) on

pub log_on : (v : View) (past : List View) → v.falls ≡ false → epoch_log (v ∷ past) ≡ log_in v past
log_on v past on = ap log_of (cond-false v.falls [] (records_in_views v past) on)

pub unless_restart-on : {A : Type 0} (v : View) (xs : List A) → v.master_restarts ≡ false → unless_restart v xs ≡ xs
unless_restart-on v xs on = cond-false v.master_restarts [] xs on

unless_restart-none : {A : Type 0} (v : View) (xs : List A) → (v.master_restarts ≡ false → xs ≡ []) → unless_restart v xs ≡ []
unless_restart-none v xs none = elim (chosen v.master_restarts [] xs) [ inl r ↦ r.1 | inr on ↦ on.1 ∙ none on.0 ]

-- Before phase 2 nothing is begun and nothing accepted.

pub heard_none : (o : Option Heard) → with_heard o [] ≡ []
heard_none None = refl
heard_none (Some a) = refl

begun_none : (o : Option Request) (begun : List Begun) → (IsSome o → ⊥) → with_begun o begun ≡ begun
begun_none None begun none = refl
begun_none (Some r) begun none = absurd (none refl)

module _ (busy : ℕ) where
  -- a cycle commanded 0 or 1
  pub start_begun : (v : View) (past : List View) → IsNext busy v past → v.phase ≤ 1 → unless_restart v (epoch_begun past) ≡ [] → begun_in v past ≡ []
  start_begun v past next low none =
      begun_none v.begins (with_heard v.heard (unless_restart v (epoch_begun past))) (λ some. let two = next.late some in omega arith)
      ∙ ap (with_heard v.heard) none ∙ heard_none v.heard

  start_processed : (v : View) (past : List View) → v.phase ≤ 1 → processed_in v past ≡ None
  start_processed v past low =
      of_processed v past (λ o. o ≡ None) refl (λ s got came two. let same = processed_phase v past came (omega arith) in absurd
      (omega arith))

  pub quiet : (past : List View) → IsRun busy past → command past ≤ 1 → (epoch_begun past ≡ []) × (epoch_records past ≡ [])
  quiet [] run low = (refl, refl)
  quiet (v ∷ past) run low = elim (cases_Bool v.falls) [
    | inl fell ↦ (cond-true v.falls [] (begun_in v past) fell, cond-true v.falls [] (records_in_views v past) fell)
    | inr on ↦
        let p : v.phase ≤ 1 = elim (next_phase v past on) [ inl same ↦ omega (arith, low) | inr up ↦ omega (arith, low) ] in
        let earlier : v.master_restarts ≡ false → (epoch_begun past ≡ []) × (epoch_records past ≡ []) = λ still. quiet past run.0 (elim (commanded v past run.1.commanded) [ inl r ↦ absurd (cc) | inr c ↦ omega (arith, c.1) ]) in
        let taken : records_in_views v past ≡ [] =
        ap (λ (o : Option Processed). with_record o (unless_restart v (epoch_records past))) (start_processed v past p) ∙ unless_restart-none v (epoch_records past) (λ still. (earlier still).1) in
        let begun : begun_in v past ≡ [] = start_begun v past run.1 p (unless_restart-none v (epoch_begun past) (λ still. (earlier still).0)) in
        (cond-false v.falls [] (begun_in v past) on ∙ begun, cond-false v.falls [] (records_in_views v past) on ∙ taken)
  ]

  -- what is there at the start of a cycle commanded 0 or 1
  pub start : (v : View) (past : List View) → IsRun busy (v ∷ past) → v.phase ≤ 1 → (unless_restart v (epoch_begun past) ≡ []) × (unless_restart v (epoch_records past) ≡ [])
  start v past run low =
      let earlier : v.master_restarts ≡ false → (epoch_begun past ≡ []) × (epoch_records past ≡ []) = λ still. quiet past run.0 (elim (commanded v past run.1.commanded) [ inl r ↦ absurd (cc) | inr c ↦ omega (arith, c.1) ]) in
      (unless_restart-none v (epoch_begun past) (λ still. (earlier still).0), unless_restart-none v (epoch_records past) (λ still. (earlier still).1))

  -- The drive over the cycles.

  pub record Joined (past : List View) : Type 0 where
    -- after the first cycle of phase 0 it is in 0 or didn't get the MST, and after the second it is in 0
    pub one_zero : 1 ≤ zero_run past → ((standing past).ended ≡ 0) ⊎ ((standing past).got_mst ≡ false)
    pub two_zero : 2 ≤ zero_run past → (standing past).ended ≡ 0
    pub one : command past ≡ 1 → (standing past).ended ≤ 1
    -- a drive that isn't in 0 has the records of this epoch
    pub same : 1 ≤ command past → ((standing past).ended ≡ 0) ⊎ (since_reset past ≡ epoch_records past)

  -- in a cycle commanded 1 it comes to 1 at most
  stood_one : (v : View) (past : List View) → IsNext busy v past → Joined past → v.phase ≡ 1 → stood_in v (standing past) ≤ 1
  stood_one v past next j one = by (stands v (standing past))
    where
      by : Stands v (standing past) → stood_in v (standing past) ≤ 1
      by (Down z) = omega arith
      by (Moves m is down up) = omega arith
      by (Stays missed got_mst still is) = elim (commanded v past next.commanded) [
        | inl r ↦ absurd (omega (arith, r.1))
        | inr c ↦ let low = j.one (sym c.1 ∙ one) in omega arith
      ]

  -- at the MST of a cycle commanded 1 or later, a drive that isn't in 0 has the records of this epoch
  pub same_at : (v : View) (past : List View) → IsRun busy (v ∷ past) → Joined past → 1 ≤ v.phase → (stood_in v (standing past) ≡ 0 → ⊥) → kept_in v past ≡ unless_restart v (epoch_records past)
  same_at v past run j up nz = elim (cases_eq v.phase 1) [
    | inl one ↦ kept_below v past (stood_one v past run.1 j one) ∙ sym (start v past run (omega arith)).1
    | inr more ↦ elim (commanded v past run.1.commanded) [
      | inl r ↦ absurd (omega (arith, r.1))
      | inr c ↦
          let at = carried (omega arith) (stands v (standing past)) in
          kept_on v past at.0 nz ∙ elim (j.same (omega (arith, c.1))) [ inl z ↦ absurd (omega (arith, at.1)) | inr e ↦ e ] ∙ sym (unless_restart-on v (epoch_records past) c.0)
    ]
  ]
    where
      carried : 2 ≤ v.phase → Stands v (standing past) → (v.drive_restarts ≡ false) × (1 ≤ (standing past).ended)
      carried two (Down z) = absurd (nz z)
      carried two (Moves m is down high) = elim (before v (standing past)) [
        | inl r ↦ let zero = ap (λ (f : Standing). f.ended) r.1 in absurd (omega arith)
        | inr on ↦ let same = ap (λ (f : Standing). f.ended) on.1 in (on.0, omega arith)
      ]
      carried two (Stays missed got_mst still is) = (still, omega arith)

  -- a cycle of phase 0
  zero_cycle : (v : View) (past : List View) → v.phase ≡ 0 → ((standing past).ended ≡ 0) ⊎ ((standing past).got_mst ≡ false) → (standing (v ∷ past)).ended ≡ 0
  zero_cycle v past zero was = elim (ends v past) [ inl z ↦ z | inr e ↦ e ∙ by (stands v (standing past)) ]
    where
      by : Stands v (standing past) → stood_in v (standing past) ≡ 0
      by (Down z) = z
      by (Moves m is down up) = is ∙ zero
      by (Stays missed got_mst still is) = elim was [ inl z ↦ is ∙ z | inr off ↦ absurd (cc) ]

  -- what it keeps at the end of a cycle commanded 1 or later
  same_after : (v : View) (past : List View) → IsRun busy (v ∷ past) → Joined past → 1 ≤ v.phase → ((standing (v ∷ past)).ended ≡ 0) ⊎ (since_reset (v ∷ past) ≡ records_in_views v past)
  same_after v past run j up = elim (cases_eq (standing (v ∷ past)).ended 0) [
    | inl z ↦ inl z
    | inr nz ↦ inr (reset_on v past nz ∙ ap (with_record (processed_in v past)) (same_at v past run j up (λ z. nz (elim (ends v past) [ inl y ↦ y | inr e ↦ e ∙ z ]))))
  ]

  pub joined : (past : List View) → IsRun busy past → Joined past
  joined [] run = record { one_zero = λ le. inl refl; two_zero = λ le. refl; one = λ e. omega arith; same = λ up. absurd (omega arith) }
  joined (v ∷ past) run =
      let j = joined past run.0 in
      let zero : 1 ≤ zero_run (v ∷ past) → v.phase ≡ 0 = λ le. eqb-true v.phase 0 (run_parts (v.phase == 0) (zero_run past) 0 le).0 in
      let two : 2 ≤ zero_run (v ∷ past) → (standing (v ∷ past)).ended ≡ 0 = λ le. zero_cycle v past (zero (omega arith)) (j.one_zero (run_parts (v.phase == 0) (zero_run past) 1 le).1) in
      let ten : v.rises ≡ true → v.phase ≡ 0 → (standing (v ∷ past)).ended ≡ 0 = λ r e. let le = run.1.ten r e in let row = whole_row-le (v ∷ past) in two (omega arith) in
      record {
        one_zero = λ le. elim (stands v (standing past)) [
          | Down z ↦ inl (elim (ends v past) [ inl y ↦ y | inr e ↦ e ∙ z ])
          | Moves m is down up ↦ inl (elim (ends v past) [ inl y ↦ y | inr e ↦ e ∙ is ∙ (zero le) ])
          | Stays missed got_mst still is ↦ inr missed
        ];
        two_zero = two;
        one = λ e. elim (command_one v.falls v.rises v.phase e) [
          | inl up ↦ let z = ten up.0 up.1 in omega arith
          | inr one ↦ let low = stood_one v past run.1 j one in elim (ends v past) [ inl z ↦ omega arith | inr same ↦ omega arith ]
        ];
        same = λ up.
            let parts = command_up v.falls v.rises v.phase up in
            elim (cases_eq v.phase 0) [
              | inl z ↦ elim parts.1 [ inl r ↦ inl (ten r z) | inr one ↦ absurd (omega arith) ]
              | inr more ↦ elim (same_after v past run j (omega arith)) [
                | inl z ↦ inl z
                | inr e ↦ inr (e ∙ sym (cond-false v.falls [] (records_in_views v past) parts.0))
              ]
            ];
      }

  -- The handshake.

  abbrev pub InStepOver : List Begun → List Processed → Type 0
  InStepOver begun taken = AreInStep begun (log_of taken)

  pub restarted : (v : View) (begun : List Begun) (taken : List Processed) → InStepOver begun taken → InStepOver (unless_restart v begun) (unless_restart v taken)
  restarted v begun taken h = uncut InStepOver v.master_restarts begun taken (Idle refl refl refl) (λ still. h)

  -- what is heard shows what was taken in this epoch, or nothing was begun
  pub shown_of : (v : View) (past : List View) → IsRun busy (v ∷ past) → Joined past → (a : Heard) → IsShown busy a v past →
      (unless_restart v (epoch_begun past) ≡ []) ⊎ (shown_by a.status a.word ≡ channel_says busy (length past) v.showing (unless_restart v (epoch_records past)))
  shown_of v past run j a shown = elim (two_ways v.phase) [
    | inl low ↦ inl (start v past run low).0
    | inr two ↦ inr (shown.says ∙ ap (channel_says busy (length past) v.showing) (same_at v past run j (omega arith) (λ z. let up = shown.stands in omega arith)))
  ]

  pub heard_of : (v : View) (past : List View) → IsRun busy (v ∷ past) → Joined past → (o : Option Heard) → IfSome o (λ a. IsShown busy a v past) →
      InStepOver (unless_restart v (epoch_begun past)) (unless_restart v (epoch_records past)) → InStepOver (with_heard o (unless_restart v (epoch_begun past))) (unless_restart v (epoch_records past))
  heard_of v past run j None shown h = h
  heard_of v past run j (Some a) shown h = elim (shown_of v past run j a shown) [
    | inl none ↦ subst (λ (b : List Begun). InStepOver b (unless_restart v (epoch_records past))) (sym (ap (with_heard (Some a)) none ∙ sym none)) h
    | inr says ↦ hears (unless_restart v (epoch_begun past)) (log_of (unless_restart v (epoch_records past))) busy (length past) (change_in v.showing (length past)) a.status a.word h (rw (ahs-log (unless_restart v (epoch_records past))) at says)
  ]

  pub begun_of : (o : Option Request) (begun : List Begun) (taken : List Processed) → (IsSome o → open_in begun ≡ None) → InStepOver begun taken → InStepOver (with_begun o begun) taken
  begun_of None begun taken shut h = h
  begun_of (Some r) begun taken shut h = begins begun (log_of taken) r h (shut refl)

  -- a record that comes says what the master says
  pub said_of : (v : View) (past : List View) → IfSome v.sent (λ s. s ≡ master_says (begun_in v past)) → (s : Said) → got_in v ≡ Some s → s ≡ master_says (begun_in v past)
  said_of v past sent s got = of v.mdt_comes v.sent got sent
    where
      of : (comes : Bool) (o : Option Said) → (if comes then o else None) ≡ Some s → IfSome o (λ x. x ≡ master_says (begun_in v past)) → s ≡ master_says (begun_in v past)
      of true (Some x) got is = let same : x ≡ s = cc in sym same ∙ is
      of true None got is = absurd (cc)
      of false o got is = absurd (cc)

  -- one cycle, before it falls
  in_step_by : (v : View) (past : List View) → IsRun busy (v ∷ past) → AreInStep (epoch_begun past) (epoch_log past) → AreInStep (begun_in v past) (log_in v past)
  in_step_by v past run earlier =
      let at_start = restarted v (epoch_begun past) (epoch_records past) earlier in
      let heard = heard_of v past run (joined past run.0) v.heard run.1.heard at_start in
      let begun = begun_of v.begins (with_heard v.heard (unless_restart v (epoch_begun past))) (unless_restart v (epoch_records past)) run.1.begins heard in
      (of_processed v past (λ o. InStepOver (begun_in v past) (with_record o (unless_restart v (epoch_records past)))) begun
      (λ s got came two.
      let t : Processed = record_in v (length past) (stood_in v (standing past)) s in
      subst (λ (l : List Entry). AreInStep (begun_in v past) l) (sym (log-taken t (unless_restart v (epoch_records past))))
      (takes (begun_in v past) (log_of (unless_restart v (epoch_records past))) t
      (reply_of t (log_of (unless_restart v (epoch_records past)))) begun (said_of v past run.1.sent s got))))

  -- in every cycle, also where the drive has fallen
  pub in_step : (past : List View) → IsRun busy past → AreInStep (epoch_begun past) (epoch_log past)
  in_step [] run = Idle refl refl refl
  in_step (v ∷ past) run =
      uncut InStepOver v.falls (begun_in v past) (records_in_views v past) (Idle refl refl refl)
      (λ on. in_step_by v past run (in_step past run.0))

  pub in_step_in : (v : View) (past : List View) → IsRun busy (v ∷ past) → AreInStep (begun_in v past) (log_in v past)
  in_step_in v past run = in_step_by v past run (in_step past run.0)

  -- the log of a drive that isn't in 0 is that of the epoch
  pub same_log : (v : View) (past : List View) → IsRun busy (v ∷ past) → 1 ≤ v.phase → ((standing (v ∷ past)).ended ≡ 0) ⊎ (since_reset (v ∷ past) ≡ records_in_views v past)
  same_log v past run up = same_after v past run (joined past run.0) up
