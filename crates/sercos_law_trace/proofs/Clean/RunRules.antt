-- The telegrams of a run keep the rules, by induction over its cycles.
use Rattle.sercos_law_trace.proofs.Words.{◌≡◌, inl, inr, ℕ, zero, suc, ◌+◌, ◌<◌, ◌≤◌, ◌==◌, nat_le, Bool, true, false, ◌||◌, if◌then◌else◌, List, [], ◌∷◌, ◌++◌, length, Option, Some, None, is_some, refl, sym, ◌∙◌, ap, subst, arith, slice_index, eq-eqb, nat_tests, mst_content, IsValid, IsCycle, WishesView, PlanView, Wish, Job, at_len, RingView, carried_len, Moment, phase_in, cycle_in, blocks_in, Said, drive_says, values_in, SentView, CycleView, Known, known_of, tasks_for, fields_length, held_by, Holds, start_up, Past, ready_to_send, fall_of, is_done, after_end, Sent, mdt_said, Carry, Restarts, IsApart, Command, command_before, is_drive, wish_for, is_next_cycle, is_next_phase, drive_at, given_mst, master_calls, begins, middle, looks_back, said_below, ats_said, sent_mst, sent_mdt, IsNext, IsRun, IsClear, at_start, behind_ats, behind_mdt, after_mst, Sends, sender_phase, sent_by, same_drive, members_count, address_of, IsContent, at_content, phase_low, mdt_whole, AllStand, IsPlannedIn, s_known, phase_same, holding, rules, carried_length, first_store, stored_in, spelled_in, all_stand, keeps_all, IsOpened, takes_part, store_in_cycle, told_after, told_in, KeepRules, RunsKeepRules, are_as_long, keeps_within, is_planned, rate_is, wishes_of, or_right, or_left, or-true, cases_Bool}
use Rattle.sercos_law_trace.proofs.Clean.RuleLemmas.{AreRuled, command_at, cycle_kept}
use Rattle.sercos_law_trace.proofs.Clean.SeenLemmas.{Each, EachPair, each_map, each_both, all_after, IsFramed}
use Rattle.sercos_law_trace.proofs.Clean.SaidLemmas.{each_said, IsOther, pairs_said, drive_there, wish_is_for}
use Rattle.sercos_law_trace.proofs.Clean.EarlyRules.{IsEarlyAt, IsEarlyIf, early_ruled}
use Rattle.sercos_law_trace.proofs.Clean.LateRules.{IsBefore, IsLateAt, late_ruled}
use Rattle.sercos_law_trace.proofs.Clean.SlotRules.{before, early_enough, before_last, last_late, sends_one}
use Rattle.sercos_law_trace.proofs.Clean.MstRules.{mst_ruled}
use Rattle.sercos_law_trace.proofs.Clean.SenderLemmas.{own_address, early_said, addressed_inside, early_mdt_said, none_in_zero}

framed : (content : List ℕ) → IsContent content → IsFramed content
framed content is = record { some = is.some; most = is.most }

pub cycle_low : (cycle : ℕ) → IsCycle cycle → cycle ≤ 64000
cycle_low cycle (inl is) = omega (arith, is)
cycle_low cycle (inr is) = is.1

-- a cycle without ATs and MDT
nothing_ruled : (w : WishesView) (rate : ℕ) (c : Command) (mst : SentView) (ats : List Said) (o : Option Sent) → Each (λ (s : Said). ⊥) ats → o ≡ None → AreRuled w rate c mst [] ats o
nothing_ruled w rate c mst [] None none is = tt
nothing_ruled w rate c mst [] (Some m) none is = absurd (cc)
nothing_ruled w rate c mst (s ∷ ats) o none is = absurd none.0

-- the phase that is commanded next
rises_so : (falls done : Bool) (cycle phase : ℕ) → is_next_phase (Some (record { cycle = cycle; phase = phase })) (if falls then 0 else (if done then phase + 1 else phase)) ≡ true
rises_so true done cycle phase = or_right (0 == phase) ((0 == phase + 1) || true) (or-true (0 == phase + 1))
rises_so false true cycle phase =
    or_right (phase + 1 == phase) ((phase + 1 == phase + 1) || (phase + 1 == 0))
    (or_left (phase + 1 == phase + 1) (phase + 1 == 0) (eq-eqb (phase + 1) (phase + 1) refl))
rises_so false false cycle phase = or_left (phase == phase) ((phase == phase + 1) || (phase == 0)) (eq-eqb phase phase refl)

restarted_so : (restarts : Bool) (c : Command) (phase : ℕ) → is_next_phase (Some c) phase ≡ true → is_next_phase (Some c) (if restarts then 0 else phase) ≡ true
restarted_so true c phase is = or_right (0 == c.phase) ((0 == c.phase + 1) || true) (or-true (0 == c.phase + 1))
restarted_so false c phase is = is

ended_phase : (s : Known) (p : Past) → (after_end s p).now.phase ≡ (if is_some (fall_of s p) then 0 else (if is_done s p then p.now.phase + 1 else p.now.phase))
ended_phase s p = elim (cases_Bool (is_some (fall_of s p))) [ inl on ↦ rw on | inr off ↦ rw off ]

-- the newest command of a journal
abbrev newest : List CycleView → Option Command
newest [] = None
newest (t ∷ j) = Some (record { cycle = t.cycle; phase = t.phase })

record IsKept (r : RingView) (j : List CycleView) : Type 0 where
  kept : KeepRules (wishes_of r) (told_in j)
  command : command_before (told_in j) ≡ newest j

module _ (r : RingView) (jobs : List Job) (carry : Carry) (restarts : Restarts) (opened : IsOpened r jobs) where
  module _ (t : CycleView) (j : List CycleView) (run : IsRun r jobs carry restarts (t ∷ j)) (clear : IsClear (t ∷ j)) where
    next : IsNext r jobs carry restarts t j
    next = run.1

    all : AllStand r jobs carry restarts j
    all = all_stand r jobs carry restarts opened j run.0 clear.0

    abbrev ats : List Said
    ats = said_below (length r.drives) (drive_at r) r.rate (given_mst carry restarts t.sent j)

    abbrev mdt : Option Sent
    mdt = mdt_said (known_of r) (behind_mdt r jobs carry restarts t.sent j)

    abbrev pub phase : ℕ
    phase = (at_start r jobs carry restarts j).now.phase

    abbrev sent : List SentView
    sent = sent_mst (mst_content phase) ∷ ats_said r.rate ats ++ sent_mdt r.rate mdt

    sent_is : t.sent ≡ sent
    sent_is = next.sent

    -- the drive at a place sends this
    sends_at : (k : ℕ) (s : Said) → drive_says (drive_at r k) r.rate (given_mst carry restarts t.sent j k) ≡ Some s → Sends (drive_at r k) (after_mst r carry restarts t.sent j k) s
    sends_at k s says = sent_by (drive_at r k) r.rate (after_mst r carry restarts t.sent j k) s says

    -- a drive that sends stands in the commanded phase
    phase_of : (k : ℕ) → k < length r.drives → (s : Said) → Sends (drive_at r k) (after_mst r carry restarts t.sent j k) s → phase_in (after_mst r carry restarts t.sent j k) ≡ t.phase
    phase_of = sender_phase r jobs carry restarts opened (first_store r jobs carry restarts opened) t j next clear.1 (spelled_in r jobs carry restarts opened t j next) (stored_in r jobs carry restarts opened t j) all

    others : EachPair IsOther ats
    others = pairs_said (length r.drives) (drive_at r) r.rate (given_mst carry restarts t.sent j) (λ i k low high same. same_drive r i k opened.valid low high same)
        (λ k below s says. own_address (drive_at r k) (after_mst r carry restarts t.sent j k) s (sends_at k s says))

    mdt_phase : (behind_mdt r jobs carry restarts t.sent j).now.phase ≡ t.phase
    mdt_phase = phase_same r jobs carry restarts opened (first_store r jobs carry restarts opened) t j next clear.1 (spelled_in r jobs carry restarts opened t j next) (stored_in r jobs carry restarts opened t j) all ∙ sym next.phase

    -- PHASES 1 AND 2
    early_mdt_in : 1 ≤ t.phase → t.phase < 3 → IsEarlyIf (wishes_of r) mdt
    early_mdt_in some low = early_mdt_said r (behind_mdt r jobs carry restarts t.sent j) (subst (λ (n : ℕ). n < 3) (sym mdt_phase) low) (subst (λ (n : ℕ). 1 ≤ n) (sym mdt_phase) some)
        (λ i is. let count = members_count r in let inside = addressed_inside (known_of r) (ready_to_send (known_of r) (behind_ats r jobs carry restarts t.sent j)) i is in omega (arith, count, inside))

    early : 1 ≤ t.phase → t.phase < 3 → AreRuled (wishes_of r) r.rate (command_at t.cycle (mst_content phase)) (sent_mst (mst_content phase)) [] ats mdt
    early some low = early_ruled (wishes_of r) r.rate (command_at t.cycle (mst_content phase)) (mst_content phase) (rate_is r) (subst (λ (n : ℕ). 1 ≤ n) next.phase some) (subst (λ (n : ℕ). n < 3) next.phase low) ats mdt
        (each_said (IsEarlyAt (wishes_of r)) (length r.drives) (drive_at r) r.rate (given_mst carry restarts t.sent j) (λ k below s says.
        let sending = sends_at k s says in early_said r k (after_mst r carry restarts t.sent j k) s below sending (subst (λ (n : ℕ). n < 3) (sym (phase_of k below s sending)) low)))
        (all_after IsOther ats others)
        (early_mdt_in some low)

    -- PHASES 3 AND 4
    module _ (late : 3 ≤ t.phase) where
      held : (k : ℕ) → k < length r.drives → (plan : PlanView) × IsPlannedIn r jobs carry restarts t j plan × Holds (blocks_in (drive_at r k) (after_mst r carry restarts t.sent j k)) (start_up r.control r.cycle plan k (drive_at r k).at (drive_at r k).mdt)
      held k below = holding r jobs carry restarts opened (first_store r jobs carry restarts opened) t j next clear.1 (spelled_in r jobs carry restarts opened t j next) (stored_in r jobs carry restarts opened t j) all (subst (λ (n : ℕ). 3 ≤ n) next.phase late) k below

      some_drive : 0 < length r.drives
      some_drive = let count = members_count r in let some = (s_known r jobs carry restarts opened (first_store r jobs carry restarts opened)).some in omega (arith, count, some)

      valid : IsValid (wishes_of r)
      valid = (held 0 some_drive).1.of.valid

      -- what an AT is
      abbrev IsAt : Said → Type 0
      IsAt s = IsFramed s.content × (length s.content ≡ (wish_for (wishes_of r) (slice_index s.content 0)).at_len + 1) × (is_drive (wishes_of r) (slice_index s.content 0) ≡ true)

      long_at : (k : ℕ) → k < length r.drives → (s : Said) → Sends (drive_at r k) (after_mst r carry restarts t.sent j k) s → length s.content ≡ (wish_for (wishes_of r) (slice_index s.content 0)).at_len + 1
      long_at k below s sending =
          let past : List Moment = after_mst r carry restarts t.sent j k in
          let stored = stored_in r jobs carry restarts opened t j k below in
          let up : nat_le 3 (phase_in past) ≡ true = grind (arith, nat_tests, phase_of k below s sending, late) in
          let carried = carried_length (cycle_in past) (phase_in past) (blocks_in (drive_at r k) past) stored.0 up in
          let fields_long = fields_length sending.word sending.info (values_in (cycle_in past) (phase_in past) (blocks_in (drive_at r k) past)) in
          let block_rules = rules r jobs carry restarts opened (first_store r jobs carry restarts opened) t j next clear.1 (spelled_in r jobs carry restarts opened t j next) (stored_in r jobs carry restarts opened t j) all k below in
          let as_long : carried_len (blocks_in (drive_at r k) past) 16 ≡ at_len (drive_at r k) = (are_as_long (drive_at r k) (blocks_in (drive_at r k) past) block_rules stored.1).0 (held k below).2.1.1.1.1.1.1.1.1.0 in
          let wish_len : (wish_for (wishes_of r) (slice_index s.content 0)).at_len ≡ at_len (drive_at r k) = ap (λ (a : ℕ). (wish_for (wishes_of r) a).at_len) (own_address (drive_at r k) past s sending) ∙ ap (λ (x : Wish). x.at_len) (wish_is_for r k opened.valid below) in
          ap (λ (l : List ℕ). length l) sending.content ∙ omega (arith, carried, fields_long, as_long, wish_len)

      are_ats : Each IsAt ats
      are_ats = each_said IsAt (length r.drives) (drive_at r) r.rate (given_mst carry restarts t.sent j) (λ k below s says.
          let sending = sends_at k s says in
          let high = (address_of r k opened.valid below).1 in (
            framed s.content (at_content (drive_at r k) r.rate (given_mst carry restarts t.sent j k) s (omega (arith, high)) (keeps_within r carry restarts t.sent j k opened.valid opened.typed below) says),
            long_at k below s sending,
            ap (is_drive (wishes_of r)) (own_address (drive_at r k) (after_mst r carry restarts t.sent j k) s sending) ∙ drive_there r k below,
          ))

      late_with : (records : List (List ℕ)) → IsApart (wishes_of r) (held_by (takes_part r carry restarts t j) (store_in_cycle r carry restarts t j)) records sent
          → (m : Sent) → mdt ≡ Some m → AreRuled (wishes_of r) r.rate (command_at t.cycle (mst_content phase)) (sent_mst (mst_content phase)) [] ats mdt
      late_with records apart m is =
          let here : IsApart (wishes_of r) (held_by (takes_part r carry restarts t j) (store_in_cycle r carry restarts t j)) records (sent_mst (mst_content phase) ∷ ats_said r.rate ats ++ sent_mdt r.rate (Some m)) =
          subst (λ (o : Option Sent). IsApart (wishes_of r) (held_by (takes_part r carry restarts t j) (store_in_cycle r carry restarts t j)) records (sent_mst (mst_content phase) ∷ ats_said r.rate ats ++ sent_mdt r.rate o)) is apart in
          let whole = mdt_whole (known_of r) (behind_mdt r jobs carry restarts t.sent j) m (s_known r jobs carry restarts opened (first_store r jobs carry restarts opened)) (is_planned (known_of r) (tasks_for (known_of r) jobs) (middle r carry restarts t.sent j)) is in
          subst (λ (o : Option Sent). AreRuled (wishes_of r) r.rate (command_at t.cycle (mst_content phase)) (sent_mst (mst_content phase)) [] ats o) (sym is)
          (late_ruled (wishes_of r) r.rate (command_at t.cycle (mst_content phase)) (mst_content phase) (subst (λ (n : ℕ). 3 ≤ n) next.phase late) ats m
          (each_map _ (IsLateAt (wishes_of r) r.rate) (λ s of. record { framed = of.0.0; long = of.0.1; drive = of.0.2; ready = of.1.0; after_mst = of.1.1 }) ats
          (each_both IsAt _ ats are_ats (early_enough (wishes_of r) r.rate (held_by (takes_part r carry restarts t j) (store_in_cycle r carry restarts t j)) records (mst_content phase) ats m here valid)))
          (all_after (λ (x y : Said). IsBefore (wishes_of r) r.rate y x) ats (before (wishes_of r) r.rate (held_by (takes_part r carry restarts t j) (store_in_cycle r carry restarts t j)) records (mst_content phase) ats m here valid others))
          (last_late (wishes_of r) r.rate (held_by (takes_part r carry restarts t j) (store_in_cycle r carry restarts t j)) records (mst_content phase) ats m here valid (framed m.content whole))
          (before_last (wishes_of r) r.rate (held_by (takes_part r carry restarts t j) (store_in_cycle r carry restarts t j)) records (mst_content phase) ats m here valid))

      late_ruled_in : AreRuled (wishes_of r) r.rate (command_at t.cycle (mst_content phase)) (sent_mst (mst_content phase)) [] ats mdt
      late_ruled_in =
          let (records, apart) = (keeps_all r jobs carry restarts opened t j run clear).apart late in
          let here = subst (λ (l : List SentView). IsApart (wishes_of r) (held_by (takes_part r carry restarts t j) (store_in_cycle r carry restarts t j)) records l) sent_is apart in
          let (m, is) = sends_one (wishes_of r) r.rate (held_by (takes_part r carry restarts t j) (store_in_cycle r carry restarts t j)) records (mst_content phase) ats mdt here in
          late_with records here m is

    ruled : AreRuled (wishes_of r) r.rate (command_at t.cycle (mst_content phase)) (sent_mst (mst_content phase)) [] ats mdt
    ruled = by t.phase refl
      where
        by : (n : ℕ) → t.phase ≡ n → AreRuled (wishes_of r) r.rate (command_at t.cycle (mst_content phase)) (sent_mst (mst_content phase)) [] ats mdt
        by zero is = nothing_ruled (wishes_of r) r.rate (command_at t.cycle (mst_content phase)) (sent_mst (mst_content phase)) ats mdt
            (each_said (λ (s : Said). ⊥) (length r.drives) (drive_at r) r.rate (given_mst carry restarts t.sent j) (λ k below s says.
            let sending = sends_at k s says in let same = phase_of k below s sending in let up = sending.stands in
            absurd (omega (arith, same, up, is))))
            (none_in_zero (known_of r) (behind_mdt r jobs carry restarts t.sent j) (mdt_phase ∙ is))
        by (suc zero) is = early (omega (arith, is)) (omega (arith, is))
        by (suc (suc zero)) is = early (omega (arith, is)) (omega (arith, is))
        by (suc (suc (suc n))) is = late_ruled_in (omega (arith, is))

    -- THE MST
    pub low : phase ≤ 4
    low = phase_low (known_of r) (tasks_for (known_of r) jobs) (begins r carry restarts j)

  next_command : (t : CycleView) (j : List CycleView) → IsRun r jobs carry restarts (t ∷ j) → IsClear (t ∷ j) → (is_next_cycle (newest j) t.cycle ≡ true) × (is_next_phase (newest j) (at_start r jobs carry restarts j).now.phase ≡ true)
  next_command t [] run clear = (refl, refl)
  next_command t (u ∷ j) run clear = (
    (let this = run.1.cycle in let last = run.0.1.cycle in eq-eqb t.cycle (u.cycle + 1) (omega (arith, this, last))),
    ap (is_next_phase (newest (u ∷ j))) (elim (cases_Bool (restarts (length (u ∷ j)) 0)) [ inl on ↦ rw on | inr off ↦ rw off ])
        ∙ restarted_so (restarts (length (u ∷ j)) 0) (record { cycle = u.cycle; phase = u.phase })
        (looks_back r jobs (master_calls r carry restarts (u ∷ j))).now.phase
        (ap (is_next_phase (newest (u ∷ j))) (ended_phase (known_of r) (behind_mdt r jobs carry restarts u.sent j) ∙ ap (λ (n : ℕ). if is_some (fall_of (known_of r) (behind_mdt r jobs carry restarts u.sent j)) then 0 else (if is_done (known_of r) (behind_mdt r jobs carry restarts u.sent j) then n + 1 else n)) (mdt_phase u j run.0 clear.0))
        ∙ rises_so (is_some (fall_of (known_of r) (behind_mdt r jobs carry restarts u.sent j))) (is_done (known_of r) (behind_mdt r jobs carry restarts u.sent j)) u.cycle u.phase),
  )

  all_kept : (j : List CycleView) → IsRun r jobs carry restarts j → IsClear j → IsKept r j
  all_kept [] run clear = record { kept = tt; command = refl }
  all_kept (t ∷ j) run clear =
      let old = all_kept j run.0 clear.0 in
      let follows = next_command t j run clear in
      let first = mst_ruled (wishes_of r) (told_in j) (newest j) t.cycle (at_start r jobs carry restarts j).now.phase old.command follows.0 follows.1 (low t j run clear) in
      let new = cycle_kept (wishes_of r) r.rate t.cycle (mst_content (at_start r jobs carry restarts j).now.phase) (ats t j run clear) (mdt t j run clear) (told_in j) old.kept first (ruled t j run clear) in
      record {
        kept = subst (λ (l : List SentView). KeepRules (wishes_of r) (told_after t.cycle l (told_in j))) (sym (sent_is t j run clear)) new.kept;
        command = ap (λ (l : List SentView). command_before (told_after t.cycle l (told_in j))) (sent_is t j run clear) ∙ new.command ∙ ap (λ (n : ℕ). Some (record { cycle = t.cycle; phase = n })) (sym run.1.phase);
      }

pub runs_keep_rules : RunsKeepRules
runs_keep_rules r jobs carry restarts j opened run clear = (all_kept r jobs carry restarts opened j run clear).kept
