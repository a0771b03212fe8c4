-- Phase 4 is commanded only if none of the drives' own blocks was outside its limits at opening.
use Rattle.sercos_law_run.proofs.Words.{◌≡◌, ◌⊎◌, inl, inr, ℕ, ◌<◌, ◌≤◌, Bool, true, false, List, [], ◌∷◌, ◌++◌, length, Option, Some, None, refl, sym, ap, ◌∙◌, subst, arith, list_any, cases_lt, Job, store_of, RingView, is_outside, has_ended, status_by, status_in, find_set, set_in, SetCommand, Entry, Begun, CycleView, idn, Known, known_of, tasks_for, Past, fall_of, is_done, after_end, Carry, Restarts, AreExact, begun_ago, all_entries, all_writes, is_own_outside, drive_at, given_mst, master_calls, middle, looks_back, IsRun, IsClear, behind_mdt, view_of, views_of, IsOpened, cases_Bool, cases_Option, ap₂, not, is_some, ◌&&◌, Fall}
use Rattle.sercos_law_run.proofs.Start.OwnLemmas.{own_at_opening}
use Rattle.sercos_law_run.proofs.Views.ViewRuns.{started}
use Rattle.sercos_law_run.proofs.Held.Runs.{kept_at_mst, drive_rules}
use Rattle.sercos_law_run.proofs.Headline.HeadlineRuns.{all_stand, first_store, keeps_all, spelled_in, stored_in}
use Rattle.sercos_law_run.proofs.Settings.Histories.{status_set}
use Rattle.sercos_law_run.proofs.Undisturbed.Checks.CheckedViews.{status_3}
use Rattle.sercos_law_run.proofs.Typed.Mdts.{phase_low}
use Rattle.sercos_law_run.proofs.Undisturbed.JobsBegun.{begun_now, begun_then}
use Rattle.sercos_law_run.proofs.Undisturbed.Checks.PassedRuns.{rises_128}
use Rattle.sercos_law_run.proofs.Held.EntriesAre.{EntriesSay, ViewsSay, entries_say}
use Rattle.sercos_law_run.proofs.Undisturbed.Checks.OwnSet.{AreBuiltIn, IsOwn, SaysOwn, own_so}
use Rattle.sercos_law_run.proofs.Undisturbed.Checks.BuiltInWrites.{NeverFour, writes_built}
use Rattle.sercos_law_run.proofs.Undisturbed.Checks.OwnInside.{none_any}
use Rattle.sercos_law_run.proofs.Undisturbed.ChannelsKept.{phase_now}

well_status : (time cycle : ℕ) (o : Option SetCommand) → status_by time o cycle ≡ 3 → (s : SetCommand) × (o ≡ Some s) × (s.well ≡ true)
well_status time cycle None is = absurd (omega (arith, is))
well_status time cycle (Some s) is = elim (cases_Bool (has_ended time cycle s)) [
  | inl on ↦ elim (cases_Bool s.well) [ inl well ↦ (s, refl, well) | inr well ↦ let is = rw (on, well) at is in absurd (omega (arith, is)) ]
  | inr off ↦ let is = rw off at is in absurd (omega (arith, is))
]

-- the phase at the end of a cycle
end_four : (s : Known) (p : Past) → (after_end s p).now.phase ≡ 4 → p.now.phase ≤ 3 → (fall_of s p ≡ None) × ((is_done s p ≡ true) × (p.now.phase ≡ 3))
end_four s p four low = elim (cases_Option (fall_of s p)) [
  | inl none ↦ elim (cases_Bool (is_done s p)) [
    | inl is ↦ let four = rw (none, is) at four in (none, (is, omega (arith, four)))
    | inr is ↦ let four = rw (none, is) at four in absurd (omega (arith, four, low))
  ]
  | inr (f, falls) ↦ let four = rw falls at four in absurd (omega (arith, four))
]

module _ (r : RingView) (jobs : List Job) (carry : Carry) (restarts : Restarts) (opened : IsOpened r jobs) (k : ℕ)
    (below : k < length r.drives) where
  abbrev FitsOwn : Type 0
  FitsOwn = list_any is_outside (drive_at r k).blocks ≡ false

  -- AS LONG AS PHASE 4 WAS NEVER COMMANDED the own blocks that are outside are those of the opening, and each step that was accepted met
  -- commands that say so.
  pub own_in : (t : CycleView) (j : List CycleView) → IsRun r jobs carry restarts (t ∷ j) → IsClear (t ∷ j) → NeverFour j → IsOwn (drive_at r k) (view_of r jobs carry restarts k t j).blocks (view_of r jobs carry restarts k t j).commands
  own_in t j (run, next) (before, clear) never =
      own_so (drive_at r k) r.rate (given_mst carry restarts t.sent j k) (subst AreBuiltIn (sym (kept_at_mst r jobs carry restarts opened
      (first_store r jobs carry restarts opened) t j next clear (spelled_in r jobs carry restarts opened t j next)
      (stored_in r jobs carry restarts opened t j) (all_stand r jobs carry restarts opened j run before) k below).writes) (writes_built r jobs carry restarts opened k below j run before never))

  views_say : (j : List CycleView) → IsRun r jobs carry restarts j → IsClear j → NeverFour j → ViewsSay (SaysOwn (drive_at r k)) (views_of r jobs carry restarts k j)
  views_say [] run clear never = tt
  views_say (t ∷ j) run clear never = (views_say j run.0 clear.0 never.0, (own_in t j run clear never.0).says)

  -- THE CYCLE IN WHICH IT RISES to phase 4
  rise_own : (u : CycleView) (j : List CycleView) → IsRun r jobs carry restarts (u ∷ j) → IsClear (u ∷ j) → NeverFour (u ∷ j) → (looks_back r jobs (master_calls r carry restarts (u ∷ j))).now.phase ≡ 4 → FitsOwn
  rise_own u j run clear never four =
      let went = end_four (known_of r) (behind_mdt r jobs carry restarts u.sent j) four
      (omega (arith, phase_now r jobs carry restarts u j run.1, never.1)) in
      let newest = rises_128 r jobs carry restarts opened u j run clear k below
      (ap₂ (λ (f : Option Fall) (d : Bool). not (is_some f) && d) went.0 went.1.0)
      (sym (phase_now r jobs carry restarts u j run.1) ∙ went.1.1) in
      let begun = sym (begun_now r jobs carry restarts opened u j run clear went.0 k below)
      ∙ begun_then r jobs carry restarts opened u j run clear k below ∙ newest.split in
      let views = views_of r jobs carry restarts k (u ∷ j) in
      let (part, rest, own, others, of_entries, of_writes, is, behind) =
      subst (λ (l : List Begun). AreExact (store_of (drive_at r k)) (l ++ begun_ago views) (all_entries views) (all_writes views)) begun
      ((keeps_all r jobs carry restarts opened u j run clear).exact k below).exact in
      let (cancel, poll, earlier, of_part, reads, element, given) = is.ends (idn 128) newest.bytes newest.asks newest.complete in
      let log_so : all_entries views ≡ cancel ∷ poll ∷ (earlier ++ rest) = of_entries ∙ ap (λ (l : List Entry). l ++ rest) of_part in
      let says = subst (EntriesSay (SaysOwn (drive_at r k))) log_so (entries_say (SaysOwn (drive_at r k)) views (views_say (u ∷ j) run clear never)) in
      let status = status_3 (status_in poll.processed.commands 128 poll.processed.cycle) newest.bytes given newest.well in
      let set = well_status poll.processed.commands.time poll.processed.cycle (find_set 128 (set_in poll.processed.commands))
      (sym (status_set poll.processed.commands 128 poll.processed.cycle) ∙ status) in
      sym (own_at_opening (drive_at r k) (drive_rules r k opened.valid below))
      ∙ none_any is_own_outside (store_of (drive_at r k)) (says.0.1 set.0 set.1 set.2)

  -- SO IT IS wherever phase 4 is commanded.
  four_before : (t : CycleView) (j : List CycleView) → IsRun r jobs carry restarts (t ∷ j) → t.phase ≡ 4 → (looks_back r jobs (master_calls r carry restarts j)).now.phase ≡ 4
  four_before t j (run, next) four =
      let is = sym (ap (λ (p : Past). p.now.phase) (started r jobs (restarts (length j) 0) (master_calls r carry restarts j)))
      ∙ sym next.phase ∙ four in
      elim (cases_Bool (restarts (length j) 0)) [ inl on ↦ absurd (let zero = rw on at is in omega (arith, zero)) | inr off ↦ rw off at is ]

  rises_own : (t : CycleView) (j : List CycleView) → IsRun r jobs carry restarts (t ∷ j) → IsClear (t ∷ j) → NeverFour j → t.phase ≡ 4 → FitsOwn
  rises_own t [] run clear never four = absurd (omega (arith, four_before t [] run four))
  rises_own t (u ∷ j) run clear never four = rise_own u j run.0 clear.0 never (four_before t (u ∷ j) run four)

  low_phase : (t : CycleView) (j : List CycleView) → IsRun r jobs carry restarts (t ∷ j) → t.phase ≤ 4
  low_phase t j (run, next) =
      let same = phase_now r jobs carry restarts t j next in
      omega (arith, same, phase_low (known_of r) (tasks_for (known_of r) jobs) (middle r carry restarts t.sent j))

  pub never_or_own : (j : List CycleView) → IsRun r jobs carry restarts j → IsClear j → NeverFour j ⊎ FitsOwn
  never_or_own [] run clear = inl tt
  never_or_own (t ∷ j) run clear = by (never_or_own j run.0 clear.0)
    where
      by : NeverFour j ⊎ FitsOwn → NeverFour (t ∷ j) ⊎ FitsOwn
      by (inr own) = inr own
      by (inl never) = elim (cases_lt t.phase 4) [
        | inl early ↦ inl (never, omega (arith, early))
        | inr late ↦ inr (rises_own t j run clear never (omega (arith, late, low_phase t j run)))
      ]

  pub own_fits : (t : CycleView) (j : List CycleView) → IsRun r jobs carry restarts (t ∷ j) → IsClear (t ∷ j) → t.phase ≡ 4 → FitsOwn
  own_fits t j run clear four = elim (never_or_own j run.0 clear.0) [ inl never ↦ rises_own t j run clear never four | inr own ↦ own ]
