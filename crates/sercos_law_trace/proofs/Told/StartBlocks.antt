-- No request of the document ends as a complete write to a block that the start-up writes.
use Rattle.sercos_law_trace.proofs.Words.{◌≡◌, inl, inr, ℕ, ◌+◌, ◌<◌, ◌≤◌, Bool, true, false, not, List, [], ◌∷◌, length, Some, refl, sym, ◌∙◌, subst, arith, is_some, and_parts, cases_lt, Idn, Job, Block, find_block, store_of, RingView, Begun, begun_by, reads_count, known_of, member, Past, fall_of, is_done, jobs_waiting, Carry, Restarts, CycleView, begun_in, ring_drive, members_count, drive_got, IsRun, IsClear, drive_at, middle, behind_mdt, view_of, views_of, IsOpened, KeepsAll, all_stand, small, first_store, phase_same, spelled_in, stored_in, keeps_all}
use Rattle.sercos_step.specs.declared.request.Request.TheVariants as request
use Rattle.sercos_step.specs.declared.request.Outcome.TheVariants as outcome
use Rattle.sercos_law_trace.proofs.Told.ReadLemmas.{IsBegunAs}
use Rattle.sercos_law_trace.proofs.Told.GuardedWrites.{AreFewAtRise, HaveEnded, phase_most, never_complete}
use Rattle.sercos_law_trace.proofs.Told.FewTasks.{few_tasks, few_at_end}
use Rattle.sercos_law_trace.proofs.Told.StartNumbers.{is_start, start_guarded}

module _ (r : RingView) (jobs : List Job) (carry : Carry) (restarts : Restarts) (opened : IsOpened r jobs) (k : ℕ) (below : k < length r.drives) where
  inside : k < length (known_of r).drives
  inside = let count = members_count r in omega (arith, below, count)

  few_now : (t : CycleView) (j : List CycleView) → KeepsAll r jobs carry restarts t j → (view_of r jobs carry restarts k t j).rises ≡ true
      → (length (begun_in (view_of r jobs carry restarts k t j) (views_of r jobs carry restarts k j)) ≤ reads_count (member (known_of r) k) + 13) × HaveEnded (begun_in (view_of r jobs carry restarts k t j) (views_of r jobs carry restarts k j))
  few_now t j keeps on =
      let p : Past = behind_mdt r jobs carry restarts t.sent j in
      let done : is_done (known_of r) p ≡ true = (and_parts (not (is_some (fall_of (known_of r) p))) _ on).1 in
      subst (λ (l : List Begun). (length l ≤ reads_count (member (known_of r) k) + 13) × HaveEnded l) (sym (keeps.exact k below).begun_now)
      (few_at_end (known_of r) p k inside (jobs_waiting (known_of r) jobs (middle r carry restarts t.sent j) k) (keeps.reported.tasks k below) done)

  fews : (j : List CycleView) → IsRun r jobs carry restarts j → IsClear j → AreFewAtRise (reads_count (member (known_of r) k) + 13) (views_of r jobs carry restarts k j)
  fews [] run clear = tt
  fews (t ∷ j) run clear = (fews j run.0 clear.0, few_now t j (keeps_all r jobs carry restarts opened t j run clear))

  -- A WRITE THAT IS TOLD as complete
  module _ (t : CycleView) (j : List CycleView) (run : IsRun r jobs carry restarts (t ∷ j)) (clear : IsClear (t ∷ j)) (n : ℕ) (idn : Idn)
      (bytes whole : List ℕ) (b : Block) (asked : IsBegunAs r jobs carry restarts t j k n (outcome.Complete whole))
      (asks : asked.job.request ≡ request.Write idn 7 bytes) (found : find_block idn.raw (store_of (drive_at r k)) ≡ Some b) where
    keeps : KeepsAll r jobs carry restarts t j
    keeps = keeps_all r jobs carry restarts opened t j run clear

    abbrev now : Past
    now = behind_mdt r jobs carry restarts t.sent j

    -- phase 4 is commanded
    four : t.phase ≡ 4
    four = elim (cases_lt (behind_mdt r jobs carry restarts t.sent j).now.phase 4) [
      | inl low ↦
          let few = few_tasks (known_of r) k now.plan (now.waiting k) now.now.phase (begun_by (now.calls k)) (now.tasks k) (jobs_waiting (known_of r) jobs (middle r carry restarts t.sent j) k) (omega (arith, low)) (keeps.reported.tasks k below) (λ three. asked.ends.ready) in
          let long = asked.ends.long in absurd (omega (arith, few, long))
      | inr high ↦
          let is = phase_same r jobs carry restarts opened (first_store r jobs carry restarts opened) t j run.1 clear.1
          (spelled_in r jobs carry restarts opened t j run.1)
          (stored_in r jobs carry restarts opened t j) (all_stand r jobs carry restarts opened j run.0 clear.0) ∙ sym run.1.phase in
          let most = phase_most (drive_at r k).busy (view_of r jobs carry restarts k t j) (views_of r jobs carry restarts k j)
          (all_stand r jobs carry restarts opened (t ∷ j) run clear k below).sees.run in omega (arith, high, is, most)
    ]

    pub not_start : is_start idn.raw ≡ false
    not_start = by (is_start idn.raw) refl
      where
        by : (x : Bool) → is_start idn.raw ≡ x → is_start idn.raw ≡ false
        by false is = is
        by true is = absurd (never_complete (drive_at r k).busy (reads_count (member (known_of r) k) + 13) (store_of (drive_at r k)) (small r jobs carry restarts opened (first_store r jobs carry restarts opened) k below) idn b found
            (start_guarded (drive_at r k) (ring_drive r k (drive_at r k) opened.valid (drive_got r k below)).blocks idn.raw b is found)
            (view_of r jobs carry restarts k t j) (views_of r jobs carry restarts k j) (all_stand r jobs carry restarts opened
            (t ∷ j) run clear k below).sees.run (all_stand r jobs carry restarts opened (t ∷ j) run clear k below).sound
            (fews j run.0 clear.0) four asked.ends.newer asked.ends.older asked.ends.one bytes whole
            ((keeps.exact k below).begun_now ∙ asked.ends.split) asked.ends.late (asked.same ∙ asks) asked.ended)
