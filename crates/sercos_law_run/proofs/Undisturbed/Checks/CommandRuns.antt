-- In a run of a ring in which nothing is unseen, the procedure commands at a drive's MST's place are what the cycle before left.
use Rattle.sercos_law_run.proofs.Words.{inr, inl, cases_Bool, ◌≡◌, ℕ, ◌<◌, ◌≤◌, ◌+◌, true, List, [], ◌∷◌, length, Option, Some, None, refl, sym, ap, ap₂, ◌∙◌, if◌then◌else◌, Job, PlanView, DriveView, RingView, is_ring, Reset, CommandHistory, with_call, Processed, open_in, begun_by, Told, mdt_got, Moment, phase_in, blocks_in, commands_in, commands_after, reset_in, annals, CycleView, known_of, is_done, Carry, Restarts, View, standing, stood_in, got_in, processed_of, processed_in, kept_in, mdt_in, drive_at, mdt_heard, given_before, behind_mdt, after_mst, view_of, views_of, IsSpelled, commands_ended, CommandsFollow, processed_at}
use Rattle.sercos_law_run.specs.Journal.Runs.{IsNext as IsNextCycle}
use Rattle.sercos_law_run.proofs.Views.DriveSame.{processed_same}
use Rattle.sercos_law_run.proofs.Views.Received.{Agrees, got_or_none}
use Rattle.sercos_law_run.proofs.Views.ViewRuns.{Sees, at_mst, count, told_so, sees_next}
use Rattle.sercos_law_run.proofs.Settings.SettingsRuns.{commands_same}

-- the procedure commands of a drive at its opening, and those after a journal
abbrev pub first_commands : RingView → ℕ → CommandHistory
first_commands r k = commands_in (drive_at r k) r.rate []

abbrev pub commands_at : RingView → Carry → Restarts → ℕ → List CycleView → CommandHistory
commands_at r carry restarts k j = commands_in (drive_at r k) r.rate (annals (drive_at r k) r.rate (given_before carry restarts j k))

-- The commands at each MST's place follow, and those after the journal are what its views leave.
pub record AreCommandsSo (r : RingView) (jobs : List Job) (carry : Carry) (restarts : Restarts) (k : ℕ) (j : List CycleView) : Type 0 where
  pub follow : CommandsFollow (first_commands r k) (views_of r jobs carry restarts k j)
  pub behind : commands_at r carry restarts k j ≡ commands_ended (first_commands r k) (views_of r jobs carry restarts k j)

module _ (r : RingView) (jobs : List Job) (carry : Carry) (restarts : Restarts) (valid : is_ring r ≡ true) (t : CycleView)
    (j : List CycleView) (next : IsNextCycle r jobs carry restarts t j) (clear : t.unseen ≡ 0)
    (spelled : IsSpelled r jobs carry restarts t j) (k : ℕ) (below : k < length r.drives) (sees : Sees r jobs carry restarts k j)
    (agrees : (plan : PlanView) → 3 ≤ (behind_mdt r jobs carry restarts t.sent j).now.phase → 3 ≤ phase_in (after_mst r carry restarts t.sent j k) → (behind_mdt r jobs carry restarts t.sent j).plan ≡ Some plan → Agrees (known_of r) (behind_mdt r jobs carry restarts t.sent j) k (blocks_in (drive_at r k) (after_mst r carry restarts t.sent j k)))
    (rests : is_done (known_of r) (behind_mdt r jobs carry restarts t.sent j) ≡ true → open_in (begun_by ((behind_mdt r jobs carry restarts t.sent j).calls k)) ≡ None)
    (before : AreCommandsSo r jobs carry restarts k j) where
  abbrev d : DriveView
  d = drive_at r k

  abbrev v : View
  v = view_of r jobs carry restarts k t j

  abbrev past : List View
  past = views_of r jobs carry restarts k j

  abbrev behind : List Moment
  behind = after_mst r carry restarts t.sent j k

  -- at the MST's place
  at_beat : v.commands ≡ reset_in (stood_in v (standing past)) (if v.drive_restarts then with_call Reset (commands_ended (first_commands r k) past) else commands_ended (first_commands r k) past)
  at_beat =
      let here = at_mst r jobs carry restarts valid t j next clear spelled k below sees agrees rests in
      ap₂ (λ (n : ℕ) (c : CommandHistory). reset_in n c) here.ended
      (elim (cases_Bool (restarts (length j) (k + 1))) [
        | inl on ↦ rw on (ap (with_call Reset) before.behind)
        | inr off ↦ rw off before.behind
      ])

  -- at the MDT's place
  abbrev told : Option Told
  told = mdt_got d.address (phase_in behind) (blocks_in d behind) (mdt_heard carry (length j) (k + 1) (mdt_in t.sent))

  processed_so : processed_at d r.rate told behind ≡ processed_in v past
  processed_so =
      let here = at_mst r jobs carry restarts valid t j next clear spelled k below sees agrees rests in
      let cycle = count r jobs carry restarts valid t j next clear spelled k below sees agrees rests in
      processed_same d r.rate (length past) behind told v (stood_in v (standing past)) (sym cycle) here.ended here.got refl refl
      ∙ ap (processed_of v (length past) (stood_in v (standing past))) (got_or_none _ _ (told_so r jobs carry restarts valid t j next clear spelled k below sees agrees rests))

  -- THE COMMANDS through one cycle more
  pub commands_next : AreCommandsSo r jobs carry restarts k (t ∷ j)
  commands_next = record {
    follow = (before.follow, at_beat);
    behind = let here = at_mst r jobs carry restarts valid t j next clear spelled
        k below sees agrees rests in
        let after = sees_next r jobs carry restarts valid t j next clear spelled k below sees agrees rests in
        ap₂ (λ (n : ℕ) (c : CommandHistory). reset_in n c) after.drive.ended
        (ap₂ (λ (o : Option Processed) (h : List Processed). commands_after o h v.commands) processed_so here.records
        ∙ commands_same v (length past) (stood_in v (standing past)) (got_in v) (kept_in v past));
  }
