-- In a run of a ring whose plan fits, in which nothing is unseen, each check for phase 3 is set well.
use Rattle.sercos_law_run.proofs.Words.{◌≡◌, ℕ, ◌<◌, ◌≤◌, true, false, List, [], ◌∷◌, length, refl, ap, ◌∙◌, Option, Some, None, option_map, unwrap_or, slice_get-get_or, Attribute, Job, PlanView, IsValid, Fits, Block, is_ring, wishes_of, blocks_fault, find_block, store_of, IsStore, DriveView, RingView, is_command, open_in, begun_by, phase_in, blocks_in, CycleView, known_of, tasks_for, AreWaiting, is_done, Carry, Restarts, IsStoreOf, AreSound, AreSmall, drive_at, master_calls, looks_back, behind_mdt, after_mst, view_of, views_of, IsSpelled, HaveStores, AreSetWell, SettingsFollow, attribute_fault, attribute_of, block_attribute, built_in_attribute, row_in, attribute_in, cases_Option, inl, inr}
use Rattle.sercos_law_run.proofs.Start.BlockFinds.{same_attribute}
use Rattle.sercos_law_run.proofs.Start.CheckPasses.{ring_drive}
use Rattle.sercos_law_run.specs.Journal.Runs.{IsNext as IsNextCycle}
use Rattle.sercos_law_run.proofs.Views.Received.{Agrees}
use Rattle.sercos_law_run.proofs.Views.ViewRuns.{Sees, at_mst, sees_next}
use Rattle.sercos_law_run.proofs.Settings.SettingsRuns.{keeps_settings, settings_follow}
use Rattle.sercos_law_run.proofs.Undisturbed.Checks.CommandRuns.{AreCommandsSo, commands_next, first_commands}
use Rattle.sercos_law_run.proofs.Settings.SetsWell.{sets_well}

-- S-0-0127 is a procedure command of each drive
pub is_command_127 : (d : DriveView) (blocks : List Block) → blocks_fault [] d.blocks ≡ None → IsStoreOf d blocks → is_command blocks 127 ≡ true
unfolding block_attribute built_in_attribute row_in attribute_in attribute_fault attribute_of
is_command_127 d blocks none is =
    (elim (cases_Option (find_block 127 blocks)) [
      | inl none ↦ rw none
      | inr (b, some) ↦ rw some
    ]) ∙ ap (λ (o : Option Attribute). unwrap_or (option_map (λ (a : Attribute). a.command) o) false) (same_attribute 127 d blocks none is)

-- What holds of the drive at a place after a journal: its settings are those of its views, each check for phase 3 was set well, and
-- S-0-0127 is a procedure command in each cycle.
pub record IsWellSet (r : RingView) (jobs : List Job) (carry : Carry) (restarts : Restarts) (k : ℕ) (j : List CycleView) : Type 0 where
  pub set : AreCommandsSo r jobs carry restarts k j
  pub follow : SettingsFollow (views_of r jobs carry restarts k j)
  pub well : AreSetWell (views_of r jobs carry restarts k j)
  pub commands : HaveStores (λ blocks. is_command blocks 127 ≡ true) (views_of r jobs carry restarts k j)

pub well_first : (r : RingView) (jobs : List Job) (carry : Carry) (restarts : Restarts) (k : ℕ) → IsWellSet r jobs carry restarts k []
well_first r jobs carry restarts k = record { set = record { follow = tt; behind = refl }; follow = tt; well = tt; commands = tt }

module _ (r : RingView) (jobs : List Job) (carry : Carry) (restarts : Restarts) (valid : is_ring r ≡ true) (wishes : IsValid (wishes_of r))
    (waits : (i : ℕ) → AreWaiting (tasks_for (known_of r) jobs i)) (t : CycleView) (j : List CycleView)
    (next : IsNextCycle r jobs carry restarts t j) (clear : t.unseen ≡ 0) (spelled : IsSpelled r jobs carry restarts t j) (k : ℕ)
    (below : k < length r.drives) (sees : Sees r jobs carry restarts k j)
    (agrees : (plan : PlanView) → 3 ≤ (behind_mdt r jobs carry restarts t.sent j).now.phase → 3 ≤ phase_in (after_mst r carry restarts t.sent j k) → (behind_mdt r jobs carry restarts t.sent j).plan ≡ Some plan → Agrees (known_of r) (behind_mdt r jobs carry restarts t.sent j) k (blocks_in (drive_at r k) (after_mst r carry restarts t.sent j k)))
    (rests : is_done (known_of r) (behind_mdt r jobs carry restarts t.sent j) ≡ true → open_in (begun_by ((behind_mdt r jobs carry restarts t.sent j).calls k)) ≡ None)
    (small : AreSmall (store_of (drive_at r k))) (sound : AreSound (store_of (drive_at r k)) (views_of r jobs carry restarts k (t ∷ j)))
    (store : IsStore (view_of r jobs carry restarts k t j).blocks)
    (is_of : IsStoreOf (drive_at r k) (view_of r jobs carry restarts k t j).blocks)
    (fits : (plan : PlanView) → (looks_back r jobs (master_calls r carry restarts j)).plan ≡ Some plan → Fits (wishes_of r) plan)
    (before : IsWellSet r jobs carry restarts k j) where
  -- one cycle more
  pub well_next : IsWellSet r jobs carry restarts k (t ∷ j)
  well_next =
      let here = at_mst r jobs carry restarts valid t j next clear spelled k below sees agrees rests in
      let after = sees_next r jobs carry restarts valid t j next clear spelled k below sees agrees rests in
      let set = commands_next r jobs carry restarts valid t j next clear spelled k below sees agrees rests before.set in
      let follow = settings_follow (first_commands r k) (views_of r jobs carry restarts k (t ∷ j)) refl set.follow in
      let rules = (ring_drive r k (drive_at r k) valid (slice_get-get_or r.drives k _ below)).blocks in
      record {
        set = set;
        follow = follow;
        well = (
          before.well,
          keeps_settings (view_of r jobs carry restarts k t j) (views_of r jobs carry restarts k j) follow,
          sets_well r jobs carry restarts valid wishes waits k below small t j sees after sound store is_of here.blocks fits,
        );
        commands = (before.commands, is_command_127 (drive_at r k) (view_of r jobs carry restarts k t j).blocks rules is_of);
      }
