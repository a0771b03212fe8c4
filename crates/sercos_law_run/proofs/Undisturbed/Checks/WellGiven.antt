-- If no own block of a drive was outside its limits at opening, each complete check for phase 4 gives 3.
use Rattle.sercos_law_run.proofs.Words.{◌≡◌, inl, inr, ℕ, ◌<◌, Bool, true, false, List, [], ◌∷◌, ◌++◌, length, Option, Some, None, refl, sym, ap, ◌∙◌, subst, append_assoc, option_map, unwrap_or, list_any, Job, Request, outcome_of, blocks_fault, find_block, with_data, store_of, DriveView, RingView, Block, is_outside, is_command, ends_well, CommandHistory, find_set, SetCommand, Entry, Write, commands_with, command_value, without_data, Begun, CycleView, idn, Carry, Restarts, IsStoreOf, begun_in, View, processed_in, kept_in, write_of, find-alike, entries_ago, entries_in_epochs, drive_at, IsRun, IsClear, commands_left, HaveStores, view_of, views_of, IsOpened, AreStored, attribute_of, IsViewRun, none-some, cases_Bool, Outcome}
use Rattle.sercos_law_run.proofs.Settings.CheckRuns.{checks_give}
use Rattle.sercos_law_run.proofs.Settings.SettingsRuns.{keeps_settings}
use Rattle.sercos_law_run.proofs.Held.Runs.{alike_so, drive_rules}
use Rattle.sercos_law_run.proofs.Headline.HeadlineRuns.{all_stand}
use Rattle.sercos_law_run.proofs.Held.EntriesAre.{EntriesSay, ViewsSay, entries_say, entry_is}
use Rattle.sercos_law_run.proofs.Undisturbed.JobsBegun.{wells}
use Rattle.sercos_law_run.proofs.Undisturbed.Checks.OwnSet.{Say, say_written}
use Rattle.sercos_law_run.proofs.Undisturbed.Stops.RefusedCauses.{check_4, found_4}
use Rattle.sercos_law_run.proofs.Undisturbed.Checks.SetsFour.{sets_well}
use Rattle.sercos_law_run.proofs.Settings.NoCheck127.{next_still, stays}

abbrev pub IsWell : SetCommand → Type 0
IsWell s = s.well ≡ true

-- S-0-0128 is a procedure command of each drive
command_so : (d : DriveView) (o : Option Block) → option_map without_data o ≡ Some (without_data (check_4 d)) → (b : Option Block) → o ≡ b → (c : Block) × (b ≡ Some c) × (c.attribute.command ≡ true)
unfolding attribute_of
command_so d o alike None is = let both : None ≡ Some (without_data (check_4 d)) = sym (ap (option_map without_data) is) ∙ alike in absurd (cc)
command_so d o alike (Some c) is = (c, refl, ap (λ (x : Option Block). attribute_bit x) (sym (ap (option_map without_data) is) ∙ alike))
  where
    attribute_bit : Option Block → Bool
    attribute_bit None = false
    attribute_bit (Some x) = x.attribute.command

pub is_command_128 : (d : DriveView) (blocks : List Block) → blocks_fault [] d.blocks ≡ None → IsStoreOf d blocks → is_command blocks 128 ≡ true
is_command_128 d blocks rules stored =
    let is = command_so d (find_block 128 blocks) (find-alike 128 blocks (store_of d) (check_4 d) (alike_so d blocks stored) (found_4 d rules)) (find_block 128 blocks) refl in
    ap (λ (o : Option Block). unwrap_or (option_map (λ (b : Block). b.attribute.command) o) false) is.1 ∙ is.2

pub have_commands : (d : DriveView) (views : List View) → blocks_fault [] d.blocks ≡ None → AreStored d views → HaveStores (λ blocks. is_command blocks 128 ≡ true) views
have_commands d [] rules are = tt
have_commands d (v ∷ past) rules are = (have_commands d past rules are.0, is_command_128 d v.blocks rules are.1.1)

-- WHAT A WRITE LEAVES
write_says : (o : Option Write) (blocks : List Block) (c : CommandHistory) → ((w : Write) → o ≡ Some w → w.raw ≡ 128 → ends_well c.rate 128 (with_data 128 w.bytes blocks) ≡ true) → Say IsWell c → Say IsWell (commands_with o blocks c)
write_says None blocks c sets say = say
write_says (Some w) blocks c sets say = elim (cases_Bool (is_command blocks w.raw)) [
  | inl on ↦ rw on (say_written IsWell w.raw (command_value w) w.cycle (with_data w.raw w.bytes blocks) c (λ number. ap (λ (n : ℕ). ends_well c.rate n (with_data n w.bytes blocks)) number ∙ sets w refl number) say)
  | inr off ↦ rw off say
]

-- WHAT A CHECK THAT IS SET SAYS in each cycle, if what a cycle leaves says it
module _ (r : RingView) (jobs : List Job) (carry : Carry) (restarts : Restarts) (opened : IsOpened r jobs) (k : ℕ)
    (below : k < length r.drives) where
  pub say_each : (such : List CycleView → SetCommand → Type 0)
      → ((t u : CycleView) (j : List CycleView) → IsRun r jobs carry restarts (t ∷ u ∷ j) → IsClear (t ∷ u ∷ j) → Say (such (u ∷ j))
      (view_of r jobs carry restarts k u j).commands
      → Say (such (t ∷ u ∷ j)) (commands_left (view_of r jobs carry restarts k u j) (views_of r jobs carry restarts k j)))
      → (t : CycleView) (j : List CycleView) → IsRun r jobs carry restarts (t ∷ j) → IsClear (t ∷ j)
      → Say (such (t ∷ j)) (view_of r jobs carry restarts k t j).commands
  say_each such each t [] run clear s found =
      let empty = keeps_settings (view_of r jobs carry restarts k t []) [] (wells r jobs carry restarts opened (t ∷ []) run clear k below).follow in
      absurd (none-some s (sym (ap (find_set 128) empty) ∙ found))
  say_each such each t (u ∷ j) run clear s found = elim
      (keeps_settings (view_of r jobs carry restarts k t (u ∷ j)) (views_of r jobs carry restarts k (u ∷ j))
      (wells r jobs carry restarts opened (t ∷ u ∷ j) run clear k below).follow) [
        | inl empty ↦ absurd (none-some s (sym (ap (find_set 128) empty) ∙ found))
        | inr same ↦ each t u j run clear (say_each such each u j run.0 clear.0) s (sym (ap (find_set 128) same) ∙ found)
      ]

module _ (r : RingView) (jobs : List Job) (carry : Carry) (restarts : Restarts) (opened : IsOpened r jobs) (k : ℕ)
    (below : k < length r.drives) (none : list_any is_outside (drive_at r k).blocks ≡ false) where
  views_say : (j : List CycleView) → IsRun r jobs carry restarts j → IsClear j → ViewsSay (Say IsWell) (views_of r jobs carry restarts k j)
  views_say [] run clear = tt
  views_say (t ∷ j) run clear = (
    views_say j run.0 clear.0,
    say_each r jobs carry restarts opened k below (λ j. IsWell)
        (λ t u j run clear before. write_says (write_of
        (processed_in (view_of r jobs carry restarts k u j) (views_of r jobs carry restarts k j))
        (kept_in (view_of r jobs carry restarts k u j) (views_of r jobs carry restarts k j))) (view_of r jobs carry restarts k u j).blocks
        (view_of r jobs carry restarts k u j).commands (sets_well r jobs carry restarts opened k below none u j run.0 clear.0) before) t j run
        clear,
  )

  pub check_gives_3 : (t : CycleView) (j : List CycleView) → IsRun r jobs carry restarts (t ∷ j) → IsClear (t ∷ j) → (newer older : List Begun) (b : Begun) (bytes : List ℕ)
      → begun_in (view_of r jobs carry restarts k t j) (views_of r jobs carry restarts k j) ≡ newer ++ b ∷ older → b.request ≡ Request.Command (idn 128)
      → outcome_of b.request b.answers ≡ Some (Outcome.Complete bytes) → bytes ≡ 3 ∷ 0 ∷ []
  check_gives_3 t j run clear =
      let past : List View = stays (view_of r jobs carry restarts k t j) ∷ views_of r jobs carry restarts k j in
      let stands = all_stand r jobs carry restarts opened (t ∷ j) run clear k below in
      let on : IsViewRun (drive_at r k).busy past = (
        stands.sees.run.0,
        next_still (drive_at r k).busy (view_of r jobs carry restarts k t j) (views_of r jobs carry restarts k j)
            stands.sees.run.1,
      ) in
      checks_give 128 (drive_at r k).busy (store_of (drive_at r k)) past on stands.sound
      (wells r jobs carry restarts opened (t ∷ j) run clear k below).follow
      (λ newer poll behind is. entry_is (λ x. Say IsWell x.commands) newer poll (behind ++ entries_ago past)
      (subst (EntriesSay (Say IsWell))
      (entries_in_epochs (drive_at r k).busy past on ∙ ap (λ (l : List Entry). l ++ entries_ago past) is
      ∙ append_assoc newer (poll ∷ behind) (entries_ago past))
      (entries_say (Say IsWell) past (views_say (t ∷ j) run clear))))
      (have_commands (drive_at r k) (views_of r jobs carry restarts k (t ∷ j))
      (drive_rules r k opened.valid below) stands.stored)
