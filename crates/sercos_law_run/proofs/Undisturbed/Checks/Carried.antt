-- A procedure command that is set when an MDT comes was set at the end of the cycle before, and runs for the drive's time.
use Rattle.sercos_law_run.proofs.Words.{◌≡◌, ℕ, Bool, true, false, List, [], ◌∷◌, Some, None, refl, ap, ◌∙◌, subst, if◌then◌else◌, ◌==◌, SetCommand, Reset, CommandHistory, with_call, find_set, set_in, View, standing, stood_in, set_after, AreCarried, commands_left, commands_ended, commands_before, CommandsFollow}
use Rattle.sercos_law_run.proofs.Settings.Histories.{reset_if}

-- a restart doesn't change how long a command runs, and it, as phase 0, sets nothing
time_restarted : (is : Bool) (c : CommandHistory) → (if is then with_call Reset c else c).time ≡ c.time
time_restarted true c = refl
time_restarted false c = refl

set_restarted : (is : Bool) (c : CommandHistory) (raw : ℕ) (s : SetCommand) → find_set raw (set_in (if is then with_call Reset c else c)) ≡ Some s → find_set raw (set_in c) ≡ Some s
set_restarted true c raw s found = (let no : None ≡ Some s = found in absurd (cc))
set_restarted false c raw s found = found

set_reset : (is : Bool) (c : CommandHistory) (raw : ℕ) (s : SetCommand) → find_set raw (set_in (reset_if is c)) ≡ Some s → find_set raw (set_in c) ≡ Some s
set_reset true c raw s found = (let no : None ≡ Some s = found in absurd (cc))
set_reset false c raw s found = found

module _ (time : ℕ) (c : CommandHistory) (same : c.time ≡ time) (fresh : set_in c ≡ []) where
  time_ended : (past : List View) → CommandsFollow c past → (commands_ended c past).time ≡ time
  time_ended [] follow = same
  time_ended (v ∷ past) follow = ap (λ (x : CommandHistory). x.time) follow.1 ∙ time_restarted v.drive_restarts (commands_ended c past) ∙ time_ended past follow.0

  set_before : (past : List View) (raw : ℕ) (s : SetCommand) → find_set raw (set_in (commands_ended c past)) ≡ Some s → find_set raw (set_after past) ≡ Some s
  set_before [] raw s found = subst (λ (l : List SetCommand). find_set raw l ≡ Some s) fresh found
  set_before (v ∷ past) raw s found = set_reset ((standing (v ∷ past)).ended == 0) (commands_left v past) raw s found

  -- CARRIED, in every run
  pub are_carried : (past : List View) → CommandsFollow c past → AreCarried time past
  are_carried [] follow = tt
  are_carried (v ∷ past) follow = (
    are_carried past follow.0,
    record {
      takes = time_ended (v ∷ past) follow;
      carried = λ raw s found. set_before past raw s (set_restarted v.drive_restarts (commands_ended c past) raw s (set_reset (stood_in v (standing past) == 0) (commands_before c v past) raw s
          (subst (λ (x : CommandHistory). find_set raw (set_in x) ≡ Some s) follow.1 found)));
    },
  )
