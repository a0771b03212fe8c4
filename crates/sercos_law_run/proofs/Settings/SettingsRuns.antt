-- The settings at a drive's MST's place are what the cycle before left.
use Rattle.sercos_law_run.proofs.Words.{◌≡◌, ◌⊎◌, inl, inr, ℕ, Bool, true, false, List, [], ◌∷◌, Option, Some, None, refl, ap, ◌∙◌, if◌then◌else◌, ◌==◌, nat_le, ◌&&◌, SetCommand, Reset, CommandHistory, with_call, set_in, Processed, commands_with, commands_after, View, standing, stood_in, processed_of, processed_in, kept_in, write_of, settings_left, SettingsFollow, commands_ended, CommandsFollow, KeepsSettings, cases_Bool, StepSaid}

set_restarted : (restarts : Bool) (c : CommandHistory) → set_in (if restarts then with_call Reset c else c) ≡ (if restarts then [] else set_in c)
set_restarted true c = refl
set_restarted false c = refl

-- The settings follow where the procedure commands do, if none is set before the first cycle.
left_set : (c : CommandHistory) (all : List View) → set_in c ≡ [] → set_in (commands_ended c all) ≡ settings_left all
left_set c [] none = none
left_set c (v ∷ past) none = elim (cases_Bool ((standing (v ∷ past)).ended == 0)) [ inl on ↦ rw on | inr off ↦ rw off ]

pub settings_follow : (c : CommandHistory) (all : List View) → set_in c ≡ [] → CommandsFollow c all → SettingsFollow all
settings_follow c [] none follow = tt
settings_follow c (v ∷ past) none follow = (
  settings_follow c past none follow.0,
  ap (λ (x : CommandHistory). set_in x) follow.1 ∙ (elim (cases_Bool ((stood_in v (standing past)) == 0))
      [ inl on ↦ rw on | inr off ↦ rw off ])
      ∙ ap (λ (l : List SetCommand). if stood_in v (standing past) == 0 then [] else l)
      (set_restarted v.drive_restarts (commands_ended c past) ∙ ap (λ (l : List SetCommand). if v.drive_restarts then [] else l)
      (left_set c past none)),
)

-- a record that was processed was processed on the blocks and with the commands of the cycle
pub commands_same : (v : View) (cycle stood : ℕ) (o : Option StepSaid) (h : List Processed) → commands_after (processed_of v cycle stood o) h v.commands ≡ commands_with (write_of (processed_of v cycle stood o) h) v.blocks v.commands
commands_same v cycle stood None h = refl
commands_same v cycle stood (Some s) h = elim (cases_Bool (v.mst_comes && nat_le 2 stood)) [ inl on ↦ rw on | inr off ↦ rw off ]

-- so at the MST's place of each cycle none is set, or those are that the cycle before left
pub keeps_settings : (v : View) (past : List View) → SettingsFollow (v ∷ past) → KeepsSettings v past
keeps_settings v [] follow = by (stood_in v (standing []) == 0) v.drive_restarts follow.1
  where
    by : (zero restarts : Bool) → set_in v.commands ≡ (if zero then [] else (if restarts then [] else [])) → set_in v.commands ≡ []
    by true restarts is = is
    by false true is = is
    by false false is = is
keeps_settings v (u ∷ past) follow = by (stood_in v (standing (u ∷ past)) == 0) v.drive_restarts ((standing (u ∷ past)).ended == 0) follow.1
  where
    left : List SetCommand
    left = set_in (commands_with (write_of (processed_in u past) (kept_in u past)) u.blocks u.commands)

    by : (zero restarts ended : Bool) → set_in v.commands ≡ (if zero then [] else (if restarts then [] else (if ended then [] else left))) → (set_in v.commands ≡ []) ⊎ (set_in v.commands ≡ left)
    by true restarts ended is = inl is
    by false true ended is = inl is
    by false false true is = inl is
    by false false false is = inr is
