-- At each MST's place the settings are what the records since the drive was last in phase 0 left.
use Rattle.sercos_law_run.proofs.Words.{◌≡◌, Bool, true, false, List, [], ◌∷◌, refl, sym, ◌∙◌, subst, if◌then◌else◌, ◌==◌, Option, SetCommand, CommandHistory, set_in, Processed, added_on, commands_with, View, standing, stood_in, processed_in, with_record, kept_unless, since_reset, kept_in, write_of, Processes, Nothing, Record, processes, AreSetBy, settings_left, SettingsFollow, SetByKept, cases_Bool, inl, inr}

-- settings that these records left; only the settings matter
abbrev AreLeft : List Processed → List SetCommand → Type 0
AreLeft [] set = set ≡ []
AreLeft (t ∷ h) set = AreSetBy h t.commands × (set ≡ set_in (commands_with (added_on t h) t.blocks t.commands))

set_by : (h : List Processed) (c : CommandHistory) (set : List SetCommand) → set_in c ≡ set → AreLeft h set → AreSetBy h c
set_by [] c set same are = same ∙ are
set_by (t ∷ h) c set same are = (are.0, same ∙ are.1)

left_by : (h : List Processed) (c : CommandHistory) → AreSetBy h c → AreLeft h (set_in c)
left_by [] c are = are
left_by (t ∷ h) c are = are

kept_set : (v : View) (past : List View) → SettingsFollow (v ∷ past) → AreLeft (since_reset past) (settings_left past) → AreSetBy (kept_in v past) v.commands
kept_set v past follow before = by (stood_in v (standing past) == 0) v.drive_restarts follow.1
  where
    by : (zero restarts : Bool) → set_in v.commands ≡ (if zero then [] else (if restarts then [] else settings_left past)) → AreSetBy (if zero then [] else kept_unless restarts (since_reset past)) v.commands
    by true restarts same = same
    by false true same = same
    by false false same = set_by (since_reset past) v.commands (settings_left past) same before

since_set : (past : List View) → SettingsFollow past → AreLeft (since_reset past) (settings_left past)
since_set [] follow = refl
since_set (v ∷ past) follow = elim (cases_Bool ((standing (v ∷ past)).ended == 0)) [
  | inl on ↦ rw on
  | inr off ↦ rw off (taken (kept_set v past follow (since_set past follow.0)) (processes v past))
]
  where
    taken : AreSetBy (kept_in v past) v.commands → Processes v past → AreLeft (with_record (processed_in v past) (kept_in v past)) (set_in (commands_with (write_of (processed_in v past) (kept_in v past)) v.blocks v.commands))
    taken at (Nothing none) =
        subst (λ (o : Option Processed). AreLeft (with_record o (kept_in v past)) (set_in (commands_with (write_of o (kept_in v past)) v.blocks v.commands))) (sym none)
        (left_by (kept_in v past) v.commands at)
    taken at (Record s got came two some) =
        subst (λ (o : Option Processed). AreLeft (with_record o (kept_in v past)) (set_in (commands_with (write_of o (kept_in v past)) v.blocks v.commands))) (sym some) (at, refl)

pub set_by_kept : SetByKept
set_by_kept v past follow = kept_set v past follow (since_set past follow.0)
