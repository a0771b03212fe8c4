-- A procedure command is set if the newest write to it isn't 0.
use Rattle.sercos_law_run.proofs.Words.{cases_Bool, ◌≡◌, ℕ, true, false, List, [], ◌∷◌, sym, ap, ◌∙◌, ◌==◌, Option, Some, None, is_some, w16, from_le_bytes, eqb-true, with_data, SetCommand, is_command, find_set, set_in, log_of, Write, with_added, added_on, command_value, commands_with, writes_of, newest_to, written, IsSetByWrites, cases_Option, inl, inr}
use Rattle.sercos_law_run.proofs.Settings.Histories.{set_beside, set_new, set_stays}

pub set_by_writes : IsSetByWrites
set_by_writes raw [] c bytes are commands newest off = absurd (cc)
set_by_writes raw (t ∷ h) c bytes are commands newest off =
    ap (λ (l : List SetCommand). is_some (find_set raw l)) are.1
    ∙ by (added_on t h) (ap (newest_to raw) (written t h) ∙ newest) (λ n. set_by_writes raw h t.commands bytes are.0 commands.0 n off)
  where
    by : (o : Option Write) → newest_to raw (with_added o (writes_of (log_of h))) ≡ Some bytes → (newest_to raw (writes_of (log_of h)) ≡ Some bytes → is_some (find_set raw (set_in t.commands)) ≡ true) → is_some (find_set raw (set_in (commands_with o t.blocks t.commands))) ≡ true
    by None newest more = more newest
    by (Some w) newest more = elim (cases_Bool (w.raw == raw)) [
      | inl same ↦ let one : w.bytes ≡ bytes = cc in
          let value : (command_value w == 0) ≡ false = ap (λ (l : List ℕ). from_le_bytes w16 l == 0) one ∙ off in
          let this : raw ≡ w.raw = sym (eqb-true w.raw raw same) in
          let after = with_data w.raw w.bytes t.blocks in
          rw this (rw (ap (is_command t.blocks) (sym this) ∙ commands.1) (elim (cases_Option (find_set w.raw (set_in t.commands))) [
            | inl none ↦ ap (λ (o : Option SetCommand). is_some o) (set_new w.raw (command_value w) w.cycle after t.commands value none)
            | inr (s, was) ↦ ap (λ (o : Option SetCommand). is_some o)
                (set_stays w.raw (command_value w) w.cycle after t.commands s value was)
          ]))
      | inr other ↦ let newest = rw other at newest in
          ap (λ (o : Option SetCommand). is_some o) (set_beside raw w t.blocks t.commands other) ∙ more newest
    ]
