-- A setting of the check for phase 4 writes its list into block 22, and nothing else changes that block.
use Rattle.sercos_law_run.proofs.Words.{◌≡◌, ℕ, Bool, true, false, not, ◌&&◌, List, [], ◌∷◌, Option, Some, None, refl, sym, ap, ap₂, ◌∙◌, subst, arith, if◌then◌else◌, ◌==◌, is_none, eqb-true, same_Some, none-some, with_data, Block, unfit_for_phase_3, unfit_for_phase_4, list_bytes, is_command, Wrote, CommandHistory, with_call, find_set, set_in, SetCommand, is_none-settings, Write, command_value, blocks_with, commands_with, with_check_list, cases_Bool, cases_Option, inl, inr}
use Rattle.sercos_law_run.proofs.Undisturbed.Checks.BlockStays.{IsAt, written_at}
use Rattle.sercos_law_run.proofs.Settings.Histories.{set_beside, set_cancelled}
use Rattle.sercos_law_run.proofs.Undisturbed.Checks.OwnSet.{Say}
use Rattle.sercos_law_run.proofs.Start.LaterLemmas.{after_check}

-- block 22 has these bytes
abbrev pub HasList : List ℕ → List Block → Type 0
HasList bytes blocks = IsAt 22 (λ b. b.value ≡ bytes) blocks

-- A write isn't one to block 22; and if it is one to S-0-0128, these bytes are the list of what it leaves outside.
pub record IsFair (bytes : List ℕ) (w : Write) (blocks : List Block) : Type 0 where
  pub other : w.raw ≡ 22 → ⊥
  pub lists : w.raw ≡ 128 → list_bytes (unfit_for_phase_4 (with_data w.raw w.bytes blocks)) ≡ bytes

-- after a write the block has what was written
now_at : (raw : ℕ) (bytes : List ℕ) (blocks : List Block) → IsAt raw (λ b. b.value ≡ bytes) (with_data raw bytes blocks)
now_at raw bytes [] c found = absurd (cc)
now_at raw bytes (b ∷ blocks) c found = elim (cases_Bool (b.idn.raw == raw)) [
  | inl is ↦ ap (λ (x : Block). x.value) (sym (same_Some (record b { value = bytes }) c (rw (is, is) at found)))
  | inr is ↦ now_at raw bytes blocks c (rw (is, is) at found)
]

-- WHAT A WRITE LEAVES of it
pub list_left : (bytes : List ℕ) (o : Option Write) (c : CommandHistory) (blocks : List Block) → ((w : Write) → o ≡ Some w → IsFair bytes w blocks) → HasList bytes blocks → HasList bytes (blocks_with o c blocks)
list_left bytes None c blocks fair is = is
list_left bytes (Some w) c blocks fair is =
    let written = written_at 22 w.raw w.bytes (λ b. b.value ≡ bytes) blocks (λ same b found. absurd ((fair w refl).other same)) is in
    elim (cases_Bool (is_command blocks w.raw)) [
      | inl on ↦ rw on (after_check c (with_data w.raw w.bytes blocks) w.raw (command_value w) (HasList bytes) written
          (written_at 22 21 (list_bytes (unfit_for_phase_3 c.rate (with_data w.raw w.bytes blocks))) (λ b. b.value ≡ bytes)
          (with_data w.raw w.bytes blocks) (λ same b found. absurd (omega (arith, same))) written)
          (λ two. written_at 22 22 (list_bytes (unfit_for_phase_4 (with_data w.raw w.bytes blocks))) (λ b. b.value ≡ bytes)
          (with_data w.raw w.bytes blocks) (λ same b found. (fair w refl).lists (eqb-true w.raw 128 two)) written))
      | inr off ↦ rw off written
    ]

-- A SETTING where the check wasn't set, and a cancel
list_set : (bytes : List ℕ) (c : CommandHistory) (value : ℕ) (blocks : List Block) → (value == 0) ≡ false → find_set 128 (set_in c) ≡ None → list_bytes (unfit_for_phase_4 blocks) ≡ bytes → HasList bytes (with_check_list c 128 value blocks)
unfolding with_check_list
list_set bytes c value blocks some none lists =
    let on = ap₂ (λ (x y : Bool). not x && y) some (sym (is_none-settings c.rate 128 c.calls) ∙ ap (λ (o : Option SetCommand). is_none o)
    none) in
    subst (λ (x : Bool). HasList bytes (if x then with_data 22 (list_bytes (unfit_for_phase_4 blocks)) blocks else blocks)) (sym on) (λ b found. now_at 22 (list_bytes (unfit_for_phase_4 blocks)) blocks b found ∙ lists)

-- SO IF THE CHECK IS SET, block 22 has its list.
pub set_lists : (bytes : List ℕ) (o : Option Write) (c : CommandHistory) (blocks : List Block) → is_command blocks 128 ≡ true → ((w : Write) → o ≡ Some w → IsFair bytes w blocks) → Say (λ s. HasList bytes blocks) c
    → Say (λ s. HasList bytes (blocks_with o c blocks)) (commands_with o blocks c)
set_lists bytes o c blocks command fair say = elim (cases_Option (find_set 128 (set_in c))) [
  | inl none ↦ elim (cases_Option o) [
    | inl is ↦ rw is (λ s found. absurd (none-some s (sym none ∙ found)))
    | inr (w, some) ↦ rw some (written w ((rw some at fair) w refl) none (w.raw == 128) (command_value w == 0) refl refl)
  ]
  | inr (s, was) ↦ λ t found. list_left bytes o c blocks fair (say s was)
]
  where
    cancelled : (w : Write) → w.raw ≡ 128 → (command_value w == 0) ≡ true → find_set 128 (set_in (commands_with (Some w) blocks c)) ≡ None
    cancelled w number zero = rw (ap (is_command blocks) number ∙ command) (subst (λ (n : ℕ). find_set n (set_in (with_call (Wrote w.raw
        (command_value w) w.cycle (with_data w.raw w.bytes blocks)) c)) ≡ None) number
        (set_cancelled w.raw (command_value w) w.cycle (with_data w.raw w.bytes blocks) c zero))

    set_now : (w : Write) → IsFair bytes w blocks → w.raw ≡ 128 → (command_value w == 0) ≡ false → find_set 128 (set_in c) ≡ None → HasList bytes (blocks_with (Some w) c blocks)
    set_now w is number some none =
        subst (λ (x : Bool). HasList bytes (if x then with_check_list c w.raw (command_value w) (with_data w.raw w.bytes blocks) else with_data w.raw w.bytes blocks)) (sym (ap (is_command blocks) number ∙ command))
        (subst (λ (n : ℕ). HasList bytes (with_check_list c n (command_value w) (with_data w.raw w.bytes blocks))) (sym number) (list_set bytes c (command_value w) (with_data w.raw w.bytes blocks) some none (is.lists number)))

    written : (w : Write) → IsFair bytes w blocks → find_set 128 (set_in c) ≡ None → (x y : Bool) → (w.raw == 128) ≡ x → (command_value w == 0) ≡ y → Say (λ s. HasList bytes (blocks_with (Some w) c blocks)) (commands_with (Some w) blocks c)
    written w is none false y other value s found = absurd (none-some s (sym (set_beside 128 w blocks c other ∙ none) ∙ found))
    written w is none true true same value s found = absurd (none-some s (sym (cancelled w (eqb-true w.raw 128 same) value) ∙ found))
    written w is none true false same value s found = set_now w is (eqb-true w.raw 128 same) value none
