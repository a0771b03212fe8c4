-- The procedure commands of a drive: the data status of a command by what is set, what a write leaves of a setting, and what phase 0 does.
use Rattle.sercos_law_run.proofs.Words.{◌≡◌, ℕ, Bool, true, false, List, [], ◌∷◌, ◌==◌, Option, Some, refl, sym, ap, ◌∙◌, inl, inr, if◌then◌else◌, eq-eqb, cases_Bool, cases_Option, find-append, with_data, Block, is_command, ends_well, SetCommand, status_by, Wrote, Reset, CommandHistory, with_call, status_in, find_set, without, set_in, find-settings, Write, command_value, commands_with, None, ◌⊎◌, is_some, has_ended}

pub status_set : (c : CommandHistory) (raw cycle : ℕ) → status_in c raw cycle ≡ status_by c.time (find_set raw (set_in c)) cycle
status_set c raw cycle = ap (λ (o : Option SetCommand). status_by c.time o cycle) (sym (find-settings c.rate raw c.calls))

-- the status of a command that is set, by whether it has ended and ends well
abbrev pub status_as : Bool → Bool → ℕ
status_as ended well = if ended then (if well then 3 else 15) else 7

-- a command that is set and ends well has the status 3, or 7 while it runs
pub status_ends : (raw cycle : ℕ) (c : CommandHistory) → is_some (find_set raw (set_in c)) ≡ true
    → ((s : SetCommand) → find_set raw (set_in c) ≡ Some s → s.well ≡ true)
    → (status_in c raw cycle ≡ 3) ⊎ (status_in c raw cycle ≡ 7)
status_ends raw cycle c on well = rw (status_set c raw cycle) (elim (cases_Option (find_set raw (set_in c))) [
  | inl none ↦ let on = rw none at on in let well = rw none at well in absurd (cc)
  | inr (s, some) ↦ rw some (elim (cases_Bool (has_ended c.time cycle s)) [
    | inl on ↦ rw on (inl (ap (status_as true) ((rw some at well) s refl)))
    | inr off ↦ rw off (inr refl)
  ])
])

-- A WRITE to another command leaves a setting as it was.
pub set_elsewhere : (raw other value cycle : ℕ) (blocks : List Block) (c : CommandHistory) → (other == raw) ≡ false
    → find_set raw (set_in (with_call (Wrote other value cycle blocks) c)) ≡ find_set raw (set_in c)
set_elsewhere raw other value cycle blocks c off =
    find-settings c.rate raw (Wrote other value cycle blocks ∷ c.calls) ∙ rw off (sym (find-settings c.rate raw c.calls))

-- so does one to other data
pub set_beside : (raw : ℕ) (w : Write) (blocks : List Block) (c : CommandHistory) → (w.raw == raw) ≡ false
    → find_set raw (set_in (commands_with (Some w) blocks c)) ≡ find_set raw (set_in c)
set_beside raw w blocks c off = elim (cases_Bool (is_command blocks w.raw)) [
  | inl on ↦ rw on (set_elsewhere raw w.raw (command_value w) w.cycle (with_data w.raw w.bytes blocks) c off)
  | inr other ↦ rw other refl
]

-- A 0 ends the setting;
none_without : (raw : ℕ) (set : List SetCommand) → find_set raw (without raw set) ≡ None
none_without raw [] = refl
none_without raw (s ∷ set) = elim (cases_Bool (s.idn.raw == raw)) [
  | inl on ↦ rw on (none_without raw set)
  | inr off ↦ rw off (rw off (none_without raw set))
]

pub set_cancelled : (raw value cycle : ℕ) (blocks : List Block) (c : CommandHistory) → (value == 0) ≡ true
    → find_set raw (set_in (with_call (Wrote raw value cycle blocks) c)) ≡ None
set_cancelled raw value cycle blocks c zero = rw zero (none_without raw (set_in c))

-- any other value makes one, unless there is one.
pub set_new : (raw value cycle : ℕ) (blocks : List Block) (c : CommandHistory) → (value == 0) ≡ false → find_set raw (set_in c) ≡ None
    → find_set raw (set_in (with_call (Wrote raw value cycle blocks) c)) ≡ Some
    (record { idn = record { raw = raw }; cycle = cycle; well = ends_well c.rate raw blocks })
set_new raw value cycle blocks c off none = rw off (rw none (rw find-append (rw none (rw (eq-eqb raw raw refl) refl))))

pub set_stays : (raw value cycle : ℕ) (blocks : List Block) (c : CommandHistory) (s : SetCommand) → (value == 0) ≡ false
    → find_set raw (set_in c) ≡ Some s
    → find_set raw (set_in (with_call (Wrote raw value cycle blocks) c)) ≡ Some s
set_stays raw value cycle blocks c s off some = rw off (rw some some)

-- the procedure commands, reset or not
abbrev pub reset_if : Bool → CommandHistory → CommandHistory
reset_if is c = record { rate = c.rate; time = c.time; calls = if is then Reset ∷ c.calls else c.calls }
