-- In a log that ends with a complete check, whose status was 3, the check counts as passed. Each list has its newest item first.
use Rattle.sercos_law_run.proofs.Words.{◌≡◌, ℕ, ◌+◌, ◌≤◌, Bool, true, false, not, List, [], ◌∷◌, map, refl, sym, ap, ◌∙◌, subst, arith, if◌then◌else◌, ◌==◌, nat_le, Option, Some, None, and_parts, leb-true, not-true, Block, with_data, SetCommand, is_command, ends_well, status_by, Wrote, Other, CommandHistory, with_call, status_in, find_set, set_in, Entry, Write, added_by, with_added, writes_of, commands_with, Given, given_of, gives, sets_to, LogLeaves, cases_Option, inl, inr}
use Rattle.sercos_law_run.proofs.Settings.Givers.{are_away}
use Rattle.sercos_law_run.proofs.Settings.Histories.{status_as, status_set, set_beside, set_cancelled, set_new}
use Rattle.sercos_law_run.proofs.Undisturbed.Checks.LogLeaves.{added_cycle, read_adds_none}
use Rattle.sercos_law_run.proofs.Undisturbed.Arriving.Small.{first_is}

-- If a command is set where it wasn't, and its status is 3 then, it ends well and has ended.
set_status : (raw at n : ℕ) (blocks : List Block) (c : CommandHistory) → find_set raw (set_in c) ≡ None → status_in (with_call (Wrote raw 3 at blocks) c) raw n ≡ 3 → (ends_well c.rate raw blocks ≡ true) × (at + c.time ≤ n)
set_status raw at n blocks c none three =
    by (ends_well c.rate raw blocks) (nat_le (at + c.time) n) refl refl
    (sym (status_set (with_call (Wrote raw 3 at blocks) c) raw n
    ∙ ap (λ (o : Option SetCommand). status_by c.time o n) (set_new raw 3 at blocks c refl none)) ∙ three)
  where
    by : (well ended : Bool) → ends_well c.rate raw blocks ≡ well → nat_le (at + c.time) n ≡ ended → status_as ended well ≡ 3 → (ends_well c.rate raw blocks ≡ true) × (at + c.time ≤ n)
    by true true w e is = (w, leb-true (at + c.time) n e)
    by well false w e is = absurd (omega (arith, is))
    by false true w e is = absurd (omega (arith, is))

-- THE LOG. At each entry the number is that of a procedure command of the drive.
abbrev pub AreCommandsIn : ℕ → List Entry → Type 0
AreCommandsIn raw [] = Unit {0}
AreCommandsIn raw (e ∷ log) = AreCommandsIn raw log × (is_command e.processed.blocks raw ≡ true)

-- nothing of these writes goes to the number
abbrev pub NoneTo : ℕ → List Write → Type 0
NoneTo raw writes = are_away raw (map given_of writes) ≡ true

-- so it isn't set
none_set : (raw : ℕ) (log : List Entry) (c : CommandHistory) → LogLeaves log c → NoneTo raw (writes_of log) → find_set raw (set_in c) ≡ None
none_set raw [] c leaves none = ap (find_set raw) leaves
none_set raw (e ∷ log) c leaves none =
    ap (λ (x : CommandHistory). find_set raw (set_in x)) leaves.1 ∙ elim (cases_Option (added_by e log)) [
      | inl is ↦ rw is (none_set raw log e.processed.commands leaves.0 (rw is at none))
      | inr (w, is) ↦
          let parts = and_parts (not (w.raw == raw)) (are_away raw (map given_of (writes_of log))) (rw is at none) in
          rw is (set_beside raw w e.processed.blocks e.processed.commands (not-true (w.raw == raw) parts.0) ∙ none_set raw log
          e.processed.commands leaves.0 parts.1)
    ]

-- What the newest write of a log found, and what it left: the entries after it added nothing.
record IsNewest (raw : ℕ) (w : Write) (writes : List Write) (c : CommandHistory) : Type 0 where
  blocks : List Block
  commands : CommandHistory
  log : List Entry
  is : c ≡ commands_with (Some w) blocks commands
  command : is_command blocks raw ≡ true
  leaves : LogLeaves log commands
  rest : writes_of log ≡ writes

newest_write : (raw : ℕ) (w : Write) (writes : List Write) (log : List Entry) (c : CommandHistory) → LogLeaves log c → AreCommandsIn raw log → writes_of log ≡ w ∷ writes → IsNewest raw w writes c
newest_write raw w writes [] c leaves commands is = absurd (cc)
newest_write raw w writes (e ∷ log) c leaves commands is = elim (cases_Option (added_by e log)) [
  | inl none ↦
      subst (IsNewest raw w writes) (sym (rw none at leaves.1))
      (newest_write raw w writes log e.processed.commands leaves.0 commands.0 (rw none at is))
  | inr (x, some) ↦
      let same = first_is x w (writes_of log) writes (rw some at is) in
      record {
        blocks = e.processed.blocks;
        commands = e.processed.commands;
        log = log;
        is = (rw some at leaves.1) ∙ ap (λ (y : Write). commands_with (Some y) e.processed.blocks e.processed.commands) same.0;
        command = commands.1;
        leaves = leaves.0;
        rest = same.1;
      }
]

-- a write of these two bytes to the number, in its cycle
sets_so : (raw value : ℕ) (w : Write) → given_of w ≡ gives raw (value ∷ 0 ∷ []) → w ≡ sets_to raw value w.cycle
sets_so raw value w is = ap (λ (g : Given). (let x : Write = record { cycle = w.cycle; raw = g.raw; bytes = g.bytes } in x)) is

-- what they leave, where the number is that of a procedure command
set_left : (raw at : ℕ) (blocks : List Block) (c : CommandHistory) → is_command blocks raw ≡ true → commands_with (Some (sets_to raw 3 at)) blocks c ≡ with_call (Wrote raw 3 at (with_data raw (3 ∷ 0 ∷ []) blocks)) c
set_left raw at blocks c is = ap (λ (v : Bool). with_call (if v then Wrote raw 3 at (with_data raw (3 ∷ 0 ∷ []) blocks) else Other at) c) is

-- how a check comes to count as passed when it is set, and that its cancel leaves it so
abbrev pub PassesIfSet : ℕ → (CommandHistory → Option ℕ) → Type 0
PassesIfSet raw passed = (c : CommandHistory) (blocks : List Block) (cycle : ℕ) → is_command blocks raw ≡ true → find_set raw (set_in c) ≡ None → ends_well c.rate raw (with_data raw (3 ∷ 0 ∷ []) blocks) ≡ true →
    (first : ℕ) × (passed (commands_with (Some (sets_to raw 3 cycle)) blocks c) ≡ Some first) × (first ≤ cycle + c.time)

abbrev pub StaysIfCancelled : ℕ → (CommandHistory → Option ℕ) → Type 0
StaysIfCancelled raw passed = (c : CommandHistory) (blocks : List Block) (cycle first : ℕ) → is_command blocks raw ≡ true → passed c ≡ Some first → first ≤ cycle →
    passed (commands_with (Some (sets_to raw 0 cycle)) blocks c) ≡ Some first

-- the check counts as passed from a cycle on that isn't later
abbrev pub CountsBy : (CommandHistory → Option ℕ) → CommandHistory → ℕ → Type 0
CountsBy passed c n = (first : ℕ) × (passed c ≡ Some first) × (first ≤ n)

counts_later : (passed : CommandHistory → Option ℕ) (c : CommandHistory) (m n : ℕ) → m ≤ n → CountsBy passed c m → CountsBy passed c n
counts_later passed c m n le (first, is, early) = (first, is, omega (arith, early, le))

counts_same : (passed : CommandHistory → Option ℕ) (c d : CommandHistory) (n : ℕ) → c ≡ d → CountsBy passed d n → CountsBy passed c n
counts_same passed c d n same (first, is, early) = (first, ap passed same ∙ is, early)

module _ (raw : ℕ) (passed : CommandHistory → Option ℕ) (sets : PassesIfSet raw passed) (stays : StaysIfCancelled raw passed) where
  -- a cancel leaves what counts
  cancel_counts : (c : CommandHistory) (blocks : List Block) (n cycle : ℕ) → is_command blocks raw ≡ true → n ≤ cycle → CountsBy passed c n → CountsBy passed (commands_with (Some (sets_to raw 0 cycle)) blocks c) cycle
  cancel_counts c blocks n cycle command le (first, is, early) = let late : first ≤ cycle = omega (arith, early, le) in (first, stays c blocks cycle first command is late, late)

  -- the check was set last, where nothing was written to it before, and its status is 3
  set_counts : (at n : ℕ) (writes : List Write) (log : List Entry) (c : CommandHistory) → LogLeaves log c → AreCommandsIn raw log → writes_of log ≡ sets_to raw 3 at ∷ writes → NoneTo raw writes → status_in c raw n ≡ 3 → CountsBy passed c n
  set_counts at n writes log c leaves commands is none three =
      let newest = newest_write raw (sets_to raw 3 at) writes log c leaves commands is in
      let unset = none_set raw newest.log newest.commands newest.leaves (subst (NoneTo raw) (sym newest.rest) none) in
      let well = set_status raw at n (with_data raw (3 ∷ 0 ∷ []) newest.blocks) newest.commands unset (ap (λ (x : CommandHistory). status_in x raw n) (sym (newest.is ∙ set_left raw at newest.blocks newest.commands newest.command)) ∙ three) in
      counts_same passed c (commands_with (Some (sets_to raw 3 at)) newest.blocks newest.commands) n newest.is
      (counts_later passed (commands_with (Some (sets_to raw 3 at)) newest.blocks newest.commands) (at + newest.commands.time) n well.1 (sets newest.commands newest.blocks at newest.command unset well.0))

  -- it wasn't cancelled last
  not_cancelled : (at n : ℕ) (writes : List Write) (log : List Entry) (c : CommandHistory) → LogLeaves log c → AreCommandsIn raw log → writes_of log ≡ sets_to raw 0 at ∷ writes → status_in c raw n ≡ 3 → ⊥
  not_cancelled at n writes log c leaves commands is three =
      let newest = newest_write raw (sets_to raw 0 at) writes log c leaves commands is in
      let zero_is : status_in (with_call (Wrote raw 0 at (with_data raw (0 ∷ 0 ∷ []) newest.blocks)) newest.commands) raw n ≡ 0 = status_set
      (with_call (Wrote raw 0 at (with_data raw (0 ∷ 0 ∷ []) newest.blocks)) newest.commands) raw n
      ∙ ap (λ (o : Option SetCommand). status_by newest.commands.time o n)
      (set_cancelled raw 0 at (with_data raw (0 ∷ 0 ∷ []) newest.blocks) newest.commands refl) in
      let same : 0 ≡ 3 = sym zero_is ∙ (ap (λ (x : CommandHistory). status_in x raw n)
      (sym (newest.is ∙ ap (λ (v : Bool). with_call (if v then Wrote raw 0 at (with_data raw (0 ∷ 0 ∷ []) newest.blocks) else Other at)
      newest.commands) newest.command)) ∙ three) in
      absurd (omega (arith, same))

  -- A LOG WITH A COMPLETE CHECK, whose last two entries are the cancel and the poll before it
  pub log_counts : (cancel poll : Entry) (log : List Entry) (c : CommandHistory) (last set : Write) (writes : List Write) → LogLeaves (cancel ∷ poll ∷ log) c → AreCommandsIn raw (cancel ∷ poll ∷ log)
      → writes_of (cancel ∷ poll ∷ log) ≡ last ∷ set ∷ writes → given_of last ≡ gives raw (0 ∷ 0 ∷ []) → given_of set ≡ gives raw (3 ∷ 0 ∷ []) → NoneTo raw writes
      → poll.processed.step.write ≡ false → status_in poll.processed.commands raw poll.processed.cycle ≡ 3 → poll.processed.cycle ≤ cancel.processed.cycle → CountsBy passed c cancel.processed.cycle
  log_counts cancel poll log c last set writes leaves commands are last_is set_is none reads three later = by (added_by cancel (poll ∷ log)) refl leaves.1 are
    where
      before : writes_of (poll ∷ log) ≡ writes_of log
      before = ap (λ (o : Option Write). with_added o (writes_of log)) (read_adds_none poll log reads)

      by : (o : Option Write) → added_by cancel (poll ∷ log) ≡ o → c ≡ commands_with o cancel.processed.blocks cancel.processed.commands → with_added o (writes_of (poll ∷ log)) ≡ last ∷ set ∷ writes → CountsBy passed c cancel.processed.cycle
      by None adds left are =
          absurd (not_cancelled last.cycle poll.processed.cycle (set ∷ writes) log poll.processed.commands leaves.0.0 commands.0.0 (sym before ∙ are ∙ ap (λ (w : Write). w ∷ set ∷ writes) (sets_so raw 0 last last_is)) three)
      by (Some x) adds left are =
          let first : x ≡ last = (first_is x last (writes_of (poll ∷ log)) (set ∷ writes) are).0 in
          let rest : writes_of (poll ∷ log) ≡ set ∷ writes = (first_is x last (writes_of (poll ∷ log)) (set ∷ writes) are).1 in
          let at = set_counts set.cycle poll.processed.cycle writes log poll.processed.commands leaves.0.0 commands.0.0 (sym before ∙ rest ∙ ap (λ (w : Write). w ∷ writes) (sets_so raw 3 set set_is)) none three in
          let cycle : last.cycle ≡ cancel.processed.cycle = ap (λ (w : Write). w.cycle) (sym first) ∙ added_cycle cancel (poll ∷ log) x adds in
          let cancels : x ≡ sets_to raw 0 cancel.processed.cycle = first ∙ sets_so raw 0 last last_is ∙ ap (sets_to raw 0) cycle in
          counts_same passed c (commands_with (Some (sets_to raw 0 cancel.processed.cycle)) cancel.processed.blocks cancel.processed.commands) cancel.processed.cycle
          (left ∙ ap (λ (w : Write). commands_with (Some w) cancel.processed.blocks cancel.processed.commands) cancels)
          (cancel_counts cancel.processed.commands cancel.processed.blocks poll.processed.cycle cancel.processed.cycle commands.1 later
          (counts_same passed cancel.processed.commands poll.processed.commands poll.processed.cycle
          (leaves.0.1 ∙ ap (λ (o : Option Write). commands_with o poll.processed.blocks poll.processed.commands)
          (read_adds_none poll log reads)) at))
