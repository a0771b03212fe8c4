-- A procedure command that runs was set by the newest write to it.
use Rattle.sercos_law_channel.proofs.Words.{cases_Option, ◌≡◌, ◌⊎◌, inl, inr, ℕ, suc, ◌+◌, ◌<◌, ◌≤◌, Bool, true, false, not, List, [], ◌∷◌, ◌++◌, length, refl, sym, ap, ◌∙◌, arith, if◌then◌else◌, nat_le, ◌==◌, Option, Some, None, is_some, option_map, option_and_then, eqb-true, cond-true, cond-false, nat_tests, beq, Block, find_block, with_data, SetCommand, is_command, ends_well, has_ended, status_by, setting_of, CommandHistory, find_set, without, with_set, set_in, Processed, ahs, open_idn, run_before, in_order, reply_of, log_of, bytes_written, Write, takes_effect, written_by, with_added, adds, command_value, commands_with, added_on, View, standing, stood_in, record_in, processed_in, kept_in, write_of, all_writes, newest_at, IsTimed, set_after, IsCarried, AreCarried, ComesTimed, find-settings, cases_Bool}
use Rattle.sercos_law_channel.proofs.Handshake.PhaseMoves.{Nothing, Record, processes}

-- each set command was set at the newest write to it or earlier, and that write came before a cycle
abbrev AreSetBy : List SetCommand → List Write → ℕ → Type 0
AreSetBy set writes c = (raw : ℕ) (s : SetCommand) → find_set raw set ≡ Some s → (at : ℕ) × (newest_at raw writes ≡ Some at) × (s.cycle ≤ at) × (at < c)

-- one more write that sets nothing
newest_write_sets : (set : List SetCommand) (writes : List Write) (c : ℕ) (w : Write) → w.cycle ≡ c → AreSetBy set writes c → AreSetBy set (w ∷ writes) (suc c)
newest_write_sets set writes c w at are raw s found = let is = are raw s found in elim (cases_Bool (w.raw == raw)) [
  | inl on ↦ rw on (w.cycle, refl, (let a = is.2 in let b = is.3 in omega (arith, a, b, at)), omega (arith, at))
  | inr off ↦ rw off (is.0, is.1, is.2, (let less = is.3 in omega (arith, less)))
]

-- a command that is found after a cancel was there before
found_without : (raw other : ℕ) (set : List SetCommand) (s : SetCommand) → find_set raw (without other set) ≡ Some s → find_set raw set ≡ Some s
found_without raw other [] s found = found
found_without raw other (x ∷ set) s found = by (x.idn.raw == other) (x.idn.raw == raw) refl refl found (found_without raw other set s)
  where
    none_left : (set : List SetCommand) → find_set other (without other set) ≡ None
    none_left [] = refl
    none_left (y ∷ set) = elim (cases_Bool (y.idn.raw == other)) [
      | inl is ↦ rw is (none_left set)
      | inr is ↦ rw is (cond-false (y.idn.raw == other) (Some y) (find_set other (without other set)) is ∙ (none_left set))
    ]

    by : (gone same : Bool) → (x.idn.raw == other) ≡ gone → (x.idn.raw == raw) ≡ same → find_set raw (if not gone then x ∷ without other set else without other set) ≡ Some s → (find_set raw (without other set) ≡ Some s → find_set raw set ≡ Some s) →
        (if same then Some x else find_set raw set) ≡ Some s
    by true true is e found more =
        let one = eqb-true x.idn.raw other is in
        let two = eqb-true x.idn.raw raw e in
        let none : find_set raw (without other set) ≡ None = ap (λ (n : ℕ). find_set n (without other set)) (sym two ∙ one) ∙ none_left set in absurd (cc)
    by true false is e found more = more found
    by false true is e found more = sym (cond-true (x.idn.raw == raw) (Some x) (find_set raw (without other set)) e) ∙ found
    by false false is e found more = more (sym (cond-false (x.idn.raw == raw) (Some x) (find_set raw (without other set)) e) ∙ found)

-- .. and one that is found after a setting was there, or is the new one
found_added : (raw : ℕ) (set : List SetCommand) (n s : SetCommand) → find_set raw (set ++ n ∷ []) ≡ Some s → (find_set raw set ≡ Some s) ⊎ (((n.idn.raw == raw) ≡ true) × (n ≡ s))
found_added raw [] n s found = elim (cases_Bool (n.idn.raw == raw)) [
  | inl is ↦ inr (is, cc)
  | inr is ↦ let found = rw is at found in absurd (cc)
]
found_added raw (x ∷ set) n s found = elim (cases_Bool (x.idn.raw == raw)) [
  | inl on ↦ let found = rw on at found in rw on (inl found)
  | inr off ↦ let found = rw off at found in rw off (found_added raw set n s found)
]

set_by_command : (c : CommandHistory) (writes : List Write) (cycle value : ℕ) (blocks : List Block) (w : Write) → w.cycle ≡ cycle → AreSetBy (set_in c) writes cycle →
    AreSetBy (if value == 0 then without w.raw (set_in c) else with_set (record { idn = record { raw = w.raw }; cycle = w.cycle; well = ends_well c.rate w.raw blocks }) (set_in c)) (w ∷ writes) (suc cycle)
set_by_command c writes cycle value blocks w at are = elim (cases_Bool (value == 0)) [
  | inl on ↦ rw on (λ raw s found. old raw s (found_without raw w.raw (set_in c) s found))
  | inr off ↦ rw off (added (is_some (find_set w.raw (set_in c))))
]
  where
    n : SetCommand
    n = record { idn = record { raw = w.raw }; cycle = w.cycle; well = ends_well c.rate w.raw blocks }

    old : AreSetBy (set_in c) (w ∷ writes) (suc cycle)
    old = newest_write_sets (set_in c) writes cycle w at are

    added : (there : Bool) → AreSetBy (if there then set_in c else set_in c ++ n ∷ []) (w ∷ writes) (suc cycle)
    added true raw s found = old raw s found
    added false raw s found = elim (found_added raw (set_in c) n s found) [
      | inl was ↦ old raw s was
      | inr (same, is) ↦
          let cycles = ap (λ (x : SetCommand). x.cycle) is in
          (w.cycle, cond-true (w.raw == raw) (Some w.cycle) (newest_at raw writes) same, omega (arith, cycles), omega (arith, at))
    ]

set_by_any : (o : Option Write) (c : CommandHistory) (writes : List Write) (cycle : ℕ) (blocks : List Block) → ((w : Write) → o ≡ Some w → w.cycle ≡ cycle) → AreSetBy (set_in c) writes cycle →
    AreSetBy (set_in (commands_with o blocks c)) (with_added o writes) (suc cycle)
set_by_any None c writes cycle blocks at are = λ raw s found. let is = are raw s found in
    (is.0, is.1, is.2, (let less = is.3 in omega (arith, less)))
set_by_any (Some w) c writes cycle blocks at are = elim (cases_Bool (is_command blocks w.raw)) [
  | inl on ↦ rw on (set_by_command c writes cycle (command_value w) (with_data w.raw w.bytes blocks) w (at w refl) are)
  | inr off ↦ rw off (newest_write_sets (set_in c) writes cycle w (at w refl) are)
]

-- a write is of the cycle of its record
cycle_of : (t : Processed) (h : List Processed) (w : Write) → added_on t h ≡ Some w → w.cycle ≡ t.cycle
cycle_of t h w is = by (beq t.mhs (ahs h)) is
  where
    of_block : (run : List Processed) (raw : ℕ) (o : Option Block) → option_map (λ (b : Block). (let x : Write = record { cycle = t.cycle; raw = raw; bytes = bytes_written b (in_order run (t.step.word ∷ [])) } in x)) o ≡ Some w → w.cycle ≡ t.cycle
    of_block run raw None is = absurd (cc)
    of_block run raw (Some b) is = let x : Write = record { cycle = t.cycle; raw = raw; bytes = bytes_written b (in_order run (t.step.word ∷ [])) } in let same : x ≡ w = cc in ap (λ (y : Write). y.cycle) (sym same)

    effect : (b : Bool) (run : List Processed) (o : Option ℕ) → (if b then option_and_then (written_by t run) o else None) ≡ Some w → w.cycle ≡ t.cycle
    effect true run o is = elim (cases_Option o) [
      | inl none ↦ let is = rw none at is in absurd (cc)
      | inr some ↦ let is = rw some.1 at is in of_block run some.0 (find_block some.0 t.blocks) is
    ]
    effect false run o is = absurd (cc)

    by : (b : Bool) → (if b then None else adds t (log_of h)) ≡ Some w → w.cycle ≡ t.cycle
    by true is = absurd (cc)
    by false is = effect (takes_effect (record { processed = t; answer = reply_of t (log_of h) })) (run_before true 7 (log_of h)) (open_idn (log_of h)) is

written_now : (v : View) (past : List View) (w : Write) → write_of (processed_in v past) (kept_in v past) ≡ Some w → w.cycle ≡ length past
written_now v past w is = elim (processes v past) [
  | Nothing none ↦ let off : write_of (processed_in v past) (kept_in v past) ≡ None = ap (λ (o : Option Processed). write_of o (kept_in v past)) none in absurd (cc)
  | Record s got came two some ↦
      let t : Processed = record_in v (length past) (stood_in v (standing past)) s in
      cycle_of t (kept_in v past) w (sym (ap (λ (o : Option Processed). write_of o (kept_in v past)) some) ∙ is)
]

all_set_by : (time : ℕ) (past : List View) → AreCarried time past → AreSetBy (set_after past) (all_writes past) (length past)
all_set_by time [] are = λ raw s found. absurd (cc)
all_set_by time (v ∷ past) are =
    set_by_any (write_of (processed_in v past) (kept_in v past)) v.commands (all_writes past) (length past) v.blocks (written_now v past)
    (λ raw s found. (all_set_by time past are.0) raw s (are.1.carried raw s found))

running : (time cycle : ℕ) (o : Option SetCommand) → status_by time o cycle ≡ 7 → (s : SetCommand) × (o ≡ Some s) × (cycle < s.cycle + time)
running time cycle None seven = absurd (cc)
running time cycle (Some s) seven = by (has_ended time cycle s) s.well refl seven
  where
    by : (ended well : Bool) → nat_le (s.cycle + time) cycle ≡ ended → (let n : ℕ = if ended then (if well then 3 else 15) else 7 in n) ≡ 7 → (x : SetCommand) × (Some s ≡ Some x) × (cycle < x.cycle + time)
    by true true is seven = absurd (cc)
    by true false is seven = absurd (cc)
    by false well is seven = (s, refl, grind (arith, nat_tests))

is_timed : (time : ℕ) (v : View) (past : List View) → IsCarried time v past → AreSetBy (set_after past) (all_writes past) (length past) → IsTimed time v past
is_timed time v past is are raw seven =
    let runs = running v.commands.time (length past) (setting_of v.commands.rate raw v.commands.calls) seven in
    let by_write = are raw runs.0 (is.carried raw runs.0 (find-settings v.commands.rate raw v.commands.calls ∙ runs.1)) in
    (by_write.0, by_write.1, omega (arith, runs.2, by_write.2, is.takes))

pub comes_timed : ComesTimed
comes_timed time [] are = tt
comes_timed time (v ∷ past) are = (comes_timed time past are.0, is_timed time v past are.1 (all_set_by time past are.0))
