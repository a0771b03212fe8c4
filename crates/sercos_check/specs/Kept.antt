-- What is kept of the telegrams of a capture, how it is related to them, and the rules tested with
-- it.
use Rattle.std.specs.Prelude.{◌≡◌, ℕ, ℤ, pos, ◌*◌, ◌+ℤ◌, ◌<◌, nat_lt, Bool, true, false, not, ◌&&◌, ◌||◌, if◌then◌else◌, List, [], ◌∷◌, length, Option, Some, None, slice_index_or, slice_set}
use Rattle.std.specs.Int.Signed.{le_z}
use Rattle.sercos_telegram.specs.declared.layout.Kind.{Kind}
use Rattle.sercos_telegram.specs.declared.layout.Kind.TheVariants as telegram
use Rattle.sercos_timing.specs.Views.{WishesView}
use Rattle.sercos_trace.specs.Views.{SentView}
use Rattle.sercos_check.specs.declared.marks.Command.{Command}
use Rattle.sercos_check.specs.declared.marks.Mark.{Mark}
use Rattle.sercos_check.specs.declared.marks.Note.{Note}
use Rattle.sercos_check.specs.declared.rule.Rule.{Rule}
use Rattle.sercos_check.specs.declared.rule.Rule.TheVariants as rule
use Rattle.sercos_check.specs.Seen.{Told, command_of, command_before, phase_of, newest_in, has_mdt, has_at_from, mark_before, address_of, wish_for, slave_of, mark_of, end_of, note_of}
use Rattle.sercos_check.specs.Rules.{is_next_cycle, goes_on, keeps_frame, keeps_layout, keeps_phase, keeps_start, keeps_gap, is_cyclic_at, is_after_mark, is_cyclic_mdt, keeps_end, is_after_all}

-- the command of the newest MST; of its cycle: the newest telegram, whether an MDT was sent, the
-- address bytes that sent an AT, the newest AT of each slave, and the time from which an MDT may
-- start
pub record SeenState : Type 0 where
  pub command : Option Command
  pub newest : Option Note
  pub mdt : Bool
  pub heard : List Bool
  pub marks : List (Option Mark)
  pub free_at : Option ℤ

-- a start is not before a time; without a time it isn't
abbrev pub is_from : Option ℤ → ℤ → Bool
is_from None start = true
is_from (Some time) start = le_z time start

abbrev pub heard_in : SeenState → ℕ → Bool
heard_in v address = slice_index_or v.heard address false

abbrev pub mark_in : SeenState → ℕ → Option Mark
mark_in v slave = slice_index_or v.marks slave None

-- What is kept equals these functions of the telegrams so far, the newest first.
pub record SeenStandsFor (v : SeenState) (w : WishesView) (before : List Told) : Type 0 where
  pub command_is : v.command ≡ command_before before
  pub newest_is : v.newest ≡ newest_in w before
  pub mdt_is : v.mdt ≡ has_mdt before
  pub heard_is : (address : ℕ) → address < 256 → heard_in v address ≡ has_at_from address before
  pub marks_are : (slave : ℕ) → slave < 256 → mark_in v slave ≡ mark_before w slave before
  pub free_is : (start : ℤ) → is_from v.free_at start ≡ is_after_all w before start

-- the rules that need more than the newest MST and the newest telegram
abbrev pub is_alone_by : SeenState → SentView → Bool
is_alone_by v s = not (nat_lt 0 (length s.content) && heard_in v (address_of s))

abbrev pub goes_on_by : SeenState → ℕ → ℤ → Bool
goes_on_by v cycle start = goes_on v.command v.newest v.mdt cycle start

abbrev pub order_by : Kind → SeenState → ℕ → SentView → Bool
order_by telegram.Mst v cycle s = is_next_cycle v.command cycle
order_by telegram.At v cycle s = goes_on_by v cycle s.start && is_alone_by v s
order_by telegram.Mdt v cycle s = goes_on_by v cycle s.start

abbrev pub recovery_by : SeenState → WishesView → SentView → Bool
recovery_by v w s =
    not (is_cyclic_at (phase_of v.command) s.kind)
    || is_after_mark (mark_in v (slave_of w s)) (w.rate * (wish_for w (address_of s)).times.tatat) s.start

abbrev pub transition_by : SeenState → SentView → Bool
transition_by v s = not (is_cyclic_mdt (phase_of v.command) s.kind) || is_from v.free_at s.start

-- each rule, and whether it is kept
abbrev pub kept_by : SeenState → WishesView → ℕ → SentView → List (Rule × Bool)
kept_by v w cycle s =
    (rule.Order, order_by s.kind v cycle s)
    ∷ (rule.Frame, keeps_frame s)
    ∷ (rule.Layout, keeps_layout w (phase_of v.command) s)
    ∷ (rule.Phase, keeps_phase v.command s)
    ∷ (rule.Start, keeps_start w (phase_of v.command) s)
    ∷ (rule.Gap, keeps_gap w (phase_of v.command) v.newest s)
    ∷ (rule.Recovery, recovery_by v w s)
    ∷ (rule.Transition, transition_by v s)
    ∷ (rule.End, keeps_end w (phase_of v.command) s)
    ∷ []

-- What is kept after an MST, which begins a cycle.
pub record IsBegun (v : SeenState) (w : WishesView) (cycle : ℕ) (s : SentView) : Type 0 where
  pub command_is : v.command ≡ Some (command_of (record { cycle = cycle; sent = s }))
  pub newest_is : v.newest ≡ Some (note_of w s)
  pub mdt_is : v.mdt ≡ false
  pub none_heard : (address : ℕ) → heard_in v address ≡ false
  pub none_marked : (slave : ℕ) → mark_in v slave ≡ None
  pub free_is : v.free_at ≡ None

-- the later of two times, the first of which may be missing
abbrev pub later : Option ℤ → ℤ → Option ℤ
later None time = Some time
later (Some earlier) time = if le_z earlier time then Some time else Some earlier

-- with the address byte of an AT; an empty content has none
abbrev pub with_address : List Bool → SentView → List Bool
with_address heard s = if nat_lt 0 (length s.content) then slice_set heard (address_of s) true else heard

-- what is kept after an AT and after an MDT
abbrev pub with_at : SeenState → WishesView → SentView → SeenState
with_at v w s = record {
  command = v.command;
  newest = Some (note_of w s);
  mdt = v.mdt;
  heard = with_address v.heard s;
  marks = slice_set v.marks (slave_of w s) (Some (mark_of s));
  free_at = later v.free_at (end_of (mark_of s) +ℤ pos (w.rate * (wish_for w (address_of s)).times.tatmt));
}

abbrev pub with_mdt : SeenState → WishesView → SentView → SeenState
with_mdt v w s = record {
  command = v.command;
  newest = Some (note_of w s);
  mdt = true;
  heard = v.heard;
  marks = v.marks;
  free_at = v.free_at;
}
