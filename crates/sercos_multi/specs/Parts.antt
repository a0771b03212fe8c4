-- The voice that a ring in progress stands for.
use Rattle.std.specs.Prelude.{◌≡◌, ℕ, ◌+◌, ◌*◌, ◌<◌, ◌≤◌, true, List, ◌++◌, length, reverse, map, take, drop, Option, Some, None, Result, IfOk, Bool}
use Rattle.std.specs.List.{flat_map, sum_by}
use Rattle.sercos_step.specs.declared.request.Job.{Job}
use Rattle.sercos_block.specs.Views.{RingView}
use Rattle.sercos_block.specs.Rings.{is_ring, wishes_of}
use Rattle.sercos_script.specs.Links.{Carry, Restarts}
use Rattle.sercos_trace.specs.Views.{CycleView}
use Rattle.sercos_ring.specs.Kept.{RingStandsFor}
use Rattle.sercos_law_run.specs.Totals.Totals.{totals_of}
use Rattle.sercos_law_run.specs.Totals.Counting.{AreFew}
use Rattle.sercos_trace.specs.Written as plain
use Rattle.sercos_trace.specs.MarkedWritten.{Seen, Writes}
use Rattle.sercos_multi.specs.declared.part.Part.{Part}
use Rattle.sercos_multi.specs.Merged.{Voice, all_timed, begun, first_text, is_timed, lines_at, mark_of, over_by, rest_text}
use Rattle.sercos_multi.specs.Going.{future, gone_on, passed, AllAre, AreFrom, Begins, Each}
use Rattle.sercos_multi.specs.Going as Going

pub record IsAt {L : Type 0} (carry_of : L → Carry) (restart_of : L → Restarts) (p : Part L) (v : Voice) : Type 0 where
  pub setup : RingView
  pub jobs : List Job
  pub carry : Carry
  pub restarts : Restarts
  pub made : List CycleView
  pub valid : is_ring setup ≡ true
  pub stands_for : RingStandsFor carry_of restart_of p.ring setup jobs carry restarts made
  pub wishes_is : p.wishes ≡ wishes_of setup
  pub voice_wishes : v.wishes ≡ p.wishes
  pub mark_is : p.mark ≡ mark_of v.number
  pub at_is : v.at ≡ p.at
  pub soon : p.at ≤ 1000 * length made
  pub counted : p.totals ≡ totals_of (reverse made)
  pub few : AreFew p.totals (length made)
  pub left_is : length v.later ≡ p.left
  pub later_is : v.later ≡ future setup jobs carry restarts made p.left
  pub totals_is : v.totals ≡ totals_of (reverse made ++ v.later)
  pub most : length made + p.left ≤ 50000

abbrev pub AllAt : {L : Type 0} → (L → Carry) → (L → Restarts) → List (Part L) → List Voice → Type 0
AllAt carry_of restart_of parts voices = AllAre (IsAt carry_of restart_of) parts voices

-- its next cycle was made, and its lines were written
pub record GoesOn {L E : Type 0} (carry_of : L → Carry) (restart_of : L → Restarts) (time : ℕ) (old new : Part L) (a b : Seen)
    (result : Result Bool E) (v : Voice) : Type 0 where
  pub at : IfOk result (λ _. IsAt carry_of restart_of new (gone_on time v v.later))
  pub written : Writes a b result (first_text v.wishes v.totals v.later)
  pub timed : IfOk result (λ timed. timed ≡ is_timed v.later)

-- a moment has passed, and the lines of the cycle that begins then, if one does, were written
pub record Passes {L E : Type 0} (carry_of : L → Carry) (restart_of : L → Restarts) (time moment : ℕ) (new : Part L) (a b : plain.Seen)
    (result : Result Bool E) (v : Voice) : Type 0 where
  pub at : IfOk result (λ _. IsAt carry_of restart_of new (passed time moment v))
  pub written : plain.Writes a b result (lines_at time moment v)
  pub timed : IfOk result (λ timed. timed ≡ is_timed (begun time moment v))

-- the same of all rings, one after the other
pub record PassAll {L E : Type 0} (carry_of : L → Carry) (restart_of : L → Restarts) (time moment : ℕ) (new : List (Part L))
    (a b : plain.Seen) (result : Result Bool E) (voices : List Voice) (text : List ℕ) : Type 0 where
  pub at : IfOk result (λ _. AllAt carry_of restart_of new (map (passed time moment) voices))
  pub written : plain.Writes a b result text
  pub timed : IfOk result (λ timed. timed ≡ all_timed time voices moment)

-- the first n rings have passed it
pub record ArePassing {L : Type 0} (carry_of : L → Carry) (restart_of : L → Restarts) (time moment : ℕ) (parts : List (Part L))
    (a b : plain.Seen) (timed : Bool) (n : ℕ) (voices : List Voice) : Type 0 where
  pub at : AllAt carry_of restart_of parts (map (passed time moment) (take n voices) ++ drop n voices)
  pub taken : plain.HasTaken a b (flat_map (lines_at time moment) (take n voices))
  pub timed_is : timed ≡ all_timed time (take n voices) moment

-- the first moment at which a ring begins a cycle, if one does
abbrev pub IsEarliest : Option ℕ → List Voice → Type 0
IsEarliest None voices = Each (λ v. length v.later ≡ 0) voices
IsEarliest (Some moment) voices = AreFrom moment voices × Going.Some (Begins moment) voices

-- rings of which the text up to a moment is written
pub record AreOn {L : Type 0} (carry_of : L → Carry) (restart_of : L → Restarts) (time from count : ℕ) (parts : List (Part L))
    (a b : plain.Seen) (text : List ℕ) : Type 0 where
  pub voices : List Voice
  pub left : ℕ
  pub front : List ℕ
  pub at : AllAt carry_of restart_of parts voices
  pub all_from : AreFrom from voices
  pub some : 0 < length voices
  pub sum : from + left ≡ sum_by (over_by time) voices
  pub whole : front ++ rest_text time voices from left count ≡ text
  pub taken : plain.HasTaken a b front
