-- What a ring makes while its run is written. `stands` relates a ring to what it stands for: the arguments of its opening, and its
-- cycles, the newest first.
use Rattle.std.specs.Prelude.{◌≡◌, ℕ, ◌≤◌, Bool, true, List, [], length, reverse, Result, Ok, Err}
use Rattle.std.specs.List.{flat_map}
use Rattle.sercos_step.specs.declared.request.Job.{Job}
use Rattle.sercos_timing.specs.Views.{WishesView}
use Rattle.sercos_block.specs.Views.{RingView}
use Rattle.sercos_block.specs.Rings.{is_ring, wishes_of}
use Rattle.sercos_trace.specs.Views.{CycleView}
use Rattle.sercos_trace.specs.Texts.{cycle_text, trace_of}
use Rattle.sercos_trace.specs.Written.{Seen, HasTaken, HasFailed}
use Rattle.sercos_trace.specs.declared.record.Totals.{Totals}
use Rattle.sercos_script.specs.Links.{Carry, Restarts}
use Rattle.sercos_law_run.specs.Journal.Runs.{run_of}
use Rattle.sercos_law_run.specs.Totals.Totals.{totals_of}
use Rattle.sercos_law_run.specs.Totals.Counting.{AreFew}

-- the trace of a journal, whose newest cycle comes first
abbrev pub journal_text : WishesView → List CycleView → List ℕ
journal_text w j = trace_of w (reverse j) (totals_of (reverse j))

-- a ring of a valid setup, of which these are the wishes, with the cycles that it has made
pub record IsRingOf {R : Type 0} (stands : R → RingView → List Job → Carry → Restarts → List CycleView → Type 0) (ring : R) (w : WishesView)
    (j : List CycleView) : Type 0 where
  pub setup : RingView
  pub jobs : List Job
  pub carry : Carry
  pub restarts : Restarts
  pub valid : is_ring setup ≡ true
  pub wishes : w ≡ wishes_of setup
  pub stands_for : stands ring setup jobs carry restarts j

-- the properties of the first n cycles of the run of a ring that has made none
abbrev pub OfRun : {R : Type 0} → (R → RingView → List Job → Carry → Restarts → List CycleView → Type 0) → R → ℕ →
    (List CycleView → Type 0) → Type 0
OfRun stands ring n Says = (r : RingView) (jobs : List Job) (carry : Carry) (restarts : Restarts) → stands ring r jobs carry restarts [] →
    Says (run_of r jobs carry restarts n)

-- a ring has made n cycles
pub record Journal {R : Type 0} (stands : R → RingView → List Job → Carry → Restarts → List CycleView → Type 0) (old new : R)
    (n : ℕ) : Type 0 where
  pub cycles : List CycleView
  pub count : length cycles ≡ n
  pub stands_for : (r : RingView) (jobs : List Job) (carry : Carry) (restarts : Restarts) → stands old r jobs carry restarts [] →
      stands new r jobs carry restarts cycles

-- the lines of cycles, the newest of which comes first
abbrev pub cycles_text : WishesView → List CycleView → List ℕ
cycles_text w j = flat_map (cycle_text w) (reverse j)

-- n cycles were made and counted
pub record HasCounted {R : Type 0} (stands : R → RingView → List Job → Carry → Restarts → List CycleView → Type 0) (old new : R) (n : ℕ)
    (t : Totals) : Type 0 where
  pub journal : Journal stands old new n
  pub counted : t ≡ totals_of (reverse journal.cycles)
  pub few : AreFew t n

-- and their lines were written
pub record HasWritten {R : Type 0} (stands : R → RingView → List Job → Carry → Restarts → List CycleView → Type 0) (w : WishesView)
    (old new : R) (n : ℕ) (a b : Seen) (t : Totals) : Type 0 where
  pub made : HasCounted stands old new n t
  pub taken : HasTaken a b (cycles_text w made.journal.cycles)

-- a write failed in the lines of the last of these cycles
pub record HasStopped {R : Type 0} (stands : R → RingView → List Job → Carry → Restarts → List CycleView → Type 0) (w : WishesView)
    (old new : R) (n : ℕ) (a b : Seen) : Type 0 where
  pub made : ℕ
  pub few : made ≤ n
  pub journal : Journal stands old new made
  pub failed : HasFailed a b (cycles_text w journal.cycles)

abbrev pub WritesCycles : {R E : Type 0} → (R → RingView → List Job → Carry → Restarts → List CycleView → Type 0) → WishesView → R → R → ℕ →
    Seen → Seen → Result Totals E → Type 0
WritesCycles stands w old new n a b (Ok t) = HasWritten stands w old new n a b t
WritesCycles stands w old new n a b (Err e) = HasStopped stands w old new n a b

-- the ring has made some cycles of the run, all n of them if nothing failed
pub record HasMade {R : Type 0} (stands : R → RingView → List Job → Carry → Restarts → List CycleView → Type 0) (old new : R) (n : ℕ)
    (whole : Bool) : Type 0 where
  pub made : ℕ
  pub few : made ≤ n
  pub all : whole ≡ true → made ≡ n
  pub stands_for : (r : RingView) (jobs : List Job) (carry : Carry) (restarts : Restarts) → stands old r jobs carry restarts [] →
      stands new r jobs carry restarts (run_of r jobs carry restarts made)
