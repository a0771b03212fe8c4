-- What each drive of a typed ring keeps in any run. Lists of records and journals have their newest item first.
use Rattle.std.specs.Prelude.{◌≡◌, ℕ, ◌<◌, true, List, [], ◌∷◌, length}
use Rattle.sercos_block.specs.Rings.{is_ring}
use Rattle.sercos_block.specs.Stores.{IsStore}
use Rattle.sercos_block.specs.Views.{DriveView, RingView}
use Rattle.sercos_service_drive.specs.Log.{Processed}
use Rattle.sercos_drive.specs.Moments.{Moment, records_in, blocks_in}
use Rattle.sercos_drive.specs.Annals.{annals}
use Rattle.sercos_script.specs.Links.{Carry, Restarts}
use Rattle.sercos_trace.specs.Views.{SentView, CycleView}
use Rattle.sercos_law_run.specs.Journal.Runs.{drive_at, given_before, given_mst}
use Rattle.sercos_law_run.specs.Typed.Typed.{AreTyped}

-- The blocks that a record found were a store; its element has three bits, and its word sixteen.
pub record IsRecord (t : Processed) : Type 0 where
  pub blocks : IsStore t.blocks
  pub element : t.step.element < 8
  pub word : t.step.word < 65536

abbrev pub AreRecords : List Processed → Type 0
AreRecords [] = Unit {0}
AreRecords (t ∷ h) = IsRecord t × AreRecords h

-- The blocks of a drive are a store, and each record that it processed since it was last in phase 0 is such a record.
pub record Keeps (d : DriveView) (past : List Moment) : Type 0 where
  pub store : IsStore (blocks_in d past)
  pub records : AreRecords (records_in past)

-- This holds at the end of every journal, whatever the links do to what is sent ..
abbrev pub KeepsAlways : Type 0
KeepsAlways = (r : RingView) (carry : Carry) (restarts : Restarts) (j : List CycleView) (k : ℕ) → is_ring r ≡ true → AreTyped r →
    k < length r.drives → Keeps (drive_at r k) (annals (drive_at r k) r.rate (given_before carry restarts j k))

-- .. and after the MST's place of each cycle.
abbrev pub KeepsWithin : Type 0
KeepsWithin = (r : RingView) (carry : Carry) (restarts : Restarts) (sent : List SentView) (j : List CycleView) (k : ℕ) → is_ring r ≡ true →
    AreTyped r → k < length r.drives →
    Keeps (drive_at r k) (annals (drive_at r k) r.rate (given_mst carry restarts sent j k))
