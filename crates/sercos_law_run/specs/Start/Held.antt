-- That the master writes the start-up values, and that a drive which holds them holds the plan.
use Rattle.std.specs.Prelude.{◌≡◌, ℕ, true, List, [], map, Some, slice_get}
use Rattle.sercos_step.specs.declared.request.Request.{Request}
use Rattle.sercos_step.specs.declared.request.Request.TheVariants as request
use Rattle.sercos_timing.specs.Views.{PlanView}
use Rattle.sercos_timing.specs.Valid.{IsValid}
use Rattle.sercos_timing.specs.Inequalities.{Fits}
use Rattle.sercos_block.specs.declared.block.Block.{Block}
use Rattle.sercos_block.specs.Rings.{is_ring, wishes_of}
use Rattle.sercos_block.specs.Views.{RingView, DriveView}
use Rattle.sercos_command.specs.Checks.{number_at}
use Rattle.sercos_seat.specs.Ring.{known_of}
use Rattle.sercos_seat.specs.Agenda.{writes}
use Rattle.sercos_law_run.specs.Slots.Slots.{Held}
use Rattle.sercos_law_run.specs.Slots.OnPlan.{held_of}
use Rattle.sercos_law_run.specs.Start.StartUp.{Holds, start_up}

-- what a store holds of a plan
abbrev pub held_in : List Block → Held
held_in blocks = record {
  t1 = number_at blocks 6;
  t4 = number_at blocks 7;
  t3 = number_at blocks 8;
  position = number_at blocks 9;
  mdt_len = number_at blocks 10;
  t2 = number_at blocks 89;
}

-- A drive that holds the start-up values holds the plan.
abbrev pub HoldsPlan : Type 0
HoldsPlan = (r : RingView) (p : PlanView) (k : ℕ) (d : DriveView) (blocks : List Block) →
    IsValid (wishes_of r) → Fits (wishes_of r) p → slice_get r.drives k ≡ Some d →
    Holds blocks (start_up r.control r.cycle p k d.at d.mdt) → held_in blocks ≡ held_of p k

-- what a request writes: the identifier number and the bytes
abbrev pub written_by : Request → ℕ × List ℕ
written_by (request.Write i e bytes) = (i.raw, bytes)
written_by (request.Read i e) = (i.raw, [])
written_by (request.Command i) = (i.raw, [])

-- What the master writes in phase 2 to the drive at place k are the start-up values, in their order.
abbrev pub WritesStartUp : Type 0
WritesStartUp = (r : RingView) (p : PlanView) (k : ℕ) (d : DriveView) →
    is_ring r ≡ true → IsValid (wishes_of r) → Fits (wishes_of r) p → slice_get r.drives k ≡ Some d →
    map written_by (writes (known_of r) p k) ≡ start_up r.control r.cycle p k d.at d.mdt
