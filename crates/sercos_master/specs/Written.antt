-- The writes of the plan, and how the drives answered them.
use Rattle.std.specs.Prelude.{◌≡◌, ℕ, ◌+◌, ◌<◌, List, ◌∷◌, ◌++◌, length, Some, slice_get}
use Rattle.sercos_step.specs.declared.request.Outcome.TheVariants as outcome
use Rattle.sercos_step.specs.Steps.{outcome_of}
use Rattle.sercos_timing.specs.Views.{PlanView}
use Rattle.sercos_service_master.specs.Begun.{Begun}
use Rattle.sercos_service_master.specs.Calls.{begun_by}
use Rattle.sercos_seat.specs.Agenda.{reads_count, writes}
use Rattle.sercos_seat.specs.Ring.{Known, member}
use Rattle.sercos_master.specs.Annals.{Past}
use Rattle.sercos_master.specs.Kept.{CoreView}

-- Of the requests begun on a channel, the newest first, the one after the reads and i writes is the
-- i-th write of this plan, and it was answered without error.
pub record IsWritten (s : Known) (k : ℕ) (plan : PlanView) (begun : List Begun) (i : ℕ) : Type 0 where
  pub newer : List Begun
  pub one : Begun
  pub older : List Begun
  pub split : begun ≡ newer ++ one ∷ older
  pub place : length older ≡ reads_count (member s k) + i
  pub asks : slice_get (writes s plan k) i ≡ Some one.request
  pub bytes : List ℕ
  pub answered : outcome_of one.request one.answers ≡ Some (outcome.Complete bytes)

-- There is a plan, and each of its eleven writes to each drive was answered without error, in this
-- epoch.
pub record AreWritten (s : Known) (p : Past) : Type 0 where
  pub plan : PlanView
  pub plan_is : p.plan ≡ Some plan
  pub written : (k i : ℕ) → k < length s.drives → i < 11 → IsWritten s k plan (begun_by (p.calls k)) i

-- The plan that is kept is the one whose writes were answered without error.
pub record HoldsPlan (v : CoreView) (s : Known) (p : Past) : Type 0 where
  pub all : AreWritten s p
  pub held : v.plan ≡ Some all.plan
