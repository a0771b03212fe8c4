-- Which requests a start-up makes of a drive, and in which order. Lists of requests have their oldest item first, those that were begun
-- their newest.
use Rattle.std.specs.Prelude.{◌≡◌, ℕ, List, [], ◌∷◌, ◌++◌, length, Option, Some, None, slice_get}
use Rattle.sercos_idn.specs.Elements.{data_element}
use Rattle.sercos_step.specs.declared.request.Request.{Request}
use Rattle.sercos_step.specs.declared.request.Request.TheVariants as request
use Rattle.sercos_timing.specs.Views.{PlanView}
use Rattle.sercos_service_master.specs.Begun.{Begun}
use Rattle.sercos_seat.specs.Ring.{Known, member}
use Rattle.sercos_seat.specs.Agenda.{idn, reads, writes}

-- In phase 2 the reads, and if there is a plan its writes and the check for phase 3; in phase 3 the check for phase 4, and its list if it
-- hasn't ended well.
abbrev pub jobs_of : Known → Option PlanView → ℕ → List Request
jobs_of s None k = reads (member s k)
jobs_of s (Some p) k = reads (member s k) ++ (writes s p k ++ request.Command (idn 127) ∷ request.Command (idn 128) ∷
    request.Read (idn 22) data_element ∷ [])

-- Each of the requests that were begun is in the list at the place that those begun before it leave it.
abbrev pub AreAt : List Request → List Begun → Type 0
AreAt all [] = Unit {0}
AreAt all (b ∷ older) = AreAt all older × (slice_get all (length older) ≡ Some b.request)
