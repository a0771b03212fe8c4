-- What the laws on undisturbed cycles say of every clear run, as they state it.
use Rattle.sercos_law_run.proofs.Words.{◌≡◌, ℕ, ◌+◌, ◌<◌, true, false, List, ◌∷◌, length, list_any, Job, RingView, CycleView, is_outside, is_ready, reads_count, known_of, member, outcomes, Carry, Restarts, drive_at, IsRun, IsClear, behind_mdt, IsOpened, FitsInThree, OwnFitsInFour, StopsInTwo, NoStopInFour, StopsInThree}
use Rattle.sercos_law_run.proofs.Views.Members.{in_known}
use Rattle.sercos_law_run.proofs.Undisturbed.CycleHeld.{fits_in}
use Rattle.sercos_law_run.proofs.Undisturbed.Stops.LaterStops.{no_stop_in_four, ready_if_ended, stop_in_three}
use Rattle.sercos_law_run.proofs.Undisturbed.Checks.OwnFit.{own_fits}
use Rattle.sercos_law_run.proofs.Undisturbed.Stops.RefusedStops.{refused_stop}
use Rattle.sercos_law_run.proofs.Undisturbed.Stops.TwoStops.{stop_in_two}

-- a check for phase 4 that has ended, of a drive of which no own block was outside its limits, has ended well
pub is_ready_if_ended : (r : RingView) (jobs : List Job) (carry : Carry) (restarts : Restarts) (opened : IsOpened r jobs) (t : CycleView) (j : List CycleView) → IsRun r jobs carry restarts (t ∷ j) → IsClear (t ∷ j) →
    (k : ℕ) → k < length r.drives → list_any is_outside (drive_at r k).blocks ≡ false →
    reads_count (member (known_of r) k) + 12 < length (outcomes (behind_mdt r jobs carry restarts t.sent j) k) → is_ready (member (known_of r) k) (outcomes (behind_mdt r jobs carry restarts t.sent j) k) ≡ true
is_ready_if_ended r jobs carry restarts opened t j run clear k below none ended =
    ready_if_ended r jobs carry restarts opened t j run clear k below (in_known r k below) none ended

pub stops_in_two : StopsInTwo
stops_in_two r jobs carry restarts t j x opened run clear two is =
    stop_in_two r jobs carry restarts opened t j run clear two (refused_stop r jobs carry restarts opened t j run clear two) x is

pub stops_in_three : StopsInThree
stops_in_three r jobs carry restarts t j x opened run clear three is = stop_in_three r jobs carry restarts opened t j run clear three x is

pub never_stops_in_four : NoStopInFour
never_stops_in_four r jobs carry restarts t j opened run clear four = no_stop_in_four r jobs carry restarts opened t j run clear four

pub fits_in_three : FitsInThree
fits_in_three r jobs carry restarts t j opened run clear late = fits_in r jobs carry restarts opened t j run clear late

pub own_fits_in_four : OwnFitsInFour
own_fits_in_four r jobs carry restarts t j k opened run clear below four = own_fits r jobs carry restarts opened k below t j run clear four
