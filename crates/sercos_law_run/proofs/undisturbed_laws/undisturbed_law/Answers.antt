use Rattle.sercos_law_run.proofs.Undisturbed.Answered.{ages_undisturbed, answers_undisturbed, tells_no_fall}
use Rattle.sercos_law_run.proofs.Undisturbed.InTime.{stays_at_end}
use Rattle.sercos_law_run.proofs.Undisturbed.NeverFalls.{stays_throughout}
use Rattle.sercos_law_run.proofs.Undisturbed.PhaseRuns.{phases_in}
use Rattle.sercos_law_run.proofs.Undisturbed.PhaseZero.{starts_at_fall, starts_at_opening, starts_at_restart}
use Rattle.sercos_law_run.proofs.Undisturbed.ToldInTime.{reports_in_time}
use Rattle.sercos_law_run.proofs.Undisturbed.Arriving.StaysClear.{stays_clear}
use Rattle.sercos_law_run.proofs.Tolerance.Calm.{comes_to_an_end, comes_to_phase_four, costs_undisturbed, ends_start_up, rises_if_right}
use Rattle.sercos_law_run.proofs.Undisturbed.Cited.{fits_in_three, never_stops_in_four, own_fits_in_four, stops_in_three, stops_in_two}
use Rattle.sercos_law_run.proofs.Undisturbed.Arriving.Quiet.{quiet_runs}
use Rattle.sercos_law_run.proofs.Undisturbed.WholeRuns.{starts_up}
use Rattle.sercos_law_run.proofs.Undisturbed.Sections.{never_idle, none_idle}
use Rattle.sercos_law_run.proofs.undisturbed_laws.undisturbed_law.Goals as goal

pub returns : goal.returns
returns c = record {
  clear = λ r jobs carry restarts cycles before run clear calm. stays_clear r jobs carry restarts cycles before run clear calm;
  quiet = quiet_runs;
  opening = starts_at_opening;
  fall = starts_at_fall;
  restart = starts_at_restart;
  stays = λ r jobs carry restarts cycles before opened run clear starts calm.
      stays_throughout r jobs carry restarts opened cycles before run clear starts calm;
  tells = λ r jobs carry restarts t cycles before opened run clear starts calm.
      tells_no_fall r jobs carry restarts opened t cycles before run clear starts calm;
  ages = λ r jobs carry restarts cycles before opened run clear starts calm.
      ages_undisturbed r jobs carry restarts opened cycles before run clear starts calm;
  answers = λ r jobs carry restarts t cycles before opened run clear starts calm.
      answers_undisturbed r jobs carry restarts opened t cycles before run clear starts calm;
  costs = costs_undisturbed;
  two = λ r jobs carry restarts cycles before opened run clear goes. none_idle r jobs carry restarts opened cycles before run clear goes;
  three = λ r jobs carry restarts k cycles before opened run clear below goes. never_idle r jobs carry restarts opened k below cycles before run clear goes;
  phases = λ r jobs carry restarts t cycles before opened run clear starts calm. phases_in r jobs carry restarts opened t cycles before run clear starts calm;
  four = comes_to_phase_four;
  ends = comes_to_an_end;
  at_end = λ r jobs carry restarts t u cycles before opened run clear starts calm.
      stays_at_end r jobs carry restarts opened t u cycles before run clear starts calm;
  fit = fits_in_three;
  own = own_fits_in_four;
  stops_two = stops_in_two;
  stops_three = stops_in_three;
  none_four = never_stops_in_four;
  outcome = ends_start_up;
  rises = rises_if_right;
  reports = λ r jobs carry restarts t cycles before opened run clear starts calm.
      reports_in_time r jobs carry restarts opened t cycles before run clear starts calm;
  starts = starts_up;
}
