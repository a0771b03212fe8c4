-- What the master reports at the end of a cycle, at a fall and at a restart.
use Rattle.std.specs.Prelude.{◌≡◌, ◌≤◌, ◌⊎◌, ℕ, zero, suc, nat_lt, if◌then◌else◌, List, [], ◌∷◌, length, Option, Some, None, is_some}
use Rattle.std.specs.Option.{option_or}
use Rattle.sercos_step.specs.declared.request.Outcome.{Outcome}
use Rattle.sercos_timing.specs.Views.{PlanView}
use Rattle.sercos_trace.specs.Views.{EventsView}
use Rattle.sercos_trace.specs.declared.events.Stop.{Stop}
use Rattle.sercos_trace.specs.declared.events.Fall.TheVariants as fall
use Rattle.sercos_master.specs.Annals.{Call, HearMst, HearAt, Mdt, End, Restart, Past, fall_of, is_idle}
use Rattle.sercos_seat.specs.Channel.{Report, broken_number, number_in}
use Rattle.sercos_seat.specs.Ring.{Known}

-- outcomes ascend by the number of the request
abbrev pub inserted : ℕ → Outcome → List (ℕ × Outcome) → List (ℕ × Outcome)
inserted number o [] = (number, o) ∷ []
inserted number o (x ∷ reports) = if nat_lt number x.0 then (number, o) ∷ x ∷ reports else x ∷ inserted number o reports

abbrev pub with_report : Option Report → List (ℕ × Outcome) → List (ℕ × Outcome)
with_report None reports = reports
with_report (Some r) reports = inserted r.number r.outcome reports

-- with the reports of the first n drives
abbrev pub with_reports : (ℕ → Option Report) → ℕ → List (ℕ × Outcome) → List (ℕ × Outcome)
with_reports report zero reports = reports
with_reports report (suc n) reports = with_report (report n) (with_reports report n reports)

abbrev pub broken : Past → ℕ → Option Report
broken p k = if is_idle p k then None else broken_number (number_in (p.tasks k))

abbrev pub with_broken : Known → Past → List (ℕ × Outcome) → List (ℕ × Outcome)
with_broken s p reports = with_reports (broken p) (length s.drives) reports

abbrev pub plan_told : Past → Option PlanView
plan_told p = if p.now.plans then p.plan else None

abbrev pub stop_told : Past → Option Stop
stop_told p = if p.now.stops then p.stop else None

-- the outcomes of a cycle that ends, and the broken requests of a fall
abbrev pub outcomes_told : Known → Past → List (ℕ × Outcome) → List (ℕ × Outcome)
outcomes_told s p reports =
    if is_some (fall_of s p) then with_broken s p (with_reports p.now.report (length s.drives) reports)
    else with_reports p.now.report (length s.drives) reports

-- what a cycle without a fall adds to these events
abbrev pub closing_told : Known → Past → EventsView → EventsView
closing_told s p e = record e {
  outcomes = with_reports p.now.report (length s.drives) e.outcomes;
  plan = option_or (plan_told p) e.plan;
  stop = option_or (stop_told p) e.stop;
}

-- what the end of a cycle adds to these events
abbrev pub events_told : Known → Past → EventsView → EventsView
events_told s p e = record {
  outcomes = outcomes_told s p e.outcomes;
  plan = option_or (plan_told p) e.plan;
  stop = option_or (stop_told p) e.stop;
  fall = option_or (fall_of s p) e.fall;
}

-- what a restart adds to these events
abbrev pub restart_told : Known → Past → EventsView → EventsView
restart_told s p e = record e { outcomes = with_broken s p e.outcomes; fall = Some fall.Restart }

-- the master restarted in the current cycle
abbrev pub HasRestarted : List Call → Type 0
HasRestarted [] = ⊥
HasRestarted (HearMst content ∷ h) = HasRestarted h
HasRestarted (HearAt content ∷ h) = HasRestarted h
HasRestarted (Mdt ∷ h) = HasRestarted h
HasRestarted (End ∷ h) = ⊥
HasRestarted (Restart ∷ h) = Unit {0}

-- The outcomes that the end of a cycle can be added to: none, or those that a restart in this cycle
-- added, at most one per drive.
abbrev pub AreOpen : List (ℕ × Outcome) → List Call → Type 0
AreOpen reported h = (reported ≡ []) ⊎ ((length reported ≤ 64) × HasRestarted h)
