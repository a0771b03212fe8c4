use Rattle.sercos_law_run.proofs.Bounds.BoundSums.{few_writes, few_statuses, is_started, is_refused_early, is_refused_late, is_reported, is_back_at_once, is_back_later, are_sections, is_below_greatest}
use Rattle.sercos_law_run.proofs.bounds_laws.bound_law.Goals as goal

pub returns-clause-writes : goal.returns-clause-writes
returns-clause-writes c = few_writes

pub returns-clause-statuses : goal.returns-clause-statuses
returns-clause-statuses c = few_statuses

pub returns-clause-started : goal.returns-clause-started
returns-clause-started c = is_started

pub returns-clause-refused_early : goal.returns-clause-refused_early
returns-clause-refused_early c = is_refused_early

pub returns-clause-refused_late : goal.returns-clause-refused_late
returns-clause-refused_late c = is_refused_late

pub returns-clause-reported : goal.returns-clause-reported
returns-clause-reported c = is_reported

pub returns-clause-at_once : goal.returns-clause-at_once
returns-clause-at_once c = is_back_at_once

pub returns-clause-later : goal.returns-clause-later
returns-clause-later c = is_back_later

pub returns-clause-sections : goal.returns-clause-sections
returns-clause-sections c = are_sections

pub returns-clause-greatest : goal.returns-clause-greatest
returns-clause-greatest c = is_below_greatest
