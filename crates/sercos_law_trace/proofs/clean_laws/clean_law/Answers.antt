use Rattle.sercos_law_trace.proofs.Clean.RunRules.{runs_keep_rules}
use Rattle.sercos_law_trace.proofs.Clean.FitRuns.{runs_fit_lines}
use Rattle.sercos_law_trace.proofs.Clean.TraceClean.{traces_are_clean}
use Rattle.sercos_law_trace.proofs.Clean.OtherFits.{runs_fit_others}
use Rattle.sercos_law_trace.proofs.Clean.StopFits.{runs_fit_reports}
use Rattle.sercos_law_trace.proofs.Clean.WholeClean.{runs_are_clean}
use Rattle.sercos_law_trace.proofs.clean_laws.clean_law.Goals as goal

pub returns : goal.returns
returns c = let traces = traces_are_clean c.test_law.ensures.follows c.reading_law.ensures.back in record {
  rules = runs_keep_rules;
  fit = runs_fit_lines;
  others = runs_fit_others;
  reports = runs_fit_reports;
  traces = traces;
  clean = runs_are_clean traces;
}
