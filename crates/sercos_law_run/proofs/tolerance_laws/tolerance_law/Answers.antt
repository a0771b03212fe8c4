use Rattle.sercos_law_run.proofs.Words.{inl}
use Rattle.sercos_law_run.proofs.Tolerance.Rises.{rises_sparse}
use Rattle.sercos_law_run.proofs.Tolerance.BearsSparse.{bears_sparse}
use Rattle.sercos_law_run.proofs.Tolerance.Calm.{calm_is_sparse}
use Rattle.sercos_law_run.proofs.Tolerance.CostsShared.{costs_shared}
use Rattle.sercos_law_run.proofs.Tolerance.CostsSparse.{costs_sparse}
use Rattle.sercos_law_run.proofs.Tolerance.EarlySparse.{early_sparse}
use Rattle.sercos_law_run.proofs.Tolerance.Ends.{ends_sparse}
use Rattle.sercos_law_run.proofs.Tolerance.Losses.{takes_time_and_losses}
use Rattle.sercos_law_run.proofs.Tolerance.Many.{ends_anyway, rises_anyway}
use Rattle.sercos_law_run.proofs.Tolerance.Reported.{reports_sparse}
use Rattle.sercos_law_run.proofs.Tolerance.TwoLasts.{two_sparse}
use Rattle.sercos_law_run.proofs.Tolerance.Returns.{returns_sparse}
use Rattle.sercos_law_run.proofs.Tolerance.Tolerates.{one_of_three, tolerates}
use Rattle.sercos_law_run.proofs.tolerance_laws.tolerance_law.Goals as goal

pub returns : goal.returns
returns c = record {
  calm = calm_is_sparse;
  spaced = one_of_three;
  bears = λ r jobs carry restarts t cycles before opened run clear starts sparse.
      bears_sparse r jobs carry restarts opened t cycles before run clear starts sparse;
  tolerates = tolerates;
  losses = takes_time_and_losses;
  costs = λ r jobs carry restarts cycles before opened run clear starts sparse k longest below listed.
      costs_sparse r jobs carry restarts opened cycles before run clear (inl starts) sparse k longest below listed;
  shared = λ r jobs carry restarts t cycles before opened run clear starts sparse low longest listed.
      costs_shared r jobs carry restarts opened t cycles before run clear (inl starts) sparse low longest listed;
  early = λ r jobs carry restarts t cycles before opened run clear starts sparse low.
      early_sparse r jobs carry restarts opened t cycles before run clear (inl starts) sparse low;
  two = λ r jobs carry restarts t cycles before opened run clear starts sparse is_two none.
      two_sparse r jobs carry restarts opened t cycles before run clear (inl starts) sparse is_two none;
  rises = λ r jobs carry restarts t cycles before opened run clear starts sparse right long.
      rises_sparse r jobs carry restarts opened t cycles before run clear (inl starts) sparse long right;
  reports = λ r jobs carry restarts t cycles before opened run clear starts sparse.
      reports_sparse r jobs carry restarts opened t cycles before run clear starts sparse;
  ends = λ r jobs carry restarts t cycles before opened run clear starts sparse.
      ends_sparse r jobs carry restarts opened t cycles before run clear starts sparse;
  rises_anyway = λ r jobs carry restarts t cycles before opened run clear starts sparse.
      rises_anyway r jobs carry restarts opened t cycles before run clear starts sparse;
  ends_anyway = λ r jobs carry restarts t cycles before opened run clear starts sparse.
      ends_anyway r jobs carry restarts opened t cycles before run clear starts sparse;
  returns = λ r jobs carry restarts t j opened run clear. returns_sparse r jobs carry restarts opened t j run clear;
}
