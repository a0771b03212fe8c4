use Rattle.sercos_law_run.proofs.Stations.FitInThree.{fit_in_three}
use Rattle.sercos_law_run.proofs.Stations.FitInFour.{fit_in_four}
use Rattle.sercos_law_run.proofs.Stations.Guard.{always_lies}
use Rattle.sercos_law_run.proofs.Stations.Lists.{lists_are_found}
use Rattle.sercos_law_run.proofs.Stations.Times.{empty_keeps_times}
use Rattle.sercos_law_run.proofs.station_laws.fit_law.Goals as goal

pub returns : goal.returns
returns c = record { times = empty_keeps_times; three = fit_in_three; lies = always_lies; four = fit_in_four; lists = lists_are_found }
