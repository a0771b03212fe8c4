use Rattle.sercos_law_run.proofs.Recovery.AfterFalls.{after_fall}
use Rattle.sercos_law_run.proofs.Recovery.ComesBack.{comes_back}
use Rattle.sercos_law_run.proofs.Recovery.LateDown.{falls_if_down}
use Rattle.sercos_law_run.proofs.Recovery.Limits.{ages_to_limit}
use Rattle.sercos_law_run.proofs.Recovery.Predicts.{is_predicted}
use Rattle.sercos_law_run.proofs.Recovery.Recovers.{recovers_in}
use Rattle.sercos_law_run.proofs.Recovery.FallsInTime.{falls_anyway, falls_soon}
use Rattle.sercos_law_run.proofs.Recovery.Stretches.{ages_down_in, keeps_up, stays_down_in}
use Rattle.sercos_law_run.proofs.Recovery.UpInThree.{lasts_with_list}
use Rattle.sercos_law_run.proofs.Words.{stop_cycles, ◌+◌, ◌*◌, slowest}
use Rattle.sercos_law_run.proofs.recovery_laws.recovery_law.Goals as goal

pub returns : goal.returns
returns c =
    record {
      up_or_down = λ r jobs carry restarts cycles first before opened run clear stretch k below.
          keeps_up r jobs carry restarts opened cycles first before run clear stretch k below;
      down = λ r jobs carry restarts t j opened run clear k below down two.
          stays_down_in r jobs carry restarts opened t j run clear k below down two;
      ages = λ r jobs carry restarts t j opened run clear k below down two none stays opens.
          ages_down_in r jobs carry restarts opened t j run clear k below down two none stays opens;
      to_limit = λ r jobs carry restarts j opened run clear k below.
          ages_to_limit r jobs carry restarts opened j run clear k below;
      falls = λ r jobs carry restarts t u j opened run clear none stays late k below down.
          falls_if_down r jobs carry restarts opened t u j run clear none stays late k below down;
      in_time = λ r jobs carry restarts t cycles first before opened run clear stretch calm late falls d there down.
          falls_anyway r jobs carry restarts opened t cycles first before run clear stretch calm falls late d there down;
      soon = λ r jobs carry restarts t cycles first before opened run clear stretch calm late up falls.
          falls_soon r jobs carry restarts opened t cycles first before run clear stretch calm falls up;
      comes_back = λ r jobs carry restarts t cycles first before opened run clear stretch late up long.
          comes_back r jobs carry restarts opened first before late up (stop_cycles r)
          (lasts_with_list r jobs carry restarts opened) t cycles run clear stretch long;
      after_fall = after_fall;
      predicts = λ r jobs carry restarts t j opened run clear.
          is_predicted r jobs carry restarts opened t j run clear;
      recovers = λ r jobs carry restarts t j opened run clear. recovers_in r jobs carry restarts opened t j run clear;
    }
