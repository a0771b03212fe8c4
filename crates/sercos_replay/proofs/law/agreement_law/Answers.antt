use Rattle.sercos_replay.proofs.AgreeLemmas.{all_agree}
use Rattle.sercos_replay.proofs.law.agreement_law.Goals as goal

pub returns : goal.returns
returns c = record {
  drive = λ r jobs carry restarts j index valid typed jobs_typed run calm below.
      (all_agree c.typed_law.ensures.spelled r jobs carry restarts j valid typed jobs_typed run calm).drives_agree index below;
  master = λ r jobs carry restarts j valid typed jobs_typed run calm. (all_agree c.typed_law.ensures.spelled r jobs carry restarts j valid typed jobs_typed run calm).master_agrees;
}
