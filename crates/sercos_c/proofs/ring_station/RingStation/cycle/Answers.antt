use Rattle.std.proofs.Common.{◌<◌, length, refl, arith}
use Rattle.std.proofs.lemmas.Bool.Decides.{nat_tests}
use Rattle.sercos_law_run.specs.Totals.Counting.{HasRoom}
use Rattle.sercos_law_run.proofs.Theorems.{unseen_few}
use Rattle.sercos_opened.specs.Kept.{script_carry, script_restarts}
use Rattle.sercos_ring.specs.Kept.{newest}
use Rattle.sercos_c.proofs.RingLemmas.{goes_on, kept_so}
use Rattle.sercos_c.proofs.ring_station.RingStation.cycle.Goals as goal

pub returns-clause-goes : goal.returns-clause-goes
returns-clause-goes c d j is _done =
    let v = newest c.make.new.ring in
    let within : length j < 50000 = (let made = is.made_is in let few = c.args.self.now.few in grind (arith, nat_tests)) in
    let room : HasRoom c.args.self.now.totals = c.totals_law.ensures.room _ (length j) within is.few in
    let next = c.make.ensures.next.next d.setup d.jobs (script_carry d) (script_restarts d) j is.stands in
    let unseen = unseen_few d.setup d.jobs (script_carry d) (script_restarts d) v j next (c.ring_law.ensures d.setup is.stands.valid).few c.make.ensures.sent in (
      v,
      goes_on c.args.self.now _ d j v is (c.make.ensures.after.stands_for d.setup d.jobs (script_carry d) (script_restarts d) j is.stands) refl refl refl
          (c.make.ensures.counted room unseen) (c.make.ensures.few room unseen) c.totals_law.ensures.more c.totals_law.ensures.few_more,
    )

pub returns-clause-kept : goal.returns-clause-kept
returns-clause-kept c d j is = kept_so c.kept_law.ensures.kept c.run_law.ensures.one _ d j is
