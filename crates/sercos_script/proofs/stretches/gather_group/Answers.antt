use Rattle.std.proofs.Common.{rules, arith, ◌≡◌, ◌<◌, ◌+◌, ◌-◌, ◌*◌, length}
use Rattle.std.proofs.lemmas.List.{length-set}
use Rattle.sercos_script.proofs.StretchLemmas.{done-skipped, done-looked, done-ahead, ahead-set, done-skipped_all, early_part}
use Rattle.sercos_script.proofs.stretches.gather_group.Goals as goal

pub loop-k-preserved-then-cycle-soonest : goal.loop-k-preserved-then-cycle-soonest
loop-k-preserved-then-cycle-soonest c = record { done = done-skipped c.loop-k.invariant.done c.if-cycle-soonest.true; long = c.loop-k.invariant.long }

pub loop-k-preserved : goal.loop-k-preserved
loop-k-preserved c =
    let inside : c.loop-k.k < length c.loop-k.soonest = omega arith in
    record {
      done = done-looked c.look_into-found.result.soonest c.look_into-found.new.acting.items c.loop-k.invariant.done inside (λ at after before. rw (← c.stretch-faults.ensures) (c.look_into-found.ensures.soonest at after before))
          (rw (← c.stretch-faults.ensures) (c.look_into-found.ensures.acting (search rules)));
      long = omega (arith, length-set c.loop-k.soonest c.loop-k.k c.look_into-found.result.soonest);
    }

pub returns-then-not-found-clause-ahead : goal.returns-then-not-found-clause-ahead
returns-then-not-found-clause-ahead c =
    let inside : c.loop-k.k < length c.loop-k.soonest = omega arith in
    ahead-set _ _ _ _ _ (done-ahead c.loop-k.invariant.done) inside (λ at after before. rw (← c.stretch-faults.ensures) (c.look_into-found.ensures.soonest at after before))

pub returns-then-is_before_all-clause-done : goal.returns-then-is_before_all-clause-done
returns-then-is_before_all-clause-done c = λ yes.
    let long : 16 * c.args.group + 16 - 16 * c.args.group ≡ 16 = omega arith in
    done-skipped_all 16 c.requires.done (early_part c.args.cycle (16 * c.args.group) 16 c.args.soonest.now (omega arith) (rw long at c.is_before_all.ensures c.if-is_before_all.true))
