use Rattle.sercos_master.proofs.Words.{rules, ◌≡◌, ◌+◌, ◌≤◌, ◌<◌, length, ap, arith}
use Rattle.sercos_master.proofs.Openings.{none_dealt, dealt_next, all_dealt, last_asks}
use Rattle.sercos_master.proofs.opening.deal.Goals.{in-Some+in_ok-give, in_default}
use Rattle.sercos_master.proofs.opening.deal.Goals as goal

pub loop-done-init : goal.loop-done-init
loop-done-init c = none_dealt c.args.jobs.items c.args.seats.now.items c.requires.requests

pub overflow_cast-len : goal.overflow_cast-len
overflow_cast-len c =
    let one : length c.pop.new.self.items + 1 ≡ length c.loop-done.jobs.items = search rules in
    let is : c.len.result ≡ length c.pop.new.self.items = search rules in
    let h : c.len.result < 65536 = omega (arith, c.loop-done.invariant.left, c.requires.few, one, is) in
    search rules

pub overflow_add-len : goal.overflow_add-len
overflow_add-len c =
    let one : length c.pop.new.self.items + 1 ≡ length c.loop-done.jobs.items = search rules in
    let is : c.len.result ≡ length c.pop.new.self.items = search rules in
    let h : c.len.result + 1 < 65536 = omega (arith, c.loop-done.invariant.left, c.requires.few, one, is) in
    search rules

pub give-requires : goal.give-requires
give-requires c = last_asks c.loop-done.jobs.items c.pop.new.self.items c.in-Some.job c.loop-done.invariant.requests c.in-Some.ensures.items

pub loop-done-preserved : goal.loop-done-preserved
loop-done-preserved c = elim c.match-pop.branch [
  | in-Some+in_ok-give w ↦
      rw w.seats-is
      (dealt_next c.args.jobs.items c.args.seats.now.items c.loop-done.jobs.items c.pop.new.self.items w.in-Some.job c.loop-done.seats.items w.give.new.seats.items c.loop-done.done (w.len.result + 1)
      c.loop-done.invariant w.in-Some.ensures.items (ap (λ n. n + 1) (search rules)) w.in_ok-give.ensures.count w.in_ok-give.ensures.stand)
  | in_default w ↦
      let none : length c.loop-done.jobs.items ≡ 0 = search rules in
      let count : c.len-count.result ≡ length c.args.jobs.items = search rules in
      absurd (omega (arith, c.loop-done.invariant.left, none, count, c.loop-done-test.true))
]

pub returns-clause-count : goal.returns-clause-count
returns-clause-count c = c.loop-done.invariant.count

pub returns-clause-stand : goal.returns-clause-stand
returns-clause-stand c =
    let over : c.len-count.result ≤ c.loop-done.done = search rules in
    let is : c.len-count.result ≡ length c.args.jobs.items = search rules in
    all_dealt c.args.jobs.items c.loop-done.jobs.items c.args.seats.now.items c.loop-done.seats.items c.loop-done.done c.loop-done.invariant (omega (arith, over, is))
