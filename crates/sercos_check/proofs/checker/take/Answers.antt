use Rattle.std.proofs.Common.{sym}
use Rattle.sercos_check.proofs.checker.take.Goals as goal

pub returns-in-None-clause-clean : goal.returns-in-None-clause-clean
returns-in-None-clause-clean c = λ lines stands seen.
    let can = (c.next.ensures.can lines stands).0 c.if-not-next.false in
    let follows = c.next.ensures.follows lines stands c.if-not-next.false in
    record {
      can = can;
      kept = sym (c.in-None.ensures.rule lines follows can seen);
      stands = follows;
      are_seen = c.keep.ensures.seen lines follows can seen;
    }
