use Rattle.std.proofs.Common.{◌-◌, arith, sym, rules}
use Rattle.sercos_backup.proofs.TrackLemmas.{told_noted, told_none, told_late}
use Rattle.sercos_backup.proofs.tracked.note_one.Goals as goal

pub returns-then-number-eq0 : goal.returns-then-number-eq0
returns-then-number-eq0 c = λ told jobs is. told_none c.args.number told c.args.outcome.now jobs c.args.list.now (search rules) is

pub returns-then-place-list : goal.returns-then-place-list
returns-then-place-list c = λ told jobs is. told_late c.args.number told c.args.outcome.now jobs c.args.list.now (grind (arith)) is

pub returns : goal.returns
returns c = λ told jobs is. told_noted c.args.number (c.from-place.result - 1) told c.args.outcome.now jobs c.args.list.now c.index-list-place.result c.note_in.new.request (grind (arith)) (grind (arith)) (sym c.index-list-place.is) (search rules) is
