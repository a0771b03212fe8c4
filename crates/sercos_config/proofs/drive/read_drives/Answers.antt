use Rattle.std.proofs.Common.{arith}
use Rattle.std.proofs.lemmas.Grind.{common_steps}
use Rattle.std.proofs.lemmas.List.Elements.{All-push}
use Rattle.sercos_block.specs.Stores.{IsTyped}
use Rattle.sercos_config.specs.Drive.{drives_onto}
use Rattle.sercos_config.proofs.DriveLemmas.{drives_more}
use Rattle.sercos_config.proofs.drive.read_drives.Goals as goal

pub loop-table-preserved : goal.loop-table-preserved
unfolding drives_onto
loop-table-preserved c =
    let valid = rw c.as_slice.ensures.value at c.in_ok-drive.ensures.valid in (
      rw c.in_ok-push.ensures.items (drives_more c.loop-table.drives.items c.in_ok-drive.drive c.loop-table.invariant.0 valid),
      rw c.in_ok-push.ensures.items (All-push IsTyped c.loop-table.drives.items c.in_ok-drive.drive c.loop-table.invariant.1 c.in_ok-drive.ensures.typed),
      grind (arith, common_steps),
      grind (arith, common_steps),
    )
