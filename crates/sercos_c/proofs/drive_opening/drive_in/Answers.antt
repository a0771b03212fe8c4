use Rattle.std.proofs.Common.{rules, ◌≡◌, ◌<◌, true, length}
use Rattle.std.specs.Prelude.{slice_index_or}
use Rattle.sercos_block.specs.Rings.{is_ring}
use Rattle.sercos_block.specs.Views.{RingView}
use Rattle.sercos_law_run.proofs.Theorems.{sound_blocks}
use Rattle.sercos_c.proofs.drive_opening.drive_in.Goals as goal

pub open-requires-clause-blocks : goal.open-requires-clause-blocks
open-requires-clause-blocks c =
    let setup : RingView = c.in_ok-document.document.setup in
    let ring : is_ring setup ≡ true = search rules in
    let within : c.args.place < length setup.drives = search rules in
    let at : c.index.result.now ≡ slice_index_or setup.drives c.args.place c.index.result.now = search rules in
    (sound_blocks setup c.args.place c.index.result.now ring within at).0

pub open-requires-clause-few : goal.open-requires-clause-few
open-requires-clause-few c =
    let setup : RingView = c.in_ok-document.document.setup in
    let ring : is_ring setup ≡ true = search rules in
    let within : c.args.place < length setup.drives = search rules in
    let at : c.index.result.now ≡ slice_index_or setup.drives c.args.place c.index.result.now = search rules in
    (sound_blocks setup c.args.place c.index.result.now ring within at).1
