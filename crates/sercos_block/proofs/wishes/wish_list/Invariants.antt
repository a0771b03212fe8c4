use Rattle.std.proofs.Common.{◌≡◌, map, take}
use Rattle.std.specs.List.{All}
use Rattle.sercos_block.specs.Rings.{wish_of, HasLens}
use Rattle.sercos_block.proofs.wishes.wish_list.Given as goal

abbrev pub invariant-loop-drive : goal.invariant-loop-drive
invariant-loop-drive l = (l.wishes.items ≡ map wish_of (take l.drive-index l.drives)) × All HasLens l.wishes.items
