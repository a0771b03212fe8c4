use Rattle.std.proofs.Common.{◌≡◌, true, [], map, drop, length}
use Rattle.sercos_block.specs.Rings.{are_cyclic}
use Rattle.sercos_config.specs.Drive.{idns_onto}
use Rattle.sercos_config.proofs.drive.read_texts.Given as goal

abbrev pub invariant-loop-text : goal.invariant-loop-text
invariant-loop-text l =
    (are_cyclic l.blocks l.idns.items ≡ true)
    × (length l.idns.items ≡ l.text-index)
    × (idns_onto l.blocks l.keys.place l.key l.idns.items (map (λ t. t.now) (drop l.text-index l.texts)) ≡ idns_onto l.blocks l.keys.place l.key [] (map (λ t. t.now) l.texts))
