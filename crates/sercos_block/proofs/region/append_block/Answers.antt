use Rattle.std.proofs.Common.{◌≡◌, ◌+◌, length, ap, refl, rules, arith}
use Rattle.sercos_block.proofs.SoundLemmas.{SoundParts-is_sound}
use Rattle.sercos_block.proofs.PackLemmas.{min_room, max_room, name_room, unit_room, value_room, appended_by}
use Rattle.sercos_block.proofs.region.append_block.Goals as goal

pub append_limit-requires-clause-limit : goal.append_limit-requires-clause-limit
append_limit-requires-clause-limit c = (SoundParts-is_sound _ c.requires.sound).min

pub append_limit-requires-clause-room : goal.append_limit-requires-clause-room
append_limit-requires-clause-room c = let few = min_room c.args.block.now.attribute c.args.region.now.items c.requires.room c.in_ok-word.ensures.bytes in omega arith

pub append_limit-requires-2-clause-limit : goal.append_limit-requires-2-clause-limit
append_limit-requires-2-clause-limit c = (SoundParts-is_sound _ c.requires.sound).max

pub append_limit-requires-2-clause-room : goal.append_limit-requires-2-clause-room
append_limit-requires-2-clause-room c = let few = max_room c.args.block.now.attribute c.args.block.now.min c.args.region.now.items c.append_word.new.region.items c.requires.room c.in_ok-word.ensures.bytes c.in_ok-min.ensures.bytes in omega arith

pub append_text-requires : goal.append_text-requires
append_text-requires c = record { room = name_room _ _ _ _ c.requires.sound c.requires.room c.in_ok-word.ensures.bytes c.in_ok-min.ensures.bytes c.in_ok-max.ensures.bytes }

pub append_text-requires-2 : goal.append_text-requires-2
append_text-requires-2 c = record { room = unit_room _ _ _ _ _ c.requires.sound c.requires.room c.in_ok-word.ensures.bytes c.in_ok-min.ensures.bytes c.in_ok-max.ensures.bytes c.in_ok-name.ensures.bytes }

pub append-requires-clause-room : goal.append-requires-clause-room
append-requires-clause-room c = value_room _ _ _ _ _ _ _ c.requires.sound c.requires.room c.in_ok-word.ensures.bytes c.in_ok-min.ensures.bytes c.in_ok-max.ensures.bytes c.in_ok-name.ensures.bytes c.in_ok-unit.ensures.bytes c.as_slice.ensures.bound

pub returns : goal.returns
returns c =
    let count : c.len.result ≡ length c.append_text-2.new.region.items = search rules in
    appended_by c.args.block.now _ c.most_value.result c.requires.sound
    (record { word = c.in_ok-word.ensures.bytes; min = c.in_ok-min.ensures.bytes; max = c.in_ok-max.ensures.bytes; name = c.in_ok-name.ensures.bytes; unit = c.in_ok-unit.ensures.bytes })
    c.as_slice.ensures.value c.in_ok-value.ensures.bytes c.in_ok-fill.ensures (ap (λ n. n + c.most_value.result) count) c.most_value.ensures.most c.most_value.ensures.few c.most_value.ensures.fits
    c.in_ok-word.ensures.part c.in_ok-min.ensures.limit c.in_ok-max.ensures.limit c.in_ok-name.ensures.part c.in_ok-unit.ensures.part c.in_ok-value.ensures.part refl
