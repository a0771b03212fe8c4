use Rattle.std.proofs.Common.{◌≡◌, ◌++◌, map, string_bytes}
use Rattle.std.specs.Vec.Iter.{into_iter_items, into_iter_len}
use Rattle.sercos_program.proofs.arguments.words_after_name.Given as goal

-- the words so far and those that are left are all
abbrev pub invariant-loop-argument : goal.invariant-loop-argument
invariant-loop-argument l = l.words ++ map string_bytes (into_iter_items l.arguments) ≡ map string_bytes (into_iter_items l.initial.arguments)

abbrev pub decreases-loop-argument : goal.decreases-loop-argument
decreases-loop-argument l = into_iter_len l.arguments
