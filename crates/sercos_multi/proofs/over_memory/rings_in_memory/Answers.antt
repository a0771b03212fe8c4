use Rattle.std.proofs.Common.{◌≡◌, ◌<◌, inl, inr, ℕ, Bool, true, false, List, Some, length, refl, arith}
use Rattle.sercos_call.specs.TopCall.{HasInput, writes_nothing}
use Rattle.std.proofs.lemmas.Bool.Decides.{nat_tests}
use Rattle.sercos_model.proofs.StreamLemmas.{not_risen}
use Rattle.sercos_model.specs.Streams.{Rose}
use Rattle.sercos_io.specs.Memory.{SinkState, room_of}
use Rattle.sercos_multi.proofs.over_memory.rings_in_memory.Goals as goal

room : (s : SinkState) → length s.failing ≡ 0 → s.faults < 18446744073709551615 → room_of s ≡ s.spare
room s none below = grind (arith, nat_tests)

-- a source in memory tells its bytes, whether they are read or not
told : (reads : Bool) (bytes : List ℕ) → HasInput reads (Some bytes) bytes
told true bytes = refl
told false bytes = tt

pub returns-clause-answers : goal.returns-clause-answers
returns-clause-answers c form fits none below spare =
    let whole = room c.args.sink.now none below in
    let same = c.rings.ensures.room c.args.source.now (told _ _) (rw whole spare) in
    c.rings.ensures.answers c.args.source.now (told _ _) fits form (not_risen 0 0 refl (omega arith)) (not_risen _ _ same below)

pub returns-clause-unwritten : goal.returns-clause-unwritten
unfolding writes_nothing
returns-clause-unwritten c memory = c.rings.ensures.unwritten (rw memory refl)
