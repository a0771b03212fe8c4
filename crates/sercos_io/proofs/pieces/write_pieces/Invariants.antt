use Rattle.std.proofs.Common.{◌≡◌, ◌+◌, ◌≤◌, length, take, map}
use Rattle.std.specs.Io.KnownBytes.{Appends}
use Rattle.std.specs.List.{concat}
use Rattle.sercos_io.proofs.pieces.write_pieces.Given as goal

-- the sink has taken the pieces before this one, without a fault and out of its room
abbrev pub invariant-loop-piece : goal.invariant-loop-piece
invariant-loop-piece g l =
    let text = concat (map (λ p. p.now) (take l.piece-index l.pieces)) in
    record {
      taken : Appends (g.K.Sink.held l.initial.sink) (g.K.Sink.held l.sink) text;
      faultless : g.K.Sink.faults l.sink ≡ g.K.Sink.faults l.initial.sink;
      room_left : g.K.Sink.room l.initial.sink ≤ g.K.Sink.room l.sink + length text;
    }
