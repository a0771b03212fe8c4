use Rattle.std.proofs.Common.{◌+◌, ℕ, List, [], Bor, length, take, drop, map, sym, subst, arith}
use Rattle.std.specs.List.{concat}
use Rattle.std.proofs.lemmas.Bool.{false≢true}
use Rattle.std.proofs.lemmas.List.{length-append}
use Rattle.std.specs.Io.KnownBytes.{Appends}
use Rattle.std.proofs.KnownBytes.{Appends-trans}
use Rattle.sercos_model.proofs.KnownBytes.{Appends-prefix, Appends-front}
use Rattle.sercos_io.proofs.Concat.{concat-next, concat-at, length-concat-at, OnErr-always}
use Rattle.sercos_io.proofs.pieces.write_pieces.Goals as goal

none : Bor (List ℕ)
none = record { ref_ptr = (0, 0); now = [] }

pub returns-in_err-write_all-clause-err : goal.returns-in_err-write_all-clause-err
unfolding none
returns-in_err-write_all-clause-err g c =
    let f = λ (p : Bor (List ℕ)). p.now in
    let i = c.loop-piece.piece-index in
    let failed = c.in_err-write_all.ensures.err in
    let text = concat-at f c.args.pieces.now i none c.loop-piece-test.true in
    let len = length-concat-at f c.args.pieces.now i none c.loop-piece-test.true in
    let front = concat (map f (take i c.args.pieces.now)) in
    let rest = concat (map f (drop (i + 1) c.args.pieces.now)) in
    OnErr-always c.from_residual.result _
    (length front + failed.0, omega (arith, len, failed.1), subst (λ t. Appends (g.K.Sink.held c.args.sink.now) (g.K.Sink.held c.write_all.new.sink) (take (length front + failed.0) t)) (sym text) (Appends-prefix _ _ _ front _ failed.0 c.loop-piece.invariant.taken (Appends-front _ _ _ rest failed.0 (omega (arith, failed.1)) failed.2)))

pub returns-in_err-write_all-clause-room : goal.returns-in_err-write_all-clause-room
unfolding none
returns-in_err-write_all-clause-room g c = λ fits.
    let f = λ (p : Bor (List ℕ)). p.now in
    let len = length-concat-at f c.args.pieces.now c.loop-piece.piece-index none c.loop-piece-test.true in
    absurd (false≢true (c.in_err-write_all.ensures.room (omega (arith, len, fits, c.loop-piece.invariant.room_left))))

pub returns-in_err-write_all-clause-room_left : goal.returns-in_err-write_all-clause-room_left
unfolding none
returns-in_err-write_all-clause-room_left g c =
    let f = λ (p : Bor (List ℕ)). p.now in
    let len = length-concat-at f c.args.pieces.now c.loop-piece.piece-index none c.loop-piece-test.true in
    omega (arith, len, c.in_err-write_all.ensures.room_left, c.loop-piece.invariant.room_left)

pub loop-piece-preserved : goal.loop-piece-preserved
unfolding none
loop-piece-preserved g c =
    let f = λ (p : Bor (List ℕ)). p.now in
    let next = concat-next f c.args.pieces.now c.loop-piece.piece-index none c.loop-piece-test.true in
    let before = c.loop-piece.invariant in
    record {
      taken = rw next (Appends-trans _ _ _ _ _ before.taken c.in_ok-write_all.ensures.ok);
      faultless = cc (c.in_ok-write_all.ensures.cause, before.faultless);
      room_left = rw (next, length-append (concat (map f (take c.loop-piece.piece-index c.args.pieces.now))) _) (omega (arith, c.in_ok-write_all.ensures.room_left, before.room_left));
    }
