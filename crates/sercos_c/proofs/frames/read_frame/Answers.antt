use Rattle.std.proofs.Common.{ℕ, List, refl, sym, subst}
use Rattle.sercos_c.specs.Room.{IsPut}
use Rattle.sercos_c.specs.Frames.{a_frame, not_a_frame}
use Rattle.sercos_c.proofs.frames.read_frame.Goals as goal

pub returns-in-Ok-clause-read : goal.returns-in-Ok-clause-read
returns-in-Ok-clause-read c = λ bits fed.
    a_frame (c.in-Ok.ensures.frame bits fed)
    (subst (λ (content : List ℕ). IsPut content c.args.out.now c.put.new.out c.put.new.written c.put.result) c.as_slice.ensures.value c.put.ensures)
    c.no_bad_frame.ensures

pub returns-in-Err-clause-read : goal.returns-in-Err-clause-read
returns-in-Err-clause-read c = λ bits fed.
    not_a_frame (sym (c.in-Err.ensures.reason bits fed))
    (λ content is. let same = c.in-Err.ensures.only bits content fed is in cc)
    (record { status = refl; written = refl; out = refl })
    c.bad_frame_of.ensures
