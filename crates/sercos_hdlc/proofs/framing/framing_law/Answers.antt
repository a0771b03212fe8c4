use Rattle.std.proofs.Common.{arith, refl}
use Rattle.sercos_hdlc.specs.Stuffed.{frame_of}
use Rattle.sercos_hdlc.proofs.FramingLemmas.{IsFrame-framed, one_frame, length-IsFrame, no_longer_frame}
use Rattle.sercos_hdlc.proofs.framing.framing_law.Goals as goal

pub returns-clause-some : goal.returns-clause-some
returns-clause-some c = λ content bytes some fits. (_, IsFrame-framed content _ bytes some fits refl)

pub returns-clause-frame : goal.returns-clause-frame
unfolding frame_of
returns-clause-frame c = λ content bytes some fits. IsFrame-framed content _ bytes some fits refl

pub returns-clause-one : goal.returns-clause-one
returns-clause-one c = one_frame

pub returns-clause-wire : goal.returns-clause-wire
returns-clause-wire c = length-IsFrame

pub returns-clause-fits : goal.returns-clause-fits
returns-clause-fits c = λ content bits is. omega (arith, is.fits, length-IsFrame content bits is)

pub returns-clause-prefix : goal.returns-clause-prefix
returns-clause-prefix c = no_longer_frame
