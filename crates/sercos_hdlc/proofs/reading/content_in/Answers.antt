use Rattle.std.proofs.Common.{◌≡◌, arith, refl, sym}
use Rattle.std.proofs.lemmas.Result.{err_from_is_err_and}
use Rattle.sercos_model.specs.Bits.{bits_of}
use Rattle.sercos_model.proofs.BitLemmas.{AreBytes-by_index}
use Rattle.sercos_hdlc.specs.Reason.{found_in}
use Rattle.sercos_hdlc.proofs.ReasonLemmas.{check_differs-other, check_differs-same}
use Rattle.sercos_hdlc.proofs.ContentLemmas.{found_in_bytes, content_of_bytes, wanted_in}
use Rattle.sercos_hdlc.proofs.reading.content_in.Goals as goal

pub returns-in_err-test_check-clause-reason : goal.returns-in_err-test_check-clause-reason
returns-in_err-test_check-clause-reason c = λ enough.
    let found : c.from_le_bytes-found.result ≡ found_in (bits_of c.args.bytes.now) =
    omega (arith, c.from_le_bytes-found.ensures, c.byte_at.ensures, c.byte_at-2.ensures, found_in_bytes c.args.bytes.now c.saturating_sub-split.result (AreBytes-by_index c.args.bytes.now (λ i. omega (arith, c.type_inv.bytes i))) (omega arith)) in
    let wanted = wanted_in c.args.bytes.now _ c.saturating_sub-split.result c.fcs.result (AreBytes-by_index c.args.bytes.now (λ i. omega (arith, c.type_inv.bytes i))) (omega arith) refl c.fcs.ensures in
    let answer = err_from_is_err_and c.from_residual.result c.from_residual.ensures.1 in
    rw (answer.1, answer.2, c.in_err-test_check.ensures.err) (check_differs-other (bits_of c.args.bytes.now) c.from_le_bytes-found.result c.fcs.result found wanted c.in_err-test_check.ensures.differ)

pub returns-clause-reason : goal.returns-clause-reason
returns-clause-reason c = λ enough.
    let found : c.from_le_bytes-found.result ≡ found_in (bits_of c.args.bytes.now) =
    omega (arith, c.from_le_bytes-found.ensures, c.byte_at.ensures, c.byte_at-2.ensures, found_in_bytes c.args.bytes.now c.saturating_sub-split.result (AreBytes-by_index c.args.bytes.now (λ i. omega (arith, c.type_inv.bytes i))) (omega arith)) in
    let wanted = wanted_in c.args.bytes.now _ c.saturating_sub-split.result c.fcs.result (AreBytes-by_index c.args.bytes.now (λ i. omega (arith, c.type_inv.bytes i))) (omega arith) refl c.fcs.ensures in
    check_differs-same (bits_of c.args.bytes.now) c.from_le_bytes-found.result c.fcs.result found wanted c.in_ok-test_check.ensures.same

pub returns-clause-content : goal.returns-clause-content
returns-clause-content c = λ enough.
    sym (content_of_bytes c.args.bytes.now c.saturating_sub-split.result (AreBytes-by_index c.args.bytes.now (λ i. omega (arith, c.type_inv.bytes i))) (omega arith))
