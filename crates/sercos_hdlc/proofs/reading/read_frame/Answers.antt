use Rattle.std.proofs.Common.{◌≤◌, refl, length}
use Rattle.std.proofs.lemmas.Result.{err_from_is_err_and}
use Rattle.sercos_hdlc.proofs.ContentLemmas.{whole_bytes}
use Rattle.sercos_hdlc.proofs.reading.read_frame.Goals as goal

pub returns-in_err-content-clause-reason : goal.returns-in_err-content-clause-reason
returns-in_err-content-clause-reason c = λ bits given scan kept.
    let whole = whole_bytes bits given c.args.kept.now c.args.scan.now.closing c.in_ok-len.len (c.in_ok-len.ensures.plain bits given scan) kept c.in_ok-test_size.ensures.whole c.in_ok-test_size.ensures.low c.in_ok-test_size.ensures.high c.in_ok-test_size.ensures.check in
    let two : 2 ≤ length c.as_slice.result.now = rw c.as_slice.ensures.value whole.two in
    let answer = err_from_is_err_and c.from_residual-in_err-content.result c.from_residual-in_err-content.ensures.1 in
    let differs = rw c.as_slice.ensures.value at (c.in_err-content.ensures.reason two) in
    rw (answer.1, answer.2, whole.left, ← differs) refl

pub returns-in_err-test_end-clause-reason : goal.returns-in_err-test_end-clause-reason
returns-in_err-test_end-clause-reason c = λ bits given scan kept.
    let whole = whole_bytes bits given c.args.kept.now c.args.scan.now.closing c.in_ok-len.len (c.in_ok-len.ensures.plain bits given scan) kept c.in_ok-test_size.ensures.whole c.in_ok-test_size.ensures.low c.in_ok-test_size.ensures.high c.in_ok-test_size.ensures.check in
    let two : 2 ≤ length c.as_slice.result.now = rw c.as_slice.ensures.value whole.two in
    let answer = err_from_is_err_and c.from_residual-in_err-test_end.result c.from_residual-in_err-test_end.ensures.1 in
    let same = rw c.as_slice.ensures.value at (c.in_ok-content.ensures.reason two) in
    let behind = c.in_err-test_end.ensures bits given c.in_ok-len.len scan (c.in_ok-len.ensures.plain bits given scan) in
    rw (answer.1, answer.2, whole.left, ← same, ← behind) refl

pub returns-clause-reason : goal.returns-clause-reason
returns-clause-reason c = λ bits given scan kept.
    let whole = whole_bytes bits given c.args.kept.now c.args.scan.now.closing c.in_ok-len.len (c.in_ok-len.ensures.plain bits given scan) kept c.in_ok-test_size.ensures.whole c.in_ok-test_size.ensures.low c.in_ok-test_size.ensures.high c.in_ok-test_size.ensures.check in
    let two : 2 ≤ length c.as_slice.result.now = rw c.as_slice.ensures.value whole.two in
    let same = rw c.as_slice.ensures.value at (c.in_ok-content.ensures.reason two) in
    let behind = c.in_ok-test_end.ensures bits given c.in_ok-len.len scan (c.in_ok-len.ensures.plain bits given scan) in
    rw (whole.left, ← same, ← behind) refl

pub returns-clause-content : goal.returns-clause-content
returns-clause-content c = λ bits given scan kept.
    let whole = whole_bytes bits given c.args.kept.now c.args.scan.now.closing c.in_ok-len.len (c.in_ok-len.ensures.plain bits given scan) kept c.in_ok-test_size.ensures.whole c.in_ok-test_size.ensures.low c.in_ok-test_size.ensures.high c.in_ok-test_size.ensures.check in
    let two : 2 ≤ length c.as_slice.result.now = rw c.as_slice.ensures.value whole.two in
    let read = rw c.as_slice.ensures.value at (c.in_ok-content.ensures.content two) in
    rw whole.plain_is read
