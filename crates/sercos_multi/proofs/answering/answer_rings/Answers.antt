use Rattle.std.proofs.Common.{◌<◌, ◌≤◌, ◌⊎◌, inl, inr, arith}
use Rattle.std.proofs.lemmas.Bool.Decides.{nat_tests}
use Rattle.sercos_multi.specs.Divided.{parts_of}
use Rattle.sercos_multi.proofs.RunLemmas.{few_told, not_few, documents_count, all_written, unopened_told, unopened_ends}
use Rattle.sercos_multi.proofs.answering.answer_rings.Goals as goal
use Rattle.sercos_multi.proofs.answering.answer_rings.Goals.{then-count-lt2-via-then-count-lt2, then-count-lt2-via-else-count-lt2+then-count-gt8}

pub returns-then-count-lt2 : goal.returns-then-count-lt2
returns-then-count-lt2 g c =
    let why : (c.count_parts-count.result < 2) ⊎ (8 < c.count_parts-count.result) = elim c.then-count-lt2.branch [
      | then-count-lt2-via-then-count-lt2 w ↦ inl (grind (arith, nat_tests))
      | then-count-lt2-via-else-count-lt2+then-count-gt8 w ↦ inr (grind (arith, nat_tests))
    ] in
    record {
      answer = few_told c.args.bytes.now c.count_parts-count.result _ _ c.refuse_count.result c.count_parts-count.ensures.value why c.refuse_count.ensures;
      count = λ _. rw (c.count_parts-count.ensures.value) at c.refuse_count.ensures;
    }

pub run_all-requires : goal.run_all-requires
run_all-requires g c =
    let opened = c.in-Ok.ensures.ok in
    let count = documents_count 1 (parts_of c.args.bytes.now) opened.documents opened.said in
    let value = c.count_parts-count.ensures.value in
    let two : 2 ≤ c.count_parts-count.result = grind (arith, nat_tests) in
    let eight : c.count_parts-count.result ≤ 8 = grind (arith, nat_tests) in
    record { all = (opened.documents, opened.all, omega (arith, count, value, two), omega (arith, count, value, eight)) }

pub returns-in-Ok : goal.returns-in-Ok
returns-in-Ok g c =
    let opened = c.in-Ok.ensures.ok in
    let count = documents_count 1 (parts_of c.args.bytes.now) opened.documents opened.said in
    let value = c.count_parts-count.ensures.value in
    let two : 2 ≤ c.count_parts-count.result = grind (arith, nat_tests) in
    let eight : c.count_parts-count.result ≤ 8 = grind (arith, nat_tests) in
    record {
      answer = all_written c.args.bytes.now c.count_parts-count.result opened.documents _ _ c.run_all.result value two eight opened.said opened.runs (c.run_all.ensures opened.documents opened.all (omega (arith, count, value, two)));
      count = λ why. absurd (not_few _ _ value two eight why);
    }

pub refuse_unopened-requires : goal.refuse_unopened-requires
refuse_unopened-requires g c = unopened_told (parts_of c.args.bytes.now) c.in-Err.why c.in-Err.ensures.err

pub returns-in-Err : goal.returns-in-Err
returns-in-Err g c =
    let two : 2 ≤ c.count_parts-count.result = grind (arith, nat_tests) in
    let eight : c.count_parts-count.result ≤ 8 = grind (arith, nat_tests) in
    record {
      answer = unopened_ends c.args.bytes.now c.count_parts-count.result c.in-Err.why _ _ c.refuse_unopened.result c.count_parts-count.ensures.value two eight c.in-Err.ensures.err c.refuse_unopened.ensures;
      count = λ why. absurd (not_few _ _ c.count_parts-count.ensures.value two eight why);
    }
