use Rattle.std.proofs.Common.{rules, ◌≡◌, ◌-◌, ℕ, slice_index, length, arith, ap, ◌∙◌}
use Rattle.sercos_timing.specs.Order.{record_bytes, sent}
use Rattle.sercos_timing.specs.Inequalities.{positions}
use Rattle.sercos_plan.specs.LeastTimes.{greatest_t4min, least_t1}
use Rattle.sercos_plan.proofs.PlanLemmas.{t1_fits}
use Rattle.sercos_plan.proofs.AnswerLemmas.{roomy_test, plan_is}
use Rattle.sercos_plan.proofs.planning.least_plan.Goals as goal

pub narrowed-requires-clause-limit : goal.narrowed-requires-clause-limit
narrowed-requires-clause-limit c =
    λ k. let is = c.requires.t1 k in let fits = t1_fits c.args.w.now c.requires.valid (roomy_test c.args.w.now c.requires.room) k in omega arith

pub returns : goal.returns
returns c =
    let w = c.args.w.now in
    let count : length c.narrowed.result.items ≡ length w.drives = search rules in
    let value : (j : ℕ) → slice_index c.narrowed.result.items j ≡ least_t1 w (sent w) j = λ j. ap (λ xs. slice_index xs j) c.narrowed.ensures ∙ c.requires.t1 j in
    let capture : c.cycle.result - c.greatest_t4min.result ≡ w.cycle - greatest_t4min w = search rules in
    let places : c.positions.result.items ≡ positions 1 w.drives = search rules in
    let bytes : c.record_bytes.result ≡ record_bytes w.drives = search rules in
    plan_is w c.narrowed.result.items c.args.t2 c.args.t3 (c.cycle.result - c.greatest_t4min.result) c.positions.result.items c.record_bytes.result count value c.requires.t2 c.requires.t3 capture places bytes
