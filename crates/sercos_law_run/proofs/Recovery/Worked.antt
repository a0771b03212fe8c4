-- What a worked run reports of the plan, and of the requests that are left; and altered cycles that are rejected, computed from the
-- definitions.
use Rattle.sercos_law_run.proofs.Words.{◌≡◌, inl, inr, ℕ, ◌+◌, ◌≤◌, List, [], ◌∷◌, ◌++◌, length, Option, Some, None, Result, Ok, Err, refl, sym, ap, ◌∙◌, arith, option_or, PlanView, ChainView, planned, wishes_of, Lose, Fault, CycleView, fall_cycles, return_cycles, run_of, HaveTold, left_after, TellsNoFall, IsRight, AreUndisturbed, IsPredicted, ReturnsIn, carried, restarts_at, acts}
use Rattle.sercos_telegram.specs.declared.layout.Kind.TheVariants as kinds
use Rattle.sercos_step.specs.declared.request.Outcome.TheVariants as outcome
use Rattle.sercos_trace.specs.declared.events.Fall.TheVariants as fall
use Rattle.sercos_trace.specs.declared.events.Stop.TheVariants as stop
use Rattle.sercos_law_run.proofs.Journal.Worked.{ring, fault, write, read}
use Rattle.sercos_law_run.specs.Journal.Arrivals as Arrivals
use Rattle.sercos_model.specs.Bits as Bits
use Rattle.sercos_model.specs.CheckSequence as CheckSequence
use Rattle.sercos_hdlc.specs.Reason as Reason
use Rattle.sercos_hdlc.specs.Stuffed as Stuffed
use Rattle.sercos_telegram.specs.Faults as Faults
use Rattle.sercos_telegram.specs.Spells as Spells
use Rattle.sercos_telegram.specs.Words as Words
use Rattle.sercos_idn.specs.Codes as Codes
use Rattle.sercos_idn.specs.Attributes as Attributes
use Rattle.sercos_block.specs.Blocks as Blocks
use Rattle.sercos_block.specs.BuiltIns as BuiltIns
use Rattle.sercos_timing.specs.Valid as Valid
use Rattle.sercos_block.specs.Rings as Rings
use Rattle.sercos_block.specs.Stores as Stores
use Rattle.sercos_command.specs.Checks as Checks
use Rattle.sercos_command.specs.Calls as Calls
use Rattle.sercos_service_drive.specs.Replies as Replies
use Rattle.sercos_plan.specs.ChainOf as ChainOf
use Rattle.sercos_plan.specs.LeastTimes as LeastTimes
use Rattle.sercos_drive.specs.Heard as Heard
use Rattle.sercos_drive.specs.Says as Says

-- The AT of cycle 105 is lost.
abbrev lost : List Fault
lost = fault 105 105 kinds.At 1 (Lose 1) ∷ []

abbrev run : ℕ → List CycleView
run n = run_of ring (write ∷ read ∷ []) (carried 1 lost) (restarts_at lost) n

-- THE PLAN that the run reports, and the planner's
abbrev plan_told : List CycleView → Option PlanView
plan_told [] = None
plan_told (t ∷ j) = option_or t.events.plan (plan_told j)

abbrev t2_in : Result PlanView ChainView → ℕ
t2_in (Ok p) = p.t2
t2_in (Err c) = 0

abbrev the_plan : PlanView
the_plan = record { t1 = 10 ∷ []; t2 = 47; t3 = 98; t4 = 230; position = 1 ∷ []; mdt_len = 8 }

told_is : plan_told (run 96) ≡ Some the_plan
unfolding carried restarts_at acts Bits.bits_of Bits.low_bits Bits.is_odd Bits.number_of Bits.bytes_of CheckSequence.fcs_of CheckSequence.divided CheckSequence.added CheckSequence.sum_of Arrivals.content_in Arrivals.is_unseen Reason.begins_with_six Reason.is_five Reason.ends_in_five Reason.six_place Reason.unstuffed Reason.given Reason.unclosed Reason.unreadable Reason.reason_of Stuffed.stuffed Stuffed.frame_of Faults.mst_fault Faults.head_fault Spells.word_bytes Spells.word_at Spells.fields Words.control_of Words.status_of Codes.attribute_fault Attributes.attribute_of Blocks.element_of BuiltIns.built_in Rings.attribute_in Valid.is_cycle Stores.inserted Stores.with_own Stores.store_of Checks.number_at Checks.idns_at Checks.carried_len Checks.breaks_1 Checks.breaks_2 Checks.breaks_6 Checks.breaks_7 Checks.breaks_8 Checks.breaks_9 Checks.breaks_10 Checks.breaks_15 Checks.breaks_list Checks.breaks_89 Checks.unfit_for_phase_3 Checks.unfit_for_phase_4 Calls.with_check_list Replies.data_in Replies.element_words Replies.bytes_written Replies.write_cause ChainOf.chain_of LeastTimes.least_plan LeastTimes.least_t2 LeastTimes.least_t3 Heard.mst_in Heard.single_in Heard.joint_in Says.value_in
told_is = refl

made_is : planned (wishes_of ring) ≡ Ok the_plan
unfolding Rings.wishes_of Rings.listed_len Rings.cyclic_len Rings.block_attribute Rings.built_in_attribute Rings.own_attribute Rings.row_in Rings.attribute_in Codes.attribute_fault Attributes.attribute_of LeastTimes.least_plan LeastTimes.least_t2 LeastTimes.least_t3
made_is = refl

-- a cycle that reports the planner's plan with a later T2, or that there is none, is rejected
abbrev with_plan : CycleView → PlanView → CycleView
with_plan t p = record t { events = record t.events { plan = Some p } }

abbrev none_fits : CycleView → ChainView → CycleView
none_fits t c = record t { events = record t.events { stop = Some (stop.NoFit c) } }

other_plan_is_rejected : (t : CycleView) → IsPredicted ring (with_plan t (record the_plan { t2 = 48 })) → ⊥
other_plan_is_rejected t is = let same : 47 ≡ 48 = ap t2_in (sym made_is ∙ is.plan (record the_plan { t2 = 48 }) refl) in omega (arith, same)

stop_is_rejected : (t : CycleView) (c : ChainView) → IsPredicted ring (none_fits t c) → ⊥
stop_is_rejected t c is = let same : 47 ≡ 0 = ap t2_in (sym made_is ∙ is.chain c refl) in omega (arith, same)

-- WHAT IS LEFT after cycle 105, in which request 1 is at work; after 106, in which it ends; and after 111, in which request 2 does
left_at_work : left_after ring (write ∷ read ∷ []) (carried 1 lost) (restarts_at lost) (run 106) 0 ≡ Some 1 ∷ Some 2 ∷ []
unfolding carried restarts_at acts Bits.bits_of Bits.low_bits Bits.is_odd Bits.number_of Bits.bytes_of CheckSequence.fcs_of CheckSequence.divided CheckSequence.added CheckSequence.sum_of Arrivals.content_in Arrivals.is_unseen Reason.begins_with_six Reason.is_five Reason.ends_in_five Reason.six_place Reason.unstuffed Reason.given Reason.unclosed Reason.unreadable Reason.reason_of Stuffed.stuffed Stuffed.frame_of Faults.mst_fault Faults.head_fault Spells.word_bytes Spells.word_at Spells.fields Words.control_of Words.status_of Codes.attribute_fault Attributes.attribute_of Blocks.element_of BuiltIns.built_in Rings.attribute_in Valid.is_cycle Stores.inserted Stores.with_own Stores.store_of Checks.number_at Checks.idns_at Checks.carried_len Checks.breaks_1 Checks.breaks_2 Checks.breaks_6 Checks.breaks_7 Checks.breaks_8 Checks.breaks_9 Checks.breaks_10 Checks.breaks_15 Checks.breaks_list Checks.breaks_89 Checks.unfit_for_phase_3 Checks.unfit_for_phase_4 Calls.with_check_list Replies.data_in Replies.element_words Replies.bytes_written Replies.write_cause ChainOf.chain_of LeastTimes.least_plan LeastTimes.least_t2 LeastTimes.least_t3 Heard.mst_in Heard.single_in Heard.joint_in Says.value_in
left_at_work = refl

left_waiting : left_after ring (write ∷ read ∷ []) (carried 1 lost) (restarts_at lost) (run 107) 0 ≡ Some 2 ∷ []
unfolding carried restarts_at acts Bits.bits_of Bits.low_bits Bits.is_odd Bits.number_of Bits.bytes_of CheckSequence.fcs_of CheckSequence.divided CheckSequence.added CheckSequence.sum_of Arrivals.content_in Arrivals.is_unseen Reason.begins_with_six Reason.is_five Reason.ends_in_five Reason.six_place Reason.unstuffed Reason.given Reason.unclosed Reason.unreadable Reason.reason_of Stuffed.stuffed Stuffed.frame_of Faults.mst_fault Faults.head_fault Spells.word_bytes Spells.word_at Spells.fields Words.control_of Words.status_of Codes.attribute_fault Attributes.attribute_of Blocks.element_of BuiltIns.built_in Rings.attribute_in Valid.is_cycle Stores.inserted Stores.with_own Stores.store_of Checks.number_at Checks.idns_at Checks.carried_len Checks.breaks_1 Checks.breaks_2 Checks.breaks_6 Checks.breaks_7 Checks.breaks_8 Checks.breaks_9 Checks.breaks_10 Checks.breaks_15 Checks.breaks_list Checks.breaks_89 Checks.unfit_for_phase_3 Checks.unfit_for_phase_4 Calls.with_check_list Replies.data_in Replies.element_words Replies.bytes_written Replies.write_cause ChainOf.chain_of LeastTimes.least_plan LeastTimes.least_t2 LeastTimes.least_t3 Heard.mst_in Heard.single_in Heard.joint_in Says.value_in
left_waiting = refl

none_left : left_after ring (write ∷ read ∷ []) (carried 1 lost) (restarts_at lost) (run 112) 0 ≡ []
unfolding carried restarts_at acts Bits.bits_of Bits.low_bits Bits.is_odd Bits.number_of Bits.bytes_of CheckSequence.fcs_of CheckSequence.divided CheckSequence.added CheckSequence.sum_of Arrivals.content_in Arrivals.is_unseen Reason.begins_with_six Reason.is_five Reason.ends_in_five Reason.six_place Reason.unstuffed Reason.given Reason.unclosed Reason.unreadable Reason.reason_of Stuffed.stuffed Stuffed.frame_of Faults.mst_fault Faults.head_fault Spells.word_bytes Spells.word_at Spells.fields Words.control_of Words.status_of Codes.attribute_fault Attributes.attribute_of Blocks.element_of BuiltIns.built_in Rings.attribute_in Valid.is_cycle Stores.inserted Stores.with_own Stores.store_of Checks.number_at Checks.idns_at Checks.carried_len Checks.breaks_1 Checks.breaks_2 Checks.breaks_6 Checks.breaks_7 Checks.breaks_8 Checks.breaks_9 Checks.breaks_10 Checks.breaks_15 Checks.breaks_list Checks.breaks_89 Checks.unfit_for_phase_3 Checks.unfit_for_phase_4 Calls.with_check_list Replies.data_in Replies.element_words Replies.bytes_written Replies.write_cause ChainOf.chain_of LeastTimes.least_plan LeastTimes.least_t2 LeastTimes.least_t3 Heard.mst_in Heard.single_in Heard.joint_in Says.value_in
none_left = refl

-- cycles that report another request only, or nothing, haven't reported it
abbrev only : CycleView → List ℕ → CycleView
only t [] = record t { events = record t.events { outcomes = [] } }
only t (n ∷ numbers) = record t { events = record t.events { outcomes = (n, outcome.Broken) ∷ [] } }

told_nothing : (t : CycleView) → HaveTold (only t [] ∷ []) 2 → ⊥
told_nothing t (inl has) = has.1
told_nothing t (inr none) = none

told_other : (t : CycleView) → HaveTold (only t (1 ∷ []) ∷ []) 2 → ⊥
told_other t (inl (o, inl same)) = let wrong : 1 ≡ 2 = same.0 in absurd (omega (arith, wrong))
told_other t (inl (o, inr none)) = none
told_other t (inr none) = none

-- a cycle with a fall, or a broken request, isn't one that tells none
fall_is_rejected : (t : CycleView) → TellsNoFall (record t { events = record t.events { fall = Some fall.MstLost } }) → ⊥
fall_is_rejected t is = let none : Some fall.MstLost ≡ None = is.fall in cc

broken_is_rejected : (t : CycleView) → TellsNoFall (only t (1 ∷ [])) → ⊥
broken_is_rejected t is = is.unbroken 1 (inl (refl, refl))

-- From the sooner bound on, a cycle of phase 3 is rejected if the ring is right; and one with a fall, once the ring has had its time to fall.
sooner_phase_is_rejected : (t last : CycleView) (cycles before : List CycleView)
    → ReturnsIn ring [] (carried 1 lost) (restarts_at lost) (record t { phase = 3 }) (cycles ++ last ∷ before)
    → AreUndisturbed ring (carried 1 lost) (restarts_at lost) (record t { phase = 3 } ∷ cycles) (last ∷ before)
    → length before + return_cycles ring ≤ length (cycles ++ last ∷ before) → IsRight ring → ⊥
sooner_phase_is_rejected t last cycles before is calm long right =
    let same : 3 ≡ 4 = is.rises cycles before last refl calm long right in omega (arith, same)

sooner_fall_is_rejected : (t last : CycleView) (cycles before : List CycleView)
    → ReturnsIn ring [] (carried 1 lost) (restarts_at lost) (record t { events = record t.events { fall = Some fall.MstLost } })
    (cycles ++ last ∷ before)
    → AreUndisturbed ring (carried 1 lost) (restarts_at lost) (record t { events = record t.events { fall = Some fall.MstLost } } ∷ cycles)
    (last ∷ before) → length before + fall_cycles ring ≤ length (cycles ++ last ∷ before) → ⊥
sooner_fall_is_rejected t last cycles before is calm long =
    let none : Some fall.MstLost ≡ None = (is.tells cycles before last refl calm long).fall in cc
