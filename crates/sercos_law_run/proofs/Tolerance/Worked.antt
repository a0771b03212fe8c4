-- Worked runs whose disturbed cycles are sparse, and some whose are not, computed from the definitions.
use Rattle.sercos_law_run.proofs.Words.{◌≡◌, inl, inr, ℕ, true, List, [], ◌∷◌, ◌++◌, length, ◌+◌, ◌≤◌, Option, Some, None, refl, sym, ◌∙◌, if◌then◌else◌, arith, false≢true, Kind, Deaf, Fault, startup_bound, CycleView, Fall, recovery_bound, is_disturbed_in, run_of, IsDisturbed, left_after, IsRight, IsUpOrStopped, own_costs, slow_bound, cycles_commanded, HasFallen, ReturnsSparse, start_costs, AreSparse, IsSparse, Stop, StandsAt, carried, restarts_at, acts}
use Rattle.sercos_telegram.specs.declared.layout.Kind.TheVariants as kinds
use Rattle.sercos_trace.specs.declared.events.Fall.TheVariants as fall
use Rattle.sercos_law_run.proofs.Journal.Worked.{fault, read, ring}
use Rattle.sercos_law_run.specs.Journal.Arrivals as Arrivals
use Rattle.sercos_model.specs.Bits as Bits
use Rattle.sercos_model.specs.CheckSequence as CheckSequence
use Rattle.sercos_hdlc.specs.Reason as Reason
use Rattle.sercos_hdlc.specs.Stuffed as Stuffed
use Rattle.sercos_telegram.specs.Faults as Faults
use Rattle.sercos_telegram.specs.Spells as Spells
use Rattle.sercos_telegram.specs.Words as Words
use Rattle.sercos_idn.specs.Codes as Codes
use Rattle.sercos_idn.specs.Attributes as Attributes
use Rattle.sercos_block.specs.Blocks as Blocks
use Rattle.sercos_block.specs.BuiltIns as BuiltIns
use Rattle.sercos_timing.specs.Valid as Valid
use Rattle.sercos_block.specs.Rings as Rings
use Rattle.sercos_block.specs.Stores as Stores
use Rattle.sercos_command.specs.Checks as Checks
use Rattle.sercos_command.specs.Calls as Calls
use Rattle.sercos_service_drive.specs.Replies as Replies
use Rattle.sercos_plan.specs.ChainOf as ChainOf
use Rattle.sercos_plan.specs.LeastTimes as LeastTimes
use Rattle.sercos_drive.specs.Heard as Heard
use Rattle.sercos_drive.specs.Says as Says

-- What a run shows, the newest first: which cycles are disturbed, and which falls are reported.
abbrev disturbed : List Fault → List CycleView → List ℕ
disturbed faults [] = []
disturbed faults (t ∷ j) = if is_disturbed_in ring (carried 1 faults) (restarts_at faults) (length j) t.sent then t.cycle ∷ disturbed faults
    j else disturbed faults j

abbrev with_fall : ℕ → Option Fall → List (ℕ × Fall) → List (ℕ × Fall)
with_fall cycle None others = others
with_fall cycle (Some f) others = (cycle, f) ∷ others

abbrev falls : List CycleView → List (ℕ × Fall)
falls [] = []
falls (t ∷ j) = with_fall t.cycle t.events.fall (falls j)

abbrev run : List Fault → ℕ → List CycleView
run faults n = run_of ring [] (carried 1 faults) (restarts_at faults) n

abbrev shows : List Fault → ℕ → List ℕ × List (ℕ × Fall)
shows faults n = (disturbed faults (run faults n), falls (run faults n))

-- a station misses a telegram in one cycle
abbrev misses : ℕ → Kind → ℕ → ℕ → Fault
misses cycle kind from station = fault cycle cycle kind from (Deaf station)

-- SPARSE. In phase 2 the drive misses the MST in 13 and its AT is lost in 16. In phase 4 the AT is lost in 105, the MDT in 107, and in 109
-- the own MST.
abbrev sparse : List Fault
sparse = misses 13 kinds.Mst 0 1 ∷ misses 16 kinds.At 1 0 ∷ misses 105 kinds.At 1 0 ∷ misses 107 kinds.Mdt 0 1 ∷ misses 109 kinds.Mst 0 0 ∷
    []

sparse_is_borne : shows sparse 114 ≡ (109 ∷ 107 ∷ 105 ∷ 16 ∷ 13 ∷ [], [])
unfolding carried restarts_at acts Bits.bits_of Bits.low_bits Bits.is_odd Bits.number_of Bits.bytes_of CheckSequence.fcs_of CheckSequence.divided CheckSequence.added CheckSequence.sum_of Arrivals.content_in Arrivals.is_unseen Reason.begins_with_six Reason.is_five Reason.ends_in_five Reason.six_place Reason.unstuffed Reason.given Reason.unclosed Reason.unreadable Reason.reason_of Stuffed.stuffed Stuffed.frame_of Faults.mst_fault Faults.head_fault Spells.word_bytes Spells.word_at Spells.fields Words.control_of Words.status_of Codes.attribute_fault Attributes.attribute_of Blocks.element_of BuiltIns.built_in Rings.attribute_in Valid.is_cycle Stores.inserted Stores.with_own Stores.store_of Checks.number_at Checks.idns_at Checks.carried_len Checks.breaks_1 Checks.breaks_2 Checks.breaks_6 Checks.breaks_7 Checks.breaks_8 Checks.breaks_9 Checks.breaks_10 Checks.breaks_15 Checks.breaks_list Checks.breaks_89 Checks.unfit_for_phase_3 Checks.unfit_for_phase_4 Calls.with_check_list Replies.data_in Replies.element_words Replies.bytes_written Replies.write_cause ChainOf.chain_of LeastTimes.least_plan LeastTimes.least_t2 LeastTimes.least_t3 Heard.mst_in Heard.single_in Heard.joint_in Says.value_in
sparse_is_borne = refl

-- NOT SPARSE. Where two cycles in a row lose the AT in phase 4, the ring falls in the second.
abbrev twice : List Fault
twice = misses 105 kinds.At 1 0 ∷ misses 106 kinds.At 1 0 ∷ []

twice_falls : shows twice 107 ≡ (106 ∷ 105 ∷ [], (106, fall.AtLost 1) ∷ [])
unfolding carried restarts_at acts Bits.bits_of Bits.low_bits Bits.is_odd Bits.number_of Bits.bytes_of CheckSequence.fcs_of CheckSequence.divided CheckSequence.added CheckSequence.sum_of Arrivals.content_in Arrivals.is_unseen Reason.begins_with_six Reason.is_five Reason.ends_in_five Reason.six_place Reason.unstuffed Reason.given Reason.unclosed Reason.unreadable Reason.reason_of Stuffed.stuffed Stuffed.frame_of Faults.mst_fault Faults.head_fault Spells.word_bytes Spells.word_at Spells.fields Words.control_of Words.status_of Codes.attribute_fault Attributes.attribute_of Blocks.element_of BuiltIns.built_in Rings.attribute_in Valid.is_cycle Stores.inserted Stores.with_own Stores.store_of Checks.number_at Checks.idns_at Checks.carried_len Checks.breaks_1 Checks.breaks_2 Checks.breaks_6 Checks.breaks_7 Checks.breaks_8 Checks.breaks_9 Checks.breaks_10 Checks.breaks_15 Checks.breaks_list Checks.breaks_89 Checks.unfit_for_phase_3 Checks.unfit_for_phase_4 Calls.with_check_list Replies.data_in Replies.element_words Replies.bytes_written Replies.write_cause ChainOf.chain_of LeastTimes.least_plan LeastTimes.least_t2 LeastTimes.least_t3 Heard.mst_in Heard.single_in Heard.joint_in Says.value_in
twice_falls = refl

-- Where each second cycle from phase 1 on loses the MST at the drive, a step isn't answered.
abbrev each_second : List Fault
each_second = (record { cycle = 13; last = 80; every = 2; kind = kinds.Mst; from = 0; damage = Deaf 1 }) ∷ []

each_second_falls : falls (run each_second 80) ≡ (76, fall.StepLimit 1) ∷ []
unfolding carried restarts_at acts Bits.bits_of Bits.low_bits Bits.is_odd Bits.number_of Bits.bytes_of CheckSequence.fcs_of CheckSequence.divided CheckSequence.added CheckSequence.sum_of Arrivals.content_in Arrivals.is_unseen Reason.begins_with_six Reason.is_five Reason.ends_in_five Reason.six_place Reason.unstuffed Reason.given Reason.unclosed Reason.unreadable Reason.reason_of Stuffed.stuffed Stuffed.frame_of Faults.mst_fault Faults.head_fault Spells.word_bytes Spells.word_at Spells.fields Words.control_of Words.status_of Codes.attribute_fault Attributes.attribute_of Blocks.element_of BuiltIns.built_in Rings.attribute_in Valid.is_cycle Stores.inserted Stores.with_own Stores.store_of Checks.number_at Checks.idns_at Checks.carried_len Checks.breaks_1 Checks.breaks_2 Checks.breaks_6 Checks.breaks_7 Checks.breaks_8 Checks.breaks_9 Checks.breaks_10 Checks.breaks_15 Checks.breaks_list Checks.breaks_89 Checks.unfit_for_phase_3 Checks.unfit_for_phase_4 Calls.with_check_list Replies.data_in Replies.element_words Replies.bytes_written Replies.write_cause ChainOf.chain_of LeastTimes.least_plan LeastTimes.least_t2 LeastTimes.least_t3 Heard.mst_in Heard.single_in Heard.joint_in Says.value_in
each_second_falls = refl

-- The second cycle of two in a row isn't sparse in phases 3 and 4.
twice_is_not_sparse : (t u : CycleView) (j : List CycleView) → is_disturbed_in ring (carried 1 twice) (restarts_at twice) (length (u ∷ j))
    t.sent ≡ true → is_disturbed_in ring (carried 1 twice) (restarts_at twice) (length j) u.sent ≡ true
    → t.phase ≡ 4 → IsSparse ring (carried 1 twice) (restarts_at twice) t (u ∷ j) → ⊥
twice_is_not_sparse t u j now before four is = false≢true (sym (is.late now (omega (arith, four))).1 ∙ before)

-- THE CYCLES OF PHASE 4 of the first run: it begins in 103, three cycles later than without faults.
sparse_in_four : cycles_commanded 4 (run sparse 114) ≡ 11
unfolding carried restarts_at acts Bits.bits_of Bits.low_bits Bits.is_odd Bits.number_of Bits.bytes_of CheckSequence.fcs_of CheckSequence.divided CheckSequence.added CheckSequence.sum_of Arrivals.content_in Arrivals.is_unseen Reason.begins_with_six Reason.is_five Reason.ends_in_five Reason.six_place Reason.unstuffed Reason.given Reason.unclosed Reason.unreadable Reason.reason_of Stuffed.stuffed Stuffed.frame_of Faults.mst_fault Faults.head_fault Spells.word_bytes Spells.word_at Spells.fields Words.control_of Words.status_of Codes.attribute_fault Attributes.attribute_of Blocks.element_of BuiltIns.built_in Rings.attribute_in Valid.is_cycle Stores.inserted Stores.with_own Stores.store_of Checks.number_at Checks.idns_at Checks.carried_len Checks.breaks_1 Checks.breaks_2 Checks.breaks_6 Checks.breaks_7 Checks.breaks_8 Checks.breaks_9 Checks.breaks_10 Checks.breaks_15 Checks.breaks_list Checks.breaks_89 Checks.unfit_for_phase_3 Checks.unfit_for_phase_4 Calls.with_check_list Replies.data_in Replies.element_words Replies.bytes_written Replies.write_cause ChainOf.chain_of LeastTimes.least_plan LeastTimes.least_t2 LeastTimes.least_t3 Heard.mst_in Heard.single_in Heard.joint_in Says.value_in
sparse_in_four = refl

-- A REQUEST. Phase 4 begins in 100, and the drive misses the MDT in 101, 103 and each second cycle from there on. After nine cycles of
-- phase 4 the read isn't reported, so no such number of cycles is enough for it; after ten it is.
abbrev each_mdt : List Fault
each_mdt = (record { cycle = 101; last = 200; every = 2; kind = kinds.Mdt; from = 0; damage = Deaf 1 }) ∷ []

abbrev requested : ℕ → List CycleView
requested n = run_of ring (read ∷ []) (carried 1 each_mdt) (restarts_at each_mdt) n

abbrev left : ℕ → ℕ × List (Option ℕ)
left n = (cycles_commanded 4 (requested n), left_after ring (read ∷ []) (carried 1 each_mdt) (restarts_at each_mdt) (requested n) 0)

still_left : left 109 ≡ (9, Some 1 ∷ [])
unfolding carried restarts_at acts Bits.bits_of Bits.low_bits Bits.is_odd Bits.number_of Bits.bytes_of CheckSequence.fcs_of CheckSequence.divided CheckSequence.added CheckSequence.sum_of Arrivals.content_in Arrivals.is_unseen Reason.begins_with_six Reason.is_five Reason.ends_in_five Reason.six_place Reason.unstuffed Reason.given Reason.unclosed Reason.unreadable Reason.reason_of Stuffed.stuffed Stuffed.frame_of Faults.mst_fault Faults.head_fault Spells.word_bytes Spells.word_at Spells.fields Words.control_of Words.status_of Codes.attribute_fault Attributes.attribute_of Blocks.element_of BuiltIns.built_in Rings.attribute_in Valid.is_cycle Stores.inserted Stores.with_own Stores.store_of Checks.number_at Checks.idns_at Checks.carried_len Checks.breaks_1 Checks.breaks_2 Checks.breaks_6 Checks.breaks_7 Checks.breaks_8 Checks.breaks_9 Checks.breaks_10 Checks.breaks_15 Checks.breaks_list Checks.breaks_89 Checks.unfit_for_phase_3 Checks.unfit_for_phase_4 Calls.with_check_list Replies.data_in Replies.element_words Replies.bytes_written Replies.write_cause ChainOf.chain_of LeastTimes.least_plan LeastTimes.least_t2 LeastTimes.least_t3 Heard.mst_in Heard.single_in Heard.joint_in Says.value_in
still_left = refl

told_then : left 110 ≡ (10, [])
unfolding carried restarts_at acts Bits.bits_of Bits.low_bits Bits.is_odd Bits.number_of Bits.bytes_of CheckSequence.fcs_of CheckSequence.divided CheckSequence.added CheckSequence.sum_of Arrivals.content_in Arrivals.is_unseen Reason.begins_with_six Reason.is_five Reason.ends_in_five Reason.six_place Reason.unstuffed Reason.given Reason.unclosed Reason.unreadable Reason.reason_of Stuffed.stuffed Stuffed.frame_of Faults.mst_fault Faults.head_fault Spells.word_bytes Spells.word_at Spells.fields Words.control_of Words.status_of Codes.attribute_fault Attributes.attribute_of Blocks.element_of BuiltIns.built_in Rings.attribute_in Valid.is_cycle Stores.inserted Stores.with_own Stores.store_of Checks.number_at Checks.idns_at Checks.carried_len Checks.breaks_1 Checks.breaks_2 Checks.breaks_6 Checks.breaks_7 Checks.breaks_8 Checks.breaks_9 Checks.breaks_10 Checks.breaks_15 Checks.breaks_list Checks.breaks_89 Checks.unfit_for_phase_3 Checks.unfit_for_phase_4 Calls.with_check_list Replies.data_in Replies.element_words Replies.bytes_written Replies.write_cause ChainOf.chain_of LeastTimes.least_plan LeastTimes.least_t2 LeastTimes.least_t3 Heard.mst_in Heard.single_in Heard.joint_in Says.value_in
told_then = refl

-- AN END. A cycle of phase 3 without a stop isn't one.
abbrev in_three : CycleView → CycleView
in_three t = record t { phase = 3; events = record t.events { stop = None } }

three_is_no_end : (t : CycleView) → IsUpOrStopped ring (in_three t) [] → ⊥
three_is_no_end t (inl (four, right)) = absurd (omega (arith, four))
three_is_no_end t (inr (x, inl told, cause)) = cc
three_is_no_end t (inr (x, inr none, cause)) = none

-- HOWEVER MANY. Where the drive misses the MST in 11, 14 and each third cycle from there on, phase 4 isn't commanded in any of the first
-- 202 cycles, the bound of a start-up. The bound with a busier drive is 292.
abbrev each_third : List Fault
each_third = (record { cycle = 11; last = 300; every = 3; kind = kinds.Mst; from = 0; damage = Deaf 1 }) ∷ []

abbrev own_lost : List Fault
own_lost = misses 9 kinds.Mst 0 0 ∷ misses 12 kinds.Mst 0 1 ∷ misses 15 kinds.Mst 0 1 ∷ []

abbrev bound_and_four : ℕ × ℕ
bound_and_four = (startup_bound ring, cycles_commanded 4 (run each_third 202))

third_is_late : bound_and_four ≡ (202, 0)
unfolding carried restarts_at acts Bits.bits_of Bits.low_bits Bits.is_odd Bits.number_of Bits.bytes_of CheckSequence.fcs_of CheckSequence.divided CheckSequence.added CheckSequence.sum_of Arrivals.content_in Arrivals.is_unseen Reason.begins_with_six Reason.is_five Reason.ends_in_five Reason.six_place Reason.unstuffed Reason.given Reason.unclosed Reason.unreadable Reason.reason_of Stuffed.stuffed Stuffed.frame_of Faults.mst_fault Faults.head_fault Spells.word_bytes Spells.word_at Spells.fields Words.control_of Words.status_of Codes.attribute_fault Attributes.attribute_of Blocks.element_of BuiltIns.built_in Rings.attribute_in Valid.is_cycle Stores.inserted Stores.with_own Stores.store_of Checks.number_at Checks.idns_at Checks.carried_len Checks.breaks_1 Checks.breaks_2 Checks.breaks_6 Checks.breaks_7 Checks.breaks_8 Checks.breaks_9 Checks.breaks_10 Checks.breaks_15 Checks.breaks_list Checks.breaks_89 Checks.unfit_for_phase_3 Checks.unfit_for_phase_4 Calls.with_check_list Replies.data_in Replies.element_words Replies.bytes_written Replies.write_cause ChainOf.chain_of LeastTimes.least_plan LeastTimes.least_t2 LeastTimes.least_t3 Heard.mst_in Heard.single_in Heard.joint_in Says.value_in
third_is_late = refl

slow_is : slow_bound ring ≡ 292
slow_is = refl

-- The own MST of cycle 9 costs ten cycles, and those that the drive misses from 11 on cost none.
own_is : own_costs ring [] (carried 1 own_lost) (restarts_at own_lost) (run own_lost 20) [] ≡ 10
unfolding carried restarts_at acts Bits.bits_of Bits.low_bits Bits.is_odd Bits.number_of Bits.bytes_of CheckSequence.fcs_of CheckSequence.divided CheckSequence.added CheckSequence.sum_of Arrivals.content_in Arrivals.is_unseen Reason.begins_with_six Reason.is_five Reason.ends_in_five Reason.six_place Reason.unstuffed Reason.given Reason.unclosed Reason.unreadable Reason.reason_of Stuffed.stuffed Stuffed.frame_of Faults.mst_fault Faults.head_fault Spells.word_bytes Spells.word_at Spells.fields Words.control_of Words.status_of Codes.attribute_fault Attributes.attribute_of Blocks.element_of BuiltIns.built_in Rings.attribute_in Valid.is_cycle Stores.inserted Stores.with_own Stores.store_of Checks.number_at Checks.idns_at Checks.carried_len Checks.breaks_1 Checks.breaks_2 Checks.breaks_6 Checks.breaks_7 Checks.breaks_8 Checks.breaks_9 Checks.breaks_10 Checks.breaks_15 Checks.breaks_list Checks.breaks_89 Checks.unfit_for_phase_3 Checks.unfit_for_phase_4 Calls.with_check_list Replies.data_in Replies.element_words Replies.bytes_written Replies.write_cause ChainOf.chain_of LeastTimes.least_plan LeastTimes.least_t2 LeastTimes.least_t3 Heard.mst_in Heard.single_in Heard.joint_in Says.value_in
own_is = refl

-- RETURNS. After such a fall, in 106, the drive misses the MST in each third cycle from 120 to 138, in phases 1 and 2: there is no second
-- fall, and phase 4 comes again.
abbrev again : List Fault
again = misses 105 kinds.At 1 0 ∷ misses 106 kinds.At 1 0 ∷
    record { cycle = 120; last = 138; every = 3; kind = kinds.Mst; from = 0; damage = Deaf 1 } ∷ []

abbrev newest_phase : List CycleView → ℕ
newest_phase [] = 0
newest_phase (t ∷ j) = t.phase

abbrev shows_newest : List Fault → ℕ → List (ℕ × Fall) × ℕ
shows_newest faults n = (falls (run faults n), newest_phase (run faults n))

returns_again : shows_newest again 225 ≡ ((106, fall.AtLost 1) ∷ [], 4)
unfolding carried restarts_at acts Bits.bits_of Bits.low_bits Bits.is_odd Bits.number_of Bits.bytes_of CheckSequence.fcs_of CheckSequence.divided CheckSequence.added CheckSequence.sum_of Arrivals.content_in Arrivals.is_unseen Reason.begins_with_six Reason.is_five Reason.ends_in_five Reason.six_place Reason.unstuffed Reason.given Reason.unclosed Reason.unreadable Reason.reason_of Stuffed.stuffed Stuffed.frame_of Faults.mst_fault Faults.head_fault Spells.word_bytes Spells.word_at Spells.fields Words.control_of Words.status_of Codes.attribute_fault Attributes.attribute_of Blocks.element_of BuiltIns.built_in Rings.attribute_in Valid.is_cycle Stores.inserted Stores.with_own Stores.store_of Checks.number_at Checks.idns_at Checks.carried_len Checks.breaks_1 Checks.breaks_2 Checks.breaks_6 Checks.breaks_7 Checks.breaks_8 Checks.breaks_9 Checks.breaks_10 Checks.breaks_15 Checks.breaks_list Checks.breaks_89 Checks.unfit_for_phase_3 Checks.unfit_for_phase_4 Calls.with_check_list Replies.data_in Replies.element_words Replies.bytes_written Replies.write_cause ChainOf.chain_of LeastTimes.least_plan LeastTimes.least_t2 LeastTimes.least_t3 Heard.mst_in Heard.single_in Heard.joint_in Says.value_in
returns_again = refl

-- A second fall after the last cycle that isn't sparse is rejected, and so is phase 3 from the bound on.
abbrev fallen : CycleView → CycleView
fallen t = record t { events = record t.events { fall = Some fall.MstLost } }

second_fall_is_rejected : (t lost : CycleView) (cycles before : List CycleView) → ReturnsSparse ring [] (carried 1 again)
    (restarts_at again)
    (fallen t) (cycles ++ lost ∷ before) → AreSparse ring (carried 1 again) (restarts_at again) (fallen t ∷ cycles) (lost ∷ before)
    → HasFallen cycles → ⊥
second_fall_is_rejected t lost cycles before is sparse fell =
    let none : Some fall.MstLost ≡ None = (is.once cycles before lost refl sparse fell).fall in cc

third_phase_is_rejected : (t lost : CycleView) (cycles before : List CycleView) → ReturnsSparse ring [] (carried 1 again)
    (restarts_at again)
    (record t { phase = 3 }) (cycles ++ lost ∷ before)
    → AreSparse ring (carried 1 again) (restarts_at again) (record t { phase = 3 } ∷ cycles) (lost ∷ before)
    → IsDisturbed ring (carried 1 again) (restarts_at again) lost before → IsRight ring
    → length before + recovery_bound ring + start_costs ring [] (carried 1 again) (restarts_at again) cycles (lost ∷ before)
    ≤ length (cycles ++ lost ∷ before) → ⊥
third_phase_is_rejected t lost cycles before is sparse disturbed right long =
    let same : 3 ≡ 4 = is.rises cycles before lost refl sparse disturbed right long in omega (arith, same)

stopless_is_rejected : (t lost : CycleView) (cycles before : List CycleView) → ReturnsSparse ring [] (carried 1 again) (restarts_at again)
    (record t { phase = 3 }) (cycles ++ lost ∷ before)
    → AreSparse ring (carried 1 again) (restarts_at again) (record t { phase = 3 } ∷ cycles) (lost ∷ before)
    → IsDisturbed ring (carried 1 again) (restarts_at again) lost before
    → length before + recovery_bound ring + start_costs ring [] (carried 1 again) (restarts_at again) cycles (lost ∷ before)
    ≤ length (cycles ++ lost ∷ before)
    → ((x : Stop) → StandsAt x (record t { phase = 3 } ∷ (cycles ++ lost ∷ before)) → ⊥) → ⊥
stopless_is_rejected t lost cycles before is sparse disturbed long never = elim (is.back cycles before lost refl sparse disturbed long) [
  | inl four ↦ (let same : 3 ≡ 4 = four.0 in omega (arith, same))
  | inr stop ↦ never stop.0 stop.1
]
