-- A worked run in which each request ends once, and altered journals in which one doesn't, computed from the definitions.
use Rattle.sercos_law_run.proofs.Words.{◌≡◌, inl, inr, ℕ, ◌+◌, ◌==◌, Bool, true, false, List, [], ◌∷◌, ◌++◌, refl, sym, ◌∙◌, ap, subst, arith, flat_map, list_any, nat_le, not, ◌&&◌, and_parts, false≢true, nat_tests, Outcome, Lose, Fault, CycleView, run_of, HasOutcome, AreOnce, HasEnded, NumbersAscend, carried, restarts_at, acts, cases_Bool}
use Rattle.sercos_telegram.specs.declared.layout.Kind.TheVariants as kinds
use Rattle.sercos_step.specs.declared.request.Outcome.TheVariants as outcome
use Rattle.sercos_law_run.proofs.Journal.Worked.{ring, fault, write, read}
use Rattle.sercos_law_run.specs.Journal.Arrivals as Arrivals
use Rattle.sercos_model.specs.Bits as Bits
use Rattle.sercos_model.specs.CheckSequence as CheckSequence
use Rattle.sercos_hdlc.specs.Reason as Reason
use Rattle.sercos_hdlc.specs.Stuffed as Stuffed
use Rattle.sercos_telegram.specs.Faults as Faults
use Rattle.sercos_telegram.specs.Spells as Spells
use Rattle.sercos_telegram.specs.Words as Words
use Rattle.sercos_idn.specs.Codes as Codes
use Rattle.sercos_idn.specs.Attributes as Attributes
use Rattle.sercos_block.specs.Blocks as Blocks
use Rattle.sercos_block.specs.BuiltIns as BuiltIns
use Rattle.sercos_timing.specs.Valid as Valid
use Rattle.sercos_block.specs.Rings as Rings
use Rattle.sercos_block.specs.Stores as Stores
use Rattle.sercos_command.specs.Checks as Checks
use Rattle.sercos_command.specs.Calls as Calls
use Rattle.sercos_service_drive.specs.Replies as Replies
use Rattle.sercos_plan.specs.ChainOf as ChainOf
use Rattle.sercos_plan.specs.LeastTimes as LeastTimes
use Rattle.sercos_drive.specs.Heard as Heard
use Rattle.sercos_drive.specs.Says as Says

-- the tests for the definitions
abbrev ends_in : ℕ → CycleView → Bool
ends_in number t = list_any (λ x. x.0 == number) t.events.outcomes

in_outcomes : (number : ℕ) (o : Outcome) (outcomes : List (ℕ × Outcome)) → HasOutcome outcomes number o → list_any (λ x. x.0 == number) outcomes ≡ true
in_outcomes number o [] none = absurd none
in_outcomes number o (x ∷ outcomes) (inl (is, same)) = let here : (x.0 == number) ≡ true = grind (arith, nat_tests, is) in rw here refl
in_outcomes number o (x ∷ outcomes) (inr has) =
    elim (cases_Bool (x.0 == number)) [ inl on ↦ rw on | inr off ↦ rw off (in_outcomes number o outcomes has) ]

in_journal : (number : ℕ) (j : List CycleView) → HasEnded number j → list_any (ends_in number) j ≡ true
in_journal number [] none = absurd none
in_journal number (t ∷ j) (inl (o, has)) = let here = in_outcomes number o t.events.outcomes has in rw here refl
in_journal number (t ∷ j) (inr before) =
    elim (cases_Bool (ends_in number t)) [ inl on ↦ rw on | inr off ↦ rw off (in_journal number j before) ]

out_of : (number : ℕ) (outcomes : List (ℕ × Outcome)) → list_any (λ x. x.0 == number) outcomes ≡ true → (o : Outcome) × HasOutcome outcomes number o
out_of number [] any = absurd (cc)
out_of number (x ∷ outcomes) any = elim (cases_Bool (x.0 == number)) [
  | inl is ↦ let any = rw is at any in let rest = out_of number outcomes in (x.1, inl ((grind (arith, nat_tests, is)), refl))
  | inr is ↦ let (o, has) = out_of number outcomes (rw is at any) in (o, inr has)
]

out_of_journal : (number : ℕ) (j : List CycleView) → list_any (ends_in number) j ≡ true → HasEnded number j
out_of_journal number [] any = absurd (cc)
out_of_journal number (t ∷ j) any = elim (cases_Bool (ends_in number t)) [
  | inl is ↦ inl (out_of number t.events.outcomes is)
  | inr is ↦ inr (out_of_journal number j (rw is at any))
]

abbrev IsOnce : List CycleView → Type 0
IsOnce [] = Unit {0}
IsOnce (t ∷ j) = AreOnce t j

abbrev ascend : ℕ → List (ℕ × Outcome) → Bool
ascend i [] = true
ascend i (x ∷ outcomes) = nat_le i x.0 && ascend (x.0 + 1) outcomes

abbrev are_new : List (ℕ × Outcome) → List CycleView → Bool
are_new [] j = true
are_new (x ∷ outcomes) j = not (list_any (ends_in x.0) j) && are_new outcomes j

abbrev is_once : List CycleView → Bool
is_once [] = true
is_once (t ∷ j) = ascend 1 t.events.outcomes && are_new t.events.outcomes j

both : {a b : Bool} → a ≡ true → b ≡ true → (a && b) ≡ true
both e f = rw (e, f) refl

ascend_so : (i : ℕ) (outcomes : List (ℕ × Outcome)) → ascend i outcomes ≡ true → NumbersAscend i outcomes
ascend_so i [] e = tt
ascend_so i (x ∷ outcomes) e = let (low, rest) = and_parts (nat_le i x.0) (ascend (x.0 + 1) outcomes) e in ((grind (arith, nat_tests, low)), ascend_so (x.0 + 1) outcomes rest)

ascend_test : (i : ℕ) (outcomes : List (ℕ × Outcome)) → NumbersAscend i outcomes → ascend i outcomes ≡ true
ascend_test i [] up = refl
ascend_test i (x ∷ outcomes) (low, up) = let first : nat_le i x.0 ≡ true = grind (arith, nat_tests, low) in both first (ascend_test (x.0 + 1) outcomes up)

new_so : (outcomes : List (ℕ × Outcome)) (j : List CycleView) → are_new outcomes j ≡ true → (number : ℕ) (o : Outcome) → HasOutcome outcomes number o → list_any (ends_in number) j ≡ true → ⊥
new_so [] j e number o none any = none
new_so (x ∷ outcomes) j e number o (inl is) any =
    let first = (and_parts (not (list_any (ends_in x.0) j)) (are_new outcomes j) e).0 in
    false≢true (sym (ap not (subst (λ m. list_any (ends_in m) j ≡ true) (sym is.0) any)) ∙ first)
new_so (x ∷ outcomes) j e number o (inr has) any = new_so outcomes j (and_parts (not (list_any (ends_in x.0) j)) (are_new outcomes j) e).1 number o has any

new_test : (outcomes : List (ℕ × Outcome)) (j : List CycleView) → ((number : ℕ) (o : Outcome) → HasOutcome outcomes number o → list_any (ends_in number) j ≡ true → ⊥) → are_new outcomes j ≡ true
new_test [] j new = refl
new_test (x ∷ outcomes) j new = elim (cases_Bool (list_any (ends_in x.0) j)) [
  | inl is ↦ absurd (new x.0 x.1 (inl (refl, refl)) is)
  | inr is ↦ rw is (new_test outcomes j (λ number o has. new number o (inr has)))
]

once_so : (j : List CycleView) → is_once j ≡ true → IsOnce j
once_so [] e = tt
once_so (t ∷ j) e =
    let (up, new) = and_parts (ascend 1 t.events.outcomes) (are_new t.events.outcomes j) e in
    record { ascend = ascend_so 1 t.events.outcomes up; new = λ number ended before. new_so t.events.outcomes j new number ended.0 ended.1 (in_journal number j before) }

not_once : (j : List CycleView) → is_once j ≡ false → IsOnce j → ⊥
not_once [] e is = cc
not_once (t ∷ j) e is =
    false≢true (sym e ∙ both (ascend_test 1 t.events.outcomes is.ascend) (new_test t.events.outcomes j (λ number o has any. is.new number (o, has) (out_of_journal number j any))))

-- The AT of one cycle is lost. Request 1 is complete in cycle 106, and request 2 in cycle 111.
abbrev lost : List Fault
lost = fault 105 105 kinds.At 1 (Lose 1) ∷ []

abbrev run : ℕ → List CycleView
run n = run_of ring (write ∷ read ∷ []) (carried 1 lost) (restarts_at lost) n

abbrev ended : List CycleView → List (ℕ × ℕ)
ended [] = []
ended (t ∷ j) = flat_map (λ x. (t.cycle, x.0) ∷ []) t.events.outcomes ++ ended j

run_ended : ended (run 113) ≡ (111, 2) ∷ (106, 1) ∷ []
unfolding carried restarts_at acts Bits.bits_of Bits.low_bits Bits.is_odd Bits.number_of Bits.bytes_of CheckSequence.fcs_of CheckSequence.divided CheckSequence.added CheckSequence.sum_of Arrivals.content_in Arrivals.is_unseen Reason.begins_with_six Reason.is_five Reason.ends_in_five Reason.six_place Reason.unstuffed Reason.given Reason.unclosed Reason.unreadable Reason.reason_of Stuffed.stuffed Stuffed.frame_of Faults.mst_fault Faults.head_fault Spells.word_bytes Spells.word_at Spells.fields Words.control_of Words.status_of Codes.attribute_fault Attributes.attribute_of Blocks.element_of BuiltIns.built_in Rings.attribute_in Valid.is_cycle Stores.inserted Stores.with_own Stores.store_of Checks.number_at Checks.idns_at Checks.carried_len Checks.breaks_1 Checks.breaks_2 Checks.breaks_6 Checks.breaks_7 Checks.breaks_8 Checks.breaks_9 Checks.breaks_10 Checks.breaks_15 Checks.breaks_list Checks.breaks_89 Checks.unfit_for_phase_3 Checks.unfit_for_phase_4 Calls.with_check_list Replies.data_in Replies.element_words Replies.bytes_written Replies.write_cause ChainOf.chain_of LeastTimes.least_plan LeastTimes.least_t2 LeastTimes.least_t3 Heard.mst_in Heard.single_in Heard.joint_in Says.value_in
run_ended = refl

once : is_once (run 112) ≡ true
unfolding carried restarts_at acts Bits.bits_of Bits.low_bits Bits.is_odd Bits.number_of Bits.bytes_of CheckSequence.fcs_of CheckSequence.divided CheckSequence.added CheckSequence.sum_of Arrivals.content_in Arrivals.is_unseen Reason.begins_with_six Reason.is_five Reason.ends_in_five Reason.six_place Reason.unstuffed Reason.given Reason.unclosed Reason.unreadable Reason.reason_of Stuffed.stuffed Stuffed.frame_of Faults.mst_fault Faults.head_fault Spells.word_bytes Spells.word_at Spells.fields Words.control_of Words.status_of Codes.attribute_fault Attributes.attribute_of Blocks.element_of BuiltIns.built_in Rings.attribute_in Valid.is_cycle Stores.inserted Stores.with_own Stores.store_of Checks.number_at Checks.idns_at Checks.carried_len Checks.breaks_1 Checks.breaks_2 Checks.breaks_6 Checks.breaks_7 Checks.breaks_8 Checks.breaks_9 Checks.breaks_10 Checks.breaks_15 Checks.breaks_list Checks.breaks_89 Checks.unfit_for_phase_3 Checks.unfit_for_phase_4 Calls.with_check_list Replies.data_in Replies.element_words Replies.bytes_written Replies.write_cause ChainOf.chain_of LeastTimes.least_plan LeastTimes.least_t2 LeastTimes.least_t3 Heard.mst_in Heard.single_in Heard.joint_in Says.value_in
once = refl

run_is_once : IsOnce (run 112)
run_is_once = once_so (run 112) once

-- the same journal, but with other outcomes in its last cycle: request 1 ends again; request 2 ends twice
abbrev with_outcomes : List (ℕ × Outcome) → List CycleView → List CycleView
with_outcomes outcomes [] = []
with_outcomes outcomes (t ∷ j) = record t { events = record t.events { outcomes = outcomes } } ∷ j

again : is_once (with_outcomes ((1, outcome.Broken) ∷ (2, outcome.Broken) ∷ []) (run 112)) ≡ false
unfolding carried restarts_at acts Bits.bits_of Bits.low_bits Bits.is_odd Bits.number_of Bits.bytes_of CheckSequence.fcs_of CheckSequence.divided CheckSequence.added CheckSequence.sum_of Arrivals.content_in Arrivals.is_unseen Reason.begins_with_six Reason.is_five Reason.ends_in_five Reason.six_place Reason.unstuffed Reason.given Reason.unclosed Reason.unreadable Reason.reason_of Stuffed.stuffed Stuffed.frame_of Faults.mst_fault Faults.head_fault Spells.word_bytes Spells.word_at Spells.fields Words.control_of Words.status_of Codes.attribute_fault Attributes.attribute_of Blocks.element_of BuiltIns.built_in Rings.attribute_in Valid.is_cycle Stores.inserted Stores.with_own Stores.store_of Checks.number_at Checks.idns_at Checks.carried_len Checks.breaks_1 Checks.breaks_2 Checks.breaks_6 Checks.breaks_7 Checks.breaks_8 Checks.breaks_9 Checks.breaks_10 Checks.breaks_15 Checks.breaks_list Checks.breaks_89 Checks.unfit_for_phase_3 Checks.unfit_for_phase_4 Calls.with_check_list Replies.data_in Replies.element_words Replies.bytes_written Replies.write_cause ChainOf.chain_of LeastTimes.least_plan LeastTimes.least_t2 LeastTimes.least_t3 Heard.mst_in Heard.single_in Heard.joint_in Says.value_in
again = refl

again_is_rejected : IsOnce (with_outcomes ((1, outcome.Broken) ∷ (2, outcome.Broken) ∷ []) (run 112)) → ⊥
again_is_rejected = not_once (with_outcomes ((1, outcome.Broken) ∷ (2, outcome.Broken) ∷ []) (run 112)) again

twice : is_once (with_outcomes ((2, outcome.Broken) ∷ (2, outcome.Broken) ∷ []) (run 112)) ≡ false
unfolding carried restarts_at acts Bits.bits_of Bits.low_bits Bits.is_odd Bits.number_of Bits.bytes_of CheckSequence.fcs_of CheckSequence.divided CheckSequence.added CheckSequence.sum_of Arrivals.content_in Arrivals.is_unseen Reason.begins_with_six Reason.is_five Reason.ends_in_five Reason.six_place Reason.unstuffed Reason.given Reason.unclosed Reason.unreadable Reason.reason_of Stuffed.stuffed Stuffed.frame_of Faults.mst_fault Faults.head_fault Spells.word_bytes Spells.word_at Spells.fields Words.control_of Words.status_of Codes.attribute_fault Attributes.attribute_of Blocks.element_of BuiltIns.built_in Rings.attribute_in Valid.is_cycle Stores.inserted Stores.with_own Stores.store_of Checks.number_at Checks.idns_at Checks.carried_len Checks.breaks_1 Checks.breaks_2 Checks.breaks_6 Checks.breaks_7 Checks.breaks_8 Checks.breaks_9 Checks.breaks_10 Checks.breaks_15 Checks.breaks_list Checks.breaks_89 Checks.unfit_for_phase_3 Checks.unfit_for_phase_4 Calls.with_check_list Replies.data_in Replies.element_words Replies.bytes_written Replies.write_cause ChainOf.chain_of LeastTimes.least_plan LeastTimes.least_t2 LeastTimes.least_t3 Heard.mst_in Heard.single_in Heard.joint_in Says.value_in
twice = refl

twice_is_rejected : IsOnce (with_outcomes ((2, outcome.Broken) ∷ (2, outcome.Broken) ∷ []) (run 112)) → ⊥
twice_is_rejected = not_once (with_outcomes ((2, outcome.Broken) ∷ (2, outcome.Broken) ∷ []) (run 112)) twice
