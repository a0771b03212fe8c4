-- A worked run with a lost AT, the first place at which the replay of its master differs, and altered places that are too early or after
-- its end, computed from the definitions.
use Rattle.std.proofs.Common.{◌≡◌, ℕ, ◌+◌, ◌≤◌, ◌==◌, nat_lt, nat_le, Bool, true, false, not, ◌&&◌, if◌then◌else◌, List, [], ◌∷◌, ◌++◌, length, Some, None, refl, sym, ◌∙◌, ap, arith}
use Rattle.std.specs.Prelude.{pos}
use Rattle.std.proofs.lemmas.Bool.{and_parts, false≢true}
use Rattle.std.proofs.lemmas.Bool.Decides.{nat_tests}
use Rattle.sercos_telegram.specs.declared.layout.Kind.TheVariants as telegram
use Rattle.sercos_block.specs.Views.{RingView}
use Rattle.sercos_trace.specs.Views.{CycleView}
use Rattle.sercos_seat.specs.Ring.{known_of}
use Rattle.sercos_drive.proofs.Worked.{drive}
use Rattle.sercos_script.specs.Links.{Carry, Restarts}
use Rattle.sercos_script.specs.declared.fault.Damage.TheVariants.{Lose}
use Rattle.sercos_script.specs.declared.fault.Fault.{Fault}
use Rattle.sercos_script.specs.Scripts.{carried, restarts_at, acts}
use Rattle.sercos_law_run.specs.Journal.Runs.{is_disturbed_in, run_of}
use Rattle.sercos_replay.specs.Captured.{lines_of, NeverDisturbed}
use Rattle.sercos_replay.specs.Cycles.{cycles_of}
use Rattle.sercos_replay.specs.Places.{PlaceView, telegram_at}
use Rattle.sercos_replay.specs.Differences.{master_differs}
use Rattle.sercos_replay.specs.Undisturbed.{IsNoEarlier}
use Rattle.sercos_law_run.specs.Journal.Arrivals as Arrivals
use Rattle.sercos_model.specs.Bits as Bits
use Rattle.sercos_model.specs.CheckSequence as CheckSequence
use Rattle.sercos_hdlc.specs.Reason as Reason
use Rattle.sercos_hdlc.specs.Stuffed as Stuffed
use Rattle.sercos_telegram.specs.Faults as Faults
use Rattle.sercos_telegram.specs.Spells as Spells
use Rattle.sercos_telegram.specs.Words as Words
use Rattle.sercos_idn.specs.Codes as Codes
use Rattle.sercos_idn.specs.Attributes as Attributes
use Rattle.sercos_block.specs.Blocks as Blocks
use Rattle.sercos_block.specs.BuiltIns as BuiltIns
use Rattle.sercos_timing.specs.Valid as Valid
use Rattle.sercos_block.specs.Rings as Rings
use Rattle.sercos_block.specs.Stores as Stores
use Rattle.sercos_command.specs.Checks as Checks
use Rattle.sercos_command.specs.Calls as Calls
use Rattle.sercos_service_drive.specs.Replies as Replies
use Rattle.sercos_plan.specs.ChainOf as ChainOf
use Rattle.sercos_plan.specs.LeastTimes as LeastTimes
use Rattle.sercos_drive.specs.Heard as Heard
use Rattle.sercos_drive.specs.Says as Says

-- the cycles before the first disturbed one, which are this many
record Calm (r : RingView) (carry : Carry) (restarts : Restarts) (j : List CycleView) (many : ℕ) : Type 0 where
  later : List CycleView
  earlier : List CycleView
  cut : j ≡ later ++ earlier
  calm : NeverDisturbed r carry restarts earlier
  long : many ≡ length earlier

-- A TEST for the definition: the number of a run's cycles before the first disturbed one is at most the place's cycle.
module _ (r : RingView) (carry : Carry) (restarts : Restarts) where
  abbrev is_calm : List CycleView → CycleView → Bool
  is_calm j t = not (is_disturbed_in r carry restarts (length j) t.sent)

  abbrev calm_cycles : List CycleView → ℕ
  calm_cycles [] = 0
  calm_cycles (t ∷ j) = if (calm_cycles j == length j) && is_calm j t then length j + 1 else calm_cycles j

  abbrev is_no_earlier : List CycleView → PlaceView → Bool
  is_no_earlier j p = nat_lt p.cycle (length j) && nat_le (calm_cycles j) p.cycle

  calm_so : (j : List CycleView) → NeverDisturbed r carry restarts j → calm_cycles j ≡ length j
  calm_so [] calm = refl
  calm_so (t ∷ j) calm =
      let before = calm_so j calm.0 in
      let same : (calm_cycles j == length j) ≡ true = grind (arith, nat_tests, before) in
      ap (λ (b : Bool). if b && is_calm j t then length j + 1 else calm_cycles j) same ∙ ap (λ (b : Bool). if not b then length j + 1 else calm_cycles j) calm.1 ∙ omega arith

  more : (t : CycleView) (j : List CycleView) → calm_cycles j ≤ calm_cycles (t ∷ j)
  more t j = by (calm_cycles j == length j) refl (is_calm j t)
    where
      by : (same : Bool) → (calm_cycles j == length j) ≡ same → (calm : Bool) → calm_cycles j ≤ (if same && calm then length j + 1 else calm_cycles j)
      by true is true = grind (arith, nat_tests, is)
      by true is false = omega arith
      by false is calm = omega arith

  at_least : (later earlier : List CycleView) → NeverDisturbed r carry restarts earlier → length earlier ≤ calm_cycles (later ++ earlier)
  at_least [] earlier calm = let same = calm_so earlier calm in omega (arith, same)
  at_least (t ∷ later) earlier calm = let before = at_least later earlier calm in let up = more t (later ++ earlier) in omega (arith, before, up)

  most : (j : List CycleView) → calm_cycles j ≤ length j
  most [] = omega arith
  most (t ∷ j) = by ((calm_cycles j == length j) && is_calm j t) (most j)
    where
      by : (b : Bool) → calm_cycles j ≤ length j → (if b then length j + 1 else calm_cycles j) ≤ length (t ∷ j)
      by true low = omega arith
      by false low = omega (arith, low)

  all_calm : (j : List CycleView) → calm_cycles j ≡ length j → NeverDisturbed r carry restarts j
  all_calm [] is = tt
  all_calm (t ∷ j) is = by (calm_cycles j == length j) refl (is_disturbed_in r carry restarts (length j) t.sent) refl is (most j) (all_calm j)
    where
      by : (same : Bool) → (calm_cycles j == length j) ≡ same → (b : Bool) → is_disturbed_in r carry restarts (length j) t.sent ≡ b → (if same && not b then length j + 1 else calm_cycles j) ≡ length (t ∷ j) → calm_cycles j ≤ length j
          → (calm_cycles j ≡ length j → NeverDisturbed r carry restarts j) → NeverDisturbed r carry restarts j × (is_disturbed_in r carry restarts (length j) t.sent ≡ false)
      by true e false f is low before = (before (grind (arith, nat_tests, e)), f)
      by true e true f is low before = absurd (omega (arith, is, low))
      by false e b f is low before = absurd (omega (arith, is, low))

  calm_of : (j : List CycleView) → Calm r carry restarts j (calm_cycles j)
  calm_of [] = record { later = []; earlier = []; cut = refl; calm = tt; long = refl }
  calm_of (t ∷ j) = by (calm_cycles j == length j) refl (is_disturbed_in r carry restarts (length j) t.sent) refl (calm_of j)
    where
      by : (same : Bool) → (calm_cycles j == length j) ≡ same → (b : Bool) → is_disturbed_in r carry restarts (length j) t.sent ≡ b → Calm r carry restarts j (calm_cycles j) → Calm r carry restarts (t ∷ j) (calm_cycles (t ∷ j))
      by true e false f before = record {
        later = [];
        earlier = t ∷ j;
        cut = refl;
        calm = (all_calm j (grind (arith, nat_tests, e)), f);
        long = ap (λ (b : Bool). if b && is_calm j t then length j + 1 else calm_cycles j) e ∙ ap (λ (b : Bool). if not b then length j + 1 else calm_cycles j) f ∙ omega arith;
      }
      by true e true f before = record {
        later = t ∷ before.later;
        earlier = before.earlier;
        cut = ap (λ (l : List CycleView). t ∷ l) before.cut;
        calm = before.calm;
        long = ap (λ (b : Bool). if b && is_calm j t then length j + 1 else calm_cycles j) e ∙ ap (λ (b : Bool). if not b then length j + 1 else calm_cycles j) f ∙ before.long;
      }
      by false e b f before = record {
        later = t ∷ before.later;
        earlier = before.earlier;
        cut = ap (λ (l : List CycleView). t ∷ l) before.cut;
        calm = before.calm;
        long = ap (λ (b : Bool). if b && is_calm j t then length j + 1 else calm_cycles j) e ∙ before.long;
      }

  no_earlier_so : (j : List CycleView) (p : PlaceView) → is_no_earlier j p ≡ true → IsNoEarlier r carry restarts j p
  no_earlier_so j p e =
      let (inside, late) = and_parts (nat_lt p.cycle (length j)) (nat_le (calm_cycles j) p.cycle) e in
      record {
        within = grind (arith, nat_tests, inside);
        late = λ later earlier cut calm.
            let low = at_least later earlier calm in
            let same : calm_cycles j ≡ calm_cycles (later ++ earlier) = ap calm_cycles cut in
            let up : calm_cycles j ≤ p.cycle = grind (arith, nat_tests, late) in
            omega (arith, low, same, up);
      }

  no_earlier_test : (j : List CycleView) (p : PlaceView) → IsNoEarlier r carry restarts j p → is_no_earlier j p ≡ true
  no_earlier_test j p is =
      let first = calm_of j in
      let low = is.late first.later first.earlier first.cut first.calm in
      let long = first.long in
      let high = is.within in
      let inside : nat_lt p.cycle (length j) ≡ true = grind (arith, nat_tests, high) in
      let late : nat_le (calm_cycles j) p.cycle ≡ true = (let up : calm_cycles j ≤ p.cycle = omega (arith, low, long) in grind (arith, nat_tests, up)) in
      rw (inside, late) refl

-- THE RUN: a ring of one drive. In cycle 11 the drive answers for the first time, and its AT is lost on the way to the master.
abbrev ring : RingView
ring = record { rate = 4; cycle = 250; control = 250; gap = 5; cycles = 300; order = 0 ∷ []; drives = drive ∷ [] }

abbrev lost : List Fault
lost = (record { cycle = 11; last = 11; every = 1; kind = telegram.At; from = 1; damage = Lose 1 }) ∷ []

abbrev run : List CycleView
run = run_of ring [] (carried 1 lost) (restarts_at lost) 13

-- The master addresses the drive in cycle 11 once more. By the capture, which has the AT as it was sent, it shouldn't.
abbrev place : PlaceView
place = record { cycle = 11; kind = telegram.Mdt; expected = None; found = Some (telegram_at telegram.Mdt (1 ∷ 0 ∷ 0 ∷ 0 ∷ 0 ∷ []) (pos 2600)) }

first_place : master_differs (known_of ring) [] (cycles_of (lines_of run)) ≡ Some place
unfolding carried restarts_at acts Bits.bits_of Bits.low_bits Bits.is_odd Bits.number_of Bits.bytes_of CheckSequence.fcs_of CheckSequence.divided CheckSequence.added CheckSequence.sum_of Arrivals.content_in Arrivals.is_unseen Reason.begins_with_six Reason.is_five Reason.ends_in_five Reason.six_place Reason.unstuffed Reason.given Reason.unclosed Reason.unreadable Reason.reason_of Stuffed.stuffed Stuffed.frame_of Faults.mst_fault Faults.head_fault Spells.word_bytes Spells.word_at Spells.fields Words.control_of Words.status_of Codes.attribute_fault Attributes.attribute_of Blocks.element_of BuiltIns.built_in Rings.attribute_in Valid.is_cycle Stores.inserted Stores.with_own Stores.store_of Checks.number_at Checks.idns_at Checks.carried_len Checks.breaks_1 Checks.breaks_2 Checks.breaks_6 Checks.breaks_7 Checks.breaks_8 Checks.breaks_9 Checks.breaks_10 Checks.breaks_15 Checks.breaks_list Checks.breaks_89 Checks.unfit_for_phase_3 Checks.unfit_for_phase_4 Calls.with_check_list Replies.data_in Replies.element_words Replies.bytes_written Replies.write_cause ChainOf.chain_of LeastTimes.least_plan LeastTimes.least_t2 LeastTimes.least_t3 Heard.mst_in Heard.single_in Heard.joint_in Says.value_in
first_place = refl

eleven : calm_cycles ring (carried 1 lost) (restarts_at lost) run ≡ 11
unfolding carried restarts_at acts Bits.bits_of Bits.low_bits Bits.is_odd Bits.number_of Bits.bytes_of CheckSequence.fcs_of CheckSequence.divided CheckSequence.added CheckSequence.sum_of Arrivals.content_in Arrivals.is_unseen Reason.begins_with_six Reason.is_five Reason.ends_in_five Reason.six_place Reason.unstuffed Reason.given Reason.unclosed Reason.unreadable Reason.reason_of Stuffed.stuffed Stuffed.frame_of Faults.mst_fault Faults.head_fault Spells.word_bytes Spells.word_at Spells.fields Words.control_of Words.status_of Codes.attribute_fault Attributes.attribute_of Blocks.element_of BuiltIns.built_in Rings.attribute_in Valid.is_cycle Stores.inserted Stores.with_own Stores.store_of Checks.number_at Checks.idns_at Checks.carried_len Checks.breaks_1 Checks.breaks_2 Checks.breaks_6 Checks.breaks_7 Checks.breaks_8 Checks.breaks_9 Checks.breaks_10 Checks.breaks_15 Checks.breaks_list Checks.breaks_89 Checks.unfit_for_phase_3 Checks.unfit_for_phase_4 Calls.with_check_list Replies.data_in Replies.element_words Replies.bytes_written Replies.write_cause ChainOf.chain_of LeastTimes.least_plan LeastTimes.least_t2 LeastTimes.least_t3 Heard.mst_in Heard.single_in Heard.joint_in Says.value_in
eleven = refl

is_late : is_no_earlier ring (carried 1 lost) (restarts_at lost) run place ≡ true
unfolding carried restarts_at acts Bits.bits_of Bits.low_bits Bits.is_odd Bits.number_of Bits.bytes_of CheckSequence.fcs_of CheckSequence.divided CheckSequence.added CheckSequence.sum_of Arrivals.content_in Arrivals.is_unseen Reason.begins_with_six Reason.is_five Reason.ends_in_five Reason.six_place Reason.unstuffed Reason.given Reason.unclosed Reason.unreadable Reason.reason_of Stuffed.stuffed Stuffed.frame_of Faults.mst_fault Faults.head_fault Spells.word_bytes Spells.word_at Spells.fields Words.control_of Words.status_of Codes.attribute_fault Attributes.attribute_of Blocks.element_of BuiltIns.built_in Rings.attribute_in Valid.is_cycle Stores.inserted Stores.with_own Stores.store_of Checks.number_at Checks.idns_at Checks.carried_len Checks.breaks_1 Checks.breaks_2 Checks.breaks_6 Checks.breaks_7 Checks.breaks_8 Checks.breaks_9 Checks.breaks_10 Checks.breaks_15 Checks.breaks_list Checks.breaks_89 Checks.unfit_for_phase_3 Checks.unfit_for_phase_4 Calls.with_check_list Replies.data_in Replies.element_words Replies.bytes_written Replies.write_cause ChainOf.chain_of LeastTimes.least_plan LeastTimes.least_t2 LeastTimes.least_t3 Heard.mst_in Heard.single_in Heard.joint_in Says.value_in
is_late = refl

place_is_no_earlier : IsNoEarlier ring (carried 1 lost) (restarts_at lost) run place
place_is_no_earlier = no_earlier_so ring (carried 1 lost) (restarts_at lost) run place is_late

-- the same place one cycle earlier, and after the last cycle
too_early : is_no_earlier ring (carried 1 lost) (restarts_at lost) run (record place { cycle = 10 }) ≡ false
unfolding carried restarts_at acts Bits.bits_of Bits.low_bits Bits.is_odd Bits.number_of Bits.bytes_of CheckSequence.fcs_of CheckSequence.divided CheckSequence.added CheckSequence.sum_of Arrivals.content_in Arrivals.is_unseen Reason.begins_with_six Reason.is_five Reason.ends_in_five Reason.six_place Reason.unstuffed Reason.given Reason.unclosed Reason.unreadable Reason.reason_of Stuffed.stuffed Stuffed.frame_of Faults.mst_fault Faults.head_fault Spells.word_bytes Spells.word_at Spells.fields Words.control_of Words.status_of Codes.attribute_fault Attributes.attribute_of Blocks.element_of BuiltIns.built_in Rings.attribute_in Valid.is_cycle Stores.inserted Stores.with_own Stores.store_of Checks.number_at Checks.idns_at Checks.carried_len Checks.breaks_1 Checks.breaks_2 Checks.breaks_6 Checks.breaks_7 Checks.breaks_8 Checks.breaks_9 Checks.breaks_10 Checks.breaks_15 Checks.breaks_list Checks.breaks_89 Checks.unfit_for_phase_3 Checks.unfit_for_phase_4 Calls.with_check_list Replies.data_in Replies.element_words Replies.bytes_written Replies.write_cause ChainOf.chain_of LeastTimes.least_plan LeastTimes.least_t2 LeastTimes.least_t3 Heard.mst_in Heard.single_in Heard.joint_in Says.value_in
too_early = refl

early_is_rejected : IsNoEarlier ring (carried 1 lost) (restarts_at lost) run (record place { cycle = 10 }) → ⊥
early_is_rejected is = false≢true (sym too_early ∙ no_earlier_test ring (carried 1 lost) (restarts_at lost) run (record place { cycle = 10 }) is)

too_late : is_no_earlier ring (carried 1 lost) (restarts_at lost) run (record place { cycle = 13 }) ≡ false
unfolding carried restarts_at acts Bits.bits_of Bits.low_bits Bits.is_odd Bits.number_of Bits.bytes_of CheckSequence.fcs_of CheckSequence.divided CheckSequence.added CheckSequence.sum_of Arrivals.content_in Arrivals.is_unseen Reason.begins_with_six Reason.is_five Reason.ends_in_five Reason.six_place Reason.unstuffed Reason.given Reason.unclosed Reason.unreadable Reason.reason_of Stuffed.stuffed Stuffed.frame_of Faults.mst_fault Faults.head_fault Spells.word_bytes Spells.word_at Spells.fields Words.control_of Words.status_of Codes.attribute_fault Attributes.attribute_of Blocks.element_of BuiltIns.built_in Rings.attribute_in Valid.is_cycle Stores.inserted Stores.with_own Stores.store_of Checks.number_at Checks.idns_at Checks.carried_len Checks.breaks_1 Checks.breaks_2 Checks.breaks_6 Checks.breaks_7 Checks.breaks_8 Checks.breaks_9 Checks.breaks_10 Checks.breaks_15 Checks.breaks_list Checks.breaks_89 Checks.unfit_for_phase_3 Checks.unfit_for_phase_4 Calls.with_check_list Replies.data_in Replies.element_words Replies.bytes_written Replies.write_cause ChainOf.chain_of LeastTimes.least_plan LeastTimes.least_t2 LeastTimes.least_t3 Heard.mst_in Heard.single_in Heard.joint_in Says.value_in
too_late = refl

late_is_rejected : IsNoEarlier ring (carried 1 lost) (restarts_at lost) run (record place { cycle = 13 }) → ⊥
late_is_rejected is = false≢true (sym too_late ∙ no_earlier_test ring (carried 1 lost) (restarts_at lost) run (record place { cycle = 13 }) is)
