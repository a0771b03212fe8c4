-- A worked run whose trace is clean, and an altered journal whose trace isn't, computed from the definitions, down to the bytes of each line.
use Rattle.sercos_law_trace.proofs.Words.{◌≡◌, ℕ, List, [], ◌∷◌, ◌++◌, None, codes, length, refl, reverse, subst, sym, ◌∙◌, pos, RingView, wishes_of, Deaf, Fault, trace_of, SentView, CycleView, Clean, Violation, drive, IsClear, run_of, IsCleanIfClear, IsCleanTrace, item_fault, item_len, item_of, item_text, kept_of, listed_fault, list_fault, list_len, list_of, list_text, end_fault, list_end_fault, tail_fault, tail_of, addresses_in, idents_text, tail_text, field_of, field_fault, field_len, byte_fault, part_fault, part_len, line_fault, hex_text, value_text, field_value, part_values, values_of, items_of, is_template, numbers_in, signed_by, bytes_by, part_text, part_left, line_text, template_of, tail_for, later, kinds_fault, first_kind, line_by, telegram_kind, plan_text, stop_text, fall_text, read_as, grammar_fault, shape_fault, column_of, capture_fault, first_broken, first_violation, verdict_by, verdict_of, kind_cycle, mst_cycle, first_cycle, late, late_start, totals_of}
use Rattle.std.specs.Fmt.{digits}
use Rattle.hex.specs.Hex.{decode_pairs, encode_with}
use Rattle.sercos_idn.specs.Idns.{idn_text, four_digits}
use Rattle.sercos_telegram.specs.declared.layout.Kind.TheVariants as kinds
use Rattle.sercos_script.specs.Scripts.{carried, restarts_at, acts}
use Rattle.sercos_timing.specs.Tests.{is_valid}
use Rattle.sercos_text.specs.Fields.{number_fault, negative_fault, signed_fault, signed_len, signed_of, pairs_fault, hex_fault, hex_len, pairs_of, hex_of, digits_fault, digit_of, low_pairs, all_hex}
use Rattle.sercos_check.specs.Tests.{can_follow}
use Rattle.sercos_answer.specs.Lines.{lines_of}
use Rattle.sercos_model.specs.Bits as Bits
use Rattle.sercos_model.specs.CheckSequence as CheckSequence
use Rattle.sercos_hdlc.specs.Reason as Reason
use Rattle.sercos_hdlc.specs.Stuffed as Stuffed
use Rattle.sercos_telegram.specs.Faults as Faults
use Rattle.sercos_telegram.specs.Spells as Spells
use Rattle.sercos_telegram.specs.Words as Words
use Rattle.sercos_idn.specs.Codes as Codes
use Rattle.sercos_idn.specs.Attributes as Attributes
use Rattle.sercos_block.specs.Blocks as Blocks
use Rattle.sercos_block.specs.BuiltIns as BuiltIns
use Rattle.sercos_timing.specs.Valid as Valid
use Rattle.sercos_block.specs.Rings as Rings
use Rattle.sercos_block.specs.Stores as Stores
use Rattle.sercos_drive.specs.Heard as Heard
use Rattle.sercos_drive.specs.Says as Says
use Rattle.sercos_law_run.specs.Journal.Arrivals as Arrivals

-- a ring of one drive
abbrev ring : RingView
ring = record { rate = 4; cycle = 250; control = 250; gap = 5; cycles = 12; order = 0 ∷ []; drives = drive ∷ [] }

-- its run, in which the MST of cycle 9 doesn't arrive at the drive, and the same journal with its last telegram a bit time early
abbrev deaf : List Fault
deaf = (record { cycle = 9; last = 9; every = 1; kind = kinds.Mst; from = 0; damage = Deaf 1 }) ∷ []

abbrev run : List CycleView
run = run_of ring [] (carried 1 deaf) (restarts_at deaf) ring.cycles

abbrev early : List SentView → List SentView
early (mst ∷ at ∷ []) = mst ∷ record at { start = pos 1199 } ∷ []
early sent = sent

abbrev with_early : List CycleView → List CycleView
with_early [] = []
with_early (t ∷ j) = record t { sent = early t.sent } ∷ j

abbrev altered : List CycleView
altered = with_early run

-- the trace of a journal; and the text of these two, by the start of the last telegram
abbrev trace : List CycleView → List ℕ
trace j = trace_of (wishes_of ring) (reverse j) (totals_of (reverse j))

abbrev text : List ℕ → List ℕ
text start =
    codes "sercos 1\nring 4 250 250 5 1\ndrive 1 1 10 6 20 5 10 20 8 8\norder 1\nm 0 -49 49 ff00\nm 1 -49 49 ff00\nm 2 -49 49 ff00\nm 3 -49 49 ff00\nm 4 -49 49 ff00\nm 5 -49 49 ff00\nm 6 -49 49 ff00\nm 7 -49 49 ff00\nm 8 -49 49 ff00\nm 9 -49 49 ff00\nm 10 -49 49 ff01\np 10 1 1\nd 10 2600 72 0100000000\nm 11 -49 49 ff01\na 11 " ++ start ++ codes " 72 0100000000\nend 12 phase 1 complete 0 refused 0 broken 0 falls 0 unseen 0\n"

texts : (trace run ≡ text (codes "1200")) × (trace altered ≡ text (codes "1199"))
unfolding carried restarts_at acts Bits.bits_of Bits.low_bits Bits.is_odd Bits.number_of Bits.bytes_of CheckSequence.fcs_of CheckSequence.divided CheckSequence.added CheckSequence.sum_of Arrivals.content_in Arrivals.is_unseen Reason.begins_with_six Reason.is_five Reason.ends_in_five Reason.six_place Reason.unstuffed Reason.given Reason.unclosed Reason.unreadable Reason.reason_of Stuffed.stuffed Stuffed.frame_of Faults.mst_fault Faults.head_fault Spells.word_bytes Spells.word_at Spells.fields Words.control_of Words.status_of Codes.attribute_fault Attributes.attribute_of Blocks.element_of BuiltIns.built_in Rings.attribute_in Valid.is_cycle Stores.inserted Stores.with_own Stores.store_of Heard.mst_in Heard.single_in Heard.joint_in Says.value_in totals_of plan_text stop_text fall_text template_of tail_for line_text part_text part_left field_of value_text hex_text item_text list_text tail_text idents_text digits encode_with Rings.wishes_of Rings.listed_len Rings.cyclic_len Rings.block_attribute Rings.own_attribute Rings.built_in_attribute Rings.row_in idn_text four_digits
texts = (refl, refl)

verdicts : (verdict_of (text (codes "1200")) ≡ Clean (length (lines_of (text (codes "1200")))))
    × (late_start (text (codes "1200")) ≡ None)
    × (verdict_of (text (codes "1199")) ≡ Violation 19 5)
unfolding verdict_of verdict_by lines_of capture_fault first_violation first_broken column_of grammar_fault shape_fault read_as can_follow kinds_fault first_kind later line_fault part_fault part_len field_fault field_len byte_fault end_fault tail_fault line_by values_of part_values field_value items_of tail_of numbers_in signed_by bytes_by late_start first_cycle late number_fault negative_fault signed_fault signed_len signed_of pairs_fault hex_fault hex_len pairs_of hex_of digits_fault digit_of low_pairs all_hex item_fault item_len item_of kept_of listed_fault list_fault list_len list_of list_end_fault addresses_in telegram_kind is_template template_of tail_for field_of digits decode_pairs is_valid Valid.is_rate Valid.is_cycle Valid.is_control Bits.bits_of Bits.low_bits Bits.is_odd Bits.number_of CheckSequence.fcs_of CheckSequence.divided CheckSequence.added CheckSequence.sum_of Stuffed.stuffed Stuffed.frame_of Faults.mst_fault Faults.head_fault kind_cycle mst_cycle
verdicts = (refl, refl, refl)

is_clean : IsCleanTrace (wishes_of ring) run (totals_of (reverse run))
is_clean = record { clean = subst (λ t. verdict_of t ≡ Clean (length (lines_of t))) (sym texts.0) verdicts.0; starts = subst (λ t. late_start t ≡ None) (sym texts.0) verdicts.1 }

-- nothing is unseen in the altered journal, so the definition asks for a clean trace
altered_is_clear : IsClear altered
unfolding carried restarts_at acts Bits.bits_of Bits.low_bits Bits.is_odd Bits.number_of Bits.bytes_of CheckSequence.fcs_of CheckSequence.divided CheckSequence.added CheckSequence.sum_of Arrivals.content_in Arrivals.is_unseen Reason.begins_with_six Reason.is_five Reason.ends_in_five Reason.six_place Reason.unstuffed Reason.given Reason.unclosed Reason.unreadable Reason.reason_of Stuffed.stuffed Stuffed.frame_of Faults.mst_fault Faults.head_fault Spells.word_bytes Spells.word_at Spells.fields Words.control_of Words.status_of Codes.attribute_fault Attributes.attribute_of Blocks.element_of BuiltIns.built_in Rings.attribute_in Valid.is_cycle Stores.inserted Stores.with_own Stores.store_of Heard.mst_in Heard.single_in Heard.joint_in Says.value_in
altered_is_clear = ((((((((((((tt, refl), refl), refl), refl), refl), refl), refl), refl), refl), refl), refl), refl)

is_rejected : IsCleanIfClear ring altered → ⊥
is_rejected is = let clean = sym verdicts.2 ∙ subst (λ t. verdict_of t ≡ Clean (length (lines_of t))) texts.1 (is altered_is_clear).clean in absurd (cc)
