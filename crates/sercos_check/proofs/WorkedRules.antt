-- Worked values of the rules, which the checker computes: a capture of two drives in phase 3, and telegrams after it.
use Rattle.std.proofs.Common.{◌≡◌, ℕ, pos, List, [], ◌∷◌, refl}
use Rattle.std.specs.Prelude.{◌++◌, neg_ℤ, length, Some, None}
use Rattle.sercos_model.specs.Bits.{low_bits, bits_of, number_of, is_odd}
use Rattle.sercos_model.specs.CheckSequence.{fcs_of, divided, added, sum_of}
use Rattle.sercos_hdlc.specs.Stuffed.{stuffed, frame_of}
use Rattle.sercos_telegram.specs.declared.layout.Kind.{Kind}
use Rattle.sercos_telegram.specs.declared.layout.Kind.TheVariants as telegram
use Rattle.sercos_telegram.specs.Faults.{mst_fault, head_fault}
use Rattle.sercos_timing.specs.Views.{WishesView}
use Rattle.sercos_timing.specs.declared.wishes.Wish.{Wish}
use Rattle.sercos_check.specs.declared.rule.Rule.TheVariants as rule
use Rattle.sercos_check.specs.Seen.{Told}
use Rattle.sercos_check.specs.Rules.{first_broken, broken_rule}

abbrev drive : ℕ → ℕ → ℕ → Wish
drive address slave t1min = record {
  address = address;
  slave = slave;
  times = record { t1min = t1min; tatmt = 6; t4min = 20; tatat = 5; tmtsy = 10; tmtsg = 20 };
  at_len = 8;
  record_len = 8;
}

-- a ring of two drives, which belong to two slaves or to one
abbrev ring : ℕ → WishesView
ring slave = record { rate = 4; cycle = 250; control = 250; gap = 5; order = 0 ∷ 1 ∷ []; drives = drive 1 1 10 ∷ drive 2 slave 12 ∷ [] }

abbrev mst : ℕ → ℕ → ℕ → Told
mst cycle phase bits = record { cycle = cycle; sent = record { kind = telegram.Mst; start = neg_ℤ (pos bits); bits = bits; content = 255 ∷ phase ∷ [] } }

abbrev four : List ℕ
four = 0 ∷ 0 ∷ 0 ∷ 0 ∷ []

abbrev eight : List ℕ
eight = 0 ∷ 0 ∷ 0 ∷ 0 ∷ 0 ∷ 0 ∷ 0 ∷ 0 ∷ []

abbrev at : ℕ → ℕ → ℕ → Told
at address start bits = record { cycle = 0; sent = record { kind = telegram.At; start = pos start; bits = bits; content = address ∷ eight } }

-- telegrams whose length is that of their frames
abbrev of_content : Kind → ℕ → List ℕ → Told
of_content kind start content = record { cycle = 0; sent = record { kind = kind; start = pos start; bits = length (frame_of content); content = content } }

abbrev mst_of : ℕ → ℕ → Told
mst_of cycle phase = mst cycle phase (length (frame_of (255 ∷ phase ∷ [])))

abbrev mdt : ℕ → Told
mdt start = of_content telegram.Mdt start (255 ∷ eight ++ eight)

-- the telegrams of a capture in phase 3
abbrev one_at : List Told
one_at = at 1 40 105 ∷ mst 0 3 50 ∷ []

abbrev two_ats : List Told
two_ats = at 2 184 104 ∷ one_at

-- The capture keeps all rules: its MST, and an AT of each drive.
first_kept : broken_rule (ring 2) [] (mst 0 3 50) ≡ None
unfolding frame_of stuffed low_bits bits_of number_of is_odd fcs_of divided added sum_of mst_fault head_fault first_broken
first_kept = refl

second_kept : broken_rule (ring 2) (mst 0 3 50 ∷ []) (at 1 40 105) ≡ None
unfolding frame_of stuffed low_bits bits_of number_of is_odd fcs_of divided added sum_of mst_fault head_fault first_broken
second_kept = refl

third_kept : broken_rule (ring 2) one_at (at 2 184 104) ≡ None
unfolding frame_of stuffed low_bits bits_of number_of is_odd fcs_of divided added sum_of mst_fault head_fault first_broken
third_kept = refl

-- a bit more than the frame has
too_long : broken_rule (ring 2) (mst 0 3 50 ∷ []) (at 1 40 106) ≡ Some rule.Frame
unfolding frame_of stuffed low_bits bits_of number_of is_odd fcs_of divided added sum_of mst_fault head_fault first_broken
too_long = refl

-- The first AT ends at 145. The gap is 20 bit times, and so is the recovery time. An AT of the same slave has no gap to keep.
early : broken_rule (ring 2) one_at (at 2 140 104) ≡ Some rule.Gap
unfolding frame_of stuffed low_bits bits_of number_of is_odd fcs_of divided added sum_of mst_fault head_fault first_broken
early = refl

in_gap : broken_rule (ring 2) one_at (at 2 164 104) ≡ Some rule.Gap
unfolding frame_of stuffed low_bits bits_of number_of is_odd fcs_of divided added sum_of mst_fault head_fault first_broken
in_gap = refl

at_gap : broken_rule (ring 2) one_at (at 2 165 104) ≡ None
unfolding frame_of stuffed low_bits bits_of number_of is_odd fcs_of divided added sum_of mst_fault head_fault first_broken
at_gap = refl

before_end : broken_rule (ring 1) one_at (at 2 144 104) ≡ Some rule.Gap
unfolding frame_of stuffed low_bits bits_of number_of is_odd fcs_of divided added sum_of mst_fault head_fault first_broken
before_end = refl

in_recovery : broken_rule (ring 1) one_at (at 2 164 104) ≡ Some rule.Recovery
unfolding frame_of stuffed low_bits bits_of number_of is_odd fcs_of divided added sum_of mst_fault head_fault first_broken
in_recovery = refl

after_recovery : broken_rule (ring 1) one_at (at 2 165 104) ≡ None
unfolding frame_of stuffed low_bits bits_of number_of is_odd fcs_of divided added sum_of mst_fault head_fault first_broken
after_recovery = refl

-- order: an address that sends twice, a start before that of the AT before, another cycle, an AT with no MST, an MST that leaves a cycle out
twice : broken_rule (ring 2) one_at (at 1 184 105) ≡ Some rule.Order
unfolding frame_of stuffed low_bits bits_of number_of is_odd fcs_of divided added sum_of mst_fault head_fault first_broken
twice = refl

back : broken_rule (ring 2) one_at (at 2 39 104) ≡ Some rule.Order
unfolding frame_of stuffed low_bits bits_of number_of is_odd fcs_of divided added sum_of mst_fault head_fault first_broken
back = refl

of_cycle_1 : broken_rule (ring 2) one_at (record (at 2 184 104) { cycle = 1 }) ≡ Some rule.Order
unfolding frame_of stuffed low_bits bits_of number_of is_odd fcs_of divided added sum_of mst_fault head_fault first_broken
of_cycle_1 = refl

no_mst : broken_rule (ring 2) [] (at 1 40 105) ≡ Some rule.Order
unfolding frame_of stuffed low_bits bits_of number_of is_odd fcs_of divided added sum_of mst_fault head_fault first_broken
no_mst = refl

skips : broken_rule (ring 2) one_at (mst 2 3 50) ≡ Some rule.Order
unfolding frame_of stuffed low_bits bits_of number_of is_odd fcs_of divided added sum_of mst_fault head_fault first_broken
skips = refl

-- no byte: no frame
empty : broken_rule (ring 2) one_at (of_content telegram.At 184 []) ≡ Some rule.Frame
unfolding frame_of stuffed low_bits bits_of number_of is_odd fcs_of divided added sum_of mst_fault head_fault first_broken
empty = refl

-- layout: the address of no drive, a byte too few, a phase that there isn't, an AT in phase 0
of_no_drive : broken_rule (ring 2) one_at (of_content telegram.At 184 (3 ∷ eight)) ≡ Some rule.Layout
unfolding frame_of stuffed low_bits bits_of number_of is_odd fcs_of divided added sum_of mst_fault head_fault first_broken
of_no_drive = refl

short_at : broken_rule (ring 2) one_at (of_content telegram.At 184 (2 ∷ four)) ≡ Some rule.Layout
unfolding frame_of stuffed low_bits bits_of number_of is_odd fcs_of divided added sum_of mst_fault head_fault first_broken
short_at = refl

phase_5 : broken_rule (ring 2) one_at (mst_of 1 5) ≡ Some rule.Layout
unfolding frame_of stuffed low_bits bits_of number_of is_odd fcs_of divided added sum_of mst_fault head_fault first_broken
phase_5 = refl

in_phase_0 : broken_rule (ring 2) (mst 0 0 49 ∷ []) (of_content telegram.At 1200 (1 ∷ four)) ≡ Some rule.Layout
unfolding frame_of stuffed low_bits bits_of number_of is_odd fcs_of divided added sum_of mst_fault head_fault first_broken
in_phase_0 = refl

-- phase: after phase 3 come 4, 3 and 0
next_phase : broken_rule (ring 2) one_at (mst 1 4 49) ≡ None
unfolding frame_of stuffed low_bits bits_of number_of is_odd fcs_of divided added sum_of mst_fault head_fault first_broken
next_phase = refl

same_phase : broken_rule (ring 2) one_at (mst 1 3 50) ≡ None
unfolding frame_of stuffed low_bits bits_of number_of is_odd fcs_of divided added sum_of mst_fault head_fault first_broken
same_phase = refl

no_phase : broken_rule (ring 2) one_at (mst 1 0 49) ≡ None
unfolding frame_of stuffed low_bits bits_of number_of is_odd fcs_of divided added sum_of mst_fault head_fault first_broken
no_phase = refl

phase_back : broken_rule (ring 2) one_at (mst 1 2 49) ≡ Some rule.Phase
unfolding frame_of stuffed low_bits bits_of number_of is_odd fcs_of divided added sum_of mst_fault head_fault first_broken
phase_back = refl

jumps : broken_rule (ring 2) (mst 0 0 49 ∷ []) (mst 1 2 49) ≡ Some rule.Phase
unfolding frame_of stuffed low_bits bits_of number_of is_odd fcs_of divided added sum_of mst_fault head_fault first_broken
jumps = refl

-- start: an MST that doesn't end at 0, an AT before its T1min, and phase 2, where an AT starts at 1200 and an MDT at 2600
late_mst : broken_rule (ring 2) one_at (record (mst 1 3 50) { sent = record ((mst 1 3 50).sent) { start = pos 0 } }) ≡ Some rule.Start
unfolding frame_of stuffed low_bits bits_of number_of is_odd fcs_of divided added sum_of mst_fault head_fault first_broken
late_mst = refl

before_t1min : broken_rule (ring 2) (mst 0 3 50 ∷ []) (at 2 47 104) ≡ Some rule.Start
unfolding frame_of stuffed low_bits bits_of number_of is_odd fcs_of divided added sum_of mst_fault head_fault first_broken
before_t1min = refl

at_t1min : broken_rule (ring 2) (mst 0 3 50 ∷ []) (at 2 48 104) ≡ None
unfolding frame_of stuffed low_bits bits_of number_of is_odd fcs_of divided added sum_of mst_fault head_fault first_broken
at_t1min = refl

single_at : broken_rule (ring 2) (mst 0 2 49 ∷ []) (of_content telegram.At 1200 (2 ∷ four)) ≡ None
unfolding frame_of stuffed low_bits bits_of number_of is_odd fcs_of divided added sum_of mst_fault head_fault first_broken
single_at = refl

late_single_at : broken_rule (ring 2) (mst 0 2 49 ∷ []) (of_content telegram.At 1201 (2 ∷ four)) ≡ Some rule.Start
unfolding frame_of stuffed low_bits bits_of number_of is_odd fcs_of divided added sum_of mst_fault head_fault first_broken
late_single_at = refl

single_mdt : broken_rule (ring 2) (mst 0 2 49 ∷ []) (of_content telegram.Mdt 2600 (2 ∷ four)) ≡ None
unfolding frame_of stuffed low_bits bits_of number_of is_odd fcs_of divided added sum_of mst_fault head_fault first_broken
single_mdt = refl

early_single_mdt : broken_rule (ring 2) (mst 0 2 49 ∷ []) (of_content telegram.Mdt 2599 (2 ∷ four)) ≡ Some rule.Start
unfolding frame_of stuffed low_bits bits_of number_of is_odd fcs_of divided added sum_of mst_fault head_fault first_broken
early_single_mdt = refl

joint_in_phase_2 : broken_rule (ring 2) (mst 0 2 49 ∷ []) (mdt 2600) ≡ Some rule.Layout
unfolding frame_of stuffed low_bits bits_of number_of is_odd fcs_of divided added sum_of mst_fault head_fault first_broken
joint_in_phase_2 = refl

-- The second AT ends at 288. The MDT keeps the gap from 308 on, and the transition of 24 bit times from 312 on.
mdt_in_gap : broken_rule (ring 2) two_ats (mdt 307) ≡ Some rule.Gap
unfolding frame_of stuffed low_bits bits_of number_of is_odd fcs_of divided added sum_of mst_fault head_fault first_broken
mdt_in_gap = refl

in_transition : broken_rule (ring 2) two_ats (mdt 311) ≡ Some rule.Transition
unfolding frame_of stuffed low_bits bits_of number_of is_odd fcs_of divided added sum_of mst_fault head_fault first_broken
in_transition = refl

after_transition : broken_rule (ring 2) two_ats (mdt 312) ≡ None
unfolding frame_of stuffed low_bits bits_of number_of is_odd fcs_of divided added sum_of mst_fault head_fault first_broken
after_transition = refl

mdt_of_16 : broken_rule (ring 2) two_ats (of_content telegram.Mdt 312 (255 ∷ eight)) ≡ Some rule.Layout
unfolding frame_of stuffed low_bits bits_of number_of is_odd fcs_of divided added sum_of mst_fault head_fault first_broken
mdt_of_16 = refl

-- An MDT of at least 168 bits, and 40 bit times more, go beyond 946.
no_turn : broken_rule (ring 2) two_ats (mdt 800) ≡ Some rule.End
unfolding frame_of stuffed low_bits bits_of number_of is_odd fcs_of divided added sum_of mst_fault head_fault first_broken
no_turn = refl

-- after the MDT
second_mdt : broken_rule (ring 2) (mdt 312 ∷ two_ats) (mdt 600) ≡ Some rule.Order
unfolding frame_of stuffed low_bits bits_of number_of is_odd fcs_of divided added sum_of mst_fault head_fault first_broken
second_mdt = refl

at_after_mdt : broken_rule (ring 2) (mdt 312 ∷ one_at) (at 2 600 104) ≡ Some rule.Order
unfolding frame_of stuffed low_bits bits_of number_of is_odd fcs_of divided added sum_of mst_fault head_fault first_broken
at_after_mdt = refl
