-- The nine rules for the telegrams of a capture, and the lowest one that a telegram breaks.
use Rattle.std.specs.Prelude.{ℕ, ℤ, pos, ◌+◌, ◌*◌, ◌+ℤ◌, ◌==◌, nat_lt, nat_le, Bool, true, false, not, ◌&&◌, ◌||◌, if◌then◌else◌, List, [], ◌∷◌, length, max, Option, Some, None, is_none, option_map, slice_index}
use Rattle.std.specs.List.{list_all, find}
use Rattle.std.specs.Int.Signed.{le_z}
use Rattle.std.specs.Ordering.{int_eq}
use Rattle.sercos_hdlc.specs.Stuffed.{frame_of}
use Rattle.sercos_telegram.specs.declared.layout.Kind.{Kind}
use Rattle.sercos_telegram.specs.declared.layout.Kind.TheVariants as telegram
use Rattle.sercos_telegram.specs.Faults.{mst_fault, joint_fault}
use Rattle.sercos_timing.specs.Views.{WishesView}
use Rattle.sercos_timing.specs.Limits.{early_at, early_mdt}
use Rattle.sercos_timing.specs.Order.{record_bytes}
use Rattle.sercos_timing.specs.Inequalities.{bound_9, greatest_tmtsy}
use Rattle.sercos_trace.specs.Views.{SentView}
use Rattle.sercos_check.specs.declared.marks.Command.{Command}
use Rattle.sercos_check.specs.declared.marks.Mark.{Mark}
use Rattle.sercos_check.specs.declared.marks.Note.{Note}
use Rattle.sercos_check.specs.declared.rule.Rule.{Rule}
use Rattle.sercos_check.specs.declared.rule.Rule.TheVariants as rule
use Rattle.sercos_check.specs.Seen.{Told, is_mst, is_at, is_mdt, command_before, phase_before, in_cycle, address_of, wish_for, is_drive, slave_of, mark_of, end_of, sender_of, newest_in, has_mdt, has_at_from, mark_before}

-- a start is at least n bit times after the end of a telegram
abbrev pub is_after : Mark → ℕ → ℤ → Bool
is_after x n start = le_z (end_of x +ℤ pos n) start

-- 1, order: an MST's cycle is the one after that of the MST before, if there was one. An AT or an
-- MDT has the cycle of the newest MST, and doesn't start before the telegram before it. After the
-- MDT of a cycle no AT and no other MDT follows. No address byte sends two ATs in a cycle.
abbrev pub is_next_cycle : Option Command → ℕ → Bool
is_next_cycle None cycle = true
is_next_cycle (Some c) cycle = cycle == c.cycle + 1

abbrev pub is_same_cycle : Option Command → ℕ → Bool
is_same_cycle None cycle = false
is_same_cycle (Some c) cycle = cycle == c.cycle

abbrev pub starts_later : Option Note → ℤ → Bool
starts_later None start = true
starts_later (Some x) start = le_z x.mark.start start

-- an AT or an MDT can follow in the cycle; `mdt` is whether an MDT was sent in it
abbrev pub goes_on : Option Command → Option Note → Bool → ℕ → ℤ → Bool
goes_on command newest mdt cycle start = is_same_cycle command cycle && (starts_later newest start && not mdt)

abbrev pub is_in_order : WishesView → List Told → Told → Bool
is_in_order w before t = goes_on (command_before before) (newest_in w before) (has_mdt before) t.cycle t.sent.start

abbrev pub is_alone : List Told → SentView → Bool
is_alone before s = not (nat_lt 0 (length s.content) && has_at_from (address_of s) before)

abbrev pub order_of : Kind → WishesView → List Told → Told → Bool
order_of telegram.Mst w before t = is_next_cycle (command_before before) t.cycle
order_of telegram.At w before t = is_in_order w before t && is_alone before t.sent
order_of telegram.Mdt w before t = is_in_order w before t

abbrev pub keeps_order : WishesView → List Told → Told → Bool
keeps_order w before t = order_of t.sent.kind w before t

-- 2, frame: the content has 1 to 2048 bytes, and the length is that of its frame.
abbrev pub keeps_frame : SentView → Bool
keeps_frame s = nat_lt 0 (length s.content) && (nat_le (length s.content) 2048 && (s.bits == length (frame_of s.content)))

-- 3, layout: an MST has the layout of one. In phase 0 no AT and no MDT is sent. In phases 1 and 2
-- both have five bytes and the address of a drive. In phases 3 and 4 an AT has the address of a
-- drive and that drive's length, and the MDT has the address of all drives and the length of all
-- records.
abbrev pub is_single : WishesView → SentView → Bool
is_single w s = (length s.content == 5) && is_drive w (address_of s)

abbrev pub is_whole_at : WishesView → SentView → Bool
is_whole_at w s = (length s.content == (wish_for w (address_of s)).at_len + 1) && is_drive w (address_of s)

abbrev pub is_joint : WishesView → SentView → Bool
is_joint w s = is_none (joint_fault (record_bytes w.drives) s.content)

abbrev pub layout_of : Kind → WishesView → ℕ → SentView → Bool
layout_of telegram.Mst w phase s = is_none (mst_fault s.content)
layout_of telegram.At w phase s = nat_lt 0 phase && (if nat_lt phase 3 then is_single w s else is_whole_at w s)
layout_of telegram.Mdt w phase s = nat_lt 0 phase && (if nat_lt phase 3 then is_single w s else is_joint w s)

abbrev pub keeps_layout : WishesView → ℕ → SentView → Bool
keeps_layout w phase s = layout_of s.kind w phase s

-- 4, phase: an MST commands the phase of the MST before, the next one, or phase 0.
abbrev pub is_next_phase : Option Command → ℕ → Bool
is_next_phase None phase = true
is_next_phase (Some c) phase = (phase == c.phase) || ((phase == c.phase + 1) || (phase == 0))

abbrev pub keeps_phase : Option Command → SentView → Bool
keeps_phase command s = not (is_mst s.kind) || is_next_phase command (slice_index s.content 1)

-- 5, start: an MST ends at 0. In phases 1 and 2 ATs and MDTs start at fixed times. In phases 3 and
-- 4 an AT starts at its drive's T1min or later.
abbrev pub start_of : Kind → WishesView → ℕ → SentView → Bool
start_of telegram.Mst w phase s = int_eq (end_of (mark_of s)) (pos 0)
start_of telegram.At w phase s =
    if nat_lt phase 3 then int_eq s.start (pos (w.rate * early_at))
    else le_z (pos (w.rate * (wish_for w (address_of s)).times.t1min)) s.start
start_of telegram.Mdt w phase s = not (nat_lt phase 3) || int_eq s.start (pos (w.rate * early_mdt))

abbrev pub keeps_start : WishesView → ℕ → SentView → Bool
keeps_start w phase s = start_of s.kind w phase s

-- The remaining rules are for ATs and MDTs in phases 3 and 4.
abbrev pub is_cyclic : ℕ → Kind → Bool
is_cyclic phase kind = nat_le 3 phase && not (is_mst kind)

abbrev pub is_cyclic_at : ℕ → Kind → Bool
is_cyclic_at phase kind = nat_le 3 phase && is_at kind

abbrev pub is_cyclic_mdt : ℕ → Kind → Bool
is_cyclic_mdt phase kind = nat_le 3 phase && is_mdt kind

-- 6, gap: it starts at least the gap after the end of the telegram before. But an AT right after an
-- AT of the same slave needs only to start at its end or later.
abbrev pub is_same_sender : Option ℕ → Option ℕ → Bool
is_same_sender None other = false
is_same_sender (Some slave) None = false
is_same_sender (Some slave) (Some other) = slave == other

abbrev pub gap_between : WishesView → Option ℕ → Option ℕ → ℕ
gap_between w sender next = if is_same_sender sender next then 0 else w.rate * w.gap

abbrev pub is_after_gap : WishesView → Option Note → SentView → Bool
is_after_gap w None s = true
is_after_gap w (Some x) s = is_after x.mark (gap_between w x.sender (sender_of w s)) s.start

abbrev pub keeps_gap : WishesView → ℕ → Option Note → SentView → Bool
keeps_gap w phase newest s = not (is_cyclic phase s.kind) || is_after_gap w newest s

-- 7, recovery: an AT starts at least its drive's TATAT after the end of the last AT of the same
-- slave.
abbrev pub is_after_mark : Option Mark → ℕ → ℤ → Bool
is_after_mark None n start = true
is_after_mark (Some x) n start = is_after x n start

abbrev pub keeps_recovery : WishesView → List Told → SentView → Bool
keeps_recovery w before s =
    not (is_cyclic_at (phase_before before) s.kind)
    || is_after_mark (mark_before w (slave_of w s) before) (w.rate * (wish_for w (address_of s)).times.tatat) s.start

-- 8, transition: an MDT starts, for each AT before it, at least that drive's TATMT after the AT's
-- end.
abbrev pub is_after_transition : WishesView → ℤ → SentView → Bool
is_after_transition w start x = not (is_at x.kind) || is_after (mark_of x) (w.rate * (wish_for w (address_of x)).times.tatmt) start

abbrev pub is_after_all : WishesView → List Told → ℤ → Bool
is_after_all w before start = list_all (is_after_transition w start) (in_cycle before)

abbrev pub keeps_transition : WishesView → List Told → SentView → Bool
keeps_transition w before s = not (is_cyclic_mdt (phase_before before) s.kind) || is_after_all w before s.start

-- 9, end: between the end of an MDT and the next MST there is time for the gap, or for the greatest
-- TMTSY if that is longer.
abbrev pub has_room : WishesView → SentView → Bool
has_room w s = le_z (end_of (mark_of s) +ℤ pos (w.rate * max w.gap (greatest_tmtsy w))) (pos (bound_9 w))

abbrev pub keeps_end : WishesView → ℕ → SentView → Bool
keeps_end w phase s = not (is_cyclic_mdt phase s.kind) || has_room w s

-- the first rule of a list that is not kept; with each rule comes whether it is
unfoldable pub first_broken : List (Rule × Bool) → Option Rule
first_broken tests = option_map (λ (test : Rule × Bool). test.0) (find (λ (test : Rule × Bool). not test.1) tests)

-- the lowest rule that a telegram breaks after those before
abbrev pub broken_rule : WishesView → List Told → Told → Option Rule
broken_rule w before t = first_broken
    ((rule.Order, keeps_order w before t)
    ∷ (rule.Frame, keeps_frame t.sent)
    ∷ (rule.Layout, keeps_layout w (phase_before before) t.sent)
    ∷ (rule.Phase, keeps_phase (command_before before) t.sent)
    ∷ (rule.Start, keeps_start w (phase_before before) t.sent)
    ∷ (rule.Gap, keeps_gap w (phase_before before) (newest_in w before) t.sent)
    ∷ (rule.Recovery, keeps_recovery w before t.sent)
    ∷ (rule.Transition, keeps_transition w before t.sent)
    ∷ (rule.End, keeps_end w (phase_before before) t.sent)
    ∷ [])
