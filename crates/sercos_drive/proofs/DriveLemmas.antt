-- What a drive keeps stays right with one call more.
use Rattle.std.proofs.Common.{◌≡◌, ℕ, ◌+◌, ◌≤◌, ◌==◌, nat_le, Bool, true, false, cond, not, ◌&&◌, List, [], ◌∷◌, length, Option, Some, None, IfSome, is_some, option_map, option_and_then, if◌then◌else◌, refl, sym, ◌∙◌, ap, subst, arith}
use mathlib.Core.Bool.{beq}
use Rattle.sercos_block.specs.declared.block.Block.{Block}
use Rattle.sercos_block.specs.Views.{DriveView}
use Rattle.sercos_block.specs.Stores.{find_block, with_data}
use Rattle.sercos_command.specs.Settings.{is_command}
use Rattle.sercos_command.specs.Calls.{CommandCall, Wrote, Other, Reset, CommandHistory}
use Rattle.sercos_command.specs.Kept.{newest_cycle, AreInOrder, CommandsView, CommandsStandFor}
use Rattle.sercos_service_drive.specs.Log.{Processed, ahs, processed_record, open_idn, run_before, in_order as words_in_order}
use Rattle.sercos_service_drive.specs.Replies.{bytes_written, reply_of, log_of}
use Rattle.sercos_service_drive.specs.Writes.{Write, with_added, command_value, blocks_with, commands_with, calls_with, takes_effect, written_by, adds, added_on, AreAlike, AreThose}
use Rattle.sercos_service_drive.specs.Kept.{ChannelView, ChannelStandsFor}
use Rattle.sercos_drive.specs.declared.hearing.Told.{Told}
use Rattle.sercos_drive.specs.Heard.{DriveCall, Mst, Mdt, Restart, mst_got, mdt_got}
use Rattle.sercos_drive.specs.Moments.{Moment, AtMst, AtRestart, phase_in, cycle_in, has_mst, has_missed, unless_phase_0, with_record, write_in, records_in, writes_in, blocks_in, commands_in, calls_in, blocks_after, calls_after, with_reset}
use Rattle.sercos_drive.specs.Annals.{stands_in, takes, processed_in, ends_in, mdt_moment, annals}
use Rattle.sercos_drive.specs.Kept.{DriveState, IsSlot, counted, KeepsMoments}
use Rattle.sercos_drive.specs.declared.slot.Slot.{Slot}
use Rattle.sercos_drive.specs.Steps.{commands_after, goes_to, processed_by, counted_with, ends_with, IsEntered, IsProcessed}

newest-with_reset : (phase : ℕ) (calls : List CommandCall) → newest_cycle (with_reset phase calls) ≡ newest_cycle calls
newest-with_reset phase calls = by (phase == 0)
  where
    by : (zero : Bool) → newest_cycle (cond zero (Reset ∷ calls) calls) ≡ newest_cycle calls
    by true = refl
    by false = refl

ordered-with_reset : (phase : ℕ) (calls : List CommandCall) → AreInOrder calls → AreInOrder (with_reset phase calls)
ordered-with_reset phase calls ordered = by (phase == 0)
  where
    by : (zero : Bool) → AreInOrder (cond zero (Reset ∷ calls) calls)
    by true = (ordered, omega arith)
    by false = ordered

-- The phase after the MST's place.
pub goes_to-stands_in : (v : DriveState) (d : DriveView) (rate cycle : ℕ) (got : Option ℕ) (past : List Moment) → KeepsMoments v d rate past → cycle_in past ≤ cycle
    → goes_to v (commands_in d rate past) cycle got ≡ stands_in d rate cycle got past
goes_to-stands_in v d rate cycle None past k later = rw (k.got_is, k.phase_is) refl
goes_to-stands_in v d rate cycle (Some phase) past k later = rw k.phase_is refl

pub keeps-mst : (v w : DriveState) (d : DriveView) (rate cycle : ℕ) (got : Option ℕ) (past : List Moment) → KeepsMoments v d rate past → cycle_in past ≤ cycle
    → IsEntered (record v { cycle = cycle; got = is_some got }) w (goes_to v (commands_in d rate past) cycle got)
    → KeepsMoments w d rate (AtMst cycle (is_some got) (stands_in d rate cycle got past) ∷ past)
keeps-mst v w d rate cycle got past k later entered = by (rw (goes_to-stands_in v d rate cycle got past k later) at entered)
  where
    by : IsEntered (record v { cycle = cycle; got = is_some got }) w (stands_in d rate cycle got past) → KeepsMoments w d rate (AtMst cycle (is_some got) (stands_in d rate cycle got past) ∷ past)
    by e = record {
      address_is = ap (λ (x : DriveState). x.address) e.same ∙ k.address_is;
      phase_is = ap (λ (x : DriveState). x.phase) e.same;
      cycle_is = ap (λ (x : DriveState). x.cycle) e.same;
      got_is = ap (λ (x : DriveState). x.got) e.same;
      took_is = ap (λ (x : DriveState). x.took) e.same ∙ k.took_is;
      missed_is = ap (λ (x : DriveState). x.missed) e.same ∙ k.missed_is;
      writes_is = ap (λ (x : DriveState). x.writes) e.same ∙ k.writes_is;
      channel_is = e.channel d.busy (records_in past) k.channel_is;
      commands_are = e.commands (commands_in d rate past) k.commands_are;
      blocks_is = ap (λ (x : DriveState). x.blocks) e.same ∙ k.blocks_is;
      slot_is = subst (λ (x : DriveState). IsSlot x.slot x.blocks) (sym e.same) k.slot_is;
      in_order = ordered-with_reset (stands_in d rate cycle got past) (calls_in past) k.in_order;
      order = let order = k.order in rw (newest-with_reset (stands_in d rate cycle got past) (calls_in past)) (omega (arith, order, later));
    }

pub keeps-restart : (v w : DriveState) (d : DriveView) (rate : ℕ) (past : List Moment) → KeepsMoments v d rate past
    → IsEntered (record v { got = false; took = false; missed = false }) w 0
    → KeepsMoments w d rate (AtRestart ∷ past)
keeps-restart v w d rate past k e = record {
  address_is = ap (λ (x : DriveState). x.address) e.same ∙ k.address_is;
  phase_is = ap (λ (x : DriveState). x.phase) e.same;
  cycle_is = ap (λ (x : DriveState). x.cycle) e.same ∙ k.cycle_is;
  got_is = ap (λ (x : DriveState). x.got) e.same;
  took_is = ap (λ (x : DriveState). x.took) e.same;
  missed_is = ap (λ (x : DriveState). x.missed) e.same;
  writes_is = ap (λ (x : DriveState). x.writes) e.same ∙ k.writes_is;
  channel_is = e.channel d.busy (records_in past) k.channel_is;
  commands_are = e.commands (commands_in d rate past) k.commands_are;
  blocks_is = ap (λ (x : DriveState). x.blocks) e.same ∙ k.blocks_is;
  slot_is = subst (λ (x : DriveState). IsSlot x.slot x.blocks) (sym e.same) k.slot_is;
  in_order = (k.in_order, omega arith);
  order = k.order;
}

-- The record of an MDT.
pub processed_by-in : (v : DriveState) (d : DriveView) (rate : ℕ) (told : Option Told) (past : List Moment) → KeepsMoments v d rate past → processed_by v (commands_in d rate past) told ≡ processed_in d rate told past
processed_by-in v d rate None past k = refl
processed_by-in v d rate (Some told) past k = rw (k.got_is, k.phase_is, k.cycle_is, k.blocks_is) refl

counted_with-length : (r : Option Processed) (h : List Processed) (writes : List Write) (n : ℕ) → n ≡ counted (length writes)
    → counted_with (write_in r h) n ≡ counted (length (with_added (write_in r h) writes))
counted_with-length r h writes n is = by (write_in r h)
  where
    by : (w : Option Write) → counted_with w n ≡ counted (length (with_added w writes))
    by None = is
    by (Some w) = rw is (grind arith)

-- calls in order, none of which is of a later cycle than this
abbrev AreBy : ℕ → List CommandCall → Type 0
AreBy cycle calls = AreInOrder calls × (newest_cycle calls ≤ cycle)

by-calls_with : (w : Option Write) (blocks : List Block) (calls : List CommandCall) (cycle : ℕ) → AreBy cycle calls → IfSome w (λ x. x.cycle ≡ cycle) → AreBy cycle (calls_with w blocks calls)
by-calls_with None blocks calls cycle all is = all
by-calls_with (Some w) blocks calls cycle all is = by (is_command blocks w.raw)
  where
    by : (command : Bool) → AreBy cycle (cond command (Wrote w.raw (command_value w) w.cycle (with_data w.raw w.bytes blocks)) (Other w.cycle) ∷ calls)
    by true = rw is (all, omega arith)
    by false = rw is (all, omega arith)

-- What a channel makes of a record.
pub processed_one : (v : DriveState) (channel : ChannelView) (commands : CommandsView) (blocks : List Block) (slot : Slot) (added : Bool) (busy : ℕ) (c : CommandHistory) (t : Processed) (h : List Processed)
    → t.blocks ≡ v.blocks
    → added ≡ is_some (added_on t h)
    → blocks ≡ blocks_with (added_on t h) t.commands t.blocks
    → CommandsStandFor commands (commands_with (added_on t h) t.blocks c)
    → ChannelStandsFor channel busy (t ∷ h)
    → (added ≡ true → IsSlot slot blocks) → (added ≡ false → slot ≡ v.slot)
    → IsProcessed v (record v { channel = channel; commands = commands; blocks = blocks; slot = slot; writes = if added then counted (v.writes + 1) else v.writes }) busy c (Some t) h
processed_one v channel commands blocks slot added busy c t h old_blocks added_is blocks_is commands_are stands anew still = record {
  same = rw (added_is, blocks_is) (by (added_on t h));
  slot = λ before. slots (added_on t h) added_is blocks_is before;
  channel = stands;
  commands = commands_are;
}
  where
    by : (w : Option Write)
        → record v { channel = channel; commands = commands; blocks = blocks_with w t.commands t.blocks; slot = slot; writes = if is_some w then counted (v.writes + 1) else v.writes }
        ≡ record v { writes = counted_with w v.writes; channel = channel; commands = commands; blocks = blocks_with w t.commands t.blocks; slot = slot }
    by None = refl
    by (Some w) = refl

    slots : (w : Option Write) → added ≡ is_some w → blocks ≡ blocks_with w t.commands t.blocks → IsSlot v.slot v.blocks → IsSlot slot blocks
    slots None none same before = rw (still none, same, old_blocks) before
    slots (Some w) some same before = anew some

pub not_processed : (v : DriveState) (busy : ℕ) (c : CommandHistory) (h : List Processed) → ChannelStandsFor v.channel busy h → CommandsStandFor v.commands c → IsProcessed v v busy c None h
not_processed v busy c h stands commands = record { same = refl; slot = λ before. before; channel = stands; commands = commands }

-- The cycle of a write is that of its step.
added-cycle : (t : Processed) (h : List Processed) → IfSome (added_on t h) (λ w. w.cycle ≡ t.cycle)
added-cycle t h = on (beq t.mhs (ahs h))
  where
    found : (run : List Processed) (raw : ℕ) (o : Option Block)
        → IfSome {T = Write} (option_map (λ (b : Block). (record { cycle = t.cycle; raw = raw; bytes = bytes_written b (words_in_order run (t.step.word ∷ [])) })) o) (λ w. w.cycle ≡ t.cycle)
    found run raw None = tt
    found run raw (Some b) = refl

    opened : (run : List Processed) (o : Option ℕ) → IfSome (option_and_then (written_by t run) o) (λ w. w.cycle ≡ t.cycle)
    opened run None = tt
    opened run (Some raw) = found run raw (find_block raw t.blocks)

    effect : (b : Bool) → IfSome (cond b (option_and_then (written_by t (run_before true 7 (log_of h))) (open_idn (log_of h))) None) (λ w. w.cycle ≡ t.cycle)
    effect true = opened (run_before true 7 (log_of h)) (open_idn (log_of h))
    effect false = tt

    on : (same : Bool) → IfSome (cond same None (adds t (log_of h))) (λ w. w.cycle ≡ t.cycle)
    on true = tt
    on false = effect (takes_effect (record { processed = t; answer = reply_of t (log_of h) }))

by-after : (d : DriveView) (rate : ℕ) (told : Option Told) (past : List Moment) → AreBy (cycle_in past) (calls_in past)
    → AreBy (cycle_in past) (calls_after (processed_in d rate told past) (records_in past) (calls_in past))
by-after d rate None past all = all
by-after d rate (Some told) past all = by (has_mst past && nat_le 2 (phase_in past))
  where
    t : Processed
    t = processed_record (cycle_in past) (phase_in past) told.control told.info (blocks_in d past) (commands_in d rate past)

    by : (b : Bool) → AreBy (cycle_in past) (calls_after (cond b (Some t) None) (records_in past) (calls_in past))
    by true = by-calls_with (added_on t (records_in past)) (blocks_in d past) (calls_in past) (cycle_in past) all (added-cycle t (records_in past))
    by false = all

misses : (p q : ℕ) (a b : Bool) → p ≡ q → a ≡ b → (nat_le 3 p && not a) ≡ (nat_le 3 q && not b)
misses p q a b number flag = rw (number, flag) refl

ends : (p q : ℕ) (a b m n : Bool) → p ≡ q → a ≡ b → m ≡ n → (if nat_le 3 p && (not a && m) then 0 else p) ≡ (if nat_le 3 q && (not b && n) then 0 else q)
ends p q a b m n number flag missed = rw (number, flag, missed) refl

pub keeps-mdt : (v w x : DriveState) (d : DriveView) (rate : ℕ) (told : Option Told) (past : List Moment) → KeepsMoments v d rate past
    → IsProcessed v w d.busy (commands_in d rate past) (processed_by v (commands_in d rate past) told) (records_in past)
    → (took : Bool) → took ≡ (v.got && (nat_le 1 v.phase && is_some told))
    → IsEntered (record w { took = took; missed = nat_le 3 w.phase && not took }) x (ends_with w took)
    → KeepsMoments x d rate (mdt_moment d rate told past ∷ past)
keeps-mdt v w x d rate told past k processed took took_is entered =
    by (processed_in d rate told past) refl (rw (processed_by-in v d rate told past k) at processed) (ends_in told past) refl
    (subst (λ (p : ℕ). IsEntered (record w { took = took; missed = nat_le 3 w.phase && not took }) x p) (ends _ _ _ _ _ _ phase same_took missed) entered)
  where
    phase : w.phase ≡ phase_in past
    phase = ap (λ (y : DriveState). y.phase) processed.same ∙ k.phase_is

    missed : w.missed ≡ has_missed past
    missed = ap (λ (y : DriveState). y.missed) processed.same ∙ k.missed_is

    same_took : took ≡ takes told past
    same_took = rw (k.got_is, k.phase_is) at took_is

    by : (r : Option Processed) → processed_in d rate told past ≡ r → IsProcessed v w d.busy (commands_in d rate past) r (records_in past)
        → (end : ℕ) → ends_in told past ≡ end → IsEntered (record w { took = took; missed = nat_le 3 w.phase && not took }) x end
        → KeepsMoments x d rate (mdt_moment d rate told past ∷ past)
    by r r_is p end end_is e = rw (r_is, end_is) (record {
      address_is = ap (λ (y : DriveState). y.address) e.same ∙ ap (λ (y : DriveState). y.address) p.same ∙ k.address_is;
      phase_is = ap (λ (y : DriveState). y.phase) e.same;
      cycle_is = ap (λ (y : DriveState). y.cycle) e.same ∙ ap (λ (y : DriveState). y.cycle) p.same ∙ k.cycle_is;
      got_is = ap (λ (y : DriveState). y.got) e.same ∙ ap (λ (y : DriveState). y.got) p.same ∙ k.got_is;
      took_is = ap (λ (y : DriveState). y.took) e.same ∙ same_took;
      missed_is = ap (λ (y : DriveState). y.missed) e.same ∙ misses _ _ _ _ phase same_took;
      writes_is = ap (λ (y : DriveState). y.writes) e.same ∙ ap (λ (y : DriveState). y.writes) p.same ∙ counted_with-length r (records_in past) (writes_in past) v.writes k.writes_is;
      channel_is = e.channel d.busy (with_record r (records_in past)) p.channel;
      commands_are = e.commands (commands_after r (records_in past) (commands_in d rate past)) p.commands;
      blocks_is = ap (λ (y : DriveState). y.blocks) e.same ∙ ap (λ (y : DriveState). y.blocks) p.same ∙ ap (blocks_after r (records_in past)) k.blocks_is;
      slot_is = subst (λ (y : DriveState). IsSlot y.slot y.blocks) (sym e.same) (p.slot k.slot_is);
      in_order = ordered-with_reset end (calls_after r (records_in past) (calls_in past)) (rw r_is at (by-after d rate told past (k.in_order, k.order))).0;
      order = rw (newest-with_reset end (calls_after r (records_in past) (calls_in past))) (rw r_is at (by-after d rate told past (k.in_order, k.order))).1;
    })

-- What the MDT says.
pub told_is : (v : DriveState) (d : DriveView) (rate : ℕ) (content : Option (List ℕ)) (past : List Moment) → KeepsMoments v d rate past
    → mdt_got v.address v.phase v.blocks content ≡ mdt_got d.address (phase_in past) (blocks_in d past) content
told_is v d rate content past k = rw (k.address_is, k.phase_is, k.blocks_is) refl

-- The blocks of each record since the last reset are, but for their operation data, those of the drive.

-- a write changes the operation data of blocks alone
abbrev pub StaysAlike : Type 0
StaysAlike = (w : Option Write) (c : CommandHistory) (blocks : List Block) → AreAlike (blocks_with w c blocks) blocks

AreThose-alike : (blocks others : List Block) (h : List Processed) → AreAlike blocks others → AreThose blocks h → AreThose others h
AreThose-alike blocks others [] same those = tt
AreThose-alike blocks others (t ∷ h) same those = (those.0 ∙ same, AreThose-alike blocks others h same those.1)

AreThose-in_phase : (phase : ℕ) (blocks : List Block) (h : List Processed) → AreThose blocks h → AreThose blocks (unless_phase_0 phase h)
AreThose-in_phase phase blocks h those = by (phase == 0)
  where
    by : (zero : Bool) → AreThose blocks (cond zero [] h)
    by true = tt
    by false = those

AreThose-after : StaysAlike → (d : DriveView) (rate : ℕ) (told : Option Told) (past : List Moment) → AreThose (blocks_in d past) (records_in past)
    → AreThose (blocks_after (processed_in d rate told past) (records_in past) (blocks_in d past)) (with_record (processed_in d rate told past) (records_in past))
AreThose-after alike d rate None past those = those
AreThose-after alike d rate (Some told) past those = by (has_mst past && nat_le 2 (phase_in past))
  where
    t : Processed
    t = processed_record (cycle_in past) (phase_in past) told.control told.info (blocks_in d past) (commands_in d rate past)

    by : (b : Bool) → AreThose (blocks_after (cond b (Some t) None) (records_in past) (blocks_in d past)) (with_record (cond b (Some t) None) (records_in past))
    by true =
        let same = alike (added_on t (records_in past)) (commands_in d rate past) (blocks_in d past) in
        (sym same, AreThose-alike (blocks_in d past) _ (records_in past) (sym same) those)
    by false = those

pub those_at : StaysAlike → (d : DriveView) (rate : ℕ) (h : List DriveCall) → AreThose (blocks_in d (annals d rate h)) (records_in (annals d rate h))
those_at alike d rate [] = tt
those_at alike d rate (Mst cycle content ∷ h) = AreThose-in_phase (stands_in d rate cycle (mst_got content) (annals d rate h)) _ _ (those_at alike d rate h)
those_at alike d rate (Mdt content ∷ h) =
    let told = mdt_got d.address (phase_in (annals d rate h)) (blocks_in d (annals d rate h)) content in
    AreThose-in_phase (ends_in told (annals d rate h)) _ _ (AreThose-after alike d rate told (annals d rate h) (those_at alike d rate h))
those_at alike d rate (Restart ∷ h) = tt
