-- What the requests of an epoch cost.
use Rattle.sercos_law_channel.proofs.Words.{cases_Bool, ◌≡◌, ℕ, suc, ◌+◌, ◌*◌, ◌^◌, ◌<◌, ◌≤◌, Bool, true, false, List, [], ◌∷◌, ◌++◌, length, refl, sym, ap, ◌∙◌, subst, arith, if◌then◌else◌, length-append, Option, Some, None, is_some, beq, Request, Outcome, shape_of, shape_by, outcome_of, next_step, has_next, times_le, Block, find_block, status_in, Processed, Entry, accepted, reply_of, log_of, Write, writes_of, Begun, step_at, open_in, steps_in, answers_in, is_odd, AreInStep, Idle, Sent, Kept, log_steps, replies_of, AreInTurn, IsRow, IsPart, Unsent, Unheard, AreParts, AreReplies, HaveBlocks, IsTransfer, View, standing, stood_in, record_in, with_record, unless_restart, epoch_begun, epoch_records, records_in_views, epoch_log, log_in, IsRun, leaving, all_writes, AreSound, AreSmall, time_for, AreClean, open_since, IsInTime, RestsNow, WaitsNow, AreSpaced, newest_at, IsTimed, AreTimed, AreListed, read_steps, write_steps, cost_of, cost_in, cond_both, append-nil, inl, inr, cases_Option}
use Rattle.sercos_step.specs.declared.request.Request.TheVariants as request
use Rattle.sercos_law_channel.specs.Handshake.Parts.{Heard}
use Rattle.sercos_law_channel.proofs.Handshake.HandshakeMoves.{log-taken}
use Rattle.sercos_law_channel.proofs.Handshake.LogParts.{fall_into_parts, make_transfers}
use Rattle.sercos_law_channel.proofs.Handshake.ReadStages.{low_of, high_of}
use Rattle.sercos_law_channel.proofs.Handshake.TransferSteps.{length-replies_of}
use Rattle.sercos_law_channel.proofs.Handshake.PhaseMoves.{of_processed}
use Rattle.sercos_law_channel.proofs.Handshake.EpochRuns.{in_step}
use Rattle.sercos_law_channel.proofs.Handshake.WholeRuns.{HasReplies, answered_replies, writes_ago, writes_in_epochs}
use Rattle.sercos_law_channel.proofs.Handshake.ExactRuns.{split_replies, split_blocks, epoch}
use Rattle.sercos_law_channel.proofs.Pace.OnTimeRuns.{time_of, one_more_time}
use Rattle.sercos_law_channel.proofs.Pace.LateRuns.{comes_in_time}
use Rattle.sercos_law_channel.proofs.Pace.SpacedSteps.{spaces_steps}
use Rattle.sercos_law_channel.proofs.Pace.TransferCosts.{LogListed, unknown_one, read_found, write_found, HaveTime, command_found, command_unknown}

-- at each entry at which a command runs, the newest write to it is no longer ago than a command takes
abbrev pub LogTimed : ℕ → List Write → List Entry → Type 0
LogTimed time ago [] = Unit {0}
LogTimed time ago (p ∷ log) = LogTimed time ago log × ((raw : ℕ) → status_in p.processed.commands raw p.processed.cycle ≡ 7 → (at : ℕ) × (newest_at raw (writes_of log ++ ago) ≡ Some at) × (p.processed.cycle < at + time))

split_timed : (time : ℕ) (ago : List Write) (part rest : List Entry) → LogTimed time ago (part ++ rest) → LogTimed time ago rest
split_timed time ago [] rest timed = timed
split_timed time ago (e ∷ part) rest timed = split_timed time ago part rest timed.0

split_spaced : (busy : ℕ) (part rest : List Entry) → AreSpaced busy (part ++ rest) → AreSpaced busy part × AreSpaced busy rest
split_spaced busy [] rest spaced = (tt, spaced)
split_spaced busy (e ∷ []) [] spaced = (tt, tt)
split_spaced busy (e ∷ []) (f ∷ rest) spaced = (tt, spaced.0)
split_spaced busy (e ∷ d ∷ part) rest spaced = let older = split_spaced busy (d ∷ part) rest spaced.0 in ((older.0, spaced.1), older.1)

split_listed : (longest : ℕ → ℕ) (part rest : List Entry) → LogListed longest (part ++ rest) → LogListed longest part × LogListed longest rest
split_listed longest [] rest listed = (tt, listed)
split_listed longest (e ∷ part) rest listed = let older = split_listed longest part rest listed.0 in ((older.0, listed.1), older.1)

module _ (said : (b : Block) → b.attribute.factor < 2 ^ 16 → shape_of 7 (low_of b + 65536 * high_of b) ≡ shape_by b.attribute.length)
    (busy time : ℕ) (longest : ℕ → ℕ) (blocks : List Block) (small : AreSmall blocks) where
  have_time : (raw : ℕ) (b : Block) (found : find_block raw blocks ≡ Some b) (ago : List Write) (part rest : List Entry) → LogTimed time ago (part ++ rest) → HaveTime (record { raw = raw }) blocks b found busy time rest ago part
  have_time raw b found ago [] rest timed = tt
  have_time raw b found ago (p ∷ part) rest timed = (have_time raw b found ago part rest timed.0, timed.1 raw)

  -- one transfer
  row_cost : (r : Request) (ago : List Write) (e : Entry) (entries rest : List Entry) → IsTransfer r blocks e entries rest → AreSpaced busy (e ∷ entries) → LogTimed time ago (entries ++ rest) → LogListed longest (e ∷ entries) → (busy + 1) * suc (length entries) ≤ cost_of busy time longest blocks r
  row_cost (request.Read idn n) ago e entries rest is spaced timed listed = by (find_block idn.raw blocks) refl
    where
      by : (o : Option Block) → find_block idn.raw blocks ≡ o → (busy + 1) * suc (length entries) ≤ (busy + 1) * read_steps (longest idn.raw) n o
      by None none = times_le (busy + 1) (suc (length entries)) 1 (unknown_one (request.Read idn n) blocks e entries rest none is)
      by (Some b) found = times_le (busy + 1) (suc (length entries)) (read_steps (longest idn.raw) n (Some b)) (read_found idn blocks b found (said b (small idn.raw b found)) longest n e entries rest is listed)
  row_cost (request.Write idn n bytes) ago e entries rest is spaced timed listed = by (find_block idn.raw blocks) refl
    where
      by : (o : Option Block) → find_block idn.raw blocks ≡ o → (busy + 1) * suc (length entries) ≤ (busy + 1) * write_steps n bytes o
      by None none = times_le (busy + 1) (suc (length entries)) 1 (unknown_one (request.Write idn n bytes) blocks e entries rest none is)
      by (Some b) found = times_le (busy + 1) (suc (length entries)) (write_steps n bytes (Some b)) (write_found idn blocks b found (said b (small idn.raw b found)) n bytes e entries rest is)
  row_cost (request.Command idn) ago e entries rest is spaced timed listed = elim (cases_Option (find_block idn.raw blocks)) [
    | inl none ↦ command_unknown busy time (suc (length entries)) (unknown_one (request.Command idn) blocks e entries rest none is)
    | inr (b, found) ↦ command_found idn blocks b found busy time rest ago e entries is (before entries spaced) (have_time idn.raw b found ago entries rest timed)
  ]
    where
      before : (xs : List Entry) → AreSpaced busy (e ∷ xs) → AreSpaced busy xs
      before [] are = tt
      before (x ∷ xs) are = are.0

  part_row : (b : Begun) (ago : List Write) (e : Entry) (entries part rest : List Entry) → part ≡ e ∷ entries → IsRow b e entries → AreReplies part rest → HaveBlocks blocks part → AreSpaced busy part → LogTimed time ago (part ++ rest) → LogListed longest part → (busy + 1) * length part ≤ cost_of busy time longest blocks b.request
  part_row b ago e entries part rest those row replies alike spaced timed listed = rw those (row_cost b.request ago e entries rest
      (make_transfers b blocks e entries rest row (rw those at replies) (rw those at alike)) (rw those at spaced) (rw those at timed).0
      (rw those at listed))

  nothing : (busy + 1) * 0 ≡ 0
  nothing = omega arith

  part_cost : (b : Begun) (ago : List Write) (part rest : List Entry) → AreReplies part rest → HaveBlocks blocks part → AreSpaced busy part → LogTimed time ago (part ++ rest) → LogListed longest part → IsPart b part → (busy + 1) * length part ≤ cost_of busy time longest blocks b.request
  part_cost b ago part rest replies alike spaced timed listed (Unsent none unheard) = let zero : (busy + 1) * length part ≡ 0 = ap (λ (l : List Entry). (busy + 1) * length l) none ∙ nothing in omega (arith, zero)
  part_cost b ago part rest replies alike spaced timed listed (Heard e entries those row answers) = part_row b ago e entries part rest those row replies alike spaced timed listed
  part_cost b ago part rest replies alike spaced timed listed (Unheard e entries those row answers) = part_row b ago e entries part rest those row replies alike spaced timed listed

  -- the cycles give the times
  timed_start : (r : Bool) (past : List View) → LogTimed time (writes_ago past) (epoch_log past) → LogTimed time (leaving r (writes_of (epoch_log past)) (writes_ago past)) (log_of (if r then [] else epoch_records past))
  timed_start true past timed = tt
  timed_start false past timed = timed

  same_writes : (r : Bool) (past : List View) → IsRun busy past → all_writes past ≡ writes_of (log_of (if r then [] else epoch_records past)) ++ leaving r (writes_of (epoch_log past)) (writes_ago past)
  same_writes true past run = writes_in_epochs busy past run
  same_writes false past run = writes_in_epochs busy past run

  timed_cycle : (v : View) (past : List View) → IsRun busy (v ∷ past) → IsTimed time v past → LogTimed time (writes_ago past) (epoch_log past) → LogTimed time (leaving v.master_restarts (writes_of (epoch_log past)) (writes_ago past)) (log_in v past)
  timed_cycle v past run is timed =
      let ago = leaving v.master_restarts (writes_of (epoch_log past)) (writes_ago past) in
      let old = timed_start v.master_restarts past timed in
      of_processed v past (λ o. LogTimed time ago (log_of (with_record o (unless_restart v (epoch_records past))))) old (λ s got came two.
      let t : Processed = record_in v (length past) (stood_in v (standing past)) s in
      let log = log_of (unless_restart v (epoch_records past)) in
      let same = same_writes v.master_restarts past run.0 in
      subst (LogTimed time ago) (sym (log-taken t (unless_restart v (epoch_records past))))
      (cond_both (beq t.mhs (is_odd log)) log ((record { processed = t; answer = reply_of t log }) ∷ log) (LogTimed time ago) (λ same. old)
      (λ other. (old, λ raw seven. let w = is raw seven in (w.0, ap (newest_at raw) (sym same) ∙ w.1, w.2)))))

  timed_in : (past : List View) → IsRun busy past → AreTimed time past → LogTimed time (writes_ago past) (epoch_log past)
  timed_in [] run are = tt
  timed_in (v ∷ past) run are = elim (cases_Bool v.falls) [
    | inl on ↦ rw on tt
    | inr off ↦ rw off (timed_cycle v past run are.1 (timed_in past run.0 are.0))
  ]

  -- .. and the lists
  listed_in : (past : List View) → AreListed longest past → LogListed longest (epoch_log past)
  listed_in [] are = tt
  listed_in (v ∷ past) are =
      let taken = unless_restart v (epoch_records past) in
      let log = log_of taken in
      let old = cond_both v.master_restarts [] (epoch_records past) (λ h. LogListed longest (log_of h)) (λ on. tt)
      (λ off. listed_in past are.0) in
      cond_both v.falls [] (records_in_views v past) (λ h. LogListed longest (log_of h)) (λ fell. tt)
      (λ on. of_processed v past (λ o. LogListed longest (log_of (with_record o taken))) old (λ s got came two.
      let t : Processed = record_in v (length past) (stood_in v (standing past)) s in
      subst (LogListed longest) (sym (log-taken t taken))
      (cond_both (beq t.mhs (is_odd log)) log ((record { processed = t; answer = reply_of t log }) ∷ log) (LogListed longest)
      (λ same. old) (λ other. (old, are.1)))))

  -- the answers are at most the accepted steps
  answers_few : (begun : List Begun) (log : List Entry) → AreInStep begun log → length (answers_in begun) ≤ length log
  answers_few begun log (Idle none s a) = let y = ap length a in let m = length-replies_of log in omega (arith, y, m)
  answers_few begun log (Sent step opened s a) = let y = ap length a in let m = length-replies_of log in omega (arith, y, m)
  answers_few begun log (Kept e past opened is s a) = let y = ap length a in let z = ap length is in let m = length-replies_of past in omega (arith, y, z, m)

  -- .. and one less if one waits
  answers_fewer : (e : Entry) (past : List Entry) (begun : List Begun) (log : List Entry) → AreInStep begun log → steps_in begun ≡ log_steps log → open_in begun ≡ Some e.processed.step → length (answers_in begun) + 1 ≤ length log
  answers_fewer e past begun log (Idle none s a) all opened = absurd (cc)
  answers_fewer e past begun log (Sent step at s a) all opened = let more = ap length (sym s ∙ all) in absurd (omega (arith, more))
  answers_fewer e past begun log (Kept x rest at is s a) all opened = let y = ap length a in let z = ap length is in let m = length-replies_of rest in omega (arith, y, z, m)

  -- requests that have ended have as many steps as answers
  parts_answered : (old : List Begun) (log : List Entry) → AreParts old log → AreInTurn old → open_in old ≡ None → length log ≤ length (answers_in old)
  parts_answered [] log none turn shut = omega (arith, ap length none)
  parts_answered (b ∷ past) log (part, rest, those, of, others) turn shut =
      let long : length log ≡ length part + length rest = ap length those ∙ length-append part rest in
      omega (arith, of_part of, parts_answered past rest others turn.0 turn.1.0, long, length-append b.answers (answers_in past))
    where
      open_still : (e : Entry) (entries : List Entry) → IsRow b e entries → b.answers ≡ replies_of entries → ⊥
      open_still e entries row answers =
          let on : outcome_of b.request b.answers ≡ None = ap (outcome_of b.request) answers ∙ row.goes_on in
          let at : step_at b.request b.answers ≡ next_step b.request b.answers = ap (λ (o : Option Outcome). if is_some o then None else next_step b.request b.answers) on in
          let bad : true ≡ false = sym (has_next b.request b.answers (ap is_some on)) ∙ (ap is_some (sym at ∙ shut)) in absurd (cc)

      of_part : IsPart b part → length part ≤ length b.answers
      of_part (Unsent none unheard) = let long = ap length none in omega (arith, long)
      of_part (Heard e entries is row answers) = let long = ap length is in let got = ap length answers in let count = length-replies_of (e ∷ entries) in omega (arith, long, got, count)
      of_part (Unheard e entries is row answers) = absurd (open_still e entries row answers)

  parts_since : (ago : List Write) (recent old : List Begun) (log : List Entry) → AreParts (recent ++ old) log → AreInTurn (recent ++ old) → open_in old ≡ None → HasReplies log → HaveBlocks blocks log → AreSpaced busy log → LogTimed time ago log → LogListed longest log →
      (busy + 1) * length log ≤ cost_in (cost_of busy time longest blocks) recent + (busy + 1) * length (answers_in old)
  parts_since ago [] old log parts turn shut replies alike spaced timed listed = let le = times_le (busy + 1) (length log) (length (answers_in old)) (parts_answered old log parts turn shut) in omega (arith, le)
  parts_since ago (b ∷ recent) old log (part, rest, those, of, others) turn shut replies alike spaced timed listed =
      let replies_split = split_replies part rest (subst HasReplies those replies) in
      let blocks_split = split_blocks blocks part rest (subst (HaveBlocks blocks) those alike) in
      let spaced_split = split_spaced busy part rest (subst (AreSpaced busy) those spaced) in
      let whole : LogTimed time ago (part ++ rest) = subst (LogTimed time ago) those timed in
      let lists = split_listed longest part rest (subst (LogListed longest) those listed) in
      let more = parts_since ago recent old rest others turn.0 shut replies_split.1 blocks_split.1 spaced_split.1 (split_timed time ago part rest whole) lists.1 in
      let long : length log ≡ length part + length rest = ap length those ∙ length-append part rest in
      let sum : (busy + 1) * length log ≡ (busy + 1) * length part + (busy + 1) * length rest = ap (λ (n : ℕ). (busy + 1) * n) long ∙ grind arith in
      omega (arith, part_cost b ago part rest replies_split.0 blocks_split.0 spaced_split.0 whole lists.0 of, more, sum)

  opens_in_log : (cycles past : List View) → IsRun busy (cycles ++ past) → AreClean cycles past → open_since cycles past + (busy + 1) * length (answers_in (epoch_begun past)) ≤ (busy + 1) * length (epoch_log (cycles ++ past))
  opens_in_log [] past run clean = let le = times_le (busy + 1) (length (answers_in (epoch_begun past))) (length (epoch_log past)) (answers_few (epoch_begun past) (epoch_log past) (in_step busy past run)) in omega (arith, le)
  opens_in_log (v ∷ cycles) past run clean = by (comes_in_time busy v cycles past run clean)
    where
      all : List View
      all = v ∷ (cycles ++ past)

      before : time_for busy (answers_in (epoch_begun past)) ≡ (busy + 1) * length (answers_in (epoch_begun past))
      before = time_of busy (answers_in (epoch_begun past))

      now : time_for busy (answers_in (epoch_begun all)) ≡ (busy + 1) * length (answers_in (epoch_begun all))
      now = time_of busy (answers_in (epoch_begun all))

      by : IsInTime busy (v ∷ cycles) past → open_since (v ∷ cycles) past + (busy + 1) * length (answers_in (epoch_begun past)) ≤ (busy + 1) * length (epoch_log all)
      by (RestsNow none is) =
          let le = times_le (busy + 1) (length (answers_in (epoch_begun all))) (length (epoch_log all)) (answers_few (epoch_begun all) (epoch_log all) (in_step busy all run)) in omega (arith, before, now, le, is)
      by (WaitsNow e log those opened same earlier late sum) =
          let le = times_le (busy + 1) (length (answers_in (epoch_begun all)) + 1) (length (epoch_log all)) (answers_fewer e log (epoch_begun all) (epoch_log all) (in_step busy all run) same opened) in
          let one = one_more_time busy (length (answers_in (epoch_begun all))) in omega (arith, before, now, le, one, late, sum)

  -- The steps accepted cost no more than the recent requests, and those before them, if these have ended.
  pub stays_in_cost_since : (past : List View) (recent old : List Begun) → IsRun busy past → AreSound blocks past → AreTimed time past
      → AreListed longest past →
      epoch_begun past ≡ recent ++ old → open_in old ≡ None → (busy + 1) * length (epoch_log past)
      ≤ cost_in (cost_of busy time longest blocks) recent + (busy + 1) * length (answers_in old)
  stays_in_cost_since past recent old run sound timed listed split shut =
      let is = epoch blocks busy past run sound in
      let parts = fall_into_parts (epoch_begun past) (epoch_log past) is.in_turn (in_step busy past run) in
      parts_since (writes_ago past) recent old (epoch_log past) (subst (λ (l : List Begun). AreParts l (epoch_log past)) split parts)
      (subst AreInTurn split is.in_turn) shut
      (answered_replies (accepted (epoch_records past))) is.alike (spaces_steps busy past run) (timed_in past run timed)
      (listed_in past listed)

  -- so all cost no more than all requests
  pub stays_in_cost : (past : List View) → IsRun busy past → AreSound blocks past → AreTimed time past → AreListed longest past → (busy + 1) * length (epoch_log past) ≤ cost_in (cost_of busy time longest blocks) (epoch_begun past)
  stays_in_cost past run sound timed listed =
      omega
      (arith, stays_in_cost_since past (epoch_begun past) [] run sound timed listed (sym (append-nil (epoch_begun past))) refl, nothing)

  pub opens_in_cost : (cycles past : List View) → IsRun busy (cycles ++ past) → AreSound blocks (cycles ++ past) → AreTimed time (cycles ++ past) → AreListed longest (cycles ++ past) → AreClean cycles past →
      open_since cycles past + (busy + 1) * length (answers_in (epoch_begun past)) ≤ cost_in (cost_of busy time longest blocks) (epoch_begun (cycles ++ past))
  opens_in_cost cycles past run sound timed listed clean =
      omega (arith, opens_in_log cycles past run clean, stays_in_cost (cycles ++ past) run sound timed listed)

  -- the recent requests
  pub opens_since_cost : (cycles past : List View) (recent old : List Begun) → IsRun busy (cycles ++ past) → AreSound blocks (cycles ++ past) → AreTimed time (cycles ++ past) → AreListed longest (cycles ++ past) → AreClean cycles past →
      epoch_begun (cycles ++ past) ≡ recent ++ old → open_in old ≡ None → length (answers_in old) ≤ length (answers_in (epoch_begun past)) → open_since cycles past ≤ cost_in (cost_of busy time longest blocks) recent
  opens_since_cost cycles past recent old run sound timed listed clean split shut few =
      let cost = stays_in_cost_since (cycles ++ past) recent old run sound timed listed split shut in
      let opens = opens_in_log cycles past run clean in
      let le = times_le (busy + 1) (length (answers_in old)) (length (answers_in (epoch_begun past))) few in omega (arith, opens, cost, le)
