-- The trace of a run is a clean capture that begins with cycle 0.
use Rattle.sercos_model.proofs.OptionLemmas.{option_or-none}
use Rattle.sercos_law_trace.proofs.Words.{◌≡◌, ℕ, zero, suc, ◌<◌, ◌≤◌, nat_le, true, false, not, List, [], ◌∷◌, ◌++◌, length, map, reverse, Option, Some, None, slice_index_or, refl, sym, ◌∙◌, ap, subst, arith, append-nil, option_and_then, All, flat_map, option_or, and_parts, nat_tests, All-nil, All-cons, IsValid, IsWish, is_address, WishesView, Job, has_address, has_drive_numbers, wish_of, AreWithinLimits, DriveView, RingView, Line, Totals, ReadsBack, cycle_text, header_text, end_text, trace_of, SentView, CycleView, has_head, TellsFollowing, Clean, read_as, wish_is, drives_so, address_of, ring_timed, s_known, drive_got, got_inside, first_store, wishes_count, Carry, Restarts, mst_said, no_drive, drive_at, sent_mst, looks_back, begins, ats_next, mdt_next, IsRun, IsOpened, lines_with, lines_of, FitLines, ReadsTraces, reads_traces, told_in, KeepRules, FitOthers, TracesAreClean, IsRing-is_ring, ring_is_valid, are_drives, are_drive_numbers, wishes_of, capture_fault, first_violation, verdict_by, verdict_of, lines_after, lines_read, kind_cycle, mst_cycle, first_cycle, late, late_start}
use Rattle.sercos_block.specs.Rings.{is_drive}
use Rattle.sercos_trace.specs.declared.reading.Line.TheVariants as line
use Rattle.sercos_answer.specs.Lines as answer
use Rattle.sercos_replay.specs.Captured.{telegrams}
use Rattle.sercos_law_trace.proofs.Clean.PassLemmas.{Leads, leads_both}
use Rattle.sercos_law_trace.proofs.Clean.LineLeads.{Stands, journal_leads, end_leads}
use Rattle.sercos_law_trace.proofs.Clean.HeadLeads.{FitsDrive, FitsHead, header_leads}
use Rattle.sercos_law_trace.proofs.Clean.RunRules.{runs_keep_rules, cycle_low}
use Rattle.sercos_law_trace.proofs.Clean.FitRuns.{runs_fit_lines}
use Rattle.sercos_law_trace.proofs.Clean.ChainFits.{by_rate}

-- THE VERDICT
ended : (lines : List Line) → has_head lines ≡ true → capture_fault lines [] ≡ None
unfolding capture_fault
ended lines has = rw has refl

no_violation : (lines : List Line) → first_violation lines [] ≡ None
unfolding first_violation
no_violation lines = refl

no_lines : answer.lines_of [] ≡ []
unfolding answer.lines_of
no_lines = refl

verdict_so : (text : List ℕ) → capture_fault [] (answer.lines_of text) ≡ None → first_violation [] (answer.lines_of text) ≡ None → verdict_of text ≡ Clean (length (answer.lines_of text))
unfolding verdict_of verdict_by
verdict_so text fault violation = rw (fault, violation) refl

clean_text : TellsFollowing → ReadsBack → (w : WishesView) (j : List CycleView) (t : Totals) → IsValid w → FitsHead w → FitLines j → FitOthers w j t → KeepRules w (told_in j)
    → verdict_of (trace_of w (reverse j) t) ≡ Clean (length (answer.lines_of (trace_of w (reverse j) t)))
clean_text tells law w j t valid head fit others kept =
    let text = trace_of w (reverse j) t in
    let all : Leads (trace_of w (reverse j) t) (λ lines. lines ≡ []) (λ lines. has_head lines ≡ true) =
    leads_both (header_text w) (flat_map (cycle_text w) (reverse j) ++ end_text t) (λ lines. lines ≡ []) (Stands w []) (λ lines. has_head lines ≡ true) (header_leads tells law w valid head)
    (leads_both (flat_map (cycle_text w) (reverse j)) (end_text t) (Stands w []) (Stands w (told_in j)) (λ lines. has_head lines ≡ true) (journal_leads tells law w j fit others.cycles kept) (end_leads tells law w t (told_in j) others.totals)) in
    let goes = all [] refl in
    verdict_so text
    (ap (λ l. capture_fault [] (answer.lines_of l)) (sym (append-nil text)) ∙ goes.fault [] ∙ ap (capture_fault goes.after) no_lines ∙ ended goes.after goes.holds)
    (ap (λ l. first_violation [] (answer.lines_of l)) (sym (append-nil text)) ∙ goes.violation [] ∙ ap (first_violation goes.after) no_lines ∙ no_violation goes.after)

-- THE FIRST CYCLE of the lines, the newest of which comes first
abbrev oldest : List Line → Option ℕ
oldest [] = None
oldest (l ∷ before) = option_or (oldest before) (mst_cycle l)

or_more : (a b c : Option ℕ) → option_or a (option_or b c) ≡ option_or (option_or a b) c
or_more None b c = refl
or_more (Some x) b c = refl

first_after : (texts : List (List ℕ)) (before : List Line) → option_or (oldest before) (first_cycle texts) ≡ oldest (lines_after before texts)
unfolding first_cycle lines_after
first_after [] before = option_or-none (oldest before)
first_after (text ∷ texts) before = or_more (oldest before) (mst_cycle (read_as text)) (first_cycle texts) ∙ first_after texts (read_as text ∷ before)

oldest_telegrams : (lines : List Line) → oldest lines ≡ oldest (telegrams lines)
unfolding telegrams mst_cycle
oldest_telegrams [] = refl
oldest_telegrams (line.Version ∷ lines) = option_or-none (oldest lines) ∙ oldest_telegrams lines
oldest_telegrams (line.Ring rate cycle control gap drives ∷ lines) = option_or-none (oldest lines) ∙ oldest_telegrams lines
oldest_telegrams (line.Drive wish ∷ lines) = option_or-none (oldest lines) ∙ oldest_telegrams lines
oldest_telegrams (line.Order addresses ∷ lines) = option_or-none (oldest lines) ∙ oldest_telegrams lines
oldest_telegrams (line.Telegram cycle sent ∷ lines) = ap (λ (o : Option ℕ). option_or o (kind_cycle sent.kind cycle)) (oldest_telegrams lines)
oldest_telegrams (line.Other ∷ lines) = option_or-none (oldest lines) ∙ oldest_telegrams lines
oldest_telegrams (line.End ∷ lines) = option_or-none (oldest lines) ∙ oldest_telegrams lines

stays_oldest : (cycle x : ℕ) (sent : List SentView) (lines : List Line) → oldest lines ≡ Some x → oldest (lines_with cycle sent lines) ≡ Some x
stays_oldest cycle x [] lines is = is
stays_oldest cycle x (s ∷ sent) lines is = stays_oldest cycle x sent (line.Telegram cycle s ∷ lines) (ap (λ (o : Option ℕ). option_or o (mst_cycle (line.Telegram cycle s))) is)

mst_first : (cycle : ℕ) (content : List ℕ) (ats rest : List SentView) → oldest (lines_with cycle ((sent_mst content ∷ ats) ++ rest) []) ≡ Some cycle
unfolding mst_cycle kind_cycle
mst_first cycle content ats rest = stays_oldest cycle cycle (ats ++ rest) (line.Telegram cycle (sent_mst content) ∷ []) refl

module _ (r : RingView) (jobs : List Job) (carry : Carry) (restarts : Restarts) where
  from_zero : (t : CycleView) (j : List CycleView) → IsRun r jobs carry restarts (t ∷ j) → oldest (lines_of (t ∷ j)) ≡ Some 0
  from_zero t [] run =
      ap (λ (l : List SentView). oldest (lines_with t.cycle l [])) run.1.sent
      ∙ mst_first t.cycle (mst_said (looks_back r jobs (begins r carry restarts []))) (ats_next r carry restarts t.sent []) (mdt_next r jobs carry restarts t.sent []) ∙ ap Some run.1.cycle
  from_zero t (u ∷ j) run = stays_oldest t.cycle 0 t.sent (lines_of (u ∷ j)) (from_zero u j run.0)

  not_late : (j : List CycleView) → IsRun r jobs carry restarts j → option_and_then late (oldest (lines_of j)) ≡ None
  unfolding late
  not_late [] run = refl
  not_late (t ∷ j) run = ap (option_and_then late) (from_zero t j run)

  starts_so : ReadsTraces → (w : WishesView) (j : List CycleView) (t : Totals) → IsRun r jobs carry restarts j → FitLines j → late_start (trace_of w (reverse j) t) ≡ None
  unfolding late_start lines_read
  starts_so reads w j t run fit =
      let texts = answer.lines_of (trace_of w (reverse j) t) in
      let found : first_cycle (answer.lines_of (trace_of w (reverse j) t)) ≡ oldest (lines_of j) =
      first_after texts [] ∙ oldest_telegrams (lines_read (trace_of w (reverse j) t)) ∙ ap oldest (reads w j t fit) ∙ sym (oldest_telegrams (lines_of j)) in
      ap (option_and_then late) found ∙ not_late j run

-- THE HEAD of a ring
slave_low : (before drives : List DriveView) (k : ℕ) → are_drives before drives ≡ true → k < length drives → (slice_index_or drives k no_drive).slave ≤ 254
unfolding are_drives is_drive are_drive_numbers
slave_low before [] k are below = absurd (omega (arith, below))
slave_low before (d ∷ drives) zero are below =
    let one = (and_parts (is_drive before d) (are_drives (before ++ d ∷ []) drives) are).0 in
    let numbers = (and_parts (has_drive_numbers d) _ (and_parts (not (has_address d.address before)) _ one).1).0 in
    let slave = (and_parts (is_address d.slave) _ (and_parts (is_address d.address) _ numbers).1).0 in
    grind (arith, nat_tests, (and_parts (nat_le 1 d.slave) (nat_le d.slave 254) slave).1)
slave_low before (d ∷ drives) (suc k) are below = slave_low (before ++ d ∷ []) drives k (and_parts (is_drive before d) (are_drives (before ++ d ∷ []) drives) are).1 (omega (arith, below))

all_wishes : (drives : List DriveView) → ((k : ℕ) → k < length drives → FitsDrive (wish_of (slice_index_or drives k no_drive))) → All FitsDrive (map wish_of drives)
all_wishes [] each = All-nil FitsDrive
all_wishes (d ∷ drives) each = All-cons FitsDrive (wish_of d) (map wish_of drives) (each 0 (omega arith)) (all_wishes drives (λ k low. each (suc k) (omega (arith, low))))

module _ (r : RingView) (jobs : List Job) (opened : IsOpened r jobs) where
  pub valid : IsValid (wishes_of r)
  valid = ring_is_valid r opened.valid (λ k d got.
      let (low, same) = got_inside r.drives k d got in
      let typed = opened.typed k low in
      (subst (λ (x : DriveView). length x.at ≤ 16) (sym same) typed.at, subst (λ (x : DriveView). length x.mdt ≤ 16) (sym same) typed.mdt))

  wish_fits : (k : ℕ) → k < length r.drives → FitsDrive (wish_of (drive_at r k))
  wish_fits k below =
      let address = (address_of r k opened.valid below).1 in
      let slave = slave_low [] r.drives k (drives_so r opened.valid) below in
      let times : AreWithinLimits (drive_at r k).times = (IsRing-is_ring r opened.valid).times k no_drive below in
      let count = wishes_count r in
      let is : IsWish (wish_of (drive_at r k)) = subst IsWish (wish_is r k (drive_at r k) (drive_got r k below)) (valid.drives.wishes k (omega (arith, below, count))) in
      record {
        address = omega (arith, address);
        slave = omega (arith, slave);
        t1min = omega (arith, times.t1min);
        tatmt = omega (arith, times.tatmt);
        t4min = omega (arith, times.t4min);
        tatat = omega (arith, times.tatat);
        tmtsy = omega (arith, times.tmtsy);
        tmtsg = omega (arith, times.tmtsg);
        at_len = omega (arith, is.at_len.1);
        record_len = omega (arith, is.record_len.1);
      }

  head_fits : FitsHead (wishes_of r)
  unfolding wishes_of
  head_fits =
      let cycle = cycle_low r.cycle valid.cycles.cycle in
      let known = s_known r jobs (λ p bits. None) (λ cycle station. false) opened (first_store r jobs (λ p bits. None) (λ cycle station. false) opened) in
      let control = (ring_timed r known opened.valid).control in
      record {
        rate = by_rate (λ rate. rate ≤ 255) r.rate valid.cycles.rate (omega arith) (omega arith) (omega arith) (omega arith);
        cycle = omega (arith, cycle);
        control = omega (arith, control);
        gap = omega (arith, valid.cycles.gap);
        drives = all_wishes r.drives wish_fits;
      }

pub traces_are_clean : TellsFollowing → ReadsBack → TracesAreClean
traces_are_clean tells law r jobs carry restarts j t opened run clear few others =
    let fit = runs_fit_lines r jobs carry restarts j opened run few in
    record {
      clean = clean_text tells law (wishes_of r) j t (valid r jobs opened) (head_fits r jobs opened) fit others (runs_keep_rules r jobs carry restarts j opened run clear);
      starts = starts_so r jobs carry restarts (reads_traces law) (wishes_of r) j t run fit;
    }
