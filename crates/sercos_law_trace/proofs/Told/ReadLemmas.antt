-- Complete reads of operation data are exact.
use Rattle.sercos_law_trace.proofs.Words.{◌≡◌, ◌⊎◌, inl, inr, ℕ, ◌+◌, ◌<◌, Bool, true, false, if◌then◌else◌, List, [], ◌∷◌, ◌++◌, length, Some, sym, ap, subst, ◌∙◌, arith, is_some, slice_get, length-map, Idn, data_element, Job, Outcome, outcome_of, find_block, store_of, RingView, begun_by, Entry, CycleView, Carry, Restarts, MemberView, member_of, known_of, member, Report, number_in, Past, fall_of, is_idle, broken, restart_told, HasOutcome, HasReport, told_at_end, all_entries, all_writes, AreExact, Write, element_in, IsRun, IsClear, drive_at, looks_back, middle, master_calls, no_events, restart_events, behind_mdt, view_of, views_of, member_is, Headline, AreReportedIn, IsExactAt, IsReadFrom, ReadsAreExact, rest_runs, rest_clear, same_Some}
use Rattle.sercos_step.specs.declared.request.Request.TheVariants as request
use Rattle.sercos_step.specs.declared.request.Outcome.TheVariants as outcome
use Rattle.sercos_law_trace.proofs.Told.ToldLemmas.{told_cut, not_broken, HasReported, reported_at_end, in_all, request_of}
use Rattle.sercos_law_trace.proofs.Told.LaterTasks.{HasEnded, has_ended}
use Rattle.sercos_law_trace.proofs.Told.EntryLemmas.{HasAccepted, on_store, behind_in, begun_among, one_exact, among_all, accepted_in, accepted_later}

-- The channel at a place reported what is told as complete.
pub record IsReportedAt (r : RingView) (jobs : List Job) (carry : Carry) (restarts : Restarts) (t : CycleView) (j : List CycleView) (n : ℕ) (o : Outcome) : Type 0 where
  pub place : ℕ
  pub below : place < length r.drives
  pub reported : HasReported ((behind_mdt r jobs carry restarts t.sent j).now.report place) n o

pub reported_at : (r : RingView) (jobs : List Job) (carry : Carry) (restarts : Restarts) (t : CycleView) (j : List CycleView) (n : ℕ) (bytes : List ℕ) → AreReportedIn r jobs carry restarts t j
    → HasOutcome t.events.outcomes n (outcome.Complete bytes) → IsReportedAt r jobs carry restarts t j n (outcome.Complete bytes)
reported_at r jobs carry restarts t j n bytes reported told = by ((reported.events n (outcome.Complete bytes)).0 told)
  where
    p : Past
    p = behind_mdt r jobs carry restarts t.sent j

    if_restarts : (b : Bool) → HasOutcome (if b then restart_told (known_of r) (looks_back r jobs (master_calls r carry restarts j)) no_events else no_events).outcomes n (outcome.Complete bytes) → ⊥
    if_restarts true has = (let (k, below, broken) = (reported.at_restart n (outcome.Complete bytes)).0 has in not_broken
        (is_idle (looks_back r jobs (master_calls r carry restarts j)) k)
        (number_in ((looks_back r jobs (master_calls r carry restarts j)).tasks k)) n bytes broken)
    if_restarts false has = has

    by : HasOutcome (restart_events r jobs restarts (length j) (master_calls r carry restarts j)).outcomes n (outcome.Complete bytes)
        ⊎ ((k : ℕ) × (k < length (known_of r).drives) × HasReport (told_at_end (is_some (fall_of (known_of r) p)) (p.now.report k) (broken p k) []) n (outcome.Complete bytes))
        → IsReportedAt r jobs carry restarts t j n (outcome.Complete bytes)
    by (inl has) = absurd (if_restarts (restarts (length j) 0) has)
    by (inr (k, below, has)) = record {
      place = k;
      below = subst (λ m. k < m) (length-map r.drives member_of) below;
      reported = reported_at_end (is_some (fall_of (known_of r) p)) (p.now.report k) (is_idle p k) (number_in (p.tasks k)) n bytes has;
    }

-- It was begun as the request with the number.
pub record IsBegunAs (r : RingView) (jobs : List Job) (carry : Carry) (restarts : Restarts) (t : CycleView) (j : List CycleView) (k n : ℕ) (o : Outcome) : Type 0 where
  pub report : Report
  pub ends : HasEnded (known_of r) k ((behind_mdt r jobs carry restarts t.sent j).waiting k)
      (begun_by ((behind_mdt r jobs carry restarts t.sent j).calls k)) ((behind_mdt r jobs carry restarts t.sent j).tasks k) report
  pub ended : outcome_of ends.one.request ends.one.answers ≡ Some o
  pub number : ends.task.number ≡ Some (n + 1)
  pub job : Job
  pub there : slice_get jobs n ≡ Some job
  pub drive : job.drive ≡ (drive_at r k).address
  pub same : ends.one.request ≡ job.request

pub begun_as : (r : RingView) (jobs : List Job) (carry : Carry) (restarts : Restarts) (t : CycleView) (j : List CycleView) (k n : ℕ) (o : Outcome) → AreReportedIn r jobs carry restarts t j → k < length r.drives
    → HasReported ((behind_mdt r jobs carry restarts t.sent j).now.report k) (n + 1) o → IsBegunAs r jobs carry restarts t j k n o
begun_as r jobs carry restarts t j k n o reported below has =
    let p : Past = behind_mdt r jobs carry restarts t.sent j in
    let ends = has_ended (known_of r) k p.plan (p.waiting k) p.now.phase (begun_by (p.calls k)) (p.tasks k) has.report
    (reported.right k has.report below has.is) (reported.tasks k below) in
    let number : ends.task.number ≡ Some (n + 1) = ends.number ∙ ap Some has.number in
    let (c, all) = in_all (known_of r) jobs (middle r carry restarts t.sent j) k in
    let of = request_of (member (known_of r) k).address 1 jobs (c + ends.place) ends.task (n + 1)
    (all ends.place ends.task ends.got) number in
    record {
      report = has.report;
      ends = ends;
      ended = ends.ended ∙ ap Some has.outcome;
      number = number;
      job = of.job;
      there = sym (ap (slice_get jobs) (omega (arith, of.at))) ∙ of.there;
      drive = of.drive ∙ ap (λ (m : MemberView). m.address) (member_is r k);
      same = ends.asks ∙ of.same;
    }

-- And it read what the drive's store has.
read_at : (r : RingView) (jobs : List Job) (carry : Carry) (restarts : Restarts) (run later : List CycleView) (t : CycleView) (j : List CycleView) (k n : ℕ) (idn : Idn) (bytes : List ℕ) → k < length r.drives
    → run ≡ later ++ t ∷ j → HasOutcome t.events.outcomes (n + 1) (outcome.Complete bytes) → IsExactAt r jobs carry restarts t j k → (asked : IsBegunAs r jobs carry restarts t j k n (outcome.Complete bytes))
    → asked.job.request ≡ request.Read idn data_element → IsReadFrom r jobs carry restarts run n asked.job.drive idn bytes
read_at r jobs carry restarts run later t j k n idn bytes below cut told exact asked reads =
    let among = begun_among (view_of r jobs carry restarts k t j) (views_of r jobs carry restarts k j) asked.ends.newer asked.ends.older
    asked.ends.one (exact.begun_now ∙ asked.ends.split) in
    let entries : List Entry = all_entries (views_of r jobs carry restarts k j) in
    let writes : List Write = all_writes (views_of r jobs carry restarts k j) in
    let one = one_exact (store_of (drive_at r k)) asked.ends.newer among.older asked.ends.one entries writes (subst (λ all. AreExact (store_of (drive_at r k)) all entries writes) among.split exact.before) in
    let (block, found, selection, behind, is) = one.exact.reads idn data_element bytes (asked.same ∙ reads) asked.ended in
    let accepted : HasAccepted selection entries = among_all one selection (behind_in _ selection one.part behind) in
    let inside = accepted_in r jobs carry restarts k j selection accepted in
    let stored = on_store selection (all_entries (views_of r jobs carry restarts k (t ∷ j))) exact.stored (accepted_later r jobs carry restarts k (t ∷ []) j selection accepted) in record {
      place = k;
      below = below;
      drive = sym asked.drive;
      since = later;
      told = t;
      before = j;
      up_to = cut;
      is_told = told;
      later = asked.ends.newer;
      begun = asked.ends.one;
      earlier = among.older;
      among = among.split;
      task = asked.ends.task;
      is_of = asked.ends.at;
      number = asked.number;
      asked = asked.same ∙ reads;
      ended = asked.ended;
      after = one.after;
      part = one.part;
      behind = one.behind;
      accepted = one.split;
      later_parts = one.later_parts;
      part_of = one.exact.part_of;
      earlier_parts = one.earlier_parts;
      selection = selection;
      selects = behind;
      reads = is.reads;
      element = is.element;
      newer = inside.newer;
      cycle = inside.cycle;
      older = inside.older;
      cut = inside.cut;
      at = inside.at;
      block = is.block;
      found = sym (ap (find_block idn.raw) inside.blocks) ∙ is.found;
      gives = is.gives (λ two. stored) ∙ ap (λ c. element_in data_element c is.block) inside.at;
    }

pub reads_exact : Headline → ReadsAreExact
reads_exact law r jobs carry restarts run n job idn bytes opened is_run clear there reads told =
    let at = told_cut run (n + 1) (outcome.Complete bytes) told in
    let run_so = rest_runs r jobs carry restarts at.later (at.one ∷ at.before) (subst (IsRun r jobs carry restarts) at.cut is_run) in
    let clear_so = rest_clear at.later (at.one ∷ at.before) (subst IsClear at.cut clear) in
    let keeps = law r jobs carry restarts at.one at.before opened run_so clear_so in
    let place = reported_at r jobs carry restarts at.one at.before (n + 1) bytes keeps.reported at.told in
    let asked = begun_as r jobs carry restarts at.one at.before place.place n (outcome.Complete bytes) keeps.reported place.below place.reported in
    let same : asked.job ≡ job = same_Some asked.job job (sym asked.there ∙ there) in
    subst (λ (x : Job). IsReadFrom r jobs carry restarts run n x.drive idn bytes) same
    (read_at r jobs carry restarts run at.later at.one at.before place.place n idn bytes place.below at.cut at.told (keeps.exact place.place place.below) asked (ap (λ (x : Job). x.request) same ∙ reads))
