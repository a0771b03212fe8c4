-- A complete write of operation data is kept, if no later request writes to its block: the start-up doesn't write it either.
use Rattle.sercos_law_trace.proofs.Words.{cases_Bool, ◌≡◌, ◌⊎◌, inl, inr, ℕ, zero, suc, ◌+◌, ◌<◌, ◌==◌, Bool, true, false, not, if◌then◌else◌, List, [], ◌∷◌, ◌++◌, length, Option, Some, None, refl, sym, ap, subst, ◌∙◌, arith, none-some, same_Some, IfSome, option_map, map, unwrap_or, slice_get, slice_index, list_all, list_any, cond-true, nat_tests, Idn, Request, Job, Outcome, PlanView, Block, find_block, store_of, RingView, data_at, AreAlike, without_data, flipped, find-alike, is_fixed, blocks_in, annals, Begun, begun_by, CycleView, Carry, Restarts, Known, MemberView, Task, known_of, tasks_for, member, declared_times, reads, writes, count_requests, outcomes_in, Call, HearMst, HearAt, Mdt, End, Restart, Past, settled, with_task, channel_at, IsTask, OfReads, OfWrites, Checks3, Lists3, Checks4, Lists4, OfWaiting, AreBegunTasks, AreNumbered, IsWrittenLast, all_numbered, member_is, members_count, stored, all_begun, all_writes, Given, written_to, newest_to, GiveElsewhere, heard, passage, mst_in, ats_in, IsRun, IsClear, drive_at, looks_back, middle, master_calls, own_mst, at_calls, with_at, station_of, given_before, behind_ats, behind_mdt, view_of, views_of, IsOpened, KeepsAll, writes_to, IsLastTo, WritesAreKept, get_dropped, writes_data, rest_runs, rest_clear, or_parts, all_stand, alike_so, store_of_so, first_store, keeps_all, calls_are_moves, first_waiting, are_requests, holds_newest, stays_fixed}
use Rattle.sercos_step.specs.declared.request.Request.TheVariants as request
use Rattle.sercos_step.specs.declared.request.Outcome.TheVariants as outcome
use Rattle.sercos_service_drive.specs.Replies.{data_in}
use Rattle.sercos_seat.specs.Agenda.{idn as number_of}
use Rattle.sercos_master.specs.Annals.{begins}
use Rattle.sercos_telegram.specs.declared.layout.Kind.TheVariants as kinds
use Rattle.sercos_law_run.specs.Journal.Runs.{begins as begin_of}
use Rattle.sercos_law_run.specs.Views.RingViews.{request_of as request_in}
use Rattle.sercos_law_trace.proofs.Told.ToldLemmas.{told_cut, in_all, request_of}
use Rattle.sercos_law_trace.proofs.Told.ReadLemmas.{IsBegunAs, reported_at, begun_as}
use Rattle.sercos_law_trace.proofs.Told.StartNumbers.{all_start, is_start}
use Rattle.sercos_law_trace.proofs.Told.StartBlocks.{not_start}
use Rattle.sercos_law_trace.proofs.Told.LastWrites.{Elsewhere, newest_last, last_next, last_now}
use Rattle.sercos_law_trace.proofs.Told.KnownBlocks.{known_block}
use Rattle.sercos_law_trace.proofs.Told.LaterTasks.{IsAbove, AreAbove, AreLater, later_above, still, above_call, ended_count}

-- A request that doesn't write to a block gives nothing to its number.
pub gives_elsewhere : (raw : ℕ) (blocks : List Block) (q : Request) → writes_to raw q ≡ false → Elsewhere raw blocks q
gives_elsewhere raw blocks (request.Read idn e) away = refl
gives_elsewhere raw blocks (request.Write idn e bytes) away = by (e == 7) (find_block idn.raw blocks)
  where
    by : (writes : Bool) (found : Option Block) → list_all (λ (g : Given). not (g.raw == raw)) (if writes then written_to idn.raw bytes found else []) ≡ true
    by true None = refl
    by true (Some b) = rw away refl
    by false found = refl
gives_elsewhere raw blocks (request.Command idn) away = rw away refl

-- THE START-UP writes to none but its own blocks.
any_not : (raw : ℕ) (xs : List ℕ) (i y : ℕ) → list_any (λ (n : ℕ). n == raw) xs ≡ false → slice_get xs i ≡ Some y → (y == raw) ≡ false
any_not raw [] i y none got = absurd (none-some _ got)
any_not raw (x ∷ xs) zero y none got = let same : x ≡ y = cc in subst (λ (z : ℕ). (z == raw) ≡ false) same (or_parts (x == raw) _ none).0
any_not raw (x ∷ xs) (suc i) y none got = any_not raw xs i y (or_parts (x == raw) _ none).1 got

map_got : {A B : Type 0} (f : A → B) (xs : List A) (i : ℕ) (y : B) → slice_get (map f xs) i ≡ Some y → (x : A) × (f x ≡ y)
map_got f [] i y got = absurd (none-some _ got)
map_got f (x ∷ xs) zero y got = (x, cc)
map_got f (x ∷ xs) (suc i) y got = map_got f xs i y got

got_in_two : {A : Type 0} (P : A → Type 0) (xs ys : List A) (i : ℕ) (y : A) → ((i : ℕ) (y : A) → slice_get xs i ≡ Some y → P y) → ((i : ℕ) (y : A) → slice_get ys i ≡ Some y → P y) → slice_get (xs ++ ys) i ≡ Some y → P y
got_in_two P [] ys i y one two got = two i y got
got_in_two P (x ∷ xs) ys zero y one two got = one zero y got
got_in_two P (x ∷ xs) ys (suc i) y one two got = got_in_two P xs ys i y (λ j z there. one (suc j) z there) two got

reads_elsewhere : (raw : ℕ) (d : MemberView) (i : ℕ) (q : Request) → slice_get (reads d) i ≡ Some q → writes_to raw q ≡ false
reads_elsewhere raw d i q got =
    got_in_two (λ r. writes_to raw r ≡ false) (map (λ n. request.Read (number_of n) 7) declared_times)
    (map (λ n. request.Read n 3) (d.at ++ d.mdt)) i q
    (λ j z there. let (x, is) = map_got (λ (n : ℕ). request.Read (number_of n) 7) declared_times j z there in ap (writes_to raw) (sym is))
    (λ j z there. let (x, is) = map_got (λ (n : Idn). request.Read n 3) (d.at ++ d.mdt) j z there in ap (writes_to raw) (sym is)) got

startup_elsewhere : (s : Known) (k : ℕ) (by_then : Option PlanView) (waiting : List Task) (outs : List Outcome) (t : Task) (raw : ℕ)
    → is_start raw ≡ false → IsTask s k by_then waiting outs t
    → (writes_to raw t.request ≡ false) ⊎ ((j : ℕ) × (slice_get waiting j ≡ Some t))
startup_elsewhere s k by_then waiting outs t raw none (OfReads r less found is) = inl (ap (λ (x : Task). writes_to raw x.request) is ∙ reads_elsewhere raw (member s k) _ r found)
startup_elsewhere s k by_then waiting outs t raw none (OfWrites p n r planned less at found is) =
    let (w, bytes, got, number) = writes_data s p k n less in
    inl (ap (λ (x : Task). writes_to raw x.request) is ∙ ap (writes_to raw) (same_Some r (request.Write w 7 bytes) (sym found ∙ got)) ∙
    any_not raw all_start (suc (suc (suc (suc n)))) w.raw none number)
startup_elsewhere s k by_then waiting outs t raw none (Checks3 p planned at is) = inl (ap (λ (x : Task). writes_to raw x.request) is ∙ any_not raw all_start 2 127 none refl)
startup_elsewhere s k by_then waiting outs t raw none (Lists3 at failed is) = inl (ap (λ (x : Task). writes_to raw x.request) is)
startup_elsewhere s k by_then waiting outs t raw none (Checks4 at checked is) = inl (ap (λ (x : Task). writes_to raw x.request) is ∙ any_not raw all_start 3 128 none refl)
startup_elsewhere s k by_then waiting outs t raw none (Lists4 at failed is) = inl (ap (λ (x : Task). writes_to raw x.request) is)
startup_elsewhere s k by_then waiting outs t raw none (OfWaiting j at ready found) = inr (j, found)

-- the newest task that was begun
begun_task : (s : Known) (k : ℕ) (plan : Option PlanView) (waiting : List Task) (phase : ℕ) (begun : List Begun) (tasks older : List Task) (t : Task) → tasks ≡ t ∷ older → AreBegunTasks s k plan waiting phase begun tasks
    → (by_then : Option PlanView) × (outs : List Outcome) × IsTask s k by_then waiting outs t
begun_task s k plan waiting phase [] [] older t is are = absurd (cc)
begun_task s k plan waiting phase [] (x ∷ tasks) older t is are = absurd are
begun_task s k plan waiting phase (b ∷ begun) [] older t is are = absurd are
begun_task s k plan waiting phase (b ∷ begun) (x ∷ tasks) older t is are =
    let same : x ≡ t = cc in
    (are.1.by_then, outcomes_in begun, subst (λ (y : Task). IsTask s k are.1.by_then waiting (outcomes_in begun) y) same are.1.task)

module _ (r : RingView) (jobs : List Job) (carry : Carry) (restarts : Restarts) (opened : IsOpened r jobs) (k n : ℕ)
    (below : k < length r.drives) (raw : ℕ) (last : IsLastTo jobs n (drive_at r k).address raw) (none : is_start raw ≡ false) where
  inside : k < length (known_of r).drives
  inside = let count = members_count r in omega (arith, below, count)

  blocks : List Block
  blocks = store_of (drive_at r k)

  numbered : (h : List Call) → AreNumbered ((looks_back r jobs h).waiting k)
  numbered h = all_numbered (known_of r) (tasks_for (known_of r) jobs) h (λ i. (are_requests (known_of r) jobs i).1) k

  -- a request after the one at place n
  waiting_elsewhere : (h : List Call) (i : ℕ) (t : Task) → slice_get ((looks_back r jobs h).waiting k) i ≡ Some t → IsAbove (n + 1) t → Elsewhere raw (store_of (drive_at r k)) t.request
  waiting_elsewhere h i t got above =
      let (c, all) = in_all (known_of r) jobs h k in
      let of = request_of (member (known_of r) k).address 1 jobs (c + i) t above.number (all i t got) above.is in
      let at = of.at in
      let high = above.above in
      let drive : of.job.drive ≡ (drive_at r k).address = of.drive ∙ ap (λ (x : MemberView). x.address) (member_is r k) in
      gives_elsewhere raw (store_of (drive_at r k)) t.request (ap (writes_to raw) of.same ∙ last of.place of.job (omega (arith, at, high)) of.there drive)

  -- WHAT STILL WAITS, call by call
  abbrev Waits : List Call → Type 0
  Waits h = AreAbove (n + 1) (still (channel_at (looks_back r jobs h) k))

  waits_call : (call : Call) (h : List Call) → Waits h → Waits (call ∷ h)
  waits_call call h are = above_call calls_are_moves (known_of r) (tasks_for (known_of r) jobs) k (n + 1) inside call h are

  waits_ats : (cycle : ℕ) (ats : List (List ℕ)) (h : List Call) → Waits h → Waits (at_calls r carry cycle ats h)
  waits_ats cycle [] h are = are
  waits_ats cycle (at ∷ ats) h are = waits_ats cycle ats _ (by (heard carry (passage cycle kinds.At (station_of r (slice_index at 0)) 0) at))
    where
      by : (o : Option (List ℕ)) → Waits (with_at o h)
      by None = are
      by (Some content) = waits_call (HearAt content) h are

  waits_begin : (b : Bool) (h : List Call) → Waits h → Waits (if b then Restart ∷ h else h)
  waits_begin true h are = waits_call Restart h are
  waits_begin false h are = are

  abbrev to_ats : CycleView → List CycleView → List Call
  to_ats t j = at_calls r carry (length j) (ats_in t.sent) (own_mst carry (length j) (mst_in t.sent) (begin_of r carry restarts j))

  waits_to_ats : (t : CycleView) (j : List CycleView) → Waits (master_calls r carry restarts j) → Waits (to_ats t j)
  waits_to_ats t j are = waits_ats (length j) (ats_in t.sent) (own_mst carry (length j) (mst_in t.sent) (begin_of r carry restarts j)) (waits_call (HearMst (heard carry (passage (length j) kinds.Mst 0 0) (mst_in t.sent))) (begin_of r carry restarts j) (waits_begin (restarts (length j) 0) (master_calls r carry restarts j) are))

  -- WHAT BEGINS in a cycle gives nothing to the number
  begins_elsewhere : (t : CycleView) (j : List CycleView) → KeepsAll r jobs carry restarts t j → Waits (master_calls r carry restarts j) → IfSome (view_of r jobs carry restarts k t j).begins (Elsewhere raw (store_of (drive_at r k)))
  begins_elsewhere t j keeps are = by (begins (known_of r) (settled (known_of r) (behind_ats r jobs carry restarts t.sent j)) k) refl
    where
      p : Past
      p = behind_mdt r jobs carry restarts t.sent j

      one : (u : Task) → begins (known_of r) (settled (known_of r) (behind_ats r jobs carry restarts t.sent j)) k ≡ Some u → Elsewhere raw (store_of (drive_at r k)) u.request
      one u is =
          let tasks : (behind_mdt r jobs carry restarts t.sent j).tasks k ≡ u ∷ (settled (known_of r) (behind_ats r jobs carry restarts t.sent j)).tasks k = ap (λ (o : Option Task). with_task o ((settled (known_of r) (behind_ats r jobs carry restarts t.sent j)).tasks k)) is in
          let (by_then, outs, task) = begun_task (known_of r) k p.plan (p.waiting k) p.now.phase (begun_by (p.calls k)) (p.tasks k) _ u tasks (keeps.reported.tasks k below) in
          which (startup_elsewhere (known_of r) k by_then (p.waiting k) outs u raw none task)
        where
          which : (writes_to raw u.request ≡ false) ⊎ ((i : ℕ) × (slice_get ((behind_mdt r jobs carry restarts t.sent j).waiting k) i ≡ Some u)) → Elsewhere raw (store_of (drive_at r k)) u.request
          which (inl away) = gives_elsewhere raw (store_of (drive_at r k)) u.request away
          which (inr (i, got)) = waiting_elsewhere (middle r carry restarts t.sent j) i u got (waits_to_ats t j are 0 u
              (first_waiting (known_of r) jobs (to_ats t j) k u inside is (numbered (middle r carry restarts t.sent j) i u got)))

      by : (o : Option Task) → begins (known_of r) (settled (known_of r) (behind_ats r jobs carry restarts t.sent j)) k ≡ o → IfSome (request_in o) (Elsewhere raw (store_of (drive_at r k)))
      by None is = tt
      by (Some u) is = one u is

  -- FROM CYCLE TO CYCLE
  module _ (idn : Idn) (bytes : List ℕ) (named : idn.raw ≡ raw) where
    record Kept (j : List CycleView) : Type 0 where
      written : IsWrittenLast (store_of (drive_at r k)) (all_begun (views_of r jobs carry restarts k j)) idn bytes
      waits : AreAbove (n + 1) (still (channel_at (looks_back r jobs (master_calls r carry restarts j)) k))

    kept_next : (t : CycleView) (j : List CycleView) → KeepsAll r jobs carry restarts t j → Kept j → Kept (t ∷ j)
    kept_next t j keeps kept = record {
      written = last_next (store_of (drive_at r k)) idn bytes (view_of r jobs carry restarts k t j) (views_of r jobs carry restarts k j)
          (subst (λ (m : ℕ). IfSome (view_of r jobs carry restarts k t j).begins (Elsewhere m (store_of (drive_at r k)))) (sym named) (begins_elsewhere t j keeps kept.waits)) kept.written;
      waits = waits_call End (middle r carry restarts t.sent j) (waits_call Mdt (to_ats t j) (waits_to_ats t j kept.waits));
    }

    kept_later : (later j : List CycleView) → IsRun r jobs carry restarts (later ++ j) → IsClear (later ++ j) → Kept j → Kept (later ++ j)
    kept_later [] j run clear kept = kept
    kept_later (t ∷ later) j run clear kept = kept_next t (later ++ j) (keeps_all r jobs carry restarts opened t (later ++ j) run clear) (kept_later later j run.0 clear.0 kept)

    -- WHERE IT IS TOLD
    kept_told : (t : CycleView) (j : List CycleView) (whole : List ℕ) → KeepsAll r jobs carry restarts t j
        → (asked : IsBegunAs r jobs carry restarts t j k n (outcome.Complete whole)) → asked.job.request ≡ request.Write idn 7 bytes
        → Kept (t ∷ j)
    kept_told t j whole keeps asked writes = record {
      written = last_now (store_of (drive_at r k)) idn bytes (view_of r jobs carry restarts k t j) (views_of r jobs carry restarts k j) (record {
        newer = asked.ends.newer;
        one = asked.ends.one;
        older = asked.ends.older;
        split = (keeps.exact k below).begun_now ∙ asked.ends.split;
        asks = asked.same ∙ writes;
        whole = whole;
        complete = asked.ended;
        away =
            subst (λ (m : ℕ). GiveElsewhere m (store_of (drive_at r k)) asked.ends.newer) (sym named) (later_away asked.ends.newer asked.ends.later);
      });
      waits = waits_call End (middle r carry restarts t.sent j) still_above;
    }
      where
        p : Past
        p = behind_mdt r jobs carry restarts t.sent j

        -- a request that waited after it
        after : (i : ℕ) (u : Task) → asked.ends.place < i → slice_get ((behind_mdt r jobs carry restarts t.sent j).waiting k) i ≡ Some u → IsAbove (n + 1) u
        after i u less got =
            let (c, all) = in_all (known_of r) jobs (middle r carry restarts t.sent j) k in
            later_above 1 (tasks_for (known_of r) jobs k) (c + asked.ends.place) (c + i) (n + 1) asked.ends.task u
            (are_requests (known_of r) jobs k).2 (all asked.ends.place asked.ends.task asked.ends.got) (all i u got) (omega (arith, less))
            asked.number

        later_away : (newer : List Begun) → AreLater ((behind_mdt r jobs carry restarts t.sent j).waiting k) asked.ends.place newer → GiveElsewhere raw (store_of (drive_at r k)) newer
        later_away [] are = tt
        later_away (b ∷ newer) (are, (i, u, less, got, asks)) =
            (later_away newer are, subst (λ (q : Request). Elsewhere raw (store_of (drive_at r k)) q) (sym asks) (waiting_elsewhere (middle r carry restarts t.sent j) i u got (after i u less got)))

        still_above : Waits (middle r carry restarts t.sent j)
        still_above i u got =
            let less = ended_count (known_of r) k p.plan (p.waiting k) p.now.phase
            (numbered (middle r carry restarts t.sent j)) (begun_by (p.calls k)) (p.tasks k) asked.report (keeps.reported.tasks k below)
            asked.ends in
            after (count_requests (p.tasks k) + i) u (omega (arith, less)) (sym (get_dropped (count_requests (p.tasks k)) (p.waiting k) i) ∙ got)

-- AT THE END
-- a block that may be written doesn't change by itself
still_block : (b : Block) → is_fixed b ≡ false → (b.step == 0) ≡ true
still_block b free = elim (cases_Bool b.fixed) [
  | inl on ↦ let free = rw on at free in absurd (cc)
  | inr off ↦ let free = rw off at free in grind (arith, nat_tests, free)
]

data_still : (cycle : ℕ) (c : Block) → (c.step == 0) ≡ true → data_in cycle c ≡ c.value
unfolding data_in
data_still cycle c none = cond-true (c.step == 0) _ _ none

-- the block that a store has, whatever was written to it
has_block : (raw : ℕ) (now blocks : List Block) (b : Block) (x : List ℕ) → AreAlike now blocks → find_block raw blocks ≡ Some b → is_fixed b ≡ false → data_at now raw ≡ x
    → (c : Block) × (find_block raw now ≡ Some c) × ((cycle : ℕ) → data_in cycle c ≡ x)
has_block raw now blocks b x alike found free holds = by (find_block raw now) refl (find-alike raw now blocks b alike found) holds
  where
    by : (o : Option Block) → find_block raw now ≡ o → option_map without_data o ≡ Some (without_data b) → unwrap_or (option_map (λ (c : Block). c.value) o) [] ≡ x
        → (c : Block) × (find_block raw now ≡ Some c) × ((cycle : ℕ) → data_in cycle c ≡ x)
    by None is same value = absurd (cc)
    by (Some c) is same value =
        let one : without_data c ≡ without_data b = cc in
        (c, is, λ cycle. data_still cycle c (ap (λ (y : Block). y.step == 0) one ∙ still_block b free) ∙ value)

module _ (r : RingView) (jobs : List Job) (carry : Carry) (restarts : Restarts) (opened : IsOpened r jobs) (k : ℕ)
    (below : k < length r.drives) (idn : Idn) (bytes : List ℕ) (none : is_start idn.raw ≡ false) where
  -- what the store has
  in_store : (t : CycleView) (j : List CycleView) → IsRun r jobs carry restarts (t ∷ j) → IsClear (t ∷ j) → IsWrittenLast (store_of (drive_at r k)) (all_begun (views_of r jobs carry restarts k (t ∷ j))) idn bytes
      → (b : Block) → find_block idn.raw (store_of (drive_at r k)) ≡ Some b → (c : Block) × (find_block idn.raw (blocks_in (drive_at r k) (annals (drive_at r k) r.rate (given_before carry restarts (t ∷ j) k))) ≡ Some c) × ((cycle : ℕ) → data_in cycle c ≡ stored b bytes)
  in_store t j run clear last b found =
      let keeps = keeps_all r jobs carry restarts opened t j run clear in
      let written = newest_last (store_of (drive_at r k)) _ idn bytes b _ _ found (keeps.exact k below).exact last in
      has_block idn.raw (blocks_in (drive_at r k) (annals (drive_at r k) r.rate (given_before carry restarts (t ∷ j) k))) (store_of
      (drive_at r k)) b (stored b bytes) (alike_so (drive_at r k) _ (store_of_so (drive_at r k) r.rate (given_before carry restarts
      (t ∷ j) k) (first_store r jobs carry restarts opened k below).ascending).0) found (free (is_fixed b) refl written)
      (ap (λ (l : List Block). data_at l idn.raw) (all_stand r jobs carry restarts opened (t ∷ j) run clear k below).sees.drive.blocks
      ∙ holds_newest (store_of (drive_at r k)) (views_of r jobs carry restarts k (t ∷ j)) idn.raw b
      (rw (flipped 21 idn.raw (any_not idn.raw all_start 0 21 none refl), flipped 22 idn.raw (any_not idn.raw all_start 1 22 none refl))
      refl) found
      ∙ ap (λ (o : Option (List ℕ)). unwrap_or o b.value) written)
    where
      free : (fixed : Bool) → is_fixed b ≡ fixed → newest_to idn.raw (all_writes (views_of r jobs carry restarts k (t ∷ j))) ≡ Some (stored b bytes) → is_fixed b ≡ false
      free false is written = is
      free true is written = absurd (none-some _ (sym (stays_fixed (store_of (drive_at r k)) (views_of r jobs carry restarts k (t ∷ j)) idn.raw b (all_stand r jobs carry restarts opened (t ∷ j) run clear k below).sound found is) ∙ written))

  in_store_of : (run : List CycleView) → 0 < length run → IsRun r jobs carry restarts run → IsClear run → IsWrittenLast (store_of (drive_at r k)) (all_begun (views_of r jobs carry restarts k run)) idn bytes
      → (b : Block) → find_block idn.raw (store_of (drive_at r k)) ≡ Some b → (c : Block) × (find_block idn.raw (blocks_in (drive_at r k) (annals (drive_at r k) r.rate (given_before carry restarts run k))) ≡ Some c) × ((cycle : ℕ) → data_in cycle c ≡ stored b bytes)
  in_store_of [] some run clear last b found = absurd (omega (arith, some))
  in_store_of (t ∷ j) some run clear last b found = in_store t j run clear last b found

pub writes_kept : WritesAreKept
writes_kept r jobs carry restarts run n job idn bytes whole opened is_run clear there writes told last =
    let at = told_cut run (n + 1) (outcome.Complete whole) told in
    let run_so = subst (IsRun r jobs carry restarts) at.cut is_run in
    let clear_so = subst IsClear at.cut clear in
    let run_then = rest_runs r jobs carry restarts at.later (at.one ∷ at.before) run_so in
    let clear_then = rest_clear at.later (at.one ∷ at.before) clear_so in
    let keeps = keeps_all r jobs carry restarts opened at.one at.before run_then clear_then in
    let place = reported_at r jobs carry restarts at.one at.before (n + 1) whole keeps.reported at.told in
    let asked = begun_as r jobs carry restarts at.one at.before place.place n (outcome.Complete whole) keeps.reported place.below place.reported in
    let same : asked.job ≡ job = same_Some asked.job job (sym asked.there ∙ there) in
    let asks : asked.job.request ≡ request.Write idn 7 bytes = ap (λ (x : Job). x.request) same ∙ writes in
    let (b, found) = known_block r jobs carry restarts at.one at.before place.place n idn 7 bytes whole
    (keeps.exact place.place place.below) asked asks in
    let drive : job.drive ≡ (drive_at r place.place).address = sym (ap (λ (x : Job). x.drive) same) ∙ asked.drive in
    let last_so = subst (λ (a : ℕ). IsLastTo jobs n a idn.raw) drive last in
    let none = not_start r jobs carry restarts opened place.place place.below at.one at.before run_then clear_then n idn bytes whole b asked asks found in
    let now = kept_told r jobs carry restarts opened place.place n place.below idn.raw last_so none idn bytes refl at.one at.before whole keeps asked asks in
    let later = kept_later r jobs carry restarts opened place.place n place.below idn.raw last_so none idn bytes refl at.later (at.one ∷ at.before) run_so clear_so now in
    let (c, holds, written) = in_store_of r jobs carry restarts opened place.place place.below idn bytes none run (some_in run at.later at.one at.before at.cut) is_run clear
    (subst (λ (l : List CycleView). IsWrittenLast (store_of (drive_at r place.place)) (all_begun (views_of r jobs carry restarts place.place l)) idn bytes) (sym at.cut) later.written) b found in record {
      place = place.place;
      below = place.below;
      drive = sym drive;
      block = b;
      found = found;
      now = c;
      holds = holds;
      written = written;
    }
  where
    some_in : (run later : List CycleView) (t : CycleView) (j : List CycleView) → run ≡ later ++ t ∷ j → 0 < length run
    some_in [] [] t j cut = absurd (cc)
    some_in [] (u ∷ later) t j cut = absurd (cc)
    some_in (u ∷ run) later t j cut = omega arith
