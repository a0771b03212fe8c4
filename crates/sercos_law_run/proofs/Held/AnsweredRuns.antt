-- If there is a plan, a drive has answered the first reads as it has its elements.
use Rattle.sercos_law_run.proofs.Words.{◌≡◌, ℕ, zero, suc, ◌<◌, false, not, List, [], ◌∷◌, ◌++◌, length, Option, Some, None, refl, sym, ap, ◌∙◌, subst, arith, append_assoc, ◌==◌, slice_get, option_map, unwrap_or, option_or, same_Some, slice_get_within, Idn, is_list, Request, Outcome, outcome_of, steps_before, Job, PlanView, Block, blocks_fault, find_block, store_of, DriveView, RingView, Processed, Entry, Write, Begun, begun_by, CycleView, idn, reads, reads_count, outcomes_in, Task, MemberView, member, known_of, tasks_for, reads_length, IsStoreOf, kept, IsAnswer, AreAnswers, outcomes, Carry, Restarts, entry_behind, element_in, View, all_entries, all_writes, all_begun, begun_ago, AreSound, AreSmall, AreExact, drive_at, master_calls, looks_back, OfReads, OfWrites, Checks3, Lists3, Checks4, Lists4, OfWaiting, views_of, IsStored, AreStored, runs_exact, element_of, built_in, data_in, cases_Bool, inl, inr, Call, epoch_begun, IsViewRun}
use Rattle.sercos_law_run.proofs.Start.BlockFinds.{find_store_of, same_kept}
use Rattle.sercos_law_run.proofs.Start.LimitLemmas.{kept_step}
use Rattle.sercos_law_run.proofs.Agenda.AgendaTasks.{mapped}
use Rattle.sercos_law_run.proofs.Views.ViewRuns.{Sees}
use Rattle.sercos_law_run.proofs.Cited.{reads_well, tasks_end}
use Rattle.sercos_law_run.proofs.Held.EntriesAre.{EntriesAre, ViewsAre, entries_are, entry_in, entry_is}

-- each accepted step was accepted on a store of the drive
abbrev pub EntriesStored : DriveView → List Entry → Type 0
EntriesStored d = EntriesAre (λ t. IsStored d t.blocks)

pub entries_stored : (d : DriveView) (past : List View) → AreStored d past → EntriesStored d (all_entries past)
entries_stored d past have = entries_are (λ t. IsStored d t.blocks) (λ v. IsStored d v.blocks) (λ v cycle stood s is. is) past
    (views past have)
  where
    views : (past : List View) → AreStored d past → ViewsAre (λ v. IsStored d v.blocks) past
    views [] have = tt
    views (v ∷ past) have = (views past have.0, have.1)

stored_left : (d : DriveView) (xs ys : List Entry) → EntriesStored d (xs ++ ys) → EntriesStored d xs
stored_left d [] ys have = tt
stored_left d (e ∷ xs) ys have = (stored_left d xs ys have.0, have.1)

stored_right : (d : DriveView) (xs ys : List Entry) → EntriesStored d (xs ++ ys) → EntriesStored d ys
stored_right d [] ys have = have
stored_right d (e ∷ xs) ys have = stored_right d xs ys have.0

stored_behind : (d : DriveView) (n : ℕ) (part : List Entry) (e : Entry) → EntriesStored d part → entry_behind n part ≡ Some e → IsStored d e.processed.blocks
stored_behind d n part e have got =
    let is = entry_in n part e got in entry_is (λ t. IsStored d t.blocks) is.front e is.rest (subst (EntriesStored d) is.split have)

-- a complete read gave the element of a block, in a store of the drive
pub record IsReadOf (d : DriveView) (raw e : ℕ) (bytes : List ℕ) : Type 0 where
  pub processed : Processed
  pub stored_is : IsStored d processed.blocks
  pub block : Block
  pub found : find_block raw processed.blocks ≡ Some block
  pub gives : bytes ≡ element_in e processed.cycle block

-- a complete read among those that were begun
pub read_of : (d : DriveView) (blocks : List Block) (older : List Begun) (b : Begun) (i : Idn) (e : ℕ) (bytes : List ℕ) → (e == 1) ≡ false → b.request ≡ Request.Read i e → outcome_of b.request b.answers ≡ Some (Outcome.Complete bytes)
    → (newer : List Begun) (entries : List Entry) (writes : List Write) → AreExact blocks (newer ++ b ∷ older) entries writes → EntriesStored d entries → IsReadOf d i.raw e bytes
read_of d blocks older b i e bytes other asks complete [] entries writes (part, rest, own, others, of_entries, of_writes, exact, behind) have =
    let (first, found_first, selection, there, read) = exact.reads i e bytes asks complete in
    let stored = stored_behind d (steps_before e) part selection (stored_left d part rest (subst (EntriesStored d) of_entries have)) there in
    record { processed = selection.processed; stored_is = stored; block = read.block; found = read.found; gives = read.gives (λ two. stored.0) ∙ rw other refl }
read_of d blocks older b i e bytes other asks complete (x ∷ newer) entries writes (part, rest, own, others, of_entries, of_writes, exact, behind) have =
    read_of d blocks older b i e bytes other asks complete newer rest others behind (stored_right d part rest (subst (EntriesStored d) of_entries have))

-- WHAT THE START-UP READS: a declared time, or an attribute
pub data IsRead (r : Request) : Type 0 where
  Time : (raw : ℕ) → ((d : DriveView) → option_map (λ (b : Block). b.step) (find_block raw (built_in d)) ≡ Some 0) → r ≡ Request.Read (idn raw) 7 → IsRead r
  Attribute : (i : Idn) → r ≡ Request.Read i 3 → IsRead r

pub is_read_request : (m : MemberView) (j : ℕ) (r : Request) → slice_get (reads m) j ≡ Some r → IsRead r
unfolding built_in
is_read_request m zero r got = Time 3 (λ d. refl) (cc)
is_read_request m (suc zero) r got = Time 4 (λ d. refl) (cc)
is_read_request m (suc (suc zero)) r got = Time 5 (λ d. refl) (cc)
is_read_request m (suc (suc (suc zero))) r got = Time 87 (λ d. refl) (cc)
is_read_request m (suc (suc (suc (suc zero)))) r got = Time 88 (λ d. refl) (cc)
is_read_request m (suc (suc (suc (suc (suc zero))))) r got = Time 90 (λ d. refl) (cc)
is_read_request m (suc (suc (suc (suc (suc (suc j)))))) r got = let (i, there, is) = mapped (λ i. Request.Read i 3) (m.at ++ m.mdt) j r got in Attribute i is

map_step : (o : Option Block) → option_map (λ (b : Block). b.step) (option_map kept o) ≡ option_map (λ (b : Block). b.step) o
map_step None = refl
map_step (Some b) = ap (λ (n : ℕ). Some n) (kept_step b)

built_first : (o own : Option Block) (n : ℕ) → option_map (λ (b : Block). b.step) o ≡ Some n → option_map (λ (b : Block). b.step) (option_or o own) ≡ Some n
built_first None own n is = cc
built_first (Some b) own n is = is

no_step : (d : DriveView) (blocks : List Block) (raw : ℕ) (b : Block) → blocks_fault [] d.blocks ≡ None → IsStoreOf d blocks → option_map (λ (b : Block). b.step) (find_block raw (built_in d)) ≡ Some 0 → find_block raw blocks ≡ Some b → b.step ≡ 0
no_step d blocks raw b rules stored built found =
    let same : option_map (λ (b : Block). b.step) (find_block raw blocks) ≡ Some 0 =
    sym (map_step (find_block raw blocks)) ∙ ap (option_map (λ (b : Block). b.step)) (same_kept raw d blocks stored) ∙ map_step (find_block raw (store_of d))
    ∙ ap (option_map (λ (b : Block). b.step)) (find_store_of raw d rules) ∙ built_first (find_block raw (built_in d)) (find_block raw d.blocks) 0 built in
    same_Some b.step 0 (sym (ap (option_map (λ (b : Block). b.step)) found) ∙ same)

-- so what was read is the element
time_read : (cycle : ℕ) (b : Block) → b.step ≡ 0 → element_in 7 cycle b ≡ unwrap_or (element_of b 7) []
unfolding data_in element_of
time_read cycle b still = rw still (elim (cases_Bool (not (is_list b.attribute.length))) [ inl on ↦ rw on | inr off ↦ rw off ])

pub read_answers : (d : DriveView) (r : Request) (i : Idn) (e : ℕ) (bytes : List ℕ) → blocks_fault [] d.blocks ≡ None → IsRead r → r ≡ Request.Read i e → IsReadOf d i.raw e bytes → IsAnswer d (Request.Read i e) (Outcome.Complete bytes)
read_answers d r i e bytes rules (Time raw built is) asks read =
    let same : Request.Read i e ≡ Request.Read (idn raw) 7 = sym asks ∙ is in
    let number : i.raw ≡ raw = cc in
    let element : e ≡ 7 = cc in
    let still = no_step d read.processed.blocks i.raw read.block rules read.stored_is.1 (rw number (built d)) read.found in
    (read.processed.blocks, read.stored_is.1, ap (λ (l : List ℕ). Outcome.Complete l) (read.gives ∙ rw (element, read.found) (time_read read.processed.cycle read.block still)))
read_answers d r i e bytes rules (Attribute x is) asks read =
    let same : Request.Read i e ≡ Request.Read x 3 = sym asks ∙ is in
    let element : e ≡ 3 = cc in
    (read.processed.blocks, read.stored_is.1, ap (λ (l : List ℕ). Outcome.Complete l) (read.gives ∙ rw (element, read.found) refl))

-- each request has its answer
pub answered_by : (d : DriveView) (requests : List Request) (all : List Outcome) → ((j : ℕ) (r : Request) → slice_get requests j ≡ Some r → (o : Outcome) × (slice_get all j ≡ Some o) × IsAnswer d r o) → AreAnswers d requests all
answered_by d [] all each = tt
answered_by d (r ∷ requests) [] each = let (o, got, is) = each 0 r refl in absurd (cc)
answered_by d (r ∷ requests) (o ∷ all) each =
    let (x, got, is) = each 0 r refl in
    let same : x ≡ o = cc in
    (subst (λ (y : Outcome). IsAnswer d r y) same is, answered_by d requests all (λ j y there. each (suc j) y there))

pub as_read : (r : Request) → IsRead r → (i : Idn) × (e : ℕ) × (r ≡ Request.Read i e) × ((e == 1) ≡ false)
as_read r (Time raw built is) = (idn raw, 7, is, refl)
as_read r (Attribute i is) = (i, 3, is, refl)

-- A COMPLETE READ of the start-up gave the drive's element, whatever calls the master looks back on.
pub answer_of : (r : RingView) (jobs : List Job) (h : List Call) (k : ℕ) (views : List View) (blocks : List Block)
    → k < length (known_of r).drives
    → AreSmall blocks → blocks_fault [] (drive_at r k).blocks ≡ None → IsViewRun (drive_at r k).busy views → AreSound blocks views
    → AreStored (drive_at r k) views
    → begun_by ((looks_back r jobs h).calls k) ≡ epoch_begun views → (n : ℕ) (x : Request) (bytes : List ℕ)
    → n < reads_count (member (known_of r) k)
    → slice_get (reads (member (known_of r) k)) n ≡ Some x → slice_get (outcomes (looks_back r jobs h) k) n ≡ Some (Outcome.Complete bytes)
    → IsAnswer (drive_at r k) x (Outcome.Complete bytes)
answer_of r jobs h k views blocks below small rules run sound stored begun_are n x bytes early got complete =
    let at = tasks_end (known_of r) (tasks_for (known_of r) jobs) h k n (Outcome.Complete bytes) below complete in elim at.is.task [
      | OfReads y less found same ↦
          let place : length (outcomes_in at.older) ≡ n = at.is.ended ∙ at.place in
          let one : y ≡ x = same_Some y x (sym found ∙ ap (slice_get (reads (member (known_of r) k))) place ∙ got) in
          let is = is_read_request (member (known_of r) k) n x got in
          let (i, e, is_read, other) = as_read x is in
          let asks : at.one.request ≡ Request.Read i e = at.is.asks ∙ ap (λ (t : Task). t.request) same ∙ one ∙ is_read in
          let all : all_begun views ≡ at.newer ++ at.one ∷ (at.older ++ begun_ago views) =
          ap (λ (l : List Begun). l ++ begun_ago views) (sym begun_are ∙ at.split)
          ∙ append_assoc at.newer (at.one ∷ at.older) (begun_ago views) in
          subst (λ (y : Request). IsAnswer (drive_at r k) y (Outcome.Complete bytes)) (sym is_read)
          (read_answers (drive_at r k) x i e bytes rules is is_read
          (read_of (drive_at r k) blocks (at.older ++ begun_ago views) at.one i e bytes other asks at.ended at.newer (all_entries views)
          (all_writes views)
          (subst (λ (l : List Begun). AreExact blocks l (all_entries views) (all_writes views)) all
          (runs_exact (drive_at r k).busy blocks views small run sound))
          (entries_stored (drive_at r k) views stored)))
      | OfWrites pl i y planned less at_i found same ↦ absurd (omega (arith, at.is.ended, at.place, at_i, early))
      | Checks3 pl planned at_i same ↦ absurd (omega (arith, at.is.ended, at.place, at_i, early))
      | Lists3 at_i failed same ↦ absurd (omega (arith, at.is.ended, at.place, at_i, early))
      | Checks4 at_i checked same ↦ absurd (omega (arith, at.is.ended, at.place, at_i, early))
      | Lists4 at_i failed same ↦ absurd (omega (arith, at.is.ended, at.place, at_i, early))
      | OfWaiting i at_i ready found ↦ absurd (omega (arith, at.is.ended, at.place, at_i, early))
    ]

pub reads_answered : (r : RingView) (jobs : List Job) (carry : Carry) (restarts : Restarts) (k : ℕ) (j : List CycleView) (blocks : List Block) (plan : PlanView) → k < length (known_of r).drives
    → AreSmall blocks → blocks_fault [] (drive_at r k).blocks ≡ None → Sees r jobs carry restarts k j → AreSound blocks (views_of r jobs carry restarts k j) → AreStored (drive_at r k) (views_of r jobs carry restarts k j)
    → (looks_back r jobs (master_calls r carry restarts j)).plan ≡ Some plan → AreAnswers (drive_at r k) (reads (member (known_of r) k)) (outcomes (looks_back r jobs (master_calls r carry restarts j)) k)
reads_answered r jobs carry restarts k j blocks plan below small rules sees sound have has = answered_by (drive_at r k)
    (reads (member (known_of r) k)) (outcomes (looks_back r jobs (master_calls r carry restarts j)) k) each
  where
    m : MemberView
    m = member (known_of r) k

    each : (n : ℕ) (x : Request) → slice_get (reads (member (known_of r) k)) n ≡ Some x → (o : Outcome) × (slice_get (outcomes (looks_back r jobs (master_calls r carry restarts j)) k) n ≡ Some o) × IsAnswer (drive_at r k) x o
    each n x got =
        let early : n < reads_count m = omega (arith, slice_get_within (reads m) n x got, (reads_length m)) in
        let (bytes, complete) = reads_well (known_of r) (tasks_for (known_of r) jobs) (master_calls r carry restarts j) plan has k below n early in (
          Outcome.Complete bytes,
          complete,
          answer_of r jobs (master_calls r carry restarts j) k (views_of r jobs carry restarts k j) blocks
              below small rules
              sees.run sound have sees.master.begun_are n x bytes early got complete,
        )
