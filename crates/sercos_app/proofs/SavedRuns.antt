-- The runs of a backup and of a restore are runs, and keep all that is promised.
use Rattle.std.proofs.Common.{◌≡◌, ℕ, ◌+◌, ◌<◌, Bool, true, false, if◌then◌else◌, List, length, Option, Some, None, refl, sym, ap, ◌∙◌, subst, arith}
use Rattle.std.specs.Prelude.{◌-◌, ◌==◌, nat_lt, slice_get}
use Rattle.std.specs.List.{All, position_or_len}
use Rattle.std.proofs.lemmas.Bool.{cond-true, eq-eqb, eqb-true}
use Rattle.std.proofs.lemmas.Bool.Decides.{nat_tests}
use Rattle.std.proofs.lemmas.List.Sums.{position_or_len_is}
use Rattle.std.proofs.lemmas.List.Elements.{All-map}
use Rattle.sercos_step.specs.declared.request.Request.{Request}
use Rattle.sercos_step.specs.declared.request.Request.TheVariants as request
use Rattle.sercos_step.specs.declared.request.Job.{Job}
use Rattle.sercos_step.specs.Jobs.{AreJobs}
use Rattle.sercos_step.specs.Steps.{AreTypedJobs, IsTypedRequest}
use Rattle.sercos_block.specs.Views.{DriveView, RingView}
use Rattle.sercos_block.specs.Rings.{has_address, is_ring}
use Rattle.sercos_block.specs.Stores.{find_block, store_of}
use Rattle.sercos_script.specs.Links.{Carry, Restarts}
use Rattle.sercos_script.specs.Cuts.{has_flip}
use Rattle.sercos_script.proofs.CutLemmas.{unflipped_only_cuts}
use Rattle.sercos_law_run.specs.Journal.Harmless.{IsHarmless}
use Rattle.sercos_law_run.specs.Journal.Runs.{IsClear, IsRun, no_drive, drive_at, run_of}
use Rattle.sercos_law_run.proofs.Theorems.{same_drive}
use Rattle.sercos_law_run.specs.Held.Opened.{IsOpened}
use Rattle.sercos_config.specs.Views.{DocumentView}
use Rattle.sercos_backup.specs.Jobs.{list_number, reads_data, list_jobs}
use Rattle.sercos_backup.proofs.ListLemmas.{IsRead, list_reads, data_reads}
use Rattle.sercos_opened.specs.Kept.{OpenedIsKept, script_carry, script_restarts, script_run}
use Rattle.sercos_app.specs.Saving.{blocks_at, place_of, data_of}
use Rattle.sercos_app.specs.Saved.{IsReadRun, AreClear, AreReadFrom, AreWritesKept, IsRestoredRun, IsSaved, ReadsTyped, second_jobs}
use Rattle.sercos_backup.specs.declared.tracked.Tracked.{Tracked}
use Rattle.sercos_backup.specs.Tracking.{told_of, idn_in}
use Rattle.sercos_backup.proofs.TrackLemmas.{tracked_at}
use Rattle.sercos_step.specs.declared.request.Outcome.TheVariants as outcome
use Rattle.sercos_law_trace.specs.Told.Told.{told_in}
use Rattle.sercos_law_trace.specs.Told.Reads.{IsReadFrom, ReadsAreExact}
use Rattle.sercos_law_trace.specs.Told.Writes.{WritesAreKept}
use Rattle.sercos_law_run.proofs.Theorems.{IsSound, all_at, cuts_are_harmless, of_jobs}
use Rattle.sercos_app.proofs.EndsWellLemmas.{AreToDrives, ends_well, jobs_drives, list_drives, second_drives}

-- A ring may be opened with reads.
sound_read : (r : RingView) (k : ℕ) (request : Request) → IsRead request → IsSound (store_of (drive_at r k)) request
sound_read r k (request.Read idn e) is = (omega (arith, is), omega (arith, is))
sound_read r k (request.Write idn e bytes) is = absurd is
sound_read r k (request.Command idn) is = absurd is

opened_reads : (r : RingView) (jobs reads : List Job) → IsOpened r jobs → AreTypedJobs reads → All (λ (job : Job). IsRead job.request) reads → IsOpened r reads
opened_reads r jobs reads opened typed are = record {
  valid = opened.valid;
  typed = opened.typed;
  jobs_typed = typed;
  requests = λ k i t below there.
      let of = of_jobs _ 1 reads i t there in
      subst (λ q. IsSound (store_of (drive_at r k)) q) (sym of.same) (sound_read r k of.job.request (all_at (λ (job : Job). IsRead job.request) reads of.place of.job are of.there));
}

typed_lists : (r : RingView) → AreTypedJobs (list_jobs r)
typed_lists r = All-map (λ (job : Job). IsTypedRequest job.request) (λ (d : DriveView). reads_data d.address list_number) r.drives (λ k d within. (omega arith, (omega arith, omega arith)))

-- what is read is exact
read_from : ReadsAreExact → (r : RingView) (jobs : List Job) (carry : Carry) (restarts : Restarts) → IsOpened r jobs → IsRun r jobs carry restarts (run_of r jobs carry restarts r.cycles) → All (λ (job : Job). IsRead job.request) jobs
    → AreReadFrom r jobs carry restarts
read_from law r jobs carry restarts opened run reads clear n t bytes there told =
    let at = tracked_at 1 (told_in (run_of r jobs carry restarts r.cycles)) jobs n t there in
    let number : 1 + n ≡ n + 1 = omega arith in
    let outcome_is : told_of (told_in (run_of r jobs carry restarts r.cycles)) (n + 1) ≡ Some (outcome.Complete bytes) =
    sym (ap (told_of (told_in (run_of r jobs carry restarts r.cycles))) number) ∙ ap (λ (x : Tracked). x.outcome) at.is ∙ told in
    subst (λ (x : Tracked). IsReadFrom r jobs carry restarts (run_of r jobs carry restarts r.cycles) n x.drive x.idn bytes) at.is
    (by at.job.request refl (all_at (λ (job : Job). IsRead job.request) jobs n at.job reads at.there) at.there outcome_is)
  where
    by : {job : Job} (q : Request) → job.request ≡ q → IsRead q → slice_get jobs n ≡ Some job → told_of (told_in (run_of r jobs carry restarts r.cycles)) (n + 1) ≡ Some (outcome.Complete bytes)
        → IsReadFrom r jobs carry restarts (run_of r jobs carry restarts r.cycles) n job.drive (idn_in q) bytes
    by {job = job} (request.Read idn e) is seven there_so told_so =
        law r jobs carry restarts (run_of r jobs carry restarts r.cycles) n job idn bytes opened run clear there_so (is ∙ ap (request.Read idn) seven) told_so
    by (request.Write idn e bytes_given) is never there_so told_so = absurd never
    by (request.Command idn) is never there_so told_so = absurd never

read_run : OpenedIsKept → ReadsAreExact → (r : RingView) (jobs : List Job) (carry : Carry) (restarts : Restarts) → IsOpened r jobs → All (λ (job : Job). IsRead job.request) jobs → AreToDrives r jobs → IsReadRun r jobs carry restarts
read_run law exact r jobs carry restarts opened reads to =
    let kept = law r jobs carry restarts r.cycles opened in
    record { kept = kept; exact = read_from exact r jobs carry restarts opened kept.run reads; ends = ends_well r jobs carry restarts kept.starts to }

pub is_saved : OpenedIsKept → ReadsAreExact → (d : DocumentView) → IsOpened d.setup d.jobs → ReadsTyped d.setup (script_carry d) (script_restarts d) → IsSaved d.setup (script_carry d) (script_restarts d)
is_saved law exact d opened typed = record {
  lists = read_run law exact d.setup (list_jobs d.setup) (script_carry d) (script_restarts d) (opened_reads d.setup d.jobs (list_jobs d.setup) opened (typed_lists d.setup) (list_reads d.setup.drives)) (list_reads d.setup.drives) (list_drives d.setup);
  blocks = λ well few. read_run law exact d.setup (second_jobs d.setup (script_carry d) (script_restarts d)) (script_carry d) (script_restarts d)
      (opened_reads d.setup d.jobs (second_jobs d.setup (script_carry d) (script_restarts d)) opened (typed well few) (data_reads _)) (data_reads _) (second_drives d.setup (script_carry d) (script_restarts d));
}

-- Nothing is unseen in the runs of a backup if the script has no flip; nor in the run of a restore.
harmless : (d : DocumentView) → has_flip d.faults ≡ false → IsHarmless (script_carry d)
harmless d plain = (cuts_are_harmless (script_carry d) (unflipped_only_cuts (length d.setup.drives) d.faults plain)).0

pub saved_clear : (d : DocumentView) → IsSaved d.setup (script_carry d) (script_restarts d) → has_flip d.faults ≡ false → AreClear d.setup (script_carry d) (script_restarts d)
saved_clear d saved plain = record { lists = saved.lists.kept.clear (harmless d plain); blocks = λ well few. (saved.blocks well few).kept.clear (harmless d plain) }

pub restored_clear : (d : DocumentView) → IsRestoredRun d.setup d.jobs (script_carry d) (script_restarts d) → has_flip d.faults ≡ false → IsClear (script_run d)
restored_clear d restored plain = restored.kept.clear (harmless d plain)

-- the place of a drive by its address
place_so : (r : RingView) (k : ℕ) → is_ring r ≡ true → k < length r.drives → place_of r (drive_at r k).address ≡ Some k
place_so r k valid below =
    let is : position_or_len (λ (d : DriveView). d.address == (drive_at r k).address) r.drives ≡ k =
    position_or_len_is (λ (d : DriveView). d.address == (drive_at r k).address) r.drives k no_drive (omega (arith, below)) (λ i less. other i less) (λ low. eq-eqb (drive_at r k).address (drive_at r k).address refl) in
    let inside : nat_lt k (length r.drives) ≡ true = grind (arith, nat_tests, below) in
    ap (λ (n : ℕ). if nat_lt n (length r.drives) then Some n else None) is ∙ cond-true (nat_lt k (length r.drives)) (Some k) None inside
  where
    other : (i : ℕ) → i < k → ((drive_at r i).address == (drive_at r k).address) ≡ false
    other i less = which ((drive_at r i).address == (drive_at r k).address) refl
      where
        which : (b : Bool) → ((drive_at r i).address == (drive_at r k).address) ≡ b → ((drive_at r i).address == (drive_at r k).address) ≡ false
        which false off = off
        which true on =
            let one : i ≡ k = same_drive r i k valid (omega (arith, less, below)) below (eqb-true (drive_at r i).address (drive_at r k).address on) in
            absurd (omega (arith, one, less))

-- what is written is kept
writes_kept : WritesAreKept → (r : RingView) (jobs : List Job) (carry : Carry) (restarts : Restarts) → IsOpened r jobs → IsRun r jobs carry restarts (run_of r jobs carry restarts r.cycles) → AreWritesKept r jobs carry restarts
writes_kept law r jobs carry restarts opened run clear n job t idn bytes whole there writes told complete last =
    let at = tracked_at 1 (told_in (run_of r jobs carry restarts r.cycles)) jobs n t told in
    let number : 1 + n ≡ n + 1 = omega arith in
    let outcome_is : told_of (told_in (run_of r jobs carry restarts r.cycles)) (n + 1) ≡ Some (outcome.Complete whole) =
    sym (ap (told_of (told_in (run_of r jobs carry restarts r.cycles))) number) ∙ ap (λ (x : Tracked). x.outcome) at.is ∙ complete in
    let kept = law r jobs carry restarts (run_of r jobs carry restarts r.cycles) n job idn bytes whole opened run clear there writes outcome_is last in
    record {
      stored = kept;
      printed =
          ap (λ (o : Option ℕ). data_of (r.cycles - 1) (find_block idn.raw (blocks_at r carry restarts (run_of r jobs carry restarts r.cycles) o)))
          (ap (place_of r) (sym kept.drive) ∙ place_so r kept.place opened.valid kept.below)
          ∙ ap (data_of (r.cycles - 1)) kept.holds ∙ kept.written (r.cycles - 1);
    }

pub is_restored : OpenedIsKept → WritesAreKept → (d : DocumentView) (is_other : ℕ → ℕ → Bool) → AreJobs (λ address. has_address address d.setup.drives) is_other d.jobs → IsOpened d.setup d.jobs → Unit {0}
    → IsRestoredRun d.setup d.jobs (script_carry d) (script_restarts d)
is_restored law writes d is_other good opened none =
    let kept = law d.setup d.jobs (script_carry d) (script_restarts d) d.setup.cycles opened in
    record {
      kept = kept;
      writes = writes_kept writes d.setup d.jobs (script_carry d) (script_restarts d) opened kept.run;
      ends = ends_well d.setup d.jobs (script_carry d) (script_restarts d) kept.starts (jobs_drives d.setup is_other d.jobs good);
    }
