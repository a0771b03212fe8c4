-- Each request of a run that is undisturbed and long enough is answered.
use Rattle.std.proofs.Common.{◌≡◌, ℕ, suc, ◌+◌, ◌*◌, ◌<◌, Bool, true, false, ◌&&◌, ◌||◌, if◌then◌else◌, List, [], ◌∷◌, ◌++◌, length, Option, Some, None, refl, sym, ap, ap₂, ◌∙◌, subst, arith}
use Rattle.std.specs.Prelude.{◌==◌, slice_get, slice_index_or}
use Rattle.std.specs.List.{All, flat_map, list_any}
use Rattle.std.proofs.Math.ListN.{get_or}
use Rattle.std.proofs.lemmas.Bool.Decides.{nat_tests}
use Rattle.std.proofs.lemmas.List.Concat.{flat_map-cons}
use Rattle.std.proofs.lemmas.List.Elements.{All-append, All-cons, All-head, All-map, All-nil, All-tail}
use Rattle.std.proofs.lemmas.Option.{get_or_from_slice_get, slice_get-get_or}
use Rattle.sercos_idn.specs.declared.code.Code.{Code}
use Rattle.sercos_step.specs.declared.request.Job.{Job}
use Rattle.sercos_step.specs.declared.request.Outcome.{Outcome}
use Rattle.sercos_step.specs.declared.request.Outcome.TheVariants as outcome
use Rattle.sercos_step.specs.Jobs.{AreJobs}
use Rattle.sercos_block.specs.Rings.{has_address}
use Rattle.sercos_block.specs.Startup.{startup_bound}
use Rattle.sercos_block.specs.Views.{DriveView, RingView}
use Rattle.sercos_trace.specs.Views.{CycleView}
use Rattle.sercos_script.specs.Links.{Carry, Restarts}
use Rattle.sercos_law_run.specs.Journal.Runs.{drive_at, no_drive, run_of}
use Rattle.sercos_law_run.specs.Undisturbed.Reports.{request_cycles}
use Rattle.sercos_law_run.specs.Undisturbed.StopsLater.{IsRight}
use Rattle.sercos_law_run.specs.Undisturbed.WholeRuns.{NeverDisturbed}
use Rattle.sercos_law_run.proofs.Theorems.{all_at, length-run_of}
use Rattle.sercos_backup.specs.declared.tracked.Tracked.{Tracked}
use Rattle.sercos_backup.specs.Jobs.{data_jobs, list_jobs, list_number, listed_jobs, numbers_in, reads_data}
use Rattle.sercos_backup.specs.Tracking.{are_well, is_well, list_told, lists_told, told_of, tracked_from}
use Rattle.sercos_backup.specs.Texts.{failed_line, failed_text, refused_text, restored_line, restored_text}
use Rattle.sercos_backup.proofs.TrackLemmas.{tracked_at}
use Rattle.sercos_law_trace.specs.Told.Told.{told_in}
use Rattle.sercos_law_trace.proofs.Theorems.{told_whole}
use Rattle.sercos_opened.specs.Kept.{StartsThroughout}
use Rattle.sercos_app.specs.Saving.{run_tracked}
use Rattle.sercos_app.specs.Saved.{second_jobs}
use Rattle.sercos_app.specs.EndsWell.{AreAnswered, EndsWell, HasRefusal, IsAnswered, IsLongEnough, answered_line, code_told, refused_line, requests_to}

answered_at : (r : RingView) (jobs : List Job) (carry : Carry) (restarts : Restarts) (run : List CycleView) (n k : ℕ) (job : Job) → StartsThroughout r jobs carry restarts run → length run ≡ r.cycles → IsRight r → IsLongEnough r jobs
    → NeverDisturbed r carry restarts run → slice_get jobs n ≡ Some job → k < length r.drives → job.drive ≡ (drive_at r k).address → IsAnswered (told_of (told_in run) (1 + n))
answered_at r jobs carry restarts run n k job starts count right long calm there below to =
    let told = told_whole r jobs carry restarts run n k job starts right (subst (λ (m : ℕ). startup_bound r + requests_to (drive_at r k).address jobs * request_cycles r k < m) (sym count) (long k below)) calm there below to in
    subst IsAnswered (sym told.is) (by told.told_so told.unbroken)
  where
    by : (o : Outcome) → (o ≡ outcome.Broken → ⊥) → IsAnswered (Some o)
    by (outcome.Complete bytes) unbroken = tt
    by (outcome.Refused code) unbroken = tt
    by outcome.Broken unbroken = unbroken refl

-- each of these requests is to a drive of the ring
abbrev IsToDrive : RingView → ℕ → Type 0
IsToDrive r address = (k : ℕ) × (k < length r.drives) × (address ≡ (drive_at r k).address)

abbrev pub AreToDrives : RingView → List Job → Type 0
AreToDrives r jobs = All (λ (job : Job). IsToDrive r job.drive) jobs

found_drive : (address : ℕ) (drives : List DriveView) → list_any (λ (d : DriveView). d.address == address) drives ≡ true → (k : ℕ) × (k < length drives) × (address ≡ (slice_index_or drives k no_drive).address)
found_drive address [] any = absurd (cc)
found_drive address (d ∷ drives) any = by (d.address == address) refl any (found_drive address drives)
  where
    by : (b : Bool) → (d.address == address) ≡ b → (b || list_any (λ (x : DriveView). x.address == address) drives) ≡ true
        → (list_any (λ (x : DriveView). x.address == address) drives ≡ true → (k : ℕ) × (k < length drives) × (address ≡ (slice_index_or drives k no_drive).address))
        → (k : ℕ) × (k < length (d ∷ drives)) × (address ≡ (slice_index_or (d ∷ drives) k no_drive).address)
    by true is any rest = let same : address ≡ d.address = grind (arith, nat_tests, is) in (0, omega arith, same)
    by false is any rest = let later = rest any in let below = later.1 in (suc later.0, omega (arith, below), later.2)

pub jobs_drives : (r : RingView) (is_other : ℕ → ℕ → Bool) (jobs : List Job) → AreJobs (λ address. has_address address r.drives) is_other jobs → AreToDrives r jobs
unfolding has_address
jobs_drives r is_other jobs good = λ n d within. found_drive _ r.drives (good.all n d within).drive

pub list_drives : (r : RingView) → AreToDrives r (list_jobs r)
list_drives r = All-map (λ (job : Job). IsToDrive r job.drive) (λ (d : DriveView). reads_data d.address list_number) r.drives
    (λ k d within. (k, within, ap (λ (x : DriveView). x.address) (get_or_from_slice_get r.drives k (get_or r.drives k no_drive) d (slice_get-get_or r.drives k no_drive within))))

told_drives : (r : RingView) (number : ℕ) (told : List (ℕ × Outcome)) (jobs : List Job) → AreToDrives r jobs → All (λ (t : Tracked). IsToDrive r t.drive) (tracked_from number told jobs)
unfolding tracked_from
told_drives r number told [] all = All-nil (λ (t : Tracked). IsToDrive r t.drive)
told_drives r number told (job ∷ jobs) all =
    All-cons (λ (t : Tracked). IsToDrive r t.drive) _ (tracked_from (suc number) told jobs) (All-head (λ (x : Job). IsToDrive r x.drive) job jobs all)
    (told_drives r (suc number) told jobs (All-tail (λ (x : Job). IsToDrive r x.drive) job jobs all))

data_drives : (r : RingView) (lists : List (ℕ × List ℕ)) → All (λ (l : ℕ × List ℕ). IsToDrive r l.0) lists → AreToDrives r (data_jobs lists)
data_drives r [] all = All-nil (λ (job : Job). IsToDrive r job.drive)
data_drives r (list ∷ lists) all =
    subst (AreToDrives r) (sym (flat_map-cons listed_jobs list lists))
    (All-append (λ (job : Job). IsToDrive r job.drive) (listed_jobs list) (data_jobs lists)
    (All-map (λ (job : Job). IsToDrive r job.drive) (reads_data list.0) (numbers_in list.1) (λ k d within. All-head (λ (l : ℕ × List ℕ). IsToDrive r l.0) list lists all))
    (data_drives r lists (All-tail (λ (l : ℕ × List ℕ). IsToDrive r l.0) list lists all)))

pub second_drives : (r : RingView) (carry : Carry) (restarts : Restarts) → AreToDrives r (second_jobs r carry restarts)
second_drives r carry restarts =
    data_drives r (lists_told (run_tracked r (list_jobs r) carry restarts))
    (All-map (λ (l : ℕ × List ℕ). IsToDrive r l.0) list_told (run_tracked r (list_jobs r) carry restarts)
    (told_drives r 1 (told_in (run_of r (list_jobs r) carry restarts r.cycles)) (list_jobs r) (list_drives r)))

-- The lines of requests that were answered.
refusal_text : (address raw : ℕ) (absent : Bool) (o : Option Outcome) → IsAnswered o → is_well absent o ≡ false → failed_text address raw o ≡ refused_text address raw (code_told o)
unfolding failed_text
refusal_text address raw absent (Some (outcome.Complete bytes)) answered bad = absurd (cc)
refusal_text address raw absent (Some (outcome.Refused code)) answered bad = refl
refusal_text address raw absent (Some outcome.Broken) answered bad = absurd answered
refusal_text address raw absent None answered bad = absurd answered

one_line : (well : List ℕ) (absent : Bool) (t : Tracked) → IsAnswered t.outcome
    → (if is_well absent t.outcome then well else failed_text t.drive t.idn.raw t.outcome) ≡ (if is_well absent t.outcome then well else refused_text t.drive t.idn.raw (code_told t.outcome))
one_line well absent t answered = by (is_well absent t.outcome) refl
  where
    by : (b : Bool) → is_well absent t.outcome ≡ b → (if b then well else failed_text t.drive t.idn.raw t.outcome) ≡ (if b then well else refused_text t.drive t.idn.raw (code_told t.outcome))
    by true is = refl
    by false is = refusal_text t.drive t.idn.raw absent t.outcome answered is

all_lines : (f g : Tracked → List ℕ) (list : List Tracked) → All (λ (t : Tracked). IsAnswered t.outcome) list → ((t : Tracked) → IsAnswered t.outcome → f t ≡ g t) → flat_map f list ≡ flat_map g list
all_lines f g [] all same = refl
all_lines f g (t ∷ list) all same =
    flat_map-cons f t list
    ∙ ap₂ (λ (a b : List ℕ). a ++ b) (same t (All-head (λ (x : Tracked). IsAnswered x.outcome) t list all)) (all_lines f g list (All-tail (λ (x : Tracked). IsAnswered x.outcome) t list all) same)
    ∙ sym (flat_map-cons g t list)

-- if not all ended well, a drive refused one
has_refusal : (absent : Bool) (list : List Tracked) → All (λ (t : Tracked). IsAnswered t.outcome) list → are_well absent list ≡ false → HasRefusal absent list
has_refusal absent [] all bad = absurd (cc)
has_refusal absent (t ∷ list) all bad = by (is_well absent t.outcome) refl bad (has_refusal absent list (All-tail (λ (x : Tracked). IsAnswered x.outcome) t list all))
  where
    refused : (o : Option Outcome) → IsAnswered o → is_well absent o ≡ false → (code : Code) × (o ≡ Some (outcome.Refused code))
    refused (Some (outcome.Complete bytes)) answered bad_one = absurd (cc)
    refused (Some (outcome.Refused code)) answered bad_one = (code, refl)
    refused (Some outcome.Broken) answered bad_one = absurd answered
    refused None answered bad_one = absurd answered

    by : (b : Bool) → is_well absent t.outcome ≡ b → (b && are_well absent list) ≡ false → (are_well absent list ≡ false → HasRefusal absent list) → HasRefusal absent (t ∷ list)
    by true is rest later = let found = later rest in (suc found.0, found.1, found.2, found.3, found.4, found.5)
    by false is rest later = let here = refused t.outcome (All-head (λ (x : Tracked). IsAnswered x.outcome) t list all) is in (0, t, here.0, refl, here.1, is)

pub are_answered : (list : List Tracked) → All (λ (t : Tracked). IsAnswered t.outcome) list → AreAnswered list
are_answered list all = record {
  each = all;
  refused = λ absent bad. has_refusal absent list all bad;
  failed = λ absent. all_lines (failed_line absent) (refused_line absent) list all (λ t answered. one_line [] absent t answered);
  restored = λ found. all_lines (restored_line found) (answered_line found) list all (λ t answered. one_line (restored_text t.drive t.idn.raw (found t.drive t.idn.raw)) false t answered);
}

-- ENDS WELL.
pub ends_well : (r : RingView) (jobs : List Job) (carry : Carry) (restarts : Restarts) → StartsThroughout r jobs carry restarts (run_of r jobs carry restarts r.cycles) → AreToDrives r jobs → EndsWell r jobs carry restarts
ends_well r jobs carry restarts starts to right long calm = are_answered (run_tracked r jobs carry restarts) each
  where
    each : All (λ (t : Tracked). IsAnswered t.outcome) (run_tracked r jobs carry restarts)
    each n d within =
        let at = tracked_at 1 (told_in (run_of r jobs carry restarts r.cycles)) jobs n _ (slice_get-get_or (run_tracked r jobs carry restarts) n d within) in
        let drive = all_at (λ (job : Job). IsToDrive r job.drive) jobs n at.job to at.there in
        subst (λ (t : Tracked). IsAnswered t.outcome) at.is
        (answered_at r jobs carry restarts (run_of r jobs carry restarts r.cycles) n drive.0 at.job starts (length-run_of r jobs carry restarts r.cycles) right long calm at.there drive.1 drive.2)
