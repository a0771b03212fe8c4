-- A ring may be opened with requests that keep the rules of requests.
use Rattle.sercos_law_run.proofs.Words.{◌≡◌, ℕ, drop, zero, suc, ◌+◌, ◌<◌, Bool, true, false, ◌&&◌, List, [], ◌∷◌, length, Option, Some, None, refl, sym, ◌∙◌, ap, subst, arith, if◌then◌else◌, not-false, ◌==◌, slice_get, slice_index_or, IfSome, option_map, All, list_any, nat_tests, All-cons, Request, Job, IsJob, AreJobs, Block, DriveView, RingView, find_block, store_of, block_attribute, has_address, is_no_command, is_ring, Task, tasks_from, request_task, drive_at, no_drive, AreTyped, AreTypedJobs, IsTypedRequest, IsOpened, same_place, has_other_data, get_or_from_slice_get, slice_get_within, cases_Bool, inl, inr}
use Rattle.sercos_law_run.proofs.Start.BlockFinds.{attribute_store_of}
use Rattle.sercos_law_run.proofs.Views.Members.{member_is}
use Rattle.sercos_law_run.proofs.Held.Runs.{drive_rules}
pub use Rattle.sercos_law_channel.specs.Handshake.WholeRun.{IsSound}

-- Each task of a drive is a job to it.
pub record IsOf (address : ℕ) (jobs : List Job) (t : Task) : Type 0 where
  pub place : ℕ
  pub job : Job
  pub there : slice_get jobs place ≡ Some job
  pub drive : job.drive ≡ address
  pub same : t.request ≡ job.request

later : {address : ℕ} {first : Job} {jobs : List Job} {t : Task} → IsOf address jobs t → IsOf address (first ∷ jobs) t
later is = record { place = suc is.place; job = is.job; there = is.there; drive = is.drive; same = is.same }

pub of_jobs : (address n : ℕ) (jobs : List Job) (i : ℕ) (t : Task) → slice_get (tasks_from address n jobs) i ≡ Some t → IsOf address jobs t
of_jobs address n [] i t there = cc
of_jobs address n (job ∷ jobs) i t there = by (job.drive == address) refl i there (λ k later_there. of_jobs address (n + 1) jobs k t later_there)
  where
    here : (i : ℕ) → job.drive ≡ address → slice_get (request_task n job.request ∷ tasks_from address (n + 1) jobs) i ≡ Some t
        → ((k : ℕ) → slice_get (tasks_from address (n + 1) jobs) k ≡ Some t → IsOf address jobs t) → IsOf address (job ∷ jobs) t
    here zero same there rest = let one : request_task n job.request ≡ t = cc in record { place = 0; job = job; there = refl; drive = same; same = ap (λ (u : Task). u.request) (sym one) }
    here (suc i) same there rest = later (rest i there)

    by : (b : Bool) → (job.drive == address) ≡ b → (i : ℕ) → slice_get (if b then request_task n job.request ∷ tasks_from address (n + 1) jobs else tasks_from address (n + 1) jobs) i ≡ Some t
        → ((k : ℕ) → slice_get (tasks_from address (n + 1) jobs) k ≡ Some t → IsOf address jobs t) → IsOf address (job ∷ jobs) t
    by true e i there rest = here i (grind (arith, nat_tests)) there rest
    by false e i there rest = later (rest i there)

-- A drive's procedure commands are none that is known to be other data.
no_other : (test : DriveView → Bool) (drives : List DriveView) (k : ℕ) → k < length drives → list_any test drives ≡ false → test (slice_index_or drives k no_drive) ≡ false
no_other test [] k below none = absurd (omega (arith, below))
no_other test (d ∷ drives) zero below none = elim (cases_Bool (test d)) [ inl on ↦ rw on (rw on at none) | inr off ↦ rw off ]
no_other test (d ∷ drives) (suc k) below none = no_other test drives k (omega (arith, below)) (elim (cases_Bool (test d)) [
  | inl on ↦ let e = rw on at none in absurd (cc)
  | inr off ↦ (rw off at none)
])

command_by : (o : Option Block) → is_no_command (option_map (λ (b : Block). b.attribute) o) ≡ false → IfSome o (λ b. b.attribute.command ≡ true)
command_by None e = tt
command_by (Some b) e = not-false b.attribute.command e

command_of : (r : RingView) (k raw : ℕ) → is_ring r ≡ true → k < length r.drives → has_other_data (drive_at r k).address raw r.drives ≡ false
    → IfSome (find_block raw (store_of (drive_at r k))) (λ b. b.attribute.command ≡ true)
unfolding has_other_data
command_of r k raw valid below none =
    let d = drive_at r k in
    let here = no_other (λ e. (e.address == d.address) && is_no_command (block_attribute e.blocks raw)) r.drives k below none in
    let mine : is_no_command (block_attribute d.blocks raw) ≡ false = rw (same_place d.address) at here in
    command_by (find_block raw (store_of d)) (ap is_no_command (attribute_store_of raw d (drive_rules r k valid below)) ∙ mine)

sound : (r : RingView) (k : ℕ) (address : ℕ) (request : Request) → is_ring r ≡ true → k < length r.drives → address ≡ (drive_at r k).address
    → IsJob (λ address. has_address address r.drives) (λ address raw. has_other_data address raw r.drives) (record { drive = address; request = request }) → IsTypedRequest request
    → IsSound (store_of (drive_at r k)) request
sound r k address (Request.Read idn e) valid below same job typed = typed.1
sound r k address (Request.Write idn e bytes) valid below same job typed = (typed.1.0, typed.2)
sound r k address (Request.Command idn) valid below same job typed = command_of r k idn.raw valid below (subst (λ a. has_other_data a idn.raw r.drives ≡ false) same job.command)

-- what is so of all is so of the one at a place
pub all_at : {X : Type 0} (P : X → Type 0) (xs : List X) (i : ℕ) (x : X) → All P xs → slice_get xs i ≡ Some x → P x
all_at P xs i x all there = subst P (get_or_from_slice_get xs i x x there) (all i x (slice_get_within xs i x there))

-- one more of a list, as at a step of a loop
one_more : {X : Type 0} (P : X → Type 0) (xs : List X) (i : ℕ) (d : X) → i < length xs → P (slice_index_or xs i d) → All P (drop (suc i) xs) → All P (drop i xs)
one_more P [] i d below here rest = absurd (omega (arith, below))
one_more P (x ∷ xs) zero d below here rest = All-cons P x xs here rest
one_more P (x ∷ xs) (suc i) d below here rest = one_more P xs i d (omega (arith, below)) here rest

pub all_dropped : {X : Type 0} (P : X → Type 0) (xs : List X) (i : ℕ) (d : X) → i < length xs → P (slice_index_or xs i d) → All P (drop (i + 1) xs) → All P (drop i xs)
all_dropped P xs i d below here rest = let next : i + 1 ≡ suc i = omega arith in one_more P xs i d below here (subst (λ n. All P (drop n xs)) next rest)

pub opened : (r : RingView) (jobs : List Job) → is_ring r ≡ true → AreTyped r → AreTypedJobs jobs
    → AreJobs (λ address. has_address address r.drives) (λ address raw. has_other_data address raw r.drives) jobs → IsOpened r jobs
opened r jobs valid typed jobs_typed good =
    record {
      valid = valid;
      typed = typed;
      jobs_typed = jobs_typed;
      requests = λ k i t below there.
          let of = of_jobs _ 1 jobs i t there in
          let typed_one : IsTypedRequest of.job.request = all_at (λ (job : Job). IsTypedRequest job.request) jobs of.place of.job jobs_typed of.there in
          let good_one : IsJob (λ address. has_address address r.drives) (λ address raw. has_other_data address raw r.drives) of.job = all_at (IsJob (λ address. has_address address r.drives) (λ address raw. has_other_data address raw r.drives)) jobs of.place of.job good.all of.there in
          subst (λ q. IsSound (store_of (drive_at r k)) q) (sym of.same) (sound r k of.job.drive of.job.request valid below (of.drive ∙ ap (λ m. m.address) (member_is r k)) good_one typed_one);
    }
