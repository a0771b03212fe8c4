-- The identifier numbers of a list.
use Rattle.std.proofs.Common.{◌≡◌, ℕ, zero, suc, ◌+◌, ◌*◌, ◌/◌, ◌<◌, ◌≤◌, List, [], ◌∷◌, ◌++◌, length, map, ap, arith, refl, sym, ◌∙◌, subst, append_assoc, append-nil}
use Rattle.std.proofs.Math.ListN.{get_or}
use Rattle.std.specs.List.{All}
use Rattle.std.proofs.lemmas.List.Elements.{All-map, All-append}
use Rattle.std.proofs.lemmas.List.Concat.{flat_map-cons}
use Rattle.sercos_idn.specs.Elements.{data_element}
use Rattle.sercos_step.specs.declared.request.Request.{Request}
use Rattle.sercos_step.specs.declared.request.Request.TheVariants as request
use Rattle.sercos_step.specs.declared.request.Job.{Job}
use Rattle.sercos_step.specs.Steps.{IsRequest}
use Rattle.sercos_block.specs.Views.{DriveView}
use Rattle.std.specs.Prelude.{drop, slice_index}
use Rattle.sercos_backup.specs.Jobs.{numbers_in, list_number, reads_data, listed_jobs, data_jobs}

pub numbers_count : (bytes : List ℕ) → length (numbers_in bytes) ≡ length bytes / 2
unfolding numbers_in
numbers_count [] = refl
numbers_count (b ∷ []) = refl
numbers_count (low ∷ high ∷ bytes) =
    let more : length (numbers_in bytes) ≡ length bytes / 2 = numbers_count bytes in
    omega (arith, more)

pub numbers_all : (bytes : List ℕ) (count : ℕ) → count ≡ length (numbers_in bytes) → length bytes ≤ 2 * count + 1
numbers_all bytes count is = let half = numbers_count bytes in omega (arith, is, half)

-- one pair more
pub numbers_more : (bytes : List ℕ) (i : ℕ) → 2 * i + 1 < length bytes
    → numbers_in (drop (2 * i) bytes) ≡ (slice_index bytes (2 * i) + 256 * slice_index bytes (2 * i + 1)) ∷ numbers_in (drop (2 * (i + 1)) bytes)
unfolding numbers_in
numbers_more [] i h = absurd (omega (arith, h))
numbers_more (b ∷ []) i h = absurd (omega (arith, h))
numbers_more (low ∷ high ∷ bytes) zero h = refl
numbers_more (low ∷ high ∷ bytes) (suc i) h =
    let e : 2 * suc i ≡ suc (suc (2 * i)) = omega arith in
    let f : 2 * (suc i + 1) ≡ suc (suc (2 * (i + 1))) = omega arith in
    let g : suc (suc (2 * i)) + 1 ≡ suc (suc (2 * i + 1)) = omega arith in
    rw (f, e, g) (numbers_more bytes i (omega (arith, h)))

-- and none after the last whole pair
pub numbers_end : (bytes : List ℕ) (i : ℕ) → length bytes ≤ 2 * i + 1 → numbers_in (drop (2 * i) bytes) ≡ []
unfolding numbers_in
numbers_end [] zero h = refl
numbers_end [] (suc i) h = let e : 2 * suc i ≡ suc (suc (2 * i)) = omega arith in rw e refl
numbers_end (b ∷ []) zero h = refl
numbers_end (b ∷ []) (suc i) h = let e : 2 * suc i ≡ suc (suc (2 * i)) = omega arith in rw e refl
numbers_end (low ∷ high ∷ bytes) zero h = absurd (omega (arith, h))
numbers_end (low ∷ high ∷ bytes) (suc i) h = let e : 2 * suc i ≡ suc (suc (2 * i)) = omega arith in rw e (numbers_end bytes i (omega (arith, h)))

-- a read more is appended
pub listed_more : (rd : ℕ → Job) (done more whole : List Job) (bytes : List ℕ) (i n : ℕ) → 2 * i + 1 < length bytes → n ≡ slice_index bytes (2 * i) + 256 * slice_index bytes (2 * i + 1)
    → more ≡ done ++ rd n ∷ [] → done ++ map rd (numbers_in (drop (2 * i) bytes)) ≡ whole → more ++ map rd (numbers_in (drop (2 * (i + 1)) bytes)) ≡ whole
listed_more rd done more whole bytes i n within number pushed before =
    ap (λ xs. xs ++ map rd (numbers_in (drop (2 * (i + 1)) bytes))) pushed
    ∙ append_assoc done (rd n ∷ []) (map rd (numbers_in (drop (2 * (i + 1)) bytes)))
    ∙ ap (λ m. done ++ rd m ∷ map rd (numbers_in (drop (2 * (i + 1)) bytes))) number
    ∙ sym (ap (λ ns. done ++ map rd ns) (numbers_more bytes i within))
    ∙ before

pub listed_end : (rd : ℕ → Job) (done whole : List Job) (bytes : List ℕ) (i : ℕ) → length bytes ≤ 2 * i + 1 → done ++ map rd (numbers_in (drop (2 * i) bytes)) ≡ whole → done ≡ whole
listed_end rd done whole bytes i ended before = sym (append-nil done) ∙ sym (ap (λ ns. done ++ map rd ns) (numbers_end bytes i ended)) ∙ before

-- The reads are requests, and each reads operation data.
abbrev pub IsRead : Request → Type 0
IsRead (request.Read idn e) = e ≡ data_element
IsRead (request.Write idn e bytes) = ⊥
IsRead (request.Command idn) = ⊥

pub list_reads : (drives : List DriveView) → All (λ (job : Job). IsRead job.request) (map (λ (d : DriveView). reads_data d.address list_number) drives)
list_reads drives = All-map (λ (job : Job). IsRead job.request) (λ (d : DriveView). reads_data d.address list_number) drives (λ k d within. refl)

pub data_reads : (lists : List (ℕ × List ℕ)) → All (λ (job : Job). IsRead job.request) (data_jobs lists)
data_reads [] = λ k d within. absurd (omega (arith, within))
data_reads (list ∷ lists) =
    subst (λ jobs. All (λ (job : Job). IsRead job.request) jobs) (sym (flat_map-cons listed_jobs list lists))
    (All-append (λ (job : Job). IsRead job.request) (listed_jobs list) (data_jobs lists) (All-map (λ (job : Job). IsRead job.request) (reads_data list.0) (numbers_in list.1) (λ k d within. refl)) (data_reads lists))

-- the requests that a read is
request_of : (request : Request) → IsRead request → IsRequest request
request_of (request.Read idn e) is = (omega (arith, is), omega (arith, is))
request_of (request.Write idn e bytes) is = absurd is
request_of (request.Command idn) is = absurd is

all_requests : (jobs : List Job) → All (λ (job : Job). IsRead job.request) jobs → All (λ (job : Job). IsRequest job.request) jobs
all_requests jobs all = λ k d within. request_of (get_or jobs k d).request (all k d within)

pub list_requests : (drives : List DriveView) → All (λ (job : Job). IsRequest job.request) (map (λ (d : DriveView). reads_data d.address list_number) drives)
list_requests drives = all_requests _ (list_reads drives)

pub data_requests : (lists : List (ℕ × List ℕ)) → All (λ (job : Job). IsRequest job.request) (data_jobs lists)
data_requests lists = all_requests (data_jobs lists) (data_reads lists)
