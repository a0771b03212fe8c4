-- The generated ring keeps the rules, and so do its jobs and faults.
use Rattle.std.proofs.Common.{◌≡◌, ℕ, zero, suc, ◌+◌, ◌-◌, ◌*◌, ◌/◌, ◌%◌, ◌^◌, ◌<◌, ◌≤◌, ◌==◌, nat_le, Bool, true, false, ◌||◌, List, [], ◌∷◌, ◌++◌, length, map, Some, refl, ◌∙◌, ap, sym, subst, add-one, arith}
use Rattle.std.proofs.lemmas.Bool.Decides.{nat_tests}
use Rattle.std.proofs.lemmas.Nat.{mul-le}
use Rattle.std.proofs.lemmas.List.FromFn.{length-map-range_with_len, map-range_with_len_more, sum_by-map-range_with_len_more}
use Rattle.std.proofs.lemmas.List.Elements.{All-push}
use Rattle.std.proofs.lemmas.List.Folds.{list_any-append}
use Rattle.std.specs.List.{All, list_all, list_any, range_with_len, sum_by}
use Rattle.sercos_idn.specs.Attributes.{attribute_of}
use Rattle.sercos_idn.specs.Codes.{is_list, attribute_fault}
use Rattle.sercos_timing.specs.Valid.{is_rate, is_cycle, is_control}
use Rattle.sercos_step.specs.Jobs.{IsJob, AreJobs}
use Rattle.sercos_step.specs.Steps.{IsTypedRequest, AreTypedJobs}
use Rattle.sercos_block.specs.Views.{DriveView}
use Rattle.sercos_block.specs.Blocks.{number_end}
use Rattle.sercos_block.specs.Rules.{block_fault, blocks_fault}
use Rattle.sercos_block.specs.Stores.{is_typed, IsTyped}
use Rattle.sercos_block.specs.Startup.{startup_of}
use Rattle.sercos_block.specs.Rings.{attribute_in, row_in, built_in_attribute, own_attribute, block_attribute, cyclic_len, listed_len, is_ring, are_ring_numbers, has_drives, mdt_len, record_len, is_drive, are_drives, has_address, has_other_data, are_drive_numbers, has_drive_numbers, are_times, has_blocks, are_cyclic, is_order}
use Rattle.sercos_config.specs.Ring.{places_below}
use Rattle.sercos_config.specs.Views.{DocumentView}
use Rattle.sercos_config.specs.Generated.{generated_times, generated_drive, generated_job, generated_fault, generated_ring, generated_cycles, generated}
use Rattle.sercos_config.proofs.OrderLemmas.{is_order_places}
use Rattle.sercos_config.proofs.DriveLemmas.{drives_none, drives_more}

-- the attribute of a position
pub position_read : attribute_in 0x00220001 ≡ Some (attribute_of 0x00220001)
unfolding attribute_in attribute_fault
position_read = refl

pub position_is_four : number_end (attribute_of 0x00220001).length ≡ 2 ^ 32
unfolding attribute_of
position_is_four = refl

pub position_is_number : is_list (attribute_of 0x00220001).length ≡ false
unfolding attribute_of
position_is_number = refl

-- a start-up fits its type
pub startup_fits : (cycles steps : ℕ) → cycles ≤ 257 → steps ≤ 131280 → cycles * steps ≤ 33738960
startup_fits cycles steps h k = mul-le cycles steps 257 131280 h k

-- what is made of the numbers 1 to n
pub made_more : {X : Type 0} (f : ℕ → X) (n : ℕ) → map f (range_with_len 1 (n + 1)) ≡ map f (range_with_len 1 n) ++ f (n + 1) ∷ []
made_more f n = map-range_with_len_more f 1 n (n + 1) (omega arith)

made_next : {X : Type 0} (f : ℕ → X) (n : ℕ) → map f (range_with_len 1 (suc n)) ≡ map f (range_with_len 1 n) ++ f (suc n) ∷ []
made_next f n = let more = made_more f n in rw (add-one n) at more

pub made_count : {X : Type 0} (f : ℕ → X) (n : ℕ) → length (map f (range_with_len 1 n)) ≡ n
made_count f n = length-map-range_with_len f 1 n

-- the drives 1 to n
abbrev drives_to : ℕ → List DriveView
drives_to n = map generated_drive (range_with_len 1 n)

sum_next : (g : DriveView → ℕ) (n : ℕ) → sum_by g (drives_to (suc n)) ≡ sum_by g (drives_to n) + g (generated_drive (suc n))
sum_next g n = let more = sum_by-map-range_with_len_more g generated_drive 1 n (n + 1) (omega arith) in rw (add-one n) at more

-- what is so of each of them by its own numbers
numbers_valid : (k : ℕ) → 1 ≤ k → k ≤ 64 → are_drive_numbers k (1 + (k - 1) / 2) (k % 3) (k % 4) (generated_times k) 125 64000 ≡ true
unfolding are_drive_numbers are_times
numbers_valid k h j = grind (arith, nat_tests)

blocks_valid : (k : ℕ) → has_blocks (generated_drive k) ≡ true
unfolding has_blocks blocks_fault block_fault attribute_of generated_drive
blocks_valid k = refl

feedback_valid : (k : ℕ) → are_cyclic (generated_drive k).blocks (generated_drive k).at ≡ true
unfolding are_cyclic cyclic_len block_attribute built_in_attribute row_in own_attribute attribute_of generated_drive
feedback_valid k = refl

command_valid : (k : ℕ) → are_cyclic (generated_drive k).blocks (generated_drive k).mdt ≡ true
unfolding are_cyclic cyclic_len block_attribute built_in_attribute row_in own_attribute attribute_of generated_drive
command_valid k = refl

record_is_8 : (k : ℕ) → record_len (generated_drive k) ≡ 8
unfolding listed_len cyclic_len block_attribute built_in_attribute row_in own_attribute attribute_of generated_drive
record_is_8 k = refl

startup_is_few : (k : ℕ) → startup_of (generated_drive k) ≤ 384
unfolding generated_drive
startup_is_few k = mul-le (k % 3 + 2) (82 + 4 * (1 + 1) + 2 * (k % 4)) 4 96 (omega arith) (omega arith)

-- sums over them
startups_are_few : (n : ℕ) → sum_by startup_of (drives_to n) ≤ 384 * n
startups_are_few zero = omega arith
startups_are_few (suc n) =
    let more = sum_next startup_of n in
    let here = startup_is_few (suc n) in
    let before = startups_are_few n in
    omega (arith, more, here, before)

records_are_few : (n : ℕ) → sum_by record_len (drives_to n) ≤ 8 * n
records_are_few zero = omega arith
records_are_few (suc n) =
    let more = sum_next record_len n in
    let here = record_is_8 (suc n) in
    let before = records_are_few n in
    omega (arith, more, here, before)

-- an address above n is none of theirs, and one up to n is
address_next : (n k : ℕ) → has_address k (drives_to (suc n)) ≡ (has_address k (drives_to n) || ((suc n == k) || false))
unfolding has_address generated_drive
address_next n k = ap (λ ds. list_any (λ (d : DriveView). d.address == k) ds) (made_next generated_drive n) ∙ (list_any-append (λ (d : DriveView). d.address == k) (drives_to n) (generated_drive (suc n) ∷ []))

not_yet : (n k : ℕ) → n < k → has_address k (drives_to n) ≡ false
unfolding has_address
not_yet zero k h = refl
not_yet (suc n) k h = address_next n k ∙ none _ _ (not_yet n k (omega arith)) (differs n k h)
  where
    differs : (n k : ℕ) → suc n < k → (suc n == k) ≡ false
    differs n k h = grind (arith, nat_tests)

    none : (a b : Bool) → a ≡ false → b ≡ false → (a || (b || false)) ≡ false
    none a b h k = rw (h, k) refl

among : (n k : ℕ) → 1 ≤ k → k ≤ n → has_address k (drives_to n) ≡ true
among zero k h j = absurd (omega (arith, h, j))
among (suc n) k h j = address_next n k ∙ by_last (suc n == k) _ (λ e. among n k h (less n k j e))
  where
    whole : (a : Bool) → (a || true) ≡ true
    whole true = refl
    whole false = refl

    less : (n k : ℕ) → k ≤ suc n → (suc n == k) ≡ false → k ≤ n
    less n k j e = grind (arith, nat_tests)

    by_last : (last before : Bool) → (last ≡ false → before ≡ true) → (before || (last || false)) ≡ true
    by_last true before h = whole before
    by_last false before h = rw (h refl) refl

-- each keeps the rules of a drive after those before it
own_numbers : (k : ℕ) → 1 ≤ k → k ≤ 64 → has_drive_numbers (generated_drive k) ≡ true
unfolding generated_drive
own_numbers k h j = numbers_valid k h j

own_address : (before : List DriveView) (k : ℕ) → has_address k before ≡ false → has_address (generated_drive k).address before ≡ false
unfolding generated_drive
own_address before k h = h

drive_valid : (before : List DriveView) (k : ℕ) → 1 ≤ k → k ≤ 64 → has_address k before ≡ false → is_drive before (generated_drive k) ≡ true
unfolding is_drive
drive_valid before k h j new = rw (own_address before k new, own_numbers k h j, blocks_valid k, feedback_valid k, command_valid k) refl

drives_valid : (n : ℕ) → n ≤ 64 → are_drives [] (drives_to n) ≡ true
drives_valid zero h = drives_none
drives_valid (suc n) h =
    subst (λ ds. are_drives [] ds ≡ true) (sym (made_next generated_drive n))
    (drives_more (drives_to n) (generated_drive (suc n)) (drives_valid n (omega arith)) (drive_valid (drives_to n) (suc n) (omega arith) h (not_yet n (suc n) (omega arith))))

-- the ring
ring_numbers : (cycles : ℕ) → 1 ≤ cycles → cycles ≤ 50000 → are_ring_numbers 4 4000 4000 5 cycles ≡ true
unfolding are_ring_numbers is_rate is_cycle is_control
ring_numbers cycles h j = grind (arith, nat_tests)

ring_valid : (n : ℕ) → 1 ≤ n → n ≤ 64 → is_ring (generated_ring n (generated_cycles n)) ≡ true
unfolding is_ring has_drives mdt_len generated_ring generated_cycles
ring_valid n h j =
    let count = made_count generated_drive n in
    let startups = startups_are_few n in
    let records = records_are_few n in
    let numbers = ring_numbers (20 + 2 * length (drives_to n) + sum_by startup_of (drives_to n) + 100) (omega arith) (omega (arith, count, startups, j)) in
    let some : nat_le 1 (length (drives_to n)) ≡ true = grind (arith, nat_tests) in
    let few : nat_le (length (drives_to n)) 64 ≡ true = grind (arith, nat_tests) in
    let fits : nat_le (sum_by record_len (drives_to n)) 2047 ≡ true = grind (arith, nat_tests) in
    let order : is_order (length (drives_to n)) (places_below n) ≡ true = rw count (is_order_places n) in
    rw (numbers, some, few, drives_valid n j, fits, order) refl

-- the jobs and the faults
each_is : {X : Type 0} (P : X → Type 0) (f : ℕ → X) (n : ℕ) → ((k : ℕ) → 1 ≤ k → k ≤ n → P (f k)) → All P (map f (range_with_len 1 n))
each_is P f zero h = λ k d below. absurd (omega (arith, below))
each_is P f (suc n) h =
    subst (All P) (sym (made_next f n))
    (All-push P (map f (range_with_len 1 n)) (f (suc n)) (each_is P f n (λ k i j. h k i (omega (arith, j)))) (h (suc n) (omega arith) (omega arith)))

job_valid : (n k : ℕ) (is_other : ℕ → ℕ → Bool) → 1 ≤ k → k ≤ n → IsJob (λ address. has_address address (drives_to n)) is_other (generated_job k)
unfolding generated_job
job_valid n k is_other h j = record { drive = among n k h j; request = (omega arith, omega arith); command = _ }

jobs_valid : (n cycles : ℕ) (is_other : ℕ → ℕ → Bool) → n ≤ 64 → AreJobs (λ address. has_address address (generated_ring n cycles).drives) is_other (map generated_job (range_with_len 1 n))
unfolding generated_ring
jobs_valid n cycles is_other h =
    let count = made_count generated_job n in
    record {
      all = each_is (IsJob (λ address. has_address address (drives_to n)) is_other) generated_job n (λ k i j. job_valid n k is_other i j);
      few = omega (arith, count, h);
    }

faults_valid : (n : ℕ) → All (λ f. 1 ≤ f.every) (map (generated_fault n) (range_with_len 1 n))
unfolding generated_fault
faults_valid n = each_is (λ f. 1 ≤ f.every) (generated_fault n) n (λ k i j. one)
  where
    one : 1 ≤ 1
    one = omega arith

-- the numbers of drives and requests
blocks_typed : (k : ℕ) → list_all is_typed (generated_drive k).blocks ≡ true
unfolding is_typed attribute_of generated_drive
blocks_typed k = refl

drive_typed : (k : ℕ) → IsTyped (generated_drive k)
unfolding generated_drive
drive_typed k = record { blocks = blocks_typed k; at = omega arith; mdt = omega arith }

job_typed : (k : ℕ) → IsTypedRequest (generated_job k).request
unfolding generated_job
job_typed k = (omega arith, (omega arith, omega arith))

-- the document
pub document_is_typed : (n : ℕ) (d : DocumentView) → d ≡ generated n → All IsTyped d.setup.drives × AreTypedJobs d.jobs
unfolding generated generated_ring
document_is_typed n d e = subst (λ (d : DocumentView). All IsTyped d.setup.drives × AreTypedJobs d.jobs) (sym e)
    (each_is IsTyped generated_drive n (λ k i j. drive_typed k), each_is (λ job. IsTypedRequest job.request) generated_job n (λ k i j. job_typed k))

pub document_has_ring : (n : ℕ) (d : DocumentView) → 1 ≤ n → n ≤ 64 → d ≡ generated n → is_ring d.setup ≡ true
unfolding generated
document_has_ring n d h j e = subst (λ (d : DocumentView). is_ring d.setup ≡ true) (sym e) (ring_valid n h j)

pub document_has_jobs : (n : ℕ) (d : DocumentView) → n ≤ 64 → d ≡ generated n
    → AreJobs (λ address. has_address address d.setup.drives) (λ address raw. has_other_data address raw d.setup.drives) d.jobs
unfolding generated
document_has_jobs n d j e =
    subst (λ (d : DocumentView). AreJobs (λ address. has_address address d.setup.drives) (λ address raw. has_other_data address raw d.setup.drives) d.jobs) (sym e)
    (jobs_valid n (generated_cycles n) (λ address raw. has_other_data address raw (generated_ring n (generated_cycles n)).drives) j)

pub document_has_faults : (n : ℕ) (d : DocumentView) → d ≡ generated n → All (λ f. 1 ≤ f.every) d.faults
unfolding generated
document_has_faults n d e = subst (λ (d : DocumentView). All (λ f. 1 ≤ f.every) d.faults) (sym e) (faults_valid n)
