-- The requests of a backup and of a restore.
use Rattle.std.specs.Prelude.{◌≡◌, ℕ, ◌+◌, ◌*◌, ◌<◌, ◌≤◌, ◌==◌, Bool, false, not, List, [], ◌∷◌, length, map, Option}
use Rattle.std.specs.List.{flat_map, position}
use Rattle.sercos_idn.specs.Elements.{data_element}
use Rattle.sercos_step.specs.declared.request.Request.{Request}
use Rattle.sercos_step.specs.declared.request.Request.TheVariants as request
use Rattle.sercos_step.specs.declared.request.Job.{Job}
use Rattle.sercos_block.specs.Views.{RingView}
use Rattle.sercos_backup.specs.declared.jobs.DataJobs.{DataJobs}
use Rattle.sercos_backup.specs.declared.jobs.DataJobs.TheVariants.{TooMany, Memory}

-- the number of S-0-0192, the list of backup operation data
abbrev pub list_number : ℕ
list_number = 192

-- a read of the operation data of a block
abbrev pub reads_data : ℕ → ℕ → Job
reads_data address raw = record { drive = address; request = request.Read (record { raw = raw }) data_element }

-- the reads of the lists of all drives, in the order of the ring
abbrev pub list_jobs : RingView → List Job
list_jobs r = map (λ d. reads_data d.address list_number) r.drives

-- the identifier numbers of a list: its whole pairs of bytes, the low byte first
unfoldable pub numbers_in : List ℕ → List ℕ
numbers_in (low ∷ high ∷ bytes) = (low + 256 * high) ∷ numbers_in bytes
numbers_in _ = []

-- the reads of the blocks on the list of a drive, and on the lists of some drives
abbrev pub listed_jobs : ℕ × List ℕ → List Job
listed_jobs list = map (reads_data list.0) (numbers_in list.1)

abbrev pub data_jobs : List (ℕ × List ℕ) → List Job
data_jobs lists = flat_map listed_jobs lists

-- why they can't be made: there are more than 4096, or there is no memory
abbrev pub IsFault : List Job → DataJobs → Type 0
IsFault jobs (TooMany count) = (count ≡ length jobs) × (4096 < length jobs)
IsFault jobs Memory = length jobs ≤ 4096

-- Whether a request writes operation data; and the place of the first one that doesn't.
abbrev pub writes_data : Request → Bool
writes_data (request.Read idn e) = false
writes_data (request.Write idn e bytes) = e == data_element
writes_data (request.Command idn) = false

abbrev pub place_of_other : List Job → Option ℕ
place_of_other jobs = position (λ job. not (writes_data job.request)) jobs
