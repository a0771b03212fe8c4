-- The tasks of each channel in an epoch, as far as the outcomes so far determine them, and the
-- values in the outcomes. Outcomes are listed oldest first.
use Rattle.std.specs.Prelude.{ℕ, ◌+◌, ◌*◌, ◌==◌, nat_le, Bool, false, ◌&&◌, if◌then◌else◌, List, [], ◌∷◌, ◌++◌, length, map, take, drop, sum_by, Option, Some, None, is_none, is_some, option_map, option_and_then, unwrap_or, slice_get, slice_index}
use Rattle.std.specs.List.{filter, last_or}
use Rattle.sercos_idn.specs.Elements.{attribute_element, data_element}
use Rattle.sercos_idn.specs.declared.idn.Idn.{Idn}
use Rattle.sercos_step.specs.declared.request.Request.{Request}
use Rattle.sercos_step.specs.declared.request.Request.TheVariants as request
use Rattle.sercos_step.specs.declared.request.Outcome.{Outcome}
use Rattle.sercos_step.specs.declared.request.Outcome.TheVariants as outcome
use Rattle.sercos_step.specs.Words.{bytes_in}
use Rattle.sercos_timing.specs.Views.{WishesView, PlanView}
use Rattle.sercos_timing.specs.declared.wishes.Wish.{Wish}
use Rattle.sercos_timing.specs.declared.wishes.Times.{Times}
use Rattle.sercos_block.specs.Rings.{attribute_in, number_len, telegram_len}
use Rattle.sercos_trace.specs.declared.events.Stop.{Stop}
use Rattle.sercos_trace.specs.declared.events.Stop.TheVariants as stop
use Rattle.sercos_seat.specs.declared.answers.Asked.{Asked}
use Rattle.sercos_seat.specs.Ring.{Known, MemberView, Task, member, startup}

-- The values in an outcome. A missing byte is 0.
abbrev pub bytes_of : Outcome → List ℕ
bytes_of (outcome.Complete bytes) = bytes
bytes_of _ = []

abbrev pub short_in : List ℕ → ℕ
short_in bytes = slice_index bytes 0 + 256 * slice_index bytes 1

abbrev pub long_in : List ℕ → ℕ
long_in bytes = short_in bytes + 65536 * short_in (drop 2 bytes)

-- the identifier numbers of a list: its whole pairs of bytes
abbrev pub idns_in : List ℕ → List Idn
idns_in (low ∷ high ∷ bytes) = (record { raw = low + 256 * high }) ∷ idns_in bytes
idns_in _ = []

-- the values in the i-th outcome
abbrev pub given : List Outcome → ℕ → List ℕ
given outcomes i = unwrap_or (option_map bytes_of (slice_get outcomes i)) []

-- the data status of a procedure command that ended well
abbrev pub ended_well : List ℕ → Bool
ended_well bytes = short_in bytes == 3

abbrev pub idn : ℕ → Idn
idn raw = record { raw = raw }

-- The start-up begins with reads: the times that a drive declares, T1min, TATMT, T4min, TATAT,
-- TMTSY and TMTSG; and the attribute of each data block that its AT and its data record carry.
abbrev pub declared_times : List ℕ
declared_times = 3 ∷ 4 ∷ 5 ∷ 87 ∷ 88 ∷ 90 ∷ []

abbrev pub reads : MemberView → List Request
reads d = map (λ raw. request.Read (idn raw) data_element) declared_times ++ map (λ i. request.Read i attribute_element) (d.at ++ d.mdt)

abbrev pub reads_count : MemberView → ℕ
reads_count d = 6 + length d.at + length d.mdt

-- Then there are writes: control unit cycle, cycle, T1, T4, T3, the record's position, the length
-- of the MDT, the telegram type, what AT and data record carry, and T2.
abbrev pub writes_word : ℕ → ℕ → Request
writes_word raw value = request.Write (idn raw) data_element (bytes_in (value ∷ []))

abbrev pub writes_list : ℕ → List Idn → Request
writes_list raw idns = request.Write (idn raw) data_element (bytes_in (map (λ i. i.raw) idns))

abbrev pub writes : Known → PlanView → ℕ → List Request
writes s p k =
    writes_word 1 s.control ∷ writes_word 2 s.cycle ∷ writes_word 6 (slice_index p.t1 k) ∷ writes_word 7 p.t4 ∷ writes_word 8 p.t3
    ∷ writes_word 9 (slice_index p.position k) ∷ writes_word 10 p.mdt_len ∷ writes_word 15 7
    ∷ writes_list 16 (member s k).at ∷ writes_list 24 (member s k).mdt ∷ writes_word 89 p.t2 ∷ []

-- A check is a procedure command. If it ended well, the next task follows. Otherwise the drive's
-- list of invalid data is read, and nothing more.
abbrev pub checking : ℕ → ℕ → ℕ → Option Outcome → List Task → List Task
checking phase command list None next = startup phase (request.Command (idn command)) ∷ []
checking phase command list (Some o) next =
    startup phase (request.Command (idn command)) ∷ (if ended_well (bytes_of o) then next
    else startup phase (request.Read (idn list) data_element) ∷ [])

-- The indices of the two checks among the tasks. That for phase 3 follows the reads and the eleven
-- writes, and that for phase 4 is the next task.
abbrev pub place_of_check_3 : MemberView → ℕ
place_of_check_3 d = reads_count d + 11

abbrev pub place_of_check_4 : MemberView → ℕ
place_of_check_4 d = reads_count d + 12

-- What follows the reads. Without a plan it is nothing. With one it is the plan's writes, the check
-- for phase 3, in phase 3 the check for phase 4, and then the requests that wait.
abbrev pub after_reads : Known → Option PlanView → List Task → ℕ → List Outcome → List Task
after_reads s None waiting k outcomes = []
after_reads s (Some p) waiting k outcomes =
    map (startup 2) (writes s p k) ++
    checking 2 127 21 (slice_get outcomes (place_of_check_3 (member s k)))
    (checking 3 128 22 (slice_get outcomes (place_of_check_4 (member s k))) waiting)

-- All tasks of the channel to the drive at index k of the ring, from the reads of phase 2 on.
abbrev pub agenda : Known → Option PlanView → List Task → ℕ → List Outcome → List Task
agenda s plan waiting k outcomes = map (startup 2) (reads (member s k)) ++ after_reads s plan waiting k outcomes

-- whether all reads have ended; whether the check for phase 3 ended well; whether both checks ended
-- well
abbrev pub is_read : MemberView → List Outcome → Bool
is_read d outcomes = nat_le (reads_count d) (length outcomes)

abbrev pub is_checked : MemberView → List Outcome → Bool
is_checked d outcomes = ended_well (given outcomes (place_of_check_3 d))

abbrev pub is_ready : MemberView → List Outcome → Bool
is_ready d outcomes = is_checked d outcomes && ended_well (given outcomes (place_of_check_4 d))

-- The attributes that were read, as words, and how many bytes each adds to a telegram: two or four
-- for that of a number, otherwise none.
abbrev pub words_given : List Outcome → List ℕ
words_given [] = []
words_given (o ∷ outcomes) = long_in (bytes_of o) ∷ words_given outcomes

abbrev pub at_attributes : MemberView → List Outcome → List ℕ
at_attributes d outcomes = take (length d.at) (drop 6 (words_given outcomes))

abbrev pub mdt_attributes : MemberView → List Outcome → List ℕ
mdt_attributes d outcomes = take (length d.mdt) (drop (6 + length d.at) (words_given outcomes))

abbrev pub len_said : ℕ → Option ℕ
len_said word = option_and_then number_len (attribute_in word)

abbrev pub len_or_none : ℕ → ℕ
len_or_none word = unwrap_or (len_said word) 0

-- the length of a drive's AT after the address, and that of its data record, in bytes: two words,
-- and the configured values
abbrev pub at_len : MemberView → List Outcome → ℕ
at_len d outcomes = telegram_len len_said (at_attributes d outcomes)

abbrev pub record_len : MemberView → List Outcome → ℕ
record_len d outcomes = telegram_len len_said (mdt_attributes d outcomes)

abbrev pub times_given : List Outcome → Times
times_given outcomes = record {
  t1min = short_in (given outcomes 0);
  tatmt = short_in (given outcomes 1);
  t4min = short_in (given outcomes 2);
  tatat = short_in (given outcomes 3);
  tmtsy = short_in (given outcomes 4);
  tmtsg = short_in (given outcomes 5);
}

-- the planner's input of a drive, from its answers
abbrev pub wish_given : MemberView → List Outcome → Wish
wish_given d outcomes = record {
  address = d.address;
  slave = d.slave;
  times = times_given outcomes;
  at_len = at_len d outcomes;
  record_len = record_len d outcomes;
}

abbrev pub wishes_from : List MemberView → ℕ → (ℕ → List Outcome) → List Wish
wishes_from [] k outcomes = []
wishes_from (d ∷ drives) k outcomes = wish_given d (outcomes k) ∷ wishes_from drives (k + 1) outcomes

-- the planner's input, from the outcomes of each channel
abbrev pub wishes_given : Known → (ℕ → List Outcome) → WishesView
wishes_given s outcomes = record {
  rate = s.rate;
  cycle = s.cycle;
  control = s.control;
  gap = s.gap;
  order = s.order;
  drives = wishes_from s.drives 0 outcomes;
}

-- what a request is for: the identifier number, and the element if it is a read
abbrev pub asked_by : Request → Asked
asked_by (request.Read i e) = record { idn = i; reads = Some e }
asked_by (request.Write i e bytes) = record { idn = i; reads = None }
asked_by (request.Command i) = record { idn = i; reads = None }

-- The stop that the outcome of a start-up task causes: the task was refused, an attribute can't be
-- configured, or the list after a failed check was read.
abbrev pub attribute_stop : ℕ → Idn → ℕ → Option Stop
attribute_stop address i word = if is_none (len_said word) then Some (stop.BadConfig address i word) else None

abbrev pub list_stop : ℕ → ℕ → List ℕ → Option Stop
list_stop address raw bytes =
    if raw == 21 then Some (stop.Check127 address (record { items = take 64 (idns_in bytes) }))
    else (if raw == 22 then Some (stop.Check128 address (record { items = take 64 (idns_in bytes) })) else None)

abbrev pub reads_that : ℕ → Option ℕ → Bool
reads_that e None = false
reads_that e (Some read) = read == e

abbrev pub reads_element : ℕ → Asked → Bool
reads_element e asked = reads_that e asked.reads

abbrev pub stop_by_bytes : ℕ → Asked → List ℕ → Option Stop
stop_by_bytes address asked bytes =
    if reads_element 3 asked then attribute_stop address asked.idn (long_in bytes)
    else (if reads_element 7 asked then list_stop address asked.idn.raw bytes else None)

abbrev pub stop_by : ℕ → Asked → Outcome → Option Stop
stop_by address asked (outcome.Refused code) = Some (stop.Refused address asked.idn code)
stop_by address asked (outcome.Complete bytes) = stop_by_bytes address asked bytes
stop_by address asked outcome.Broken = None

abbrev pub stop_of_task : ℕ → Option ℕ → Asked → Outcome → Option Stop
stop_of_task address number asked o = if is_some number then None else stop_by address asked o

-- The values of all data records, in ring order: the drive's address, the identifier number, and
-- its attribute as it was read.
pub record RecordEntry : Type 0 where
  pub address : ℕ
  pub idn : Idn
  pub word : ℕ

abbrev pub record_entries : ℕ → List Idn → List ℕ → List RecordEntry
record_entries address (i ∷ idns) (word ∷ words) = record { address = address; idn = i; word = word } ∷ record_entries address idns words
record_entries address idns words = []

abbrev pub entries_from : List MemberView → ℕ → (ℕ → List Outcome) → List RecordEntry
entries_from [] k outcomes = []
entries_from (d ∷ drives) k outcomes =
    record_entries d.address d.mdt (mdt_attributes d (outcomes k)) ++ entries_from drives (k + 1) outcomes

-- If the data records are longer than an MDT, the stop is for the last value of four bytes.
abbrev pub has_four_bytes : RecordEntry → Bool
has_four_bytes e = len_or_none e.word == 4

abbrev pub stop_of_entry : RecordEntry → Stop
stop_of_entry e = stop.BadConfig e.address e.idn e.word

abbrev pub last_long_stop : List MemberView → ℕ → (ℕ → List Outcome) → Option Stop
last_long_stop drives k outcomes = option_map stop_of_entry (last_or None (filter has_four_bytes (entries_from drives k outcomes)))
