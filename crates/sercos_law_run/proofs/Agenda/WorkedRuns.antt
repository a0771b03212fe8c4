-- Calls that were worked out by hand, computed from the definitions: what the laws ask for is met.
use Rattle.sercos_law_run.proofs.Words.{◌≡◌, ℕ, zero, suc, ◌/◌, ◌%◌, Bool, true, false, List, [], ◌∷◌, length, Option, Some, is_some, refl, mst_content, Idn, begun_by, Stop, Known, Task, request_task, idn, Call, HearMst, HearAt, End, Restart, past, in_turn, is_idle, channel_at, RestartsAtStart, still_to_tell, told, MasterMdt, Request, Outcome, head_fault, mst_fault, fields, word_at, word_bytes, status_of, attribute_fault, attribute_of, attribute_in}
use Rattle.sercos_plan.specs.ChainOf as ChainOf
use Rattle.sercos_plan.specs.LeastTimes as LeastTimes

-- A ring of one drive with address 1, of 4 megabits and cycles of 250 microseconds; the AT carries these values.
abbrev ring : List Idn → Known
ring at = record { rate = 4; cycle = 250; control = 250; gap = 5; order = 0 ∷ []; drives = (record { address = 1; slave = 1; at = at; mdt = [] }) ∷ [] }

abbrev no_requests : ℕ → List Task
no_requests k = []

-- a cycle without an AT, and one with an AT; the calls before it come last
abbrev silent : ℕ → List Call → List Call
silent phase h = End ∷ MasterMdt ∷ HearMst (Some (mst_content phase)) ∷ h

abbrev heard : ℕ → List ℕ → List Call → List Call
heard phase at h = End ∷ MasterMdt ∷ HearAt at ∷ HearMst (Some (mst_content phase)) ∷ h

abbrev silences : ℕ → List Call → List Call
silences zero h = h
silences (suc n) h = silent 0 (silences n h)

-- An AT for each of these words, with handshake bits 1, 0, 1, 0 .. or 0, 1, 0, 1 ..
abbrev at : ℕ → ℕ → List ℕ
at status word = 1 ∷ status ∷ 0 ∷ (word % 256) ∷ (word / 256) ∷ []

abbrev answers : ℕ → ℕ → List ℕ → List Call → List Call
answers phase bit [] h = h
answers phase zero (word ∷ words) h = answers phase 1 words (heard phase (at 0 word) h)
answers phase (suc bit) (word ∷ words) h = answers phase 0 words (heard phase (at 1 word) h)

-- the answers to a read of a word, and of a list of one identifier number; and to a write of a word, and of an empty list
abbrev read_word : ℕ → List ℕ → List ℕ
read_word word rest = 0 ∷ 1 ∷ 24593 ∷ word ∷ rest

abbrev read_list : ℕ → List ℕ → List ℕ
read_list word rest = 0 ∷ 1 ∷ 24661 ∷ 2 ∷ 128 ∷ word ∷ rest

abbrev write_word : List ℕ → List ℕ
write_word rest = 0 ∷ 1 ∷ 24593 ∷ 0 ∷ rest

abbrev write_list : List ℕ → List ℕ
write_list rest = 0 ∷ 1 ∷ 24661 ∷ 0 ∷ 0 ∷ rest

-- the answers to a check that ends with this data status
abbrev check : ℕ → List ℕ → List ℕ
check status rest = 0 ∷ 0 ∷ status ∷ 0 ∷ rest

-- T1min 10, TATMT 6, T4min this, TATAT 5, TMTSY 10, TMTSG 20
abbrev times : ℕ → List ℕ → List ℕ
times t4min rest = read_word 10 (read_word 6 (read_word t4min (read_word 5 (read_word 10 (read_word 20 rest)))))

abbrev eleven_writes : List ℕ → List ℕ
eleven_writes rest = write_word (write_word (write_word (write_word (write_word (write_word (write_word (write_word (write_list (write_list (write_word rest))))))))))

-- ten cycles of phase 0, two of phase 1 with the identification, and the first of phase 2; and the same with such answers after it
abbrev to_2 : List Call
to_2 = silent 2 (heard 1 (at 0 0) (silent 1 (silences 10 [])))

abbrev in_2 : List ℕ → List Call
in_2 words = answers 2 1 words to_2

-- the whole start-up, up to the first cycle of phase 3, and of phase 4
abbrev to_3 : List Call
to_3 = silent 3 (in_2 (times 20 (eleven_writes (check 3 []))))

abbrev to_4 : List Call
to_4 = silent 4 (answers 3 1 (check 3 []) to_3)

-- In phase 2 a transfer is open, and the turn is the drive's. The plan comes with the last of the reads. The check for phase 3 is begun
-- after the eleven writes, since 18 requests are more than 6 reads and 11; and the phase rises after it, and after the check for phase 4.
starts_up : (is_idle (past (ring []) no_requests to_2) 0 ≡ false)
    × (in_turn (ring []) (past (ring []) no_requests to_2) ≡ Some 0)
    × (is_some (past (ring []) no_requests (in_2 (times 20 []))).plan ≡ true)
    × (length (begun_by ((past (ring []) no_requests (in_2 (times 20 (eleven_writes [])))).calls 0)) ≡ 18)
    × ((past (ring []) no_requests (in_2 (times 20 (eleven_writes (check 3 []))))).now.phase ≡ 3)
    × ((past (ring []) no_requests to_4).now.phase ≡ 4)
unfolding mst_fault head_fault word_bytes word_at fields status_of attribute_in attribute_fault attribute_of ChainOf.chain_of LeastTimes.least_plan LeastTimes.least_t2 LeastTimes.least_t3
starts_up = (refl, refl, refl, refl, refl, refl)

abbrev is_no_fit : Option Stop → Bool
is_no_fit (Some (Stop.NoFit chain)) = true
is_no_fit _ = false

-- EACH STOP. No plan fits, where T4min is above the cycle. The first write is refused with code 7006 (hexadecimal). The attribute of a
-- value of the AT is that of a list. Each check ends with data status 15, and then its list has one identifier number.
stops : (is_no_fit (past (ring []) no_requests (in_2 (times 251 []))).stop ≡ true)
    × ((past (ring []) no_requests (heard 2 (at 4 28678) (answers 2 1 (0 ∷ 1 ∷ 24593 ∷ []) (in_2 (times 20 []))))).stop
    ≡ Some (Stop.Refused 1 (idn 1) (record { raw = 28678 })))
    × ((past (ring (idn 51 ∷ [])) no_requests (in_2 (times 20 (0 ∷ 1 ∷ 24661 ∷ [])))).stop ≡ Some (Stop.BadConfig 1 (idn 51) 1616183297))
    × ((past (ring []) no_requests (in_2 (times 20 (eleven_writes (check 15 (read_list 32778 [])))))).stop
    ≡ Some (Stop.Check127 1 (record { items = idn 32778 ∷ [] })))
    × ((past (ring []) no_requests (answers 3 1 (check 15 (read_list 32778 [])) to_3)).stop
    ≡ Some (Stop.Check128 1 (record { items = idn 32778 ∷ [] })))
unfolding mst_fault head_fault word_bytes word_at fields status_of attribute_in attribute_fault attribute_of ChainOf.chain_of LeastTimes.least_plan LeastTimes.least_t2 LeastTimes.least_t3
stops = (refl, refl, refl, refl, refl)

-- REPORTS of three requests. The first is read whole; the second is at work where the master restarts; the third waits.
abbrev three_reads : ℕ → List Task
three_reads k = request_task 1 (Request.Read (idn 51) 7) ∷ request_task 2 (Request.Read (idn 40) 7) ∷ request_task 3 (Request.Read (idn 51) 7) ∷ []

abbrev restarted : List Call
restarted = Restart ∷ answers 4 1 (read_word 250 []) to_4

at_start : RestartsAtStart restarted
at_start = (tt, tt)

two_told : (told (ring []) three_reads 0 restarted
    ≡ (record { number = 2; outcome = Outcome.Broken }) ∷ (record { number = 1; outcome = Outcome.Complete (250 ∷ 0 ∷ []) }) ∷ [])
    × (still_to_tell (channel_at (past (ring []) three_reads restarted) 0) ≡ Some 3 ∷ [])
unfolding mst_fault head_fault word_bytes word_at fields status_of attribute_in attribute_fault attribute_of ChainOf.chain_of LeastTimes.least_plan LeastTimes.least_t2 LeastTimes.least_t3
two_told = (refl, refl)
