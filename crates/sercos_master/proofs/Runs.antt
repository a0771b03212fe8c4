-- Runs whose cycles were worked out by hand, computed from the definitions: what is commanded, reported and sent.
use Rattle.sercos_master.proofs.Words.{◌≡◌, ℕ, ◌==◌, nat_le, ◌&&◌, ◌||◌, if◌then◌else◌, List, [], ◌∷◌, map, Option, Some, refl, Known, Task, Sent, mdt_said}
use Rattle.sercos_idn.specs.declared.idn.Idn.{Idn}
use Rattle.sercos_step.specs.declared.request.Request.TheVariants as request
use Rattle.sercos_step.specs.declared.request.Outcome.TheVariants as outcome
use Rattle.sercos_trace.specs.declared.events.Stop.TheVariants as stop
use Rattle.sercos_trace.specs.declared.events.Fall.TheVariants as fall
use Rattle.sercos_telegram.specs.Faults as Faults
use Rattle.sercos_telegram.specs.Spells as Spells
use Rattle.sercos_telegram.specs.Words as Words
use Rattle.sercos_block.specs.Rings as Rings
use Rattle.sercos_idn.specs.Codes as Codes
use Rattle.sercos_idn.specs.Attributes as Attributes
use Rattle.sercos_plan.specs.ChainOf as ChainOf
use Rattle.sercos_plan.specs.LeastTimes as LeastTimes
use Rattle.sercos_master.proofs.Bench.{Script, Drive, run, before_end, events, no_events, quiet}

-- A RING OF ONE DRIVE, of 4 megabits and cycles of 250 microseconds, whose AT carries S-0-0051 and whose record S-0-0047.
abbrev pub idn : ℕ → Idn
idn raw = record { raw = raw }

abbrev pub ring : Known
ring = record { rate = 4; cycle = 250; control = 250; gap = 5; order = 0 ∷ []; drives = (record { address = 1; slave = 1; at = idn 51 ∷ []; mdt = idn 47 ∷ [] }) ∷ [] }

-- its times: T1min 10, TATMT 6, T4min 20, TATAT 5, TMTSY 10, TMTSG 20
abbrev words : ℕ → List ℕ
words raw = if raw == 3 then 10 ∷ [] else (if raw == 4 then 6 ∷ [] else (if raw == 5 then 20 ∷ [] else (if raw == 87 then 5 ∷ [] else (if raw == 88 then 10 ∷ [] else (if raw == 90 then 20 ∷ [] else (if raw == 51 then 65530 ∷ 0 ∷ [] else 0 ∷ []))))))

abbrev attribute : ℕ → ℕ
attribute raw = if (raw == 47) || (raw == 51) then 0x00220001 else (if (raw == 16) || ((raw == 24) || ((raw == 21) || (raw == 22))) then 0x60550001 else 0x60110001)

abbrev pub drive : Drive
drive = record { words = words; attribute = attribute; refuses = λ raw. 0; status = λ raw. 3 }

abbrev pub no_requests : ℕ → List Task
no_requests k = []

abbrev read_51 : ℕ → List Task
read_51 k = (record { phase = 4; number = Some 1; request = request.Read (idn 51) 7 }) ∷ []

abbrev pub write_and_read : ℕ → List Task
write_and_read k =
    (record { phase = 4; number = Some 1; request = request.Write (idn 47) 7 (1 ∷ 0 ∷ 0 ∷ 0 ∷ []) })
    ∷ (record { phase = 4; number = Some 2; request = request.Read (idn 47) 7 }) ∷ []

-- the phases commanded in these cycles, the events of one, and the MDT of one
abbrev phases : Known → (ℕ → List Task) → List Drive → Script → List ℕ → List ℕ
phases s requests drives x cycles = map (λ n. (run s requests drives x n).now.phase) cycles

abbrev mdt_in : Known → (ℕ → List Task) → List Drive → Script → ℕ → Option Sent
mdt_in s requests drives x n = mdt_said s (before_end s drives x (run s requests drives x n))

-- Without faults: phase 1 in 10, phase 2 in 12, phase 3 in 95 after the last answer of phase 2 in 94, phase 4 in 100. The plan comes in
-- 42, with the answer to the last read. The request's read ends in 105. An identification, the first step of phase 2, and the first of
-- phase 3, with a command value of four bytes.
starts_up : (phases ring read_51 (drive ∷ []) quiet (9 ∷ 10 ∷ 11 ∷ 12 ∷ 94 ∷ 95 ∷ 99 ∷ 100 ∷ []) ≡ 0 ∷ 1 ∷ 1 ∷ 2 ∷ 2 ∷ 3 ∷ 3 ∷ 4 ∷ [])
    × (events ring read_51 (drive ∷ []) quiet 41 ≡ no_events)
    × (events ring read_51 (drive ∷ []) quiet 42
    ≡ record no_events { plan = Some (record { t1 = 10 ∷ []; t2 = 47; t3 = 98; t4 = 230; position = 1 ∷ []; mdt_len = 8 }) })
    × (events ring read_51 (drive ∷ []) quiet 104 ≡ no_events)
    × (events ring read_51 (drive ∷ []) quiet 105 ≡ record no_events { outcomes = (1, outcome.Complete (250 ∷ 255 ∷ 0 ∷ 0 ∷ [])) ∷ [] })
    × (mdt_in ring read_51 (drive ∷ []) quiet 10 ≡ Some (record { start = 650; content = 1 ∷ 0 ∷ 0 ∷ 0 ∷ 0 ∷ [] }))
    × (mdt_in ring read_51 (drive ∷ []) quiet 12 ≡ Some (record { start = 650; content = 1 ∷ 15 ∷ 0 ∷ 3 ∷ 0 ∷ [] }))
    × (mdt_in ring read_51 (drive ∷ []) quiet 95 ≡ Some (record { start = 47; content = 255 ∷ 15 ∷ 0 ∷ 128 ∷ 0 ∷ 95 ∷ 0 ∷ 0 ∷ 0 ∷ [] }))
unfolding Faults.mst_fault Faults.head_fault Spells.word_bytes Spells.word_at Spells.fields Words.status_of Rings.attribute_in Codes.attribute_fault Attributes.attribute_of ChainOf.chain_of LeastTimes.least_plan LeastTimes.least_t2 LeastTimes.least_t3
starts_up = (refl, refl, refl, refl, refl, refl, refl, refl)

-- ANOTHER NUMBER READ: T1min 30 in place of 10. The plan follows it.
abbrev slower : Drive
slower = record drive { words = λ raw. if raw == 3 then 30 ∷ [] else words raw }

plan_follows : (events ring no_requests (slower ∷ []) quiet 42).plan ≡ Some (record { t1 = 30 ∷ []; t2 = 67; t3 = 118; t4 = 230; position = 1 ∷ []; mdt_len = 8 })
unfolding Faults.mst_fault Faults.head_fault Spells.word_bytes Spells.word_at Spells.fields Words.status_of Rings.attribute_in Codes.attribute_fault Attributes.attribute_of ChainOf.chain_of LeastTimes.least_plan LeastTimes.least_t2 LeastTimes.least_t3
plan_follows = refl

-- LOST TELEGRAMS, from one cycle to another, both included.
abbrev pub losing : ℕ → ℕ → Script
losing first last = record quiet { at_lost = λ c k. nat_le first c && nat_le c last }

abbrev pub losing_msts : ℕ → ℕ → Script
losing_msts first last = record quiet { mst_lost = λ c. nat_le first c && nat_le c last }

-- The step first sent in 12 is answered in 76, which is in time; with that AT lost too it is not.
just_in_time : (phases ring no_requests (drive ∷ []) (losing 13 75) (162 ∷ 163 ∷ []) ≡ 3 ∷ 4 ∷ [])
    × (events ring no_requests (drive ∷ []) (losing 13 76) 75 ≡ no_events)
    × (events ring no_requests (drive ∷ []) (losing 13 76) 76 ≡ record no_events { fall = Some (fall.StepLimit 1) })
    × (phases ring no_requests (drive ∷ []) (losing 13 76) (76 ∷ 77 ∷ 87 ∷ 89 ∷ 171 ∷ 172 ∷ 176 ∷ 177 ∷ [])
    ≡ 2 ∷ 0 ∷ 1 ∷ 2 ∷ 2 ∷ 3 ∷ 3 ∷ 4 ∷ [])
unfolding Faults.mst_fault Faults.head_fault Spells.word_bytes Spells.word_at Spells.fields Words.status_of Rings.attribute_in Codes.attribute_fault Attributes.attribute_of ChainOf.chain_of LeastTimes.least_plan LeastTimes.least_t2 LeastTimes.least_t3
just_in_time = (refl, refl, refl, refl)

abbrev pub holding_1 : List Drive
holding_1 = (record drive { words = λ raw. if raw == 47 then 1 ∷ 0 ∷ [] else words raw }) ∷ []

-- Two ATs in a row are lost: the request at work is broken and isn't sent again; the next one runs after the restart. Two of the own MSTs
-- in a row are lost.
at_lost : (events ring write_and_read holding_1 (losing 105 106) 106
    ≡ record no_events { outcomes = (1, outcome.Broken) ∷ []; fall = Some (fall.AtLost 1) })
    × (phases ring write_and_read holding_1 (losing 105 106) (107 ∷ 116 ∷ 117 ∷ 118 ∷ 119 ∷ 201 ∷ 202 ∷ 206 ∷ 207 ∷ [])
    ≡ 0 ∷ 0 ∷ 1 ∷ 1 ∷ 2 ∷ 2 ∷ 3 ∷ 3 ∷ 4 ∷ [])
    × (events ring write_and_read holding_1 (losing 105 106) 212
    ≡ record no_events { outcomes = (2, outcome.Complete (1 ∷ 0 ∷ 0 ∷ 0 ∷ [])) ∷ [] })
    × (events ring no_requests (drive ∷ []) (losing_msts 120 121) 120 ≡ no_events)
    × (events ring no_requests (drive ∷ []) (losing_msts 120 121) 121 ≡ record no_events { fall = Some fall.MstLost })
unfolding Faults.mst_fault Faults.head_fault Spells.word_bytes Spells.word_at Spells.fields Words.status_of Rings.attribute_in Codes.attribute_fault Attributes.attribute_of ChainOf.chain_of LeastTimes.least_plan LeastTimes.least_t2 LeastTimes.least_t3
at_lost = (refl, refl, refl, refl, refl)

-- STOPS: a cycle time below the drive's least one; a data block outside its limits.
abbrev refusing : Drive
refusing = record drive { refuses = λ raw. if raw == 2 then 0x7006 else 0 }

abbrev pub invalid : Drive
invalid = record drive { words = λ raw. if raw == 22 then 2 ∷ 128 ∷ 32778 ∷ [] else words raw; status = λ raw. if raw == 128 then 15 else 3 }

cycle_refused : (events ring no_requests (refusing ∷ []) quiet 50
    ≡ record no_events { stop = Some (stop.Refused 1 (idn 2) (record { raw = 0x7006 })) })
    × (phases ring no_requests (refusing ∷ []) quiet (50 ∷ 51 ∷ 299 ∷ []) ≡ 2 ∷ 2 ∷ 2 ∷ [])
    × (events ring no_requests (invalid ∷ []) quiet 105
    ≡ record no_events { stop = Some (stop.Check128 1 (record { items = idn 32778 ∷ [] })) })
    × (phases ring no_requests (invalid ∷ []) quiet (104 ∷ 105 ∷ 299 ∷ []) ≡ 3 ∷ 3 ∷ 3 ∷ [])
    × (events ring no_requests (invalid ∷ []) quiet 299 ≡ no_events)
unfolding Faults.mst_fault Faults.head_fault Spells.word_bytes Spells.word_at Spells.fields Words.status_of Rings.attribute_in Codes.attribute_fault Attributes.attribute_of ChainOf.chain_of LeastTimes.least_plan LeastTimes.least_t2 LeastTimes.least_t3
cycle_refused = (refl, refl, refl, refl, refl)

-- THE MASTER RESTARTS.
abbrev restarting : ℕ → Script
restarting at = record quiet { restarts = λ c. c == at }

-- from 120 on phase 0 is commanded; 119 was of phase 4
restarts : (events ring no_requests (drive ∷ []) (restarting 120) 120 ≡ record no_events { fall = Some fall.Restart })
    × ((before_end ring (drive ∷ []) (restarting 120) (run ring no_requests (drive ∷ []) (restarting 120) 120)).now.phase ≡ 0)
    × (phases ring no_requests (drive ∷ []) (restarting 120) (119 ∷ 121 ∷ 129 ∷ 130 ∷ 131 ∷ 132 ∷ 214 ∷ 215 ∷ 219 ∷ 220 ∷ [])
    ≡ 4 ∷ 0 ∷ 0 ∷ 1 ∷ 1 ∷ 2 ∷ 2 ∷ 3 ∷ 3 ∷ 4 ∷ [])
    × (events ring write_and_read holding_1 (restarting 105) 105
    ≡ record no_events { outcomes = (1, outcome.Broken) ∷ []; fall = Some fall.Restart })
    × (events ring write_and_read holding_1 (restarting 105) 210
    ≡ record no_events { outcomes = (2, outcome.Complete (1 ∷ 0 ∷ 0 ∷ 0 ∷ [])) ∷ [] })
unfolding Faults.mst_fault Faults.head_fault Spells.word_bytes Spells.word_at Spells.fields Words.status_of Rings.attribute_in Codes.attribute_fault Attributes.attribute_of ChainOf.chain_of LeastTimes.least_plan LeastTimes.least_t2 LeastTimes.least_t3
restarts = (refl, refl, refl, refl, refl)

-- TWO DRIVES of two slaves.
abbrev pub two : Known
two = record ring { order = 0 ∷ 1 ∷ []; drives = (record { address = 1; slave = 1; at = idn 51 ∷ []; mdt = idn 47 ∷ [] }) ∷ (record { address = 2; slave = 2; at = idn 51 ∷ []; mdt = idn 47 ∷ [] }) ∷ [] }

abbrev pub both : List Drive
both = drive ∷ (record drive { words = λ raw. if raw == 3 then 12 ∷ [] else words raw }) ∷ []

plan_of_two : (events two no_requests both quiet 73
    ≡ record no_events { plan = Some (record { t1 = 10 ∷ 46 ∷ []; t2 = 83; t3 = 153; t4 = 230; position = 1 ∷ 9 ∷ []; mdt_len = 16 }) })
    × (phases two no_requests both quiet (10 ∷ 11 ∷ 12 ∷ 13 ∷ 177 ∷ 178 ∷ 182 ∷ 183 ∷ []) ≡ 1 ∷ 1 ∷ 1 ∷ 2 ∷ 2 ∷ 3 ∷ 3 ∷ 4 ∷ [])
unfolding Faults.mst_fault Faults.head_fault Spells.word_bytes Spells.word_at Spells.fields Words.status_of Rings.attribute_in Codes.attribute_fault Attributes.attribute_of ChainOf.chain_of LeastTimes.least_plan LeastTimes.least_t2 LeastTimes.least_t3
plan_of_two = (refl, refl)
