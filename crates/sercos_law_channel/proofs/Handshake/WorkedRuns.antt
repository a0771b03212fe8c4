-- A run worked out from the definitions: a write, a second one that a fall breaks, the same again in the next epoch, restarts of
-- both ends, and a read that comes through.
use Rattle.sercos_law_channel.proofs.Words.{◌≡◌, ℕ, Bool, true, false, List, [], ◌∷◌, ◌++◌, replicate, take, refl, Option, Some, None, option_map, Status, Request, Outcome, Step, a_step, outcome_of, Block, Entry, Write, good, Begun, Said, IsTransfer, Heard, View, standing, Choice, run_by, all_begun, all_entries, all_writes, store_in, attribute_fault, attribute_of, element_of, data_in, element_words, bytes_written, write_cause, status_rest}
use Rattle.sercos_step.specs.declared.request.Request.TheVariants as request
use Rattle.sercos_step.specs.declared.request.Outcome.TheVariants as outcome
use Rattle.sercos_law_channel.proofs.Handshake.WorkedCommands.{attribute, block_of, commands}

-- a number of two bytes that is written in phase 2
abbrev block : ℕ → ℕ → Block
block low high = block_of (attribute false true) None (low ∷ high ∷ [])

abbrev pub status : Status
status = record { ahs = false; busy = false; error = false; change = false; cyclic = 0; cyclic_low = refl; cyclic_apart = status_rest 0 }

-- a write of the bytes and 1
abbrev asked : ℕ → Request
asked low = request.Write (record { raw = 1 }) 7 (low ∷ 1 ∷ [])

-- the blocks before the first write, after it, and after the last
abbrev at_first : List Block
at_first = block 0 0 ∷ []

abbrev after_one : List Block
after_one = block 5 1 ∷ []

abbrev at_last : List Block
at_last = block 9 1 ∷ []

-- a step is open, and both telegrams come
abbrev pub stepping : List Block → Choice
stepping blocks = record {
  master_restarts = false;
  drive_restarts = false;
  mst_comes = true;
  whole = true;
  checked = true;
  showing = commands;
  others = status;
  at_comes = true;
  wants = None;
  sends = true;
  mdt_comes = true;
  blocks = blocks;
  commands = commands;
  falls = false;
  rises = false;
}

-- the first step goes out to a drive that wasn't addressed in the cycle before; the last answer comes, and no record is sent; no
-- step is open at all; and so up to phase 2
abbrev wanting : List Block → Request → Choice
wanting blocks r = record (stepping blocks) { at_comes = false; wants = Some r }

abbrev ending : List Block → Choice
ending blocks = record (stepping blocks) { sends = false }

abbrev idle : List Block → Choice
idle blocks = record (stepping blocks) { at_comes = false; sends = false }

abbrev rising : List Block → Choice
rising blocks = record (idle blocks) { rises = true }

-- The newest cycle first. Phase 0 lasts for ten cycles, phase 1 for one. The write of 5 begins in cycle 11, and its second step is
-- sent twice, since the AT of cycle 13 is lost.
abbrev first : List Choice
first = ending after_one ∷ stepping at_first ∷ stepping at_first ∷ record (stepping at_first) { at_comes = false } ∷ stepping at_first ∷ wanting at_first (asked 5) ∷ replicate 11 (rising at_first)

-- In cycle 17 the write of 9 begins, and the master falls at the end of cycle 19. Phase 2 comes again in cycle 31, where the same
-- write begins anew.
abbrev second : List Choice
second = ending at_last ∷ stepping after_one ∷ stepping after_one ∷ stepping after_one ∷ wanting after_one (asked 9) ∷ replicate 11 (rising after_one)
    ++ record (stepping after_one) { falls = true } ∷ stepping after_one ∷ wanting after_one (asked 9) ∷ first

-- The drive restarts in cycle 36, and the master in cycle 38. In cycle 49 a read begins.
abbrev third : List Choice
third = ending at_last ∷ stepping at_last ∷ stepping at_last ∷ stepping at_last ∷ wanting at_last (request.Read (record { raw = 1 }) 7) ∷ replicate 10 (rising at_last)
    ++ record (idle at_last) { master_restarts = true } ∷ idle at_last ∷ record (idle at_last) { drive_restarts = true } ∷ second

abbrev phases : List View → List ℕ
phases [] = []
phases (v ∷ past) = v.phase ∷ phases past

abbrev stood : List View → List ℕ
stood [] = []
stood (v ∷ past) = (standing (v ∷ past)).ended ∷ stood past

abbrev outcomes : List Begun → List (Option Outcome)
outcomes [] = []
outcomes (b ∷ past) = outcome_of b.request b.answers ∷ outcomes past

abbrev wrote : ℕ → ℕ → Write
wrote cycle low = record { cycle = cycle; raw = 1; bytes = low ∷ 1 ∷ [] }

-- the first transfer: each step is accepted once
abbrev entry : ℕ → Bool → Step → ℕ → Entry
entry cycle mhs step word = record { processed = record { cycle = cycle; phase = 2; mhs = mhs; step = step; blocks = at_first; commands = commands }; answer = good word }

abbrev last : Entry
last = entry 15 false (a_step true true 7 261) 0

abbrev others : List Entry
others = entry 14 true (a_step false true 3 0) 0x6011 ∷ entry 12 false (a_step false false 3 0) 1 ∷ entry 11 true (a_step true true 1 1) 0 ∷ []

accepts : all_entries (run_by 0 first) ≡ last ∷ others
unfolding element_words element_of attribute_fault attribute_of write_cause bytes_written
accepts = refl

-- the premises of the laws on transfers hold of it
transfer : IsTransfer (asked 5) at_first last others []
unfolding attribute_fault attribute_of element_of element_words bytes_written write_cause
transfer = record { steps = refl; in_turn = (((tt, refl), refl), refl); goes_on = refl; replies = ((((tt, refl), refl), refl), refl); alike = ((((tt, refl), refl), refl), refl) }

abbrev ats : List View → List (Option (Bool × ℕ))
ats [] = []
ats (v ∷ past) = option_map (λ (a : Heard). (a.status.ahs, a.word)) v.heard ∷ ats past

abbrev mdts : List View → List (Option Said)
mdts [] = []
mdts (v ∷ past) = v.sent ∷ mdts past

abbrev said : Bool → Step → Option Said
said mhs step = Some (record { mhs = mhs; step = step })

-- In turn: what the master hears and what it sends, while the first write is at work, and at the read; what was written, held and ended
-- (what was broken wrote nothing, what came after it is written once, and the read gives it); and from cycle 35 on the phases that are
-- commanded, and those of the drive.
comes_so : (take 6 (ats (run_by 0 first)) ≡ Some (false, 0) ∷ Some (true, 0x6011) ∷ Some (false, 1) ∷ None ∷ Some (true, 0) ∷ None ∷ [])
    × (take 6 (mdts (run_by 0 first))
    ≡ None ∷ said false (a_step true true 7 0x105) ∷ said true (a_step false true 3 0) ∷ said false (a_step false false 3 0)
    ∷ said false (a_step false false 3 0) ∷ said true (a_step true true 1 1) ∷ [])
    × (take 5 (ats (run_by 0 third)) ≡ Some (false, 0x109) ∷ Some (true, 0x6011) ∷ Some (false, 1) ∷ Some (true, 0) ∷ None ∷ [])
    × (take 5 (mdts (run_by 0 third))
    ≡ None ∷ said false (a_step false true 7 0) ∷ said true (a_step false true 3 0) ∷ said false (a_step false false 3 0)
    ∷ said true (a_step true true 1 1) ∷ [])
    × (all_writes (run_by 0 third) ≡ wrote 34 9 ∷ wrote 15 5 ∷ [])
    × (store_in at_first (run_by 0 third) ≡ at_last)
    × (outcomes (all_begun (run_by 0 third))
    ≡ Some (outcome.Complete (9 ∷ 1 ∷ [])) ∷ Some (outcome.Complete []) ∷ None ∷ Some (outcome.Complete []) ∷ [])
    × (take 19 (phases (run_by 0 third)) ≡ 2 ∷ 2 ∷ 2 ∷ 2 ∷ 2 ∷ 1 ∷ replicate 10 0 ++ 2 ∷ 2 ∷ 2 ∷ [])
    × (take 19 (stood (run_by 0 third)) ≡ 2 ∷ 2 ∷ 2 ∷ 2 ∷ 2 ∷ 1 ∷ replicate 10 0 ++ 0 ∷ 0 ∷ 2 ∷ [])
unfolding element_words element_of attribute_fault attribute_of write_cause bytes_written data_in
comes_so = (refl, refl, refl, refl, refl, refl, refl, refl, refl)
