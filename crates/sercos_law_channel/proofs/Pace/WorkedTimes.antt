-- A start-up worked out from the definitions: every telegram comes, and the channel never idles in phase 2.
use Rattle.sercos_law_channel.proofs.Words.{◌≡◌, inr, ℕ, zero, suc, ◌^◌, ◌<◌, ◌≤◌, Bool, true, false, not, ◌&&◌, ◌||◌, List, [], ◌∷◌, ◌++◌, replicate, length, refl, ap, arith, if◌then◌else◌, ◌==◌, Some, None, IfSome, is_some, and_parts, eqb-true, not-true, Request, Block, CommandHistory, find_set, set_in, AreAlike, answers_in, View, standing, stood_in, epoch_begun, IsRun, Choice, run_by, AreSoundChoices, IsSound, AreSound, AreSmall, open_since, IsWhole, AreWhole, ArePassed, AreTimed, AreListed, cost_of, cost_in, AreCarried, age_in, AreBytes, attribute_fault, attribute_of, element_of, element_words, bytes_written, write_cause}
use Rattle.sercos_step.specs.declared.request.Request.TheVariants as request
use Rattle.sercos_law_channel.proofs.Handshake.RunsMade.{is_run, is_sound}
use Rattle.sercos_law_channel.proofs.Pace.TimedCommands.{comes_timed}
use Rattle.sercos_law_channel.proofs.Handshake.WorkedRuns.{stepping}
use Rattle.sercos_law_channel.proofs.Handshake.WorkedCommands.{attribute, block_of, commands}

-- a number of two bytes that is written in every phase
abbrev block : Block
block = block_of (attribute false false) None (0 ∷ 0 ∷ [])

-- a write of that block
abbrev asked : Request
asked = request.Write (record { raw = 1 }) 7 (5 ∷ 1 ∷ [])

-- all telegrams come, and nothing is wanted
abbrev usual : Choice
usual = stepping (block ∷ [])

-- the master rises if it may
abbrev rising : Choice
rising = record usual { rises = true }

-- the write is wanted in each cycle, so that the channel never idles
abbrev wanting : Choice
wanting = record usual { wants = Some asked }

-- ten cycles of phase 0, one of phase 1
abbrev start : List Choice
start = rising ∷ replicate 10 rising

-- a test that says that a cycle is whole
abbrev tests_whole : View → List View → Bool
tests_whole v past =
    v.mst_comes && (v.mdt_comes && (not v.drive_restarts && (not v.master_restarts && (not v.falls && (is_some v.sent && (v.checked && (is_some v.heard || (stood_in v (standing past) == 0))))))))

heard_up : (b : Bool) (n : ℕ) → (b || (n == 0)) ≡ true → 1 ≤ n → b ≡ true
heard_up true n is up = refl
heard_up false n is up = let zero = eqb-true n 0 is in absurd (omega arith)

abbrev all_whole : List View → List View → Bool
all_whole [] past = true
all_whole (v ∷ cycles) past = tests_whole v (cycles ++ past) && all_whole cycles past

are_whole : (cycles past : List View) → all_whole cycles past ≡ true → AreWhole cycles past × ArePassed cycles past
are_whole [] past is = (tt, tt)
are_whole (v ∷ cycles) past is =
    let parts = and_parts (tests_whole v (cycles ++ past)) (all_whole cycles past) is in
    let one : IsWhole v (cycles ++ past) × (v.checked ≡ true) = let a = and_parts v.mst_comes _ parts.0 in
    let b = and_parts v.mdt_comes _ a.1 in
    let c = and_parts (not v.drive_restarts) _ b.1 in
    let d = and_parts (not v.master_restarts) _ c.1 in
    let e = and_parts (not v.falls) _ d.1 in
    let f = and_parts (is_some v.sent) _ e.1 in
    let g = and_parts v.checked _ f.1 in (
      record {
        mst = a.0;
        drive = not-true v.drive_restarts c.0;
        master = not-true v.master_restarts d.0;
        stays = not-true v.falls e.0;
        sends = λ some. f.0;
        joint = λ late. f.0;
        mdt = λ sent up. b.0;
        hears = λ some was up. heard_up (is_some v.heard) (stood_in v (standing (cycles ++ past))) g.1 up;
        listens = λ late up. heard_up (is_some v.heard) (stood_in v (standing (cycles ++ past))) g.1 up;
      },
      g.0,
    ) in
    let more = are_whole cycles past parts.1 in ((more.0, one.0), (more.1, λ late up. one.1))

-- At busy time 2, n cycles from the first of phase 2 on, which is cycle 11.
abbrev working : ℕ → List View
working n = run_by 2 (replicate n wanting ++ start)

-- The premises of the laws can be met by it.
works_whole : AreWhole (working 13) [] × ArePassed (working 13) []
unfolding element_words element_of attribute_fault attribute_of write_cause bytes_written
works_whole = are_whole (working 13) [] refl

works_run : IsRun 2 (working 13)
works_run = is_run 2 (replicate 13 wanting ++ start)

works_sound : AreSound (block ∷ []) (working 13)
unfolding AreBytes
works_sound =
    let sound_wish : IsSound (block ∷ []) asked = (omega arith, (omega arith, (omega arith, tt))) in
    is_sound 2 (block ∷ []) (replicate 13 wanting ++ start) (sound wanting 13 start (refl, sound_wish) (sound rising 11 [] (refl, tt) tt))
  where
    sound : (c : Choice) (n : ℕ) (more : List Choice) → AreAlike c.blocks (block ∷ []) × IfSome c.wants (λ r. IsSound (block ∷ []) r) → AreSoundChoices (block ∷ []) more → AreSoundChoices (block ∷ []) (replicate n c ++ more)
    sound c zero more is are = are
    sound c (suc n) more is are = (sound c n more is are, is)

works_small : AreSmall (block ∷ [])
works_small raw b found = by (1 == raw) found
  where
    by : (here : Bool) → (if here then Some block else None) ≡ Some b → b.attribute.factor < 2 ^ 16
    by true is = let same : block ≡ b = cc in let factor : 1 ≡ b.attribute.factor = ap (λ (x : Block). x.attribute.factor) same in omega (arith, factor)
    by false is = absurd (cc)

-- no procedure command is ever set, and a list may have as many words as any
works_timed : AreTimed 3 (working 13)
works_timed = comes_timed 3 (working 13) (carried wanting 13 start refl (carried rising 11 [] refl tt))
  where
    carried : (c : Choice) (n : ℕ) (more : List Choice) → c.commands ≡ commands → AreCarried 3 (run_by 2 more) → AreCarried 3 (run_by 2 (replicate n c ++ more))
    carried c zero more is are = are
    carried c (suc n) more is are = (
      carried c n more is are,
      record {
        takes = ap (λ (k : CommandHistory). k.time) is;
        carried = λ raw s found. let none : find_set raw (set_in c.commands) ≡ None = ap (λ (k : CommandHistory). find_set raw (set_in k)) is in absurd (cc);
      },
    )

works_listed : AreListed (λ raw. 512) (working 13)
works_listed = listed (working 13)
  where
    listed : (past : List View) → AreListed (λ raw. 512) past
    listed [] = tt
    listed (v ∷ past) = (listed past, λ raw b found list. inr (omega arith))

-- Each answer takes three cycles: the fourth, which ends the first write, comes in cycle 23, in which the next one begins.
opens : (open_since (working 12) [] ≡ 12)
    × (length (answers_in (epoch_begun (working 12))) ≡ 3)
    × (age_in (working 12) ≡ 3)
    × (cost_in (cost_of 2 3 (λ raw. 512) (block ∷ [])) (epoch_begun (working 12)) ≡ 12)
    × (length (answers_in (epoch_begun (working 13))) ≡ 4)
    × (age_in (working 13) ≡ 1)
    × (cost_in (cost_of 2 3 (λ raw. 512) (block ∷ [])) (epoch_begun (working 13)) ≡ 24)
unfolding element_words element_of attribute_fault attribute_of write_cause bytes_written
opens = (refl, refl, refl, refl, refl, refl, refl)

-- The drive misses the MST of the cycles 15 and 16, and is in phase 0 from then on: no further answer is taken, and the step stays open.
abbrev deaf : Choice
deaf = record usual { mst_comes = false }

abbrev dead : ℕ → List View
dead n = run_by 2 (replicate n wanting ++ deaf ∷ deaf ∷ replicate 4 wanting ++ start)

-- it was begun in cycle 14, and is open still in cycle 21
down : ((standing (dead 5)).ended ≡ 0)
    × (length (answers_in (epoch_begun (dead 5))) ≡ 1)
    × (age_in (dead 5) ≡ 8)
unfolding element_words element_of attribute_fault attribute_of write_cause bytes_written
down = (refl, refl, refl)

-- Only the MST of cycle 15 is missed, and no AT is sent in it. The open step was accepted in cycle 14, and has its answer in cycle 17.
abbrev cut : ℕ → List View
cut n = run_by 2 (replicate n wanting ++ deaf ∷ replicate 4 wanting ++ start)

recovered : length (answers_in (epoch_begun (cut 2))) ≡ 2
unfolding element_words element_of attribute_fault attribute_of write_cause bytes_written
recovered = refl
