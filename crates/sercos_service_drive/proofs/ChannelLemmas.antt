-- A channel over one more record, and what it shows.
use Rattle.std.proofs.Common.{◌≡◌, ℕ, ◌-◌, ◌==◌, nat_le, Bool, true, false, cond, not, ◌&&◌, List, [], ◌∷◌, Option, Some, None, is_some, option_map, option_and_then, refl, sym, ◌∙◌, arith}
use Rattle.std.proofs.lemmas.Bool.{and_parts}
use Rattle.std.proofs.lemmas.Bool.Decides.{nat_tests}
use mathlib.Core.Bool.{beq}
use Rattle.sercos_telegram.specs.declared.words.Status.{Status}
use Rattle.sercos_step.specs.declared.step.Answer.{Answer}
use Rattle.sercos_block.specs.declared.block.Block.{Block}
use Rattle.sercos_block.specs.Stores.{find_block}
use Rattle.sercos_command.specs.Calls.{CommandHistory, change_in}
use Rattle.sercos_service_drive.specs.declared.channel.Last.{Last}
use Rattle.sercos_service_drive.specs.Log.{Processed, Entry, ahs, accepted, open_idn, run_before, in_order}
use Rattle.sercos_service_drive.specs.Replies.{answer_by, bytes_written, write_cause_in, reply_at, reply_of, answered, log_of}
use Rattle.sercos_service_drive.specs.Writes.{Write, written_by, AreThose, adds, added_on}
use Rattle.sercos_service_drive.specs.Says.{Shown, shown, shown_by, channel_says}
use Rattle.sercos_service_drive.specs.Kept.{ends_run, run_of, GoesWith, SessionView, IsAnswered, last_of, ChannelView, ChannelStandsFor}

-- the blocks are those of the last step of the run
pub goes_with : (blocks : List Block) (h : List Processed) → AreThose blocks h → GoesWith blocks (run_of (log_of h))
goes_with blocks [] those = tt
goes_with blocks (t ∷ h) those = by (beq t.mhs (ahs h)) (goes_with blocks h those.1)
  where
    run : (ends : Bool) (rest : List Processed) → GoesWith blocks (cond ends [] (t ∷ rest))
    run true rest = tt
    run false rest = those.0

    by : (same : Bool) → GoesWith blocks (run_of (log_of h)) → GoesWith blocks (run_of (answered (cond same (accepted h) (t ∷ accepted h))))
    by true more = more
    by false more = run (ends_run (record { processed = t; answer = reply_of t (log_of h) })) _

pub taken_stands : (v : ChannelView) (busy : ℕ) (h : List Processed) (t : Processed) (answer : Answer) (session : SessionView) → ChannelStandsFor v busy h → beq t.mhs v.ahs ≡ false
    → IsAnswered session t (log_of h) answer
    → ChannelStandsFor (record { busy = v.busy; ahs = t.mhs; last = Some (record { cycle = t.cycle; answer = answer }); session = session }) busy (t ∷ h)
taken_stands v busy h t answer session stood new is =
    let differs : beq t.mhs (ahs h) ≡ false = rw (← stood.ahs_is) new in
    record {
      busy_is = stood.busy_is;
      ahs_is = refl;
      last_is = rw (differs, is.reply_is) refl;
      session_is = rw differs (rw is.reply_is at is.stands);
    }

pub adds_new : (v : ChannelView) (busy : ℕ) (h : List Processed) (t : Processed) → ChannelStandsFor v busy h → beq t.mhs v.ahs ≡ false → added_on t h ≡ adds t (log_of h)
adds_new v busy h t stood new = let differs : beq t.mhs (ahs h) ≡ false = rw (← stood.ahs_is) new in rw differs refl

-- A step takes effect exactly where it adds a write.

written : (t : Processed) (run : List Processed) (o : Option ℕ) → (reply_at o t run).error ≡ false → t.step.write ≡ true → (t.step.element == 7) ≡ true
    → is_some (option_and_then (written_by t run) o) ≡ true
written t run None good on seven = cc
written t run (Some raw) good on seven = by (find_block raw t.blocks) (rw (on, seven) at good)
  where
    by : (o : Option Block) → (answer_by (write_cause_in o t.phase t.step.last (in_order run (t.step.word ∷ []))) 0).error ≡ false
        → is_some {T = Write} (option_map (λ (b : Block). (record { cycle = t.cycle; raw = raw; bytes = bytes_written b (in_order run (t.step.word ∷ [])) })) o) ≡ true
    by None h = cc
    by (Some b) h = refl

reply_there : (t : Processed) (log : List Entry) → t.step.write ≡ true → t.step.element ≡ 7 → reply_of t log ≡ reply_at (open_idn log) t (run_before true 7 log)
reply_there t log on seven = rw (on, seven) refl

pub effect_adds : (t : Processed) (log : List Entry) (answer : Answer) → answer ≡ reply_of t log
    → (t.step.write && ((t.step.element == 7) && (t.step.last && not answer.error))) ≡ is_some (adds t log)
effect_adds t log answer is = rw is (by (t.step.write && ((t.step.element == 7) && (t.step.last && not (reply_of t log).error))) refl)
  where
    here : (t.step.write && ((t.step.element == 7) && (t.step.last && not (reply_of t log).error))) ≡ true
        → is_some (option_and_then (written_by t (run_before true 7 log)) (open_idn log)) ≡ true
    here on =
        let (write, rest) = and_parts t.step.write _ on in
        let (seven, more) = and_parts (t.step.element == 7) _ rest in
        let (_, good) = and_parts t.step.last _ more in
        let number : t.step.element ≡ 7 = grind (arith, nat_tests) in
        let fine : (reply_of t log).error ≡ false = no_error _ good in
        written t (run_before true 7 log) (open_idn log) (rw (reply_there t log write number) at fine) write seven
      where
        no_error : (b : Bool) → not b ≡ true → b ≡ false
        no_error true h = cc
        no_error false h = refl

    by : (on : Bool) → (t.step.write && ((t.step.element == 7) && (t.step.last && not (reply_of t log).error))) ≡ on
        → on ≡ is_some (cond on (option_and_then (written_by t (run_before true 7 log)) (open_idn log)) None)
    by true e = sym (here e)
    by false e = refl

-- What is shown.

module _ (v : ChannelView) (busy cycle : ℕ) (commands : CommandHistory) (h : List Processed) (stood : ChannelStandsFor v busy h) where
  pub shows_none : v.last ≡ None → channel_says busy cycle commands h ≡ record { ahs = v.ahs; busy = false; error = false; change = change_in commands cycle; word = 0 }
  shows_none none = rw (← stood.ahs_is) (by (log_of h) (sym stood.last_is ∙ none))
    where
      by : (log : List Entry) → last_of log ≡ None → shown busy cycle v.ahs (change_in commands cycle) log ≡ record { ahs = v.ahs; busy = false; error = false; change = change_in commands cycle; word = 0 }
      by [] e = refl
      by (e ∷ log) is = cc

  last_in : (log : List Entry) (last : Last) → last_of log ≡ Some last
      → shown busy cycle v.ahs (change_in commands cycle) log
      ≡ cond (nat_le (cycle - last.cycle) v.busy)
      (record { ahs = v.ahs; busy = true; error = false; change = change_in commands cycle; word = 0 })
      (record { ahs = v.ahs; busy = false; error = last.answer.error; change = change_in commands cycle; word = last.answer.word })
  last_in [] last is = cc
  last_in (e ∷ log) last is =
      let same : record { cycle = e.processed.cycle; answer = e.answer } ≡ last = cc in
      rw (← same, stood.busy_is) refl

  pub shows_last : (last : Last) → v.last ≡ Some last → (test : Bool) → nat_le (cycle - last.cycle) v.busy ≡ test
      → channel_says busy cycle commands h
      ≡ cond test (record { ahs = v.ahs; busy = true; error = false; change = change_in commands cycle; word = 0 })
      (record { ahs = v.ahs; busy = false; error = last.answer.error; change = change_in commands cycle; word = last.answer.word })
  shows_last last some test is =
      let all = last_in (log_of h) last (sym stood.last_is ∙ some) in
      rw (← stood.ahs_is) (rw is at all)

pub shown_is : (s : Status) (word : ℕ) (bit busy error change : Bool) {value : Shown} → (s.ahs ≡ bit) × (s.busy ≡ busy) × (s.error ≡ error) × (s.change ≡ change) × (s.cyclic ≡ 0)
    → value ≡ record { ahs = bit; busy = busy; error = error; change = change; word = word } → shown_by s word ≡ value
shown_is s word bit busy error change (a, b, e, c, _) is = rw (a, b, e, c) (sym is)
