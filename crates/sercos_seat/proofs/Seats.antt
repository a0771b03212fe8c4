-- What a seat stands for after a status that it heard.
use Rattle.std.proofs.Common.{◌≡◌, ℕ, zero, suc, ◌+◌, ◌<◌, ◌≤◌, ◌==◌, Bool, true, false, List, [], ◌∷◌, ◌++◌, Option, Some, None, length, ap, refl, sym, ◌∙◌, arith, if◌then◌else◌}
use Rattle.std.specs.Prelude.{is_some, is_none, not, map, take, min, nat_lt, option_map, ◌&&◌}
use Rattle.std.specs.Option.{option_or}
use Rattle.std.proofs.lemmas.Bool.Decides.{nat_tests}
use Rattle.sercos_telegram.specs.declared.words.Status.{Status}
use Rattle.sercos_step.specs.declared.request.Outcome.{Outcome}
use Rattle.sercos_service_master.specs.Kept.{MasterView, MasterStandsFor}
use Rattle.sercos_service_master.specs.Calls.{Call, Hear, begun_by, outcome_at}
use Rattle.sercos_service_master.specs.Begun.{Begun, open_in}
use Rattle.sercos_seat.specs.declared.answers.Asked.{Asked}
use Rattle.sercos_seat.specs.Ring.{MemberView, Task}
use Rattle.sercos_seat.specs.Agenda.{bytes_of, given, reads_count, ended_well, stop_of_task}
use Rattle.sercos_seat.specs.Channel.{last_outcome, trouble_by, number_in, report_of, Report}
use Rattle.sercos_seat.specs.Seats.{IsQueue, Seen, SeatView, SeatStandsFor, IsAsked, result_words, heard_in, after_outcome, kept_given, kept_report, pair_of, outcomes_seen, is_idle_in}
use Rattle.sercos_seat.proofs.Channels.{Heard, heard}

-- one outcome more
pub length_more : {A : Type 0} (xs : List A) (x : A) → length (xs ++ x ∷ []) ≡ length xs + 1
length_more [] x = refl
length_more (y ∷ xs) x = let e : length (xs ++ x ∷ []) ≡ length xs + 1 = length_more xs x in rw e (omega arith)

done_more : (done : ℕ) (outcomes : List Outcome) (o : Outcome) → done ≡ min (length outcomes) 100 → min (done + 1) 100 ≡ min (length (outcomes ++ o ∷ [])) 100
done_more done outcomes o e = let l : length (outcomes ++ o ∷ []) ≡ length outcomes + 1 = length_more outcomes o in rw (e, l) (omega arith)

map_more : (outcomes : List Outcome) (o : Outcome) → map result_words (outcomes ++ o ∷ []) ≡ map result_words outcomes ++ result_words o ∷ []
map_more [] o = refl
map_more (x ∷ outcomes) o = ap (λ ws. result_words x ∷ ws) (map_more outcomes o)

length_map : (outcomes : List Outcome) → length (map result_words outcomes) ≡ length outcomes
length_map [] = refl
length_map (x ∷ outcomes) = ap (λ n. suc n) (length_map outcomes)

take_none : {A : Type 0} (n : ℕ) → take {A = A} n [] ≡ []
take_none zero = refl
take_none (suc n) = refl

-- the first n of a list with one more
take_short : {A : Type 0} (xs : List A) (x : A) (n : ℕ) → length xs < n → take n (xs ++ x ∷ []) ≡ take n xs ++ x ∷ []
take_short [] x zero h = absurd (omega (arith, h))
take_short [] x (suc n) h = rw (take_none n) refl
take_short (y ∷ xs) x zero h = absurd (omega (arith, h))
take_short (y ∷ xs) x (suc n) h = ap (λ zs. y ∷ zs) (take_short xs x n (omega (arith, h)))

take_long : {A : Type 0} (xs : List A) (x : A) (n : ℕ) → n ≤ length xs → take n (xs ++ x ∷ []) ≡ take n xs
take_long xs x zero h = refl
take_long [] x (suc n) h = absurd (omega (arith, h))
take_long (y ∷ xs) x (suc n) h = ap (λ zs. y ∷ zs) (take_long xs x n (omega (arith, h)))

length_take : {A : Type 0} (xs : List A) (n : ℕ) → length xs < n → length (take n xs) ≡ length xs
length_take [] zero h = refl
length_take [] (suc n) h = refl
length_take (y ∷ xs) zero h = absurd (omega (arith, h))
length_take (y ∷ xs) (suc n) h = ap (λ k. suc k) (length_take xs n (omega (arith, h)))

-- what is kept of the reads
given_more : (reads done : ℕ) (outcomes : List Outcome) (o : Outcome) → reads ≤ 38 → done ≡ min (length outcomes) 100 →
    kept_given reads done (take reads (map result_words outcomes)) (bytes_of o) ≡ take reads (map result_words (outcomes ++ o ∷ []))
given_more reads done outcomes o few is = by (nat_lt done reads) refl
  where
    by : (below : Bool) → nat_lt done reads ≡ below → kept_given reads done (take reads (map result_words outcomes)) (bytes_of o) ≡ take reads (map result_words (outcomes ++ o ∷ []))
    by false e =
        let l : length (map result_words outcomes) ≡ length outcomes = length_map outcomes in
        let long : reads ≤ length (map result_words outcomes) = grind (arith, nat_tests, e, is, l, few) in
        rw (e, map_more outcomes o, take_long (map result_words outcomes) (result_words o) reads long) refl
    by true e =
        let l : length (map result_words outcomes) ≡ length outcomes = length_map outcomes in
        let short : length (map result_words outcomes) < reads = grind (arith, nat_tests, e, is, l, few) in
        let t : length (take reads (map result_words outcomes)) ≡ length (map result_words outcomes) = length_take (map result_words outcomes) reads short in
        let room : nat_lt (length (take reads (map result_words outcomes))) 38 ≡ true = grind (arith, nat_tests, t, short, few) in
        rw (e, room, map_more outcomes o, take_short (map result_words outcomes) (result_words o) reads short) refl

-- what stands at a place of a list with one more
at_end : (outcomes : List Outcome) (o : Outcome) (i : ℕ) → i ≡ length outcomes → given (outcomes ++ o ∷ []) i ≡ bytes_of o
at_end [] o i e = rw e refl
at_end (x ∷ outcomes) o i e = rw e (at_end outcomes o (length outcomes) refl)

pub before_end : (outcomes : List Outcome) (o : Outcome) (i : ℕ) → (i ≡ length outcomes → ⊥) → given (outcomes ++ o ∷ []) i ≡ given outcomes i
before_end [] o zero n = absurd (n refl)
before_end [] o (suc i) n = refl
before_end (x ∷ outcomes) o zero n = refl
before_end (x ∷ outcomes) o (suc i) n = before_end outcomes o i (λ e. n (ap (λ k. suc k) e))

well_more : (done i : ℕ) (outcomes : List Outcome) (o : Outcome) → i < 100 → done ≡ min (length outcomes) 100 →
    (if done == i then ended_well (bytes_of o) else ended_well (given outcomes i)) ≡ ended_well (given (outcomes ++ o ∷ []) i)
well_more done i outcomes o small is = by (done == i) refl
  where
    by : (there : Bool) → (done == i) ≡ there → (if done == i then ended_well (bytes_of o) else ended_well (given outcomes i)) ≡ ended_well (given (outcomes ++ o ∷ []) i)
    by true e = let l : i ≡ length outcomes = grind (arith, nat_tests, e, is, small) in rw (e, at_end outcomes o i l) refl
    by false e = let n : i ≡ length outcomes → ⊥ = λ l. grind (arith, nat_tests, e, is, small, l) in rw (e, before_end outcomes o i n) refl

pub behind_end : (outcomes : List Outcome) (i : ℕ) → length outcomes ≤ i → given outcomes i ≡ []
behind_end [] i h = refl
behind_end (x ∷ outcomes) zero h = absurd (omega (arith, h))
behind_end (x ∷ outcomes) (suc i) h = behind_end outcomes i (omega (arith, h))

and_false : (a : Bool) → (a && false) ≡ false
and_false true = refl
and_false false = refl

-- whether both checks ended well
ready_more : (done reads : ℕ) (outcomes : List Outcome) (o : Outcome) → reads ≤ 38 → done ≡ min (length outcomes) 100 →
    (if done == reads + 12 then ended_well (given outcomes (reads + 11)) && ended_well (bytes_of o) else (ended_well (given outcomes (reads + 11)) && ended_well (given outcomes (reads + 12))))
    ≡ (ended_well (given (outcomes ++ o ∷ []) (reads + 11)) && ended_well (given (outcomes ++ o ∷ []) (reads + 12)))
ready_more done reads outcomes o few is = by (done == reads + 12) (done == reads + 11) refl refl
  where
    by : (at_12 at_11 : Bool) → (done == reads + 12) ≡ at_12 → (done == reads + 11) ≡ at_11 →
        (if done == reads + 12 then ended_well (given outcomes (reads + 11)) && ended_well (bytes_of o) else (ended_well (given outcomes (reads + 11)) && ended_well (given outcomes (reads + 12))))
        ≡ (ended_well (given (outcomes ++ o ∷ []) (reads + 11)) && ended_well (given (outcomes ++ o ∷ []) (reads + 12)))
    by true at_11 e f =
        let l : reads + 12 ≡ length outcomes = grind (arith, nat_tests, e, is, few) in
        let n : reads + 11 ≡ length outcomes → ⊥ = λ k. omega (arith, l, k) in
        rw (e, at_end outcomes o (reads + 12) l, before_end outcomes o (reads + 11) n) refl
    by false true e f =
        let l : reads + 11 ≡ length outcomes = grind (arith, nat_tests, f, is, few) in
        let n : reads + 12 ≡ length outcomes → ⊥ = λ k. omega (arith, l, k) in
        let b : given outcomes (reads + 12) ≡ [] = behind_end outcomes (reads + 12) (omega (arith, l)) in
        rw (e, before_end outcomes o (reads + 12) n, b) (and_false (ended_well (given outcomes (reads + 11))) ∙ sym (and_false (ended_well (given (outcomes ++ o ∷ []) (reads + 11)))))
    by false false e f =
        let n : reads + 12 ≡ length outcomes → ⊥ = λ k. grind (arith, nat_tests, e, is, few, k) in
        let m : reads + 11 ≡ length outcomes → ⊥ = λ k. grind (arith, nat_tests, f, is, few, k) in
        rw (e, before_end outcomes o (reads + 12) n, before_end outcomes o (reads + 11) m) refl

-- the task at work is there
none_begun : (begun : List Begun) (o : Outcome) → [] ≡ map (λ b. b.request) begun → last_outcome begun ≡ Some o → ⊥
none_begun [] o e f = cc
none_begun (b ∷ begun) o e f = cc

trouble_more : (tasks : List Task) (begun : List Begun) (address : ℕ) (number : Option ℕ) (asked : Asked) (o : Outcome) →
    map (λ t. t.request) tasks ≡ map (λ b. b.request) begun → last_outcome begun ≡ Some o → IsAsked tasks asked → number ≡ number_in tasks →
    stop_of_task address number asked o ≡ trouble_by address tasks (Some o)
trouble_more [] begun address number asked o e f g h = absurd (none_begun begun o e f)
trouble_more (t ∷ tasks) begun address number asked o e f g h = rw (g, h) refl

report_more : (number : Option ℕ) (o : Outcome) (report : Option (ℕ × Outcome)) (kept : Option Report) → report ≡ option_map pair_of kept →
    kept_report number o report ≡ option_map pair_of (option_or (report_of (Some o) number) kept)
report_more None o report kept e = e
report_more (Some i) o report kept e = refl

pub hears_outcome : (v : SeatView) (d : MemberView) (x : Seen) (c : MasterView) (status : Status) (word : ℕ) (o : Outcome) → reads_count d ≤ 38 →
    SeatStandsFor v d x → MasterStandsFor c (Hear status word ∷ x.calls) → outcome_at x.calls status word ≡ Some o → IsQueue v.waiting d (heard_in status word x) →
    SeatStandsFor (after_outcome o (record v { channel = c; heard = true })) d (heard_in status word x)
hears_outcome v d x c status word o few s stands e queue =
    let more : Heard x.calls status word (Some o) = heard x.calls status word (Some o) e in
    let requests : map (λ t. t.request) x.tasks ≡ map (λ b. b.request) (begun_by (Hear status word ∷ x.calls)) = s.begun_is ∙ sym more.requests in
    record {
      member_is = s.member_is;
      few = s.few;
      channel_is = stands;
      begun_is = requests;
      done_is = rw more.outcomes (done_more v.done (outcomes_seen x) o s.done_is);
      given_is = rw (more.outcomes, s.member_is, s.given_is) (given_more (reads_count d) v.done (outcomes_seen x) o few s.done_is);
      checked_is = rw (more.outcomes, s.member_is, s.checked_is) (well_more v.done (reads_count d + 11) (outcomes_seen x) o (omega (arith, few)) s.done_is);
      ready_is = rw (more.outcomes, s.member_is, s.checked_is, s.ready_is) (ready_more v.done (reads_count d) (outcomes_seen x) o few s.done_is);
      asked_is = s.asked_is;
      number_is = s.number_is;
      trouble_is = λ on. rw (more.last, s.member_is) (trouble_more x.tasks (begun_by (Hear status word ∷ x.calls)) d.address v.number v.asked o requests more.last s.asked_is s.number_is);
      report_is = rw (e, ← s.number_is) (report_more v.number o v.report x.report s.report_is);
      heard_is = refl;
      missed_is = s.missed_is;
      identified_is = s.identified_is;
      queue = queue;
    }

pub hears_none : (v : SeatView) (d : MemberView) (x : Seen) (c : MasterView) (status : Status) (word : ℕ) →
    SeatStandsFor v d x → MasterStandsFor c (Hear status word ∷ x.calls) → outcome_at x.calls status word ≡ None → IsQueue v.waiting d (heard_in status word x) →
    SeatStandsFor (record v { channel = c; heard = true }) d (heard_in status word x)
hears_none v d x c status word s stands e queue =
    let more : Heard x.calls status word None = heard x.calls status word None e in
    record {
      member_is = s.member_is;
      few = s.few;
      channel_is = stands;
      begun_is = s.begun_is ∙ sym more.requests;
      done_is = rw more.outcomes s.done_is;
      given_is = rw more.outcomes s.given_is;
      checked_is = rw more.outcomes s.checked_is;
      ready_is = rw more.outcomes s.ready_is;
      asked_is = s.asked_is;
      number_is = s.number_is;
      trouble_is = λ on. rw more.last (s.trouble_is on);
      report_is = rw e s.report_is;
      heard_is = refl;
      missed_is = s.missed_is;
      identified_is = s.identified_is;
      queue = queue;
    }

-- the channel is idle where no step is open
idle_by : (a b : Bool) → a ≡ b → not a ≡ not b
idle_by a b e = ap not e

none_some : {A : Type 0} (o : Option A) → is_none o ≡ not (is_some o)
none_some None = refl
none_some (Some x) = refl

pub idle_same : (v : SeatView) (d : MemberView) (x : Seen) → SeatStandsFor v d x → is_none v.channel.transfer ≡ is_idle_in x
idle_same v d x s = none_some v.channel.transfer ∙ (ap not s.channel_is.open_is ∙ sym (none_some (open_in (begun_by x.calls))))

pub idle_of : (c : MasterView) (h : List Call) → MasterStandsFor c h → is_none c.transfer ≡ is_none (open_in (begun_by h))
idle_of c h s = none_some c.transfer ∙ (ap not s.open_is ∙ sym (none_some (open_in (begun_by h))))
