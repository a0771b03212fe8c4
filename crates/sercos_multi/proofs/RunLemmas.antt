-- The rings of documents and their cycle times.
use Rattle.std.proofs.Common.{◌≡◌, ◌&&◌, Result, Ok, Err, get_or, ℕ, zero, suc, ◌+◌, ◌<◌, ◌≤◌, ◌==◌, ◌⊎◌, inl, inr, Bool, true, false, if◌then◌else◌, List, [], ◌∷◌, length, drop, map, Option, Some, None, refl, sym, ◌∙◌, ap, subst, arith}
use Rattle.std.specs.Prelude.{nat_le}
use Rattle.std.proofs.lemmas.Bool.Decides.{nat_tests}
use Rattle.sercos_io.specs.declared.status.Status.{Status}
use Rattle.sercos_io.specs.declared.status.Status.TheVariants.{Done, Refused}
use Rattle.sercos_answer.specs.Answer.{Answer}
use Rattle.sercos_document.specs.declared.refusal.BadDocument.{BadDocument}
use Rattle.sercos_config.specs.Document.{document_of}
use Rattle.sercos_call.specs.Outcome.{SinkChange, Writes, Replies}
use Rattle.sercos_call.specs.Outcome.Replies.{none_found, replied}
use Rattle.sercos_multi.specs.declared.opening.Unopened.{Unopened}
use Rattle.sercos_multi.specs.declared.opening.Unopened.TheVariants as unopened
use Rattle.sercos_multi.specs.Divided.{parts_of}
use Rattle.sercos_multi.specs.Ended.{EndsUnopened, IsTold}
use Rattle.sercos_multi.specs.Said.{IsRefusedIn}
use Rattle.sercos_block.specs.Rings.{wishes_of}
use Rattle.sercos_script.specs.Links.{Carry, Restarts}
use Rattle.sercos_config.specs.Views.{DocumentView}
use Rattle.sercos_multi.specs.declared.part.Part.{Part}
use Rattle.sercos_multi.specs.Merged.{merged}
use Rattle.sercos_multi.specs.Going.{AllAre}
use Rattle.sercos_multi.specs.Parts.{AllAt, IsAt}
use Rattle.sercos_multi.specs.RingRuns.{AreRuns, RunsItsRings}
use Rattle.sercos_multi.specs.Asking.{count_line, counted_answer, cycle_fault, cycle_line, cycles_answer, cycles_of, documents_answer, documents_from, first_cycle, is_common, other_cycle, rings_answer, voice_of, voices_from, with_document}
use Rattle.std.proofs.lemmas.List.{length-map}
use Rattle.sercos_multi.proofs.ListLemmas.{all_length, dropped_all}

pub voices_count : (n : ℕ) (documents : List DocumentView) → length (voices_from n documents) ≡ length documents
unfolding voices_from
voices_count n [] = refl
voices_count n (d ∷ documents) = ap suc (voices_count (n + 1) documents)

pub parts_count : {L : Type 0} (carry_of : L → Carry) (restart_of : L → Restarts) (parts : List (Part L)) (documents : List DocumentView) → AllAt carry_of restart_of parts (voices_from 1 documents) → length parts ≡ length documents
parts_count carry_of restart_of parts documents all = all_length (IsAt carry_of restart_of) parts (voices_from 1 documents) all ∙ voices_count 1 documents

cycle_is : {L : Type 0} (carry_of : L → Carry) (restart_of : L → Restarts) (p : Part L) (n : ℕ) (d : DocumentView) → IsAt carry_of restart_of p (voice_of n d) → p.wishes.cycle ≡ d.setup.cycle
unfolding wishes_of
cycle_is carry_of restart_of p n d is = sym (ap (λ w. w.cycle) is.voice_wishes)

pub cycles_same : {L : Type 0} (carry_of : L → Carry) (restart_of : L → Restarts) (parts : List (Part L)) (n : ℕ) (documents : List DocumentView) → AllAt carry_of restart_of parts (voices_from n documents)
    → map (λ (p : Part L). p.wishes.cycle) parts ≡ cycles_of documents
unfolding AllAre voices_from
cycles_same carry_of restart_of [] n [] all = refl
cycles_same carry_of restart_of [] n (d ∷ documents) all = absurd all
cycles_same carry_of restart_of (p ∷ parts) n [] all = absurd all
cycles_same carry_of restart_of (p ∷ parts) n (d ∷ documents) all =
    ap (λ c. c ∷ map (λ (p : Part _). p.wishes.cycle) parts) (cycle_is carry_of restart_of p n d all.0) ∙ ap (λ l. d.setup.cycle ∷ l) (cycles_same carry_of restart_of parts (n + 1) documents all.1)

-- the fault by the first cycle time
pub fault_by : (cycles : List ℕ) (time : ℕ) (common : Bool) → 0 < length cycles → time ≡ first_cycle cycles → is_common time ≡ common
    → cycle_fault cycles ≡ (if common then other_cycle time 2 (drop 1 cycles) else Some (1, time))
unfolding cycle_fault first_cycle
fault_by [] time common some is test = absurd (omega (arith, some))
fault_by (c ∷ cycles) time common some is test = let same : time ≡ c = is in rw (← same) (ap (λ (b : Bool). if b then other_cycle time 2 cycles else Some (1, time)) test)

-- the first cycle time, if there is no fault
pub record IsTime (time : ℕ) : Type 0 where
  pub some : 0 < time
  pub few : time ≤ 1000

common_time : (time : ℕ) → is_common time ≡ true → IsTime time
common_time time is = record { some = grind (arith, nat_tests, is); few = grind (arith, nat_tests, is) }

pub common_is : (cycles : List ℕ) → 0 < length cycles → cycle_fault cycles ≡ None → is_common (first_cycle cycles) ≡ true
unfolding cycle_fault first_cycle
common_is [] some none = absurd (omega (arith, some))
common_is (c ∷ cycles) some none = by (is_common c) none
  where
    by : (b : Bool) → (if b then other_cycle c 2 cycles else Some (1, c)) ≡ None → b ≡ true
    by true none = refl
    by false none = absurd (cc)

pub time_is : (cycles : List ℕ) → 0 < length cycles → cycle_fault cycles ≡ None → IsTime (first_cycle cycles)
time_is cycles some none = common_time (first_cycle cycles) (common_is cycles some none)

-- the cycle times one by one
pub next_cycle : {X : Type 0} (f : X → ℕ) (xs : List X) (k : ℕ) (x : X) (c : ℕ) → k < length xs → x ≡ get_or xs k x → c ≡ f x → drop k (map f xs) ≡ c ∷ drop (k + 1) (map f xs)
next_cycle f [] k x c below same is = absurd (omega (arith, below))
next_cycle f (y ∷ xs) zero x c below same is = ap (λ n. n ∷ map f xs) (sym (is ∙ ap f same))
next_cycle f (y ∷ xs) (suc k) x c below same is =
    let next : suc (k + 1) ≡ suc k + 1 = omega arith in
    next_cycle f xs k x c (omega (arith, below)) same is ∙ ap (λ i. c ∷ drop i (map f (y ∷ xs))) next

pub cycle_found : (time n : ℕ) (cs tail : List ℕ) (c : ℕ) → cs ≡ c ∷ tail → (c == time) ≡ false → other_cycle time n cs ≡ Some (n, c)
unfolding other_cycle
cycle_found time n cs tail c is test = ap (other_cycle time n) is ∙ ap (λ (b : Bool). if b then other_cycle time (n + 1) tail else Some (n, c)) test

pub cycle_next : (time n : ℕ) (cs tail : List ℕ) (c : ℕ) → cs ≡ c ∷ tail → (c == time) ≡ true → other_cycle time n cs ≡ other_cycle time (n + 1) tail
unfolding other_cycle
cycle_next time n cs tail c is test = ap (other_cycle time n) is ∙ ap (λ (b : Bool). if b then other_cycle time (n + 1) tail else Some (n, c)) test

pub cycles_done : {X : Type 0} (f : X → ℕ) (xs : List X) (time n k : ℕ) → length xs ≤ k → other_cycle time n (drop k (map f xs)) ≡ None
unfolding other_cycle
cycles_done f xs time n k few = ap (other_cycle time n) (dropped_all (map f xs) k (let same = length-map xs f in omega (arith, same, few)))

-- what the calls say, of the documents
pub run_time : {X : Type 0} (f : X → ℕ) (parts slice other : List X) (fault : Option (ℕ × ℕ)) (time : ℕ) → slice ≡ parts → other ≡ parts → 0 < length parts → fault ≡ cycle_fault (map f slice) → fault ≡ None → time ≡ first_cycle (map f other) → IsTime time
run_time f parts slice other fault time same too some is none time_is_first =
    let count = length-map parts f in
    subst IsTime (sym (time_is_first ∙ ap (λ l. first_cycle (map f l)) too))
    (time_is (map f parts) (omega (arith, count, some)) (sym (ap (λ l. cycle_fault (map f l)) same) ∙ sym is ∙ none))

pub fault_is : {X : Type 0} (f : X → ℕ) (parts slice : List X) (cs : List ℕ) (fault answer : Option (ℕ × ℕ)) → slice ≡ parts → map f parts ≡ cs → fault ≡ cycle_fault (map f slice) → fault ≡ answer → cycle_fault cs ≡ answer
fault_is f parts slice cs fault answer same cycles is found = sym (ap cycle_fault cycles) ∙ sym (ap (λ l. cycle_fault (map f l)) same) ∙ sym is ∙ found

pub fault_written : (documents : List DocumentView) (n cycle : ℕ) (sink : SinkChange) (status : Status) → cycle_fault (cycles_of documents) ≡ Some (n, cycle) → Writes Refused (cycle_line n cycle) sink status
    → Writes (cycles_answer (cycle_fault (cycles_of documents)) documents).status (cycles_answer (cycle_fault (cycles_of documents)) documents).output sink status
unfolding cycles_answer
fault_written documents n cycle sink status is written = subst (λ o. Writes (cycles_answer o documents).status (cycles_answer o documents).output sink status) (sym is) written

pub merged_written : (documents : List DocumentView) (time : ℕ) (sink : SinkChange) (status : Status) → cycle_fault (cycles_of documents) ≡ None → time ≡ first_cycle (cycles_of documents) → Writes Done (merged time (voices_from 1 documents)) sink status
    → Writes (cycles_answer (cycle_fault (cycles_of documents)) documents).status (cycles_answer (cycle_fault (cycles_of documents)) documents).output sink status
unfolding cycles_answer
merged_written documents time sink status is same written =
    subst (λ o. Writes (cycles_answer o documents).status (cycles_answer o documents).output sink status) (sym is)
    (subst (λ t. Writes Done (merged t (voices_from 1 documents)) sink status) same written)

-- the answer by the number of parts
told_few : (n : ℕ) → ((n < 2) ⊎ (8 < n)) → (nat_le 2 n && nat_le n 8) ≡ false
told_few n (inl below) = let test : nat_le 2 n ≡ false = grind (arith, nat_tests, below) in ap (λ b. b && nat_le n 8) test
told_few n (inr above) = let test : nat_le n 8 ≡ false = grind (arith, nat_tests, above) in ap (λ b. nat_le 2 n && b) test ∙ and_false (nat_le 2 n)
  where
    and_false : (b : Bool) → (b && false) ≡ false
    and_false true = refl
    and_false false = refl

told_well : (n : ℕ) → 2 ≤ n → n ≤ 8 → (nat_le 2 n && nat_le n 8) ≡ true
told_well n two eight = let a : nat_le 2 n ≡ true = grind (arith, nat_tests, two) in let b : nat_le n 8 ≡ true = grind (arith, nat_tests, eight) in ap (λ x. x && nat_le n 8) a ∙ b

pub not_few : (n m : ℕ) → n ≡ m → 2 ≤ n → n ≤ 8 → ((m < 2) ⊎ (8 < m)) → ⊥
not_few n m is two eight (inl below) = omega (arith, is, two, below)
not_few n m is two eight (inr above) = omega (arith, is, eight, above)

-- nothing is said of too few or too many documents, and the documents are the same that were read
few_said : (bytes : List ℕ) (n : ℕ) → n ≡ length (parts_of bytes) → ((n < 2) ⊎ (8 < n)) → RunsItsRings bytes
few_said bytes n is why two eight documents said = absurd (not_few _ n (sym is) two eight why)

all_said : (bytes : List ℕ) (documents : List DocumentView) → documents_from 1 (parts_of bytes) ≡ Ok documents → AreRuns documents → RunsItsRings bytes
all_said bytes documents said runs two eight other too = subst AreRuns (by (documents_from 1 (parts_of bytes)) said too) runs
  where
    by : (r : Result (List DocumentView) (ℕ × BadDocument)) → r ≡ Ok documents → r ≡ Ok other → documents ≡ other
    by (Ok read) is also = let one : read ≡ documents = cc in let same : read ≡ other = cc in sym one ∙ same
    by (Err refusal) is also = absurd (cc)

none_said : (bytes : List ℕ) (refusal : ℕ × BadDocument) → documents_from 1 (parts_of bytes) ≡ Err refusal → RunsItsRings bytes
none_said bytes refusal is two eight documents said = absurd (by (documents_from 1 (parts_of bytes)) is said)
  where
    by : (r : Result (List DocumentView) (ℕ × BadDocument)) → r ≡ Err refusal → r ≡ Ok documents → ⊥
    by (Ok read) so also = cc
    by (Err other) so also = cc

pub few_told : (bytes : List ℕ) (n : ℕ) (sink : SinkChange) (Unwritten : Type 0) (status : Status) → n ≡ length (parts_of bytes) → ((n < 2) ⊎ (8 < n)) → Writes Refused (count_line n) sink status → Replies (rings_answer bytes) (RunsItsRings bytes) sink Unwritten status
unfolding rings_answer counted_answer
few_told bytes n sink Unwritten status is why written =
    let test : (nat_le 2 (length (parts_of bytes)) && nat_le (length (parts_of bytes)) 8) ≡ false = sym (ap (λ i. nat_le 2 i && nat_le i 8) is) ∙ told_few n why in
    subst (λ (a : Answer). Replies a (RunsItsRings bytes) sink Unwritten status) (sym (ap (λ b. counted_answer b (parts_of bytes)) test))
    (replied status (few_said bytes n is why) (subst (λ i. Writes Refused (count_line i) sink status) is written))

well_is : (bytes : List ℕ) (n : ℕ) → n ≡ length (parts_of bytes) → 2 ≤ n → n ≤ 8 → rings_answer bytes ≡ documents_answer (documents_from 1 (parts_of bytes))
unfolding rings_answer counted_answer
well_is bytes n is two eight =
    let test : (nat_le 2 (length (parts_of bytes)) && nat_le (length (parts_of bytes)) 8) ≡ true = sym (ap (λ i. nat_le 2 i && nat_le i 8) is) ∙ told_well n two eight in
    ap (λ b. counted_answer b (parts_of bytes)) test

pub documents_count : (n : ℕ) (parts : List (List ℕ)) (documents : List DocumentView) → documents_from n parts ≡ Ok documents → length documents ≡ length parts
unfolding documents_from with_document
documents_count n [] documents is = let none : [] ≡ documents = cc in sym (ap length none)
documents_count n (part ∷ parts) documents is = by (document_of part) (documents_from (n + 1) parts) (documents_count (n + 1) parts) is
  where
    by : (d : Result DocumentView BadDocument) (r : Result (List DocumentView) (ℕ × BadDocument)) → ((others : List DocumentView) → r ≡ Ok others → length others ≡ length parts) → with_document n d r ≡ Ok documents → length documents ≡ suc (length parts)
    by (Err bad) r rest is = cc
    by (Ok d) (Err refusal) rest is = cc
    by (Ok d) (Ok others) rest is = let same : d ∷ others ≡ documents = cc in sym (ap length same) ∙ ap suc (rest others refl)

pub all_written : (bytes : List ℕ) (n : ℕ) (documents : List DocumentView) (sink : SinkChange) (Unwritten : Type 0) (status : Status) → n ≡ length (parts_of bytes) → 2 ≤ n → n ≤ 8 → documents_from 1 (parts_of bytes) ≡ Ok documents → AreRuns documents
    → Writes (cycles_answer (cycle_fault (cycles_of documents)) documents).status (cycles_answer (cycle_fault (cycles_of documents)) documents).output sink status → Replies (rings_answer bytes) (RunsItsRings bytes) sink Unwritten status
unfolding documents_answer
all_written bytes n documents sink Unwritten status is two eight said runs written =
    subst (λ (a : Answer). Replies a (RunsItsRings bytes) sink Unwritten status) (sym (well_is bytes n is two eight ∙ ap documents_answer said)) (replied status (all_said bytes documents said runs) written)

pub unopened_told : (parts : List (List ℕ)) (why : Unopened) → IsRefusedIn parts why → IsTold why
unopened_told parts unopened.Memory is = tt
unopened_told parts (unopened.Refused n bad) is = is.1

pub unopened_ends : (bytes : List ℕ) (n : ℕ) (why : Unopened) (sink : SinkChange) (Unwritten : Type 0) (status : Status) → n ≡ length (parts_of bytes) → 2 ≤ n → n ≤ 8 → IsRefusedIn (parts_of bytes) why → EndsUnopened why sink Unwritten status
    → Replies (rings_answer bytes) (RunsItsRings bytes) sink Unwritten status
unfolding documents_answer
unopened_ends bytes n unopened.Memory sink Unwritten status is two eight refused ended = subst (λ s. Replies (rings_answer bytes) (RunsItsRings bytes) sink Unwritten s) (sym ended.0) (none_found ended.1)
unopened_ends bytes n (unopened.Refused m bad) sink Unwritten status is two eight refused written =
    subst (λ (a : Answer). Replies a (RunsItsRings bytes) sink Unwritten status) (sym (well_is bytes n is two eight ∙ ap documents_answer refused.0)) (replied status (none_said bytes (m, bad) refused.0) written)
