-- The cycles of a ring whose run is written: one more, a write that fails, and the whole text.
use Rattle.std.proofs.Common.{◌≡◌, ℕ, zero, suc, ◌+◌, ◌<◌, ◌≤◌, ◌⊎◌, inl, inr, Bool, true, false, List, [], ◌∷◌, ◌++◌, length, reverse, Result, Ok, Err, IfOk, OnOk, OnErr, IsOk, IsErr, take, map, refl, sym, ap, ◌∙◌, subst, arith, append_assoc, append-nil}
use Rattle.std.specs.List.{flat_map}
use Rattle.std.proofs.lemmas.Bool.{cases_lt}
use Rattle.std.specs.List.{All}
use Rattle.std.specs.Io.KnownBytes.{Appends}
use Rattle.std.proofs.lemmas.List.{reverse-append, length-map}
use Rattle.std.proofs.lemmas.List.Elements.{All-from_get_or}
use Rattle.sercos_model.specs.Streams.{HasCause}
use Rattle.sercos_timing.specs.Valid.{IsOrder}
use Rattle.sercos_block.specs.Rings.{wishes_of, wish_of}
use Rattle.std.proofs.lemmas.Grind.{flat_map-append}
use Rattle.sercos_step.specs.declared.request.Job.{Job}
use Rattle.sercos_timing.specs.Views.{WishesView}
use Rattle.sercos_block.specs.Views.{RingView}
use Rattle.sercos_trace.specs.Views.{CycleView}
use Rattle.sercos_trace.specs.Texts.{header_text, cycle_text, end_text}
use Rattle.sercos_trace.specs.Written.{Seen, HasTaken, HasFailed}
use Rattle.sercos_trace.specs.declared.record.Totals.{Totals}
use Rattle.sercos_trace.proofs.WriteLemmas.{taken_none, taken_then, failed_early, failed_later}
use Rattle.sercos_script.specs.Links.{Carry, Restarts}
use Rattle.sercos_law_run.specs.Journal.Runs.{IsRun, run_of, next_record}
use Rattle.sercos_law_run.specs.Totals.Totals.{totals_of}
use Rattle.sercos_law_run.specs.Totals.Counting.{AreFew, IsFew, with_cycle}
use Rattle.sercos_law_run.proofs.Theorems.{few_more, totals_more}
use Rattle.sercos_app.specs.Journals.{IsRingOf, OfRun, Journal, HasCounted, HasWritten, HasStopped, WritesCycles, HasMade, cycles_text, journal_text}
use Rattle.sercos_app.specs.RunWriting.{WritesRun}

-- one cycle more, in the order of the cycles
pub in_order : (m : CycleView) (j : List CycleView) → reverse (m ∷ j) ≡ reverse j ++ m ∷ []
in_order m j = reverse-append (m ∷ []) j

text_more : (w : WishesView) (m : CycleView) (j : List CycleView) → cycles_text w (m ∷ j) ≡ cycles_text w j ++ cycle_text w m
text_more w m j = ap (flat_map (cycle_text w)) (in_order m j) ∙ flat_map-append (cycle_text w) (reverse j) (m ∷ []) ∙ ap (λ t. cycles_text w j ++ t) (append-nil (cycle_text w m))

pub counted_none : {R : Type 0} (stands : R → RingView → List Job → Carry → Restarts → List CycleView → Type 0) (ring : R) (t : Totals) → t ≡ totals_of [] → AreFew t 0 → HasCounted stands ring ring 0 t
counted_none stands ring t is few = record {
  journal = record { cycles = []; count = refl; stands_for = λ r jobs carry restarts s. s };
  counted = is;
  few = few;
}

pub written_none : {R : Type 0} (stands : R → RingView → List Job → Carry → Restarts → List CycleView → Type 0) (w : WishesView) (ring : R) (a : Seen) (t : Totals) → t ≡ totals_of []
    → AreFew t 0 → HasWritten stands w ring ring 0 a a t
unfolding counted_none
written_none stands w ring a t is few = record { made = counted_none stands ring t is few; taken = taken_none a }

unfoldable pub journal_more : {R : Type 0} (stands : R → RingView → List Job → Carry → Restarts → List CycleView → Type 0) (old mid new : R) (k : ℕ) (m : CycleView) → (done : Journal stands old mid k)
    → ((r : RingView) (jobs : List Job) (carry : Carry) (restarts : Restarts) (j : List CycleView) → stands mid r jobs carry restarts j → stands new r jobs carry restarts (m ∷ j))
    → Journal stands old new (k + 1)
journal_more stands old mid new k m done turn = record {
  cycles = m ∷ done.cycles;
  count = omega (arith, done.count);
  stands_for = λ r jobs carry restarts s. turn r jobs carry restarts done.cycles (done.stands_for r jobs carry restarts s);
}

counted_more : (t t' : Totals) (m : CycleView) (j : List CycleView) → t ≡ totals_of (reverse j) → t' ≡ with_cycle t m → t' ≡ totals_of (reverse (m ∷ j))
counted_more t t' m j is next = next ∙ ap (λ x. with_cycle x m) is ∙ sym (totals_more (reverse j) m) ∙ sym (ap totals_of (in_order m j))

-- a cycle more was made and counted, and its lines were written
pub counted_next : {R : Type 0} (stands : R → RingView → List Job → Carry → Restarts → List CycleView → Type 0) (old mid new : R) (k : ℕ) (t t' : Totals) (m : CycleView)
    → HasCounted stands old mid k t
    → ((r : RingView) (jobs : List Job) (carry : Carry) (restarts : Restarts) (j : List CycleView) → stands mid r jobs carry restarts j → stands new r jobs carry restarts (m ∷ j))
    → t' ≡ with_cycle t m → IsFew m → HasCounted stands old new (k + 1) t'
unfolding journal_more
counted_next stands old mid new k t t' m done turn is few = record {
  journal = journal_more stands old mid new k m done.journal turn;
  counted = counted_more t t' m done.journal.cycles done.counted is;
  few = subst (λ x. AreFew x (k + 1)) (sym is) (few_more t m k done.few few);
}

pub written_next : {R : Type 0} (stands : R → RingView → List Job → Carry → Restarts → List CycleView → Type 0) (w : WishesView) (old mid new : R) (k : ℕ) (a b c : Seen) (t t' : Totals) (m : CycleView)
    → HasWritten stands w old mid k a b t
    → ((r : RingView) (jobs : List Job) (carry : Carry) (restarts : Restarts) (j : List CycleView) → stands mid r jobs carry restarts j → stands new r jobs carry restarts (m ∷ j))
    → t' ≡ with_cycle t m → IsFew m → HasTaken b c (cycle_text w m) → HasWritten stands w old new (k + 1) a c t'
unfolding journal_more counted_next
written_next stands w old mid new k a b c t t' m done turn is few taken = record {
  made = counted_next stands old mid new k t t' m done.made turn is few;
  taken = subst (HasTaken a c) (sym (text_more w m done.made.journal.cycles)) (taken_then a b c (cycles_text w done.made.journal.cycles) (cycle_text w m) done.taken taken);
}

pub written_at : {R : Type 0} (stands : R → RingView → List Job → Carry → Restarts → List CycleView → Type 0) (w : WishesView) (old new : R) (m n : ℕ) (a b : Seen) (t : Totals)
    → m ≡ n → HasWritten stands w old new m a b t → HasWritten stands w old new n a b t
written_at stands w old new m n a b t same done = subst (λ k. HasWritten stands w old new k a b t) same done

-- a write failed in a cycle more
pub stopped_next : {R : Type 0} (stands : R → RingView → List Job → Carry → Restarts → List CycleView → Type 0) (w : WishesView) (old mid new : R) (k n : ℕ) (a b c : Seen) (t : Totals) (m : CycleView)
    → k < n → HasWritten stands w old mid k a b t
    → ((r : RingView) (jobs : List Job) (carry : Carry) (restarts : Restarts) (j : List CycleView) → stands mid r jobs carry restarts j → stands new r jobs carry restarts (m ∷ j))
    → HasFailed b c (cycle_text w m) → HasStopped stands w old new n a c
unfolding journal_more
stopped_next stands w old mid new k n a b c t m below done turn failed = record {
  made = k + 1;
  few = omega (arith, below);
  journal = journal_more stands old mid new k m done.made.journal turn;
  failed = subst (HasFailed a c) (sym (text_more w m done.made.journal.cycles)) (failed_later a b c (cycles_text w done.made.journal.cycles) (cycle_text w m) done.taken failed);
}

pub ring_more : {R : Type 0} (stands : R → RingView → List Job → Carry → Restarts → List CycleView → Type 0) (old mid : R) (w : WishesView) (k : ℕ) (done : Journal stands old mid k)
    → IsRingOf stands old w [] → IsRingOf stands mid w done.cycles
ring_more stands old mid w k done is = record {
  setup = is.setup;
  jobs = is.jobs;
  carry = is.carry;
  restarts = is.restarts;
  valid = is.valid;
  wishes = is.wishes;
  stands_for = done.stands_for is.setup is.jobs is.carry is.restarts is.stands_for;
}

-- The whole text. A longer run begins with a shorter one.
run_begins : (w : WishesView) (r : RingView) (jobs : List Job) (carry : Carry) (restarts : Restarts) (n m : ℕ) → m ≤ n
    → (rest : List ℕ) × (cycles_text w (run_of r jobs carry restarts n) ≡ cycles_text w (run_of r jobs carry restarts m) ++ rest)
run_begins w r jobs carry restarts zero m within =
    let none : m ≡ 0 = omega (arith, within) in
    ([], sym (append-nil (cycles_text w (run_of r jobs carry restarts 0))) ∙ ap (λ k. cycles_text w (run_of r jobs carry restarts k) ++ []) (sym none))
run_begins w r jobs carry restarts (suc n) m within = by (run_begins w r jobs carry restarts n m) (elim (cases_lt n m) [
  | inl above ↦ inl (omega (arith, within, above))
  | inr below ↦ inr (omega (arith, below))
])
  where
    by : (m ≤ n → (rest : List ℕ) × (cycles_text w (run_of r jobs carry restarts n) ≡ cycles_text w (run_of r jobs carry restarts m) ++ rest)) → (m ≡ suc n) ⊎ (m ≤ n)
        → (rest : List ℕ) × (cycles_text w (run_of r jobs carry restarts (suc n)) ≡ cycles_text w (run_of r jobs carry restarts m) ++ rest)
    by more (inl same) = ([], sym (append-nil (cycles_text w (run_of r jobs carry restarts (suc n)))) ∙ ap (λ k. cycles_text w (run_of r jobs carry restarts k) ++ []) (sym same))
    by more (inr below) =
        let (rest, is) = more below in
        let t : CycleView = next_record r jobs carry restarts (run_of r jobs carry restarts n) in
        (rest ++ cycle_text w t, text_more w t (run_of r jobs carry restarts n) ∙ ap (λ x. x ++ cycle_text w t) is ∙ append_assoc (cycles_text w (run_of r jobs carry restarts m)) rest (cycle_text w t))

-- what was made is the run
pub journal_is : {R : Type 0} (stands : R → RingView → List Job → Carry → Restarts → List CycleView → Type 0)
    → ((ring : R) (r : RingView) (jobs : List Job) (carry : Carry) (restarts : Restarts) (j : List CycleView) → stands ring r jobs carry restarts j → j ≡ run_of r jobs carry restarts (length j))
    → (old new : R) (n : ℕ) (done : Journal stands old new n) (r : RingView) (jobs : List Job) (carry : Carry) (restarts : Restarts) → stands old r jobs carry restarts []
    → done.cycles ≡ run_of r jobs carry restarts n
journal_is stands law old new n done r jobs carry restarts s =
    law new r jobs carry restarts done.cycles (done.stands_for r jobs carry restarts s) ∙ ap (run_of r jobs carry restarts) done.count

pub made_of : {R : Type 0} (stands : R → RingView → List Job → Carry → Restarts → List CycleView → Type 0)
    → ((ring : R) (r : RingView) (jobs : List Job) (carry : Carry) (restarts : Restarts) (j : List CycleView) → stands ring r jobs carry restarts j → j ≡ run_of r jobs carry restarts (length j))
    → (old new : R) (n made : ℕ) (whole : Bool) → made ≤ n → (whole ≡ true → made ≡ n) → Journal stands old new made → HasMade stands old new n whole
made_of stands law old new n made whole few all done = record {
  made = made;
  few = few;
  all = all;
  stands_for = λ r jobs carry restarts s. subst (λ j. stands new r jobs carry restarts j) (journal_is stands law old new made done r jobs carry restarts s) (done.stands_for r jobs carry restarts s);
}

-- the head was not written whole
pub fails_early : {R E : Type 0} (stands : R → RingView → List Job → Carry → Restarts → List CycleView → Type 0)
    → ((ring : R) (r : RingView) (jobs : List Job) (carry : Carry) (restarts : Restarts) (j : List CycleView) → stands ring r jobs carry restarts j → j ≡ run_of r jobs carry restarts (length j))
    → (w : WishesView) (ring : R) (n : ℕ) (a b : Seen) (e : E) → HasFailed a b (header_text w) → WritesRun stands w ring ring n a b (Err e)
fails_early stands law w ring n a b e failed = record {
  made = made_of stands law ring ring n 0 false (omega arith) (λ never. absurd (cc)) (record { cycles = []; count = refl; stands_for = λ r jobs carry restarts s. s });
  totals = tt;
  written = λ r jobs carry restarts s. failed_early a b (header_text w) _ failed;
}

-- a cycle was not written whole
cycles_fail : (w : WishesView) (r : RingView) (jobs : List Job) (carry : Carry) (restarts : Restarts) (n m : ℕ) (a b c : Seen) → m ≤ n → HasTaken a b (header_text w)
    → HasFailed b c (cycles_text w (run_of r jobs carry restarts m)) → HasFailed a c (journal_text w (run_of r jobs carry restarts n))
cycles_fail w r jobs carry restarts n m a b c within head failed =
    let (rest, is) = run_begins w r jobs carry restarts n m within in
    failed_later a b c (header_text w) (cycles_text w (run_of r jobs carry restarts n) ++ end_text (totals_of (reverse (run_of r jobs carry restarts n)))) head
    (failed_early b c (cycles_text w (run_of r jobs carry restarts n)) (end_text (totals_of (reverse (run_of r jobs carry restarts n))))
    (subst (HasFailed b c) (sym is) (failed_early b c (cycles_text w (run_of r jobs carry restarts m)) rest failed)))

pub fails_within : {R E : Type 0} (stands : R → RingView → List Job → Carry → Restarts → List CycleView → Type 0)
    → ((ring : R) (r : RingView) (jobs : List Job) (carry : Carry) (restarts : Restarts) (j : List CycleView) → stands ring r jobs carry restarts j → j ≡ run_of r jobs carry restarts (length j))
    → (w : WishesView) (old new : R) (n : ℕ) (a b c : Seen) (e : E) → HasTaken a b (header_text w) → HasStopped stands w old new n b c → WritesRun stands w old new n a c (Err e)
fails_within stands law w old new n a b c e head stopped = record {
  made = made_of stands law old new n stopped.made false stopped.few (λ never. absurd (cc)) stopped.journal;
  totals = tt;
  written = λ r jobs carry restarts s. cycles_fail w r jobs carry restarts n stopped.made a b c stopped.few head
      (subst (λ j. HasFailed b c (cycles_text w j)) (journal_is stands law old new stopped.made stopped.journal r jobs carry restarts s) stopped.failed);
}

-- all cycles were written
whole_text : (w : WishesView) (j run : List CycleView) (t : Totals) → j ≡ run → t ≡ totals_of (reverse j) → header_text w ++ (cycles_text w j ++ end_text t) ≡ journal_text w run
whole_text w j run t same counted = ap (λ x. header_text w ++ (cycles_text w j ++ end_text x)) counted ∙ ap (journal_text w) same

pub ends_whole : {R E : Type 0} (stands : R → RingView → List Job → Carry → Restarts → List CycleView → Type 0)
    → ((ring : R) (r : RingView) (jobs : List Job) (carry : Carry) (restarts : Restarts) (j : List CycleView) → stands ring r jobs carry restarts j → j ≡ run_of r jobs carry restarts (length j))
    → (w : WishesView) (old new : R) (n : ℕ) (a b c d : Seen) (t : Totals) → HasTaken a b (header_text w) → HasWritten stands w old new n b c t → HasTaken c d (end_text t)
    → WritesRun {E = E} stands w old new n a d (Ok t)
ends_whole stands law w old new n a b c d t head done end = record {
  made = made_of stands law old new n n true (omega arith) (λ is. refl) done.made.journal;
  totals = λ r jobs carry restarts s. done.made.counted ∙ ap (λ j. totals_of (reverse j)) (journal_is stands law old new n done.made.journal r jobs carry restarts s);
  written = λ r jobs carry restarts s. subst (HasTaken a d) (whole_text w done.made.journal.cycles (run_of r jobs carry restarts n) t (journal_is stands law old new n done.made.journal r jobs carry restarts s) done.made.counted)
      (taken_then a b d (header_text w) (cycles_text w done.made.journal.cycles ++ end_text t) head (taken_then b c d (cycles_text w done.made.journal.cycles) (end_text t) done.taken end));
}

-- the last line was not written whole
pub fails_late : {R E : Type 0} (stands : R → RingView → List Job → Carry → Restarts → List CycleView → Type 0)
    → ((ring : R) (r : RingView) (jobs : List Job) (carry : Carry) (restarts : Restarts) (j : List CycleView) → stands ring r jobs carry restarts j → j ≡ run_of r jobs carry restarts (length j))
    → (w : WishesView) (old new : R) (n : ℕ) (a b c d : Seen) (t : Totals) (e : E) → HasTaken a b (header_text w) → HasWritten stands w old new n b c t → HasFailed c d (end_text t)
    → WritesRun stands w old new n a d (Err e)
fails_late stands law w old new n a b c d t e head done failed = record {
  made = made_of stands law old new n n false (omega arith) (λ never. refl) done.made.journal;
  totals = tt;
  written = λ r jobs carry restarts s. subst (HasFailed a d) (whole_text w done.made.journal.cycles (run_of r jobs carry restarts n) t (journal_is stands law old new n done.made.journal r jobs carry restarts s) done.made.counted)
      (failed_later a b d (header_text w) (cycles_text w done.made.journal.cycles ++ end_text t) head (failed_later b c d (cycles_text w done.made.journal.cycles) (end_text t) done.taken failed));
}

-- the answer of a call that hands on a failure
pub stopped_is : {R E : Type 0} (stands : R → RingView → List Job → Carry → Restarts → List CycleView → Type 0) (w : WishesView) (old new : R) (n : ℕ) (a b : Seen) (r : Result Totals E)
    → IsErr r → HasStopped stands w old new n a b → WritesCycles stands w old new n a b r
stopped_is {E = E} stands w old new n a b (Ok t) is stopped = absurd (never t is)
  where
    never : (t : Totals) → IsErr {E = E} (Ok t) → ⊥
    never t is = cc
stopped_is stands w old new n a b (Err e) is stopped = stopped

pub run_failed : {R E : Type 0} (stands : R → RingView → List Job → Carry → Restarts → List CycleView → Type 0) (w : WishesView) (old new : R) (n : ℕ) (a b : Seen) (r : Result Totals E)
    → IsErr r → ((e : E) → WritesRun stands w old new n a b (Err e)) → WritesRun stands w old new n a b r
run_failed {E = E} stands w old new n a b (Ok t) is failed = absurd (never t is)
  where
    never : (t : Totals) → IsErr {E = E} (Ok t) → ⊥
    never t is = cc
run_failed stands w old new n a b (Err e) is failed = failed e

-- what a ring stands for is the run
pub lawful : {R : Type 0} (stands : R → RingView → List Job → Carry → Restarts → List CycleView → Type 0)
    → ((ring : R) (r : RingView) (jobs : List Job) (carry : Carry) (restarts : Restarts) (j : List CycleView) → stands ring r jobs carry restarts j → IsRun r jobs carry restarts j)
    → ((r : RingView) (jobs : List Job) (carry : Carry) (restarts : Restarts) (j : List CycleView) → IsRun r jobs carry restarts j → j ≡ run_of r jobs carry restarts (length j))
    → (ring : R) (r : RingView) (jobs : List Job) (carry : Carry) (restarts : Restarts) (j : List CycleView) → stands ring r jobs carry restarts j → j ≡ run_of r jobs carry restarts (length j)
lawful stands run one ring r jobs carry restarts j s = one r jobs carry restarts j (run ring r jobs carry restarts j s)

-- The clauses of the call that writes a run.
pub run_totals : {R E : Type 0} (stands : R → RingView → List Job → Carry → Restarts → List CycleView → Type 0) (w : WishesView) (old new : R) (n : ℕ) (a b : Seen) (r : Result Totals E)
    → WritesRun stands w old new n a b r → IfOk r (λ t. OfRun stands old n (λ run. t ≡ totals_of (reverse run)))
run_totals stands w old new n a b r is = is.totals

pub run_ok : {R E : Type 0} (stands : R → RingView → List Job → Carry → Restarts → List CycleView → Type 0) (w : WishesView) (old new : R) (n : ℕ) (a b : Seen) (r : Result Totals E)
    → WritesRun stands w old new n a b r → OnOk r (OfRun stands old n (λ run. Appends a.held b.held (journal_text w run)))
run_ok stands w old new n a b (Ok t) is = λ r jobs carry restarts s. (is.written r jobs carry restarts s).taken
run_ok stands w old new n a b (Err e) is = tt

pub run_err : {R E : Type 0} (stands : R → RingView → List Job → Carry → Restarts → List CycleView → Type 0) (w : WishesView) (old new : R) (n : ℕ) (a b : Seen) (r : Result Totals E)
    → WritesRun stands w old new n a b r
    → OnErr r (OfRun stands old n (λ run. (count : ℕ) × (count < length (journal_text w run)) × Appends a.held b.held (take count (journal_text w run))))
run_err stands w old new n a b (Ok t) is = tt
run_err stands w old new n a b (Err e) is = λ r jobs carry restarts s. let f = is.written r jobs carry restarts s in (f.count, f.few, f.taken)

pub run_cause : {R E : Type 0} (stands : R → RingView → List Job → Carry → Restarts → List CycleView → Type 0) (w : WishesView) (old new : R) (n : ℕ) (a b : Seen) (r : Result Totals E)
    → WritesRun stands w old new n a b r → IsRingOf stands old w [] → HasCause a.faults b.faults r
run_cause stands w old new n a b (Ok t) is ring = (is.written ring.setup ring.jobs ring.carry ring.restarts ring.stands_for).faultless
run_cause stands w old new n a b (Err e) is ring = (is.written ring.setup ring.jobs ring.carry ring.restarts ring.stands_for).cause

pub run_room : {R E : Type 0} (stands : R → RingView → List Job → Carry → Restarts → List CycleView → Type 0) (w : WishesView) (old new : R) (n : ℕ) (a b : Seen) (r : Result Totals E)
    → WritesRun stands w old new n a b r → OfRun stands old n (λ run. length (journal_text w run) ≤ a.room → IsOk r)
run_room stands w old new n a b (Ok t) is = λ r jobs carry restarts s fits. refl
run_room stands w old new n a b (Err e) is = λ r jobs carry restarts s fits. let f = is.written r jobs carry restarts s in absurd (omega (arith, f.full, fits))

-- the places in the order of valid wishes are those of drives
pub order_within : (w : WishesView) (r : RingView) → w ≡ wishes_of r → IsOrder r.order (length r.drives) → All (λ place. place < length w.drives) w.order
unfolding wishes_of
order_within w r is order =
    subst (λ v. All (λ place. place < length v.drives) v.order) (sym is)
    (All-from_get_or (λ place. place < length (map wish_of r.drives)) r.order 0 (λ i inside. let below = order.within i inside in let count = length-map r.drives wish_of in omega (arith, below, count)))

-- The counts of all cycles are those of the run.
pub counts_run : {R : Type 0} (stands : R → RingView → List Job → Carry → Restarts → List CycleView → Type 0)
    → ((ring : R) (r : RingView) (jobs : List Job) (carry : Carry) (restarts : Restarts) (j : List CycleView) → stands ring r jobs carry restarts j → j ≡ run_of r jobs carry restarts (length j))
    → (old new : R) (m n : ℕ) (t : Totals) → m ≡ n → HasCounted stands old new m t → OfRun stands old n (λ run. t ≡ totals_of (reverse run))
counts_run stands law old new m n t same done = λ r jobs carry restarts s.
    done.counted ∙ ap (λ j. totals_of (reverse j)) (journal_is stands law old new m done.journal r jobs carry restarts s ∙ ap (run_of r jobs carry restarts) same)
