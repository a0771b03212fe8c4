-- The capture of a run in which nothing is disturbed: its cycles are those of the journal, each station got there what it got in the run,
-- and so said what it is to say.
use Rattle.std.proofs.Common.{◌≡◌, inl, inr, ℕ, suc, zero, ◌+◌, ◌<◌, ◌==◌, nat_lt, Bool, true, false, not, cond, ◌||◌, List, [], ◌∷◌, ◌++◌, length, Option, Some, None, option_map, refl, sym, ◌∙◌, ap, subst, arith, append_assoc}
use Rattle.std.specs.Prelude.{slice_index, option_and_then}
use Rattle.std.specs.List.{find}
use Rattle.std.proofs.lemmas.Bool.{cases_eq, eqb-true, eq-eqb, not-false, or_parts}
use Rattle.std.proofs.lemmas.Bool.Decides.{Decides-int_eq}
use Rattle.std.proofs.lemmas.Slice.Eq.{bytes_eq-Decides}
use Rattle.sercos_hdlc.specs.Stuffed.{frame_of}
use Rattle.sercos_telegram.specs.declared.layout.Kind.TheVariants as kinds
use Rattle.sercos_step.specs.declared.request.Job.{Job}
use Rattle.sercos_block.specs.Views.{DriveView, RingView}
use Rattle.sercos_block.specs.Rings.{is_ring}
use Rattle.sercos_trace.specs.Views.{SentView, CycleView}
use Rattle.sercos_trace.specs.declared.reading.Line.{Line}
use Rattle.sercos_drive.specs.Heard.{DriveCall, Mst, Mdt}
use Rattle.sercos_drive.specs.Says.{Said, drive_says}
use Rattle.sercos_seat.specs.Ring.{known_of}
use Rattle.sercos_master.specs.Annals.{Call, HearMst, HearAt, End}
use Rattle.sercos_master.specs.Annals as master
use Rattle.sercos_master.specs.Says.{Sent, mst_said, mdt_said}
use Rattle.sercos_script.specs.declared.link.Passage.{Passage}
use Rattle.sercos_script.specs.Links.{Carry, Restarts}
use Rattle.sercos_law_run.specs.Journal.Arrivals.{arrival, content_in, heard, passage, is_disturbed, disturbed_at, any_below, are_same}
use Rattle.sercos_law_run.specs.Journal.Records.{mst_in, ats_in, mdt_in}
use Rattle.sercos_law_run.specs.Journal.Runs.{drive_at, with_restart, mdt_heard, station_of, station_from, sent_at, sent_mst, sent_mdt, inserted, with_said, said_below, ats_said, contents, given_mst, begins, middle, own_mst, is_disturbed_in, disturbs_mst, disturbs_mdt, disturbs_ats, mst_next, ats_next, mdt_next, IsNext, IsRun}
use Rattle.sercos_law_run.specs.Journal.Runs as journal
use Rattle.sercos_law_run.specs.Views.Spelled.{IsSaid, IsWhole, IsSpelled}
use Rattle.sercos_law_run.proofs.Theorems.{same_bits, ats_in-said, mdt_in-said, station_found, drives_so, AreSaid, all_said, said_address}
use Rattle.sercos_step.specs.Steps.{AreTypedJobs}
use Rattle.sercos_law_run.specs.Typed.Typed.{AreTyped}
use Rattle.sercos_law_run.specs.Typed.Spelled.{SpelledNext}
use Rattle.sercos_replay.specs.Cycles.{Cycle, with_at, with_mdt, cycles_of}
use Rattle.sercos_replay.specs.Places.{PlaceView, is_same, agree, if_differs}
use Rattle.sercos_replay.specs.Differences.{content_of, drive_calls, mst_calls, is_of, at_found, at_place, drive_differs, at_calls, mdt_calls, master_calls, looks_back, mst_place, mdt_at, mdt_place, master_differs}
use Rattle.sercos_replay.specs.Captured.{lines_with, lines_of, NeverDisturbed}
use Rattle.sercos_replay.proofs.OptionLemmas.{or-none}

-- WHAT IS THE SAME agrees.
same-itself : (s : SentView) → is_same s s ≡ true
same-itself s = rw ((Decides-int_eq s.start s.start).1 refl, (bytes_eq-Decides s.content s.content).1 refl) refl

agree-itself : (o : Option SentView) → agree o o ≡ true
agree-itself None = refl
agree-itself (Some s) = same-itself s

agrees : (p : PlaceView) → p.found ≡ p.expected → if_differs p ≡ None
agrees p same = ap (λ b. cond (not b) (Some p) None) (ap (agree p.expected) same ∙ agree-itself p.expected)

-- THE CYCLE of a capture that has these telegrams.
abbrev cycle_of : ℕ → ℕ → List ℕ → List Said → Option Sent → Cycle
cycle_of rate cycle mst ats mdt = record { cycle = cycle; mst = sent_mst mst; ats = ats_said rate ats; mdt = option_map (mdt_at rate) mdt }

right : {A : Type 0} (xs : List A) → xs ++ [] ≡ xs
right [] = refl
right (x ∷ xs) = ap (λ l. x ∷ l) (right xs)

ats_with : (rate cycle : ℕ) (m : SentView) (done : List SentView) (ats : List Said) (mdt : Option Sent) (lines : List Line) (base : List Cycle)
    → cycles_of lines ≡ (record { cycle = cycle; mst = m; ats = done; mdt = None }) ∷ base
    → cycles_of (lines_with cycle (ats_said rate ats ++ sent_mdt rate mdt) lines)
    ≡ (record { cycle = cycle; mst = m; ats = done ++ ats_said rate ats; mdt = option_map (mdt_at rate) mdt }) ∷ base
ats_with rate cycle m done [] None lines base is = is ∙ ap (λ l. (record { cycle = cycle; mst = m; ats = l; mdt = None }) ∷ base) (sym (right done))
ats_with rate cycle m done [] (Some s) lines base is =
    ap (with_mdt (mdt_at rate s)) is ∙ ap (λ l. (record { cycle = cycle; mst = m; ats = l; mdt = Some (mdt_at rate s) }) ∷ base) (sym (right done))
ats_with rate cycle m done (a ∷ ats) mdt lines base is =
    ats_with rate cycle m (done ++ sent_at rate a.start a.content ∷ []) ats mdt _ base (ap (with_at (sent_at rate a.start a.content)) is)
    ∙ ap (λ l. (record { cycle = cycle; mst = m; ats = l; mdt = option_map (mdt_at rate) mdt }) ∷ base) (append_assoc done (sent_at rate a.start a.content ∷ []) (ats_said rate ats))

cycle_with : (rate cycle : ℕ) (mst : List ℕ) (ats : List Said) (mdt : Option Sent) (lines : List Line)
    → cycles_of (lines_with cycle (sent_mst mst ∷ ats_said rate ats ++ sent_mdt rate mdt) lines) ≡ cycle_of rate cycle mst ats mdt ∷ cycles_of lines
cycle_with rate cycle mst ats mdt lines = ats_with rate cycle (sent_mst mst) [] ats mdt _ (cycles_of lines) refl

-- the cycle of a run's next record
abbrev pub cycle_next : RingView → List Job → Carry → Restarts → CycleView → List CycleView → Cycle
cycle_next r jobs carry restarts t j =
    cycle_of r.rate t.cycle (mst_said (journal.looks_back r jobs (begins r carry restarts j))) (said_below (length r.drives) (drive_at r) r.rate (given_mst carry restarts t.sent j))
    (mdt_said (known_of r) (journal.looks_back r jobs (middle r carry restarts t.sent j)))

pub cycles_next : (r : RingView) (jobs : List Job) (carry : Carry) (restarts : Restarts) (t : CycleView) (j : List CycleView) → IsNext r jobs carry restarts t j
    → cycles_of (lines_of (t ∷ j)) ≡ cycle_next r jobs carry restarts t j ∷ cycles_of (lines_of j)
cycles_next r jobs carry restarts t j next =
    ap (λ sent. cycles_of (lines_with t.cycle sent (lines_of j))) next.sent
    ∙ cycle_with r.rate t.cycle (mst_said (journal.looks_back r jobs (begins r carry restarts j))) (said_below (length r.drives) (drive_at r) r.rate (given_mst carry restarts t.sent j))
    (mdt_said (known_of r) (journal.looks_back r jobs (middle r carry restarts t.sent j))) (lines_of j)

-- THE AT of a drive among those of a cycle, by its address.
abbrev first_with : ℕ → ℕ → List Said → Option SentView
first_with rate a ats = find (is_of a) (ats_said rate ats)

abbrev is_said_by : ℕ → Said → Bool
is_said_by a s = slice_index s.content 0 == a

inserted-other : (rate a : ℕ) (s : Said) (ats : List Said) → is_said_by a s ≡ false → first_with rate a (inserted s ats) ≡ first_with rate a ats
inserted-other rate a s [] other = ap (λ b. cond b (Some (sent_at rate s.start s.content)) None) other
inserted-other rate a s (x ∷ ats) other = by (nat_lt s.start x.start) (inserted-other rate a s ats other)
  where
    by : (b : Bool) → find (is_of a) (ats_said rate (inserted s ats)) ≡ find (is_of a) (ats_said rate ats)
        → find (is_of a) (ats_said rate (cond b (s ∷ x ∷ ats) (x ∷ inserted s ats))) ≡ find (is_of a) (ats_said rate (x ∷ ats))
    by true later = ap (λ c. cond c (Some (sent_at rate s.start s.content)) (find (is_of a) (ats_said rate (x ∷ ats)))) other
    by false later = ap (λ o. cond (slice_index x.content 0 == a) (Some (sent_at rate x.start x.content)) o) later

none_first : (b : Bool) (s : SentView) (o : Option SentView) → cond b (Some s) o ≡ None → (b ≡ false) × (o ≡ None)
none_first true s o none = cc
none_first false s o none = (refl, none)

inserted-own : (rate a : ℕ) (s : Said) (ats : List Said) → is_said_by a s ≡ true → first_with rate a ats ≡ None
    → first_with rate a (inserted s ats) ≡ Some (sent_at rate s.start s.content)
inserted-own rate a s [] own none = ap (λ b. cond b (Some (sent_at rate s.start s.content)) None) own
inserted-own rate a s (x ∷ ats) own none =
    let parts = none_first (slice_index x.content 0 == a) (sent_at rate x.start x.content) (find (is_of a) (ats_said rate ats)) none in
    by (nat_lt s.start x.start) parts.0 (inserted-own rate a s ats own parts.1)
  where
    by : (b : Bool) → (slice_index x.content 0 == a) ≡ false → find (is_of a) (ats_said rate (inserted s ats)) ≡ Some (sent_at rate s.start s.content)
        → find (is_of a) (ats_said rate (cond b (s ∷ x ∷ ats) (x ∷ inserted s ats))) ≡ Some (sent_at rate s.start s.content)
    by true other later = ap (λ c. cond c (Some (sent_at rate s.start s.content)) (find (is_of a) (ats_said rate (x ∷ ats)))) own
    by false other later = ap (λ c. cond c (Some (sent_at rate x.start x.content)) (find (is_of a) (ats_said rate (inserted s ats)))) other ∙ later

-- none of the first n has this address
abbrev AreOthers : ℕ → (ℕ → DriveView) → ℕ → Type 0
AreOthers n d a = (i : ℕ) → i < n → ((d i).address == a) ≡ false

others-first : (n : ℕ) (d : ℕ → DriveView) (rate : ℕ) (h : ℕ → List DriveCall) (a : ℕ) → AreOthers n d a → first_with rate a (said_below n d rate h) ≡ None
others-first zero d rate h a others = refl
others-first (suc n) d rate h a others = by (drive_says (d n) rate (h n)) refl (others-first n d rate h a (λ i below. others i (omega (arith, below))))
  where
    by : (o : Option Said) → drive_says (d n) rate (h n) ≡ o → find (is_of a) (ats_said rate (said_below n d rate h)) ≡ None
        → find (is_of a) (ats_said rate (with_said o (said_below n d rate h))) ≡ None
    by None is none = none
    by (Some s) is none =
        inserted-other rate a s (said_below n d rate h) (ap (λ x. x == a) (said_address (d n) rate (h n) s is) ∙ others n (omega arith)) ∙ none

abbrev sent_as : ℕ → Option Said → Option SentView
sent_as rate o = option_map (λ (s : Said). sent_at rate s.start s.content) o

own-first : (n : ℕ) (d : ℕ → DriveView) (rate : ℕ) (h : ℕ → List DriveCall) → AreOthers n d (d n).address
    → first_with rate (d n).address (said_below (suc n) d rate h) ≡ sent_as rate (drive_says (d n) rate (h n))
own-first n d rate h others = by (drive_says (d n) rate (h n)) refl
  where
    by : (o : Option Said) → drive_says (d n) rate (h n) ≡ o → first_with rate (d n).address (with_said o (said_below n d rate h)) ≡ sent_as rate o
    by None is = others-first n d rate h (d n).address others
    by (Some s) is =
        inserted-own rate (d n).address s (said_below n d rate h) (ap (λ x. x == (d n).address) (said_address (d n) rate (h n) s is) ∙ eq-eqb (d n).address (d n).address refl)
        (others-first n d rate h (d n).address others)

-- the first n drives have addresses other than that at place k
abbrev AreApart : ℕ → (ℕ → DriveView) → ℕ → Type 0
AreApart n d k = (i : ℕ) → i < n → (i ≡ k → ⊥) → ((d i).address == (d k).address) ≡ false

said_first : (n : ℕ) (d : ℕ → DriveView) (rate : ℕ) (h : ℕ → List DriveCall) (k : ℕ) → k < n → AreApart n d k
    → first_with rate (d k).address (said_below n d rate h) ≡ sent_as rate (drive_says (d k) rate (h k))
said_first zero d rate h k below apart = absurd (omega (arith, below))
said_first (suc n) d rate h k below apart = elim (cases_eq k n) [
  | inl same ↦
      let others : AreOthers n d (d n).address = λ i low. subst (λ x. ((d i).address == (d x).address) ≡ false) same (apart i (omega (arith, low)) (λ is. absurd (omega (arith, is, same, low)))) in
      subst (λ x. first_with rate (d x).address (said_below (suc n) d rate h) ≡ sent_as rate (drive_says (d x) rate (h x))) (sym same) (own-first n d rate h others)
  | inr other ↦
      let before = said_first n d rate h k (omega (arith, below, other)) (λ i low not. apart i (omega (arith, low)) not) in
      by (drive_says (d n) rate (h n)) refl (apart n (omega arith) (λ is. other (sym is))) before
]
  where
    by : (o : Option Said) → drive_says (d n) rate (h n) ≡ o → ((d n).address == (d k).address) ≡ false
        → first_with rate (d k).address (said_below n d rate h) ≡ sent_as rate (drive_says (d k) rate (h k))
        → first_with rate (d k).address (with_said o (said_below n d rate h)) ≡ sent_as rate (drive_says (d k) rate (h k))
    by None is not before = before
    by (Some s) is not before =
        inserted-other rate (d k).address s (said_below n d rate h) (ap (λ x. x == (d k).address) (said_address (d n) rate (h n) s is) ∙ not) ∙ before

drives_apart : (r : RingView) (k : ℕ) → is_ring r ≡ true → k < length r.drives → AreApart (length r.drives) (drive_at r) k
drives_apart r k valid below i low not = by ((drive_at r i).address == (drive_at r k).address) refl
  where
    stations : (drive_at r i).address ≡ (drive_at r k).address → i ≡ k
    stations same =
        let one : station_from 1 r.drives (drive_at r i).address ≡ 1 + i = station_found [] r.drives 1 i (drives_so r valid) low in
        let other : station_from 1 r.drives (drive_at r k).address ≡ 1 + k = station_found [] r.drives 1 k (drives_so r valid) below in
        let both : 1 + i ≡ 1 + k = sym one ∙ ap (station_from 1 r.drives) same ∙ other in
        omega (arith, both)

    by : (b : Bool) → ((drive_at r i).address == (drive_at r k).address) ≡ b → b ≡ false
    by false is = refl
    by true is = absurd (not (stations (eqb-true _ _ is)))

-- AN UNDISTURBED CYCLE.

none_below : (n : ℕ) (test : ℕ → Bool) → any_below n test ≡ false → (i : ℕ) → i < n → test i ≡ false
none_below zero test none i below = absurd (omega (arith, below))
none_below (suc n) test none i below =
    let parts = or_parts (any_below n test) (test n) none in
    elim (cases_eq i n) [
      | inl same ↦ ap test same ∙ parts.1
      | inr other ↦ none_below n test parts.0 i (omega (arith, below, other))
    ]

record IsCalm (r : RingView) (carry : Carry) (restarts : Restarts) (cycle : ℕ) (sent : List SentView) : Type 0 where
  goes_on : (station : ℕ) → station < length r.drives + 1 → restarts cycle station ≡ false
  mst : (k : ℕ) → k < length r.drives → disturbs_mst carry cycle (mst_in sent) k ≡ false
  own : disturbed_at carry (passage cycle kinds.Mst 0 0) (mst_in sent) ≡ false
  ats : disturbs_ats r carry cycle (ats_in sent) ≡ false
  mdt : (k : ℕ) → k < length r.drives → disturbs_mdt carry cycle (mdt_in sent) k ≡ false

calm_in : (r : RingView) (carry : Carry) (restarts : Restarts) (cycle : ℕ) (sent : List SentView) → is_disturbed_in r carry restarts cycle sent ≡ false → IsCalm r carry restarts cycle sent
calm_in r carry restarts cycle sent still =
    let first = or_parts (any_below (length r.drives + 1) (restarts cycle)) _ still in
    let second = or_parts (any_below (length r.drives) (disturbs_mst carry cycle (mst_in sent))) _ first.1 in
    let third = or_parts (disturbed_at carry (passage cycle kinds.Mst 0 0) (mst_in sent)) _ second.1 in
    let last = or_parts (disturbs_ats r carry cycle (ats_in sent)) (any_below (length r.drives) (disturbs_mdt carry cycle (mdt_in sent))) third.1 in
    record {
      goes_on = none_below (length r.drives + 1) (restarts cycle) first.0;
      mst = none_below (length r.drives) (disturbs_mst carry cycle (mst_in sent)) second.0;
      own = third.0;
      ats = last.0;
      mdt = none_below (length r.drives) (disturbs_mdt carry cycle (mdt_in sent)) last.1;
    }

-- each of these telegrams is the content of its frame
abbrev AreFramed : List SentView → Type 0
AreFramed [] = Unit {0}
AreFramed (s ∷ sent) = IsWhole s.content × AreFramed sent

-- what arrives as it was sent is heard
comes : (carry : Carry) (p : Passage) (content : List ℕ) → IsWhole content → disturbed_at carry p content ≡ false → heard carry p content ≡ Some content
comes carry p content whole still = by (arrival carry p content) still
  where
    by : (o : Option (List Bool)) → is_disturbed (frame_of content) o ≡ false → option_and_then content_in o ≡ Some content
    by None still = cc
    by (Some came) still = ap content_in (same_bits came (frame_of content) (not-false (are_same came (frame_of content)) still)) ∙ whole

mdt_comes : (carry : Carry) (cycle rate k : ℕ) (m : Option Sent) → AreFramed (sent_mdt rate m) → disturbs_mdt carry cycle (journal.content_of m) k ≡ false
    → mdt_heard carry cycle (k + 1) (journal.content_of m) ≡ option_map content_of (option_map (mdt_at rate) m)
mdt_comes carry cycle rate k None framed still = refl
mdt_comes carry cycle rate k (Some m) framed still = comes carry (passage cycle kinds.Mdt 0 (k + 1)) m.content framed.0 still

ats_come : (r : RingView) (carry : Carry) (cycle rate : ℕ) (ats : List Said) (more : List SentView) (h : List Call) → AreFramed (ats_said rate ats ++ more)
    → disturbs_ats r carry cycle (contents ats) ≡ false → journal.at_calls r carry cycle (contents ats) h ≡ at_calls (ats_said rate ats) h
ats_come r carry cycle rate [] more h framed still = refl
ats_come r carry cycle rate (a ∷ ats) more h framed still =
    let parts = or_parts (disturbed_at carry (passage cycle kinds.At (station_of r (slice_index a.content 0)) 0) a.content) (disturbs_ats r carry cycle (contents ats)) still in
    ap (λ o. journal.at_calls r carry cycle (contents ats) (journal.with_at o h)) (comes carry (passage cycle kinds.At (station_of r (slice_index a.content 0)) 0) a.content framed.0 parts.0)
    ∙ ats_come r carry cycle rate ats more (HearAt a.content ∷ h) framed.1 parts.1

mdt_framed : (rate : ℕ) (ats : List Said) (more : List SentView) → AreFramed (ats_said rate ats ++ more) → AreFramed more
mdt_framed rate [] more framed = framed
mdt_framed rate (a ∷ ats) more framed = mdt_framed rate ats more framed.1

-- WHAT A STATION GOT AND SAID. The cycles of the capture bring to each station what the journal brought to it, and it agrees.
pub record Agree (r : RingView) (jobs : List Job) (carry : Carry) (restarts : Restarts) (j : List CycleView) (cs : List Cycle) : Type 0 where
  pub drives : (k : ℕ) → k < length r.drives → drive_calls cs ≡ journal.drive_calls carry restarts (k + 1) j
  pub calls : master_calls cs ≡ journal.master_calls r carry restarts j
  pub drives_agree : (k : ℕ) → k < length r.drives → drive_differs (drive_at r k) r.rate cs ≡ None
  pub master_agrees : master_differs (known_of r) jobs cs ≡ None

step : (r : RingView) (jobs : List Job) (carry : Carry) (restarts : Restarts) (t : CycleView) (j : List CycleView) (cs : List Cycle) (m0 : List ℕ) (ats : List Said) (mdt : Option Sent)
    → is_ring r ≡ true → t.cycle ≡ length j → mst_in t.sent ≡ m0 → ats_in t.sent ≡ contents ats → mdt_in t.sent ≡ journal.content_of mdt
    → m0 ≡ mst_said (journal.looks_back r jobs (begins r carry restarts j))
    → ats ≡ said_below (length r.drives) (drive_at r) r.rate (given_mst carry restarts t.sent j)
    → mdt ≡ mdt_said (known_of r) (journal.looks_back r jobs (middle r carry restarts t.sent j))
    → IsCalm r carry restarts (length j) t.sent → AreFramed (sent_mst m0 ∷ ats_said r.rate ats ++ sent_mdt r.rate mdt)
    → Agree r jobs carry restarts j cs → Agree r jobs carry restarts (t ∷ j) (cycle_of r.rate t.cycle m0 ats mdt ∷ cs)
step r jobs carry restarts t j cs m0 ats mdt valid number m_in ats_are mdt_is m_said ats_said_are mdt_said_is calm framed before = record {
  drives = λ k below.
      ap (λ x. Mdt x ∷ mst_calls u cs)
      (sym (ap (mdt_heard carry (length j) (k + 1)) mdt_is
      ∙ mdt_comes carry (length j) r.rate k mdt (mdt_framed r.rate ats (sent_mdt r.rate mdt) framed.1) (ap (λ o. disturbs_mdt carry (length j) o k) (sym mdt_is) ∙ calm.mdt k below)))
      ∙ ap (λ h. Mdt (mdt_heard carry (length j) (k + 1) (mdt_in t.sent)) ∷ h) (given k below);
  calls = ap (λ h. End ∷ h) turn;
  drives_agree = λ k below.
      or-none (drive_differs (drive_at r k) r.rate cs) _ (before.drives_agree k below)
      ∙ agrees (at_place (drive_at r k) r.rate u cs) (at_same k below);
  master_agrees =
      or-none (master_differs (known_of r) jobs cs) _ before.master_agrees
      ∙ or-none (if_differs (mst_place (known_of r) jobs u cs)) _ (agrees (mst_place (known_of r) jobs u cs) mst_same)
      ∙ agrees (mdt_place (known_of r) jobs u cs) mdt_same;
}
  where
    u : Cycle
    u = cycle_of r.rate t.cycle m0 ats mdt

    whole : IsWhole (mst_in t.sent)
    whole = subst IsWhole (sym m_in) framed.0

    given : (k : ℕ) → k < length r.drives → mst_calls u cs ≡ given_mst carry restarts t.sent j k
    given k below =
        ap (λ x. Mst x (Some m0) ∷ drive_calls cs) number
        ∙ ap (λ x. Mst (length j) x ∷ drive_calls cs) (ap (λ x. Some x) (sym m_in) ∙ sym (comes carry (passage (length j) kinds.Mst 0 (k + 1)) (mst_in t.sent) whole (calm.mst k below)))
        ∙ ap (λ h. Mst (length j) (heard carry (passage (length j) kinds.Mst 0 (k + 1)) (mst_in t.sent)) ∷ h)
        (before.drives k below ∙ ap (λ b. with_restart b (journal.drive_calls carry restarts (k + 1) j)) (sym (calm.goes_on (k + 1) (omega (arith, below)))))

    began : master_calls cs ≡ begins r carry restarts j
    began = before.calls ∙ ap (λ b. cond b (master.Restart ∷ journal.master_calls r carry restarts j) (journal.master_calls r carry restarts j)) (sym (calm.goes_on 0 (omega arith)))

    turn : mdt_calls u (master_calls cs) ≡ middle r carry restarts t.sent j
    turn =
        ap (λ h. master.Mdt ∷ at_calls (ats_said r.rate ats) (HearMst (Some m0) ∷ h)) began
        ∙ ap (λ x. master.Mdt ∷ at_calls (ats_said r.rate ats) (HearMst x ∷ begins r carry restarts j)) (ap (λ x. Some x) (sym m_in) ∙ sym (comes carry (passage (length j) kinds.Mst 0 0) (mst_in t.sent) whole calm.own))
        ∙ ap (λ h. master.Mdt ∷ h) (sym (ats_come r carry (length j) r.rate ats (sent_mdt r.rate mdt) (own_mst carry (length j) (mst_in t.sent) (begins r carry restarts j)) framed.1 (ap (disturbs_ats r carry (length j)) (sym ats_are) ∙ calm.ats)))
        ∙ ap (λ l. master.Mdt ∷ journal.at_calls r carry (length j) l (own_mst carry (length j) (mst_in t.sent) (begins r carry restarts j))) (sym ats_are)

    at_same : (k : ℕ) → k < length r.drives → at_found (drive_at r k) u ≡ sent_as r.rate (drive_says (drive_at r k) r.rate (mst_calls u cs))
    at_same k below =
        ap (λ l. find (is_of (drive_at r k).address) (ats_said r.rate l)) ats_said_are
        ∙ said_first (length r.drives) (drive_at r) r.rate (given_mst carry restarts t.sent j) k below (drives_apart r k valid below)
        ∙ ap (λ h. sent_as r.rate (drive_says (drive_at r k) r.rate h)) (sym (given k below))

    mst_same : Some (sent_mst m0) ≡ Some (sent_mst (mst_said (looks_back (known_of r) jobs (master_calls cs))))
    mst_same = ap (λ x. Some (sent_mst x)) (m_said ∙ ap (λ h. mst_said (looks_back (known_of r) jobs h)) (sym began))

    mdt_same : option_map (mdt_at r.rate) mdt ≡ option_map (mdt_at r.rate) (mdt_said (known_of r) (looks_back (known_of r) jobs (mdt_calls u (master_calls cs))))
    mdt_same = ap (option_map (mdt_at r.rate)) (mdt_said_is ∙ ap (λ h. mdt_said (known_of r) (looks_back (known_of r) jobs h)) (sym turn))

-- THE TELEGRAMS of a typed ring are contents of their frames.
framed_mdt : (rate : ℕ) (m : Option Sent) → ((x : Sent) → m ≡ Some x → IsWhole x.content) → AreFramed (sent_mdt rate m)
framed_mdt rate None whole = tt
framed_mdt rate (Some x) whole = (whole x refl, tt)

framed_ats : (n : ℕ) (d : ℕ → DriveView) (rate : ℕ) (h : ℕ → List DriveCall) (ats : List Said) (more : List SentView) → AreSaid n d rate h ats
    → ((content : List ℕ) → IsSaid n d rate h content → IsWhole content) → AreFramed more → AreFramed (ats_said rate ats ++ more)
framed_ats n d rate h [] more said whole rest = rest
framed_ats n d rate h (a ∷ ats) more said whole rest = (whole a.content said.0, framed_ats n d rate h ats more said.1 whole rest)

framed : SpelledNext → (r : RingView) (jobs : List Job) (carry : Carry) (restarts : Restarts) (t : CycleView) (j : List CycleView) → is_ring r ≡ true → AreTyped r → AreTypedJobs jobs
    → IsNext r jobs carry restarts t j → AreFramed (mst_next r jobs carry restarts j ∷ ats_next r carry restarts t.sent j ++ mdt_next r jobs carry restarts t.sent j)
framed law r jobs carry restarts t j valid typed jobs_typed next = (
  subst IsWhole (ap mst_in next.sent) spelled.mst,
  framed_ats (length r.drives) (drive_at r) r.rate (given_mst carry restarts t.sent j) _ _ (all_said (length r.drives) (drive_at r) r.rate (given_mst carry restarts t.sent j)) spelled.ats
      (framed_mdt r.rate _ spelled.mdt),
)
  where
    spelled : IsSpelled r jobs carry restarts t j
    spelled = law r jobs carry restarts t j valid typed jobs_typed next

pub all_agree : SpelledNext → (r : RingView) (jobs : List Job) (carry : Carry) (restarts : Restarts) (j : List CycleView) → is_ring r ≡ true → AreTyped r → AreTypedJobs jobs
    → IsRun r jobs carry restarts j → NeverDisturbed r carry restarts j → Agree r jobs carry restarts j (cycles_of (lines_of j))
all_agree law r jobs carry restarts [] valid typed jobs_typed run calm = record {
  drives = λ k below. refl;
  calls = refl;
  drives_agree = λ k below. refl;
  master_agrees = refl;
}
all_agree law r jobs carry restarts (t ∷ j) valid typed jobs_typed run calm =
    subst (Agree r jobs carry restarts (t ∷ j)) (sym (cycles_next r jobs carry restarts t j run.1))
    (step r jobs carry restarts t j (cycles_of (lines_of j)) m0 ats mdt valid run.1.cycle
    (ap mst_in run.1.sent) (ap ats_in run.1.sent ∙ ats_in-said r.rate ats mdt) (ap mdt_in run.1.sent ∙ mdt_in-said r.rate ats mdt)
    refl refl refl (calm_in r carry restarts (length j) t.sent calm.1) (framed law r jobs carry restarts t j valid typed jobs_typed run.1)
    (all_agree law r jobs carry restarts j valid typed jobs_typed run.0 calm.0))
  where
    m0 : List ℕ
    m0 = mst_said (journal.looks_back r jobs (begins r carry restarts j))

    ats : List Said
    ats = said_below (length r.drives) (drive_at r) r.rate (given_mst carry restarts t.sent j)

    mdt : Option Sent
    mdt = mdt_said (known_of r) (journal.looks_back r jobs (middle r carry restarts t.sent j))
