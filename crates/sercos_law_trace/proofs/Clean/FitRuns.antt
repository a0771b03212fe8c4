-- The numbers of the telegrams of a run fit the fields of their lines, whatever arrives.
use Rattle.sercos_law_trace.proofs.Words.{◌≡◌, ℕ, pos, zero, suc, ◌+◌, ◌*◌, ◌<◌, ◌≤◌, ◌==◌, List, [], ◌∷◌, ◌++◌, length, Option, Some, None, option_map, refl, sym, subst, arith, cond_both, nat_le, slice_index, All, All-nil, All-cons, frame_of, Kind, mst_content, PlanView, Job, Block, find_block, IsStore, RingView, types, phase_in, blocks_in, Said, CycleView, Known, IsKnown, known_of, tasks_for, Past, IsPlanned, outcomes, Sent, said_to, idle, single, joint, mdt_said, Carry, Restarts, IsOpened, drive_at, given_mst, begins, middle, said_below, start_before, sent_at, sent_mst, sent_mdt, ats_said, IsRun, at_start, behind_mdt, after_mst, sent_by, IsContent, address_of, at_content, mdt_whole, mst_whole, phase_low, plan_words, s_known, first_store, FitsLine, RunsFitLines, length-IsFrame, is_framed, keeps_within, is_planned, AreBytes, IsSmall, inl, inr, cases_Option, cases_Bool, none-some}
use Rattle.sercos_command.specs.Checks.{number_at}
use Rattle.sercos_service_master.specs.Begun.{Said as Told}
use Rattle.sercos_law_trace.proofs.Clean.RuleLemmas.{mdt_at}
use Rattle.sercos_law_trace.proofs.Clean.SaidLemmas.{each_said}
use Rattle.sercos_law_trace.proofs.Clean.SeenLemmas.{Each}
use Rattle.sercos_law_trace.proofs.Clean.ChainFits.{IsRate, by_rate}

before_small : (n : ℕ) → n ≤ 2147483647 → IsSmall (start_before n)
unfolding IsSmall
before_small zero low = omega arith
before_small (suc n) low = omega (arith, low)

-- A START is a word, in microseconds.
start_low : (rate start : ℕ) → IsRate rate → start < 65536 → rate * start ≤ 1048560
start_low rate start is low =
    by_rate (λ r. r * start ≤ 1048560) rate is (omega (arith, low)) (omega (arith, low)) (omega (arith, low)) (omega (arith, low))

word_low : (bytes : List ℕ) → AreBytes bytes → slice_index bytes 0 + 256 * slice_index bytes 1 < 65536
unfolding AreBytes
word_low [] are = omega arith
word_low (low ∷ []) are = let first = are.0 in omega (arith, first)
word_low (low ∷ high ∷ bytes) are = let first = are.0 in let second = are.1.0 in omega (arith, first, second)

number_low : (blocks : List Block) (raw : ℕ) → IsStore blocks → number_at blocks raw < 65536
unfolding number_at
number_low blocks raw store = elim (cases_Option (find_block raw blocks)) [
  | inl is ↦ rw is (omega arith)
  | inr (b, is) ↦ rw is (word_low b.value (types blocks raw b store is).1)
]

mdt_low : (s : Known) (p : Past) (m : Sent) → IsKnown s → IsPlanned s p → mdt_said s p ≡ Some m → m.start < 65536
mdt_low s p m known planned said = elim (cases_Bool (p.now.phase == 1)) [
  | inl one ↦ to_one (λ i. idle) p.now.addressed (rw one at said)
  | inr not_one ↦ elim (cases_Bool (p.now.phase == 2)) [
    | inl two ↦ to_one (said_to p) p.now.addressed (rw (not_one, two) at said)
    | inr not_two ↦ elim (cases_Bool (nat_le 3 p.now.phase)) [
      | inl late ↦ to_all p.plan refl (rw (not_one, not_two, late) at said)
      | inr early ↦ absurd (none-some m (rw (not_one, not_two, early) at said))
    ]
  ]
]
  where
    same_start : (x : Sent) → Some x ≡ Some m → x.start < 65536 → m.start < 65536
    same_start x e low = let same : x ≡ m = cc in subst (λ (y : Sent). y.start < 65536) same low

    to_one : (word : ℕ → Told) (o : Option ℕ) → option_map (λ i. single s (word i) i) o ≡ Some m → m.start < 65536
    to_one word None e = cc
    to_one word (Some i) e = same_start (single s (word i) i) e (omega arith)

    to_all : (o : Option PlanView) → p.plan ≡ o → option_map (joint s p) o ≡ Some m → m.start < 65536
    to_all None has e = cc
    to_all (Some plan) has e =
        let is = planned plan has in
        same_start (joint s p plan) e (plan_words s (outcomes p) plan 0 known is.fits is.planned_is).t2

bits_low : (content : List ℕ) → IsContent content → length (frame_of content) ≤ 19699
bits_low content is = omega (arith, length-IsFrame content (frame_of content) (is_framed content is.bytes is.some is.most), is.most)

mst_fits : (cycle : ℕ) (content : List ℕ) → cycle ≤ 4294967295 → IsContent content → FitsLine cycle (sent_mst content)
mst_fits cycle content low is =
    let bits = bits_low content is in
    record { number = low; start = before_small (length (frame_of content)) (omega (arith, bits)); bits = omega (arith, bits); bytes = is.bytes; few = is.most }

other_fits : (cycle start : ℕ) (kind : Kind) (content : List ℕ) → cycle ≤ 4294967295 → start ≤ 1048560 → IsContent content
    → FitsLine cycle (record { kind = kind; start = pos start; bits = length (frame_of content); content = content })
unfolding IsSmall
other_fits cycle start kind content low early is =
    record { number = low; start = omega (arith, early); bits = omega (arith, bits_low content is); bytes = is.bytes; few = is.most }

mdt_fits : (cycle rate : ℕ) (o : Option Sent) → cycle ≤ 4294967295 → ((m : Sent) → o ≡ Some m → (rate * m.start ≤ 1048560) × IsContent m.content) → All (FitsLine cycle) (sent_mdt rate o)
mdt_fits cycle rate None low is = All-nil (FitsLine cycle)
mdt_fits cycle rate (Some m) low is = let (early, content) = is m refl in All-cons (FitsLine cycle) (mdt_at rate m) [] (other_fits cycle (rate * m.start) _ m.content low early content) (All-nil (FitsLine cycle))

ats_fit : (cycle rate : ℕ) (l : List Said) (o : Option Sent) → cycle ≤ 4294967295 → Each (λ (s : Said). (rate * s.start ≤ 1048560) × IsContent s.content) l → All (FitsLine cycle) (sent_mdt rate o)
    → All (FitsLine cycle) (ats_said rate l ++ sent_mdt rate o)
ats_fit cycle rate [] o low are rest = rest
ats_fit cycle rate (s ∷ l) o low are rest =
    All-cons (FitsLine cycle) (sent_at rate s.start s.content) (ats_said rate l ++ sent_mdt rate o) (other_fits cycle (rate * s.start) _ s.content low are.0.0 are.0.1) (ats_fit cycle rate l o low are.1 rest)

module _ (r : RingView) (jobs : List Job) (carry : Carry) (restarts : Restarts) (opened : IsOpened r jobs) where
  known : IsKnown (known_of r)
  known = s_known r jobs carry restarts opened (first_store r jobs carry restarts opened)

  cycle_fits : (t : CycleView) (j : List CycleView) → IsRun r jobs carry restarts (t ∷ j) → t.cycle ≤ 4294967295 → All (FitsLine t.cycle) t.sent
  cycle_fits t j run low =
      let ats = said_below (length r.drives) (drive_at r) r.rate (given_mst carry restarts t.sent j) in
      subst (All (FitsLine t.cycle)) (sym run.1.sent)
      (All-cons (FitsLine t.cycle) (sent_mst (mst_content (at_start r jobs carry restarts j).now.phase)) (ats_said r.rate ats ++ sent_mdt r.rate mdt)
      (mst_fits t.cycle (mst_content (at_start r jobs carry restarts j).now.phase) low (mst_whole (at_start r jobs carry restarts j).now.phase (phase_low (known_of r) (tasks_for (known_of r) jobs) (begins r carry restarts j))))
      (ats_fit t.cycle r.rate ats mdt low (each_said (λ (s : Said). (r.rate * s.start ≤ 1048560) × IsContent s.content) (length r.drives)
      (drive_at r) r.rate (given_mst carry restarts t.sent j)
      (λ k below s says. let keeps = keeps_within r carry restarts t.sent j k opened.valid opened.typed below in
      let start = (sent_by (drive_at r k) r.rate (after_mst r carry restarts t.sent j k) s says).start in
      let low = cond_both (nat_le 3 (phase_in (after_mst r carry restarts t.sent j k)))
      (number_at (blocks_in (drive_at r k) (after_mst r carry restarts t.sent j k)) 6) 300 (λ v. v < 65536)
      (λ on. number_low (blocks_in (drive_at r k) (after_mst r carry restarts t.sent j k)) 6 keeps.store) (λ off. omega arith) in (
        start_low r.rate s.start known.cycles.rate (subst (λ (n : ℕ). n < 65536) (sym start) low),
        at_content (drive_at r k) r.rate
            (given_mst carry restarts t.sent j k) s (omega (arith, (address_of r k opened.valid below).1)) keeps says,
      )))
      (mdt_fits t.cycle r.rate mdt low mdt_is)))
    where
      mdt : Option Sent
      mdt = mdt_said (known_of r) (behind_mdt r jobs carry restarts t.sent j)

      planned : IsPlanned (known_of r) (behind_mdt r jobs carry restarts t.sent j)
      planned = is_planned (known_of r) (tasks_for (known_of r) jobs) (middle r carry restarts t.sent j)

      mdt_is : (m : Sent) → mdt ≡ Some m → (r.rate * m.start ≤ 1048560) × IsContent m.content
      mdt_is m is = (
        start_low r.rate m.start known.cycles.rate (mdt_low (known_of r) (behind_mdt r jobs carry restarts t.sent j) m known planned is),
        mdt_whole (known_of r) (behind_mdt r jobs carry restarts t.sent j) m known planned is,
      )

pub runs_fit_lines : RunsFitLines
runs_fit_lines r jobs carry restarts [] opened run few = All-nil (λ (t : CycleView). All (FitsLine t.cycle) t.sent)
runs_fit_lines r jobs carry restarts (t ∷ j) opened run few = let number : t.cycle ≤ 4294967295 = omega (arith, run.1.cycle, few) in
    All-cons (λ (u : CycleView). All (FitsLine u.cycle) u.sent) t j (cycle_fits r jobs carry restarts opened t j run number)
    (runs_fit_lines r jobs carry restarts j opened run.0 (omega (arith, few)))
