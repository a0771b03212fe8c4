-- A ring before its first cycle.
use Rattle.std.proofs.Common.{◌≡◌, ℕ, zero, suc, ◌+◌, ◌<◌, ◌≤◌, true, List, [], ◌∷◌, ◌++◌, length, reverse, refl, sym, ◌∙◌, ap, subst, arith, append_assoc, append-nil}
use Rattle.std.proofs.lemmas.Fmt.{decimal_digit}
use Rattle.std.proofs.lemmas.List.{reverse-append}
use Rattle.sercos_step.specs.declared.request.Job.{Job}
use Rattle.sercos_timing.specs.Views.{WishesView}
use Rattle.sercos_block.specs.Views.{RingView}
use Rattle.sercos_block.specs.Rings.{is_ring, wishes_of}
use Rattle.sercos_script.specs.Links.{Carry, Restarts}
use Rattle.sercos_trace.specs.Views.{CycleView}
use Rattle.sercos_trace.specs.declared.record.Totals.{Totals}
use Rattle.sercos_law_run.specs.Journal.Runs.{next_record, run_of}
use Rattle.sercos_ring.specs.declared.ring.Ring.{Ring}
use Rattle.sercos_ring.specs.Kept.{RingStandsFor}
use Rattle.sercos_law_run.specs.Totals.Totals.{totals_of}
use Rattle.sercos_law_run.specs.Totals.Counting.{AreFew, none_made}
use Rattle.sercos_law_run.specs.Held.Opened.{IsOpened}
use Rattle.sercos_law_trace.specs.Clean.Traces.{RunsAreClean}
use Rattle.sercos_law_trace.proofs.Theorems.{whole_is_clean}
use Rattle.sercos_config.specs.Views.{DocumentView}
use Rattle.sercos_opened.specs.Kept.{OpenedIsKept, script_carry, script_restarts}
use Rattle.sercos_multi.specs.Merged.{mark_of}
use Rattle.sercos_multi.specs.Going.{future}
use Rattle.sercos_multi.specs.Parts.{IsAt}
use Rattle.sercos_multi.specs.Asking.{voice_under}
use Rattle.sercos_opened.proofs.KeptLemmas.{script_clear}
use Rattle.sercos_multi.specs.RingRuns.{IsRingRun}
use Rattle.sercos_multi.proofs.PartLemmas.{future_length}

-- a run is the cycles so far and those to come
split_run : (r : RingView) (jobs : List Job) (carry : Carry) (restarts : Restarts) (k n t : ℕ) → t ≡ k + n → reverse (run_of r jobs carry restarts t) ≡ reverse (run_of r jobs carry restarts k) ++ future r jobs carry restarts (run_of r jobs carry restarts k) n
unfolding future
split_run r jobs carry restarts k zero t is =
    let same : t ≡ k = omega (arith, is) in
    ap (λ i. reverse (run_of r jobs carry restarts i)) same ∙ sym (append-nil (reverse (run_of r jobs carry restarts k)))
split_run r jobs carry restarts k (suc n) t is =
    let m : CycleView = next_record r jobs carry restarts (run_of r jobs carry restarts k) in
    split_run r jobs carry restarts (suc k) n t (omega (arith, is))
    ∙ ap (λ front. front ++ future r jobs carry restarts (run_of r jobs carry restarts (suc k)) n) (reverse-append (m ∷ []) (run_of r jobs carry restarts k))
    ∙ append_assoc (reverse (run_of r jobs carry restarts k)) (m ∷ []) (future r jobs carry restarts (m ∷ run_of r jobs carry restarts k) n)

pub whole_run : (r : RingView) (jobs : List Job) (carry : Carry) (restarts : Restarts) (n : ℕ) → reverse (run_of r jobs carry restarts n) ≡ future r jobs carry restarts [] n
whole_run r jobs carry restarts n = split_run r jobs carry restarts 0 n n (omega arith)

pub opened_at : {L : Type 0} (carry_of : L → Carry) (restart_of : L → Restarts) (n : ℕ) (r : RingView) (jobs : List Job) (carry : Carry) (restarts : Restarts) (ring : Ring L) (w : WishesView) (totals : Totals) (left : ℕ) (mark : List ℕ)
    → is_ring r ≡ true → RingStandsFor carry_of restart_of ring r jobs carry restarts [] → w ≡ wishes_of r → totals ≡ none_made → none_made ≡ totals_of [] → AreFew none_made 0 → left ≡ r.cycles → left ≤ 50000 → mark ≡ mark_of n
    → IsAt carry_of restart_of (record { ring = ring; wishes = w; totals = totals; left = left; at = 0; mark = mark }) (voice_under n r jobs carry restarts)
opened_at carry_of restart_of n r jobs carry restarts ring w totals left mark valid stands w_is totals_is none few left_is most mark_is = record {
  setup = r;
  jobs = jobs;
  carry = carry;
  restarts = restarts;
  made = [];
  valid = valid;
  stands_for = stands;
  wishes_is = w_is;
  voice_wishes = sym w_is;
  mark_is = mark_is;
  at_is = refl;
  soon = omega arith;
  counted = totals_is ∙ none;
  few = subst (λ t. AreFew t 0) (sym totals_is) few;
  left_is = ap length (whole_run r jobs carry restarts r.cycles) ∙ future_length r jobs carry restarts [] r.cycles ∙ sym left_is;
  later_is = whole_run r jobs carry restarts r.cycles ∙ ap (future r jobs carry restarts []) (sym left_is);
  totals_is = refl;
  most = omega (arith, most);
}

pub mark_is : (n : ℕ) → n < 10 → (48 + n) ∷ 32 ∷ [] ≡ mark_of n
mark_is n below = sym (ap (λ d. d ++ 32 ∷ []) (decimal_digit n below))

-- what is kept in the run of a document's ring
pub ring_run : OpenedIsKept → RunsAreClean → (d : DocumentView) → IsOpened d.setup d.jobs → length d.jobs ≤ 4096 → 1 ≤ d.setup.cycles → IsRingRun d
ring_run keeps clean d opened few some =
    let kept = keeps d.setup d.jobs (script_carry d) (script_restarts d) d.setup.cycles opened in
    record { some = some; kept = kept; clear = script_clear d kept; clean = whole_is_clean clean d.setup d.jobs (script_carry d) (script_restarts d) opened few kept.run }
