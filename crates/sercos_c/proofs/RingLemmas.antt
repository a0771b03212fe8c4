-- A ring that makes its cycles one by one.
use Rattle.std.proofs.Common.{◌≡◌, ◌+◌, ℕ, true, List, [], ◌∷◌, ◌++◌, length, reverse, Option, Some, None, IfSome, refl, sym, ap, ◌∙◌, subst, arith}
use Rattle.std.proofs.lemmas.Bool.Decides.{nat_tests}
use Rattle.std.proofs.lemmas.List.{reverse-append}
use Rattle.sercos_step.specs.declared.request.Job.{Job}
use Rattle.sercos_timing.specs.Views.{WishesView, PlanView}
use Rattle.sercos_block.specs.Views.{RingView}
use Rattle.sercos_block.specs.Rings.{wishes_of}
use Rattle.sercos_trace.specs.Views.{CycleView}
use Rattle.sercos_trace.specs.declared.record.Totals.{Totals}
use Rattle.sercos_config.specs.Views.{DocumentView}
use Rattle.sercos_script.specs.Links.{Carry, Restarts}
use Rattle.sercos_law_run.specs.Journal.Runs.{IsRun, run_of}
use Rattle.sercos_law_run.specs.Totals.Totals.{totals_of}
use Rattle.sercos_law_run.specs.Totals.Counting.{AreFew, IsFew, with_cycle}
use Rattle.sercos_opened.specs.Kept.{script_carry, script_restarts, IsKept, OpenedIsKept}
use Rattle.sercos_ring.specs.Kept.{RingStandsFor, newest}
use Rattle.sercos_c.specs.declared.ring_station.RingStation.{RingStation}
use Rattle.sercos_c.specs.Texts.{has_each, has_slots}
use Rattle.sercos_c.specs.Rings.{carry_of, restart_of, RingGoes}

-- a cycle more is made and counted
pub goes_on : (old new : RingStation) (d : DocumentView) (j : List CycleView) (v : CycleView) → RingGoes old d j
    → RingStandsFor carry_of restart_of new.ring d.setup d.jobs (script_carry d) (script_restarts d) (v ∷ j)
    → new.wishes ≡ old.wishes → new.cycles ≡ old.cycles → new.made ≡ old.made + 1 → new.totals ≡ with_cycle old.totals v → IsFew v
    → ((cycles : List CycleView) (made : CycleView) → totals_of (cycles ++ made ∷ []) ≡ with_cycle (totals_of cycles) made)
    → ((t : Totals) (made : CycleView) (n : ℕ) → AreFew t n → IsFew made → AreFew (with_cycle t made) (n + 1))
    → RingGoes new d (v ∷ j)
goes_on old new d j v is stands wishes cycles made counted few more few_more = record {
  opened = is.opened;
  stands = stands;
  wishes_is = wishes ∙ is.wishes_is;
  counted = counted ∙ ap (λ t. with_cycle t v) is.counted ∙ sym (more (reverse j) v) ∙ sym (ap totals_of (reverse-append (v ∷ []) j));
  few = subst (λ (n : ℕ). AreFew new.totals n) (omega arith) (subst (λ (t : Totals). AreFew t (length j + 1)) (sym counted) (few_more old.totals v (length j) is.few few));
  cycles_is = cycles ∙ is.cycles_is;
  made_is = omega (arith, made, is.made_is);
}

pub slots_for : (n : ℕ) (plan : Option PlanView) → IfSome plan (λ p. length p.t1 ≡ n) → IfSome plan (λ p. length p.position ≡ n) → has_each n plan ≡ true
slots_for n None starts positions = refl
slots_for n (Some p) starts positions = grind (arith, nat_tests)

-- the newest cycle's plan has a slot for each drive
pub newest_slots : (r : RingStation) (d : DocumentView) (v : CycleView) (j : List CycleView) → RingGoes r d (v ∷ j)
    → IfSome v.events.plan (λ p. length p.t1 ≡ length (wishes_of d.setup).drives) → IfSome v.events.plan (λ p. length p.position ≡ length (wishes_of d.setup).drives)
    → has_slots r.wishes (newest r.ring) ≡ true
newest_slots r d v j is starts positions =
    ap (λ (w : WishesView). has_slots w (newest r.ring)) is.wishes_is ∙ ap (has_slots (wishes_of d.setup)) is.stands.record_is
    ∙ slots_for (length (wishes_of d.setup).drives) v.events.plan starts positions

-- its cycles are a run, which has all promised properties
pub kept_so : OpenedIsKept
    → ((r : RingView) (jobs : List Job) (carry : Carry) (restarts : Restarts) (j : List CycleView) → IsRun r jobs carry restarts j → j ≡ run_of r jobs carry restarts (length j))
    → (r : RingStation) (d : DocumentView) (j : List CycleView) → RingGoes r d j → IsKept d.setup d.jobs (script_carry d) (script_restarts d) j
kept_so keeps one r d j is =
    let run : j ≡ run_of d.setup d.jobs (script_carry d) (script_restarts d) (length j) = one d.setup d.jobs (script_carry d) (script_restarts d) j is.stands.run in
    subst (λ (l : List CycleView). IsKept d.setup d.jobs (script_carry d) (script_restarts d) l) (sym run)
    (keeps d.setup d.jobs (script_carry d) (script_restarts d) (length j) is.opened)
