-- What a master reports.
use Rattle.std.proofs.Common.{◌≡◌, ◌≤◌, ℕ, true, List, [], ◌∷◌, length, Option, Some, None, refl, ap, ◌∙◌, subst, arith}
use Rattle.sercos_step.specs.declared.request.Outcome.{Outcome}
use Rattle.sercos_timing.specs.Views.{WishesView}
use Rattle.sercos_block.specs.Rings.{wishes_of}
use Rattle.sercos_trace.specs.Views.{CycleView}
use Rattle.sercos_config.specs.Views.{DocumentView}
use Rattle.sercos_seat.specs.Ring.{Known, Task, known_of, tasks_for}
use Rattle.sercos_master.specs.Annals.{Call, HearMst, HearAt, Mdt, End, Restart, Past, past, IsPlanned}
use Rattle.sercos_master.specs.declared.master.AnyMaster.{AnyMaster}
use Rattle.sercos_master.specs.Reports.{plan_told}
use Rattle.sercos_law_run.proofs.Totals.Bounds.{HasEach, due_each, or_each, positions_of, starts_of, wished}
use Rattle.sercos_c.specs.Texts.{has_each, has_slots}
use Rattle.sercos_c.specs.Records.{silent_record}
use Rattle.sercos_c.proofs.RingLemmas.{slots_for}
use Rattle.sercos_c.specs.Masters.{past_of, reported, reported_in, StandsFor}

pub none_few : (outcomes : List (ℕ × Outcome)) → outcomes ≡ [] → length outcomes ≤ 64
none_few outcomes none = omega (arith, ap length none)

-- a plan that is reported has a slot for each drive
abbrev PlanLaw : Type 0
PlanLaw = (s : Known) (requests : ℕ → List Task) (h : List Call) → IsPlanned s (past s requests h)

reported_each : PlanLaw → (d : DocumentView) (h : List Call) → HasEach d.setup (reported d h).plan
reported_each law d [] = tt
reported_each law d (End ∷ h) =
    let p : Past = past_of d h in
    or_each d.setup (plan_told p) None (due_each d.setup p p.now.plans (law (known_of d.setup) (tasks_for (known_of d.setup) d.jobs) h)) refl
reported_each law d (Restart ∷ h) = tt
reported_each law d (HearMst content ∷ h) = reported_each law d h
reported_each law d (HearAt content ∷ h) = reported_each law d h
reported_each law d (Mdt ∷ h) = reported_each law d h

pub slots_reported : PlanLaw → (d : DocumentView) (h : List Call) (w : WishesView) (made : CycleView) → w ≡ wishes_of d.setup
    → made ≡ silent_record (reported_in h) (reported d h) → has_slots w made ≡ true
slots_reported law d h w made is made_is =
    let plan : made.events.plan ≡ (reported d h).plan = ap (λ v. v.events.plan) made_is in
    let n = length w.drives in
    let count = wished w d.setup is in
    let each = reported_each law d h in
    ap (has_each n) plan ∙ slots_for n (reported d h).plan (starts_of n d.setup (reported d h).plan count each) (positions_of n d.setup (reported d h).plan count each)

pub stands_so : (o : Option AnyMaster) (m : AnyMaster) (d : DocumentView) (h : List Call) → o ≡ Some m → StandsFor o d h → StandsFor (Some m) d h
stands_so o m d h is stands = subst (λ (p : Option AnyMaster). StandsFor p d h) is stands
