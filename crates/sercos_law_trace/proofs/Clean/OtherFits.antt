-- The numbers of moves, plans, falls and totals fit the fields of their lines.
use Rattle.sercos_model.proofs.OptionLemmas.{option_or-none}
use Rattle.sercos_law_trace.proofs.Words.{cases_Option, ◌≡◌, ℕ, zero, suc, ◌+◌, ◌*◌, ◌<◌, ◌≤◌, ◌==◌, Bool, true, false, List, [], ◌∷◌, length, reverse, Option, Some, None, is_some, slice_index_or, refl, sym, ◌∙◌, ap, subst, arith, if◌then◌else◌, slice_index, All, option_or, reverse_onto, All-nil, All-cons, All-head, All-tail, All-append, length-filter, count_by-le-length, wish, IsValid, WishesView, Job, Outcome, wishes_of, DriveView, RingView, DriveCall, phase_at, Move, Totals, Fall, EventsView, CycleView, Known, IsKnown, MemberView, no_member, known_of, tasks_for, Past, IsPlanned, fall_of, fall_at, has_lost_mst, has_lost_at, first_place, is_at_limit, outcomes, with_reports, broken, plan_told, outcomes_told, restart_told, Carry, Restarts, drive_at, move_of, moves_below, given_before, given_mst, given_mdt, master_calls, middle, looks_back, no_events, restart_events, IsNext, IsRun, IsClear, behind_mdt, address_of, plan_words, s_known, first_store, IsOpened, ended, is_complete, is_refused, is_broken, FitsMove, FitsPlan, FitsFall, FitsCycle, FitTotals, FitsReports, FitReports, RunsFitOthers, phase_below, is_planned, fell_once, field_of, AreOf, IsOf, part_left, template_of, totals_of, inl, inr, cases_Bool}
use Rattle.sercos_text.specs.Templates.Value.{number as counted}
use Rattle.sercos_text.specs.Templates.{IsPart}
use Rattle.sercos_trace.specs.declared.kind.LineKind.TheVariants as kind
use Rattle.sercos_trace.specs.declared.events.Fall.TheVariants as fall
use Rattle.sercos_law_trace.proofs.Clean.RunRules.{low}
use Rattle.sercos_law_trace.proofs.Clean.TraceClean.{valid}
use Rattle.sercos_master.proofs.Told.{reports_length}
use Rattle.sercos_law_run.proofs.Totals.TotalsLemmas.{totals_more}

-- MOVES
move_fits : (cycle : ℕ) (m : Move) → cycle ≤ 4294967295 → m.drive ≤ 255 → m.phase ≤ 255 → FitsMove cycle m
unfolding template_of AreOf IsPart IsOf field_of part_left
move_fits cycle m number drive phase = (tt, (tt, (number, (tt, (drive, (tt, (phase, tt)))))))

one_move : (cycle : ℕ) (late : Bool) (address before after : ℕ) → cycle ≤ 4294967295 → address ≤ 254 → after ≤ 4 → All (FitsMove cycle) (move_of late address before after)
one_move cycle late address before after number drive phase = by (before == after)
  where
    by : (b : Bool) → All (FitsMove cycle) (if b then [] else (record { drive = address; phase = after; late = late }) ∷ [])
    by true = All-nil (FitsMove cycle)
    by false = All-cons (FitsMove cycle) (record { drive = address; phase = after; late = late }) [] (move_fits cycle (record { drive = address; phase = after; late = late }) number (omega (arith, drive)) (omega (arith, phase))) (All-nil (FitsMove cycle))

moves_fit : (cycle : ℕ) (late : Bool) (n : ℕ) (d : ℕ → DriveView) (rate : ℕ) (g h : ℕ → List DriveCall) → cycle ≤ 4294967295 → ((k : ℕ) → k < n → (d k).address ≤ 254) → All (FitsMove cycle) (moves_below late n d rate g h)
moves_fit cycle late zero d rate g h number low = All-nil (FitsMove cycle)
moves_fit cycle late (suc n) d rate g h number low =
    All-append (FitsMove cycle) (moves_below late n d rate g h) (move_of late (d n).address (phase_at (d n) rate (g n)) (phase_at (d n) rate (h n))) (moves_fit cycle late n d rate g h number (λ k less. low k (omega (arith, less))))
    (one_move cycle late (d n).address (phase_at (d n) rate (g n)) (phase_at (d n) rate (h n)) number (low n (omega arith)) (phase_below (d n) rate (h n)))

-- A PLAN
plan_line_fits : (cycle a b c d : ℕ) → cycle ≤ 4294967295 → a < 65536 → b < 65536 → c < 65536 → d < 65536 → AreOf (template_of kind.Plan) (counted cycle ∷ counted a ∷ counted b ∷ counted c ∷ counted d ∷ [])
unfolding template_of AreOf IsPart IsOf field_of part_left
plan_line_fits cycle a b c d number pa pb pc pd = (tt, (tt, (tt, (tt, (tt, (number, (tt, (tt, (tt, (tt, (omega (arith, pa), (tt, (tt, (tt, (tt, (omega (arith, pb), (tt, (tt, (tt, (tt, (omega (arith, pc), (tt, (tt, (tt, (tt, (tt, (omega (arith, pd), tt)))))))))))))))))))))))))))

slot_line_fits : (cycle a b c : ℕ) → cycle ≤ 4294967295 → a ≤ 254 → b < 65536 → c < 65536 → AreOf (template_of kind.Slot) (counted cycle ∷ counted a ∷ counted b ∷ counted c ∷ [])
unfolding template_of AreOf IsPart IsOf field_of part_left
slot_line_fits cycle a b c number pa pb pc = (tt, (tt, (tt, (tt, (tt, (number, (tt, (omega (arith, pa), (tt, (tt, (tt, (tt, (omega (arith, pb), (tt, (tt, (tt, (tt, (tt, (tt, (tt, (tt, (tt, (tt, (omega (arith, pc), tt))))))))))))))))))))))))

told_fits : (w : WishesView) (s : Known) (p : Past) (cycle : ℕ) → IsValid w → IsKnown s → IsPlanned s p → cycle ≤ 4294967295 → FitsPlan cycle w (option_or (plan_told p) None)
told_fits w s p cycle is_valid known planned number = elim (cases_Bool p.now.plans) [
  | inl on ↦ rw on (subst (FitsPlan cycle w) (sym (option_or-none p.plan)) (elim (cases_Option p.plan) [
    | inl has ↦ rw has tt
    | inr has ↦ rw has.1 (let made = planned has.0 has.1 in
        let words = λ (k : ℕ). plan_words s (outcomes p) has.0 k known made.fits made.planned_is in (
          plan_line_fits cycle has.0.t2 has.0.t3 has.0.t4 has.0.mdt_len number (words 0).t2 (words 0).t3 (words 0).t4 (words 0).mdt_len,
          λ k below. slot_line_fits cycle (wish w k).address (slice_index has.0.t1 k) (slice_index has.0.position k) number
              (is_valid.drives.wishes k below).address.1 (words k).t1 (words k).position,
        ))
  ]))
  | inr off ↦ rw off tt
]

-- A FALL
restart_fits : (cycle : ℕ) → cycle ≤ 4294967295 → FitsFall cycle (Some fall.Restart)
unfolding template_of AreOf IsPart IsOf field_of part_left
restart_fits cycle number = (tt, (tt, (tt, (tt, (tt, (number, (tt, (tt, (tt, (tt, (tt, (tt, (tt, (tt, tt))))))))))))))

either_fits : (cycle : ℕ) (a b : Option Fall) → FitsFall cycle a → FitsFall cycle b → FitsFall cycle (option_or a b)
either_fits cycle None b is other = other
either_fits cycle (Some x) b is other = is

pub member_low : (drives : List MemberView) (k : ℕ) → All (λ (d : MemberView). (1 ≤ d.address) × (d.address ≤ 254)) drives → (slice_index_or drives k no_member).address ≤ 255
member_low [] k all = omega arith
member_low (d ∷ drives) zero all = let high = (All-head (λ (x : MemberView). (1 ≤ x.address) × (x.address ≤ 254)) d drives all).1 in omega (arith, high)
member_low (d ∷ drives) (suc k) all = member_low drives k (All-tail (λ (x : MemberView). (1 ≤ x.address) × (x.address ≤ 254)) d drives all)

fall_fits : (s : Known) (p : Past) (cycle : ℕ) → IsKnown s → cycle ≤ 4294967295 → FitsFall cycle (fall_of s p)
unfolding template_of AreOf IsPart IsOf field_of part_left
fall_fits s p cycle known number =
    either_fits cycle _ _ (mst (has_lost_mst (p.now ∷ p.turns)))
    (either_fits cycle _ _ (at (first_place s (λ k. has_lost_at k (p.now ∷ p.turns)))) (step (first_place s (is_at_limit p))))
  where
    mst : (b : Bool) → FitsFall cycle (if b then Some fall.MstLost else None)
    mst true = (tt, (tt, (tt, (tt, (tt, (number, (tt, (tt, (tt, (tt, tt))))))))))
    mst false = tt

    at : (o : Option ℕ) → FitsFall cycle (fall_at fall.AtLost s o)
    at None = tt
    at (Some k) = (tt, (tt, (tt, (tt, (tt, (number, (tt, (tt, (tt, (tt, (member_low s.drives k known.addresses, tt)))))))))))

    step : (o : Option ℕ) → FitsFall cycle (fall_at fall.StepLimit s o)
    step None = tt
    step (Some k) = (tt, (tt, (tt, (tt, (tt, (number, (tt, (tt, (tt, (tt, (tt, (tt, (member_low s.drives k known.addresses, tt)))))))))))))

-- HOW MANY OUTCOMES a cycle has
told_long : (s : Known) (p : Past) (reports : List (ℕ × Outcome)) → length (outcomes_told s p reports) ≤ 2 * length s.drives + length reports
told_long s p reports =
    let first = reports_length p.now.report (length s.drives) reports in
    elim (cases_Bool (is_some (fall_of s p))) [
      | inl on ↦ rw on (omega (arith, first, reports_length (broken p) (length s.drives) (with_reports p.now.report (length s.drives) reports)))
      | inr off ↦ rw off (omega (arith, first))
    ]

ended_few : (test : Outcome → Bool) (reports : List (ℕ × Outcome)) → ended test reports ≤ length reports
ended_few test reports =
    omega (arith, length-filter (λ (r : ℕ × Outcome). test r.1) reports, count_by-le-length (λ (r : ℕ × Outcome). test r.1) reports)

-- THE TOTALS of n cycles
record AreFew (t : Totals) (n : ℕ) : Type 0 where
  cycles : t.cycles ≤ n
  phase : t.phase ≤ 4
  complete : t.complete ≤ 192 * n
  refused : t.refused ≤ 192 * n
  broken_few : t.broken ≤ 192 * n
  falls : t.falls ≤ n
  unseen : t.unseen ≡ 0

totals_fit : (t : Totals) (n : ℕ) → n ≤ 50000 → AreFew t n → FitTotals t
unfolding template_of AreOf IsPart IsOf field_of part_left
totals_fit t n low few =
    let a = few.cycles in let b = few.phase in let c = few.complete in let d = few.refused in let e = few.broken_few in let f = few.falls in let g = few.unseen in
    (tt, (tt, (tt, (tt, (omega (arith, a, low), (tt, (tt, (tt, (tt, (tt, (tt, (tt, (omega (arith, b), (tt, (tt, (tt, (tt, (tt, (tt, (tt, (tt, (tt, (tt, (omega (arith, c, low), (tt, (tt, (tt, (tt, (tt, (tt, (tt, (tt, (tt, (omega (arith, d, low), (tt, (tt, (tt, (tt, (tt, (tt, (tt, (tt, (omega (arith, e, low), (tt, (tt, (tt, (tt, (tt, (tt, (tt, (omega (arith, f, low), (tt, (tt, (tt, (tt, (tt, (tt, (tt, (tt, (omega (arith, g), tt))))))))))))))))))))))))))))))))))))))))))))))))))))))))))))

no_totals : AreFew (totals_of []) 0
unfolding totals_of
no_totals = record { cycles = omega arith; phase = omega arith; complete = omega arith; refused = omega arith; broken_few = omega arith; falls = omega arith; unseen = refl }

module _ (r : RingView) (jobs : List Job) (carry : Carry) (restarts : Restarts) (opened : IsOpened r jobs) where
  known : IsKnown (known_of r)
  known = s_known r jobs carry restarts opened (first_store r jobs carry restarts opened)

  outcomes_few : (t : CycleView) (j : List CycleView) → IsNext r jobs carry restarts t j → length t.events.outcomes ≤ 192
  outcomes_few t j next =
      let here = told_long (known_of r) (behind_mdt r jobs carry restarts t.sent j) (restart_events r jobs restarts (length j) (master_calls r carry restarts j)).outcomes in
      omega (arith, ap (λ (e : EventsView). length e.outcomes) next.events, here, by (restarts (length j) 0), known.few)
    where
      by : (b : Bool) → length (if b then restart_told (known_of r) (looks_back r jobs (master_calls r carry restarts j)) no_events else no_events).outcomes ≤ length (known_of r).drives
      by true = omega (arith, reports_length (broken (looks_back r jobs (master_calls r carry restarts j))) (length (known_of r).drives) [])
      by false = omega arith

  totals_few : (j : List CycleView) → IsRun r jobs carry restarts j → IsClear j → AreFew (totals_of (reverse j)) (length j)
  totals_few [] run clear = no_totals
  totals_few (t ∷ j) run clear =
      subst (λ (x : Totals). AreFew x (suc (length j))) (sym (ap totals_of (reverse_onto j t []) ∙ totals_more (reverse j) t)) (record {
        cycles = omega (arith, (totals_few j run.0 clear.0).cycles);
        phase = subst (λ (n : ℕ). n ≤ 4) (sym run.1.phase) (low r jobs carry restarts opened t j run clear);
        complete = omega (
          arith,
          (totals_few j run.0 clear.0).complete,
          ended_few is_complete t.events.outcomes,
          (outcomes_few t j run.1),
        );
        refused = omega (arith, (totals_few j run.0 clear.0).refused, ended_few is_refused t.events.outcomes, (outcomes_few t j run.1));
        broken_few = omega (
          arith,
          (totals_few j run.0 clear.0).broken_few,
          ended_few is_broken t.events.outcomes,
          (outcomes_few t j run.1),
        );
        falls = omega (arith, (totals_few j run.0 clear.0).falls, fell_once t);
        unseen = omega (arith, (totals_few j run.0 clear.0).unseen, clear.1);
      })

  -- THE CYCLES
  address_low : (k : ℕ) → k < length r.drives → (drive_at r k).address ≤ 254
  address_low k below = let high = (address_of r k opened.valid below).1 in omega (arith, high)

  cycle_fits : (t : CycleView) (j : List CycleView) → IsNext r jobs carry restarts t j → length j < 50000 → FitsReports t.cycle t.events → FitsCycle (wishes_of r) t
  cycle_fits t j next few reports = record {
    moves = subst (All (FitsMove t.cycle)) (sym next.moves) (All-append (FitsMove t.cycle) _ _
        (moves_fit t.cycle false (length r.drives) (drive_at r) r.rate (given_before carry restarts j) (given_mst carry restarts t.sent j) number address_low)
        (moves_fit t.cycle true (length r.drives) (drive_at r) r.rate (given_mst carry restarts t.sent j) (given_mdt carry restarts t.sent j) number address_low));
    events = record {
      outcomes = reports.outcomes;
      plan = subst (FitsPlan t.cycle (wishes_of r)) (sym (ap (λ (e : EventsView). e.plan) next.events)) (plan_in (restarts (length j) 0));
      stop = reports.stop;
      fall = subst (FitsFall t.cycle) (sym (ap (λ (e : EventsView). e.fall) next.events)) (either_fits t.cycle (fall_of (known_of r) (behind_mdt r jobs carry restarts t.sent j)) _ (fall_fits (known_of r) (behind_mdt r jobs carry restarts t.sent j) t.cycle known number)
          (elim (cases_Bool (restarts (length j) 0)) [ inl on ↦ rw on (restart_fits t.cycle number) | inr off ↦ rw off tt ]));
    };
  }
    where
      number : t.cycle ≤ 4294967295
      number = let is = next.cycle in omega (arith, is, few)

      plan_in : (b : Bool) → FitsPlan t.cycle (wishes_of r) (option_or (plan_told (behind_mdt r jobs carry restarts t.sent j)) (if b then restart_told (known_of r) (looks_back r jobs (master_calls r carry restarts j)) no_events else no_events).plan)
      plan_in true = told_fits (wishes_of r) (known_of r) (behind_mdt r jobs carry restarts t.sent j) t.cycle (valid r jobs opened) known (is_planned (known_of r) (tasks_for (known_of r) jobs) (middle r carry restarts t.sent j)) number
      plan_in false = told_fits (wishes_of r) (known_of r) (behind_mdt r jobs carry restarts t.sent j) t.cycle (valid r jobs opened) known (is_planned (known_of r) (tasks_for (known_of r) jobs) (middle r carry restarts t.sent j)) number

  cycles_fit : (j : List CycleView) → IsRun r jobs carry restarts j → length j ≤ 50000 → FitReports j → All (FitsCycle (wishes_of r)) j
  cycles_fit [] run few reports = All-nil (FitsCycle (wishes_of r))
  cycles_fit (t ∷ j) run few reports =
      All-cons (FitsCycle (wishes_of r)) t j (cycle_fits t j run.1 (omega (arith, few)) (All-head (λ (u : CycleView). FitsReports u.cycle u.events) t j reports))
      (cycles_fit j run.0 (omega (arith, few)) (All-tail (λ (u : CycleView). FitsReports u.cycle u.events) t j reports))

pub runs_fit_others : RunsFitOthers
runs_fit_others r jobs carry restarts j opened run clear few reports = record {
  cycles = cycles_fit r jobs carry restarts opened j run few reports;
  totals = totals_fit (totals_of (reverse j)) (length j) few (totals_few r jobs carry restarts opened j run clear);
}
