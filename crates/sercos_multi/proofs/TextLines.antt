-- The parts of a trace are whole lines.
use Rattle.std.proofs.Common.{ℕ, zero, suc, Bool, true, false, if◌then◌else◌, List, [], ◌∷◌, ◌++◌, length, take, drop, Option, Some, None}
use mathlib.Core.Bool.{beq}
use Rattle.std.specs.List.{flat_map}
use Rattle.sercos_step.specs.declared.request.Outcome.{Outcome}
use Rattle.sercos_step.specs.declared.request.Outcome.TheVariants as outcome
use Rattle.sercos_text.specs.Templates.{Value, line_text}
use Rattle.sercos_text.specs.Tails.{tail_text}
use Rattle.sercos_timing.specs.Views.{WishesView, PlanView}
use Rattle.sercos_plan.specs.Views.{ChainView}
use Rattle.sercos_trace.specs.declared.kind.LineKind.{LineKind}
use Rattle.sercos_trace.specs.declared.events.Stop.{Stop}
use Rattle.sercos_trace.specs.declared.events.Stop.TheVariants as stop
use Rattle.sercos_trace.specs.declared.events.Fall.{Fall}
use Rattle.sercos_trace.specs.declared.events.Fall.TheVariants as fall
use Rattle.sercos_trace.specs.declared.record.Move.{Move}
use Rattle.sercos_trace.specs.declared.record.Totals.{Totals}
use Rattle.sercos_trace.specs.Views.{EventsView, CycleView}
use Rattle.sercos_trace.specs.Kinds.{line_of, line_with, tail_for, template_of}
use Rattle.sercos_trace.specs.Marked.{AreLines}
use Rattle.sercos_trace.specs.Texts.{header_text, ring_text, drive_text, order_text, cycle_text, end_text, sent_text, moves_text, move_text, events_text, outcome_text, ended_text, plan_text, plan_line, slots_text, slot_text, link_text, chain_text, bound_text, stop_text, fall_text}
use Rattle.sercos_multi.specs.Merged.{first_text}
use Rattle.sercos_trace.proofs.MarkLemmas.{lines_then, lines_one, no_lines}

line_whole : (kind : LineKind) (values : List Value) → AreLines (line_of kind values)
line_whole kind values = lines_one true (line_text (template_of kind) values)

tailed_whole : (kind : LineKind) (values : List Value) (items : List ℕ) → AreLines (line_with kind values items)
tailed_whole kind values items = lines_one true (line_text (template_of kind) values ++ tail_text (tail_for kind) items)

pub all_whole : {X : Type 0} (f : X → List ℕ) (xs : List X) → ((x : X) → AreLines (f x)) → AreLines (flat_map f xs)
all_whole f [] each = no_lines
all_whole f (x ∷ xs) each = lines_then (f x) (flat_map f xs) (each x) (all_whole f xs each)

pub header_whole : (w : WishesView) → AreLines (header_text w)
header_whole w =
    lines_then (line_of _ []) (ring_text w ++ (flat_map drive_text w.drives ++ order_text w)) (line_whole _ [])
    (lines_then (ring_text w) (flat_map drive_text w.drives ++ order_text w) (line_whole _ _)
    (lines_then (flat_map drive_text w.drives) (order_text w) (all_whole drive_text w.drives (λ d. line_whole _ _)) (tailed_whole _ _ _)))

pub end_whole : (t : Totals) → AreLines (end_text t)
end_whole t = line_whole _ _

move_whole : (cycle : ℕ) (late : Bool) (m : Move) → AreLines (if beq m.late late then move_text cycle m else [])
move_whole cycle late m = by (beq m.late late)
  where
    by : (b : Bool) → AreLines (if b then move_text cycle m else [])
    by true = line_whole _ _
    by false = no_lines

moves_whole : (cycle : ℕ) (late : Bool) (moves : List Move) → AreLines (moves_text cycle late moves)
moves_whole cycle late moves = all_whole (λ m. if beq m.late late then move_text cycle m else []) moves (move_whole cycle late)

ended_whole : (cycle i : ℕ) (o : Outcome) → AreLines (ended_text cycle i o)
ended_whole cycle i (outcome.Complete list) = line_whole _ _
ended_whole cycle i (outcome.Refused code) = line_whole _ _
ended_whole cycle i outcome.Broken = line_whole _ _

slots_whole : (cycle : ℕ) (w : WishesView) (p : PlanView) (n : ℕ) → AreLines (slots_text cycle w p n)
slots_whole cycle w p zero = no_lines
slots_whole cycle w p (suc n) = lines_then (slots_text cycle w p n) (slot_text cycle w p n) (slots_whole cycle w p n) (line_whole _ _)

plan_whole : (cycle : ℕ) (w : WishesView) (o : Option PlanView) → AreLines (plan_text cycle w o)
unfolding plan_text
plan_whole cycle w None = no_lines
plan_whole cycle w (Some p) = lines_then (plan_line cycle p) (slots_text cycle w p (length w.drives)) (line_whole _ _) (slots_whole cycle w p (length w.drives))

chain_whole : (cycle : ℕ) (c : ChainView) → AreLines (chain_text cycle c)
chain_whole cycle c =
    lines_then (line_of _ _) (flat_map (link_text cycle) c.links ++ bound_text cycle c) (line_whole _ _)
    (lines_then (flat_map (link_text cycle) c.links) (bound_text cycle c) (all_whole (link_text cycle) c.links (λ l. line_whole _ _)) (line_whole _ _))

stop_whole : (cycle : ℕ) (o : Option Stop) → AreLines (stop_text cycle o)
unfolding stop_text
stop_whole cycle None = no_lines
stop_whole cycle (Some (stop.NoFit c)) = chain_whole cycle c
stop_whole cycle (Some (stop.Refused drive idn code)) = line_whole _ _
stop_whole cycle (Some (stop.BadConfig drive idn attribute)) = line_whole _ _
stop_whole cycle (Some (stop.Check127 drive list)) = tailed_whole _ _ _
stop_whole cycle (Some (stop.Check128 drive list)) = tailed_whole _ _ _

fall_whole : (cycle : ℕ) (o : Option Fall) → AreLines (fall_text cycle o)
unfolding fall_text
fall_whole cycle None = no_lines
fall_whole cycle (Some fall.MstLost) = line_whole _ _
fall_whole cycle (Some (fall.AtLost drive)) = line_whole _ _
fall_whole cycle (Some (fall.StepLimit drive)) = line_whole _ _
fall_whole cycle (Some fall.Restart) = line_whole _ _

events_whole : (w : WishesView) (cycle : ℕ) (e : EventsView) → AreLines (events_text w cycle e)
events_whole w cycle e =
    lines_then (flat_map (outcome_text cycle) e.outcomes) (plan_text cycle w e.plan ++ (stop_text cycle e.stop ++ fall_text cycle e.fall)) (all_whole (outcome_text cycle) e.outcomes (λ r. ended_whole cycle r.0 r.1))
    (lines_then (plan_text cycle w e.plan) (stop_text cycle e.stop ++ fall_text cycle e.fall) (plan_whole cycle w e.plan)
    (lines_then (stop_text cycle e.stop) (fall_text cycle e.fall) (stop_whole cycle e.stop) (fall_whole cycle e.fall)))

pub cycle_whole : (w : WishesView) (r : CycleView) → AreLines (cycle_text w r)
cycle_whole w r =
    lines_then (flat_map (sent_text r.cycle) (take 1 r.sent)) (moves_text r.cycle false r.moves ++ (flat_map (sent_text r.cycle) (drop 1 r.sent) ++ (moves_text r.cycle true r.moves ++ events_text w r.cycle r.events)))
    (all_whole (sent_text r.cycle) (take 1 r.sent) (λ s. line_whole _ _))
    (lines_then (moves_text r.cycle false r.moves) (flat_map (sent_text r.cycle) (drop 1 r.sent) ++ (moves_text r.cycle true r.moves ++ events_text w r.cycle r.events)) (moves_whole r.cycle false r.moves)
    (lines_then (flat_map (sent_text r.cycle) (drop 1 r.sent)) (moves_text r.cycle true r.moves ++ events_text w r.cycle r.events) (all_whole (sent_text r.cycle) (drop 1 r.sent) (λ s. line_whole _ _))
    (lines_then (moves_text r.cycle true r.moves) (events_text w r.cycle r.events) (moves_whole r.cycle true r.moves) (events_whole w r.cycle r.events))))

pub first_whole : (w : WishesView) (totals : Totals) (later : List CycleView) → AreLines (first_text w totals later)
unfolding first_text
first_whole w totals [] = no_lines
first_whole w totals (t ∷ []) = lines_then (cycle_text w t) (end_text totals) (cycle_whole w t) (end_whole totals)
first_whole w totals (t ∷ next ∷ later) = cycle_whole w t
