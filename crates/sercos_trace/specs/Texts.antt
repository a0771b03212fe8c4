-- The text of a trace: the head, the lines of each cycle, and the end line.
use Rattle.std.specs.Prelude.{ℕ, ◌/◌, ◌%◌, Bool, true, false, if◌then◌else◌, List, [], ◌∷◌, ◌++◌, length, map, take, drop, slice_index, zero, suc, Option, Some, None}
use mathlib.Core.Bool.{beq}
use Rattle.std.specs.List.{flat_map}
use Rattle.sercos_idn.specs.declared.idn.Idn.{Idn}
use Rattle.sercos_telegram.specs.declared.layout.Kind.{Kind}
use Rattle.sercos_telegram.specs.declared.layout.Kind.TheVariants as telegram
use Rattle.sercos_step.specs.declared.request.Outcome.{Outcome}
use Rattle.sercos_step.specs.declared.request.Outcome.TheVariants as outcome
use Rattle.sercos_timing.specs.Views.{WishesView, PlanView}
use Rattle.sercos_timing.specs.declared.wishes.Wish.{Wish}
use Rattle.sercos_timing.specs.Order.{wish}
use Rattle.sercos_plan.specs.declared.chain.Link.{Link}
use Rattle.sercos_plan.specs.Views.{ChainView}
use Rattle.sercos_text.specs.Templates.{Value}
use Rattle.sercos_text.specs.Templates.Value.{number, signed, bytes, ident}
use Rattle.sercos_trace.specs.declared.kind.LineKind.{LineKind}
use Rattle.sercos_trace.specs.declared.kind.LineKind.TheVariants as kind
use Rattle.sercos_trace.specs.declared.events.Stop.{Stop}
use Rattle.sercos_trace.specs.declared.events.Stop.TheVariants as stop
use Rattle.sercos_trace.specs.declared.events.Fall.{Fall}
use Rattle.sercos_trace.specs.declared.events.Fall.TheVariants as fall
use Rattle.sercos_trace.specs.declared.record.Move.{Move}
use Rattle.sercos_trace.specs.declared.record.Totals.{Totals}
use Rattle.sercos_trace.specs.Views.{SentView, EventsView, CycleView}
use Rattle.sercos_trace.specs.Kinds.{line_of, line_with}

-- The head: the version; the ring's numbers and how many drives it has; a line for each drive, in
-- ring order; the addresses in the order of the ATs.
abbrev pub drive_values : Wish → List Value
drive_values d =
    number d.address ∷ number d.slave ∷ number d.times.t1min ∷ number d.times.tatmt ∷ number d.times.t4min ∷ number d.times.tatat
    ∷ number d.times.tmtsy ∷ number d.times.tmtsg ∷ number d.at_len ∷ number d.record_len ∷ []

abbrev pub drive_text : Wish → List ℕ
drive_text d = line_of kind.Drive (drive_values d)

abbrev pub address_at : WishesView → ℕ → ℕ
address_at w place = (wish w place).address

-- a telegram: its cycle, its start and its length in bit times, and its content
abbrev pub sent_kind : Kind → LineKind
sent_kind telegram.Mst = kind.Mst
sent_kind telegram.At = kind.At
sent_kind telegram.Mdt = kind.Mdt

abbrev pub sent_text : ℕ → SentView → List ℕ
sent_text cycle s = line_of (sent_kind s.kind) (number cycle ∷ signed s.start ∷ number s.bits ∷ bytes s.content ∷ [])

-- a move of a drive into another phase
abbrev pub move_text : ℕ → Move → List ℕ
move_text cycle m = line_of kind.Phase (number cycle ∷ number m.drive ∷ number m.phase ∷ [])

abbrev pub big_endian : ℕ → List ℕ
big_endian word = (word / 256) ∷ (word % 256) ∷ []

-- how a request ended
abbrev pub ended_text : ℕ → ℕ → Outcome → List ℕ
ended_text cycle i (outcome.Complete list) = line_of kind.Complete (number cycle ∷ number i ∷ bytes list ∷ [])
ended_text cycle i (outcome.Refused code) = line_of kind.Refused (number cycle ∷ number i ∷ bytes (big_endian code.raw) ∷ [])
ended_text cycle i outcome.Broken = line_of kind.Broken (number cycle ∷ number i ∷ [])

abbrev pub outcome_text : ℕ → (ℕ × Outcome) → List ℕ
outcome_text cycle r = ended_text cycle r.0 r.1

-- a plan, and the slot of each drive, in ring order
abbrev pub plan_line : ℕ → PlanView → List ℕ
plan_line cycle p = line_of kind.Plan (number cycle ∷ number p.t2 ∷ number p.t3 ∷ number p.t4 ∷ number p.mdt_len ∷ [])

abbrev pub slot_text : ℕ → WishesView → PlanView → ℕ → List ℕ
slot_text cycle w p k = line_of kind.Slot (number cycle ∷ number (address_at w k) ∷ number (slice_index p.t1 k) ∷
    number (slice_index p.position k) ∷ [])

-- the slots of the first n drives
abbrev pub slots_text : ℕ → WishesView → PlanView → ℕ → List ℕ
slots_text cycle w p zero = []
slots_text cycle w p (suc n) = slots_text cycle w p n ++ slot_text cycle w p n

unfoldable pub plan_text : ℕ → WishesView → Option PlanView → List ℕ
plan_text cycle w None = []
plan_text cycle w (Some p) = plan_line cycle p ++ slots_text cycle w p (length w.drives)

-- a stop: the links of its chain and the bound that it breaks, or the values that caused it
abbrev pub link_text : ℕ → Link → List ℕ
link_text cycle l = line_of kind.RuleAt (number cycle ∷ number l.rule ∷ number l.drive ∷ number l.at ∷ [])

abbrev pub bound_text : ℕ → ChainView → List ℕ
bound_text cycle c = line_of kind.RuleSum (number cycle ∷ number c.rule ∷ number c.drive ∷ number c.sum ∷ number c.bound ∷ [])

abbrev pub chain_text : ℕ → ChainView → List ℕ
chain_text cycle c = line_of kind.NoFit (number cycle ∷ []) ++ (flat_map (link_text cycle) c.links ++ bound_text cycle c)

abbrev pub attribute_bytes : ℕ → List ℕ
attribute_bytes word = (word / 16777216) ∷ (word / 65536 % 256) ∷ (word / 256 % 256) ∷ (word % 256) ∷ []

abbrev pub raws : List Idn → List ℕ
raws idns = map (λ i. i.raw) idns

abbrev pub stopped_text : ℕ → Stop → List ℕ
stopped_text cycle (stop.NoFit c) = chain_text cycle c
stopped_text cycle (stop.Refused drive idn code) = line_of kind.StopRefused (number cycle ∷ number drive ∷ ident idn.raw ∷
    bytes (big_endian code.raw) ∷ [])
stopped_text cycle (stop.BadConfig drive idn attribute) = line_of kind.StopConfig (number cycle ∷ number drive ∷ ident idn.raw ∷
    bytes (attribute_bytes attribute) ∷ [])
stopped_text cycle (stop.Check127 drive list) = line_with kind.Check127 (number cycle ∷ number drive ∷ []) (raws list.items)
stopped_text cycle (stop.Check128 drive list) = line_with kind.Check128 (number cycle ∷ number drive ∷ []) (raws list.items)

unfoldable pub stop_text : ℕ → Option Stop → List ℕ
stop_text cycle None = []
stop_text cycle (Some s) = stopped_text cycle s

abbrev pub fell_text : ℕ → Fall → List ℕ
fell_text cycle fall.MstLost = line_of kind.FallMst (number cycle ∷ [])
fell_text cycle (fall.AtLost drive) = line_of kind.FallAt (number cycle ∷ number drive ∷ [])
fell_text cycle (fall.StepLimit drive) = line_of kind.FallStep (number cycle ∷ number drive ∷ [])
fell_text cycle fall.Restart = line_of kind.FallRestart (number cycle ∷ [])

unfoldable pub fall_text : ℕ → Option Fall → List ℕ
fall_text cycle None = []
fall_text cycle (Some f) = fell_text cycle f

-- what the master reports: outcomes, plan, stop, fall
abbrev pub events_text : WishesView → ℕ → EventsView → List ℕ
events_text w cycle e =
    flat_map (outcome_text cycle) e.outcomes ++ (plan_text cycle w e.plan ++ (stop_text cycle e.stop ++ fall_text cycle e.fall))

-- The lines of a cycle: the MST, the moves at it, the ATs and the MDT, the late moves, the events.
abbrev pub moves_text : ℕ → Bool → List Move → List ℕ
moves_text cycle late moves = flat_map (λ m. if beq m.late late then move_text cycle m else []) moves

abbrev pub cycle_text : WishesView → CycleView → List ℕ
cycle_text w r =
    flat_map (sent_text r.cycle) (take 1 r.sent) ++ (moves_text r.cycle false r.moves
    ++ (flat_map (sent_text r.cycle) (drop 1 r.sent) ++ (moves_text r.cycle true r.moves ++ events_text w r.cycle r.events)))

abbrev pub ring_text : WishesView → List ℕ
ring_text w = line_of kind.Ring (number w.rate ∷ number w.cycle ∷ number w.control ∷ number w.gap ∷ number (length w.drives) ∷ [])

abbrev pub order_text : WishesView → List ℕ
order_text w = line_with kind.Order [] (map (address_at w) w.order)

abbrev pub header_text : WishesView → List ℕ
header_text w = line_of kind.Version [] ++ (ring_text w ++ (flat_map drive_text w.drives ++ order_text w))

abbrev pub end_text : Totals → List ℕ
end_text t =
    line_of kind.End (number t.cycles ∷ number t.phase ∷ number t.complete ∷ number t.refused ∷ number t.broken ∷ number t.falls ∷
    number t.unseen ∷ [])

-- the whole trace of a run, its cycles in order
abbrev pub trace_of : WishesView → List CycleView → Totals → List ℕ
trace_of w cycles t = header_text w ++ (flat_map (cycle_text w) cycles ++ end_text t)
