-- The numbers in the lines of a trace fit their fields: the lines of moves and of what the master reports, and the last one. Journals
-- have their newest cycle first.
use Rattle.std.specs.Prelude.{ℕ, ◌<◌, List, [], ◌∷◌, length, slice_index, Option, Some, None}
use Rattle.std.specs.List.{All}
use Rattle.sercos_step.specs.declared.request.Outcome.{Outcome}
use Rattle.sercos_step.specs.declared.request.Outcome.TheVariants as outcome
use Rattle.sercos_timing.specs.Views.{WishesView, PlanView}
use Rattle.sercos_plan.specs.declared.chain.Link.{Link}
use Rattle.sercos_plan.specs.Views.{ChainView}
use Rattle.sercos_text.specs.Tails.{IsTail}
use Rattle.sercos_text.specs.Templates.{Value, AreOf}
use Rattle.sercos_text.specs.Templates.Value.{number, bytes, ident}
use Rattle.sercos_trace.specs.declared.kind.LineKind.{LineKind}
use Rattle.sercos_trace.specs.declared.kind.LineKind.TheVariants as kind
use Rattle.sercos_trace.specs.declared.events.Stop.{Stop}
use Rattle.sercos_trace.specs.declared.events.Stop.TheVariants as stop
use Rattle.sercos_trace.specs.declared.events.Fall.{Fall}
use Rattle.sercos_trace.specs.declared.events.Fall.TheVariants as fall
use Rattle.sercos_trace.specs.declared.record.Move.{Move}
use Rattle.sercos_trace.specs.declared.record.Totals.{Totals}
use Rattle.sercos_trace.specs.Views.{EventsView, CycleView}
use Rattle.sercos_trace.specs.Kinds.{template_of, tail_for}
use Rattle.sercos_trace.specs.Texts.{address_at, attribute_bytes, big_endian, raws}

-- the values are of the fields of a kind of line
abbrev pub Fit : LineKind → List Value → Type 0
Fit k values = AreOf (template_of k) values

abbrev pub FitsMove : ℕ → Move → Type 0
FitsMove cycle m = Fit kind.Phase (number cycle ∷ number m.drive ∷ number m.phase ∷ [])

abbrev pub FitsEnded : ℕ → ℕ → Outcome → Type 0
FitsEnded cycle i (outcome.Complete list) = Fit kind.Complete (number cycle ∷ number i ∷ bytes list ∷ [])
FitsEnded cycle i (outcome.Refused code) = Fit kind.Refused (number cycle ∷ number i ∷ bytes (big_endian code.raw) ∷ [])
FitsEnded cycle i outcome.Broken = Fit kind.Broken (number cycle ∷ number i ∷ [])

abbrev pub FitsSlot : ℕ → WishesView → PlanView → ℕ → Type 0
FitsSlot cycle w p k = Fit kind.Slot (number cycle ∷ number (address_at w k) ∷ number (slice_index p.t1 k) ∷
    number (slice_index p.position k) ∷ [])

abbrev pub FitsPlan : ℕ → WishesView → Option PlanView → Type 0
FitsPlan cycle w None = Unit {0}
FitsPlan cycle w (Some p) = Fit kind.Plan (number cycle ∷ number p.t2 ∷ number p.t3 ∷ number p.t4 ∷ number p.mdt_len ∷ []) ×
    ((k : ℕ) → k < length w.drives → FitsSlot cycle w p k)

abbrev pub FitsLink : ℕ → Link → Type 0
FitsLink cycle l = Fit kind.RuleAt (number cycle ∷ number l.rule ∷ number l.drive ∷ number l.at ∷ [])

abbrev pub FitsChain : ℕ → ChainView → Type 0
FitsChain cycle c = Fit kind.NoFit (number cycle ∷ []) × All (FitsLink cycle) c.links ×
    Fit kind.RuleSum (number cycle ∷ number c.rule ∷ number c.drive ∷ number c.sum ∷ number c.bound ∷ [])

abbrev pub FitsStop : ℕ → Option Stop → Type 0
FitsStop cycle None = Unit {0}
FitsStop cycle (Some (stop.NoFit c)) = FitsChain cycle c
FitsStop cycle (Some (stop.Refused drive idn code)) = Fit kind.StopRefused (number cycle ∷ number drive ∷ ident idn.raw ∷
    bytes (big_endian code.raw) ∷ [])
FitsStop cycle (Some (stop.BadConfig drive idn attribute)) = Fit kind.StopConfig (number cycle ∷ number drive ∷ ident idn.raw ∷
    bytes (attribute_bytes attribute) ∷ [])
FitsStop cycle (Some (stop.Check127 drive list)) = Fit kind.Check127 (number cycle ∷ number drive ∷ []) ×
    IsTail (tail_for kind.Check127) (raws list.items)
FitsStop cycle (Some (stop.Check128 drive list)) = Fit kind.Check128 (number cycle ∷ number drive ∷ []) ×
    IsTail (tail_for kind.Check128) (raws list.items)

abbrev pub FitsFall : ℕ → Option Fall → Type 0
FitsFall cycle None = Unit {0}
FitsFall cycle (Some fall.MstLost) = Fit kind.FallMst (number cycle ∷ [])
FitsFall cycle (Some (fall.AtLost drive)) = Fit kind.FallAt (number cycle ∷ number drive ∷ [])
FitsFall cycle (Some (fall.StepLimit drive)) = Fit kind.FallStep (number cycle ∷ number drive ∷ [])
FitsFall cycle (Some fall.Restart) = Fit kind.FallRestart (number cycle ∷ [])

-- the outcomes of requests, and the stop
pub record FitsReports (cycle : ℕ) (e : EventsView) : Type 0 where
  pub outcomes : All (λ (r : ℕ × Outcome). FitsEnded cycle r.0 r.1) e.outcomes
  pub stop : FitsStop cycle e.stop

abbrev pub FitReports : List CycleView → Type 0
FitReports j = All (λ (t : CycleView). FitsReports t.cycle t.events) j

pub record FitsEvents (w : WishesView) (cycle : ℕ) (e : EventsView) : Type 0 where
  pub outcomes : All (λ (r : ℕ × Outcome). FitsEnded cycle r.0 r.1) e.outcomes
  pub plan : FitsPlan cycle w e.plan
  pub stop : FitsStop cycle e.stop
  pub fall : FitsFall cycle e.fall

pub record FitsCycle (w : WishesView) (t : CycleView) : Type 0 where
  pub moves : All (FitsMove t.cycle) t.moves
  pub events : FitsEvents w t.cycle t.events

abbrev pub FitTotals : Totals → Type 0
FitTotals t = Fit kind.End (number t.cycles ∷ number t.phase ∷ number t.complete ∷ number t.refused ∷ number t.broken ∷ number t.falls ∷
    number t.unseen ∷ [])

-- So do all lines of a trace but those of its telegrams and its head.
pub record FitOthers (w : WishesView) (j : List CycleView) (t : Totals) : Type 0 where
  pub cycles : All (FitsCycle w) j
  pub totals : FitTotals t
