-- The record of a cycle as plain data, with lists for vectors.
use Rattle.std.specs.Prelude.{ℕ, ℤ, List, Option}
use Rattle.sercos_telegram.specs.declared.layout.Kind.{Kind}
use Rattle.sercos_trace.specs.declared.record.Move.{Move}
use Rattle.sercos_timing.specs.Views.{PlanView}
use Rattle.sercos_step.specs.declared.request.Outcome.{Outcome}
use Rattle.sercos_trace.specs.declared.events.Stop.{Stop}
use Rattle.sercos_trace.specs.declared.events.Fall.{Fall}

pub record EventsView : Type 0 where
  pub outcomes : List (ℕ × Outcome)
  pub plan : Option PlanView
  pub stop : Option Stop
  pub fall : Option Fall

-- `start` is in bit times after the MST's end
pub record SentView : Type 0 where
  pub kind : Kind
  pub start : ℤ
  pub bits : ℕ
  pub content : List ℕ

pub record CycleView : Type 0 where
  pub cycle : ℕ
  pub phase : ℕ
  pub sent : List SentView
  pub moves : List Move
  pub events : EventsView
  pub unseen : ℕ
