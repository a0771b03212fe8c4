-- What `margin` answers to a ring document.
use Rattle.std.specs.Prelude.{◌≡◌, ℕ, zero, suc, ◌<◌, ◌≤◌, List, [], ◌++◌, codes, decimal, length, Option, Some, None, Result, Ok, Err}
use Rattle.sercos_io.specs.declared.status.Status.TheVariants.{Done, No, Refused}
use Rattle.sercos_timing.specs.Views.{WishesView, PlanView}
use Rattle.sercos_timing.specs.Order.{wish}
use Rattle.sercos_plan.specs.Views.{ChainView}
use Rattle.sercos_plan.specs.ChainOf.{planned}
use Rattle.sercos_plan.specs.Chains.{IsChain}
use Rattle.sercos_plan.specs.Least.{NoneFits}
use Rattle.sercos_margin.specs.Margins.{greatest, declared, HasPlan, IsMargin, IsLeastCycle, margin_of, least_cycle_of}
use Rattle.sercos_margin.specs.declared.changes.Time.{Time}
use Rattle.sercos_margin.specs.declared.changes.Time.TheVariants.{T1min, Tatmt, T4min, Tatat, Tmtsy, Tmtsg}
use Rattle.sercos_block.specs.Rings.{wishes_of}
use Rattle.sercos_document.specs.declared.refusal.BadDocument.{BadDocument}
use Rattle.sercos_document.specs.Lines.{line_of}
use Rattle.sercos_config.specs.Views.{DocumentView}
use Rattle.sercos_config.specs.Document.{document_of}
use Rattle.sercos_answer.specs.Answer.{Answer, line_feed, two_numbers}
use Rattle.sercos_planning.specs.LeastTimes.{IsLeastChain}
use Rattle.sercos_planning.specs.Planning.{chain_text}

-- the least cycle time with which a plan fits
unfoldable pub cycle_line : Option ℕ → List ℕ
cycle_line None = codes "cycle none" ++ line_feed
cycle_line (Some cycle) = codes "cycle " ++ decimal cycle ++ line_feed

-- how far each time of the drive with an address can go
unfoldable pub margin_line : ℕ → (Time → ℕ) → List ℕ
margin_line address values =
    two_numbers (codes "margin ") address (codes " t1min ") (values T1min)
    ++ two_numbers (codes " tatmt ") (values Tatmt) (codes " t4min ") (values T4min)
    ++ two_numbers (codes " tatat ") (values Tatat) (codes " tmtsy ") (values Tmtsy)
    ++ codes " tmtsg " ++ decimal (values Tmtsg) ++ line_feed

-- .. of the first n drives of the ring, each with its own values
unfoldable pub margin_lines : WishesView → (ℕ → Time → ℕ) → ℕ → List ℕ
margin_lines w values zero = []
margin_lines w values (suc n) = margin_lines w values n ++ margin_line (wish w n).address (values n)

-- the answer to the planner's input of a ring
unfoldable pub wishes_margins : WishesView → Result PlanView ChainView → Answer
wishes_margins w (Ok p) = record { status = Done; output = cycle_line (least_cycle_of w) ++ margin_lines w (margin_of w) (length w.drives) }
wishes_margins w (Err c) = record { status = No; output = cycle_line (least_cycle_of w) ++ chain_text c }

-- the answer to a document's contents, its requests and faults ignored, or to its refusal
unfoldable pub document_margins : Result DocumentView BadDocument → Answer
document_margins (Ok d) = wishes_margins (wishes_of d.setup) (planned (wishes_of d.setup))
document_margins (Err bad) = record { status = Refused; output = line_of bad }

unfoldable pub margin_answer : List ℕ → Answer
margin_answer bytes = document_margins (document_of bytes)

-- no drive declares a time above the greatest that it may declare
abbrev pub AreLimited : WishesView → Type 0
AreLimited w = (k : ℕ) (t : Time) → k < length w.drives → declared w k t ≤ greatest t

-- A text about a ring for which a plan fits: its least cycle time, and the slack of each time of each drive.
pub record TellsMargins (w : WishesView) (text : List ℕ) : Type 0 where
  pub plan : HasPlan w
  pub cycle : Option ℕ
  pub least : IsLeastCycle w cycle
  pub values : ℕ → Time → ℕ
  pub margins : (k : ℕ) (t : Time) → k < length w.drives → IsMargin w k t (values k t)
  pub text_is : text ≡ cycle_line cycle ++ margin_lines w values (length w.drives)

-- A text about a ring for which none fits: its least cycle time, and a chain that proves that none fits with its own, along the least
-- times.
pub record TellsChain (w : WishesView) (text : List ℕ) : Type 0 where
  pub none : NoneFits w
  pub cycle : Option ℕ
  pub least : IsLeastCycle w cycle
  pub chain : ChainView
  pub is_chain : IsChain w chain
  pub is_least : IsLeastChain w chain
  pub text_is : text ≡ cycle_line cycle ++ chain_text chain

-- an answer is right about planner's input
pub record AreMargins (w : WishesView) (answer : Answer) : Type 0 where
  pub no : answer.status ≡ No → TellsChain w answer.output
  pub done : answer.status ≡ Done → TellsMargins w answer.output

-- the answer to a document is right about its ring's planner's input
abbrev pub MeasuresItsRing : List ℕ → Type 0
MeasuresItsRing bytes = (d : DocumentView) → document_of bytes ≡ Ok d → AreMargins (wishes_of d.setup) (margin_answer bytes)
