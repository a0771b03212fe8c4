-- What `plan` answers to a ring document.
use Rattle.std.specs.Prelude.{◌≡◌, ℕ, zero, suc, List, [], ◌++◌, codes, decimal, length, slice_index, Result, Ok, Err}
use Rattle.std.specs.List.{flat_map}
use Rattle.sercos_io.specs.declared.status.Status.TheVariants.{Done, No, Refused}
use Rattle.sercos_timing.specs.Views.{WishesView, PlanView}
use Rattle.sercos_timing.specs.Order.{wish}
use Rattle.sercos_plan.specs.declared.chain.Link.{Link}
use Rattle.sercos_plan.specs.Views.{ChainView}
use Rattle.sercos_plan.specs.ChainOf.{planned}
use Rattle.sercos_plan.specs.Chains.{IsChain}
use Rattle.sercos_plan.specs.Least.{IsLeast, NoneFits}
use Rattle.sercos_block.specs.Rings.{wishes_of}
use Rattle.sercos_document.specs.declared.refusal.BadDocument.{BadDocument}
use Rattle.sercos_document.specs.Lines.{line_of}
use Rattle.sercos_config.specs.Views.{DocumentView}
use Rattle.sercos_config.specs.Document.{document_of}
use Rattle.sercos_answer.specs.Answer.{Answer, line_feed, two_numbers}
use Rattle.sercos_planning.specs.LeastTimes.{IsLeastChain}

-- the times of all drives, and the length of the MDT
unfoldable pub plan_line : PlanView → List ℕ
plan_line p = two_numbers (codes "plan t2 ") p.t2 (codes " t3 ") p.t3 ++ two_numbers (codes " t4 ") p.t4 (codes " mdt ") p.mdt_len ++
    line_feed

-- the time slot of the drive at a place of the ring
unfoldable pub slot_line : WishesView → PlanView → ℕ → List ℕ
slot_line w p k = two_numbers (codes "slot ") (wish w k).address (codes " t1 ") (slice_index p.t1 k) ++ codes " position " ++
    decimal (slice_index p.position k) ++ line_feed

-- the time slots of the first n drives
unfoldable pub slot_lines : WishesView → PlanView → ℕ → List ℕ
slot_lines w p zero = []
slot_lines w p (suc n) = slot_lines w p n ++ slot_line w p n

unfoldable pub plan_text : WishesView → PlanView → List ℕ
plan_text w p = plan_line p ++ slot_lines w p (length w.drives)

-- a link of a chain, and its last part
unfoldable pub link_line : Link → List ℕ
link_line l = two_numbers (codes "rule ") l.rule (codes " drive ") l.drive ++ codes " at " ++ decimal l.at ++ line_feed

unfoldable pub end_line : ChainView → List ℕ
end_line c = two_numbers (codes "rule ") c.rule (codes " drive ") c.drive ++ two_numbers (codes " sum ") c.sum (codes " bound ") c.bound ++
    line_feed

unfoldable pub chain_text : ChainView → List ℕ
chain_text c = codes "no plan" ++ line_feed ++ flat_map link_line c.links ++ end_line c

-- the answer to the planner's input of a ring
unfoldable pub wishes_answer : WishesView → Result PlanView ChainView → Answer
wishes_answer w (Ok p) = record { status = Done; output = plan_text w p }
wishes_answer w (Err c) = record { status = No; output = chain_text c }

-- the answer to a document's contents, its requests and faults ignored, or to its refusal
unfoldable pub document_answer : Result DocumentView BadDocument → Answer
document_answer (Ok d) = wishes_answer (wishes_of d.setup) (planned (wishes_of d.setup))
document_answer (Err bad) = record { status = Refused; output = line_of bad }

unfoldable pub plan_answer : List ℕ → Answer
plan_answer bytes = document_answer (document_of bytes)

-- An answer is right about planner's input: no, only if no plan fits, and with the text of the planner's chain, which proves it, along the
-- least times; done, only with the text of the planner's plan, which is the least.
pub record IsPlanned (w : WishesView) (answer : Answer) : Type 0 where
  pub no : answer.status ≡ No → NoneFits w
  pub chain : answer.status ≡ No → (c : ChainView) × (planned w ≡ Err c) × IsChain w c × IsLeastChain w c × (answer.output ≡ chain_text c)
  pub done : answer.status ≡ Done → (p : PlanView) × (planned w ≡ Ok p) × IsLeast w p × (answer.output ≡ plan_text w p)

-- the answer to a document is right about its ring's planner's input
abbrev pub PlansItsRing : List ℕ → Type 0
PlansItsRing bytes = (d : DocumentView) → document_of bytes ≡ Ok d → IsPlanned (wishes_of d.setup) (plan_answer bytes)
