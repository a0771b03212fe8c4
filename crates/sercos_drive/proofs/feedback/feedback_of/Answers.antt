use Rattle.std.proofs.Common.{sym, ◌∙◌, ap}
use Rattle.std.specs.Prelude.{option_and_then}
use Rattle.sercos_drive.specs.Slots.{feedback_in, feedback_bytes}
use Rattle.sercos_drive.proofs.FeedbackLemmas.{value_kept}
use Rattle.sercos_drive.proofs.feedback.feedback_of.Goals as goal

pub returns-in-Some-clause-gives : goal.returns-in-Some-clause-gives
returns-in-Some-clause-gives c = λ cycle.
    ap (feedback_bytes cycle) (c.feedback_in.ensures ∙ ap (option_and_then feedback_in) (sym c.in-Some.is ∙ c.find.ensures.value))
    ∙ value_kept cycle c.args.store.now c.args.idn c.find.ensures.store

pub returns-in-None-clause-gives : goal.returns-in-None-clause-gives
returns-in-None-clause-gives c = λ cycle.
    ap (feedback_bytes cycle) (ap (option_and_then feedback_in) (sym c.in-None.is ∙ c.find.ensures.value))
    ∙ value_kept cycle c.args.store.now c.args.idn c.find.ensures.store
