-- The contents of a document, as plain data.
use Rattle.std.specs.Prelude.{List}
use Rattle.sercos_block.specs.Views.{RingView}
use Rattle.sercos_step.specs.declared.request.Job.{Job}
use Rattle.sercos_script.specs.declared.fault.Fault.{Fault}

pub record DocumentView : Type 0 where
  pub setup : RingView
  pub jobs : List Job
  pub faults : List Fault
