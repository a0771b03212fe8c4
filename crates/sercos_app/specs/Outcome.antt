-- How a call of the top call ends.
use Rattle.std.specs.Prelude.{List, ℕ}
use Rattle.sercos_io.specs.declared.status.Status.{Status}
use Rattle.sercos_script.specs.Links.{Carry, Restarts}
use Rattle.sercos_words.specs.Form.{form_of, reads_input}
use Rattle.sercos_call.specs.Outcome.{Outcome, SinkChange, SourceChange}
use Rattle.sercos_app.specs.Answer.{answer_of, SaysOf}

-- with the answer of the command that the words name, if they name one
pub record Ends (carry : Carry) (restarts : Restarts) (words : List (List ℕ)) (source : SourceChange) (sink : SinkChange)
    (Unread Unwritten : Type 0) (status : Status) : Type 0 where
  pub how : Outcome (form_of words) (reads_input (form_of words)) (answer_of carry restarts words) (SaysOf carry restarts (form_of words))
      source sink Unread Unwritten status
