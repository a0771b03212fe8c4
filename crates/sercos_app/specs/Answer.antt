-- What a command answers: a status, and the bytes that it writes. It depends on the words, the input, and the link handed in: what
-- it does to bits, and which stations it restarts.
use Rattle.std.specs.Prelude.{ℕ, List, [], Option, Some, None}
use Rattle.sercos_io.specs.declared.status.Status.TheVariants.{BadWords}
use Rattle.sercos_words.specs.declared.form.Form.{Form}
use Rattle.sercos_words.specs.declared.form.Form.TheVariants as forms
use Rattle.sercos_words.specs.Form.{form_of}
use Rattle.sercos_answer.specs.Answer.{Answer}
use Rattle.sercos_show.specs.Show.{show_answer}
use Rattle.sercos_planning.specs.Planning.{plan_answer, PlansItsRing}
use Rattle.sercos_planning.specs.Margins.{margin_answer, MeasuresItsRing}
use Rattle.sercos_app.specs.Running.{run_answer, RunsItsRing}
use Rattle.sercos_checking.specs.Checking.{check_answer}
use Rattle.sercos_app.specs.Generating.{gen_answer, RunsGenerated}
use Rattle.sercos_app.specs.Saving.{backup_answer, restore_answer}
use Rattle.sercos_app.specs.Saved.{SavesItsRing, RestoresItsRing}
use Rattle.sercos_replay.specs.Replaying.{replay_answer}
use Rattle.sercos_app.specs.OwnRun.{ReplaysItsRing}
use Rattle.sercos_script.specs.Links.{Carry, Restarts}

-- the answer of each command to an input
unfoldable pub command_answer : Carry → Restarts → Form → List ℕ → Answer
command_answer carry restarts forms.Show bytes = show_answer bytes
command_answer carry restarts forms.Plan bytes = plan_answer bytes
command_answer carry restarts forms.Margin bytes = margin_answer bytes
command_answer carry restarts forms.Run bytes = run_answer carry restarts bytes
command_answer carry restarts forms.Check bytes = check_answer bytes
command_answer carry restarts forms.Backup bytes = backup_answer bytes
command_answer carry restarts forms.Restore bytes = restore_answer bytes
command_answer carry restarts (forms.Gen drives) bytes = gen_answer carry restarts drives
command_answer carry restarts (forms.Replay address) bytes = replay_answer address bytes

-- what the answer of each command promises beside its text
abbrev pub SaysWell : Carry → Restarts → Form → List ℕ → Type 0
SaysWell carry restarts forms.Show bytes = Unit {0}
SaysWell carry restarts forms.Plan bytes = PlansItsRing bytes
SaysWell carry restarts forms.Margin bytes = MeasuresItsRing bytes
SaysWell carry restarts forms.Run bytes = RunsItsRing carry restarts bytes
SaysWell carry restarts forms.Check bytes = Unit {0}
SaysWell carry restarts forms.Backup bytes = SavesItsRing bytes
SaysWell carry restarts forms.Restore bytes = RestoresItsRing bytes
SaysWell carry restarts (forms.Gen drives) bytes = RunsGenerated carry restarts drives
SaysWell carry restarts (forms.Replay address) bytes = ReplaysItsRing address bytes

-- and that of the command that is named, if one is
abbrev pub SaysOf : Carry → Restarts → Option Form → List ℕ → Type 0
SaysOf carry restarts None bytes = Unit {0}
SaysOf carry restarts (Some form) bytes = SaysWell carry restarts form bytes

unfoldable pub form_answer : Carry → Restarts → Option Form → List ℕ → Answer
form_answer carry restarts None bytes = record { status = BadWords; output = [] }
form_answer carry restarts (Some form) bytes = command_answer carry restarts form bytes

-- the answer to words and an input, where nothing outside fails and memory is found
unfoldable pub answer_of : Carry → Restarts → List (List ℕ) → List ℕ → Answer
answer_of carry restarts words bytes = form_answer carry restarts (form_of words) bytes
