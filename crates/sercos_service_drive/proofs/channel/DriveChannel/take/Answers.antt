use Rattle.std.proofs.Common.{◌∙◌, sym, ap, is_some}
use Rattle.sercos_service_drive.specs.Log.{Processed, processed_record}
use Rattle.sercos_service_drive.specs.Replies.{log_of}
use Rattle.sercos_service_drive.specs.Writes.{AreAlike, adds}
use Rattle.sercos_service_drive.proofs.AllowedWrites.{alike, those_moved}
use Rattle.sercos_service_drive.proofs.ChannelLemmas.{goes_with, taken_stands, adds_new, effect_adds}
use Rattle.sercos_service_drive.proofs.channel.DriveChannel.take.Goals as goal

pub returns-clause-stands : goal.returns-clause-stands
returns-clause-stands c = λ busy h commands stood those stands.
    let s = rw (← c.self.view_is) at stood in
    let t : Processed = processed_record c.args.cycle c.args.phase c.args.control.now c.args.info c.args.store.now commands in
    let is = rw c.step_of-step.ensures.step at (c.answer-answer.ensures.answered c.args.control.now.mhs _ commands s.session_is stands (goes_with c.args.store.now h those)) in
    taken_stands _ busy h t c.answer-answer.result c.answer-answer.new.self s c.if-control-self.false is

pub returns-clause-added : goal.returns-clause-added
returns-clause-added c = λ busy h commands stood those stands.
    let s = rw (← c.self.view_is) at stood in
    let t : Processed = processed_record c.args.cycle c.args.phase c.args.control.now c.args.info c.args.store.now commands in
    let is = rw c.step_of-step.ensures.step at (c.answer-answer.ensures.answered c.args.control.now.mhs _ commands s.session_is stands (goes_with c.args.store.now h those)) in
    rw c.step_of-step.ensures.step at c.adds.ensures ∙ effect_adds t (log_of h) c.answer-answer.result is.reply_is ∙ sym (ap is_some (adds_new _ busy h t s c.if-control-self.false))

pub returns-clause-blocks : goal.returns-clause-blocks
returns-clause-blocks c = λ busy h commands stood those stands.
    let s = rw (← c.self.view_is) at stood in
    let t : Processed = processed_record c.args.cycle c.args.phase c.args.control.now c.args.info c.args.store.now commands in
    let effect = rw c.step_of-step.ensures.step at (c.answer-answer.ensures.effect c.args.control.now.mhs _ commands s.session_is (goes_with c.args.store.now h those)) in
    rw (adds_new _ busy h t s c.if-control-self.false) (effect.blocks_are commands stands)

pub returns-clause-those : goal.returns-clause-those
returns-clause-those c = λ busy h commands stood those stands.
    let s = rw (← c.self.view_is) at stood in
    let t : Processed = processed_record c.args.cycle c.args.phase c.args.control.now c.args.info c.args.store.now commands in
    let effect = rw c.step_of-step.ensures.step at (c.answer-answer.ensures.effect c.args.control.now.mhs _ commands s.session_is (goes_with c.args.store.now h those)) in
    let same : AreAlike c.answer-answer.new.store c.args.store.now = rw (effect.blocks_are commands stands) (alike (adds t (log_of h)) commands c.args.store.now) in
    (sym same, those_moved c.args.store.now _ h same those)

pub returns-clause-commands : goal.returns-clause-commands
returns-clause-commands c = λ busy h commands stood those stands.
    let s = rw (← c.self.view_is) at stood in
    let t : Processed = processed_record c.args.cycle c.args.phase c.args.control.now c.args.info c.args.store.now commands in
    let effect = rw c.step_of-step.ensures.step at (c.answer-answer.ensures.effect c.args.control.now.mhs _ commands s.session_is (goes_with c.args.store.now h those)) in
    rw (adds_new _ busy h t s c.if-control-self.false) (effect.commands_are commands stands)
