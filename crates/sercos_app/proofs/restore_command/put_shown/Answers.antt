use Rattle.std.proofs.Common.{sym, ◌∙◌}
use Rattle.sercos_app.proofs.SavingLemmas.{shown_block}
use Rattle.sercos_app.proofs.restore_command.put_shown.Goals as goal

pub returns-in-Some : goal.returns-in-Some
returns-in-Some c = shown_block _ _ c.args.cycle c.args.out.now c.push_data.new.out c.requires (sym c.find.ensures.value ∙ c.in-Some.is) (c.push_data.ensures.value c.in-Some.block (sym c.attribute-attribute.ensures) (sym c.step.ensures) (sym c.value.ensures.value))
