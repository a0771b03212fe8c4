use Rattle.std.proofs.Common.{sym, ◌∙◌, append-nil}
use Rattle.sercos_command.specs.Checks.{unfit_for_phase_3}
use Rattle.sercos_command.proofs.CheckLemmas.{found_first, found_more}
use Rattle.sercos_command.proofs.check.check127.Goals as goal

pub returns : goal.returns
unfolding unfit_for_phase_3
returns c =
    sym (found_first _ c.new-unfit.ensures
    ∙ found_more _ 1 _ _ _ c.add_if.ensures.items c.breaks_control_cycle_time.ensures
    ∙ found_more _ 2 _ _ _ c.add_if-2.ensures.items c.breaks_cycle_time.ensures
    ∙ found_more _ 6 _ _ _ c.add_if-3.ensures.items c.breaks_t1.ensures
    ∙ found_more _ 7 _ _ _ c.add_if-4.ensures.items c.breaks_t4.ensures
    ∙ found_more _ 8 _ _ _ c.add_if-5.ensures.items c.breaks_t3.ensures
    ∙ found_more _ 9 _ _ _ c.add_if-6.ensures.items c.breaks_position.ensures
    ∙ found_more _ 10 _ _ _ c.add_if-7.ensures.items c.breaks_mdt_length.ensures
    ∙ found_more _ 15 _ _ _ c.add_if-8.ensures.items c.breaks_telegram_type.ensures
    ∙ found_more _ 16 _ _ _ c.add_if-9.ensures.items c.breaks_list.ensures
    ∙ found_more _ 24 _ _ _ c.add_if-10.ensures.items c.breaks_list-2.ensures
    ∙ found_more _ 89 _ _ _ c.add_if-11.ensures.items c.breaks_t2.ensures
    ∙ append-nil _)
