-- Summaries that the checker computes: of a run that came to phase 4, and of one that didn't.
use Rattle.std.proofs.Common.{◌≡◌, ◌++◌, codes, Some, None, refl}
use Rattle.std.specs.Fmt.{digits}
use Rattle.sercos_text.specs.Templates.{line_text, part_text, part_left, field_of, value_text}
use Rattle.sercos_answer.specs.Answer.{line_feed}
use Rattle.sercos_app.specs.Generating.{first_text, gen_line}

of_one_drive : gen_line 1 (record { cycles = 398; phase = 4; complete = 1; refused = 0; broken = 0; falls = 0; unseen = 0; phase4 = Some 186 })
    ≡ codes "gen 1 cycles 398 phase4 186 complete 1 refused 0 broken 0 falls 0 unseen 0" ++ line_feed
unfolding gen_line first_text line_text part_text part_left field_of value_text digits
of_one_drive = refl

of_none_in_phase_4 : gen_line 2 (record { cycles = 700; phase = 0; complete = 1; refused = 2; broken = 3; falls = 4; unseen = 5; phase4 = None })
    ≡ codes "gen 2 cycles 700 phase4 none complete 1 refused 2 broken 3 falls 4 unseen 5" ++ line_feed
unfolding gen_line first_text line_text part_text part_left field_of value_text digits
of_none_in_phase_4 = refl
