-- An entry counts only in the round in which it was noted.
use Rattle.std.specs.Prelude.{ℕ, ◌==◌, ◌≤◌, Bool, if◌then◌else◌, Option, Some, None}
use Rattle.sercos_check.specs.declared.marks.Mark.{Mark}
use Rattle.sercos_check.specs.declared.marks.Noted.{Noted}

abbrev pub is_round : ℕ → ℕ → Bool
is_round now round = round == now

abbrev pub mark_of_round : ℕ → Noted → Option Mark
mark_of_round now noted = if is_round now noted.round then Some noted.mark else None

-- a round is not later than the current one
abbrev pub is_no_later : ℕ → ℕ → Type 0
is_no_later now round = round ≤ now

abbrev pub was_noted : ℕ → Noted → Type 0
was_noted now noted = noted.round ≤ now
