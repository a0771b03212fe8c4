-- A drive's data record in an MDT.
use Rattle.std.specs.Prelude.{ℕ, ◌+◌, ◌*◌, ◌/◌, ◌%◌, List, [], ◌∷◌, ◌++◌, take, cond}
use Rattle.sercos_telegram.specs.Spells.{fields}
use Rattle.sercos_service_master.specs.Begun.{Said}
use Rattle.sercos_seat.specs.Agenda.{len_or_none}

-- the control word of a data record
abbrev pub word_said : Said → ℕ
word_said said = cond said.mhs 1 0 + cond said.step.write 2 0 + cond said.step.last 4 0 + 8 * said.step.element

abbrev pub record_said : Said → List ℕ → List ℕ
record_said said values = fields (word_said said) said.step.word values

-- A command value of `len` bytes in a cycle: the low bytes of the cycle's number.
abbrev pub value_said : ℕ → ℕ → List ℕ
value_said cycle len = take len ((cycle % 256) ∷ (cycle / 256 % 256) ∷ (cycle / 65536 % 256) ∷ (cycle / 16777216 % 256) ∷ [])

-- the command values of these lengths
abbrev pub lens_said : ℕ → List ℕ → List ℕ
lens_said cycle [] = []
lens_said cycle (len ∷ lens) = value_said cycle len ++ lens_said cycle lens

abbrev pub values_said : ℕ → List ℕ → List ℕ
values_said cycle [] = []
values_said cycle (word ∷ words) = value_said cycle (len_or_none word) ++ values_said cycle words
