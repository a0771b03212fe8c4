-- The values that are written.
use Rattle.std.specs.Prelude.{ℕ, ◌*◌, length, max}
use Rattle.sercos_text.specs.Templates.{Value}
use Rattle.sercos_text.specs.Templates.Value.{number, signed, bytes, ident}
use Rattle.sercos_text.specs.declared.writer.Given.{Given}
use Rattle.sercos_text.specs.declared.writer.Given.TheVariants.{Number, Signed, Bytes, Ident}

-- the value of a field, as a definition's value
abbrev pub value_of : Given → Value
value_of (Number n) = number n
value_of (Signed z) = signed z
value_of (Bytes list) = bytes list.now
value_of (Ident idn) = ident idn.raw

-- the most bytes of a value's text: ten digits, eleven with a sign, two for each byte (at least
-- one), eight for an identifier number
abbrev pub most_bytes : Value → ℕ
most_bytes (number n) = 10
most_bytes (signed z) = 11
most_bytes (bytes list) = max 1 (2 * length list)
most_bytes (ident raw) = 8
