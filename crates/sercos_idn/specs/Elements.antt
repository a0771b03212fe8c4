-- The elements of a data block (IEC 61491:1995), by their numbers in a control word.
use Rattle.std.specs.Prelude.{ℕ}

-- the identifier number: a write of it opens the block, and a read of it returns the data status
abbrev pub identifier_element : ℕ
identifier_element = 1

abbrev pub name_element : ℕ
name_element = 2

abbrev pub attribute_element : ℕ
attribute_element = 3

abbrev pub unit_element : ℕ
unit_element = 4

abbrev pub minimum_element : ℕ
minimum_element = 5

abbrev pub maximum_element : ℕ
maximum_element = 6

-- the operation data
abbrev pub data_element : ℕ
data_element = 7
