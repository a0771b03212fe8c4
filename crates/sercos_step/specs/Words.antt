-- Bytes as words of sixteen bits, and the words of an element.
use Rattle.std.specs.Prelude.{ℕ, ◌+◌, ◌*◌, ◌/◌, ◌%◌, ◌==◌, ◌||◌, if◌then◌else◌, List, [], ◌∷◌, length, take, min, is_none}
use Rattle.sercos_idn.specs.declared.kinds.Length.{Length}
use Rattle.sercos_idn.specs.declared.kinds.Length.TheVariants as len
use Rattle.sercos_idn.specs.Codes.{attribute_fault}
use Rattle.sercos_idn.specs.Attributes.{attribute_of}
use Rattle.sercos_idn.specs.Elements.{identifier_element, name_element, attribute_element, unit_element, data_element}
use Rattle.sercos_step.specs.declared.shape.Shape.{Shape}
use Rattle.sercos_step.specs.declared.shape.Shape.TheVariants as shape

-- bytes two by two, the low byte first; a last odd byte is completed with a 0
abbrev pub words_of : List ℕ → List ℕ
words_of [] = []
words_of (low ∷ []) = low ∷ []
words_of (low ∷ high ∷ bytes) = (low + 256 * high) ∷ words_of bytes

-- the bytes of words, the low byte of each first
abbrev pub bytes_in : List ℕ → List ℕ
bytes_in [] = []
bytes_in (word ∷ words) = (word % 256) ∷ (word / 256) ∷ bytes_in words

-- the length in the word of an attribute; an invalid word counts as the attribute of a value of two
-- bytes
abbrev pub length_said : ℕ → Length
length_said word = if is_none (attribute_fault word) then (attribute_of word).length else len.Two

-- the shape of operation data with a length
abbrev pub shape_by : Length → Shape
shape_by len.Two = shape.One
shape_by len.Four = shape.Two
shape_by _ = shape.List

-- the minimum and the maximum of a list are one word
abbrev pub as_value : Shape → Shape
as_value shape.List = shape.One
as_value s = s

-- How the words of an element are laid out, given the word of the attribute. The data status is one
-- word, the attribute two. Name and unit are lists. The attribute decides on minimum, maximum and
-- operation data.
abbrev pub shape_of : ℕ → ℕ → Shape
shape_of e word =
    if e == identifier_element then shape.One
    else (if e == attribute_element then shape.Two
    else (if (e == name_element) || (e == unit_element) then shape.List
    else (if e == data_element then shape_by (length_said word) else as_value (shape_by (length_said word)))))

-- The number of words of a list that is read: its length in bytes, its greatest length, and then
-- its bytes. It is cut to 1024 bytes.
abbrev pub words_in_list : ℕ → ℕ
words_in_list actual = 2 + (min actual 1024 + 1) / 2

-- the number of words of an element, given its first word
abbrev pub words_in : Shape → ℕ → ℕ
words_in shape.One first = 1
words_in shape.Two first = 2
words_in shape.List first = words_in_list first

abbrev pub at_least_one : List ℕ → List ℕ
at_least_one [] = 0 ∷ []
at_least_one (word ∷ words) = word ∷ words

-- the words that write these bytes: a list has its length and a 0 before them, and anything else
-- has at least one word
abbrev pub words_told : Shape → List ℕ → List ℕ
words_told shape.List bytes = length bytes ∷ 0 ∷ words_of bytes
words_told _ bytes = at_least_one (words_of bytes)

-- the bytes of an element, from its words
abbrev pub bytes_read : Shape → List ℕ → List ℕ
bytes_read shape.List (actual ∷ longest ∷ words) = take (min actual 1024) (bytes_in words)
bytes_read shape.List _ = []
bytes_read _ words = bytes_in words
