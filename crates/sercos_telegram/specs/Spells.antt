-- How the telegrams are spelled, after IEC 61491:1995. The kind of a telegram follows from its
-- place in the cycle, so the layout to read it by is known. Words are sixteen bits, the low byte
-- first.
use Rattle.std.specs.Prelude.{◌≡◌, ℕ, ◌+◌, ◌*◌, ◌≤◌, List, [], ◌∷◌, ◌++◌, length, take, drop, slice_index}
use Rattle.std.specs.Int.{to_le_bytes, w16}
use Rattle.sercos_telegram.specs.declared.words.Control.{Control}
use Rattle.sercos_telegram.specs.declared.words.Status.{Status}
use Rattle.sercos_telegram.specs.Words.{control_word, status_word}

-- the address of the master's telegrams to all drives
abbrev pub all_drives : ℕ
all_drives = 255

-- the bytes of a word
unfoldable pub word_bytes : ℕ → List ℕ
word_bytes word = to_le_bytes w16 word

-- the word whose low byte is at an index
unfoldable pub word_at : List ℕ → ℕ → ℕ
word_at content place = slice_index content place + 256 * slice_index content (place + 1)

-- an MST that commands a phase
abbrev pub mst_content : ℕ → List ℕ
mst_content phase = all_drives ∷ phase ∷ []

-- what follows the address, or is a record: a control or status word, an information word, and
-- values
unfoldable pub fields : ℕ → ℕ → List ℕ → List ℕ
fields word info values = word_bytes word ++ word_bytes info ++ values

-- an MDT of phases 1 and 2, for one drive
abbrev pub single_content : ℕ → Control → ℕ → List ℕ
single_content address control info = address ∷ fields (control_word control) info []

-- an AT
abbrev pub at_content : ℕ → Status → ℕ → List ℕ → List ℕ
at_content address status info values = address ∷ fields (status_word status) info values

-- a drive's record in an MDT of phases 3 and 4
abbrev pub record_bytes : Control → ℕ → List ℕ → List ℕ
record_bytes control info values = fields (control_word control) info values

-- an AT of the drive with an address, with `len` bytes after the address
pub record SpellsAt (address len : ℕ) (status : Status) (info : ℕ) (values content : List ℕ) : Type 0 where
  pub long : length content ≡ 1 + len
  pub whole : content ≡ at_content address status info values

-- An MDT of phases 3 and 4 with `mdt_len` bytes after the address, which has this record of `len`
-- bytes at a position. Position 1 is the first byte after the address. The values fill the rest of
-- the record, so it ends within the content.
pub record SpellsRecord (mdt_len position len : ℕ) (control : Control) (info : ℕ) (values content : List ℕ) : Type 0 where
  pub long : length content ≡ 1 + mdt_len
  pub address : slice_index content 0 ≡ all_drives
  pub behind_address : 1 ≤ position
  pub size : len ≡ 4 + length values
  pub there : take len (drop position content) ≡ record_bytes control info values
