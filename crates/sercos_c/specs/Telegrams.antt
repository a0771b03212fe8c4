-- The structs of the telegrams, and what they spell.
use Rattle.std.specs.Prelude.{ℕ, [], ◌+◌, ◌*◌, ◌%◌, ◌==◌, nat_lt, nat_le, ◌&&◌, Bool, cond, List, ◌∷◌, Option, Some, None}
use Rattle.sercos_telegram.specs.declared.layout.Layout.{Layout}
use Rattle.sercos_telegram.specs.declared.layout.Layout.TheVariants.{Length, Address, BadField}
use Rattle.sercos_telegram.specs.declared.words.Control.{Control}
use Rattle.sercos_telegram.specs.declared.words.Status.{Status}
use Rattle.sercos_telegram.specs.Spells.{fields}
use Rattle.sercos_c.specs.Statuses.{done, answer_no}
use Rattle.sercos_c.specs.declared.layouts.SercosLayout.{SercosLayout}
use Rattle.sercos_c.specs.declared.telegrams.SercosRecord.{SercosRecord}
use Rattle.sercos_c.specs.declared.telegrams.SercosAt.{SercosAt}

-- the status of a reader: done, if there is no fault
abbrev pub read_status : Option Layout → ℕ
read_status None = done
read_status (Some fault) = answer_no

-- a fault as it is handed over
abbrev pub layout_of : Option Layout → SercosLayout
layout_of None = record { kind = 0; found = 0; wanted = 0 }
layout_of (Some (Length found wanted)) = record { kind = 1; found = found; wanted = wanted }
layout_of (Some (Address found wanted)) = record { kind = 2; found = found; wanted = wanted }
layout_of (Some (BadField place)) = record { kind = 3; found = place; wanted = 0 }

-- the record of a control word and an information word
abbrev pub record_of : Control → ℕ → SercosRecord
record_of control info = record {
  mhs = control.mhs;
  write = control.write;
  last = control.last;
  element = control.element;
  cyclic = control.cyclic;
  info = info;
}

-- the AT of an address, a status word and an information word
abbrev pub at_of : ℕ → Status → ℕ → SercosAt
at_of address status info =
    record {
      address = address;
      ahs = status.ahs;
      busy = status.busy;
      error = status.error;
      change = status.change;
      cyclic = status.cyclic;
      info = info;
    }

-- the fields are in their ranges, and the cyclic bits at their places: 15 to 6 in a record, and in an AT 3 and 4 too
abbrev pub is_record : SercosRecord → Bool
is_record r = nat_lt r.element 8 && (r.cyclic % 64 == 0)

abbrev pub is_at : SercosAt → Bool
is_at a = (a.cyclic % 8 == 0) && nat_lt (a.cyclic % 64) 32

-- the control word and the status word of the fields: the sum of their bits at their places
abbrev pub record_word : SercosRecord → ℕ
record_word r = r.cyclic + cond r.mhs 1 0 + cond r.write 2 0 + cond r.last 4 0 + 8 * r.element

abbrev pub at_word : SercosAt → ℕ
at_word a = a.cyclic + cond a.ahs 1 0 + cond a.busy 2 0 + cond a.error 4 0 + cond a.change 32 0

-- the bytes of a record, of an MDT for one drive, and of an AT
abbrev pub record_content : SercosRecord → List ℕ → List ℕ
record_content r values = fields (record_word r) r.info values

abbrev pub single_of : ℕ → SercosRecord → List ℕ
single_of address r = address ∷ fields (record_word r) r.info []

abbrev pub at_content_of : SercosAt → List ℕ → List ℕ
at_content_of a values = a.address ∷ fields (at_word a) a.info values

-- an MDT with `mdt_len` bytes after its address can have a record of `len` bytes at a position
abbrev pub can_have : ℕ → ℕ → ℕ → Bool
can_have mdt_len position len = nat_le 1 position && (nat_le 4 len && nat_le (position + len) (mdt_len + 1))
