-- Why a content is not a telegram of a layout: the first of length, address and field that is
-- wrong.
use Rattle.std.specs.Prelude.{ℕ, ◌+◌, ◌==◌, nat_lt, not, List, length, slice_index, Option}
use Rattle.std.specs.Bool.{then_some}
use Rattle.std.specs.Option.{option_or}
use Rattle.sercos_telegram.specs.declared.layout.Layout.{Layout}
use Rattle.sercos_telegram.specs.declared.layout.Layout.TheVariants.{Length, Address, BadField}
use Rattle.sercos_telegram.specs.Spells.{all_drives}

-- the content has another length than the wanted one, or another address
unfoldable pub head_fault : ℕ → ℕ → List ℕ → Option Layout
head_fault wanted address content =
    option_or (then_some (not (length content == wanted)) (Length (length content) wanted))
    (then_some (not (slice_index content 0 == address)) (Address (slice_index content 0) address))

-- an MST's second byte is a phase, 0 to 4
unfoldable pub mst_fault : List ℕ → Option Layout
mst_fault content = option_or (head_fault 2 all_drives content) (then_some (nat_lt 4 (slice_index content 1)) (BadField 1))

-- an MDT for one drive has five bytes
abbrev pub single_fault : ℕ → List ℕ → Option Layout
single_fault address content = head_fault 5 address content

-- an AT has `len` bytes after the address
abbrev pub at_fault : ℕ → ℕ → List ℕ → Option Layout
at_fault address len content = head_fault (1 + len) address content

-- an MDT of phases 3 and 4 has `mdt_len` bytes after the address
abbrev pub joint_fault : ℕ → List ℕ → Option Layout
joint_fault mdt_len content = head_fault (1 + mdt_len) all_drives content
