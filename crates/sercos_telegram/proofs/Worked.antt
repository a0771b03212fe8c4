-- Worked values of the definitions, which the checker computes.
use Rattle.std.proofs.Common.{◌≡◌, true, false, [], ◌∷◌, refl, Some, None, arith}
use Rattle.sercos_telegram.specs.declared.layout.Layout.TheVariants.{Length, Address, BadField}
use Rattle.sercos_telegram.specs.declared.words.Control.{Control}
use Rattle.sercos_telegram.specs.declared.words.Status.{Status}
use Rattle.sercos_telegram.specs.Words.{control_of, status_of}
use Rattle.sercos_telegram.specs.Spells.{word_bytes, fields, single_content, at_content}
use Rattle.sercos_telegram.specs.Faults.{head_fault, mst_fault, single_fault}

-- the first step on a service channel: MHS, write, last, element 1
abbrev opening : Control
opening = record { mhs = true; write = true; last = true; element = 1; cyclic = 0; element_in_range = omega arith; cyclic_apart = refl }

-- a drive of address 1 is told to open S-0-0003
opening_content : single_content 1 opening 3 ≡ 1 ∷ 15 ∷ 0 ∷ 3 ∷ 0 ∷ []
unfolding word_bytes fields
opening_content = refl

-- the bits of a status word that are no cyclic ones
abbrev told : Status
told = record { ahs = true; busy = false; error = true; change = true; cyclic = 0; cyclic_low = refl; cyclic_apart = omega arith }

told_content : at_content 1 told 4097 [] ≡ 1 ∷ 37 ∷ 0 ∷ 1 ∷ 16 ∷ []
unfolding word_bytes fields
told_content = refl

-- the cyclic bits of a word that has all
control_cyclic : (control_of 65535).cyclic ≡ 65472
unfolding control_of
control_cyclic = refl

status_cyclic : (status_of 65535).cyclic ≡ 65496
unfolding status_of
status_cyclic = refl

-- contents that spell no MST, or no MDT for one drive
length_first : single_fault 5 (255 ∷ 0 ∷ []) ≡ Some (Length 2 5)
unfolding head_fault
length_first = refl

address_second : mst_fault (136 ∷ 9 ∷ []) ≡ Some (Address 136 255)
unfolding mst_fault head_fault
address_second = refl

field_last : mst_fault (255 ∷ 8 ∷ []) ≡ Some (BadField 1)
unfolding mst_fault head_fault
field_last = refl

last_phase : mst_fault (255 ∷ 4 ∷ []) ≡ None
unfolding mst_fault head_fault
last_phase = refl
