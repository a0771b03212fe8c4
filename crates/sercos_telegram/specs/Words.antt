-- The control and status words, after IEC 61491:1995; the places of the bits are this profile's. A
-- word is the sum of its bits at their places.
use Rattle.std.specs.Prelude.{◌≡◌, ℕ, ◌+◌, ◌*◌, ◌/◌, ◌%◌, ◌<◌, ◌==◌, Bool, cond}
use Rattle.std.proofs.Common.{arith}
use Rattle.sercos_telegram.specs.declared.words.Control.{Control}
use Rattle.sercos_telegram.specs.declared.words.Status.{Status}

-- bit 0 is MHS, bit 1 write, bit 2 the last word of the element, bits 5 to 3 the element; the
-- others are cyclic
abbrev pub control_word : Control → ℕ
control_word c = c.cyclic + cond c.mhs 1 0 + cond c.write 2 0 + cond c.last 4 0 + 8 * c.element

-- bit 0 is AHS, bit 1 busy, bit 2 error, bit 5 the change of a command; the others are cyclic
abbrev pub status_word : Status → ℕ
status_word s = s.cyclic + cond s.ahs 1 0 + cond s.busy 2 0 + cond s.error 4 0 + cond s.change 32 0

-- whether a word has a bit, which is passed as a power of two
abbrev pub has : ℕ → ℕ → Bool
has word bit = word / bit % 2 == 1

-- facts that `control_of` and `status_of` need of the parts of a word
pub control_element : (word : ℕ) → word / 8 % 8 < 8
control_element word = omega arith

pub control_rest : (word : ℕ) → word / 64 * 64 % 64 ≡ 0
control_rest word = omega arith

pub status_rest_low : (word : ℕ) → (word / 64 * 64 + word % 32 / 8 * 8) % 8 ≡ 0
status_rest_low word = omega arith

pub status_rest : (word : ℕ) → (word / 64 * 64 + word % 32 / 8 * 8) % 64 < 32
status_rest word = omega arith

-- the control word of sixteen bits
unfoldable pub control_of : ℕ → Control
control_of word = record {
  mhs = has word 1;
  write = has word 2;
  last = has word 4;
  element = word / 8 % 8;
  cyclic = word / 64 * 64;
  element_in_range = control_element word;
  cyclic_apart = control_rest word;
}

-- the status word of sixteen bits
unfoldable pub status_of : ℕ → Status
status_of word = record {
  ahs = has word 1;
  busy = has word 2;
  error = has word 4;
  change = has word 32;
  cyclic = word / 64 * 64 + word % 32 / 8 * 8;
  cyclic_low = status_rest_low word;
  cyclic_apart = status_rest word;
}
