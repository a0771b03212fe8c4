-- What is written to a procedure command.
use Rattle.std.proofs.Common.{◌≡◌, ℕ, ◌==◌, Bool, true, false, cond, not, ◌&&◌, ◌||◌, List, [], ◌∷◌, Option, Some, None, option_map, unwrap_or, ◌⊎◌, refl, ap, ◌∙◌, arith}
use Rattle.std.specs.Prelude.{slice_index}
use Rattle.std.specs.Bool.{then_some}
use Rattle.std.specs.Int.{w16, from_le_bytes}
use Rattle.std.proofs.lemmas.Bool.Decides.{nat_tests}
use Rattle.sercos_model.proofs.FaultLemmas.{none_of-or, none_of-then}
use Rattle.sercos_idn.specs.declared.kinds.Length.{Length}
use Rattle.sercos_idn.specs.declared.kinds.Length.TheVariants.{Two}
use Rattle.sercos_idn.specs.Codes.{is_list}
use Rattle.sercos_step.specs.Words.{words_of}
use Rattle.sercos_block.specs.declared.block.Block.{Block}
use Rattle.sercos_block.specs.Blocks.{width_of}
use Rattle.sercos_block.specs.Stores.{is_short, is_long, is_invalid, find_block, write_fault, data_fault, put_fault}
use Rattle.sercos_command.specs.Settings.{is_command}

setting_by : (length : Length) (command : Bool) (bytes : List ℕ) (other : Bool) → length ≡ Two → command ≡ true
    → (cond (is_list length) other (command && not ((from_le_bytes (width_of length) bytes == 0) || (from_le_bytes (width_of length) bytes == 3)))) ≡ false
    → ((from_le_bytes w16 bytes ≡ 0) ⊎ (from_le_bytes w16 bytes ≡ 3))
setting_by length command bytes other two on h = is (from_le_bytes w16 bytes) (rw (two, on) at h)
  where
    is : (n : ℕ) → not ((n == 0) || (n == 3)) ≡ false → (n ≡ 0) ⊎ (n ≡ 3)
    is n e = grind (arith, nat_tests)

-- what can be written to a procedure command is 0 or 3
pub setting : (raw phase : ℕ) (bytes : List ℕ) (o : Option Block) → put_fault o phase bytes ≡ None → unwrap_or (option_map (λ b. b.attribute.command) o) false ≡ true
    → ((from_le_bytes w16 bytes ≡ 0) ⊎ (from_le_bytes w16 bytes ≡ 3))
unfolding data_fault
setting raw phase bytes None none on = cc
setting raw phase bytes (Some b) none on =
    let (_, after_write) = none_of-or (write_fault (Some b) phase) (data_fault b bytes) none in
    let (_, after_short) = none_of-or (then_some (is_short b bytes) 0x7002) _ after_write in
    let (_, after_long) = none_of-or (then_some (is_long b bytes) 0x7003) _ after_short in
    let (invalid, _) = none_of-or (then_some (is_invalid b bytes) 0x7008) _ after_long in
    setting_by b.attribute.length b.attribute.command bytes _ (b.attribute.command_is_two on) on (none_of-then (is_invalid b bytes) 0x7008 invalid)

-- whether the block is a procedure command, by its attribute
pub command_is : (blocks : List Block) (raw : ℕ) (b : Block) (command : Bool) → Some b ≡ find_block raw blocks → command ≡ b.attribute.command → command ≡ is_command blocks raw
command_is blocks raw b command there is = is ∙ ap (λ o. unwrap_or (option_map (λ (b : Block). b.attribute.command) o) false) there

-- what is written to a procedure command is the first word
pub setting_is : (bytes : List ℕ) → slice_index (words_of bytes) 0 ≡ from_le_bytes w16 bytes
setting_is [] = refl
setting_is (low ∷ []) = omega arith
setting_is (low ∷ high ∷ bytes) = omega arith
