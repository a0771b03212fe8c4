-- Data blocks that keep their rules one after another, and the ranges of their numbers.
use Rattle.std.proofs.Common.{◌≡◌, ℕ, zero, suc, ◌<◌, true, List, [], ◌∷◌, ◌++◌, length, None, refl, sym, subst, ◌∙◌, get_or, append_assoc, append-nil, arith}
use Rattle.std.specs.Prelude.{option_map}
use Rattle.std.specs.Int.{w16, w32, to_le_bytes}
use Rattle.std.specs.List.{list_all}
use Rattle.std.proofs.lemmas.Bool.Decides.{nat_tests}
use Rattle.std.proofs.lemmas.List.Folds.{list_all-append}
use Rattle.sercos_model.specs.Bits.{AreBytes}
use Rattle.sercos_model.proofs.BitLemmas.{AreBytes-by_index}
use Rattle.sercos_model.proofs.FaultLemmas.{none_of-or}
use Rattle.sercos_idn.specs.declared.attribute.Attribute.{Attribute}
use Rattle.sercos_idn.specs.declared.kinds.Length.{Length}
use Rattle.sercos_idn.specs.declared.kinds.Length.TheVariants.{Two, Four, List1, List2, List4}
use Rattle.sercos_block.specs.declared.block.Block.{Block}
use Rattle.sercos_block.specs.Blocks.{bytes_for, width_of}
use Rattle.sercos_block.specs.Rules.{block_fault, blocks_fault}
use Rattle.sercos_block.specs.Stores.{is_typed}
use Rattle.sercos_block.proofs.TypeLemmas.{bytes_from, typed_from}

-- one block more
blocks_fault-append : (before xs : List Block) (b : Block) → blocks_fault before xs ≡ None → block_fault (before ++ xs) b ≡ None
    → blocks_fault before (xs ++ b ∷ []) ≡ None
unfolding blocks_fault
blocks_fault-append before [] b h k = let first = rw append-nil at k in rw first refl
blocks_fault-append before (x ∷ xs) b h k =
    let parts = none_of-or (option_map (λ field. record { index = length before; field = field }) (block_fault before x)) (blocks_fault (before ++ x ∷ []) xs) h in
    rw (parts.0, blocks_fault-append (before ++ x ∷ []) xs b parts.1 (rw append_assoc k)) refl

-- the blocks so far, and one more
pub blocks_none : blocks_fault [] [] ≡ None
unfolding blocks_fault
blocks_none = refl

pub blocks_more : (xs : List Block) (b : Block) → blocks_fault [] xs ≡ None → block_fault xs b ≡ None → blocks_fault [] (xs ++ b ∷ []) ≡ None
blocks_more xs b h k = blocks_fault-append [] xs b h k

pub typed_more : (xs : List Block) (b : Block) → list_all is_typed xs ≡ true → is_typed b ≡ true → list_all is_typed (xs ++ b ∷ []) ≡ true
typed_more xs b h k = list_all-append is_typed xs (b ∷ []) ∙ rw (h, k) refl

-- the bytes of a number are bytes
two_bytes : (n : ℕ) → AreBytes (to_le_bytes w16 n)
two_bytes n = AreBytes-by_index (to_le_bytes w16 n) each
  where
    each : (i : ℕ) → get_or (to_le_bytes w16 n) i 0 < 256
    each zero = omega arith
    each (suc zero) = omega arith
    each (suc (suc i)) = omega arith

four_bytes : (n : ℕ) → AreBytes (to_le_bytes w32 n)
four_bytes n = AreBytes-by_index (to_le_bytes w32 n) each
  where
    each : (i : ℕ) → get_or (to_le_bytes w32 n) i 0 < 256
    each zero = omega arith
    each (suc zero) = omega arith
    each (suc (suc zero)) = omega arith
    each (suc (suc (suc zero))) = omega arith
    each (suc (suc (suc (suc i)))) = omega arith

pub bytes_typed : (a : Attribute) (bits : ℕ) → AreBytes (bytes_for a bits)
bytes_typed a bits = by a.length
  where
    by : (l : Length) → AreBytes (to_le_bytes (width_of l) bits)
    by Two = two_bytes bits
    by Four = four_bytes bits
    by List1 = four_bytes bits
    by List2 = four_bytes bits
    by List4 = four_bytes bits

pub is_typed_bytes : (bytes : List ℕ) (a : Attribute) (bits : ℕ) → bytes ≡ bytes_for a bits → AreBytes bytes
is_typed_bytes bytes a bits is = subst AreBytes (sym is) (bytes_typed a bits)

pub none_typed : (bytes : List ℕ) → bytes ≡ [] → AreBytes bytes
unfolding AreBytes
none_typed bytes is = subst AreBytes (sym is) tt

-- the numbers of a block are those of their types
pub typed_by : (b : Block) → b.idn.raw < 65536 → b.attribute.factor < 65536 → b.step < 4294967296 → AreBytes b.value → is_typed b ≡ true
typed_by b number factor step bytes =
    typed_from b (grind (arith, nat_tests)) (grind (arith, nat_tests)) (grind (arith, nat_tests)) (bytes_from b.value bytes)
