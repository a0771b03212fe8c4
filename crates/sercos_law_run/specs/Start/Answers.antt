-- What a drive answers to the master's first reads, and that the master's planner input is the ring's.
use Rattle.std.specs.Prelude.{◌≡◌, ℕ, ◌<◌, ◌==◌, true, List, [], ◌∷◌, ◌++◌, Some, None, option_and_then, unwrap_or, slice_get}
use Rattle.std.specs.List.{All, list_all, list_any}
use Rattle.sercos_idn.specs.declared.idn.Idn.{Idn}
use Rattle.sercos_step.specs.declared.request.Request.{Request}
use Rattle.sercos_step.specs.declared.request.Request.TheVariants as request
use Rattle.sercos_step.specs.declared.request.Outcome.{Outcome}
use Rattle.sercos_step.specs.declared.request.Outcome.TheVariants as outcome
use Rattle.sercos_block.specs.declared.block.Block.{Block}
use Rattle.sercos_block.specs.Blocks.{element_of}
use Rattle.sercos_block.specs.Rules.{blocks_fault}
use Rattle.sercos_block.specs.Rings.{cyclic_len, is_ring, wishes_of}
use Rattle.sercos_block.specs.Stores.{find_block, is_typed}
use Rattle.sercos_block.specs.Views.{RingView, DriveView}
use Rattle.sercos_seat.specs.Ring.{member_of, known_of}
use Rattle.sercos_seat.specs.Agenda.{bytes_of, long_in, reads, len_said, wishes_given, attribute_stop}
use Rattle.sercos_law_run.specs.Start.StartUp.{IsStoreOf}

-- the bytes of an element of the block with this number
abbrev pub element_read : List Block → ℕ → ℕ → List ℕ
element_read blocks raw e = unwrap_or (option_and_then (λ b. element_of b e) (find_block raw blocks)) []

-- An outcome answers a read: it is complete, with the bytes of the element in a store of the drive, at any time.
abbrev pub IsAnswer : DriveView → Request → Outcome → Type 0
IsAnswer d (request.Read i e) o = (blocks : List Block) × IsStoreOf d blocks × (o ≡ outcome.Complete (element_read blocks i.raw e))
IsAnswer d r o = ⊥

-- the outcomes, oldest first, begin with the answers to these requests
abbrev pub AreAnswers : DriveView → List Request → List Outcome → Type 0
AreAnswers d [] outcomes = Unit {0}
AreAnswers d (r ∷ requests) [] = ⊥
AreAnswers d (r ∷ requests) (o ∷ outcomes) = IsAnswer d r o × AreAnswers d requests outcomes

-- conversion factors have 16 bits
abbrev pub HaveFactors : DriveView → Type 0
HaveFactors d = All (λ (b : Block). b.attribute.factor < 65536) d.blocks

-- So do those of all blocks that keep their types' ranges.
abbrev pub TypedHaveFactors : Type 0
TypedHaveFactors = (d : DriveView) → list_all is_typed d.blocks ≡ true → HaveFactors d

-- If each drive has answered the first reads, the master's planner input is the ring's. It knows the times that the drives
-- declare, and their data blocks, by these answers alone.
abbrev pub AsksAsRing : Type 0
AsksAsRing = (r : RingView) (outcomes : ℕ → List Outcome) → is_ring r ≡ true →
    ((k : ℕ) (d : DriveView) → slice_get r.drives k ≡ Some d → HaveFactors d × AreAnswers d (reads (member_of d)) (outcomes k)) →
    wishes_given (known_of r) outcomes ≡ wishes_of r

-- The attribute that was read determines how many bytes the block adds to a telegram.
abbrev pub SaysLength : Type 0
SaysLength = (d : DriveView) (i : Idn) (o : Outcome) → blocks_fault [] d.blocks ≡ None → HaveFactors d → IsAnswer d (request.Read i 3) o →
    len_said (long_in (bytes_of o)) ≡ cyclic_len d.blocks i.raw

-- So the master stops at none of the attributes that are configured.
abbrev pub NoAttributeStops : Type 0
NoAttributeStops = (r : RingView) (k : ℕ) (d : DriveView) (address : ℕ) (i : Idn) (o : Outcome) → is_ring r ≡ true →
    slice_get r.drives k ≡ Some d → HaveFactors d →
    list_any (λ (j : Idn). j.raw == i.raw) (d.at ++ d.mdt) ≡ true → IsAnswer d (request.Read i 3) o →
    attribute_stop address i (long_in (bytes_of o)) ≡ None
