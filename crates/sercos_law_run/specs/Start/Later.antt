-- Which start-up values a store holds while the master writes them, and after.
use Rattle.std.specs.Prelude.{◌≡◌, ℕ, ◌+◌, ◌==◌, true, false, if◌then◌else◌, List, [], ◌∷◌, take, Some, None, option_map, slice_get}
use Rattle.sercos_idn.specs.declared.attribute.Attribute.{Attribute}
use Rattle.sercos_idn.specs.Codes.{is_list}
use Rattle.sercos_step.specs.Words.{words_of, bytes_in, at_least_one}
use Rattle.sercos_timing.specs.Views.{PlanView}
use Rattle.sercos_block.specs.declared.block.Block.{Block}
use Rattle.sercos_block.specs.Rules.{blocks_fault}
use Rattle.sercos_block.specs.Stores.{find_block, with_data}
use Rattle.sercos_block.specs.Views.{DriveView}
use Rattle.sercos_block.specs.Stores.{are_ascending}
use Rattle.sercos_command.specs.Calls.{CommandHistory, with_check_list}
use Rattle.sercos_law_run.specs.Start.StartUp.{IsStoreOf, Holds, start_up}

-- none of the values has this number
abbrev pub NoneOf : ℕ → List (ℕ × List ℕ) → Type 0
NoneOf raw [] = Unit {0}
NoneOf raw (v ∷ values) = ((v.0 == raw) ≡ false) × NoneOf raw values

-- A write to another block leaves the values as they are.
abbrev pub StayHeld : Type 0
StayHeld = (blocks : List Block) (raw : ℕ) (bytes : List ℕ) (values : List (ℕ × List ℕ)) → NoneOf raw values → Holds blocks values →
    Holds (with_data raw bytes blocks) values

-- If a drive's store holds the first n start-up values, and the next one is written, it holds the first n + 1.
abbrev pub HoldsNext : Type 0
HoldsNext = (d : DriveView) (blocks : List Block) (control cycle k : ℕ) (p : PlanView) (n : ℕ) (v : ℕ × List ℕ) → IsStoreOf d blocks →
    slice_get (start_up control cycle p k d.at d.mdt) n ≡ Some v → Holds blocks (take n (start_up control cycle p k d.at d.mdt)) →
    Holds (with_data v.0 v.1 blocks) (take (n + 1) (start_up control cycle p k d.at d.mdt))

-- The block with this number is write protected in phases 3 and 4, and not in phase 2.
abbrev pub IsProtectedLater : List Block → ℕ → Type 0
IsProtectedLater blocks raw =
    (a : Attribute) × (option_map (λ (b : Block). b.attribute) (find_block raw blocks) ≡ Some a) × (a.protect2 ≡ false) ×
    (a.protect3 ≡ true) × (a.protect4 ≡ true)

abbrev pub AreProtectedLater : List Block → List (ℕ × List ℕ) → Type 0
AreProtectedLater blocks [] = Unit {0}
AreProtectedLater blocks (v ∷ values) = IsProtectedLater blocks v.0 × AreProtectedLater blocks values

-- So are the blocks of all start-up values.
abbrev pub StartUpIsProtected : Type 0
StartUpIsProtected = (d : DriveView) (blocks : List Block) (control cycle k : ℕ) (p : PlanView) → blocks_fault [] d.blocks ≡ None →
    IsStoreOf d blocks →
    AreProtectedLater blocks (start_up control cycle p k d.at d.mdt)

-- The check for phase 3 can be set in phase 2 alone, and the check for phase 4 in phase 3 alone.
abbrev pub IsProtectedBut3 : List Block → ℕ → Type 0
IsProtectedBut3 blocks raw =
    (a : Attribute) × (option_map (λ (b : Block). b.attribute) (find_block raw blocks) ≡ Some a) × (a.protect2 ≡ true) ×
    (a.protect3 ≡ false) × (a.protect4 ≡ true)

abbrev pub ChecksAreProtected : Type 0
ChecksAreProtected = (d : DriveView) (blocks : List Block) → blocks_fault [] d.blocks ≡ None → IsStoreOf d blocks →
    IsProtectedLater blocks 127 × IsProtectedBut3 blocks 128

-- What the words of a write leave in a block is the value itself: its block is a list, or the value is one word.
abbrev pub AreStoredWhole : List Block → List (ℕ × List ℕ) → Type 0
AreStoredWhole blocks [] = Unit {0}
AreStoredWhole blocks (v ∷ values) =
    ((b : Block) → find_block v.0 blocks ≡ Some b → (if is_list b.attribute.length then v.1 else bytes_in (at_least_one (words_of v.1))) ≡
    v.1) × AreStoredWhole blocks values

-- So it is for all start-up values.
abbrev pub StoresStartUpWhole : Type 0
StoresStartUpWhole = (d : DriveView) (blocks : List Block) (control cycle k : ℕ) (p : PlanView) → blocks_fault [] d.blocks ≡ None →
    IsStoreOf d blocks →
    AreStoredWhole blocks (start_up control cycle p k d.at d.mdt)

-- The lists that the checks write change nothing that no write changes, and no value with another number.
abbrev pub ListsStay : Type 0
ListsStay = (d : DriveView) (c : CommandHistory) (blocks : List Block) (raw value : ℕ) → are_ascending blocks ≡ true →
    (IsStoreOf d blocks → IsStoreOf d (with_check_list c raw value blocks))
    × ((values : List (ℕ × List ℕ)) → NoneOf 21 values → NoneOf 22 values → Holds blocks values →
    Holds (with_check_list c raw value blocks) values)
