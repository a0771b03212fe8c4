-- What a drive holds of the plan, by its writes. Each list has its newest item first.
use Rattle.std.specs.Prelude.{◌≡◌, ℕ, ◌≤◌, true, List, [], ◌∷◌, Some}
use Rattle.sercos_step.specs.declared.request.Request.{Request}
use Rattle.sercos_step.specs.declared.request.Request.TheVariants as request
use Rattle.sercos_timing.specs.Views.{PlanView}
use Rattle.sercos_block.specs.declared.block.Block.{Block}
use Rattle.sercos_block.specs.Blocks.{is_protected}
use Rattle.sercos_block.specs.Stores.{find_block}
use Rattle.sercos_service_drive.specs.Writes.{Write}
use Rattle.sercos_seat.specs.Ring.{Known}
use Rattle.sercos_seat.specs.Agenda.{writes}
use Rattle.sercos_master.specs.Annals.{Past}
use Rattle.sercos_law_channel.specs.Handshake.Transfers.{stored}
use Rattle.sercos_law_channel.specs.Handshake.Values.{newest_to}

-- A write is held if the newest of the drive's writes to its identifier number has its bytes.
abbrev pub IsHeld : List Block → List Write → Request → Type 0
IsHeld blocks writes (request.Read idn e) = Unit {0}
IsHeld blocks writes (request.Write idn e bytes) = (b : Block) → find_block idn.raw blocks ≡ Some b →
    newest_to idn.raw writes ≡ Some (stored b bytes)
IsHeld blocks writes (request.Command idn) = Unit {0}

abbrev pub AreHeld : List Block → List Write → List Request → Type 0
AreHeld blocks writes [] = Unit {0}
AreHeld blocks writes (r ∷ requests) = IsHeld blocks writes r × AreHeld blocks writes requests

-- If phase 3 or 4 is commanded next, the master has a plan, and the newest write of the drive to each identifier number of the
-- start-up is that of this plan, whether or not the drive has fallen since.
abbrev pub HoldsThePlan : Known → ℕ → List Block → Past → List Write → Type 0
HoldsThePlan s k blocks p own = 3 ≤ p.now.phase → (plan : PlanView) × (p.plan ≡ Some plan) × AreHeld blocks own (writes s plan k)

-- the blocks with these numbers are write protected in phases 3 and 4
abbrev pub AreProtected : List Block → List ℕ → Type 0
AreProtected blocks [] = Unit {0}
AreProtected blocks (raw ∷ numbers) =
    ((b : Block) → find_block raw blocks ≡ Some b → (is_protected b.attribute 3 ≡ true) × (is_protected b.attribute 4 ≡ true)) ×
    AreProtected blocks numbers
