-- A drive that is held, and what its calls give.
use Rattle.std.specs.Prelude.{◌≡◌, ℕ, ◌<◌, ◌⊎◌, nat_lt, if◌then◌else◌, Bool, true, false, List, [], length, Option, Some, None, option_and_then, Result, Ok, Err}
use Rattle.sercos_block.specs.declared.block.Block.{Block}
use Rattle.sercos_block.specs.Blocks.{element_of}
use Rattle.sercos_block.specs.Views.{DriveView}
use Rattle.sercos_block.specs.Stores.{read_fault}
use Rattle.sercos_drive.specs.Heard.{DriveCall}
use Rattle.sercos_drive.specs.Kept.{DriveState, DriveStandsFor}
use Rattle.sercos_drive.specs.Says.{Said}
use Rattle.sercos_law_run.specs.Journal.Runs.{drive_at}
use Rattle.sercos_document.specs.declared.refusal.BadDocument.{BadDocument}
use Rattle.sercos_document.specs.declared.refusal.BadDocument.TheVariants as bad
use Rattle.sercos_config.specs.Views.{DocumentView}
use Rattle.sercos_config.specs.Document.{document_of}
use Rattle.sercos_c.specs.Statuses.{done, answer_no, refused, closed}
use Rattle.sercos_c.specs.Room.{IsPut, IsNothing}
use Rattle.sercos_c.specs.declared.station.Station.{Station}
use Rattle.sercos_c.specs.declared.station.Station.TheVariants as station

-- whether it is one
abbrev pub is_drive : Option Station → Bool
is_drive (Some (station.Drive v)) = true
is_drive _ = false

-- the status of a call that always does what it does
abbrev pub drive_status : Option Station → ℕ
drive_status held = if is_drive held then done else closed

-- a drive is held, and it stands for these calls
abbrev pub HoldsDrive : Option Station → DriveView → ℕ → List DriveCall → Type 0
HoldsDrive (Some (station.Drive v)) d rate h = DriveStandsFor v d rate h
HoldsDrive _ d rate h = ⊥

-- the status of opening the drive at a place of a document, if there is memory
abbrev pub place_status : Result DocumentView BadDocument → ℕ → ℕ
place_status (Ok document) place = if nat_lt place (length document.setup.drives) then done else answer_no
place_status (Err why) place = refused

-- the bytes are a document, and the drive at this place of its ring is held, before its first call
pub record OpensAt (bytes : List ℕ) (place : ℕ) (held : Option Station) : Type 0 where
  pub document : DocumentView
  pub is : document_of bytes ≡ Ok document
  pub within : place < length document.setup.drives
  pub stands : HoldsDrive held (drive_at document.setup place) document.setup.rate []

-- what opening it gives: the drive, or that there is no such place, or why there is none
abbrev pub IsOpening : List ℕ → ℕ → Result (Option DriveState) BadDocument → Type 0
IsOpening bytes place (Ok (Some v)) = (place_status (document_of bytes) place ≡ done) × OpensAt bytes place (Some (station.Drive v))
IsOpening bytes place (Ok None) = place_status (document_of bytes) place ≡ answer_no
IsOpening bytes place (Err why) = (why ≡ bad.Memory) ⊎ (place_status (document_of bytes) place ≡ refused)

-- what arrived at a place
abbrev pub arrival : Bool → List ℕ → Option (List ℕ)
arrival arrived content = if arrived then Some content else None

-- The AT was written, if it has room, and its start; or none is sent, and the start stayed as it was.
pub data IsSaid (said : Option Said) (before after : List ℕ) (count old start result : ℕ) : Type 0 where
  an_at : {one : Said} → said ≡ Some one → IsPut one.content before after count result → start ≡ one.start →
      IsSaid said before after count old start result
  no_at : said ≡ None → IsNothing answer_no before after count result → start ≡ old → IsSaid said before after count old start result

-- the bytes of an element of a block, if there is one
abbrev pub bytes_in : Option Block → ℕ → Option (List ℕ)
bytes_in block element = option_and_then (λ b. element_of b element) block

-- The bytes of the element were written, if they have room; or there are none, and the code says why.
pub data IsElement (block : Option Block) (element : ℕ) (before after : List ℕ) (count code result : ℕ) : Type 0 where
  an_element : {bytes : List ℕ} → bytes_in block element ≡ Some bytes → read_fault block element ≡ None →
      IsPut bytes before after count result
      → code ≡ 0 → IsElement block element before after count code result
  no_element : {why : ℕ} → read_fault block element ≡ Some why → IsNothing answer_no before after count result → code ≡ why
      → IsElement block element before after count code result
