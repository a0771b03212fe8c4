-- Links that are held, or none, and what passes over them.
use Rattle.std.specs.Prelude.{◌≡◌, ℕ, ◌*◌, ◌==◌, nat_le, not, if◌then◌else◌, Bool, true, false, List, length, take, Option, Some, None, is_none, Result, Ok, Err, ◌⊎◌, MatchOption}
use Rattle.sercos_model.specs.Bits.{bits_of}
use Rattle.sercos_hdlc.specs.Reason.{reason_of}
use Rattle.sercos_telegram.specs.declared.layout.Kind.TheVariants as kinds
use Rattle.sercos_script.specs.declared.link.Passage.{Passage}
use Rattle.sercos_script.specs.Scripts.{ScriptView, carried, restarts_at}
use Rattle.sercos_law_run.specs.Journal.Arrivals.{are_same, passage}
use Rattle.sercos_config.specs.Views.{DocumentView}
use Rattle.sercos_config.specs.Document.{document_of}
use Rattle.sercos_document.specs.declared.refusal.BadDocument.{BadDocument}
use Rattle.sercos_document.specs.declared.refusal.BadDocument.TheVariants as bad
use Rattle.sercos_opened.specs.Kept.{script_carry, script_restarts}
use Rattle.sercos_c.specs.Statuses.{done, refused, too_long, write_fault}
use Rattle.sercos_c.specs.Documents.{document_status}
use Rattle.sercos_c.specs.declared.station.Station.{Station}
use Rattle.sercos_c.specs.declared.station.Station.TheVariants as station

-- the links of a document's ring: what they carry, and which stations restart, is what its script says
pub record AreLinksOf (links : ScriptView) (d : DocumentView) : Type 0 where
  pub carries : carried links.stations links.faults ≡ script_carry d
  pub restarts : restarts_at links.faults ≡ script_restarts d

-- whether links are held
abbrev pub is_links : Option Station → Bool
is_links (Some (station.Links l)) = true
is_links _ = false

abbrev pub HoldsLinks : Option Station → DocumentView → Type 0
HoldsLinks (Some (station.Links l)) d = AreLinksOf l d
HoldsLinks _ d = ⊥

-- the bytes are a document, and the links of its ring are held
pub record OpensLinks (bytes : List ℕ) (held : Option Station) : Type 0 where
  pub document : DocumentView
  pub is : document_of bytes ≡ Ok document
  pub holds : HoldsLinks held document

-- what opening them gives: the links, or why there are none
abbrev pub IsLinksOpening : List ℕ → Result ScriptView BadDocument → Type 0
IsLinksOpening bytes (Ok links) = (document_status (document_of bytes) ≡ done) × OpensLinks bytes (Some (station.Links links))
IsLinksOpening bytes (Err why) = (why ≡ bad.Memory) ⊎ (document_status (document_of bytes) ≡ refused)

-- the way of a telegram of a kind that has this number
abbrev pub way_of : ℕ → ℕ → ℕ → ℕ → Option Passage
way_of cycle kind from to =
    if kind == 0 then Some (passage cycle kinds.Mst from to)
    else (if kind == 1 then Some (passage cycle kinds.At from to)
    else (if kind == 2 then Some (passage cycle kinds.Mdt from to) else None))

-- the status of passing `count` bits of `len` bytes, with so much room for what arrives
abbrev pub pass_status : Option Passage → ℕ → ℕ → ℕ → ℕ
pass_status None len count room = refused
pass_status (Some p) len count room =
    if nat_le count (8 * len) then (if nat_le count 19696 then (if nat_le 2462 room then done else write_fault) else too_long) else refused

-- how bits arrive: as they were sent, as another frame, or as no frame
abbrev pub how_of : List Bool → List Bool → ℕ
how_of sent came = if are_same came sent then 0 else (if is_none (reason_of came) then 1 else 2)

abbrev pub nothing_arrives : ℕ
nothing_arrives = 3

-- what the script lets through of the bits sent has been told
abbrev pub IsPassed : DocumentView → Option Passage → List Bool → List ℕ → ℕ → ℕ → Type 0
IsPassed d None sent out arrived how = ⊥
IsPassed d (Some p) sent out arrived how = MatchOption (script_carry d p sent)
    ((arrived ≡ 0) × (how ≡ nothing_arrives))
    (λ came. (arrived ≡ length came) × ((take arrived (bits_of out) ≡ came) × (how ≡ how_of sent came)))

-- nothing was passed
pub record IsUnpassed (before after : List ℕ) (arrived how : ℕ) : Type 0 where
  pub out : after ≡ before
  pub count : arrived ≡ 0
  pub told : how ≡ nothing_arrives
