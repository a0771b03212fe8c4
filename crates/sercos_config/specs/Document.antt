-- What a document says, or its first refusal: the top table, then the ring's, then each drive's with its blocks, each
-- request and each fault; the length of the MDT and the order are checked after all drives.
use Rattle.std.specs.Prelude.{ℕ, pos, nat_le, List, [], ◌∷◌, codes, if◌then◌else◌, Option, Some, None, Ok, Err}
use Rattle.std.specs.Str.{is_utf8}
use Rattle.toml.specs.Data.{Members, as_table}
use Rattle.toml.specs.Parse.{parse_document}
use Rattle.sercos_timing.specs.Limits.{most_drives, most_records}
use Rattle.sercos_block.specs.Views.{RingView}
use Rattle.sercos_block.specs.Rings.{mdt_len}
use Rattle.sercos_document.specs.declared.path.Place.TheVariants as place
use Rattle.sercos_document.specs.declared.refusal.BadDocument.TheVariants as bad
use Rattle.sercos_document.specs.Paths.{path}
use Rattle.sercos_document.specs.Answers.{Answer, ◌>>=◌, ◌>>◌, demand}
use Rattle.sercos_document.specs.Tables.{Located, required, known}
use Rattle.sercos_document.specs.Lists.{required_tables, tables}
use Rattle.sercos_config.specs.Drive.{drives_onto}
use Rattle.sercos_config.specs.Ring.{head_of, order_of}
use Rattle.sercos_config.specs.Request.{requests_onto}
use Rattle.sercos_config.specs.Fault.{faults_onto}
use Rattle.sercos_config.specs.Views.{DocumentView}

unfoldable pub top_keys : List (List ℕ)
top_keys = codes "ring" ∷ codes "drive" ∷ codes "request" ∷ codes "fault" ∷ []

-- the table at the top, and that of the ring
abbrev pub top : Members → Located
top members = record { place = place.Top; members = members }

abbrev pub of_ring : Members → Located
of_ring members = record { place = place.Ring; members = members }

-- the ring of its own table, with the drives of these
unfoldable pub ring_of : Members → List Members → Answer RingView
ring_of ring tables = do
  head ← head_of (of_ring ring)
  drives ← drives_onto [] tables
  demand (nat_le (mdt_len drives) most_records) (bad.Range (path place.Top (codes "ring")) (pos (mdt_len drives)))
  order ← order_of drives (of_ring ring)
  Ok (record {
    rate = head.rate;
    cycle = head.cycle;
    control = head.control;
    gap = head.gap;
    cycles = head.cycles;
    order = order;
    drives = drives;
  })

-- what the table of a document says
unfoldable pub document_in : Members → Answer DocumentView
document_in members = do
  known (top members) top_keys
  ring ← required as_table (top members) (codes "ring")
  drives ← required_tables (top members) (codes "drive") 1 most_drives
  requests ← tables (top members) (codes "request") 0 4096
  faults ← tables (top members) (codes "fault") 0 4096
  setup ← ring_of ring drives
  jobs ← requests_onto setup.drives [] requests
  script ← faults_onto setup.drives [] faults
  Ok (record { setup = setup; jobs = jobs; faults = script })

-- the table that a text is, which is TOML
unfoldable pub table_of : List ℕ → Option Members
table_of bytes = if is_utf8 bytes then parse_document bytes else None

abbrev pub document_or_toml : Option Members → Answer DocumentView
document_or_toml None = Err bad.Toml
document_or_toml (Some members) = document_in members

-- what a document says
unfoldable pub document_of : List ℕ → Answer DocumentView
document_of bytes = document_or_toml (table_of bytes)
