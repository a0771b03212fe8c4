-- A request of a document.
use Rattle.std.specs.Prelude.{ℕ, pos, ◌++◌, ◌*◌, nat_le, not, Bool, true, false, List, [], ◌∷◌, length, codes, if◌then◌else◌, Option, Some, None, Ok}
use Rattle.std.specs.Str.{bytes_eq}
use Rattle.std.specs.Result.{result_ok}
use Rattle.hex.specs.Hex.{decode_of}
use Rattle.toml.specs.Data.{Members, as_str}
use Rattle.sercos_idn.specs.declared.idn.Idn.{Idn}
use Rattle.sercos_block.specs.Limits.{most_data}
use Rattle.sercos_block.specs.Views.{DriveView}
use Rattle.sercos_block.specs.Rings.{has_other_data}
use Rattle.sercos_step.specs.declared.request.Request.{Request}
use Rattle.sercos_step.specs.declared.request.Request.TheVariants as request
use Rattle.sercos_step.specs.declared.request.Job.{Job}
use Rattle.sercos_config.specs.declared.request.RequestKind.{RequestKind}
use Rattle.sercos_config.specs.declared.request.RequestKind.TheVariants.{Read, Write, Command}
use Rattle.sercos_document.specs.declared.path.Place.TheVariants as place
use Rattle.sercos_document.specs.declared.refusal.BadDocument.TheVariants as bad
use Rattle.sercos_document.specs.Paths.{path}
use Rattle.sercos_document.specs.Answers.{Answer, ◌>>=◌, ◌>>◌, demand, or_refused}
use Rattle.sercos_document.specs.Tables.{Located, required, number_or, known}
use Rattle.sercos_config.specs.Block.{idn_under}
use Rattle.sercos_config.specs.Words.{glimpse, word, key_if, address_under}

-- the words of `kind`
unfoldable pub request_kind : List ℕ → Option RequestKind
request_kind text =
    if bytes_eq text (codes "read") then Some Read
    else (if bytes_eq text (codes "write") then Some Write
    else (if bytes_eq text (codes "command") then Some Command else None))

-- which keys count for a kind; all of them where `kind` is absent or none of its words
unfoldable pub has_element : Option RequestKind → Bool
has_element (Some Command) = false
has_element _ = true

unfoldable pub has_data : Option RequestKind → Bool
has_data None = true
has_data (Some Read) = false
has_data (Some Write) = true
has_data (Some Command) = false

unfoldable pub keys_if : Bool → Bool → List (List ℕ)
keys_if element bytes = codes "drive" ∷ codes "kind" ∷ codes "idn" ∷ key_if element (codes "element") ∷ key_if bytes (codes "data") ∷ []

unfoldable pub request_keys : Option RequestKind → List (List ℕ)
request_keys kind = keys_if (has_element kind) (has_data kind)

-- the bytes that a text spells, not too many: two hexadecimal digits of either case a byte
unfoldable pub bytes_spelled : List ℕ → Option (List ℕ)
bytes_spelled text = if nat_le (length text) (2 * most_data) then result_ok (decode_of text) else None

-- the bytes to write; otherwise Range with the number of the text's own bytes
unfoldable pub bytes_under : Located → List ℕ → Answer (List ℕ)
bytes_under t key = do
  text ← required as_str t key
  or_refused (bad.Range (path t.place key) (pos (length text))) (bytes_spelled text)

-- What a request of a kind does. The identifier number of a command is that of a procedure command if the drive has it;
-- otherwise Range with the raw number. A number that the drive lacks is accepted, and the drive refuses it.
unfoldable pub asked_of : List DriveView → ℕ → RequestKind → Idn → Located → Answer Request
asked_of drives address Read idn t = do
  element ← number_or t (codes "element") 1 7 7
  Ok (request.Read idn element)
asked_of drives address Write idn t = do
  element ← number_or t (codes "element") 2 7 7
  bytes ← bytes_under t (codes "data")
  Ok (request.Write idn element bytes)
asked_of drives address Command idn t = do
  demand (not (has_other_data address idn.raw drives)) (bad.Range (path t.place (codes "idn")) (pos idn.raw))
  Ok (request.Command idn)

-- the request of a table, in a ring of these drives
unfoldable pub request_of : List DriveView → Located → Answer Job
request_of drives t = do
  known t (request_keys (glimpse request_kind t (codes "kind")))
  drive ← address_under drives t (codes "drive")
  kind ← word request_kind t (codes "kind")
  idn ← idn_under t (codes "idn")
  request ← asked_of drives drive kind idn t
  Ok (record { drive = drive; request = request })

-- the requests of these tables, after those
unfoldable pub requests_onto : List DriveView → List Job → List Members → Answer (List Job)
requests_onto drives done [] = Ok done
requests_onto drives done (t ∷ ts) =
    request_of drives (record { place = place.Request (length done); members = t }) >>= (λ job. requests_onto drives (done ++ job ∷ []) ts)
