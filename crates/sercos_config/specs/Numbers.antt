-- The numbers and lists of a data block's keys: minimum, maximum, most bytes and operation data.
use Rattle.std.specs.Prelude.{ℕ, ℤ, pos, negsuc, ◌-◌, ◌*◌, ◌/◌, ◌%◌, ◌==◌, nat_le, int_le, Bool, not, ◌&&◌, ◌||◌, if◌then◌else◌, List, [], length, codes, Option, Some, None, Ok, Err}
use Rattle.std.specs.List.{list_all}
use Rattle.std.specs.Ordering.{int_eq}
use Rattle.std.specs.Result.{result_ok}
use Rattle.hex.specs.Hex.{decode_of}
use Rattle.toml.specs.Data.{as_integer, as_str}
use Rattle.sercos_idn.specs.declared.attribute.Attribute.{Attribute}
use Rattle.sercos_idn.specs.Codes.{is_list, item_len}
use Rattle.sercos_block.specs.Limits.{most_data}
use Rattle.sercos_block.specs.Blocks.{is_number, is_signed, number_end, bytes_for}
use Rattle.sercos_document.specs.declared.refusal.BadDocument.TheVariants as bad
use Rattle.sercos_document.specs.Paths.{path}
use Rattle.sercos_document.specs.Answers.{Answer, ◌>>=◌, ◌>>◌, demand, or_refused}
use Rattle.sercos_document.specs.Tables.{Located, optional, number}

-- the number is one of the block: of w bits, from 0 to 2^w - 1, or with sign from -2^(w-1) to 2^(w-1) - 1
unfoldable pub is_in_range : Attribute → ℤ → Bool
is_in_range a z =
    if is_signed a.form
    then int_le (negsuc (number_end a.length / 2 - 1)) z && int_le z (pos (number_end a.length / 2 - 1))
    else (int_le (pos 0) z && int_le z (pos (number_end a.length - 1)))

-- its bits, of a negative number in two's complement
unfoldable pub bits_of : Attribute → ℤ → ℕ
bits_of a (pos n) = n
bits_of a (negsuc n) = number_end a.length - 1 - n

-- a minimum or a maximum, if the key is present: only a number has one
abbrev pub limit_or_none : Attribute → List ℕ → Option ℤ → Answer (Option ℕ)
limit_or_none a p None = Ok None
limit_or_none a p (Some z) = demand (is_number a && is_in_range a z) (bad.Range p z) >> Ok (Some (bits_of a z))

unfoldable pub limit_of : Located → List ℕ → Attribute → Answer (Option ℕ)
limit_of t key a = optional as_integer t key >>= limit_or_none a (path t.place key)

-- the most bytes of a list, whole items; a block without a list has none
unfoldable pub list_max_len : Attribute → Located → Answer ℕ
list_max_len a t = do
  most ← number t (codes "max_len") 1 most_data
  demand (most % item_len a.length == 0) (bad.Range (path t.place (codes "max_len")) (pos most))
  Ok most

abbrev pub none_or_refused : List ℕ → Option ℤ → Answer ℕ
none_or_refused p None = Ok 0
none_or_refused p (Some z) = Err (bad.Range p z)

unfoldable pub max_len_of : Attribute → Located → Answer ℕ
max_len_of a t =
    if is_list a.length then list_max_len a t
    else (optional as_integer t (codes "max_len") >>= none_or_refused (path t.place (codes "max_len")))

-- the bytes of a list that a text spells: two hexadecimal digits of either case a byte, at most n bytes, whole items
unfoldable pub list_bytes : ℕ → Attribute → List ℕ → Option (List ℕ)
list_bytes most a text =
    if nat_le (length text) (2 * most) && (length text % (2 * item_len a.length) == 0) then result_ok (decode_of text) else None

-- the operation data of a list: the Range of a text is the number of its own bytes
abbrev pub list_or_empty : ℕ → Attribute → List ℕ → Option (List ℕ) → Answer (List ℕ)
list_or_empty most a p None = Ok []
list_or_empty most a p (Some text) = or_refused (bad.Range p (pos (length text))) (list_bytes most a text)

unfoldable pub list_data : ℕ → Attribute → Located → Answer (List ℕ)
list_data most a t = optional as_str t (codes "data") >>= list_or_empty most a (path t.place (codes "data"))

-- the operation data of a number, and of a procedure command, which is 0
unfoldable pub is_data : Attribute → ℤ → Bool
is_data a z = if a.command then int_eq z (pos 0) else is_in_range a z

abbrev pub number_or_zero : Attribute → List ℕ → Option ℤ → Answer (List ℕ)
number_or_zero a p None = Ok (bytes_for a 0)
number_or_zero a p (Some z) = demand (is_data a z) (bad.Range p z) >> Ok (bytes_for a (bits_of a z))

unfoldable pub number_data : Attribute → Located → Answer (List ℕ)
number_data a t = optional as_integer t (codes "data") >>= number_or_zero a (path t.place (codes "data"))

unfoldable pub data_of : ℕ → Attribute → Located → Answer (List ℕ)
data_of most a t = if is_list a.length then list_data most a t else number_data a t

-- the operation data keeps the block's rule on it
abbrev pub fits_data : ℕ → Attribute → List ℕ → Bool
fits_data most a value =
    if is_list a.length then nat_le (length value) most && (length value % item_len a.length == 0)
    else ((length value == item_len a.length) && (not a.command || list_all (λ byte. byte == 0) value))
