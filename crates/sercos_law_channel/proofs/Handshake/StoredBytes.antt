-- What the words of a write leave as operation data.
use Rattle.sercos_law_channel.proofs.Words.{◌≡◌, ℕ, List, take, drop, refl, if◌then◌else◌, slice_index, AreBytes, Length, is_list, words_of, bytes_in, shape_by, words_told, at_least_one, Block, bytes_back, stored, bytes_written}
use Rattle.sercos_idn.specs.declared.kinds.Length.TheVariants as len

stored_by : (l : Length) (bytes : List ℕ) → AreBytes bytes → (let words = words_told (shape_by l) bytes in
    (if is_list l then take (slice_index words 0) (bytes_in (drop 2 words)) else bytes_in words) ≡ (if is_list l then bytes else bytes_in (at_least_one (words_of bytes))))
stored_by len.Two bytes are = refl
stored_by len.Four bytes are = refl
stored_by len.List1 bytes are = bytes_back bytes are
stored_by len.List2 bytes are = bytes_back bytes are
stored_by len.List4 bytes are = bytes_back bytes are

pub bytes_written-told : (b : Block) (bytes : List ℕ) → AreBytes bytes → bytes_written b (words_told (shape_by b.attribute.length) bytes) ≡ stored b bytes
unfolding bytes_written
bytes_written-told b bytes are = stored_by b.attribute.length bytes are
