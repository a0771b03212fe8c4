use Rattle.std.proofs.Common.{refl}
use Rattle.sercos_show.specs.Show.{two_words, word_text}
use Rattle.hex.specs.Hex.{encode_with}
use Rattle.sercos_show.proofs.text.at_words.Goals as goal

pub returns : goal.returns
unfolding two_words word_text encode_with
returns c =
    let first = rw (c.unwrap.ensures, c.to_be_bytes.ensures) at c.encode_to_slice.ensures.written in
    let second = rw (c.unwrap-2.ensures, c.to_be_bytes-2.ensures) at c.encode_to_slice-2.ensures.written in
    rw (first, second) refl
