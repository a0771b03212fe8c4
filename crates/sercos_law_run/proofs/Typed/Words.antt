-- Bytes and words.
use Rattle.sercos_law_run.proofs.Words.{ℕ, zero, suc, ◌+◌, ◌<◌, List, [], ◌∷◌, ◌++◌, arith, slice_index, AreBytes-get_or, words_of, bytes_in, AreBytes, word_at}

-- each number fits into sixteen bits
abbrev pub AreWords : List ℕ → Type 0
AreWords [] = Unit {0}
AreWords (word ∷ words) = (word < 65536) × AreWords words

pub word_of : (words : List ℕ) (i : ℕ) → AreWords words → slice_index words i < 65536
word_of [] i are = omega arith
word_of (word ∷ words) zero are = are.0
word_of (word ∷ words) (suc i) are = word_of words i are.1

pub words_append : (xs ys : List ℕ) → AreWords xs → AreWords ys → AreWords (xs ++ ys)
words_append [] ys left right = right
words_append (x ∷ xs) ys left right = (left.0, words_append xs ys left.1 right)

pub words_of_bytes : (bytes : List ℕ) → AreBytes bytes → AreWords (words_of bytes)
unfolding AreBytes
words_of_bytes [] are = tt
words_of_bytes (low ∷ []) are = let a : low < 256 = are.0 in (omega (arith, a), tt)
words_of_bytes (low ∷ high ∷ bytes) are = let a : low < 256 = are.0 in let b : high < 256 = are.1.0 in (omega (arith, a, b), words_of_bytes bytes are.1.1)

pub bytes_of_words : (words : List ℕ) → AreWords words → AreBytes (bytes_in words)
unfolding AreBytes
bytes_of_words [] are = tt
bytes_of_words (word ∷ words) are = let a : word < 65536 = are.0 in (omega arith, (omega (arith, a), bytes_of_words words are.1))

-- a word that is read from bytes
pub read_word : (content : List ℕ) (place : ℕ) → AreBytes content → word_at content place < 65536
unfolding word_at
read_word content place are =
    let a : slice_index content place < 256 = AreBytes-get_or content place are in
    let b : slice_index content (place + 1) < 256 = AreBytes-get_or content (place + 1) are in omega (arith, a, b)
