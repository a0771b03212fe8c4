-- What the bits of several bytes give a reader.
use Rattle.std.proofs.Common.{◌≡◌, ℕ, ◌+◌, ◌<◌, Bool, List, [], ◌∷◌, ◌++◌, length, take, get_or, refl, sym, ap, ◌∙◌, arith, length-append}
use Rattle.std.proofs.lemmas.List.{append-nil, take_more}
use Rattle.sercos_model.specs.Bits.{low_bits, bits_of}
use Rattle.sercos_model.proofs.BitLemmas.{bits_of-append}
use Rattle.sercos_hdlc.specs.Given.{IsGiven}
use Rattle.sercos_hdlc.specs.Grouped.{IsGroup}
use Rattle.sercos_hdlc.specs.declared.given.Given.{Given}
use Rattle.sercos_hdlc.specs.declared.group.Group.{Group}
use Rattle.sercos_hdlc.specs.Reason.{unstuffed}
use Rattle.sercos_hdlc.specs.Sought.{ones_after, has_six, dropped_after}
use Rattle.sercos_hdlc.proofs.SixthLemmas.{ones_after-append, has_six-append, dropped_after-append, unstuffed-append}

pub IsGroup-none : (k : ℕ) (before : Bool) (group : Group) → group.count ≡ 0 → group.ones ≡ k → group.dropped ≡ before → IsGroup k before [] group
unfolding low_bits unstuffed ones_after has_six dropped_after
IsGroup-none k before group none ones dropped = record {
  no_six = refl;
  plain = rw none refl;
  all = none;
  behind = ones;
  last_zero = dropped;
}

-- one more byte
pub IsGroup-more : (k : ℕ) (before : Bool) (bits byte : List Bool) (group more : Group) (given : Given) → IsGroup k before bits group → IsGiven group.ones byte given
    → low_bits (group.count + given.count) more.bits ≡ low_bits group.count group.bits ++ low_bits given.count given.bits
    → more.count ≡ group.count + given.count → more.dropped ≡ given.dropped → more.ones ≡ ones_after group.ones byte
    → IsGroup k before (bits ++ byte) more
IsGroup-more k before bits byte group more given h g joined count dropped ones =
    let both : unstuffed k (bits ++ byte) ≡ unstuffed k bits ++ unstuffed group.ones byte =
    unstuffed-append k bits byte ∙ ap (λ n. unstuffed k bits ++ unstuffed n byte) (sym h.behind) in
    record {
      no_six = has_six-append k bits byte h.no_six ∙ ap (λ n. has_six n byte) (sym h.behind) ∙ g.no_six;
      plain = ap (λ n. low_bits n more.bits) count ∙ joined ∙ ap (λ b. b ++ low_bits given.count given.bits) h.plain ∙ ap (λ b. unstuffed k bits ++ b) g.plain ∙ sym both;
      all = omega (arith, count, h.all, g.all, ap length both, length-append (unstuffed k bits) (unstuffed group.ones byte));
      behind = ones ∙ ap (λ n. ones_after n byte) h.behind ∙ sym (ones_after-append k bits byte);
      last_zero = dropped ∙ g.last_zero (dropped_after k before bits) ∙ ap (λ n. dropped_after n (dropped_after k before bits) byte) h.behind ∙ sym (dropped_after-append k before bits byte);
    }

bits_of-one : (byte : ℕ) → bits_of (byte ∷ []) ≡ low_bits 8 byte
unfolding bits_of
bits_of-one byte = append-nil (low_bits 8 byte)

-- the bits of one more byte of a list
pub bits_of-take_more : (bytes : List ℕ) (i : ℕ) → i < length bytes → bits_of (take (i + 1) bytes) ≡ bits_of (take i bytes) ++ low_bits 8 (get_or bytes i 0)
bits_of-take_more bytes i inside =
    ap bits_of (take_more bytes i 0 inside) ∙ bits_of-append (take i bytes) (get_or bytes i 0 ∷ []) ∙ ap (λ b. bits_of (take i bytes) ++ b) (bits_of-one (get_or bytes i 0))
