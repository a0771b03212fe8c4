-- Worked frames, and bits that are no frame, which the checker computes.
use Rattle.std.proofs.Common.{◌≡◌, ℕ, Bool, true, false, List, [], ◌∷◌, ◌++◌, length, map, take, replicate, Some, None, refl}
use Rattle.sercos_model.specs.Bits.{is_odd, low_bits, number_of, bits_of, bytes_of}
use Rattle.sercos_model.specs.CheckSequence.{sum_of, added, divided, fcs_of}
use Rattle.sercos_model.specs.Frames.{flag, plain_of}
use Rattle.sercos_hdlc.specs.declared.bad_frame.BadFrame.TheVariants.{NoOpen, NoClose, Abort, Ragged, Short, Long, Check, After}
use Rattle.sercos_hdlc.specs.Reason.{begins_with_six, is_five, ends_in_five, six_place, unstuffed, content_of, plain, given, unclosed, unreadable, reason_of}
use Rattle.sercos_hdlc.specs.Stuffed.{stuffed, frame_of}

-- bits as a line of `show` has them: their number, and bytes that hold them, the first as the least significant
abbrev shown : ℕ → List ℕ → List Bool
shown count bytes = take count (bits_of bytes)

-- contents, and the bits of their frames: the MSTs of the phases 0 to 4; one byte, whose check sequence ends in five ones;
-- telegrams of drive 1 without data; ATs with a value of four bytes
abbrev telegrams : List (List ℕ × ℕ)
telegrams =
    (255 ∷ 0 ∷ [], 49)
    ∷ (255 ∷ 1 ∷ [], 49)
    ∷ (255 ∷ 2 ∷ [], 49)
    ∷ (255 ∷ 3 ∷ [], 50)
    ∷ (255 ∷ 4 ∷ [], 49)
    ∷ (136 ∷ [], 41)
    ∷ (1 ∷ 0 ∷ 0 ∷ 0 ∷ 0 ∷ [], 72)
    ∷ (1 ∷ 15 ∷ 0 ∷ 3 ∷ 0 ∷ [], 72)
    ∷ (1 ∷ 1 ∷ 0 ∷ 0 ∷ 0 ∷ [], 72)
    ∷ (1 ∷ 0 ∷ 0 ∷ 0 ∷ 0 ∷ 0 ∷ 0 ∷ 0 ∷ 0 ∷ [], 105)
    ∷ (2 ∷ 0 ∷ 0 ∷ 0 ∷ 0 ∷ 0 ∷ 0 ∷ 0 ∷ 0 ∷ [], 104)
    ∷ []

telegrams_sent : map (λ t. (t.0, length (frame_of (t.0)))) telegrams ≡ telegrams
unfolding frame_of stuffed low_bits bits_of number_of is_odd fcs_of divided added sum_of
telegrams_sent = refl

-- a zero after each five ones, also across two bytes, and after the last five
stuffed_byte : stuffed 0 (low_bits 8 255) ≡ true ∷ true ∷ true ∷ true ∷ true ∷ false ∷ true ∷ true ∷ true ∷ []
unfolding stuffed low_bits is_odd
stuffed_byte = refl

stuffed_across : stuffed 4 (low_bits 8 63) ≡ true ∷ false ∷ true ∷ true ∷ true ∷ true ∷ true ∷ false ∷ false ∷ false ∷ []
unfolding stuffed low_bits is_odd
stuffed_across = refl

stuffed_last : stuffed 0 (plain_of (136 ∷ [])) ≡ shown 25 (0x88 ∷ 0x38 ∷ 0xf8 ∷ 0x00 ∷ [])
unfolding stuffed low_bits bits_of number_of is_odd fcs_of divided added sum_of
stuffed_last = refl

-- whole frames, of which two are read again
abbrev mst_0 : List Bool
mst_0 = shown 49 (0x7e ∷ 0xdf ∷ 0x01 ∷ 0x0e ∷ 0xe1 ∷ 0xfd ∷ 0x00 ∷ [])

mst_0_framed : frame_of (255 ∷ 0 ∷ []) ≡ mst_0
unfolding frame_of stuffed low_bits bits_of number_of is_odd fcs_of divided added sum_of
mst_0_framed = refl

mst_0_read : content_of (plain mst_0) ≡ 255 ∷ 0 ∷ []
unfolding low_bits bits_of bytes_of number_of is_odd begins_with_six six_place unstuffed
mst_0_read = refl

mst_0_good : reason_of mst_0 ≡ None
unfolding low_bits bits_of bytes_of number_of is_odd fcs_of divided added sum_of begins_with_six is_five ends_in_five six_place unstuffed given unclosed unreadable reason_of
mst_0_good = refl

one_byte_framed : frame_of (136 ∷ []) ≡ shown 41 (0x7e ∷ 0x88 ∷ 0x38 ∷ 0xf8 ∷ 0xfc ∷ 0x00 ∷ [])
unfolding frame_of stuffed low_bits bits_of number_of is_odd fcs_of divided added sum_of
one_byte_framed = refl

one_byte_good : reason_of (shown 41 (0x7e ∷ 0x88 ∷ 0x38 ∷ 0xf8 ∷ 0xfc ∷ 0x00 ∷ [])) ≡ None
unfolding low_bits bits_of bytes_of number_of is_odd fcs_of divided added sum_of begins_with_six is_five ends_in_five six_place unstuffed given unclosed unreadable reason_of
one_byte_good = refl

opening_framed : frame_of (1 ∷ 15 ∷ 0 ∷ 3 ∷ 0 ∷ []) ≡ bits_of (0x7e ∷ 0x01 ∷ 0x0f ∷ 0x00 ∷ 0x03 ∷ 0x00 ∷ 0xa2 ∷ 0x5c ∷ 0x7e ∷ [])
unfolding frame_of stuffed low_bits bits_of number_of is_odd fcs_of divided added sum_of
opening_framed = refl

-- bits that are no frame: one list at least for each cause
empty : reason_of [] ≡ Some NoOpen
unfolding given unclosed unreadable reason_of six_place
empty = refl

cut : reason_of (shown 45 (0x7e ∷ 0xdf ∷ 0x01 ∷ 0x0e ∷ 0xe1 ∷ 0x1d ∷ [])) ≡ Some (NoClose 45)
unfolding low_bits bits_of is_odd begins_with_six six_place given unclosed reason_of
cut = refl

-- the inserted zero is missing after the last five ones; six ones follow the flag at once; seven stand in a row
missing_zero : reason_of (bits_of (0x7e ∷ 0x88 ∷ 0x38 ∷ 0xf8 ∷ 0x7e ∷ [])) ≡ Some (Abort 32)
unfolding low_bits bits_of is_odd begins_with_six is_five ends_in_five six_place given unclosed reason_of
missing_zero = refl

six_at_once : reason_of (bits_of (0x7e ∷ 0x3f ∷ 0x7e ∷ [])) ≡ Some (Abort 8)
unfolding low_bits bits_of is_odd begins_with_six six_place given unclosed reason_of
six_at_once = refl

seven_ones : reason_of (bits_of (0x7e ∷ 0x00 ∷ 0xfe ∷ [])) ≡ Some (Abort 17)
unfolding low_bits bits_of is_odd begins_with_six six_place given unclosed reason_of
seven_ones = refl

nine_bits : reason_of (flag ++ replicate 9 false ++ flag) ≡ Some (Ragged 9)
unfolding begins_with_six is_five ends_in_five six_place unstuffed given unclosed unreadable reason_of
nine_bits = refl

nothing_between : reason_of (flag ++ flag) ≡ Some (Short 0)
unfolding begins_with_six is_five ends_in_five six_place unstuffed given unclosed unreadable reason_of
nothing_between = refl

two_bytes : reason_of (flag ++ replicate 16 false ++ flag) ≡ Some (Short 2)
unfolding begins_with_six is_five ends_in_five six_place unstuffed given unclosed unreadable reason_of
two_bytes = refl

-- bit 20 of the MST of phase 0 is complemented
flipped : reason_of (shown 49 (0x7e ∷ 0xdf ∷ 0x11 ∷ 0x0e ∷ 0xe1 ∷ 0xfd ∷ 0x00 ∷ [])) ≡ Some (Check 0xf087 0x7ccf)
unfolding low_bits bits_of bytes_of number_of is_odd fcs_of divided added sum_of begins_with_six is_five ends_in_five six_place unstuffed given unclosed unreadable reason_of
flipped = refl

one_bit_more : reason_of (mst_0 ++ false ∷ []) ≡ Some (After 49)
unfolding low_bits bits_of bytes_of number_of is_odd fcs_of divided added sum_of begins_with_six is_five ends_in_five six_place unstuffed given unclosed unreadable reason_of
one_bit_more = refl

too_many : reason_of (flag ++ replicate 16408 false ++ flag) ≡ Some (Long 2051)
unfolding begins_with_six is_five ends_in_five six_place unstuffed given unclosed unreadable reason_of
too_many = refl
