-- Check sequences of known contents, computed from the definition.
use Rattle.std.specs.Prelude.{◌≡◌, [], ◌∷◌, refl}
use Rattle.sercos_model.specs.Bits.{is_odd, low_bits, number_of, bits_of}
use Rattle.sercos_model.specs.CheckSequence.{sum_of, added, divided, fcs_of}

-- the check value that catalogues of check sequences give for the nine characters 123456789
pub nine_digits : fcs_of (0x31 ∷ 0x32 ∷ 0x33 ∷ 0x34 ∷ 0x35 ∷ 0x36 ∷ 0x37 ∷ 0x38 ∷ 0x39 ∷ []) ≡ 0x906e
unfolding is_odd low_bits number_of bits_of sum_of added divided fcs_of
nine_digits = refl

-- the master synchronization telegram of the phases 0 to 4, and with a bit set that is none of the phase's
pub mst_phase_0 : fcs_of (0xff ∷ 0x00 ∷ []) ≡ 0xf087
unfolding is_odd low_bits number_of bits_of sum_of added divided fcs_of
mst_phase_0 = refl

pub mst_phase_1 : fcs_of (0xff ∷ 0x01 ∷ []) ≡ 0xe10e
unfolding is_odd low_bits number_of bits_of sum_of added divided fcs_of
mst_phase_1 = refl

pub mst_phase_2 : fcs_of (0xff ∷ 0x02 ∷ []) ≡ 0xd395
unfolding is_odd low_bits number_of bits_of sum_of added divided fcs_of
mst_phase_2 = refl

pub mst_phase_3 : fcs_of (0xff ∷ 0x03 ∷ []) ≡ 0xc21c
unfolding is_odd low_bits number_of bits_of sum_of added divided fcs_of
mst_phase_3 = refl

pub mst_phase_4 : fcs_of (0xff ∷ 0x04 ∷ []) ≡ 0xb6a3
unfolding is_odd low_bits number_of bits_of sum_of added divided fcs_of
mst_phase_4 = refl

pub mst_other_bit : fcs_of (0xff ∷ 0x08 ∷ []) ≡ 0x7ccf
unfolding is_odd low_bits number_of bits_of sum_of added divided fcs_of
mst_other_bit = refl

-- one byte
pub one_byte : fcs_of (0x88 ∷ []) ≡ 0xf838
unfolding is_odd low_bits number_of bits_of sum_of added divided fcs_of
one_byte = refl

-- telegrams of the drive at address 1: no step, the first step of phase 2, and the drive's answer to it
pub drive_1_idle : fcs_of (0x01 ∷ 0x00 ∷ 0x00 ∷ 0x00 ∷ 0x00 ∷ []) ≡ 0xc433
unfolding is_odd low_bits number_of bits_of sum_of added divided fcs_of
drive_1_idle = refl

pub drive_1_first_step : fcs_of (0x01 ∷ 0x0f ∷ 0x00 ∷ 0x03 ∷ 0x00 ∷ []) ≡ 0x5ca2
unfolding is_odd low_bits number_of bits_of sum_of added divided fcs_of
drive_1_first_step = refl

pub drive_1_answer : fcs_of (0x01 ∷ 0x01 ∷ 0x00 ∷ 0x00 ∷ 0x00 ∷ []) ≡ 0xd888
unfolding is_odd low_bits number_of bits_of sum_of added divided fcs_of
drive_1_answer = refl

-- telegrams of the drives at addresses 1 and 2 with four bytes of feedback
pub drive_1_feedback : fcs_of (0x01 ∷ 0x00 ∷ 0x00 ∷ 0x00 ∷ 0x00 ∷ 0x00 ∷ 0x00 ∷ 0x00 ∷ 0x00 ∷ []) ≡ 0xfc1a
unfolding is_odd low_bits number_of bits_of sum_of added divided fcs_of
drive_1_feedback = refl

pub drive_2_feedback : fcs_of (0x02 ∷ 0x00 ∷ 0x00 ∷ 0x00 ∷ 0x00 ∷ 0x00 ∷ 0x00 ∷ 0x00 ∷ 0x00 ∷ []) ≡ 0x2a1d
unfolding is_odd low_bits number_of bits_of sum_of added divided fcs_of
drive_2_feedback = refl
