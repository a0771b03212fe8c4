-- The words that the contracts of this crate use, each from where it is defined.
pub use Rattle.sercos_bits.specs.Packed.{bit_in}
pub use Rattle.sercos_bits.specs.Register.{fed}
pub use Rattle.sercos_bits.specs.Spelling.{bad_bits_of}
pub use Rattle.sercos_model.specs.Bits.{AreBytes, bits_of, bytes_of, is_odd, low_bits, number_of}
pub use Rattle.sercos_model.specs.CheckSequence.{IsRest, dividend, fcs_of, remainder, sixteen_ones, sixteen_zeros}
