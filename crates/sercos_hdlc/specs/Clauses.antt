-- The words that the contracts of this crate use, each from where it is defined.
pub use Rattle.sercos_bits.specs.Register.{fed}
pub use Rattle.sercos_hdlc.specs.Fed.{IsFed, taken_of}
pub use Rattle.sercos_hdlc.specs.Given.{IsEnd, IsGiven, given_of, parts_of}
pub use Rattle.sercos_hdlc.specs.Grouped.{IsGroup}
pub use Rattle.sercos_hdlc.specs.Held.{IsKept}
pub use Rattle.sercos_hdlc.specs.Reason.{check_differs, content_of, plain, reason_of, unreadable}
pub use Rattle.sercos_hdlc.specs.Scanned.{IsScan}
pub use Rattle.sercos_hdlc.specs.Sought.{has_six, ones_after}
pub use Rattle.sercos_hdlc.specs.Stuffed.{frame_of, ones_behind, stuffed}
pub use Rattle.sercos_model.specs.Bits.{AreBytes, bits_of, low_bits, number_of}
pub use Rattle.sercos_model.specs.Frames.{IsFrame, flag, plain_of, wire_bits}
pub use Rattle.std.specs.Int.{to_le_bytes, w64}
pub use Rattle.std.specs.Result.{result_err}
