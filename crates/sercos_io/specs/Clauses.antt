-- The words that the contracts of this crate use, each from where it is defined.
pub use Rattle.sercos_io.specs.Adapters.{AdapterState}
pub use Rattle.sercos_io.specs.Memory.{raised, room_of}
pub use Rattle.sercos_io.specs.ReadAll.{HasTaken, ReadAllHasCause}
pub use Rattle.sercos_model.specs.Streams.{HasCause, HasRoom}
pub use Rattle.std.specs.Io.{ReadsAtMost, WritesAtMost}
pub use Rattle.std.specs.Io.KnownBytes.{Appends, Consumes, IsAtEnd, ReadConsumes, WriteAppends}
pub use Rattle.std.specs.IoError.{error_kind}
pub use Rattle.std.specs.List.{concat}
