-- The words that the contracts of this crate use, each from where it is defined.
pub use Rattle.sercos_block.specs.declared.block.Block.{Block}
pub use Rattle.sercos_law_channel.specs.Handshake.Choices.{AreSoundChoices, Choice, run_by}
pub use Rattle.sercos_law_channel.specs.Handshake.CommandTransfers.{EndsWithStatus, RefusedAddsNothing, RefusesUnknown, SetsAndCancels, WritesNowhere}
pub use Rattle.sercos_law_channel.specs.Handshake.Exact.{RunsAreExact}
pub use Rattle.sercos_law_channel.specs.Handshake.Moves.{Begins, Hears, Takes, with_processed}
pub use Rattle.sercos_law_channel.specs.Handshake.Parts.{ComeInTurn, FallIntoParts, HaveReplies, MakeTransfers}
pub use Rattle.sercos_law_channel.specs.Handshake.ReadTransfers.{ReadsOnce}
pub use Rattle.sercos_law_channel.specs.Handshake.RunLaws.{AcceptsInOrder, AreInStepInCycle, AreInStepInEpoch, BeginsEmpty, ComesToZero, ComesUp, Handshake, IsOfEpoch, KeepsUp, ProcessesInPhase, StandsAsCommanded, StandsNoLater, StaysDown}
pub use Rattle.sercos_law_channel.specs.Handshake.Runs.{IsRun}
pub use Rattle.sercos_law_channel.specs.Handshake.Transfers.{WritesNothing, WritesOnce}
pub use Rattle.sercos_law_channel.specs.Handshake.Values.{HoldsNewest, StaysFixed, StaysProtected, StaysQuiet, StaysWritten}
pub use Rattle.sercos_law_channel.specs.Handshake.WholeRun.{AreSound}
pub use Rattle.sercos_law_channel.specs.Pace.Ages.{AgesInTime, AgesWhereDead, AnswersAtAge, KeepsTime, OpensAlways}
pub use Rattle.sercos_law_channel.specs.Pace.Carried.{ComesTimed}
pub use Rattle.sercos_law_channel.specs.Pace.ChannelCalls.{AgesAreThose, AgesBeforeEnd, CallsBegin, NoneLate, StaysARun}
pub use Rattle.sercos_law_channel.specs.Pace.Costs.{OpensInCost, SpacesSteps, StaysInCost}
pub use Rattle.sercos_law_channel.specs.Pace.Jobs.{AttributeCosts, CostsRequests, ListReadCosts, ListWriteCosts, ReadsCost, RequestCosts, WordReadCosts, WordWriteCosts, WritesCost}
pub use Rattle.sercos_law_channel.specs.Pace.Passages.{HearsThroughout, IsCleanOrDown, RecoversInTime, StandsThroughout, StaysClean, StaysDead}
pub use Rattle.sercos_law_channel.specs.Pace.Passes.{PassesBySetting, PassesLast, StaysPassed, StaysPassedLast}
pub use Rattle.sercos_law_channel.specs.Pace.StartCosts.{RecoversInCost, RecoversSince, StartsInCost}
pub use Rattle.sercos_law_channel.specs.Pace.Stretches.{ComesInTime, TakesTimeSince}
pub use Rattle.sercos_law_channel.specs.Pace.Times.{AnswersOnTime, AreOnTime, TakesTime}
pub use Rattle.sercos_service_drive.specs.Log.{Processed, ahs}
pub use Rattle.sercos_service_drive.specs.Replies.{log_of, reply_of}
pub use Rattle.sercos_service_master.specs.Begun.{is_odd}
