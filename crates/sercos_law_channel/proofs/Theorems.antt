-- What the crates above cite of the laws on one channel: each theorem, and the words that it is stated in, under one name.
pub use Rattle.sercos_law_channel.proofs.Handshake.AttributeReplies.{IsRead-alike, find-alike, reply-read, reply_high, reply_low, shape-attribute}
pub use Rattle.sercos_law_channel.proofs.Handshake.CommandStages.{Cancels, Poll, Reads, next_poll, next_setting}
pub use Rattle.sercos_law_channel.proofs.Handshake.EpochRuns.{commanded, heard_none, in_step, said_of, same_log}
pub use Rattle.sercos_law_channel.proofs.Handshake.ExactRuns.{IsEpoch, cycle_exact, epoch, split_blocks, split_replies}
pub use Rattle.sercos_law_channel.proofs.Handshake.ExactTransfers.{Ends, GoesOn, IsRefused, IsWhole, ends_so}
pub use Rattle.sercos_law_channel.proofs.Handshake.LogParts.{fall_into_parts, few_steps, goes_on_at}
pub use Rattle.sercos_law_channel.proofs.Handshake.PhaseMoves.{Down, Moves, Nothing, Processes, Record, Stands, Stays, ends, processed_phase, processes, stands}
pub use Rattle.sercos_law_channel.proofs.Handshake.ProtectedWrites.{added_bare, stays_fixed, those_kept, those_since}
pub use Rattle.sercos_law_channel.proofs.Handshake.RunFacts.{accepts_in_order, comes_to, stands_as_commanded}
pub use Rattle.sercos_law_channel.proofs.Handshake.SettingReplies.{Allows, cancels_well}
pub use Rattle.sercos_law_channel.proofs.Handshake.StoredValues.{flipped, holds_newest, newest_of}
pub use Rattle.sercos_law_channel.proofs.Handshake.TransferSteps.{complete-outcome_of, goes_on-outcome_of, length-replies_of, length-steps_begun, length-steps_of, newest_step, without_newest}
pub use Rattle.sercos_law_channel.proofs.Handshake.UnknownBlocks.{only_opening, refused_opening}
pub use Rattle.sercos_law_channel.proofs.Handshake.WholeRuns.{HasReplies, answered_replies, entries_ago, entries_in_epochs, kept_same, written}
pub use Rattle.sercos_law_channel.proofs.Handshake.WriteStages.{high_of, is_nil, low_of, told}
pub use Rattle.sercos_law_channel.proofs.Pace.AgeRuns.{nothing_old}
pub use Rattle.sercos_law_channel.proofs.Pace.JobCosts.{list_shape}
pub use Rattle.sercos_law_channel.proofs.Pace.PassedChecks.{passes_by_setting, passes_last, stays_passed, stays_passed_last}
pub use Rattle.sercos_law_channel.proofs.Pace.TransferCosts.{long_words, times_suc}
pub use Rattle.sercos_law_channel.proofs.Pace.WholeCycles.{next_phase, open_late, processed_some, up_by}
pub use Rattle.sercos_law_channel.proofs.Handshake.ElementWords.{four_bytes, printable_bytes, two_bytes}
