-- The theorems on one channel whose proofs cite those of the crates below, as the laws state them.
use Rattle.sercos_law_channel.proofs.Words.{ℕ, StaysWritten, StaysInCost}
use Rattle.sercos_law_channel.proofs.Handshake.ExactRuns.{runs_are_exact}
use Rattle.sercos_law_channel.proofs.Handshake.StoredValues.{stays_written}
use Rattle.sercos_law_channel.proofs.Handshake.Once.{says_shape}
use Rattle.sercos_law_channel.proofs.Pace.CostRuns.{stays_in_cost}
pub use Rattle.sercos_law_channel.proofs.Handshake.EpochRuns.{quiet as begins_empty}
pub use Rattle.sercos_law_channel.proofs.Handshake.ExactRuns.{runs_are_exact as runs_exact}
pub use Rattle.sercos_law_channel.proofs.Handshake.LogParts.{make_transfers}
pub use Rattle.sercos_law_channel.proofs.Pace.AgeRuns.{opens_always as always_opens}
pub use Rattle.sercos_law_channel.proofs.Pace.StartCosts.{rest_in_cost, rest_since, start_in_cost}

pub written_stays : (busy : ℕ) → StaysWritten busy
written_stays busy = stays_written busy (runs_are_exact busy)

pub in_cost : (busy : ℕ) → StaysInCost busy
in_cost busy time longest blocks past small = stays_in_cost says_shape busy time longest blocks small past
