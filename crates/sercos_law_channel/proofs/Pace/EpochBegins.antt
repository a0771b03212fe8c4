-- While phase 0 is commanded, nothing of an epoch was begun.
use Rattle.sercos_law_channel.proofs.Words.{◌≡◌, inl, inr, ℕ, ◌+◌, Bool, true, false, List, [], ◌∷◌, ◌++◌, sym, ◌∙◌, arith, if◌then◌else◌, View, command, unless_restart, epoch_begun, begun_in, IsRun, BeginsEpoch}
use Rattle.sercos_law_channel.proofs.Handshake.EpochRuns.{commanded, start, start_begun, quiet}

-- a cycle after which phase 0 is commanded, though the master doesn't fall at its end
pub record Early (v : View) (past : List View) : Type 0 where
  pub kept : unless_restart v (epoch_begun past) ≡ []
  pub begun : begun_in v past ≡ []
  pub before : v.master_restarts ≡ false → BeginsEpoch past

zero_now : (falls rises : Bool) (p : ℕ) → falls ≡ false → (if falls then 0 else (if rises then p + 1 else p)) ≡ 0 → p ≡ 0
zero_now true rises p off is = absurd (cc)
zero_now false true p off is = absurd (omega (arith, is))
zero_now false false p off is = is

module _ (busy : ℕ) where
  pub run_after : (cycles past : List View) → IsRun busy (cycles ++ past) → IsRun busy past
  run_after [] past run = run
  run_after (v ∷ cycles) past run = run_after cycles past run.0

  pub none_begun : (past : List View) → IsRun busy past → BeginsEpoch past → epoch_begun past ≡ []
  none_begun past run begins = let none : command past ≡ 0 = begins in (quiet busy past run (omega (arith, none))).0

  pub early_in : (v : View) (past : List View) → IsRun busy (v ∷ past) → BeginsEpoch (v ∷ past) → v.falls ≡ false → Early v past
  early_in v past run begins on =
      let zero_is = zero_now v.falls v.rises v.phase on begins in
      record {
        kept = (start busy v past run (omega (arith, zero_is))).0;
        begun = start_begun busy v past run.1 (omega (arith, zero_is)) ((start busy v past run (omega (arith, zero_is))).0);
        before = λ goes_on. elim (commanded v past run.1.commanded) [ inl r ↦ absurd (let is = r.0 in cc) | inr c ↦ sym c.1 ∙ zero_is ];
      }
