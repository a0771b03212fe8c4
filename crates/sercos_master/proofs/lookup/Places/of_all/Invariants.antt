use Rattle.sercos_master.proofs.Words.{◌≡◌, ◌<◌, ◌==◌, ℕ, length, None, slice_index_or, position}
use Rattle.sercos_master.proofs.lookup.Places.of_all.Given as goal

-- the addresses so far are looked up
abbrev pub invariant-loop-address : goal.invariant-loop-address
invariant-loop-address l = record {
  count : length l.of ≡ 256;
  found : (k : ℕ) → k < l.address → slice_index_or l.of k None ≡ position (λ v. v.member.address == k) l.seats;
}
