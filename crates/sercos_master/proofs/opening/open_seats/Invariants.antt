use Rattle.sercos_master.proofs.Words.{◌≡◌, ◌<◌, ℕ, length, map, slice_index_or, MemberView, HasLists, member_of, AreFresh}
use Rattle.sercos_master.proofs.opening.open_seats.Given as goal

-- a fresh seat for each drive so far
abbrev pub invariant-loop-place : goal.invariant-loop-place
invariant-loop-place l = record {
  count : length l.seats.items ≡ l.place;
  fresh : AreFresh l.seats.items (map member_of l.drives);
  lists : (k : ℕ) (d : MemberView) → k < l.place → HasLists (slice_index_or (map member_of l.drives) k d);
}
