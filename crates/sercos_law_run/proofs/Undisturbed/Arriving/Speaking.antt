-- The AT that a drive sends has its address and the bytes that the master wants of it.
use Rattle.sercos_law_run.proofs.Words.{◌≡◌, ℕ, ◌+◌, ◌<◌, ◌≤◌, true, false, List, [], length, Some, None, refl, sym, ◌∙◌, ap, arith, nat_le, slice_index, cond-true, or_right, nat_tests, Outcome, WishesView, wish, Wish, Block, wishes_of, blocks_fault, IsStore, DriveView, RingView, Shown, channel_says, Moment, phase_in, cycle_in, has_mst, has_taken, records_in, blocks_in, commands_in, Said, said_in, sends, shown_word, values_in, wishes_given, member, known_of, fields_length, IsStoreOf, start_up, Holds, PlanView, drive_at, wish_there}
use Rattle.sercos_block.specs.Rings.{at_len}
use Rattle.sercos_seat.specs.Agenda as seat
use Rattle.sercos_law_run.proofs.Start.CheckPasses.{wish_is}
use Rattle.sercos_law_run.proofs.Views.Members.{members_count}
use Rattle.sercos_law_run.proofs.Held.Runs.{drive_got}
use Rattle.sercos_law_run.proofs.Headline.AtLengths.{carried_length}
use Rattle.sercos_law_run.proofs.Start.Lengths.{are_as_long}
use Rattle.sercos_law_run.proofs.Journal.StationLemmas.{would_say}

-- what it sends
pub record Speaks (d : DriveView) (rate : ℕ) (past : List Moment) : Type 0 where
  pub says : Said
  pub is : said_in d rate past ≡ Some says
  pub address : slice_index says.content 0 ≡ d.address
  pub long : length says.content ≡ 1 + (4 + length (values_in (cycle_in past) (phase_in past) (blocks_in d past)))

pub speaks : (d : DriveView) (rate : ℕ) (past : List Moment) → sends past ≡ true → Speaks d rate past
speaks d rate past sent =
    let shows : Shown = channel_says d.busy (cycle_in past) (commands_in d rate past) (records_in past) in
    record {
      says = would_say d rate past;
      is = cond-true (sends past) (Some (would_say d rate past)) None sent;
      address = refl;
      long =
          omega (arith, fields_length (shown_word shows) shows.word (values_in (cycle_in past) (phase_in past) (blocks_in d past)));
    }

-- in phases 3 and 4 always, in phases 1 and 2 if it took an MDT in the cycle before
pub sends_late : (past : List Moment) → has_mst past ≡ true → 3 ≤ phase_in past → sends past ≡ true
sends_late past got late = let three : nat_le 3 (phase_in past) ≡ true = grind (arith, nat_tests, late) in rw (got, three) refl

pub sends_early : (past : List Moment) → has_mst past ≡ true → 1 ≤ phase_in past → has_taken past ≡ true → sends past ≡ true
sends_early past got up took = let one : nat_le 1 (phase_in past) ≡ true = grind (arith, nat_tests, up) in
    rw (got, took, one) (or_right (nat_le 3 (phase_in past)) true refl)

-- in phases 1 and 2 it carries no values
pub no_values : (cycle phase : ℕ) (blocks : List Block) → phase ≤ 2 → length (values_in cycle phase blocks) ≡ 0
no_values cycle phase blocks early = let three : nat_le 3 phase ≡ false = grind (arith, nat_tests, early) in rw three refl

-- in phases 3 and 4 those that the drive's attributes say
pub asked_len : (r : RingView) (outs : ℕ → List Outcome) (k : ℕ) → k < length r.drives → wishes_given (known_of r) outs ≡ wishes_of r → seat.at_len (member (known_of r) k) (outs k) ≡ at_len (drive_at r k)
asked_len r outs k below same =
    let e : k ≡ 0 + k = omega arith in
    ap (λ (i : ℕ). seat.at_len (member (known_of r) k) (outs i)) e
    ∙ sym (ap (λ (w : Wish). w.at_len) (wish_there (known_of r).drives 0 k outs (omega (arith, below, members_count r))))
    ∙ ap (λ (w : WishesView). (wish w k).at_len) same
    ∙ ap (λ (w : Wish). w.at_len) (wish_is r k (drive_at r k) (drive_got r k below))

pub carried_so : (d : DriveView) (cycle phase control ring_cycle k : ℕ) (plan : PlanView) (blocks : List Block)
    → blocks_fault [] d.blocks ≡ None → IsStore blocks → IsStoreOf d blocks → Holds blocks (start_up control ring_cycle plan k d.at d.mdt)
    → 3 ≤ phase → 4 + length (values_in cycle phase blocks) ≡ at_len d
carried_so d cycle phase control ring_cycle k plan blocks rules store stored_so holds late =
    let three : nat_le 3 phase ≡ true = grind (arith, nat_tests, late) in
    carried_length cycle phase blocks store three ∙ (are_as_long d blocks rules stored_so).0 holds.1.1.1.1.1.1.1.1.0
