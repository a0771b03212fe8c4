-- A write that is complete went to a block that the drive has: the opening of any other is refused.
use Rattle.sercos_law_trace.proofs.Words.{◌≡◌, ℕ, List, ◌∷◌, Some, sym, subst, ◌∙◌, Idn, Job, outcome_of, Block, find_block, store_of, RingView, Begun, Carry, Restarts, CycleView, all_entries, all_writes, AreExact, drive_at, view_of, views_of, IsExactAt, Write}
use Rattle.sercos_step.specs.declared.request.Request.TheVariants as request
use Rattle.sercos_step.specs.declared.request.Outcome.TheVariants as outcome
use Rattle.sercos_law_trace.proofs.Told.ReadLemmas.{IsBegunAs}
use Rattle.sercos_law_trace.proofs.Told.EntryLemmas.{begun_among, one_exact}
use Rattle.sercos_law_channel.specs.Handshake.Exact.{AreWrites, HasBlock, Complete, Refused, Broken}

-- the block of a complete transfer
block_of : (blocks : List Block) (b : Begun) (own : List Write) (whole : List ℕ) → AreWrites blocks b own →
    outcome_of b.request b.answers ≡ Some (outcome.Complete whole) →
    HasBlock blocks b.request
block_of blocks b own whole (Complete bytes complete has is) done = has
block_of blocks b own whole (Refused code refused none) done = let e = sym refused ∙ done in cc
block_of blocks b own whole (Broken later on is) done = let e = sym on ∙ done in cc

-- THE BLOCK OF A COMPLETE WRITE, where it is told.
pub known_block : (r : RingView) (jobs : List Job) (carry : Carry) (restarts : Restarts) (t : CycleView) (j : List CycleView) (k n : ℕ) (idn : Idn) (element : ℕ) (bytes whole : List ℕ)
    → IsExactAt r jobs carry restarts t j k → (asked : IsBegunAs r jobs carry restarts t j k n (outcome.Complete whole))
    → asked.job.request ≡ request.Write idn element bytes → (b : Block) × (find_block idn.raw (store_of (drive_at r k)) ≡ Some b)
known_block r jobs carry restarts t j k n idn element bytes whole exact asked writes =
    let among = begun_among (view_of r jobs carry restarts k t j) (views_of r jobs carry restarts k j) asked.ends.newer asked.ends.older
    asked.ends.one (exact.begun_now ∙ asked.ends.split) in
    let one = one_exact (store_of (drive_at r k)) asked.ends.newer among.older asked.ends.one (all_entries (views_of r jobs carry restarts k (t ∷ j))) (all_writes (views_of r jobs carry restarts k (t ∷ j)))
    (subst (λ all. AreExact (store_of (drive_at r k)) all (all_entries (views_of r jobs carry restarts k (t ∷ j))) (all_writes (views_of r jobs carry restarts k (t ∷ j)))) among.split exact.exact) in
    subst (HasBlock (store_of (drive_at r k))) (asked.same ∙ writes)
    (block_of (store_of (drive_at r k)) asked.ends.one one.own whole one.exact.writes asked.ended)
