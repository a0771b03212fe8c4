-- What the reads of a drive cost alone, and its writes with the check for phase 3.
use Rattle.sercos_law_run.proofs.Words.{◌≡◌, ℕ, ◌+◌, ◌≤◌, List, [], ◌∷◌, ◌++◌, length, Option, Some, None, refl, ap, arith, length-append, sum_by, sum_by-cons, sum_by-append, Request, PlanView, blocks_fault, DriveView, Begun, Known, member, member_of, idn, reads, reads_count, writes, reads_length, cost_in, ReadsCost, WritesCost, section_cycles, write_cycles, jobs_of, AreAt}
use Rattle.sercos_step.specs.declared.request.Request.TheVariants as request
use Rattle.sercos_law_run.proofs.Undisturbed.JobPlaces.{at_most}
use Rattle.sercos_law_run.proofs.Undisturbed.JobsCost.{behind, cost_at, last_two, part_cost, reads_fit, rest_falls, whole_cost, writes_fit}
use Rattle.sercos_law_run.proofs.Bounds.BoundSums.{are_sections}

module _ (cost : Request → ℕ) (s : Known) (k : ℕ) where
  abbrev tail : PlanView → List Request
  tail p = writes s p k ++ request.Command (idn 127) ∷ request.Command (idn 128) ∷ request.Read (idn 22) 7 ∷ []

  -- THE READS alone
  reads_part : (plan : Option PlanView) (begun : List Begun) → AreAt (jobs_of s plan k) begun → length begun ≤ reads_count (member s k) → cost_in cost begun ≤ sum_by cost (reads (member s k))
  reads_part None begun at few = let whole = whole_cost cost (reads (member s k)) begun at in omega (arith, whole)
  reads_part (Some p) begun at few =
      let whole = whole_cost cost (jobs_of s (Some p) k) begun at in
      let rest = rest_falls cost (jobs_of s (Some p) k) (length begun) (reads_count (member s k)) few in
      let there = ap (sum_by cost) (behind cost s k p (reads_count (member s k)) 0 (omega arith)) in
      let parts = sum_by-append cost (reads (member s k)) (tail p) in omega (arith, whole, rest, there, parts)

  -- THE REQUESTS AFTER THE READS
  no_cost : (begun : List Begun) (most : ℕ) → length begun ≤ 0 → cost_in cost begun ≤ most
  no_cost [] most none = omega arith
  no_cost (b ∷ begun) most none = absurd (omega (arith, none))

  writes_part : (plan : Option PlanView) (recent old : List Begun) (most : ℕ) → AreAt (jobs_of s plan k) (recent ++ old) → length old ≡ reads_count (member s k) → length (recent ++ old) ≤ reads_count (member s k) + 12
      → ((p : PlanView) → plan ≡ Some p → sum_by cost (writes s p k ++ request.Command (idn 127) ∷ []) ≤ most) → cost_in cost recent ≤ most
  writes_part None recent old most at long few within =
      let all = at_most (jobs_of s None k) (recent ++ old) at in
      let both = length-append recent old in no_cost recent most (omega (arith, all, reads_length (member s k), both, long))
  writes_part (Some p) recent old most at long few within =
      let rest = rest_falls cost (jobs_of s (Some p) k) (length (recent ++ old)) (reads_count (member s k) + 12) few in
      let two = last_two cost s k p (reads_count (member s k) + 12) refl in
      let there = ap (sum_by cost) (behind cost s k p (length old) 0 (omega (arith, long))) in
      let parts : sum_by cost (tail p) ≡ sum_by cost (writes s p k ++ request.Command (idn 127) ∷ []) + sum_by cost (request.Command (idn 128) ∷ request.Read (idn 22) 7 ∷ []) =
      sum_by-append cost (writes s p k ++ request.Command (idn 127) ∷ []) (request.Command (idn 128) ∷ request.Read (idn 22) 7 ∷ []) in
      let first = sum_by-cons cost (request.Command (idn 128)) (request.Read (idn 22) 7 ∷ []) in
      let second = sum_by-cons cost (request.Read (idn 22) 7) [] in
      omega (arith, part_cost cost (jobs_of s (Some p) k) recent old at, rest, two, there, parts, first, second, within p refl)

module _ (longest : ℕ → ℕ) (d : DriveView) (rules : blocks_fault [] d.blocks ≡ None) where
  -- So each of the two sections fits.
  pub reads_within : ReadsCost d.busy → (s : Known) (plan : Option PlanView) (k : ℕ) (begun : List Begun) → member s k ≡ member_of d
      → AreAt (jobs_of s plan k) begun → length begun ≤ reads_count (member s k)
      → cost_in (cost_at longest d rules) begun ≤ section_cycles d
  reads_within costs s plan k begun is at few =
      let first = reads_fit longest d rules costs (member s k) is in
      let most = (are_sections d).0 in omega (arith, reads_part (cost_at longest d rules) s k plan begun at few, first, most)

  pub writes_within : WritesCost d.busy → (s : Known) (plan : Option PlanView) (k : ℕ) (recent old : List Begun) → member s k ≡ member_of d
      → AreAt (jobs_of s plan k) (recent ++ old) → length old ≡ reads_count (member s k)
      → length (recent ++ old) ≤ reads_count (member s k) + 12 → cost_in (cost_at longest d rules) recent ≤ section_cycles d
  writes_within costs s plan k recent old is at long few =
      let sum = writes_part (cost_at longest d rules) s k plan recent old (write_cycles d) at long few (λ p has. writes_fit longest d rules costs s p k is) in
      let most = (are_sections d).1 in omega (arith, sum, most)
