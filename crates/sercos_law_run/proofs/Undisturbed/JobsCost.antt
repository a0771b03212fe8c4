-- What the requests of a start-up cost a drive: those of phase 2 together, and those of phase 3.
use Rattle.sercos_law_run.proofs.Words.{◌≡◌, ℕ, zero, suc, ◌+◌, ◌*◌, ◌≤◌, true, false, List, [], ◌∷◌, ◌++◌, length, map, drop, Option, Some, None, refl, sym, ap, ◌∙◌, subst, arith, length-append, slice_get, slice_index, option_or, sum_by, sum_by-cons, sum_by-append, sum_by-take-drop, is_list, Idn, Request, bytes_in, PlanView, Block, Zero, CycleTime, T1min, Tatmt, T4min, Tatat, Tmtsy, Tmtsg, Empty, built_in_block, row, blocks_fault, find_block, store_of, DriveView, Begun, length-bytes_in, Known, MemberView, member, member_of, idn, declared_times, reads, reads_count, writes, writes_word, reads_length, length_map, cost_of, cost_in, IsWord, AreWords, IsListBlock, IsWordWrite, AreWordWrites, ReadsCost, WritesCost, ListReadCosts, read_cycles, write_cycles, command_cycles, jobs_of, AreAt, attribute_of, built_in}
use Rattle.sercos_idn.specs.declared.kinds.Length.TheVariants as len
use Rattle.sercos_step.specs.declared.request.Request.TheVariants as request
use Rattle.sercos_law_run.proofs.Start.BlockFinds.{find_store_of}

-- what comes after the first items of two lists
drop_behind : (xs ys : List Request) (n i : ℕ) → n ≡ length xs + i → drop n (xs ++ ys) ≡ drop i ys
drop_behind [] ys n i at = ap (λ (m : ℕ). drop m ys) (at ∙ omega arith)
drop_behind (x ∷ xs) ys zero i at = absurd (omega (arith, at))
drop_behind (x ∷ xs) ys (suc n) i at = drop_behind xs ys n i (omega (arith, at))

module _ (cost : Request → ℕ) where
  -- ANY COST
  rest_at : (all : List Request) (n : ℕ) (r : Request) → slice_get all n ≡ Some r → sum_by cost (drop n all) ≡ cost r + sum_by cost (drop (suc n) all)
  rest_at [] n r got = absurd (cc)
  rest_at (x ∷ all) zero r got = let same : x ≡ r = cc in sum_by-cons cost x all ∙ ap (λ (y : Request). cost y + sum_by cost all) same
  rest_at (x ∷ all) (suc n) r got = rest_at all n r got

  pub part_cost : (all : List Request) (recent old : List Begun) → AreAt all (recent ++ old) → cost_in cost recent + sum_by cost (drop (length (recent ++ old)) all) ≡ sum_by cost (drop (length old) all)
  part_cost all [] old are = omega arith
  part_cost all (b ∷ recent) old (before, here) =
      let next = rest_at all (length (recent ++ old)) b.request here in omega (arith, part_cost all recent old before, next)

  pub whole_cost : (all : List Request) (begun : List Begun) → AreAt all begun → cost_in cost begun + sum_by cost (drop (length begun) all) ≡ sum_by cost all
  whole_cost all [] are = omega arith
  whole_cost all (b ∷ older) (before, here) =
      let next = rest_at all (length older) b.request here in omega (arith, whole_cost all older before, next)

  pub rest_falls : (all : List Request) (m n : ℕ) → m ≤ n → sum_by cost (drop n all) ≤ sum_by cost (drop m all)
  rest_falls all zero n le = let both = sum_by-take-drop cost all n in omega (arith, both)
  rest_falls [] (suc m) zero le = absurd (omega (arith, le))
  rest_falls [] (suc m) (suc n) le = omega arith
  rest_falls (x ∷ all) (suc m) zero le = absurd (omega (arith, le))
  rest_falls (x ∷ all) (suc m) (suc n) le = rest_falls all m n (omega (arith, le))

  module _ (s : Known) (k : ℕ) where
    pub behind : (p : PlanView) (n i : ℕ) → n ≡ reads_count (member s k) + i → drop n (jobs_of s (Some p) k) ≡ drop i (writes s p k ++ request.Command (idn 127) ∷ request.Command (idn 128) ∷ request.Read (idn 22) 7 ∷ [])
    behind p n i at = let long = reads_length (member s k) in drop_behind (reads (member s k)) (writes s p k ++ request.Command (idn 127) ∷ request.Command (idn 128) ∷ request.Read (idn 22) 7 ∷ []) n i (omega (arith, at, long))

    pub last_two : (p : PlanView) (n : ℕ) → n ≡ reads_count (member s k) + 12 → sum_by cost (drop n (jobs_of s (Some p) k)) ≡ cost (request.Command (idn 128)) + cost (request.Read (idn 22) 7)
    last_two p n at =
        let first = sum_by-cons cost (request.Command (idn 128)) (request.Read (idn 22) 7 ∷ []) in
        let second = sum_by-cons cost (request.Read (idn 22) 7) [] in
        let there = ap (sum_by cost) (behind p n 12 at) in omega (arith, first, second, there)

    -- THE REQUESTS OF PHASE 2
    pub two_cost : (plan : Option PlanView) (begun : List Begun) (most : ℕ) → AreAt (jobs_of s plan k) begun → length begun ≤ reads_count (member s k) + 12
        → ((p : PlanView) → plan ≡ Some p → sum_by cost (writes s p k ++ request.Command (idn 127) ∷ []) ≤ most) → cost_in cost begun ≤ sum_by cost (reads (member s k)) + most
    two_cost None begun most at few within = let whole = whole_cost (reads (member s k)) begun at in omega (arith, whole)
    two_cost (Some p) begun most at few within =
        let rest = rest_falls (jobs_of s (Some p) k) (length begun) (reads_count (member s k) + 12) few in
        let two = last_two p (reads_count (member s k) + 12) refl in
        let parts = sum_by-append cost (reads (member s k)) (writes s p k ++ request.Command (idn 127) ∷ request.Command (idn 128) ∷ request.Read (idn 22) 7 ∷ []) in
        let tail : sum_by cost (writes s p k ++ request.Command (idn 127) ∷ request.Command (idn 128) ∷ request.Read (idn 22) 7 ∷ []) ≡ sum_by cost (writes s p k ++ request.Command (idn 127) ∷ []) + sum_by cost (request.Command (idn 128) ∷ request.Read (idn 22) 7 ∷ []) =
        sum_by-append cost (writes s p k ++ request.Command (idn 127) ∷ []) (request.Command (idn 128) ∷ request.Read (idn 22) 7 ∷ []) in
        let first = sum_by-cons cost (request.Command (idn 128)) (request.Read (idn 22) 7 ∷ []) in
        let second = sum_by-cons cost (request.Read (idn 22) 7) [] in
        omega (arith, whole_cost (jobs_of s (Some p) k) begun at, rest, two, parts, tail, first, second, within p refl)

    -- THOSE OF PHASE 3
    pub three_cost : (p : PlanView) (recent old : List Begun) → AreAt (jobs_of s (Some p) k) (recent ++ old) → length old ≡ reads_count (member s k) + 12
        → cost_in cost recent ≤ cost (request.Command (idn 128)) + cost (request.Read (idn 22) 7)
    three_cost p recent old at long =
        let two = last_two p (length old) long in omega (arith, part_cost (jobs_of s (Some p) k) recent old at, two)

    pub check_cost : (p : PlanView) (recent old : List Begun) → AreAt (jobs_of s (Some p) k) (recent ++ old) → length old ≡ reads_count (member s k) + 12 → length (recent ++ old) ≤ reads_count (member s k) + 13
        → cost_in cost recent ≤ cost (request.Command (idn 128))
    check_cost p recent old at long few =
        let rest = rest_falls (jobs_of s (Some p) k) (length (recent ++ old)) (reads_count (member s k) + 13) few in
        let one : sum_by cost (drop (reads_count (member s k) + 13) (jobs_of s (Some p) k)) ≡ cost (request.Read (idn 22) 7) = let second =
        sum_by-cons cost (request.Read (idn 22) 7) [] in
        let there = ap (sum_by cost) (behind p (reads_count (member s k) + 13) 13 refl) in omega (arith, second, there) in
        omega (arith, part_cost (jobs_of s (Some p) k) recent old at, last_two p (length old) long, rest, one)

-- THE BLOCKS that a start-up reads and writes
word_of : (d : DriveView) (raw : ℕ) (b : Block) → blocks_fault [] d.blocks ≡ None → find_block raw (built_in d) ≡ Some b → b.attribute.length ≡ len.Two → IsWord (store_of d) (idn raw)
word_of d raw b rules found two = (b, find_store_of raw d rules ∙ ap (λ (o : Option Block). option_or o (find_block raw d.blocks)) found, two)

list_of : (d : DriveView) (raw : ℕ) (b : Block) → blocks_fault [] d.blocks ≡ None → find_block raw (built_in d) ≡ Some b → is_list b.attribute.length ≡ true → IsListBlock (store_of d) (idn raw)
list_of d raw b rules found list = (b, find_store_of raw d rules ∙ ap (λ (o : Option Block). option_or o (find_block raw d.blocks)) found, list)

time_words : (d : DriveView) → blocks_fault [] d.blocks ≡ None → AreWords (store_of d) (map idn declared_times)
unfolding built_in attribute_of
time_words d rules = (
  (
    (
      (
        (
          (
            tt,
            word_of d 90 (built_in_block d (row 90 0x70110001 true Tmtsg)) rules refl refl,
          ),
          word_of d 88 (built_in_block d (row 88 0x70110001 true Tmtsy)) rules refl refl,
        ),
        word_of d 87 (built_in_block d (row 87 0x70110001 true Tatat)) rules refl refl,
      ),
      word_of d 5 (built_in_block d (row 5 0x70110001 true T4min)) rules refl refl,
    ),
    word_of d 4 (built_in_block d (row 4 0x70110001 true Tatmt)) rules refl refl,
  ),
  word_of d 3 (built_in_block d (row 3 0x70110001 true T1min)) rules refl refl,
)

zero_word : (d : DriveView) (raw : ℕ) → blocks_fault [] d.blocks ≡ None → find_block raw (built_in d) ≡ Some (built_in_block d (row raw 0x60110001 false Zero)) → IsWord (store_of d) (idn raw)
unfolding attribute_of
zero_word d raw rules found = word_of d raw (built_in_block d (row raw 0x60110001 false Zero)) rules found refl

writes_one : (blocks : List Block) (raw value : ℕ) → IsWord blocks (idn raw) → IsWordWrite blocks (writes_word raw value)
writes_one blocks raw value word = record { idn = idn raw; bytes = bytes_in (value ∷ []); writes = refl; word = word; short = omega arith }

early_words : (d : DriveView) (control cycle t1 t4 t3 position mdt : ℕ) → blocks_fault [] d.blocks ≡ None
    → AreWordWrites (store_of d) (writes_word 1 control ∷ writes_word 2 cycle ∷ writes_word 6 t1 ∷ writes_word 7 t4 ∷ writes_word 8 t3 ∷ writes_word 9 position ∷ writes_word 10 mdt ∷ writes_word 15 7 ∷ [])
unfolding built_in attribute_of
early_words d control cycle t1 t4 t3 position mdt rules = (
  (
    (
      (
        (
          (
            (
              (
                tt,
                writes_one (store_of d) 15 7 (zero_word d 15 rules refl),
              ),
              writes_one (store_of d) 10 mdt (zero_word d 10 rules refl),
            ),
            writes_one (store_of d) 9 position (zero_word d 9 rules refl),
          ),
          writes_one (store_of d) 8 t3 (zero_word d 8 rules refl),
        ),
        writes_one (store_of d) 7 t4 (zero_word d 7 rules refl),
      ),
      writes_one (store_of d) 6 t1 (zero_word d 6 rules refl),
    ),
    writes_one (store_of d) 2 cycle (word_of d 2 (built_in_block d (row 2 0x60110001 false CycleTime)) rules refl refl),
  ),
  writes_one (store_of d) 1 control (zero_word d 1 rules refl),
)

last_word : (d : DriveView) (t2 : ℕ) → blocks_fault [] d.blocks ≡ None → AreWordWrites (store_of d) (writes_word 89 t2 ∷ [])
unfolding built_in
last_word d t2 rules = (tt, writes_one (store_of d) 89 t2 (zero_word d 89 rules refl))

list_16 : (d : DriveView) → blocks_fault [] d.blocks ≡ None → IsListBlock (store_of d) (idn 16)
unfolding built_in attribute_of
list_16 d rules = list_of d 16 (built_in_block d (row 16 0x60550001 false (Empty 32))) rules refl refl

list_24 : (d : DriveView) → blocks_fault [] d.blocks ≡ None → IsListBlock (store_of d) (idn 24)
unfolding built_in attribute_of
list_24 d rules = list_of d 24 (built_in_block d (row 24 0x60550001 false (Empty 32))) rules refl refl

list_22 : (d : DriveView) → blocks_fault [] d.blocks ≡ None → IsListBlock (store_of d) (idn 22)
unfolding built_in attribute_of
list_22 d rules = list_of d 22 (built_in_block d (row 22 0x70550001 true (Empty 128))) rules refl refl

short_list : (idns : List Idn) → length (bytes_in (map (λ i. i.raw) idns)) ≤ 2 * length idns
short_list idns = let long = length-bytes_in (map (λ (i : Idn). i.raw) idns) in let same = length_map (λ (i : Idn). i.raw) idns in omega (arith, long, same)

-- the writes before those of the two lists
abbrev first_words : Known → PlanView → ℕ → List Request
first_words s p k =
    writes_word 1 s.control ∷ writes_word 2 s.cycle ∷ writes_word 6 (slice_index p.t1 k) ∷ writes_word 7 p.t4 ∷ writes_word 8 p.t3 ∷ writes_word 9 (slice_index p.position k) ∷ writes_word 10 p.mdt_len ∷ writes_word 15 7 ∷ []

module _ (longest : ℕ → ℕ) (d : DriveView) (rules : blocks_fault [] d.blocks ≡ None) where
  abbrev pub cost_at : Request → ℕ
  cost_at = cost_of d.busy d.command longest (store_of d)

  pub reads_fit : ReadsCost d.busy → (m : MemberView) → m ≡ member_of d → sum_by cost_at (reads m) ≤ read_cycles d
  reads_fit costs m is =
      let sum = costs d.command longest (store_of d) (map idn declared_times) (d.at ++ d.mdt) (time_words d rules) refl in
      subst (λ (x : MemberView). sum_by cost_at (reads x) ≤ read_cycles d) (sym is) (subst (λ (n : ℕ). sum_by cost_at (reads (member_of d)) ≤ (d.busy + 1) * (24 + 3 * n)) (length-append d.at d.mdt) sum)

  pub writes_fit : WritesCost d.busy → (s : Known) (p : PlanView) (k : ℕ) → member s k ≡ member_of d → sum_by cost_at (writes s p k ++ request.Command (idn 127) ∷ []) ≤ write_cycles d
  writes_fit costs s p k is =
      let sum = costs d.command longest (store_of d) (first_words s p k) (writes_word 89 p.t2 ∷ []) (idn 16) (idn 24) (bytes_in (map (λ i. i.raw) (member s k).at)) (bytes_in (map (λ i. i.raw) (member s k).mdt)) (length (member s k).at) (length (member s k).mdt) (idn 127)
      (early_words d s.control s.cycle (slice_index p.t1 k) p.t4 p.t3 (slice_index p.position k) p.mdt_len rules) (last_word d p.t2 rules) refl (list_16 d rules) (list_24 d rules) (short_list (member s k).at) (short_list (member s k).mdt) in
      subst (λ (x : MemberView). sum_by cost_at (writes s p k ++ request.Command (idn 127) ∷ []) ≤ (d.busy + 1) * (50 + (length x.at + length x.mdt)) + d.command) is sum

  -- So phase 2 costs no more than the reads and the writes ..
  pub two_fits : ReadsCost d.busy → WritesCost d.busy → (s : Known) (plan : Option PlanView) (k : ℕ) (begun : List Begun) → member s k ≡ member_of d → AreAt (jobs_of s plan k) begun → length begun ≤ reads_count (member s k) + 12
      → cost_in cost_at begun ≤ read_cycles d + write_cycles d
  two_fits reads_cost writes_cost s plan k begun is at few =
      let sum = two_cost cost_at s k plan begun (write_cycles d) at few (λ p has. writes_fit writes_cost s p k is) in
      let first = reads_fit reads_cost (member s k) is in omega (arith, sum, first)

  -- .. and phase 3 no more than the check, and the list if it was begun.
  pub check_fits : (s : Known) (p : PlanView) (k : ℕ) (recent old : List Begun) → AreAt (jobs_of s (Some p) k) (recent ++ old) → length old ≡ reads_count (member s k) + 12 → length (recent ++ old) ≤ reads_count (member s k) + 13
      → cost_in cost_at recent ≤ command_cycles d
  check_fits s p k recent old at long few = let sum = check_cost cost_at s k p recent old at long few in omega (arith, sum)

  pub list_fits : ListReadCosts d.busy → (s : Known) (p : PlanView) (k : ℕ) (recent old : List Begun) → AreAt (jobs_of s (Some p) k) (recent ++ old) → length old ≡ reads_count (member s k) + 12
      → cost_in cost_at recent ≤ command_cycles d + (d.busy + 1) * (5 + longest 22)
  list_fits list_cost s p k recent old at long =
      let sum = three_cost cost_at s k p recent old at long in
      let list = list_cost d.command longest (store_of d) (idn 22) (list_22 d rules) in omega (arith, sum, list)
