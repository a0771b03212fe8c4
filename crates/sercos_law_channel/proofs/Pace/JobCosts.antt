-- What the requests of a start-up cost, and those after it.
use Rattle.sercos_law_channel.proofs.Words.{◌≡◌, ℕ, suc, ◌+◌, ◌*◌, ◌≤◌, true, List, [], ◌∷◌, ◌++◌, length, map, refl, ap, ◌∙◌, arith, ◌==◌, Option, Some, None, sum_by, sum_by-cons, sum_by-append, is_list, Idn, Length, Shape, Request, shape_of, shape_by, words_of, words_told, times_le, few_told, length-words_of, length-at_least_one, Block, find_block, value_steps, read_steps, write_steps, cost_of, request_of, CostsRequests, AreWords, AreWordWrites, WordReadCosts, AttributeCosts, ListReadCosts, WordWriteCosts, ListWriteCosts, ReadsCost, WritesCost, RequestCosts, cond_both, inl, inr, cases_Option}
use Rattle.sercos_idn.specs.declared.kinds.Length.TheVariants as len
use Rattle.sercos_step.specs.declared.shape.Shape.TheVariants as shape
use Rattle.sercos_step.specs.declared.request.Request.TheVariants as request

pub costs_requests : CostsRequests
costs_requests cost [] = refl
costs_requests cost (b ∷ begun) = omega (arith, costs_requests cost begun, sum_by-cons cost b.request (map request_of begun))

pub list_shape : (l : Length) → is_list l ≡ true → shape_by l ≡ shape.List
list_shape len.Two is = absurd (cc)
list_shape len.Four is = absurd (cc)
list_shape len.List1 is = refl
list_shape len.List2 is = refl
list_shape len.List4 is = refl

module _ (busy : ℕ) where
  read_by : (longest : ℕ) (o : Option Block) (b : Block) (s : Shape) → o ≡ Some b → shape_by b.attribute.length ≡ s → (busy + 1) * read_steps longest 7 o ≡ (busy + 1) * value_steps longest s
  read_by longest o b s found is = ap (λ (x : Option Block). (busy + 1) * read_steps longest 7 x) found ∙ ap (λ (x : Shape). (busy + 1) * value_steps longest x) is

  pub word_read_costs : WordReadCosts busy
  word_read_costs time longest blocks idn (b, found, two) = read_by (longest idn.raw) (find_block idn.raw blocks) b shape.One found (ap shape_by two)

  pub list_read_costs : ListReadCosts busy
  list_read_costs time longest blocks idn (b, found, list) = read_by (longest idn.raw) (find_block idn.raw blocks) b shape.List found (list_shape b.attribute.length list)

  pub attribute_costs : AttributeCosts busy
  attribute_costs time longest blocks idn = elim (cases_Option (find_block idn.raw blocks)) [
    | inl none ↦ rw none (times_le (busy + 1) 1 3 (omega arith))
    | inr (b, some) ↦ rw some (times_le (busy + 1) 3 3 (omega arith))
  ]

  write_by : (bytes : List ℕ) (o : Option Block) (b : Block) (s : Shape) (k : ℕ) → o ≡ Some b → shape_by b.attribute.length ≡ s → 3 + length (words_told s bytes) ≤ k → (busy + 1) * write_steps 7 bytes o ≤ (busy + 1) * k
  write_by bytes o b s k found is le =
      let same : write_steps 7 bytes o ≡ 3 + length (words_told s bytes) = ap (write_steps 7 bytes) found ∙ ap (λ (x : Shape). 3 + length (words_told x bytes)) is in
      times_le (busy + 1) (write_steps 7 bytes o) k (omega (arith, same, le))

  pub word_write_costs : WordWriteCosts busy
  word_write_costs time longest blocks idn bytes (b, found, two) short =
      let one = length-at_least_one (words_of bytes) in
      write_by bytes (find_block idn.raw blocks) b shape.One 4 found (ap shape_by two) (omega (arith, one, length-words_of bytes, short))

  pub list_write_costs : ListWriteCosts busy
  list_write_costs time longest blocks idn bytes k (b, found, list) short =
      let words = length-words_of bytes in
      write_by bytes (find_block idn.raw blocks) b shape.List (5 + k) found (list_shape b.attribute.length list) (omega (arith, words, short))

  suc_times : (c n : ℕ) → (busy + 1) * (c * suc n) ≡ (busy + 1) * c + (busy + 1) * (c * n)
  suc_times c n = grind arith

  pub reads_cost : ReadsCost busy
  reads_cost time longest blocks values idns are six =
      let parts = sum_by-append (cost_of busy time longest blocks) (map (λ (idn : Idn). request.Read idn 7) values) (map (λ (idn : Idn). request.Read idn 3) idns) in
      let sum : (busy + 1) * (24 + 3 * length idns) ≡ (busy + 1) * 24 + (busy + 1) * (3 * length idns) = grind arith in
      omega (arith, parts, of_values values are, of_attributes idns, ap (λ (n : ℕ). (busy + 1) * (4 * n)) six, sum)
    where
      of_values : (values : List Idn) → AreWords blocks values → sum_by (cost_of busy time longest blocks) (map (λ (idn : Idn). request.Read idn 7) values) ≤ (busy + 1) * (4 * length values)
      of_values [] are = omega arith
      of_values (idn ∷ values) are =
          let first = sum_by-cons (cost_of busy time longest blocks) (request.Read idn 7) (map (λ (x : Idn). request.Read x 7) values) in
          omega (arith, word_read_costs time longest blocks idn are.1, of_values values are.0, first, suc_times 4 (length values))

      of_attributes : (idns : List Idn) → sum_by (cost_of busy time longest blocks) (map (λ (idn : Idn). request.Read idn 3) idns) ≤ (busy + 1) * (3 * length idns)
      of_attributes [] = omega arith
      of_attributes (idn ∷ idns) =
          let first = sum_by-cons (cost_of busy time longest blocks) (request.Read idn 3) (map (λ (x : Idn). request.Read x 3) idns) in
          omega (arith, attribute_costs time longest blocks idn, of_attributes idns, first, suc_times 3 (length idns))

  words_cost : (time : ℕ) (longest : ℕ → ℕ) (blocks : List Block) (rs : List Request) → AreWordWrites blocks rs → sum_by (cost_of busy time longest blocks) rs ≤ (busy + 1) * (4 * length rs)
  words_cost time longest blocks [] are = omega arith
  words_cost time longest blocks (r ∷ rs) are =
      let w = are.1 in
      let one = word_write_costs time longest blocks w.idn w.bytes w.word w.short in
      let more = words_cost time longest blocks rs are.0 in
      let first = sum_by-cons (cost_of busy time longest blocks) r rs in
      omega (arith, ap (cost_of busy time longest blocks) w.writes, one, more, first, suc_times 4 (length rs))

  -- over any cost, of which only the parts matter
  sum_parts : (cost : Request → ℕ) (before after : List Request) (a b c : Request) → sum_by cost (before ++ a ∷ b ∷ (after ++ c ∷ [])) ≡ sum_by cost before + cost a + cost b + sum_by cost after + cost c
  sum_parts cost before after a b c =
      let first = sum_by-cons cost a (b ∷ (after ++ c ∷ [])) in
      let second = sum_by-cons cost b (after ++ c ∷ []) in
      let rest = sum_by-append cost after (c ∷ []) in
      omega (arith, sum_by-append cost before (a ∷ b ∷ (after ++ c ∷ [])), first, second, rest, sum_by-cons cost c [])

  pub writes_cost : WritesCost busy
  writes_cost time longest blocks before after ats mdts at mdt k m command some others nine ats_list mdts_list short_at short_mdt =
      let parts = sum_parts (cost_of busy time longest blocks) before after (request.Write ats 7 at) (request.Write mdts 7 mdt) (request.Command command) in
      let late = words_cost time longest blocks after others in
      let one = list_write_costs time longest blocks ats at k ats_list short_at in
      let two = list_write_costs time longest blocks mdts mdt m mdts_list short_mdt in
      let words : (busy + 1) * (4 * length before) + (busy + 1) * (4 * length after) ≡ (busy + 1) * (4 * 9) = sum_four (length before) (length after) ∙ ap (λ (n : ℕ). (busy + 1) * (4 * n)) nine in
      omega (arith, parts, words_cost time longest blocks before some, late, one, two, words, sums k m)
    where
      sum_four : (x y : ℕ) → (busy + 1) * (4 * x) + (busy + 1) * (4 * y) ≡ (busy + 1) * (4 * (x + y))
      sum_four x y = grind arith

      sums : (k m : ℕ) → (busy + 1) * (4 * 9) + (busy + 1) * (5 + k) + (busy + 1) * (5 + m) + 4 * (busy + 1) ≡ (busy + 1) * (50 + (k + m))
      sums k m = grind arith

  most : (time n : ℕ) → n ≤ 517 → (busy + 1) * n ≤ (busy + 2) * (520 + time)
  most time n le =
      let few = times_le (busy + 1) n 517 le in
      let all : (busy + 2) * (520 + time) ≡ 520 * busy + busy * time + 1040 + 2 * time = grind arith in omega (arith, few, all)

  pub request_costs : RequestCosts busy
  request_costs time longest blocks (request.Read idn e) short ok = most time (read_steps (longest idn.raw) e (find_block idn.raw blocks)) (by (find_block idn.raw blocks))
    where
      value : (s : Shape) → value_steps (longest idn.raw) s ≤ 517
      value shape.One = omega arith
      value shape.Two = omega arith
      value shape.List = let le = short idn.raw in omega (arith, le)

      by : (o : Option Block) → read_steps (longest idn.raw) e o ≤ 517
      by None = omega arith
      by (Some b) = cond_both (e == 3) 3 _ (λ n. n ≤ 517) (λ three. omega arith)
          (λ other. cond_both (e == 7) _ 517 (λ n. n ≤ 517) (λ seven. value (shape_by b.attribute.length)) (λ more. omega arith))
  request_costs time longest blocks (request.Write idn e bytes) short ok = most time (write_steps e bytes (find_block idn.raw blocks)) (by (find_block idn.raw blocks))
    where
      by : (o : Option Block) → write_steps e bytes o ≤ 517
      by None = omega arith
      by (Some b) = cond_both (e == 7) _ _ (λ n. n ≤ 517)
          (λ seven. let few = few_told (shape_by b.attribute.length) bytes ok in omega (arith, few))
          (λ other. let few = few_told (shape_of e 0) bytes ok in omega (arith, few))
  request_costs time longest blocks (request.Command idn) short ok = let all : (busy + 2) * (520 + time) ≡ 520 * busy + busy * time + 1040 + 2 * time = grind arith in omega (arith, all)
