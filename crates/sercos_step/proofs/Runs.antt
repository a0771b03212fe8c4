-- The steps of a run, by place.
use Rattle.std.proofs.Common.{◌≡◌, ℕ, zero, suc, ◌<◌, Bool, false, List, [], ◌∷◌, length, refl, ap, arith}
use Rattle.std.specs.Prelude.{Some, slice_get, slice_index, replicate, nat_le}
use Rattle.std.proofs.Math.Dec.{leb-suc-suc}
use Rattle.std.proofs.lemmas.Bool.Decides.{nat_tests}
use Rattle.std.proofs.lemmas.List.{length-replicate, get_or-replicate}
use Rattle.sercos_step.specs.Steps.{a_step, run}

pub length-run : (write : Bool) (e : ℕ) (words : List ℕ) → length (run write e words) ≡ length words
length-run write e [] = refl
length-run write e (w ∷ []) = refl
length-run write e (w ∷ v ∷ words) = ap suc (length-run write e (v ∷ words))

pub run_at : (write : Bool) (e : ℕ) (words : List ℕ) (k : ℕ) → k < length words →
    slice_get (run write e words) k ≡ Some (a_step write (nat_le (length words) (suc k)) e (slice_index words k))
run_at write e [] k h = absurd (omega arith)
run_at write e (w ∷ []) zero h = refl
run_at write e (w ∷ []) (suc k) h = absurd (omega arith)
run_at write e (w ∷ v ∷ words) zero h = let f : nat_le (suc (suc (length words))) 1 ≡ false = grind (arith, nat_tests) in rw f refl
run_at write e (w ∷ v ∷ words) (suc k) h =
    let f : nat_le (suc (suc (length words))) (suc (suc k)) ≡ nat_le (suc (length words)) (suc k) = leb-suc-suc _ _ in
    let i = run_at write e (v ∷ words) k (omega arith) in rw f i

-- the words of a read, which are all 0: closed, since there may be many
unfoldable pub zeros : ℕ → List ℕ
zeros n = replicate n 0

pub length-zeros : (n : ℕ) → length (zeros n) ≡ n
unfolding zeros
length-zeros n = let z : ℕ = 0 in length-replicate n z

pub zeros_at : (e n k : ℕ) → k < n → slice_get (run false e (zeros n)) k ≡ Some (a_step false (nat_le n (suc k)) e 0)
zeros_at e n k h =
    let l : k < length (zeros n) = rw (length-zeros n) h in
    let i = run_at false e (zeros n) k l in
    let z : slice_index (zeros n) k ≡ 0 = unfold zeros in get_or-replicate n k 0 0 h in
    rw (length-zeros n, z) at i
