-- Stretches of a script.
use Rattle.std.proofs.Common.{◌≡◌, ◌≤◌, ◌<◌, ℕ, zero, suc, ◌+◌, ◌-◌, Bool, List, [], ◌++◌, length, take, drop, get_or, set, replicate, subst, sym, ◌∙◌, ap, arith, ◌⊎◌, inl, inr}
use Rattle.std.specs.List.{filter, slice_range}
use Rattle.std.proofs.lemmas.Bool.{cases_lt, cases_eq}
use Rattle.std.proofs.lemmas.Bool.Decides.{nat_tests}
use Rattle.std.proofs.lemmas.List.{append-nil, take_all, get_or-take, get_or-drop, length-drop, length-take-le, get_or-replicate, get_or_past, length-replicate, get_or-set_same, get_or-set_other}
use Rattle.std.proofs.lemmas.List.Elements.{filter-append}
use Rattle.std.proofs.Math.Seq.{take-add}
use Rattle.sercos_script.specs.declared.fault.Fault.{Fault}
use Rattle.sercos_script.specs.Scripts.{acts}
use Rattle.sercos_script.specs.Stretches.{edge, stretch, AreAhead, Rest, AreDone}

-- What the stretches before a place have, and one more.
split : (p : Fault → Bool) (i j : ℕ) (xs : List Fault) → i ≤ j → filter p (take j xs) ≡ filter p (take i xs) ++ filter p (slice_range xs i j)
split p i j xs le =
    let same : j ≡ i + (j - i) = omega arith in
    ap (λ (n : ℕ). filter p (take n xs)) same ∙ ap (filter p) (take-add i (j - i) xs) ∙ filter-append p (take i xs) (take (j - i) (drop i xs))

edges : (len k : ℕ) → edge len k ≤ edge len (k + 1)
edges len k = grind (arith, nat_tests)

more : (p : Fault → Bool) (k : ℕ) (script : List Fault)
    → filter p (take (edge (length script) (k + 1)) script) ≡ filter p (take (edge (length script) k) script) ++ filter p (stretch k script)
unfolding stretch
more p k script = split p (edge (length script) k) (edge (length script) (k + 1)) script (edges (length script) k)

first : (p : Fault → Bool) (script : List Fault) → filter p (take (edge (length script) 0) script) ≡ []
first p script =
    let zero : edge (length script) 0 ≡ 0 = omega arith in
    ap (λ (n : ℕ). filter p (take n script)) zero

pub done-start : (script : List Fault) (cycle : ℕ) (soonest : List ℕ) (acting : List Fault) → AreAhead script cycle soonest → acting ≡ [] → AreDone script cycle soonest 0 acting
done-start script cycle soonest acting ahead none = record {
  behind = λ j below. absurd (omega arith);
  left = λ j at. ahead j;
  gathered = none ∙ sym (first (acts cycle) script);
}

pub done-ahead : {script : List Fault} {cycle : ℕ} {soonest : List ℕ} {k : ℕ} {acting : List Fault} → AreDone script cycle soonest k acting → AreAhead script (cycle + 1) soonest
done-ahead {script} {cycle} {soonest} {k} done j c from before = by (cases_lt j k)
  where
    by : (j < k) ⊎ (k ≤ j) → filter (acts c) (stretch j script) ≡ []
    by (inl below) = done.behind j below c from before
    by (inr at) = done.left j at c (omega arith) before

-- A stretch whose cycle hasn't come has no fault that acts.
pub done-skipped : {script : List Fault} {cycle : ℕ} {soonest : List ℕ} {k : ℕ} {acting : List Fault} → AreDone script cycle soonest k acting → cycle < get_or soonest k 0
    → AreDone script cycle soonest (k + 1) acting
done-skipped {script} {cycle} {soonest} {k} {acting} done early' = record {
  behind = λ j below c from before. done-ahead done j c from before;
  left = λ j at. done.left j (omega arith);
  gathered = done.gathered ∙ sym (more (acts cycle) k script ∙ ap (λ (xs : List Fault). filter (acts cycle) (take (edge (length script) k) script) ++ xs) (done.left k (omega arith) cycle (omega arith) early')
      ∙ append-nil (filter (acts cycle) (take (edge (length script) k) script)));
}

-- Several in a row whose cycles haven't come.
pub done-skipped_all : {script : List Fault} {cycle : ℕ} {soonest : List ℕ} {k : ℕ} {acting : List Fault} → (n : ℕ) → AreDone script cycle soonest k acting → ((j : ℕ) → j < n → cycle < get_or soonest (k + j) 0)
    → AreDone script cycle soonest (k + n) acting
done-skipped_all {script} {cycle} {soonest} {k} {acting} zero done early' = let same : k ≡ k + 0 = omega arith in subst (λ (i : ℕ). AreDone script cycle soonest i acting) same done
done-skipped_all {script} {cycle} {soonest} {k} {acting} (suc n) done early' =
    let next : k + n + 1 ≡ k + suc n = omega arith in
    subst (λ (i : ℕ). AreDone script cycle soonest i acting) next (done-skipped (done-skipped_all n done (λ j below. early' j (omega arith))) (early' n (omega arith)))

-- Before all numbers of a part.
pub early_part : (cycle begin n : ℕ) (soonest : List ℕ) → begin + n ≤ length soonest → ((k : ℕ) → k < length (take n (drop begin soonest)) → cycle < get_or (take n (drop begin soonest)) k 0)
    → (j : ℕ) → j < n → cycle < get_or soonest (begin + j) 0
early_part cycle begin n soonest room early' j below =
    let long : length (take n (drop begin soonest)) ≡ n = length-take-le n (drop begin soonest) (rw (length-drop begin soonest) (omega arith)) in
    let here : cycle < get_or (take n (drop begin soonest)) j 0 = early' j (rw long below) in
    rw (get_or-take n (drop begin soonest) j 0 below, get_or-drop begin soonest j 0) at here

-- A stretch gets another number.
pub ahead-set : (script : List Fault) (from : ℕ) (soonest : List ℕ) (k n : ℕ) → AreAhead script from soonest → k < length soonest → Rest script k from n → AreAhead script from (set soonest k n)
ahead-set script from soonest k n ahead inside rest j c after before = by (cases_eq j k)
  where
    by : (j ≡ k) ⊎ (j ≡ k → ⊥) → filter (acts c) (stretch j script) ≡ []
    by (inl same) =
        let is : get_or (set soonest k n) j 0 ≡ n = ap (λ (i : ℕ). get_or (set soonest k n) i 0) same ∙ get_or-set_same soonest k n 0 inside in
        ap (λ (i : ℕ). filter (acts c) (stretch i script)) same ∙ rest c after (rw is at before)
    by (inr other) =
        let is : get_or (set soonest k n) j 0 ≡ get_or soonest j 0 = get_or-set_other soonest k j n 0 other in
        ahead j c after (rw is at before)

pub done-looked : {script : List Fault} {cycle : ℕ} {soonest : List ℕ} {k : ℕ} {acting : List Fault} → (n : ℕ) (now : List Fault) → AreDone script cycle soonest k acting → k < length soonest
    → Rest script k (cycle + 1) n → now ≡ acting ++ filter (acts cycle) (stretch k script) → AreDone script cycle (set soonest k n) (k + 1) now
done-looked {script} {cycle} {soonest} {k} {acting} n now done inside rest is = record {
  behind = λ j below. ahead-set script (cycle + 1) soonest k n (done-ahead done) inside rest j;
  left = λ j at c from before.
      let same : get_or (set soonest k n) j 0 ≡ get_or soonest j 0 = get_or-set_other soonest k j n 0 (λ e. omega (arith, e, at)) in
      done.left j (omega arith) c from (rw same at before);
  gathered = is ∙ ap (λ (xs : List Fault). xs ++ filter (acts cycle) (stretch k script)) done.gathered ∙ sym (more (acts cycle) k script);
}

-- All stretches are the script.
pub done-whole : {script : List Fault} {cycle : ℕ} {soonest : List ℕ} {k : ℕ} {acting : List Fault} → AreDone script cycle soonest k acting → length script ≤ edge (length script) k
    → acting ≡ filter (acts cycle) script
done-whole {script} {cycle} {soonest} {k} done all = done.gathered ∙ ap (filter (acts cycle)) (take_all (edge (length script) k) script all)

get_or-same : (n k a : ℕ) → get_or (replicate n a) k a ≡ a
get_or-same n k a = by (cases_lt k n)
  where
    by : (k < n) ⊎ (n ≤ k) → get_or (replicate n a) k a ≡ a
    by (inl inside) = get_or-replicate n k a a inside
    by (inr past) = get_or_past (replicate n a) k a (rw (length-replicate n a) past)

-- Of numbers that are all 0 nothing is said.
pub ahead-unknown : (script : List Fault) (from : ℕ) (soonest : List ℕ) → soonest ≡ replicate 512 0 → AreAhead script from soonest
ahead-unknown script from soonest is k c after before =
    let zero : get_or soonest k 0 ≡ 0 = ap (λ (xs : List ℕ). get_or xs k 0) is ∙ get_or-same 512 k 0 in
    absurd (omega (arith, zero, before))

-- What is kept holds from a later cycle on, too.
pub ahead-later : (script : List Fault) (from later : ℕ) (soonest : List ℕ) → AreAhead script from soonest → from ≤ later → AreAhead script later soonest
ahead-later script from later soonest ahead le k c after before = ahead k c (omega arith) before
