-- Each task of the agenda is of one of seven kinds.
use Rattle.sercos_law_run.proofs.Words.{◌≡◌, ℕ, zero, suc, ◌+◌, ◌<◌, Bool, true, false, ◌&&◌, List, [], ◌∷◌, ◌++◌, map, length, refl, sym, ap, ap₂, ◌∙◌, subst, arith, if◌then◌else◌, Option, Some, None, option_map, slice_get, unwrap_or, Outcome, PlanView, length_map, reads_length, Known, Task, member, startup, after_reads, bytes_of, idn, given, ended_well, reads, reads_count, writes, checking, agenda, is_checked, is_ready, IsTask, OfReads, OfWrites, Checks3, Lists3, Checks4, Lists4, OfWaiting, ◌≤◌, false≢true, AreWaiting, Request}

-- where an item of two lists is
pub data IsIn {A : Type 0} (xs ys : List A) (n : ℕ) (x : A) : Type 0 where
  First : n < length xs → slice_get xs n ≡ Some x → IsIn xs ys n x
  After : (j : ℕ) → n ≡ length xs + j → slice_get ys j ≡ Some x → IsIn xs ys n x

pub is_in : {A : Type 0} (xs ys : List A) (n : ℕ) (x : A) → slice_get (xs ++ ys) n ≡ Some x → IsIn xs ys n x
is_in [] ys n x got = After n (omega arith) got
is_in (y ∷ xs) ys zero x got = First (omega arith) got
is_in {A = A} (y ∷ xs) ys (suc n) x got =
    elim (is_in xs ys n x got) [ First less is ↦ First (omega arith) is | After j at is ↦ After j (omega arith) is ]

pub mapped : {A B : Type 0} (f : A → B) (xs : List A) (n : ℕ) (y : B) → slice_get (map f xs) n ≡ Some y → (x : A) × (slice_get xs n ≡ Some x) × (y ≡ f x)
mapped f [] n y got = absurd (cc)
mapped f (x ∷ xs) zero y got = let same : f x ≡ y = cc in (x, refl, sym same)
mapped f (x ∷ xs) (suc n) y got = mapped f xs n y got

module _ (s : Known) (k : ℕ) (plan : Option PlanView) (waiting : List Task) (outcomes : List Outcome) (t : Task) where
  given_some : (i : ℕ) (o : Outcome) → slice_get outcomes i ≡ Some o → ended_well (given outcomes i) ≡ ended_well (bytes_of o)
  given_some i o is = ap (λ (x : Option Outcome). ended_well (unwrap_or (option_map bytes_of x) [])) is

  -- after the check for phase 3
  after3 : (i : ℕ) (q : Option Outcome) → length outcomes ≡ reads_count (member s k) + (12 + i) → is_checked (member s k) outcomes ≡ true → slice_get outcomes (reads_count (member s k) + 12) ≡ q →
      slice_get (checking 3 128 22 q waiting) i ≡ Some t → IsTask s k plan waiting outcomes t
  after3 zero None at checked is got = let same : startup 3 (Request.Command (idn 128)) ≡ t = cc in Checks4 (omega arith) checked (sym same)
  after3 zero (Some o) at checked is got = let same : startup 3 (Request.Command (idn 128)) ≡ t = cc in Checks4 (omega arith) checked (sym same)
  after3 (suc i) None at checked is got = absurd (cc)
  after3 (suc i) (Some o) at checked is got = by (ended_well (bytes_of o)) refl i (omega arith) got
    where
      ready : (v : Bool) → ended_well (bytes_of o) ≡ v → is_ready (member s k) outcomes ≡ v
      ready v well = ap₂ (λ (a b : Bool). a && b) checked (given_some (reads_count (member s k) + 12) o is ∙ well)

      by : (v : Bool) → ended_well (bytes_of o) ≡ v → (j : ℕ) → length outcomes ≡ reads_count (member s k) + (13 + j) → slice_get (if v then waiting else startup 3 (Request.Read (idn 22) 7) ∷ []) j ≡ Some t →
          IsTask s k plan waiting outcomes t
      by true well j at got = OfWaiting j at (ready true well) got
      by false well zero at got = let same : startup 3 (Request.Read (idn 22) 7) ≡ t = cc in Lists4 (omega arith) (ready false well) (sym same)
      by false well (suc j) at got = absurd (cc)

  -- at the check for phase 3, and after it
  from3 : (p : PlanView) (i : ℕ) (q : Option Outcome) → plan ≡ Some p → length outcomes ≡ reads_count (member s k) + (11 + i) → slice_get outcomes (reads_count (member s k) + 11) ≡ q →
      slice_get (checking 2 127 21 q (checking 3 128 22 (slice_get outcomes (reads_count (member s k) + 12)) waiting)) i ≡ Some t → IsTask s k plan waiting outcomes t
  from3 p zero None has at is got = let same : startup 2 (Request.Command (idn 127)) ≡ t = cc in Checks3 p has (omega arith) (sym same)
  from3 p zero (Some o) has at is got = let same : startup 2 (Request.Command (idn 127)) ≡ t = cc in Checks3 p has (omega arith) (sym same)
  from3 p (suc i) None has at is got = absurd (cc)
  from3 p (suc i) (Some o) has at is got = by (ended_well (bytes_of o)) refl i (omega arith) got
    where
      by : (v : Bool) → ended_well (bytes_of o) ≡ v → (j : ℕ) → length outcomes ≡ reads_count (member s k) + (12 + j) →
          slice_get (if v then checking 3 128 22 (slice_get outcomes (reads_count (member s k) + 12)) waiting else startup 2 (Request.Read (idn 21) 7) ∷ []) j ≡ Some t → IsTask s k plan waiting outcomes t
      by true well j at got = after3 j (slice_get outcomes (reads_count (member s k) + 12)) at (given_some (reads_count (member s k) + 11) o is ∙ well) refl got
      by false well zero at got = let same : startup 2 (Request.Read (idn 21) 7) ≡ t = cc in Lists3 (omega arith) (given_some (reads_count (member s k) + 11) o is ∙ well) (sym same)
      by false well (suc j) at got = absurd (cc)

  -- after the reads
  planned_task : (o : Option PlanView) (j : ℕ) → plan ≡ o → length outcomes ≡ reads_count (member s k) + j →
      slice_get (after_reads s o waiting k outcomes) j ≡ Some t →
      IsTask s k plan waiting outcomes t
  planned_task None j has at got = absurd (cc)
  planned_task (Some p) j has at got = elim (is_in (map (startup 2) (writes s p k)) (checking 2 127 21 (slice_get outcomes (reads_count (member s k) + 11)) (checking 3 128 22 (slice_get outcomes (reads_count (member s k) + 12)) waiting)) j t got) [
    | First less is ↦ let r = mapped (startup 2) (writes s p k) j t is in OfWrites p j r.0 has less at r.1 r.2
    | After i is_at is ↦ from3 p i (slice_get outcomes (reads_count (member s k) + 11)) has (let e : j ≡ 11 + i = is_at in omega arith) refl is
  ]

  pub is_task : slice_get (agenda s plan waiting k outcomes) (length outcomes) ≡ Some t → IsTask s k plan waiting outcomes t
  is_task got =
      let long = length_map (startup 2) (reads (member s k)) ∙ reads_length (member s k) in
      elim (is_in (map (startup 2) (reads (member s k))) _ (length outcomes) t got) [
        | First less is ↦ let r = mapped (startup 2) (reads (member s k)) (length outcomes) t is in OfReads r.0 (subst (λ (n : ℕ). length outcomes < n) long less) r.1 r.2
        | After j at is ↦ planned_task plan j refl (at ∙ ap (λ (n : ℕ). n + j) long) is
      ]

-- No task begins before phase 2, and none of phase 2 after a check for phase 3 that has ended well.
pub task_phase : (s : Known) (k : ℕ) (plan : Option PlanView) (waiting : List Task) (outs : List Outcome) (t : Task)
    → AreWaiting waiting → IsTask s k plan waiting outs t
    → (2 ≤ t.phase) × (reads_count (member s k) + 11 < length outs → is_checked (member s k) outs ≡ true → 3 ≤ t.phase)
task_phase s k plan waiting outs t waits (OfReads r less got same) =
    (omega (arith, ap (λ (x : Task). x.phase) same), λ many checked. absurd (omega (arith, many, less)))
task_phase s k plan waiting outs t waits (OfWrites p i r planned less at got same) =
    (omega (arith, ap (λ (x : Task). x.phase) same), λ many checked. absurd (omega (arith, many, less, at)))
task_phase s k plan waiting outs t waits (Checks3 p planned at same) =
    (omega (arith, ap (λ (x : Task). x.phase) same), λ many checked. absurd (omega (arith, many, at)))
task_phase s k plan waiting outs t waits (Lists3 at failed same) =
    (omega (arith, ap (λ (x : Task). x.phase) same), λ many checked. absurd (false≢true (sym failed ∙ checked)))
task_phase s k plan waiting outs t waits (Checks4 at good same) =
    let e = ap (λ (x : Task). x.phase) same in (omega (arith, e), λ many checked. omega (arith, e))
task_phase s k plan waiting outs t waits (Lists4 at failed same) =
    let e = ap (λ (x : Task). x.phase) same in (omega (arith, e), λ many checked. omega (arith, e))
task_phase s k plan waiting outs t waits (OfWaiting j at ready got) =
    let e = waits j t got in (omega (arith, e), λ many checked. omega (arith, e))

-- After a check for phase 4 that has ended well, a task is one that waits.
pub late_waits : (s : Known) (k : ℕ) (plan : Option PlanView) (waiting : List Task) (outs : List Outcome) (t : Task)
    → reads_count (member s k) + 12 < length outs → is_ready (member s k) outs ≡ true → IsTask s k plan waiting outs t
    → (j : ℕ) × (slice_get waiting j ≡ Some t)
late_waits s k plan waiting outs t many ready (OfReads r less got same) = absurd (omega (arith, many, less))
late_waits s k plan waiting outs t many ready (OfWrites p i r planned less at got same) = absurd (omega (arith, many, less, at))
late_waits s k plan waiting outs t many ready (Checks3 p planned at same) = absurd (omega (arith, many, at))
late_waits s k plan waiting outs t many ready (Lists3 at failed same) = absurd (omega (arith, many, at))
late_waits s k plan waiting outs t many ready (Checks4 at checked same) = absurd (omega (arith, many, at))
late_waits s k plan waiting outs t many ready (Lists4 at failed same) = absurd (false≢true (sym failed ∙ ready))
late_waits s k plan waiting outs t many ready (OfWaiting j at is got) = (j, got)
