-- What is told of requests.
use Rattle.std.proofs.Common.{◌≡◌, ℕ, zero, suc, ◌+◌, ◌<◌, ◌≤◌, ◌==◌, Bool, true, false, if◌then◌else◌, List, [], ◌∷◌, ◌++◌, length, map, Option, Some, None, option_map, refl, sym, ap, ◌∙◌, arith}
use Rattle.std.proofs.Math.ListN.{set, get_or}
use Rattle.std.specs.Prelude.{slice_get}
use Rattle.std.specs.List.{find}
use Rattle.std.specs.Option.{option_or}
use Rattle.std.proofs.lemmas.List.Folds.{find-append}
use Rattle.sercos_model.proofs.OptionLemmas.{option_or-none}
use Rattle.sercos_step.specs.declared.request.Job.{Job}
use Rattle.sercos_step.specs.declared.request.Outcome.{Outcome}
use Rattle.sercos_backup.specs.declared.tracked.Tracked.{Tracked}
use Rattle.sercos_backup.specs.Tracking.{told_of, tracked_from, tracked, with_outcome, noted}

pub none_told : (number : ℕ) (jobs : List Job) → tracked_from number [] jobs ≡ map (with_outcome None) jobs
unfolding tracked_from
none_told number [] = refl
none_told number (job ∷ jobs) = ap (λ list. with_outcome None job ∷ list) (none_told (suc number) jobs)

pub map_or : {A B : Type 0} (f : A → B) (x y : Option A) → option_map f (option_or x y) ≡ option_or (option_map f x) (option_map f y)
map_or f None y = refl
map_or f (Some a) y = refl

-- what one outcome more tells
one_found : (n m : ℕ) (o : Outcome) → option_map (λ (x : ℕ × Outcome). x.1) (find (λ (x : ℕ × Outcome). x.0 == m) ((n, o) ∷ [])) ≡ (if n == m then Some o else None)
one_found n m o = by (n == m)
  where
    by : (b : Bool) → option_map (λ (x : ℕ × Outcome). x.1) (if b then Some (n, o) else None) ≡ (if b then Some o else None)
    by true = refl
    by false = refl

told_more : (told : List (ℕ × Outcome)) (n m : ℕ) (o : Outcome) → told_of (told ++ (n, o) ∷ []) m ≡ option_or (told_of told m) (if n == m then Some o else None)
told_more told n m o =
    ap (option_map (λ (x : ℕ × Outcome). x.1)) (find-append (λ (x : ℕ × Outcome). x.0 == m) told ((n, o) ∷ []))
    ∙ map_or (λ (x : ℕ × Outcome). x.1) (find (λ (x : ℕ × Outcome). x.0 == m) told) (find (λ (x : ℕ × Outcome). x.0 == m) ((n, o) ∷ []))
    ∙ ap (option_or (told_of told m)) (one_found n m o)

told_other : (told : List (ℕ × Outcome)) (n m : ℕ) (o : Outcome) → (n == m) ≡ false → told_of (told ++ (n, o) ∷ []) m ≡ told_of told m
told_other told n m o differs = told_more told n m o ∙ ap (λ b. option_or (told_of told m) (if b then Some o else None)) differs ∙ option_or-none (told_of told m)

told_own : (told : List (ℕ × Outcome)) (n : ℕ) (o : Outcome) → told_of (told ++ (n, o) ∷ []) n ≡ option_or (told_of told n) (Some o)
told_own told n o = told_more told n n o ∙ ap (λ b. option_or (told_of told n) (if b then Some o else None)) (let same : (n == n) ≡ true = grind (arith) in same)

-- an outcome of an earlier request, or of one after the last, changes nothing
pub told_before : (number n : ℕ) (told : List (ℕ × Outcome)) (o : Outcome) (jobs : List Job) → n < number → tracked_from number (told ++ (n, o) ∷ []) jobs ≡ tracked_from number told jobs
unfolding tracked_from
told_before number n told o [] before = refl
told_before number n told o (job ∷ jobs) before =
    let differs : (n == number) ≡ false = grind (arith) in
    ap (λ x. with_outcome x job ∷ tracked_from (suc number) (told ++ (n, o) ∷ []) jobs) (told_other told n number o differs)
    ∙ ap (λ list. with_outcome (told_of told number) job ∷ list) (told_before (suc number) n told o jobs (omega (arith, before)))

pub told_after : (number n : ℕ) (told : List (ℕ × Outcome)) (o : Outcome) (jobs : List Job) → number + length jobs ≤ n → tracked_from number (told ++ (n, o) ∷ []) jobs ≡ tracked_from number told jobs
unfolding tracked_from
told_after number n told o [] after = refl
told_after number n told o (job ∷ jobs) after =
    let differs : (n == number) ≡ false = grind (arith) in
    ap (λ x. with_outcome x job ∷ tracked_from (suc number) (told ++ (n, o) ∷ []) jobs) (told_other told n number o differs)
    ∙ ap (λ list. with_outcome (told_of told number) job ∷ list) (told_after (suc number) n told o jobs (omega (arith, after)))

-- and one of a request is noted with it
pub told_at : (jobs : List Job) (number i : ℕ) (told : List (ℕ × Outcome)) (o : Outcome) (d : Tracked) → i < length jobs
    → set (tracked_from number told jobs) i (noted o (get_or (tracked_from number told jobs) i d)) ≡ tracked_from number (told ++ (number + i, o) ∷ []) jobs
unfolding tracked_from
told_at [] number i told o d within = absurd (omega (arith, within))
told_at (job ∷ jobs) number zero told o d within =
    let here : number + zero ≡ number = omega arith in
    rw here (sym (ap (λ x. with_outcome x job ∷ tracked_from (suc number) (told ++ (number, o) ∷ []) jobs) (told_own told number o)
    ∙ ap (λ list. with_outcome (option_or (told_of told number) (Some o)) job ∷ list) (told_before (suc number) number told o jobs (omega arith))))
told_at (job ∷ jobs) number (suc i) told o d within =
    let there : number + suc i ≡ suc number + i = omega arith in
    let differs : (suc number + i == number) ≡ false = grind (arith) in
    rw there (ap (λ list. with_outcome (told_of told number) job ∷ list) (told_at jobs (suc number) i told o d (omega (arith, within)))
    ∙ sym (ap (λ x. with_outcome x job ∷ tracked_from (suc number) (told ++ (suc number + i, o) ∷ []) jobs) (told_other told (suc number + i) number o differs)))

pub tracked_count : (number : ℕ) (told : List (ℕ × Outcome)) (jobs : List Job) → length (tracked_from number told jobs) ≡ length jobs
unfolding tracked_from
tracked_count number told [] = refl
tracked_count number told (job ∷ jobs) = ap suc (tracked_count (suc number) told jobs)

-- The same of a list of requests.
pub told_none : (number : ℕ) (told : List (ℕ × Outcome)) (o : Outcome) (jobs : List Job) (list : List Tracked) → number ≡ 0 → list ≡ tracked told jobs → list ≡ tracked (told ++ (number, o) ∷ []) jobs
told_none number told o jobs list none is = is ∙ sym (told_before 1 number told o jobs (omega (arith, none)))

pub told_late : (number : ℕ) (told : List (ℕ × Outcome)) (o : Outcome) (jobs : List Job) (list : List Tracked) → 1 + length list ≤ number → list ≡ tracked told jobs → list ≡ tracked (told ++ (number, o) ∷ []) jobs
told_late number told o jobs list late is =
    let count : length list ≡ length jobs = ap length is ∙ tracked_count 1 told jobs in
    is ∙ sym (told_after 1 number told o jobs (omega (arith, late, count)))

pub told_noted : (number place : ℕ) (told : List (ℕ × Outcome)) (o : Outcome) (jobs : List Job) (list : List Tracked) (old new : Tracked) → number ≡ 1 + place → place < length list
    → get_or list place old ≡ old → new ≡ noted o old → list ≡ tracked told jobs → set list place new ≡ tracked (told ++ (number, o) ∷ []) jobs
told_noted number place told o jobs list old new follows within there note is =
    let count : length list ≡ length jobs = ap length is ∙ tracked_count 1 told jobs in
    ap (set list place) (note ∙ ap (noted o) (sym there))
    ∙ ap (λ xs. set xs place (noted o (get_or xs place old))) is
    ∙ told_at jobs 1 place told o old (omega (arith, within, count))
    ∙ ap (λ n. tracked (told ++ (n, o) ∷ []) jobs) (sym follows)

-- The request at a place, with what was told of it.
pub record IsTrackedAt (number : ℕ) (told : List (ℕ × Outcome)) (jobs : List Job) (place : ℕ) (t : Tracked) : Type 0 where
  pub job : Job
  pub there : slice_get jobs place ≡ Some job
  pub is : with_outcome (told_of told (number + place)) job ≡ t

pub tracked_at : (number : ℕ) (told : List (ℕ × Outcome)) (jobs : List Job) (place : ℕ) (t : Tracked) → slice_get (tracked_from number told jobs) place ≡ Some t → IsTrackedAt number told jobs place t
unfolding tracked_from
tracked_at number told [] place t there = absurd (cc)
tracked_at number told (job ∷ jobs) zero t there =
    let same : with_outcome (told_of told number) job ≡ t = cc in
    let here : number + zero ≡ number = omega arith in
    record { job = job; there = refl; is = ap (λ n. with_outcome (told_of told n) job) here ∙ same }
tracked_at number told (job ∷ jobs) (suc place) t there =
    let rest = tracked_at (suc number) told jobs place t there in
    let here : number + suc place ≡ suc number + place = omega arith in
    record { job = rest.job; there = rest.there; is = ap (λ n. with_outcome (told_of told n) rest.job) here ∙ rest.is }
