-- The steps of a typed request fit into a record.
use Rattle.sercos_law_run.proofs.Words.{ℕ, zero, suc, ◌+◌, ◌*◌, ◌<◌, ◌==◌, Bool, true, false, List, [], ◌∷◌, length, replicate, drop, None, arith, cond_both, slice_get, is_some, AreBytes, Step, Shape, Request, words_of, words_told, at_least_one, shape_of, words_in_list, run, reading, writing, attribute_then, asks_attribute, polling, steps_of, outcome_of, next_step, answer_words, Begun, step_or_none, master_says, IsSayable, IsTypedRequest, cases_Bool, inl, inr, AllByRecursion, if◌then◌else◌}
use Rattle.sercos_law_run.proofs.Typed.Words.{AreWords, words_of_bytes}

-- the element and the word of a step fit into a record
abbrev pub IsStep : Step → Type 0
IsStep s = (s.element < 8) × (s.word < 65536)

abbrev pub AreSteps : List Step → Type 0
AreSteps steps = AllByRecursion IsStep steps

step_there : (steps : List Step) (i : ℕ) → AreSteps steps → IsStep (step_or_none (slice_get steps i))
step_there [] i are = (omega arith, omega arith)
step_there (s ∷ steps) zero are = are.0
step_there (s ∷ steps) (suc i) are = step_there steps i are.1

run_steps : (write : Bool) (e : ℕ) (words : List ℕ) → e < 8 → AreWords words → AreSteps (run write e words)
run_steps write e [] low are = tt
run_steps write e (word ∷ []) low are = ((low, are.0), tt)
run_steps write e (word ∷ next ∷ words) low are = ((low, are.0), run_steps write e (next ∷ words) low are.1)

zeros : (n : ℕ) → AreWords (replicate n 0)
zeros zero = tt
zeros (suc n) = (omega arith, zeros n)

reading_steps : (s : Shape) (e : ℕ) (words : List ℕ) → e < 8 → AreSteps (reading s e words)
reading_steps Shape.One e words low = run_steps false e (0 ∷ []) low (omega arith, tt)
reading_steps Shape.Two e words low = run_steps false e (0 ∷ 0 ∷ []) low (omega arith, (omega arith, tt))
reading_steps Shape.List e [] low = ((low, omega arith), tt)
reading_steps Shape.List e (actual ∷ words) low = run_steps false e (replicate (words_in_list actual) 0) low (zeros (words_in_list actual))

one_or_more : (words : List ℕ) → AreWords words → AreWords (at_least_one words)
one_or_more [] are = (omega arith, tt)
one_or_more (word ∷ words) are = are

told : (s : Shape) (bytes : List ℕ) → AreBytes bytes → length bytes < 65536 → AreWords (words_told s bytes)
told Shape.One bytes are fits = one_or_more (words_of bytes) (words_of_bytes bytes are)
told Shape.Two bytes are fits = one_or_more (words_of bytes) (words_of_bytes bytes are)
told Shape.List bytes are fits = (fits, (omega arith, words_of_bytes bytes are))

writing_steps : (s : Shape) (e : ℕ) (bytes : List ℕ) → e < 8 → AreBytes bytes → length bytes < 65536 → AreSteps (writing s e bytes)
writing_steps s e bytes low are fits = run_steps true e (words_told s bytes) low (told s bytes are fits)

attribute_steps : (rest : ℕ → List ℕ → List Step) (words : List ℕ) → ((attribute : ℕ) (after : List ℕ) → AreSteps (rest attribute after)) → AreSteps (attribute_then rest words)
attribute_steps rest [] are = ((omega arith, omega arith), ((omega arith, omega arith), tt))
attribute_steps rest (low ∷ []) are = ((omega arith, omega arith), ((omega arith, omega arith), tt))
attribute_steps rest (low ∷ high ∷ words) are = ((omega arith, omega arith), ((omega arith, omega arith), are (low + 65536 * high) words))

polls : (words : List ℕ) → AreSteps (polling words)
polls [] = ((omega arith, omega arith), tt)
polls (status ∷ words) = (
  (omega arith, omega arith),
  elim (cases_Bool (status == 7)) [
    | inl on ↦ rw on (polls words)
    | inr off ↦ rw off ((omega arith, omega arith), tt)
  ],
)

all_steps : (r : Request) (words : List ℕ) → IsTypedRequest r → AreSteps (steps_of r words)
all_steps (Request.Read idn e) words typed =
    let low : e < 8 = omega (arith, typed.1.1) in (
      (omega arith, typed.0),
      elim (cases_Bool (asks_attribute e)) [
        | inl on ↦ rw on (attribute_steps (λ attribute after. reading (shape_of e attribute) e after) (drop 1 words) (λ attribute after. reading_steps (shape_of e attribute) e after low))
        | inr off ↦ rw off (reading_steps (shape_of e 0) e (drop 1 words) low)
      ],
    )
all_steps (Request.Write idn e bytes) words typed = ((omega arith, typed.0), by (e == 7))
  where
    by : (asks : Bool) → AreSteps (if asks then attribute_then (λ attribute after. writing (shape_of 7 attribute) 7 bytes) (drop 1 words) else writing (shape_of e 0) e bytes)
    by true = attribute_steps (λ attribute after. writing (shape_of 7 attribute) 7 bytes) (drop 1 words) (λ attribute after. writing_steps (shape_of 7 attribute) 7 bytes (omega arith) typed.2 typed.3)
    by false = writing_steps (shape_of e 0) e bytes (omega (arith, typed.1.1)) typed.2 typed.3
all_steps (Request.Command idn) words typed = ((omega arith, typed), ((omega arith, omega arith), polls (drop 2 words)))

-- each request that was begun is typed
abbrev pub AreBegun : List Begun → Type 0
AreBegun [] = Unit {0}
AreBegun (b ∷ past) = IsTypedRequest b.request × AreBegun past

pub says : (past : List Begun) → AreBegun past → IsSayable (master_says past)
says [] are = (omega arith, omega arith)
says (b ∷ past) are = cond_both (is_some (outcome_of b.request b.answers)) None (next_step b.request b.answers)
    (λ v. IsStep (step_or_none v))
    (λ on. (omega arith, omega arith))
    (λ off. step_there (steps_of b.request (answer_words b.answers)) (length (answer_words b.answers)) (all_steps b.request (answer_words b.answers) are.0))
