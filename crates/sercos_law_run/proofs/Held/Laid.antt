-- How the master lays the data records of an MDT.
use Rattle.sercos_law_run.proofs.Words.{◌≡◌, ℕ, zero, suc, ◌+◌, ◌<◌, ◌≤◌, List, [], ◌∷◌, ◌++◌, map, length, take, refl, ap, ap₂, ◌∙◌, arith, slice_index_or, concat, Wish, wishes_from, wishes_given, Known, MemberView, member, no_member, seen_length, Past, outcomes, seen_at, record_to, records_from}
use Rattle.sercos_seat.specs.Agenda.{record_len}

-- the records of the n drives from place k on
abbrev pub records_of : Known → Past → ℕ → ℕ → List (List ℕ)
records_of s p k zero = []
records_of s p k (suc n) = record_to s p k ∷ records_of s p (k + 1) n

pub records_concat : (s : Known) (p : Past) (k n : ℕ) → concat (records_of s p k n) ≡ records_from s p k n
records_concat s p k zero = refl
records_concat s p k (suc n) = ap (λ (l : List ℕ). record_to s p k ++ l) (records_concat s p (k + 1) n)

pub records_take : (s : Known) (p : Past) (k i n : ℕ) → i ≤ n → take i (records_of s p k n) ≡ records_of s p k i
records_take s p k zero n below = refl
records_take s p k (suc i) zero below = absurd (omega (arith, below))
records_take s p k (suc i) (suc n) below = ap (λ (l : List (List ℕ)). record_to s p k ∷ l) (records_take s p (k + 1) i n (omega (arith, below)))

-- each has the length that the drive asks for, by what was read
lengths_from : (s : Known) (p : Past) (k : ℕ) (drives : List MemberView) → ((i : ℕ) → i < length drives → member s (k + i) ≡ slice_index_or drives i no_member)
    → map length (records_of s p k (length drives)) ≡ map (λ (w : Wish). w.record_len) (wishes_from drives k (outcomes p))
lengths_from s p k [] each = refl
lengths_from s p k (d ∷ drives) each =
    let zero_more : k ≡ k + 0 = omega arith in
    let first : length (record_to s p k) ≡ record_len d (outcomes p k) = seen_length p.cycle (member s k) (seen_at p k)
    ∙ ap (λ (m : MemberView). record_len m (outcomes p k)) (ap (member s) zero_more ∙ each 0 (omega arith)) in
    ap₂ (λ (n : ℕ) (l : List ℕ). n ∷ l) first
    (lengths_from s p (k + 1) drives (λ i below. let e : k + 1 + i ≡ k + suc i = omega arith in ap (member s) e ∙ each (suc i) (omega (arith, below))))

pub records_lengths : (s : Known) (p : Past) → map length (records_of s p 0 (length s.drives)) ≡ map (λ (w : Wish). w.record_len) (wishes_given s (outcomes p)).drives
records_lengths s p = lengths_from s p 0 s.drives (λ i below. ap (member s) (omega arith))
