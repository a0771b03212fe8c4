-- In how many cycles a ring falls, if it does: what the sum over all drives but one says, and that this is within the fixed bound.
use Rattle.sercos_law_run.proofs.Words.{stop_cycles, ◌≡◌, inl, inr, ℕ, zero, suc, ◌+◌, ◌*◌, ◌<◌, ◌≤◌, List, [], ◌∷◌, ◌++◌, length, refl, ap, ◌∙◌, arith, slice_index_or, sum_by, cases_lt, sum_by-cons, startup_bound, DriveView, RingView, fall_cycles, least, listed, recovery_bound, section_cycles, slowest, spared_cycles, no_drive, IsSpared}
use Rattle.sercos_law_run.proofs.Bounds.BoundSums.{are_sections, spared_back, sum_by-middle}

-- THE LEAST is that of one of the drives, and no other has less.
record HasLeast (f : DriveView → ℕ) (drives : List DriveView) : Type 0 where
  earlier : List DriveView
  one : DriveView
  later : List DriveView
  are : drives ≡ earlier ++ one ∷ later
  is : least f drives ≡ f one

has_least : (f : DriveView → ℕ) (drives : List DriveView) → 1 ≤ length drives → HasLeast f drives
has_least f [] some = absurd (omega (arith, some))
has_least f (d ∷ []) some = record { earlier = []; one = d; later = []; are = refl; is = refl }
has_least f (d ∷ e ∷ drives) some =
    let rest = has_least f (e ∷ drives) (omega arith) in
    elim (cases_lt (least f (e ∷ drives)) (f d)) [
      | inl less ↦ record {
        earlier = d ∷ rest.earlier;
        one = rest.one;
        later = rest.later;
        are = ap (λ (l : List DriveView). d ∷ l) rest.are;
        is = omega (arith, rest.is, less);
      }
      | inr most ↦ record { earlier = []; one = d; later = e ∷ drives; are = refl; is = omega (arith, most) }
    ]

pub least_at : (f : DriveView → ℕ) (drives : List DriveView) (k : ℕ) → k < length drives → least f drives ≤ f
    (slice_index_or drives k no_drive)
least_at f [] k there = absurd (omega (arith, there))
least_at f (d ∷ []) zero there = omega arith
least_at f (d ∷ []) (suc k) there = absurd (omega (arith, there))
least_at f (d ∷ e ∷ drives) zero there = omega arith
least_at f (d ∷ e ∷ drives) (suc k) there = let rest = least_at f (e ∷ drives) k (omega (arith, there)) in omega (arith, rest)

-- A SECTION has some cycles.
some_section : (d : DriveView) → 50 ≤ section_cycles d
some_section d =
    let each : 50 + listed d ≤ (d.busy + 1) * (50 + listed d) = grind arith in omega (arith, (are_sections d).1, each)

many_sections : (drives : List DriveView) → length drives ≤ sum_by section_cycles drives
many_sections [] = omega arith
many_sections (d ∷ drives) = omega (arith, some_section d, many_sections drives, sum_by-cons section_cycles d drives)

-- ALL DRIVES BUT THE ONE WITH THE LEAST
pub spared_so : (r : RingView) (limit n : ℕ) → 1 ≤ length r.drives → n ≤ limit + spared_cycles r → IsSpared r limit n
spared_so r limit n some few =
    let x = has_least section_cycles r.drives some in
    let sum = ap (sum_by section_cycles) x.are ∙ sum_by-middle section_cycles x.earlier x.later x.one in
    record { earlier = x.earlier; one = x.one; later = x.later; are = x.are; few = omega (arith, sum, x.is, few) }

-- The fixed bound is no less than that of a fall, a start-up and a refusal: it leaves room for 72 cycles more.
pub spared_room : (r : RingView) → 1 ≤ length r.drives → slowest r.drives ≤ 20 →
    spared_cycles r + 140 + startup_bound r + stop_cycles r ≤ recovery_bound r
spared_room r some slow =
    let x = has_least section_cycles r.drives some in
    let sum = ap (sum_by section_cycles) x.are ∙ sum_by-middle section_cycles x.earlier x.later x.one in
    omega (arith, sum, x.is, spared_back r x.earlier x.later x.one x.are slow)

pub fixed_room : (r : RingView) → 1 ≤ length r.drives → slowest r.drives ≤ 20 →
    fall_cycles r + startup_bound r + stop_cycles r ≤ recovery_bound r
fixed_room r some slow = omega (arith, spared_room r some slow)
