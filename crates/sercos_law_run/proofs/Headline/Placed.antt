-- The ATs of a cycle in the order sent, each with the place of its drive.
use Rattle.sercos_law_run.proofs.Words.{◌≡◌, ◌⊎◌, inl, inr, ℕ, zero, suc, ◌<◌, ◌≤◌, Bool, true, false, List, [], ◌∷◌, map, Option, Some, None, refl, ◌∙◌, ap, arith, if◌then◌else◌, nat_lt, cases_eq, nat_tests, DriveView, DriveCall, Said, drive_says, said_below, cases_Bool, cases_Option}
use Rattle.sercos_law_run.specs.Journal.Runs.{inserted}

pub record Placed : Type 0 where
  pub place : ℕ
  pub says : Said

abbrev pub put : Placed → List Placed → List Placed
put s [] = s ∷ []
put s (x ∷ others) = if nat_lt s.says.start x.says.start then s ∷ x ∷ others else x ∷ put s others

abbrev pub with_placed : ℕ → Option Said → List Placed → List Placed
with_placed k None others = others
with_placed k (Some s) others = put (record { place = k; says = s }) others

abbrev pub placed_below : ℕ → (ℕ → DriveView) → ℕ → (ℕ → List DriveCall) → List Placed
placed_below zero d rate h = []
placed_below (suc n) d rate h = with_placed n (drive_says (d n) rate (h n)) (placed_below n d rate h)

-- they are the ATs of the cycle
put_said : (s : Placed) (others : List Placed) → map (λ (x : Placed). x.says) (put s others) ≡ inserted s.says (map (λ (x : Placed). x.says) others)
put_said s [] = refl
put_said s (x ∷ others) = elim (cases_Bool (nat_lt s.says.start x.says.start)) [
  | inl on ↦ rw on
  | inr off ↦ rw off (ap (λ (l : List Said). x.says ∷ l) (put_said s others))
]

pub placed_said : (n : ℕ) (d : ℕ → DriveView) (rate : ℕ) (h : ℕ → List DriveCall) → map (λ (x : Placed). x.says) (placed_below n d rate h) ≡ said_below n d rate h
placed_said zero d rate h = refl
placed_said (suc n) d rate h = elim (cases_Option (drive_says (d n) rate (h n))) [
  | inl none ↦ rw none (placed_said n d rate h)
  | inr (s, some) ↦ rw some (put_said (record { place = n; says = s }) (placed_below n d rate h) ∙ ap (inserted s) (placed_said n d rate h))
]

-- each is what the drive at its place says
abbrev pub IsPlaced : ℕ → (ℕ → DriveView) → ℕ → (ℕ → List DriveCall) → Placed → Type 0
IsPlaced n d rate h x = (x.place < n) × (drive_says (d x.place) rate (h x.place) ≡ Some x.says)

abbrev pub ArePlaced : ℕ → (ℕ → DriveView) → ℕ → (ℕ → List DriveCall) → List Placed → Type 0
ArePlaced n d rate h [] = Unit {0}
ArePlaced n d rate h (x ∷ others) = IsPlaced n d rate h x × ArePlaced n d rate h others

more : (n : ℕ) (d : ℕ → DriveView) (rate : ℕ) (h : ℕ → List DriveCall) (others : List Placed) → ArePlaced n d rate h others → ArePlaced (suc n) d rate h others
more n d rate h [] are = tt
more n d rate h (x ∷ others) ((low, says), are) = ((omega (arith, low), says), more n d rate h others are)

put_placed : (n : ℕ) (d : ℕ → DriveView) (rate : ℕ) (h : ℕ → List DriveCall) (s : Placed) (others : List Placed) → IsPlaced n d rate h s → ArePlaced n d rate h others → ArePlaced n d rate h (put s others)
put_placed n d rate h s [] one are = (one, tt)
put_placed n d rate h s (x ∷ others) one (first, are) = elim (cases_Bool (nat_lt s.says.start x.says.start)) [
  | inl on ↦ rw on (one, (first, are))
  | inr off ↦ rw off (first, (put_placed n d rate h s others one are))
]

pub are_placed : (n : ℕ) (d : ℕ → DriveView) (rate : ℕ) (h : ℕ → List DriveCall) → ArePlaced n d rate h (placed_below n d rate h)
are_placed zero d rate h = tt
are_placed (suc n) d rate h = by (drive_says (d n) rate (h n)) refl (more n d rate h (placed_below n d rate h) (are_placed n d rate h))
  where
    by : (o : Option Said) → drive_says (d n) rate (h n) ≡ o → ArePlaced (suc n) d rate h (placed_below n d rate h) → ArePlaced (suc n) d rate h (with_placed n o (placed_below n d rate h))
    by None is rest = rest
    by (Some s) is rest = put_placed (suc n) d rate h (record { place = n; says = s }) (placed_below n d rate h) (omega arith, is) rest

-- in order of start, and those of one start in the order of the ring
abbrev pub ComesBefore : Placed → Placed → Type 0
ComesBefore a b = (a.says.start < b.says.start) ⊎ ((a.says.start ≡ b.says.start) × (a.place < b.place))

abbrev pub AreBehind : Placed → List Placed → Type 0
AreBehind a [] = Unit {0}
AreBehind a (b ∷ others) = ComesBefore a b × AreBehind a others

abbrev pub AreOrdered : List Placed → Type 0
AreOrdered [] = Unit {0}
AreOrdered (a ∷ others) = AreBehind a others × AreOrdered others

-- all are at places below
abbrev pub AreBelow : ℕ → List Placed → Type 0
AreBelow n [] = Unit {0}
AreBelow n (x ∷ others) = (x.place < n) × AreBelow n others

below_so : (n : ℕ) (d : ℕ → DriveView) (rate : ℕ) (h : ℕ → List DriveCall) (others : List Placed) → ArePlaced n d rate h others → AreBelow n others
below_so n d rate h [] are = tt
below_so n d rate h (x ∷ others) are = (are.0.0, below_so n d rate h others are.1)

through : (a b c : Placed) → ComesBefore a b → ComesBefore b c → ComesBefore a c
through a b c (inl p) (inl q) = inl (omega (arith, p, q))
through a b c (inl p) (inr (q, l)) = inl (omega (arith, p, q))
through a b c (inr (p, l)) (inl q) = inl (omega (arith, p, q))
through a b c (inr (p, l)) (inr (q, m)) = inr (p ∙ q, omega (arith, l, m))

behind_through : (a b : Placed) (others : List Placed) → ComesBefore a b → AreBehind b others → AreBehind a others
behind_through a b [] first are = tt
behind_through a b (c ∷ others) first (next, are) = (through a b c first next, behind_through a b others first are)

behind_put : (a s : Placed) (others : List Placed) → ComesBefore a s → AreBehind a others → AreBehind a (put s others)
behind_put a s [] first are = (first, tt)
behind_put a s (x ∷ others) first (next, are) = elim (cases_Bool (nat_lt s.says.start x.says.start)) [
  | inl on ↦ rw on (first, (next, are))
  | inr off ↦ rw off (next, (behind_put a s others first are))
]

ordered_put : (s : Placed) (others : List Placed) → AreBelow s.place others → AreOrdered others → AreOrdered (put s others)
ordered_put s [] low are = (tt, tt)
ordered_put s (x ∷ others) (here, low) (first, are) = by (nat_lt s.says.start x.says.start) refl (ordered_put s others low are)
  where
    by : (b : Bool) → nat_lt s.says.start x.says.start ≡ b → AreOrdered (put s others) → AreOrdered (if b then s ∷ x ∷ others else x ∷ put s others)
    by true less rest = let e : s.says.start < x.says.start = grind (arith, nat_tests, less) in ((inl e, behind_through s x others (inl e) first), (first, are))
    by false less rest = (behind_put x s others (which (grind (arith, nat_tests, less))) first, rest)
      where
        which : x.says.start ≤ s.says.start → ComesBefore x s
        which most = elim (cases_eq x.says.start s.says.start) [ inl same ↦ inr (same, here) | inr other ↦ inl (omega (arith, most, other)) ]

pub are_ordered : (n : ℕ) (d : ℕ → DriveView) (rate : ℕ) (h : ℕ → List DriveCall) → AreOrdered (placed_below n d rate h)
are_ordered zero d rate h = tt
are_ordered (suc n) d rate h = by (drive_says (d n) rate (h n)) (below_so n d rate h (placed_below n d rate h) (are_placed n d rate h)) (are_ordered n d rate h)
  where
    by : (o : Option Said) → AreBelow n (placed_below n d rate h) → AreOrdered (placed_below n d rate h) → AreOrdered (with_placed n o (placed_below n d rate h))
    by None low rest = rest
    by (Some s) low rest = ordered_put (record { place = n; says = s }) (placed_below n d rate h) low rest
