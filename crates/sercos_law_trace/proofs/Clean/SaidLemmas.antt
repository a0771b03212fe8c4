-- The ATs that the drives of a ring say, and the wishes of these drives.
use Rattle.sercos_law_trace.proofs.Words.{inr, inl, cases_Bool, ◌≡◌, ℕ, zero, suc, ◌+◌, ◌<◌, ◌==◌, nat_lt, Bool, true, false, cond, ◌||◌, List, [], ◌∷◌, length, map, Option, Some, None, unwrap_or, slice_index_or, refl, sym, ◌∙◌, ap, arith, slice_index, list_any, find, position_or_len, eq-eqb, ne_eqb, nat_tests, Wish, wish, no_wish, WishesView, is_ring, wish_of, DriveView, RingView, DriveCall, Said, drive_says, place_of, is_drive, wish_for, no_drive, drive_at, with_said, said_below, same_drive, wishes_of, or-true}
use Rattle.sercos_law_run.specs.Journal.Runs.{inserted}
use Rattle.sercos_law_trace.proofs.Clean.SeenLemmas.{Each, EachPair, HasOther, each_map}

-- EACH AT of a cycle is what a drive says.
pub each_inserted : (P : Said → Type 0) (s : Said) (others : List Said) → P s → Each P others → Each P (inserted s others)
each_inserted P s [] one are = (one, tt)
each_inserted P s (x ∷ others) one are = elim (cases_Bool (nat_lt s.start x.start)) [
  | inl on ↦ rw on (one, are)
  | inr off ↦ rw off (are.0, each_inserted P s others one are.1)
]

pub each_said : (P : Said → Type 0) (n : ℕ) (d : ℕ → DriveView) (rate : ℕ) (h : ℕ → List DriveCall) → ((k : ℕ) → k < n → (s : Said) → drive_says (d k) rate (h k) ≡ Some s → P s) → Each P (said_below n d rate h)
each_said P zero d rate h each = tt
each_said P (suc n) d rate h each = by (drive_says (d n) rate (h n)) refl (each_said P n d rate h (λ k low. each k (omega (arith, low))))
  where
    by : (o : Option Said) → drive_says (d n) rate (h n) ≡ o → Each P (said_below n d rate h) → Each P (with_said o (said_below n d rate h))
    by None is rest = rest
    by (Some s) is rest = each_inserted P s (said_below n d rate h) (each n (omega arith) s is) rest

-- each has an address of its own
abbrev pub IsOther : Said → Said → Type 0
IsOther x y = HasOther (slice_index y.content 0) x

turned : (x y : Said) → IsOther x y → IsOther y x
turned x y other = let e : (slice_index x.content 0 == slice_index y.content 0) ≡ false = other in grind (arith, nat_tests, e)

pairs_inserted : (s : Said) (others : List Said) → Each (IsOther s) others → EachPair IsOther others → EachPair IsOther (inserted s others)
pairs_inserted s [] first are = (tt, tt)
pairs_inserted s (x ∷ others) first are = elim (cases_Bool (nat_lt s.start x.start)) [
  | inl on ↦ rw on (first, are)
  | inr off ↦ rw off (each_inserted (IsOther x) s others (turned s x first.0) are.0, pairs_inserted s others first.1 are.1)
]

-- that of a drive at a place below n
abbrev IsFrom : ℕ → (ℕ → DriveView) → Said → Type 0
IsFrom n d s = (k : ℕ) × (k < n) × (slice_index s.content 0 ≡ (d k).address)

pub pairs_said : (n : ℕ) (d : ℕ → DriveView) (rate : ℕ) (h : ℕ → List DriveCall) → ((i k : ℕ) → i < n → k < n → (d i).address ≡ (d k).address → i ≡ k)
    → ((k : ℕ) → k < n → (s : Said) → drive_says (d k) rate (h k) ≡ Some s → slice_index s.content 0 ≡ (d k).address) → EachPair IsOther (said_below n d rate h)
pairs_said zero d rate h apart own = tt
pairs_said (suc n) d rate h apart own =
    by (drive_says (d n) rate (h n)) refl (each_said (IsFrom n d) n d rate h (λ k low s is. (k, low, own k (omega (arith, low)) s is)))
    (pairs_said n d rate h (λ i k low high. apart i k (omega (arith, low)) (omega (arith, high))) (λ k low. own k (omega (arith, low))))
  where
    differs : (s : Said) → slice_index s.content 0 ≡ (d n).address → (x : Said) → IsFrom n d x → IsOther s x
    differs s is x (k, low, from) = ne_eqb (slice_index s.content 0) (slice_index x.content 0) (λ same. let one = apart n k (omega arith) (omega (arith, low)) (sym is ∙ same ∙ from) in absurd (omega (arith, one, low)))

    by : (o : Option Said) → drive_says (d n) rate (h n) ≡ o → Each (IsFrom n d) (said_below n d rate h) → EachPair IsOther (said_below n d rate h) → EachPair IsOther (with_said o (said_below n d rate h))
    by None is from rest = rest
    by (Some s) is from rest = pairs_inserted s (said_below n d rate h) (each_map (IsFrom n d) (IsOther s) (differs s (own n (omega arith) s is)) (said_below n d rate h) from) rest

-- THE WISHES of the drives, by their addresses
pub drive_there : (r : RingView) (k : ℕ) → k < length r.drives → is_drive (wishes_of r) (drive_at r k).address ≡ true
unfolding wishes_of
drive_there r k below = by r.drives k below
  where
    by : (drives : List DriveView) (k : ℕ) → k < length drives → list_any (λ (d : Wish). d.address == (slice_index_or drives k no_drive).address) (map wish_of drives) ≡ true
    by [] k below = absurd (omega (arith, below))
    by (d ∷ drives) zero below = rw (eq-eqb d.address d.address refl) refl
    by (d ∷ drives) (suc k) below = ap (λ (b : Bool). (d.address == (slice_index_or drives k no_drive).address) || b) (by drives k (omega (arith, below))) ∙ or-true (d.address == (slice_index_or drives k no_drive).address)

-- a wish is found by its address, and so is the place of it
pub wish_found : (w : WishesView) (address : ℕ) → wish w (place_of w address) ≡ wish_for w address
wish_found w address = by w.drives
  where
    by : (drives : List Wish) → slice_index_or drives (position_or_len (λ (d : Wish). d.address == address) drives) no_wish ≡ unwrap_or (find (λ (d : Wish). d.address == address) drives) no_wish
    by [] = refl
    by (d ∷ drives) = elim (cases_Bool (d.address == address)) [
      | inl is ↦ rw is refl
      | inr is ↦ let next : 1 + position_or_len (λ (x : Wish). x.address == address) drives ≡ suc
          (position_or_len (λ (x : Wish). x.address == address) drives) = omega arith in rw (is, next) (by drives)
    ]

-- the drive at a place is the first with its address
first_with : (drives : List DriveView) (k : ℕ) → k < length drives → ((i : ℕ) → i < k → ((slice_index_or drives i no_drive).address == (slice_index_or drives k no_drive).address) ≡ false)
    → find (λ (d : Wish). d.address == (slice_index_or drives k no_drive).address) (map wish_of drives) ≡ Some (wish_of (slice_index_or drives k no_drive))
first_with [] k below others = absurd (omega (arith, below))
first_with (d ∷ drives) zero below others = rw (eq-eqb d.address d.address refl) refl
first_with (d ∷ drives) (suc k) below others =
    ap (λ (b : Bool). cond b (Some (wish_of d)) (find (λ (x : Wish). x.address == (slice_index_or drives k no_drive).address) (map wish_of drives))) (others 0 (omega arith))
    ∙ first_with drives k (omega (arith, below)) (λ i low. others (suc i) (omega (arith, low)))

pub wish_is_for : (r : RingView) (k : ℕ) → is_ring r ≡ true → k < length r.drives → wish_for (wishes_of r) (drive_at r k).address ≡ wish_of (drive_at r k)
unfolding wishes_of
wish_is_for r k valid below =
    ap (λ (o : Option Wish). unwrap_or o no_wish) (first_with r.drives k below (λ i low.
    ne_eqb (drive_at r i).address (drive_at r k).address (λ same. let is = same_drive r i k valid
    (omega (arith, low, below)) below same in omega (arith, is, low))))
