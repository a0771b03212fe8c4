-- The drives of a ring by their places and addresses, and whose AT a content is.
use Rattle.sercos_law_run.proofs.Words.{◌≡◌, ◌⊎◌, inl, inr, ℕ, zero, suc, ◌+◌, ◌<◌, Bool, true, false, List, [], ◌∷◌, length, Some, None, refl, sym, ◌∙◌, ap, subst, arith, if◌then◌else◌, map, slice_index, slice_index_or, nat_tests, DriveView, RingView, is_ring, DriveCall, Said, MemberView, member, member_of, no_member, known_of, first_found, mapped_length, place_of, Passage, Carry, heard, passage, unseen_at, no_drive, drive_at, station_of, said_below, contents, unseen_ats, IsSaid}
use Rattle.sercos_telegram.specs.declared.layout.Kind.TheVariants as kinds
use Rattle.sercos_master.proofs.Keeping.{IsFirst}
use Rattle.sercos_law_run.proofs.Journal.ClearLemmas.{heard-clear}
use Rattle.sercos_law_run.proofs.Journal.StationLemmas.{station_found, drives_so}
use Rattle.sercos_law_run.specs.Views.Spelled.{IsWhole}
use Rattle.sercos_law_run.proofs.Headline.Placed.{Placed, ArePlaced, are_placed, placed_below, placed_said}

-- the master knows each drive by its place
index_map : (drives : List DriveView) (k : ℕ) → slice_index_or (map member_of drives) k no_member ≡ member_of (slice_index_or drives k no_drive)
index_map [] k = refl
index_map (d ∷ drives) zero = refl
index_map (d ∷ drives) (suc k) = index_map drives k

pub member_is : (r : RingView) (k : ℕ) → member (known_of r) k ≡ member_of (drive_at r k)
member_is r k = index_map r.drives k

pub members_count : (r : RingView) → length (known_of r).drives ≡ length r.drives
members_count r = mapped_length r.drives

pub in_ring : (r : RingView) (k : ℕ) → k < length (known_of r).drives → k < length r.drives
in_ring r k below = let count = members_count r in omega (arith, below, count)

pub in_known : (r : RingView) (k : ℕ) → k < length r.drives → k < length (known_of r).drives
in_known r k below = let count = members_count r in omega (arith, below, count)

-- no two drives have one address
pub same_drive : (r : RingView) (i k : ℕ) → is_ring r ≡ true → i < length r.drives → k < length r.drives → (drive_at r i).address ≡ (drive_at r k).address → i ≡ k
same_drive r i k valid low high same =
    let a = station_found [] r.drives 1 i (drives_so r valid) low in
    let b = station_found [] r.drives 1 k (drives_so r valid) high in
    omega (arith, a, b, ap (station_of r) same)

-- the master finds the drive at whose place an address is
pub place_is : (r : RingView) (i k : ℕ) → is_ring r ≡ true → i < length r.drives → place_of (known_of r) (drive_at r i).address ≡ Some k → i ≡ k
place_is r i k valid low found =
    let first : IsFirst 0 (length (known_of r).drives) k _ = first_found 0 (length (known_of r).drives) k _ found in
    let same : (member (known_of r) k).address ≡ (drive_at r i).address = (let p = first.passes in grind (arith, nat_tests, p)) in
    same_drive r i k valid low (omega (arith, first.below, members_count r)) (sym same ∙ ap (λ (m : MemberView). m.address) (member_is r k))

-- THE ATS of a cycle, each of them what one of the drives says
abbrev pub AreSaid : ℕ → (ℕ → DriveView) → ℕ → (ℕ → List DriveCall) → List Said → Type 0
AreSaid n d rate h [] = Unit {0}
AreSaid n d rate h (s ∷ others) = IsSaid n d rate h s.content × AreSaid n d rate h others

all_placed : (n : ℕ) (d : ℕ → DriveView) (rate : ℕ) (h : ℕ → List DriveCall) (others : List Placed) → ArePlaced n d rate h others
    → AreSaid n d rate h (map (λ (x : Placed). x.says) others)
all_placed n d rate h [] are = tt
all_placed n d rate h (x ∷ others) (one, are) =
    (record { place = x.place; says = x.says; inside = one.0; said = one.1; content_is = refl }, all_placed n d rate h others are)

pub all_said : (n : ℕ) (d : ℕ → DriveView) (rate : ℕ) (h : ℕ → List DriveCall) → AreSaid n d rate h (said_below n d rate h)
all_said n d rate h = subst (AreSaid n d rate h) (placed_said n d rate h)
    (all_placed n d rate h (placed_below n d rate h) (are_placed n d rate h))

-- WHAT IS HEARD of a content in a passage where nothing is unseen
abbrev one_if : Bool → ℕ
one_if b = if b then 1 else 0

count_none : (b : Bool) → one_if b ≡ 0 → b ≡ false
count_none false none = refl
count_none true none = absurd (omega (arith, none))

pub heard_whole : (carry : Carry) (p : Passage) (content : List ℕ) → IsWhole content → unseen_at carry p content ≡ 0 → (heard carry p content ≡ None) ⊎ (heard carry p content ≡ Some content)
heard_whole carry p content whole none = heard-clear carry p content whole (count_none _ none)

-- each of these that is heard is such a content
abbrev pub AreHeardAs : (List ℕ → Type 0) → RingView → Carry → ℕ → List (List ℕ) → Type 0
AreHeardAs such r carry cycle [] = Unit {0}
AreHeardAs such r carry cycle (at ∷ ats) =
    ((content : List ℕ) → heard carry (passage cycle kinds.At (station_of r (slice_index at 0)) 0) at ≡ Some content → such content) × AreHeardAs such r carry cycle ats

pub heard_as : (r : RingView) (carry : Carry) (cycle n : ℕ) (d : ℕ → DriveView) (rate : ℕ) (h : ℕ → List DriveCall) (said : List Said)
    → ((content : List ℕ) → IsSaid n d rate h content → IsWhole content) → AreSaid n d rate h said → unseen_ats r carry cycle (contents said) ≡ 0
    → AreHeardAs (IsSaid n d rate h) r carry cycle (contents said)
heard_as r carry cycle n d rate h [] whole all none = tt
heard_as r carry cycle n d rate h (s ∷ others) whole (one, all) none =
    let p = passage cycle kinds.At (station_of r (slice_index s.content 0)) 0 in
    let sum : unseen_at carry p s.content + unseen_ats r carry cycle (contents others) ≡ 0 = none in (
      λ content came. by content came (heard_whole carry p s.content (whole s.content one) (omega (arith, sum))),
      heard_as r carry cycle n d rate h others whole all (omega (arith, sum)),
    )
  where
    by : (content : List ℕ) → heard carry (passage cycle kinds.At (station_of r (slice_index s.content 0)) 0) s.content ≡ Some content
        → (heard carry (passage cycle kinds.At (station_of r (slice_index s.content 0)) 0) s.content ≡ None) ⊎ (heard carry (passage cycle kinds.At (station_of r (slice_index s.content 0)) 0) s.content ≡ Some s.content)
        → IsSaid n d rate h content
    by content came (inl nothing) = cc
    by content came (inr same) = let is : s.content ≡ content = cc in subst (λ c. IsSaid n d rate h c) is one
