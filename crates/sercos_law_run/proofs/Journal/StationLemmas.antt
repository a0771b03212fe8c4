-- The station of a drive is found by its address, since no two drives have one address.
use Rattle.sercos_law_run.proofs.Words.{◌≡◌, ℕ, suc, zero, ◌+◌, ◌<◌, ◌≤◌, nat_le, true, false, ◌||◌, List, [], ◌∷◌, ◌++◌, length, Some, None, refl, sym, ◌∙◌, ap, subst, arith, slice_index, slice_index_or, ◌==◌, list_any, eq-eqb, leb-true, not-true, or_parts, list_any-append, DriveView, RingView, blocks_fault, DriveCall, annals, Said, drive_says, sends, no_drive, drive_at, station_from, station_of, none_of, and_left, and_right, has_address, has_blocks, is_drive, are_drives, has_drives, is_ring, said, cycle_in, phase_in, blocks_in, channel_says, commands_in, records_in, Moment, said_in, same_Some, cases_Bool, inl, inr}

shorter : (a : ℕ) (before : List DriveView) (d : DriveView) → has_address a (before ++ d ∷ []) ≡ false → (has_address a before ≡ false) × ((d.address == a) ≡ false)
unfolding has_address
shorter a before d none =
    let both : (list_any (λ (x : DriveView). x.address == a) before || ((d.address == a) || false)) ≡ false = sym (list_any-append (λ (x : DriveView). x.address == a) before (d ∷ [])) ∙ none in
    ((or_parts _ _ both).0, (or_parts _ _ (or_parts _ _ both).1).0)

-- no drive has the address of one before it
not_before : (before drives : List DriveView) (k : ℕ) → are_drives before drives ≡ true → k < length drives → has_address (slice_index_or drives k no_drive).address before ≡ false
unfolding are_drives is_drive
not_before before [] k are below = absurd (omega arith)
not_before before (d ∷ drives) zero are below = not-true _ (and_left _ _ (and_left _ _ are))
not_before before (d ∷ drives) (suc k) are below =
    (shorter (slice_index_or drives k no_drive).address before d (not_before (before ++ d ∷ []) drives k (and_right _ _ are) (omega arith))).0

pub station_found : (before drives : List DriveView) (base k : ℕ) → are_drives before drives ≡ true → k < length drives → station_from base drives (slice_index_or drives k no_drive).address ≡ base + k
unfolding are_drives
station_found before [] base k are below = absurd (omega arith)
station_found before (d ∷ drives) base zero are below = rw (eq-eqb d.address d.address refl) (omega arith)
station_found before (d ∷ drives) base (suc k) are below =
    let other : (d.address == (slice_index_or drives k no_drive).address) ≡ false =
    (shorter (slice_index_or drives k no_drive).address before d (not_before (before ++ d ∷ []) drives k (and_right _ _ are) (omega arith))).1 in
    let found = station_found (before ++ d ∷ []) drives (base + 1) k (and_right _ _ are) (omega arith) in
    rw (other, found) (omega arith)

pub drives_so : (r : RingView) → is_ring r ≡ true → are_drives [] r.drives ≡ true
unfolding is_ring has_drives
drives_so r is = and_left _ _ (and_right _ _ (and_right _ _ (and_left _ _ (and_right _ _ is))))

pub few_drives : (r : RingView) → is_ring r ≡ true → nat_le (length r.drives) 64 ≡ true
unfolding is_ring has_drives
few_drives r is = and_left _ _ (and_right _ _ (and_left _ _ (and_right _ _ is)))

-- what a drive says is what its state spells, where it sends
abbrev pub would_say : DriveView → ℕ → List Moment → Said
would_say d rate past = said d.address (cycle_in past) (phase_in past) (blocks_in d past)
    (channel_says d.busy (cycle_in past) (commands_in d rate past) (records_in past))

pub says_that : (d : DriveView) (rate : ℕ) (past : List Moment) (s : Said) → said_in d rate past ≡ Some s
    → (sends past ≡ true) × (would_say d rate past ≡ s)
says_that d rate past s is = elim (cases_Bool (sends past)) [
  | inl on ↦ let is = rw on at is in (on, same_Some (would_say d rate past) s is)
  | inr off ↦ let is = rw off at is in absurd (cc)
]

-- an AT has its drive's address
pub said_address : (d : DriveView) (rate : ℕ) (h : List DriveCall) (s : Said) → drive_says d rate h ≡ Some s → slice_index s.content 0 ≡ d.address
said_address d rate h s is = ap (λ (x : Said). slice_index x.content 0) (sym (says_that d rate (annals d rate h) s is).1)

pub station_is : (r : RingView) (k : ℕ) (h : List DriveCall) (s : Said) → is_ring r ≡ true → k < length r.drives → drive_says (drive_at r k) r.rate h ≡ Some s
    → station_of r (slice_index s.content 0) ≡ k + 1
station_is r k h s valid below says =
    rw (said_address (drive_at r k) r.rate h s says, (station_found [] r.drives 1 k (drives_so r valid) below)) (omega arith)

-- each drive may follow those before it
pub drive_so : (before drives : List DriveView) (k : ℕ) (x : DriveView) → are_drives before drives ≡ true → k < length drives
    → (others : List DriveView) × (is_drive others (slice_index_or drives k x) ≡ true)
unfolding are_drives
drive_so before [] k x are below = absurd (omega arith)
drive_so before (d ∷ drives) zero x are below = (before, and_left _ _ are)
drive_so before (d ∷ drives) (suc k) x are below = drive_so (before ++ d ∷ []) drives k x (and_right _ _ are) (omega arith)

pub sound_blocks : (r : RingView) (k : ℕ) (x : DriveView) → is_ring r ≡ true → k < length r.drives → x ≡ slice_index_or r.drives k x
    → (blocks_fault [] x.blocks ≡ None) × (length x.blocks ≤ 36)
unfolding has_blocks is_drive
sound_blocks r k x valid below is =
    let (others, so) = drive_so [] r.drives k x (drives_so r valid) below in
    let has : has_blocks x ≡ true = subst (λ (y : DriveView). has_blocks y ≡ true) (sym is)
    (and_left _ _ (and_right _ _ (and_right _ _ so))) in
    (none_of _ (and_right _ _ has), leb-true (length x.blocks) 36 (and_left _ _ has))
