-- The bounds, from sums over the drives.
use Rattle.sercos_law_run.proofs.Words.{stop_cycles, ◌≡◌, ◌⊎◌, inl, inr, ℕ, zero, suc, ◌+◌, ◌*◌, ◌≤◌, List, [], ◌∷◌, ◌++◌, length, refl, ap, arith, max, ◌∙◌, sum_by, sum, sum_by-cons, DriveView, RingView, startup_bound, startup_of, listed, greatest, slowest, read_cycles, write_cycles, command_cycles, refusal_cycles, section_cycles, recovery_bound, FewWrites, FewStatuses, IsStarted, IsRefusedEarly, IsRefusedLate, AreShort, IsReported, IsBackAtOnce, IsBackLater, AreSections, IsBelowGreatest, times_le, one_of, times_suc}

-- Products over plain numbers, each by itself, so that everything else is linear.
pub times_sum : (p n k : ℕ) → p * (n + k) ≡ p * n + p * k
times_sum p n k = grind arith

opened_startup : (b m t : ℕ) → (b + 2) * (82 + 4 * m + 2 * t) ≡ 82 * b + 164 + 4 * (b * m) + 8 * m + 2 * (b * t) + 4 * t
opened_startup b m t = grind arith

opened_reads : (b m : ℕ) → (b + 1) * (24 + 3 * m) ≡ 24 * b + 24 + 3 * (b * m) + 3 * m
opened_reads b m = grind arith

opened_writes : (b m : ℕ) → (b + 1) * (50 + m) ≡ 50 * b + 50 + b * m + m
opened_writes b m = grind arith

pub few_writes : FewWrites
few_writes d polls le = let one : (d.busy + 1) * (49 + (listed d) + polls) ≡ (d.busy + 1) * (49 + (listed d)) + (d.busy + 1) * polls = grind
    arith in
    let two : (d.busy + 1) * (50 + (listed d)) ≡ (d.busy + 1) * (49 + (listed d)) + (d.busy + 1) = grind arith in omega arith

pub few_statuses : FewStatuses
few_statuses d polls le = let one : (d.busy + 1) * (3 + polls) ≡ (d.busy + 1) * 3 + (d.busy + 1) * polls = grind arith in omega arith

-- A start-up: what a drive needs in phases 2 and 3 is within its part of the bound.
startup_parts : (d : DriveView) → read_cycles d + write_cycles d + command_cycles d ≤ startup_of d
startup_parts d =
    omega (arith, opened_startup d.busy (listed d) d.command, (opened_reads d.busy (listed d)), (opened_writes d.busy (listed d)))

early_total : (ring : List DriveView) → sum_by read_cycles ring + sum_by write_cycles ring + greatest command_cycles ring ≤ sum_by startup_of ring
early_total [] = omega arith
early_total (d ∷ ring) =
    let one = startup_parts d in
    omega (arith, one, early_total ring, sum_by-cons read_cycles d ring, sum_by-cons write_cycles d ring, sum_by-cons startup_of d ring)

pub is_started : IsStarted
is_started r two three four a b c = omega (arith, early_total r.drives)

pub is_refused_early : IsRefusedEarly
is_refused_early r two stop a b = omega (arith, early_total r.drives)

late_greatest : (ring : List DriveView) → greatest refusal_cycles ring ≤ greatest command_cycles ring + 41 * (slowest ring + 1)
late_greatest [] = omega arith
late_greatest (d ∷ ring) = omega (arith, late_greatest ring)

pub is_refused_late : IsRefusedLate
is_refused_late r two three stop a b c = omega (arith, early_total r.drives, late_greatest r.drives)

-- Requests.
short_one : (b t n : ℕ) → (n ≤ 517) ⊎ ((b + 1) * n ≤ t + 4 * (b + 1)) → (b + 1) * n ≤ (b + 2) * (520 + t)
short_one b t n (inl few) =
    let le = times_le (b + 1) n 517 few in
    let all : (b + 2) * (520 + t) ≡ 520 * b + b * t + 1040 + 2 * t = grind arith in omega (arith, all)
short_one b t n (inr few) = let all : (b + 2) * (520 + t) ≡ 520 * b + b * t + 1040 + 2 * t = grind arith in omega (arith, all)

short_sum : (d : DriveView) (counts : List ℕ) → AreShort d counts → (d.busy + 1) * sum counts ≤ length counts * ((d.busy + 2) * (520 + d.command))
short_sum d [] are = omega arith
short_sum d (n ∷ counts) are =
    let one = short_one d.busy d.command n are.1 in
    let more = short_sum d counts are.0 in
    let first : (d.busy + 1) * sum (n ∷ counts) ≡ (d.busy + 1) * (n + sum counts) = ap (λ (x : ℕ). (d.busy + 1) * x) (sum_by-cons (λ x. x) n counts) in
    omega (arith, one, more, first, times_sum (d.busy + 1) n (sum counts), times_suc (length counts) ((d.busy + 2) * (520 + d.command)))

pub is_reported : IsReported
is_reported d counts limit four cycle are le at = omega (arith, short_sum d counts are)

-- Recovery without a fall.
slow_startup : (ring : List DriveView) → 1 ≤ length ring → 82 * (slowest ring + 2) ≤ sum_by startup_of ring
slow_startup [] some = absurd (omega arith)
slow_startup (d ∷ []) some = omega (arith, opened_startup d.busy (listed d) d.command)
slow_startup (d ∷ e ∷ ring) some =
    let s = opened_startup d.busy (listed d) d.command in
    let more = slow_startup (e ∷ ring) (omega arith) in omega (arith, s, more, sum_by-cons startup_of d (e ∷ ring))

pub is_back_at_once : IsBackAtOnce
is_back_at_once r lost cycle at some = omega (arith, slow_startup r.drives some)

-- The drive that was in phase 0, among the others.
pub sum_by-middle : (f : DriveView → ℕ) (before after : List DriveView) (d : DriveView) → sum_by f (before ++ d ∷ after) ≡ f d + sum_by f (before ++ after)
sum_by-middle f [] after d = sum_by-cons f d after
sum_by-middle f (e ∷ before) after d =
    omega (arith, sum_by-middle f before after d, sum_by-cons f e (before ++ d ∷ after), sum_by-cons f e (before ++ after))

greatest-middle : (f : DriveView → ℕ) (before after : List DriveView) (d : DriveView) → greatest f (before ++ d ∷ after) ≡ max (f d) (greatest f (before ++ after))
greatest-middle f [] after d = refl
greatest-middle f (e ∷ before) after d = omega (arith, greatest-middle f before after d)

-- a section leaves 32 steps, and 50 cycles, of a drive's part of the bound
section_of : (b m t : ℕ) → (b + 1) * max (24 + 3 * m) (50 + m) + t + 32 * b + 114 ≤ (b + 2) * (82 + 4 * m + 2 * t)
section_of b m t =
    let s = opened_startup b m t in
    let r = opened_reads b m in
    let w = opened_writes b m in elim (one_of (24 + 3 * m) (50 + m)) [
      | inl e ↦ let same : (b + 1) * max (24 + 3 * m) (50 + m) ≡ (b + 1) * (24 + 3 * m) = ap (λ (n : ℕ). (b + 1) * n) e in omega (arith, s, r, w, same)
      | inr e ↦ let same : (b + 1) * max (24 + 3 * m) (50 + m) ≡ (b + 1) * (50 + m) = ap (λ (n : ℕ). (b + 1) * n) e in omega (arith, s, r, w, same)
    ]

spared_some : (ring : List DriveView) → 1 ≤ length ring
    → sum_by section_cycles ring + 32 * slowest ring + 114 ≤ sum_by startup_of ring
spared_some [] some = absurd (omega (arith, some))
spared_some (d ∷ []) some =
    omega (arith, section_of d.busy (listed d) d.command, sum_by-cons section_cycles d [], sum_by-cons startup_of d [])
spared_some (d ∷ e ∷ ring) some =
    let one = section_of d.busy (listed d) d.command in
    omega (arith, one, spared_some (e ∷ ring) (omega arith), sum_by-cons section_cycles d (e ∷ ring), sum_by-cons startup_of d (e ∷ ring))

spared_or_none : (ring : List DriveView) → ((sum_by section_cycles ring ≡ 0) × (slowest ring ≡ 0))
    ⊎ (sum_by section_cycles ring + 32 * slowest ring + 114 ≤ sum_by startup_of ring)
spared_or_none [] = inl (refl, refl)
spared_or_none (d ∷ ring) = inr (spared_some (d ∷ ring) (omega arith))

-- The sections of all drives but one, with a whole start-up and a refusal: that one leaves room for 140 cycles more.
pub spared_back : (r : RingView) (before after : List DriveView) (d : DriveView) → r.drives ≡ before ++ d ∷ after → slowest r.drives ≤ 20
    → sum_by section_cycles (before ++ after) + 140 + startup_bound r + stop_cycles r ≤ recovery_bound r
spared_back r before after d same slow =
    let shares = ap (sum_by startup_of) same ∙ sum_by-middle startup_of before after d in
    let slowest_of = ap (greatest (λ x. x.busy)) same ∙ greatest-middle (λ x. x.busy) before after d in
    let own = opened_startup d.busy (listed d) d.command in elim (spared_or_none (before ++ after)) [
      | inl none ↦ (omega (arith, none.0, none.1, shares, slowest_of, own, slow))
      | inr some ↦ omega (arith, some, shares, slowest_of, own, slow)
    ]

pub is_back_later : IsBackLater
is_back_later r before after d lost fall cycle same slow at late = omega (arith, spared_back r before after d same slow, at, late)

pub are_sections : AreSections
are_sections d =
    let r = times_le (d.busy + 1) (24 + 3 * (listed d)) (max (24 + 3 * (listed d)) (50 + (listed d))) (omega arith) in
    let w = times_le (d.busy + 1) (50 + (listed d)) (max (24 + 3 * (listed d)) (50 + (listed d))) (omega arith) in (omega (arith, r), omega (arith, w))

pub is_below_greatest : IsBelowGreatest
is_below_greatest bound [] k d cycles got le = absurd (cc)
is_below_greatest bound (e ∷ drives) zero d cycles got le = let same : e ≡ d = cc in omega (arith, ap bound same, le)
is_below_greatest bound (e ∷ drives) (suc k) d cycles got le = omega (arith, is_below_greatest bound drives k d cycles got le)
