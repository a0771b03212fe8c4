-- The master writes the start-up values, and a drive that holds them holds the plan.
use Rattle.sercos_law_run.proofs.Words.{◌≡◌, ℕ, ◌<◌, ◌/◌, ◌%◌, List, [], ◌∷◌, map, slice_index, refl, ◌∙◌, ap, arith, w16, to_le_bytes, Idn, bytes_in, PlanView, RingView, DriveView, list_bytes, MemberView, member_of, HoldsPlan, WritesStartUp, get_or_from_slice_get, no_drive}
use Rattle.sercos_law_run.proofs.Start.Lengths.{number_is}
use Rattle.sercos_law_run.proofs.Start.CheckPasses.{FitDrive, fit_in_ring, ring_cycles, small_control}
use Rattle.sercos_law_run.proofs.Views.Members.{member_is}

-- the numbers that are written have 16 bits
record SmallPlan (r : RingView) (p : PlanView) (k : ℕ) : Type 0 where
  t1 : slice_index p.t1 k < 65536
  t2 : p.t2 < 65536
  t3 : p.t3 < 65536
  t4 : p.t4 < 65536
  position : slice_index p.position k < 65536
  mdt_len : p.mdt_len < 65536
  cycle : r.cycle < 65536

small_plan : (r : RingView) (p : PlanView) (k : ℕ) (d : DriveView) → FitDrive r.rate r.cycle d p k → SmallPlan r p k
small_plan r p k d n =
    let a = n.t1_t2 in
    let b = n.t2_t3 in
    let c = n.t3_end in
    let e = n.cycle_end in
    let f = n.t4 in
    let g = n.record_end in
    let l = n.record_some in
    let m = n.mdt_len in
    record { t1 = omega arith; t2 = omega arith; t3 = omega arith; t4 = omega arith; position = omega arith; mdt_len = omega arith; cycle = omega arith }

pub holds_plan : HoldsPlan
holds_plan r p k d blocks valid fits at holds =
    let small = small_plan r p k d (fit_in_ring r p k d valid fits at) in
    rw (
      number_is blocks 6 (slice_index p.t1 k) holds.1.1.0 small.t1,
      number_is blocks 7 p.t4 holds.1.1.1.0 small.t4,
      number_is blocks 8 p.t3 holds.1.1.1.1.0 small.t3,
      number_is blocks 9 (slice_index p.position k) holds.1.1.1.1.1.0 small.position,
      number_is blocks 10 p.mdt_len holds.1.1.1.1.1.1.0 small.mdt_len,
      number_is blocks 89 p.t2 holds.1.1.1.1.1.1.1.1.1.1.0 small.t2,
    ) refl

two_bytes : (n : ℕ) → n < 65536 → bytes_in (n ∷ []) ≡ to_le_bytes w16 n
two_bytes n small = ap (λ h. (n % 256) ∷ h ∷ []) (omega arith)

list_told : (idns : List Idn) → bytes_in (map (λ (i : Idn). i.raw) idns) ≡ list_bytes idns
list_told [] = refl
list_told (i ∷ idns) = ap (λ rest. (i.raw % 256) ∷ (i.raw / 256) ∷ rest) (list_told idns)

pub writes_start_up : WritesStartUp
writes_start_up r p k d ok valid fits at =
    let small = small_plan r p k d (fit_in_ring r p k d valid fits at) in
    let is = member_is r k ∙ ap member_of (get_or_from_slice_get r.drives k d no_drive at) in
    rw (
      two_bytes r.control (small_control r.control (ring_cycles r ok).2),
      two_bytes r.cycle small.cycle,
      two_bytes (slice_index p.t1 k) small.t1,
      two_bytes p.t4 small.t4,
      two_bytes p.t3 small.t3,
      two_bytes (slice_index p.position k) small.position,
      two_bytes p.mdt_len small.mdt_len,
      two_bytes 7 (omega arith),
      ap (λ (m : MemberView). bytes_in (map (λ (i : Idn). i.raw) m.at)) is ∙ list_told d.at,
      ap (λ (m : MemberView). bytes_in (map (λ (i : Idn). i.raw) m.mdt)) is ∙ list_told d.mdt,
      two_bytes p.t2 small.t2,
    ) refl
