-- How a drive stands in a cycle of which it may miss something, and what is heard and processed in a whole one.
use Rattle.sercos_law_run.proofs.Words.{◌≡◌, ◌⊎◌, inl, inr, ℕ, ◌+◌, ◌≤◌, Bool, true, false, not, ◌&&◌, List, [], ◌∷◌, length, refl, sym, ap, ap₂, ◌∙◌, arith, if◌then◌else◌, max, nat_le, is_some, and_from, cond-false, cond-true, le-leb, leb-true, Begun, open_in, begun_in, epoch_begun, Standing, View, afresh, before_mst, got_in, moved, processed_in, standing, stood_in, takes_in, staying, IsPassed, IsUp, IsWhole, was_addressed, comes_to, ends, open_late, moved_same, got_some, moved_next, IsBehind, stands_no_later, processed_some, cases_Bool}
use Rattle.sercos_law_channel.specs.Handshake.Runs.{IsRun}
use Rattle.sercos_law_channel.proofs.Theorems.{stands_as_commanded}

-- a cycle at whose end the master doesn't fall
pub stays_same : (v : View) → v.falls ≡ false → staying v ≡ v
stays_same v stays = ap (λ (b : Bool). (let w : View = record v { falls = b } in w)) (sym stays)

-- A WHOLE CYCLE leaves no MDT missed, if the drive is in the commanded phase.
pub took_mdt : (v : View) (past : List View) → IsWhole v past → stood_in v (standing past) ≡ v.phase
    → (standing (v ∷ past)).missed_mdt ≡ false
took_mdt v past whole up = elim (cases_Bool (nat_le 3 (stood_in v (standing past)))) [
  | inl on ↦ ap₂ (λ (a t : Bool). a && not t) on (took (leb-true 3 (stood_in v (standing past)) on))
  | inr off ↦ ap (λ (a : Bool). a && not (takes_in v (stood_in v (standing past)))) off
]
  where
    took : 3 ≤ stood_in v (standing past) → takes_in v (stood_in v (standing past)) ≡ true
    took three =
        let sent = whole.joint (omega (arith, up, three)) in
        and_from v.mst_comes _ whole.mst (and_from (nat_le 1 (stood_in v (standing past))) (is_some (got_in v))
        (le-leb 1 (stood_in v (standing past)) (omega (arith, three))) (got_some v (whole.mdt sent (omega (arith, three))) sent))

-- while phase 0 is commanded, a drive that gets the MST is in it, and any drive is from the second such cycle on
pub zero_up : (v : View) (past : List View) → v.mst_comes ≡ true → v.phase ≡ 0 → IsUp v past
zero_up v past comes zero =
    let stood : stood_in v (standing past) ≡ 0 = elim (stands_as_commanded v past comes) [ inl z ↦ z | inr same ↦ same ∙ zero ] in
    (stood ∙ sym zero, elim (ends v past) [ inl z ↦ z ∙ sym zero | inr same ↦ same ∙ stood ∙ sym zero ])

pub zero_again : (v u : View) (past : List View) → v.phase ≡ 0 → u.phase ≡ 0 → IsUp v (u ∷ past)
zero_again v u past zero before =
    let none : max v.phase u.phase ≡ 0 = ap₂ (λ (m n : ℕ). max m n) zero before in
    let stood : stood_in v (standing (u ∷ past)) ≡ 0 = omega (arith, stands_no_later v (u ∷ past), none) in
    (stood ∙ sym zero, elim (ends v (u ∷ past)) [ inl z ↦ z ∙ sym zero | inr same ↦ same ∙ stood ∙ sym zero ])

-- A CYCLE OF WHICH ANYTHING MAY BE LOST, after a whole one at whose end the drive was in the commanded phase: it is in the commanded phase,
-- or it missed the MST of the first cycle commanded this phase.
never_down : (a b : Bool) (n : ℕ) → (if a && (b && false) then 0 else n) ≡ n
never_down true true n = refl
never_down true false n = refl
never_down false b n = refl

pub lost_so : (v u : View) (past : List View) → v.drive_restarts ≡ false → u.mst_comes ≡ true → (standing (u ∷ past)).missed_mdt ≡ false
    → IsUp u past → (u.phase ≡ v.phase) ⊎ (u.phase + 1 ≡ v.phase) → IsPassed v (u ∷ past)
    → IsUp v (u ∷ past) ⊎ IsBehind v (u ∷ past)
lost_so v u past still comes took up next passed = by v.mst_comes refl
  where
    same : before_mst v (standing (u ∷ past)) ≡ standing (u ∷ past)
    same = cond-false v.drive_restarts afresh (standing (u ∷ past)) still

    ended : (standing (v ∷ u ∷ past)).ended ≡ stood_in v (standing (u ∷ past))
    ended =
        ap (λ (m : Bool). if nat_le 3 (stood_in v (standing (u ∷ past))) && (not (takes_in v (stood_in v (standing (u ∷ past)))) && m) then
        0 else stood_in v (standing (u ∷ past)))
        (ap (λ (f : Standing). f.missed_mdt) same ∙ took) ∙ never_down (nat_le 3 (stood_in v (standing (u ∷ past))))
        (not (takes_in v (stood_in v (standing (u ∷ past))))) (stood_in v (standing (u ∷ past)))

    by : (b : Bool) → v.mst_comes ≡ b → IsUp v (u ∷ past) ⊎ IsBehind v (u ∷ past)
    by true came = inl (stood, ended ∙ stood)
      where
        stood : stood_in v (standing (u ∷ past)) ≡ v.phase
        stood = comes_to v (standing (u ∷ past)) (standing (u ∷ past)).ended came (ap (λ (f : Standing). f.ended) same) ∙ elim next [
          | inl is ↦ ap (moved v.checked v.phase) (up.1 ∙ is) ∙ moved_same v.checked v.phase
          | inr more ↦ (let below : (standing (u ∷ past)).ended + 1 ≡ v.phase = ap (λ (n : ℕ). n + 1) up.1 ∙ more in
              moved_next v.checked v.phase (standing (u ∷ past)).ended below (λ late. passed late below))
        ]
    by false missed = elim next [
      | inl is ↦ inl (stood ∙ is, ended ∙ stood ∙ is)
      | inr more ↦ inr (record {
        missed = missed;
        first = more;
        stood = ap (λ (n : ℕ). n + 1) stood ∙ more;
        ended =
            ap (λ (n : ℕ). n + 1) (ended ∙ stood) ∙ more;
      })
    ]
      where
        stood : stood_in v (standing (u ∷ past)) ≡ u.phase
        stood = cond-false v.mst_comes _ _ missed ∙ ap (λ (f : Standing). if f.got_mst then f.ended else 0) same
            ∙ cond-true u.mst_comes (standing (u ∷ past)).ended 0 comes ∙ up.1

-- WHAT A WHOLE CYCLE BRINGS: an open step is processed, if the drive is in the commanded phase,
pub takes_whole : (busy : ℕ) (v : View) (past : List View) → IsRun busy (v ∷ past) → IsWhole v past → IsUp v past
    → is_some (open_in (begun_in v past)) ≡ true → is_some (processed_in v past) ≡ true
takes_whole busy v past run whole up some =
    let two = open_late busy v past run some in
    let same = up.0 in
    let sent = whole.sends some in
    let comes = whole.mdt sent (omega (arith, two, same)) in
    processed_some v (length past) (stood_in v (standing past)) (got_in v) whole.mst (omega (arith, two, same)) (got_some v comes sent)

-- and it is heard in phases 3 and 4, and before them if the cycle before was whole too.
pub hears_whole : (busy : ℕ) (v u : View) (past : List View) → IsRun busy (v ∷ u ∷ past) → u.falls ≡ false → IsWhole v (u ∷ past)
    → IsUp v (u ∷ past) → (u.phase ≡ v.phase) ⊎ (u.phase + 1 ≡ v.phase)
    → (3 ≤ v.phase) ⊎ (IsWhole u past × IsUp u past) → is_some (open_in (epoch_begun (u ∷ past))) ≡ true → is_some v.heard ≡ true
hears_whole busy v u past run stays whole up next (inl late) some = let same = up.0 in whole.listens late (omega (arith, late, same))
hears_whole busy v u past run stays whole up next (inr (before, was)) some =
    let at : is_some (open_in (begun_in u past)) ≡ true =
    ap (λ (l : List Begun). is_some (open_in l)) (sym (cond-false u.falls [] (begun_in u past) stays)) ∙ some in
    let two = open_late busy u past run.0 at in
    let addressed : was_addressed (u ∷ past) ≡ true =
    let sent = before.sends at in
    and_from u.mst_comes (is_some (got_in u)) before.mst (got_some u (before.mdt sent (let same = was.0 in omega (arith, same, two)))
    sent) in
    whole.hears some addressed (let same = up.0 in elim next [
      | inl is ↦ omega (arith, is, same, two)
      | inr more ↦
          omega (arith, more, same, two)
    ])
