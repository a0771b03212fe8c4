-- There is a run for any choices.
use Rattle.sercos_law_channel.proofs.Words.{◌≡◌, ℕ, ◌+◌, ◌≤◌, Bool, true, false, not, ◌&&◌, ◌||◌, List, [], ◌∷◌, refl, arith, if◌then◌else◌, nat_le, nat_lt, ◌==◌, Option, Some, None, IsSome, IfSome, is_none, and_parts, leb-true, ltb-true, Step, Request, Block, open_in, master_says, standing, stood_in, whole_row, IsShown, IsRun, IsSound, AreSound, Choice, silent_by, begun_before, begun_at, has_ten, rises_at, view_by, run_by, AreSoundChoices, cond_both}

shut_at : (o : Option Step) → is_none o ≡ true → o ≡ None
shut_at None e = refl
shut_at (Some s) e = absurd (cc)

allowed : (b : Bool) (o : Option Request) → IsSome (if b then o else None) → b ≡ true
allowed true o some = refl
allowed false o some = absurd (cc)

module _ (busy : ℕ) where
  ten_by : (p n : ℕ) (whole falls restarts : Bool) → (nat_le 1 p || ((whole && not falls) && nat_le 9 (if restarts then 0 else n))) ≡ true → p ≡ 0 → 10 ≤ (if whole && ((p == 0) && not falls) then (if restarts then 0 else n) + 1 else 0)
  ten_by p n whole falls restarts up zero = at whole falls (if restarts then 0 else n) (rw zero at up)
    where
      at : (whole falls : Bool) (k : ℕ) → (nat_le 1 0 || ((whole && not falls) && nat_le 9 k)) ≡ true → 10 ≤ (if whole && ((p == 0) && not falls) then k + 1 else 0)
      at true false k on = let nine = leb-true 9 k on in rw zero (omega arith)
      at true true k on = absurd (cc)
      at false falls k on = absurd (cc)

  pub is_run : (choices : List Choice) → IsRun busy (run_by busy choices)
  is_run [] = tt
  is_run (c ∷ choices) =
      let past = run_by busy choices in
      let up : rises_at busy c past ≡ true → (is_none (open_in (begun_at busy c past)) ≡ true) × (nat_lt (silent_by c past).phase 4 ≡ true) × ((nat_le 1 (silent_by c past).phase || has_ten c past) ≡ true) = λ r.
      let parts = and_parts (c.rises && is_none (open_in (begun_at busy c past))) _ r in
      let more = and_parts (nat_lt (silent_by c past).phase 4) _ parts.1 in
      ((and_parts c.rises _ parts.0).1, more.0, more.1) in (
        is_run choices,
        record {
          commanded = refl;
          heard = cond_both (c.mst_comes && (c.at_comes && nat_le 1 (stood_in (silent_by c past) (standing past)))) _ None
              (λ o. IfSome o (λ a. IsShown busy a (view_by busy c past) past))
              (λ on.
              let parts = and_parts c.mst_comes _ on in
              let more = and_parts c.at_comes _ parts.1 in
              record { got_mst = parts.0; stands = leb-true 1 (stood_in (silent_by c past) (standing past)) more.1; says = refl })
              (λ off. tt);
          late = λ some. leb-true 2 (silent_by c past).phase (and_parts (nat_le 2 (silent_by c past).phase) _ (allowed _ c.wants some)).0;
          begins = λ some. shut_at (open_in (begun_before busy c past)) (and_parts (nat_le 2 (silent_by c past).phase) _ (allowed _ c.wants some)).1;
          sent =
              cond_both c.sends (Some (master_says (begun_at busy c past))) None
              (λ o. IfSome o (λ s. s ≡ master_says (begun_at busy c past))) (λ on. refl) (λ off. tt);
          ten = λ r zero. ten_by (silent_by c past).phase (whole_row past) c.whole c.falls c.master_restarts (up r).2 zero;
          rests = λ r. shut_at (open_in (begun_at busy c past)) (up r).0;
          top = λ r. ltb-true (silent_by c past).phase 4 (up r).1;
        },
      )

  pub is_sound : (blocks : List Block) (choices : List Choice) → AreSoundChoices blocks choices → AreSound blocks (run_by busy choices)
  is_sound blocks [] sound = tt
  is_sound blocks (c ∷ choices) sound =
      let past = run_by busy choices in
      let begins = cond_both (nat_le 2 (silent_by c past).phase && is_none (open_in (begun_before busy c past))) c.wants None
      (λ o. IfSome o (λ r. IsSound blocks r)) (λ may. sound.1.1) (λ off. tt) in (is_sound blocks choices sound.0, (sound.1.0, begins))
