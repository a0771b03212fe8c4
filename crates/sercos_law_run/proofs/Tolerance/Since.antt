-- After a cycle from which on the disturbed ones are sparse: an epoch begins with the next, or the ring falls soon, or it bears them from
-- soon on.
use Rattle.sercos_law_run.proofs.Words.{cases_Bool, cases_Option, ◌≡◌, ◌⊎◌, inl, inr, ℕ, suc, ◌+◌, ◌<◌, ◌≤◌, true, false, List, [], ◌∷◌, ◌++◌, length, Option, Some, None, refl, sym, ap, ◌∙◌, subst, arith, length-append, is_some, cases_eq, cases_lt, false≢true, Job, startup_bound, RingView, CycleView, Fall, known_of, Past, fall_of, Carry, Restarts, IsUp, spared_cycles, IsClear, IsDisturbed, IsRun, looks_back, master_calls, behind_mdt, view_of, views_of, IsOpened, StartsEpoch, NoneFalls, TellsNoFall, IsUndisturbed, IsDown, start_cost, start_costs, AreSparse, IsSparse, Stop, IsBack, IsRight}
use Rattle.sercos_law_run.proofs.Undisturbed.Answered.{tells_going}
use Rattle.sercos_law_run.proofs.Undisturbed.Arriving.Small.{never_both}
use Rattle.sercos_law_run.proofs.Undisturbed.GoingCycles.{AreAll}
use Rattle.sercos_law_run.proofs.Undisturbed.PhaseZero.{starts_at_fall, starts_at_restart}
use Rattle.sercos_law_run.proofs.Undisturbed.Stops.StopStays.{none_before}
use Rattle.sercos_law_run.proofs.Undisturbed.Stops.StopOnce.{same_start}
use Rattle.sercos_law_run.proofs.Recovery.EarlyPhases.{up_in_one}
use Rattle.sercos_law_run.proofs.Recovery.EarlyStops.{stands_at}
use Rattle.sercos_law_run.proofs.Recovery.FallsSoon.{down_or_up}
use Rattle.sercos_law_run.proofs.Recovery.LateDown.{no_lower}
use Rattle.sercos_law_run.proofs.Recovery.CausedStops.{IsAtEnd, cause, caused, never_right}
use Rattle.sercos_law_run.proofs.Recovery.Stretches.{rest_clear, rest_runs, stays_down_in, up_in, whole_at}
use Rattle.sercos_law_run.proofs.Tolerance.Borne.{IsBase, IsHeld, borne_on, calm_or_not, some_drive, zero_is}
use Rattle.sercos_law_run.proofs.Tolerance.DownSparse.{falls_sparse, fall_sparse}
use Rattle.sercos_law_run.proofs.Tolerance.Settles.{IsSettled, early_few, first_held, settles, sparse_all}

-- A ring that is right has no stop.
pub right_four : (r : RingView) (t : CycleView) (j : List CycleView) → IsRight r → IsBack r t j → t.phase ≡ 4
right_four r t j right (inl four) = four.0
right_four r t j right (inr (x, stands, cause)) = absurd (never_right r x cause right)

-- A JOURNAL CUT at the oldest of some cycles in which the ring falls
pub record IsFell (r : RingView) (jobs : List Job) (carry : Carry) (restarts : Restarts) (P : CycleView → List CycleView → Type 0)
    (cycles rest : List CycleView) : Type 0 where
  pub newer : List CycleView
  pub one : CycleView
  pub older : List CycleView
  pub is : cycles ++ rest ≡ newer ++ one ∷ (older ++ rest)
  pub those : AreAll P newer (one ∷ (older ++ rest))
  pub those_then : AreAll P (one ∷ older) rest
  pub stays : NoneFalls r jobs carry restarts older rest
  pub falls : is_some (fall_of (known_of r) (behind_mdt r jobs carry restarts one.sent (older ++ rest))) ≡ true
  pub costs : start_costs r jobs carry restarts newer (one ∷ (older ++ rest)) + start_costs r jobs carry restarts older rest
      ≤ start_costs r jobs carry restarts cycles rest

fell_or_not : (r : RingView) (jobs : List Job) (carry : Carry) (restarts : Restarts) (P : CycleView → List CycleView → Type 0)
    (cycles rest : List CycleView) → AreAll P cycles rest
    → NoneFalls r jobs carry restarts cycles rest ⊎ IsFell r jobs carry restarts P cycles rest
fell_or_not r jobs carry restarts P [] rest those = inl tt
fell_or_not r jobs carry restarts P (t ∷ cycles) rest those = elim (fell_or_not r jobs carry restarts P cycles rest those.0) [
  | inl stays ↦ by (fall_of (known_of r) (behind_mdt r jobs carry restarts t.sent (cycles ++ rest))) refl stays
  | inr x ↦ inr (record {
    newer = t ∷ x.newer;
    one = x.one;
    older = x.older;
    is = ap (λ (l : List CycleView). t ∷ l) x.is;
    those = (x.those, subst (P t) x.is those.1);
    those_then = x.those_then;
    stays = x.stays;
    falls = x.falls;
    costs = let same = ap (λ (l : List CycleView). start_cost r jobs carry restarts t l) x.is in let few = x.costs in
        omega (arith, same, few);
  })
]
  where
    by : (o : Option Fall) → fall_of (known_of r) (behind_mdt r jobs carry restarts t.sent (cycles ++ rest)) ≡ o
        → NoneFalls r jobs carry restarts cycles rest
        → NoneFalls r jobs carry restarts (t ∷ cycles) rest ⊎ IsFell r jobs carry restarts P (t ∷ cycles) rest
    by None is stays = inl (stays, is)
    by (Some f) is stays = inr (record {
      newer = [];
      one = t;
      older = cycles;
      is = refl;
      those = tt;
      those_then = those;
      stays = stays;
      falls = ap (λ (o : Option Fall). is_some o) is;
      costs = omega arith;
    })

module _ (r : RingView) (jobs : List Job) (carry : Carry) (restarts : Restarts) (opened : IsOpened r jobs) where
  abbrev pub Base : List CycleView → Type 0
  Base j = IsBase r jobs carry restarts opened j

  abbrev stays_at : CycleView → List CycleView → Type 0
  stays_at t j = fall_of (known_of r) (behind_mdt r jobs carry restarts t.sent j) ≡ None

  pub up_at : (t : CycleView) (j : List CycleView) → IsRun r jobs carry restarts (t ∷ j) → IsClear (t ∷ j)
      → IsUndisturbed r carry restarts t j → stays_at t j → (k : ℕ) → k < length r.drives
      → (IsDown r jobs carry restarts k (t ∷ j) → ⊥) → IsUp (view_of r jobs carry restarts k t j) (views_of r jobs carry restarts k j)
  up_at t j run clear calm stays k below up = up_in (view_of r jobs carry restarts k t j) (views_of r jobs carry restarts k j)
      (whole_at r jobs carry restarts opened t j run clear calm stays k below) up

  -- THE RING FALLS SOON: without a stop at the end, and if the ring falls in the next cycle, the cycles are no more than this.
  pub record IsSoon (n : ℕ) (cycles rest : List CycleView) : Type 0 where
    pub none : (looks_back r jobs (master_calls r carry restarts (cycles ++ rest))).stop ≡ None
        → length cycles ≤ n + spared_cycles r + start_costs r jobs carry restarts cycles rest
    pub falls : (g : CycleView) → IsRun r jobs carry restarts (g ∷ (cycles ++ rest)) → IsClear (g ∷ (cycles ++ rest))
        → IsSparse r carry restarts g (cycles ++ rest)
        → is_some (fall_of (known_of r) (behind_mdt r jobs carry restarts g.sent (cycles ++ rest))) ≡ true
        → length cycles ≤ n + spared_cycles r + start_costs r jobs carry restarts cycles rest

  soon_if : (n : ℕ) (cycles rest : List CycleView) → length cycles ≤ n → IsSoon n cycles rest
  soon_if n cycles rest few = record { none = λ none. omega (arith, few); falls = λ g run clear sparse falls. omega (arith, few) }

  -- AN UNDISTURBED CYCLE f, after u, in neither of which the ring falls. Up to phase 2 u is undisturbed too, and each drive that isn't in
  -- phase 0 after f is in the commanded phase in u.
  pub record IsPlain (f u : CycleView) (b : List CycleView) : Type 0 where
    pub late : 1 ≤ f.phase
    pub calm : IsUndisturbed r carry restarts f (u ∷ b)
    pub stays_before : stays_at u b
    pub still_before : restarts (length b) 0 ≡ false
    pub stays : stays_at f (u ∷ b)
    pub known : (3 ≤ f.phase) ⊎ (IsUndisturbed r carry restarts u b × ((k : ℕ) → k < length r.drives
        → (IsDown r jobs carry restarts k (f ∷ u ∷ b) → ⊥)
        → IsUp (view_of r jobs carry restarts k u b) (views_of r jobs carry restarts k b)))

  module _ (P : CycleView → List CycleView → Type 0) (sparse_so : (t : CycleView) (j : List CycleView) → P t j
      → IsSparse r carry restarts t j)
    where
      abbrev Settled : ℕ → List CycleView → List CycleView → Type 0
      Settled n cycles rest = IsSettled r jobs carry restarts opened P n cycles rest

      -- FROM SUCH A CYCLE ON the ring falls soon, or it bears sparse faults from a cycle on.
      module _ (f u : CycleView) (b : List CycleView) (plain : IsPlain f u b) (newer : List CycleView)
          (run : IsRun r jobs carry restarts (newer ++ f ∷ u ∷ b)) (clear : IsClear (newer ++ f ∷ u ∷ b))
          (those : AreAll P newer (f ∷ u ∷ b)) (stays : NoneFalls r jobs carry restarts newer (f ∷ u ∷ b)) where
        run_f : IsRun r jobs carry restarts (f ∷ u ∷ b)
        run_f = rest_runs r jobs carry restarts newer (f ∷ u ∷ b) run

        clear_f : IsClear (f ∷ u ∷ b)
        clear_f = rest_clear newer (f ∷ u ∷ b) clear

        sparse : AreSparse r carry restarts newer (f ∷ u ∷ b)
        sparse = sparse_all r carry restarts P sparse_so newer (f ∷ u ∷ b) those

        held : (among : ℕ → Type 0) → ((k : ℕ) → among k → k < length r.drives)
            → ((k : ℕ) → among k → IsDown r jobs carry restarts k (f ∷ u ∷ b) → ⊥)
            → IsHeld r jobs carry restarts opened among (length (f ∷ u ∷ b)) f (u ∷ b)
        held among within up = first_held r jobs carry restarts opened among within f u b run_f clear_f plain.calm plain.stays_before
            plain.still_before plain.stays (λ k here. up_at f (u ∷ b) run_f clear_f plain.calm plain.stays k (within k here) (up k here))
            (elim plain.known [ inl high ↦ inl high | inr before ↦ inr (before.0, λ k here. before.1 k (within k here) (up k here)) ])

        pub soon_if_down : (d : ℕ) → d < length r.drives → IsDown r jobs carry restarts d (f ∷ u ∷ b) → IsSoon 64 newer (f ∷ u ∷ b)
        soon_if_down d there down =
            let held_up =
            held (λ k. (k < length r.drives) × (IsDown r jobs carry restarts k (f ∷ u ∷ b) → ⊥)) (λ k here. here.0)
            (λ k here. here.1) in
            let late : 2 ≤ f.phase =
            elim (cases_eq f.phase 1) [
              | inl one ↦ (let is = up_in_one r jobs carry restarts opened f (u ∷ b) run_f clear_f plain.calm one d there in
                  absurd (omega (arith, is, down)))
              | inr other ↦ (let least = plain.late in omega (arith, least, other))
            ] in
            record {
              none = falls_sparse r jobs carry restarts opened f (u ∷ b) plain.calm late d there down held_up newer run clear sparse stays;
              falls = λ g run_g clear_g sparse_g falls. fall_sparse r jobs carry restarts opened f (u ∷ b) plain.calm late d there down held_up
                  g
                  newer run_g clear_g (sparse, sparse_g) stays falls;
            }

        settled_or_soon : IsSoon 64 newer (f ∷ u ∷ b) ⊎ Settled (length (f ∷ u ∷ b)) newer (f ∷ u ∷ b)
        settled_or_soon = elim (down_or_up r jobs carry restarts (f ∷ u ∷ b)) [
          | inl found ↦ inl (soon_if_down found.0 found.1 found.2)
          | inr up ↦ elim (settles r jobs carry restarts opened P sparse_so f (u ∷ b)
              (held (λ k. k < length r.drives) (λ k below. below) up)
              plain.late (some_drive r jobs carry restarts opened) newer run clear those stays) [
                | inr x ↦ inr x
                | inl soon ↦ inl (soon_if 64 newer (f ∷ u ∷ b) (
                    let few = early_few r jobs carry restarts opened (length (f ∷ u ∷ b)) (newer ++ f ∷ u ∷ b) soon in
                    let parts = length-append newer (f ∷ u ∷ b) in omega (arith, few, parts)))
              ]
        ]

      -- AFTER THE CYCLE `lost`, if the first one is undisturbed, unless phase 0 is commanded, and the second, unless phase 3 or 4 is
      module _ (lost : CycleView) (before : List CycleView) (most : ℕ) (room : 66 ≤ most)
          (first_calm : (first : CycleView) → P first (lost ∷ before) → 1 ≤ first.phase
          → IsUndisturbed r carry restarts first (lost ∷ before))
          (second_so : (second first : CycleView) → P second (first ∷ lost ∷ before)
          → IsDisturbed r carry restarts second (first ∷ lost ∷ before) → 1 ≤ second.phase → (3 ≤ second.phase) × (67 ≤ most)) where
        -- these cycles, cut after such a cycle
        record IsFrom (cycles : List CycleView) : Type 0 where
          newer : List CycleView
          f : CycleView
          u : CycleView
          b : List CycleView
          is : cycles ++ lost ∷ before ≡ newer ++ f ∷ u ∷ b
          plain : IsPlain f u b
          long : 64 + length cycles ≤ length newer + most
          few : length b ≤ length before + 2
          those : AreAll P newer (f ∷ u ∷ b)
          stays : NoneFalls r jobs carry restarts newer (f ∷ u ∷ b)
          costs : start_costs r jobs carry restarts newer (f ∷ u ∷ b) ≤ start_costs r jobs carry restarts cycles (lost ∷ before)

        at_newest : (cycles : List CycleView) (f u : CycleView) (b : List CycleView) → cycles ++ lost ∷ before ≡ f ∷ u ∷ b → IsPlain f u b
            → 64 + length cycles ≤ most → length b ≤ length before + 2 → IsFrom cycles
        at_newest cycles f u b is plain long few = record {
          newer = [];
          f = f;
          u = u;
          b = b;
          is = is;
          plain = plain;
          long = omega (arith, long);
          few = few;
          those = tt;
          stays = tt;
          costs = omega arith;
        }

        further : (t : CycleView) (cycles : List CycleView) → P t (cycles ++ lost ∷ before) → stays_at t (cycles ++ lost ∷ before)
            → IsFrom cycles → IsFrom (t ∷ cycles)
        further t cycles this stays x = record {
          newer = t ∷ x.newer;
          f = x.f;
          u = x.u;
          b = x.b;
          is = ap (λ (l : List CycleView). t ∷ l) x.is;
          plain = x.plain;
          long = let long = x.long in omega (arith, long);
          few = x.few;
          those = (x.those, subst (P t) x.is this);
          stays = (x.stays, subst (stays_at t) x.is stays);
          costs = let same = ap (λ (l : List CycleView). start_cost r jobs carry restarts t l) x.is in let few = x.costs in
              omega (arith, same, few);
        }

        -- what holds of the cycles as long as there is no such cut
        abbrev AreLeft : List CycleView → Type 0
        AreLeft [] = Unit {0}
        AreLeft (first ∷ []) = 1 ≤ first.phase
        AreLeft (second ∷ first ∷ []) = IsDisturbed r carry restarts second (first ∷ lost ∷ before) × (3 ≤ second.phase) × (67 ≤ most)
        AreLeft (third ∷ second ∷ first ∷ cycles) = ⊥

        data IsFound (cycles : List CycleView) : Type 0 where
          Starts : StartsEpoch r jobs carry restarts (lost ∷ before) → IsFound cycles
          From : IsFrom cycles → IsFound cycles
          Left : length cycles ≤ 2 → AreLeft cycles → IsFound cycles

        -- THE FIRST CYCLE: in a later phase than 0 the ring didn't fall in the one before, and the master didn't restart.
        module _ (t : CycleView) (run : IsRun r jobs carry restarts (t ∷ lost ∷ before)) (clear : IsClear (t ∷ lost ∷ before))
            (this : P t (lost ∷ before)) (stays : stays_at t (lost ∷ before)) where
          still : restarts (length (lost ∷ before)) 0 ≡ false
          still = (sparse_so t (lost ∷ before) this).goes_on 0 (omega arith)

          never : 1 ≤ t.phase → StartsEpoch r jobs carry restarts (lost ∷ before) → ⊥
          never late starts = let zero = zero_is r jobs carry restarts opened t (lost ∷ before) run clear starts still in omega
              (arith, zero, late)

          at_first : IsFound (t ∷ [])
          at_first = elim (cases_eq t.phase 0) [
            | inl zero ↦ Starts (sym (run.1.phase ∙ ap (λ (p : Past). p.now.phase) (same_start r jobs carry restarts (lost ∷ before) still))
                ∙ zero)
            | inr later ↦ elim (cases_lt t.phase 3) [
              | inl low ↦ Left (omega arith) (omega (arith, later))
              | inr high ↦ From (at_newest (t ∷ []) t lost before refl (record {
                late = omega (arith, later);
                calm = first_calm t this (omega (arith, later));
                stays_before = elim (cases_Option (fall_of (known_of r) (behind_mdt r jobs carry restarts lost.sent before))) [
                  | inl none ↦ none
                  | inr is ↦ absurd (never (omega (arith, later))
                      (starts_at_fall r jobs carry restarts lost before (ap (λ (o : Option Fall). is_some o) is.1)).0)
                ];
                still_before = elim (cases_Bool (restarts (length before) 0)) [
                  | inl on ↦ absurd (never (omega (arith, later)) (starts_at_restart r jobs carry restarts lost before on).0)
                  | inr off ↦ off
                ];
                stays = stays;
                known = inl (omega (arith, high));
              }) (omega (arith, room)) (omega arith))
            ]
          ]

        -- THE SECOND, after a first one of a later phase than 0
        at_second : (t first : CycleView) → IsRun r jobs carry restarts (t ∷ first ∷ lost ∷ before) → IsClear (t ∷ first ∷ lost ∷ before)
            → AreAll P (t ∷ first ∷ []) (lost ∷ before) → NoneFalls r jobs carry restarts (t ∷ first ∷ []) (lost ∷ before) → 1 ≤ first.phase
            → IsFound (t ∷ first ∷ [])
        at_second t first run clear those stays late = elim (calm_or_not r carry restarts t (first ∷ lost ∷ before)) [
          | inl on ↦ (let so = second_so t first those.1 on (omega (arith, late, least)) in Left (omega arith) (on, so.0, so.1))
          | inr off ↦ From (at_newest (t ∷ first ∷ []) t first (lost ∷ before) refl (record {
            late = omega (arith, late, least);
            calm = off;
            stays_before = stays.0.1;
            still_before = (sparse_so first (lost ∷ before) those.0.1).goes_on 0 (omega arith);
            stays = stays.1;
            known = inr (calm, was_up);
          }) (omega (arith, room)) (omega arith))
        ]
          where
            calm : IsUndisturbed r carry restarts first (lost ∷ before)
            calm = first_calm first those.0.1 late

            least : first.phase ≤ t.phase
            least = no_lower r jobs carry restarts opened t first (lost ∷ before) run clear stays.0.1
                ((sparse_so t (first ∷ lost ∷ before) those.1).goes_on 0 (omega arith)) 0 (some_drive r jobs carry restarts opened)

            was_up : (k : ℕ) → k < length r.drives → (IsDown r jobs carry restarts k (t ∷ first ∷ lost ∷ before) → ⊥)
                → IsUp (view_of r jobs carry restarts k first (lost ∷ before)) (views_of r jobs carry restarts k (lost ∷ before))
            was_up k below up = up_at first (lost ∷ before) run.0 clear.0 calm stays.0.1 k below (λ down. elim (cases_eq first.phase 1) [
              | inl one ↦ (let is = up_in_one r jobs carry restarts opened first (lost ∷ before) run.0 clear.0 calm one k below in
                  omega (arith, is, down))
              | inr other ↦ up (stays_down_in r jobs carry restarts opened t (first ∷ lost ∷ before) run clear k below down
                  (omega (arith, other, late, least))).ended
            ])

        -- THE THIRD, after a second one of phase 3 or 4 that is disturbed
        at_third : (t second first : CycleView) → IsRun r jobs carry restarts (t ∷ second ∷ first ∷ lost ∷ before)
            → IsClear (t ∷ second ∷ first ∷ lost ∷ before) → AreAll P (t ∷ second ∷ first ∷ []) (lost ∷ before)
            → NoneFalls r jobs carry restarts (t ∷ second ∷ first ∷ []) (lost ∷ before) → AreLeft (second ∷ first ∷ [])
            → IsFound (t ∷ second ∷ first ∷ [])
        at_third t second first run clear those stays (on, high, more) =
            let now = sparse_so t (second ∷ first ∷ lost ∷ before) those.1 in
            let late : 3 ≤ t.phase =
            let least = no_lower r jobs carry restarts opened t second (first ∷ lost ∷ before) run clear stays.0.1
            (now.goes_on 0 (omega arith)) 0 (some_drive r jobs carry restarts opened) in omega (arith, least, high) in
            From (at_newest (t ∷ second ∷ first ∷ []) t second (first ∷ lost ∷ before) refl (record {
              late = omega (arith, late);
              calm = elim (calm_or_not r carry restarts t (second ∷ first ∷ lost ∷ before)) [
                | inr calm ↦ calm
                | inl too ↦ absurd (never_both _ on (now.late too late).1)
              ];
              stays_before = stays.0.1;
              still_before = (sparse_so second (first ∷ lost ∷ before) those.0.1).goes_on 0 (omega arith);
              stays = stays.1;
              known = inl late;
            }) (omega (arith, more)) (omega arith))

        find : (cycles : List CycleView) → IsRun r jobs carry restarts (cycles ++ lost ∷ before) → IsClear (cycles ++ lost ∷ before)
            → AreAll P cycles (lost ∷ before) → NoneFalls r jobs carry restarts cycles (lost ∷ before) → IsFound cycles
        find [] run clear those stays = Left (omega arith) tt
        find (t ∷ cycles) run clear those stays = by cycles run clear those stays (find cycles run.0 clear.0 those.0 stays.0)
          where
            by : (l : List CycleView) → IsRun r jobs carry restarts (t ∷ (l ++ lost ∷ before)) → IsClear (t ∷ (l ++ lost ∷ before))
                → AreAll P (t ∷ l) (lost ∷ before) → NoneFalls r jobs carry restarts (t ∷ l) (lost ∷ before) → IsFound l → IsFound (t ∷ l)
            by l run clear those stays (Starts starts) = Starts starts
            by l run clear those stays (From x) = From (further t l those.1 stays.1 x)
            by [] run clear those stays (Left few left) = at_first t run clear those.1 stays.1
            by (first ∷ []) run clear those stays (Left few left) = at_second t first run clear those stays left
            by (second ∷ first ∷ []) run clear those stays (Left few left) = at_third t second first run clear those stays left
            by (third ∷ second ∷ first ∷ l) run clear those stays (Left few left) = absurd left

        -- SO IT IS WITHOUT A FALL.
        data StandsSo (cycles : List CycleView) : Type 0 where
          Begins : StartsEpoch r jobs carry restarts (lost ∷ before) → StandsSo cycles
          Soon : IsSoon most cycles (lost ∷ before) → StandsSo cycles
          Bears : Settled (length before + 4) cycles (lost ∷ before) → StandsSo cycles

        stands_so : (cycles : List CycleView) → IsRun r jobs carry restarts (cycles ++ lost ∷ before) → IsClear (cycles ++ lost ∷ before)
            → AreAll P cycles (lost ∷ before) → NoneFalls r jobs carry restarts cycles (lost ∷ before) → StandsSo cycles
        stands_so cycles run clear those stays = by (find cycles run clear those stays)
          where
            by : IsFound cycles → StandsSo cycles
            by (Starts starts) = Begins starts
            by (Left few left) = Soon (soon_if most cycles (lost ∷ before) (omega (arith, few, room)))
            by (From x) = elim (settled_or_soon x.f x.u x.b x.plain x.newer (subst (IsRun r jobs carry restarts) x.is run)
                (subst IsClear x.is clear) x.those x.stays) [
                  | inl soon ↦ Soon (record {
                    none = λ none.
                        let long = x.long in let all = x.costs in
                        omega (
                          arith,
                          long,
                          all,
                          soon.none (subst
                              (λ (l : List CycleView). (looks_back r jobs (master_calls r carry restarts l)).stop ≡ None) x.is none),
                        );
                    falls = λ g run_g clear_g sparse falls.
                        let few = soon.falls g (subst (λ (l : List CycleView). IsRun r jobs carry restarts (g ∷ l)) x.is run_g)
                        (subst (λ (l : List CycleView). IsClear (g ∷ l)) x.is clear_g) (subst (IsSparse r carry restarts g) x.is sparse)
                        (subst (λ (l : List CycleView). is_some (fall_of (known_of r) (behind_mdt r jobs carry restarts g.sent l)) ≡ true)
                        x.is falls) in
                        let long = x.long in let all = x.costs in omega (arith, long, all, few);
                  })
                  | inr s ↦ Bears (record {
                    newer = s.newer;
                    before = s.before;
                    is = x.is ∙ s.is;
                    stood = s.stood;
                    few = let few = s.few in let before_that = x.few in omega (arith, few, before_that);
                    those = s.those;
                    costs = let all = x.costs in let few = s.costs in omega (arith, all, few);
                  })
                ]

        -- WITH AT MOST ONE FALL the ring bears sparse faults from some cycle on, which comes soon.
        pub record IsBorneSince (t : CycleView) (cycles : List CycleView) : Type 0 where
          pub newer : List CycleView
          pub since_then : List CycleView
          pub is : cycles ++ lost ∷ before ≡ newer ++ since_then
          pub base : Base since_then
          pub those : AreAll P (t ∷ newer) since_then
          pub few : length since_then + start_costs r jobs carry restarts newer since_then
              ≤ length before + 2 + most + spared_cycles r + start_costs r jobs carry restarts cycles (lost ∷ before)

        -- where it bears them, it doesn't fall
        never_falls : (t : CycleView) (cycles newer since_then : List CycleView)
            → IsRun r jobs carry restarts (t ∷ (cycles ++ lost ∷ before))
            → IsClear (t ∷ (cycles ++ lost ∷ before)) → cycles ++ lost ∷ before ≡ newer ++ since_then → Base since_then
            → AreAll P (t ∷ newer) since_then → stays_at t (cycles ++ lost ∷ before)
        never_falls t cycles newer since_then run clear is base those = subst (stays_at t) (sym is)
            (borne_on r jobs carry restarts opened t newer since_then (subst (λ (l : List CycleView). IsRun r jobs carry restarts (t ∷ l))
            is run)
            (subst (λ (l : List CycleView). IsClear (t ∷ l)) is clear) base
            (sparse_all r carry restarts P sparse_so (t ∷ newer) since_then those)).stays

        module _ (t : CycleView) (cycles : List CycleView) (run : IsRun r jobs carry restarts (t ∷ (cycles ++ lost ∷ before)))
            (clear : IsClear (t ∷ (cycles ++ lost ∷ before))) (those : AreAll P (t ∷ cycles) (lost ∷ before)) where
          parts : length (cycles ++ lost ∷ before) ≡ length cycles + suc (length before)
          parts = length-append cycles (lost ∷ before)

          pub borne_or_soon : IsBorneSince t cycles ⊎ IsSoon most cycles (lost ∷ before)
          borne_or_soon = elim (fell_or_not r jobs carry restarts P cycles (lost ∷ before) those.0) [
            | inl stays ↦ without (stands_so cycles run.0 clear.0 those.0 stays)
            | inr x ↦ inl (with_fall x (stands_so x.older (older_run x).0.0 (older_run x).1.0 x.those_then.0 x.stays))
          ]
            where
              without : StandsSo cycles → IsBorneSince t cycles ⊎ IsSoon most cycles (lost ∷ before)
              without (Begins starts) = inl (record {
                newer = cycles;
                since_then = lost ∷ before;
                is = refl;
                base = inl starts;
                those = those;
                few = omega arith;
              })
              without (Soon x) = inr x
              without (Bears x) = inl (record {
                newer = x.newer;
                since_then = x.before;
                is = x.is;
                base = inr x.stood;
                those = (x.those, subst (P t) x.is those.1);
                few = let few = x.few in let costs = x.costs in omega (arith, few, costs, room);
              })

              older_run : (x : IsFell r jobs carry restarts P cycles (lost ∷ before))
                  → IsRun r jobs carry restarts (x.one ∷ (x.older ++ lost ∷ before)) × IsClear (x.one ∷ (x.older ++ lost ∷ before))
              older_run x = (
                rest_runs r jobs carry restarts x.newer (x.one ∷ (x.older ++ lost ∷ before))
                    (subst (IsRun r jobs carry restarts) x.is run.0),
                rest_clear x.newer (x.one ∷ (x.older ++ lost ∷ before)) (subst IsClear x.is clear.0),
              )

              never : (x : IsFell r jobs carry restarts P cycles (lost ∷ before)) → stays_at x.one (x.older ++ lost ∷ before)
                  → IsBorneSince t cycles
              never x stays = absurd (false≢true (sym (ap (λ (o : Option Fall). is_some o) stays) ∙ x.falls))

              with_fall : (x : IsFell r jobs carry restarts P cycles (lost ∷ before)) → StandsSo x.older → IsBorneSince t cycles
              with_fall x (Begins starts) = never x (never_falls x.one x.older x.older (lost ∷ before) (older_run x).0 (older_run x).1 refl
                  (inl starts) x.those_then)
              with_fall x (Bears s) = never x (never_falls x.one x.older s.newer s.before (older_run x).0 (older_run x).1 s.is (inr s.stood)
                  (s.those, subst (P x.one) s.is x.those_then.1))
              with_fall x (Soon s) = record {
                newer = x.newer;
                since_then = x.one ∷ (x.older ++ lost ∷ before);
                is = x.is;
                base = inl (starts_at_fall r jobs carry restarts x.one (x.older ++ lost ∷ before) x.falls).0;
                those = (x.those, subst (P t) x.is those.1);
                few =
                    let costs = x.costs in omega (
                      arith,
                      s.falls x.one (older_run x).0 (older_run x).1
                          (sparse_so x.one (x.older ++ lost ∷ before) x.those_then.1) x.falls,
                      length-append x.older (lost ∷ before),
                      costs,
                    );
              }

          -- NO FALL IS TOLD so late, nor anything broken.
          pub tells_since : length before + 2 + most + spared_cycles r + start_costs r jobs carry restarts cycles (lost ∷ before)
              ≤ length (cycles ++ lost ∷ before) → TellsNoFall t
          tells_since long = tells_going r jobs carry restarts opened t (cycles ++ lost ∷ before) run clear
              ((sparse_so t (cycles ++ lost ∷ before) those.1).goes_on 0 (omega arith)) (elim borne_or_soon [
                | inl x ↦ never_falls t cycles x.newer x.since_then run clear x.is x.base x.those
                | inr soon ↦ elim (cases_Option (fall_of (known_of r) (behind_mdt r jobs carry restarts t.sent (cycles ++ lost ∷ before)))) [
                  | inl none ↦ none
                  | inr is ↦ absurd (
                      let all = parts in omega (
                        arith,
                        soon.falls t run clear (sparse_so t (cycles ++ lost ∷ before) those.1)
                            (ap (λ (o : Option Fall). is_some o) is.1),
                        all,
                        long,
                      ))
                ]
              ])

          -- THE RING IS BACK once a start-up from such a cycle on has ended.
          pub back_since : (tail : ℕ) → ((newer rest : List CycleView) → IsRun r jobs carry restarts (t ∷ (newer ++ rest))
              → IsClear (t ∷ (newer ++ rest)) → Base rest → AreSparse r carry restarts (t ∷ newer) rest
              → startup_bound r + tail + start_costs r jobs carry restarts newer rest ≤ length newer
              → IsAtEnd r jobs carry restarts t (newer ++ rest))
              → length before + 2 + most + spared_cycles r + start_costs r jobs carry restarts cycles (lost ∷ before) + startup_bound r
              + tail
              ≤ length (cycles ++ lost ∷ before) → IsBack r t (cycles ++ lost ∷ before)
          back_since tail ends long = elim borne_or_soon [
            | inl x ↦ subst (IsBack r t) (sym x.is) (from_base x.newer x.since_then
                (subst (λ (l : List CycleView). IsRun r jobs carry restarts (t ∷ l)) x.is run)
                (subst (λ (l : List CycleView). IsClear (t ∷ l)) x.is clear) (subst (stays_at t) x.is
                (never_falls t cycles x.newer x.since_then run clear x.is x.base x.those)) (ends x.newer x.since_then
                (subst (λ (l : List CycleView). IsRun r jobs carry restarts (t ∷ l)) x.is run)
                (subst (λ (l : List CycleView). IsClear (t ∷ l)) x.is clear) x.base
                (sparse_all r carry restarts P sparse_so (t ∷ x.newer) x.since_then x.those)
                (let same = ap length x.is ∙ length-append x.newer x.since_then in let few = x.few in omega (arith, same, few, long))))
            | inr soon ↦ with_soon soon (behind_mdt r jobs carry restarts t.sent (cycles ++ lost ∷ before)).stop refl
                (fall_of (known_of r) (behind_mdt r jobs carry restarts t.sent (cycles ++ lost ∷ before))) refl
          ]
            where
              from_base : (newer rest : List CycleView) → IsRun r jobs carry restarts (t ∷ (newer ++ rest)) → IsClear (t ∷ (newer ++ rest))
                  → stays_at t (newer ++ rest) → IsAtEnd r jobs carry restarts t (newer ++ rest) → IsBack r t (newer ++ rest)
              from_base newer rest run clear stays (inl up) = inl (up.0, up.2)
              from_base newer rest run clear stays (inr stop) = inr (
                stop.0,
                stands_at r jobs carry restarts t (newer ++ rest) stop.0 run stays stop.1,
                caused r jobs carry restarts t (newer ++ rest) stop.0 stop.2,
              )

              too_long : length cycles ≤ most + spared_cycles r + start_costs r jobs carry restarts cycles (lost ∷ before) → ⊥
              too_long few = let all = parts in omega (arith, few, all, long)

              with_soon : IsSoon most cycles (lost ∷ before) → (o : Option Stop)
                  → (behind_mdt r jobs carry restarts t.sent (cycles ++ lost ∷ before)).stop ≡ o → (f : Option Fall)
                  → fall_of (known_of r) (behind_mdt r jobs carry restarts t.sent (cycles ++ lost ∷ before)) ≡ f
                  → IsBack r t (cycles ++ lost ∷ before)
              with_soon soon None none f falls = absurd (too_long (soon.none (none_before r jobs carry restarts t (cycles ++ lost ∷ before)
                  (same_start r jobs carry restarts (cycles ++ lost ∷ before)
                  ((sparse_so t (cycles ++ lost ∷ before) those.1).goes_on 0 (omega arith))) none)))
              with_soon soon (Some x) stop (Some y) falls = absurd (too_long (soon.falls t run clear
                  (sparse_so t (cycles ++ lost ∷ before) those.1) (ap (λ (o : Option Fall). is_some o) falls)))
              with_soon soon (Some x) stop None stays = from_base cycles (lost ∷ before) run clear stays
                  (inr (x, stop, cause r jobs carry restarts opened t (cycles ++ lost ∷ before) run clear x stop))
