-- Worked cycles: one that is sent by a plan, and two that aren't apart.
use Rattle.sercos_law_run.proofs.Words.{◌≡◌, ℕ, ◌*◌, ◌<◌, ◌≤◌, inl, List, [], ◌∷◌, Option, Some, refl, sym, ◌∙◌, ap, arith, All, AllPairs, All-cons, All-nil, AllPairs-cons, WishesView, PlanView, at_bits, two_drives, AtSlot, MdtSlot, Held, HasPause, IsAtItsTime, AreApart, held_of, IsSentBefore, AreOnPlan}

abbrev ring : WishesView
ring = two_drives 250 10

abbrev plan : PlanView
plan = record { t1 = 10 ∷ 46 ∷ []; t2 = 83; t3 = 153; t4 = 230; position = 1 ∷ 9 ∷ []; mdt_len = 16 }

-- both drives are in phase 3 or 4
abbrev held : ℕ → Option Held
held k = Some (held_of plan k)

abbrev pub slot : ℕ → ℕ → ℕ → AtSlot
slot drive start bits = record { drive = drive; start = start; bits = bits }

abbrev mdt : MdtSlot
mdt = record { start = 332; bits = 190; records = (0 ∷ 1 ∷ 2 ∷ 3 ∷ 4 ∷ 5 ∷ 6 ∷ 7 ∷ []) ∷ (8 ∷ 9 ∷ 10 ∷ 11 ∷ 12 ∷ 13 ∷ 14 ∷ 15 ∷ []) ∷ [] }

abbrev two_ats : List AtSlot
two_ats = slot 0 40 110 ∷ slot 1 184 112 ∷ []

pub each_two : (P : AtSlot → Type 0) (a b : AtSlot) → P a → P b → All P (a ∷ b ∷ [])
each_two P a b first second = All-cons P a (b ∷ []) first (All-cons P b [] second (All-nil P))

pub pair_of_two : (R : AtSlot → AtSlot → Type 0) (a b : AtSlot) → R a b → AllPairs R (a ∷ b ∷ [])
pair_of_two R a b both =
    AllPairs-cons R a (b ∷ []) (All-cons (R a) b [] both (All-nil (R a))) (AllPairs-cons R b [] (All-nil (R b)) (λ i j d less below. absurd (omega arith)))

two_on_plan : AreOnPlan ring plan held two_ats mdt
two_on_plan = record {
  holds = λ k h in' e. cc;
  drives = each_two (λ s. s.drive < 2) _ _ (omega arith) (omega arith);
  starts = each_two (IsAtItsTime ring held) _ _ (held_of plan 0, refl, refl) (held_of plan 1, refl, refl);
  bits = each_two (λ s. s.bits ≤ at_bits ring s.drive) _ _ (omega arith) (omega arith);
  in_order = pair_of_two IsSentBefore _ _ (inl (omega arith));
  mdt_start = refl;
  mdt_bits = omega arith;
  records = refl;
}

-- between two ATs is a bit less than the gap
too_near : AreApart ring held (slot 0 40 125 ∷ slot 1 184 112 ∷ []) mdt → ⊥
too_near apart =
    let near : HasPause ring (slot 0 40 125) (slot 1 184 112) = apart.pauses 0 1 (slot 0 0 0) (omega arith) (omega arith) in
    omega arith

-- an AT starts a bit later than its drive holds
too_late : AreApart ring held (slot 1 185 112 ∷ []) mdt → ⊥
too_late apart =
    let at : IsAtItsTime ring held (slot 1 185 112) = apart.at_times 0 (slot 0 0 0) (omega arith) in
    let same : held_of plan 1 ≡ at.0 = cc in
    let start : 185 ≡ 4 * (held_of plan 1).t1 = at.2 ∙ ap (λ (h : Held). 4 * h.t1) (sym same) in omega arith
