-- How the phase of the drive moves, and what it keeps of the records.
use Rattle.sercos_law_channel.proofs.Words.{◌≡◌, ◌⊎◌, inl, inr, ℕ, ◌+◌, ◌≤◌, Bool, true, false, not, ◌&&◌, ◌||◌, List, [], ◌∷◌, length, refl, sym, ap, ◌∙◌, arith, if◌then◌else◌, nat_le, ◌==◌, Option, Some, None, cases_eq, and_parts, leb-true, eqb-true, ne_eqb, cond-false, Processed, Said, View, Standing, moved, afresh, before_mst, stood_in, got_in, takes_in, standing, record_in, processed_of, processed_in, with_record, kept_in_phase, kept_unless, since_reset, kept_in, subst, StandsAsCommanded}

-- which way a choice went
pub chosen : {A : Type 0} (b : Bool) (x y : A) → ((b ≡ true) × ((if b then x else y) ≡ x)) ⊎ ((b ≡ false) × ((if b then x else y) ≡ y))
chosen true x y = inl (refl, refl)
chosen false x y = inr (refl, refl)

-- a move leads to 0, or to the MST's phase from there or from the one below
moved_cases : (checked : Bool) (p q : ℕ) → (moved checked p q ≡ 0) ⊎ ((moved checked p q ≡ p) × (q ≤ p) × (p ≤ q + 1))
moved_cases checked p q = elim (chosen (p == q) p (if (p == q + 1) && (nat_le p 2 || checked) then p else 0)) [
  | inl same ↦ let e = eqb-true p q same.0 in inr (same.1, omega arith, omega arith)
  | inr other ↦ elim (chosen ((p == q + 1) && (nat_le p 2 || checked)) p 0) [
    | inl up ↦ let e = eqb-true p (q + 1) (and_parts (p == q + 1) (nat_le p 2 || checked) up.0).0 in inr (other.1 ∙ up.1, omega arith, omega arith)
    | inr down ↦ inl (other.1 ∙ down.1)
  ]
]

-- how a drive comes to its phase in a cycle: it is in 0; or the MST moved it to its phase, from there or from the one below; or
-- it missed the MST but not the one before, and stays
pub data Stands (v : View) (f : Standing) : Type 0 where
  Down : stood_in v f ≡ 0 → Stands v f
  Moves : v.mst_comes ≡ true → stood_in v f ≡ v.phase → (before_mst v f).ended ≤ v.phase → v.phase ≤ (before_mst v f).ended + 1 → Stands v f
  Stays : v.mst_comes ≡ false → f.got_mst ≡ true → v.drive_restarts ≡ false → stood_in v f ≡ f.ended → Stands v f

-- it restarts, or goes on as it was
pub before : (v : View) (f : Standing) → ((v.drive_restarts ≡ true) × (before_mst v f ≡ afresh)) ⊎ ((v.drive_restarts ≡ false) × (before_mst v f ≡ f))
before v f = chosen v.drive_restarts afresh f

stays : (v : View) (f : Standing) → v.mst_comes ≡ false → (before_mst v f).got_mst ≡ true → stood_in v f ≡ (before_mst v f).ended → Stands v f
stays v f missed got_mst is = elim (before v f) [
  | inl r ↦ Down (is ∙ ap (λ (g : Standing). g.ended) r.1)
  | inr on ↦ Stays missed (ap (λ (g : Standing). g.got_mst) (sym on.1) ∙ got_mst) on.0 (is ∙ ap (λ (g : Standing). g.ended) on.1)
]

pub stands : (v : View) (f : Standing) → Stands v f
stands v f = let g : Standing = before_mst v f in elim (chosen v.mst_comes (moved v.checked v.phase g.ended) (if g.got_mst then g.ended else 0)) [
  | inl came ↦ elim (moved_cases v.checked v.phase g.ended) [
    | inl z ↦ Down (came.1 ∙ z)
    | inr m ↦ Moves came.0 (came.1 ∙ m.0) m.1 m.2
  ]
  | inr missed ↦ elim (chosen g.got_mst g.ended 0) [
    | inr z ↦ Down (missed.1 ∙ z.1)
    | inl s ↦ stays v f missed.0 s.0 (missed.1 ∙ s.1)
  ]
]

-- at the end it is where it stood, or in 0
pub ends : (v : View) (past : List View) → ((standing (v ∷ past)).ended ≡ 0) ⊎ ((standing (v ∷ past)).ended ≡ stood_in v (standing past))
ends v past = elim (chosen (nat_le 3 (stood_in v (standing past)) && (not (takes_in v (stood_in v (standing past))) && (before_mst v (standing past)).missed_mdt)) 0 (stood_in v (standing past))) [ inl z ↦ inl z.1 | inr e ↦ inr e.1 ]

-- a record is processed where the MST came, and in phases 2 to 4
pub data Processes (v : View) (past : List View) : Type 0 where
  Nothing : processed_in v past ≡ None → Processes v past
  Record : (s : Said) → got_in v ≡ Some s → v.mst_comes ≡ true → 2 ≤ stood_in v (standing past) → processed_in v past ≡ Some (record_in v (length past) (stood_in v (standing past)) s) → Processes v past

pub processes : (v : View) (past : List View) → Processes v past
processes v past = by (got_in v) refl
  where
    by : (o : Option Said) → got_in v ≡ o → Processes v past
    by None none = Nothing (ap (processed_of v (length past) (stood_in v (standing past))) none)
    by (Some s) some = elim (chosen (v.mst_comes && nat_le 2 (stood_in v (standing past))) (Some (record_in v (length past) (stood_in v (standing past)) s)) None) [
      | inr off ↦ Nothing (ap (processed_of v (length past) (stood_in v (standing past))) some ∙ off.1)
      | inl on ↦
          let parts = and_parts v.mst_comes (nat_le 2 (stood_in v (standing past))) on.0 in
          Record s some parts.0 (leb-true 2 (stood_in v (standing past)) parts.1) (ap (processed_of v (length past) (stood_in v (standing past))) some ∙ on.1)
    ]

-- what holds of no record, and of each that may be processed, holds of what is processed
pub of_processed : (v : View) (past : List View) (P : Option Processed → Type 0) → P None →
    ((s : Said) → got_in v ≡ Some s → v.mst_comes ≡ true → 2 ≤ stood_in v (standing past) → P
    (Some (record_in v (length past) (stood_in v (standing past)) s))) →
    P (processed_in v past)
of_processed v past P none some = elim (processes v past) [
  | Nothing is ↦ subst P (sym is) none
  | Record s got came two is ↦ subst P (sym is) (some s got came two)
]

pub stands_as_commanded : StandsAsCommanded
stands_as_commanded v past came = elim (stands v (standing past)) [
  | Down z ↦ inl z
  | Moves m is down up ↦ inr is
  | Stays missed got_mst still is ↦ absurd (cc)
]

-- so the phase of a record is the commanded phase
pub processed_phase : (v : View) (past : List View) → v.mst_comes ≡ true → 1 ≤ stood_in v (standing past) → stood_in v (standing past) ≡ v.phase
processed_phase v past came up = elim (stands_as_commanded v past came) [ inl z ↦ absurd (omega arith) | inr is ↦ is ]

-- what holds of nothing, and of two lists that nothing cuts off, holds of what is left of the two
pub uncut : {A B : Type 0} (P : List A → List B → Type 0) (cuts : Bool) (xs : List A) (ys : List B) → P [] [] → (cuts ≡ false → P xs ys) →
    P (if cuts then [] else xs) (if cuts then [] else ys)
uncut P true xs ys none some = none
uncut P false xs ys none some = some refl

kept_in_phase-none : (n : ℕ) (h : List Processed) → h ≡ [] → kept_in_phase n h ≡ []
kept_in_phase-none n h none = elim (chosen (n == 0) [] h) [ inl z ↦ z.1 | inr nz ↦ nz.1 ∙ none ]

-- what a drive keeps at the MST where it isn't in 0 and doesn't restart
pub kept_on : (v : View) (past : List View) → v.drive_restarts ≡ false → (stood_in v (standing past) ≡ 0 → ⊥) → kept_in v past ≡ since_reset past
kept_on v past on nz = cond-false ((stood_in v (standing past)) == 0) [] (kept_unless v.drive_restarts (since_reset past))
    (ne_eqb (stood_in v (standing past)) 0 nz) ∙ cond-false v.drive_restarts [] (since_reset past) on

kept_none : (v : View) (past : List View) → (v.drive_restarts ≡ false → (stood_in v (standing past) ≡ 0 → ⊥) → since_reset past ≡ []) → kept_in v past ≡ []
kept_none v past none = elim (cases_eq (stood_in v (standing past)) 0) [
  | inl z ↦ ap (λ (k : ℕ). kept_in_phase k (kept_unless v.drive_restarts (since_reset past))) z
  | inr nz ↦ elim (chosen v.drive_restarts [] (since_reset past)) [
    | inl r ↦ kept_in_phase-none (stood_in v (standing past)) (kept_unless v.drive_restarts (since_reset past)) r.1
    | inr on ↦ kept_in_phase-none (stood_in v (standing past)) (kept_unless v.drive_restarts (since_reset past)) (on.1 ∙ none on.0 nz)
  ]
]

-- a drive that hasn't reached phase 2 has processed nothing
kept_below_by : (v : View) (past : List View) → ((standing past).ended ≤ 1 → since_reset past ≡ []) → stood_in v (standing past) ≤ 1 → kept_in v past ≡ []
kept_below_by v past earlier low = kept_none v past (λ on nz. earlier (by on nz (stands v (standing past))))
  where
    by : v.drive_restarts ≡ false → (stood_in v (standing past) ≡ 0 → ⊥) → Stands v (standing past) → (standing past).ended ≤ 1
    by on nz (Down z) = absurd (nz z)
    by on nz (Moves m is down up) = let same = ap (λ (g : Standing). g.ended) (cond-false v.drive_restarts afresh (standing past) on) in omega arith
    by on nz (Stays missed got_mst still is) = omega arith

pub reset_below : (past : List View) → (standing past).ended ≤ 1 → since_reset past ≡ []
reset_below [] low = refl
reset_below (v ∷ past) low = elim (ends v past) [
  | inl z ↦ ap (λ (k : ℕ). kept_in_phase k (with_record (processed_in v past) (kept_in v past))) z
  | inr same ↦ kept_in_phase-none (standing (v ∷ past)).ended (with_record (processed_in v past) (kept_in v past))
      (ap (λ (o : Option Processed). with_record o (kept_in v past))
      (of_processed v past (λ o. o ≡ None) refl (λ s got came two. absurd (omega arith)))
      ∙ kept_below_by v past (reset_below past) (omega arith))
]

pub kept_below : (v : View) (past : List View) → stood_in v (standing past) ≤ 1 → kept_in v past ≡ []
kept_below v past low = kept_below_by v past (reset_below past) low

-- what a drive keeps at the end where it isn't in 0
pub reset_on : (v : View) (past : List View) → ((standing (v ∷ past)).ended ≡ 0 → ⊥) → since_reset (v ∷ past) ≡ with_record (processed_in v past) (kept_in v past)
reset_on v past nz = cond-false ((standing (v ∷ past)).ended == 0) [] (with_record (processed_in v past) (kept_in v past))
    (ne_eqb (standing (v ∷ past)).ended 0 nz)
