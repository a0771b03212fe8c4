-- The telegrams of phases 0 to 2 keep the rules.
use Rattle.sercos_law_trace.proofs.Words.{◌≡◌, ℕ, ◌*◌, ◌<◌, ◌≤◌, nat_lt, nat_le, true, false, List, [], ◌∷◌, length, Option, Some, None, refl, sym, ◌∙◌, ap, subst, arith, slice_index, and_from, eq-eqb, nat_tests, early_at, early_mdt, WishesView, Said, Sent, Command, is_drive, sent_at, sent_mst, cond-true}
use Rattle.sercos_law_trace.proofs.Clean.RuleLemmas.{none_early, broken_by, seen_of, AreRuled}
use Rattle.sercos_law_trace.proofs.Clean.SeenLemmas.{Each, EachAfter, each_map, no_mdt_seen, HasOther, none_from, later_start, IsFramed, frame_kept, same_start, fresh, asked, order}

-- an AT and an MDT of phases 1 and 2
pub record IsEarlyAt (w : WishesView) (s : Said) : Type 0 where
  pub start : s.start ≡ early_at
  pub long : length s.content ≡ 5
  pub drive : is_drive w (slice_index s.content 0) ≡ true

pub record IsEarlyMdt (w : WishesView) (m : Sent) : Type 0 where
  pub start : m.start ≡ early_mdt
  pub long : length m.content ≡ 5
  pub drive : is_drive w (slice_index m.content 0) ≡ true

-- each has another address than those before it
abbrev pub HaveOthers : List Said → List Said → Type 0
HaveOthers done ats = EachAfter (λ (x y : Said). HasOther (slice_index y.content 0) x) done ats

framed_5 : (content : List ℕ) → length content ≡ 5 → IsFramed content
framed_5 content long = record { some = omega (arith, long); most = omega (arith, long) }

-- the MDT, if there is one
abbrev pub IsEarlyIf : WishesView → Option Sent → Type 0
IsEarlyIf w None = Unit {0}
IsEarlyIf w (Some m) = IsEarlyMdt w m

module _ (w : WishesView) (rate : ℕ) (c : Command) (mst : List ℕ) (same : w.rate ≡ rate) (some : 1 ≤ c.phase) (low : c.phase < 3) where
  up : nat_lt 0 c.phase ≡ true
  up = grind (arith, nat_tests, some)

  early : nat_lt c.phase 3 ≡ true
  early = grind (arith, nat_tests, low)

  not_late : nat_le 3 c.phase ≡ false
  not_late = grind (arith, nat_tests, low)

  at_ruled : (done : List Said) (s : Said) → IsEarlyAt w s → Each (λ (x : Said). x.start ≡ early_at) done → Each (HasOther (slice_index s.content 0)) done
      → broken_by w (Some c) (seen_of rate (sent_mst mst) done) c.cycle (sent_at rate s.start s.content) ≡ None
  at_ruled done s is starts others =
      let later = later_start w rate (rate * s.start) mst done (each_map (λ (x : Said). x.start ≡ early_at) (λ (x : Said). rate * x.start ≤ rate * s.start) (λ x e. let f : x.start ≡ s.start = e ∙ sym is.start in subst (λ (n : ℕ). rate * x.start ≤ rate * n) f (omega arith)) done starts) in
      none_early _ _ _ _ _ _ _ _
      (and_from _ _ (order _ _ later (no_mdt_seen rate mst done) c.cycle) (fresh (nat_lt 0 (length s.content)) _ (none_from rate (slice_index s.content 0) mst done others)))
      (frame_kept s.content (framed_5 s.content is.long))
      (and_from _ _ up (cond-true _ _ _ early ∙ and_from _ _ (eq-eqb (length s.content) 5 is.long) is.drive))
      refl
      (cond-true _ _ _ early ∙ (same_start (rate * s.start) (w.rate * early_at) (ap (λ (n : ℕ). rate * n) is.start ∙ ap (λ (n : ℕ). n * early_at) (sym same))))
      not_late

  rest_ruled : (ats done : List Said) (o : Option Sent) → Each (IsEarlyAt w) ats → HaveOthers done ats → Each (λ (x : Said). x.start ≡ early_at) done → IsEarlyIf w o → AreRuled w rate c (sent_mst mst) done ats o
  rest_ruled [] done None are others starts may = tt
  rest_ruled [] done (Some m) are others starts may = let later = later_start w rate (rate * m.start) mst done
      (each_map (λ (x : Said). x.start ≡ early_at) (λ (x : Said). rate * x.start ≤ rate * m.start)
      (λ x e. subst (λ (n : ℕ). rate * n ≤ rate * m.start) (sym e)
      (subst (λ (n : ℕ). rate * early_at ≤ rate * n) (sym may.start) (omega arith))) done starts) in
      none_early _ _ _ _ _ _ _ _
      (order _ _ later (no_mdt_seen rate mst done) c.cycle)
      (frame_kept m.content (framed_5 m.content may.long))
      (and_from _ _ up (cond-true _ _ _ early ∙ and_from _ _ (eq-eqb (length m.content) 5 may.long) may.drive))
      refl
      (asked _ _ (same_start (rate * m.start) (w.rate * early_mdt)
      (ap (λ (n : ℕ). rate * n) may.start ∙ ap (λ (n : ℕ). n * early_mdt) (sym same))))
      not_late
  rest_ruled (s ∷ ats) done o are others starts may = (at_ruled done s are.0 starts others.0, rest_ruled ats (s ∷ done) o are.1 others.1 (are.0.start, starts) may)

  -- Each AT is one of these phases, and has an address of its own.
  pub early_ruled : (ats : List Said) (o : Option Sent) → Each (IsEarlyAt w) ats → HaveOthers [] ats → IsEarlyIf w o
      → AreRuled w rate c (sent_mst mst) [] ats o
  early_ruled ats o are others may = rest_ruled ats [] o are others tt may
