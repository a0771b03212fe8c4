-- Which ATs of a cycle the master takes in phases 0 to 2.
use Rattle.sercos_law_run.proofs.Words.{cases_Option, ◌≡◌, ◌⊎◌, inl, inr, ℕ, Bool, true, false, not, ◌&&◌, List, [], ◌∷◌, Option, Some, None, refl, sym, ◌∙◌, ap, ap₂, subst, arith, if◌then◌else◌, ◌==◌, nat_le, is_none, slice_index, cases_eq, false≢true, and_parts, nat_tests, at_fault, Job, RingView, at_len, is_place, Known, member, known_of, Past, Turn, Call, outcomes, addressed_before, place_of, is_awaited, wanted_len, is_taken, after_taken, after_at_of, after_at, same_place, Carry, heard, passage, station_of, with_at, at_calls, looks_back, at_keeps, cases_Bool}
use Rattle.sercos_telegram.specs.declared.layout.Kind.TheVariants as kinds
use Rattle.sercos_law_run.proofs.Views.MasterSame.{AfterAts, ats_next}
use Rattle.sercos_law_run.proofs.Undisturbed.Arriving.Taken.{IsAmong}
use Rattle.sercos_law_run.proofs.Undisturbed.Arriving.AfterAt.{after_at_so, ats_keep}

-- what an AT leaves
keeps_at : (s : Known) (k : ℕ) (content : List ℕ) (q : Past) → q.now.heard k ≡ true → (after_at s content q).now.heard k ≡ true
keeps_at s k content q hears = after_at_so (λ p. p.now.heard k ≡ true) s content q hears
    (λ i. elim (cases_Bool (k == i)) [ inl on ↦ rw on refl | inr off ↦ rw off hears ])

unheard_at : (s : Known) (k : ℕ) (content : List ℕ) (q : Past) → is_awaited q k ≡ false → q.now.heard k ≡ false → (after_at s content q).now.heard k ≡ false
unheard_at s k content q unwanted free =
    at_keeps (λ p. p.now.heard k ≡ false) s (place_of s (slice_index content 0)) content q free (λ i found is. elim (cases_eq k i) [
      | inl same ↦
          let here : is_taken s q k content ≡ true = subst (λ (n : ℕ). is_taken s q n content ≡ true) (sym same) is in
          absurd (false≢true (sym unwanted ∙ (and_parts (is_awaited q k) (not (q.now.heard k) && is_none (at_fault (member s k).address (wanted_len s q k) content)) here).0))
      | inr other ↦ let off : (k == i) ≡ false = grind (arith, nat_tests, other) in rw off free
    ])

-- an AT that is awaited and reads
pub record IsWanted (s : Known) (p : Past) (k : ℕ) (content : List ℕ) : Type 0 where
  pub early : nat_le 3 p.now.phase ≡ false
  pub awaited : is_awaited p k ≡ true
  pub placed : place_of s (slice_index content 0) ≡ Some k
  pub reads : is_none (at_fault (member s k).address 4 content) ≡ true

takes_at : (s : Known) (p : Past) (k : ℕ) (content : List ℕ) → IsWanted s p k content → (after_at s content p).now.heard k ≡ true
takes_at s p k content is = elim (cases_Bool (p.now.heard k)) [
  | inl hears ↦ keeps_at s k content p hears
  | inr free ↦ subst (λ (o : Option ℕ). (after_at_of s o content p).now.heard k ≡ true) (sym is.placed)
      (subst (λ (b : Bool). (if b then after_taken k content p else p).now.heard k ≡ true) (sym (taken free)) now)
]
  where
    taken : p.now.heard k ≡ false → is_taken s p k content ≡ true
    taken free = rw (
      is.awaited,
      free,
      (subst (λ (n : ℕ). is_none (at_fault (member s k).address n content) ≡ true)
          (sym (ap (λ (b : Bool). if b then at_len (member s k) (outcomes p k) else 4) is.early)) is.reads),
    )
        refl

    now : (after_taken k content p).now.heard k ≡ true
    now = rw (same_place k) refl

awaited_same : (p q : Past) (k : ℕ) → q.now.phase ≡ p.now.phase → q.turns ≡ p.turns → is_awaited q k ≡ is_awaited p k
awaited_same p q k phase turns = ap₂ (λ (n : ℕ) (l : List Turn). if nat_le 3 n then true else (nat_le 1 n && is_place k (addressed_before l))) phase turns

-- ALL ATS of a cycle: one that is awaited, reads and arrives makes the drive heard ..
module _ (r : RingView) (jobs : List Job) (carry : Carry) (cycle k : ℕ) (p : Past) where
  passed_next : (o : Option (List ℕ)) (h : List Call) → AfterAts (known_of r) k (λ content. Unit {0}) p (looks_back r jobs h) → AfterAts (known_of r) k (λ content. Unit {0}) p (looks_back r jobs (with_at o h))
  passed_next None h a = a
  passed_next (Some content) h a = ats_next (known_of r) k (λ c. Unit {0}) p (looks_back r jobs h) content tt a

  pub takes_ats : (at : List ℕ) (ats : List (List ℕ)) (h : List Call) → AfterAts (known_of r) k (λ content. Unit {0}) p (looks_back r jobs h) → IsWanted (known_of r) p k at
      → heard carry (passage cycle kinds.At (station_of r (slice_index at 0)) 0) at ≡ Some at
      → IsAmong at ats ⊎ ((looks_back r jobs h).now.heard k ≡ true) → (looks_back r jobs (at_calls r carry cycle ats h)).now.heard k ≡ true
  takes_ats at [] h a is came (inl none) = absurd none
  takes_ats at [] h a is came (inr hears) = hears
  takes_ats at (x ∷ others) h a is came among =
      takes_ats at others (with_at (heard carry (passage cycle kinds.At (station_of r (slice_index x 0)) 0) x) h) (passed_next (heard carry (passage cycle kinds.At (station_of r (slice_index x 0)) 0) x) h a) is came (step among)
    where
      now : (looks_back r jobs (with_at (heard carry (passage cycle kinds.At (station_of r (slice_index at 0)) 0) at) h)).now.heard k ≡ true
      now = subst (λ (o : Option (List ℕ)). (looks_back r jobs (with_at o h)).now.heard k ≡ true) (sym came)
          (takes_at (known_of r) (looks_back r jobs h) k at (record {
            early = ap (λ (n : ℕ). nat_le 3 n) a.phase_is ∙ is.early;
            awaited = awaited_same p (looks_back r jobs h) k a.phase_is a.turns_are ∙ is.awaited;
            placed = is.placed;
            reads = is.reads;
          }))

      step : ((x ≡ at) ⊎ IsAmong at others) ⊎ ((looks_back r jobs h).now.heard k ≡ true)
          → IsAmong at others ⊎ ((looks_back r jobs (with_at (heard carry (passage cycle kinds.At (station_of r (slice_index x 0)) 0) x) h)).now.heard k ≡ true)
      step (inl (inl same)) = inr (subst (λ (c : List ℕ). (looks_back r jobs (with_at (heard carry (passage cycle kinds.At (station_of r (slice_index c 0)) 0) c) h)).now.heard k ≡ true) (sym same) now)
      step (inl (inr later)) = inl later
      step (inr hears) = inr (elim (cases_Option (heard carry (passage cycle kinds.At (station_of r (slice_index x 0)) 0) x)) [
        | inl none ↦ rw none hears
        | inr some ↦ rw some.1 (keeps_at (known_of r) k some.0 (looks_back r jobs h) hears)
      ])

  -- .. and no drive is heard whose AT isn't awaited.
  pub unheard_ats : (ats : List (List ℕ)) (h : List Call) → AfterAts (known_of r) k (λ content. Unit {0}) p (looks_back r jobs h) → is_awaited p k ≡ false → (looks_back r jobs h).now.heard k ≡ false
      → (looks_back r jobs (at_calls r carry cycle ats h)).now.heard k ≡ false
  unheard_ats ats h a unwanted free =
      (ats_keep (λ g. AfterAts (known_of r) k (λ content. Unit {0}) p (looks_back r jobs g) × ((looks_back r jobs g).now.heard k ≡ false)) r
      carry cycle ats h
      (a, free) (λ content g so. (
        passed_next (Some content) g so.0,
        unheard_at (known_of r) k content (looks_back r jobs g)
            (awaited_same p (looks_back r jobs g) k so.0.phase_is so.0.turns_are ∙ unwanted) so.1,
      ))).1
