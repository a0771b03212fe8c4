-- The master takes the first AT of a drive in a cycle that is awaited and has the wanted bytes.
use Rattle.sercos_law_run.proofs.Words.{◌≡◌, ◌⊎◌, inl, inr, ℕ, zero, suc, ◌<◌, ◌≤◌, Bool, true, false, not, ◌&&◌, List, [], ◌∷◌, Option, Some, None, refl, sym, ◌∙◌, ap, ap₂, subst, arith, if◌then◌else◌, ◌==◌, nat_le, nat_lt, slice_index, is_some, is_none, cases_eq, and_from, nat_tests, at_fault, Job, DriveView, RingView, begun_by, DriveCall, Said, drive_says, at_len, is_place, outcomes_in, Known, member, known_of, Past, Turn, Call, addressed_before, place_of, is_awaited, wanted_len, is_taken, after_taken, after_at_of, after_at, hearing, same_place, Carry, heard, passage, station_of, with_said, said_below, contents, with_at, at_calls, looks_back, heard_last, at_keeps, cases_Bool}
use Rattle.sercos_telegram.specs.declared.layout.Kind.TheVariants as kinds
use Rattle.sercos_service_master.specs.Calls as channel
use Rattle.sercos_law_run.specs.Journal.Runs.{inserted}
use Rattle.sercos_law_run.proofs.Undisturbed.Arriving.Arrivals.{AllHeard}
use Rattle.sercos_law_run.proofs.Views.MasterSame.{not_taken}
use Rattle.sercos_law_run.proofs.Undisturbed.Arriving.AfterAt.{after_at_so, ats_keep}

-- After some ATs of a cycle none was taken from the drive at a place ..
pub record Waits (k : ℕ) (p q : Past) : Type 0 where
  pub unheard : q.now.heard k ≡ false
  pub calls_are : q.calls k ≡ p.calls k
  pub phase_is : q.now.phase ≡ p.now.phase
  pub turns_are : q.turns ≡ p.turns

-- .. or one was, which its channel heard, unless phase 1 is commanded.
pub record Took (k : ℕ) (p q : Past) : Type 0 where
  pub taken : q.now.heard k ≡ true
  pub phase_is : q.now.phase ≡ p.now.phase
  pub last : 2 ≤ p.now.phase → is_some (heard_last (q.calls k)) ≡ true

-- one that is taken
takes_it : (k : ℕ) (p q : Past) (content : List ℕ) → Waits k p q → Took k p (after_taken k content q)
takes_it k p q content w = record {
  taken = rw (same_place k) refl;
  phase_is = w.phase_is;
  last = λ two.
      let same = w.phase_is in
      by (q.now.phase == 1) (grind (arith, nat_tests, same, two));
}
  where
    by : (identifies : Bool) → identifies ≡ false → is_some (heard_last (if k == k then (hearing identifies k content q).calls else q.calls k)) ≡ true
    by identifies is = rw (same_place k, is) refl

waits_or_took : (s : Known) (k : ℕ) (p q : Past) (content : List ℕ) → Waits k p q → Waits k p (after_at s content q) ⊎ Took k p (after_at s content q)
waits_or_took s k p q content w = after_at_so (λ x. Waits k p x ⊎ Took k p x) s content q (inl w) (λ i. elim (cases_eq k i) [
  | inl same ↦ inr (subst (λ (n : ℕ). Took k p (after_taken n content q)) same (takes_it k p q content w))
  | inr other ↦
      let off : (k == i) ≡ false = grind (arith, nat_tests, other) in
      inl (record { unheard = rw off w.unheard; calls_are = rw off w.calls_are; phase_is = w.phase_is; turns_are = w.turns_are })
])

-- ALL ATS OF A CYCLE
pub stays_taken : (r : RingView) (jobs : List Job) (carry : Carry) (cycle k : ℕ) (p : Past) (ats : List (List ℕ)) (h : List Call) → Took k p (looks_back r jobs h) → Took k p (looks_back r jobs (at_calls r carry cycle ats h))
stays_taken r jobs carry cycle k p ats h a =
    ats_keep (λ g. Took k p (looks_back r jobs g)) r carry cycle ats h a
    (λ content g so. at_keeps (λ x. Took k p x) (known_of r) (place_of (known_of r) (slice_index content 0)) content (looks_back r jobs g)
    so
    (λ i found is. elim (cases_eq k i) [
      | inl same ↦ absurd (not_taken (is_awaited (looks_back r jobs g) k) _ ((looks_back r jobs g).now.heard k) so.taken
          (ap (λ (n : ℕ). is_taken (known_of r) (looks_back r jobs g) n content) same ∙ is))
      | inr other ↦
          let off : (k == i) ≡ false = grind (arith, nat_tests, other) in
          record { taken = rw off so.taken; phase_is = so.phase_is; last = λ two. rw off (so.last two) }
    ]))

abbrev pub IsAmong : List ℕ → List (List ℕ) → Type 0
IsAmong content [] = ⊥
IsAmong content (at ∷ ats) = (at ≡ content) ⊎ IsAmong content ats

pub own_taken : (r : RingView) (jobs : List Job) (carry : Carry) (cycle k : ℕ) (p : Past) (content : List ℕ) (ats : List (List ℕ)) (h : List Call) → place_of (known_of r) (slice_index content 0) ≡ Some k → is_awaited p k ≡ true
    → at_fault (member (known_of r) k).address (wanted_len (known_of r) p k) content ≡ None → IsAmong content ats → AllHeard r carry cycle ats → Waits k p (looks_back r jobs h) → Took k p (looks_back r jobs (at_calls r carry cycle ats h))
own_taken r jobs carry cycle k p content [] h found awaited sound among all w = absurd among
own_taken r jobs carry cycle k p content (at ∷ ats) h found awaited sound (inl same) (came, all) w =
    stays_taken r jobs carry cycle k p ats (with_at (heard carry (passage cycle kinds.At (station_of r (slice_index at 0)) 0) at) h)
    (subst (λ (o : Option (List ℕ)). Took k p (looks_back r jobs (with_at o h))) (sym (came ∙ ap (λ (c : List ℕ). Some c) same))
    (subst (λ (o : Option ℕ). Took k p (after_at_of (known_of r) o content (looks_back r jobs h))) (sym found)
    (subst (λ (b : Bool). Took k p (if b then after_taken k content (looks_back r jobs h) else (looks_back r jobs h)))
    (sym (and_from (is_awaited (looks_back r jobs h) k) _ (ap₂ (λ (n : ℕ) (l : List Turn). if nat_le 3 n then true else
    (nat_le 1 n && is_place k (addressed_before l))) w.phase_is w.turns_are ∙ awaited)
    (and_from (not ((looks_back r jobs h).now.heard k)) _ (ap (λ (b : Bool). not b) w.unheard)
    (ap (λ (n : ℕ). is_none (at_fault (member (known_of r) k).address n content))
    (ap₂ (λ (n : ℕ) (c : List channel.Call). if nat_le 3 n then at_len (member (known_of r) k) (outcomes_in (begun_by c)) else 4)
    w.phase_is
    w.calls_are) ∙ ap is_none sound)))) (takes_it k p (looks_back r jobs h) content w))))
own_taken r jobs carry cycle k p content (at ∷ ats) h found awaited sound (inr later) (came, all) w =
    let heard_is = heard carry (passage cycle kinds.At (station_of r (slice_index at 0)) 0) at in
    elim (waits_or_took (known_of r) k p (looks_back r jobs h) at w) [
      | inl waits ↦ own_taken r jobs carry cycle k p content ats (with_at heard_is h) found awaited sound later all (subst (λ (o : Option (List ℕ)). Waits k p (looks_back r jobs (with_at o h))) (sym came) waits)
      | inr took ↦ stays_taken r jobs carry cycle k p ats (with_at heard_is h) (subst (λ (o : Option (List ℕ)). Took k p (looks_back r jobs (with_at o h))) (sym came) took)
    ]

-- what a drive says is among the ATs of the cycle
among_inserted : (s : Said) (others : List Said) → IsAmong s.content (contents (inserted s others))
among_inserted s [] = inl refl
among_inserted s (x ∷ others) =
    elim (cases_Bool (nat_lt s.start x.start)) [ inl on ↦ rw on (inl refl) | inr off ↦ rw off (inr (among_inserted s others)) ]

among_more : (content : List ℕ) (s : Said) (others : List Said) → IsAmong content (contents others) → IsAmong content (contents (inserted s others))
among_more content s [] among = absurd among
among_more content s (x ∷ others) among = by (nat_lt s.start x.start) among (λ later. among_more content s others later)
  where
    by : (b : Bool) → IsAmong content (contents (x ∷ others)) → (IsAmong content (contents others) → IsAmong content (contents (inserted s others)))
        → IsAmong content (contents (if b then s ∷ x ∷ others else x ∷ inserted s others))
    by true among next = inr among
    by false (inl here) next = inl here
    by false (inr later) next = inr (next later)

pub among_said : (n : ℕ) (d : ℕ → DriveView) (rate : ℕ) (h : ℕ → List DriveCall) (k : ℕ) (s : Said) → k < n → drive_says (d k) rate (h k) ≡ Some s → IsAmong s.content (contents (said_below n d rate h))
among_said zero d rate h k s below says = absurd (omega (arith, below))
among_said (suc n) d rate h k s below says = elim (cases_eq k n) [
  | inl same ↦
      let here : drive_says (d n) rate (h n) ≡ Some s = ap (λ (i : ℕ). drive_says (d i) rate (h i)) (sym same) ∙ says in
      subst (λ (o : Option Said). IsAmong s.content (contents (with_said o (said_below n d rate h)))) (sym here) (among_inserted s (said_below n d rate h))
  | inr other ↦ more (drive_says (d n) rate (h n)) (among_said n d rate h k s (omega (arith, below, other)) says)
]
  where
    more : (o : Option Said) → IsAmong s.content (contents (said_below n d rate h)) → IsAmong s.content (contents (with_said o (said_below n d rate h)))
    more None among = among
    more (Some x) among = among_more s.content x (said_below n d rate h) among
