-- What is so before an AT, and after each AT that is taken, is so after any AT; and what each AT keeps, all ATs of a cycle keep.
use Rattle.sercos_law_run.proofs.Words.{inr, inl, cases_Option, ◌≡◌, ℕ, List, [], ◌∷◌, refl, ◌∙◌, slice_index, Job, RingView, Known, Past, Call, HearAt, known_of, after_taken, after_at, place_of, at_keeps, Carry, heard, passage, station_of, at_calls, looks_back}
use Rattle.sercos_telegram.specs.declared.layout.Kind.TheVariants as kinds

pub after_at_so : (such : Past → Type 0) (s : Known) (content : List ℕ) (p : Past) → such p → ((k : ℕ) → such (after_taken k content p)) → such (after_at s content p)
after_at_so such s content p before taken = at_keeps such s (place_of s (slice_index content 0)) content p before (λ k place is. taken k)

-- ALL ATS OF A CYCLE
pub ats_keep : (such : List Call → Type 0) (r : RingView) (carry : Carry) (cycle : ℕ) (ats : List (List ℕ)) (h : List Call) → such h
    → ((content : List ℕ) (g : List Call) → such g → such (HearAt content ∷ g)) → such (at_calls r carry cycle ats h)
ats_keep such r carry cycle [] h now each = now
ats_keep such r carry cycle (at ∷ ats) h now each = ats_keep such r carry cycle ats _
    (elim (cases_Option (heard carry (passage cycle kinds.At (station_of r (slice_index at 0)) 0) at)) [
      | inl none ↦ rw none now
      | inr some ↦ rw some.1 (each some.0 h now)
    ]) each

-- what no AT changes is the same after all of them
pub ats_same : {A : Type 0} (f : Past → A) → ((s : Known) (content : List ℕ) (p : Past) → f (after_at s content p) ≡ f p) → (r : RingView) (jobs : List Job) (carry : Carry) (cycle : ℕ) (ats : List (List ℕ)) (h : List Call)
    → f (looks_back r jobs (at_calls r carry cycle ats h)) ≡ f (looks_back r jobs h)
ats_same f same r jobs carry cycle ats h = ats_keep (λ (g : List Call). f (looks_back r jobs g) ≡ f (looks_back r jobs h)) r carry cycle ats
    h refl
    (λ content g so. same (known_of r) content (looks_back r jobs g) ∙ so)
