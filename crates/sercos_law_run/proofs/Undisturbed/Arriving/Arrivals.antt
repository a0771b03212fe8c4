-- In an undisturbed cycle each telegram arrives as it was sent.
use Rattle.sercos_law_run.proofs.Words.{◌≡◌, ℕ, Bool, false, List, [], ◌∷◌, Option, Some, None, ◌∙◌, ap, slice_index, option_and_then, or_parts, not-false, frame_of, DriveView, RingView, DriveCall, Said, Passage, Carry, heard, passage, arrival, content_in, are_same, is_disturbed, disturbed_at, station_of, contents, disturbs_ats, IsSaid}
use Rattle.sercos_telegram.specs.declared.layout.Kind.TheVariants as kinds
use Rattle.sercos_law_run.proofs.Journal.ClearLemmas.{same_bits}
use Rattle.sercos_law_run.proofs.Views.Members.{AreSaid}
use Rattle.sercos_law_run.specs.Views.Spelled.{IsWhole}

-- what arrives as it was sent is heard
pub heard_sent : (carry : Carry) (p : Passage) (content : List ℕ) → IsWhole content → disturbed_at carry p content ≡ false → heard carry p content ≡ Some content
heard_sent carry p content whole still = by (arrival carry p content) still
  where
    by : (o : Option (List Bool)) → is_disturbed (frame_of content) o ≡ false → option_and_then content_in o ≡ Some content
    by None still = cc
    by (Some came) still = ap content_in (same_bits came (frame_of content) (not-false (are_same came (frame_of content)) still)) ∙ whole

-- Each of these ATs is heard as it was sent.
abbrev pub AllHeard : RingView → Carry → ℕ → List (List ℕ) → Type 0
AllHeard r carry cycle [] = Unit {0}
AllHeard r carry cycle (at ∷ ats) = (heard carry (passage cycle kinds.At (station_of r (slice_index at 0)) 0) at ≡ Some at) × AllHeard r carry cycle ats

pub all_heard : (r : RingView) (carry : Carry) (cycle n : ℕ) (d : ℕ → DriveView) (rate : ℕ) (h : ℕ → List DriveCall) (said : List Said)
    → ((content : List ℕ) → IsSaid n d rate h content → IsWhole content) → AreSaid n d rate h said → disturbs_ats r carry cycle (contents said) ≡ false → AllHeard r carry cycle (contents said)
all_heard r carry cycle n d rate h [] whole all still = tt
all_heard r carry cycle n d rate h (s ∷ others) whole (one, all) still =
    let p = passage cycle kinds.At (station_of r (slice_index s.content 0)) 0 in
    let (first, rest) = or_parts (disturbed_at carry p s.content) (disturbs_ats r carry cycle (contents others)) still in
    (heard_sent carry p s.content (whole s.content one) first, all_heard r carry cycle n d rate h others whole all rest)
