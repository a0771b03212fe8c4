-- Over a harmless link no arrival is unseen.
use Rattle.sercos_law_run.proofs.Words.{◌≡◌, ℕ, ◌+◌, Bool, true, false, not, ◌&&◌, List, [], ◌∷◌, length, Option, Some, None, is_none, if◌then◌else◌, refl, ◌∙◌, ap, arith, slice_index, IfSome, reason_of, frame_of, BadFrame, Job, DriveView, RingView, DriveCall, Said, known_of, Sent, mdt_said, CycleView, Passage, Carry, Restarts, arrival, are_same, passage, sum_below, unseen_at, IsHarmless, ats_in, mdt_in, mst_in, contents, drive_at, given_mst, said_below, station_of, unseen_ats, unseen_mdt, unseen_mst, IsNext, behind_mdt, IsSaid, IsSpelled, HarmlessIsClear, SpelledNext, content_in, is_unseen, cases_Option, inl, inr, Kind}
use Rattle.std.proofs.lemmas.Bool.{and_left, and_right}
use Rattle.sercos_law_run.specs.Journal.Runs.{content_of as content_sent}
use Rattle.sercos_law_run.specs.Views.Spelled.{IsWhole}
use Rattle.sercos_law_run.proofs.Journal.ClearLemmas.{are_same-refl, sum_none}
use Rattle.sercos_law_run.proofs.Journal.RunLemmas.{ats_in-said, mdt_in-said}
use Rattle.sercos_law_run.proofs.Views.Members.{AreSaid, all_said}

-- bits that have a content are a frame
framed : (bits : List Bool) (content : List ℕ) → content_in bits ≡ Some content → reason_of bits ≡ None
unfolding content_in
framed bits content whole =
    elim (cases_Option (reason_of bits)) [ inl none ↦ rw none | inr (bad, some) ↦ rw some (let has = rw some at whole in cc) ]

seen : (sent : List Bool) (o : Option (List Bool)) → IfSome o (λ came. reason_of came ≡ None → came ≡ sent) → is_unseen sent o ≡ false
unfolding is_unseen
seen sent None harmless = refl
seen sent (Some came) harmless = by (reason_of came) (λ none. ap (λ (l : List Bool). are_same l sent) (harmless none) ∙ are_same-refl sent)
  where
    by : (o : Option BadFrame) → (o ≡ None → are_same came sent ≡ true) → (not (are_same came sent) && is_none o) ≡ false
    by None same = and_left _ _ (ap not (same refl))
    by (Some bad) same = and_right _ _ refl

module _ (carry : Carry) (harmless : IsHarmless carry) where
  none_at : (p : Passage) (content : List ℕ) → IsWhole content → unseen_at carry p content ≡ 0
  none_at p content whole = ap (λ (b : Bool). if b then 1 else 0) (seen (frame_of content) (arrival carry p content) (harmless p (frame_of content) (framed (frame_of content) content whole)))

  none_mdt : (cycle : ℕ) (o : Option Sent) → ((m : Sent) → o ≡ Some m → IsWhole m.content) → (k : ℕ) → unseen_mdt carry cycle (content_sent o) k ≡ 0
  none_mdt cycle None whole k = refl
  none_mdt cycle (Some m) whole k = none_at (passage cycle Kind.Mdt 0 (k + 1)) m.content (whole m refl)

  module _ (r : RingView) where
    none_ats : (cycle n : ℕ) (d : ℕ → DriveView) (rate : ℕ) (h : ℕ → List DriveCall) (said : List Said) → ((content : List ℕ) → IsSaid n d rate h content → IsWhole content) → AreSaid n d rate h said → unseen_ats r carry cycle (contents said) ≡ 0
    none_ats cycle n d rate h [] whole all = refl
    none_ats cycle n d rate h (s ∷ others) whole (one, all) =
        let first = none_at (passage cycle Kind.At (station_of r (slice_index s.content 0)) 0) s.content (whole s.content one) in
        omega (arith, first, none_ats cycle n d rate h others whole all)

    none_in : (jobs : List Job) (restarts : Restarts) (t : CycleView) (j : List CycleView) → IsNext r jobs carry restarts t j → IsSpelled r jobs carry restarts t j → t.unseen ≡ 0
    none_in jobs restarts t j next spelled =
        let said : List Said = said_below (length r.drives) (drive_at r) r.rate (given_mst carry restarts t.sent j) in
        let mdt : Option Sent = mdt_said (known_of r) (behind_mdt r jobs carry restarts t.sent j) in
        let msts = sum_none (length r.drives) (unseen_mst carry (length j) (mst_in t.sent)) (λ k low. none_at (passage (length j) Kind.Mst 0 (k + 1)) (mst_in t.sent) spelled.mst) in
        let ats : unseen_ats r carry (length j) (ats_in t.sent) ≡ 0 = ap (unseen_ats r carry (length j)) (ap ats_in next.sent ∙ ats_in-said r.rate said mdt)
        ∙ none_ats (length j) (length r.drives) (drive_at r) r.rate (given_mst carry restarts t.sent j) said spelled.ats (all_said (length r.drives) (drive_at r) r.rate (given_mst carry restarts t.sent j)) in
        let mdts : sum_below (length r.drives) (unseen_mdt carry (length j) (mdt_in t.sent)) ≡ 0 = ap (λ (o : Option (List ℕ)). sum_below (length r.drives) (unseen_mdt carry (length j) o)) (ap mdt_in next.sent ∙ mdt_in-said r.rate said mdt)
        ∙ sum_none (length r.drives) (unseen_mdt carry (length j) (content_sent mdt)) (λ k low. none_mdt (length j) mdt spelled.mdt k) in
        omega (arith, next.unseen, msts, none_at (passage (length j) Kind.Mst 0 0) (mst_in t.sent) spelled.mst, ats, mdts)

pub harmless_is_clear : SpelledNext → HarmlessIsClear
harmless_is_clear spelled r jobs carry restarts [] valid typed jobs_typed harmless run = tt
harmless_is_clear spelled r jobs carry restarts (t ∷ j) valid typed jobs_typed harmless (run, next) =
    (harmless_is_clear spelled r jobs carry restarts j valid typed jobs_typed harmless run, none_in carry harmless r jobs restarts t j next (spelled r jobs carry restarts t j valid typed jobs_typed next))
