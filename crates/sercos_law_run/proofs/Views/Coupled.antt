-- What the master hears of a drive's AT is what the drive said.
use Rattle.sercos_law_run.proofs.Words.{◌≡◌, ℕ, ◌<◌, ◌≤◌, Bool, true, false, ◌&&◌, ◌||◌, List, [], ◌∷◌, length, Option, Some, None, refl, sym, ◌∙◌, ap, subst, arith, nat_le, slice_index, IfSome, nat_tests, status_of, word_at, Job, DriveView, RingView, is_ring, shown_by, channel_says, DriveCall, Moment, phase_in, cycle_in, has_mst, has_taken, records_in, blocks_in, commands_in, annals, Said, said_in, values_in, Known, known_of, Past, Call, place_of, Carry, Heard, heard, passage, drive_at, station_of, with_at, at_calls, looks_back, heard_last, IsSaid}
use Rattle.sercos_telegram.specs.declared.layout.Kind.TheVariants as kinds
use Rattle.sercos_service_master.specs.Calls as channel
use Rattle.sercos_law_run.proofs.Views.MasterSame.{HasHeard, Nothing, One, AfterAts, ats_next}
use Rattle.sercos_law_run.proofs.Views.Members.{AreHeardAs, place_is}
use Rattle.sercos_law_run.proofs.Views.Codecs.{at_clear}
use Rattle.sercos_law_run.proofs.Journal.StationLemmas.{says_that}

-- all ATs of a cycle
pub ats_heard : (r : RingView) (jobs : List Job) (carry : Carry) (cycle k : ℕ) (such : List ℕ → Type 0) (p : Past) (ats : List (List ℕ)) (h : List Call)
    → AfterAts (known_of r) k such p (looks_back r jobs h) → AreHeardAs such r carry cycle ats → AfterAts (known_of r) k such p (looks_back r jobs (at_calls r carry cycle ats h))
ats_heard r jobs carry cycle k such p [] h a all = a
ats_heard r jobs carry cycle k such p (at ∷ ats) h a (one, all) =
    ats_heard r jobs carry cycle k such p ats (with_at (heard carry (passage cycle kinds.At (station_of r (slice_index at 0)) 0) at) h) (by _ refl) all
  where
    by : (o : Option (List ℕ)) → heard carry (passage cycle kinds.At (station_of r (slice_index at 0)) 0) at ≡ o → AfterAts (known_of r) k such p (looks_back r jobs (with_at o h))
    by None e = a
    by (Some content) e = ats_next (known_of r) k such p (looks_back r jobs h) content (one content e) a

-- what a channel heard last is one of these
pub heard_one : (s : Known) (k : ℕ) (such : List ℕ → Type 0) (c : List channel.Call) (q : Past) (P : Heard → Type 0) → HasHeard s k such c q → heard_last c ≡ None
    → ((content : List ℕ) → such content → place_of s (slice_index content 0) ≡ Some k → P (record { status = status_of (word_at content 1); word = word_at content 3 }))
    → IfSome (heard_last (q.calls k)) P
heard_one s k such c q P (Nothing same) quiet each = rw (same, quiet) tt
heard_one s k such c q P (One content is there calls heard) quiet each = rw calls (each content is there)

-- The drive sends: it got the MST, isn't in phase 0, and its AT shows what its channel says.
pub record Speaks (d : DriveView) (rate : ℕ) (past : List Moment) (content : List ℕ) : Type 0 where
  pub got : has_mst past ≡ true
  pub stands : 1 ≤ phase_in past
  pub shows : shown_by (status_of (word_at content 1)) (word_at content 3) ≡ channel_says d.busy (cycle_in past) (commands_in d rate past) (records_in past)

pub sends_so : (got took : Bool) (phase : ℕ) → (got && (nat_le 3 phase || (nat_le 1 phase && took))) ≡ true → (got ≡ true) × (1 ≤ phase)
sends_so true true phase sent = (refl, grind (arith, nat_tests, sent))
sends_so true false phase sent = (refl, grind (arith, nat_tests, sent))
sends_so false took phase sent = cc

spoken : (d : DriveView) (rate : ℕ) (past : List Moment) (s : Said) → said_in d rate past ≡ Some s → (channel_says d.busy (cycle_in past) (commands_in d rate past) (records_in past)).word < 65536
    → Speaks d rate past s.content × (slice_index s.content 0 ≡ d.address)
spoken d rate past s says small =
    let (sent, same) = says_that d rate past s says in
    let (got, stands) = sends_so (has_mst past) (has_taken past) (phase_in past) sent in
    subst (λ x. Speaks d rate past x.content × (slice_index x.content 0 ≡ d.address)) same
    (record { got = got; stands = stands; shows = at_clear _ d.address (values_in (cycle_in past) (phase_in past) (blocks_in d past)) small }, refl)

pub speaks : (r : RingView) (k : ℕ) (h : ℕ → List DriveCall) (content : List ℕ) → is_ring r ≡ true
    → ((i : ℕ) → i < length r.drives → let past : List Moment = annals (drive_at r i) r.rate (h i) in (channel_says (drive_at r i).busy (cycle_in past) (commands_in (drive_at r i) r.rate past) (records_in past)).word < 65536)
    → IsSaid (length r.drives) (drive_at r) r.rate h content → place_of (known_of r) (slice_index content 0) ≡ Some k → Speaks (drive_at r k) r.rate (annals (drive_at r k) r.rate (h k)) content
speaks r k h content valid small is found =
    let (speaking, address) = spoken (drive_at r is.place) r.rate (annals (drive_at r is.place) r.rate (h is.place)) is.says is.said (small is.place is.inside) in
    let there : place_of (known_of r) (drive_at r is.place).address ≡ Some k = ap (place_of (known_of r)) (sym address ∙ ap (λ (c : List ℕ). slice_index c 0) (sym is.content_is)) ∙ found in
    subst (λ i. Speaks (drive_at r i) r.rate (annals (drive_at r i) r.rate (h i)) content) (place_is r is.place k valid is.inside there)
    (subst (λ c. Speaks (drive_at r is.place) r.rate (annals (drive_at r is.place) r.rate (h is.place)) c) (sym is.content_is) speaking)
