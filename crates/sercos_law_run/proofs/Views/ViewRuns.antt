-- In a run of a ring in which nothing is unseen, each drive with its channel makes a run of views.
use Rattle.sercos_law_run.proofs.Words.{◌≡◌, ◌⊎◌, inl, inr, ℕ, zero, suc, ◌+◌, ◌<◌, ◌≤◌, Bool, true, false, List, [], ◌∷◌, length, Option, Some, None, refl, sym, ◌∙◌, ap, ap₂, subst, arith, if◌then◌else◌, slice_index, is_some, IsSome, IfSome, cases_eq, status_of, word_at, Request, Job, RingView, is_ring, store_of, Processed, channel_says, Begun, open_in, master_says, begun_by, PlanView, mst_got, mdt_got, phase_in, blocks_in, commands_in, annals, CycleView, known_of, Past, Call, is_done, past, Sent, idle, mdt_said, Carry, Restarts, View, standing, kept_in, since_reset, command, command_in, with_heard, with_begun, unless_restart, epoch_begun, IsShown, all_writes, store_in, heard, passage, sum_below, unseen_at, mst_in, ats_in, mdt_in, drive_at, given_before, given_mst, master_calls, mdt_heard, content_of, contents, said_below, unseen_mst, unseen_mdt, unseen_ats, looks_back, at_start, behind_mst, behind_ats, behind_mdt, heard_last, told_to, after_mst, view_of, views_of, IsSaid, IsSpelled, begins_empty, heard_none, cases_Bool}
use Rattle.sercos_telegram.specs.declared.layout.Kind.TheVariants as kinds
use Rattle.sercos_master.specs.Annals as master
use Rattle.sercos_law_channel.specs.Handshake.Views.{before_mst as standing_before}
use Rattle.sercos_law_channel.specs.Handshake.Epochs.{whole_row}
use Rattle.sercos_law_channel.specs.Handshake.Runs.{IsRun}
use Rattle.sercos_law_run.specs.Journal.Runs.{IsNext as IsNextCycle}
use Rattle.sercos_law_run.proofs.Journal.RunLemmas.{ats_in-said, mdt_in-said}
use Rattle.sercos_law_run.specs.Views.RingViews.{before_mst}
use Rattle.sercos_law_run.proofs.Views.DriveSame.{IsSame, same_first, same_restarted, standing_at, same_at_mst, same_at_mdt}
use Rattle.sercos_law_run.proofs.Views.MasterSame.{IsSame as IsSameMaster, StandsAs, begun_cycle, same_started, ats_none, IsBehind, is_behind, IsLed, next_led, same_ended}
use Rattle.sercos_law_run.proofs.Views.Members.{all_said, heard_whole, AreHeardAs, heard_as}
use Rattle.sercos_law_run.proofs.Views.Codecs.{mst_clear}
use Rattle.sercos_law_run.proofs.Views.Coupled.{ats_heard, heard_one, Speaks, speaks}
use Rattle.sercos_law_run.proofs.Views.Received.{Agrees, GotTold, NothingGot, got_or_none, mdt_told}

-- What the drive at a place and its channel keep of a journal is what its views give, and these are a run.
pub record Sees (r : RingView) (jobs : List Job) (carry : Carry) (restarts : Restarts) (k : ℕ) (j : List CycleView) : Type 0 where
  pub run : IsRun (drive_at r k).busy (views_of r jobs carry restarts k j)
  pub drive : IsSame (drive_at r k) (annals (drive_at r k) r.rate (given_before carry restarts j k)) (standing (views_of r jobs carry restarts k j)) (since_reset (views_of r jobs carry restarts k j))
      (all_writes (views_of r jobs carry restarts k j)) (store_in (store_of (drive_at r k)) (views_of r jobs carry restarts k j))
  pub master : StandsAs (looks_back r jobs (master_calls r carry restarts j)) k (views_of r jobs carry restarts k j)

pub sees_first : (r : RingView) (jobs : List Job) (carry : Carry) (restarts : Restarts) (k : ℕ) → Sees r jobs carry restarts k []
sees_first r jobs carry restarts k = record {
  run = tt;
  drive = same_first (drive_at r k) r.rate;
  master = record { phase_is = refl; begun_are = refl; row_is = λ zero. refl; unheard = refl; fresh = refl };
}

pub views_count : (r : RingView) (jobs : List Job) (carry : Carry) (restarts : Restarts) (k : ℕ) (j : List CycleView) → length (views_of r jobs carry restarts k j) ≡ length j
views_count r jobs carry restarts k [] = refl
views_count r jobs carry restarts k (t ∷ j) = ap suc (views_count r jobs carry restarts k j)

-- no phase above 4 is commanded
command_in_below : (v : View) (past : List View) → command past ≤ 4 → command_in v past ≤ 4
command_in_below v past low = elim (cases_Bool v.master_restarts) [ inl on ↦ rw on (omega arith) | inr off ↦ rw off low ]

pub command_below : (busy : ℕ) (past : List View) → IsRun busy past → command past ≤ 4
command_below busy [] run = omega arith
command_below busy (v ∷ past) (run, next) =
    by v.falls v.rises refl (subst (λ n. n ≤ 4) (sym next.commanded) (command_in_below v past (command_below busy past run)))
  where
    by : (falls rises : Bool) → v.rises ≡ rises → v.phase ≤ 4 → (if falls then 0 else (if rises then v.phase + 1 else v.phase)) ≤ 4
    by true rises is low = omega arith
    by false true is low = let top = next.top is in omega (arith, top)
    by false false is low = low

-- a sum that is 0 has no part that isn't
pub none_below : (n : ℕ) (f : ℕ → ℕ) → sum_below n f ≡ 0 → (i : ℕ) → i < n → f i ≡ 0
none_below zero f none i below = absurd (omega (arith, below))
none_below (suc n) f none i below = elim (cases_eq i n) [
  | inl same ↦ let sum : sum_below n f + f n ≡ 0 = none in rw same (omega (arith, sum))
  | inr other ↦ let sum : sum_below n f + f n ≡ 0 = none in none_below n f (omega (arith, sum)) i (omega (arith, below, other))
]

-- nothing is begun before phase 2
pub no_request : (o : Option Request) → (IsSome o → ⊥) → o ≡ None
no_request None never = refl
no_request (Some r) never = absurd (never refl)

-- what comes of an MST
got_form : (b : Bool) (o : Option ℕ) (p q : ℕ) → o ≡ (if b then Some p else None) → q ≡ p → o ≡ (if is_some o then Some q else None)
got_form true o p q is same = rw (is, same) refl
got_form false o p q is same = rw is refl

pub started : (r : RingView) (jobs : List Job) (restarts : Bool) (h : List Call) → looks_back r jobs (if restarts then master.Restart ∷ h else h) ≡ begun_cycle restarts (looks_back r jobs h)
started r jobs true h = refl
started r jobs false h = refl

module _ (r : RingView) (jobs : List Job) (carry : Carry) (restarts : Restarts) (valid : is_ring r ≡ true) (t : CycleView)
    (j : List CycleView) (next : IsNextCycle r jobs carry restarts t j) (clear : t.unseen ≡ 0)
    (spelled : IsSpelled r jobs carry restarts t j) where
  -- the parts of the count
  counts : sum_below (length r.drives) (unseen_mst carry (length j) (mst_in t.sent)) + unseen_at carry (passage (length j) kinds.Mst 0 0) (mst_in t.sent) + unseen_ats r carry (length j) (ats_in t.sent)
      + sum_below (length r.drives) (unseen_mdt carry (length j) (mdt_in t.sent)) ≡ 0
  counts = sym next.unseen ∙ clear

  ats_are : ats_in t.sent ≡ contents (said_below (length r.drives) (drive_at r) r.rate (given_mst carry restarts t.sent j))
  ats_are = ap ats_in next.sent ∙ ats_in-said r.rate _ (mdt_said (known_of r) (behind_mdt r jobs carry restarts t.sent j))

  heard_so : AreHeardAs (IsSaid (length r.drives) (drive_at r) r.rate (given_mst carry restarts t.sent j)) r carry (length j) (ats_in t.sent)
  heard_so =
      let none : unseen_ats r carry (length j) (ats_in t.sent) ≡ 0 = omega (arith, counts) in
      subst (λ (l : List (List ℕ)). AreHeardAs (IsSaid (length r.drives) (drive_at r) r.rate (given_mst carry restarts t.sent j)) r carry (length j) l) (sym ats_are)
      (heard_as r carry (length j) (length r.drives) (drive_at r) r.rate (given_mst carry restarts t.sent j) (said_below (length r.drives) (drive_at r) r.rate (given_mst carry restarts t.sent j)) spelled.ats
      (all_said (length r.drives) (drive_at r) r.rate (given_mst carry restarts t.sent j)) (ap (unseen_ats r carry (length j)) (sym ats_are) ∙ none))

  -- THE CYCLE OF THE DRIVE AT A PLACE
  module _ (k : ℕ) (below : k < length r.drives) (sees : Sees r jobs carry restarts k j)
      (agrees : (plan : PlanView) → 3 ≤ (behind_mdt r jobs carry restarts t.sent j).now.phase → 3 ≤ phase_in (after_mst r carry restarts t.sent j k) → (behind_mdt r jobs carry restarts t.sent j).plan ≡ Some plan → Agrees (known_of r) (behind_mdt r jobs carry restarts t.sent j) k (blocks_in (drive_at r k) (after_mst r carry restarts t.sent j k)))
      (rests : is_done (known_of r) (behind_mdt r jobs carry restarts t.sent j) ≡ true → open_in (begun_by ((behind_mdt r jobs carry restarts t.sent j).calls k)) ≡ None)
    where
      same : IsSameMaster (at_start r jobs carry restarts j) k (command_in (view_of r jobs carry restarts k t j) (views_of r jobs carry restarts k j))
          (if restarts (length j) 0 then 0 else whole_row (views_of r jobs carry restarts k j)) (unless_restart (view_of r jobs carry restarts k t j) (epoch_begun (views_of r jobs carry restarts k j)))
      same = subst (λ (p : Past). IsSameMaster p k (command_in (view_of r jobs carry restarts k t j) (views_of r jobs carry restarts k j))
          (if restarts (length j) 0 then 0 else whole_row (views_of r jobs carry restarts k j)) (unless_restart (view_of r jobs carry restarts k t j) (epoch_begun (views_of r jobs carry restarts k j))))
          (sym (started r jobs (restarts (length j) 0) (master_calls r carry restarts j)))
          (same_started (restarts (length j) 0) (looks_back r jobs (master_calls r carry restarts j)) k _ _ _ sees.master)

      led : IsLed (known_of r) k (IsSaid (length r.drives) (drive_at r) r.rate (given_mst carry restarts t.sent j)) (view_of r jobs carry restarts k t j)
          (at_start r jobs carry restarts j) (behind_mst r jobs carry restarts t.sent j) (behind_ats r jobs carry restarts t.sent j) (behind_mdt r jobs carry restarts t.sent j)
      led = record {
        phase = next.phase;
        whole = refl;
        own = (refl, refl, refl, refl);
        ats = ats_heard r jobs carry (length j) k (IsSaid (length r.drives) (drive_at r) r.rate (given_mst carry restarts t.sent j)) (behind_mst r jobs carry restarts t.sent j) (ats_in t.sent) _
            (ats_none (known_of r) k (IsSaid (length r.drives) (drive_at r) r.rate (given_mst carry restarts t.sent j)) (behind_mst r jobs carry restarts t.sent j)) heard_so;
        heard = refl;
        begins = refl;
        mdt = refl;
        sent = refl;
        falls = refl;
        rises = refl;
      }

      pub behind : IsBehind k (view_of r jobs carry restarts k t j) (at_start r jobs carry restarts j) (behind_ats r jobs carry restarts t.sent j) (behind_mdt r jobs carry restarts t.sent j)
          (unless_restart (view_of r jobs carry restarts k t j) (epoch_begun (views_of r jobs carry restarts k j)))
      behind = is_behind (known_of r) k _ _ _ _ _ _ _ _ _ same led

      -- at the MST's place
      got : mst_got (heard carry (passage (length j) kinds.Mst 0 (k + 1)) (mst_in t.sent))
          ≡ (if is_some (mst_got (heard carry (passage (length j) kinds.Mst 0 (k + 1)) (mst_in t.sent))) then Some t.phase else None)
      got =
          let c = counts in
          let none : unseen_at carry (passage (length j) kinds.Mst 0 (k + 1)) (mst_in t.sent) ≡ 0 = none_below (length r.drives) (unseen_mst carry (length j) (mst_in t.sent)) (omega (arith, c)) k below in
          got_form _ _ (at_start r jobs carry restarts j).now.phase t.phase
          (mst_clear (at_start r jobs carry restarts j).now.phase _
          (subst (λ n. n ≤ 4) (sym same.phase_is) (command_in_below (view_of r jobs carry restarts k t j)
          (views_of r jobs carry restarts k j) (command_below (drive_at r k).busy (views_of r jobs carry restarts k j) sees.run)))
          (subst (λ (l : List ℕ). (heard carry (passage (length j) kinds.Mst 0 (k + 1)) (mst_in t.sent) ≡ None) ⊎
          (heard carry (passage (length j) kinds.Mst 0 (k + 1)) (mst_in t.sent) ≡ Some l)) (ap mst_in next.sent)
          (heard_whole carry _ (mst_in t.sent) spelled.mst none)))
          next.phase

      pub at_mst : IsSame (drive_at r k) (after_mst r carry restarts t.sent j k) (standing_at (view_of r jobs carry restarts k t j) (standing_before (view_of r jobs carry restarts k t j) (standing (views_of r jobs carry restarts k j))))
          (kept_in (view_of r jobs carry restarts k t j) (views_of r jobs carry restarts k j)) (all_writes (views_of r jobs carry restarts k j)) (store_in (store_of (drive_at r k)) (views_of r jobs carry restarts k j))
      at_mst = same_at_mst (drive_at r k) r.rate (length j) (before_mst r carry restarts j k) _ (view_of r jobs carry restarts k t j) _ _ _ _ got refl
          (same_restarted (drive_at r k) r.rate (restarts (length j) (k + 1)) (given_before carry restarts j k) _ _ _ _ sees.drive)

      pub count : length (views_of r jobs carry restarts k j) ≡ length j
      count = views_count r jobs carry restarts k j

      -- what the master hears
      shown_so : IfSome (heard_last ((behind_ats r jobs carry restarts t.sent j).calls k)) (λ a. IsShown (drive_at r k).busy a (view_of r jobs carry restarts k t j) (views_of r jobs carry restarts k j))
      shown_so = heard_one (known_of r) k _ _ (behind_ats r jobs carry restarts t.sent j) (λ a. IsShown (drive_at r k).busy a (view_of r jobs carry restarts k t j) (views_of r jobs carry restarts k j)) led.ats.has same.unheard each
        where
          each : (content : List ℕ) → IsSaid (length r.drives) (drive_at r) r.rate (given_mst carry restarts t.sent j) content → master.place_of (known_of r) (slice_index content 0) ≡ Some k
              → IsShown (drive_at r k).busy (record { status = status_of (word_at content 1); word = word_at content 3 }) (view_of r jobs carry restarts k t j) (views_of r jobs carry restarts k j)
          each content is found =
              let s : Speaks (drive_at r k) r.rate (after_mst r carry restarts t.sent j k) content = speaks r k (given_mst carry restarts t.sent j) content valid spelled.shown is found in
              record {
                got_mst = sym at_mst.got ∙ s.got;
                stands = subst (λ n. 1 ≤ n) at_mst.ended s.stands;
                says = s.shows ∙ ap₂ (λ (n : ℕ) (h : List Processed). channel_says (drive_at r k).busy n (commands_in (drive_at r k) r.rate (after_mst r carry restarts t.sent j k)) h) (sym count) at_mst.records;
              }

      -- at the MDT's place
      quiet : (behind_mdt r jobs carry restarts t.sent j).now.phase ≡ 1 → master_says (begun_by ((behind_mdt r jobs carry restarts t.sent j).calls k)) ≡ idle
      quiet one = ap master_says (behind.begun_are ∙ ap₂ (λ (o : Option Request) (l : List Begun). with_begun o l) none
          (ap (with_heard v.heard) ended ∙ heard_none v.heard))
        where
          v : View
          v = view_of r jobs carry restarts k t j

          none : v.begins ≡ None
          none = no_request v.begins (λ some. let two = (next_led (known_of r) k _ (drive_at r k).busy v
              (views_of r jobs carry restarts k j) _ _ _ _ same led shown_so rests).late some in
              omega (arith, two, (sym behind.phase_is ∙ one)))

          ended : unless_restart v (epoch_begun (views_of r jobs carry restarts k j)) ≡ []
          ended = by v.master_restarts (sym same.phase_is ∙ sym next.phase ∙ (sym behind.phase_is ∙ one))
            where
              by : (b : Bool) → (if b then 0 else command (views_of r jobs carry restarts k j)) ≡ 1 → (if b then [] else epoch_begun (views_of r jobs carry restarts k j)) ≡ []
              by true is = refl
              by false is = (begins_empty (drive_at r k).busy (views_of r jobs carry restarts k j) sees.run (omega (arith, is))).0

      pub told_so : GotTold (mdt_got (drive_at r k).address (phase_in (after_mst r carry restarts t.sent j k)) (blocks_in (drive_at r k) (after_mst r carry restarts t.sent j k)) (mdt_heard carry (length j) (k + 1) (mdt_in t.sent)))
          (told_to (behind_mdt r jobs carry restarts t.sent j) k)
      told_so = by (mdt_said (known_of r) (behind_mdt r jobs carry restarts t.sent j)) refl
          (ap mdt_in next.sent ∙ mdt_in-said r.rate (said_below (length r.drives) (drive_at r) r.rate (given_mst carry restarts t.sent j))
          _)
        where
          c : sum_below (length r.drives) (unseen_mdt carry (length j) (mdt_in t.sent)) ≡ 0
          c = let all = counts in omega (arith, all)

          sent : (m : Sent) → mdt_said (known_of r) (behind_mdt r jobs carry restarts t.sent j) ≡ Some m → (came : Option (List ℕ)) → (came ≡ None) ⊎ (came ≡ Some m.content)
              → GotTold (mdt_got (drive_at r k).address (phase_in (after_mst r carry restarts t.sent j k)) (blocks_in (drive_at r k) (after_mst r carry restarts t.sent j k)) came) (told_to (behind_mdt r jobs carry restarts t.sent j) k)
          sent m said came (inl none) = rw none (NothingGot refl)
          sent m said came (inr same') = rw same' (mdt_told r (behind_mdt r jobs carry restarts t.sent j) k _ _ m valid below said quiet spelled.said agrees)

          by : (o : Option Sent) → mdt_said (known_of r) (behind_mdt r jobs carry restarts t.sent j) ≡ o → mdt_in t.sent ≡ content_of o
              → GotTold (mdt_got (drive_at r k).address (phase_in (after_mst r carry restarts t.sent j k)) (blocks_in (drive_at r k) (after_mst r carry restarts t.sent j k)) (mdt_heard carry (length j) (k + 1) (mdt_in t.sent)))
              (told_to (behind_mdt r jobs carry restarts t.sent j) k)
          by None said is = rw is (NothingGot refl)
          by (Some m) said is =
              let none : unseen_mdt carry (length j) (Some m.content) k ≡ 0 = none_below (length r.drives) (unseen_mdt carry (length j) (Some m.content)) (ap (λ (o : Option (List ℕ)). sum_below (length r.drives) (unseen_mdt carry (length j) o)) (sym is) ∙ c) k below in
              rw is (sent m said _ (heard_whole carry _ m.content (spelled.mdt m said) none))

      pub sees_next : Sees r jobs carry restarts k (t ∷ j)
      sees_next = record {
        run = (sees.run, next_led (known_of r) k _ (drive_at r k).busy (view_of r jobs carry restarts k t j) (views_of r jobs carry restarts k j) _ _ _ _ same led shown_so rests);
        drive = same_at_mdt (drive_at r k) r.rate (length (views_of r jobs carry restarts k j)) (after_mst r carry restarts t.sent j k) _ (view_of r jobs carry restarts k t j) _ _ _ _ (sym count)
            (got_or_none _ _ told_so) refl refl at_mst;
        master = same_ended (known_of r) k _ (view_of r jobs carry restarts k t j) (views_of r jobs carry restarts k j) _ _ _ _ same led;
      }
