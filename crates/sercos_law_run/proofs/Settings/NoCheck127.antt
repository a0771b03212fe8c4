-- As long as no arrival is unseen, the master never stops on a failed check for phase 3.
use Rattle.sercos_law_run.proofs.Words.{◌≡◌, ℕ, ◌+◌, ◌<◌, true, false, List, [], ◌∷◌, length, sym, ap, ◌∙◌, subst, arith, Option, Some, None, IfSome, slice_get, false≢true, length-map, Idn, Job, PlanView, store_of, RingView, is_command, Begun, begun_by, CycleView, Known, Task, member, member_of, known_of, tasks_for, ended_well, idn, reads_count, outcomes_in, Call, Carry, Restarts, Heard, View, epoch_begun, begun_in, IsShown, AreSound, drive_at, middle, looks_back, AreNumbered, IsTask, OfReads, OfWrites, Checks3, Lists3, Checks4, Lists4, OfWaiting, behind_mdt, view_of, views_of, SettingsFollow, HaveStores, AreSetWell, IsViewRun, IsNextView, Request, Outcome, Stop}
use Rattle.sercos_law_run.proofs.Views.ViewRuns.{Sees}
use Rattle.sercos_law_run.proofs.Settings.SettingsRuns.{keeps_settings}
use Rattle.sercos_law_run.proofs.Settings.CheckRuns.{checks_give_3}
use Rattle.sercos_law_run.proofs.Settings.WellSets.{IsWellSet}
use Rattle.sercos_law_run.proofs.Cited.{check127_has_cause, tasks_end}

-- the request whose outcome comes after those of the reads and the writes is the check
pub is_127 : (s : Known) (k : ℕ) (plan : Option PlanView) (waiting : List Task) (b : Begun) (older : List Begun) (t : Task)
    → b.request ≡ t.request → length (outcomes_in older) ≡ reads_count (member s k) + 11 → IsTask s k plan waiting (outcomes_in older) t
    → b.request ≡ Request.Command (idn 127)
is_127 s k plan waiting b older t asks long (OfReads r less got same) = absurd (omega (arith, long, less))
is_127 s k plan waiting b older t asks long (OfWrites p i r planned less at got same) = absurd (omega (arith, long, less, at))
is_127 s k plan waiting b older t asks long (Checks3 p planned at same) = asks ∙ ap (λ (x : Task). x.request) same
is_127 s k plan waiting b older t asks long (Lists3 at failed same) = absurd (omega (arith, long, at))
is_127 s k plan waiting b older t asks long (Checks4 at checked same) = absurd (omega (arith, long, at))
is_127 s k plan waiting b older t asks long (Lists4 at failed same) = absurd (omega (arith, long, at))
is_127 s k plan waiting b older t asks long (OfWaiting i at ready got) = absurd (omega (arith, long, at))

-- What holds of the channel of the drive at a place after some calls: it is that of these cycles, which are a run in which each
-- check for phase 3 was set well.
record IsWell (r : RingView) (jobs : List Job) (h : List Call) (k : ℕ) (past : List View) : Type 0 where
  run : IsViewRun (drive_at r k).busy past
  sound : AreSound (store_of (drive_at r k)) past
  follow : SettingsFollow past
  well : AreSetWell past
  commands : HaveStores (λ blocks. is_command blocks 127 ≡ true) past
  begun_are : begun_by ((looks_back r jobs h).calls k) ≡ epoch_begun past

-- the cycle, if the master neither falls nor rises at its end
abbrev pub stays : View → View
stays v = record v { falls = false; rises = false }

shown_still : (busy : ℕ) (v : View) (past : List View) (o : Option Heard) → IfSome o (λ a. IsShown busy a v past) → IfSome o (λ a. IsShown busy a (stays v) past)
shown_still busy v past None shown = tt
shown_still busy v past (Some a) shown = record { got_mst = shown.got_mst; stands = shown.stands; says = shown.says }

pub next_still : (busy : ℕ) (v : View) (past : List View) → IsNextView busy v past → IsNextView busy (stays v) past
next_still busy v past next = record {
  commanded = next.commanded;
  heard = shown_still busy v past v.heard next.heard;
  late = next.late;
  begins = next.begins;
  sent = next.sent;
  ten = λ rises. absurd (false≢true rises);
  rests = λ rises. absurd (false≢true rises);
  top = λ rises. absurd (false≢true rises);
}

module _ (r : RingView) (jobs : List Job) (numbered : (i : ℕ) → AreNumbered (tasks_for (known_of r) jobs i)) where
  module _ (h : List Call) (views : ℕ → List View) (each : (k : ℕ) → k < length r.drives → IsWell r jobs h k (views k)) where
    -- each complete check for phase 3 has ended well
    ends_in_3 : (k : ℕ) (status : List ℕ) → k < length (known_of r).drives → slice_get (outcomes_in (begun_by ((looks_back r jobs h).calls k))) (reads_count (member (known_of r) k) + 11) ≡ Some (Outcome.Complete status) → status ≡ 3 ∷ 0 ∷ []
    ends_in_3 k status place got =
        let is = each k (subst (λ (n : ℕ). k < n) (length-map r.drives member_of) place) in
        let at = tasks_end (known_of r) (tasks_for (known_of r) jobs) h k (reads_count (member (known_of r) k) + 11) (Outcome.Complete status) place got in
        let asks = is_127 (known_of r) k at.is.by_then ((looks_back r jobs h).waiting k) at.one at.older at.task at.is.asks (at.is.ended ∙ at.place) at.is.task in
        checks_give_3 (drive_at r k).busy (store_of (drive_at r k)) (views k) is.run is.sound is.follow is.well is.commands at.newer at.older at.one status (sym is.begun_are ∙ at.split) asks at.ended

    -- so there is no such stop
    never_so : (address : ℕ) (list : List Idn) → (looks_back r jobs h).stop ≡ Some (Stop.Check127 address (record { items = list })) → ⊥
    never_so address list is =
        let failed = check127_has_cause (known_of r) (tasks_for (known_of r) jobs) h address list numbered is in
        false≢true (sym failed.badly ∙ ap ended_well (ends_in_3 failed.place failed.status failed.there failed.complete))

  module _ (carry : Carry) (restarts : Restarts) where
    -- THE STOP never comes in a cycle, also if the master falls at its end
    pub never_127_in : (t : CycleView) (j : List CycleView) → ((k : ℕ) → k < length r.drives → Sees r jobs carry restarts k (t ∷ j))
        → ((k : ℕ) → k < length r.drives → AreSound (store_of (drive_at r k)) (views_of r jobs carry restarts k (t ∷ j))) → ((k : ℕ) → k < length r.drives → IsWellSet r jobs carry restarts k (t ∷ j))
        → ((k : ℕ) → k < length r.drives → begun_by ((behind_mdt r jobs carry restarts t.sent j).calls k) ≡ begun_in (view_of r jobs carry restarts k t j) (views_of r jobs carry restarts k j))
        → (address : ℕ) (list : List Idn) → (behind_mdt r jobs carry restarts t.sent j).stop ≡ Some (Stop.Check127 address (record { items = list })) → ⊥
    never_127_in t j sees sound well begun = never_so (middle r carry restarts t.sent j) (λ k. stays (view_of r jobs carry restarts k t j) ∷ views_of r jobs carry restarts k j) (λ k below.
        let see = sees k below in
        let set = well k below in
        record {
          run = (see.run.0, next_still (drive_at r k).busy (view_of r jobs carry restarts k t j) (views_of r jobs carry restarts k j) see.run.1);
          sound = sound k below;
          follow = set.follow;
          well = (set.well.0, keeps_settings (stays (view_of r jobs carry restarts k t j)) (views_of r jobs carry restarts k j) set.follow, set.well.2);
          commands = set.commands;
          begun_are = begun k below;
        })
