-- The stops that are told in a cycle.
use Rattle.sercos_law_run.proofs.Words.{◌≡◌, ℕ, ◌<◌, Bool, true, false, List, [], ◌∷◌, length, Option, Some, None, refl, sym, ◌∙◌, ap, if◌then◌else◌, option_or, Job, IsValid, wishes_of, IsStore, store_of, RingView, blocks_in, EventsView, CycleView, Stop, member, known_of, tasks_for, outcomes, restart_told, stop_told, tasks_wait, Carry, Restarts, drive_at, master_calls, looks_back, middle, no_events, IsNext, behind_mdt, after_mst, view_of, views_of, IsSpelled, IsOpened, IsStored, StopsRight, is_planned}
use Rattle.sercos_trace.specs.declared.events.Stop.TheVariants as stop
use Rattle.sercos_law_run.proofs.Settings.WellSets.{IsWellSet, well_next}
use Rattle.sercos_law_run.proofs.Settings.NoCheck127.{stays, next_still, never_127_in}
use Rattle.sercos_law_run.proofs.Held.Runs.{AllStand, answers_at, wishes_so, plan_is, small, agrees, rests, begun_then}
use Rattle.sercos_law_run.proofs.Headline.StopRuns.{IsFollowed, valid_wishes, no_fit, no_bad_config}
use Rattle.sercos_law_run.proofs.Agenda.Requests.{are_requests}

-- what a cycle's events tell once is that of the master when its MDT is sent
pub told_once : {A : Type 0} (told : Bool) (o : Option A) (x : A) → (if told then o else None) ≡ Some x → o ≡ Some x
told_once true o x is = is
told_once false o x is = cc

pub or_none : {A : Type 0} (o : Option A) (x : A) → option_or o None ≡ Some x → o ≡ Some x
or_none None x is = is
or_none (Some y) x is = is

pub event_stop : (r : RingView) (jobs : List Job) (carry : Carry) (restarts : Restarts) (t : CycleView) (j : List CycleView) (x : Stop) → IsNext r jobs carry restarts t j → t.events.stop ≡ Some x → (behind_mdt r jobs carry restarts t.sent j).stop ≡ Some x
event_stop r jobs carry restarts t j x next is = by (restarts (length j) 0) (sym (ap (λ (e : EventsView). e.stop) next.events) ∙ is)
  where
    by : (b : Bool) → option_or (stop_told (behind_mdt r jobs carry restarts t.sent j)) (if b then restart_told (known_of r) (looks_back r jobs (master_calls r carry restarts j)) no_events else no_events).stop ≡ Some x
        → (behind_mdt r jobs carry restarts t.sent j).stop ≡ Some x
    by true is = told_once (behind_mdt r jobs carry restarts t.sent j).now.stops (behind_mdt r jobs carry restarts t.sent j).stop x (or_none (stop_told (behind_mdt r jobs carry restarts t.sent j)) x is)
    by false is = told_once (behind_mdt r jobs carry restarts t.sent j).now.stops (behind_mdt r jobs carry restarts t.sent j).stop x (or_none (stop_told (behind_mdt r jobs carry restarts t.sent j)) x is)

module _ (r : RingView) (jobs : List Job) (carry : Carry) (restarts : Restarts) (opened : IsOpened r jobs)
    (first : (k : ℕ) → k < length r.drives → IsStore (store_of (drive_at r k))) where
  abbrev pub AllWell : List CycleView → Type 0
  AllWell j = (k : ℕ) → k < length r.drives → IsWellSet r jobs carry restarts k j

  wishes_valid : IsValid (wishes_of r)
  wishes_valid = valid_wishes r jobs opened first [] (λ k. []) (λ k below. record { run = tt; sound = tt; stored = tt; begun_are = refl })

  -- from the end of a cycle to that of the next
  pub all_well : (t : CycleView) (j : List CycleView) (next : IsNext r jobs carry restarts t j) → t.unseen ≡ 0 → (spelled : IsSpelled r jobs carry restarts t j)
      → (stored : (k : ℕ) → k < length r.drives → IsStored (drive_at r k) (blocks_in (drive_at r k) (after_mst r carry restarts t.sent j k))) → (all : AllStand r jobs carry restarts j) → AllStand r jobs carry restarts (t ∷ j) → AllWell j → AllWell (t ∷ j)
  all_well t j next clear spelled stored all now well k below =
      well_next r jobs carry restarts opened.valid wishes_valid (λ i. tasks_wait (member (known_of r) i).address 1 jobs) t j next clear spelled k below (all k below).sees
      (agrees r jobs carry restarts opened first t j next clear spelled stored all k below) (rests r jobs carry restarts opened first t j next clear spelled stored all k below)
      (small r jobs carry restarts opened first k below) (now k below).sound (stored k below).0 (stored k below).1
      (λ plan has. (plan_is r jobs carry restarts opened first (looks_back r jobs (master_calls r carry restarts j)) plan
      (is_planned (known_of r) (tasks_for (known_of r) jobs) (master_calls r carry restarts j)) has
      (wishes_so r jobs carry restarts opened first (outcomes (looks_back r jobs (master_calls r carry restarts j))) (answers_at r jobs carry restarts opened first j plan all has))).least.fits)
      (well k below)

  -- the stops of a cycle
  pub stops_in : (t : CycleView) (j : List CycleView) (next : IsNext r jobs carry restarts t j) (clear : t.unseen ≡ 0) (spelled : IsSpelled r jobs carry restarts t j)
      (stored : (k : ℕ) → k < length r.drives → IsStored (drive_at r k) (blocks_in (drive_at r k) (after_mst r carry restarts t.sent j k))) (all : AllStand r jobs carry restarts j) → AllStand r jobs carry restarts (t ∷ j) → AllWell (t ∷ j)
      → StopsRight r t.events.stop
  stops_in t j next clear spelled stored all now well = record {
    no_fit = λ chain is. no_fit r jobs opened first (middle r carry restarts t.sent j)
        (λ k. stays (view_of r jobs carry restarts k t j) ∷ views_of r jobs carry restarts k j) followed chain
        (event_stop r jobs carry restarts t j (stop.NoFit chain) next is);
    no_bad_config = λ address i word is. no_bad_config r jobs opened first (middle r carry restarts t.sent j)
        (λ k. stays (view_of r jobs carry restarts k t j) ∷ views_of r jobs carry restarts k j) followed address i word
        (event_stop r jobs carry restarts t j (stop.BadConfig address i word) next is);
    no_check127 = λ address list is. never_127_in r jobs (λ i. (are_requests (known_of r) jobs i).1) carry restarts t j
        (λ k below. (now k below).sees) (λ k below. (now k below).sound) well
        (λ k below. begun_then r jobs carry restarts opened first t j next clear spelled stored all k below) address list
        (event_stop r jobs carry restarts t j (stop.Check127 address (record { items = list })) next is);
  }
    where
      followed : (k : ℕ) → k < length r.drives → IsFollowed r jobs (middle r carry restarts t.sent j) (λ i. stays (view_of r jobs carry restarts i t j) ∷ views_of r jobs carry restarts i j) k
      followed k below =
          let run = (now k below).sees.run in
          record {
            run = (run.0, next_still (drive_at r k).busy (view_of r jobs carry restarts k t j) (views_of r jobs carry restarts k j) run.1);
            sound = (now k below).sound;
            stored = (now k below).stored;
            begun_are = begun_then r jobs carry restarts opened first t j next clear spelled stored all k below;
          }
