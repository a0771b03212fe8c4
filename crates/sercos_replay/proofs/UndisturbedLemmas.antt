-- The first place that differs in the capture of a run, whatever station is replayed.
use Rattle.std.proofs.Common.{◌≡◌, ◌⊎◌, inl, inr, ℕ, ◌<◌, ◌≤◌, ◌==◌, Bool, true, false, List, [], ◌∷◌, ◌++◌, length, Option, Some, None, refl, sym, ◌∙◌, ap, subst, arith, append-nil, length-append}
use Rattle.std.specs.Prelude.{option_map, if◌then◌else◌}
use Rattle.std.specs.List.{position}
use Rattle.std.specs.Option.{option_or}
use Rattle.std.proofs.lemmas.List.Quantifiers.{position-Some}
use Rattle.std.proofs.lemmas.Option.{none-some}
use Rattle.sercos_model.proofs.OptionLemmas.{option_or-some}
use Rattle.sercos_step.specs.declared.request.Job.{Job}
use Rattle.sercos_block.specs.Views.{RingView}
use Rattle.sercos_block.specs.Rings.{is_ring}
use Rattle.sercos_trace.specs.Views.{CycleView}
use Rattle.sercos_trace.specs.declared.reading.Line.{Line}
use Rattle.sercos_script.specs.Links.{Carry, Restarts}
use Rattle.sercos_seat.specs.Ring.{known_of}
use Rattle.sercos_law_run.specs.Journal.Runs.{IsRun, drive_at, no_drive}
use Rattle.sercos_step.specs.Steps.{AreTypedJobs}
use Rattle.sercos_law_run.specs.Typed.Typed.{AreTyped}
use Rattle.sercos_config.specs.Views.{DocumentView}
use Rattle.sercos_replay.specs.Captured.{lines_of, telegrams, NeverDisturbed}
use Rattle.sercos_replay.specs.Cycles.{Cycle, cycles_of}
use Rattle.sercos_replay.specs.Places.{PlaceView, differs, if_differs}
use Rattle.sercos_replay.specs.Differences.{at_place, drive_differs, mst_place, mdt_place, master_differs}
use Rattle.sercos_replay.specs.Stations.{Station, has, drive_of, station_of, station_differs, lines_read}
use Rattle.sercos_replay.specs.Stations.Station.{master, drive}
use Rattle.sercos_replay.specs.Undisturbed.{CapturesDiffer}
use Rattle.sercos_replay.proofs.OptionLemmas.{or-none}
use Rattle.sercos_replay.proofs.AgreeLemmas.{cycle_next, cycles_next}

-- the laws on undisturbed runs, of drives and of the master; and that other lines say nothing
abbrev pub DrivesAgree : Type 0
DrivesAgree = (r : RingView) (jobs : List Job) (carry : Carry) (restarts : Restarts) (j : List CycleView) (index : ℕ) → is_ring r ≡ true → AreTyped r → AreTypedJobs jobs → IsRun r jobs carry restarts j
    → NeverDisturbed r carry restarts j → index < length r.drives → drive_differs (drive_at r index) r.rate (cycles_of (lines_of j)) ≡ None

abbrev pub MasterAgrees : Type 0
MasterAgrees = (r : RingView) (jobs : List Job) (carry : Carry) (restarts : Restarts) (j : List CycleView) → is_ring r ≡ true → AreTyped r → AreTypedJobs jobs → IsRun r jobs carry restarts j
    → NeverDisturbed r carry restarts j → master_differs (known_of r) jobs (cycles_of (lines_of j)) ≡ None

abbrev pub TelegramsAlone : Type 0
TelegramsAlone = (lines : List Line) → cycles_of lines ≡ cycles_of (telegrams lines)

drive_agrees : (r : RingView) (place : Option ℕ) (s : Station) → ((index : ℕ) → place ≡ Some index → index < length r.drives) → option_map (λ index. drive (drive_at r index) r.rate) place ≡ Some s
    → (lines : List Line) → ((index : ℕ) → index < length r.drives → drive_differs (drive_at r index) r.rate (cycles_of lines) ≡ None) → station_differs s (cycles_of lines) ≡ None
unfolding station_differs
drive_agrees r None s within is lines law = absurd (cc)
drive_agrees r (Some index) s within is lines law =
    let same : drive (drive_at r index) r.rate ≡ s = cc in
    subst (λ (x : Station). station_differs x (cycles_of lines) ≡ None) same (law index (within index refl))

master_is : (known : Station) (s : Station) → Some known ≡ Some s → known ≡ s
master_is known s e = cc

station_agrees : (address : ℕ) (d : DocumentView) (s : Station) → station_of address d ≡ Some s → (lines : List Line)
    → master_differs (known_of d.setup) d.jobs (cycles_of lines) ≡ None → ((index : ℕ) → index < length d.setup.drives → drive_differs (drive_at d.setup index) d.setup.rate (cycles_of lines) ≡ None)
    → station_differs s (cycles_of lines) ≡ None
unfolding station_of drive_of station_differs
station_agrees address d s is lines of_master of_drive = by (address == 0) is
  where
    by : (none : Bool) → (if none then Some (master (known_of d.setup) d.jobs) else option_map (λ index. drive (drive_at d.setup index) d.setup.rate) (position (has address) d.setup.drives)) ≡ Some s
        → station_differs s (cycles_of lines) ≡ None
    by true e = subst (λ (x : Station). station_differs x (cycles_of lines) ≡ None) (master_is (master (known_of d.setup) d.jobs) s e) of_master
    by false e = drive_agrees d.setup (position (has address) d.setup.drives) s (λ index at. (position-Some (has address) d.setup.drives index no_drive at).0) e lines of_drive

-- THE FIRST PLACE of a longer capture: a place of its newest cycle, or that of the cycles before it.
of_place : (q p : PlaceView) → if_differs q ≡ Some p → p.cycle ≡ q.cycle
of_place q p is = by (differs q) is
  where
    by : (b : Bool) → (if b then Some q else None) ≡ Some p → p.cycle ≡ q.cycle
    by true e = let same : q ≡ p = cc in ap (λ (x : PlaceView). x.cycle) (sym same)
    by false e = cc

either : (a b : Option PlaceView) (p : PlaceView) → option_or a b ≡ Some p → (a ≡ Some p) ⊎ (b ≡ Some p)
either None b p is = inr is
either (Some q) b p is = inl is

newest_place : (s : Station) (c : Cycle) (cs : List Cycle) (p : PlaceView) → station_differs s cs ≡ None → station_differs s (c ∷ cs) ≡ Some p → p.cycle ≡ c.cycle
unfolding station_differs
newest_place (master known jobs) c cs p none is =
    elim (either (if_differs (mst_place known jobs c cs)) (if_differs (mdt_place known jobs c cs)) p (sym (or-none (master_differs known jobs cs) _ none) ∙ is)) [
      | inl e ↦ of_place (mst_place known jobs c cs) p e
      | inr e ↦ of_place (mdt_place known jobs c cs) p e
    ]
newest_place (drive d rate) c cs p none is = of_place (at_place d rate c cs) p (sym (or-none (drive_differs d rate cs) _ none) ∙ is)

older_place : (s : Station) (c : Cycle) (cs : List Cycle) (p : PlaceView) → station_differs s cs ≡ Some p → station_differs s (c ∷ cs) ≡ Some p
unfolding station_differs
older_place (master known jobs) c cs p is = option_or-some (master_differs known jobs cs) _ p is
older_place (drive d rate) c cs p is = option_or-some (drive_differs d rate cs) _ p is

module _ (r : RingView) (jobs : List Job) (carry : Carry) (restarts : Restarts) where
  run_before : (later earlier : List CycleView) → IsRun r jobs carry restarts (later ++ earlier) → IsRun r jobs carry restarts earlier
  run_before [] earlier run = run
  run_before (t ∷ later) earlier run = run_before later earlier run.0

  -- if nothing differs in the earlier part, the first place is in a cycle of the later one
  since : (s : Station) (later earlier : List CycleView) → IsRun r jobs carry restarts (later ++ earlier) → station_differs s (cycles_of (lines_of earlier)) ≡ None → (p : PlaceView)
      → station_differs s (cycles_of (lines_of (later ++ earlier))) ≡ Some p → (length earlier ≤ p.cycle) × (p.cycle < length (later ++ earlier))
  since s [] earlier run none p is = absurd (none-some p (sym none ∙ is))
  since s (t ∷ later) earlier run none p is = by (station_differs s before) refl (since s later earlier run.0 none p)
    where
      before : List Cycle
      before = cycles_of (lines_of (later ++ earlier))

      here : station_differs s (cycle_next r jobs carry restarts t (later ++ earlier) ∷ before) ≡ Some p
      here = sym (ap (station_differs s) (cycles_next r jobs carry restarts t (later ++ earlier) run.1)) ∙ is

      by : (o : Option PlaceView) → station_differs s before ≡ o → (station_differs s before ≡ Some p → (length earlier ≤ p.cycle) × (p.cycle < length (later ++ earlier)))
          → (length earlier ≤ p.cycle) × (p.cycle < length (t ∷ (later ++ earlier)))
      by None e old =
          let at : p.cycle ≡ t.cycle = newest_place s (cycle_next r jobs carry restarts t (later ++ earlier)) before p e here in
          let number = run.1.cycle in
          let long = length-append later earlier in
          (omega (arith, at, number, long), omega (arith, at, number))
      by (Some q) e old =
          let same : Some q ≡ Some p = sym (older_place s (cycle_next r jobs carry restarts t (later ++ earlier)) before q e) ∙ here in
          let (low, high) = old (e ∙ same) in
          (low, omega (arith, high))

pub captured : DrivesAgree → MasterAgrees → TelegramsAlone → CapturesDiffer
captured drives the_master alone address d s capture carry restarts j place has is differs = record {
  within = let (low, high) = after j [] (sym (append-nil j)) tt in let long = ap (λ (l : List CycleView). length l) (append-nil j) in omega (arith, high, long);
  late = λ later earlier cut calm. (after later earlier cut calm).0;
}
  where
    same : cycles_of (lines_of j) ≡ cycles_of (lines_read capture)
    same = alone (lines_of j) ∙ ap cycles_of (sym is.same) ∙ sym (alone (lines_read capture))

    none : (before : List CycleView) → IsRun d.setup d.jobs carry restarts before → NeverDisturbed d.setup carry restarts before → station_differs s (cycles_of (lines_of before)) ≡ None
    none before run calm =
        station_agrees address d s has (lines_of before)
        (the_master d.setup d.jobs carry restarts before is.ring is.typed is.jobs run calm)
        (λ index within. drives d.setup d.jobs carry restarts before index is.ring is.typed is.jobs run calm within)

    after : (later earlier : List CycleView) → j ≡ later ++ earlier → NeverDisturbed d.setup carry restarts earlier → (length earlier ≤ place.cycle) × (place.cycle < length (later ++ earlier))
    after later earlier cut calm =
        let run = subst (IsRun d.setup d.jobs carry restarts) cut is.run in
        since d.setup d.jobs carry restarts s later earlier run (none earlier (run_before d.setup d.jobs carry restarts later earlier run) calm) place
        (subst (λ (l : List CycleView). station_differs s (cycles_of (lines_of l)) ≡ Some place) cut (ap (station_differs s) same ∙ differs))
