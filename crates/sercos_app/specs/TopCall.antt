-- What the answers of the top call promise, command by command. The bytes left in a source and those that a sink holds are known if it
-- exposes them.
use Rattle.std.specs.Prelude.{◌≡◌, ℕ, ◌<◌, ◌≤◌, Bool, true, false, List, [], codes, length, reverse, Option, Some, None, Ok, Err}
use Rattle.std.specs.Io.KnownBytes.{Appends}
use Rattle.sercos_call.specs.TopCall.{ReadsWhole}
use Rattle.sercos_script.specs.Links.{Carry, Restarts}
use Rattle.sercos_script.specs.Cuts.{has_flip}
use Rattle.sercos_answer.specs.Lines.{lines_of}
use Rattle.sercos_planning.specs.LeastTimes.{IsLeastChain}
use Rattle.sercos_planning.specs.Planning.{plan_text, chain_text}
use Rattle.sercos_planning.specs.Margins.{TellsMargins, TellsChain}
use Rattle.sercos_checking.specs.Checking.{capture_fault, first_violation, violation_text, clean_text}
use Rattle.sercos_replay.specs.Places.{PlaceView}
use Rattle.sercos_replay.specs.Stations.{Station, station_differs}
use Rattle.sercos_replay.specs.Replaying.{place_text, number_line}
use Rattle.sercos_replay.specs.Asking.{Asks, Breaks, cycles_in}
use Rattle.sercos_timing.specs.Views.{PlanView}
use Rattle.sercos_plan.specs.ChainOf.{planned}
use Rattle.sercos_plan.specs.Least.{IsLeast, NoneFits}
use Rattle.sercos_plan.specs.Views.{ChainView}
use Rattle.sercos_plan.specs.Chains.{IsChain}
use Rattle.sercos_block.specs.Rings.{wishes_of}
use Rattle.sercos_trace.specs.Views.{CycleView}
use Rattle.sercos_trace.specs.Texts.{trace_of}
use Rattle.std.specs.List.{flat_map}
use Rattle.sercos_block.specs.Views.{RingView}
use Rattle.sercos_law_run.specs.Journal.Harmless.{IsHarmlessAfterCuts}
use Rattle.sercos_law_run.specs.Journal.Runs.{IsClear, run_of}
use Rattle.sercos_law_run.specs.Undisturbed.StopsLater.{IsRight}
use Rattle.sercos_backup.specs.Jobs.{list_jobs, place_of_other}
use Rattle.sercos_backup.specs.Tracking.{are_well}
use Rattle.sercos_backup.specs.Texts.{failed_lines, many_answer, restored_line, saved_lines}
use Rattle.sercos_app.specs.Saving.{last_data, run_tracked}
use Rattle.sercos_app.specs.EndsWell.{HasRefusal, refused_line}
use Rattle.sercos_app.specs.Saved.{AreClear, GoWell, IsRestoredRun, IsSaved, second_jobs}
use Rattle.sercos_law_run.specs.Totals.Totals.{totals_of}
use Rattle.sercos_law_trace.specs.Clean.Traces.{IsCleanIfClear}
use Rattle.sercos_opened.specs.Kept.{carry_under, restarts_under, script_carry, script_restarts, script_run, IsKept}
use Rattle.sercos_config.specs.Views.{DocumentView}
use Rattle.sercos_config.specs.Document.{document_of}
use Rattle.sercos_config.specs.Generated.{generated}
use Rattle.sercos_app.specs.Generating.{gen_line}

-- The source was read to its end as the document of a ring for which no plan fits. What was appended is the text of the planner's chain of
-- the ring's requirements, along the least times that these leave, whose sum is above its bound.
pub record NonePlanned (left left' held held' : Option (List ℕ)) : Type 0 where
  pub bytes : List ℕ
  pub read : ReadsWhole left left' bytes
  pub says : DocumentView
  pub document : document_of bytes ≡ Ok says
  pub none : NoneFits (wishes_of says.setup)
  pub chain : ChainView
  pub made : planned (wishes_of says.setup) ≡ Err chain
  pub is_chain : IsChain (wishes_of says.setup) chain
  pub is_least : IsLeastChain (wishes_of says.setup) chain
  pub written : Appends held held' (chain_text chain)

-- the source was read to its end as the document of a ring, and the text of the planner's plan was appended, which is the least
pub record LeastPlanned (left left' held held' : Option (List ℕ)) : Type 0 where
  pub bytes : List ℕ
  pub read : ReadsWhole left left' bytes
  pub says : DocumentView
  pub document : document_of bytes ≡ Ok says
  pub plan : PlanView
  pub made : planned (wishes_of says.setup) ≡ Ok plan
  pub least : IsLeast (wishes_of says.setup) plan
  pub written : Appends held held' (plan_text (wishes_of says.setup) plan)

-- The source was read to its end as the document of a ring. What was appended is the slack of each time of its drives, and the least cycle
-- time; or, if no plan fits it, the least cycle time and a chain that proves it.
pub record MarginsTold (left left' held held' : Option (List ℕ)) : Type 0 where
  pub bytes : List ℕ
  pub read : ReadsWhole left left' bytes
  pub says : DocumentView
  pub document : document_of bytes ≡ Ok says
  pub text : List ℕ
  pub tells : TellsMargins (wishes_of says.setup) text
  pub written : Appends held held' text

pub record ChainTold (left left' held held' : Option (List ℕ)) : Type 0 where
  pub bytes : List ℕ
  pub read : ReadsWhole left left' bytes
  pub says : DocumentView
  pub document : document_of bytes ≡ Ok says
  pub text : List ℕ
  pub tells : TellsChain (wishes_of says.setup) text
  pub written : Appends held held' text

-- The source was read to its end as a capture without a fault of grammar or shape. What was appended names the first line that breaks
-- a rule, and the lowest rule that it breaks; or, where none does, the number of lines.
pub record ViolationTold (left left' held held' : Option (List ℕ)) : Type 0 where
  pub bytes : List ℕ
  pub read : ReadsWhole left left' bytes
  pub shaped : capture_fault [] (lines_of bytes) ≡ None
  pub line : ℕ
  pub rule : ℕ
  pub first : first_violation [] (lines_of bytes) ≡ Some (line, rule)
  pub written : Appends held held' (violation_text line rule)

pub record CleanTold (left left' held held' : Option (List ℕ)) : Type 0 where
  pub bytes : List ℕ
  pub read : ReadsWhole left left' bytes
  pub shaped : capture_fault [] (lines_of bytes) ≡ None
  pub none : first_violation [] (lines_of bytes) ≡ None
  pub written : Appends held held' (clean_text (length (lines_of bytes)))

-- The source was read to its end as the document of a ring and a capture, for the replay of the station with an address. What was appended
-- is the first place at which this station deviated from its rules, with both telegrams; or, without one, the number of cycles.
pub record PlaceTold (address : ℕ) (left left' held held' : Option (List ℕ)) : Type 0 where
  pub bytes : List ℕ
  pub read : ReadsWhole left left' bytes
  pub station : Station
  pub capture : List ℕ
  pub asks : Asks address bytes station capture
  pub place : PlaceView
  pub first : station_differs station (cycles_in capture) ≡ Some place
  pub written : Appends held held' (place_text place)

pub record AgreementTold (address : ℕ) (left left' held held' : Option (List ℕ)) : Type 0 where
  pub bytes : List ℕ
  pub read : ReadsWhole left left' bytes
  pub station : Station
  pub capture : List ℕ
  pub asks : Asks address bytes station capture
  pub none : station_differs station (cycles_in capture) ≡ None
  pub written : Appends held held' (number_line (codes "agrees ") (length (cycles_in capture)))

-- The same, but that the capture breaks a rule: what was appended names its first line that does, and the lowest rule that it breaks.
pub record BreachTold (address : ℕ) (left left' held held' : Option (List ℕ)) : Type 0 where
  pub bytes : List ℕ
  pub read : ReadsWhole left left' bytes
  pub breaks : Breaks address bytes
  pub written : Appends held held' (violation_text breaks.line breaks.rule)

-- The source was read to its end as the document of a ring, and what was appended is the trace of the one run of this ring, for its number
-- of cycles, under its script followed by the link passed in. Its cycles have all promised properties. If the script has no flip, and the
-- link passed in is harmless after cuts, as one that changes nothing is, no arrival is unseen in it. If none is, `check`, given what was
-- appended as its whole input, finds it clean, regardless of losses and restarts; this holds of a text of any length, though the command
-- `check` takes at most 1,048,576 bytes. The newest cycle of the journal comes first.
pub record RunTraced (carry : Carry) (restarts : Restarts) (left left' held held' : Option (List ℕ)) : Type 0 where
  pub bytes : List ℕ
  pub read : ReadsWhole left left' bytes
  pub says : DocumentView
  pub document : document_of bytes ≡ Ok says
  pub journal : List CycleView
  pub kept : IsKept says.setup says.jobs (carry_under says carry) (restarts_under says restarts) journal
  pub clear : has_flip says.faults ≡ false → IsHarmlessAfterCuts carry → IsClear journal
  pub clean : IsCleanIfClear says.setup journal
  pub count : length journal ≡ says.setup.cycles
  pub written : Appends held held' (trace_of (wishes_of says.setup) (reverse journal) (totals_of (reverse journal)))

-- What was appended is the summary of the one run of the generated ring of n drives, for its number of cycles, under its script followed by
-- the link passed in. Its cycles have all promised properties. If that link is harmless after cuts, no arrival is unseen in it. The newest
-- cycle of the journal comes first.
pub record RunSummed (carry : Carry) (restarts : Restarts) (n : ℕ) (held held' : Option (List ℕ)) : Type 0 where
  pub journal : List CycleView
  pub kept : IsKept (generated n).setup (generated n).jobs (carry_under (generated n) carry) (restarts_under (generated n) restarts) journal
  pub clear : IsHarmlessAfterCuts carry → IsClear journal
  pub count : length journal ≡ (generated n).setup.cycles
  pub written : Appends held held' (gen_line n (totals_of (reverse journal)))

-- Nothing is saved of a ring, and this text has the reason: the lists of some drives couldn't be read; the blocks on the lists are too
-- many; or some of them couldn't be read.
pub data IsUnsaved (r : RingView) (carry : Carry) (restarts : Restarts) : List ℕ → Type 0 where
  lists_failed : are_well true (run_tracked r (list_jobs r) carry restarts) ≡ false →
      IsUnsaved r carry restarts (failed_lines true (run_tracked r (list_jobs r) carry restarts))
  too_many : are_well true (run_tracked r (list_jobs r) carry restarts) ≡ true → 4096 < length (second_jobs r carry restarts) →
      IsUnsaved r carry restarts (many_answer (length (second_jobs r carry restarts))).output
  blocks_failed : are_well true (run_tracked r (list_jobs r) carry restarts) ≡ true → length (second_jobs r carry restarts) ≤ 4096 →
      are_well false (run_tracked r (second_jobs r carry restarts) carry restarts) ≡ false
      → IsUnsaved r carry restarts (failed_lines false (run_tracked r (second_jobs r carry restarts) carry restarts))

-- The same, if each request was answered: drives refused their lists, or some of the blocks on them; or these are too many.
pub data IsRefused (r : RingView) (carry : Carry) (restarts : Restarts) : List ℕ → Type 0 where
  lists_refused : HasRefusal true (run_tracked r (list_jobs r) carry restarts) →
      IsRefused r carry restarts (flat_map (refused_line true) (run_tracked r (list_jobs r) carry restarts))
  many_listed : 4096 < length (second_jobs r carry restarts) →
      IsRefused r carry restarts (many_answer (length (second_jobs r carry restarts))).output
  blocks_refused : HasRefusal false (run_tracked r (second_jobs r carry restarts) carry restarts) →
      IsRefused r carry restarts (flat_map (refused_line false) (run_tracked r (second_jobs r carry restarts) carry restarts))

-- The source was read to its end as the document of a ring. The lists of backup operation data of its drives were read in one run of the
-- ring, and all blocks on them in a second one, both over its script. What was appended is the saved data of these blocks, in the order of
-- the lists. If the script has no flip, no arrival of these runs is unseen.
pub record BackupSaved (left left' held held' : Option (List ℕ)) : Type 0 where
  pub bytes : List ℕ
  pub read : ReadsWhole left left' bytes
  pub says : DocumentView
  pub document : document_of bytes ≡ Ok says
  pub lists : are_well true (run_tracked says.setup (list_jobs says.setup) (script_carry says) (script_restarts says)) ≡ true
  pub few : length (second_jobs says.setup (script_carry says) (script_restarts says)) ≤ 4096
  pub blocks : are_well false (run_tracked says.setup (second_jobs says.setup (script_carry says) (script_restarts says))
      (script_carry says) (script_restarts says)) ≡ true
  pub runs : IsSaved says.setup (script_carry says) (script_restarts says)
  pub clear : has_flip says.faults ≡ false → AreClear says.setup (script_carry says) (script_restarts says)
  pub written : Appends held held'
      (saved_lines (run_tracked says.setup (second_jobs says.setup (script_carry says) (script_restarts says)) (script_carry says)
      (script_restarts says)))

-- The same input, but nothing is saved, and what was appended has the reason. If the ring is right, its cycles suffice for the requests of
-- each run that is made, and nothing is disturbed in it, no line says that a request is open or broken.
pub record BackupFailed (left left' held held' : Option (List ℕ)) : Type 0 where
  pub bytes : List ℕ
  pub read : ReadsWhole left left' bytes
  pub says : DocumentView
  pub document : document_of bytes ≡ Ok says
  pub text : List ℕ
  pub why : IsUnsaved says.setup (script_carry says) (script_restarts says) text
  pub refused : IsRight says.setup → GoWell says.setup (script_carry says) (script_restarts says) →
      IsRefused says.setup (script_carry says) (script_restarts says) text
  pub runs : IsSaved says.setup (script_carry says) (script_restarts says)
  pub clear : has_flip says.faults ≡ false → AreClear says.setup (script_carry says) (script_restarts says)
  pub written : Appends held held' text

-- The source was read to its end as the document of a ring whose requests all write operation data. What was appended has a line for each
-- of them, from the one run of the ring over its script: what the drive has after its last cycle, or how the request failed. `all` is
-- whether none did. If the script has no flip, no arrival of the run is unseen.
pub record RestoreTold (all : Bool) (left left' held held' : Option (List ℕ)) : Type 0 where
  pub bytes : List ℕ
  pub read : ReadsWhole left left' bytes
  pub says : DocumentView
  pub document : document_of bytes ≡ Ok says
  pub writes : place_of_other says.jobs ≡ None
  pub run : IsRestoredRun says.setup says.jobs (script_carry says) (script_restarts says)
  pub clear : has_flip says.faults ≡ false → IsClear (script_run says)
  pub whole : are_well false (run_tracked says.setup says.jobs (script_carry says) (script_restarts says)) ≡ all
  pub written : Appends held held'
      (flat_map (restored_line (last_data says.setup (script_carry says) (script_restarts says)
      (run_of says.setup says.jobs (script_carry says) (script_restarts says) says.setup.cycles)))
      (run_tracked says.setup says.jobs (script_carry says) (script_restarts says)))
