-- The words that the contracts of this crate use, each from where it is defined.
pub use Rattle.sercos_block.specs.Rings.{wishes_of}
pub use Rattle.sercos_block.specs.Views.{RingView}
pub use Rattle.sercos_law_run.specs.Agenda.Channels.{CallsAreMoves}
pub use Rattle.sercos_law_run.specs.Agenda.Events.{AreTold, AreToldAtRestart}
pub use Rattle.sercos_law_run.specs.Agenda.Reads.{ReadsWell}
pub use Rattle.sercos_law_run.specs.Agenda.Reported.{AreRequests, TellsInOrder, TellsOnce, TellsRight}
pub use Rattle.sercos_law_run.specs.Agenda.Stops.{BadConfigHasCause, Check127HasCause, Check128HasCause, NoFitHasCause, RefusedHasCause}
pub use Rattle.sercos_law_run.specs.Agenda.Tasks.{BeginsNoneEarly, BeginsTasks, EndsTasks}
pub use Rattle.sercos_law_run.specs.Agenda.Turns.{WorkInTurn, WorksInFour, WorksInThree, WorksInTwo}
pub use Rattle.sercos_law_run.specs.Agenda.Writes.{ConfiguresAtRise, ConfiguresFromCheck, WritesData}
pub use Rattle.sercos_law_run.specs.Bounds.Bounds.{AreSections, FewStatuses, FewWrites, IsBackAtOnce, IsBackLater, IsBelowGreatest, IsRefusedEarly, IsRefusedLate, IsReported, IsStarted}
pub use Rattle.sercos_law_run.specs.Headline.Headline.{Headline}
pub use Rattle.sercos_law_run.specs.Headline.Once.{OnceAlways}
pub use Rattle.sercos_law_run.specs.Journal.Harmless.{BothAreHarmless, CutsAreHarmless, QuietIsHarmless}
pub use Rattle.sercos_law_run.specs.Journal.Runs.{IsNext, IsRun, next_record, run_of}
pub use Rattle.sercos_law_run.specs.Recovery.AfterFalls.{AfterFall}
pub use Rattle.sercos_law_run.specs.Recovery.ComesBack.{ComesBack}
pub use Rattle.sercos_law_run.specs.Recovery.FallsInTime.{FallsInTime}
pub use Rattle.sercos_law_run.specs.Recovery.FallsSoon.{FallsSoon}
pub use Rattle.sercos_law_run.specs.Recovery.Predicts.{Predicts}
pub use Rattle.sercos_law_run.specs.Recovery.Recovers.{Recovers}
pub use Rattle.sercos_law_run.specs.Recovery.UpOrDown.{AgesDown, AgesToLimit, FallsIfDown, StaysDown, UpOrDown}
pub use Rattle.sercos_law_run.specs.Settings.Checks.{ChecksGive3, StayWell}
pub use Rattle.sercos_law_run.specs.Settings.SetByWrites.{IsSetByWrites, SetByKept}
pub use Rattle.sercos_law_run.specs.Slots.OnPlan.{PlanKeepsApart}
pub use Rattle.sercos_law_run.specs.Slots.Sending.{SendsSlots}
pub use Rattle.sercos_law_run.specs.Start.Answers.{AsksAsRing, NoAttributeStops, SaysLength, TypedHaveFactors}
pub use Rattle.sercos_law_run.specs.Start.Causes.{CausesAlike, ChecksEndWell, CycleCause, ListHasNoCause, NumberHasNoCause, RingIsValid, StopsWithList}
pub use Rattle.sercos_law_run.specs.Start.Held.{HoldsPlan, WritesStartUp}
pub use Rattle.sercos_law_run.specs.Start.Kept.{BlocksKeep, BuiltInIsSteady, NamesOwn, PassesForPhase4, RefuseAlike, RefusesCycle, TakesStartUp, WritesHold, WritesKeep}
pub use Rattle.sercos_law_run.specs.Start.Later.{ChecksAreProtected, HoldsNext, ListsStay, StartUpIsProtected, StayHeld, StoresStartUpWhole}
pub use Rattle.sercos_law_run.specs.Start.Own.{OwnAtOpening, OwnStay}
pub use Rattle.sercos_law_run.specs.Start.RingSlots.{RingKeepsApart, RingSendsApart}
pub use Rattle.sercos_law_run.specs.Start.StartUp.{AreAsLong, CarryAlike, PlanPassesCheck}
pub use Rattle.sercos_law_run.specs.Stations.Cycles.{AlwaysPlain}
pub use Rattle.sercos_law_run.specs.Stations.Falls.{FallsHaveCause, MstComesFirst}
pub use Rattle.sercos_law_run.specs.Stations.Fit.{AlwaysLies, EmptyKeepsTimes, FitInFour, FitInThree}
pub use Rattle.sercos_law_run.specs.Stations.Lists.{ListsAreFound}
pub use Rattle.sercos_law_run.specs.Stations.Phases.{DropsByCause, RisesByOne, StandsByMst}
pub use Rattle.sercos_law_run.specs.Stations.Senders.{SendsAlone}
pub use Rattle.sercos_law_run.specs.Tolerance.Bears.{BearsSparse, Tolerates}
pub use Rattle.sercos_law_run.specs.Tolerance.Early.{EarlySparse}
pub use Rattle.sercos_law_run.specs.Tolerance.Ends.{EndsSparse}
pub use Rattle.sercos_law_run.specs.Tolerance.Losses.{CostsShared, CostsSparse, TakesTimeAndLosses}
pub use Rattle.sercos_law_run.specs.Tolerance.Many.{EndsAnyway, RisesAnyway}
pub use Rattle.sercos_law_run.specs.Tolerance.Reports.{ReportsSparse}
pub use Rattle.sercos_law_run.specs.Tolerance.Returns.{ReturnsWhileSparse}
pub use Rattle.sercos_law_run.specs.Tolerance.Rises.{RisesSparse}
pub use Rattle.sercos_law_run.specs.Tolerance.Sparse.{CalmIsSparse, OneOfThreeIsSparse}
pub use Rattle.sercos_law_run.specs.Tolerance.TwoLasts.{TwoSparse}
pub use Rattle.sercos_law_run.specs.Totals.Counting.{AreFew, HasRoom, IsFew, none_made, with_cycle}
pub use Rattle.sercos_law_run.specs.Totals.Totals.{totals_of}
pub use Rattle.sercos_law_run.specs.Typed.Clear.{HarmlessIsClear}
pub use Rattle.sercos_law_run.specs.Typed.Keeps.{KeepsAlways, KeepsWithin}
pub use Rattle.sercos_law_run.specs.Typed.Spelled.{SpelledNext}
pub use Rattle.sercos_law_run.specs.Undisturbed.Ends.{ComesToAnEnd, ComesToPhaseFour, StaysAtItsEnd}
pub use Rattle.sercos_law_run.specs.Undisturbed.EpochStarts.{StartsAtFall, StartsAtOpening, StartsAtRestart}
pub use Rattle.sercos_law_run.specs.Undisturbed.Fit.{FitsInThree, OwnFitsInFour}
pub use Rattle.sercos_law_run.specs.Undisturbed.Reports.{ReportsInTime}
pub use Rattle.sercos_law_run.specs.Undisturbed.Sections.{NoneIdleInThree, NoneIdleInTwo}
pub use Rattle.sercos_law_run.specs.Undisturbed.StartUps.{AgesUndisturbed, AnswersUndisturbed, ComesToPhaseTwo, CostsUndisturbed, StaysUpUndisturbed, TellsNoFallUndisturbed}
pub use Rattle.sercos_law_run.specs.Undisturbed.StopsInTwo.{StopsInTwo}
pub use Rattle.sercos_law_run.specs.Undisturbed.StopsLater.{EndsStartUp, NoStopInFour, RisesIfRight, StopsInThree}
pub use Rattle.sercos_law_run.specs.Undisturbed.Undisturbed.{StaysClear}
pub use Rattle.sercos_law_run.specs.Undisturbed.WholeRuns.{QuietIsUndisturbed, StartsUndisturbed}
pub use Rattle.sercos_script.specs.Cuts.{UnflippedOnlyCuts}
pub use Rattle.sercos_script.specs.Links.{Carry, Restarts}
pub use Rattle.sercos_step.specs.declared.request.Job.{Job}
pub use Rattle.sercos_trace.specs.Views.{CycleView}
pub use Rattle.sercos_trace.specs.declared.record.Totals.{Totals}
