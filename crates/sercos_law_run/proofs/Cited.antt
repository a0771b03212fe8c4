-- The theorems on the master alone and on frames whose proofs cite others, as the laws state them.
use Rattle.sercos_law_run.proofs.Words.{◌≡◌, ℕ, ◌<◌, ◌≤◌, Bool, List, length, None, refl, sym, drop, plain, reason_of, IsFrame-framed, reason_of-IsFrame, AreBytes, IsFrame, Job, alike, those_at, HandedThose, Known, tasks_for, still_left, Call, past, ReadsWell, TellsInOrder, TellsOnce, TellsRight, Check127HasCause, Check128HasCause, NoFitHasCause, RefusedHasCause, BeginsNoneEarly, BeginsTasks, EndsTasks, WorkInTurn, WorksInFour, WorksInThree, WorksInTwo, ConfiguresAtRise, ConfiguresFromCheck, frame_of}
use Rattle.sercos_hdlc.specs.Reason.{content_of}
use Rattle.sercos_law_run.proofs.Agenda.AtWork.{works_in_four, works_in_three, works_in_two}
use Rattle.sercos_law_run.proofs.Agenda.OneTurn.{all_in_turn, none_early}
use Rattle.sercos_law_run.proofs.Agenda.ReadWell.{are_read_well, ends_tasks}
use Rattle.sercos_law_run.proofs.Agenda.ReportedRuns.{tells_in_order}
use Rattle.sercos_law_run.proofs.Agenda.RightRuns.{reports_right}
use Rattle.sercos_law_run.proofs.Agenda.StopCauses.{check127_cause, check128_cause, no_fit_cause, refused_cause}
use Rattle.sercos_law_run.proofs.Agenda.TaskRuns.{begun_tasks}
use Rattle.sercos_law_run.proofs.Agenda.ToldOnce.{tells_once}
use Rattle.sercos_law_run.proofs.Agenda.WritesDone.{configures_at_rise, configures_from_check}

pub begins_tasks : BeginsTasks
begins_tasks s requests h k there = begun_tasks s k there requests h

pub tasks_end : EndsTasks
tasks_end = ends_tasks

pub begins_none : BeginsNoneEarly
begins_none s requests h k wait there low = none_early s requests wait h k there low

pub work_in_turn : WorkInTurn
work_in_turn s requests h k wait there = all_in_turn s requests wait h k there

pub work_in_two : WorksInTwo
work_in_two s requests h wait lists two free planned fails = works_in_two s requests h wait lists two free planned fails

pub work_in_three : WorksInThree
work_in_three s requests h k wait lists there three free planned fails =
    works_in_three s requests h wait lists k there three free planned fails

pub work_in_four : WorksInFour
work_in_four s requests h k wait have there four free planned idle = works_in_four s requests h wait have k there four free planned idle

pub reads_well : ReadsWell
reads_well s requests h = are_read_well s requests h

pub configures_check : ConfiguresFromCheck
configures_check = configures_from_check

pub configures_rise : ConfiguresAtRise
configures_rise = configures_at_rise

pub told_in_order : TellsInOrder
told_in_order = tells_in_order

pub told_once : TellsOnce
told_once = tells_once

pub told_right : TellsRight
told_right s requests h k r there = reports_right s k there requests h r

pub no_fit_has_cause : NoFitHasCause
no_fit_has_cause s requests h chain = no_fit_cause s requests h chain

pub refused_has_cause : RefusedHasCause
refused_has_cause s requests h address i code = refused_cause s requests h address i code

pub check127_has_cause : Check127HasCause
check127_has_cause s requests h address list have = check127_cause s requests h have address list

pub check128_has_cause : Check128HasCause
check128_has_cause s requests h address list have = check128_cause s requests h have address list

pub left_of : (s : Known) (jobs : List Job) (h : List Call) (k : ℕ) → (n : ℕ) × ((past s (tasks_for s jobs) h).waiting k ≡ drop n (tasks_for s jobs k))
left_of s jobs h k = still_left s (tasks_for s jobs) h k

pub handed_those : HandedThose
handed_those = those_at alike

pub is_framed : (content : List ℕ) → AreBytes content → 0 < length content → length content ≤ 2048 → IsFrame content (frame_of content)
unfolding frame_of
is_framed content bytes some fits = IsFrame-framed content _ bytes some fits refl

pub frame_reads : (content : List ℕ) (bits : List Bool) → IsFrame content bits → reason_of bits ≡ None
frame_reads content bits is = (reason_of-IsFrame content bits is).0

pub frame_only : (content : List ℕ) (bits : List Bool) → IsFrame content bits → content ≡ content_of (plain bits)
frame_only content bits is = sym (reason_of-IsFrame content bits is).1
