-- The run of a ring as one drive and its channel see it. Journals and lists of calls have their newest item first. Drives are named
-- by their places in the ring, channels by those of their drives.
use Rattle.std.specs.Prelude.{ℕ, ◌+◌, nat_le, not, ◌&&◌, ◌||◌, Bool, if◌then◌else◌, List, [], ◌∷◌, length, Option, Some, None, is_some}
use Rattle.sercos_telegram.specs.declared.layout.Kind.TheVariants as kinds
use Rattle.sercos_step.specs.declared.request.Job.{Job}
use Rattle.sercos_step.specs.declared.request.Request.{Request}
use Rattle.sercos_block.specs.Views.{RingView}
use Rattle.sercos_service_master.specs.Begun.{Said, master_says}
use Rattle.sercos_service_master.specs.Calls.{Hear, begun_by}
use Rattle.sercos_service_master.specs.Calls as channel
use Rattle.sercos_drive.specs.Heard.{mst_got, mdt_got}
use Rattle.sercos_drive.specs.Moments.{Moment, phase_in, blocks_in, commands_in}
use Rattle.sercos_drive.specs.Annals.{annals, may_rise}
use Rattle.sercos_trace.specs.Views.{SentView, CycleView}
use Rattle.sercos_seat.specs.Channel.{is_place}
use Rattle.sercos_seat.specs.Ring.{Task, known_of}
use Rattle.sercos_master.specs.Annals.{Past, begins, settled, fall_of, is_done}
use Rattle.sercos_script.specs.Links.{Carry, Restarts}
use Rattle.sercos_law_channel.specs.Handshake.Views.{Heard, View}
use Rattle.sercos_law_run.specs.Journal.Arrivals.{heard, passage}
use Rattle.sercos_law_run.specs.Journal.Records.{mst_in, ats_in, mdt_in}
use Rattle.sercos_law_run.specs.Journal.Runs.{drive_at, with_restart, mdt_heard, at_calls, own_mst, begins as begin_of, middle, given_before, given_mst, looks_back}

-- what the master looks back on within a cycle: before its MST, after it, after the ATs, and when the MDT is sent
abbrev pub at_start : RingView → List Job → Carry → Restarts → List CycleView → Past
at_start r jobs carry restarts j = looks_back r jobs (begin_of r carry restarts j)

abbrev pub behind_mst : RingView → List Job → Carry → Restarts → List SentView → List CycleView → Past
behind_mst r jobs carry restarts sent j = looks_back r jobs (own_mst carry (length j) (mst_in sent) (begin_of r carry restarts j))

abbrev pub behind_ats : RingView → List Job → Carry → Restarts → List SentView → List CycleView → Past
behind_ats r jobs carry restarts sent j =
    looks_back r jobs (at_calls r carry (length j) (ats_in sent) (own_mst carry (length j) (mst_in sent) (begin_of r carry restarts j)))

abbrev pub behind_mdt : RingView → List Job → Carry → Restarts → List SentView → List CycleView → Past
behind_mdt r jobs carry restarts sent j = looks_back r jobs (middle r carry restarts sent j)

-- what a channel received, if that was its last call
abbrev pub heard_last : List channel.Call → Option Heard
heard_last (Hear status word ∷ calls) = Some (record { status = status; word = word })
heard_last _ = None

-- the MDT's record for the drive at a place: in phases 1 and 2 if it is addressed to this drive, in phases 3 and 4 always
abbrev pub is_told : Past → ℕ → Bool
is_told p k = (nat_le 3 p.now.phase && is_some p.plan) || is_place k p.now.addressed

abbrev pub told_to : Past → ℕ → Option Said
told_to p k = if is_told p k then Some (master_says (begun_by (p.calls k))) else None

-- the moments of a drive before the MST's place of a cycle, and after it
abbrev pub before_mst : RingView → Carry → Restarts → List CycleView → ℕ → List Moment
before_mst r carry restarts j k = annals (drive_at r k) r.rate
    (with_restart (restarts (length j) (k + 1)) (given_before carry restarts j k))

abbrev pub after_mst : RingView → Carry → Restarts → List SentView → List CycleView → ℕ → List Moment
after_mst r carry restarts sent j k = annals (drive_at r k) r.rate (given_mst carry restarts sent j k)

-- what the drive gets of the MST, and of the MDT
abbrev pub phase_got : Carry → List SentView → List CycleView → ℕ → Option ℕ
phase_got carry sent j k = mst_got (heard carry (passage (length j) kinds.Mst 0 (k + 1)) (mst_in sent))

abbrev pub gets_record : RingView → Carry → Restarts → List SentView → List CycleView → ℕ → Bool
gets_record r carry restarts sent j k =
    is_some (mdt_got (drive_at r k).address (phase_in (after_mst r carry restarts sent j k))
    (blocks_in (drive_at r k) (after_mst r carry restarts sent j k))
    (mdt_heard carry (length j) (k + 1) (mdt_in sent)))

abbrev pub request_of : Option Task → Option Request
request_of None = None
request_of (Some t) = Some t.request

-- A cycle, after these.
abbrev pub view_of : RingView → List Job → Carry → Restarts → ℕ → CycleView → List CycleView → View
view_of r jobs carry restarts k t j = record {
  phase = t.phase;
  master_restarts = restarts (length j) 0;
  drive_restarts = restarts (length j) (k + 1);
  mst_comes = is_some (phase_got carry t.sent j k);
  whole = (behind_mst r jobs carry restarts t.sent j).now.whole;
  checked = may_rise (drive_at r k) r.rate (length j) t.phase (before_mst r carry restarts j k);
  showing = commands_in (drive_at r k) r.rate (after_mst r carry restarts t.sent j k);
  heard = heard_last ((behind_ats r jobs carry restarts t.sent j).calls k);
  begins = request_of (begins (known_of r) (settled (known_of r) (behind_ats r jobs carry restarts t.sent j)) k);
  sent = told_to (behind_mdt r jobs carry restarts t.sent j) k;
  mdt_comes = gets_record r carry restarts t.sent j k;
  blocks = blocks_in (drive_at r k) (after_mst r carry restarts t.sent j k);
  commands = commands_in (drive_at r k) r.rate (after_mst r carry restarts t.sent j k);
  falls = is_some (fall_of (known_of r) (behind_mdt r jobs carry restarts t.sent j));
  rises = not (is_some (fall_of (known_of r) (behind_mdt r jobs carry restarts t.sent j))) &&
      is_done (known_of r) (behind_mdt r jobs carry restarts t.sent j);
}

-- all cycles of a journal
abbrev pub views_of : RingView → List Job → Carry → Restarts → ℕ → List CycleView → List View
views_of r jobs carry restarts k [] = []
views_of r jobs carry restarts k (t ∷ j) = view_of r jobs carry restarts k t j ∷ views_of r jobs carry restarts k j
