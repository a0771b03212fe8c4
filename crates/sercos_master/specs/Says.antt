-- What the master sends.
use Rattle.std.specs.Prelude.{ℕ, zero, suc, ◌+◌, ◌==◌, nat_le, false, if◌then◌else◌, List, [], ◌∷◌, ◌++◌, length, Option, None, option_map}
use Rattle.sercos_telegram.specs.Spells.{all_drives, mst_content}
use Rattle.sercos_service_master.specs.Begun.{Said, no_step, master_says}
use Rattle.sercos_service_master.specs.Calls.{begun_by}
use Rattle.sercos_timing.specs.Limits.{early_mdt}
use Rattle.sercos_timing.specs.Views.{PlanView}
use Rattle.sercos_master.specs.Annals.{Past, outcomes}
use Rattle.sercos_seat.specs.Agenda.{mdt_attributes}
use Rattle.sercos_seat.specs.Records.{record_said, values_said}
use Rattle.sercos_seat.specs.Ring.{Known, member}

-- the MST of the phase that is commanded
abbrev pub mst_said : Past → List ℕ
mst_said p = mst_content p.now.phase

-- the data record of the drive at index k: the open step of its channel, or an idle one, and its
-- command values
abbrev pub said_to : Past → ℕ → Said
said_to p k = master_says (begun_by (p.calls k))

abbrev pub record_to : Known → Past → ℕ → List ℕ
record_to s p k = record_said (said_to p k) (values_said p.cycle (mdt_attributes (member s k) (outcomes p k)))

abbrev pub records_from : Known → Past → ℕ → ℕ → List ℕ
records_from s p k zero = []
records_from s p k (suc n) = record_to s p k ++ records_from s p (k + 1) n

-- an MDT: its content, and its start in microseconds after the MST's end
pub record Sent : Type 0 where
  pub start : ℕ
  pub content : List ℕ

abbrev pub idle : Said
idle = record { mhs = false; step = no_step }

abbrev pub single : Known → Said → ℕ → Sent
single s said k = record { start = early_mdt; content = (member s k).address ∷ record_said said [] }

abbrev pub joint : Known → Past → PlanView → Sent
joint s p plan = record { start = plan.t2; content = all_drives ∷ records_from s p 0 (length s.drives) }

-- What is sent, by the past after `after_mdt`: in phase 1 an MDT of zeros to the drive to be
-- identified, in phase 2 one to the drive whose step is open, and in phases 3 and 4 one to all.
abbrev pub mdt_said : Known → Past → Option Sent
mdt_said s p =
    if p.now.phase == 1 then option_map (single s idle) p.now.addressed
    else (if p.now.phase == 2 then option_map (λ k. single s (said_to p k) k) p.now.addressed
    else (if nat_le 3 p.now.phase then option_map (joint s p) p.plan else None))

-- the MDT with a start, if there is one, and a content
abbrev pub sent_as : Option ℕ → List ℕ → Option Sent
sent_as start content = option_map (λ at. record { start = at; content = content }) start
