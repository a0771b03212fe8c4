-- One cycle more.
use Rattle.std.proofs.Common.{◌≡◌, ℕ, suc, zero, ◌+◌, ◌≤◌, Bool, true, false, List, [], ◌∷◌, length, Option, refl, sym, ◌∙◌, ap, subst, arith, length-append}
use Rattle.sercos_step.specs.declared.request.Job.{Job}
use Rattle.sercos_block.specs.Views.{DriveView, RingView}
use Rattle.sercos_trace.specs.Views.{CycleView}
use Rattle.sercos_drive.specs.Heard.{DriveCall}
use Rattle.sercos_drive.specs.Annals.{cycle_at}
use Rattle.sercos_drive.specs.Says.{Said}
use Rattle.sercos_drive.specs.Kept.{DriveState}
use Rattle.sercos_master.specs.declared.master.AnyMaster.{AnyMaster}
use Rattle.sercos_master.specs.Any.{AnyStandsFor}
use Rattle.sercos_seat.specs.Ring.{known_of}
use Rattle.sercos_master.specs.Annals.{Call, End}
use Rattle.sercos_master.specs.Says.{Sent}
use Rattle.sercos_law_run.proofs.Theorems.{ats_in-said, mdt_in-said, AreParts, parts_next}
use Rattle.sercos_script.specs.Links.{Carry, Restarts}
use Rattle.sercos_law_run.specs.Journal.Records.{mst_in, ats_in, mdt_in}
use Rattle.sercos_law_run.specs.Journal.Runs.{drive_at, with_restart, drive_calls, master_calls, given_before, mid_calls, at_mst, at_mdt, contents, content_of, IsNext}
use Rattle.sercos_ring.specs.Stations.{AllStand, AreBefore, list_below}
use Rattle.sercos_ring.specs.Parts.{PartsStandFor}

-- with what the drives and the master then stand for
abbrev pub IsTurned : RingView → List Job → Carry → Restarts → List CycleView → CycleView → List DriveState → AnyMaster
    → List ℕ → List Said → Option Sent → ℕ → Type 0
IsTurned r jobs carry restarts j t drives master mst ats mdt cycle =
    AreParts r jobs carry restarts j t mst ats mdt cycle
    × AllStand drives (drive_at r) r.rate (at_mdt carry cycle (content_of mdt) (at_mst carry restarts cycle mst (given_before carry restarts j)))
    × AnyStandsFor master (known_of r) jobs (End ∷ mid_calls r carry restarts cycle mst (contents ats) (master_calls r carry restarts j))

abbrev Follows : RingView → List Job → Carry → Restarts → List CycleView → CycleView → List DriveState → AnyMaster → Type 0
Follows r jobs carry restarts j t drives master =
    IsNext r jobs carry restarts t j
    × AllStand drives (drive_at r) r.rate (given_before carry restarts (t ∷ j))
    × AnyStandsFor master (known_of r) jobs (master_calls r carry restarts (t ∷ j))

follows : (r : RingView) (jobs : List Job) (carry : Carry) (restarts : Restarts) (j : List CycleView) (t : CycleView)
    (drives : List DriveState) (master : AnyMaster) (mst : List ℕ) (ats : List Said) (mdt : Option Sent)
    → IsTurned r jobs carry restarts j t drives master mst ats mdt (length j) → Follows r jobs carry restarts j t drives master
follows r jobs carry restarts j t drives master mst ats mdt ((cycle, phase, mst_is, ats_are, mdt_is, sent, moves, events, unseen), all, stand) =
    let m : mst_in t.sent ≡ mst = ap mst_in sent in
    let a : ats_in t.sent ≡ contents ats = ap ats_in sent ∙ ats_in-said r.rate ats mdt in
    let d : mdt_in t.sent ≡ content_of mdt = ap mdt_in sent ∙ mdt_in-said r.rate ats mdt in
    let heard : List ℕ → List (List ℕ) → List Call = λ x l. End ∷ mid_calls r carry restarts (length j) x l (master_calls r carry restarts j) in (
      parts_next r jobs carry restarts j t mst ats mdt (cycle, phase, mst_is, ats_are, mdt_is, sent, moves, events, unseen),
      rw (m, d) all,
      subst (λ (x : List ℕ). AnyStandsFor master (known_of r) jobs (heard x (ats_in t.sent))) (sym m)
          (subst (λ (l : List (List ℕ)). AnyStandsFor master (known_of r) jobs (heard mst l)) (sym a) stand),
    )

pub turned : (carries carries' : Carry) (restarting restarting' : Restarts) (cycle rate : ℕ) (addresses : List ℕ)
    (before drives : List DriveState) (m master : AnyMaster) (r : RingView) (jobs : List Job) (carry : Carry) (restarts : Restarts) (j : List CycleView) (t : CycleView)
    (mst : List ℕ) (ats : List Said) (mdt : Option Sent)
    → PartsStandFor carries restarting cycle rate addresses before m r jobs carry restarts j → carries' ≡ carries → restarting' ≡ restarting → length drives ≡ length before
    → IsTurned r jobs carry restarts j t drives master mst ats mdt cycle
    → PartsStandFor carries' restarting' (cycle + 1) rate addresses drives master r jobs carry restarts (t ∷ j)
turned carries carries' restarting restarting' cycle rate addresses before drives m master r jobs carry restarts j t mst ats mdt s same_carry same_restarts count is =
    let f : Follows r jobs carry restarts j t drives master = follows r jobs carry restarts j t drives master mst ats mdt
    (subst (λ (n : ℕ). IsTurned r jobs carry restarts j t drives master mst ats mdt n) s.cycle_is is) in
    record {
      carry_is = same_carry ∙ s.carry_is;
      restarts_is = same_restarts ∙ s.restarts_is;
      cycle_is = let now = s.cycle_is in omega (arith, now);
      rate_is = s.rate_is;
      addresses_are = s.addresses_are;
      count_is = count ∙ s.count_is;
      drives_stand = f.1;
      master_stands = f.2;
      valid = s.valid;
      run = (s.run, f.0);
    }

-- the calls of a journal came before its end
cycle-with_restart : (d : DriveView) (rate : ℕ) (b : Bool) (h : List DriveCall) → cycle_at d rate (with_restart b h) ≡ cycle_at d rate h
cycle-with_restart d rate true h = refl
cycle-with_restart d rate false h = refl

cycle-given : (d : DriveView) (rate : ℕ) (carry : Carry) (restarts : Restarts) (j : List CycleView) (station : ℕ) → cycle_at d rate (drive_calls carry restarts station j) ≤ length j
cycle-given d rate carry restarts [] station = omega arith
cycle-given d rate carry restarts (t ∷ j) station = omega arith

pub before_cycle : (n : ℕ) (d : ℕ → DriveView) (rate : ℕ) (carry : Carry) (restarts restarting : Restarts) (j : List CycleView) (cycle : ℕ) → cycle ≡ length j
    → AreBefore n cycle d rate (λ k. with_restart (restarting cycle (k + 1)) (given_before carry restarts j k))
before_cycle n d rate carry restarts restarting j cycle now k below =
    let most = cycle-given (d k) rate carry restarts j (k + 1) in
    rw (cycle-with_restart (d k) rate (restarting cycle (k + 1)) (given_before carry restarts j k), now) most

-- there are as many addresses as drives
pub length-list_below : {A : Type 0} (n : ℕ) (f : ℕ → A) → length (list_below n f) ≡ n
length-list_below zero f = refl
length-list_below (suc n) f = let all = length-list_below n f in rw (length-append (list_below n f) (f n ∷ []), all) (omega arith)
