-- What a restart reports is little.
use Rattle.std.proofs.Common.{◌≡◌, inl, inr, ℕ, suc, zero, ◌+◌, ◌≤◌, nat_lt, Bool, true, false, cond, List, [], ◌∷◌, length, map, Option, Some, None, refl, arith}
use Rattle.sercos_step.specs.declared.request.Job.{Job}
use Rattle.sercos_step.specs.declared.request.Outcome.{Outcome}
use Rattle.sercos_block.specs.Views.{RingView, DriveView}
use Rattle.sercos_seat.specs.Channel.{Report}
use Rattle.sercos_seat.specs.Ring.{known_of, member_of}
use Rattle.sercos_master.specs.Annals.{Call, Restart}
use Rattle.sercos_master.specs.Reports.{HasRestarted, AreOpen, inserted, with_report, with_reports, broken}
use Rattle.sercos_script.specs.Links.{Carry, Restarts}
use Rattle.sercos_law_run.specs.Journal.Runs.{at_calls, with_at, mid_calls, own_mst, restart_events, looks_back}

length-inserted : (i : ℕ) (o : Outcome) (l : List (ℕ × Outcome)) → length (inserted i o l) ≡ length l + 1
length-inserted i o [] = refl
length-inserted i o (x ∷ l) = by (nat_lt i x.0) (length-inserted i o l)
  where
    by : (b : Bool) → length (inserted i o l) ≡ length l + 1 → length (cond b ((i, o) ∷ x ∷ l) (x ∷ inserted i o l)) ≡ length (x ∷ l) + 1
    by true e = omega arith
    by false e = omega (arith, e)

one_report : (r : Option Report) (l : List (ℕ × Outcome)) → length (with_report r l) ≤ length l + 1
one_report None l = omega arith
one_report (Some r) l = let more = length-inserted r.number r.outcome l in omega (arith, more)

few_reports : (report : ℕ → Option Report) (n : ℕ) (l : List (ℕ × Outcome)) → length (with_reports report n l) ≤ length l + n
few_reports report zero l = omega arith
few_reports report (suc n) l =
    let one = one_report (report n) (with_reports report n l) in
    let others = few_reports report n l in
    omega (arith, one, others)

length-members : (ds : List DriveView) → length (map member_of ds) ≡ length ds
length-members [] = refl
length-members (d ∷ ds) = let others = length-members ds in omega (arith, others)

ats_restarted : (r : RingView) (carry : Carry) (cycle : ℕ) (ats : List (List ℕ)) (h : List Call) → HasRestarted h → HasRestarted (at_calls r carry cycle ats h)
ats_restarted r carry cycle [] h is = is
ats_restarted r carry cycle (at ∷ ats) h is = ats_restarted r carry cycle ats _ (by _ is)
  where
    by : (o : Option (List ℕ)) → HasRestarted h → HasRestarted (with_at o h)
    by None is = is
    by (Some content) is = is

pub restart_fits : (r : RingView) (jobs : List Job) (carry : Carry) (restarts : Restarts) (cycle : ℕ) (mst : List ℕ) (ats : List (List ℕ)) (calls : List Call) → length r.drives ≤ 64
    → AreOpen ((restart_events r jobs restarts cycle calls).outcomes) (mid_calls r carry restarts cycle mst ats calls)
restart_fits r jobs carry restarts cycle mst ats calls few = by (restarts cycle 0) refl
  where
    by : (b : Bool) → restarts cycle 0 ≡ b → AreOpen ((restart_events r jobs restarts cycle calls).outcomes) (mid_calls r carry restarts cycle mst ats calls)
    by true is =
        let most = few_reports (broken (looks_back r jobs calls)) (length (known_of r).drives) [] in
        let same = length-members r.drives in
        inr (rw is (omega (arith, most, same, few)), rw is (ats_restarted r carry cycle ats (own_mst carry cycle mst (Restart ∷ calls)) tt))
    by false is = inl (rw is refl)
