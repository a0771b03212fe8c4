use Rattle.std.proofs.Common.{◌≡◌, ℕ, ◌+◌, ◌≤◌, Bool, true, false, List, [], ◌∷◌, Option, length, refl, ◌∙◌, ap, sym, subst, if◌then◌else◌}
use Rattle.std.specs.Prelude.{take}
use Rattle.std.proofs.lemmas.Bool.{leb-true}
use Rattle.sercos_telegram.specs.declared.layout.Kind.TheVariants as kinds
use Rattle.sercos_drive.specs.Heard.{DriveCall, Mst, Mdt}
use Rattle.sercos_drive.specs.Says.{Said}
use Rattle.sercos_drive.specs.Kept.{DriveState}
use Rattle.sercos_trace.specs.Views.{CycleView, EventsView}
use Rattle.sercos_seat.specs.Ring.{known_of}
use Rattle.sercos_master.specs.Any.{AnyStandsFor}
use Rattle.sercos_master.specs.Annals.{Call}
use Rattle.sercos_master.specs.Annals as master
use Rattle.sercos_master.specs.Says.{Sent, sent_as, mst_said, mdt_said}
use Rattle.sercos_master.specs.Reports.{AreOpen, events_told, restart_told}
use Rattle.sercos_law_run.specs.Journal.Arrivals.{heard, passage, sum_below, unseen_at}
use Rattle.sercos_script.specs.Links.{Carry, Restarts}
use Rattle.sercos_law_run.specs.Journal.Runs.{drive_at, master_calls, given_before, begin_calls, own_mst, mid_calls, at_calls, at_mst, at_mdt, mdt_heard, with_restart, said_below, contents, content_of, moves_below, unseen_ats, unseen_mst, unseen_mdt, looks_back, restart_events}
use Rattle.sercos_ring.specs.Stations.{AllStand, phases_below, addresses_below, turns_below}
use Rattle.sercos_ring.specs.Sendings.{said_by, AreSent}
use Rattle.sercos_law_run.proofs.Theorems.{few_drives}
use Rattle.sercos_ring.proofs.TurnsSaid.{turns_said}
use Rattle.sercos_ring.proofs.RunLemmas.{turned, before_cycle}
use Rattle.sercos_ring.proofs.EventLemmas.{restart_fits}
use Rattle.sercos_ring.proofs.ListLemmas.{grown, all_sent, four}
use Rattle.sercos_ring.proofs.ring.run_cycle.Goals as goal

pub returns-clause-after : goal.returns-clause-after
returns-clause-after g c = λ r jobs carry restarts j s.
    let calls : List Call = master_calls r carry restarts j in
    let given : ℕ → List DriveCall = given_before carry restarts j in
    let begun : List Call = begin_calls restarts c.args.cycle calls in
    let mst : List ℕ = c.mst.new.out in
    let h : ℕ → List DriveCall = at_mst carry restarts c.args.cycle mst given in
    let ats : List Said = said_below (length r.drives) (drive_at r) r.rate h in
    let mid : List Call = mid_calls r carry restarts c.args.cycle mst (contents ats) calls in
    let mdt : Option Sent = sent_as c.mdt-start.result c.mdt-start.new.out in
    let m : ℕ → List DriveCall = at_mdt carry c.args.cycle (content_of mdt) h in
    -- the link stays the same
    let k1 : g.L.BitLink.carry c.restarts-restarts.new.self ≡ carry = c.restarts-restarts.ensures.carry ∙ s.carry_is in
    let e1 : g.L.BitLink.restart c.restarts-restarts.new.self ≡ restarts = c.restarts-restarts.ensures.restart ∙ s.restarts_is in
    let k2 : g.L.BitLink.carry c.restart_drives.new.link ≡ carry = c.restart_drives.ensures.carry ∙ k1 in
    let e2 : g.L.BitLink.restart c.restart_drives.new.link ≡ restarts = c.restart_drives.ensures.restart ∙ e1 in
    let kf : g.L.BitLink.carry c.frame_said.new.link ≡ carry = c.frame_said.ensures.carry ∙ k2 in
    let ef : g.L.BitLink.restart c.frame_said.new.link ≡ restarts = c.frame_said.ensures.restart ∙ e2 in
    let k3 : g.L.BitLink.carry c.hear_msts-mst.new.link ≡ carry = c.hear_msts-mst.ensures.carry ∙ kf in
    let e3 : g.L.BitLink.restart c.hear_msts-mst.new.link ≡ restarts = c.hear_msts-mst.ensures.restart ∙ ef in
    let k4 : g.L.BitLink.carry c.pass_own-own.new.link ≡ carry = c.pass_own-own.ensures.carry ∙ k3 in
    let e4 : g.L.BitLink.restart c.pass_own-own.new.link ≡ restarts = c.pass_own-own.ensures.restart ∙ e3 in
    let k5 : g.L.BitLink.carry c.send_ats-ats.new.link ≡ carry = c.send_ats-ats.ensures.carry ∙ k4 in
    let e5 : g.L.BitLink.restart c.send_ats-ats.new.link ≡ restarts = c.send_ats-ats.ensures.restart ∙ e4 in
    let k6 : g.L.BitLink.carry c.send_mdt-mdt.new.link ≡ carry = c.send_mdt-mdt.ensures.carry ∙ k5 in
    let e6 : g.L.BitLink.restart c.send_mdt-mdt.new.link ≡ restarts = c.send_mdt-mdt.ensures.restart ∙ e5 in
    -- as many drives as ever
    let n2 : length c.restart_drives.new.drives.items ≡ length r.drives = c.restart_drives.ensures.count ∙ s.count_is in
    let n3 : length c.hear_msts-mst.new.drives.items ≡ length r.drives = c.hear_msts-mst.ensures.count ∙ n2 in
    let n6 : length c.send_mdt-mdt.new.drives.items ≡ length r.drives = c.send_mdt-mdt.ensures.count ∙ n3 in
    let few : length r.drives ≤ 64 = leb-true (length r.drives) 64 (few_drives r s.valid) in
    -- restarts
    let restarted : c.restarts-restarts.result ≡ restarts c.args.cycle 0 =
    c.restarts-restarts.ensures.restarts ∙ ap (λ (f : ℕ → ℕ → Bool). f c.args.cycle 0) s.restarts_is in
    let m1 : AnyStandsFor c.restart_master-master.result (known_of r) jobs begun =
    subst (λ (b : Bool). AnyStandsFor c.restart_master-master.result (known_of r) jobs (if b then master.Restart ∷ calls else calls)) restarted
    (c.restart_master-master.ensures.goes (known_of r) jobs calls s.master_stands) in
    let told : c.restart_master-master.new.events ≡ restart_events r jobs restarts c.args.cycle calls =
    c.restart_master-master.ensures.told (known_of r) jobs calls s.master_stands (ap (λ (e : EventsView). e.outcomes) c.requires.events)
    ∙ ap (λ (b : Bool). if b then restart_told (known_of r) (looks_back r jobs calls) c.args.events.now else c.args.events.now) restarted
    ∙ ap (λ (e : EventsView). if restarts c.args.cycle 0 then restart_told (known_of r) (looks_back r jobs calls) e else e) c.requires.events in
    -- the MST
    let mst_is : mst ≡ mst_said (looks_back r jobs begun) = c.mst.ensures.said (known_of r) jobs begun m1 in
    let raw1 = c.hear_msts-mst.ensures.stand (drive_at r) r.rate (λ k. with_restart (g.L.BitLink.restart c.restarts-restarts.new.self c.args.cycle (k + 1)) (given k))
    (c.restart_drives.ensures.stand (drive_at r) r.rate given s.drives_stand)
    (before_cycle _ (drive_at r) r.rate carry restarts (g.L.BitLink.restart c.restarts-restarts.new.self) j c.args.cycle s.cycle_is) in
    let raw2 : AllStand c.hear_msts-mst.new.drives.items (drive_at r) r.rate (λ k. Mst c.args.cycle (heard carry (passage c.args.cycle kinds.Mst 0 (k + 1)) mst) ∷ with_restart (g.L.BitLink.restart c.restarts-restarts.new.self c.args.cycle (k + 1)) (given k)) =
    subst (λ (f : Carry). AllStand c.hear_msts-mst.new.drives.items (drive_at r) r.rate (λ k. Mst c.args.cycle (heard f (passage c.args.cycle kinds.Mst 0 (k + 1)) mst) ∷ with_restart (g.L.BitLink.restart c.restarts-restarts.new.self c.args.cycle (k + 1)) (given k))) kf raw1 in
    let all2 : AllStand c.hear_msts-mst.new.drives.items (drive_at r) r.rate h =
    subst (λ (f : Restarts). AllStand c.hear_msts-mst.new.drives.items (drive_at r) r.rate (λ k. Mst c.args.cycle (heard carry (passage c.args.cycle kinds.Mst 0 (k + 1)) mst) ∷ with_restart (f c.args.cycle (k + 1)) (given k))) e1 raw2 in
    let m2 : AnyStandsFor c.pass_own-own.new.master (known_of r) jobs (own_mst carry c.args.cycle mst begun) =
    subst (λ (f : Carry). AnyStandsFor c.pass_own-own.new.master (known_of r) jobs (own_mst f c.args.cycle mst begun)) k3
    (c.pass_own-own.ensures.heard (known_of r) jobs begun m1) in
    -- the ATs
    let on5 : AllStand c.as_slice-5.result.now (drive_at r) r.rate h = subst (λ (xs : List DriveState). AllStand xs (drive_at r) r.rate h) (sym c.as_slice-5.ensures.value) all2 in
    let on4 : AllStand c.as_slice-4.result.now (drive_at r) r.rate h = subst (λ (xs : List DriveState). AllStand xs (drive_at r) r.rate h) (sym c.as_slice-4.ensures.value) all2 in
    let n4 : length c.as_slice-4.result.now ≡ length r.drives = ap (λ (xs : List DriveState). length xs) c.as_slice-4.ensures.value ∙ n3 in
    let n5 : length c.as_slice-5.result.now ≡ length r.drives = ap (λ (xs : List DriveState). length xs) c.as_slice-5.ensures.value ∙ n3 in
    let turns_are = turns_said (length c.as_slice-5.result.now) h r c.as_slice-6.result.now s.valid n5
    (c.as_slice-6.ensures.value ∙ c.turns_of-turns.ensures (drive_at r) r.rate h on4 ∙ ap (λ (n : ℕ). turns_below n (drive_at r) r.rate h) (n4 ∙ sym n5)) in
    let sent1 : AreSent r carry c.args.cycle c.args.rate (said_by (drive_at r) r.rate h c.as_slice-6.result.now) (take c.push_mst.new.count c.push_mst.new.list.items) (take c.send_ats-ats.new.count c.send_ats-ats.new.list.items) c.pass_own-own.new.master c.send_ats-ats.new.master c.send_ats-ats.result =
    subst (λ (f : Carry). AreSent r f c.args.cycle c.args.rate (said_by (drive_at r) r.rate h c.as_slice-6.result.now) (take c.push_mst.new.count c.push_mst.new.list.items) (take c.send_ats-ats.new.count c.send_ats-ats.new.list.items) c.pass_own-own.new.master c.send_ats-ats.new.master c.send_ats-ats.result) k4
    (c.send_ats-ats.ensures.sent (drive_at r) r.rate h r on5 turns_are.0) in
    let sent2 : AreSent r carry c.args.cycle c.args.rate ats (take c.push_mst.new.count c.push_mst.new.list.items) (take c.send_ats-ats.new.count c.send_ats-ats.new.list.items) c.pass_own-own.new.master c.send_ats-ats.new.master c.send_ats-ats.result =
    subst (λ (l : List Said). AreSent r carry c.args.cycle c.args.rate l (take c.push_mst.new.count c.push_mst.new.list.items) (take c.send_ats-ats.new.count c.send_ats-ats.new.list.items) c.pass_own-own.new.master c.send_ats-ats.new.master c.send_ats-ats.result) turns_are.1 sent1 in
    let m3 : AnyStandsFor c.send_ats-ats.new.master (known_of r) jobs (at_calls r carry c.args.cycle (contents ats) (own_mst carry c.args.cycle mst begun)) =
    sent2.heard (known_of r) jobs (own_mst carry c.args.cycle mst begun) m2 in
    -- the MDT
    let m4 : AnyStandsFor c.mdt-start.new.self (known_of r) jobs mid = c.mdt-start.ensures.stands (known_of r) jobs (at_calls r carry c.args.cycle (contents ats) (own_mst carry c.args.cycle mst begun)) m3 in
    let mdt_is : mdt ≡ mdt_said (known_of r) (looks_back r jobs mid) = c.mdt-start.ensures.said (known_of r) jobs (at_calls r carry c.args.cycle (contents ats) (own_mst carry c.args.cycle mst begun)) m3 in
    let all3 : AllStand c.send_mdt-mdt.new.drives.items (drive_at r) r.rate m =
    subst (λ (f : Carry). AllStand c.send_mdt-mdt.new.drives.items (drive_at r) r.rate (λ k. Mdt (mdt_heard f c.args.cycle (k + 1) (content_of mdt)) ∷ h k)) k5
    (c.send_mdt-mdt.ensures.stand (drive_at r) r.rate h all2) in
    -- the moves
    let on0 : AllStand c.as_slice.result.now (drive_at r) r.rate given = subst (λ (xs : List DriveState). AllStand xs (drive_at r) r.rate given) (sym c.as_slice.ensures.value) s.drives_stand in
    let n0 : length c.as_slice.result.now ≡ length r.drives = ap (λ (xs : List DriveState). length xs) c.as_slice.ensures.value ∙ s.count_is in
    let on3 : AllStand c.as_slice-3.result.now (drive_at r) r.rate h = subst (λ (xs : List DriveState). AllStand xs (drive_at r) r.rate h) (sym c.as_slice-3.ensures.value) all2 in
    let l3 : length c.as_slice-3.result.now ≡ length r.drives = ap (λ (xs : List DriveState). length xs) c.as_slice-3.ensures.value ∙ n3 in
    let moves1 = grown c.push_moves.new.moves.items c.args.moves.now.items [] (λ n. moves_below false n (drive_at r) r.rate given h) (length c.as_slice-3.result.now) (length r.drives)
    (c.push_moves.ensures.moves (drive_at r) r.rate given h on3
    (c.as_slice-2.ensures.value ∙ c.phases_of-before.ensures.phases (drive_at r) r.rate given on0 ∙ ap (λ (n : ℕ). phases_below n (drive_at r) r.rate given) (n0 ∙ sym l3))
    (s.addresses_are ∙ ap (λ (n : ℕ). addresses_below n (drive_at r)) (sym l3)))
    c.requires.moves l3 in
    let on7 : AllStand c.as_slice-7.result.now (drive_at r) r.rate h = subst (λ (xs : List DriveState). AllStand xs (drive_at r) r.rate h) (sym c.as_slice-7.ensures.value) all2 in
    let n7 : length c.as_slice-7.result.now ≡ length r.drives = ap (λ (xs : List DriveState). length xs) c.as_slice-7.ensures.value ∙ n3 in
    let on9 : AllStand c.as_slice-9.result.now (drive_at r) r.rate m = subst (λ (xs : List DriveState). AllStand xs (drive_at r) r.rate m) (sym c.as_slice-9.ensures.value) all3 in
    let n9 : length c.as_slice-9.result.now ≡ length r.drives = ap (λ (xs : List DriveState). length xs) c.as_slice-9.ensures.value ∙ n6 in
    let moves2 = grown c.push_moves-2.new.moves.items c.push_moves.new.moves.items (moves_below false (length r.drives) (drive_at r) r.rate given h) (λ n. moves_below true n (drive_at r) r.rate h m) (length c.as_slice-9.result.now) (length r.drives)
    (c.push_moves-2.ensures.moves (drive_at r) r.rate h m on9
    (c.as_slice-8.ensures.value ∙ c.phases_of-middle.ensures.phases (drive_at r) r.rate h on7 ∙ ap (λ (n : ℕ). phases_below n (drive_at r) r.rate h) (n7 ∙ sym n9))
    (s.addresses_are ∙ ap (λ (n : ℕ). addresses_below n (drive_at r)) (sym n9)))
    moves1 n9 in
    -- the end of the cycle
    let fits = subst (λ (e : EventsView). AreOpen e.outcomes mid) (sym told) (restart_fits r jobs carry restarts c.args.cycle mst (contents ats) calls few) in
    let events_are = c.end_cycle-master.ensures.told (known_of r) jobs mid m4 fits
    ∙ ap (λ (e : EventsView). events_told (known_of r) (looks_back r jobs mid) e) told in
    let unseen_is = four c.hear_msts-mst.result c.pass_own-own.result c.send_ats-ats.result c.send_mdt-mdt.result
    (sum_below (length r.drives) (unseen_mst carry c.args.cycle mst)) (unseen_at carry (passage c.args.cycle kinds.Mst 0 0) mst) (unseen_ats r carry c.args.cycle (contents ats))
    (sum_below (length r.drives) (unseen_mdt carry c.args.cycle (content_of mdt)))
    (c.hear_msts-mst.ensures.unseen ∙ ap (λ (n : ℕ). sum_below n (unseen_mst (g.L.BitLink.carry c.frame_said.new.link) c.args.cycle mst)) n2 ∙ ap (λ (f : Carry). sum_below (length r.drives) (unseen_mst f c.args.cycle mst)) kf)
    (c.pass_own-own.ensures.unseen ∙ ap (λ (f : Carry). unseen_at f (passage c.args.cycle kinds.Mst 0 0) mst) k3)
    sent2.count
    (c.send_mdt-mdt.ensures.unseen ∙ ap (λ (n : ℕ). sum_below n (unseen_mdt (g.L.BitLink.carry c.send_ats-ats.new.link) c.args.cycle (content_of mdt))) n3 ∙ ap (λ (f : Carry). sum_below (length r.drives) (unseen_mdt f c.args.cycle (content_of mdt))) k5) in
    let t : CycleView = record {
      cycle = c.args.cycle;
      phase = c.command-phase.result;
      sent = c.truncate.new.self.items;
      moves = c.push_moves-2.new.moves.items;
      events = c.end_cycle-master.new.events;
      unseen = c.hear_msts-mst.result + c.pass_own-own.result + c.send_ats-ats.result + c.send_mdt-mdt.result;
    } in
    turned (g.L.BitLink.carry c.args.link.now) (g.L.BitLink.carry c.send_mdt-mdt.new.link) (g.L.BitLink.restart c.args.link.now) (g.L.BitLink.restart c.send_mdt-mdt.new.link)
    c.args.cycle c.args.rate c.args.addresses.now c.args.drives.now.items c.send_mdt-mdt.new.drives.items c.args.master c.end_cycle-master.result r jobs carry restarts j t mst ats mdt
    s (k6 ∙ sym s.carry_is) (e6 ∙ sym s.restarts_is) (n6 ∙ sym s.count_is) (
      (
        refl,
        c.command-phase.ensures.value (known_of r) jobs begun m1,
        mst_is,
        refl,
        mdt_is,
        all_sent (take 0 c.args.list.now.items) (take c.push_mst.new.count c.push_mst.new.list.items) (take c.send_ats-ats.new.count c.send_ats-ats.new.list.items) c.truncate.new.self.items mst ats mdt c.args.rate r.rate refl s.rate_is
            c.push_mst.ensures.items sent2.sent (c.truncate.ensures.items ∙ c.send_mdt-mdt.ensures.sent),
        moves2,
        events_are,
        unseen_is,
      ),
      all3,
      c.end_cycle-master.ensures.stands (known_of r) jobs mid m4,
    )
