use Rattle.sercos_master.proofs.Words.{◌≡◌, List, length, true, refl, sym, ◌∙◌, subst, ap, map, ◌==◌, All, position, DriveView, RingView, IsKnown, HasLists, known_of, member_of, tasks_for, SeatView, AreFresh, is_ring}
use Rattle.sercos_master.proofs.Openings.{opened, fresh_stand, known_of-IsRing, mapped_length}
use Rattle.sercos_master.proofs.ring.Ring.open.Goals as goal

pub returns : goal.returns
returns c =
    let r : RingView = record { rate = c.setup.inside.rate; cycle = c.setup.inside.cycle; control = c.setup.inside.control; gap = c.setup.inside.gap; cycles = c.setup.inside.cycles; order = c.setup.inside.order.items; drives = c.setup.inside.drives.items } in
    let valid : is_ring r ≡ true = subst (λ x. is_ring x ≡ true) (sym c.setup.view_is) c.requires.ring in
    let lists : All HasLists (map member_of r.drives) = subst (λ (ds : List DriveView). All HasLists (map member_of ds)) c.as_slice.ensures.value c.in_ok-seats.ensures.lists in
    let known : IsKnown (known_of r) = known_of-IsRing r (c.ring_law.ensures r valid) lists in
    let both = c.in_ok-seats.ensures.seats in
    let fresh : AreFresh c.in_ok-seats.seats.items (map member_of r.drives) = subst (λ (ds : List DriveView). AreFresh c.in_ok-seats.seats.items (map member_of ds)) c.as_slice.ensures.value both.1 in
    let count : length c.in_ok-seats.seats.items ≡ length r.drives = both.0 ∙ ap (λ (ds : List DriveView). length ds) c.as_slice.ensures.value in
    let stand = c.in_ok-deal.ensures.stand (known_of r) known.apart (count ∙ sym (mapped_length r.drives)) (fresh_stand c.in_ok-seats.seats.items (known_of r) fresh) in
    rw (← c.setup.view_is)
    (record {
      stands = opened _ r (tasks_for (known_of r) c.args.jobs.items) refl refl refl refl (c.copied.ensures ∙ c.as_slice-2.ensures.value) (c.in_ok-deal.ensures.count ∙ count)
          (λ address byte. c.of_all.ensures address byte ∙ ap (position (λ (v : SeatView). v.member.address == address)) c.as_slice-3.ensures.value) stand refl;
      known = known;
      phase_is = refl;
    })
