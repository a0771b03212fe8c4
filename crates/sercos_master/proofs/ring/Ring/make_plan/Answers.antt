use Rattle.sercos_master.proofs.Words.{◌≡◌, false, sym, ◌∙◌, ap, subst, false≢true, nat_le, record_bytes, IsValid, planned, wishes_given, outcomes, CoreStandsFor, seen_at}
use Rattle.sercos_master.specs.contracts.ring.Ring.{the_view}
use Rattle.sercos_master.proofs.Wishes.{fits_mdt, not_fitting}
use Rattle.sercos_master.proofs.Rings.{planned_well, planned_badly}
use Rattle.sercos_master.proofs.ring.Ring.make_plan.Goals as goal

pub returns-then-valid : goal.returns-then-valid
returns-then-valid c = λ s p known none stands.
    let w : c.wishes-wishes.result ≡ wishes_given s (outcomes p) = c.wishes-wishes.ensures s p known stands in
    let v : IsValid (wishes_given s (outcomes p)) = subst IsValid w (c.valid.ensures.0 c.if-valid.true) in
    let e : c.plan-planned.result ≡ planned (wishes_given s (outcomes p)) = c.plan-planned.ensures.answer ∙ ap planned w in
    rw (planned_well s p (fits_mdt (wishes_given s (outcomes p)) v), ← e) (c.keep_plan.ensures s p none stands)

pub returns-else-valid : goal.returns-else-valid
returns-else-valid c = λ s p known none stands.
    let t : CoreStandsFor (the_view c.self.inside) s p = rw c.self.view_is stands in
    let w : c.wishes-wishes.result ≡ wishes_given s (outcomes p) = c.wishes-wishes.ensures s p known stands in
    let bad : nat_le (record_bytes (wishes_given s (outcomes p)).drives) 2047 ≡ false =
    not_fitting s (outcomes p) known (λ v. false≢true (sym c.if-valid.false ∙ c.valid.ensures.1 (subst IsValid (sym w) v))) in
    rw (planned_badly s p bad, ← c.last_long_stop-stop.ensures s (seen_at p) (rw c.as_slice.ensures.value t.seats_count) (rw c.as_slice.ensures.value t.seats)) (c.keep_stop.ensures s p none stands)
