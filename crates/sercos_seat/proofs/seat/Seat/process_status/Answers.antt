use Rattle.std.proofs.Common.{◌≡◌, ◌≤◌, ◌∷◌, Bool, true, false, refl, sym, ◌∙◌}
use Rattle.std.specs.Prelude.{is_none, is_some, ◌||◌}
use Rattle.sercos_service_master.specs.Calls.{Hear}
use Rattle.sercos_seat.specs.Seats.{IsQueue, Seen, heard_in, is_idle_in}
use Rattle.sercos_seat.proofs.Seats.{idle_same, idle_of}
use Rattle.sercos_seat.proofs.Channels.{Heard, heard}
use Rattle.sercos_seat.proofs.Queues.{queue_more, queue_same}
use Rattle.std.specs.Prelude.{Some, None}
use Rattle.std.proofs.lemmas.Option.{none-some}
use Rattle.sercos_service_master.specs.Calls.{outcome_at}
use Rattle.sercos_seat.specs.Agenda.{reads_count}
use Rattle.sercos_seat.specs.Seats.{SeatStandsFor}
use Rattle.sercos_seat.proofs.Seats.{hears_outcome, hears_none}
use Rattle.sercos_seat.specs.contracts.seat.Seat.{the_view}
use Rattle.sercos_seat.proofs.seat.Seat.process_status.Goals as goal

pub returns-in-Some : goal.returns-in-Some
returns-in-Some c = λ d x s.
    let t : SeatStandsFor (the_view c.self.inside) d x = rw c.self.view_is s in
    let e : outcome_at x.calls c.args.status.now c.args.info ≡ Some c.in-Some.outcome = sym (c.hear.ensures.outcome x.calls t.channel_is) ∙ c.in-Some.is in
    let few : reads_count d ≤ 38 = rw (← t.member_is) c.take_outcome.ensures.few in
    let y : Seen = heard_in c.args.status.now c.args.info x in
    let more : Heard x.calls c.args.status.now c.args.info (Some c.in-Some.outcome) = heard x.calls c.args.status.now c.args.info (Some c.in-Some.outcome) e in
    let before : is_idle_in x ≡ false = at_work (is_none (the_view c.self.inside).channel.transfer) (is_idle_in x) refl (sym (idle_same (the_view c.self.inside) d x t)) in
    let after : is_idle_in y ≡ true = sym (idle_of c.hear.new.self (Hear c.args.status.now c.args.info ∷ x.calls) (c.hear.ensures.stands x.calls t.channel_is)) ∙ (c.hear.ensures.idle ∙ ended (is_none (the_view c.self.inside).channel.transfer)) in
    let queue : IsQueue (the_view c.self.inside).waiting d y = queue_more (the_view c.self.inside).waiting d x y c.in-Some.outcome t.queue refl refl more.outcomes before after in
    rw c.take_outcome.ensures.kept (hears_outcome (the_view c.self.inside) d x c.hear.new.self c.args.status.now c.args.info c.in-Some.outcome few t (c.hear.ensures.stands x.calls t.channel_is) e queue)
  where
    at_work : (b i : Bool) → is_none (the_view c.self.inside).channel.transfer ≡ b → i ≡ is_none (the_view c.self.inside).channel.transfer → i ≡ false
    at_work true i f g = absurd (none-some _ (sym (c.hear.ensures.silent f) ∙ c.in-Some.is))
    at_work false i f g = g ∙ f

    ended : (b : Bool) → (b || is_some c.hear.result) ≡ true
    ended b = rw c.in-Some.is (or_true b)
      where
        or_true : (b : Bool) → (b || true) ≡ true
        or_true true = refl
        or_true false = refl

pub returns-in_default : goal.returns-in_default
returns-in_default c = λ d x s.
    let t : SeatStandsFor (the_view c.self.inside) d x = rw c.self.view_is s in
    let e : outcome_at x.calls c.args.status.now c.args.info ≡ None = sym (c.hear.ensures.outcome x.calls t.channel_is) ∙ c.in_default.is in
    let y : Seen = heard_in c.args.status.now c.args.info x in
    let more : Heard x.calls c.args.status.now c.args.info None = heard x.calls c.args.status.now c.args.info None e in
    let idle : is_idle_in y ≡ is_idle_in x = sym (idle_of c.hear.new.self (Hear c.args.status.now c.args.info ∷ x.calls) (c.hear.ensures.stands x.calls t.channel_is)) ∙ (c.hear.ensures.idle ∙ (as_before (is_none (the_view c.self.inside).channel.transfer) ∙ idle_same (the_view c.self.inside) d x t)) in
    let queue : IsQueue (the_view c.self.inside).waiting d y = queue_same (the_view c.self.inside).waiting d x y t.queue refl refl more.outcomes idle in
    hears_none (the_view c.self.inside) d x c.hear.new.self c.args.status.now c.args.info t (c.hear.ensures.stands x.calls t.channel_is) e queue
  where
    as_before : (b : Bool) → (b || is_some c.hear.result) ≡ b
    as_before b = rw c.in_default.is (or_false b)
      where
        or_false : (b : Bool) → (b || false) ≡ b
        or_false true = refl
        or_false false = refl
