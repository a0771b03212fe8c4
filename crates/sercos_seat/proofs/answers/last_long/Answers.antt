use Rattle.std.proofs.Common.{rules, ◌≡◌, ◌<◌, ◌==◌, true, false, length, sym, ◌∙◌, ap}
use Rattle.std.specs.Prelude.{min}
use Rattle.sercos_seat.specs.Seats.{no_words}
use Rattle.sercos_seat.proofs.Lengths.{long_init, long_preserved, long_found}
use Rattle.sercos_seat.proofs.answers.last_long.Goals as goal

pub loop-i-init : goal.loop-i-init
loop-i-init c =
    let e : c.min-count.result ≡ min (length c.args.words.now) (length c.args.idns.now) = search rules in
    record { none = long_init c.args.idns.now c.args.words.now c.min-count.result e }

pub returns-then-len_of-eq4 : goal.returns-then-len_of-eq4
returns-then-len_of-eq4 c =
    let e : c.min-count.result ≡ min (length c.args.words.now) (length c.args.idns.now) = search rules in
    let below : c.loop-i.i < c.min-count.result = search rules in
    let is : (c.len_of.result == 4) ≡ true = search rules in
    rw c.long.ensures (sym (long_found c.args.idns.now c.args.words.now c.min-count.result c.loop-i.i no_words e below (ap (λ n. n == 4) (sym c.len_of.ensures.value) ∙ is) c.loop-i.invariant.none))

pub loop-i-preserved : goal.loop-i-preserved
loop-i-preserved c =
    let e : c.min-count.result ≡ min (length c.args.words.now) (length c.args.idns.now) = search rules in
    let below : c.loop-i.i < c.min-count.result = search rules in
    let is : (c.len_of.result == 4) ≡ false = search rules in
    record { none = long_preserved c.args.idns.now c.args.words.now c.min-count.result c.loop-i.i no_words e below (ap (λ n. n == 4) (sym c.len_of.ensures.value) ∙ is) c.loop-i.invariant.none }
