use Rattle.std.proofs.Common.{rules, ◌≡◌, ◌+◌, List, [], ◌∷◌, length, ◌∙◌, subst, arith}
use Rattle.std.specs.Prelude.{take, slice_index_or}
use Rattle.std.proofs.lemmas.List.{take_all}
use Rattle.sercos_drive.specs.Says.{Said}
use Rattle.sercos_script.specs.Links.{Carry}
use Rattle.sercos_ring.specs.Sendings.{said_by, AreSent, IsTurn}
use Rattle.sercos_ring.specs.declared.turns.AtTurn.{AtTurn}
use Rattle.sercos_ring.proofs.SendLemmas.{sent_then, said_by-next}
use Rattle.sercos_ring.proofs.sending.send_ats.Goals as goal

pub loop-k-preserved : goal.loop-k-preserved
loop-k-preserved g c = record {
  carry = c.send_turn-unseen.ensures.carry ∙ c.loop-k.invariant.carry;
  restart = c.send_turn-unseen.ensures.restart ∙ c.loop-k.invariant.restart;
  bound = let old = c.loop-k.invariant.bound in let more = c.send_turn-unseen.ensures.bound in omega (arith, old, more);
  count = let old = c.loop-k.invariant.count in let more = c.send_turn-unseen.ensures.count in omega (arith, old, more);
  within = c.send_turn-unseen.ensures.within;
  sent = λ d speed h r all turns.
      let first : AtTurn = record { start = 0; place = 0 } in
      let turn : IsTurn (length c.args.drives.now) d speed h r (slice_index_or c.args.turns.now c.loop-k.k first) = turns c.loop-k.k first (search rules) in
      let one : AreSent r (g.L.BitLink.carry c.args.link.now) c.args.cycle c.args.rate (turn.says ∷ []) (take c.loop-k.count c.loop-k.list.items) (take c.send_turn-unseen.new.count c.send_turn-unseen.new.list.items) c.loop-k.master c.send_turn-unseen.new.master c.send_turn-unseen.result =
      subst (λ (carry : Carry). AreSent r carry c.args.cycle c.args.rate (turn.says ∷ []) (take c.loop-k.count c.loop-k.list.items) (take c.send_turn-unseen.new.count c.send_turn-unseen.new.list.items) c.loop-k.master c.send_turn-unseen.new.master c.send_turn-unseen.result)
      c.loop-k.invariant.carry (c.send_turn-unseen.ensures.sent d speed h turn.says r all turn.inside turn.said turn.station) in
      subst (λ (ats : List Said). AreSent r (g.L.BitLink.carry c.args.link.now) c.args.cycle c.args.rate ats (take c.args.count.now c.args.list.now.items) (take c.send_turn-unseen.new.count c.send_turn-unseen.new.list.items) c.args.master.now c.send_turn-unseen.new.master (c.loop-k.unseen + c.send_turn-unseen.result))
      (said_by-next d speed h c.args.turns.now c.loop-k.k first turn.says (search rules) turn.said)
      (sent_then r (g.L.BitLink.carry c.args.link.now) c.args.cycle c.args.rate _ (turn.says ∷ []) (take c.args.count.now c.args.list.now.items) (take c.loop-k.count c.loop-k.list.items) (take c.send_turn-unseen.new.count c.send_turn-unseen.new.list.items) c.args.master.now c.loop-k.master c.send_turn-unseen.new.master c.loop-k.unseen c.send_turn-unseen.result
      (c.loop-k.invariant.sent d speed h r all turns) one);
}

pub returns-clause-sent : goal.returns-clause-sent
returns-clause-sent g c = λ d speed h r all turns.
    let done : take c.loop-k.k c.args.turns.now ≡ c.args.turns.now = take_all c.loop-k.k c.args.turns.now (search rules) in
    subst (λ (ts : List AtTurn). AreSent r (g.L.BitLink.carry c.args.link.now) c.args.cycle c.args.rate (said_by d speed h ts) (take c.args.count.now c.args.list.now.items) (take c.loop-k.count c.loop-k.list.items) c.args.master.now c.loop-k.master c.loop-k.unseen)
    done (c.loop-k.invariant.sent d speed h r all turns)
