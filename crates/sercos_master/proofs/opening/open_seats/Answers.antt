use Rattle.sercos_master.proofs.Words.{rules, ◌≡◌, ◌<◌, ◌++◌, ◌∷◌, [], subst, ap, length, sym, ◌∙◌, arith, map, HasLists, member_of, AreFresh}
use Rattle.sercos_master.proofs.Openings.{count_more, fresh_more, nothing_fresh, lists_more, lists_all}
use Rattle.sercos_master.proofs.opening.open_seats.Goals as goal

pub loop-place-init : goal.loop-place-init
loop-place-init c = record {
  count = ap (λ xs. length xs) c.new-seats.ensures.items;
  fresh = subst (λ xs. AreFresh xs (map member_of c.args.drives.now)) (sym c.new-seats.ensures.items) (nothing_fresh (map member_of c.args.drives.now));
  lists = λ k d below. absurd (omega (arith, below));
}

pub loop-place-preserved : goal.loop-place-preserved
loop-place-preserved c =
    let within : c.loop-place.place < length c.args.drives.now = search rules in
    let items : c.push.new.self.items ≡ c.loop-place.seats.items ++ c.open.result ∷ [] = c.in_ok-push.ensures.items in
    record {
      count = rw items (count_more c.loop-place.seats.items c.open.result c.loop-place.place c.loop-place.invariant.count);
      fresh = subst (λ xs. AreFresh xs (map member_of c.args.drives.now)) (sym items)
          (fresh_more c.loop-place.seats.items c.open.result c.args.drives.now c.loop-place.place c.index-drives-place.result c.loop-place.invariant.count within c.loop-place.invariant.fresh
          (λ d e. c.open.ensures.fresh d (e ∙ (ap member_of (sym c.index-drives-place.is) ∙ sym c.member_of.ensures.value))));
      lists = lists_more c.args.drives.now c.loop-place.place c.index-drives-place.result within c.loop-place.invariant.lists
          (subst HasLists (c.member_of.ensures.value ∙ ap member_of c.index-drives-place.is) c.member_of.ensures.lists);
    }

pub returns-clause-lists : goal.returns-clause-lists
returns-clause-lists c = lists_all c.args.drives.now c.loop-place.place (search rules) c.loop-place.invariant.lists
