-- The tests on chains decide.
use Rattle.std.proofs.Common.{◌≡◌, ℕ, ◌*◌, true, List, [], ◌∷◌, refl}
use Rattle.std.specs.Prelude.{Option, Some, None}
use Rattle.std.proofs.lemmas.Bool.{eqb-true, eq-eqb, and_parts, and_from}
use Rattle.sercos_timing.specs.Views.{WishesView}
use Rattle.sercos_timing.specs.Order.{sent}
use Rattle.sercos_timing.specs.Inequalities.{of_number}
use Rattle.sercos_plan.specs.LeastTimes.{round_up}
use Rattle.sercos_plan.specs.Chains.{up_to, asked_after, Gives, Linked, gives, are_linked}
use Rattle.sercos_plan.specs.declared.chain.Link.{Link}

gives-Gives : (w : WishesView) (o : Option ℕ) (at : ℕ) → gives w o at ≡ true → Gives w o at
gives-Gives w None at h = cc
gives-Gives w (Some a) at h = eqb-true at (w.rate * round_up w.rate a) h

Gives-gives : (w : WishesView) (o : Option ℕ) (at : ℕ) → Gives w o at → gives w o at ≡ true
Gives-gives w None at h = absurd h
Gives-gives w (Some a) at h = eq-eqb at (w.rate * round_up w.rate a) h

pub linked-Linked : (w : WishesView) (from : Option Link) (links : List Link) → are_linked w from links ≡ true → Linked w from links
linked-Linked w from [] h = tt
linked-Linked w from (l ∷ links) h =
    let parts = and_parts (gives w (asked_after w (of_number l.rule) from (up_to w l.drive (sent w))) l.at) (are_linked w (Some l) links) h in
    (gives-Gives w (asked_after w (of_number l.rule) from (up_to w l.drive (sent w))) l.at parts.0, linked-Linked w (Some l) links parts.1)

pub Linked-linked : (w : WishesView) (from : Option Link) (links : List Link) → Linked w from links → are_linked w from links ≡ true
Linked-linked w from [] h = refl
Linked-linked w from (l ∷ links) h =
    and_from (gives w (asked_after w (of_number l.rule) from (up_to w l.drive (sent w))) l.at) (are_linked w (Some l) links)
    (Gives-gives w (asked_after w (of_number l.rule) from (up_to w l.drive (sent w))) l.at h.0) (Linked-linked w (Some l) links h.1)
