-- Worked values of the definitions, in a ring of two drives: links 0 and 1 lead to the drives, link 2 leads back.
use Rattle.std.proofs.Common.{◌≡◌, ℕ, Bool, true, false, List, [], ◌∷◌, Some, None, refl, ap}
use Rattle.std.specs.Prelude.{slice_index_or}
use Rattle.std.proofs.lemmas.Bool.{true≢false}
use Rattle.sercos_telegram.specs.declared.layout.Kind.TheVariants as kinds
use Rattle.sercos_script.specs.declared.fault.Damage.{Damage}
use Rattle.sercos_script.specs.declared.fault.Damage.TheVariants.{Lose, Flip, Cut, Deaf, Restart}
use Rattle.sercos_script.specs.declared.fault.Fault.{Fault}
use Rattle.sercos_script.specs.declared.link.Passage.{Passage}
use Rattle.sercos_script.specs.Cuts.{has_flip, IsCut}
use Rattle.sercos_script.specs.Scripts.{acts, links_between, carried, restarts_at}

back_to_the_master : links_between 2 0 0 ≡ 3
back_to_the_master = refl

of_the_first_drive : links_between 2 1 0 ≡ 2
of_the_first_drive = refl

to_the_second_drive : links_between 2 0 2 ≡ 2
to_the_second_drive = refl

-- a fault of cycles 10 to 20
fault : ℕ → Damage → Fault
fault every damage = record { cycle = 10; last = 20; every = every; kind = kinds.Mdt; from = 0; damage = damage }

every_fourth : acts 18 (fault 4 (Lose 0)) ≡ true
unfolding acts fault
every_fourth = refl

not_between : acts 17 (fault 4 (Lose 0)) ≡ false
unfolding acts fault
not_between = refl

past_the_last : acts 22 (fault 4 (Lose 0)) ≡ false
unfolding acts fault
past_the_last = refl

with_0_in_the_first : acts 10 (fault 0 (Lose 0)) ≡ true
unfolding acts fault
with_0_in_the_first = refl

with_0_not_later : acts 20 (fault 0 (Lose 0)) ≡ false
unfolding acts fault
with_0_not_later = refl

-- The MDT of cycle 10 on its way to the second drive: link 0 complements its fourth bit and cuts it to three, and then link 1
-- complements the third.
links_in_turn : carried 2 (fault 1 (Flip 1 2) ∷ fault 1 (Flip 0 3) ∷ fault 1 (Cut 0 3) ∷ []) (record { cycle = 10; kind = kinds.Mdt; from = 0; to = 2 }) (true ∷ false ∷ true ∷ true ∷ false ∷ [])
    ≡ Some (true ∷ false ∷ false ∷ [])
unfolding carried acts fault
links_in_turn = refl

deaf_alone : carried 2 (fault 1 (Deaf 2) ∷ []) (record { cycle = 10; kind = kinds.Mdt; from = 0; to = 2 }) (true ∷ []) ≡ None
unfolding carried acts fault
deaf_alone = refl

others_hear : carried 2 (fault 1 (Deaf 2) ∷ []) (record { cycle = 10; kind = kinds.Mdt; from = 0; to = 1 }) (true ∷ []) ≡ Some (true ∷ [])
unfolding carried acts fault
others_hear = refl

two_are_one : restarts_at (fault 1 (Restart 1) ∷ fault 1 (Restart 1) ∷ []) 10 1 ≡ true
unfolding restarts_at acts fault
two_are_one = refl

-- Of five bits that are cut to three the first three arrive; of those whose third bit is complemented too, other bits do.
sent : List Bool
sent = true ∷ false ∷ true ∷ true ∷ false ∷ []

to_the_second : Passage
to_the_second = record { cycle = 10; kind = kinds.Mdt; from = 0; to = 2 }

cut_to_three : IsCut sent (carried 2 (fault 1 (Cut 0 3) ∷ []) to_the_second sent)
unfolding carried acts fault sent to_the_second
cut_to_three = (true ∷ false ∷ [], refl)

flipped_too : IsCut sent (carried 2 (fault 1 (Flip 1 2) ∷ fault 1 (Cut 0 3) ∷ []) to_the_second sent) → ⊥
unfolding carried acts fault sent to_the_second
flipped_too (rest, is) = true≢false (ap (λ (l : List Bool). slice_index_or l 2 false) is)

no_flip : has_flip (fault 1 (Lose 0) ∷ fault 1 (Cut 0 3) ∷ fault 1 (Deaf 2) ∷ fault 1 (Restart 1) ∷ []) ≡ false
unfolding fault
no_flip = refl

one_flip : has_flip (fault 1 (Cut 0 3) ∷ fault 1 (Flip 1 2) ∷ []) ≡ true
unfolding fault
one_flip = refl
