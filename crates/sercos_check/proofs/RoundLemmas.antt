-- What was noted in an earlier round counts as nothing, and what is noted now counts.
use Rattle.std.proofs.Common.{◌≡◌, ℕ, zero, suc, ◌<◌, false, List, [], ◌∷◌, length, get_or, map, refl, arith}
use Rattle.std.specs.Prelude.{Some, None, set, true}
use Rattle.std.specs.List.{All}
use Rattle.std.proofs.lemmas.List.{map-set}
use Rattle.std.proofs.lemmas.Bool.{eq-eqb}
use Rattle.sercos_check.specs.declared.marks.Mark.{Mark}
use Rattle.sercos_check.specs.declared.marks.Noted.{Noted}
use Rattle.sercos_check.specs.Rounds.{is_round, mark_of_round, is_no_later, was_noted}

same_in_all : {A B : Type 0} (f : A → B) (e : B) (xs : List A) → ((k : ℕ) (d : A) → k < length xs → f (get_or xs k d) ≡ e) → (i : ℕ) → get_or (map f xs) i e ≡ e
same_in_all f e [] all i = refl
same_in_all f e (x ∷ xs) all zero = all zero x (omega arith)
same_in_all f e (x ∷ xs) all (suc i) = same_in_all f e xs (λ k d within. all (suc k) d (omega (arith, within))) i

other_round : (old now round : ℕ) → old < now → is_no_later old round → is_round now round ≡ false
other_round old now round later earlier = grind (arith, later, earlier)

pub none_heard : (old now : ℕ) (rounds : List ℕ) → old < now → All (is_no_later old) rounds → (address : ℕ) → get_or (map (is_round now) rounds) address false ≡ false
none_heard old now rounds later earlier = same_in_all (is_round now) false rounds (λ k d within. other_round old now (get_or rounds k d) later (earlier k d within))

pub none_marked : (old now : ℕ) (noted : List Noted) → old < now → All (was_noted old) noted → (slave : ℕ) → get_or (map (mark_of_round now) noted) slave None ≡ None
none_marked old now noted later earlier = same_in_all (mark_of_round now) None noted (λ k d within. rw (other_round old now (get_or noted k d).round later (earlier k d within)) refl)

pub heard_now : (now : ℕ) (rounds : List ℕ) (address : ℕ) → map (is_round now) (set rounds address now) ≡ set (map (is_round now) rounds) address true
heard_now now rounds address = rw (map-set (is_round now) rounds address now, eq-eqb now now refl) refl

pub marked_now : (now : ℕ) (noted : List Noted) (slave : ℕ) (mark : Mark) → map (mark_of_round now) (set noted slave (record { round = now; mark = mark })) ≡ set (map (mark_of_round now) noted) slave (Some mark)
marked_now now noted slave mark = rw (map-set (mark_of_round now) noted slave (record { round = now; mark = mark }), eq-eqb now now refl) refl
