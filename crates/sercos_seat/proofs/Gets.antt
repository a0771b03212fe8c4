-- What stands at a place of lists that are put together.
use Rattle.std.proofs.Common.{◌≡◌, ℕ, zero, suc, ◌+◌, ◌-◌, ◌<◌, ◌≤◌, List, [], ◌∷◌, ◌++◌, Some, None, length, ap, refl, ◌∙◌, arith}
use Rattle.std.specs.Prelude.{map, slice_get, slice_index_or, option_map}
use Rattle.sercos_idn.specs.declared.idn.Idn.{Idn}
use Rattle.sercos_step.specs.declared.request.Request.TheVariants as request
use Rattle.sercos_seat.specs.Ring.{MemberView}
use Rattle.sercos_seat.specs.Agenda.{reads}

pub get_map : {A B : Type 0} (f : A → B) (xs : List A) (j : ℕ) → slice_get (map f xs) j ≡ option_map f (slice_get xs j)
get_map f [] j = refl
get_map f (x ∷ xs) zero = refl
get_map f (x ∷ xs) (suc j) = get_map f xs j

pub get_left : {A : Type 0} (xs ys : List A) (j : ℕ) → j < length xs → slice_get (xs ++ ys) j ≡ slice_get xs j
get_left [] ys j h = absurd (omega (arith, h))
get_left (x ∷ xs) ys zero h = refl
get_left (x ∷ xs) ys (suc j) h = get_left xs ys j (omega (arith, h))

pub get_right : {A : Type 0} (xs ys : List A) (n j : ℕ) → n ≡ length xs + j → slice_get (xs ++ ys) n ≡ slice_get ys j
get_right [] ys n j e = ap (slice_get ys) (e ∙ omega arith)
get_right (x ∷ xs) ys zero j e = absurd (omega (arith, e))
get_right (x ∷ xs) ys (suc n) j e = get_right xs ys n j (omega (arith, e))

pub get_some : {A : Type 0} (xs : List A) (j : ℕ) (d : A) → j < length xs → slice_get xs j ≡ Some (slice_index_or xs j d)
get_some [] j d h = absurd (omega (arith, h))
get_some (x ∷ xs) zero d h = refl
get_some (x ∷ xs) (suc j) d h = get_some xs j d (omega (arith, h))

pub get_none : {A : Type 0} (xs : List A) (j : ℕ) → length xs ≤ j → slice_get xs j ≡ None
get_none [] j h = refl
get_none (x ∷ xs) zero h = absurd (omega (arith, h))
get_none (x ∷ xs) (suc j) h = get_none xs j (omega (arith, h))

pub length_map : {A B : Type 0} (f : A → B) (xs : List A) → length (map f xs) ≡ length xs
length_map f [] = refl
length_map f (x ∷ xs) = ap (λ n. suc n) (length_map f xs)

pub length_append : {A : Type 0} (xs ys : List A) → length (xs ++ ys) ≡ length xs + length ys
length_append [] ys = omega arith
length_append (x ∷ xs) ys = let e : length (xs ++ ys) ≡ length xs + length ys = length_append xs ys in rw e (omega arith)

-- after the six times the attributes are read, those of the AT first
behind_six : {A : Type 0} (a b c d e f : A) (xs : List A) (i : ℕ) → 6 ≤ i → slice_get (a ∷ b ∷ c ∷ d ∷ e ∷ f ∷ xs) i ≡ slice_get xs (i - 6)
behind_six a b c d e f xs i h =
    let six : i ≡ suc (suc (suc (suc (suc (suc (i - 6)))))) = omega (arith, h) in
    let then_j : (j : ℕ) → slice_get (a ∷ b ∷ c ∷ d ∷ e ∷ f ∷ xs) (suc (suc (suc (suc (suc (suc j)))))) ≡ slice_get xs j = λ j. refl in
    ap (slice_get (a ∷ b ∷ c ∷ d ∷ e ∷ f ∷ xs)) six ∙ then_j (i - 6)

pub reads_at : (d : MemberView) (i : ℕ) (idn : Idn) → 6 ≤ i → i - 6 < length d.at → slice_get d.at (i - 6) ≡ Some idn → slice_get (reads d) i ≡ Some (request.Read idn 3)
reads_at d i idn h within is =
    behind_six _ _ _ _ _ _ (map (λ i. request.Read i 3) (d.at ++ d.mdt)) i h
    ∙ (get_map (λ i. request.Read i 3) (d.at ++ d.mdt) (i - 6)
    ∙ ap (option_map (λ i. request.Read i 3)) (get_left d.at d.mdt (i - 6) within ∙ is))

pub reads_mdt : (d : MemberView) (i : ℕ) (idn : Idn) → 6 ≤ i → length d.at ≤ i - 6 → slice_get d.mdt (i - 6 - length d.at) ≡ Some idn →
    slice_get (reads d) i ≡ Some (request.Read idn 3)
reads_mdt d i idn h behind is =
    behind_six _ _ _ _ _ _ (map (λ i. request.Read i 3) (d.at ++ d.mdt)) i h
    ∙ (get_map (λ i. request.Read i 3) (d.at ++ d.mdt) (i - 6)
    ∙ ap (option_map (λ i. request.Read i 3)) (get_right d.at d.mdt (i - 6) (i - 6 - length d.at) (omega (arith, behind)) ∙ is))
