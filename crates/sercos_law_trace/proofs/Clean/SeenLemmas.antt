-- What a checker finds among the telegrams of a cycle so far.
use Rattle.sercos_law_trace.proofs.Words.{◌≡◌, ◌∙◌, ℕ, pos, zero, suc, ◌*◌, ◌<◌, ◌≤◌, ◌==◌, nat_lt, nat_le, Bool, true, false, not, ◌&&◌, ◌||◌, List, [], ◌∷◌, length, refl, ap, arith, slice_index, le_z, int_eq, eq-eqb, le-leb, nat_tests, Decides-int_eq, frame_of, WishesView, Said, starts_later, start_before, sent_mst, and-false}
use Rattle.sercos_law_trace.proofs.Clean.RuleLemmas.{newest_by, has_mdt_by, has_at_by, seen_of}

-- each of a list
abbrev pub Each : {X : Type 0} → (X → Type 0) → List X → Type 0
Each P [] = Unit {0}
Each P (x ∷ xs) = P x × Each P xs

pub each_map : {X : Type 0} (P Q : X → Type 0) → ((x : X) → P x → Q x) → (xs : List X) → Each P xs → Each Q xs
each_map P Q f [] are = tt
each_map P Q f (x ∷ xs) are = (f x are.0, each_map P Q f xs are.1)

pub each_both : {X : Type 0} (P Q : X → Type 0) (xs : List X) → Each P xs → Each Q xs → Each (λ x. P x × Q x) xs
each_both P Q [] are also = tt
each_both P Q (x ∷ xs) are also = ((are.0, also.0), each_both P Q xs are.1 also.1)

-- each with each later one
abbrev pub EachPair : {X : Type 0} → (X → X → Type 0) → List X → Type 0
EachPair R [] = Unit {0}
EachPair R (x ∷ xs) = Each (R x) xs × EachPair R xs

pub pairs_both : {X : Type 0} (R S : X → X → Type 0) (xs : List X) → EachPair R xs → EachPair S xs → EachPair (λ x y. R x y × S x y) xs
pairs_both R S [] are also = tt
pairs_both R S (x ∷ xs) are also = (each_both (R x) (S x) xs are.0 also.0, pairs_both R S xs are.1 also.1)

pub pairs_map : {X : Type 0} (R S : X → X → Type 0) → ((x y : X) → R x y → S x y) → (xs : List X) → EachPair R xs → EachPair S xs
pairs_map R S f [] are = tt
pairs_map R S f (x ∷ xs) are = (each_map (R x) (S x) (f x) xs are.0, pairs_map R S f xs are.1)

-- each with each one that was before it, of which the newest comes first
abbrev pub EachAfter : {X : Type 0} → (X → X → Type 0) → List X → List X → Type 0
EachAfter R done [] = Unit {0}
EachAfter R done (x ∷ xs) = Each (λ y. R y x) done × EachAfter R (x ∷ done) xs

one_more : {X : Type 0} (R : X → X → Type 0) (x : X) (done xs : List X) → Each (R x) xs → Each (λ y. Each (λ z. R z y) done) xs → Each (λ y. Each (λ z. R z y) (x ∷ done)) xs
one_more R x done [] first are = tt
one_more R x done (y ∷ xs) first are = ((first.0, are.0), one_more R x done xs first.1 are.1)

after_by : {X : Type 0} (R : X → X → Type 0) (xs done : List X) → EachPair R xs → Each (λ y. Each (λ z. R z y) done) xs → EachAfter R done xs
after_by R [] done pairs are = tt
after_by R (x ∷ xs) done pairs are = (are.0, after_by R xs (x ∷ done) pairs.1 (one_more R x done xs pairs.0 are.1))

none_before : {X : Type 0} (R : X → X → Type 0) (xs : List X) → Each (λ y. Each (λ z. R z y) []) xs
none_before R [] = tt
none_before R (x ∷ xs) = (tt, none_before R xs)

pub all_after : {X : Type 0} (R : X → X → Type 0) (xs : List X) → EachPair R xs → EachAfter R [] xs
all_after R xs pairs = after_by R xs [] pairs (none_before R xs)

-- a rule of other telegrams
pub not_asked : (b kept : Bool) → (not (b && false) || kept) ≡ true
not_asked true kept = refl
not_asked false kept = refl

pub fresh : (a b : Bool) → b ≡ false → not (a && b) ≡ true
fresh a b none = ap (λ (x : Bool). not (a && x)) none ∙ ap not (and-false a)

pub asked : (b kept : Bool) → kept ≡ true → (not b || kept) ≡ true
asked true kept is = is
asked false kept is = refl

-- a telegram of the cycle, after the one before it, and before the MDT
pub order : (b c : Bool) → b ≡ true → c ≡ false → (cycle : ℕ) → ((cycle == cycle) && (b && not c)) ≡ true
order b c kb kc cycle = rw (eq-eqb cycle cycle refl, kb, kc) refl

-- an MST isn't after another telegram
mst_before : (n start : ℕ) → le_z (start_before n) (pos start) ≡ true
mst_before zero start = le-leb 0 start (omega arith)
mst_before (suc n) start = refl

pub no_mdt_seen : (rate : ℕ) (mst : List ℕ) (done : List Said) → has_mdt_by (seen_of rate (sent_mst mst) done) ≡ false
no_mdt_seen rate mst [] = refl
no_mdt_seen rate mst (s ∷ done) = no_mdt_seen rate mst done

-- ATs with another address
abbrev pub HasOther : ℕ → Said → Type 0
HasOther address s = (slice_index s.content 0 == address) ≡ false

pub none_from : (rate address : ℕ) (mst : List ℕ) (done : List Said) → Each (HasOther address) done → has_at_by address (seen_of rate (sent_mst mst) done) ≡ false
none_from rate address mst [] others = refl
none_from rate address mst (s ∷ done) others = by (nat_lt 0 (length s.content)) (slice_index s.content 0 == address) others.0 (none_from rate address mst done others.1)
  where
    by : (b c : Bool) → c ≡ false → has_at_by address (seen_of rate (sent_mst mst) done) ≡ false → ((b && c) || has_at_by address (seen_of rate (sent_mst mst) done)) ≡ false
    by b true other rest = absurd (cc)
    by true false other rest = rest
    by false false other rest = rest

-- it starts no earlier than the newest one
pub later_start : (w : WishesView) (rate start : ℕ) (mst : List ℕ) (done : List Said) → Each (λ (x : Said). rate * x.start ≤ start) done → starts_later (newest_by w (seen_of rate (sent_mst mst) done)) (pos start) ≡ true
later_start w rate start mst [] low = mst_before (length (frame_of mst)) start
later_start w rate start mst (s ∷ done) low = le-leb (rate * s.start) start low.0

-- a content of a telegram
pub record IsFramed (content : List ℕ) : Type 0 where
  pub some : 0 < length content
  pub most : length content ≤ 2048

pub frame_kept : (content : List ℕ) → IsFramed content → (nat_lt 0 (length content) && (nat_le (length content) 2048 && (length (frame_of content) == length (frame_of content)))) ≡ true
frame_kept content is = let some : nat_lt 0 (length content) ≡ true = grind (arith, nat_tests, is.some) in
    rw (some, le-leb (length content) 2048 is.most, eq-eqb (length (frame_of content)) (length (frame_of content)) refl) refl

pub same_start : (a b : ℕ) → a ≡ b → int_eq (pos a) (pos b) ≡ true
same_start a b is = (Decides-int_eq (pos a) (pos b)).1 (ap pos is)
