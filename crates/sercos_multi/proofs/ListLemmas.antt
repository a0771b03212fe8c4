-- Two lists of which the items at the same place belong together.
use Rattle.std.proofs.Common.{◌≡◌, ℕ, zero, suc, ◌<◌, ◌≤◌, inl, inr, List, [], ◌∷◌, ◌++◌, length, take, drop, map, get_or, refl, sym, ◌∙◌, ap, subst, arith, append_assoc, append-nil}
use Rattle.std.specs.List.{flat_map}
use Rattle.std.proofs.Math.ListN.{set}
use Rattle.std.proofs.lemmas.Grind.{flat_map-append}
use Rattle.sercos_multi.specs.Going.{Each, Some, AllAre}

pub all_length : {X Y : Type 0} (R : X → Y → Type 0) (xs : List X) (ys : List Y) → AllAre R xs ys → length xs ≡ length ys
unfolding AllAre
all_length R [] [] all = refl
all_length R [] (y ∷ ys) all = absurd all
all_length R (x ∷ xs) [] all = absurd all
all_length R (x ∷ xs) (y ∷ ys) all = ap suc (all_length R xs ys all.1)

-- the place that comes next, if the items before it have become others
pub record Turn {X Y : Type 0} (R : X → Y → Type 0) (f : Y → Y) (xs : List X) (ys : List Y) (k : ℕ) (x : X) : Type 0 where
  pub item : Y
  pub last : take (suc k) ys ≡ take k ys ++ item ∷ []
  pub rest : drop k ys ≡ item ∷ drop (suc k) ys
  pub is : R x item
  pub next : (x' : X) → R x' (f item) → AllAre R (set xs k x') (map f (take (suc k) ys) ++ drop (suc k) ys)

pub turn : {X Y : Type 0} (R : X → Y → Type 0) (f : Y → Y) (xs : List X) (ys : List Y) (k : ℕ) (x : X) → k < length xs → x ≡ get_or xs k x → AllAre R xs (map f (take k ys) ++ drop k ys) → Turn R f xs ys k x
unfolding AllAre
turn R f [] ys k x below same all = absurd (omega (arith, below))
turn R f (x0 ∷ xs) [] zero x below same all = absurd all
turn R f (x0 ∷ xs) [] (suc k) x below same all = absurd all
turn R f (x0 ∷ xs) (y ∷ ys) zero x below same all = record {
  item = y;
  last = refl;
  rest = refl;
  is = subst (λ z. R z y) (sym same) all.0;
  next = λ x' r. (r, all.1);
}
turn R f (x0 ∷ xs) (y ∷ ys) (suc k) x below same all =
    let rest = turn R f xs ys k x (omega (arith, below)) same all.1 in
    record {
      item = rest.item;
      last = ap (λ l. y ∷ l) rest.last;
      rest = rest.rest;
      is = rest.is;
      next = λ x' r. (all.0, rest.next x' r);
    }

-- items that stay as they are
pub as_before : {X : Type 0} (ys : List X) (k : ℕ) → map (λ (y : X). y) (take k ys) ++ drop k ys ≡ ys
as_before [] zero = refl
as_before [] (suc k) = refl
as_before (y ∷ ys) zero = refl
as_before (y ∷ ys) (suc k) = ap (λ l. y ∷ l) (as_before ys k)

pub turn_of : {X Y : Type 0} (R : X → Y → Type 0) (xs : List X) (ys : List Y) (k : ℕ) (x : X) → k < length xs → x ≡ get_or xs k x → AllAre R xs ys → Turn R (λ y. y) xs ys k x
turn_of R xs ys k x below same all = turn R (λ y. y) xs ys k x below same (subst (AllAre R xs) (sym (as_before ys k)) all)

-- all places
pub taken_all : {Y : Type 0} (ys : List Y) (k : ℕ) → length ys ≤ k → take k ys ≡ ys
taken_all [] zero below = refl
taken_all [] (suc k) below = refl
taken_all (y ∷ ys) zero below = absurd (omega (arith, below))
taken_all (y ∷ ys) (suc k) below = ap (λ l. y ∷ l) (taken_all ys k (omega (arith, below)))

pub dropped_all : {Y : Type 0} (ys : List Y) (k : ℕ) → length ys ≤ k → drop k ys ≡ []
dropped_all [] zero below = refl
dropped_all [] (suc k) below = refl
dropped_all (y ∷ ys) zero below = absurd (omega (arith, below))
dropped_all (y ∷ ys) (suc k) below = dropped_all ys k (omega (arith, below))

pub whole_is : {Y : Type 0} (ys : List Y) (k : ℕ) → take k ys ++ drop k ys ≡ ys
whole_is [] zero = refl
whole_is [] (suc k) = refl
whole_is (y ∷ ys) zero = refl
whole_is (y ∷ ys) (suc k) = ap (λ l. y ∷ l) (whole_is ys k)

pub mapped_all : {Y : Type 0} (f : Y → Y) (ys : List Y) (k : ℕ) → length ys ≤ k → map f (take k ys) ++ drop k ys ≡ map f ys
mapped_all f ys k below =
    ap (λ l. map f l ++ drop k ys) (taken_all ys k below) ∙ ap (λ l. map f ys ++ l) (dropped_all ys k below) ∙ append-nil (map f ys)

-- the texts of items
pub text_next : {Y : Type 0} (f : Y → List ℕ) (ys : List Y) (k : ℕ) (y : Y) → take (suc k) ys ≡ take k ys ++ y ∷ [] → flat_map f (take (suc k) ys) ≡ flat_map f (take k ys) ++ f y
text_next f ys k y last = ap (flat_map f) last ∙ flat_map-append f (take k ys) (y ∷ []) ∙ ap (λ t. flat_map f (take k ys) ++ t) (append-nil (f y))

pub text_whole : {Y : Type 0} (f : Y → List ℕ) (ys : List Y) (k : ℕ) (y : Y) → take (suc k) ys ≡ take k ys ++ y ∷ [] → flat_map f ys ≡ flat_map f (take k ys) ++ (f y ++ flat_map f (drop (suc k) ys))
text_whole f ys k y last =
    ap (flat_map f) (sym (whole_is ys (suc k))) ∙ flat_map-append f (take (suc k) ys) (drop (suc k) ys) ∙ ap (λ t. t ++ flat_map f (drop (suc k) ys)) (text_next f ys k y last)
    ∙ append_assoc (flat_map f (take k ys)) (f y) (flat_map f (drop (suc k) ys))

-- what is so of each is so of one
pub each_at : {Y : Type 0} (P : Y → Type 0) (ys : List Y) (k : ℕ) (y : Y) (rest : List Y) → Each P ys → drop k ys ≡ y ∷ rest → P y
unfolding Each
each_at P [] zero y rest all is = absurd (cc)
each_at P [] (suc k) y rest all is = absurd (cc)
each_at P (z ∷ ys) zero y rest all is = let same : z ≡ y = cc in subst P same all.0
each_at P (z ∷ ys) (suc k) y rest all is = each_at P ys k y rest all.1 is

pub each_push : {Y : Type 0} (P : Y → Type 0) (ys : List Y) (y : Y) → Each P ys → P y → Each P (ys ++ y ∷ [])
unfolding Each
each_push P [] y all one = (one, tt)
each_push P (z ∷ ys) y all one = (all.0, each_push P ys y all.1 one)

pub some_push : {Y : Type 0} (P : Y → Type 0) (ys : List Y) (y : Y) → Some P ys → Some P (ys ++ y ∷ [])
unfolding Some
some_push P [] y some = absurd some
some_push P (z ∷ ys) y (inl one) = inl one
some_push P (z ∷ ys) y (inr some) = inr (some_push P ys y some)

pub some_last : {Y : Type 0} (P : Y → Type 0) (ys : List Y) (y : Y) → P y → Some P (ys ++ y ∷ [])
unfolding Some
some_last P [] y one = inl one
some_last P (z ∷ ys) y one = inr (some_last P ys y one)

pub each_less : {Y : Type 0} (P Q : Y → Type 0) (ys : List Y) → ((y : Y) → P y → Q y) → Each P ys → Each Q ys
unfolding Each
each_less P Q [] law all = tt
each_less P Q (y ∷ ys) law all = (law y all.0, each_less P Q ys law all.1)
