-- What a seat tells of its drive's wish, and what the ring asks of its plan.
use Rattle.sercos_master.proofs.Words.{inr, inl, cases_Bool, length_push, ◌≡◌, ℕ, zero, suc, ◌+◌, ◌<◌, ◌≤◌, Bool, true, false, List, [], ◌∷◌, ◌++◌, Option, Some, None, length, ap, refl, sym, ◌∙◌, arith, subst, if◌then◌else◌, min, nat_le, nat_lt, is_some, map, take, drop, slice_index_or, false≢true, nat_tests, Outcome, Wish, WishesView, no_wish, record_bytes, IsValid, AreDistinct, Stop, Known, IsKnown, MemberView, member, no_member, wishes_from, wishes_given, mdt_attributes, words_given, wish_given, last_long_from, long_stop, last_long, Seen, outcomes_seen, drop_at, drop_all, get_there, lens, take_all}

-- THE WISHES OF THE RING
pub wishes_length : (drives : List MemberView) (k : ℕ) (outs : ℕ → List Outcome) → length (wishes_from drives k outs) ≡ length drives
wishes_length [] k outs = refl
wishes_length (d ∷ drives) k outs = ap (λ n. suc n) (wishes_length drives (k + 1) outs)

pub wishes_more : (drives : List MemberView) (k n : ℕ) (outs : ℕ → List Outcome) → n < length drives →
    wishes_from (take (n + 1) drives) k outs ≡ wishes_from (take n drives) k outs ++ wish_given (slice_index_or drives n no_member) (outs (k + n)) ∷ []
wishes_more [] k n outs h = absurd (omega (arith, h))
wishes_more (d ∷ drives) k zero outs h = let e : k + 0 ≡ k = omega arith in rw e refl
wishes_more (d ∷ drives) k (suc n) outs h =
    let e : suc n + 1 ≡ suc (n + 1) = omega arith in
    let f : k + suc n ≡ k + 1 + n = omega arith in
    rw (e, f) (ap (λ ws. wish_given d (outs k) ∷ ws) (wishes_more drives (k + 1) n outs (omega (arith, h))))

pub list_more : (s : Known) (seen : ℕ → Seen) (n : ℕ) (wishes : List Wish) (w : Wish) → n < length s.drives → w ≡ wish_given (member s n) (outcomes_seen (seen n)) →
    wishes ≡ wishes_from (take n s.drives) 0 (λ k. outcomes_seen (seen k)) → wishes ++ w ∷ [] ≡ wishes_from (take (n + 1) s.drives) 0 (λ k. outcomes_seen (seen k))
list_more s seen n wishes w h is so = rw (wishes_more s.drives 0 n (λ k. outcomes_seen (seen k)) h, so, is) (ap (λ i. wishes_from (take n s.drives) 0 (λ k. outcomes_seen (seen k)) ++ wish_given (member s n) (outcomes_seen (seen i)) ∷ []) (omega arith))

pub list_whole : (s : Known) (seen : ℕ → Seen) (n : ℕ) (wishes : List Wish) → length s.drives ≤ n →
    wishes ≡ wishes_from (take n s.drives) 0 (λ k. outcomes_seen (seen k)) → wishes ≡ wishes_from s.drives 0 (λ k. outcomes_seen (seen k))
list_whole s seen n wishes h so = so ∙ ap (λ ds. wishes_from ds 0 (λ k. outcomes_seen (seen k))) (take_all n s.drives h)

pub wish_there : (drives : List MemberView) (k n : ℕ) (outs : ℕ → List Outcome) → n < length drives → slice_index_or (wishes_from drives k outs) n no_wish ≡ wish_given (slice_index_or drives n no_member) (outs (k + n))
wish_there [] k n outs h = absurd (omega (arith, h))
wish_there (d ∷ drives) k zero outs h = ap (λ i. wish_given d (outs i)) (omega arith)
wish_there (d ∷ drives) k (suc n) outs h = wish_there drives (k + 1) n outs (omega (arith, h)) ∙ ap (λ i. wish_given (slice_index_or drives n no_member) (outs i)) (omega arith)

wish_addresses : (drives : List MemberView) (k : ℕ) (outs : ℕ → List Outcome) → map (λ d. d.address) (wishes_from drives k outs) ≡ map (λ d. d.address) drives
wish_addresses [] k outs = refl
wish_addresses (d ∷ drives) k outs = ap (λ ns. d.address ∷ ns) (wish_addresses drives (k + 1) outs)

pub is_valid : (s : Known) (outs : ℕ → List Outcome) → IsKnown s → nat_le (record_bytes (wishes_given s outs).drives) 2047 ≡ true → IsValid (wishes_given s outs)
is_valid s outs k fits = record {
  drives = record {
    some = rw (wishes_length s.drives 0 outs) k.some;
    few = rw (wishes_length s.drives 0 outs) k.few;
    wishes = λ i below.
        let within : i < length s.drives = rw (wishes_length s.drives 0 outs) at below in
        rw (wish_there s.drives 0 i outs within) (record {
          address = k.addresses i no_member within;
          at_len = lens (drop 6 (words_given (outs (0 + i)))) (length (member s i).at) (k.lists i no_member within).0;
          record_len = lens (drop (6 + length (member s i).at) (words_given (outs (0 + i)))) (length (member s i).mdt) (k.lists i no_member within).1;
        });
    apart = subst AreDistinct (sym (wish_addresses s.drives 0 outs)) k.apart;
    mdt_len = grind (arith, nat_tests, fits);
  };
  order = rw (wishes_length s.drives 0 outs) k.order;
  cycles = record { rate = k.cycles.rate; cycle = k.cycles.cycle; control = k.cycles.control; gap = k.cycles.gap };
}

pub fits_mdt : (w : WishesView) → IsValid w → nat_le (record_bytes w.drives) 2047 ≡ true
fits_mdt w v = let e : record_bytes w.drives ≤ 2047 = v.drives.mdt_len in grind (arith, nat_tests, e)

-- THE LAST LONG STOP OF THE RING
pub stop_more : (s : Known) (outs : ℕ → List Outcome) (n m : ℕ) → n < length s.drives → m ≡ n + 1 → long_stop (member s n).address (last_long (member s n).mdt (mdt_attributes (member s n) (outs n))) ≡ None →
    last_long_from (drop m s.drives) m outs ≡ None → last_long_from (drop n s.drives) n outs ≡ None
stop_more s outs n m h e short none =
    rw (drop_at n s.drives (member s n) (get_there s.drives n no_member h), ← e, none, short) refl

stop_passes : (n k : ℕ) (drives : List MemberView) (outs : ℕ → List Outcome) (x : Stop) → last_long_from (drop n drives) (k + n) outs ≡ Some x → last_long_from drives k outs ≡ Some x
stop_passes zero k drives outs x e = let f : k + 0 ≡ k = omega arith in rw f at e
stop_passes (suc n) k [] outs x e = absurd (cc)
stop_passes (suc n) k (d ∷ drives) outs x e =
    let f : k + suc n ≡ k + 1 + n = omega arith in
    rw (stop_passes n (k + 1) drives outs x (rw f at e)) refl

pub stop_there : (s : Known) (outs : ℕ → List Outcome) (n m : ℕ) (x : Stop) → n < length s.drives → m ≡ n + 1 → long_stop (member s n).address (last_long (member s n).mdt (mdt_attributes (member s n) (outs n))) ≡ Some x →
    last_long_from (drop m s.drives) m outs ≡ None → last_long_from s.drives 0 outs ≡ Some x
stop_there s outs n m x h e long none =
    let z : 0 + n ≡ n = omega arith in stop_passes n 0 s.drives outs x (rw z (rw (drop_at n s.drives (member s n) (get_there s.drives n no_member h), ← e, none) long))

pub stop_none : (s : Known) (outs : ℕ → List Outcome) (n : ℕ) → length s.drives ≤ n → last_long_from (drop n s.drives) n outs ≡ None
stop_none s outs n h = rw (drop_all n s.drives h) refl

pub push_room : (wishes : List Wish) (n : ℕ) (w : Wish) → length wishes ≡ min n 64 → n < 64 → (if nat_lt (length wishes) 64 then wishes ++ w ∷ [] else wishes) ≡ wishes ++ w ∷ []
push_room wishes n w e h = let f : nat_lt (length wishes) 64 ≡ true = grind (arith, nat_tests, e, h) in rw f refl

pub push_count : (wishes : List Wish) (n : ℕ) (w : Wish) → length wishes ≡ min n 64 → length (if nat_lt (length wishes) 64 then wishes ++ w ∷ [] else wishes) ≡ min (n + 1) 64
push_count wishes n w e = by (nat_lt (length wishes) 64) refl
  where
    by : (b : Bool) → nat_lt (length wishes) 64 ≡ b → length (if b then wishes ++ w ∷ [] else wishes) ≡ min (n + 1) 64
    by true f = let l : length (wishes ++ w ∷ []) ≡ length wishes + 1 = length_push wishes w in let h : length wishes < 64 = grind (arith, nat_tests, f) in omega (arith, l, e, h)
    by false f = let h : 64 ≤ length wishes = grind (arith, nat_tests, f) in omega (arith, e, h)

pub none_is : {A : Type 0} (o : Option A) → is_some o ≡ false → o ≡ None
none_is None e = refl
none_is (Some x) e = absurd (false≢true (sym e))

pub some_is : {A : Type 0} {P : Type 0} (o : Option A) → is_some o ≡ true → ((x : A) → o ≡ Some x → P) → P
some_is None e f = absurd (false≢true e)
some_is (Some x) e f = f x refl

pub not_fitting : (s : Known) (outs : ℕ → List Outcome) → IsKnown s → (IsValid (wishes_given s outs) → ⊥) → nat_le (record_bytes (wishes_given s outs).drives) 2047 ≡ false
not_fitting s outs k never = elim (cases_Bool (nat_le (record_bytes (wishes_given s outs).drives) 2047)) [
  | inl e ↦ absurd (never (is_valid s outs k e))
  | inr e ↦ rw e refl
]
