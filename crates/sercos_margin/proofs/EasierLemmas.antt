-- A plan that fits also fits wishes that ask less.
use Rattle.std.proofs.Common.{◌≡◌, ℕ, zero, suc, inl, inr, ◌+◌, ◌-◌, ◌*◌, ◌%◌, ◌<◌, ◌≤◌, max, List, [], ◌∷◌, length, refl, sym, ap, subst, ◌∙◌, arith}
use Rattle.std.specs.Prelude.{Option, Some, None, option_map}
use Rattle.std.specs.List.{fold}
use Rattle.std.proofs.Math.Nat.{mul-le-mul_left, mod_self}
use Rattle.std.proofs.Math.ListN.{set, get_or}
use Rattle.std.proofs.lemmas.List.{set-get_or}
use Rattle.sercos_model.specs.Frames.{wire_bits}
use Rattle.sercos_timing.specs.Views.{WishesView, PlanView}
use Rattle.sercos_timing.specs.Order.{no_wish, wish, times, same_slave, sent, neighbor, previous, at_bits, mdt_bits, record_bytes, bits_of}
use Rattle.sercos_timing.specs.Inequalities.{asked_1, asked_2, asked_3, asked_4, asked_5, asked_6, asked_7, asked_10, sum_9, greatest_tmtsy, positions, Meets, Keeps, Fits}
use Rattle.sercos_timing.specs.Valid.{IsCycle, AreDistinct, IsOrder, IsWish, IsValid, addresses}
use Rattle.sercos_timing.specs.declared.wishes.Times.{Times}
use Rattle.sercos_timing.specs.declared.wishes.Wish.{Wish}
use Rattle.sercos_plan.specs.Least.{IsLeast}
use Rattle.sercos_plan.proofs.PlanLemmas.{greatest_rises}
use Rattle.sercos_margin.specs.Margins.{time_in, declared, changed, changed_wish, with_time, with_cycle, HasPlan}
use Rattle.sercos_margin.specs.declared.changes.Time.{Time}
use Rattle.sercos_margin.specs.declared.changes.Time.TheVariants.{T1min, Tatmt, T4min, Tatat, Tmtsy, Tmtsg}

-- two wishes of one drive that differ in the times alone
pub record IsAlike (d e : Wish) : Type 0 where
  pub address : e.address ≡ d.address
  pub slave : e.slave ≡ d.slave
  pub at_len : e.at_len ≡ d.at_len
  pub record_len : e.record_len ≡ d.record_len

-- the times of the second are at most those of the first
pub record AreLess (a b : Times) : Type 0 where
  pub t1min : b.t1min ≤ a.t1min
  pub tatmt : b.tatmt ≤ a.tatmt
  pub t4min : b.t4min ≤ a.t4min
  pub tatat : b.tatat ≤ a.tatat
  pub tmtsy : b.tmtsy ≤ a.tmtsy
  pub tmtsg : b.tmtsg ≤ a.tmtsg

pub record IsEasier (d e : Wish) : Type 0 where
  pub alike : IsAlike d e
  pub less : AreLess d.times e.times

-- so at each place of the ring
abbrev pub Pairs : (Wish → Wish → Type 0) → List Wish → List Wish → Type 0
Pairs R [] [] = Unit {0}
Pairs R [] (e ∷ es) = ⊥
Pairs R (d ∷ ds) [] = ⊥
Pairs R (d ∷ ds) (e ∷ es) = R d e × Pairs R ds es

alike_same : (d : Wish) → IsAlike d d
alike_same d = record { address = refl; slave = refl; at_len = refl; record_len = refl }

less_same : (a : Times) → AreLess a a
less_same a = record { t1min = omega arith; tatmt = omega arith; t4min = omega arith; tatat = omega arith; tmtsy = omega arith; tmtsg = omega arith }

easier_same : (d : Wish) → IsEasier d d
easier_same d = record { alike = alike_same d; less = less_same d.times }

pairs_same : (R : Wish → Wish → Type 0) → ((d : Wish) → R d d) → (ds : List Wish) → Pairs R ds ds
pairs_same R same [] = tt
pairs_same R same (d ∷ ds) = (same d, pairs_same R same ds)

pairs_map : (R S : Wish → Wish → Type 0) → ((d e : Wish) → R d e → S d e) → (ds es : List Wish) → Pairs R ds es → Pairs S ds es
pairs_map R S f [] [] h = tt
pairs_map R S f [] (e ∷ es) h = absurd h
pairs_map R S f (d ∷ ds) [] h = absurd h
pairs_map R S f (d ∷ ds) (e ∷ es) h = (f d e h.0, pairs_map R S f ds es h.1)

pairs_set : (R : Wish → Wish → Type 0) → ((d : Wish) → R d d) → (ds : List Wish) (k : ℕ) (d e : Wish) → R d e → Pairs R (set ds k d) (set ds k e)
pairs_set R same [] k d e h = tt
pairs_set R same (x ∷ ds) zero d e h = (h, pairs_same R same ds)
pairs_set R same (x ∷ ds) (suc k) d e h = (same x, pairs_set R same ds k d e h)

pairs_at : (R : Wish → Wish → Type 0) → ((d : Wish) → R d d) → (ds es : List Wish) → Pairs R ds es → (k : ℕ) → R (get_or ds k no_wish) (get_or es k no_wish)
pairs_at R same [] [] h k = same no_wish
pairs_at R same [] (e ∷ es) h k = absurd h
pairs_at R same (d ∷ ds) [] h k = absurd h
pairs_at R same (d ∷ ds) (e ∷ es) h zero = h.0
pairs_at R same (d ∷ ds) (e ∷ es) h (suc k) = pairs_at R same ds es h.1 k

same_count : (ds es : List Wish) → Pairs IsAlike ds es → length es ≡ length ds
same_count [] [] h = refl
same_count [] (e ∷ es) h = absurd h
same_count (d ∷ ds) [] h = absurd h
same_count (d ∷ ds) (e ∷ es) h = ap suc (same_count ds es h.1)

abbrev added : ℕ → Wish → ℕ
added sum d = sum + d.record_len

same_sums : (sum : ℕ) (ds es : List Wish) → Pairs IsAlike ds es → fold added sum es ≡ fold added sum ds
same_sums sum [] [] h = refl
same_sums sum [] (e ∷ es) h = absurd h
same_sums sum (d ∷ ds) [] h = absurd h
same_sums sum (d ∷ ds) (e ∷ es) h = ap (λ n. fold added (sum + n) es) h.0.record_len ∙ same_sums (sum + d.record_len) ds es h.1

same_records : (ds es : List Wish) → Pairs IsAlike ds es → record_bytes es ≡ record_bytes ds
same_records ds es h = same_sums 0 ds es h

two_conses : (a b : ℕ) (xs ys : List ℕ) → a ≡ b → xs ≡ ys → (a ∷ xs) ≡ (b ∷ ys)
two_conses a b xs ys e f = rw (e, f) refl

same_addresses : (ds es : List Wish) → Pairs IsAlike ds es → addresses es ≡ addresses ds
same_addresses [] [] h = refl
same_addresses [] (e ∷ es) h = absurd h
same_addresses (d ∷ ds) [] h = absurd h
same_addresses (d ∷ ds) (e ∷ es) h = two_conses _ _ _ _ h.0.address (same_addresses ds es h.1)

same_positions : (next : ℕ) (ds es : List Wish) → Pairs IsAlike ds es → positions next es ≡ positions next ds
same_positions next [] [] h = refl
same_positions next [] (e ∷ es) h = absurd h
same_positions next (d ∷ ds) [] h = absurd h
same_positions next (d ∷ ds) (e ∷ es) h =
    two_conses next next _ _ refl (ap (λ n. positions (next + n) es) h.0.record_len ∙ same_positions (next + d.record_len) ds es h.1)

-- numbers
le_both : (a b c : ℕ) → a ≤ b → b ≤ c → a ≤ c
le_both a b c h g = omega arith

sum_less : (b a z g h : ℕ) → z ≡ a → h ≤ g → b + (z + h) ≤ b + (a + g)
sum_less b a z g h same less = omega arith

take_less : (a b k : ℕ) → a ≤ b → a - k ≤ b - k
take_less a b k h = omega arith

max_less : (g a b : ℕ) → a ≤ b → max g a ≤ max g b
max_less g a b h = omega arith

-- what is asked
meets_mapped : (o p : Option ℕ) (f g : ℕ → ℕ) (x : ℕ) → p ≡ o → ((j : ℕ) → g j ≤ f j) → Meets (option_map f o) x → Meets (option_map g p) x
meets_mapped o p f g x same less h = subst (λ (q : Option ℕ). Meets (option_map g q) x) (sym same) (mapped o h)
  where
    mapped : (q : Option ℕ) → Meets (option_map f q) x → Meets (option_map g q) x
    mapped None m = tt
    mapped (Some j) m = le_both _ _ _ (less j) m

keeps_less : (asked less : ℕ → List ℕ → Option ℕ) (b c : ℕ → ℕ) → ((k : ℕ) (before : List ℕ) → Meets (asked k before) (b k) → Meets (less k before) (c k)) →
    (ats : List ℕ) → Keeps asked b ats → Keeps less c ats
keeps_less asked less b c step [] h = tt
keeps_less asked less b c step (k ∷ before) h = (step k before h.0, keeps_less asked less b c step before h.1)

module _ (w : WishesView) (c d : ℕ) (es : List Wish) (easier : Pairs IsEasier w.drives es) where
  abbrev other : WishesView
  other = record w { cycle = c; control = d; drives = es }

  here : (k : ℕ) → IsEasier (wish w k) (wish other k)
  here k = pairs_at IsEasier easier_same w.drives es easier k

  alike : Pairs IsAlike w.drives es
  alike = pairs_map IsEasier IsAlike (λ x y h. h.alike) w.drives es easier

  same_slaves : (j k : ℕ) → same_slave other j k ≡ same_slave w j k
  same_slaves j k = rw ((here j).alike.slave, (here k).alike.slave) refl

  same_neighbor : (k : ℕ) (before : List ℕ) → neighbor other k before ≡ neighbor w k before
  same_neighbor k [] = refl
  same_neighbor k (j ∷ before) = rw (same_slaves j k) refl

  same_previous : (k : ℕ) (before : List ℕ) → previous other k before ≡ previous w k before
  same_previous k [] = refl
  same_previous k (j ∷ before) = rw (same_slaves j k, same_previous k before) refl

  same_at : (k : ℕ) → at_bits other k ≡ at_bits w k
  same_at k = ap (λ n. wire_bits (n + 1)) (here k).alike.at_len

  same_mdt : mdt_bits other ≡ mdt_bits w
  same_mdt = ap (λ n. wire_bits (n + 1)) (same_records w.drives es alike)

  less_1 : (b : ℕ → ℕ) (k : ℕ) (before : List ℕ) → Meets (asked_1 w b k before) (b k) → Meets (asked_1 other b k before) (b k)
  less_1 b k before h = le_both _ _ _ (mul-le-mul_left w.rate (here k).less.t1min) h

  less_2 : (b : ℕ → ℕ) (k : ℕ) (before : List ℕ) → Meets (asked_2 w b k before) (b k) → Meets (asked_2 other b k before) (b k)
  less_2 b k [] h = h
  less_2 b k (j ∷ before) h = tt

  less_3 : (b : ℕ → ℕ) (k : ℕ) (before : List ℕ) → Meets (asked_3 w b k before) (b k) → Meets (asked_3 other b k before) (b k)
  less_3 b k before =
      meets_mapped (neighbor w k before) (neighbor other k before) (λ j. b j + (at_bits w j + w.rate * w.gap)) (λ j. b j + (at_bits other j + w.rate * w.gap)) (b k)
      (same_neighbor k before) (λ j. sum_less (b j) _ _ _ _ (same_at j) (mul-le-mul_left w.rate (omega arith)))

  less_4 : (b : ℕ → ℕ) (k : ℕ) (before : List ℕ) → Meets (asked_4 w b k before) (b k) → Meets (asked_4 other b k before) (b k)
  less_4 b k before =
      meets_mapped (previous w k before) (previous other k before) (λ j. b j + (at_bits w j + w.rate * (times w k).tatat)) (λ j. b j + (at_bits other j + w.rate * (times other k).tatat)) (b k)
      (same_previous k before) (λ j. sum_less (b j) _ _ _ _ (same_at j) (mul-le-mul_left w.rate (here k).less.tatat))

  less_5 : (b : ℕ → ℕ) (x : ℕ) (ats : List ℕ) → Meets (asked_5 w b ats) x → Meets (asked_5 other b ats) x
  less_5 b x [] h = tt
  less_5 b x (k ∷ before) h = le_both _ _ _ (sum_less (b k) _ _ (w.rate * w.gap) (w.rate * w.gap) (same_at k) (omega arith)) h

  less_6 : (b : ℕ → ℕ) (x k : ℕ) (before : List ℕ) → Meets (asked_6 w b k before) x → Meets (asked_6 other b k before) x
  less_6 b x k before h = le_both _ _ _ (sum_less (b k) _ _ _ _ (same_at k) (mul-le-mul_left w.rate (here k).less.tatmt)) h

  less_7 : (b x k : ℕ) (before : List ℕ) → Meets (asked_7 w b k before) x → Meets (asked_7 other b k before) x
  less_7 b x k before h = le_both _ _ _ (sum_less b _ _ _ _ same_mdt (mul-le-mul_left w.rate (here k).less.tmtsg)) h

  less_9 : (b : ℕ) → sum_9 other b (greatest_tmtsy other) ≤ sum_9 w b (greatest_tmtsy w)
  less_9 b =
      sum_less b _ _ _ _ same_mdt (mul-le-mul_left w.rate (max_less w.gap _ _
      (greatest_rises (λ k. (times other k).tmtsy) (λ k. (times w k).tmtsy) (sent w) (λ k. (here k).less.tmtsy))))

  less_10 : w.cycle ≤ c → (t4 k : ℕ) (before : List ℕ) → Meets (asked_10 w t4 k before) w.cycle → Meets (asked_10 other t4 k before) c
  less_10 longer t4 k before h = let small = (here k).less.t4min in sum_within _ _ _ _ _ small h longer
    where
      sum_within : (t a z x y : ℕ) → z ≤ a → t + a ≤ x → x ≤ y → t + z ≤ y
      sum_within t a z x y f g i = omega arith

  -- the plan that fits, with times that are at most those and a cycle time that is at least that
  pub easier_fits : w.cycle ≤ c → 0 < d → d % c ≡ 0 → (p : PlanView) → Fits w p → Fits other p
  easier_fits longer some multiple p f =
      let b : ℕ → ℕ = bits_of w p.t1 in
      record {
        times = f.times ∙ sym (same_count w.drives es alike);
        places = f.places ∙ sym (same_count w.drives es alike);
        rule_1 = keeps_less (asked_1 w b) (asked_1 other b) b b (less_1 b) (sent w) f.rule_1;
        rule_2 = keeps_less (asked_2 w b) (asked_2 other b) b b (less_2 b) (sent w) f.rule_2;
        rule_3 = keeps_less (asked_3 w b) (asked_3 other b) b b (less_3 b) (sent w) f.rule_3;
        rule_4 = keeps_less (asked_4 w b) (asked_4 other b) b b (less_4 b) (sent w) f.rule_4;
        rule_5 = less_5 b (w.rate * p.t2) (sent w) f.rule_5;
        rule_6 = keeps_less (asked_6 w b) (asked_6 other b) (λ k. w.rate * p.t2) (λ k. w.rate * p.t2) (less_6 b (w.rate * p.t2)) (sent w) f.rule_6;
        rule_7 = keeps_less (asked_7 w (w.rate * p.t2)) (asked_7 other (w.rate * p.t2)) (λ k. w.rate * p.t3) (λ k. w.rate * p.t3) (less_7 (w.rate * p.t2) (w.rate * p.t3)) (sent w) f.rule_7;
        rule_8 = le_both _ _ _ f.rule_8 longer;
        rule_9 = le_both _ _ _ (less_9 (w.rate * p.t2)) (le_both _ _ _ f.rule_9 (take_less (w.rate * w.cycle) (w.rate * c) (wire_bits 2) (mul-le-mul_left w.rate longer)));
        rule_10 = keeps_less (asked_10 w p.t4) (asked_10 other p.t4) (λ k. w.cycle) (λ k. c) (less_10 longer p.t4) (sent w) f.rule_10;
        rule_11 = (some, multiple);
        rule_12 = (f.rule_12.0 ∙ sym (same_positions 1 w.drives es alike), f.rule_12.1 ∙ sym (same_records w.drives es alike));
      }

-- one time that is less
less_changed : (t : Time) (u v : ℕ) → u ≤ v → (a : Times) → AreLess (changed t v a) (changed t u a)
less_changed T1min u v h a = record { t1min = h; tatmt = omega arith; t4min = omega arith; tatat = omega arith; tmtsy = omega arith; tmtsg = omega arith }
less_changed Tatmt u v h a = record { t1min = omega arith; tatmt = h; t4min = omega arith; tatat = omega arith; tmtsy = omega arith; tmtsg = omega arith }
less_changed T4min u v h a = record { t1min = omega arith; tatmt = omega arith; t4min = h; tatat = omega arith; tmtsy = omega arith; tmtsg = omega arith }
less_changed Tatat u v h a = record { t1min = omega arith; tatmt = omega arith; t4min = omega arith; tatat = h; tmtsy = omega arith; tmtsg = omega arith }
less_changed Tmtsy u v h a = record { t1min = omega arith; tatmt = omega arith; t4min = omega arith; tatat = omega arith; tmtsy = h; tmtsg = omega arith }
less_changed Tmtsg u v h a = record { t1min = omega arith; tatmt = omega arith; t4min = omega arith; tatat = omega arith; tmtsy = omega arith; tmtsg = h }

alike_changed : (t : Time) (v : ℕ) (d : Wish) → IsAlike d (changed_wish t v d)
alike_changed t v d = record { address = refl; slave = refl; at_len = refl; record_len = refl }

pub less_time : (w : WishesView) (p : PlanView) (k : ℕ) (t : Time) (u v : ℕ) → u ≤ v → Fits (with_time w k t v) p → Fits (with_time w k t u) p
less_time w p k t u v less f =
    let easier : IsEasier (changed_wish t v (wish w k)) (changed_wish t u (wish w k)) =
    record { alike = record { address = refl; slave = refl; at_len = refl; record_len = refl }; less = less_changed t u v less (times w k) } in
    easier_fits (with_time w k t v) w.cycle w.control (set w.drives k (changed_wish t u (wish w k)))
    (pairs_set IsEasier easier_same w.drives k _ _ easier) (omega arith) f.rule_11.0 f.rule_11.1 p f

-- a longer cycle
pub longer_cycle : (w : WishesView) (p : PlanView) (c d : ℕ) → 0 < c → c ≤ d → Fits (with_cycle w c) p → Fits (with_cycle w d) p
longer_cycle w p c d some longer f =
    easier_fits (with_cycle w c) d d w.drives (pairs_same IsEasier easier_same w.drives) longer (le_both _ _ _ some longer) (mod_self d) p f

-- the wishes stay valid
alike_valid : (w : WishesView) (es : List Wish) → Pairs IsAlike w.drives es → IsValid w → IsValid (record w { drives = es })
alike_valid w es alike valid =
    let count = same_count w.drives es alike in
    record {
      drives = record {
        some = rw count valid.drives.some;
        few = rw count valid.drives.few;
        wishes = λ k below. still (wish w k) (get_or es k no_wish) (pairs_at IsAlike alike_same w.drives es alike k) (valid.drives.wishes k (rw count at below));
        apart = subst AreDistinct (sym (same_addresses w.drives es alike)) valid.drives.apart;
        mdt_len = rw (same_records w.drives es alike) valid.drives.mdt_len;
      };
      order = subst (λ n. IsOrder w.order n) (sym count) valid.order;
      cycles = record { rate = valid.cycles.rate; cycle = valid.cycles.cycle; control = valid.cycles.control; gap = valid.cycles.gap };
    }
  where
    still : (d e : Wish) → IsAlike d e → IsWish d → IsWish e
    still d e same is = record {
      address = rw same.address is.address;
      at_len = rw same.at_len is.at_len;
      record_len = rw same.record_len is.record_len;
    }

pub valid_time : (w : WishesView) (k : ℕ) (t : Time) (v : ℕ) → IsValid w → IsValid (with_time w k t v)
valid_time w k t v valid =
    alike_valid w _ (subst (λ ds. Pairs IsAlike ds (set w.drives k (changed_wish t v (wish w k)))) (set-get_or w.drives k no_wish)
    (pairs_set IsAlike alike_same w.drives k (wish w k) _ (alike_changed t v (wish w k)))) valid

pub valid_cycle : (w : WishesView) (c : ℕ) → IsCycle c → IsValid w → IsValid (with_cycle w c)
valid_cycle w c is valid =
    record {
      drives = record {
        some = valid.drives.some;
        few = valid.drives.few;
        wishes = valid.drives.wishes;
        apart = valid.drives.apart;
        mdt_len = valid.drives.mdt_len;
      };
      order = valid.order;
      cycles = record { rate = valid.cycles.rate; cycle = is; control = (some is, mod_self c); gap = valid.cycles.gap };
    }
  where
    some : IsCycle c → 1 ≤ c
    some (inl e) = omega arith
    some (inr h) = let long = h.0 in omega arith

-- the least plan is one that fits
pub some_plan : (w : WishesView) (p : PlanView) → IsLeast w p → HasPlan w
some_plan w p least = (p, least.fits)

-- the declared time in its own place
same_changed : (t : Time) (d : Wish) → changed_wish t (time_in t d.times) d ≡ d
same_changed T1min d = refl
same_changed Tatmt d = refl
same_changed T4min d = refl
same_changed Tatat d = refl
same_changed Tmtsy d = refl
same_changed Tmtsg d = refl

pub declared_plan : (w : WishesView) (k : ℕ) (t : Time) (n : ℕ) → n ≡ declared w k t → HasPlan w → HasPlan (with_time w k t n)
declared_plan w k t n is h =
    let same : with_time w k t (declared w k t) ≡ w =
    ap (λ (ds : List Wish). record w { drives = ds }) (ap (set w.drives k) (same_changed t (wish w k)) ∙ set-get_or w.drives k no_wish) in
    subst (λ v. HasPlan (with_time w k t v)) (sym is) (subst HasPlan (sym same) h)
