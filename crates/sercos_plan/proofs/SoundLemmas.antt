-- Where there is a chain, no plan fits.
use Rattle.std.proofs.Common.{◌≡◌, ℕ, zero, suc, ◌+◌, ◌-◌, ◌*◌, ◌<◌, ◌≤◌, inl, inr, max, Bool, true, false, List, [], ◌∷◌, length, slice_index, refl, sym, ap, subst, ◌∙◌, arith}
use Rattle.std.specs.Prelude.{Option, Some, None, option_map, ◌==◌, ◌&&◌, if◌then◌else◌}
use Rattle.std.proofs.Math.Nat.{mul-le-mul_left}
use Rattle.std.proofs.lemmas.Bool.{cases_Bool, cases_order, eqb-true, and_parts}
use Rattle.std.proofs.lemmas.Option.{some_pair_parts, same_Some}
use Rattle.sercos_timing.specs.Views.{WishesView, PlanView}
use Rattle.sercos_timing.specs.Order.{no_wish, wish, times, sent, first_sent, neighbor, previous, at_bits, bits_of}
use Rattle.sercos_timing.specs.Inequalities.{of_number, asked_1, asked_2, asked_3, asked_4, asked_5, asked_6, asked_7, asked_10, sum_9, bound_9, greatest_tmtsy, Meets, Keeps, Fits}
use Rattle.sercos_plan.specs.Least.{NoneFits}
use Rattle.sercos_timing.specs.Valid.{IsValid, addresses}
use Rattle.std.proofs.lemmas.List.{length-map, get_or-map}
use Rattle.sercos_plan.proofs.LeastLemmas.{Among, IsFrom, neighbor-from, previous-from, round_up-least}
use Rattle.sercos_plan.proofs.PlanLemmas.{among_within, rate_some, among_greatest}
use Rattle.sercos_plan.specs.Views.{ChainView}
use Rattle.sercos_timing.specs.declared.inequality.Inequality.{Inequality}
use Rattle.sercos_timing.specs.declared.inequality.Inequality.TheVariants.{Own, Gap, Neighbor, Slave, Last, Master, Records, Cycle, NextMst, Capture, Control, Positions}
use Rattle.sercos_plan.specs.Chains.{Moment, of_t1, of_t2, of_t3, of_none, moment_of, is_t1, is_t2, is_t3, up_to, last_place, is_t1_of, given_if, asked_after, Gives, Linked, last_link, head_of, pause_of, ended_if, ends, IsChain}
use Rattle.sercos_plan.specs.declared.chain.Link.{Link}

-- what is known of the drive that an address names
pub record IsAt (w : WishesView) (address k : ℕ) (before ats : List ℕ) : Type 0 where
  pub named : (wish w k).address ≡ address
  pub among : Among k ats
  pub kept : (asked : ℕ → List ℕ → Option ℕ) (has : ℕ → ℕ) → Keeps asked has ats → Meets (asked k before) (has k)

cons_parts : (k j : ℕ) (xs ys : List ℕ) → k ∷ xs ≡ j ∷ ys → (k ≡ j) × (xs ≡ ys)
cons_parts k j xs ys e = (cc, cc)

pub is_at : (w : WishesView) (address k : ℕ) (before ats : List ℕ) → up_to w address ats ≡ k ∷ before → IsAt w address k before ats
is_at w address k before [] e = absurd (let h : [] ≡ k ∷ before = e in cc)
is_at w address k before (j ∷ rest) e = elim (cases_Bool ((wish w j).address == address)) [
  | inl same ↦
      let parts = cons_parts j k rest before (rw same at e) in
      record {
        named = ap (λ i. (wish w i).address) (sym parts.0) ∙ eqb-true _ _ same;
        among = inl (sym parts.0);
        kept = λ asked has keeps. rw (← parts.0, ← parts.1) (keeps.0);
      }
  | inr other ↦
      let there = is_at w address k before rest (rw other at e) in
      record { named = there.named; among = inr there.among; kept = λ asked has keeps. there.kept asked has keeps.1 }
]

-- one drive for each address
pub apart_at : (w : WishesView) → IsValid w → (j k : ℕ) → j < k → k < length w.drives → (wish w j).address ≡ (wish w k).address → ⊥
apart_at w valid j k less within same =
    let count : length (addresses w.drives) ≡ length w.drives = length-map w.drives (λ d. d.address) in
    valid.drives.apart j k less (omega arith) (address_is j (omega arith) ∙ same ∙ sym (address_is k within))
  where
    address_is : (i : ℕ) → i < length w.drives → slice_index (addresses w.drives) i ≡ (wish w i).address
    address_is i below = get_or-map (λ d. d.address) w.drives i no_wish 0 below

pub one_place : (w : WishesView) → IsValid w → (j k : ℕ) → Among j (sent w) → Among k (sent w) → (wish w j).address ≡ (wish w k).address → j ≡ k
one_place w valid j k in_j in_k same = elim (cases_order j k) [
  | inl e ↦ e
  | inr (inl less) ↦ absurd (apart_at w valid j k less (among_within w valid k in_k) same)
  | inr (inr more) ↦ absurd (apart_at w valid k j more (among_within w valid j in_j) (sym same))
]

module _ (w : WishesView) (valid : IsValid w) (p : PlanView) (fits : Fits w p) where
  -- a bit time that T1 of this drive has at least
  abbrev pub BoundsStart : ℕ → ℕ → Type 0
  BoundsStart drive time = (j : ℕ) → Among j (sent w) → (wish w j).address ≡ drive → time ≤ w.rate * slice_index p.t1 j

  abbrev pub Bounds : ℕ → ℕ → Moment → Type 0
  Bounds drive time of_t1 = BoundsStart drive time
  Bounds drive time of_t2 = time ≤ w.rate * p.t2
  Bounds drive time of_t3 = time ≤ w.rate * p.t3
  Bounds drive time of_none = Unit {0}

  abbrev pub BoundsLink : Option Link → Type 0
  BoundsLink None = Unit {0}
  BoundsLink (Some l) = Bounds l.drive l.at (moment_of (of_number l.rule))

  t1_bound : (drive time : ℕ) (moment : Moment) → is_t1 moment ≡ true → Bounds drive time moment → BoundsStart drive time
  t1_bound drive time of_t1 e h = h
  t1_bound drive time of_t2 e h = cc
  t1_bound drive time of_t3 e h = cc
  t1_bound drive time of_none e h = cc

  t2_bound : (drive time : ℕ) (moment : Moment) → is_t2 moment ≡ true → Bounds drive time moment → time ≤ w.rate * p.t2
  t2_bound drive time of_t1 e h = cc
  t2_bound drive time of_t2 e h = h
  t2_bound drive time of_t3 e h = cc
  t2_bound drive time of_none e h = cc

  t3_bound : (drive time : ℕ) (moment : Moment) → is_t3 moment ≡ true → Bounds drive time moment → time ≤ w.rate * p.t3
  t3_bound drive time of_t1 e h = cc
  t3_bound drive time of_t2 e h = cc
  t3_bound drive time of_t3 e h = h
  t3_bound drive time of_none e h = cc

  -- what is given is met by every time that meets what is asked
  given : (o : Option ℕ) (time t : ℕ) → Gives w o time → Meets o (w.rate * t) → time ≤ w.rate * t
  given None time t h m = absurd h
  given (Some a) time t h m =
      let up = round_up-least w.rate a t (rate_some w valid) m in
      let more = mul-le-mul_left w.rate up in
      omega arith

  given_if_given : (b : Bool) (o : Option ℕ) (time : ℕ) → Gives w (given_if b o) time → (b ≡ true) × Gives w o time
  given_if_given true o time h = (refl, h)
  given_if_given false o time h = absurd h

  -- the earlier time is T1 of j, and the link before bounds it
  from_start : (l : Link) (o : Option ℕ) (d : ℕ → ℕ) (time t : ℕ) → IsFrom o (sent w) → Bounds l.drive l.at (moment_of (of_number l.rule)) →
      Gives w (given_if (is_t1_of w l o) (option_map (λ j. l.at + d j) o)) time → Meets (option_map (λ j. bits_of w p.t1 j + d j) o) (w.rate * t) → time ≤ w.rate * t
  from_start l None d time t from bound h m = absurd h
  from_start l (Some j) d time t from bound h m =
      let parts = given_if_given (is_t1_of w l (Some j)) (Some (l.at + d j)) time h in
      let tests = and_parts (is_t1 (moment_of (of_number l.rule))) ((wish w j).address == l.drive) parts.0 in
      let low = t1_bound l.drive l.at (moment_of (of_number l.rule)) tests.0 bound j from (eqb-true _ _ tests.1) in
      given (Some (l.at + d j)) time t parts.1 (joined _ _ _ _ low m)
    where
      joined : (a b c z : ℕ) → a ≤ b → b + c ≤ z → a + c ≤ z
      joined a b c z h g = omega arith

  among_rest : (o : Option ℕ) (k : ℕ) (before ats : List ℕ) (drive : ℕ) → up_to w drive ats ≡ k ∷ before → IsFrom o before → IsFrom o ats
  among_rest None k before ats drive e h = tt
  among_rest (Some j) k before [] drive e h = absurd (let f : [] ≡ k ∷ before = e in cc)
  among_rest (Some j) k before (i ∷ rest) drive e h = elim (cases_Bool ((wish w i).address == drive)) [
    | inl same ↦ let parts = cons_parts i k rest before (rw same at e) in let P : List ℕ → Type 0 = λ ks. Among j ks in inr (subst P (sym parts.1) h)
    | inr other ↦ inr (among_rest (Some j) k before rest drive (rw other at e) h)
  ]

  -- at T1 of the drive that the address names
  at_start : (drive time k : ℕ) (before : List ℕ) → up_to w drive (sent w) ≡ k ∷ before → time ≤ w.rate * slice_index p.t1 k → BoundsStart drive time
  at_start drive time k before e h j among named =
      let there = is_at w drive k before (sent w) e in
      let P : ℕ → Type 0 = λ i. time ≤ w.rate * slice_index p.t1 i in
      subst P (one_place w valid k j there.among among (there.named ∙ sym named)) h

  five_bound : (order : List ℕ) (n x : ℕ) (b : ℕ → ℕ) (time t : ℕ) → x ≤ b (slice_index order (n - 1)) → Gives w (asked_5 w (λ _. x) (first_sent order n)) time → Meets (asked_5 w b (first_sent order n)) (w.rate * t) → time ≤ w.rate * t
  five_bound order zero x b time t low h m = absurd h
  five_bound order (suc n) x b time t low h m =
      let e : suc n - 1 ≡ n = omega arith in
      given (asked_5 w (λ _. x) (first_sent order (suc n))) time t h (joined _ _ _ _ (rw e at low) m)
    where
      joined : (a b c z : ℕ) → a ≤ b → b + c ≤ z → a + c ≤ z
      joined a b c z h g = omega arith

  step : (rule : Option Inequality) (from : Option Link) (drive time : ℕ) (ats : List ℕ) → up_to w drive (sent w) ≡ ats → BoundsLink from → Gives w (asked_after w rule from ats) time → Bounds drive time (moment_of rule)
  step (Some Own) None drive time [] e bound h = absurd h
  step (Some Own) None drive time (k ∷ before) e bound h =
      at_start drive time k before e (given (asked_1 w (λ _. 0) k before) time (slice_index p.t1 k) h ((is_at w drive k before (sent w) e).kept (asked_1 w (bits_of w p.t1)) (bits_of w p.t1) fits.rule_1))
  step (Some Own) (Some l) drive time ats e bound h = absurd h
  step (Some Gap) None drive time [] e bound h = absurd h
  step (Some Gap) None drive time (k ∷ []) e bound h =
      at_start drive time k [] e (given (asked_2 w (λ _. 0) k []) time (slice_index p.t1 k) h ((is_at w drive k [] (sent w) e).kept (asked_2 w (bits_of w p.t1)) (bits_of w p.t1) fits.rule_2))
  step (Some Gap) None drive time (k ∷ (j ∷ before)) e bound h = absurd h
  step (Some Gap) (Some l) drive time ats e bound h = absurd h
  step (Some Neighbor) None drive time ats e bound h = absurd h
  step (Some Neighbor) (Some l) drive time [] e bound h = absurd h
  step (Some Neighbor) (Some l) drive time (k ∷ before) e bound h =
      at_start drive time k before e
      (from_start l (neighbor w k before) (λ j. at_bits w j + w.rate * w.gap) time (slice_index p.t1 k) (among_rest (neighbor w k before) k before (sent w) drive e (neighbor-from w k before)) bound h
      ((is_at w drive k before (sent w) e).kept (asked_3 w (bits_of w p.t1)) (bits_of w p.t1) fits.rule_3))
  step (Some Slave) None drive time ats e bound h = absurd h
  step (Some Slave) (Some l) drive time [] e bound h = absurd h
  step (Some Slave) (Some l) drive time (k ∷ before) e bound h =
      at_start drive time k before e
      (from_start l (previous w k before) (λ j. at_bits w j + w.rate * (times w k).tatat) time (slice_index p.t1 k) (among_rest (previous w k before) k before (sent w) drive e (previous-from w k before)) bound h
      ((is_at w drive k before (sent w) e).kept (asked_4 w (bits_of w p.t1)) (bits_of w p.t1) fits.rule_4))
  step (Some Last) None drive time ats e bound h = absurd h
  step (Some Last) (Some l) drive time [] e bound h = absurd h
  step (Some Last) (Some l) drive time (k ∷ before) e bound h =
      let parts = given_if_given (is_t1_of w l (Some k) && (k == last_place w)) (asked_5 w (λ _. l.at) (sent w)) time h in
      let tests = and_parts (is_t1_of w l (Some k)) (k == last_place w) parts.0 in
      let here = and_parts (is_t1 (moment_of (of_number l.rule))) ((wish w k).address == l.drive) tests.0 in
      let low = t1_bound l.drive l.at (moment_of (of_number l.rule)) here.0 bound k (is_at w drive k before (sent w) e).among (eqb-true _ _ here.1) in
      let P : ℕ → Type 0 = λ i. l.at ≤ w.rate * slice_index p.t1 i in
      five_bound w.order (length w.order) l.at (bits_of w p.t1) time p.t2 (subst P (eqb-true _ _ tests.1) low) parts.1 fits.rule_5
  step (Some Master) None drive time ats e bound h = absurd h
  step (Some Master) (Some l) drive time [] e bound h = absurd h
  step (Some Master) (Some l) drive time (k ∷ before) e bound h =
      from_start l (Some k) (λ j. at_bits w j + w.rate * (times w j).tatmt) time p.t2 (is_at w drive k before (sent w) e).among bound h
      ((is_at w drive k before (sent w) e).kept (asked_6 w (bits_of w p.t1)) (λ _. w.rate * p.t2) fits.rule_6)
  step (Some Records) None drive time ats e bound h = absurd h
  step (Some Records) (Some l) drive time [] e bound h = absurd h
  step (Some Records) (Some l) drive time (k ∷ before) e bound h =
      let parts = given_if_given (is_t2 (moment_of (of_number l.rule))) (asked_7 w l.at k before) time h in
      let low = t2_bound l.drive l.at (moment_of (of_number l.rule)) parts.0 bound in
      let high = (is_at w drive k before (sent w) e).kept (asked_7 w (w.rate * p.t2)) (λ _. w.rate * p.t3) fits.rule_7 in
      given (asked_7 w l.at k before) time p.t3 parts.1 (joined _ _ _ _ low high)
    where
      joined : (a b c z : ℕ) → a ≤ b → b + c ≤ z → a + c ≤ z
      joined a b c z h g = omega arith
  step (Some Cycle) from drive time ats e bound h = tt
  step (Some NextMst) from drive time ats e bound h = tt
  step (Some Capture) from drive time ats e bound h = tt
  step (Some Control) from drive time ats e bound h = tt
  step (Some Positions) from drive time ats e bound h = tt
  step None from drive time ats e bound h = tt

  -- each link bounds its time, so the last one does
  all_bound : (from : Option Link) (links : List Link) → BoundsLink from → Linked w from links → BoundsLink (last_link from links)
  all_bound from [] bound h = bound
  all_bound from (l ∷ links) bound h = all_bound (Some l) links (step (of_number l.rule) from l.drive l.at (up_to w l.drive (sent w)) refl bound h.0) h.1

  -- the sum of each bound is at most the bound
  ended_if_ended : (b : Bool) (o : Option (ℕ × ℕ)) (x : ℕ × ℕ) → ended_if b o ≡ Some x → (b ≡ true) × (o ≡ Some x)
  ended_if_ended true o x h = (refl, h)
  ended_if_ended false o x h = cc

  pause_bound : (o : Option ℕ) (time sum bound : ℕ) → ((s : ℕ) → o ≡ Some s → max w.gap s ≤ max w.gap (greatest_tmtsy w)) → time ≤ w.rate * p.t2 →
      option_map {U = ℕ × ℕ} (λ s. (sum_9 w time s, bound_9 w)) o ≡ Some (sum, bound) → sum ≤ bound
  pause_bound None time sum bound less low h = cc
  pause_bound (Some s) time sum bound less low h =
      let parts = some_pair_parts (sum_9 w time s) sum (bound_9 w) bound h in
      let more = mul-le-mul_left w.rate (less s refl) in
      let room = fits.rule_9 in
      joined _ _ _ _ _ _ _ _ parts.0 parts.1 low more room
    where
      joined : (a b m x y sum c bound : ℕ) → a + (m + x) ≡ sum → c ≡ bound → a ≤ b → x ≤ y → b + (m + y) ≤ c → sum ≤ bound
      joined a b m x y sum c bound e g h i j = omega arith

  pause_less : (drive s : ℕ) (o : List ℕ) → up_to w drive (sent w) ≡ o → (if drive == 0 then Some w.gap else option_map (λ k. (times w k).tmtsy) (head_of o)) ≡ Some s → max w.gap s ≤ max w.gap (greatest_tmtsy w)
  pause_less drive s o e h = elim (cases_Bool (drive == 0)) [
    | inl same ↦ let is = same_Some w.gap s (rw same at h) in omega arith
    | inr other ↦ other_less o e (rw other at h)
  ]
    where
      other_less : (o : List ℕ) → up_to w drive (sent w) ≡ o → option_map (λ k. (times w k).tmtsy) (head_of o) ≡ Some s → max w.gap s ≤ max w.gap (greatest_tmtsy w)
      other_less [] e h = cc
      other_less (k ∷ before) e h =
          let is = same_Some (times w k).tmtsy s h in
          let low = among_greatest (λ i. (times w i).tmtsy) (sent w) k (is_at w drive k before (sent w) e).among in
          omega arith

  next_bound : (drive sum bound : ℕ) (o : List ℕ) → up_to w drive (sent w) ≡ o → option_map {U = ℕ × ℕ} (λ k. (w.rate * (times w k).t4min, w.rate * w.cycle)) (head_of o) ≡ Some (sum, bound) → sum ≤ bound
  next_bound drive sum bound [] e h = cc
  next_bound drive sum bound (k ∷ before) e h =
      let parts = some_pair_parts (w.rate * (times w k).t4min) sum (w.rate * w.cycle) bound h in
      let room = (is_at w drive k before (sent w) e).kept (asked_10 w p.t4) (λ _. w.cycle) fits.rule_10 in
      let less = mul-le-mul_left w.rate (rest _ _ _ room) in
      joined _ _ _ _ parts.0 parts.1 less
    where
      rest : (a b c : ℕ) → a + b ≤ c → b ≤ c
      rest a b c h = omega arith

      joined : (a sum c bound : ℕ) → a ≡ sum → c ≡ bound → a ≤ c → sum ≤ bound
      joined a sum c bound e g h = omega arith

  end_bound : (rule : Option Inequality) (drive : ℕ) (from : Option Link) (sum bound : ℕ) → BoundsLink from → ends w rule drive from ≡ Some (sum, bound) → sum ≤ bound
  end_bound (Some NextMst) drive (Some l) sum bound low h =
      let parts = ended_if_ended (is_t2 (moment_of (of_number l.rule))) (option_map {U = ℕ × ℕ} (λ s. (sum_9 w l.at s, bound_9 w)) (pause_of w drive)) (sum, bound) h in
      pause_bound (pause_of w drive) l.at sum bound (λ s e. pause_less drive s (up_to w drive (sent w)) refl e) (t2_bound l.drive l.at (moment_of (of_number l.rule)) parts.0 low) parts.1
  end_bound (Some Cycle) drive (Some l) sum bound low h =
      let parts = ended_if_ended (is_t3 (moment_of (of_number l.rule)) && (drive == l.drive)) (Some (l.at, w.rate * w.cycle)) (sum, bound) h in
      let tests = and_parts (is_t3 (moment_of (of_number l.rule))) (drive == l.drive) parts.0 in
      let is = some_pair_parts l.at sum (w.rate * w.cycle) bound parts.1 in
      let end = t3_bound l.drive l.at (moment_of (of_number l.rule)) tests.0 low in
      let less = mul-le-mul_left w.rate fits.rule_8 in
      joined _ _ _ _ _ is.0 is.1 end less
    where
      joined : (a b sum c bound : ℕ) → a ≡ sum → c ≡ bound → a ≤ b → b ≤ c → sum ≤ bound
      joined a b sum c bound e g h i = omega arith
  end_bound (Some Capture) drive None sum bound low h = next_bound drive sum bound (up_to w drive (sent w)) refl h
  end_bound _ drive from sum bound low h = cc

pub chain_none : (w : WishesView) (c : ChainView) → IsValid w → IsChain w c → NoneFits w
chain_none w c valid chain p fits =
    let low = all_bound w valid p fits None c.links tt chain.links in
    let within = end_bound w valid p fits (of_number c.rule) c.drive (last_link None c.links) c.sum c.bound low chain.end in
    let above = chain.above in
    absurd (omega arith)
