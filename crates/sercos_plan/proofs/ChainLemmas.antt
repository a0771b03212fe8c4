-- The chain of the least times follows from the wishes, where these break a bound.
use Rattle.std.proofs.Common.{◌≡◌, ℕ, ◌+◌, ◌-◌, ◌*◌, ◌<◌, ◌≤◌, ◌⊎◌, inl, inr, max, Bool, true, false, List, [], ◌∷◌, ◌++◌, length, slice_index, refl, sym, ap, subst, ◌∙◌, arith}
use Rattle.std.specs.Prelude.{Option, Some, None, Result, IfErr, option_map, unwrap_or, nat_le, ◌==◌, ◌&&◌, if◌then◌else◌}
use Rattle.std.specs.Option.{option_or}
use Rattle.std.proofs.Math.Nat.{mul-le-mul_left, mul-lt-mul_of_pos_left}
use Rattle.std.proofs.lemmas.Bool.{cases_Bool, cases_order, cond-true, cond-false, eq-eqb, ne_eqb, and_from, false≢true, leb-true, leb-false}
use Rattle.std.proofs.lemmas.Option.{same_Some}
use Rattle.sercos_timing.proofs.BreakLemmas.{none_of-or}
use Rattle.sercos_timing.specs.Views.{WishesView, PlanView}
use Rattle.sercos_timing.specs.Order.{wish, times, sent, first_sent, at_bits, mdt_bits}
use Rattle.sercos_timing.specs.Inequalities.{of_number, asked_5, asked_6, asked_7, greatest, greatest_tmtsy, sum_9, bound_9}
use Rattle.sercos_timing.specs.Valid.{IsValid}
use Rattle.sercos_timing.specs.declared.wishes.Wish.{Wish}
use Rattle.sercos_plan.specs.LeastTimes.{round_up, least_t2, least_t3, greatest_t4min, is_roomy}
use Rattle.sercos_plan.specs.Views.{ChainView}
use Rattle.sercos_plan.specs.Chains.{moment_of, is_t1, is_t2, up_to, last_place, is_t1_of, given_if, asked_after, Linked, last_link, head_of, pause_of, ended_if, ends, IsChain}
use Rattle.sercos_plan.specs.ChainOf.{is_tight, link_of, first_tight, trail, starts, bits_of_starts, trail_by_master, trail_t2, trail_t3, first_greatest, records_drive, mst_chain, cycle_chain, capture_chain, chain_of, planned}
use Rattle.sercos_plan.specs.declared.chain.Link.{Link}
use Rattle.sercos_timing.specs.declared.inequality.Inequality.TheVariants.{NextMst, Cycle}
use Rattle.sercos_plan.proofs.LeastLemmas.{Among}
use Rattle.sercos_plan.proofs.PlanLemmas.{among_first, among_greatest, length_first, rate_some}
use Rattle.sercos_plan.proofs.T2Lemmas.{five_some}
use Rattle.sercos_plan.proofs.ListedLemmas.{up_to_at, IsFirstGreatest, first_greatest_at, greatest_within}
use Rattle.sercos_plan.proofs.ReachLemmas.{linked_more, last_more, gives_time, tight_is, one_of, Reaches, after_from, start_reaches}

-- the greatest of numbers is one of them
greatest_one : (f : ℕ → ℕ) (ats : List ℕ) → 0 < length ats → (k : ℕ) × Among k ats × (f k ≡ greatest f ats)
greatest_one f [] some = absurd (omega arith)
greatest_one f (k ∷ []) some = (k, inl refl, omega arith)
greatest_one f (k ∷ (j ∷ before)) some =
    let rest = greatest_one f (j ∷ before) (omega arith) in
    let value = rest.2 in
    elim (cases_order (f k) (greatest f (j ∷ before))) [
      | inl same ↦ (k, inl refl, omega arith)
      | inr (inl less) ↦ (rest.0, inr rest.1, value ∙ omega arith)
      | inr (inr more) ↦ (k, inl refl, omega arith)
    ]

greatest_shift : (f : ℕ → ℕ) (a b r : ℕ) (ats : List ℕ) → 0 < length ats → greatest (λ k. a + (b + r * f k)) ats ≡ a + (b + r * greatest f ats)
greatest_shift f a b r ats some =
    let one = greatest_one f ats some in
    let low = among_greatest (λ k. a + (b + r * f k)) ats one.0 one.1 in
    let high = greatest_within (λ k. a + (b + r * f k)) (a + (b + r * greatest f ats)) ats (λ k h. sums _ _ _ _ (mul-le-mul_left r (among_greatest f ats k h))) in
    both _ _ _ low (ap (λ x. a + (b + r * x)) one.2) high
  where
    sums : (x y p q : ℕ) → p ≤ q → x + (y + p) ≤ x + (y + q)
    sums x y p q h = omega arith

    both : (x g z : ℕ) → x ≤ g → x ≡ z → g ≤ z → g ≡ z
    both x g z low same high = omega arith

-- the AT whose 6 is tight
or_either : {A : Type 0} (o p : Option A) (x : A) → option_or o p ≡ Some x → (o ≡ Some x) ⊎ (p ≡ Some x)
or_either None p x h = inr h
or_either (Some y) p x h = inl h

if_some : (b : Bool) (k x : ℕ) → (if b then Some k else None) ≡ Some x → (b ≡ true) × (k ≡ x)
if_some true k x h = (refl, same_Some k x h)
if_some false k x h = cc

if_none : (b : Bool) (k : ℕ) → (if b then Some k else None) ≡ None → b ≡ false
if_none true k h = cc
if_none false k h = refl

some_tight : (w : WishesView) (b : ℕ → ℕ) (t2 x : ℕ) (ats : List ℕ) → first_tight w b t2 ats ≡ Some x → Among x ats × (is_tight w (asked_6 w b x []) t2 ≡ true)
some_tight w b t2 x [] h = cc
some_tight w b t2 x (k ∷ before) h = elim (or_either (first_tight w b t2 before) (if is_tight w (asked_6 w b k before) t2 then Some k else None) x h) [
  | inl e ↦ let rest = some_tight w b t2 x before e in (inr rest.0, rest.1)
  | inr e ↦
      let parts = if_some (is_tight w (asked_6 w b k before) t2) k x e in
      let P : ℕ → Type 0 = λ i. is_tight w (asked_6 w b i []) t2 ≡ true in
      (inl (sym parts.1), subst P parts.1 parts.0)
]

none_tight : (w : WishesView) (b : ℕ → ℕ) (t2 x : ℕ) (ats : List ℕ) → first_tight w b t2 ats ≡ None → Among x ats → is_tight w (asked_6 w b x []) t2 ≡ false
none_tight w b t2 x [] h among = absurd among
none_tight w b t2 x (k ∷ before) h (inl e) =
    let parts = none_of-or (first_tight w b t2 before) (if is_tight w (asked_6 w b k before) t2 then Some k else None) h in
    let P : ℕ → Type 0 = λ i. is_tight w (asked_6 w b i []) t2 ≡ false in
    subst P (sym e) (if_none (is_tight w (asked_6 w b k before) t2) k parts.1)
none_tight w b t2 x (k ∷ before) h (inr e) =
    let parts = none_of-or (first_tight w b t2 before) (if is_tight w (asked_6 w b k before) t2 then Some k else None) h in
    none_tight w b t2 x before parts.0 e

-- links that follow from the wishes and end at T2
pub record ReachesT2 (w : WishesView) (links : List Link) : Type 0 where
  pub linked : Linked w None links
  pub link : Link
  pub ends : is_t2 (moment_of (of_number link.rule)) ≡ true
  pub at : link.at ≡ w.rate * least_t2 w
  pub last : last_link None links ≡ Some link

module _ (w : WishesView) (valid : IsValid w) where
  some_sent : 0 < length (sent w)
  some_sent =
      let count = length_first w.order (length w.order) in
      let same = valid.order.count in
      let some = valid.drives.some in
      omega arith

  some_order : 0 < length w.order
  some_order =
      let same = valid.order.count in
      let some = valid.drives.some in
      omega arith

  t2_through : (rule at asked : ℕ) (links : List Link) → at < length w.order → (reach : Reaches w links (slice_index w.order at)) → is_t2 (moment_of (of_number rule)) ≡ true →
      asked_after w (of_number rule) (Some (link_of w (reach.rule) (slice_index w.order at) (starts w (slice_index w.order at)))) (slice_index w.order at ∷ first_sent w.order at) ≡ Some asked →
      round_up w.rate asked ≡ least_t2 w → ReachesT2 w (links ++ link_of w rule (slice_index w.order at) (least_t2 w) ∷ [])
  t2_through rule at asked links within reach ends is tight =
      let k = slice_index w.order at in
      let step : asked_after w (of_number rule) (last_link None links) (up_to w (wish w (slice_index w.order at)).address (sent w)) ≡ Some asked =
      ap (λ from. asked_after w (of_number rule) from (up_to w (wish w (slice_index w.order at)).address (sent w))) reach.last
      ∙ ap (asked_after w (of_number rule) (Some (link_of w (reach.rule) (slice_index w.order at) (starts w (slice_index w.order at))))) (up_to_at w valid at within) ∙ is in
      record {
        linked = linked_more w None links (link_of w rule k (least_t2 w)) reach.linked (gives_time w _ asked (least_t2 w) step tight);
        link = link_of w rule k (least_t2 w);
        ends = ends;
        at = refl;
        last = last_more None links (link_of w rule k (least_t2 w));
      }

  -- by 5, of the last AT
  by_last : is_tight w (asked_5 w (bits_of_starts w) (sent w)) (least_t2 w) ≡ true → ReachesT2 w (trail w (starts w) (sent w) (last_place w) ++ link_of w 5 (last_place w) (least_t2 w) ∷ [])
  by_last tight =
      let is = tight_is w (asked_5 w (bits_of_starts w) (sent w)) (least_t2 w) tight in
      let some = some_order in
      let within : length w.order - 1 < length w.order = omega arith in
      let reach = start_reaches w valid (length w.order - 1) within in
      let l : Link = link_of w (reach.rule) (last_place w) (starts w (last_place w)) in
      let here : is_t1_of w l (Some (last_place w)) ≡ true = and_from (is_t1 (moment_of (of_number (reach.rule)))) ((wish w (last_place w)).address == (wish w (last_place w)).address) reach.ends (eq-eqb _ _ refl) in
      let both : (is_t1_of w l (Some (last_place w)) && (last_place w == last_place w)) ≡ true = and_from _ _ here (eq-eqb (last_place w) (last_place w) refl) in
      let five : asked_5 w (λ _. l.at) (sent w) ≡ asked_5 w (bits_of_starts w) (sent w) = five_some w (λ _. l.at) w.order (length w.order) some ∙ sym (five_some w (bits_of_starts w) w.order (length w.order) some) in
      t2_through 5 (length w.order - 1) is.0 (trail w (starts w) (sent w) (last_place w)) within reach refl
      (ap (λ c. given_if c (asked_5 w (λ _. l.at) (sent w))) both ∙ five ∙ is.1) is.2

  -- by 6, of the first AT that gives T2
  by_master : (k : ℕ) → first_tight w (bits_of_starts w) (least_t2 w) (sent w) ≡ Some k → ReachesT2 w (trail_by_master w (Some k))
  by_master k first =
      let parts = some_tight w (bits_of_starts w) (least_t2 w) k (sent w) first in
      let is = tight_is w (asked_6 w (bits_of_starts w) k []) (least_t2 w) parts.1 in
      let found = among_first w.order (length w.order) k parts.0 in
      let P : ℕ → Type 0 = λ i. ReachesT2 w (trail w (starts w) (sent w) i ++ link_of w 6 i (least_t2 w) ∷ []) in
      let Q : ℕ → Type 0 = λ i. asked_6 w (bits_of_starts w) i [] ≡ Some (is.0) in
      let reach = start_reaches w valid found.0 found.1 in
      let at = slice_index w.order found.0 in
      subst P (sym found.2)
      (t2_through 6 found.0 is.0 (trail w (starts w) (sent w) (slice_index w.order found.0)) found.1 reach refl
      (after_from w (Some at) at (reach.rule) (λ j. at_bits w j + w.rate * (times w j).tatmt) refl reach.ends ∙ subst Q found.2 is.1) is.2)

  one_tight : is_tight w (asked_5 w (bits_of_starts w) (sent w)) (least_t2 w) ≡ false → first_tight w (bits_of_starts w) (least_t2 w) (sent w) ≡ None → ⊥
  unfolding least_t2
  one_tight loose none =
      let f : ℕ → ℕ = λ k. bits_of_starts w k + (at_bits w k + w.rate * (times w k).tatmt) in
      let one = greatest_one (λ k. bits_of_starts w k + (at_bits w k + w.rate * (times w k).tatmt)) (sent w) some_sent in
      let last = five_some w (bits_of_starts w) w.order (length w.order) some_order in
      elim (one_of (unwrap_or (asked_5 w (bits_of_starts w) (sent w)) 0) (greatest f (sent w))) [
        | inl e ↦ five_tight (asked_5 w (bits_of_starts w) (sent w)) _ _ last (ap (round_up w.rate) e) loose
        | inr e ↦
            let given : round_up w.rate (f one.0) ≡ round_up w.rate (max (unwrap_or (asked_5 w (bits_of_starts w) (sent w)) 0) (greatest f (sent w))) = ap (round_up w.rate) (one.2 ∙ sym e) in
            false≢true (sym (none_tight w (bits_of_starts w) _ one.0 (sent w) none one.1) ∙ eq-eqb _ _ given)
      ]
    where
      five_tight : (o : Option ℕ) (v t : ℕ) → o ≡ Some v → t ≡ round_up w.rate (unwrap_or o 0) → is_tight w o t ≡ false → ⊥
      five_tight None v t is e h = cc
      five_tight (Some a) v t is e h = false≢true (sym h ∙ eq-eqb (round_up w.rate a) t (sym e))

  pub t2_reached : ReachesT2 w (trail_t2 w)
  unfolding trail_t2
  t2_reached =
      let P : List Link → Type 0 = λ ls. ReachesT2 w ls in
      elim (cases_Bool (is_tight w (asked_5 w (bits_of_starts w) (sent w)) (least_t2 w))) [
        | inl tight ↦ subst P (sym (cond-true _ _ _ tight)) (by_last tight)
        | inr loose ↦ subst P (sym (cond-false _ _ _ loose)) (through (first_tight w (bits_of_starts w) (least_t2 w) (sent w)) refl loose)
      ]
    where
      through : (o : Option ℕ) → first_tight w (bits_of_starts w) (least_t2 w) (sent w) ≡ o → is_tight w (asked_5 w (bits_of_starts w) (sent w)) (least_t2 w) ≡ false → ReachesT2 w (trail_by_master w o)
      through None is loose = absurd (one_tight loose is)
      through (Some k) is loose = by_master k is

  -- the chain to 9
  mst_ends : (drive s : ℕ) → pause_of w drive ≡ Some s → max w.gap s ≡ max w.gap (greatest_tmtsy w) →
      ends w (Some NextMst) drive (last_link None (trail_t2 w)) ≡ Some (sum_9 w (w.rate * least_t2 w) (greatest_tmtsy w), bound_9 w)
  mst_ends drive s pause same =
      let reached = t2_reached in
      ap (ends w (Some NextMst) drive) reached.last
      ∙ ap (λ c. ended_if c (option_map {U = ℕ × ℕ} (λ x. (sum_9 w (reached.link).at x, bound_9 w)) (pause_of w drive))) reached.ends
      ∙ ap (option_map {U = ℕ × ℕ} (λ x. (sum_9 w (reached.link).at x, bound_9 w))) pause
      ∙ ap (λ x. Some (x + (mdt_bits w + w.rate * max w.gap s), bound_9 w)) reached.at
      ∙ ap (λ x. Some (w.rate * least_t2 w + (mdt_bits w + w.rate * x), bound_9 w)) same

  -- the time of the drive that is named
  named_time : (f : Wish → ℕ) (at : ℕ) → IsFirstGreatest w f at →
      option_map (λ k. f (wish w k)) (head_of (up_to w (first_greatest f w.drives) (sent w))) ≡ Some (greatest (λ k. f (wish w k)) (sent w))
  named_time f at first =
      ap (λ a. option_map (λ k. f (wish w k)) (head_of (up_to w a (sent w)))) first.address
      ∙ ap (λ ats. option_map (λ k. f (wish w k)) (head_of ats)) (up_to_at w valid at first.within) ∙ ap Some first.value

  mst_is_chain : nat_le (sum_9 w (w.rate * least_t2 w) (greatest_tmtsy w)) (bound_9 w) ≡ false → IsChain w (mst_chain w)
  mst_is_chain broken = record {
    links = (t2_reached).linked;
    end = elim (cases_Bool (nat_le (greatest_tmtsy w) w.gap)) [
      | inl within ↦
          let P : ℕ → Type 0 = λ d. ends w (Some NextMst) d (last_link None (trail_t2 w)) ≡ Some (sum_9 w (w.rate * least_t2 w) (greatest_tmtsy w), bound_9 w) in
          let less = leb-true (greatest_tmtsy w) w.gap within in
          subst P (sym (cond-true (nat_le (greatest_tmtsy w) w.gap) 0 (first_greatest (λ d. d.times.tmtsy) w.drives) within)) (mst_ends 0 w.gap refl (omega arith))
      | inr above ↦
          let P : ℕ → Type 0 = λ d. ends w (Some NextMst) d (last_link None (trail_t2 w)) ≡ Some (sum_9 w (w.rate * least_t2 w) (greatest_tmtsy w), bound_9 w) in
          subst P (sym (cond-false (nat_le (greatest_tmtsy w) w.gap) 0 (first_greatest (λ d. d.times.tmtsy) w.drives) above))
          (mst_ends (first_greatest (λ d. d.times.tmtsy) w.drives) (greatest_tmtsy w) (named_pause) refl)
    ];
    above = leb-false _ _ broken;
  }
    where
      named_pause : pause_of w (first_greatest (λ d. d.times.tmtsy) w.drives) ≡ Some (greatest_tmtsy w)
      named_pause =
          let first = first_greatest_at w valid (λ d. d.times.tmtsy) in
          let found = first.1 in
          let address = (valid.drives.wishes (slice_index w.order first.0) (valid.order.within first.0 found.within)).address.0 in
          let is = found.address in
          let some : first_greatest (λ d. d.times.tmtsy) w.drives ≡ 0 → ⊥ = λ e. absurd (omega arith) in
          cond-false (first_greatest (λ d. d.times.tmtsy) w.drives == 0) _ _ (ne_eqb (first_greatest (λ d. d.times.tmtsy) w.drives) 0 some) ∙ named_time (λ d. d.times.tmtsy) first.0 found

  -- the chain to 8
  t3_linked : Linked w None (trail_t3 w)
  unfolding trail_t3 least_t3
  t3_linked =
      let reached = t2_reached in
      let first = first_greatest_at w valid (λ d. d.times.tmtsg) in
      let found = first.1 in
      let k = slice_index w.order first.0 in
      let asked : ℕ = w.rate * least_t2 w + (mdt_bits w + w.rate * (times w (slice_index w.order first.0)).tmtsg) in
      let step : asked_after w (of_number 7) (last_link None (trail_t2 w)) (up_to w (records_drive w) (sent w)) ≡ Some (w.rate * least_t2 w + (mdt_bits w + w.rate * (times w (slice_index w.order first.0)).tmtsg)) =
      ap (λ from. asked_after w (of_number 7) from (up_to w (records_drive w) (sent w))) reached.last
      ∙ ap (λ a. asked_after w (of_number 7) (Some (reached.link)) (up_to w a (sent w))) found.address
      ∙ ap (asked_after w (of_number 7) (Some (reached.link))) (up_to_at w valid first.0 found.within)
      ∙ ap (λ c. given_if c (asked_7 w (reached.link).at (slice_index w.order first.0) (first_sent w.order first.0))) reached.ends
      ∙ ap (λ x. Some (x + (mdt_bits w + w.rate * (times w (slice_index w.order first.0)).tmtsg))) reached.at in
      let most : w.rate * least_t2 w + (mdt_bits w + w.rate * (times w (slice_index w.order first.0)).tmtsg) ≡ greatest (λ j. w.rate * least_t2 w + (mdt_bits w + w.rate * (times w j).tmtsg)) (sent w) =
      ap (λ x. w.rate * least_t2 w + (mdt_bits w + w.rate * x)) found.value ∙ sym (greatest_shift (λ j. (times w j).tmtsg) (w.rate * least_t2 w) (mdt_bits w) w.rate (sent w) some_sent) in
      linked_more w None (trail_t2 w) _ reached.linked (gives_time w _ (w.rate * least_t2 w + (mdt_bits w + w.rate * (times w (slice_index w.order first.0)).tmtsg)) _ step (ap (round_up w.rate) most))

  t3_last : last_link None (trail_t3 w) ≡ Some (record { rule = 7; drive = records_drive w; at = w.rate * least_t3 w })
  unfolding trail_t3
  t3_last = last_more None (trail_t2 w) _

  cycle_is_chain : nat_le (least_t3 w) w.cycle ≡ false → IsChain w (cycle_chain w)
  cycle_is_chain broken = record {
    links = t3_linked;
    end =
        ap (ends w (Some Cycle) (records_drive w)) t3_last
        ∙ ap (λ c. ended_if c (Some (w.rate * least_t3 w, w.rate * w.cycle))) (eq-eqb (records_drive w) (records_drive w) refl);
    above = mul-lt-mul_of_pos_left (leb-false _ _ broken) (rate_some w valid);
  }

  -- the chain to 10
  capture_is_chain : nat_le (greatest_t4min w) w.cycle ≡ false → IsChain w (capture_chain w)
  capture_is_chain broken =
      let first = first_greatest_at w valid (λ d. d.times.t4min) in
      record {
        links = tt;
        end = mapped _ _ (named_time (λ d. d.times.t4min) first.0 first.1);
        above = mul-lt-mul_of_pos_left (leb-false _ _ broken) (rate_some w valid);
      }
    where
      mapped : (o : Option ℕ) (most : ℕ) → option_map (λ k. (times w k).t4min) o ≡ Some most → option_map {U = ℕ × ℕ} (λ k. (w.rate * (times w k).t4min, w.rate * w.cycle)) o ≡ Some (w.rate * most, w.rate * w.cycle)
      mapped None most h = cc
      mapped (Some k) most h = ap (λ x. Some (w.rate * x, w.rate * w.cycle)) (same_Some _ _ h)

  pub chain_is : is_roomy w ≡ false → IsChain w (chain_of w)
  unfolding chain_of
  chain_is full =
      let P : ChainView → Type 0 = λ c. IsChain w c in
      elim (cases_Bool (nat_le (sum_9 w (w.rate * least_t2 w) (greatest_tmtsy w)) (bound_9 w))) [
        | inl nine ↦ elim (cases_Bool (nat_le (least_t3 w) w.cycle)) [
          | inl eight ↦ subst P (sym (cond-true _ _ _ nine ∙ cond-true _ _ _ eight)) (capture_is_chain (third_false _ _ _ nine eight full))
          | inr eight ↦ subst P (sym (cond-true _ _ _ nine ∙ cond-false _ _ _ eight)) (cycle_is_chain eight)
        ]
        | inr nine ↦ subst P (sym (cond-false _ _ _ nine)) (mst_is_chain nine)
      ]
    where
      third_false : (a b c : Bool) → a ≡ true → b ≡ true → (a && b && c) ≡ false → c ≡ false
      third_false true true c ea eb h = h
      third_false true false c ea eb h = absurd (false≢true eb)
      third_false false b c ea eb h = absurd (false≢true ea)

  pub planned_proof : (r : Result PlanView ChainView) → r ≡ planned w → IfErr r (IsChain w)
  planned_proof r is = elim (cases_Bool (is_roomy w)) [
    | inl room ↦ subst (λ (q : Result PlanView ChainView). IfErr q (IsChain w)) (sym (is ∙ cond-true _ _ _ room)) tt
    | inr full ↦ subst (λ (q : Result PlanView ChainView). IfErr q (IsChain w)) (sym (is ∙ cond-false _ _ _ full)) (chain_is full)
  ]
