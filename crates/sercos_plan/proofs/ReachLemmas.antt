-- The links to the least T1 of an AT follow from the wishes.
use Rattle.std.proofs.Common.{◌≡◌, ℕ, zero, suc, ◌+◌, ◌*◌, ◌<◌, ◌≤◌, ◌⊎◌, inl, inr, max, Bool, true, false, List, [], ◌∷◌, ◌++◌, length, slice_index, refl, sym, ap, subst, ◌∙◌, arith}
use Rattle.std.specs.Prelude.{Option, Some, None, option_map, unwrap_or, ◌==◌}
use Rattle.std.proofs.lemmas.Bool.{cases_Bool, cases_eq, cases_order, cond-true, cond-false, eqb-true, eq-eqb, ne_eqb, and_from, false≢true}
use Rattle.std.proofs.lemmas.Option.{same_Some}
use Rattle.sercos_timing.specs.Views.{WishesView}
use Rattle.sercos_timing.specs.Order.{wish, times, sent, first_sent, neighbor, previous, at_bits}
use Rattle.sercos_timing.specs.Inequalities.{of_number, asked_1, asked_2, asked_3, asked_4}
use Rattle.sercos_timing.specs.Valid.{IsValid}
use Rattle.sercos_plan.specs.LeastTimes.{round_up, needed, least_t1, least_bits}
use Rattle.sercos_plan.specs.Chains.{moment_of, is_t1, up_to, is_t1_of, given_if, asked_after, Gives, Linked, last_link}
use Rattle.sercos_plan.specs.ChainOf.{is_tight, link_of, back_of, trail_at, trail, starts, bits_of_starts}
use Rattle.sercos_plan.specs.declared.chain.Link.{Link}
use Rattle.sercos_plan.proofs.LeastLemmas.{Among, AgreeOn, IsFrom, neighbor-from, previous-from, least_here, needed_local}
use Rattle.sercos_plan.proofs.PlanLemmas.{among_first}
use Rattle.sercos_plan.proofs.TrailLemmas.{apart, trail_here, trail_there}
use Rattle.sercos_plan.proofs.ListedLemmas.{up_to_at}

-- one more link
pub linked_more : (w : WishesView) (from : Option Link) (links : List Link) (l : Link) → Linked w from links →
    Gives w (asked_after w (of_number l.rule) (last_link from links) (up_to w l.drive (sent w))) l.at → Linked w from (links ++ l ∷ [])
linked_more w from [] l linked given = (given, tt)
linked_more w from (l' ∷ links) l linked given = (linked.0, linked_more w (Some l') links l linked.1 given)

pub last_more : (from : Option Link) (links : List Link) (l : Link) → last_link from (links ++ l ∷ []) ≡ Some l
last_more from [] l = refl
last_more from (l' ∷ links) l = last_more (Some l') links l

-- what is asked gives the time t
pub gives_time : (w : WishesView) (o : Option ℕ) (asked t : ℕ) → o ≡ Some asked → round_up w.rate asked ≡ t → Gives w o (w.rate * t)
gives_time w None asked t is tight = cc
gives_time w (Some a) asked t is tight = ap (λ x. w.rate * x) (sym tight ∙ ap (round_up w.rate) (sym (same_Some a asked is)))

-- tight inequalities
pub tight_is : (w : WishesView) (o : Option ℕ) (t : ℕ) → is_tight w o t ≡ true → (asked : ℕ) × (o ≡ Some asked) × (round_up w.rate asked ≡ t)
tight_is w None t h = absurd (false≢true h)
tight_is w (Some a) t h = (a, refl, eqb-true (round_up w.rate a) t h)

tight_by : (w : WishesView) (asked t : ℕ) → round_up w.rate asked ≡ t → is_tight w (Some asked) t ≡ true
tight_by w asked t h = eq-eqb (round_up w.rate asked) t h

not_both : {A : Type 0} (b : Bool) → b ≡ false → b ≡ true → A
not_both b no_ yes_ = absurd (false≢true (sym no_ ∙ yes_))

-- where the first asks something and isn't tight, one that isn't tight isn't the greatest
not_greatest : (w : WishesView) (o : Option ℕ) (first most t : ℕ) → is_tight w (Some first) t ≡ false → is_tight w o t ≡ false →
    first ≤ most → t ≡ round_up w.rate most → most ≡ unwrap_or o 0 → ⊥
not_greatest w None first most t own loose below is value =
    let same : first ≡ most = omega arith in
    not_both (is_tight w (Some first) t) own (tight_by w first t (ap (round_up w.rate) same ∙ sym is))
not_greatest w (Some a) first most t own loose below is value =
    not_both (is_tight w (Some a) t) loose (tight_by w a t (ap (round_up w.rate) (sym value) ∙ sym is))

the_greatest : (w : WishesView) (o : Option ℕ) (first most t : ℕ) → is_tight w (Some first) t ≡ false → first ≤ most →
    t ≡ round_up w.rate most → most ≡ unwrap_or o 0 → is_tight w o t ≡ true
the_greatest w None first most t own below is value =
    let same : first ≡ most = omega arith in
    not_both (is_tight w (Some first) t) own (tight_by w first t (ap (round_up w.rate) same ∙ sym is))
the_greatest w (Some a) first most t own below is value = tight_by w a t (ap (round_up w.rate) (sym value) ∙ sym is)

-- the greatest of numbers is one of them
pub one_of : (x y : ℕ) → (max x y ≡ x) ⊎ (max x y ≡ y)
one_of x y = elim (cases_order x y) [
  | inl e ↦ inl (omega arith)
  | inr (inl less) ↦ inr (omega arith)
  | inr (inr more) ↦ inl (omega arith)
]

one_of_four : (a b c d : ℕ) → (max a (max b (max c d)) ≡ a) ⊎ ((max a (max b (max c d)) ≡ b) ⊎ ((max a (max b (max c d)) ≡ c) ⊎ (max a (max b (max c d)) ≡ d)))
one_of_four a b c d = elim (one_of a (max b (max c d))) [
  | inl e ↦ inl e
  | inr e ↦ elim (one_of b (max c d)) [
    | inl f ↦ inr (inl (e ∙ f))
    | inr f ↦ elim (one_of c d) [
      | inl g ↦ inr (inr (inl (e ∙ f ∙ g)))
      | inr g ↦ inr (inr (inr (e ∙ f ∙ g)))
    ]
  ]
]

four_tight : (w : WishesView) (first t : ℕ) (o2 o3 o4 : Option ℕ) →
    t ≡ round_up w.rate (max first (max (unwrap_or o2 0) (max (unwrap_or o3 0) (unwrap_or o4 0)))) →
    is_tight w (Some first) t ≡ false → is_tight w o2 t ≡ false → is_tight w o3 t ≡ false → is_tight w o4 t ≡ true
four_tight w first t o2 o3 o4 is one two three =
    let most = max first (max (unwrap_or o2 0) (max (unwrap_or o3 0) (unwrap_or o4 0))) in
    let below : first ≤ most = omega arith in
    elim (one_of_four first (unwrap_or o2 0) (unwrap_or o3 0) (unwrap_or o4 0)) [
      | inl e ↦ not_both (is_tight w (Some first) t) one (tight_by w first t (ap (round_up w.rate) (sym e) ∙ sym is))
      | inr (inl e) ↦ absurd (not_greatest w o2 first most t one two below is e)
      | inr (inr (inl e)) ↦ absurd (not_greatest w o3 first most t one three below is e)
      | inr (inr (inr e)) ↦ the_greatest w o4 first most t one below is e
    ]

-- the least T1 stays as the order goes on
starts_stay : (w : WishesView) → IsValid w → (n at : ℕ) → at < n → n ≤ length w.order →
    least_t1 w (first_sent w.order n) (slice_index w.order at) ≡ least_t1 w (first_sent w.order (suc at)) (slice_index w.order at)
starts_stay w valid zero at below within = absurd (omega arith)
starts_stay w valid (suc n) at below within = elim (cases_eq at n) [
  | inl same ↦ rw same refl
  | inr other ↦
      cond-false (slice_index w.order at == slice_index w.order n) _ _ (ne_eqb (slice_index w.order at) (slice_index w.order n) (apart w valid at n other (omega arith) (omega arith)))
      ∙ starts_stay w valid n at (omega (arith, other)) (omega arith)
]

agree_before : (w : WishesView) → IsValid w → (at : ℕ) → at ≤ length w.order → AgreeOn (first_sent w.order at) (least_bits w (first_sent w.order at)) (bits_of_starts w)
agree_before w valid at within j among =
    let found = among_first w.order at j among in
    let below = found.1 in
    let earlier = starts_stay w valid at found.0 below within in
    let last = starts_stay w valid (length w.order) found.0 (omega arith) (omega arith) in
    let P : ℕ → Type 0 = λ i. w.rate * least_t1 w (first_sent w.order at) i ≡ w.rate * least_t1 w (sent w) i in
    subst P (sym found.2) (ap (λ x. w.rate * x) (earlier ∙ sym last))

pub start_is : (w : WishesView) → IsValid w → (at : ℕ) → at < length w.order →
    starts w (slice_index w.order at) ≡ round_up w.rate (needed w (bits_of_starts w) (slice_index w.order at) (first_sent w.order at))
start_is w valid at within =
    starts_stay w valid (length w.order) at within (omega arith) ∙ least_here w (slice_index w.order at) (first_sent w.order at)
    ∙ ap (round_up w.rate) (needed_local w (least_bits w (first_sent w.order at)) (bits_of_starts w) (slice_index w.order at) (first_sent w.order at) (agree_before w valid at (omega arith)))

-- links that follow from the wishes and end at T1 of the drive k
pub record Reaches (w : WishesView) (links : List Link) (k : ℕ) : Type 0 where
  pub linked : Linked w None links
  pub rule : ℕ
  pub ends : is_t1 (moment_of (of_number rule)) ≡ true
  pub last : last_link None links ≡ Some (link_of w rule k (starts w k))

reaches_first : (w : WishesView) → IsValid w → (rule at asked : ℕ) → at < length w.order → is_t1 (moment_of (of_number rule)) ≡ true →
    asked_after w (of_number rule) None (slice_index w.order at ∷ first_sent w.order at) ≡ Some asked → round_up w.rate asked ≡ starts w (slice_index w.order at) →
    Reaches w (link_of w rule (slice_index w.order at) (starts w (slice_index w.order at)) ∷ []) (slice_index w.order at)
reaches_first w valid rule at asked within ends is tight = record {
  linked = (gives_time w _ asked (starts w (slice_index w.order at)) (ap (asked_after w (of_number rule) None) (up_to_at w valid at within) ∙ is) tight, tt);
  rule = rule;
  ends = ends;
  last = refl;
}

reaches_more : (w : WishesView) → IsValid w → (rule at asked j : ℕ) (links : List Link) → at < length w.order → (back : Reaches w links j) → is_t1 (moment_of (of_number rule)) ≡ true →
    asked_after w (of_number rule) (Some (link_of w (back.rule) j (starts w j))) (slice_index w.order at ∷ first_sent w.order at) ≡ Some asked →
    round_up w.rate asked ≡ starts w (slice_index w.order at) →
    Reaches w (links ++ link_of w rule (slice_index w.order at) (starts w (slice_index w.order at)) ∷ []) (slice_index w.order at)
reaches_more w valid rule at asked j links within back ends is tight =
    let k = slice_index w.order at in
    let step : asked_after w (of_number rule) (last_link None links) (up_to w (wish w (slice_index w.order at)).address (sent w)) ≡ Some asked =
    ap (λ from. asked_after w (of_number rule) from (up_to w (wish w (slice_index w.order at)).address (sent w))) back.last
    ∙ ap (asked_after w (of_number rule) (Some (link_of w (back.rule) j (starts w j)))) (up_to_at w valid at within) ∙ is in
    record {
      linked = linked_more w None links (link_of w rule k (starts w k)) back.linked (gives_time w _ asked (starts w k) step tight);
      rule = rule;
      ends = ends;
      last = last_more None links (link_of w rule k (starts w k));
    }

-- what is asked after a link to T1 of the drive j is what is asked where all stand at their least T1
pub after_from : (w : WishesView) (o : Option ℕ) (j rule : ℕ) (d : ℕ → ℕ) → o ≡ Some j → is_t1 (moment_of (of_number rule)) ≡ true →
    given_if (is_t1_of w (link_of w rule j (starts w j)) o) (option_map (λ i. bits_of_starts w j + d i) o) ≡ option_map (λ i. bits_of_starts w i + d i) o
after_from w None j rule d is ends = refl
after_from w (Some i) j rule d is ends =
    let same = same_Some i j is in
    let here : is_t1_of w (link_of w rule j (starts w j)) (Some i) ≡ true =
    and_from (is_t1 (moment_of (of_number rule))) ((wish w i).address == (wish w j).address) ends (eq-eqb _ _ (ap (λ x. (wish w x).address) same)) in
    rw here (ap (λ x. Some (bits_of_starts w x + d i)) (sym same))

mapped_from : (f : ℕ → ℕ) (o : Option ℕ) (a : ℕ) → option_map f o ≡ Some a → (j : ℕ) × (o ≡ Some j)
mapped_from f None a h = cc
mapped_from f (Some j) a h = (j, refl)

gap_same : (w : WishesView) (b c : ℕ → ℕ) (k : ℕ) (before : List ℕ) → asked_2 w b k before ≡ asked_2 w c k before
gap_same w b c k [] = refl
gap_same w b c k (j ∷ before) = refl

module _ (w : WishesView) (valid : IsValid w) (at : ℕ) (within : at < length w.order)
    (earlier : (i : ℕ) → i < at → Reaches w (trail w (starts w) (first_sent w.order at) (slice_index w.order i)) (slice_index w.order i)) where
  back_reaches : (j : ℕ) → Among j (first_sent w.order at) → Reaches w (trail w (starts w) (first_sent w.order at) j) j
  back_reaches j among =
      let found = among_first w.order at j among in
      let P : ℕ → Type 0 = λ i. Reaches w (trail w (starts w) (first_sent w.order at) i) i in
      subst P (sym found.2) (earlier found.0 found.1)

  from_among : (o : Option ℕ) (j : ℕ) → o ≡ Some j → IsFrom o (first_sent w.order at) → Among j (first_sent w.order at)
  from_among None j is from = cc
  from_among (Some i) j is from = let P : ℕ → Type 0 = λ x. Among x (first_sent w.order at) in subst P (same_Some i j is) from

  -- by way of an earlier AT, which the inequality names
  by_earlier : (rule asked : ℕ) (o : Option ℕ) (d : ℕ → ℕ) → IsFrom o (first_sent w.order at) → is_t1 (moment_of (of_number rule)) ≡ true →
      ((l : Link) → asked_after w (of_number rule) (Some l) (slice_index w.order at ∷ first_sent w.order at) ≡ given_if (is_t1_of w l o) (option_map (λ i. l.at + d i) o)) →
      option_map (λ i. bits_of_starts w i + d i) o ≡ Some asked → round_up w.rate asked ≡ starts w (slice_index w.order at) →
      Reaches w (back_of (trail w (starts w) (first_sent w.order at)) o ++ link_of w rule (slice_index w.order at) (starts w (slice_index w.order at)) ∷ []) (slice_index w.order at)
  by_earlier rule asked o d from ends after is tight =
      let named = mapped_from (λ i. bits_of_starts w i + d i) o asked is in
      let back = back_reaches named.0 (from_among o named.0 named.1 from) in
      let links : trail w (starts w) (first_sent w.order at) named.0 ≡ back_of (trail w (starts w) (first_sent w.order at)) o = ap (back_of (trail w (starts w) (first_sent w.order at))) (sym named.1) in
      let P : List Link → Type 0 = λ ls. Reaches w (ls ++ link_of w rule (slice_index w.order at) (starts w (slice_index w.order at)) ∷ []) (slice_index w.order at) in
      subst P links
      (reaches_more w valid rule at asked named.0 (trail w (starts w) (first_sent w.order at) named.0) within back ends
      (after (link_of w (back.rule) named.0 (starts w named.0)) ∙ after_from w o named.0 (back.rule) d named.1 back.ends ∙ is) tight)

  pub here_reaches : Reaches w (trail_at w (starts w) (slice_index w.order at) (first_sent w.order at) (trail w (starts w) (first_sent w.order at))) (slice_index w.order at)
  unfolding trail_at
  here_reaches =
      let k = slice_index w.order at in
      let before = first_sent w.order at in
      let b = bits_of_starts w in
      let P : List Link → Type 0 = λ ls. Reaches w ls (slice_index w.order at) in
      elim (cases_Bool (is_tight w (asked_1 w (bits_of_starts w) (slice_index w.order at) (first_sent w.order at)) (starts w (slice_index w.order at)))) [
        | inl one ↦
            let is = tight_is w (asked_1 w b k before) (starts w k) one in
            subst P (sym (cond-true _ _ _ one)) (reaches_first w valid 1 at is.0 within refl is.1 is.2)
        | inr one ↦ elim (cases_Bool (is_tight w (asked_2 w (bits_of_starts w) (slice_index w.order at) (first_sent w.order at)) (starts w (slice_index w.order at)))) [
          | inl two ↦
              let is = tight_is w (asked_2 w b k before) (starts w k) two in
              subst P (sym (cond-false _ _ _ one ∙ cond-true _ _ _ two)) (reaches_first w valid 2 at is.0 within refl (gap_same w (λ _. 0) b k before ∙ is.1) is.2)
          | inr two ↦ elim (cases_Bool (is_tight w (asked_3 w (bits_of_starts w) (slice_index w.order at) (first_sent w.order at)) (starts w (slice_index w.order at)))) [
            | inl three ↦
                let is = tight_is w (asked_3 w b k before) (starts w k) three in
                subst P (sym (cond-false _ _ _ one ∙ cond-false _ _ _ two ∙ cond-true _ _ _ three))
                (by_earlier 3 is.0 (neighbor w k before) (λ j. at_bits w j + w.rate * w.gap) (neighbor-from w k before) refl (λ l. refl) is.1 is.2)
            | inr three ↦
                let four = four_tight w (w.rate * (times w k).t1min) (starts w k) (asked_2 w b k before) (asked_3 w b k before) (asked_4 w b k before) (start_is w valid at within) one two three in
                let is = tight_is w (asked_4 w b k before) (starts w k) four in
                subst P (sym (cond-false _ _ _ one ∙ cond-false _ _ _ two ∙ cond-false _ _ _ three))
                (by_earlier 4 is.0 (previous w k before) (λ j. at_bits w j + w.rate * (times w k).tatat) (previous-from w k before) refl (λ l. refl) is.1 is.2)
          ]
        ]
      ]

first_reaches : (w : WishesView) → IsValid w → (n : ℕ) → n ≤ length w.order → (at : ℕ) → at < n →
    Reaches w (trail w (starts w) (first_sent w.order n) (slice_index w.order at)) (slice_index w.order at)
first_reaches w valid zero within at below = absurd (omega arith)
first_reaches w valid (suc n) within at below =
    let P : List Link → Type 0 = λ ls. Reaches w ls (slice_index w.order at) in
    elim (cases_eq at n) [
      | inl same ↦
          let Q : ℕ → Type 0 = λ i. Reaches w (trail w (starts w) (first_sent w.order (suc n)) (slice_index w.order i)) (slice_index w.order i) in
          let R : List Link → Type 0 = λ ls. Reaches w ls (slice_index w.order n) in
          subst Q (sym same) (subst R (sym (trail_here w (starts w) (slice_index w.order n) (first_sent w.order n))) (here_reaches w valid n (omega arith) (λ i lt. first_reaches w valid n (omega arith) i lt)))
      | inr other ↦
          subst P (sym (trail_there w (starts w) (slice_index w.order n) (slice_index w.order at) (first_sent w.order n) (apart w valid at n other (omega arith) (omega arith))))
          (first_reaches w valid n (omega arith) at (omega (arith, other)))
    ]

-- the links to T1 of any drive
pub start_reaches : (w : WishesView) → IsValid w → (at : ℕ) → at < length w.order → Reaches w (trail w (starts w) (sent w) (slice_index w.order at)) (slice_index w.order at)
start_reaches w valid at within = first_reaches w valid (length w.order) (omega arith) at within
