-- A ring that goes on by a cycle.
use Rattle.std.proofs.Common.{◌≡◌, ℕ, zero, suc, ◌+◌, ◌-◌, ◌<◌, ◌≤◌, ◌==◌, ◌⊎◌, inl, inr, Bool, true, false, if◌then◌else◌, List, [], ◌∷◌, ◌++◌, length, reverse, Result, Ok, Err, IfOk, IsErr, refl, sym, ◌∙◌, ap, subst, arith, append_assoc, append-nil}
use Rattle.std.specs.Prelude.{nat_le}
use Rattle.std.proofs.lemmas.List.{reverse-append}
use Rattle.std.proofs.lemmas.Bool.{cases_lt}
use Rattle.std.proofs.lemmas.Bool.Decides.{nat_tests}
use Rattle.sercos_step.specs.declared.request.Job.{Job}
use Rattle.sercos_timing.specs.Views.{WishesView}
use Rattle.sercos_block.specs.Views.{RingView}
use Rattle.sercos_script.specs.Links.{Carry, Restarts}
use Rattle.sercos_trace.specs.Views.{CycleView}
use Rattle.sercos_trace.specs.Texts.{cycle_text, end_text}
use Rattle.sercos_trace.specs.declared.record.Totals.{Totals}
use Rattle.sercos_trace.specs.Written as plain
use Rattle.sercos_law_run.specs.Journal.Runs.{IsNext, next_record}
use Rattle.sercos_ring.specs.declared.ring.Ring.{Ring}
use Rattle.sercos_ring.specs.Kept.{AfterCycle, IsNextOf, newest}
use Rattle.sercos_law_run.specs.Totals.Totals.{totals_of}
use Rattle.sercos_law_run.specs.Totals.Counting.{AreFew, IsFew, with_cycle}
use Rattle.sercos_trace.specs.Marked.{marked}
use Rattle.sercos_trace.specs.MarkedWritten.{Seen, HasTaken, HasFailed, Writes}
use Rattle.sercos_trace.proofs.MarkLemmas.{marked_none}
use Rattle.sercos_trace.proofs.MarkedLemmas.{taken_then}
use Rattle.sercos_trace.proofs.WriteLemmas as plainly
use Rattle.sercos_multi.specs.declared.part.Part.{Part}
use Rattle.sercos_multi.specs.Merged.{Voice, span, from_moment, begun, first_text, is_timed, mark_of}
use Rattle.sercos_multi.specs.Going.{future, gone_on, passed, IsFrom}
use Rattle.sercos_multi.specs.Parts.{IsAt, GoesOn, Passes}
use Rattle.sercos_multi.proofs.MomentLemmas.{none_before}

abbrev pub NextLaw : Type 0
NextLaw = (r : RingView) (jobs : List Job) (carry : Carry) (restarts : Restarts) (j : List CycleView) (t : CycleView) → IsNext r jobs carry restarts t j → t ≡ next_record r jobs carry restarts j

abbrev pub MoreLaw : Type 0
MoreLaw = (cycles : List CycleView) (made : CycleView) → totals_of (cycles ++ made ∷ []) ≡ with_cycle (totals_of cycles) made

abbrev pub FewLaw : Type 0
FewLaw = (t : Totals) (made : CycleView) (n : ℕ) → AreFew t n → IsFew made → AreFew (with_cycle t made) (n + 1)

-- the cycles to come, the first of which is made
future_next : (r : RingView) (jobs : List Job) (carry : Carry) (restarts : Restarts) (j : List CycleView) (t : CycleView) (n : ℕ) → t ≡ next_record r jobs carry restarts j → 0 < n
    → future r jobs carry restarts j n ≡ t ∷ future r jobs carry restarts (t ∷ j) (n - 1)
unfolding future
future_next r jobs carry restarts j t zero is some = absurd (omega (arith, some))
future_next r jobs carry restarts j t (suc n) is some =
    let less : n ≡ suc n - 1 = omega arith in
    ap (λ (u : CycleView). u ∷ future r jobs carry restarts (u ∷ j) n) (sym is) ∙ ap (λ i. t ∷ future r jobs carry restarts (t ∷ j) i) less

pub future_length : (r : RingView) (jobs : List Job) (carry : Carry) (restarts : Restarts) (j : List CycleView) (n : ℕ) → length (future r jobs carry restarts j n) ≡ n
unfolding future
future_length r jobs carry restarts j zero = refl
future_length r jobs carry restarts j (suc n) = ap suc (future_length r jobs carry restarts (next_record r jobs carry restarts j ∷ j) n)

-- What is known when the next cycle of a ring is made.
pub record IsMore {L : Type 0} (carry_of : L → Carry) (restart_of : L → Restarts) (p : Part L) (ring : Ring L) (totals : Totals) (v : Voice) : Type 0 where
  pub rest : List CycleView
  pub later : v.later ≡ newest ring ∷ rest
  pub left : length rest ≡ p.left - 1
  pub last : length rest ≡ 0 → v.totals ≡ totals
  pub at : (time d : ℕ) → d ≡ span time (newest ring).phase → d ≤ 1000
      → IsAt carry_of restart_of (record { ring = ring; wishes = p.wishes; totals = totals; left = p.left - 1; at = p.at + d; mark = p.mark }) (gone_on time v v.later)

in_order : (m : CycleView) (j : List CycleView) → reverse (m ∷ j) ≡ reverse j ++ m ∷ []
in_order m j = reverse-append (m ∷ []) j

no_more : {X : Type 0} (xs ys : List X) → length ys ≡ 0 → xs ++ ys ≡ xs
no_more xs [] none = append-nil xs
no_more xs (y ∷ ys) none = absurd (omega (arith, none))

pub one_more : {L : Type 0} (carry_of : L → Carry) (restart_of : L → Restarts) (p : Part L) (ring : Ring L) (totals : Totals) (v : Voice) → NextLaw → MoreLaw → FewLaw
    → IsAt carry_of restart_of p v → 0 < p.left → AfterCycle carry_of restart_of p.ring ring → IsNextOf carry_of restart_of p.ring (newest ring) → totals ≡ with_cycle p.totals (newest ring) → IsFew (newest ring)
    → IsMore carry_of restart_of p ring totals v
unfolding gone_on
one_more {L = L} carry_of restart_of p ring totals v law more fewer is some after next counted few =
    let t : CycleView = newest ring in
    let made : List CycleView = is.made in
    let next_is : t ≡ next_record is.setup is.jobs is.carry is.restarts made = law is.setup is.jobs is.carry is.restarts made t (next.next is.setup is.jobs is.carry is.restarts made is.stands_for) in
    let rest : List CycleView = future is.setup is.jobs is.carry is.restarts (t ∷ made) (p.left - 1) in
    let later : v.later ≡ t ∷ rest = is.later_is ∙ future_next is.setup is.jobs is.carry is.restarts made t p.left next_is some in
    let count : length rest ≡ p.left - 1 = future_length is.setup is.jobs is.carry is.restarts (t ∷ made) (p.left - 1) in
    let totals_is : totals ≡ totals_of (reverse (t ∷ made)) = counted ∙ ap (λ x. with_cycle x t) is.counted ∙ sym (more (reverse made) t) ∙ sym (ap totals_of (in_order t made)) in
    let whole : v.totals ≡ totals_of (reverse (t ∷ made) ++ rest) =
    is.totals_is ∙ ap (λ l. totals_of (reverse made ++ l)) later ∙ sym (ap totals_of (append_assoc (reverse made) (t ∷ []) rest)) ∙ sym (ap (λ l. totals_of (l ++ rest)) (in_order t made)) in
    record {
      rest = rest;
      later = later;
      left = count;
      last = λ none. whole ∙ ap totals_of (no_more (reverse (t ∷ made)) rest none) ∙ sym totals_is;
      at = λ time d d_is d_few.
          subst (λ l. IsAt carry_of restart_of (record { ring = ring; wishes = p.wishes; totals = totals; left = p.left - 1; at = p.at + d; mark = p.mark }) (gone_on time v l)) (sym later) (record {
            setup = is.setup;
            jobs = is.jobs;
            carry = is.carry;
            restarts = is.restarts;
            made = t ∷ made;
            valid = is.valid;
            stands_for = after.stands_for is.setup is.jobs is.carry is.restarts made is.stands_for;
            wishes_is = is.wishes_is;
            voice_wishes = is.voice_wishes;
            mark_is = is.mark_is;
            at_is = let here = is.at_is in omega (arith, here, d_is);
            soon = let before = is.soon in omega (arith, before, d_few);
            counted = totals_is;
            few = let n_is : length made + 1 ≡ length (t ∷ made) = omega arith in subst (AreFew totals) n_is (subst (λ x. AreFew x (length made + 1)) (sym counted) (fewer p.totals t (length made) is.few few));
            left_is = count;
            later_is = refl;
            totals_is = whole;
            most = let before = is.most in omega (arith, before, some);
          });
    }

-- the lines of a cycle, and the end line if it is the last
first_parts : (w : WishesView) (totals last : Totals) (t : CycleView) (rest : List CycleView) (l : ℕ) → length rest ≡ l → (length rest ≡ 0 → totals ≡ last)
    → first_text w totals (t ∷ rest) ≡ cycle_text w t ++ (if l == 0 then end_text last else [])
unfolding first_text
first_parts w totals last t [] l count end =
    let none : (l == 0) ≡ true = grind (arith, nat_tests, count) in
    ap (λ x. cycle_text w t ++ end_text x) (end refl) ∙ sym (ap (λ (b : Bool). cycle_text w t ++ (if b then end_text last else [])) none)
first_parts w totals last t (next ∷ rest) l count end =
    let some : (l == 0) ≡ false = grind (arith, nat_tests, count) in
    sym (append-nil (cycle_text w t)) ∙ sym (ap (λ (b : Bool). cycle_text w t ++ (if b then end_text last else [])) some)

pub text_is : {L : Type 0} (carry_of : L → Carry) (restart_of : L → Restarts) (p : Part L) (ring : Ring L) (totals : Totals) (v : Voice) → IsAt carry_of restart_of p v → IsMore carry_of restart_of p ring totals v
    → first_text v.wishes v.totals v.later ≡ cycle_text p.wishes (newest ring) ++ (if p.left - 1 == 0 then end_text totals else [])
text_is carry_of restart_of p ring totals v is more =
    ap (λ l. first_text v.wishes v.totals l) more.later ∙ ap (λ w. first_text w v.totals (newest ring ∷ more.rest)) is.voice_wishes
    ∙ first_parts p.wishes v.totals totals (newest ring) more.rest (p.left - 1) more.left more.last

pub goes_failed : {L E : Type 0} (carry_of : L → Carry) (restart_of : L → Restarts) (time : ℕ) (old new : Part L) (a b : Seen) (r : Result Bool E) (v : Voice)
    → IsErr r → HasFailed a b (first_text v.wishes v.totals v.later) → GoesOn carry_of restart_of time old new a b r v
goes_failed {E = E} carry_of restart_of time old new a b (Ok x) v is failed = absurd (never x is)
  where
    never : (x : Bool) → IsErr {E = E} (Ok x) → ⊥
    never x is = cc
goes_failed carry_of restart_of time old new a b (Err e) v is failed = record { at = tt; written = failed; timed = tt }

timed_is : (later rest : List CycleView) (t : CycleView) (phase : ℕ) → later ≡ t ∷ rest → phase ≡ t.phase → nat_le 3 phase ≡ is_timed later
unfolding is_timed
timed_is later rest t phase is same = ap (nat_le 3) same ∙ sym (ap is_timed is)

pub goes_well : {L E : Type 0} (carry_of : L → Carry) (restart_of : L → Restarts) (time d phase : ℕ) (p : Part L) (ring : Ring L) (totals : Totals) (a b c : Seen) (v : Voice)
    → IsAt carry_of restart_of p v → IsMore carry_of restart_of p ring totals v → phase ≡ (newest ring).phase → d ≡ span time phase → d ≤ 1000
    → HasTaken a b (cycle_text p.wishes (newest ring)) → HasTaken b c (if p.left - 1 == 0 then end_text totals else [])
    → GoesOn {E = E} carry_of restart_of time p (record { ring = ring; wishes = p.wishes; totals = totals; left = p.left - 1; at = p.at + d; mark = p.mark }) a c (Ok (nat_le 3 phase)) v
goes_well carry_of restart_of time d phase p ring totals a b c v is more same d_is few first second = record {
  at = more.at time d (d_is ∙ ap (span time) same) few;
  written = subst (HasTaken a c) (sym (text_is carry_of restart_of p ring totals v is more)) (taken_then a b c (cycle_text p.wishes (newest ring)) (if p.left - 1 == 0 then end_text totals else []) first second);
  timed = timed_is v.later more.rest (newest ring) phase more.later same;
}

-- What is written with a mark is written.
abbrev pub plain_of : Seen → plain.Seen
plain_of a = record { held = a.held; faults = a.faults; room = a.room }

pub unmarked_writes : {T E : Type 0} (a b : Seen) (r : Result T E) (text : List ℕ) → Writes a b r text → plain.Writes (plain_of a) (plain_of b) r (marked a.mark text)
unmarked_writes a b (Ok x) text w = record { taken = w.taken; faultless = w.faultless; room_left = w.room_left }
unmarked_writes a b (Err e) text w = record { count = w.count; few = w.few; taken = w.taken; cause = w.cause; full = w.full; room_left = w.room_left }

-- no cycle of the ring begins at a moment
gone_none : (time : ℕ) (v : Voice) (later : List CycleView) → v.later ≡ later → length later ≡ 0 → gone_on time v later ≡ v
unfolding gone_on
gone_none time v [] is none = ap (λ l. record { number = v.number; wishes = v.wishes; totals = v.totals; at = v.at; later = l }) (sym is)
gone_none time v (t ∷ later) is none = absurd (omega (arith, none))

pub record IsIdle (time moment : ℕ) (v : Voice) : Type 0 where
  pub same : passed time moment v ≡ v
  pub none : begun time moment v ≡ []

idle_done : (time moment : ℕ) (v : Voice) → length v.later ≡ 0 → IsIdle time moment v
unfolding passed from_moment
idle_done time moment v none = record { same = by (v.at == moment); none = empty v.later none }
  where
    by : (b : Bool) → (if b then gone_on time v v.later else v) ≡ v
    by true = gone_none time v v.later refl none
    by false = refl

    empty : (later : List CycleView) → length later ≡ 0 → from_moment time v.at later moment ≡ []
    empty [] none = refl
    empty (t ∷ later) none = absurd (omega (arith, none))

idle_later : (time moment : ℕ) (v : Voice) → moment < v.at → IsIdle time moment v
unfolding passed
idle_later time moment v before = record {
  same = let other : (v.at == moment) ≡ false = grind (arith, nat_tests, before) in ap (λ (b : Bool). if b then gone_on time v v.later else v) other;
  none = none_before time v.at v.later moment before;
}

pub passes_idle : {L E : Type 0} (carry_of : L → Carry) (restart_of : L → Restarts) (time moment : ℕ) (p : Part L) (a : plain.Seen) (v : Voice)
    → IsAt carry_of restart_of p v → IsIdle time moment v → Passes {E = E} carry_of restart_of time moment p a a (Ok false) v
unfolding first_text is_timed
passes_idle carry_of restart_of time moment p a v is idle = record {
  at = subst (IsAt carry_of restart_of p) (sym idle.same) is;
  written = subst (plain.HasTaken a a) (sym (ap (λ l. marked (mark_of v.number) (first_text v.wishes v.totals l)) idle.none ∙ marked_none (mark_of v.number))) (plainly.taken_none a);
  timed = sym (ap is_timed idle.none);
}

pub is_idle : {L : Type 0} (carry_of : L → Carry) (restart_of : L → Restarts) (time moment : ℕ) (p : Part L) (v : Voice) → IsAt carry_of restart_of p v → IsFrom moment v
    → ((p.left ≡ 0) ⊎ (p.at ≡ moment → ⊥)) → IsIdle time moment v
is_idle carry_of restart_of time moment p v is from (inl none) = idle_done time moment v (is.left_is ∙ none)
is_idle carry_of restart_of time moment p v is from (inr apart) = elim (cases_lt 0 (length v.later)) [
  | inl some ↦ let above = from some in let here = is.at_is in idle_later time moment v (beyond above here (elim (cases_lt moment v.at) [ inl lt ↦ inl lt | inr ge ↦ inr ge ]))
  | inr none ↦ idle_done time moment v (omega (arith, none))
]
  where
    beyond : moment ≤ v.at → v.at ≡ p.at → (moment < v.at) ⊎ (v.at ≤ moment) → moment < v.at
    beyond above here (inl lt) = lt
    beyond above here (inr ge) = absurd (apart (omega (arith, above, here, ge)))

-- its cycle begins at the moment
starts_here : (time : ℕ) (v : Voice) (moment : ℕ) (later : List CycleView) → v.at ≡ moment → 0 < length later → from_moment time v.at later moment ≡ later
unfolding from_moment
starts_here time v moment [] here some = absurd (omega (arith, some))
starts_here time v moment (t ∷ later) here some =
    let test : (v.at == moment) ≡ true = grind (arith, nat_tests, here) in
    ap (λ (b : Bool). if b then t ∷ later else from_moment time (v.at + span time t.phase) later moment) test

pub passes_here : {L E : Type 0} (carry_of : L → Carry) (restart_of : L → Restarts) (time moment : ℕ) (p new : Part L) (a b : Seen) (r : Result Bool E) (v : Voice)
    → IsAt carry_of restart_of p v → 0 < p.left → p.at ≡ moment → a.mark ≡ p.mark → GoesOn carry_of restart_of time p new a b r v → Passes carry_of restart_of time moment new (plain_of a) (plain_of b) r v
unfolding passed
passes_here carry_of restart_of time moment p new a b r v is some here mark goes =
    let at : v.at ≡ moment = is.at_is ∙ here in
    let more : 0 < length v.later = let left = is.left_is in omega (arith, some, left) in
    let all : begun time moment v ≡ v.later = starts_here time v moment v.later at more in
    let test : (v.at == moment) ≡ true = grind (arith, nat_tests, at) in
    let pass_is : (if v.at == moment then gone_on time v v.later else v) ≡ gone_on time v v.later = ap (λ (b : Bool). if b then gone_on time v v.later else v) test in
    record {
      at = subst (λ u. IfOk r (λ _. IsAt carry_of restart_of new u)) (sym pass_is) goes.at;
      written =
          subst (plain.Writes (plain_of a) (plain_of b) r) (ap (λ m. marked m (first_text v.wishes v.totals v.later)) (mark ∙ is.mark_is) ∙ sym (ap (λ l. marked (mark_of v.number) (first_text v.wishes v.totals l)) all))
          (unmarked_writes a b r (first_text v.wishes v.totals v.later) goes.written);
      timed = subst (λ l. IfOk r (λ timed. timed ≡ is_timed l)) (sym all) goes.timed;
    }
