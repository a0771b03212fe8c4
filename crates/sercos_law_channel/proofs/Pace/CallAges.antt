-- The calls of the master's channel in a run.
use Rattle.sercos_law_channel.proofs.Words.{cases_Bool, ◌≡◌, ℕ, suc, ◌+◌, ◌≤◌, Bool, true, false, not, ◌&&◌, List, [], ◌∷◌, ◌++◌, length, refl, min, sym, ap, ◌∙◌, subst, arith, if◌then◌else◌, nat_le, ◌==◌, Option, Some, None, IsSome, is_some, option_map, unwrap_or, cond-true, cond-false, and_from, le-leb, eq-eqb, ne_eqb, Step, Answer, Request, Begun, step_at, with_step, open_in, steps_in, answers_it, answer_in, with_answer, Call, EndCycle, begun_by, age_of, AreCalls, Heard, View, whole_row, with_heard, with_begun, unless_restart, epoch_begun, begun_in, IsRun, AreWhole, BeginsEpoch, age_by, age_in, staying, StaysARun, calls_heard, calls_begun, calls_sent, calls_in, channel_calls, IsSent, AreSent, CallsBegin, age_if_open, AgesAreThose, AgesBeforeEnd, NoneLate, and_left, inl, inr, cases_Option}
use Rattle.sercos_law_channel.proofs.Pace.WholeCycles.{open_late, stays_clean, hears_throughout}
use Rattle.sercos_law_channel.proofs.Pace.EpochBegins.{run_after, Early, early_in}
use Rattle.sercos_law_channel.proofs.Pace.AgeRuns.{nothing_old, ages_in_time}
use Rattle.sercos_law_channel.proofs.Handshake.PhaseMoves.{uncut}

-- without its fall a cycle continues the row of MSTs that came back whole
row_more : (whole here falls restart : Bool) (n : ℕ) → (if whole && (here && not falls) then (if restart then 0 else n) + 1 else 0) ≤ (if whole && (here && not false) then (if restart then 0 else n) + 1 else 0)
row_more true true true restart n = omega arith
row_more true true false restart n = omega arith
row_more true false falls restart n = omega arith
row_more false here falls restart n = omega arith

pub stays_a_run : (busy : ℕ) → StaysARun busy
stays_a_run busy v past run = (
  run.0,
  record {
    commanded = run.1.commanded;
    heard = elim (cases_Option v.heard) [
      | inl none ↦ rw none tt
      | inr some ↦ let is = rw some.1 at run.1.heard in rw some.1 (record { got_mst = is.got_mst; stands = is.stands; says = is.says })
    ];
    late = run.1.late;
    begins = run.1.begins;
    sent = run.1.sent;
    ten = λ rises zero. let le = run.1.ten rises zero in let more = row_more v.whole (v.phase == 0) v.falls v.master_restarts (whole_row past) in omega (arith, le, more);
    rests = run.1.rests;
    top = run.1.top;
  },
)

-- The requests.
heard_so : (o : Option Heard) (h : List Call) → (AreCalls h → AreCalls (calls_heard o h))
    × (begun_by (calls_heard o h) ≡ with_heard o (begun_by h))
heard_so None h = (λ are. are, refl)
heard_so (Some a) h = (λ are. are, refl)

begun_so : (o : Option Request) (h : List Call) → (AreCalls h → (IsSome o → open_in (begun_by h) ≡ None) → AreCalls (calls_begun o h))
    × (begun_by (calls_begun o h) ≡ with_begun o (begun_by h))
begun_so None h = (λ are shut. are, refl)
begun_so (Some r) h = (λ are shut. (are, shut refl), refl)

sent_so : (sends : Bool) (h : List Call) → (AreCalls h → AreCalls (calls_sent sends h)) × (begun_by (calls_sent sends h) ≡ begun_by h)
sent_so true h = (λ are. are, refl)
sent_so false h = (λ are. are, refl)

-- the calls at the start of a cycle, if all before it are allowed
calls_start : (v : View) (h : List Call) (begun : List Begun) → AreCalls h × (begun_by h ≡ begun) →
    AreCalls (unless_restart v h) × (begun_by (unless_restart v h) ≡ unless_restart v begun)
calls_start v h begun are =
    uncut (λ (calls : List Call) (b : List Begun). AreCalls calls × (begun_by calls ≡ b)) v.master_restarts h begun (tt, refl) (λ on. are)

pub calls_begin : (busy : ℕ) → CallsBegin busy
calls_begin busy [] run = (tt, refl)
calls_begin busy (v ∷ past) run =
    let start = unless_restart v (channel_calls past) in
    let before = calls_start v (channel_calls past) (epoch_begun past) (calls_begin busy past run.0) in
    let heard : begun_by (calls_heard v.heard start) ≡ with_heard v.heard (unless_restart v (epoch_begun past)) =
    (heard_so v.heard start).1 ∙ ap (with_heard v.heard) before.1 in
    let all : begun_by (calls_in v (channel_calls past)) ≡ begun_in v past =
    (sent_so (nat_le 2 v.phase && is_some v.sent) (calls_begun v.begins (calls_heard v.heard start))).1
    ∙ (begun_so v.begins (calls_heard v.heard start)).1 ∙ ap (with_begun v.begins) heard in
    uncut (λ (calls : List Call) (b : List Begun). AreCalls calls × (begun_by calls ≡ b)) v.falls
    (EndCycle ∷ calls_in v (channel_calls past)) (begun_in v past) (tt, refl) (λ on. (
      (sent_so (nat_le 2 v.phase && is_some v.sent) (calls_begun v.begins (calls_heard v.heard start))).0
          ((begun_so v.begins (calls_heard v.heard start)).0 ((heard_so v.heard start).0 before.0)
          (λ some. ap open_in heard ∙ run.1.begins some)),
      all,
    ))

-- The age.

-- an answer adds a step if one is open after it
answered_steps : (a : Answer) (begun : List Begun) → is_some (open_in begun) ≡ true → length (steps_in (with_answer a begun)) ≡ (if is_some (open_in (with_answer a begun)) then suc (length (steps_in begun)) else length (steps_in begun))
answered_steps a [] some = absurd (cc)
answered_steps a (b ∷ past) some = elim (cases_Option (step_at b.request (a ∷ b.answers))) [ inl none ↦ rw none | inr (s, some) ↦ rw some ]

begun_steps : (r : Request) (begun : List Begun) → is_some (open_in ((record { request = r; answers = [] }) ∷ begun)) ≡ true → length (steps_in ((record { request = r; answers = [] }) ∷ begun)) ≡ suc (length (steps_in begun))
begun_steps r begun some = elim (cases_Option (step_at r [])) [
  | inl none ↦ let some = rw none at some in absurd (cc)
  | inr some_is ↦ rw some_is.1 refl
]

-- What became of the age and the number of steps since a start: nothing happened; or no age is counted any more, and the step that is
-- open, if any, is one more.
data Comes (start begun : List Begun) (old age : Option ℕ) : Type 0 where
  Same : begun ≡ start → age ≡ old → Comes start begun old age
  Fresh : age ≡ None → (is_some (open_in begun) ≡ true → length (steps_in begun) ≡ suc (length (steps_in start))) → (is_some (open_in begun) ≡ false → length (steps_in begun) ≡ length (steps_in start)) → Comes start begun old age

heard_comes : (o : Option Heard) (h : List Call) → Comes (begun_by h) (begun_by (calls_heard o h)) (age_of h) (age_of (calls_heard o h))
heard_comes None h = Same refl refl
heard_comes (Some a) h = elim (cases_Bool (answers_it (begun_by h) a.status)) [
  | inl is ↦ rw is (let steps = answered_steps (answer_in a.status a.word) (begun_by h) (and_left (is_some (open_in (begun_by h))) _ is)
      in Fresh refl (λ some. steps ∙ cond-true _ _ _ some) (λ none. steps ∙ cond-false _ _ _ none))
  | inr is ↦ rw is (Same refl refl)
]

begun_comes : (start : List Begun) (old : Option ℕ) (o : Option Request) (h : List Call) → (IsSome o → open_in (begun_by h) ≡ None) → Comes start (begun_by h) old (age_of h) → Comes start (begun_by (calls_begun o h)) old (age_of (calls_begun o h))
begun_comes start old None h shut c = c
begun_comes start old (Some r) h shut c = Fresh refl (λ some. let one = begun_steps r (begun_by h) some in let two = count c in
    omega (arith, one, two)) (λ off. shut_steps (step_at r []) off ∙ count c)
  where
    count : Comes start (begun_by h) old (age_of h) → length (steps_in (begun_by h)) ≡ length (steps_in start)
    count (Same is age) = ap (λ (l : List Begun). length (steps_in l)) is
    count (Fresh age more same) = same (ap is_some (shut refl))

    shut_steps : (o : Option Step) → is_some o ≡ false → length (with_step o [] ++ steps_in (begun_by h)) ≡ length (steps_in (begun_by h))
    shut_steps None off = refl
    shut_steps (Some s) off = absurd (cc)

-- after the sending, and the end of the cycle
ended : (start begun : List Begun) (age : ℕ) (found : Option ℕ) (sent : Bool) (h : List Call) → begun_by h ≡ begun → age_of h ≡ found → (is_some (open_in begun) ≡ true → sent ≡ true) → Comes start begun (age_if_open (is_some (open_in start)) age) found →
    option_map (λ (n : ℕ). n + 1) (age_of (calls_sent sent h)) ≡ age_if_open (is_some (open_in begun)) (age_by (is_some (open_in begun)) (length (steps_in begun) == length (steps_in start)) age)
ended start begun age found false h is aged sends c = elim (cases_Bool (is_some (open_in begun))) [
  | inl on ↦ let sends = rw on at sends in rw on (let bad = sends refl in absurd (cc))
  | inr off ↦ rw off (ap (option_map (λ (n : ℕ). n + 1)) (aged ∙ none_old off c))
]
  where
    none_old : is_some (open_in begun) ≡ false → Comes start begun (age_if_open (is_some (open_in start)) age) found → found ≡ None
    none_old off (Same same old) = old ∙ ap (λ (b : Bool). age_if_open b age) (ap (λ (l : List Begun). is_some (open_in l)) (sym same) ∙ off)
    none_old off (Fresh new more few) = new
ended start begun age found true h is aged sends c =
    ap (λ (l : List Begun). option_map (λ (n : ℕ). n + 1) (if is_some (open_in l) then Some (unwrap_or (age_of h) 0) else None)) is
    ∙ by (is_some (open_in begun)) refl
  where
    unwrapped : Comes start begun (age_if_open (is_some (open_in start)) age) found → is_some (open_in begun) ≡ true → unwrap_or (age_of h) 0 + 1 ≡ (if length (steps_in begun) == length (steps_in start) then age + 1 else 1)
    unwrapped (Same same old) on =
        let was : age_of h ≡ Some age = aged ∙ old ∙ ap (λ (b : Bool). age_if_open b age) (ap (λ (l : List Begun). is_some (open_in l)) (sym same) ∙ on) in
        let count : (length (steps_in begun) == length (steps_in start)) ≡ true = eq-eqb _ _ (ap (λ (l : List Begun). length (steps_in l)) same) in
        ap (λ (o : Option ℕ). unwrap_or o 0 + 1) was ∙ sym (cond-true (length (steps_in begun) == length (steps_in start)) (age + 1) 1 count)
    unwrapped (Fresh new more few) on =
        let count : (length (steps_in begun) == length (steps_in start)) ≡ false = ne_eqb _ _ (λ same. omega (arith, same, more on)) in
        ap (λ (o : Option ℕ). unwrap_or o 0 + 1) (aged ∙ new) ∙ sym (cond-false (length (steps_in begun) == length (steps_in start)) (age + 1) 1 count)

    by : (v : Bool) → is_some (open_in begun) ≡ v → option_map (λ (n : ℕ). n + 1) (if v then Some (unwrap_or (age_of h) 0) else None) ≡ age_if_open v (age_by v (length (steps_in begun) == length (steps_in start)) age)
    by true on = ap (λ (n : ℕ). Some n) (unwrapped c on)
    by false off = refl

module _ (busy : ℕ) where
  started : (r : Bool) (past : List View) → (r ≡ false → age_of (channel_calls past) ≡ age_if_open (is_some (open_in (epoch_begun past))) (age_in past)) → age_of (if r then [] else channel_calls past) ≡ age_if_open (is_some (open_in (if r then [] else epoch_begun past))) (age_in past)
  started true past is = refl
  started false past is = is refl

  cycle_age : (v : View) (past : List View) → IsRun busy (v ∷ past) → IsSent v past → (v.master_restarts ≡ false → age_of (channel_calls past) ≡ age_if_open (is_some (open_in (epoch_begun past))) (age_in past)) →
      option_map (λ (n : ℕ). n + 1) (age_of (calls_in v (channel_calls past))) ≡ age_if_open (is_some (open_in (begun_in v past))) (age_in (staying v ∷ past))
  cycle_age v past run sent before =
      let start = unless_restart v (channel_calls past) in
      let begun0 : begun_by start ≡ unless_restart v (epoch_begun past) = (calls_start v (channel_calls past) (epoch_begun past) (calls_begin busy past run.0)).1 in
      let heard : begun_by (calls_heard v.heard start) ≡ with_heard v.heard (unless_restart v (epoch_begun past)) = (heard_so v.heard start).1 ∙ ap (with_heard v.heard) begun0 in
      let both : begun_by (calls_begun v.begins (calls_heard v.heard start)) ≡ begun_in v past = (begun_so v.begins (calls_heard v.heard start)).1 ∙ ap (with_begun v.begins) heard in
      let comes = begun_comes (begun_by start) (age_of start) v.begins (calls_heard v.heard start) (λ some. ap open_in heard ∙ run.1.begins some) (heard_comes v.heard start) in
      let same : Comes (unless_restart v (epoch_begun past)) (begun_in v past) (age_if_open (is_some (open_in (unless_restart v (epoch_begun past)))) (age_in past)) (age_of (calls_begun v.begins (calls_heard v.heard start))) =
      subst (λ (o : Option ℕ). Comes (unless_restart v (epoch_begun past)) (begun_in v past) o (age_of (calls_begun v.begins (calls_heard v.heard start)))) (started v.master_restarts past before)
      (subst (λ (l : List Begun). Comes (unless_restart v (epoch_begun past)) l (age_of start) (age_of (calls_begun v.begins (calls_heard v.heard start)))) both
      (subst (λ (l : List Begun). Comes l (begun_by (calls_begun v.begins (calls_heard v.heard start))) (age_of start) (age_of (calls_begun v.begins (calls_heard v.heard start)))) begun0 comes)) in
      ended (unless_restart v (epoch_begun past)) (begun_in v past) (age_in past) (age_of (calls_begun v.begins (calls_heard v.heard start))) (nat_le 2 v.phase && is_some v.sent) (calls_begun v.begins (calls_heard v.heard start)) both refl
      (λ some. let late = open_late busy v past run some in and_from (nat_le 2 v.phase) (is_some v.sent) (le-leb 2 v.phase late) (sent some)) same

  pub ages_are_those : AgesAreThose busy
  ages_are_those [] run sent = refl
  ages_are_those (v ∷ past) run sent = by v.falls (λ on. cycle_age v past run (sent on).1 (λ goes_on. ages_are_those past run.0 ((sent on).0 goes_on))) refl
    where
      by : (falls : Bool) → (v.falls ≡ false → option_map (λ (n : ℕ). n + 1) (age_of (calls_in v (channel_calls past))) ≡ age_if_open (is_some (open_in (begun_in v past))) (age_in (staying v ∷ past))) → v.falls ≡ falls →
          age_of (if falls then [] else EndCycle ∷ calls_in v (channel_calls past)) ≡ age_if_open (is_some (open_in (if falls then [] else begun_in v past))) (if falls then 0 else age_in (staying v ∷ past))
      by true is at = refl
      by false is at = is at

  pub ages_before_end : AgesBeforeEnd busy
  ages_before_end v past run sent now = cycle_age v past run now (λ goes_on. ages_are_those past run.0 sent)

  -- No fall comes from the drive.

  sent_early : (past : List View) → IsRun busy past → BeginsEpoch past → AreSent past
  sent_early [] run begins = tt
  sent_early (u ∷ past) run begins = λ on.
      let early : Early u past = early_in busy u past run begins on in
      (λ goes_on. sent_early past run.0 (early.before goes_on), λ some. let none : open_in (begun_in u past) ≡ None = ap open_in early.begun in absurd (cc))

  sent_in : (cycles past : List View) → IsRun busy (cycles ++ past) → BeginsEpoch past → AreWhole cycles past → AreSent (cycles ++ past)
  sent_in [] past run begins whole = sent_early past run begins
  sent_in (v ∷ cycles) past run begins whole = λ on. (λ goes_on. sent_in cycles past run.0 begins whole.0, whole.1.sends)

  counted : (o : Option ℕ) (is_open : Bool) (age : ℕ) → age ≤ busy + 1 → option_map (λ (n : ℕ). n + 1) o ≡ age_if_open is_open age → min (unwrap_or o 0) 64 ≤ busy
  counted None is_open age le is = omega arith
  counted (Some n) false age le is = absurd (cc)
  counted (Some n) true age le is = let same : n + 1 ≡ age = cc in omega (arith, same, le)

  pub none_late : NoneLate busy
  none_late v cycles past run begins whole passed now passed_now =
      let going = stays_a_run busy v (cycles ++ past) run in
      let clean = stays_clean busy (staying v ∷ cycles) past going begins (whole, now) (passed, passed_now) in
      let age = ages_in_time busy (staying v) cycles past going clean in
      let none = nothing_old busy past (run_after busy cycles past run.0) begins in
      let is = ages_before_end v (cycles ++ past) run (sent_in cycles past run.0 begins whole) now.sends in
      let heard = hears_throughout busy (staying v ∷ cycles) past going begins (whole, now) (passed, passed_now) in
      (counted (age_of (calls_in v (channel_calls (cycles ++ past)))) (is_some (open_in (begun_in v (cycles ++ past)))) (age_in (staying v ∷ (cycles ++ past))) (omega (arith, age, none)) is, heard.1)
