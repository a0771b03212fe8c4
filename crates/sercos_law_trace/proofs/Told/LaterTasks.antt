-- Which requests still wait after a request has ended, and which were begun after it.
use Rattle.sercos_law_trace.proofs.Words.{◌≡◌, inl, inr, ℕ, zero, suc, ◌+◌, ◌<◌, ◌≤◌, true, List, [], ◌∷◌, ◌++◌, refl, length, Option, Some, sym, ap, ◌∙◌, subst, arith, cond_both, none-some, drop, is_some, slice_get, drop-drop, outcome_of, PlanView, Begun, Known, Task, member, reads_count, is_ready, Report, count_requests, outcomes_in, Call, past, Channel, channel_at, Steps, Stays, Identifies, Hears, Plans, Begins, Moves, Within, Ends, Falls, newest, AreMoves, CallsAreMoves, AreBegunTasks, AreNumbered, Ascend, IsReportOf, count_so, get_dropped, same_Some}
use Rattle.sercos_law_trace.proofs.Told.FewTasks.{ready_more}
use Rattle.sercos_law_trace.proofs.Told.ToldLemmas.{HasWaited, early_or_waited, has_waited}

-- THE NUMBERS of the requests to a drive ascend.
pub record IsAbove (n : ℕ) (t : Task) : Type 0 where
  pub number : ℕ
  pub is : t.number ≡ Some number
  pub above : n < number

at_least : (i : ℕ) (tasks : List Task) (b : ℕ) (u : Task) → Ascend i tasks → slice_get tasks b ≡ Some u → (y : ℕ) × (u.number ≡ Some y) × (i ≤ y)
at_least i [] b u are got = absurd (none-some _ got)
at_least i (t ∷ tasks) zero u (n, is, low, rest) got = let same : t ≡ u = cc in (n, ap (λ (x : Task). x.number) (sym same) ∙ is, low)
at_least i (t ∷ tasks) (suc b) u (n, is, low, rest) got = let (y, named, least) = at_least (n + 1) tasks b u rest got in (y, named, omega (arith, low, least))

pub later_above : (i : ℕ) (tasks : List Task) (a b n : ℕ) (t u : Task) → Ascend i tasks → slice_get tasks a ≡ Some t → slice_get tasks b ≡ Some u → a < b → t.number ≡ Some n → IsAbove n u
later_above i [] a b n t u are first second less named = absurd (none-some _ first)
later_above i (x ∷ tasks) zero zero n t u are first second less named = absurd (omega (arith, less))
later_above i (x ∷ tasks) zero (suc b) n t u (m, is, low, rest) first second less named =
    let same : x ≡ t = cc in
    let (y, got, least) = at_least (m + 1) tasks b u rest second in
    record { number = y; is = got; above = omega (arith, same_Some m n (sym (ap (λ (y : Task). y.number) (sym same) ∙ is) ∙ named), least) }
later_above i (x ∷ tasks) (suc a) zero n t u are first second less named = absurd (omega (arith, less))
later_above i (x ∷ tasks) (suc a) (suc b) n t u (m, is, low, rest) first second less named = later_above (m + 1) tasks a b n t u rest first second (omega (arith, less)) named

-- WHAT WAITS is above a number.
abbrev pub AreAbove : ℕ → List Task → Type 0
AreAbove n tasks = (i : ℕ) (t : Task) → slice_get tasks i ≡ Some t → IsAbove n t

-- the requests that still wait on a channel
abbrev pub still : Channel → List Task
still c = drop (count_requests c.tasks) c.waiting

above_step : (s : Known) (k n : ℕ) (c d : Channel) → Steps s k c d → AreAbove n (still c) → AreAbove n (still d)
above_step s k n c d (Stays is) are = subst (λ (x : Channel). AreAbove n (still x)) (sym is) are
above_step s k n c d (Identifies is) are = subst (λ (x : Channel). AreAbove n (still x)) (sym is) are
above_step s k n c d (Hears status word unheard is) are = subst (λ (x : Channel). AreAbove n (still x)) (sym is) are
above_step s k n c d (Plans plan none two is) are = subst (λ (x : Channel). AreAbove n (still x)) (sym is) are
above_step s k n c d (Begins t next is) are = subst (λ (x : Channel). AreAbove n (still x)) (sym is)
    (cond_both (is_some t.number) (count_requests c.tasks + 1) (count_requests c.tasks)
    (λ v. AreAbove n (drop v c.waiting))
    (λ on. subst (AreAbove n) (drop-drop 1 (count_requests c.tasks) c.waiting)
    (λ i u got. are (1 + i) u (sym (get_dropped 1 (still c) i) ∙ got))) (λ off. are))

above_move : (s : Known) (k n : ℕ) (c d : Channel) → Moves s k c d → AreAbove n (still c) → AreAbove n (still d)
above_move s k n c d (Within step) are = above_step s k n c d step are
above_move s k n c d (Ends rises done is) are = subst (λ (x : Channel). AreAbove n (still x)) (sym is) are
above_move s k n c d (Falls is) are = subst (λ (x : Channel). AreAbove n (still x)) (sym is) are

above_moves : (s : Known) (k n : ℕ) (c : Channel) (channels : List Channel) → AreMoves s k c channels → AreAbove n (still c) → AreAbove n (still (newest c channels))
above_moves s k n c [] moves are = are
above_moves s k n c (d ∷ channels) moves are = above_move s k n (newest c channels) d moves.1 (above_moves s k n c channels moves.0 are)

-- and stays so with each call
pub above_call : CallsAreMoves → (s : Known) (requests : ℕ → List Task) (k n : ℕ) → k < length s.drives → (call : Call) (h : List Call) → AreAbove n (still (channel_at (past s requests h) k))
    → AreAbove n (still (channel_at (past s requests (call ∷ h)) k))
above_call calls s requests k n below call h are =
    let (channels, moves, is) = calls s requests call h k below in
    subst (λ (x : Channel). AreAbove n (still x)) (sym is) (above_moves s k n (channel_at (past s requests h) k) channels moves are)

-- A REQUEST THAT HAS ENDED was begun, as the task with its number, and waited before. Those begun after it in its epoch were waiting
-- after it.
abbrev pub AreLater : List Task → ℕ → List Begun → Type 0
AreLater waiting j [] = Unit {0}
AreLater waiting j (b ∷ newer) = AreLater waiting j newer × ((i : ℕ) × (t : Task) × (j < i) × (slice_get waiting i ≡ Some t) × (b.request ≡ t.request))

pub record HasEnded (s : Known) (k : ℕ) (waiting : List Task) (begun : List Begun) (tasks : List Task) (x : Report) : Type 0 where
  pub newer : List Begun
  pub one : Begun
  pub older : List Begun
  pub split : begun ≡ newer ++ one ∷ older
  pub task : Task
  pub at : slice_get tasks (length newer) ≡ Some task
  pub number : task.number ≡ Some x.number
  pub ended : outcome_of one.request one.answers ≡ Some x.outcome
  pub asks : one.request ≡ task.request
  pub place : ℕ
  pub got : slice_get waiting place ≡ Some task
  pub later : AreLater waiting place newer
  pub ready : is_ready (member s k) (outcomes_in begun) ≡ true
  pub late : reads_count (member s k) + 13 ≤ length older
  pub long : reads_count (member s k) + (13 + place) < length begun

module _ (s : Known) (k : ℕ) (plan : Option PlanView) (waiting : List Task) (phase : ℕ) where
  pub has_ended : (begun : List Begun) (tasks : List Task) (x : Report) → IsReportOf x begun tasks → AreBegunTasks s k plan waiting phase begun tasks → HasEnded s k waiting begun tasks x
  has_ended [] tasks x of are = absurd of
  has_ended (b ∷ older) [] x of are = absurd of
  has_ended (b ∷ older) (t ∷ tasks) x (inl is) are =
      let w = has_waited s k are.1.by_then waiting (outcomes_in older) t x.number are.1.task is.0 in
      let ended = are.1.ended in
      let at = w.at in record {
        newer = [];
        one = b;
        older = older;
        split = refl;
        task = t;
        at = refl;
        number = is.0;
        ended = is.1;
        asks = are.1.asks;
        place = w.place;
        got = w.got;
        later = tt;
        ready = ready_more s k (outcomes_in older) (outcome_of b.request b.answers) (omega (arith, at)) ∙ w.ready;
        late = omega (arith, at, ended);
        long = omega (arith, at, ended);
      }
  has_ended (b ∷ older) (t ∷ tasks) x (inr of) are =
      let rest = has_ended older tasks x of are.0 in
      let ended = are.1.ended in
      let long = rest.long in
      let w : HasWaited s k waiting (outcomes_in older) t = elim (early_or_waited s k are.1.by_then waiting (outcomes_in older) t are.1.task) [
        | inl early ↦ absurd (let few = early.1 in omega (arith, few, long, ended))
        | inr waited ↦ waited
      ] in
      let at = w.at in record {
        newer = b ∷ rest.newer;
        one = rest.one;
        older = rest.older;
        split = ap (λ l. b ∷ l) rest.split;
        task = rest.task;
        at = rest.at;
        number = rest.number;
        ended = rest.ended;
        asks = rest.asks;
        place = rest.place;
        got = rest.got;
        later = (rest.later, (w.place, t, omega (arith, at, ended, long), w.got, are.1.asks));
        ready = ready_more s k (outcomes_in older) (outcome_of b.request b.answers) (omega (arith, long, ended)) ∙ rest.ready;
        late = rest.late;
        long = omega (arith, long);
      }

  -- so it doesn't wait any more
  pub ended_count : AreNumbered waiting → (begun : List Begun) (tasks : List Task) (x : Report) → AreBegunTasks s k plan waiting phase begun tasks → (ended : HasEnded s k waiting begun tasks x) → ended.place < count_requests tasks
  ended_count have begun tasks x are ended = omega (arith, count_so s k plan waiting have phase begun tasks are ended.ready, ended.long)
