-- What holds after any calls: each kind of call keeps it, and so do its parts.
use Rattle.sercos_master.proofs.Words.{cases_Bool, ◌⊎◌, inl, inr, ◌≡◌, ℕ, zero, suc, ◌+◌, ◌<◌, ◌≤◌, Bool, true, false, List, [], ◌∷◌, Option, Some, None, Result, Ok, Err, length, refl, sym, ◌∙◌, ap, subst, arith, if◌then◌else◌, ◌==◌, ◌&&◌, nat_le, is_some, is_none, slice_index, and_parts, cases_eq, cond_both, eqb-true, false≢true, leb-true, or_cases, none-some, same_Some, status_of, word_at, Hear, record_bytes, PlanView, planned, Stop, wishes_given, last_long_stop, is_place, of_phase, Known, Task, member, Call, HearMst, HearAt, Mdt, End, Restart, Past, IsPlannedBy, past, outcomes, is_idle, first_from, is_mst, place_of, is_taken, hearing, after_taken, after_at_of, trouble, first_trouble, first_trouble_from, with_stop, is_plan_due, all_read, with_plan, planned_by, with_due_plan, settled, in_turn, has_turn, next_task, begins, fall_of, is_done, goes_on, new_epoch, still_waiting, after_mdt, after_end}
use Rattle.sercos_service_master.specs.Calls as channel
use Rattle.sercos_plan.specs.Views.{ChainView}
use Rattle.sercos_trace.specs.declared.events.Stop.TheVariants as stop

-- an optional value is missing or there
pub cases_Option : {A : Type 0} (o : Option A) → (o ≡ None) ⊎ ((x : A) × (o ≡ Some x))
cases_Option None = inl refl
cases_Option (Some x) = inr (x, refl)

-- THE FIRST PLACE that passes a test is one of them, and those before it fail.
pub record IsFirst (k n i : ℕ) (test : ℕ → Bool) : Type 0 where
  pub from : k ≤ i
  pub below : i < k + n
  pub passes : test i ≡ true
  pub before : (j : ℕ) → k ≤ j → j < i → test j ≡ false

pub first_found : (k n i : ℕ) (test : ℕ → Bool) → first_from k n test ≡ Some i → IsFirst k n i test
first_found k zero i test found = absurd (cc)
first_found k (suc n) i test found = elim (cases_Bool (test k)) [
  | inl passes ↦ let found = rw passes at found in let same : k ≡ i = same_Some k i found in
      record {
        from = omega (arith, same);
        below = omega (arith, same);
        passes = subst (λ j. test j ≡ true) same passes;
        before = λ j low high. absurd (omega (arith, same, low, high));
      }
  | inr fails ↦ let found = rw fails at found in let more = first_found (k + 1) n i test found in
      record {
        from = omega (arith, more.from);
        below = omega (arith, more.below);
        passes = more.passes;
        before = λ j from less. elim (cases_eq j k) [
          | inl same ↦ ap test same ∙ fails
          | inr other ↦ more.before j (omega (arith, from, other)) less
        ];
      }
]

-- AN AT changes nothing, or is taken.
pub at_keeps : (P : Past → Type 0) (s : Known) (place : Option ℕ) (content : List ℕ) (p : Past) → P p
    → ((k : ℕ) → place ≡ Some k → is_taken s p k content ≡ true → P (after_taken k content p)) → P (after_at_of s place content p)
at_keeps P s None content p before taken = before
at_keeps P s (Some k) content p before taken = cond_both (is_taken s p k content) (after_taken k content p) p P (taken k refl)
    (λ off. before)

-- What it leaves of a channel: nothing new, or the AT is of its drive, in a later phase than 1, and the channel hears its status.
pub channel_keeps : (P : List channel.Call → Type 0) (i k : ℕ) (content : List ℕ) (p : Past) → P (p.calls k)
    → (k ≡ i → P (Hear (status_of (word_at content 1)) (word_at content 3) ∷ p.calls k)) → P ((after_taken i content p).calls k)
channel_keeps P i k content p before hears = cond_both (k == i) (hearing (p.now.phase == 1) i content p).calls (p.calls k) P
    (λ on. let same = eqb-true k i on in subst (λ (n : ℕ). P (hearing (p.now.phase == 1) n content p).calls) same
    (elim (cases_Bool (p.now.phase == 1)) [ inl on ↦ rw on before | inr off ↦ rw off (hears same) ])) (λ off. before)

-- THE ANSWERS ARE LOOKED AT. What brings a stop: an outcome; reads that no plan fits; records that are too long for an MDT.
pub data Brings (s : Known) (p : Past) (x : Stop) : Type 0 where
  OfTrouble : (k : ℕ) → k < length s.drives → trouble s p k ≡ Some x → Brings s p x
  OfChain : (chain : ChainView) → x ≡ stop.NoFit chain → first_trouble s p ≡ None → all_read s p ≡ true
      → planned (wishes_given s (outcomes p)) ≡ Err chain → Brings s p x
  OfRecords : first_trouble s p ≡ None → all_read s p ≡ true → nat_le (record_bytes (wishes_given s (outcomes p)).drives) 2047 ≡ false
      → last_long_stop s.drives 0 (outcomes p) ≡ Some x → Brings s p x

-- the plan is made
pub record Makes (s : Known) (p : Past) (plan : PlanView) : Type 0 where
  pub unstopped : p.stop ≡ None
  pub none : p.plan ≡ None
  pub two : p.now.phase ≡ 2
  pub untroubled : first_trouble s p ≡ None
  pub by_reads : IsPlannedBy s p plan

abbrev pub stopped : Stop → Past → Past
stopped x p = record p { now = record p.now { stops = true }; stop = Some x }

abbrev pub made : PlanView → Past → Past
made plan p = record p { now = record p.now { plans = true }; plan = Some plan }

pub none_of : {A : Type 0} (o : Option A) → is_none o ≡ true → o ≡ None
none_of None on = refl
none_of (Some x) on = absurd (cc)

pub never_both : {A : Type 0} (o : Option A) → is_some o ≡ true → is_none o ≡ true → ⊥
never_both None on off = cc
never_both (Some x) on off = cc

pub trouble_found : (s : Known) (p : Past) (n k : ℕ) (x : Stop) → first_trouble_from s p k n ≡ Some x
    → (i : ℕ) × (i < k + n) × (trouble s p i ≡ Some x)
trouble_found s p zero k x is = absurd (cc)
trouble_found s p (suc n) k x is = elim (cases_Option (trouble s p k)) [
  | inl none ↦ let m = trouble_found s p n (k + 1) x (rw none at is) in let less = m.1 in (m.0, omega arith, m.2)
  | inr (y, some) ↦ (k, omega arith, some ∙ rw some at is)
]

-- nothing comes of the answers: there is a stop already, or no trouble, and a plan that would be due is there
pub record Rests (s : Known) (p : Past) : Type 0 where
  pub untroubled : p.stop ≡ None → first_trouble s p ≡ None
  pub has_plan : p.stop ≡ None → p.now.phase ≡ 2 → all_read s p ≡ true
      → nat_le (record_bytes (wishes_given s (outcomes p)).drives) 2047 ≡ true → is_some p.plan ≡ true

-- Nothing comes of them, a stop, or the plan.
pub settled_keeps : (P : Past → Type 0) (s : Known) (p : Past) → (Rests s p → P p)
    → ((x : Stop) → p.stop ≡ None → Brings s p x → P (stopped x p)) → ((plan : PlanView) → Makes s p plan → P (made plan p))
    → P (settled s p)
settled_keeps P s p rests stops plans = by (first_trouble s p) refl p.stop refl
  where
    -- after a stop no plan is due
    after_stop : (q : Past) → is_some q.stop ≡ true → P q → P (with_due_plan s q)
    after_stop q some rest = cond_both (is_plan_due s q) (planned_by s q) q P
        (λ on. absurd (never_both q.stop some (and_parts (is_none q.stop) _ (and_parts (q.now.phase == 2) _ on).1).0)) (λ off. rest)

    newly : (x : Stop) → p.stop ≡ None → P (stopped x p) → P (with_stop (Some x) p)
    newly x free is = subst (λ (o : Option Stop). P (if is_some o then p else stopped x p)) (sym free) is

    due : first_trouble s p ≡ None → p.stop ≡ None → P (with_due_plan s p)
    due none free = cond_both (is_plan_due s p) (planned_by s p) p P makes
        (λ off. rests (record { untroubled = λ is. none; has_plan = λ is two read fits. was off two read p.plan refl }))
      where
        was : is_plan_due s p ≡ false → p.now.phase ≡ 2 → all_read s p ≡ true → (o : Option PlanView) → p.plan ≡ o → is_some p.plan ≡ true
        was off two read (Some plan) is = ap is_some is
        was off two read None is = absurd (false≢true (sym off ∙ rw (two, free, is, read) refl))

        makes : is_plan_due s p ≡ true → P (planned_by s p)
        makes on = cond_both (nat_le (record_bytes (wishes_given s (outcomes p)).drives) 2047)
            (with_plan (planned (wishes_given s (outcomes p))) p) (with_stop (last_long_stop s.drives 0 (outcomes p)) p) P
            (λ fits. plan fits (planned (wishes_given s (outcomes p))) refl)
            (λ long. long_stop long (last_long_stop s.drives 0 (outcomes p)) refl)
          where
            more : (is_none p.plan && all_read s p) ≡ true
            more = (and_parts (is_none p.stop) _ (and_parts (p.now.phase == 2) _ on).1).1

            read : all_read s p ≡ true
            read = (and_parts (is_none p.plan) (all_read s p) more).1

            plan : nat_le (record_bytes (wishes_given s (outcomes p)).drives) 2047 ≡ true → (r : Result PlanView ChainView)
                → planned (wishes_given s (outcomes p)) ≡ r → P (with_plan r p)
            plan fits (Ok q) is = plans q (record {
              unstopped = free;
              none = none_of p.plan (and_parts (is_none p.plan) (all_read s p) more).0;
              two = eqb-true p.now.phase 2 (and_parts (p.now.phase == 2) _ on).0;
              untroubled = none;
              by_reads = record { read = read; fits = fits; planned_is = is };
            })
            plan fits (Err chain) is = newly (stop.NoFit chain) free (stops (stop.NoFit chain) free (OfChain chain refl none read is))

            long_stop : nat_le (record_bytes (wishes_given s (outcomes p)).drives) 2047 ≡ false → (o : Option Stop)
                → last_long_stop s.drives 0 (outcomes p) ≡ o → P (with_stop o p)
            long_stop long None is = rests (record {
              untroubled = λ is. none;
              has_plan = λ is two read fits. absurd (false≢true
                  (sym long ∙ fits));
            })
            long_stop long (Some x) is = newly x free (stops x free (OfRecords none read long is))

    by : (o : Option Stop) → first_trouble s p ≡ o → (old : Option Stop) → p.stop ≡ old → P (with_due_plan s (with_stop o p))
    by None none None free = due none free
    by (Some x) some None free = subst (λ (o : Option Stop). P (with_due_plan s (if is_some o then p else stopped x p))) (sym free)
        (after_stop (stopped x p) refl (stops x free (let f = trouble_found s p (length s.drives) 0 x some in let less = f.1 in
        OfTrouble f.0 (omega arith) f.2)))
    by o is (Some y) had = kept o
      where
        rest : P p
        rest = rests (record {
          untroubled = λ free. absurd (none-some y (sym free ∙ had));
          has_plan = λ free. absurd (none-some y
              (sym free ∙ had));
        })

        kept : (o : Option Stop) → P (with_due_plan s (with_stop o p))
        kept None = after_stop p (ap is_some had) rest
        kept (Some x) = subst (λ (o : Option Stop). P (with_due_plan s (if is_some o then p else stopped x p))) (sym had)
            (after_stop p (ap is_some had) rest)

-- A TASK BEGINS on an idle channel that has its turn, if there is no stop.
pub record BeginsNext (s : Known) (p : Past) (k : ℕ) (t : Task) : Type 0 where
  pub unstopped : p.stop ≡ None
  pub idle : is_idle p k ≡ true
  pub late : 2 ≤ p.now.phase
  pub turn : p.now.phase ≡ 2 → in_turn s p ≡ Some k
  pub next : next_task s p k ≡ Some t
  pub in_phase : t.phase ≡ p.now.phase

pub begins_next : (s : Known) (p : Past) (k : ℕ) (t : Task) → begins s p k ≡ Some t → BeginsNext s p k t
begins_next s p k t is = by (is_none p.stop && (is_idle p k && has_turn s p k)) refl is
  where
    place : (o : Option ℕ) → is_place k o ≡ true → o ≡ Some k
    place None on = absurd (cc)
    place (Some i) on = ap (λ (n : ℕ). Some n) (sym (eqb-true k i on))

    of : (o : Option Task) → of_phase p.now.phase o ≡ Some t → (o ≡ Some t) × (t.phase ≡ p.now.phase)
    of None got = absurd (cc)
    of (Some u) got = elim (cases_Bool (u.phase == p.now.phase)) [
      | inl on ↦ let got = rw on at got in let same : u ≡ t = cc in
          (got, ap (λ (x : Task). x.phase) (sym same) ∙ eqb-true u.phase p.now.phase on)
      | inr off ↦ let got = rw off at got in absurd (cc)
    ]

    by : (v : Bool) → (is_none p.stop && (is_idle p k && has_turn s p k)) ≡ v
        → (if v then of_phase p.now.phase (next_task s p k) else None) ≡ Some t
        → BeginsNext s p k t
    by false off got = absurd (cc)
    by true on got =
        let free = and_parts (is_none p.stop) _ on in
        let ready = and_parts (is_idle p k) (has_turn s p k) free.1 in
        let so = of (next_task s p k) got in
        let turn : (2 ≤ p.now.phase) × (p.now.phase ≡ 2 → in_turn s p ≡ Some k) = elim
        (or_cases (nat_le 3 p.now.phase) ((p.now.phase == 2) && is_place k (in_turn s p)) ready.1) [
          | inl late ↦ let three = leb-true 3 p.now.phase late in (omega (arith, three), λ two. absurd (omega (arith, three, two)))
          | inr same ↦
              let both = and_parts (p.now.phase == 2) _ same in
              let two = eqb-true p.now.phase 2 both.0 in (omega (arith, two), λ is. place (in_turn s p) both.1)
        ] in
        record { unstopped = none_of p.stop free.0; idle = ready.0; late = turn.0; turn = turn.1; next = so.0; in_phase = so.1 }

-- THE END OF A CYCLE is a fall, or the ring goes on, to the next phase if all is done.
abbrev pub going : Bool → Past → Past
going done p = goes_on (if done then p.now.phase + 1 else p.now.phase) p

pub end_keeps : (P : Past → Type 0) (s : Known) (p : Past) → P (new_epoch (p.cycle + 1) (still_waiting p))
    → ((done : Bool) → is_done s p ≡ done → P (going done p)) → P (after_end s p)
end_keeps P s p falls goes = elim (cases_Bool (is_some (fall_of s p))) [ inl on ↦ rw on falls | inr off ↦ rw off (goes (is_done s p) refl) ]

-- what an MST leaves, whole or not
abbrev pub came_back : Bool → Past → Past
came_back whole p = record p { now = record p.now { whole = whole } }

-- AFTER ANY CALLS. A property holds, if it holds at the opening and each of these steps keeps it.
pub record Keeps (P : Past → Type 0) (s : Known) (requests : ℕ → List Task) : Type 0 where
  pub first : P (new_epoch 0 requests)
  pub mst : (h : List Call) (whole : Bool) → P (past s requests h) → P (came_back whole (past s requests h))
  pub taken : (h : List Call) (k : ℕ) (content : List ℕ) → k < length s.drives → is_taken s (past s requests h) k content ≡ true
      → P (past s requests h)
      → P (after_taken k content (past s requests h))
  pub mdt : (h : List Call) → P (past s requests h) → P (after_mdt s (past s requests h))
  pub on : (h : List Call) (done : Bool) → is_done s (past s requests h) ≡ done → P (past s requests h) → P (going done (past s requests h))
  pub new : (h : List Call) (cycle : ℕ) → P (past s requests h) → P (new_epoch cycle (still_waiting (past s requests h)))

pub past_keeps : (P : Past → Type 0) (s : Known) (requests : ℕ → List Task) → Keeps P s requests → (h : List Call) → P (past s requests h)
past_keeps P s requests keeps [] = keeps.first
past_keeps P s requests keeps (HearMst content ∷ h) = keeps.mst h (is_mst (past s requests h).now.phase content)
    (past_keeps P s requests keeps h)
past_keeps P s requests keeps (HearAt content ∷ h) =
    let before = past_keeps P s requests keeps h in
    at_keeps P s (place_of s (slice_index content 0)) content (past s requests h) before (λ k place is. keeps.taken h k content
    (let less = (first_found 0 (length s.drives) k (λ i. (member s i).address == slice_index content 0) place).below in
    omega (arith, less)) is before)
past_keeps P s requests keeps (Mdt ∷ h) = keeps.mdt h (past_keeps P s requests keeps h)
past_keeps P s requests keeps (End ∷ h) =
    let before = past_keeps P s requests keeps h in
    end_keeps P s (past s requests h) (keeps.new h ((past s requests h).cycle + 1) before) (λ done is. keeps.on h done is before)
past_keeps P s requests keeps (Restart ∷ h) = keeps.new h (past s requests h).cycle (past_keeps P s requests keeps h)
