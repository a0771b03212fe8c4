-- How a cycle ends: with a fall, in the next phase, or in the same. In phase 0 there is no fall.
use Rattle.sercos_master.proofs.Words.{inl, inr, ◌≡◌, ℕ, zero, suc, ◌+◌, ◌≤◌, Bool, true, false, List, [], ◌∷◌, Option, Some, None, Result, Ok, Err, length, ap, subst, refl, sym, ◌∙◌, arith, if◌then◌else◌, ◌&&◌, not, is_none, is_ok, is_some, option_map, slice_index, IfOk, IfErr, false≢true, Job, age_of, EventsView, Stop, PlanView, Outcome, option_or, Report, Known, Task, member, tasks_for, at_fault, Call, HearMst, HearAt, Mdt, End, Restart, Past, Turn, past, is_awaited, is_taken, wanted_len, place_of, after_mdt, settled, begins, with_begin, ready_to_send, is_sent_to, addressed_in, after_end, fall_of, has_lost_mst, has_lost_at, is_at_limit, is_done_in, next_phase, goes_on, new_epoch, still_waiting, Closes, CoreView, CoreStandsFor, IsIn, AreOpen, HasRestarted, closing_told, events_told, with_broken, with_reports}
use Rattle.sercos_service_master.specs.Calls as channel
use Rattle.sercos_trace.specs.declared.events.Fall.{Fall}
use Rattle.sercos_master.proofs.Keeping.{going, past_keeps}
use Rattle.sercos_master.proofs.Configured.{Leaves, leaves, at_phase}
use Rattle.sercos_master.proofs.Rings.{begins_late, ends_falling, ends_going_on, no_fall, none_from}
use Rattle.sercos_master.proofs.Told.{reports_length}

-- PHASE 0. The cycle before was of phase 0, too, if there was one in this epoch; no step was sent, and nothing is reported.
abbrev phase_before : List Turn → ℕ
phase_before [] = 0
phase_before (t ∷ turns) = t.phase

record IsClosing (p : Past) : Type 0 where
  before : phase_before p.turns ≡ 0
  silent : (k : ℕ) → age_of (p.calls k) ≡ None
  quiet : (k : ℕ) → p.now.report k ≡ None

abbrev ClosingIn0 : Past → Type 0
ClosingIn0 p = p.now.phase ≡ 0 → IsClosing p

none_taken : (s : Known) (p : Past) (k : ℕ) (content : List ℕ) → p.now.phase ≡ 0 → is_taken s p k content ≡ false
none_taken s p k content is = let awaits : is_awaited p k ≡ false = rw is refl in
    ap (λ b. b && (not (p.now.heard k) && is_none (at_fault (member s k).address (wanted_len s p k) content))) awaits

none_sent : (p : Past) (addressed : Option ℕ) (k : ℕ) → p.now.phase ≡ 0 → is_sent_to p addressed k ≡ false
none_sent p addressed k in_0 = rw in_0 refl

still_silent : (sends : Bool) (t : Option Task) (calls : List channel.Call) → sends ≡ false → t ≡ None → age_of calls ≡ None →
    age_of (if sends then channel.Send ∷ with_begin t calls else with_begin t calls) ≡ None
still_silent sends t calls e f silent = rw (e, f) silent

closes_mdt : (s : Known) (p : Past) → ClosingIn0 p → ClosingIn0 (after_mdt s p)
closes_mdt s p before in_0 =
    let l : Leaves (settled s p) p = leaves s p in
    let c : IsClosing p = before (sym l.phase ∙ in_0) in
    let q : Past = ready_to_send s p in
    record {
      before = ap phase_before l.turns ∙ c.before;
      silent = λ k. still_silent (is_sent_to q (addressed_in s q) k) (begins s (settled s p) k) ((settled s p).calls k) (none_sent q (addressed_in s q) k in_0)
          (begins_late s (settled s p) k (rw in_0 (omega arith))) (ap (λ calls. age_of (calls k)) l.calls ∙ c.silent k);
      quiet = λ k. ap (λ report. report k) l.report ∙ c.quiet k;
    }

closes : (s : Known) (requests : ℕ → List Task) (h : List Call) → ClosingIn0 (past s requests h)
closes s requests = past_keeps ClosingIn0 s requests (record {
  first = λ in_0. record { before = refl; silent = λ k. refl; quiet = λ k. refl };
  mst = λ h whole before in_0. let c = before in_0 in record { before = c.before; silent = c.silent; quiet = c.quiet };
  taken = λ h k content inside is before in_0. absurd (false≢true (sym (none_taken s (past s requests h) k content in_0) ∙ is));
  mdt = λ h. closes_mdt s (past s requests h);
  on = λ h done is. goes (past s requests h) done;
  new = λ h cycle before in_0. record { before = refl; silent = λ k. refl; quiet = λ k. refl };
})
  where
    goes : (p : Past) (done : Bool) → ClosingIn0 p → ClosingIn0 (going done p)
    goes p true before in_0 = absurd (omega (arith, in_0))
    goes p false before in_0 = record { before = in_0; silent = λ k. ap (option_map (λ age. age + 1)) ((before in_0).silent k); quiet = λ k. refl }

-- so nothing is lost, and nothing waits
kept_mst : (t : Turn) (turns : List Turn) → phase_before turns ≡ 0 → has_lost_mst (t ∷ turns) ≡ false
kept_mst t [] e = refl
kept_mst t (before ∷ turns) e = rw e refl

kept_at : (k : ℕ) (t : Turn) (turns : List Turn) → phase_before turns ≡ 0 → has_lost_at k (t ∷ turns) ≡ false
kept_at k t [] e = refl
kept_at k t (before ∷ turns) e = rw e refl

stays_closing : (s : Known) (requests : ℕ → List Task) (h : List Call) → (past s requests h).now.phase ≡ 0 →
    fall_of s (past s requests h) ≡ None
stays_closing s requests h in_0 = by (past s requests h) (closes s requests h in_0) in_0
  where
    by : (p : Past) → IsClosing p → p.now.phase ≡ 0 → fall_of s p ≡ None
    by p c in_0 = no_fall s p (kept_mst p.now p.turns c.before)
        (none_from (length s.drives) 0 (λ k. has_lost_at k (p.now ∷ p.turns)) (λ k low high. kept_at k p.now p.turns c.before))
        (none_from (length s.drives) 0 (is_at_limit p) (λ k low high. rw (in_0, c.silent k) refl))

-- ROOM FOR WHAT IS TOLD. After a restart phase 0 is commanded, so nothing is reported.
restarted_in_0 : (s : Known) (requests : ℕ → List Task) (h : List Call) → HasRestarted h → (past s requests h).now.phase ≡ 0
restarted_in_0 s requests [] r = absurd r
restarted_in_0 s requests (HearMst content ∷ h) r = restarted_in_0 s requests h r
restarted_in_0 s requests (HearAt content ∷ h) r = at_phase s (place_of s (slice_index content 0)) content (past s requests h) ∙ restarted_in_0 s requests h r
restarted_in_0 s requests (Mdt ∷ h) r = (leaves s (past s requests h)).phase ∙ restarted_in_0 s requests h r
restarted_in_0 s requests (End ∷ h) r = absurd r
restarted_in_0 s requests (Restart ∷ h) r = refl

none_reported : (report : ℕ → Option Report) (n : ℕ) (reports : List (ℕ × Outcome)) → ((k : ℕ) → report k ≡ None) →
    with_reports report n reports ≡ reports
none_reported report zero reports none = refl
none_reported report (suc n) reports none = rw (none n) (none_reported report n reports none)

has_room : (s : Known) (requests : ℕ → List Task) (h : List Call) (reports : List (ℕ × Outcome)) → length s.drives ≤ 64 →
    AreOpen reports h → (length reports + length s.drives ≤ 128) ×
    (length (with_reports (past s requests h).now.report (length s.drives) reports) + length s.drives ≤ 128)
has_room s requests h reports few (inl none) =
    let l : length reports ≡ 0 = ap (λ xs. length xs) none in
    (omega (arith, l, few), omega (arith, l, reports_length (past s requests h).now.report (length s.drives) reports, few))
has_room s requests h reports few (inr (short, restarted)) =
    let quiet = (closes s requests h (restarted_in_0 s requests h restarted)).quiet in
    (omega (arith, short, few), rw (none_reported (past s requests h).now.report (length s.drives) reports quiet) (omega (arith, short, few)))

-- THE END.
-- what closing tells, by the fields
pub brings : (s : Known) (p : Past) (e : EventsView) (v : CoreView) {n : ℕ} {outcomes : List (ℕ × Outcome)}
    {plan : Option PlanView} {stop : Option Stop} → CoreStandsFor (record v { phase = n }) s p → outcomes ≡ with_reports p.now.report (length s.drives) e.outcomes →
    plan ≡ option_or (if v.plans then v.plan else None) e.plan → stop ≡ option_or v.stop e.stop →
    record e { outcomes = outcomes; plan = plan; stop = stop } ≡ closing_told s p e
brings s p e v t a b d = rw (a, b, d, t.plans_is, t.plan_is, t.stop_is) refl

in_phase : {n : ℕ} {v : CoreView} {s : Known} {p : Past} → IsIn n v s p → CoreStandsFor (record v { phase = n }) s p
in_phase {n} {v} {s} {p} t = subst (λ k. CoreStandsFor (record v { phase = k }) s p) (t.stands.phase_is ∙ t.phase_is) t.stands

next_is : (s : Known) (p : Past) (n : ℕ) (done : Bool) → p.now.phase ≡ n → is_done_in n s p ≡ done →
    next_phase s p ≡ (if done then n + 1 else n)
next_is s p n done is e = ap (λ k. if is_done_in k s p then k + 1 else k) is ∙ ap (λ d. if d then n + 1 else n) e

abbrev FallsBy : CoreView → Option Fall → Type 0
FallsBy v due = (s : Known) (p : Past) → CoreStandsFor v s p → due ≡ fall_of s p

module _ (s : Known) (jobs : List Job) (h : List Call) where
  abbrev now : Past
  now = past s (tasks_for s jobs) h

  -- the cycle has ended, and the master is in this phase
  abbrev EndsIn : ℕ → EventsView → CoreView → EventsView → Type 0
  EndsIn n e next told = IsIn n next s (after_end s now) × (AreOpen e.outcomes h → told ≡ events_told s now e)

  pub none_in_0 : {m : CoreView} → IsIn 0 m s now → fall_of s now ≡ None
  none_in_0 t = stays_closing s (tasks_for s jobs) h t.phase_is

  pub none_due : {n : ℕ} {m : CoreView} {due : Option Fall} → FallsBy m due → due ≡ None → IsIn n m s now → fall_of s now ≡ None
  none_due falls none t = sym (falls s now t.stands) ∙ none

  went : (n to : ℕ) {m up next : CoreView} {e told : EventsView} → IsIn n m s now → fall_of s now ≡ None → next_phase s now ≡ to →
      up ≡ record m { phase = to } → Closes up n e next told → EndsIn to e next told
  went n to {m} {up} {next} {e} t none goes is shut =
      let closed = shut s now (rw is (in_phase t)) in
      let after : after_end s now ≡ goes_on to now = ends_going_on s now (ap is_some none) ∙ ap (λ k. goes_on k now) goes in
      let on : CoreStandsFor next s (goes_on to now) =
      subst (λ k. CoreStandsFor next s (goes_on k now)) (ap (λ v. v.phase) is) closed.0 in (
        record { stands = rw after on; known = t.known; phase_is = ap (λ q. q.now.phase) after },
        λ may. closed.1 (has_room s (tasks_for s jobs) h e.outcomes t.known.few may).0 ∙ (rw none refl),
      )

  -- it went up by one, where all was done
  pub rose : (n : ℕ) {m up next : CoreView} {e told : EventsView} {r : Result CoreView CoreView} → IsIn n m s now →
      (IsIn n m s now → fall_of s now ≡ None) → ((s : Known) (p : Past) → IsIn n m s p → is_ok r ≡ is_done_in n s p) →
      IfOk r (λ v. v ≡ record m { phase = n + 1 }) → r ≡ Ok up → Closes up n e next told → EndsIn (n + 1) e next told
  rose n {m} t none done is ok shut =
      went n (n + 1) t (none t) (next_is s now n true t.phase_is (sym (done s now t) ∙ ap is_ok ok))
      (subst (λ r. IfOk r (λ v. v ≡ record m { phase = n + 1 })) ok is) shut

  -- it stayed, where something wasn't
  pub stayed : (n : ℕ) {m up next : CoreView} {e told : EventsView} {r : Result CoreView CoreView} → IsIn n m s now →
      (IsIn n m s now → fall_of s now ≡ None) → ((s : Known) (p : Past) → IsIn n m s p → is_ok r ≡ is_done_in n s p) →
      IfErr r (λ v. v ≡ m) → r ≡ Err up → Closes up n e next told → EndsIn n e next told
  stayed n {m} t none done is err shut =
      went n n t (none t) (next_is s now n false t.phase_is (sym (done s now t) ∙ ap is_ok err))
      (subst (λ r. IfErr r (λ v. v ≡ m)) err is ∙ ap (λ k. record m { phase = k }) (t.stands.phase_is ∙ t.phase_is)) shut

  -- it fell
  pub fell : (n : ℕ) {m closed next : CoreView} {due : Option Fall} {cause : Fall} {e brought told : EventsView} → IsIn n m s now →
      FallsBy m due → due ≡ Some cause → Closes m n e closed brought →
      ((s : Known) (p : Past) → CoreStandsFor closed s p → CoreStandsFor next s (new_epoch p.cycle (still_waiting p))) →
      ((s : Known) (p : Past) → CoreStandsFor closed s p → length brought.outcomes + length s.drives ≤ 128 →
      told ≡ record brought { outcomes = with_broken s p brought.outcomes; fall = Some cause }) → EndsIn 0 e next told
  fell n {m} {cause = cause} {e = e} t falls due_is shut fallen tells =
      let some : fall_of s now ≡ Some cause = sym (falls s now t.stands) ∙ due_is in
      let closed = shut s now (in_phase t) in
      let after : after_end s now ≡ new_epoch (now.cycle + 1) (still_waiting now) = ends_falling s now (ap is_some some) in (
        record { stands = rw after (fallen s (goes_on m.phase now) closed.0); known = t.known; phase_is = ap (λ q. q.now.phase) after },
        λ may.
            let room = has_room s (tasks_for s jobs) h e.outcomes t.known.few may in
            let first = closed.1 room.0 in
            tells s (goes_on m.phase now) closed.0 (rw first room.1)
            ∙ (ap (λ (b : EventsView). record b { outcomes = with_broken s now b.outcomes; fall = Some cause }) first
            ∙ (rw some refl)),
      )
