-- What the master keeps of a channel is what the views of its cycles give.
use Rattle.sercos_law_run.proofs.Words.{◌≡◌, inl, inr, ℕ, ◌+◌, ◌<◌, ◌≤◌, Bool, true, false, not, ◌&&◌, List, [], ◌∷◌, Option, Some, None, refl, sym, ◌∙◌, ap, ap₂, subst, arith, if◌then◌else◌, ◌==◌, is_some, is_none, IsSome, IfSome, slice_index, and_parts, cases_eq, false≢true, leb-true, not-true, nat_tests, status_of, word_at, Request, Begun, open_in, master_says, Hear, Send, begun_by, Report, Known, Task, Past, place_of, is_taken, after_taken, after_at, with_begin, settled, is_sent_to, addressed_in, ready_to_send, after_mdt, fall_of, is_done, is_done_in, next_phase, goes_on, new_epoch, still_waiting, after_end, after_restart, is_awaited, leaves, begins_next, none_of, same_place, Heard, View, command, command_in, with_heard, with_begun, unless_restart, epoch_begun, IsShown, heard_last, told_to, is_told, request_of, at_keeps, cases_Bool}
use Rattle.sercos_service_master.specs.Calls as channel
use Rattle.sercos_master.specs.Annals.{with_at, begins}
use Rattle.sercos_master.specs.Annals as master
use Rattle.sercos_law_channel.specs.Handshake.Epochs.{whole_row}
use Rattle.sercos_law_channel.specs.Handshake.Runs.{IsNext}

-- At the end of a cycle, and at the start of one after a restart: the phase commanded next, what was begun on the channel, and in phase
-- 0 how many MSTs in a row came back whole. Nothing was heard since the last cycle ended.
pub record IsSame (p : Past) (k phase row : ℕ) (b : List Begun) : Type 0 where
  pub phase_is : p.now.phase ≡ phase
  pub begun_are : begun_by (p.calls k) ≡ b
  pub row_is : p.now.phase ≡ 0 → master.whole_row p.turns ≡ row
  pub unheard : heard_last (p.calls k) ≡ None
  pub fresh : p.now.heard k ≡ false

abbrev pub StandsAs : Past → ℕ → List View → Type 0
StandsAs p k past = IsSame p k (command past) (whole_row past) (epoch_begun past)

-- after a restart of the master
abbrev pub begun_cycle : Bool → Past → Past
begun_cycle restarts p = if restarts then after_restart p else p

pub same_started : (restarts : Bool) (p : Past) (k phase row : ℕ) (b : List Begun) → IsSame p k phase row b
    → IsSame (begun_cycle restarts p) k (if restarts then 0 else phase) (if restarts then 0 else row) (if restarts then [] else b)
same_started true p k phase row b s = record { phase_is = refl; begun_are = refl; row_is = λ zero. refl; unheard = refl; fresh = refl }
same_started false p k phase row b s = s

-- THE ATS. The channel has heard nothing of them, or one of these contents, which has the drive's address.
pub data HasHeard (s : Known) (k : ℕ) (such : List ℕ → Type 0) (c : List channel.Call) (q : Past) : Type 0 where
  Nothing : q.calls k ≡ c → HasHeard s k such c q
  One : (content : List ℕ) → such content → place_of s (slice_index content 0) ≡ Some k → q.calls k ≡ Hear (status_of (word_at content 1)) (word_at content 3) ∷ c → q.now.heard k ≡ true → HasHeard s k such c q

-- what the ATs leave
pub record AfterAts (s : Known) (k : ℕ) (such : List ℕ → Type 0) (p q : Past) : Type 0 where
  pub has : HasHeard s k such (p.calls k) q
  pub phase_is : q.now.phase ≡ p.now.phase
  pub whole_is : q.now.whole ≡ p.now.whole
  pub turns_are : q.turns ≡ p.turns

pub ats_none : (s : Known) (k : ℕ) (such : List ℕ → Type 0) (p : Past) → AfterAts s k such p p
ats_none s k such p = record { has = Nothing refl; phase_is = refl; whole_is = refl; turns_are = refl }

pub not_taken : (a b : Bool) (heard : Bool) → heard ≡ true → (a && (not heard && b)) ≡ true → ⊥
not_taken true b true is taken = false≢true taken
not_taken true b false is taken = false≢true is
not_taken false b heard is taken = false≢true taken

pub ats_next : (s : Known) (k : ℕ) (such : List ℕ → Type 0) (p q : Past) (content : List ℕ) → such content → AfterAts s k such p q → AfterAts s k such p (after_at s content q)
ats_next s k such p q content is a = at_keeps (λ x. AfterAts s k such p x) s (place_of s (slice_index content 0)) content q a
    (λ i found taken. record {
      has = elim (cases_eq k i) [
        | inl same ↦ subst (λ n. HasHeard s k such (p.calls k) (after_taken n content q)) same
            (here (found ∙ ap (λ (n : ℕ). Some n) (sym same)) (ap (λ (n : ℕ). is_taken s q n content) same ∙ taken) a.has
            (q.now.phase == 1))
        | inr other ↦ elsewhere i (grind (arith, nat_tests, other)) (master.hearing (q.now.phase == 1) i content q).calls
            (master.hearing (q.now.phase == 1) i content q).report a.has
      ];
      phase_is = a.phase_is;
      whole_is = a.whole_is;
      turns_are = a.turns_are;
    })
  where
    here : place_of s (slice_index content 0) ≡ Some k → is_taken s q k content ≡ true → HasHeard s k such (p.calls k) q → (identifies : Bool)
        → HasHeard s k such (p.calls k) (record q {
          now = record q.now {
            heard = with_at k true q.now.heard;
            report = with_at k
                (master.hearing identifies k content q).report q.now.report;
          };
          calls = with_at k (master.hearing identifies k content q).calls q.calls;
        })
    here found taken (Nothing same) true = Nothing (rw (same_place k) same)
    here found taken (Nothing same) false = One content is found (rw (same_place k) (ap (λ (c : List channel.Call). Hear (status_of (word_at content 1)) (word_at content 3) ∷ c) same)) (rw (same_place k) refl)
    here found taken (One other such_is there calls heard) identifies = absurd (not_taken (is_awaited q k) _ (q.now.heard k) heard taken)

    elsewhere : (i : ℕ) → (k == i) ≡ false → (calls : List channel.Call) (report : Option Report) → HasHeard s k such (p.calls k) q
        → HasHeard s k such (p.calls k) (record q { now = record q.now { heard = with_at i true q.now.heard; report = with_at i report q.now.report }; calls = with_at i calls q.calls })
    elsewhere i other calls report (Nothing same) = Nothing (rw other same)
    elsewhere i other calls report (One content such_is there said heard) = One content such_is there (rw other said) (rw other heard)

-- what the channel has begun after the ATs
pub heard_so : (s : Known) (k : ℕ) (such : List ℕ → Type 0) (p q : Past) → AfterAts s k such p q → heard_last (p.calls k) ≡ None
    → begun_by (q.calls k) ≡ with_heard (heard_last (q.calls k)) (begun_by (p.calls k))
heard_so s k such p q a quiet = elim a.has [
  | Nothing same ↦ ap begun_by same ∙ sym (ap (λ (o : Option Heard). with_heard o (begun_by (p.calls k))) (ap heard_last same ∙ quiet))
  | One content is there same heard ↦ rw same refl
]

-- THE MDT. Looking at the answers leaves the turn and the cycles before it, but for the plan and the stop.
pub record SameTurn (q p : Past) : Type 0 where
  pub phase_is : q.now.phase ≡ p.now.phase
  pub whole_is : q.now.whole ≡ p.now.whole
  pub turns_are : q.turns ≡ p.turns

pub turn_mdt : (s : Known) (p : Past) → SameTurn (after_mdt s p) p
turn_mdt s p = let l = leaves s p in record { phase_is = l.phase; whole_is = l.whole; turns_are = l.turns }

-- sending changes nothing of what a channel has begun
pub send_same : (on : Bool) (calls : List channel.Call) → begun_by (if on then Send ∷ calls else calls) ≡ begun_by calls
send_same true calls = refl
send_same false calls = refl

pub begun_so : (s : Known) (p : Past) (k : ℕ) → begun_by ((after_mdt s p).calls k) ≡ with_begun (request_of (begins s (settled s p) k)) (begun_by (p.calls k))
begun_so s p k =
    send_same (is_sent_to (ready_to_send s p) (addressed_in s (ready_to_send s p)) k) ((ready_to_send s p).calls k)
    ∙ begin (begins s (settled s p) k) ((settled s p).calls k)
    ∙ ap (λ (c : ℕ → List channel.Call). with_begun (request_of (begins s (settled s p) k)) (begun_by (c k))) (leaves s p).calls
  where
    begin : (o : Option Task) (calls : List channel.Call) → begun_by (with_begin o calls) ≡ with_begun (request_of o) (begun_by calls)
    begin None calls = refl
    begin (Some t) calls = refl

-- A request begins only where no step is open, in phases 2 to 4.
pub record MayBegin (p : Past) (k : ℕ) : Type 0 where
  pub late : 2 ≤ p.now.phase
  pub idle : open_in (begun_by (p.calls k)) ≡ None

pub may_begin : (s : Known) (p : Past) (k : ℕ) → IsSome (request_of (begins s (settled s p) k)) → MayBegin p k
may_begin s p k = by (begins s (settled s p) k) refl
  where
    by : (o : Option Task) → begins s (settled s p) k ≡ o → IsSome (request_of o) → MayBegin p k
    by None is some = absurd (false≢true some)
    by (Some t) is some =
        let next = begins_next s (settled s p) k t is in
        record {
          late = subst (λ n. 2 ≤ n) (leaves s p).phase next.late;
          idle = none_of _ (ap (λ (c : ℕ → List channel.Call). is_none (open_in (begun_by (c k)))) (sym (leaves s p).calls) ∙ next.idle);
        }

-- THE CYCLE. What the master looks back on before its MST, after it, after the ATs and after the MDT gives a view of the channel.
pub record IsLed (s : Known) (k : ℕ) (such : List ℕ → Type 0) (v : View) (p1 p2 p3 p4 : Past) : Type 0 where
  pub phase : v.phase ≡ p1.now.phase
  pub whole : v.whole ≡ p2.now.whole
  pub own : (p2.calls ≡ p1.calls) × (p2.turns ≡ p1.turns) × (p2.now.phase ≡ p1.now.phase) × (p2.now.heard k ≡ p1.now.heard k)
  pub ats : AfterAts s k such p2 p3
  pub heard : v.heard ≡ heard_last (p3.calls k)
  pub begins : v.begins ≡ request_of (begins s (settled s p3) k)
  pub mdt : p4 ≡ after_mdt s p3
  pub sent : v.sent ≡ told_to p4 k
  pub falls : v.falls ≡ is_some (fall_of s p4)
  pub rises : v.rises ≡ (not (is_some (fall_of s p4)) && is_done s p4)

-- what it has begun after the ATs, and all that it has begun
pub record IsBehind (k : ℕ) (v : View) (p1 p3 p4 : Past) (b : List Begun) : Type 0 where
  pub heard_are : begun_by (p3.calls k) ≡ with_heard v.heard b
  pub phase_behind : p3.now.phase ≡ v.phase
  pub phase_is : p4.now.phase ≡ v.phase
  pub whole_is : p4.now.whole ≡ v.whole
  pub turns_are : p4.turns ≡ p1.turns
  pub begun_are : begun_by (p4.calls k) ≡ with_begun v.begins (with_heard v.heard b)

pub is_behind : (s : Known) (k : ℕ) (such : List ℕ → Type 0) (v : View) (p1 p2 p3 p4 : Past) (phase row : ℕ) (b : List Begun) → IsSame p1 k phase row b → IsLed s k such v p1 p2 p3 p4 → IsBehind k v p1 p3 p4 b
is_behind s k such v p1 p2 p3 p4 phase row b same led =
    let turn : SameTurn p4 p3 = subst (λ p. SameTurn p p3) (sym led.mdt) (turn_mdt s p3) in
    let calls : p2.calls k ≡ p1.calls k = ap (λ (c : ℕ → List channel.Call). c k) led.own.0 in
    let before : p3.now.phase ≡ v.phase = led.ats.phase_is ∙ led.own.2 ∙ sym led.phase in
    let heard : begun_by (p3.calls k) ≡ with_heard v.heard b = heard_so s k such p2 p3 led.ats (ap heard_last calls ∙ same.unheard)
    ∙ ap₂ (λ (o : Option Heard) (l : List Begun). with_heard o l) (sym led.heard) (ap begun_by calls ∙ same.begun_are) in
    record {
      heard_are = heard;
      phase_behind = before;
      phase_is = turn.phase_is ∙ before;
      whole_is = turn.whole_is ∙ led.ats.whole_is ∙ sym led.whole;
      turns_are = turn.turns_are ∙ led.ats.turns_are ∙ led.own.1;
      begun_are = ap (λ (p : Past). begun_by (p.calls k)) led.mdt ∙ begun_so s p3 k ∙ ap₂ (λ (o : Option Request) (l : List Begun). with_begun o l) (sym led.begins) heard;
    }

-- in phase 0 both count the same MSTs
abbrev pub row_from : View → ℕ → ℕ
row_from v row = if v.whole && ((v.phase == 0) && not v.falls) then row + 1 else 0

row_next : (v : View) (p : Past) (row : ℕ) → p.now.whole ≡ v.whole → v.phase ≡ 0 → v.falls ≡ false → master.whole_row p.turns ≡ row → master.whole_row (p.now ∷ p.turns) ≡ row_from v row
row_next v p row whole zero stands turns = rw (whole, zero, stands, turns) (elim (cases_Bool v.whole) [ inl on ↦ rw on | inr off ↦ rw off ])

pub done_below : (n : ℕ) (s : Known) (p : Past) → is_done_in n s p ≡ true → n < 4
done_below n s p done = grind (arith, nat_tests, done)

-- The cycle follows these, as far as the master is concerned.
pub next_led : (s : Known) (k : ℕ) (such : List ℕ → Type 0) (busy : ℕ) (v : View) (past : List View) (p1 p2 p3 p4 : Past)
    → IsSame p1 k (command_in v past) (if v.master_restarts then 0 else whole_row past) (unless_restart v (epoch_begun past)) → IsLed s k such v p1 p2 p3 p4
    → IfSome v.heard (λ a. IsShown busy a v past) → (is_done s p4 ≡ true → open_in (begun_by (p4.calls k)) ≡ None) → IsNext busy v past
next_led s k such busy v past p1 p2 p3 p4 same led shown rests =
    let b : IsBehind k v p1 p3 p4 (unless_restart v (epoch_begun past)) = is_behind s k such v p1 p2 p3 p4 _ _ _ same led in
    record {
      commanded = led.phase ∙ same.phase_is;
      heard = shown;
      late = λ some. subst (λ n. 2 ≤ n) b.phase_behind (may_begin s p3 k (subst (λ o. IsSome o) led.begins some)).late;
      begins = λ some. ap open_in (sym b.heard_are) ∙ (may_begin s p3 k (subst (λ o. IsSome o) led.begins some)).idle;
      sent = elim (cases_Bool (is_told p4 k)) [
        | inl on ↦ let e = rw on at led.sent in rw e (ap master_says b.begun_are)
        | inr off ↦ let e = rw off at led.sent in rw e tt
      ];
      ten = λ up zero. subst (λ n. 10 ≤ n) (row_next v p4 _ b.whole_is zero
          (led.falls ∙ not-true _ (and_parts (not (is_some (fall_of s p4))) (is_done s p4) (sym led.rises ∙ up)).0)
          (ap master.whole_row b.turns_are ∙ same.row_is (sym led.phase ∙ zero)))
          (leb-true 10 (master.whole_row (p4.now ∷ p4.turns)) (rw (b.phase_is ∙ zero) at (done up)));
      rests = λ up. ap open_in (sym b.begun_are) ∙ rests (done up);
      top = λ up. subst (λ n. n < 4) b.phase_is (done_below p4.now.phase s p4 (done up));
    }
  where
    done : v.rises ≡ true → is_done s p4 ≡ true
    done up = (and_parts (not (is_some (fall_of s p4))) (is_done s p4) (sym led.rises ∙ up)).1

-- .. and at its end the master stands as the views say.
never_row : (a b : Bool) (n : ℕ) → 0 ≡ (if a && (b && not true) then n else 0)
never_row true true n = refl
never_row true false n = refl
never_row false b n = refl

pub same_ended : (s : Known) (k : ℕ) (such : List ℕ → Type 0) (v : View) (past : List View) (p1 p2 p3 p4 : Past)
    → IsSame p1 k (command_in v past) (if v.master_restarts then 0 else whole_row past) (unless_restart v (epoch_begun past)) → IsLed s k such v p1 p2 p3 p4
    → StandsAs (after_end s p4) k (v ∷ past)
same_ended s k such v past p1 p2 p3 p4 same led = by (is_some (fall_of s p4)) led.falls led.rises
  where
    b : IsBehind k v p1 p3 p4 (unless_restart v (epoch_begun past))
    b = is_behind s k such v p1 p2 p3 p4 _ _ _ same led

    zero_before : (done : Bool) (n : ℕ) → (if done then n + 1 else n) ≡ 0 → n ≡ 0
    zero_before true n e = absurd (omega (arith, e))
    zero_before false n e = e

    by : (falls : Bool) → v.falls ≡ falls → v.rises ≡ (not falls && is_done s p4)
        → StandsAs (if falls then new_epoch (p4.cycle + 1) (still_waiting p4) else goes_on (next_phase s p4) p4) k (v ∷ past)
    by true falls rises = record {
      phase_is = rw falls refl;
      begun_are = rw falls refl;
      row_is = λ zero. rw falls (never_row v.whole (v.phase == 0) _);
      unheard = refl;
      fresh = refl;
    }
    by false falls rises = record {
      phase_is = rw (falls, rises) (ap (λ (n : ℕ). if is_done s p4 then n + 1 else n) b.phase_is);
      begun_are = rw falls b.begun_are;
      row_is = λ zero. let first : v.phase ≡ 0 = sym b.phase_is ∙ zero_before (is_done s p4) p4.now.phase zero in
          row_next v p4 _ b.whole_is first falls (ap master.whole_row b.turns_are ∙ same.row_is (sym led.phase ∙ first));
      unheard = refl;
      fresh = refl;
    }
