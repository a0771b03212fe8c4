-- The outcomes that a cycle reports fit the fields of their lines.
use Rattle.sercos_law_trace.proofs.Words.{cases_Option, none-some, ◌≡◌, inl, inr, ℕ, zero, suc, ◌+◌, ◌-◌, ◌<◌, ◌≤◌, nat_lt, Bool, true, false, List, [], ◌∷◌, length, drop, min, Option, Some, None, is_some, is_none, refl, sym, ◌∙◌, ap, subst, arith, if◌then◌else◌, cond_both, slice_index, slice_get, All, All-nil, All-cons, All-head, All-tail, length-take, length-drop, AreBytes-take, AreBytes-bytes_of, reason_of, content_of, plain, Job, Request, Outcome, Shape, Answer, count_of, answer_words, outcome_of, is_whole, result_of, steps_before, attribute_read, AreAnswers, bytes_in, bytes_read, shape_of, words_in, length-answer_words, PlanView, RingView, Begun, open_in, answers_it, answer_in, with_answer, Begin, Send, Hear, EndCycle, begun_by, EventsView, CycleView, Report, number_in, broken_number, Known, Task, known_of, tasks_for, member, Call, HearMst, HearAt, Mdt, End, Restart, Past, past, settled, with_begin, ready_to_send, is_sent_to, addressed_in, after_mdt, fall_of, is_idle, inserted, with_report, with_reports, broken, with_broken, outcomes_told, restart_told, settles, at_keeps, channel_keeps, end_keeps, Passage, Carry, Restarts, IsReportOf, IsTask, AreBegunTasks, HasBegunTasks, arrival, heard, passage, ats_in, station_of, with_at, at_calls, begin_calls, master_calls, middle, looks_back, no_events, IsNext, AreWords, word_of, words_append, bytes_of_words, read_word, words_drop, FitsEnded, begins_tasks, told_right, goes_on_at, and_left, length-bytes_in, AreBytes, field_of, AreOf, IsOf, part_left, template_of, same_Some, cases_Bool, slice_get_within}
use Rattle.sercos_telegram.specs.declared.layout.Kind.TheVariants as kinds
use Rattle.sercos_step.specs.declared.request.Request.TheVariants as request
use Rattle.sercos_step.specs.declared.request.Outcome.TheVariants as outcome
use Rattle.sercos_step.specs.declared.shape.Shape.TheVariants as shape
use Rattle.sercos_service_master.specs.Calls as channel
use Rattle.sercos_text.specs.Templates.{IsPart}
use Rattle.sercos_step.proofs.AnswerCounts.{counts_answers}
use Rattle.sercos_law_trace.proofs.Told.ToldLemmas.{has_waited, in_all, request_of}
use Rattle.sercos_master.specs.Annals.{place_of, begins}
use Rattle.sercos_law_run.specs.Journal.Arrivals.{content_in}

-- WHAT THE MASTER HEARS are bytes, whatever the links make of what is sent.
heard_bytes : (carry : Carry) (p : Passage) (content got : List ℕ) → heard carry p content ≡ Some got → AreBytes got
unfolding content_in
heard_bytes carry p content got is = elim (cases_Option (arrival carry p content)) [
  | inl none ↦ cc
  | inr some ↦ let e = rw some.1 at is in one some.0 (is_none (reason_of some.0)) e
]
  where
    one : (bits : List Bool) (b : Bool) → (if b then Some (content_of (plain bits)) else None) ≡ Some got → AreBytes got
    one bits true e = let same : content_of (plain bits) ≡ got = cc in subst AreBytes same (AreBytes-bytes_of _)
    one bits false e = cc

abbrev pub AreHeard : List Call → Type 0
AreHeard [] = Unit {0}
AreHeard (HearMst content ∷ h) = AreHeard h
AreHeard (HearAt content ∷ h) = AreBytes content × AreHeard h
AreHeard (Mdt ∷ h) = AreHeard h
AreHeard (End ∷ h) = AreHeard h
AreHeard (Restart ∷ h) = AreHeard h

ats_heard : (r : RingView) (carry : Carry) (cycle : ℕ) (ats : List (List ℕ)) (h : List Call) → AreHeard h → AreHeard (at_calls r carry cycle ats h)
ats_heard r carry cycle [] h are = are
ats_heard r carry cycle (at ∷ ats) h are = ats_heard r carry cycle ats _ (by (heard carry (passage cycle kinds.At (station_of r (slice_index at 0)) 0) at) refl)
  where
    by : (o : Option (List ℕ)) → heard carry (passage cycle kinds.At (station_of r (slice_index at 0)) 0) at ≡ o → AreHeard (with_at o h)
    by None is = are
    by (Some content) is = (heard_bytes carry (passage cycle kinds.At (station_of r (slice_index at 0)) 0) at content is, are)

begun_heard : (restarts : Restarts) (cycle : ℕ) (h : List Call) → AreHeard h → AreHeard (begin_calls restarts cycle h)
begun_heard restarts cycle h are = cond_both (restarts cycle 0) (Restart ∷ h) h AreHeard (λ on. are) (λ off. are)

module _ (r : RingView) (carry : Carry) (restarts : Restarts) where
  all_heard : (j : List CycleView) → AreHeard (master_calls r carry restarts j)
  all_heard [] = tt
  all_heard (t ∷ j) = ats_heard r carry (length j) (ats_in t.sent) _ (begun_heard restarts (length j) (master_calls r carry restarts j) (all_heard j))

  pub middle_heard : (t : CycleView) (j : List CycleView) → AreHeard (middle r carry restarts t.sent j)
  middle_heard t j = ats_heard r carry (length j) (ats_in t.sent) _ (begun_heard restarts (length j) (master_calls r carry restarts j) (all_heard j))

-- EACH CHANNEL is told words.
abbrev pub AreTold : List channel.Call → Type 0
AreTold [] = Unit {0}
AreTold (Begin q ∷ calls) = AreTold calls
AreTold (Send ∷ calls) = AreTold calls
AreTold (Hear status word ∷ calls) = (word < 65536) × AreTold calls
AreTold (EndCycle ∷ calls) = AreTold calls

mdt_told : (s : Known) (p : Past) → ((k : ℕ) → AreTold (p.calls k)) → (k : ℕ) → AreTold ((after_mdt s p).calls k)
mdt_told s p are k = elim (cases_Bool (is_sent_to (ready_to_send s p) (addressed_in s (ready_to_send s p)) k)) [
  | inl on ↦ rw on (begun (begins s (settled s p) k))
  | inr off ↦ rw off (begun (begins s (settled s p) k))
]
  where
    kept : AreTold ((settled s p).calls k)
    kept = subst (λ (c : ℕ → List channel.Call). AreTold (c k)) (sym (settles s p).calls) (are k)

    begun : (o : Option Task) → AreTold (with_begin o ((settled s p).calls k))
    begun None = kept
    begun (Some t) = kept

pub all_told : (s : Known) (requests : ℕ → List Task) (h : List Call) → AreHeard h → (k : ℕ) → AreTold ((past s requests h).calls k)
all_told s requests [] are k = tt
all_told s requests (HearMst content ∷ h) are k = all_told s requests h are k
all_told s requests (HearAt content ∷ h) are k =
    let before = all_told s requests h are.1 in
    at_keeps (λ p. AreTold (p.calls k)) s (place_of s (slice_index content 0)) content (past s requests h) (before k)
    (λ i place is. channel_keeps AreTold i k content (past s requests h) (before k) (λ same. (read_word content 3 are.0, before k)))
all_told s requests (Mdt ∷ h) are k = mdt_told s (past s requests h) (all_told s requests h are) k
all_told s requests (End ∷ h) are k = end_keeps (λ p. AreTold (p.calls k)) s (past s requests h) tt (λ done is. all_told s requests h are k)
all_told s requests (Restart ∷ h) are k = tt

-- WHAT WAS BEGUN has answers of words, each of which came while its transfer went on.
abbrev pub AreWordsOf : List Answer → Type 0
AreWordsOf [] = Unit {0}
AreWordsOf (a ∷ answers) = (a.word < 65536) × AreWordsOf answers

abbrev pub AreGoing : List Begun → Type 0
AreGoing [] = Unit {0}
AreGoing (b ∷ older) = (AreAnswers b.request b.answers × AreWordsOf b.answers) × AreGoing older

pub all_going : (calls : List channel.Call) → AreTold calls → AreGoing (begun_by calls)
all_going [] are = tt
all_going (Begin q ∷ calls) are = ((tt, tt), all_going calls are)
all_going (Send ∷ calls) are = all_going calls are
all_going (Hear status word ∷ calls) are = by (begun_by calls) (answers_it (begun_by calls) status) refl (all_going calls are.1)
  where
    by : (begun : List Begun) (b : Bool) → answers_it begun status ≡ b → AreGoing begun → AreGoing (if b then with_answer (answer_in status word) begun else begun)
    by begun false is going = going
    by [] true is going = tt
    by (b ∷ older) true is going = (((going.0.0, goes_on_at b.request b.answers (and_left (is_some (open_in (b ∷ older))) _ is)), (are.0, going.0.1)), going.1)
all_going (EndCycle ∷ calls) are = all_going calls are

-- AN OUTCOME of such answers
abbrev pub IsSpelt : Outcome → Type 0
IsSpelt (outcome.Complete list) = AreBytes list × (length list ≤ 1024)
IsSpelt (outcome.Refused code) = code.raw < 65536
IsSpelt outcome.Broken = Unit {0}

all_words : (answers : List Answer) → AreWordsOf answers → AreWords (answer_words answers)
all_words [] are = tt
all_words (a ∷ answers) are = words_append (answer_words answers) (a.word ∷ []) (all_words answers are.1) (are.0, tt)

no_bytes : AreBytes [] × (length {A = ℕ} [] ≤ 1024)
unfolding AreBytes
no_bytes = (tt, omega arith)

list_fits : (words : List ℕ) → AreWords words → AreBytes (bytes_read shape.List words) × (length (bytes_read shape.List words) ≤ 1024)
list_fits [] are = no_bytes
list_fits (actual ∷ []) are = no_bytes
list_fits (actual ∷ longest ∷ words) are =
    let long = length-take (min actual 1024) (bytes_in words) in
    (AreBytes-take (min actual 1024) (bytes_in words) (bytes_of_words words are.1.1), omega (arith, long))

result_fits : (q : Request) (words : List ℕ) → AreWords words → length words ≡ count_of q words → AreBytes (result_of q words) × (length (result_of q words) ≤ 1024)
result_fits (request.Read idn e) words are count = by (shape_of e (attribute_read e words)) count
  where
    by : (s : Shape) → length words ≡ steps_before e + words_in s (slice_index words (steps_before e)) → AreBytes (bytes_read s (drop (steps_before e) words)) × (length (bytes_read s (drop (steps_before e) words)) ≤ 1024)
    by shape.One count = let long = length-drop (steps_before e) words in let all = length-bytes_in (drop (steps_before e) words) in (bytes_of_words (drop (steps_before e) words) (words_drop (steps_before e) words are), omega (arith, long, all, count))
    by shape.Two count = let long = length-drop (steps_before e) words in let all = length-bytes_in (drop (steps_before e) words) in (bytes_of_words (drop (steps_before e) words) (words_drop (steps_before e) words are), omega (arith, long, all, count))
    by shape.List count = list_fits (drop (steps_before e) words) (words_drop (steps_before e) words are)
result_fits (request.Write idn e bytes) words are count = no_bytes
result_fits (request.Command idn) words are count = (bytes_of_words (slice_index words (length words - 2) ∷ []) (word_of words (length words - 2) are, tt), omega arith)

pub outcome_fits : (q : Request) (answers : List Answer) (o : Outcome) → AreAnswers q answers → AreWordsOf answers → outcome_of q answers ≡ Some o → IsSpelt o
outcome_fits q [] o going are is = cc
outcome_fits q (a ∷ answers) o going are is = by a.error (is_whole q (answer_words (a ∷ answers))) refl
  where
    by : (error whole : Bool) → outcome_of q (a ∷ answers) ≡ (if error then Some (outcome.Refused (record { raw = a.word }))
        else (if whole then Some (outcome.Complete (result_of q (answer_words (a ∷ answers)))) else None)) → IsSpelt o
    by true whole so = subst IsSpelt (same_Some _ o (sym so ∙ is)) are.0
    by false true so = subst IsSpelt (same_Some _ o (sym so ∙ is)) (result_fits q (answer_words (a ∷ answers)) (all_words (a ∷ answers) are)
        (length-answer_words (a ∷ answers) ∙ counts_answers q (a ∷ answers) _ going so))
    by false false so = absurd (none-some o (sym so ∙ is))

-- THE NUMBERS of requests
abbrev AreLow : List Task → Type 0
AreLow waiting = (i : ℕ) (t : Task) → slice_get waiting i ≡ Some t → (n : ℕ) → t.number ≡ Some n → n ≤ 65535

-- a task of the start-up has none
task_low : (s : Known) (k : ℕ) (plan : Option PlanView) (waiting : List Task) (outs : List Outcome) (t : Task) → IsTask s k plan waiting outs t → AreLow waiting → (n : ℕ) → t.number ≡ Some n → n ≤ 65535
task_low s k plan waiting outs t task are n is = let w = has_waited s k plan waiting outs t n task is in are w.place t w.got n is

-- A REPORT
abbrev pub Fits : ℕ → Outcome → Type 0
Fits number o = (number ≤ 65535) × IsSpelt o

report_fits : (s : Known) (k : ℕ) (plan : Option PlanView) (waiting : List Task) (phase : ℕ) (begun : List Begun) (tasks : List Task) (x : Report) → AreBegunTasks s k plan waiting phase begun tasks → AreLow waiting → AreGoing begun
    → IsReportOf x begun tasks → Fits x.number x.outcome
report_fits s k plan waiting phase [] [] x are low going is = absurd is
report_fits s k plan waiting phase [] (t ∷ tasks) x are low going is = absurd is
report_fits s k plan waiting phase (b ∷ older) [] x are low going is = absurd is
report_fits s k plan waiting phase (b ∷ older) (t ∷ tasks) x are low going (inl (number, ended)) =
    (task_low s k are.1.by_then waiting _ t are.1.task low x.number number, outcome_fits b.request b.answers x.outcome going.0.0 going.0.1 ended)
report_fits s k plan waiting phase (b ∷ older) (t ∷ tasks) x are low going (inr rest) = report_fits s k plan waiting phase older tasks x are.0 low going.1 rest

open_low : (s : Known) (k : ℕ) (plan : Option PlanView) (waiting : List Task) (phase : ℕ) (begun : List Begun) (tasks : List Task) → AreBegunTasks s k plan waiting phase begun tasks → AreLow waiting → (n : ℕ) → number_in tasks ≡ Some n → n ≤ 65535
open_low s k plan waiting phase [] [] are low n is = cc
open_low s k plan waiting phase [] (t ∷ tasks) are low n is = absurd are
open_low s k plan waiting phase (b ∷ older) [] are low n is = absurd are
open_low s k plan waiting phase (b ∷ older) (t ∷ tasks) are low n is = task_low s k are.1.by_then waiting _ t are.1.task low n is

-- all reports of the first n drives
inserted_all : (P : ℕ × Outcome → Type 0) (number : ℕ) (o : Outcome) (reports : List (ℕ × Outcome)) → P (number, o) → All P reports → All P (inserted number o reports)
inserted_all P number o [] one are = All-cons P (number, o) [] one (All-nil P)
inserted_all P number o (x ∷ reports) one are = by (nat_lt number x.0) (inserted_all P number o reports one (All-tail P x reports are))
  where
    by : (b : Bool) → All P (inserted number o reports) → All P (if b then (number, o) ∷ x ∷ reports else x ∷ inserted number o reports)
    by true rest = All-cons P (number, o) (x ∷ reports) one are
    by false rest = All-cons P x (inserted number o reports) (All-head P x reports are) rest

reports_all : (P : ℕ × Outcome → Type 0) (report : ℕ → Option Report) (n : ℕ) (reports : List (ℕ × Outcome)) → ((k : ℕ) (x : Report) → k < n → report k ≡ Some x → P (x.number, x.outcome)) → All P reports → All P (with_reports report n reports)
reports_all P report zero reports each are = are
reports_all P report (suc n) reports each are = by (report n) refl (reports_all P report n reports (λ k x low. each k x (omega (arith, low))) are)
  where
    by : (o : Option Report) → report n ≡ o → All P (with_reports report n reports) → All P (with_report o (with_reports report n reports))
    by None is rest = rest
    by (Some x) is rest = inserted_all P x.number x.outcome (with_reports report n reports) (each n x (omega arith) is) rest

abbrev pub FitsPair : ℕ × Outcome → Type 0
FitsPair x = Fits x.0 x.1

module _ (r : RingView) (jobs : List Job) (few : length jobs ≤ 65535) where
  module _ (h : List Call) (heard_all : AreHeard h) where
    abbrev p : Past
    p = looks_back r jobs h

    waits_low : (k : ℕ) → AreLow (p.waiting k)
    waits_low k i t got n is =
        let (c, all) = in_all (known_of r) jobs h k in
        let asked = request_of (member (known_of r) k).address 1 jobs (c + i) t n (all i t got) is in
        omega (arith, few, asked.at, slice_get_within jobs asked.place asked.job asked.there)

    going : (k : ℕ) → AreGoing (begun_by (p.calls k))
    going k = all_going (p.calls k) (all_told (known_of r) (tasks_for (known_of r) jobs) h heard_all k)

    tasks_so : (k : ℕ) → k < length (known_of r).drives → HasBegunTasks (known_of r) p k
    tasks_so k below = begins_tasks (known_of r) (tasks_for (known_of r) jobs) h k below

    told_fits : (k : ℕ) (x : Report) → k < length (known_of r).drives → p.now.report k ≡ Some x → FitsPair (x.number, x.outcome)
    told_fits k x below is = report_fits (known_of r) k p.plan (p.waiting k) p.now.phase (begun_by (p.calls k)) (p.tasks k) x (tasks_so k below) (waits_low k) (going k) (told_right (known_of r) (tasks_for (known_of r) jobs) h k x below is)

    broken_fits : (k : ℕ) (x : Report) → k < length (known_of r).drives → broken p k ≡ Some x → FitsPair (x.number, x.outcome)
    broken_fits k x below is = elim (cases_Bool (is_idle p k)) [
      | inl on ↦ cc
      | inr off ↦ let e = rw off at is in of (number_in (p.tasks k)) refl e
    ]
      where
        of : (o : Option ℕ) → number_in (p.tasks k) ≡ o → broken_number o ≡ Some x → FitsPair (x.number, x.outcome)
        of None has e = cc
        of (Some n) has e =
            let same : (record { number = n; outcome = outcome.Broken }) ≡ x = same_Some _ x e in
            subst (λ (y : Report). FitsPair (y.number, y.outcome)) same (open_low (known_of r) k p.plan (p.waiting k) p.now.phase (begun_by (p.calls k)) (p.tasks k) (tasks_so k below) (waits_low k) n has, tt)

    with_broken_fits : (reports : List (ℕ × Outcome)) → All FitsPair reports → All FitsPair (with_broken (known_of r) p reports)
    with_broken_fits reports are = reports_all FitsPair (broken p) (length (known_of r).drives) reports broken_fits are

    all_told_fits : (reports : List (ℕ × Outcome)) → All FitsPair reports → All FitsPair (outcomes_told (known_of r) p reports)
    all_told_fits reports are = elim (cases_Bool (is_some (fall_of (known_of r) p))) [
      | inl on ↦ rw on (with_broken_fits (with_reports p.now.report (length (known_of r).drives) reports) ended)
      | inr off ↦ rw off ended
    ]
      where
        ended : All FitsPair (with_reports p.now.report (length (known_of r).drives) reports)
        ended = reports_all FitsPair p.now.report (length (known_of r).drives) reports told_fits are

  pub outcomes_spelt : (carry : Carry) (restarts : Restarts) (t : CycleView) (j : List CycleView) → IsNext r jobs carry restarts t j → All FitsPair t.events.outcomes
  outcomes_spelt carry restarts t j next = subst (All FitsPair) (sym (ap (λ (e : EventsView). e.outcomes) next.events)) (all_told_fits (middle r carry restarts t.sent j) (middle_heard r carry restarts t j) _ (by (restarts (length j) 0)))
    where
      by : (b : Bool) → All FitsPair (if b then restart_told (known_of r) (looks_back r jobs (master_calls r carry restarts j)) no_events else no_events).outcomes
      by true = with_broken_fits (master_calls r carry restarts j) (all_heard r carry restarts j) [] (All-nil FitsPair)
      by false = All-nil FitsPair

-- THE LINES
ended_fits : (cycle i : ℕ) (o : Outcome) → cycle ≤ 4294967295 → Fits i o → FitsEnded cycle i o
unfolding template_of AreOf IsPart IsOf field_of part_left AreBytes
ended_fits cycle i (outcome.Complete list) number is = (tt, (tt, (number, (tt, (is.0, (tt, (tt, (tt, (tt, (tt, (tt, (tt, (tt, (tt, (tt, (is.1, tt))))))))))))))))
ended_fits cycle i (outcome.Refused code) number is = let low : code.raw < 65536 = is.1 in (tt, (tt, (number, (tt, (is.0, (tt, (tt, (tt, (tt, (tt, (tt, (tt, (tt, (tt, (tt, (tt, (((omega (arith, low), (omega arith, tt)), refl), tt)))))))))))))))))
ended_fits cycle i outcome.Broken number is = (tt, (tt, (number, (tt, (is.0, (tt, (tt, (tt, (tt, (tt, (tt, (tt, tt))))))))))))

pub all_ended_fit : (cycle : ℕ) (reports : List (ℕ × Outcome)) → cycle ≤ 4294967295 → All FitsPair reports → All (λ (x : ℕ × Outcome). FitsEnded cycle x.0 x.1) reports
all_ended_fit cycle [] number are = All-nil (λ (x : ℕ × Outcome). FitsEnded cycle x.0 x.1)
all_ended_fit cycle (x ∷ reports) number are =
    All-cons (λ (y : ℕ × Outcome). FitsEnded cycle y.0 y.1) x reports (ended_fits cycle x.0 x.1 number (All-head FitsPair x reports are)) (all_ended_fit cycle reports number (All-tail FitsPair x reports are))
