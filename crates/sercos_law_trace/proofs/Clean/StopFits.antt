-- What a cycle reports fits the fields of its lines.
use Rattle.sercos_law_trace.proofs.Words.{cases_Bool, ◌≡◌, ℕ, zero, suc, ◌+◌, ◌<◌, ◌≤◌, Bool, true, false, List, [], ◌∷◌, ◌++◌, length, take, drop, Option, Some, None, Err, refl, sym, ◌∙◌, ap, subst, arith, if◌then◌else◌, slice_get, option_or, All, All-nil, All-cons, All-head, All-tail, AreBytes-get_or, Idn, Code, Job, Request, Outcome, outcome_of, RingView, Begun, begun_by, Ident, Stop, raws, EventsView, CycleView, asked_by, idns_in, with_outcome, outcomes_in, Known, IsKnown, MemberView, HasLists, known_of, tasks_for, member, Past, outcomes, restart_told, Carry, Restarts, master_calls, middle, looks_back, no_events, IsRun, IsClear, IsTypedRequest, ring_timed, all_members, tasks_so, IsTypedPast, typed_past, AreBegun, s_known, first_store, keeps_all, IsOpened, Fit, FitsStop, FitsLink, FitsReports, FitReports, RunsFitReports, WishesView, chain_of, planned, is_roomy, ChainView, Link, lens, are_requests, check128_has_cause, no_fit_has_cause, refused_has_cause, is_planned, AreBytes, AreItems, IsItem, IsTail, field_of, AreOf, IsOf, part_left, template_of, tail_for, or_none, inl, inr, cases_Option}
use Rattle.sercos_step.specs.declared.request.Request.TheVariants as request
use Rattle.sercos_step.specs.declared.request.Outcome.TheVariants as outcome
use Rattle.sercos_text.specs.Templates.Value.{number as counted}
use Rattle.sercos_text.specs.Templates.{IsPart}
use Rattle.sercos_trace.specs.declared.kind.LineKind.TheVariants as kind
use Rattle.sercos_trace.specs.declared.events.Stop.TheVariants as stop
use Rattle.sercos_seat.specs.Agenda as agenda
use Rattle.sercos_master.proofs.Wishes.{wishes_length}
use Rattle.sercos_law_trace.proofs.Clean.ChainFits.{IsSmallWish, AreSmallWishes, IsSmallLink, IsSmallChain, chain_small}
use Rattle.sercos_law_trace.proofs.Clean.RunRules.{cycle_low}
use Rattle.sercos_law_trace.proofs.Clean.SeenLemmas.{Each}
use Rattle.sercos_law_trace.proofs.Clean.OtherFits.{member_low}
use Rattle.sercos_law_trace.proofs.Clean.OutcomeFits.{AreGoing, IsSpelt, middle_heard, all_told, all_going, outcome_fits, outcomes_spelt, all_ended_fit}

-- THE OUTCOMES on a channel
each_pushed : (xs : List Outcome) (x : Outcome) → Each IsSpelt xs → IsSpelt x → Each IsSpelt (xs ++ x ∷ [])
each_pushed [] x are one = (one, tt)
each_pushed (y ∷ xs) x are one = (are.0, each_pushed xs x are.1 one)

all_spelt : (begun : List Begun) → AreGoing begun → Each IsSpelt (outcomes_in begun)
all_spelt [] going = tt
all_spelt (b ∷ older) going = by (outcome_of b.request b.answers) refl (all_spelt older going.1)
  where
    by : (o : Option Outcome) → outcome_of b.request b.answers ≡ o → Each IsSpelt (outcomes_in older) → Each IsSpelt (with_outcome o (outcomes_in older))
    by None is rest = rest
    by (Some x) is rest = each_pushed (outcomes_in older) x rest (outcome_fits b.request b.answers x going.0.0 going.0.1 is)

spelt_at : (xs : List Outcome) (i : ℕ) (x : Outcome) → Each IsSpelt xs → slice_get xs i ≡ Some x → IsSpelt x
spelt_at [] i x are got = cc
spelt_at (y ∷ xs) zero x are got = let same : y ≡ x = cc in subst IsSpelt same are.0
spelt_at (y ∷ xs) (suc i) x are got = spelt_at xs i x are.1 got

-- the identifier numbers of a list
idns_fit : (n : ℕ) (bytes : List ℕ) → AreBytes bytes → AreItems Ident (raws (take n (idns_in bytes)))
unfolding AreItems IsItem AreBytes
idns_fit zero bytes are = tt
idns_fit (suc n) [] are = tt
idns_fit (suc n) (low ∷ []) are = tt
idns_fit (suc n) (low ∷ high ∷ bytes) are = let a : low < 256 = are.0 in let b : high < 256 = are.1.0 in (omega (arith, a, b), idns_fit n bytes are.1.1)

list_tail : (n : ℕ) (bytes : List ℕ) (list : List Idn) → AreBytes bytes → list ≡ take n (idns_in bytes) → IsTail (tail_for kind.Check128) (raws list)
unfolding tail_for IsTail
list_tail n bytes list are is = subst (λ (l : List Idn). AreItems Ident (raws l)) (sym is) (idns_fit n bytes are)

request_low : (q : Request) → IsTypedRequest q → (asked_by q).idn.raw < 65536
request_low (request.Read i e) typed = typed.0
request_low (request.Write i e bytes) typed = typed.0
request_low (request.Command i) typed = typed

-- WHAT THE DRIVES ANSWER gives small numbers.
given_bytes : (outs : List Outcome) (i : ℕ) → Each IsSpelt outs → AreBytes (agenda.given outs i)
unfolding AreBytes
given_bytes outs i are = elim (cases_Option (slice_get outs i)) [
  | inl is ↦ rw is tt
  | inr (x, is) ↦ rw is (one x (spelt_at outs i x are is))
]
  where
    one : (o : Outcome) → IsSpelt o → AreBytes (agenda.bytes_of o)
    one (outcome.Complete bytes) is = is.0
    one (outcome.Refused code) is = tt
    one outcome.Broken is = tt

given_low : (outs : List Outcome) (i : ℕ) → Each IsSpelt outs → agenda.short_in (agenda.given outs i) ≤ 65535
given_low outs i are = let a = AreBytes-get_or (agenda.given outs i) 0 (given_bytes outs i are) in
    let b = AreBytes-get_or (agenda.given outs i) 1 (given_bytes outs i are) in omega (arith, a, b)

wishes_low : (drives : List MemberView) (k : ℕ) (outs : ℕ → List Outcome) → All (λ (d : MemberView). (1 ≤ d.address) × (d.address ≤ 254)) drives → All HasLists drives → ((i : ℕ) → Each IsSpelt (outs i))
    → Each IsSmallWish (agenda.wishes_from drives k outs)
wishes_low [] k outs addresses lists are = tt
wishes_low (d ∷ drives) k outs addresses lists are = (
  (record {
    address = omega (arith, (All-head (λ (x : MemberView). (1 ≤ x.address) × (x.address ≤ 254)) d drives addresses).1);
    at_len = (lens (drop 6 (agenda.words_given (outs k))) (length d.at) (All-head HasLists d drives lists).0).1;
    record_len = (lens (drop (6 + length d.at) (agenda.words_given (outs k))) (length d.mdt) (All-head HasLists d drives lists).1).1;
    t1min = given_low (outs k) 0 (are k);
    tatmt = given_low (outs k) 1 (are k);
    t4min = given_low (outs k) 2 (are k);
    tatat = given_low (outs k) 3 (are k);
    tmtsy = given_low (outs k) 4 (are k);
    tmtsg = given_low (outs k) 5 (are k);
  }),
  wishes_low drives (k + 1) outs (All-tail (λ (x : MemberView). (1 ≤ x.address) × (x.address ≤ 254)) d drives addresses) (All-tail HasLists d drives lists) are,
)

asked_low : (s : Known) (outs : ℕ → List Outcome) → IsKnown s → ((i : ℕ) → Each IsSpelt (outs i)) → AreSmallWishes (agenda.wishes_given s outs)
asked_low s outs known are = record {
  rate = known.cycles.rate;
  gap = known.cycles.gap;
  cycle = cycle_low s.cycle known.cycles.cycle;
  order = let count = known.order.count in let few = known.few in omega (arith, count, few);
  few = let count = wishes_length s.drives 0 outs in let few = known.few in omega (arith, count, few);
  drives = wishes_low s.drives 0 outs known.addresses known.lists are;
}

-- A CHAIN and its lines
chain_is : (w : WishesView) (c : ChainView) → planned w ≡ Err c → chain_of w ≡ c
chain_is w c is = elim (cases_Bool (is_roomy w)) [ inl on ↦ cc | inr off ↦ cc ]

nofit_line : (cycle : ℕ) → cycle ≤ 4294967295 → Fit kind.NoFit (counted cycle ∷ [])
unfolding template_of AreOf IsPart IsOf field_of part_left
nofit_line cycle low = (tt, (tt, (tt, (tt, (tt, (low, (tt, (tt, (tt, (tt, (tt, (tt, tt))))))))))))

link_line : (cycle : ℕ) (l : Link) → cycle ≤ 4294967295 → IsSmallLink l → FitsLink cycle l
unfolding template_of AreOf IsPart IsOf field_of part_left
link_line cycle l low is = (tt, (tt, (tt, (tt, (tt, (low, (tt, (is.rule, (tt, (tt, (tt, (tt, (tt, (tt, (tt, (is.drive, (tt, (tt, (tt, (tt, (is.at, tt)))))))))))))))))))))

sum_line : (cycle : ℕ) (c : ChainView) → cycle ≤ 4294967295 → IsSmallChain c → Fit kind.RuleSum (counted cycle ∷ counted c.rule ∷ counted c.drive ∷ counted c.sum ∷ counted c.bound ∷ [])
unfolding template_of AreOf IsPart IsOf field_of part_left
sum_line cycle c low is = (tt, (tt, (tt, (tt, (tt, (low, (tt, (is.rule, (tt, (tt, (tt, (tt, (tt, (tt, (tt, (is.drive, (tt, (tt, (tt, (tt, (tt, (is.sum, (tt, (tt, (tt, (tt, (tt, (tt, (tt, (is.bound, tt))))))))))))))))))))))))))))))

link_lines : (cycle : ℕ) (links : List Link) → cycle ≤ 4294967295 → Each IsSmallLink links → All (FitsLink cycle) links
link_lines cycle [] low are = All-nil (FitsLink cycle)
link_lines cycle (l ∷ links) low are = All-cons (FitsLink cycle) l links (link_line cycle l low are.0) (link_lines cycle links low are.1)

refused_line : (cycle drive : ℕ) (i : Idn) (code : Code) → cycle ≤ 4294967295 → drive ≤ 255 → i.raw < 65536 → code.raw < 65536 → FitsStop cycle (Some (stop.Refused drive i code))
unfolding template_of AreOf IsPart IsOf field_of part_left IsItem AreBytes
refused_line cycle drive i code number low idn small = (tt, (tt, (tt, (tt, (tt, (number, (tt, (tt, (tt, (tt, (tt, (tt, (tt, (tt, (tt, (low, (tt, (idn, (tt, (tt, (tt, (((omega (arith, small), (omega arith, tt)), refl), tt))))))))))))))))))))))

check_line : (cycle drive : ℕ) (list : List Idn) → cycle ≤ 4294967295 → drive ≤ 255 → IsTail (tail_for kind.Check128) (raws list) → FitsStop cycle (Some (stop.Check128 drive (record { items = list })))
unfolding template_of AreOf IsPart IsOf field_of part_left
check_line cycle drive list number low tail = ((tt, (tt, (tt, (tt, (tt, (number, (tt, (tt, (tt, (tt, (tt, (tt, (tt, (tt, (tt, (tt, (low, tt))))))))))))))))), tail)

module _ (r : RingView) (jobs : List Job) (few : length jobs ≤ 65535) (carry : Carry) (restarts : Restarts)
    (opened : IsOpened r jobs) where
  module _ (t : CycleView) (j : List CycleView) (run : IsRun r jobs carry restarts (t ∷ j)) (clear : IsClear (t ∷ j))
      (number : t.cycle ≤ 4294967295) where
    abbrev p : Past
    p = looks_back r jobs (middle r carry restarts t.sent j)

    going : (k : ℕ) → AreGoing (begun_by (p.calls k))
    going k = all_going (p.calls k) (all_told (known_of r) (tasks_for (known_of r) jobs) (middle r carry restarts t.sent j) (middle_heard r carry restarts t j) k)

    typed : IsTypedPast p
    typed =
        let known = s_known r jobs carry restarts opened (first_store r jobs carry restarts opened) in
        typed_past (known_of r) known (ring_timed r known opened.valid) (λ k. all_members r k opened.valid opened.typed) (tasks_for (known_of r) jobs) (λ h. is_planned (known_of r) (tasks_for (known_of r) jobs) h)
        (λ k. tasks_so (known_of r) jobs k opened.jobs_typed) (middle r carry restarts t.sent j)

    address_low : (k address : ℕ) → (member (known_of r) k).address ≡ address → address ≤ 255
    address_low k address is = subst (λ (n : ℕ). n ≤ 255) is (member_low (known_of r).drives k (s_known r jobs carry restarts opened (first_store r jobs carry restarts opened)).addresses)

    -- a stop that is told is the master's
    stop_is : (x : Stop) → t.events.stop ≡ Some x → p.stop ≡ Some x
    stop_is x is = by p.now.stops (restarts (length j) 0) (sym (ap (λ (e : EventsView). e.stop) run.1.events) ∙ is)
      where
        by : (stops restarted : Bool) → option_or (if stops then p.stop else None) (if restarted then restart_told (known_of r) (looks_back r jobs (master_calls r carry restarts j)) no_events else no_events).stop ≡ Some x → p.stop ≡ Some x
        by true true e = or_none p.stop x e
        by true false e = or_none p.stop x e
        by false true e = cc
        by false false e = cc

    stop_fits : (o : Option Stop) → t.events.stop ≡ o → FitsStop t.cycle o
    stop_fits None is = tt
    stop_fits (Some (stop.NoFit c)) is =
        let has = no_fit_has_cause (known_of r) (tasks_for (known_of r) jobs) (middle r carry restarts t.sent j) c (stop_is _ is) in
        let known = s_known r jobs carry restarts opened (first_store r jobs carry restarts opened) in
        let asked = asked_low (known_of r) (outcomes p) known (λ k. all_spelt (begun_by (p.calls k)) (going k)) in
        let is : IsSmallChain c =
        subst IsSmallChain (chain_is (agenda.wishes_given (known_of r) (outcomes p)) c has.1)
        (chain_small (agenda.wishes_given (known_of r) (outcomes p)) asked) in
        (nofit_line t.cycle number, link_lines t.cycle c.links number is.links, sum_line t.cycle c number is)
    stop_fits (Some (stop.Refused address i code)) is =
        let has = refused_has_cause (known_of r) (tasks_for (known_of r) jobs) (middle r carry restarts t.sent j) address i code (stop_is _ is) in
        let ended = has.ended in
        let going_one = subst AreGoing ended.begun (going ended.place) in
        let typed_one : IsTypedRequest ended.one.request = (subst AreBegun ended.begun (typed.begun ended.place)).0 in
        let raw : i.raw < 65536 = subst (λ (x : Idn). x.raw < 65536) has.names (request_low has.asked (subst IsTypedRequest ended.asks typed_one)) in
        refused_line t.cycle address i code number (address_low ended.place address ended.address_is) raw (outcome_fits ended.one.request ended.one.answers (outcome.Refused code) going_one.0.0 going_one.0.1 ended.ended)
    stop_fits (Some (stop.BadConfig address i word)) is = absurd ((keeps_all r jobs carry restarts opened t j run clear).stops.no_bad_config address i word is)
    stop_fits (Some (stop.Check127 address list)) is = absurd ((keeps_all r jobs carry restarts opened t j run clear).stops.no_check127 address list.items is)
    stop_fits (Some (stop.Check128 address list)) is =
        let has = check128_has_cause (known_of r) (tasks_for (known_of r) jobs) (middle r carry restarts t.sent j) address list.items (λ k. (are_requests (known_of r) jobs k).1) (stop_is _ is) in
        let spelt : IsSpelt (outcome.Complete has.bytes) = spelt_at (outcomes p has.place) _ (outcome.Complete has.bytes) (all_spelt (begun_by (p.calls has.place)) (going has.place)) has.listed in
        check_line t.cycle address list.items number (address_low has.place address has.address_is) (list_tail 64 has.bytes list.items spelt.0 has.list_is)

    reports_fit : FitsReports t.cycle t.events
    reports_fit = record {
      outcomes = all_ended_fit t.cycle t.events.outcomes number (outcomes_spelt r jobs few carry restarts t j run.1);
      stop = stop_fits t.events.stop refl;
    }

  all_reports : (j : List CycleView) → IsRun r jobs carry restarts j → IsClear j → length j ≤ 4294967296 → FitReports j
  all_reports [] run clear short = All-nil (λ (t : CycleView). FitsReports t.cycle t.events)
  all_reports (t ∷ j) run clear short = let number : t.cycle ≤ 4294967295 = omega (arith, run.1.cycle, short) in
      All-cons (λ (u : CycleView). FitsReports u.cycle u.events) t j (reports_fit t j run clear number) (all_reports j run.0 clear.0 (omega (arith, short)))

pub runs_fit_reports : RunsFitReports
runs_fit_reports r jobs carry restarts j opened few run clear short = all_reports r jobs few carry restarts opened j run clear short
