-- The next cycle of a run, as a relation and as a function.
use Rattle.sercos_law_run.proofs.Words.{◌≡◌, ℕ, suc, zero, true, false, List, [], ◌∷◌, ◌++◌, length, Option, Some, None, refl, sym, ◌∙◌, ap, arith, Job, RingView, SentView, CycleView, EventsView, Move, Said, known_of, Call, Sent, mst_said, mdt_said, events_told, Carry, Restarts, mst_in, ats_in, mdt_in, drive_at, master_calls, given_before, begin_calls, mid_calls, at_mst, at_mdt, said_below, contents, content_of, ats_said, sent_mst, sent_mdt, moves_below, unseen_in, looks_back, restart_events, IsRun, IsNext, next_record, run_of}

-- what is read off the telegrams of a cycle
pub ats_in-said : (rate : ℕ) (ats : List Said) (mdt : Option Sent) → ats_in (ats_said rate ats ++ sent_mdt rate mdt) ≡ contents ats
ats_in-said rate [] None = refl
ats_in-said rate [] (Some s) = refl
ats_in-said rate (a ∷ ats) mdt = ap (λ (cs : List (List ℕ)). a.content ∷ cs) (ats_in-said rate ats mdt)

pub mdt_in-said : (rate : ℕ) (ats : List Said) (mdt : Option Sent) → mdt_in (ats_said rate ats ++ sent_mdt rate mdt) ≡ content_of mdt
mdt_in-said rate [] None = refl
mdt_in-said rate [] (Some s) = refl
mdt_in-said rate (a ∷ ats) mdt = mdt_in-said rate ats mdt

-- the parts of a cycle, by its MST, its ATs and its MDT
abbrev pub AreParts : RingView → List Job → Carry → Restarts → List CycleView → CycleView → List ℕ → List Said → Option Sent → ℕ → Type 0
AreParts r jobs carry restarts j t mst ats mdt cycle =
    (t.cycle ≡ cycle)
    × (t.phase ≡ (looks_back r jobs (begin_calls restarts cycle (master_calls r carry restarts j))).now.phase)
    × (mst ≡ mst_said (looks_back r jobs (begin_calls restarts cycle (master_calls r carry restarts j))))
    × (ats ≡ said_below (length r.drives) (drive_at r) r.rate (at_mst carry restarts cycle mst (given_before carry restarts j)))
    × (mdt ≡ mdt_said (known_of r) (looks_back r jobs (mid_calls r carry restarts cycle mst (contents ats) (master_calls r carry restarts j))))
    × (t.sent ≡ sent_mst mst ∷ ats_said r.rate ats ++ sent_mdt r.rate mdt)
    × (t.moves ≡ moves_below false (length r.drives) (drive_at r) r.rate (given_before carry restarts j) (at_mst carry restarts cycle mst (given_before carry restarts j))
    ++ moves_below true (length r.drives) (drive_at r) r.rate (at_mst carry restarts cycle mst (given_before carry restarts j)) (at_mdt carry cycle (content_of mdt) (at_mst carry restarts cycle mst (given_before carry restarts j))))
    × (t.events ≡ events_told (known_of r) (looks_back r jobs (mid_calls r carry restarts cycle mst (contents ats) (master_calls r carry restarts j)))
    (restart_events r jobs restarts cycle (master_calls r carry restarts j)))
    × (t.unseen ≡ unseen_in r carry cycle mst (contents ats) (content_of mdt))

pub parts_next : (r : RingView) (jobs : List Job) (carry : Carry) (restarts : Restarts) (j : List CycleView) (t : CycleView) (mst : List ℕ) (ats : List Said) (mdt : Option Sent)
    → AreParts r jobs carry restarts j t mst ats mdt (length j) → IsNext r jobs carry restarts t j
parts_next r jobs carry restarts j t mst ats mdt (cycle, phase, mst_is, ats_are, mdt_is, sent, moves, events, unseen) =
    let m : mst_in t.sent ≡ mst = ap mst_in sent in
    let a : ats_in t.sent ≡ contents ats = ap ats_in sent ∙ ats_in-said r.rate ats mdt in
    let d : mdt_in t.sent ≡ content_of mdt = ap mdt_in sent ∙ mdt_in-said r.rate ats mdt in
    let calls : List Call = master_calls r carry restarts j in
    let first : List ℕ = mst_said (looks_back r jobs (begin_calls restarts (length j) calls)) in
    let ats_of : List ℕ → List Said = λ x. said_below (length r.drives) (drive_at r) r.rate (at_mst carry restarts (length j) x (given_before carry restarts j)) in
    let mdt_of : List ℕ → List (List ℕ) → Option Sent = λ x l. mdt_said (known_of r) (looks_back r jobs (mid_calls r carry restarts (length j) x l calls)) in
    record {
      cycle = cycle;
      phase = phase;
      sent = sent ∙ ap (λ (x : List ℕ). sent_mst x ∷ ats_said r.rate ats ++ sent_mdt r.rate mdt) mst_is
          ∙ ap (λ (l : List Said). sent_mst first ∷ ats_said r.rate l ++ sent_mdt r.rate mdt) (ats_are ∙ sym (ap ats_of m))
          ∙ ap (λ (o : Option Sent). sent_mst first ∷ ats_said r.rate (ats_of (mst_in t.sent)) ++ sent_mdt r.rate o)
          (mdt_is ∙ sym (ap (λ (x : List ℕ). mdt_of x (ats_in t.sent)) m ∙ ap (mdt_of mst) a));
      moves = rw (m, d) moves;
      events = rw (m, a) events;
      unseen = rw (m, a, d) unseen;
    }

-- The relation and the function say the same.
same_cycle : (a b : CycleView) → a.cycle ≡ b.cycle → a.phase ≡ b.phase → a.sent ≡ b.sent → a.moves ≡ b.moves → a.events ≡ b.events → a.unseen ≡ b.unseen → a ≡ b
same_cycle a b cycle phase sent moves events unseen =
    ap (λ (x : ℕ). record a { cycle = x }) cycle
    ∙ ap (λ (x : ℕ). record a { cycle = b.cycle; phase = x }) phase
    ∙ ap (λ (x : List SentView). record a { cycle = b.cycle; phase = b.phase; sent = x }) sent
    ∙ ap (λ (x : List Move). record a { cycle = b.cycle; phase = b.phase; sent = b.sent; moves = x }) moves
    ∙ ap (λ (x : EventsView). record a { cycle = b.cycle; phase = b.phase; sent = b.sent; moves = b.moves; events = x }) events
    ∙ ap (λ (x : ℕ). record b { unseen = x }) unseen

pub next-is : (r : RingView) (jobs : List Job) (carry : Carry) (restarts : Restarts) (j : List CycleView) (t : CycleView) → IsNext r jobs carry restarts t j → t ≡ next_record r jobs carry restarts j
next-is r jobs carry restarts j t is =
    let calls : List Call = master_calls r carry restarts j in
    let mst : List ℕ = mst_said (looks_back r jobs (begin_calls restarts (length j) calls)) in
    let ats_of : List ℕ → List Said = λ x. said_below (length r.drives) (drive_at r) r.rate (at_mst carry restarts (length j) x (given_before carry restarts j)) in
    let mdt_of : List ℕ → List (List ℕ) → Option Sent = λ x l. mdt_said (known_of r) (looks_back r jobs (mid_calls r carry restarts (length j) x l calls)) in
    let m : mst_in t.sent ≡ mst = ap mst_in is.sent in
    let a : ats_in t.sent ≡ contents (ats_of mst) = ap ats_in is.sent ∙ ats_in-said r.rate (ats_of (mst_in t.sent)) (mdt_of (mst_in t.sent) (ats_in t.sent)) ∙ ap (λ (x : List ℕ). contents (ats_of x)) m in
    let both : mdt_of (mst_in t.sent) (ats_in t.sent) ≡ mdt_of mst (contents (ats_of mst)) = ap (λ (x : List ℕ). mdt_of x (ats_in t.sent)) m ∙ ap (mdt_of mst) a in
    let d : mdt_in t.sent ≡ content_of (mdt_of mst (contents (ats_of mst))) = ap mdt_in is.sent ∙ mdt_in-said r.rate (ats_of (mst_in t.sent)) (mdt_of (mst_in t.sent) (ats_in t.sent)) ∙ ap content_of both in
    same_cycle t (next_record r jobs carry restarts j) is.cycle is.phase
    (is.sent ∙ ap (λ (l : List Said). sent_mst mst ∷ ats_said r.rate l ++ sent_mdt r.rate (mdt_of (mst_in t.sent) (ats_in t.sent))) (ap ats_of m)
    ∙ ap (λ (o : Option Sent). sent_mst mst ∷ ats_said r.rate (ats_of mst) ++ sent_mdt r.rate o) both)
    (is.moves ∙ rw (m, d) refl) (is.events ∙ rw (m, a) refl) (is.unseen ∙ rw (m, a, d) refl)

pub is-next : (r : RingView) (jobs : List Job) (carry : Carry) (restarts : Restarts) (j : List CycleView) → IsNext r jobs carry restarts (next_record r jobs carry restarts j) j
is-next r jobs carry restarts j =
    parts_next r jobs carry restarts j (next_record r jobs carry restarts j) _ _ _ (refl, refl, refl, refl, refl, refl, refl, refl, refl)

pub one_run : (r : RingView) (jobs : List Job) (carry : Carry) (restarts : Restarts) (j : List CycleView) → IsRun r jobs carry restarts j → j ≡ run_of r jobs carry restarts (length j)
one_run r jobs carry restarts [] is = refl
one_run r jobs carry restarts (t ∷ j) (run, next) =
    let before : j ≡ run_of r jobs carry restarts (length j) = one_run r jobs carry restarts j run in
    ap (λ (x : CycleView). x ∷ j) (next-is r jobs carry restarts j t next) ∙ ap (λ (l : List CycleView). next_record r jobs carry restarts l ∷ l) before

pub made_run : (r : RingView) (jobs : List Job) (carry : Carry) (restarts : Restarts) (n : ℕ) → IsRun r jobs carry restarts (run_of r jobs carry restarts n)
made_run r jobs carry restarts zero = tt
made_run r jobs carry restarts (suc n) = (made_run r jobs carry restarts n, is-next r jobs carry restarts (run_of r jobs carry restarts n))

pub length-run_of : (r : RingView) (jobs : List Job) (carry : Carry) (restarts : Restarts) (n : ℕ) → length (run_of r jobs carry restarts n) ≡ n
length-run_of r jobs carry restarts zero = refl
length-run_of r jobs carry restarts (suc n) = omega (arith, length-run_of r jobs carry restarts n)
