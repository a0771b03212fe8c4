-- Which drive sends in the phases 0 to 2.
use Rattle.sercos_law_run.proofs.Words.{◌≡◌, ◌⊎◌, inl, inr, ℕ, zero, suc, ◌+◌, ◌<◌, ◌≤◌, ◌==◌, Bool, true, false, not, ◌&&◌, ◌||◌, List, [], ◌∷◌, length, Option, Some, None, refl, sym, ◌∙◌, ap, subst, arith, if◌then◌else◌, nat_le, is_some, is_none, slice_index, then_some, option_or, and_parts, false≢true, nat_tests, Address, Job, Block, DriveView, RingView, DriveCall, Mst, Mdt, mst_got, mdt_got, told_at, phase_in, has_mst, has_taken, blocks_in, annals, stands_in, takes, Said, drive_says, sends, CycleView, known_of, tasks_for, Sent, mdt_said, Carry, Restarts, heard, passage, unseen_at, sum_below, mst_in, ats_in, mdt_in, IsRun, IsNext, IsClear, begins, content_of, contents, drive_at, given_before, given_mst, mdt_heard, said_below, unseen_ats, unseen_mdt, unseen_mst, with_restart, with_said, at_start, behind_mdt, IsSpelled, SpelledNext, IsOpened, SendsAlone, head_fault, single_in, cases_Bool, cases_Option, Kind, LengthFault, same_Some, leb-true}
use Rattle.sercos_law_run.proofs.Journal.RunLemmas.{ats_in-said, mdt_in-said}
use Rattle.sercos_law_run.proofs.Journal.StationLemmas.{said_address}
use Rattle.sercos_law_run.proofs.Typed.Mdts.{phase_low}
use Rattle.sercos_law_run.proofs.Views.Codecs.{mst_clear}
use Rattle.sercos_law_run.proofs.Views.Members.{heard_whole, same_drive}
use Rattle.sercos_law_run.proofs.Views.ViewRuns.{none_below}
use Rattle.sercos_law_run.proofs.Stations.Phases.{GotNext, GotNone, GotOther, GotOwn, MissesTwo, stands_by}

-- AT MOST ONE of the drives that say something says it, if each two that do are one.
none_said : (n : ℕ) (d : ℕ → DriveView) (rate : ℕ) (h : ℕ → List DriveCall) → ((i : ℕ) → i < n → drive_says (d i) rate (h i) ≡ None)
    → said_below n d rate h ≡ []
none_said zero d rate h none = refl
none_said (suc n) d rate h none = rw (none n (omega arith), none_said n d rate h (λ i below. none i (omega (arith, below)))) refl

record IsOne (n : ℕ) (d : ℕ → DriveView) (rate : ℕ) (h : ℕ → List DriveCall) (said : List Said) : Type 0 where
  place : ℕ
  inside : place < n
  says : Said
  is : drive_says (d place) rate (h place) ≡ Some says
  alone : said ≡ says ∷ []

abbrev AreOne : ℕ → (ℕ → DriveView) → ℕ → (ℕ → List DriveCall) → Type 0
AreOne n d rate h = (i k : ℕ) (s u : Said) → i < n → k < n → drive_says (d i) rate (h i) ≡ Some s → drive_says (d k) rate (h k) ≡ Some u → i ≡ k

one_said : (n : ℕ) (d : ℕ → DriveView) (rate : ℕ) (h : ℕ → List DriveCall) → AreOne n d rate h
    → (said_below n d rate h ≡ []) ⊎ IsOne n d rate h (said_below n d rate h)
one_said zero d rate h are = inl refl
one_said (suc n) d rate h are = by (drive_says (d n) rate (h n)) refl (one_said n d rate h (λ i k s u low below says tells. are i k s u (omega (arith, low)) (omega (arith, below)) says tells))
  where
    by : (o : Option Said) → drive_says (d n) rate (h n) ≡ o → (said_below n d rate h ≡ []) ⊎ IsOne n d rate h (said_below n d rate h)
        → (with_said o (said_below n d rate h) ≡ []) ⊎ IsOne (suc n) d rate h (with_said o (said_below n d rate h))
    by None e (inl none) = inl none
    by None e (inr one) = inr (record { place = one.place; inside = omega (arith, one.inside); says = one.says; is = one.is; alone = one.alone })
    by (Some s) e before = inr (record { place = n; inside = omega arith; says = s; is = e; alone = ap (with_said (Some s)) (none_said n d rate h others) })
      where
        others : (i : ℕ) → i < n → drive_says (d i) rate (h i) ≡ None
        others i below = elim (cases_Option (drive_says (d i) rate (h i))) [
          | inl is ↦ rw is
          | inr (u, is) ↦ rw is (let same = are i n u s (omega (arith, below)) (omega arith) is e in absurd (omega (arith, below, same)))
        ]

-- WHAT A DRIVE NEEDS to send in the phases 1 and 2.
-- a single MDT is got by its address
addressed : (address phase : ℕ) (blocks : List Block) (content : List ℕ) → phase ≤ 2
    → is_some (mdt_got address phase blocks (Some content)) ≡ true → slice_index content 0 ≡ address
unfolding single_in head_fault
addressed address phase blocks content early got = elim (cases_Bool (nat_le 3 phase)) [
  | inl e ↦ let got = rw e at got in absurd (grind (arith, nat_tests, e, early))
  | inr e ↦ read (length content == 5) (slice_index content 0 == address) refl (rw e at got)
]
  where
    read : (long other : Bool) → (slice_index content 0 == address) ≡ other
        → is_some (if is_none (option_or (then_some (not long) (LengthFault (length content) 5)) (then_some (not other) (Address (slice_index content 0) address))) then Some (told_at content 1) else None) ≡ true
        → slice_index content 0 ≡ address
    read true true e got = grind (arith, nat_tests, e)
    read true false e got = absurd (false≢true got)
    read false true e got = absurd (false≢true got)
    read false false e got = absurd (false≢true got)

sends_by : (phase : ℕ) (taken : Bool) → (nat_le 3 phase || (nat_le 1 phase && taken)) ≡ true → phase ≤ 2 → (1 ≤ phase) × (taken ≡ true)
sends_by phase taken is low =
    let early : nat_le 3 phase ≡ false = grind (arith, nat_tests, low) in
    let (up, took) = and_parts (nat_le 1 phase) taken (rw early at is) in (leb-true 1 phase up, took)

-- it got the MST, of whose phase it is, and was at most one below; and it took an MDT
record IsSending (d : DriveView) (rate phase : ℕ) (g : List DriveCall) : Type 0 where
  up : 1 ≤ phase
  near : phase_in (annals d rate g) ≤ phase
  took : has_taken (annals d rate g) ≡ true

is_sending : (d : DriveView) (rate cycle phase : ℕ) (content : Option (List ℕ)) (g : List DriveCall) → phase ≤ 2
    → mst_got content ≡ (if is_some (mst_got content) then Some phase else None)
    → sends (annals d rate (Mst cycle content ∷ g)) ≡ true → IsSending d rate phase g
is_sending d rate cycle phase content g low got sent =
    let parts = and_parts (is_some (mst_got content)) _ sent in
    let is = rw parts.0 at got in
    let sends_so = sends_by (stands_in d rate cycle (mst_got content) (annals d rate g)) (has_taken (annals d rate g)) parts.1 in
    elim (stands_by d rate cycle (annals d rate g) (mst_got content)) [
      | GotNone none some same ↦ absurd (false≢true (sym (ap is_some none) ∙ parts.0))
      | MissesTwo none missed down ↦ absurd (false≢true (sym (ap is_some none) ∙ parts.0))
      | GotOwn p had own same ↦
          let here = same_Some p phase (sym had ∙ is) in
          let all = sends_so (omega (arith, same, here, low)) in
          record { up = omega (arith, all.0, same, here); near = omega (arith, own, here); took = all.1 }
      | GotNext p had next may same ↦
          let here = same_Some p phase (sym had ∙ is) in
          let all = sends_so (omega (arith, same, here, low)) in
          record { up = omega (arith, all.0, same, here); near = omega (arith, next, here); took = all.1 }
      | GotOther p had apart never down ↦ absurd (let all = sends_so (omega (arith, down)) in omega (arith, all.0, down))
    ]

-- where an MDT was taken the drive stays in its phase
record IsTaking (d : DriveView) (rate : ℕ) (content : Option (List ℕ)) (g : List DriveCall) : Type 0 where
  stays : phase_in (annals d rate (Mdt content ∷ g)) ≡ phase_in (annals d rate g)
  got : is_some (mdt_got d.address (phase_in (annals d rate g)) (blocks_in d (annals d rate g)) content) ≡ true

is_taking : (d : DriveView) (rate : ℕ) (content : Option (List ℕ)) (g : List DriveCall)
    → has_taken (annals d rate (Mdt content ∷ g)) ≡ true → IsTaking d rate content g
is_taking d rate content g took =
    let past = annals d rate g in
    let told = mdt_got d.address (phase_in past) (blocks_in d past) content in
    record {
      stays = elim (cases_Bool (nat_le 3 (phase_in past))) [ inl on ↦ rw on (rw took refl) | inr off ↦ rw off ];
      got = (and_parts
          (nat_le 1 (phase_in past)) (is_some told) (and_parts (has_mst past) (nat_le 1 (phase_in past) && is_some told) took).1).1;
    }

-- THE RING. What arrives of a cycle in which nothing is unseen.
module _ (spells : SpelledNext) (r : RingView) (jobs : List Job) (carry : Carry) (restarts : Restarts) (opened : IsOpened r jobs) where
  module _ (t : CycleView) (j : List CycleView) (next : IsNext r jobs carry restarts t j) (clear : t.unseen ≡ 0) (k : ℕ) (below : k < length r.drives) where
    spelled : IsSpelled r jobs carry restarts t j
    spelled = spells r jobs carry restarts t j opened.valid opened.typed opened.jobs_typed next

    counts : sum_below (length r.drives) (unseen_mst carry (length j) (mst_in t.sent)) + unseen_at carry (passage (length j) Kind.Mst 0 0) (mst_in t.sent) + unseen_ats r carry (length j) (ats_in t.sent)
        + sum_below (length r.drives) (unseen_mdt carry (length j) (mdt_in t.sent)) ≡ 0
    counts = sym next.unseen ∙ clear

    low : (at_start r jobs carry restarts j).now.phase ≤ 4
    low = phase_low (known_of r) (tasks_for (known_of r) jobs) (begins r carry restarts j)

    mst_got_so : mst_got (heard carry (passage (length j) Kind.Mst 0 (k + 1)) (mst_in t.sent))
        ≡ (if is_some (mst_got (heard carry (passage (length j) Kind.Mst 0 (k + 1)) (mst_in t.sent))) then Some t.phase else None)
    mst_got_so =
        let c = counts in
        let none : unseen_at carry (passage (length j) Kind.Mst 0 (k + 1)) (mst_in t.sent) ≡ 0 = none_below (length r.drives) (unseen_mst carry (length j) (mst_in t.sent)) (omega (arith, c)) k below in
        form _ _ (mst_clear (at_start r jobs carry restarts j).now.phase _ low
        (subst (λ (l : List ℕ). (heard carry (passage (length j) Kind.Mst 0 (k + 1)) (mst_in t.sent) ≡ None) ⊎ (heard carry (passage (length j) Kind.Mst 0 (k + 1)) (mst_in t.sent) ≡ Some l)) (ap mst_in next.sent)
        (heard_whole carry _ (mst_in t.sent) spelled.mst none)))
      where
        form : (b : Bool) (o : Option ℕ) → o ≡ (if b then Some (at_start r jobs carry restarts j).now.phase else None)
            → o ≡ (if is_some o then Some t.phase else None)
        form true o is = rw (is, next.phase) refl
        form false o is = rw is refl

    mdt_so : (mdt : List ℕ) → mdt_in t.sent ≡ Some mdt
        → (heard carry (passage (length j) Kind.Mdt 0 (k + 1)) mdt ≡ None) ⊎ (heard carry (passage (length j) Kind.Mdt 0 (k + 1)) mdt ≡ Some mdt)
    mdt_so mdt is = by (mdt_said (known_of r) (behind_mdt r jobs carry restarts t.sent j)) refl (sym is ∙ ap mdt_in next.sent ∙ mdt_in-said r.rate (said_below (length r.drives) (drive_at r) r.rate (given_mst carry restarts t.sent j)) _)
      where
        none : unseen_at carry (passage (length j) Kind.Mdt 0 (k + 1)) mdt ≡ 0
        none =
            let c = counts in
            ap (λ (o : Option (List ℕ)). unseen_mdt carry (length j) o k) (sym is) ∙ none_below (length r.drives) (unseen_mdt carry (length j) (mdt_in t.sent)) (omega (arith, c)) k below

        by : (o : Option Sent) → mdt_said (known_of r) (behind_mdt r jobs carry restarts t.sent j) ≡ o → Some mdt ≡ content_of o
            → (heard carry (passage (length j) Kind.Mdt 0 (k + 1)) mdt ≡ None) ⊎ (heard carry (passage (length j) Kind.Mdt 0 (k + 1)) mdt ≡ Some mdt)
        by None said e = cc
        by (Some m) said e = let same : mdt ≡ m.content = cc in heard_whole carry (passage (length j) Kind.Mdt 0 (k + 1)) mdt (rw same (spelled.mdt m said)) none

  -- THE CYCLE BEFORE had an MDT with the address of the drive.
  record IsTold (address : ℕ) (j : List CycleView) : Type 0 where
    before : CycleView
    older : List CycleView
    follows : j ≡ before ∷ older
    mdt : List ℕ
    told : mdt_in before.sent ≡ Some mdt
    same : slice_index mdt 0 ≡ address

  told_by : (phase : ℕ) (j : List CycleView) → IsRun r jobs carry restarts j → IsClear j → (k : ℕ) → k < length r.drives → phase ≤ 2
      → phase_in (annals (drive_at r k) r.rate (given_before carry restarts j k)) ≤ phase
      → has_taken (annals (drive_at r k) r.rate (given_before carry restarts j k)) ≡ true → IsTold (drive_at r k).address j
  told_by phase [] run clear k below low near took = absurd (false≢true took)
  told_by phase (u ∷ j) run clear k below low near took = by (mdt_in u.sent) refl (is_taking (drive_at r k) r.rate (mdt_heard carry (length j) (k + 1) (mdt_in u.sent)) (given_mst carry restarts u.sent j k) took)
    where
      by : (o : Option (List ℕ)) → mdt_in u.sent ≡ o
          → IsTaking (drive_at r k) r.rate (mdt_heard carry (length j) (k + 1) o) (given_mst carry restarts u.sent j k)
          → IsTold (drive_at r k).address (u ∷ j)
      by None is takes = absurd (false≢true takes.got)
      by (Some mdt) is takes = which (mdt_so u j run.1 clear.1 k below mdt is)
        where
          which : (heard carry (passage (length j) Kind.Mdt 0 (k + 1)) mdt ≡ None) ⊎ (heard carry (passage (length j) Kind.Mdt 0 (k + 1)) mdt ≡ Some mdt)
              → IsTold (drive_at r k).address (u ∷ j)
          which (inl none) = absurd (false≢true (ap (λ (o : Option (List ℕ)). is_some (mdt_got (drive_at r k).address (phase_in (annals (drive_at r k) r.rate (given_mst carry restarts u.sent j k))) (blocks_in (drive_at r k) (annals (drive_at r k) r.rate (given_mst carry restarts u.sent j k))) o)) (sym none) ∙ takes.got))
          which (inr same) = record {
            before = u;
            older = j;
            follows = refl;
            mdt = mdt;
            told = is;
            same = addressed (drive_at r k).address (phase_in (annals (drive_at r k) r.rate (given_mst carry restarts u.sent j k)))
                (blocks_in (drive_at r k) (annals (drive_at r k) r.rate (given_mst carry restarts u.sent j k))) mdt
                (omega (
                  arith,
                  (sym (ap (λ (o : Option (List ℕ)). phase_in
                      (annals (drive_at r k) r.rate (Mdt (mdt_heard carry (length j) (k + 1) o) ∷ given_mst carry restarts u.sent j k))) is
                      ∙ takes.stays)),
                  near,
                  low,
                ))
                (ap (λ (o : Option (List ℕ)). is_some (mdt_got (drive_at r k).address (phase_in (annals (drive_at r k) r.rate (given_mst carry restarts u.sent j k))) (blocks_in (drive_at r k) (annals (drive_at r k) r.rate (given_mst carry restarts u.sent j k))) o)) (sym same) ∙ takes.got);
          }

  record IsAnswering (t : CycleView) (address : ℕ) (j : List CycleView) : Type 0 where
    up : 1 ≤ t.phase
    told : IsTold address j

  answering : (t : CycleView) (j : List CycleView) → IsRun r jobs carry restarts (t ∷ j) → IsClear (t ∷ j) → t.phase ≤ 2
      → (k : ℕ) (s : Said) → k < length r.drives
      → drive_says (drive_at r k) r.rate (given_mst carry restarts t.sent j k) ≡ Some s → IsAnswering t (drive_at r k).address j
  answering t j run clear low k s below says =
      elim (cases_Bool (sends (annals (drive_at r k) r.rate (given_mst carry restarts t.sent j k)))) [
        | inl sent ↦
            let sending = is_sending (drive_at r k) r.rate (length j) t.phase (heard carry (passage (length j) Kind.Mst 0 (k + 1)) (mst_in t.sent)) (with_restart (restarts (length j) (k + 1)) (given_before carry restarts j k)) low
            (mst_got_so t j run.1 clear.1 k below) sent in
            record {
              up = sending.up;
              told = (elim (cases_Bool (restarts (length j) (k + 1))) [
                | inl on ↦ absurd (false≢true (rw on at sending.took))
                | inr off ↦ told_by t.phase j run.0 clear.0 k below low (rw off at sending.near) (rw off at sending.took)
              ]);
            }
        | inr sent ↦ let is = rw sent at says in cc
      ]

  same_told : (address other : ℕ) (j : List CycleView) → IsTold address j → IsTold other j → address ≡ other
  same_told address other j one two =
      let cycles : one.before ∷ one.older ≡ two.before ∷ two.older = sym one.follows ∙ two.follows in
      let same : one.before ≡ two.before = cc in
      let mdts : Some one.mdt ≡ Some two.mdt = sym one.told ∙ ap (λ (c : CycleView). mdt_in c.sent) same ∙ two.told in
      let is : one.mdt ≡ two.mdt = cc in sym one.same ∙ ap (λ (m : List ℕ). slice_index m 0) is ∙ two.same

pub sends_alone : SpelledNext → SendsAlone
sends_alone spells r jobs carry restarts t j opened run clear low =
    let ats_are = ap ats_in run.1.sent ∙ ats_in-said r.rate _ (mdt_said (known_of r) (behind_mdt r jobs carry restarts t.sent j)) in
    elim (one_said (length r.drives) (drive_at r) r.rate (given_mst carry restarts t.sent j) one) [
      | inl none ↦ inl (ats_are ∙ ap contents none)
      | inr is ↦
          let answer = answering spells r jobs carry restarts opened t j run clear low is.place is.says is.inside is.is in
          let told = answer.told in
          inr (record {
            phase = answer.up;
            at = is.says.content;
            one = ats_are ∙ ap contents is.alone;
            before = told.before;
            older = told.older;
            follows = told.follows;
            mdt = told.mdt;
            told = told.told;
            same = told.same ∙ sym (said_address (drive_at r is.place) r.rate (given_mst carry restarts t.sent j is.place) is.says is.is);
          })
    ]
  where
    one : AreOne (length r.drives) (drive_at r) r.rate (given_mst carry restarts t.sent j)
    one i k s u low_i low_k says tells = same_drive r i k opened.valid low_i low_k (same_told spells r jobs carry restarts opened (drive_at r i).address (drive_at r k).address j
        (answering spells r jobs carry restarts opened t j run clear low i s low_i says).told (answering spells r jobs carry restarts opened t j run clear low k u low_k tells).told)
