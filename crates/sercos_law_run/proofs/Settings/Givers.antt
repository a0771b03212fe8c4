-- Which request the newest write of a log belongs to. In phase 2 only the check for phase 3 gives anything to S-0-0127.
use Rattle.sercos_law_run.proofs.Words.{◌≡◌, ℕ, zero, suc, ◌+◌, ◌<◌, ◌≤◌, Bool, true, false, not, List, [], ◌∷◌, ◌++◌, map, drop, length, refl, sym, ap, ◌∙◌, subst, arith, ◌==◌, Option, Some, None, slice_get, list_all, and_parts, eq-eqb, not-true, false≢true, Idn, Request, PlanView, Block, Entry, Write, Begun, answers_it, answer_in, with_answer, Heard, with_heard, Given, given_of, given_by, AreWrites, Complete, Refused, Broken, AreExact, Known, Task, member, idn, reads, reads_count, writes, outcomes_in, AreWaiting, IsTask, OfReads, OfWrites, Checks3, Lists3, Checks4, Lists4, OfWaiting, IsBegunTask, AreBegunTasks, start_numbers, cases_Bool, inl, inr, nat_lt, ltb-true, Outcome, map-append}
use Rattle.sercos_law_run.proofs.Agenda.WritesDone.{raw_of, number_at, DataWrite, all_data_writes, write_away}
use Rattle.sercos_law_run.proofs.Held.Agreed.{all_at}
use Rattle.std.proofs.lemmas.List.Folds.{list_all-append}

-- all of these go to other identifier numbers
abbrev pub are_away : ℕ → List Given → Bool
are_away raw given = list_all (λ (g : Given). not (g.raw == raw)) given

-- If all that requests give passes a test, so does all that they wrote.
module _ (p : Given → Bool) (blocks : List Block) where
  drop_all : (n : ℕ) (given : List Given) → list_all p given ≡ true → list_all p (drop n given) ≡ true
  drop_all zero given all = all
  drop_all (suc n) [] all = refl
  drop_all (suc n) (g ∷ given) all = drop_all n given (and_parts (p g) _ all).1

  own_all : (b : Begun) (own : List Write) → AreWrites blocks b own → list_all p (given_by blocks b.request) ≡ true
      → list_all p (map given_of own) ≡ true
  own_all b own (Complete bytes is has same) all = ap (list_all p) same ∙ all
  own_all b own (Refused code is none) all = ap (λ (l : List Write). list_all p (map given_of l)) none
  own_all b own (Broken later is same) all = ap (list_all p) same ∙ drop_all later (given_by blocks b.request) all

  pub exact_all : (Give : List Begun → Type 0)
      → ((b : Begun) (past : List Begun) → Give (b ∷ past) → Give past × (list_all p (given_by blocks b.request) ≡ true))
      → (begun : List Begun) (entries : List Entry) (writes : List Write) → AreExact blocks begun entries writes → Give begun
      → list_all p (map given_of writes) ≡ true
  exact_all Give step [] entries writes exact give = ap (λ (l : List Write). list_all p (map given_of l)) exact.1
  exact_all Give step (b ∷ past) entries writes (part, rest, own, others, of_entries, of_writes, is, behind) give =
      let (more, here) = step b past give in
      let joined = map-append given_of own others in
      rw (of_writes, joined, list_all-append p (map given_of own) (map given_of others), own_all b own is.writes here)
      (exact_all Give step past rest others behind more)

gives_one : (blocks : List Block) (b : Begun) (w : Write) (own : List Write) → AreWrites blocks b (w ∷ own) → are_away w.raw (given_by blocks b.request) ≡ true → ⊥
gives_one blocks b w own writes all = false≢true (sym
    (not-true (w.raw == w.raw) (and_parts (not (w.raw == w.raw)) _
    (own_all (λ (g : Given). not (g.raw == w.raw)) blocks b (w ∷ own) writes all)).0) ∙ eq-eqb w.raw w.raw refl)

-- one of these requests gives something to the identifier number
pub record IsGiven (blocks : List Block) (begun : List Begun) (raw : ℕ) : Type 0 where
  pub newer : List Begun
  pub one : Begun
  pub older : List Begun
  pub split : begun ≡ newer ++ one ∷ older
  pub gives : are_away raw (given_by blocks one.request) ≡ true → ⊥

given_more : (blocks : List Block) (b : Begun) (begun : List Begun) (raw : ℕ) → IsGiven blocks begun raw → IsGiven blocks (b ∷ begun) raw
given_more blocks b begun raw is = record { newer = b ∷ is.newer; one = is.one; older = is.older; split = ap (λ (l : List Begun). b ∷ l) is.split; gives = is.gives }

-- the newest write
pub gives_newest : (blocks : List Block) (begun : List Begun) (entries : List Entry) (w : Write) (writes : List Write) → AreExact blocks begun entries (w ∷ writes) → IsGiven blocks begun w.raw
gives_newest blocks [] entries w writes (none, no_writes) = absurd (cc)
gives_newest blocks (b ∷ past) entries w writes (part, rest, own, others, of_entries, of_writes, is, behind) = by own of_writes is.writes (λ same. gives_newest blocks past rest w writes (subst (AreExact blocks past rest) (sym same) behind))
  where
    by : (o : List Write) → w ∷ writes ≡ o ++ others → AreWrites blocks b o → (w ∷ writes ≡ others → IsGiven blocks past w.raw) → IsGiven blocks (b ∷ past) w.raw
    by [] same are more = given_more blocks b past w.raw (more same)
    by (x ∷ o) same are more =
        let one : x ≡ w = cc in
        record { newer = []; one = b; older = past; split = refl; gives = gives_one blocks b w o (subst (λ (y : Write). AreWrites blocks b (y ∷ o)) one are) }

-- an answer more to the newest request changes no request
pub given_heard : (blocks : List Block) (o : Option Heard) (begun : List Begun) (raw : ℕ) → IsGiven blocks (with_heard o begun) raw → IsGiven blocks begun raw
given_heard blocks None begun raw is = is
given_heard blocks (Some a) begun raw is =
    elim (cases_Bool (answers_it begun a.status)) [ inl on ↦ answered begun (rw on at is) | inr off ↦ (rw off at is) ]
  where
    answered : (l : List Begun) → IsGiven blocks (with_answer (answer_in a.status a.word) l) raw → IsGiven blocks l raw
    answered [] is = is
    answered (b ∷ past) is = which is.newer is.one is.older is.split is.gives
      where
        which : (newer : List Begun) (one : Begun) (older : List Begun) → (record b { answers = answer_in a.status a.word ∷ b.answers }) ∷ past ≡ newer ++ one ∷ older → (are_away raw (given_by blocks one.request) ≡ true → ⊥) → IsGiven blocks (b ∷ past) raw
        which [] one older split gives =
            let first : (record b { answers = answer_in a.status a.word ∷ b.answers }) ≡ one = cc in
            record { newer = []; one = b; older = past; split = refl; gives = subst (λ (x : Begun). are_away raw (given_by blocks x.request) ≡ true → ⊥) (sym first) gives }
        which (x ∷ newer) one older split gives = let rest : past ≡ newer ++ one ∷ older = cc in given_more blocks b past raw (record { newer = newer; one = one; older = older; split = rest; gives = gives })

-- THE CHECK FOR PHASE 3. The first tasks are reads.
abbrev pub is_reading : Request → Bool
is_reading (Request.Read i e) = true
is_reading (Request.Write i e bytes) = false
is_reading (Request.Command i) = false

pub attributes_read : (idns : List Idn) → list_all is_reading (map (λ i. Request.Read i 3) idns) ≡ true
attributes_read [] = refl
attributes_read (i ∷ idns) = attributes_read idns

pub reading_away : (blocks : List Block) (raw : ℕ) (r : Request) → is_reading r ≡ true → are_away raw (given_by blocks r) ≡ true
reading_away blocks raw (Request.Read i e) is = refl
reading_away blocks raw (Request.Write i e bytes) is = absurd (cc)
reading_away blocks raw (Request.Command i) is = absurd (cc)

-- WHERE A TASK GIVES to a number that isn't of the start-up's writes: nowhere, or it is a check, or it waits.
pub data Gives (s : Known) (k raw : ℕ) (blocks : List Block) (outs : List Outcome) (t : Task) : Type 0 where
  Away : are_away raw (given_by blocks t.request) ≡ true → Gives s k raw blocks outs t
  AtCheck3 : length outs ≡ reads_count (member s k) + 11 → t.request ≡ Request.Command (idn 127) → Gives s k raw blocks outs t
  AtCheck4 : reads_count (member s k) + 12 ≤ length outs → 3 ≤ t.phase → Gives s k raw blocks outs t

pub gives_so : (s : Known) (k raw : ℕ) (blocks : List Block) (plan : Option PlanView) (waiting : List Task) (outs : List Outcome) (t : Task)
    → 127 ≤ raw → AreWaiting waiting → IsTask s k plan waiting outs t → Gives s k raw blocks outs t
gives_so s k raw blocks plan waiting outs t large waits (OfReads r less got same) = Away (rw same (reading_away blocks raw r
    (all_at is_reading (reads (member s k)) (length outs) r (attributes_read ((member s k).at ++ (member s k).mdt)) got)))
gives_so s k raw blocks plan waiting outs t large waits (OfWrites p i r planned less at got same) = elim (all_data_writes s p k i r got) [
  | DataWrite w bytes is ↦
      let number : slice_get start_numbers i ≡ Some w.raw = number_at s p k i r got ∙ ap (λ (x : Request). Some (raw_of x)) is in
      let small = ltb-true w.raw 127 (all_at (λ (n : ℕ). nat_lt n 127) start_numbers i w.raw refl number) in
      Away (rw (same, is) (write_away blocks raw w bytes (λ e. omega (arith, e, small, large))))
]
gives_so s k raw blocks plan waiting outs t large waits (Checks3 p planned at same) = AtCheck3 at (ap (λ (x : Task). x.request) same)
gives_so s k raw blocks plan waiting outs t large waits (Lists3 at failed same) = Away (rw same refl)
gives_so s k raw blocks plan waiting outs t large waits (Checks4 at checked same) =
    AtCheck4 (omega (arith, at)) (omega (arith, ap (λ (x : Task). x.phase) same))
gives_so s k raw blocks plan waiting outs t large waits (Lists4 at failed same) = Away (rw same refl)
gives_so s k raw blocks plan waiting outs t large waits (OfWaiting j at ready got) =
    AtCheck4 (omega (arith, at)) (omega (arith, waits j t got))

module _ (s : Known) (k : ℕ) (blocks : List Block) (plan : Option PlanView) (waiting : List Task) (phase : ℕ) (low : phase ≤ 2) (waits : AreWaiting waiting) where
  is_check : (b : Begun) (t : Task) (older : List Begun) (tasks : List Task) → IsBegunTask s k plan waiting phase b t older tasks → (are_away 127 (given_by blocks b.request) ≡ true → ⊥) → length older ≡ reads_count (member s k) + 11
  is_check b t older tasks begun gives =
      elim (gives_so s k 127 blocks begun.by_then waiting (outcomes_in older) t (omega arith) waits begun.task) [
        | Away all ↦ absurd (gives (ap (λ (x : Request). are_away 127 (given_by blocks x)) begun.asks ∙ all))
        | AtCheck3 at is ↦ sym begun.ended ∙ at
        | AtCheck4 long late ↦ absurd (omega (arith, late, begun.early, low))
      ]

  begun_by_split : (newer : List Begun) (one : Begun) (older : List Begun) (tasks : List Task) → AreBegunTasks s k plan waiting phase (newer ++ one ∷ older) tasks → (are_away 127 (given_by blocks one.request) ≡ true → ⊥) → reads_count (member s k) + 11 < length (newer ++ one ∷ older)
  begun_by_split [] one older [] are gives = absurd are
  begun_by_split [] one older (t ∷ tasks) are gives = omega (arith, is_check one t older tasks are.1 gives)
  begun_by_split (x ∷ newer) one older [] are gives = absurd are
  begun_by_split (x ∷ newer) one older (t ∷ tasks) are gives = omega (arith, begun_by_split newer one older tasks are.0 gives)

  -- if a request gives something to S-0-0127, the check has been begun
  pub check_begun : (begun : List Begun) (tasks : List Task) → AreBegunTasks s k plan waiting phase begun tasks → IsGiven blocks begun 127 → reads_count (member s k) + 11 < length begun
  check_begun begun tasks are is =
      subst (λ (l : List Begun). reads_count (member s k) + 11 < length l) (sym is.split)
      (begun_by_split is.newer is.one is.older tasks (subst (λ (l : List Begun). AreBegunTasks s k plan waiting phase l tasks) is.split are) is.gives)
