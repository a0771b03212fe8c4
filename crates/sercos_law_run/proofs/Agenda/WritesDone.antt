-- From where the check for phase 3 has been begun, each write of the plan is complete, and nothing that was begun after it gives
-- anything to its identifier number.
use Rattle.sercos_law_run.proofs.Words.{◌≡◌, ◌⊎◌, inl, inr, ℕ, zero, suc, ◌+◌, ◌<◌, ◌≤◌, Bool, true, not, ◌&&◌, List, [], ◌∷◌, length, refl, sym, ap, ap₂, ◌∙◌, subst, arith, ◌==◌, nat_lt, Option, Some, None, option_map, slice_get, list_all, slice_get_within, and_parts, eqb-true, cases_eq, ltb-true, Idn, Request, PlanView, Block, find_block, begun_by, Begun, Given, given_by, ended_there, get_map, Known, Task, member, startup, idn, reads_count, writes, is_checked, outcomes_in, AreWaiting, not_longer, all_waiting, past, IsConfigured, WritesData, ConfiguresFromCheck, ConfiguresAtRise, start_numbers, IsWrittenLast, IsTask, OfReads, OfWrites, Checks3, Lists3, Checks4, Lists4, OfWaiting, IsBegunTask, AreBegunTasks, cases_Bool, cases_Option, each_at}
use Rattle.sercos_law_run.proofs.Agenda.TaskRuns.{begun_tasks}

-- The identifier numbers of the writes ascend, and all are below 127.

abbrev pub raw_of : Request → ℕ
raw_of (Request.Read i e) = i.raw
raw_of (Request.Write i e bytes) = i.raw
raw_of (Request.Command i) = i.raw

abbrev ascends : ℕ → List ℕ → Bool
ascends n [] = true
ascends n (x ∷ xs) = nat_lt n x && ascends x xs

above : (n : ℕ) (xs : List ℕ) (j x : ℕ) → ascends n xs ≡ true → slice_get xs j ≡ Some x → n < x
above n [] j x up got = absurd (cc)
above n (y ∷ xs) zero x up got = let same : y ≡ x = cc in let less = ltb-true n y (and_parts (nat_lt n y) (ascends y xs) up).0 in omega arith
above n (y ∷ xs) (suc j) x up got =
    let parts = and_parts (nat_lt n y) (ascends y xs) up in
    let less = ltb-true n y parts.0 in let more = above y xs j x parts.1 got in omega arith

in_order : (n : ℕ) (xs : List ℕ) (i j x y : ℕ) → ascends n xs ≡ true → slice_get xs i ≡ Some x → slice_get xs j ≡ Some y → i < j → x < y
in_order n [] i j x y up got other less = absurd (cc)
in_order n (z ∷ xs) zero zero x y up got other less = absurd (omega arith)
in_order n (z ∷ xs) zero (suc j) x y up got other less = let same : z ≡ x = cc in let more = above z xs j y (and_parts (nat_lt n z) (ascends z xs) up).1 other in omega arith
in_order n (z ∷ xs) (suc i) zero x y up got other less = absurd (omega arith)
in_order n (z ∷ xs) (suc i) (suc j) x y up got other less = in_order z xs i j x y (and_parts (nat_lt n z) (ascends z xs) up).1 got other (omega arith)

pub number_at : (s : Known) (p : PlanView) (k i : ℕ) (r : Request) → slice_get (writes s p k) i ≡ Some r → slice_get start_numbers i ≡ Some (raw_of r)
number_at s p k i r got = get_map raw_of (writes s p k) i ∙ ap (option_map raw_of) got

-- a write of the plan is one of operation data
pub data IsDataWrite (r : Request) : Type 0 where
  DataWrite : (i : Idn) → (bytes : List ℕ) → r ≡ Request.Write i 7 bytes → IsDataWrite r

abbrev AreDataWrites : List Request → Type 0
AreDataWrites [] = Unit {0}
AreDataWrites (r ∷ requests) = IsDataWrite r × AreDataWrites requests

data_write : (requests : List Request) (i : ℕ) (r : Request) → AreDataWrites requests → slice_get requests i ≡ Some r → IsDataWrite r
data_write [] i r are got = absurd (cc)
data_write (x ∷ requests) zero r are got = let same : x ≡ r = cc in subst (λ (y : Request). IsDataWrite y) same are.0
data_write (x ∷ requests) (suc i) r are got = data_write requests i r are.1 got

pub all_data_writes : (s : Known) (p : PlanView) (k i : ℕ) (r : Request) → slice_get (writes s p k) i ≡ Some r → IsDataWrite r
all_data_writes s p k i r got = data_write (writes s p k) i r (DataWrite _ _ refl, (DataWrite _ _ refl, (DataWrite _ _ refl, (DataWrite _ _ refl, (DataWrite _ _ refl, (DataWrite _ _ refl, (DataWrite _ _ refl, (DataWrite _ _ refl, (DataWrite _ _ refl, (DataWrite _ _ refl, (DataWrite _ _ refl, tt))))))))))) got

-- what gives to another identifier number
other_number : (n raw : ℕ) → (n ≡ raw → ⊥) → not (n == raw) ≡ true
other_number n raw other = elim (cases_Bool (n == raw)) [ inl is ↦ absurd (other (eqb-true n raw is)) | inr is ↦ rw is ]

pub write_away : (blocks : List Block) (raw : ℕ) (i : Idn) (bytes : List ℕ) → (i.raw ≡ raw → ⊥) → list_all (λ (g : Given). not (g.raw == raw)) (given_by blocks (Request.Write i 7 bytes)) ≡ true
write_away blocks raw i bytes other = elim (cases_Option (find_block i.raw blocks)) [
  | inl none ↦ rw none
  | inr (b, some) ↦ rw some (ap (λ (v : Bool). v && true) (other_number i.raw raw other))
]

module _ (s : Known) (k : ℕ) (blocks : List Block) (plan : Option PlanView) (waiting : List Task) (phase : ℕ) (early : phase ≤ 3) (are_waiting : AreWaiting waiting) where
  same_plan : (pl p : PlanView) (by_then : Option PlanView) → plan ≡ Some pl → (by_then ≡ None) ⊎ (by_then ≡ plan) → by_then ≡ Some p → p ≡ pl
  same_plan pl p by_then has (inl none) is = absurd (cc)
  same_plan pl p by_then has (inr same) is = cc

  -- a task of phases 2 and 3 after the write of number i gives elsewhere
  away : (pl : PlanView) (i : ℕ) (w : Idn) (bytes : List ℕ) (b : Begun) (t : Task) (older : List Begun) (tasks : List Task) → plan ≡ Some pl → slice_get (writes s pl k) i ≡ Some (Request.Write w 7 bytes) → reads_count (member s k) + i < length older →
      IsBegunTask s k plan waiting phase b t older tasks → list_all (λ (g : Given). not (g.raw == w.raw)) (given_by blocks b.request) ≡ true
  away pl i w bytes b t older tasks has is later task =
      let small = ltb-true w.raw 127 (each_at (λ (n : ℕ). nat_lt n 127) start_numbers i w.raw refl
      (number_at s pl k i (Request.Write w 7 bytes) is)) in
      ap (λ (r : Request). list_all (λ (g : Given). not (g.raw == w.raw)) (given_by blocks r)) task.asks ∙ elim task.task [
        | OfReads r less got same ↦ let e = task.ended in absurd (omega arith)
        | OfWrites p j r planned less at got same ↦
            let e = task.ended in
            let plans = same_plan pl p task.by_then has task.same planned in
            let got_here : slice_get (writes s pl k) j ≡ Some r = ap (λ (x : PlanView). slice_get (writes s x k) j) (sym plans) ∙ got in
            let up : w.raw < raw_of r = in_order 0 start_numbers i j w.raw (raw_of r) refl (number_at s pl k i (Request.Write w 7 bytes) is) (number_at s pl k j r got_here) (omega arith) in
            elim (all_data_writes s pl k j r got_here) [
              | DataWrite v other_bytes form ↦
                  let less : w.raw < v.raw = subst (λ (y : Request). w.raw < raw_of y) form up in
                  ap (λ (y : Request). list_all (λ (g : Given). not (g.raw == w.raw)) (given_by blocks y))
                  (ap (λ (x : Task). x.request) same ∙ form) ∙ write_away blocks w.raw v other_bytes (λ e. omega arith)
            ]
        | Checks3 p planned at same ↦ commands 2 127 same (λ e. omega (arith, small, e))
        | Lists3 at failed same ↦ reads_nothing 2 (idn 21) same
        | Checks4 at checked same ↦ commands 3 128 same (λ e. omega (arith, small, e))
        | Lists4 at failed same ↦ reads_nothing 3 (idn 22) same
        | OfWaiting j at ready got ↦ absurd (omega (arith, task.early, are_waiting j t got, early))
      ]
    where
      reads_nothing : (n : ℕ) (j : Idn) → t ≡ startup n (Request.Read j 7) → list_all (λ (g : Given). not (g.raw == w.raw)) (given_by blocks t.request) ≡ true
      reads_nothing n j same = ap (λ (x : Task). list_all (λ (g : Given). not (g.raw == w.raw)) (given_by blocks x.request)) same

      commands : (phase n : ℕ) → t ≡ startup phase (Request.Command (idn n)) → (n ≡ w.raw → ⊥) → list_all (λ (g : Given). not (g.raw == w.raw)) (given_by blocks t.request) ≡ true
      commands phase n same other = ap (λ (x : Task). list_all (λ (g : Given). not (g.raw == w.raw)) (given_by blocks x.request)) same
          ∙ ap (λ (v : Bool). v && (v && true)) (other_number n w.raw other)

  -- the task of that number is that write
  is_write : (pl : PlanView) (i : ℕ) (r : Request) (b : Begun) (t : Task) (older : List Begun) (tasks : List Task) → plan ≡ Some pl → slice_get (writes s pl k) i ≡ Some r → i < 11 → length older ≡ reads_count (member s k) + i →
      IsBegunTask s k plan waiting phase b t older tasks → (b.request ≡ r) × (t.number ≡ None)
  is_write pl i r b t older tasks has is low at task = let so = by task.task in (task.asks ∙ so.0, so.1)
    where
      by : IsTask s k task.by_then waiting (outcomes_in older) t → (t.request ≡ r) × (t.number ≡ None)
      by (OfReads x less got same) = let e = task.ended in absurd (omega arith)
      by (OfWrites p j x planned less at_j got same) =
          let e = task.ended in
          let plans = same_plan pl p task.by_then has task.same planned in
          let number : j ≡ i = omega arith in
          let got_here : slice_get (writes s pl k) i ≡ Some x = ap₂ (λ (y : PlanView) (n : ℕ). slice_get (writes s y k) n) (sym plans) (sym number) ∙ got in
          let one : x ≡ r = cc in (ap (λ (y : Task). y.request) same ∙ one, ap (λ (y : Task). y.number) same)
      by (Checks3 p planned at_j same) = let e = task.ended in absurd (omega arith)
      by (Lists3 at_j failed same) = let e = task.ended in absurd (omega arith)
      by (Checks4 at_j checked same) = let e = task.ended in absurd (omega arith)
      by (Lists4 at_j failed same) = let e = task.ended in absurd (omega arith)
      by (OfWaiting j at_j ready got) = let e = task.ended in absurd (omega arith)

  module _ (pl : PlanView) (has : plan ≡ Some pl) (i : ℕ) (low : i < 11) (w : Idn) (bytes : List ℕ) (is : slice_get (writes s pl k) i ≡ Some (Request.Write w 7 bytes)) where
    newer_more : (x : Begun) (begun : List Begun) → list_all (λ (g : Given). not (g.raw == w.raw)) (given_by blocks x.request) ≡ true → IsWrittenLast blocks begun w bytes → IsWrittenLast blocks (x ∷ begun) w bytes
    newer_more x begun elsewhere found = record {
      newer = x ∷ found.newer;
      one = found.one;
      older = found.older;
      split = ap (λ (l : List Begun). x ∷ l) found.split;
      asks = found.asks;
      whole = found.whole;
      complete = found.complete;
      away = (found.away, elsewhere);
    }

    -- the write, where something was begun after it
    pub written : (x : Begun) (begun : List Begun) (t : Task) (tasks : List Task) → AreBegunTasks s k plan waiting phase (x ∷ begun) (t ∷ tasks) → reads_count (member s k) + i < length begun → IsWrittenLast blocks (x ∷ begun) w bytes
    written x [] t tasks are later = absurd (omega arith)
    written x (b ∷ older) t [] are later = absurd are.0
    written x (b ∷ older) t (u ∷ tasks) are later =
        let elsewhere = away pl i w bytes x t (b ∷ older) (u ∷ tasks) has is later are.1 in
        elim (cases_eq (length older) (reads_count (member s k) + i)) [
          | inl at ↦
              let so = is_write pl i (Request.Write w 7 bytes) b u older tasks has is low at are.0.1 in
              let well = are.1.well so.1 in record {
                newer = x ∷ [];
                one = b;
                older = older;
                split = refl;
                asks = so.0;
                whole = well.0;
                complete = well.1;
                away = (tt, elsewhere);
              }
          | inr other ↦ newer_more x (b ∷ older) elsewhere (written b older u tasks are.0 (omega arith))
        ]

  -- where the check for phase 3 has been begun there is a plan
  has_plan : (begun : List Begun) (tasks : List Task) → AreBegunTasks s k plan waiting phase begun tasks → reads_count (member s k) + 11 < length begun → (pl : PlanView) × (plan ≡ Some pl)
  has_plan [] tasks are many = absurd (omega arith)
  has_plan (b ∷ older) [] are many = absurd are
  has_plan (b ∷ older) (t ∷ tasks) are many = elim (cases_eq (length older) (reads_count (member s k) + 11)) [
    | inl at ↦ planned_by at are.1.task
    | inr other ↦ has_plan older tasks are.0 (omega arith)
  ]
    where
      some : (o : Option PlanView) (p : PlanView) → (o ≡ None) ⊎ (o ≡ plan) → o ≡ Some p → (pl : PlanView) × (plan ≡ Some pl)
      some o p (inl none) planned = absurd (cc)
      some o p (inr same) planned = (p, sym same ∙ planned)

      planned_by : length older ≡ reads_count (member s k) + 11 → IsTask s k are.1.by_then waiting (outcomes_in older) t → (pl : PlanView) × (plan ≡ Some pl)
      planned_by at (OfReads x less got same) = let e = are.1.ended in absurd (omega arith)
      planned_by at (OfWrites p j x planned less at_j got same) = let e = are.1.ended in absurd (omega arith)
      planned_by at (Checks3 p planned at_j same) = some are.1.by_then p are.1.same planned
      planned_by at (Lists3 at_j failed same) = let e = are.1.ended in absurd (omega arith)
      planned_by at (Checks4 at_j checked same) = let e = are.1.ended in absurd (omega arith)
      planned_by at (Lists4 at_j failed same) = let e = are.1.ended in absurd (omega arith)
      planned_by at (OfWaiting j at_j ready got) = let e = are.1.ended in absurd (omega arith)

  pub check_configured : (begun : List Begun) (tasks : List Task) → AreBegunTasks s k plan waiting phase begun tasks → reads_count (member s k) + 11 < length begun → IsConfigured s k blocks plan begun
  check_configured [] tasks are many = absurd (omega arith)
  check_configured (b ∷ older) [] are many = absurd are
  check_configured (b ∷ older) (t ∷ tasks) are many =
      let plans = has_plan (b ∷ older) (t ∷ tasks) are many in record {
        plan = plans.0;
        plan_is = plans.1;
        each = λ i w bytes is. let low : i < 11 = slice_get_within (writes s plans.0 k) i (Request.Write w 7 bytes) is in written plans.0 plans.1 i low w bytes is b older t tasks are (omega (arith, many, low));
      }

  -- as it has where that check has ended well
  pub rise_configured : (begun : List Begun) (tasks : List Task) → AreBegunTasks s k plan waiting phase begun tasks → is_checked (member s k) (outcomes_in begun) ≡ true → IsConfigured s k blocks plan begun
  rise_configured begun tasks are checked =
      let few = not_longer begun in
      check_configured begun tasks are (omega (arith, ended_there (outcomes_in begun) (reads_count (member s k) + 11) checked, few))

pub some_at : {A : Type 0} (xs : List A) (j : ℕ) → j < length xs → (x : A) × (slice_get xs j ≡ Some x)
some_at [] j less = absurd (omega (arith, less))
some_at (x ∷ xs) zero less = (x, refl)
some_at (x ∷ xs) (suc j) less = some_at xs j (omega (arith, less))

-- The laws.
pub writes_data : WritesData
writes_data s plan k i low = by (some_at (writes s plan k) i low)
  where
    by : (r : Request) × (slice_get (writes s plan k) i ≡ Some r) → (idn : Idn) × (bytes : List ℕ) × (slice_get (writes s plan k) i ≡ Some (Request.Write idn 7 bytes)) × (slice_get start_numbers i ≡ Some idn.raw)
    by (r, got) = elim (all_data_writes s plan k i r got) [
      | DataWrite v bytes form ↦ (v, bytes, got ∙ ap (λ (x : Request). Some x) form, number_at s plan k i r got ∙ ap (λ (x : Request). Some (raw_of x)) form)
    ]

pub configures_from_check : ConfiguresFromCheck
configures_from_check s requests h k blocks wait there early many =
    let p = past s requests h in
    check_configured s k blocks p.plan (p.waiting k) p.now.phase early (all_waiting s requests h wait k) (begun_by (p.calls k)) (p.tasks k) (begun_tasks s k there requests h) many

pub configures_at_rise : ConfiguresAtRise
configures_at_rise s requests h k blocks wait there early checked =
    let p = past s requests h in
    rise_configured s k blocks p.plan (p.waiting k) p.now.phase early (all_waiting s requests h wait k) (begun_by (p.calls k)) (p.tasks k) (begun_tasks s k there requests h) checked
