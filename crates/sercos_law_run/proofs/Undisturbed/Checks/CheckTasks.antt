-- Where a check has ended well and nothing of the next phase was begun, its command is the newest request of the channel, and no request
-- before it gives anything to its number. Requests and tasks have their newest item first, outcomes their oldest.
use Rattle.sercos_law_run.proofs.Words.{◌≡◌, inl, inr, ℕ, ◌+◌, ◌<◌, ◌≤◌, Bool, true, false, not, ◌&&◌, List, [], ◌∷◌, length, Option, Some, None, refl, sym, ap, ap₂, ◌∙◌, arith, ◌==◌, option_map, unwrap_or, cases_eq, and_parts, ne_eqb, false≢true, Request, Outcome, outcome_of, PlanView, Block, Begun, Known, Task, member, bytes_of, given, ended_well, idn, reads_count, is_checked, is_ready, with_outcome, outcomes_in, AreWaiting, ended_there, get_right, before_end, behind_end, not_longer, given_by, GiveElsewhere, OfReads, OfWrites, Checks3, Lists3, Checks4, Lists4, OfWaiting, IsBegunTask, AreBegunTasks}
use Rattle.sercos_law_run.proofs.Settings.Givers.{are_away, Away, AtCheck3, AtCheck4, gives_so}
use Rattle.sercos_law_run.proofs.Settings.NoCheck127.{is_127}
use Rattle.sercos_law_run.proofs.Agenda.AgendaTasks.{late_waits, task_phase}

-- The newest request is that command, which is complete and has ended well; those before it give nothing to its number.
pub record IsCheckNewest (blocks : List Block) (raw : ℕ) (begun : List Begun) : Type 0 where
  pub one : Begun
  pub older : List Begun
  pub split : begun ≡ one ∷ older
  pub asks : one.request ≡ Request.Command (idn raw)
  pub bytes : List ℕ
  pub complete : outcome_of one.request one.answers ≡ Some (Outcome.Complete bytes)
  pub well : ended_well bytes ≡ true
  pub away : GiveElsewhere raw blocks older

-- an outcome that has ended well is complete
well_complete : (o : Outcome) → ended_well (bytes_of o) ≡ true → (bytes : List ℕ) × (o ≡ Outcome.Complete bytes) × (ended_well bytes ≡ true)
well_complete (Outcome.Complete bytes) well = (bytes, refl, well)
well_complete (Outcome.Refused code) well = absurd (false≢true well)
well_complete Outcome.Broken well = absurd (false≢true well)

newest_well : (o : Option Outcome) (outcomes : List Outcome) → ended_well (given (with_outcome o outcomes) (length outcomes)) ≡ true → (bytes : List ℕ) × (o ≡ Some (Outcome.Complete bytes)) × (ended_well bytes ≡ true)
newest_well None outcomes well = absurd (false≢true (sym (ap ended_well (behind_end outcomes (length outcomes) (omega arith))) ∙ well))
newest_well (Some o) outcomes well =
    let one = well_complete o (sym (ap ended_well (ap (λ (x : Option Outcome). unwrap_or (option_map bytes_of x) [])
    (get_right outcomes (o ∷ []) (length outcomes) 0 (omega arith)))) ∙ well) in
    (one.0, ap (λ (x : Outcome). Some x) one.1, one.2)

-- what the last outcome doesn't change
given_before : (o : Option Outcome) (outcomes : List Outcome) (i : ℕ) → i < length outcomes → given (with_outcome o outcomes) i ≡ given outcomes i
given_before None outcomes i less = refl
given_before (Some o) outcomes i less = before_end outcomes o i (λ e. omega (arith, e, less))

module _ (s : Known) (k : ℕ) (blocks : List Block) (plan : Option PlanView) (waiting : List Task) (phase : ℕ) (waits : AreWaiting waiting) where
  -- a task before number m gives elsewhere
  gives_elsewhere : (raw m : ℕ) → 127 ≤ raw → m ≤ 12 → (11 < m → 127 ≡ raw → ⊥) → (b : Begun) (t : Task) (older : List Begun) (tasks : List Task) → length older < reads_count (member s k) + m
      → IsBegunTask s k plan waiting phase b t older tasks → are_away raw (given_by blocks b.request) ≡ true
  gives_elsewhere raw m large few other b t older tasks less begun =
      elim (gives_so s k raw blocks begun.by_then waiting (outcomes_in older) t large waits begun.task) [
        | Away all ↦ ap (λ (r : Request). are_away raw (given_by blocks r)) begun.asks ∙ all
        | AtCheck3 at is ↦
            let off : (127 == raw) ≡ false = ne_eqb 127 raw (other (omega (arith, at, less, begun.ended))) in
            ap (λ (r : Request). are_away raw (given_by blocks r)) (begun.asks ∙ is) ∙ ap (λ (v : Bool). not v && (not v && true)) off
        | AtCheck4 long late ↦ absurd (omega (arith, long, less, few, begun.ended))
      ]

  all_elsewhere : (raw m : ℕ) → 127 ≤ raw → m ≤ 12 → (11 < m → 127 ≡ raw → ⊥) → (begun : List Begun) (tasks : List Task) → AreBegunTasks s k plan waiting phase begun tasks → length begun ≤ reads_count (member s k) + m → GiveElsewhere raw blocks begun
  all_elsewhere raw m large few other [] tasks are less = tt
  all_elsewhere raw m large few other (b ∷ older) [] are less = absurd are
  all_elsewhere raw m large few other (b ∷ older) (t ∷ tasks) are less =
      (all_elsewhere raw m large few other older tasks are.0 (omega (arith, less)), gives_elsewhere raw m large few other b t older tasks (omega (arith, less)) are.1)

  -- THE NEWEST REQUEST, if the outcome number m after the reads has ended well: what is begun at that place is the check, and nothing later
  newest_check : (raw m : ℕ) → 127 ≤ raw → m ≤ 12 → (11 < m → 127 ≡ raw → ⊥) → (begun : List Begun) (tasks : List Task) → AreBegunTasks s k plan waiting phase begun tasks
      → ended_well (given (outcomes_in begun) (reads_count (member s k) + m)) ≡ true
      → ((b : Begun) (t : Task) (older : List Begun) (tasks : List Task) → begun ≡ b ∷ older → IsBegunTask s k plan waiting phase b t older tasks → length older ≡ reads_count (member s k) + m → b.request ≡ Request.Command (idn raw))
      → ((b : Begun) (t : Task) (older : List Begun) (tasks : List Task) → begun ≡ b ∷ older → IsBegunTask s k plan waiting phase b t older tasks → reads_count (member s k) + m < length older → ⊥)
      → IsCheckNewest blocks raw begun
  newest_check raw m large few other [] tasks are well here late = absurd (false≢true well)
  newest_check raw m large few other (b ∷ older) [] are well here late = absurd are
  newest_check raw m large few other (b ∷ older) (t ∷ tasks) are well here late = elim (cases_eq (length older) (reads_count (member s k) + m)) [
    | inl at ↦
        let place : reads_count (member s k) + m ≡ length (outcomes_in older) = sym at ∙ sym are.1.ended in
        let newest = newest_well (outcome_of b.request b.answers) (outcomes_in older) (ap (λ (n : ℕ). ended_well (given (outcomes_in (b ∷ older)) n)) (sym place) ∙ well) in
        record {
          one = b;
          older = older;
          split = refl;
          asks = here b t older tasks refl are.1 at;
          bytes = newest.0;
          complete = newest.1;
          well = newest.2;
          away = all_elsewhere raw m large few other older tasks are.0 (omega (arith, at));
        }
    | inr apart ↦
        let many = ended_there (outcomes_in (b ∷ older)) (reads_count (member s k) + m) well in
        absurd (late b t older tasks refl are.1 (omega (arith, many, not_longer (b ∷ older), apart)))
  ]

  -- what was so of an earlier outcome when the newest request was begun
  well_before : (b : Begun) (older : List Begun) (i : ℕ) → i < length (outcomes_in older) → ended_well (given (outcomes_in (b ∷ older)) i) ≡ true → ended_well (given (outcomes_in older) i) ≡ true
  well_before b older i less well = sym (ap ended_well (given_before (outcome_of b.request b.answers) (outcomes_in older) i less)) ∙ well

  -- THE CHECK FOR PHASE 3 in phase 2
  pub check_127 : phase ≤ 2 → (begun : List Begun) (tasks : List Task) → AreBegunTasks s k plan waiting phase begun tasks → is_checked (member s k) (outcomes_in begun) ≡ true → IsCheckNewest blocks 127 begun
  check_127 low begun tasks are well = newest_check 127 11 (omega arith) (omega arith) (λ less same. omega (arith, less)) begun tasks are
      well
      (λ b t older more split is place. is_127 s k is.by_then waiting b older t is.asks (is.ended ∙ place) is.task) late
    where
      late : (b : Begun) (t : Task) (older : List Begun) (more : List Task) → begun ≡ b ∷ older → IsBegunTask s k plan waiting phase b t older more → reads_count (member s k) + 11 < length older → ⊥
      late b t older more split is place =
          let long : reads_count (member s k) + 11 < length (outcomes_in older) = omega (arith, is.ended, place) in
          let was = well_before b older (reads_count (member s k) + 11) long
          (ap (λ (l : List Begun). is_checked (member s k) (outcomes_in l)) (sym split) ∙ well) in
          omega (arith, (task_phase s k is.by_then waiting (outcomes_in older) t waits is.task).1 long was, is.early, low)

  -- THE CHECK FOR PHASE 4 in phase 3
  pub check_128 : phase ≤ 3 → (begun : List Begun) (tasks : List Task) → AreBegunTasks s k plan waiting phase begun tasks → is_ready (member s k) (outcomes_in begun) ≡ true → IsCheckNewest blocks 128 begun
  check_128 low begun tasks are ready = newest_check 128 12 (omega arith) (omega arith) (λ less same. omega (arith, same)) begun tasks are both.1 here late
    where
      both : (is_checked (member s k) (outcomes_in begun) ≡ true) × (ended_well (given (outcomes_in begun) (reads_count (member s k) + 12)) ≡ true)
      both = and_parts (is_checked (member s k) (outcomes_in begun)) (ended_well (given (outcomes_in begun) (reads_count (member s k) + 12))) ready

      checked_before : (b : Begun) (older : List Begun) → begun ≡ b ∷ older → reads_count (member s k) + 12 ≤ length (outcomes_in older) → is_checked (member s k) (outcomes_in older) ≡ true
      checked_before b older split long = well_before b older (reads_count (member s k) + 11) (omega (arith, long)) (ap (λ (l : List Begun). is_checked (member s k) (outcomes_in l)) (sym split) ∙ both.0)

      here : (b : Begun) (t : Task) (older : List Begun) (more : List Task) → begun ≡ b ∷ older → IsBegunTask s k plan waiting phase b t older more → length older ≡ reads_count (member s k) + 12 → b.request ≡ Request.Command (idn 128)
      here b t older more split is place =
          let long = is.ended ∙ place in
          elim is.task [
            | OfReads r early got same ↦ absurd (omega (arith, long, early))
            | OfWrites p i r planned early at got same ↦ absurd (omega (arith, long, early, at))
            | Checks3 p planned at same ↦ absurd (omega (arith, long, at))
            | Lists3 at failed same ↦ absurd (false≢true (sym failed ∙ checked_before b older split (omega (arith, long))))
            | Checks4 at checked same ↦ is.asks ∙ ap (λ (x : Task). x.request) same
            | Lists4 at failed same ↦ absurd (omega (arith, long, at))
            | OfWaiting j at made got ↦ absurd (omega (arith, long, at))
          ]

      late : (b : Begun) (t : Task) (older : List Begun) (more : List Task) → begun ≡ b ∷ older → IsBegunTask s k plan waiting phase b t older more → reads_count (member s k) + 12 < length older → ⊥
      late b t older more split is place =
          let long : reads_count (member s k) + 12 < length (outcomes_in older) = omega (arith, is.ended, place) in
          let ready_then = ap₂ (λ (x y : Bool). x && y) (checked_before b older split (omega (arith, long)))
          (well_before b older (reads_count (member s k) + 12) long
          (ap (λ (l : List Begun). ended_well (given (outcomes_in l) (reads_count (member s k) + 12))) (sym split) ∙ both.1)) in
          let (j, got) = late_waits s k is.by_then waiting (outcomes_in older) t long ready_then is.task in
          omega (arith, waits j t got, is.early, low)
