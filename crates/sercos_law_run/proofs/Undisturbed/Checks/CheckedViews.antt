-- At the end of a cycle in which a drive is up and its complete check is the newest request of the epoch, that check counts as passed. Each
-- list has its newest item first.
use Rattle.sercos_law_run.proofs.Words.{◌≡◌, inl, inr, ℕ, suc, ◌+◌, ◌*◌, ◌≤◌, true, false, not, List, [], ◌∷◌, ◌++◌, map, length, Option, Some, None, refl, sym, ap, ◌∙◌, subst, arith, ◌==◌, option_map, unwrap_or, cond-false, eqb-true, false≢true, outcome_of, Block, find_block, is_command, CommandHistory, status_in, set_in, Processed, Entry, log_of, Write, writes_of, without_data, AreAlike, Begun, idn, ended_well, View, standing, since_reset, begun_in, epoch_records, records_in_views, log_in, AreBefore, HaveBlocks, AreSound, AreSmall, Given, given_of, gives, given_by, AreWrites, Complete, Refused, Broken, AreExact, GiveElsewhere, find-alike, same_log, accepts_in_order, entries_ago, entries_in_epochs, epoch, cycle_exact, commands_ended, CommandsFollow, LogLeaves, cases_Option, IsViewRun, Request, Outcome}
use Rattle.sercos_law_run.proofs.Settings.Givers.{exact_all}
use Rattle.sercos_law_run.proofs.Undisturbed.Checks.LogLeaves.{leaves_since}
use Rattle.sercos_law_run.proofs.Undisturbed.Checks.CheckLogs.{AreCommandsIn, PassesIfSet, StaysIfCancelled, CountsBy, log_counts}

-- the two writes of a complete command
record AreTwo (raw : ℕ) (own : List Write) : Type 0 where
  last : Write
  set : Write
  own_is : own ≡ last ∷ set ∷ []
  last_is : given_of last ≡ gives raw (0 ∷ 0 ∷ [])
  set_is : given_of set ≡ gives raw (3 ∷ 0 ∷ [])

two_of : (raw : ℕ) (own : List Write) → map given_of own ≡ gives raw (0 ∷ 0 ∷ []) ∷ gives raw (3 ∷ 0 ∷ []) ∷ [] → AreTwo raw own
two_of raw [] same = absurd (cc)
two_of raw (x ∷ []) same = absurd (cc)
two_of raw (x ∷ y ∷ []) same = record { last = x; set = y; own_is = refl; last_is = cc; set_is = cc }
two_of raw (x ∷ y ∷ z ∷ own) same = absurd (cc)

own_two : (raw : ℕ) (blocks : List Block) (b : Begun) (own : List Write) (bytes : List ℕ) → b.request ≡ Request.Command (idn raw) → outcome_of b.request b.answers ≡ Some (Outcome.Complete bytes) → AreWrites blocks b own → AreTwo raw own
own_two raw blocks b own bytes asks complete (Complete other is has same) = two_of raw own (same ∙ ap (given_by blocks) asks)
own_two raw blocks b own bytes asks complete (Refused code is none) = absurd (cc)
own_two raw blocks b own bytes asks complete (Broken later is same) = absurd (cc)

-- THE BLOCKS. A procedure command of the drive is one whatever is written.
command_alike : (raw : ℕ) (blocks others : List Block) → AreAlike others blocks → is_command blocks raw ≡ true → is_command others raw ≡ true
command_alike raw blocks others alike is = elim (cases_Option (find_block raw blocks)) [
  | inl none ↦ absurd (false≢true (rw none at is))
  | inr (b, found) ↦
      sym (data_left (find_block raw others)) ∙ ap (λ (o : Option Block). unwrap_or (option_map (λ (x : Block). x.attribute.command) o) false) (find-alike raw others blocks b alike found) ∙ (rw found at is)
]
  where
    data_left : (o : Option Block) → unwrap_or (option_map (λ (b : Block). b.attribute.command) (option_map without_data o)) false ≡ unwrap_or (option_map (λ (b : Block). b.attribute.command) o) false
    data_left None = refl
    data_left (Some b) = refl

commands_there : (raw : ℕ) (blocks : List Block) (log : List Entry) → is_command blocks raw ≡ true → HaveBlocks blocks log → AreCommandsIn raw log
commands_there raw blocks [] is have = tt
commands_there raw blocks (e ∷ log) is have = (commands_there raw blocks log is have.0, command_alike raw blocks e.processed.blocks have.1 is)

-- the status that a check has ended well with
pub status_3 : (n : ℕ) (bytes : List ℕ) → bytes ≡ n ∷ 0 ∷ [] → ended_well bytes ≡ true → n ≡ 3
status_3 n bytes is well = let same : n + 256 * 0 ≡ 3 = eqb-true (n + 256 * 0) 3 (ap (λ (l : List ℕ). ended_well l) (sym is) ∙ well) in omega (arith, same)

module _ (raw : ℕ) (passed : CommandHistory → Option ℕ) (sets : PassesIfSet raw passed) (stays : StaysIfCancelled raw passed) (busy : ℕ) (blocks : List Block) (small : AreSmall blocks) (command : is_command blocks raw ≡ true)
    (c : CommandHistory) (fresh : set_in c ≡ []) (v : View) (past : List View) (run : IsViewRun busy (v ∷ past)) (sound : AreSound blocks (v ∷ past)) (follow : CommandsFollow c (v ∷ past))
    (up : 1 ≤ v.phase) (goes_on : v.falls ≡ false) (stands : (standing (v ∷ past)).ended ≡ 0 → ⊥) where
  -- the log is that of the epoch, and leaves the commands
  log_is : log_of (since_reset (v ∷ past)) ≡ log_in v past
  log_is = elim (same_log busy v past run up) [ inl zero ↦ absurd (stands zero) | inr same ↦ ap log_of same ]

  taken_is : epoch_records (v ∷ past) ≡ records_in_views v past
  taken_is = cond-false v.falls [] (records_in_views v past) goes_on

  have : HaveBlocks blocks (log_in v past)
  have = subst (λ (h : List Processed). HaveBlocks blocks (log_of h)) taken_is (epoch blocks busy (v ∷ past) run sound).alike

  order : AreBefore (suc (length past)) (log_in v past ++ entries_ago (v ∷ past))
  order = subst (λ (l : List Entry). AreBefore (suc (length past)) l) (entries_in_epochs busy (v ∷ past) run ∙ ap (λ (h : List Processed). log_of h ++ entries_ago (v ∷ past)) taken_is) (accepts_in_order (v ∷ past))

  -- THE CHECK, complete and the newest request
  pub check_counts : (b : Begun) (older : List Begun) (bytes : List ℕ) → begun_in v past ≡ b ∷ older → b.request ≡ Request.Command (idn raw) → outcome_of b.request b.answers ≡ Some (Outcome.Complete bytes) → ended_well bytes ≡ true
      → GiveElsewhere raw blocks older → CountsBy passed (commands_ended c (v ∷ past)) (length past)
  check_counts b older bytes split asks complete well away =
      let (part, rest, own, others, of_entries, of_writes, is, behind) =
      subst (λ (l : List Begun). AreExact blocks l (log_in v past) (writes_of (log_in v past))) split (cycle_exact blocks busy small v past run sound) in
      let (cancel, poll, before, of_part, reads, element, given) = is.ends (idn raw) bytes asks complete in
      let log_so : log_in v past ≡ cancel ∷ poll ∷ (before ++ rest) = of_entries ∙ ap (λ (l : List Entry). l ++ rest) of_part in
      let two = own_two raw blocks b own bytes asks complete is.writes in
      let writes_so : writes_of (cancel ∷ poll ∷ (before ++ rest)) ≡ two.last ∷ two.set ∷ others = ap writes_of (sym log_so) ∙ of_writes ∙ ap (λ (l : List Write). l ++ others) two.own_is in
      let ordered : AreBefore (suc (length past)) (cancel ∷ poll ∷ ((before ++ rest) ++ entries_ago (v ∷ past))) = subst (λ (l : List Entry). AreBefore (suc (length past)) (l ++ entries_ago (v ∷ past))) log_so order in
      let counts = log_counts raw passed sets stays cancel poll (before ++ rest) (commands_ended c (v ∷ past)) two.last two.set others
      (subst (λ (l : List Entry). LogLeaves l (commands_ended c (v ∷ past))) log_so
      (subst (λ (l : List Entry). LogLeaves l (commands_ended c (v ∷ past))) log_is (leaves_since c fresh (v ∷ past) follow)))
      (subst (AreCommandsIn raw) log_so (commands_there raw blocks (log_in v past) command have))
      writes_so two.last_is two.set_is (exact_all (λ (g : Given). not (g.raw == raw)) blocks (GiveElsewhere raw blocks)
      (λ b past give. give) older rest others behind away) reads
      (status_3 (status_in poll.processed.commands raw poll.processed.cycle) bytes given well) (omega (arith, ordered.1.0)) in
      (counts.0, counts.1, omega (arith, counts.2, ordered.0))
