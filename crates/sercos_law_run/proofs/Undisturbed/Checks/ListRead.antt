-- A complete read of block 22 comes after a complete check for phase 4: so it finds what is so of the blocks since the check was set. Each
-- list has its newest item first.
use Rattle.sercos_law_run.proofs.Words.{◌≡◌, inl, inr, ℕ, ◌^◌, ◌<◌, true, not, List, [], ◌∷◌, ◌++◌, Some, None, refl, sym, ap, ap₂, ◌∙◌, subst, arith, append_assoc, cond_both, is_list, Request, outcome_of, steps_before, find_block, store_of, DriveView, Block, is_command, Processed, Entry, accepted, data_in, Begun, idn, epoch_begun, epoch_records, epoch_log, IsRow, IsPart, Unsent, Unheard, AreParts, entry_behind, element_in, IsReadAt, HaveBlocks, IsTransfer, View, AreSound, all_entries, in_step, epoch, split_replies, split_blocks, fall_into_parts, HasReplies, answered_replies, entries_ago, entries_in_epochs, SettingsFollow, HaveStores, IsStored, AreStored, reads_once, element_of, IsViewRun, HeardPart, Outcome}
use Rattle.sercos_law_run.proofs.Settings.SetAtPoll.{set_at_poll}
use Rattle.sercos_law_run.proofs.Settings.SetInEpoch.{set_at_entry}
use Rattle.sercos_law_run.proofs.Held.AnsweredRuns.{EntriesStored, entries_stored}
use Rattle.sercos_law_run.proofs.Undisturbed.Checks.SinceSet.{WasSet, HaveSince, since_at, was_more}
use Rattle.sercos_law_run.proofs.Held.EntriesAre.{IsIn, entry_in, entry_is}

-- THE PARTS of two requests that follow each other
record ArePartsAt (log : List Entry) (b c : Begun) : Type 0 where
  front : List Entry
  later : List Entry
  earlier : List Entry
  rest : List Entry
  split : log ≡ front ++ (later ++ (earlier ++ rest))
  of_later : IsPart b later
  of_earlier : IsPart c earlier

parts_at : (newer older : List Begun) (b c : Begun) (log : List Entry) → AreParts (newer ++ b ∷ c ∷ older) log → ArePartsAt log b c
parts_at [] older b c log (part, rest, those, is, others) =
    let (next, behind, these, of, more) = others in record { front = []; later = part; earlier = next; rest = behind; split = those ∙ ap (λ (l : List Entry). part ++ l) these; of_later = is; of_earlier = of }
parts_at (x ∷ newer) older b c log (part, rest, those, is, others) =
    let more = parts_at newer older b c rest others in record {
      front = part ++ more.front;
      later = more.later;
      earlier = more.earlier;
      rest = more.rest;
      split = those ∙ ap (λ (l : List Entry). part ++ l) more.split ∙ sym (append_assoc part more.front (more.later ++ (more.earlier ++ more.rest)));
      of_later = more.of_later;
      of_earlier = more.of_earlier;
    }

-- WHAT IS READ is the operation data, if that has no step.
pub data_read : (cycle : ℕ) (b : Block) → data_in cycle b ≡ b.value → element_in 7 cycle b ≡ b.value
unfolding element_of
data_read cycle b still = cond_both (not (is_list b.attribute.length)) (data_in cycle b) b.value
    (λ v. v ≡ b.value) (λ on. still) (λ off. refl)

-- A read found a block with these bytes in a store of the drive of which this is so.
pub record IsListRead (d : DriveView) (such : List Block → Type 0) (bytes : List ℕ) : Type 0 where
  pub processed : Processed
  pub stored : IsStored d processed.blocks
  pub has : such processed.blocks
  pub block : Block
  pub found : find_block 22 processed.blocks ≡ Some block
  pub gives : bytes ≡ element_in 7 processed.cycle block

module _ (busy : ℕ) (d : DriveView) (such : List Block → Type 0) (past : List View) (run : IsViewRun busy past)
    (sound : AreSound (store_of d) past) (stored : AreStored d past) (follow : SettingsFollow past)
    (commands : HaveStores (λ blocks. is_command blocks 128 ≡ true) past) (since : HaveSince such (all_entries past)) where
  -- the entries of a part are a transfer
  transfer : (front : List Entry) (b : Begun) (e : Entry) (entries rest : List Entry) → epoch_log past ≡ front ++ ((e ∷ entries) ++ rest) → IsRow b e entries → IsTransfer b.request (store_of d) e entries rest
  transfer front b e entries rest log row = record {
    steps = row.steps;
    in_turn = row.in_turn;
    goes_on = row.goes_on;
    replies = (split_replies (e ∷ entries) rest (split_replies front ((e ∷ entries) ++ rest) (subst HasReplies log (answered_replies (accepted (epoch_records past))))).1).0;
    alike = (split_blocks (store_of d) (e ∷ entries) rest (split_blocks (store_of d) front ((e ∷ entries) ++ rest) (subst (HaveBlocks (store_of d)) log (epoch (store_of d) busy past run sound).alike)).1).0;
  }

  -- THE CHECK was set when it was polled last.
  check_set : (front : List Entry) (c : Begun) (part rest : List Entry) (status : List ℕ) → epoch_log past ≡ front ++ (part ++ rest) → c.request ≡ Request.Command (idn 128) → outcome_of c.request c.answers ≡ Some (Outcome.Complete status) → IsPart c part
      → (more : List Entry) → WasSet (part ++ more)
  check_set front c part rest status log asks complete (Unsent none answers) more = let both : None ≡ Some (Outcome.Complete status) = sym (ap (outcome_of c.request) answers) ∙ complete in absurd (cc)
  check_set front c part rest status log asks complete (Unheard e entries those row answers) more = let both : None ≡ Some (Outcome.Complete status) = sym (ap (outcome_of c.request) answers ∙ row.goes_on) ∙ complete in absurd (cc)
  check_set front c part rest status log asks complete (HeardPart e entries those row answers) more =
      let log_is = log ∙ ap (λ (l : List Entry). front ++ (l ++ rest)) those in
      let poll = set_at_poll (idn 128) (store_of d) e entries rest status
      (subst (λ (r : Request). IsTransfer r (store_of d) e entries rest) asks (transfer front c e entries rest log_is row))
      (sym (ap₂ (λ (r : Request) (h : List _). outcome_of r h) asks answers) ∙ complete) in
      let at_poll = log_is ∙ ap (λ (l : List Entry). front ++ ((e ∷ l) ++ rest)) poll.behind
      ∙ sym (append_assoc front (e ∷ []) (poll.poll ∷ (poll.before ++ rest))) in
      let on = set_at_entry 128 busy past (front ++ e ∷ []) poll.poll (poll.before ++ rest) (3 ∷ 0 ∷ []) run follow commands at_poll
      poll.newest refl in
      subst (λ (l : List Entry). WasSet (l ++ more)) (sym (those ∙ ap (λ (l : List Entry). e ∷ l) poll.behind)) (inr (inl on))

  -- THE READ after it
  pub list_read : (list : Block) → find_block 22 (store_of d) ≡ Some list → list.attribute.factor < 2 ^ 16 → (newer older : List Begun) (b c : Begun) (bytes status : List ℕ) → epoch_begun past ≡ newer ++ b ∷ c ∷ older
      → b.request ≡ Request.Read (idn 22) 7 → outcome_of b.request b.answers ≡ Some (Outcome.Complete bytes) → c.request ≡ Request.Command (idn 128) → outcome_of c.request c.answers ≡ Some (Outcome.Complete status) → IsListRead d such bytes
  list_read list there small newer older b c bytes status split asks complete sets_it ended = by at.of_later
    where
      at : ArePartsAt (epoch_log past) b c
      at = parts_at newer older b c (epoch_log past) (subst (λ (l : List Begun). AreParts l (epoch_log past)) split (fall_into_parts (epoch_begun past) (epoch_log past) (epoch (store_of d) busy past run sound).in_turn (in_step busy past run)))

      was : WasSet (at.earlier ++ (at.rest ++ entries_ago past))
      was = check_set (at.front ++ at.later) c at.earlier at.rest status (at.split ∙ sym (append_assoc at.front at.later (at.earlier ++ at.rest))) sets_it ended at.of_earlier (at.rest ++ entries_ago past)

      found_at : (s : Entry) → IsReadAt 22 7 list bytes s.processed → IsIn s at.later → IsListRead d such bytes
      found_at s read is =
          let here = entries_in_epochs busy past run ∙ ap (λ (l : List Entry). l ++ entries_ago past) at.split
          ∙ append_assoc at.front (at.later ++ (at.earlier ++ at.rest)) (entries_ago past)
          ∙ ap (λ (l : List Entry). at.front ++ l) (append_assoc at.later (at.earlier ++ at.rest) (entries_ago past)
          ∙ ap (λ (l : List Entry). at.later ++ l) (append_assoc at.earlier at.rest (entries_ago past)))
          ∙ ap (λ (l : List Entry). at.front ++ (l ++ (at.earlier ++ (at.rest ++ entries_ago past)))) is.split ∙ ap
          (λ (l : List Entry). at.front ++ l) (append_assoc is.front (s ∷ is.rest) (at.earlier ++ (at.rest ++ entries_ago past))) ∙ sym
          (append_assoc at.front is.front (s ∷ (is.rest ++ (at.earlier ++ (at.rest ++ entries_ago past))))) in
          let store = entry_is (λ t. IsStored d t.blocks) (at.front ++ is.front) s
          (is.rest ++ (at.earlier ++ (at.rest ++ entries_ago past))) (subst (EntriesStored d) here (entries_stored d past stored)) in
          record {
            processed = s.processed;
            stored = store;
            has = since_at such (at.front ++ is.front) s (is.rest ++ (at.earlier ++ (at.rest ++ entries_ago past))) (subst (HaveSince such) here since) (was_more is.rest (at.earlier ++ (at.rest ++ entries_ago past)) was);
            block = read.block;
            found = read.found;
            gives = read.gives (λ two. store.0);
          }

      read_at : (e : Entry) (entries : List Entry) → at.later ≡ e ∷ entries → (s : Entry) × (entry_behind (steps_before 7) (e ∷ entries) ≡ Some s) × IsReadAt 22 7 list bytes s.processed → IsListRead d such bytes
      read_at e entries those (s, got, read) = found_at s read (subst (IsIn s) (sym those) (entry_in (steps_before 7) (e ∷ entries) s got))

      by : IsPart b at.later → IsListRead d such bytes
      by (Unsent none answers) = let both : None ≡ Some (Outcome.Complete bytes) = sym (ap (outcome_of b.request) answers) ∙ complete in absurd (cc)
      by (Unheard e entries those row answers) = let both : None ≡ Some (Outcome.Complete bytes) = sym (ap (outcome_of b.request) answers ∙ row.goes_on) ∙ complete in absurd (cc)
      by (HeardPart e entries those row answers) = read_at e entries those
          (reads_once (idn 22) 7 bytes (store_of d) list e entries (at.earlier ++ at.rest) (omega arith) (omega arith) there small
          (subst (λ (r : Request). IsTransfer r (store_of d) e entries (at.earlier ++ at.rest)) asks
          (transfer at.front b e entries (at.earlier ++ at.rest) (at.split ∙ ap (λ (l : List Entry). at.front ++ (l ++ (at.earlier ++ at.rest))) those) row))
          (sym (ap₂ (λ (r : Request) (h : List _). outcome_of r h) asks answers) ∙ complete))
