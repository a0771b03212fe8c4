-- What one transfer writes and reads, whether it is complete, refused, open or broken.
use Rattle.sercos_law_channel.proofs.Words.{◌≡◌, ℕ, ◌≤◌, Bool, true, false, not, List, [], ◌∷◌, ◌++◌, map, drop, length, refl, sym, ap, ◌∙◌, subst, arith, if◌then◌else◌, ◌==◌, Option, Some, None, cond-false, cond-true, eqb-true, AreBytes, Attribute, Code, Idn, Answer, Request, steps_before, outcome_of, answer_words, is_whole, result_of, AreAnswers, Block, is_protected, find_block, Entry, Write, writes_of, Begun, replies_of, IsRow, IsPart, Unsent, Unheard, AreReplies, HaveBlocks, IsTransfer, stored, is_complete, AreProtected, setting, second_of, added_by_setting, cancelled_by, idn_of, entry_behind, IsReadAt, IsSound, AreSmall, Given, given_of, gives, written_to, given_by, HasBlock, AreWrites, Complete, Refused, Broken, AreInPhase, ReadsExactly, EndsExactly, IsExact, drop-length, inl, inr, cases_Bool, cases_Option}
use Rattle.sercos_step.specs.declared.request.Request.TheVariants as request
use Rattle.sercos_step.specs.declared.request.Outcome.TheVariants as outcome
use Rattle.sercos_law_channel.specs.Handshake.Parts.{Heard}
use Rattle.sercos_law_channel.proofs.Handshake.UnknownBlocks.{writes_nowhere}
use Rattle.sercos_law_channel.proofs.Handshake.QuietSteps.{writes_nothing}
use Rattle.sercos_law_channel.proofs.Handshake.CommandStages.{sets_and_cancels}
use Rattle.sercos_law_channel.proofs.Handshake.CommandRefusals.{refused_adds_nothing}
use Rattle.sercos_law_channel.proofs.Handshake.LogParts.{make_transfers}
use Rattle.sercos_law_channel.proofs.Handshake.TransferSteps.{goes_on-outcome_of, complete_is}
use Rattle.sercos_law_channel.proofs.Handshake.CommandEnds.{unknown_incomplete, ends_with_status, three_before}
use Rattle.sercos_law_channel.proofs.Handshake.Once.{reads_once, writes_once}
use Rattle.sercos_law_channel.proofs.Handshake.OnePhase.{IsNamed, IsSteady, in_one_phase}

-- how a request ends
pub data Ends (r : Request) (h : List Answer) : Type 0 where
  GoesOn : outcome_of r h ≡ None → Ends r h
  IsWhole : (bytes : List ℕ) → outcome_of r h ≡ Some (outcome.Complete bytes) → Ends r h
  IsRefused : (code : Code) → outcome_of r h ≡ Some (outcome.Refused code) → Ends r h

pub ends_so : (r : Request) (h : List Answer) → Ends r h
ends_so r [] = GoesOn refl
ends_so r (a ∷ h) = by a.error (is_whole r (answer_words h ++ a.word ∷ [])) refl
  where
    by : (error whole : Bool) → outcome_of r (a ∷ h) ≡ (if error then Some (outcome.Refused (record { raw = a.word })) else (if whole then Some (outcome.Complete (result_of r (answer_words h ++ a.word ∷ []))) else None)) → Ends r (a ∷ h)
    by true whole is = IsRefused (record { raw = a.word }) is
    by false true is = IsWhole (result_of r (answer_words h ++ a.word ∷ [])) is
    by false false is = GoesOn is

abbrev with : Request → List Answer → Begun
with r answers = record { request = r; answers = answers }

-- where all entries are of one phase, what is protected at one of them was so at each
protected_so : (a : Attribute) (phase at : ℕ) (entries : List Entry) → at ≡ phase → AreInPhase phase entries → is_protected a at ≡ true → AreProtected a entries
protected_so a phase at [] same are on = tt
protected_so a phase at (e ∷ entries) same are on = (protected_so a phase at entries same are.0 on, ap (is_protected a) (are.1 ∙ sym same) ∙ on)

-- what is written, and that it is what the transfer gives
pub record Wrote (blocks : List Block) (b : Begun) (entries log : List Entry) : Type 0 where
  pub own : List Write
  pub adds : writes_of (entries ++ log) ≡ own ++ writes_of log
  pub writes : AreWrites blocks b own

-- the requests of a row: those whose answers were all taken, or all but the newest
pub data Took (r : Request) (e : Entry) (entries : List Entry) (answers : List Answer) : Type 0 where
  All : answers ≡ replies_of (e ∷ entries) → Took r e entries answers
  AllButOne : answers ≡ replies_of entries → outcome_of r answers ≡ None → Took r e entries answers

module _ (blocks : List Block) (small : AreSmall blocks) where
  -- a transfer is complete only if the drive has the block
  has_block : (r : Request) (e : Entry) (entries log : List Entry) (answers : List Answer) (bytes : List ℕ) → IsTransfer r blocks e entries log → Took r e entries answers → outcome_of r answers ≡ Some (outcome.Complete bytes) → HasBlock blocks r
  has_block r e entries log answers bytes is (AllButOne same on) complete = absurd (cc)
  has_block r e entries log answers bytes is (All same) complete = elim (cases_Option (find_block (idn_of r).raw blocks)) [
    | inl none ↦ absurd (unknown_incomplete r blocks e entries log bytes none is (ap (outcome_of r) (sym same) ∙ complete))
    | inr (b, found) ↦ (b, found)
  ]

  -- a transfer that adds no write, and gives none if the drive has its block
  adds_nothing : (r : Request) (e : Entry) (entries log : List Entry) (answers : List Answer) → (HasBlock blocks r → given_by blocks r ≡ []) → IsTransfer r blocks e entries log → Took r e entries answers → writes_of ((e ∷ entries) ++ log) ≡ writes_of log →
      Wrote blocks (with r answers) (e ∷ entries) log
  adds_nothing r e entries log answers none is took same = record { own = []; adds = same; writes = by (ends_so r answers) }
    where
      by : Ends r answers → AreWrites blocks (with r answers) []
      by (GoesOn on) = Broken (length (given_by blocks r)) on (sym (drop-length (given_by blocks r)))
      by (IsWhole bytes complete) =
          let has = has_block r e entries log answers bytes is took complete in Complete bytes complete has (sym (none has))
      by (IsRefused code refused) = Refused code refused refl

  -- a write of operation data
  written : (idn : Idn) (bytes : List ℕ) (b : Block) (e : Entry) (entries log : List Entry) (answers : List Answer) → AreBytes bytes → find_block idn.raw blocks ≡ Some b →
      IsTransfer (request.Write idn 7 bytes) blocks e entries log → Took (request.Write idn 7 bytes) e entries answers → Wrote blocks (with (request.Write idn 7 bytes) answers) (e ∷ entries) log
  written idn bytes b e entries log answers are found is took = by (ends_so (request.Write idn 7 bytes) (replies_of (e ∷ entries))) took
    where
      given : given_by blocks (request.Write idn 7 bytes) ≡ gives idn.raw (stored b bytes) ∷ []
      given = ap (written_to idn.raw bytes) found

      law : writes_of ((e ∷ entries) ++ log) ≡ (if is_complete (outcome_of (request.Write idn 7 bytes) (replies_of (e ∷ entries))) then (record { cycle = e.processed.cycle; raw = idn.raw; bytes = stored b bytes }) ∷ writes_of log else writes_of log)
      law = writes_once idn bytes blocks b e entries log are found (small idn.raw b found) is

      whole : (x : List ℕ) → outcome_of (request.Write idn 7 bytes) (replies_of (e ∷ entries)) ≡ Some (outcome.Complete x) → writes_of ((e ∷ entries) ++ log) ≡ (record { cycle = e.processed.cycle; raw = idn.raw; bytes = stored b bytes }) ∷ writes_of log
      whole x complete = law ∙ cond-true _ _ _ (ap is_complete complete)

      by : Ends (request.Write idn 7 bytes) (replies_of (e ∷ entries)) → Took (request.Write idn 7 bytes) e entries answers → Wrote blocks (with (request.Write idn 7 bytes) answers) (e ∷ entries) log
      by (GoesOn on) (All same) = record { own = []; adds = law ∙ cond-false _ _ _ (ap is_complete on); writes = Broken 1 (ap (outcome_of (request.Write idn 7 bytes)) same ∙ on) (sym (ap (drop 1) given)) }
      by (GoesOn on) (AllButOne same before) = record { own = []; adds = law ∙ cond-false _ _ _ (ap is_complete on); writes = Broken 1 before (sym (ap (drop 1) given)) }
      by (IsWhole x complete) (All same) = record { own = (record { cycle = e.processed.cycle; raw = idn.raw; bytes = stored b bytes }) ∷ []; adds = whole x complete; writes = Complete x (ap (outcome_of (request.Write idn 7 bytes)) same ∙ complete) (b, found) (sym given) }
      by (IsWhole x complete) (AllButOne same before) = record { own = (record { cycle = e.processed.cycle; raw = idn.raw; bytes = stored b bytes }) ∷ []; adds = whole x complete; writes = Broken 0 before (sym given) }
      by (IsRefused code refused) (All same) = record { own = []; adds = law ∙ cond-false _ _ _ (ap is_complete refused); writes = Refused code (ap (outcome_of (request.Write idn 7 bytes)) same ∙ refused) refl }
      by (IsRefused code refused) (AllButOne same before) = record { own = []; adds = law ∙ cond-false _ _ _ (ap is_complete refused); writes = Broken 1 before (sym (ap (drop 1) given)) }

  -- a setting of a procedure command

  given_front : (idn : Idn) (o : Option Entry) → (later : ℕ) × (map given_of (added_by_setting idn.raw o) ≡ drop later (given_by blocks (request.Command idn)))
  given_front idn None = (2, refl)
  given_front idn (Some x) = elim (cases_Bool x.answer.error) [ inl on ↦ rw on (2, refl) | inr off ↦ rw off (1, refl) ]

  -- after two answers without error it is set
  is_set : (idn : Idn) (d : Entry) (entries : List Entry) → AreAnswers (request.Command idn) (replies_of (d ∷ entries)) → outcome_of (request.Command idn) (replies_of (d ∷ entries)) ≡ None → 1 ≤ length entries →
      map given_of (added_by_setting idn.raw (second_of (d ∷ entries))) ≡ gives idn.raw (3 ∷ 0 ∷ []) ∷ []
  is_set idn d [] are on long = absurd (omega arith)
  is_set idn d (o ∷ []) are on long =
      ap (λ (v : Bool). map given_of (if v then [] else setting idn.raw 3 d ∷ [])) (goes_on-outcome_of (request.Command idn) d.answer (replies_of (o ∷ [])) on).0
  is_set idn d (o ∷ p ∷ past) are on long = is_set idn o (p ∷ past) are.0 are.1 (omega arith)

  command_front : (idn : Idn) (e : Entry) (entries log : List Entry) (answers : List Answer) → IsTransfer (request.Command idn) blocks e entries log → is_complete (outcome_of (request.Command idn) (replies_of (e ∷ entries))) ≡ false →
      outcome_of (request.Command idn) answers ≡ None → Wrote blocks (with (request.Command idn) answers) (e ∷ entries) log
  command_front idn e entries log answers is off on =
      let front = given_front idn (second_of (e ∷ entries)) in record {
        own = added_by_setting idn.raw (second_of (e ∷ entries));
        adds = sets_and_cancels idn blocks e entries log is ∙ ap (λ (v : Bool). cancelled_by idn.raw v e ++ (added_by_setting idn.raw (second_of (e ∷ entries)) ++ writes_of log)) off;
        writes = Broken front.0 on front.1;
      }

  command_whole : (idn : Idn) (e : Entry) (entries log : List Entry) (bytes : List ℕ) → IsTransfer (request.Command idn) blocks e entries log → outcome_of (request.Command idn) (replies_of (e ∷ entries)) ≡ Some (outcome.Complete bytes) →
      (own : List Write) × (writes_of ((e ∷ entries) ++ log) ≡ own ++ writes_of log) × (map given_of own ≡ given_by blocks (request.Command idn))
  command_whole idn e entries log bytes is complete = (
    setting idn.raw 0 e ∷ added_by_setting idn.raw (second_of (e ∷ entries)),
    sets_and_cancels idn blocks e entries log is ∙ ap (λ (v : Bool). cancelled_by idn.raw v e ++ (added_by_setting idn.raw (second_of (e ∷ entries)) ++ writes_of log)) (ap is_complete complete),
    ap (λ (l : List Given). gives idn.raw (0 ∷ 0 ∷ []) ∷ l)
        (by entries is (three_before idn e entries (complete_is (request.Command idn) e.answer (replies_of entries) bytes complete).1)),
  )
    where
      by : (entries : List Entry) → IsTransfer (request.Command idn) blocks e entries log → 3 ≤ length entries → map given_of (added_by_setting idn.raw (second_of (e ∷ entries))) ≡ gives idn.raw (3 ∷ 0 ∷ []) ∷ []
      by [] is two = absurd (omega arith)
      by (d ∷ []) is two = absurd (omega arith)
      by (d ∷ o ∷ past) is two = is_set idn d (o ∷ past) is.in_turn is.goes_on (omega arith)

  commanded : (idn : Idn) (b : Block) (e : Entry) (entries log : List Entry) (answers : List Answer) → find_block idn.raw blocks ≡ Some b → b.attribute.command ≡ true → (phase : ℕ) → AreInPhase phase (e ∷ entries) →
      IsTransfer (request.Command idn) blocks e entries log → Took (request.Command idn) e entries answers → Wrote blocks (with (request.Command idn) answers) (e ∷ entries) log
  commanded idn b e entries log answers found command phase at is took = by (ends_so (request.Command idn) (replies_of (e ∷ entries))) took
    where
      by : Ends (request.Command idn) (replies_of (e ∷ entries)) → Took (request.Command idn) e entries answers → Wrote blocks (with (request.Command idn) answers) (e ∷ entries) log
      by (GoesOn on) (All same) = command_front idn e entries log answers is (ap is_complete on) (ap (outcome_of (request.Command idn)) same ∙ on)
      by (GoesOn on) (AllButOne same before) = command_front idn e entries log answers is (ap is_complete on) before
      by (IsWhole x complete) (All same) = let w = command_whole idn e entries log x is complete in record { own = w.0; adds = w.1; writes = Complete x (ap (outcome_of (request.Command idn)) same ∙ complete) (b, found) w.2 }
      by (IsWhole x complete) (AllButOne same before) = let w = command_whole idn e entries log x is complete in record { own = w.0; adds = w.1; writes = Broken 0 before w.2 }
      by (IsRefused code refused) (All same) = record {
        own = [];
        adds = refused_adds_nothing idn blocks b e entries log code found command (λ on. protected_so b.attribute phase e.processed.phase entries at.1 at.0 on) is refused;
        writes = Refused code (ap (outcome_of (request.Command idn)) same ∙ refused) refl;
      }
      by (IsRefused code refused) (AllButOne same before) = command_front idn e entries log answers is (ap is_complete refused) before

  -- each transfer
  wrote : (r : Request) (e : Entry) (entries log : List Entry) (answers : List Answer) → IsSound blocks r → (phase : ℕ) → AreInPhase phase (e ∷ entries) → IsTransfer r blocks e entries log → Took r e entries answers → Wrote blocks (with r answers) (e ∷ entries) log
  wrote (request.Read idn e) s entries log answers sound phase at is took = adds_nothing (request.Read idn e) s entries log answers (λ has. refl) is took (writes_nothing (request.Read idn e) blocks s entries log refl is)
  wrote (request.Write idn e bytes) s entries log answers sound phase at is took = elim (cases_Bool (e == 7)) [
    | inl on ↦ of_data (find_block idn.raw blocks) refl (eqb-true e 7 on)
    | inr off ↦ adds_nothing (request.Write idn e bytes) s entries log answers (λ has. cond-false (e == 7) _ [] off) is took (writes_nothing (request.Write idn e bytes) blocks s entries log (ap not off) is)
  ]
    where
      of_data : (o : Option Block) → find_block idn.raw blocks ≡ o → e ≡ 7 → Wrote blocks (with (request.Write idn e bytes) answers) (s ∷ entries) log
      of_data (Some b) found seven = rw seven (written idn bytes b s entries log answers sound.1 found (rw seven at is) (rw seven at took))
      of_data None none seven = rw seven (adds_nothing (request.Write idn 7 bytes) s entries log answers (λ has. ap (written_to idn.raw bytes) none) (rw seven at is) (rw seven at took) (writes_nowhere (request.Write idn 7 bytes) blocks s entries log none (rw seven at is)))
  wrote (request.Command idn) s entries log answers sound phase at is took = elim (cases_Option (find_block idn.raw blocks)) [
    | inl none ↦ let command = rw none at sound in adds_nothing (request.Command idn) s entries log answers (λ has. let found = has.1 in
        absurd (cc)) is took
        (writes_nowhere (request.Command idn) blocks s entries log none is)
    | inr found ↦ let command = rw found.1 at sound in commanded idn found.0 s entries log answers found.1 command phase at is took
  ]

  -- a complete read
  read_exactly : (r : Request) (s : Entry) (entries log : List Entry) (answers : List Answer) → IsSound blocks r → IsTransfer r blocks s entries log → Took r s entries answers → ReadsExactly blocks (with r answers) (s ∷ entries)
  read_exactly r s entries log answers sound is (AllButOne same on) idn e bytes names complete = absurd (cc)
  read_exactly r s entries log answers sound is (All same) idn e bytes names complete =
      by (find_block idn.raw blocks) refl (subst (IsSound blocks) names sound) (subst (λ (q : Request). IsTransfer q blocks s entries log) names is) (ap (λ (q : Request). outcome_of q (replies_of (s ∷ entries))) (sym names) ∙ ap (outcome_of r) (sym same) ∙ complete)
    where
      by : (o : Option Block) → find_block idn.raw blocks ≡ o → IsSound blocks (request.Read idn e) → IsTransfer (request.Read idn e) blocks s entries log → outcome_of (request.Read idn e) (replies_of (s ∷ entries)) ≡ Some (outcome.Complete bytes) →
          (block : Block) × (find_block idn.raw blocks ≡ Some block) × (selection : Entry) × (entry_behind (steps_before e) (s ∷ entries) ≡ Some selection) × IsReadAt idn.raw e block bytes selection.processed
      by None none range t whole = absurd (unknown_incomplete (request.Read idn e) blocks s entries log bytes none t whole)
      by (Some b) found range t whole = let got = reads_once idn e bytes blocks b s entries log range.0 range.1 found (small idn.raw b found) t whole in (b, found, got.0, got.1, got.2)

  -- a complete setting of a procedure command
  ends_exactly : (r : Request) (s : Entry) (entries log : List Entry) (answers : List Answer) → IsTransfer r blocks s entries log → Took r s entries answers → EndsExactly (with r answers) (s ∷ entries)
  ends_exactly r s entries log answers is (AllButOne same on) idn bytes names complete = absurd (cc)
  ends_exactly r s entries log answers is (All same) idn bytes names complete =
      ends_with_status idn bytes blocks s entries log (subst (λ (q : Request). IsTransfer q blocks s entries log) names is) (ap (λ (q : Request). outcome_of q (replies_of (s ∷ entries))) (sym names) ∙ ap (outcome_of r) (sym same) ∙ complete)

  -- a part of the log
  pub record PartIs (b : Begun) (part rest : List Entry) : Type 0 where
    pub own : List Write
    pub adds : writes_of (part ++ rest) ≡ own ++ writes_of rest
    pub exact : IsExact blocks b part own

  named_so : (r : Request) → IsSound blocks r → IsNamed r
  named_so (request.Read idn e) sound = tt
  named_so (request.Write idn e bytes) sound = sound.0
  named_so (request.Command idn) sound = tt

  of_row : (b : Begun) (e : Entry) (entries rest : List Entry) → IsSound blocks b.request → AreReplies (e ∷ entries) rest → HaveBlocks blocks (e ∷ entries) → IsSteady ((e ∷ entries) ++ rest) → IsRow b e entries → Took b.request e entries b.answers →
      IsPart b (e ∷ entries) → PartIs b (e ∷ entries) rest
  of_row b e entries rest sound replies alike steady row took part =
      let is = make_transfers b blocks e entries rest row replies alike in
      let at = in_one_phase b.request blocks e entries rest (named_so b.request sound) steady is in
      let w = wrote b.request e entries rest b.answers sound e.processed.phase at is took in record {
        own = w.own;
        adds = w.adds;
        exact = record { part_of = part; in_phase = (e.processed.phase, at); writes = w.writes; reads = read_exactly b.request e entries rest b.answers sound is took; ends = ends_exactly b.request e entries rest b.answers is took };
      }

  pub part_is : (b : Begun) (part rest : List Entry) → IsSound blocks b.request → AreReplies part rest → HaveBlocks blocks part → IsSteady (part ++ rest) → IsPart b part → PartIs b part rest
  part_is b part rest sound replies alike steady (Unsent none unheard) = record {
    own = [];
    adds = ap (λ (l : List Entry). writes_of (l ++ rest)) none;
    exact = record {
      part_of = Unsent none unheard;
      in_phase = (0, subst (AreInPhase 0) (sym none) tt);
      writes =
          Broken (length (given_by blocks b.request)) (ap (outcome_of b.request) unheard) (sym (drop-length (given_by blocks b.request)));
      reads = λ idn e bytes names complete. let goes_on : outcome_of b.request b.answers ≡ None = ap (outcome_of b.request) unheard in absurd (cc);
      ends = λ idn bytes names complete. let goes_on : outcome_of b.request b.answers ≡ None = ap (outcome_of b.request) unheard in absurd (cc);
    };
  }
  part_is b part rest sound replies alike steady (Heard e entries those row answers) =
      rw those (of_row b e entries rest sound (rw those at replies) (rw those at alike) (rw those at steady) row (All answers)
      (Heard e entries refl row answers))
  part_is b part rest sound replies alike steady (Unheard e entries those row answers) =
      rw those (of_row b e entries rest sound (rw those at replies) (rw those at alike) (rw those at steady) row
      (AllButOne answers (ap (outcome_of b.request) answers ∙ row.goes_on)) (Unheard e entries refl row answers))
