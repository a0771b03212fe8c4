-- All transfers of a run are exact, through all epochs.
use Rattle.sercos_law_channel.proofs.Words.{◌≡◌, ◌⊎◌, inl, inr, ℕ, ◌+◌, Bool, true, false, List, [], ◌∷◌, ◌++◌, length, refl, sym, ap, ◌∙◌, subst, arith, if◌then◌else◌, append_assoc, cond_both, Option, Some, None, IsSome, IfSome, is_some, beq, Answer, Request, Block, CommandHistory, change_in, Shown, channel_says, shown_by, Processed, Entry, ahs, accepted, reply_of, answered, log_of, Write, AreAlike, writes_of, Begun, open_in, answers_it, answer_in, with_answer, master_says, AreInStep, said_in, AreInTurn, AreParts, AreReplies, HaveBlocks, Heard, View, standing, stood_in, record_in, with_record, command, with_heard, with_begun, unless_restart, epoch_begun, begun_in, epoch_records, records_in_views, epoch_log, log_in, IsShown, IsRun, leaving, begun_ago, all_begun, all_writes, IsSound, AreSound, AreSmall, AreExact, RunsAreExact, cond-false}
use Rattle.sercos_law_channel.proofs.Handshake.HandshakeMoves.{ahs-shown, ahs-log, log-taken}
use Rattle.sercos_law_channel.proofs.Handshake.LogParts.{heard_in_turn, fall_into_parts}
use Rattle.sercos_law_channel.proofs.Handshake.PhaseMoves.{processed_phase, uncut, of_processed}
use Rattle.sercos_law_channel.proofs.Handshake.EpochRuns.{joined, restarted, shown_of, heard_of, begun_of, said_of, in_step, in_step_in}
use Rattle.sercos_law_channel.proofs.Handshake.OnePhase.{IsSteady, IsLevel, heard_level, begun_level, taken_level}
use Rattle.sercos_law_channel.proofs.Handshake.WholeRuns.{HasReplies, answered_replies, entries_ago, writes_ago, entries_in_epochs, writes_in_epochs}
use Rattle.sercos_law_channel.proofs.Handshake.ExactTransfers.{part_is}

-- the requests are sound
abbrev AreAllSound : List Block → List Begun → Type 0
AreAllSound blocks [] = Unit {0}
AreAllSound blocks (b ∷ past) = AreAllSound blocks past × IsSound blocks b.request

-- a log in two
pub split_replies : (part rest : List Entry) → HasReplies (part ++ rest) → AreReplies part rest × HasReplies rest
split_replies [] rest has = (tt, has)
split_replies (e ∷ part) rest has = let behind = split_replies part rest has.0 in ((behind.0, has.1), behind.1)

pub split_blocks : (blocks : List Block) (part rest : List Entry) → HaveBlocks blocks (part ++ rest) → HaveBlocks blocks part × HaveBlocks blocks rest
split_blocks blocks [] rest have = (tt, have)
split_blocks blocks (e ∷ part) rest have = let behind = split_blocks blocks part rest have.0 in ((behind.0, have.1), behind.1)

split_steady : (part rest : List Entry) → IsSteady (part ++ rest) → IsSteady rest
split_steady [] rest steady = steady
split_steady (e ∷ part) rest steady = split_steady part rest steady.0

module _ (blocks : List Block) (small : AreSmall blocks) where
  -- the parts of one epoch
  parts_exact : (begun : List Begun) (log : List Entry) → AreParts begun log → AreAllSound blocks begun → HasReplies log → HaveBlocks blocks log → IsSteady log → AreExact blocks begun log (writes_of log)
  parts_exact [] log none sound replies alike steady = (none, ap writes_of none)
  parts_exact (b ∷ past) log (part, rest, those, of, others) sound replies alike steady =
      let replies_split = split_replies part rest (subst HasReplies those replies) in
      let blocks_split = split_blocks blocks part rest (subst (HaveBlocks blocks) those alike) in
      let whole : IsSteady (part ++ rest) = subst IsSteady those steady in
      let is = part_is blocks small b part rest sound.1 replies_split.0 blocks_split.0 whole of in
      (part, rest, is.own, writes_of rest, those, ap writes_of those ∙ is.adds, is.exact, parts_exact past rest others sound.0 replies_split.1 blocks_split.1 (split_steady part rest whole))

-- one after the other
exact-append : (blocks : List Block) (xs ys : List Begun) (es fs : List Entry) (ws us : List Write) → AreExact blocks xs es ws → AreExact blocks ys fs us → AreExact blocks (xs ++ ys) (es ++ fs) (ws ++ us)
exact-append blocks [] ys es fs ws us none more =
    subst (λ (l : List Entry). AreExact blocks ys (l ++ fs) (ws ++ us)) (sym none.0) (subst (λ (l : List Write). AreExact blocks ys fs (l ++ us)) (sym none.1) more)
exact-append blocks (b ∷ xs) ys es fs ws us (part, rest, own, others, entries, writes, is, behind) more = (
  part,
  rest ++ fs,
  own,
  others ++ us,
  ap (λ (l : List Entry). l ++ fs) entries ∙ append_assoc part rest fs,
  ap (λ (l : List Write). l ++ us) writes ∙ append_assoc own others us,
  is,
  exact-append blocks xs ys rest fs others us behind more,
)

-- What is so of the requests and the log of an epoch, in a phase.
pub record IsEpoch (blocks : List Block) (phase : ℕ) (begun : List Begun) (taken : List Processed) : Type 0 where
  pub in_turn : AreInTurn begun
  pub sound : AreAllSound blocks begun
  pub alike : HaveBlocks blocks (log_of taken)
  level : IsLevel phase begun (log_of taken)

module _ (blocks : List Block) where
  at_start : (phase : ℕ) → IsEpoch blocks phase [] []
  at_start phase = record { in_turn = tt; sound = tt; alike = tt; level = record { steady = tt; level = λ some which. tt } }

  answered_sound : (a : Answer) (begun : List Begun) → AreAllSound blocks begun → AreAllSound blocks (with_answer a begun)
  answered_sound a [] sound = tt
  answered_sound a (b ∷ past) sound = sound

  heard_epoch : (phase busy cycle : ℕ) (showing : CommandHistory) (a : Heard) (begun : List Begun) (taken : List Processed) → AreInStep begun (log_of taken) →
      (begun ≡ []) ⊎ (shown_by a.status a.word ≡ channel_says busy cycle showing taken) → IsEpoch blocks phase begun taken → IsEpoch blocks phase (with_heard (Some a) begun) taken
  heard_epoch phase busy cycle showing a begun taken h (inl none) is = subst (λ (b : List Begun). IsEpoch blocks phase b taken) (sym (ap (with_heard (Some a)) none ∙ sym none)) is
  heard_epoch phase busy cycle showing a begun taken h (inr says) is = record {
    in_turn = heard_in_turn (is_some (open_in begun)) _ (answer_in a.status a.word) begun refl is.in_turn;
    sound = cond_both (answers_it begun a.status) (with_answer (answer_in a.status a.word) begun) begun (AreAllSound blocks)
        (λ on. answered_sound (answer_in a.status a.word) begun is.sound) (λ off. is.sound);
    alike = is.alike;
    level = heard_level phase begun (log_of taken) a.status a.word h
        (ap (λ (s : Shown). s.ahs) says ∙ ahs-shown busy cycle (ahs taken) (change_in showing cycle) (log_of taken) ∙ ahs-log taken)
        is.level;
  }

  begun_epoch : (phase : ℕ) (o : Option Request) (begun : List Begun) (taken : List Processed) → AreInStep begun (log_of taken) → (IsSome o → open_in begun ≡ None) → IfSome o (λ r. IsSound blocks r) → IsEpoch blocks phase begun taken → IsEpoch blocks phase (with_begun o begun) taken
  begun_epoch phase None begun taken h shut sound is = is
  begun_epoch phase (Some r) begun taken h shut sound is = record {
    in_turn = (is.in_turn, (shut refl, tt));
    sound = (is.sound, sound);
    alike = is.alike;
    level = begun_level phase begun (log_of taken) r h (shut refl) is.level;
  }

  taken_epoch : (phase : ℕ) (t : Processed) (begun : List Begun) (taken : List Processed) → AreInStep begun (log_of taken) → said_in t ≡ master_says begun → t.phase ≡ phase → AreAlike t.blocks blocks → IsEpoch blocks phase begun taken → IsEpoch blocks phase begun (t ∷ taken)
  taken_epoch phase t begun taken h says at alike is = record {
    in_turn = is.in_turn;
    sound = is.sound;
    alike = cond_both (beq t.mhs (ahs taken)) (accepted taken) (t ∷ accepted taken) (λ v. HaveBlocks blocks (answered v)) (λ on. is.alike)
        (λ off. (is.alike, alike));
    level = subst (IsLevel phase begun) (sym (log-taken t taken)) (taken_level phase begun (log_of taken) t (reply_of t (log_of taken)) h says at is.level);
  }

  -- a rise, where no step is open
  risen : (phase later : ℕ) (begun : List Begun) (taken : List Processed) → open_in begun ≡ None → IsEpoch blocks phase begun taken → IsEpoch blocks later begun taken
  risen phase later begun taken shut is = record {
    in_turn = is.in_turn;
    sound = is.sound;
    alike = is.alike;
    level = record { steady = is.level.steady; level = λ some which. let none : is_some (open_in begun) ≡ false = ap is_some shut in absurd (cc) };
  }

  module _ (busy : ℕ) where
    in_cycle : (v : View) (past : List View) → IsRun busy (v ∷ past) → AreSound blocks (v ∷ past) → IsEpoch blocks (command past) (epoch_begun past) (epoch_records past) → IsEpoch blocks v.phase (begun_in v past) (records_in_views v past)
    in_cycle v past run sound is =
        let taken = unless_restart v (epoch_records past) in
        let begun = unless_restart v (epoch_begun past) in
        let h0 = restarted busy v (epoch_begun past) (epoch_records past) (in_step busy past run.0) in
        let h1 = heard_of busy v past run (joined busy past run.0) v.heard run.1.heard h0 in
        let second : IsEpoch blocks v.phase (with_heard v.heard begun) taken = heard_any v.heard run.1.heard h0
        (uncut (IsEpoch blocks v.phase) v.master_restarts (epoch_begun past) (epoch_records past) (at_start v.phase)
        (λ still. subst (λ (p : ℕ). IsEpoch blocks p (epoch_begun past) (epoch_records past))
        (sym (run.1.commanded ∙ cond-false v.master_restarts 0 (command past) still)) is)) in
        let third : IsEpoch blocks v.phase (begun_in v past) taken = begun_epoch v.phase v.begins (with_heard v.heard begun) taken h1 run.1.begins sound.1.1 second in
        of_processed v past (λ o. IsEpoch blocks v.phase (begun_in v past) (with_record o taken)) third
        (λ s got came up. taken_epoch v.phase (record_in v (length past) (stood_in v (standing past)) s) (begun_in v past) taken
        (begun_of busy v.begins (with_heard v.heard begun) taken run.1.begins h1) (said_of busy v past run.1.sent s got)
        (processed_phase v past came (omega arith)) sound.1.0 third)
      where
        heard_any : (o : Option Heard) → IfSome o (λ a. IsShown busy a v past) → AreInStep (unless_restart v (epoch_begun past)) (log_of (unless_restart v (epoch_records past))) →
            IsEpoch blocks v.phase (unless_restart v (epoch_begun past)) (unless_restart v (epoch_records past)) → IsEpoch blocks v.phase (with_heard o (unless_restart v (epoch_begun past))) (unless_restart v (epoch_records past))
        heard_any None shown h was = was
        heard_any (Some a) shown h was =
            heard_epoch v.phase busy (length past) v.showing a (unless_restart v (epoch_begun past)) (unless_restart v (epoch_records past)) h (shown_of busy v past run (joined busy past run.0) a shown) was

    after_cycle : (v : View) (past : List View) → IsRun busy (v ∷ past) → IsEpoch blocks v.phase (begun_in v past) (records_in_views v past) → IsEpoch blocks (command (v ∷ past)) (epoch_begun (v ∷ past)) (epoch_records (v ∷ past))
    after_cycle v past run is = by v.falls v.rises refl
      where
        by : (falls rises : Bool) → v.rises ≡ rises → IsEpoch blocks (if falls then 0 else (if rises then v.phase + 1 else v.phase)) (if falls then [] else begun_in v past) (if falls then [] else records_in_views v past)
        by true rises on = at_start 0
        by false true on = risen v.phase (v.phase + 1) (begun_in v past) (records_in_views v past) (run.1.rests on) is
        by false false on = is

    pub epoch : (past : List View) → IsRun busy past → AreSound blocks past → IsEpoch blocks (command past) (epoch_begun past) (epoch_records past)
    epoch [] run sound = at_start 0
    epoch (v ∷ past) run sound = after_cycle v past run (in_cycle v past run sound (epoch past run.0 sound.0))

    module _ (small : AreSmall blocks) where
      epoch_exact : (past : List View) → IsRun busy past → AreSound blocks past → AreExact blocks (epoch_begun past) (epoch_log past) (writes_of (epoch_log past))
      epoch_exact past run sound =
          let is = epoch past run sound in
          parts_exact blocks small (epoch_begun past) (epoch_log past) (fall_into_parts (epoch_begun past) (epoch_log past) is.in_turn (in_step busy past run)) is.sound (answered_replies (accepted (epoch_records past))) is.alike is.level.steady

      pub cycle_exact : (v : View) (past : List View) → IsRun busy (v ∷ past) → AreSound blocks (v ∷ past) → AreExact blocks (begun_in v past) (log_in v past) (writes_of (log_in v past))
      cycle_exact v past run sound =
          let is = in_cycle v past run sound (epoch past run.0 sound.0) in
          parts_exact blocks small (begun_in v past) (log_in v past) (fall_into_parts (begun_in v past) (log_in v past) is.in_turn (in_step_in busy v past run)) is.sound (answered_replies (accepted (records_in_views v past))) is.alike is.level.steady

      left_exact : (ends : Bool) (xs ago : List Begun) (es fs : List Entry) (ws us : List Write) → AreExact blocks xs es ws → AreExact blocks ago fs us → AreExact blocks (leaving ends xs ago) (leaving ends es fs) (leaving ends ws us)
      left_exact true xs ago es fs ws us is behind = exact-append blocks xs ago es fs ws us is behind
      left_exact false xs ago es fs ws us is behind = behind

      ago_exact : (past : List View) → IsRun busy past → AreSound blocks past → AreExact blocks (begun_ago past) (entries_ago past) (writes_ago past)
      ago_exact [] run sound = (refl, refl)
      ago_exact (v ∷ past) run sound =
          left_exact v.falls (begun_in v past) (leaving v.master_restarts (epoch_begun past) (begun_ago past)) (log_in v past) (leaving v.master_restarts (epoch_log past) (entries_ago past)) (writes_of (log_in v past)) (leaving v.master_restarts (writes_of (epoch_log past)) (writes_ago past))
          (cycle_exact v past run sound)
          (left_exact v.master_restarts (epoch_begun past) (begun_ago past) (epoch_log past) (entries_ago past) (writes_of (epoch_log past)) (writes_ago past) (epoch_exact past run.0 sound.0) (ago_exact past run.0 sound.0))

pub runs_are_exact : (busy : ℕ) → RunsAreExact busy
runs_are_exact busy blocks past small run sound =
    subst (λ (l : List Entry). AreExact blocks (all_begun past) l (all_writes past)) (sym (entries_in_epochs busy past run))
    (subst (λ (l : List Write). AreExact blocks (all_begun past) (epoch_log past ++ entries_ago past) l) (sym (writes_in_epochs busy past run))
    (exact-append blocks (epoch_begun past) (begun_ago past) (epoch_log past) (entries_ago past) (writes_of (epoch_log past)) (writes_ago past) (epoch_exact blocks busy small past run sound) (ago_exact blocks busy small past run sound)))
