use Rattle.std.proofs.Common.{◌≡◌, inl, inr, true, false, ℕ, List, Option, Some, ◌∷◌, ◌++◌, take, length, [], refl, ap, ◌∙◌, arith}
use Rattle.sercos_model.proofs.StreamLemmas.{not_risen}
use Rattle.sercos_words.specs.Form.{form_of, reads_input}
use Rattle.sercos_script.specs.Links.{carried_clean, never_restarts}
use Rattle.sercos_app.specs.Answer.{answer_of}
use Rattle.sercos_c.specs.declared.slices.SliceSink.{SliceSink}
use Rattle.sercos_app.specs.TopCall.{NonePlanned, LeastPlanned, MarginsTold, ChainTold, ViolationTold, CleanTold, PlaceTold, AgreementTold, BreachTold, RunTraced, RunSummed, BackupSaved, BackupFailed, RestoreTold}
use Rattle.sercos_c.specs.Answers.{input_of, Told}
use Rattle.sercos_c.proofs.AnswerLemmas.{HasMore, appended, marks, whole, told, told_without, has_input, is_read, answered, take_none, taken_few, taken_full, faultless, unequal}
use Rattle.sercos_c.proofs.answer.answer_into.Goals as goal
use Rattle.sercos_c.proofs.answer.answer_into.Goals.{After-sercos}

abbrev front : SliceSink → List ℕ
front s = take s.place s.room.now

abbrev held : SliceSink → List ℕ
held s = s.room.ghost_name ∷ length s.room.now ∷ front s

more : (c : After-sercos) → HasMore (held c.args.sink.now) (held c.sercos.new.sink)
more c =
    let e = c.sercos.ensures in
    appended c.sercos.result _ _ (λ is. ap held (e.unwritten is)) (λ is. (_, (e.done is).written)) (λ is. (_, (e.no is).written))
    (λ is. elim (e.refused is) [ inl all ↦ (_, all.1.written) | inr short ↦ (_, short.1.written) ]) (λ is. (_, (e.write_fault is).1.written))

empty : (c : After-sercos) → front c.args.sink.now ≡ []
empty c = take_none _ _ c.requires.empty

all : (c : After-sercos) → held c.sercos.new.sink ≡ held c.args.sink.now ++ front c.sercos.new.sink
all c = whole _ _ _ _ _ _ (empty c) (more c)

tell : (c : After-sercos) (T : Option (List ℕ) → Option (List ℕ) → Option (List ℕ) → Option (List ℕ) → Type 0)
    → T (Some c.args.input.now) (Some c.sercos.new.source.bytes.now) (Some (held c.args.sink.now)) (Some (held c.sercos.new.sink)) → Told T c.args.input.now (front c.sercos.new.sink)
tell c T says = told T c.args.input.now c.sercos.new.source.bytes.now (held c.args.sink.now) (held c.sercos.new.sink) (front c.sercos.new.sink) (all c) says

pub returns-clause-same_reference : goal.returns-clause-same_reference
returns-clause-same_reference c = (marks _ _ _ _ _ _ (more c)).0

pub returns-clause-called : goal.returns-clause-called
returns-clause-called c =
    let e = c.sercos.ensures in
    let words = c.args.words.now in
    let input = c.args.input.now in
    let s = c.sercos.new.sink in
    let room = (marks _ _ _ _ _ _ (more c)).1 in
    record {
      no_form = e.no_form;
      too_long = λ some long.
          let (reads, more_bytes) = is_read (reads_input (form_of words)) input long in
          e.exceeds input refl more_bytes reads (not_risen 0 0 refl (omega arith));
      answered = λ some few.
          answered (answer_of carried_clean never_restarts words) (reads_input (form_of words)) input c.sercos.new.source.bytes.now (held c.args.sink.now) (held s) (front s) _ s.is_full c.sercos.result
          (all c) (taken_few _ _ _ room) (λ full. taken_full _ _ _ room (s.full full))
          (λ free. e.answers (input_of words input) (has_input _ input) few some (not_risen 0 0 refl (omega arith)) (faultless _ _ c.requires.fresh free))
          (λ is. (e.write_fault is).1)
          (λ full is. elim (e.refused is) [ inl same ↦ absurd (unequal _ _ c.requires.fresh full same.0) | inr short ↦ short.1 ])
          (λ full no_fault no_refusal. unequal _ _ c.requires.fresh full (e.write_well no_fault no_refusal));
      nothing = λ is. ap front (e.unwritten is) ∙ empty c;
      readable = λ is. not_risen 0 0 refl (omega arith) (e.read_fault is);
      promises = record {
        none_fits = λ is form. tell c NonePlanned (e.none_fits is form);
        least = λ is form. tell c LeastPlanned (e.least is form);
        margins = λ is form. tell c MarginsTold (e.margins is form);
        chain = λ is form. tell c ChainTold (e.chain is form);
        violation = λ is form. tell c ViolationTold (e.violation is form);
        clean = λ is form. tell c CleanTold (e.clean is form);
        differs = λ address is form. elim (e.differs address is form) [ inl place ↦ inl (tell c (PlaceTold address) place) | inr breach ↦ inr (tell c (BreachTold address) breach) ];
        agrees = λ address is form. tell c (AgreementTold address) (e.agrees address is form);
        traced = λ is form. tell c (RunTraced carried_clean never_restarts) (e.traced is form);
        summed = λ n is form. told_without (RunSummed carried_clean never_restarts n) (held c.args.sink.now) (held s) (front s) (all c) (e.summed n is form);
        saved = λ is form. tell c BackupSaved (e.saved is form);
        unsaved = λ is form. tell c BackupFailed (e.unsaved is form);
        restored = λ is form. tell c (RestoreTold true) (e.restored is form);
        unrestored = λ is form. tell c (RestoreTold false) (e.unrestored is form);
      };
    }
