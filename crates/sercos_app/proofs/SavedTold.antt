-- What each way in which the top call can end says for the clauses on `backup` and `restore`.
use Rattle.std.proofs.Common.{◌≡◌, ◌≢◌, ◌⊎◌, inl, inr, ℕ, ◌<◌, ◌≤◌, Bool, true, false, if◌then◌else◌, List, length, Option, Some, None, Result, Ok, Err, refl, sym, ◌∙◌, ap, subst, arith}
use Rattle.std.specs.Prelude.{nat_le}
use Rattle.std.specs.List.{flat_map}
use Rattle.std.specs.Io.KnownBytes.{Appends}
use Rattle.std.proofs.lemmas.Bool.Decides.{nat_tests}
use Rattle.sercos_io.specs.declared.status.Status.{Status}
use Rattle.sercos_io.specs.declared.status.Status.TheVariants.{Done, No, Refused}
use Rattle.sercos_step.specs.declared.request.Job.{Job}
use Rattle.sercos_block.specs.Views.{RingView}
use Rattle.sercos_words.specs.declared.form.Form.TheVariants.{Backup, Restore}
use Rattle.sercos_words.specs.Form.{form_of, reads_input}
use Rattle.sercos_script.specs.Links.{Carry, Restarts}
use Rattle.sercos_document.specs.declared.refusal.BadDocument.{BadDocument}
use Rattle.sercos_config.specs.Views.{DocumentView}
use Rattle.sercos_config.specs.Document.{document_of}
use Rattle.sercos_law_run.specs.Journal.Runs.{run_of}
use Rattle.sercos_law_run.specs.Undisturbed.StopsLater.{IsRight}
use Rattle.sercos_answer.specs.Answer.{Answer}
use Rattle.sercos_backup.specs.declared.tracked.Tracked.{Tracked}
use Rattle.sercos_backup.specs.Jobs.{list_jobs, place_of_other}
use Rattle.sercos_backup.specs.Tracking.{are_well}
use Rattle.sercos_backup.specs.Texts.{saved_lines, saved_answer, failed_answer, many_answer, restored_line}
use Rattle.sercos_app.specs.Answer.{command_answer}
use Rattle.sercos_opened.specs.Kept.{script_carry, script_restarts}
use Rattle.sercos_app.specs.Saving.{run_tracked, data_answer, lists_answer, ring_saved, last_data, writes_answer, ring_restored, answer_by, backup_answer, restore_answer}
use Rattle.sercos_app.specs.Saved.{GoWell, IsSaved, SavesItsRing, RestoresItsRing, second_jobs}
use Rattle.sercos_call.specs.TopCall.{writes_nothing, ReadsWhole}
use Rattle.sercos_app.specs.TopCall.{IsRefused, IsUnsaved, BackupSaved, BackupFailed, RestoreTold}
use Rattle.sercos_app.specs.TopCall.IsUnsaved.{lists_failed, too_many, blocks_failed}
use Rattle.sercos_app.specs.TopCall.IsRefused.{lists_refused, many_listed, blocks_refused}
use Rattle.sercos_call.specs.Outcome.{SourceChange, SinkChange}
use Rattle.sercos_app.specs.Outcome.{Ends}
use Rattle.sercos_app.proofs.Outcomes.{answered_by, done_whole, no_whole}
use Rattle.sercos_app.proofs.SavedRuns.{restored_clear, saved_clear}

-- what a document says that isn't refused
record IsAnswerOf (answer : RingView → List Job → Carry → Restarts → Answer) (document : Result DocumentView BadDocument) : Type 0 where
  says : DocumentView
  read : document ≡ Ok says
  is : answer_by answer document ≡ answer says.setup says.jobs (script_carry says) (script_restarts says)

not_refused : (answer : RingView → List Job → Carry → Restarts → Answer) (document : Result DocumentView BadDocument) → (answer_by answer document).status ≢ Refused
    → IsAnswerOf answer document
unfolding answer_by
not_refused answer (Ok d) given = record { says = d; read = refl; is = refl }
not_refused answer (Err bad) given = absurd (given refl)

-- one of two answers
one_of : (b : Bool) (x y : Answer) → ((b ≡ true) × ((if b then x else y) ≡ x)) ⊎ ((b ≡ false) × ((if b then x else y) ≡ y))
one_of true x y = inl (refl, refl)
one_of false x y = inr (refl, refl)

done_not_no : {s : Status} → s ≡ Done → s ≡ No → ⊥
done_not_no done says_no = never (sym done ∙ says_no)
  where
    never : Done ≡ No → ⊥
    never e = cc

first_done : (b : Bool) (x y : Answer) → (if b then x else y).status ≡ Done → y.status ≡ No → (b ≡ true) × ((if b then x else y) ≡ x)
first_done true x y done says_no = (refl, refl)
first_done false x y done says_no = absurd (done_not_no done says_no)

-- BACKUP.
record SavesAll (r : RingView) (jobs : List Job) (carry : Carry) (restarts : Restarts) : Type 0 where
  few : length jobs ≤ 4096
  blocks : are_well false (run_tracked r jobs carry restarts) ≡ true
  text : (data_answer r carry restarts jobs).output ≡ saved_lines (run_tracked r jobs carry restarts)

saves_all : (r : RingView) (jobs : List Job) (carry : Carry) (restarts : Restarts) → (data_answer r carry restarts jobs).status ≡ Done → SavesAll r jobs carry restarts
unfolding data_answer
saves_all r jobs carry restarts done =
    let list : List Tracked = run_tracked r jobs carry restarts in
    let one = first_done (nat_le (length jobs) 4096) (saved_answer list) (many_answer (length jobs)) done refl in
    let two = first_done (are_well false list) (record { status = Done; output = saved_lines list }) (failed_answer false list) (sym (ap (λ (x : Answer). x.status) one.1) ∙ done) refl in
    let test = one.0 in
    record { few = grind (arith, nat_tests); blocks = two.0; text = ap (λ (x : Answer). x.output) one.1 ∙ ap (λ (x : Answer). x.output) two.1 }

record SavesLists (r : RingView) (carry : Carry) (restarts : Restarts) (jobs : List Job) : Type 0 where
  lists : are_well true (run_tracked r (list_jobs r) carry restarts) ≡ true
  all : SavesAll r (second_jobs r carry restarts) carry restarts
  text : (ring_saved r jobs carry restarts).output ≡ saved_lines (run_tracked r (second_jobs r carry restarts) carry restarts)

saves_lists : (r : RingView) (jobs : List Job) (carry : Carry) (restarts : Restarts) → (ring_saved r jobs carry restarts).status ≡ Done → SavesLists r carry restarts jobs
unfolding lists_answer
saves_lists r jobs carry restarts done =
    let one = first_done (are_well true (run_tracked r (list_jobs r) carry restarts)) (data_answer r carry restarts (second_jobs r carry restarts)) (failed_answer true (run_tracked r (list_jobs r) carry restarts)) done refl in
    let all = saves_all r (second_jobs r carry restarts) carry restarts (sym (ap (λ (x : Answer). x.status) one.1) ∙ done) in
    record { lists = one.0; all = all; text = ap (λ (x : Answer). x.output) one.1 ∙ all.text }

blocks_unsaved : (r : RingView) (carry : Carry) (restarts : Restarts) → are_well true (run_tracked r (list_jobs r) carry restarts) ≡ true → (data_answer r carry restarts (second_jobs r carry restarts)).status ≡ No
    → IsUnsaved r carry restarts (data_answer r carry restarts (second_jobs r carry restarts)).output
unfolding data_answer
blocks_unsaved r carry restarts lists says_no =
    let jobs : List Job = second_jobs r carry restarts in
    let list : List Tracked = run_tracked r jobs carry restarts in
    by (one_of (nat_le (length jobs) 4096) (saved_answer list) (many_answer (length jobs)))
    (one_of (are_well false list) (record { status = Done; output = saved_lines list }) (failed_answer false list)) says_no
  where
    by : ((nat_le (length (second_jobs r carry restarts)) 4096 ≡ true) × ((if nat_le (length (second_jobs r carry restarts)) 4096 then saved_answer (run_tracked r (second_jobs r carry restarts) carry restarts) else many_answer (length (second_jobs r carry restarts))) ≡ saved_answer (run_tracked r (second_jobs r carry restarts) carry restarts)))
        ⊎ ((nat_le (length (second_jobs r carry restarts)) 4096 ≡ false) × ((if nat_le (length (second_jobs r carry restarts)) 4096 then saved_answer (run_tracked r (second_jobs r carry restarts) carry restarts) else many_answer (length (second_jobs r carry restarts))) ≡ many_answer (length (second_jobs r carry restarts))))
        → ((are_well false (run_tracked r (second_jobs r carry restarts) carry restarts) ≡ true) × (saved_answer (run_tracked r (second_jobs r carry restarts) carry restarts) ≡ record { status = Done; output = saved_lines (run_tracked r (second_jobs r carry restarts) carry restarts) }))
        ⊎ ((are_well false (run_tracked r (second_jobs r carry restarts) carry restarts) ≡ false) × (saved_answer (run_tracked r (second_jobs r carry restarts) carry restarts) ≡ failed_answer false (run_tracked r (second_jobs r carry restarts) carry restarts)))
        → (if nat_le (length (second_jobs r carry restarts)) 4096 then saved_answer (run_tracked r (second_jobs r carry restarts) carry restarts) else many_answer (length (second_jobs r carry restarts))).status ≡ No
        → IsUnsaved r carry restarts (if nat_le (length (second_jobs r carry restarts)) 4096 then saved_answer (run_tracked r (second_jobs r carry restarts) carry restarts) else many_answer (length (second_jobs r carry restarts))).output
    by (inr many) two says_no =
        let test = many.0 in
        let above : 4096 < length (second_jobs r carry restarts) = grind (arith, nat_tests) in
        subst (λ (x : Answer). IsUnsaved r carry restarts x.output) (sym many.1) (too_many lists above)
    by (inl few) (inl well) says_no = absurd (done_not_no (ap (λ (x : Answer). x.status) (few.1 ∙ well.1)) says_no)
    by (inl few) (inr failed) says_no =
        let test = few.0 in
        let below : length (second_jobs r carry restarts) ≤ 4096 = grind (arith, nat_tests) in
        subst (λ (x : Answer). IsUnsaved r carry restarts x.output) (sym (few.1 ∙ failed.1)) (blocks_failed lists below failed.0)

unsaved : (r : RingView) (jobs : List Job) (carry : Carry) (restarts : Restarts) → (ring_saved r jobs carry restarts).status ≡ No → IsUnsaved r carry restarts (ring_saved r jobs carry restarts).output
unfolding lists_answer
unsaved r jobs carry restarts says_no =
    elim (one_of (are_well true (run_tracked r (list_jobs r) carry restarts)) (data_answer r carry restarts (second_jobs r carry restarts)) (failed_answer true (run_tracked r (list_jobs r) carry restarts))) [
      | inl well ↦ subst (λ (x : Answer). IsUnsaved r carry restarts x.output) (sym well.1) (blocks_unsaved r carry restarts well.0 (sym (ap (λ (x : Answer). x.status) well.1) ∙ says_no))
      | inr failed ↦ subst (λ (x : Answer). IsUnsaved r carry restarts x.output) (sym failed.1) (lists_failed failed.0)
    ]

-- the reason, if each request was answered
refused_told : (r : RingView) (carry : Carry) (restarts : Restarts) (text : List ℕ) → IsSaved r carry restarts → IsUnsaved r carry restarts text → IsRight r → GoWell r carry restarts → IsRefused r carry restarts text
refused_told r carry restarts text saved (lists_failed failed) right well =
    let answered = saved.lists.ends right well.lists.long well.lists.calm in
    subst (IsRefused r carry restarts) (sym (answered.failed true)) (lists_refused (answered.refused true failed))
refused_told r carry restarts text saved (too_many lists many) right well = many_listed many
refused_told r carry restarts text saved (blocks_failed lists few failed) right well =
    let run = well.blocks lists few in
    let answered = (saved.blocks lists few).ends right run.long run.calm in
    subst (IsRefused r carry restarts) (sym (answered.failed false)) (blocks_refused (answered.refused false failed))

saved_told : (carry : Carry) (restarts : Restarts) (bytes : List ℕ) (left left' held held' : Option (List ℕ)) → SavesItsRing bytes
    → (command_answer carry restarts Backup bytes).status ≡ Done → ReadsWhole left left' bytes → Appends held held' (command_answer carry restarts Backup bytes).output
    → BackupSaved left left' held held'
unfolding command_answer backup_answer
saved_told carry restarts bytes left left' held held' says at input written =
    let of = not_refused ring_saved (document_of bytes) (λ e. absurd (cc)) in
    let d = of.says in
    let all = saves_lists d.setup d.jobs (script_carry d) (script_restarts d) (sym (ap (λ (x : Answer). x.status) of.is) ∙ at) in
    record {
      bytes = bytes;
      read = input;
      says = d;
      document = of.read;
      lists = all.lists;
      few = all.all.few;
      blocks = all.all.blocks;
      runs = says d of.read;
      clear = saved_clear d (says d of.read);
      written = subst (Appends held held') (ap (λ (x : Answer). x.output) of.is ∙ all.text) written;
    }

unsaved_told : (carry : Carry) (restarts : Restarts) (bytes : List ℕ) (left left' held held' : Option (List ℕ)) → SavesItsRing bytes
    → (command_answer carry restarts Backup bytes).status ≡ No → ReadsWhole left left' bytes → Appends held held' (command_answer carry restarts Backup bytes).output
    → BackupFailed left left' held held'
unfolding command_answer backup_answer
unsaved_told carry restarts bytes left left' held held' says at input written =
    let of = not_refused ring_saved (document_of bytes) (λ e. absurd (cc)) in
    let d = of.says in
    record {
      bytes = bytes;
      read = input;
      says = d;
      document = of.read;
      text = (ring_saved d.setup d.jobs (script_carry d) (script_restarts d)).output;
      why = unsaved d.setup d.jobs (script_carry d) (script_restarts d) (sym (ap (λ (x : Answer). x.status) of.is) ∙ at);
      refused = refused_told d.setup (script_carry d) (script_restarts d) _ (says d of.read) (unsaved d.setup d.jobs (script_carry d) (script_restarts d) (sym (ap (λ (x : Answer). x.status) of.is) ∙ at));
      runs = says d of.read;
      clear = saved_clear d (says d of.read);
      written = subst (Appends held held') (ap (λ (x : Answer). x.output) of.is) written;
    }

pub at_saved : {carry : Carry} {restarts : Restarts} {words : List (List ℕ)} {source : SourceChange} {sink : SinkChange} {Unread Unwritten : Type 0} {status : Status} → Ends carry restarts words source sink Unread Unwritten status
    → status ≡ Done → form_of words ≡ Some Backup → BackupSaved source.left source.left' sink.held sink.held'
unfolding writes_nothing reads_input
at_saved out e f =
    let a = answered_by out Backup f (ap writes_nothing e) in
    let whole = done_whole _ _ Backup a.bytes _ _ a.ends e in
    saved_told _ _ a.bytes _ _ _ _ a.says whole.0 a.input whole.1

pub at_unsaved : {carry : Carry} {restarts : Restarts} {words : List (List ℕ)} {source : SourceChange} {sink : SinkChange} {Unread Unwritten : Type 0} {status : Status} → Ends carry restarts words source sink Unread Unwritten status
    → status ≡ No → form_of words ≡ Some Backup → BackupFailed source.left source.left' sink.held sink.held'
unfolding writes_nothing reads_input
at_unsaved out e f =
    let a = answered_by out Backup f (ap writes_nothing e) in
    let whole = no_whole _ _ Backup a.bytes _ _ a.ends e in
    unsaved_told _ _ a.bytes _ _ _ _ a.says whole.0 a.input whole.1

-- RESTORE.
record TellsAll (r : RingView) (jobs : List Job) (carry : Carry) (restarts : Restarts) (other : Option ℕ) (all : Bool) : Type 0 where
  writes : other ≡ None
  whole : are_well false (run_tracked r jobs carry restarts) ≡ all
  text : (writes_answer r jobs carry restarts other).output ≡ flat_map (restored_line (last_data r carry restarts (run_of r jobs carry restarts r.cycles))) (run_tracked r jobs carry restarts)

status_of : (b all : Bool) → (if b then Done else No) ≡ (if all then Done else No) → b ≡ all
status_of true true e = refl
status_of false false e = refl
status_of true false e = absurd (cc)
status_of false true e = absurd (cc)

not_refusal : (all : Bool) → Refused ≡ (if all then Done else No) → ⊥
not_refusal true e = cc
not_refusal false e = cc

tells_all : (r : RingView) (jobs : List Job) (carry : Carry) (restarts : Restarts) (other : Option ℕ) (all : Bool) → (writes_answer r jobs carry restarts other).status ≡ (if all then Done else No) → TellsAll r jobs carry restarts other all
unfolding writes_answer
tells_all r jobs carry restarts None all e = record { writes = refl; whole = status_of (are_well false (run_tracked r jobs carry restarts)) all e; text = refl }
tells_all r jobs carry restarts (Some place) all e = absurd (not_refusal all e)

restored_told : (carry : Carry) (restarts : Restarts) (all : Bool) (bytes : List ℕ) (left left' held held' : Option (List ℕ)) → RestoresItsRing bytes
    → (command_answer carry restarts Restore bytes).status ≡ (if all then Done else No) → ReadsWhole left left' bytes → Appends held held' (command_answer carry restarts Restore bytes).output
    → RestoreTold all left left' held held'
unfolding command_answer restore_answer
restored_told carry restarts all bytes left left' held held' says at input written =
    let of = not_refused ring_restored (document_of bytes) (λ e. not_refusal all (sym e ∙ at)) in
    let d = of.says in
    let tells = tells_all d.setup d.jobs (script_carry d) (script_restarts d) (place_of_other d.jobs) all (sym (ap (λ (x : Answer). x.status) of.is) ∙ at) in
    record {
      bytes = bytes;
      read = input;
      says = d;
      document = of.read;
      writes = tells.writes;
      run = says d of.read;
      clear = restored_clear d (says d of.read);
      whole = tells.whole;
      written = subst (Appends held held') (ap (λ (x : Answer). x.output) of.is ∙ tells.text) written;
    }

pub at_restored : {carry : Carry} {restarts : Restarts} {words : List (List ℕ)} {source : SourceChange} {sink : SinkChange} {Unread Unwritten : Type 0} {status : Status} → Ends carry restarts words source sink Unread Unwritten status
    → status ≡ Done → form_of words ≡ Some Restore → RestoreTold true source.left source.left' sink.held sink.held'
unfolding writes_nothing reads_input
at_restored out e f =
    let a = answered_by out Restore f (ap writes_nothing e) in
    let whole = done_whole _ _ Restore a.bytes _ _ a.ends e in
    restored_told _ _ true a.bytes _ _ _ _ a.says whole.0 a.input whole.1

pub at_unrestored : {carry : Carry} {restarts : Restarts} {words : List (List ℕ)} {source : SourceChange} {sink : SinkChange} {Unread Unwritten : Type 0} {status : Status} → Ends carry restarts words source sink Unread Unwritten status
    → status ≡ No → form_of words ≡ Some Restore → RestoreTold false source.left source.left' sink.held sink.held'
unfolding writes_nothing reads_input
at_unrestored out e f =
    let a = answered_by out Restore f (ap writes_nothing e) in
    let whole = no_whole _ _ Restore a.bytes _ _ a.ends e in
    restored_told _ _ false a.bytes _ _ _ _ a.says whole.0 a.input whole.1
