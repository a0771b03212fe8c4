-- From the runs of a backup and of a restore to what they answer.
use Rattle.std.proofs.Common.{◌≡◌, ◌≢◌, ◌⊎◌, inl, inr, ℕ, ◌<◌, ◌≤◌, Bool, true, false, List, [], ◌++◌, length, Option, Some, None, Result, Ok, Err, IfOk, refl, sym, ap, ◌∙◌, subst, arith}
use Rattle.std.specs.Prelude.{nat_le, if◌then◌else◌}
use Rattle.std.specs.List.{flat_map}
use Rattle.std.proofs.lemmas.Bool.{true≢false}
use Rattle.std.proofs.lemmas.Bool.Decides.{nat_tests}
use Rattle.std.proofs.lemmas.List.{length-map}
use Rattle.sercos_io.specs.declared.status.Status.{Status}
use Rattle.sercos_io.specs.declared.status.Status.TheVariants.{Done, No, Refused, Memory}
use Rattle.sercos_step.specs.declared.request.Job.{Job}
use Rattle.sercos_step.specs.declared.request.Outcome.{Outcome}
use Rattle.sercos_block.specs.declared.block.Block.{Block}
use Rattle.sercos_block.specs.Views.{DriveView, RingView}
use Rattle.sercos_service_drive.specs.Replies.{data_in}
use Rattle.sercos_script.specs.declared.fault.Fault.{Fault}
use Rattle.sercos_script.specs.Links.{Carry, Restarts}
use Rattle.sercos_script.specs.Scripts.{carried, restarts_at}
use Rattle.sercos_law_run.specs.Journal.Runs.{run_of}
use Rattle.sercos_step.specs.Steps.{AreTypedJobs}
use Rattle.sercos_document.specs.declared.refusal.BadDocument.{BadDocument}
use Rattle.sercos_document.specs.declared.refusal.BadDocument.TheVariants as bads
use Rattle.sercos_document.specs.Lines.{line_of}
use Rattle.sercos_config.specs.Views.{DocumentView}
use Rattle.sercos_config.specs.Document.{document_of}
use Rattle.sercos_answer.specs.Answer.{Answer}
use Rattle.sercos_answer.specs.declared.reply.Reply.{Reply}
use Rattle.sercos_backup.specs.declared.tracked.Tracked.{Tracked}
use Rattle.sercos_backup.specs.Jobs.{list_number, reads_data, list_jobs, data_jobs, IsFault, place_of_other}
use Rattle.sercos_backup.specs.declared.jobs.DataJobs.{DataJobs}
use Rattle.sercos_backup.specs.declared.jobs.DataJobs.TheVariants.{TooMany}
use Rattle.sercos_backup.specs.Tracking.{tracked, are_well, list_told, lists_told}
use Rattle.sercos_backup.proofs.TrackLemmas.{tracked_count}
use Rattle.sercos_backup.specs.Texts.{saved_answer, many_answer, failed_answer, other_answer, restored_line}
use Rattle.sercos_call.specs.Outcome.{SinkChange, Writes, Replies}
use Rattle.sercos_call.specs.Outcome.Replies.{none_found, replied}
use Rattle.sercos_opened.specs.Kept.{script_carry, script_restarts}
use Rattle.sercos_call.specs.Giving.{IsReply, GivesReply}
use Rattle.sercos_app.specs.Saving.{run_tracked, data_answer, lists_answer, writes_answer, ring_restored, last_data, data_of, answer_by}
use Rattle.sercos_app.specs.Saved.{AreTypedIfFew, ReadsTyped}

-- Replies.
pub is_reply : {E : Type 0} (made : Result Reply E) (a b : Answer) → a ≡ b → IfOk made (λ reply. reply.status ≡ a.status) → IfOk made (λ reply. reply.text.items ≡ a.output) → IfOk made (λ reply. IsReply reply b)
is_reply (Ok reply) a b same status text = record { status = status ∙ ap (λ (x : Answer). x.status) same; text = text ∙ ap (λ (x : Answer). x.output) same }
is_reply (Err error) a b same status text = tt

pub same_reply : {E : Type 0} (made : Result Reply E) (a b : Answer) → a ≡ b → IfOk made (λ reply. IsReply reply a) → IfOk made (λ reply. IsReply reply b)
same_reply made a b same is = subst (λ (x : Answer). IfOk made (λ reply. IsReply reply x)) same is

pub reply_replies : {E : Type 0} (made : Result Reply E) (answer : Answer) (Says : Type 0) (sink : SinkChange) (Unwritten : Type 0) (status : Status)
    → IfOk made (λ reply. IsReply reply answer) → IfOk made (λ reply. Says) → GivesReply made sink Unwritten status → Replies answer Says sink Unwritten status
reply_replies (Ok reply) answer Says sink Unwritten status is says written = replied status says (rw (← is.status, ← is.text) written)
reply_replies (Err error) answer Says sink Unwritten status is says ended = subst (λ s. Replies answer Says sink Unwritten s) (sym ended.0) (none_found ended.1)

pub if_ok : {A E : Type 0} (made : Result A E) {Says : Type 0} → Says → IfOk made (λ x. Says)
if_ok (Ok x) says = says
if_ok (Err error) says = tt

pub if_unit : {A E : Type 0} (made : Result A E) → IfOk made (λ x. Unit {0})
if_unit made = if_ok made tt

pub IfOk-of : {A E : Type 0} (made : Result A E) {Says Other : Type 0} → (Says → Other) → IfOk made (λ x. Says) → IfOk made (λ x. Other)
IfOk-of (Ok x) more says = more says
IfOk-of (Err error) more says = tt

-- Backup.
pub data_few : (r : RingView) (carry : Carry) (restarts : Restarts) (jobs : List Job) → length jobs ≤ 4096 → saved_answer (run_tracked r jobs carry restarts) ≡ data_answer r carry restarts jobs
unfolding data_answer
data_few r carry restarts jobs few = let test : nat_le (length jobs) 4096 ≡ true = grind (arith, nat_tests) in rw test refl

pub data_many : (r : RingView) (carry : Carry) (restarts : Restarts) (jobs : List Job) (count : ℕ) → count ≡ length jobs → 4096 < length jobs → many_answer count ≡ data_answer r carry restarts jobs
unfolding data_answer
data_many r carry restarts jobs count is many = let test : nat_le (length jobs) 4096 ≡ false = grind (arith, nat_tests) in rw test (ap many_answer is)

pub lists_well : (r : RingView) (carry : Carry) (restarts : Restarts) (lists : List Tracked) → are_well true lists ≡ true → data_answer r carry restarts (data_jobs (lists_told lists)) ≡ lists_answer r carry restarts lists
unfolding lists_answer
lists_well r carry restarts lists well = rw well refl

pub lists_failed : (r : RingView) (carry : Carry) (restarts : Restarts) (lists : List Tracked) → are_well true lists ≡ false → failed_answer true lists ≡ lists_answer r carry restarts lists
unfolding lists_answer
lists_failed r carry restarts lists failed = rw failed refl

pub list_failed : (r : RingView) (carry : Carry) (restarts : Restarts) (said list lists : List Tracked) (well : Bool) → said ≡ lists → list ≡ lists → well ≡ are_well true list → well ≡ false
    → failed_answer true said ≡ lists_answer r carry restarts lists
list_failed r carry restarts said list lists well told same tested failed =
    ap (failed_answer true) told ∙ lists_failed r carry restarts lists (sym (ap (are_well true) same) ∙ sym tested ∙ failed)

pub list_well : (list lists : List Tracked) (well : Bool) → list ≡ lists → well ≡ are_well true list → well ≡ true → are_well true lists ≡ true
list_well list lists well same tested passed = sym (ap (are_well true) same) ∙ sym tested ∙ passed

pub few_lists : (r : RingView) (lists : List (ℕ × List ℕ)) (list : List Tracked) (jobs : List Job) (told : List (ℕ × Outcome)) → lists ≡ lists_told list → list ≡ tracked told jobs → jobs ≡ list_jobs r → length r.drives ≤ 64 → length lists ≤ 64
few_lists r lists list jobs told are made asked few =
    let one : length lists ≡ length list = ap length are ∙ length-map list list_told in
    let two : length list ≡ length jobs = ap length made ∙ tracked_count 1 told jobs in
    let three : length jobs ≡ length r.drives = ap length asked ∙ length-map r.drives (λ (d : DriveView). reads_data d.address list_number) in
    omega (arith, one, two, three, few)

-- what the types say of the requests
pub typed_few : (said jobs : List Job) → said ≡ jobs → AreTypedJobs said → AreTypedIfFew jobs
typed_few said jobs same typed = λ few. subst AreTypedJobs same typed

pub many_of : (jobs : List Job) (why : DataJobs) (count : ℕ) → why ≡ TooMany count → IsFault jobs why → (count ≡ length jobs) × (4096 < length jobs)
many_of jobs why count is fault = subst (IsFault jobs) is fault

pub typed_many : (jobs : List Job) → 4096 < length jobs → AreTypedIfFew jobs
typed_many jobs many = λ few. absurd (omega (arith, many, few))

pub typed_failed : (r : RingView) (carry : Carry) (restarts : Restarts) (list : List Tracked) (well : Bool) → list ≡ run_tracked r (list_jobs r) carry restarts → well ≡ are_well true list → well ≡ false → ReadsTyped r carry restarts
typed_failed r carry restarts list well same tested failed = λ passed. absurd (true≢false (sym passed ∙ sym (ap (are_well true) same) ∙ sym tested ∙ failed))

pub typed_second : (r : RingView) (carry : Carry) (restarts : Restarts) (lists : List (ℕ × List ℕ)) → lists ≡ lists_told (run_tracked r (list_jobs r) carry restarts) → AreTypedIfFew (data_jobs lists) → ReadsTyped r carry restarts
typed_second r carry restarts lists same typed = λ passed. subst (λ l. AreTypedIfFew (data_jobs l)) same typed

-- Restore.
pub other_place : (r : RingView) (said jobs : List Job) (carry : Carry) (restarts : Restarts) (place : ℕ) → said ≡ jobs → Some place ≡ place_of_other said → other_answer place ≡ ring_restored r jobs carry restarts
unfolding writes_answer
other_place r said jobs carry restarts place same is = rw (← ap place_of_other same, ← is) refl

pub restored_status : (r : RingView) (jobs : List Job) (carry : Carry) (restarts : Restarts) (list : List Tracked) (status : Status) → status ≡ (if are_well false list then Done else No) → list ≡ run_tracked r jobs carry restarts
    → status ≡ (writes_answer r jobs carry restarts None).status
unfolding writes_answer
restored_status r jobs carry restarts list status is same = is ∙ ap (λ xs. if are_well false xs then Done else No) same

pub restored_text : (r : RingView) (jobs : List Job) (carry : Carry) (restarts : Restarts) (list : List Tracked) (old new : List ℕ)
    → new ≡ old ++ flat_map (restored_line (last_data r carry restarts (run_of r jobs carry restarts r.cycles))) list → old ≡ [] → list ≡ run_tracked r jobs carry restarts
    → new ≡ (writes_answer r jobs carry restarts None).output
unfolding writes_answer
restored_text r jobs carry restarts list old new is none same =
    let F : Tracked → List ℕ = restored_line (last_data r carry restarts (run_of r jobs carry restarts r.cycles)) in
    is ∙ ap (λ xs. xs ++ flat_map F list) none ∙ ap (flat_map F) same

-- the operation data of a block
pub shown_block : (found : Option Block) (b : Block) (cycle : ℕ) (old new : List ℕ) → old ≡ [] → found ≡ Some b → new ≡ old ++ data_in cycle b → new ≡ data_of cycle found
shown_block found b cycle old new none is pushed = rw is (pushed ∙ ap (λ xs. xs ++ data_in cycle b) none)

-- A document, or its refusal.
answer_of : (answer : RingView → List Job → Carry → Restarts → Answer) (read : Result DocumentView BadDocument) (d : DocumentView) → read ≡ Ok d
    → answer d.setup d.jobs (script_carry d) (script_restarts d) ≡ answer_by answer read
unfolding answer_by
answer_of answer read d is = rw is refl

refusal_of : (answer : RingView → List Job → Carry → Restarts → Answer) (read : Result DocumentView BadDocument) (bad : BadDocument) → read ≡ Err bad
    → record { status = Refused; output = line_of bad } ≡ answer_by answer read
unfolding answer_by
refusal_of answer read bad is = rw is refl

no_document : (read : Result DocumentView BadDocument) (bad : BadDocument) (d : DocumentView) → read ≡ Err bad → read ≡ Ok d → ⊥
no_document (Ok said) bad d is too = cc
no_document (Err other) bad d is too = cc

one_document : (read : Result DocumentView BadDocument) (d other : DocumentView) → read ≡ Ok d → read ≡ Ok other → d ≡ other
one_document (Ok said) d other is too = let one : said ≡ d = cc in let same : said ≡ other = cc in sym one ∙ same
one_document (Err bad) d other is too = absurd (cc)

-- what an answer says of the document, if it is one
abbrev pub SaysOf : (DocumentView → Type 0) → List ℕ → Type 0
SaysOf Says bytes = (d : DocumentView) → document_of bytes ≡ Ok d → Says d

pub by_replies : (answer : RingView → List Job → Carry → Restarts → Answer) (Told : Type 0) (Says : DocumentView → Type 0) (bytes : List ℕ) (d : DocumentView) (sink : SinkChange) (Unwritten : Type 0) (status : Status)
    → document_of bytes ≡ Ok d → (Told → Says d) → Replies (answer d.setup d.jobs (script_carry d) (script_restarts d)) Told sink Unwritten status
    → Replies (answer_by answer (document_of bytes)) (SaysOf Says bytes) sink Unwritten status
by_replies answer Told Says bytes d sink Unwritten status is says (none_found unwritten) = none_found unwritten
by_replies answer Told Says bytes d sink Unwritten status is says (replied ended told written) =
    replied ended (λ other too. subst Says (one_document (document_of bytes) d other is too) (says told))
    (subst (λ (a : Answer). Writes a.status a.output sink ended) (answer_of answer (document_of bytes) d is) written)

pub by_refuses : (answer : RingView → List Job → Carry → Restarts → Answer) (Says : DocumentView → Type 0) (bytes : List ℕ) (bad : BadDocument) (sink : SinkChange) (Unwritten : Type 0) (status : Status)
    → (bad ≡ bads.Memory) ⊎ (document_of bytes ≡ Err bad)
    → ((bad ≡ bads.Memory) × (status ≡ Memory) × Unwritten) ⊎ ((bad ≢ bads.Memory) × Writes Refused (line_of bad) sink status)
    → Replies (answer_by answer (document_of bytes)) (SaysOf Says bytes) sink Unwritten status
by_refuses answer Says bytes bad sink Unwritten status cause (inl ended) =
    subst (λ s. Replies (answer_by answer (document_of bytes)) (SaysOf Says bytes) sink Unwritten s) (sym ended.1) (none_found ended.2)
by_refuses answer Says bytes bad sink Unwritten status (inl wanting) (inr written) = absurd (written.0 wanting)
by_refuses answer Says bytes bad sink Unwritten status (inr is) (inr written) =
    replied status (λ d too. absurd (no_document (document_of bytes) bad d is too))
    (subst (λ (a : Answer). Writes a.status a.output sink status) (refusal_of answer (document_of bytes) bad is) written.1)

-- a run over the document's script, with what is said of it
pub replies_over : (answer : RingView → List Job → Carry → Restarts → Answer) (Says : RingView → List Job → Carry → Restarts → Type 0)
    → (d : DocumentView) (setup : RingView) (jobs : List Job) (faults : List Fault) (carry : Carry) (restarts : Restarts) (sink : SinkChange) (Unwritten : Type 0) (status : Status)
    → d ≡ record { setup = setup; jobs = jobs; faults = faults } → carry ≡ carried (length setup.drives) faults → restarts ≡ restarts_at faults
    → Replies (answer setup jobs carry restarts) (Says setup jobs carry restarts) sink Unwritten status
    → Replies (answer d.setup d.jobs (script_carry d) (script_restarts d)) (Says d.setup d.jobs (script_carry d) (script_restarts d)) sink Unwritten status
replies_over answer Says d setup jobs faults carry restarts sink Unwritten status is carries restarts_is replies =
    let Given : Carry → Restarts → Type 0 = λ c r. Replies (answer setup jobs c r) (Says setup jobs c r) sink Unwritten status in
    let one = subst (λ (c : Carry). Given c restarts) carries replies in
    let two = subst (λ (r : Restarts). Given (carried (length setup.drives) faults) r) restarts_is one in
    subst (λ (x : DocumentView). Replies (answer x.setup x.jobs (script_carry x) (script_restarts x)) (Says x.setup x.jobs (script_carry x) (script_restarts x)) sink Unwritten status) (sym is) two
