-- From a run that is written to what `run` answers.
use Rattle.std.proofs.Common.{◌≡◌, ◌≢◌, ◌⊎◌, inl, inr, ℕ, ◌≤◌, List, length, Result, Ok, Err, refl, sym, ◌∙◌, subst}
use Rattle.sercos_io.specs.declared.status.Status.{Status}
use Rattle.sercos_io.specs.declared.status.Status.TheVariants.{Refused, Memory}
use Rattle.sercos_step.specs.declared.request.Job.{Job}
use Rattle.sercos_block.specs.Views.{RingView}
use Rattle.sercos_script.specs.declared.fault.Fault.{Fault}
use Rattle.sercos_script.specs.Links.{Carry, Restarts, carried_by_both, restarts_in_either}
use Rattle.sercos_script.specs.Scripts.{carried, restarts_at}
use Rattle.sercos_law_run.specs.Held.Opened.{IsOpened}
use Rattle.sercos_law_trace.specs.Clean.Traces.{RunsAreClean}
use Rattle.sercos_law_trace.proofs.Theorems.{whole_is_clean}
use Rattle.sercos_document.specs.declared.refusal.BadDocument.{BadDocument}
use Rattle.sercos_document.specs.declared.refusal.BadDocument.TheVariants as bads
use Rattle.sercos_document.specs.Lines.{line_of}
use Rattle.sercos_config.specs.Views.{DocumentView}
use Rattle.sercos_config.specs.Document.{document_of}
use Rattle.sercos_answer.specs.Answer.{Answer}
use Rattle.sercos_opened.specs.Kept.{IsDocumentRun, OpenedIsKept, carry_under, restarts_under}
use Rattle.sercos_app.specs.Running.{IsTracedRun, RunsItsRing, run_answer, run_traced, traced_answer}
use Rattle.sercos_config.specs.Generated.{generated}
use Rattle.sercos_app.specs.Generating.{RunsGenerated, gen_answer, run_summed}
use Rattle.sercos_call.specs.Outcome.{SinkChange, Writes, Replies}
use Rattle.sercos_call.specs.Outcome.Replies.{none_found, replied}

document_runs : OpenedIsKept → (carry : Carry) (restarts : Restarts) (d : DocumentView) → IsOpened d.setup d.jobs → IsDocumentRun carry restarts d
document_runs kept carry restarts d opened = kept d.setup d.jobs (carry_under d carry) (restarts_under d restarts) d.setup.cycles opened

pub run_answer_of : (carry : Carry) (restarts : Restarts) (bytes : List ℕ) (d : DocumentView) → document_of bytes ≡ Ok d
    → run_answer carry restarts bytes ≡ run_traced d.setup d.jobs (carry_under d carry) (restarts_under d restarts)
unfolding run_answer traced_answer
run_answer_of carry restarts bytes d is = rw is refl

run_refusal_of : (carry : Carry) (restarts : Restarts) (bytes : List ℕ) (bad : BadDocument) → document_of bytes ≡ Err bad → run_answer carry restarts bytes ≡ record { status = Refused; output = line_of bad }
unfolding run_answer traced_answer
run_refusal_of carry restarts bytes bad is = rw is refl

-- a text says one document, or is refused
one_document : (read : Result DocumentView BadDocument) (d other : DocumentView) → read ≡ Ok d → read ≡ Ok other → d ≡ other
one_document (Ok said) d other is too = let one : said ≡ d = cc in let same : said ≡ other = cc in sym one ∙ same
one_document (Err bad) d other is too = absurd (cc)

no_document : (read : Result DocumentView BadDocument) (bad : BadDocument) (d : DocumentView) → read ≡ Err bad → read ≡ Ok d → ⊥
no_document (Ok said) bad d is too = cc
no_document (Err other) bad d is too = cc

traced_runs : OpenedIsKept → RunsAreClean → (carry : Carry) (restarts : Restarts) (d : DocumentView) → IsOpened d.setup d.jobs → length d.jobs ≤ 4096 → IsTracedRun carry restarts d
traced_runs kept clean carry restarts d opened few =
    let own = document_runs kept carry restarts d opened in
    record { kept = own; clean = whole_is_clean clean d.setup d.jobs (carry_under d carry) (restarts_under d restarts) opened few own.run }

pub run_replies : OpenedIsKept → RunsAreClean
    → (carry : Carry) (restarts : Restarts) (bytes : List ℕ) (d : DocumentView) (sink : SinkChange) (Unwritten : Type 0) (status : Status) → document_of bytes ≡ Ok d → IsOpened d.setup d.jobs → length d.jobs ≤ 4096
    → Replies (run_traced d.setup d.jobs (carry_under d carry) (restarts_under d restarts)) (Unit {0}) sink Unwritten status
    → Replies (run_answer carry restarts bytes) (RunsItsRing carry restarts bytes) sink Unwritten status
run_replies kept clean carry restarts bytes d sink Unwritten status is opened few (none_found unwritten) = none_found unwritten
run_replies kept clean carry restarts bytes d sink Unwritten status is opened few (replied ended says written) =
    replied ended (λ other too. subst (λ (x : DocumentView). IsTracedRun carry restarts x) (one_document (document_of bytes) d other is too) (traced_runs kept clean carry restarts d opened few))
    (subst (λ (a : Answer). Writes a.status a.output sink ended) (sym (run_answer_of carry restarts bytes d is)) written)

pub run_refuses : (carry : Carry) (restarts : Restarts) (bytes : List ℕ) (bad : BadDocument) (sink : SinkChange) (Unwritten : Type 0) (status : Status) → (bad ≡ bads.Memory) ⊎ (document_of bytes ≡ Err bad)
    → ((bad ≡ bads.Memory) × (status ≡ Memory) × Unwritten) ⊎ ((bad ≢ bads.Memory) × Writes Refused (line_of bad) sink status)
    → Replies (run_answer carry restarts bytes) (RunsItsRing carry restarts bytes) sink Unwritten status
run_refuses carry restarts bytes bad sink Unwritten status cause (inl ended) =
    subst (λ s. Replies (run_answer carry restarts bytes) (RunsItsRing carry restarts bytes) sink Unwritten s) (sym ended.1) (none_found ended.2)
run_refuses carry restarts bytes bad sink Unwritten status (inl wanting) (inr written) = absurd (written.0 wanting)
run_refuses carry restarts bytes bad sink Unwritten status (inr is) (inr written) =
    replied status (λ d too. absurd (no_document (document_of bytes) bad d is too))
    (subst (λ (a : Answer). Writes a.status a.output sink status) (sym (run_refusal_of carry restarts bytes bad is)) written.1)

-- a run over the links of the document's script, and then the link handed in, whatever is answered of it
pub run_under : (answer : RingView → List Job → Carry → Restarts → Answer)
    → (d : DocumentView) (setup : RingView) (jobs : List Job) (faults : List Fault) (first second carry : Carry) (early late restarts : Restarts) (sink : SinkChange) (Unwritten : Type 0) (status : Status)
    → d ≡ record { setup = setup; jobs = jobs; faults = faults } → first ≡ carried (length setup.drives) faults → second ≡ carry → early ≡ restarts_at faults → late ≡ restarts
    → Replies (answer setup jobs (carried_by_both first second) (restarts_in_either early late)) (Unit {0}) sink Unwritten status
    → Replies (answer d.setup d.jobs (carry_under d carry) (restarts_under d restarts)) (Unit {0}) sink Unwritten status
run_under answer d setup jobs faults first second carry early late restarts sink Unwritten status is carries then restarts_early restarts_late replies =
    let one = subst (λ (c : Carry). Replies (answer setup jobs (carried_by_both c second) (restarts_in_either early late)) (Unit {0}) sink Unwritten status) carries replies in
    let two = subst (λ (c : Carry). Replies (answer setup jobs (carried_by_both (carried (length setup.drives) faults) c) (restarts_in_either early late)) (Unit {0}) sink Unwritten status) then one in
    let three = subst (λ (r : Restarts). Replies (answer setup jobs (carried_by_both (carried (length setup.drives) faults) carry) (restarts_in_either r late)) (Unit {0}) sink Unwritten status) restarts_early two in
    let four = subst (λ (r : Restarts). Replies (answer setup jobs (carried_by_both (carried (length setup.drives) faults) carry) (restarts_in_either (restarts_at faults) r)) (Unit {0}) sink Unwritten status) restarts_late three in
    subst (λ (x : DocumentView). Replies (answer x.setup x.jobs (carry_under x carry) (restarts_under x restarts)) (Unit {0}) sink Unwritten status) (sym is) four

-- a reply that says more beside its text
says_too : (answer : Answer) (Says : Type 0) (sink : SinkChange) (Unwritten : Type 0) (status : Status) → Says → Replies answer (Unit {0}) sink Unwritten status → Replies answer Says sink Unwritten status
says_too answer Says sink Unwritten status told (none_found unwritten) = none_found unwritten
says_too answer Says sink Unwritten status told (replied ended is written) = replied ended told written

-- the summary of the run of a generated document
pub gen_replies : OpenedIsKept
    → (carry : Carry) (restarts : Restarts) (n : ℕ) (d : DocumentView) (sink : SinkChange) (Unwritten : Type 0) (status : Status) → d ≡ generated n → IsOpened d.setup d.jobs
    → Replies (run_summed n d.setup d.jobs (carry_under d carry) (restarts_under d restarts)) (Unit {0}) sink Unwritten status
    → Replies (gen_answer carry restarts n) (RunsGenerated carry restarts n) sink Unwritten status
unfolding gen_answer
gen_replies kept carry restarts n d sink Unwritten status is opened replies =
    says_too (gen_answer carry restarts n) (RunsGenerated carry restarts n) sink Unwritten status
    (document_runs kept carry restarts (generated n) (subst (λ (x : DocumentView). IsOpened x.setup x.jobs) is opened))
    (subst (λ (x : DocumentView). Replies (run_summed n x.setup x.jobs (carry_under x carry) (restarts_under x restarts)) (Unit {0}) sink Unwritten status) is replies)
