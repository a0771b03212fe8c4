-- What each way in which the top call can end says for the clauses on `replay A`.
use Rattle.std.proofs.Common.{◌≡◌, ℕ, ◌≤◌, ◌⊎◌, inl, inr, List, length, Option, Some, None, Result, Ok, refl, sym, ◌∙◌, ap, subst, codes}
use Rattle.std.specs.Io.KnownBytes.{Appends}
use Rattle.sercos_model.specs.Streams.{Rose}
use Rattle.sercos_io.specs.declared.status.Status.{Status}
use Rattle.sercos_io.specs.declared.status.Status.TheVariants.{Done, No, Memory}
use Rattle.sercos_words.specs.declared.form.Form.TheVariants.{Replay}
use Rattle.sercos_words.specs.Form.{form_of, reads_input}
use Rattle.sercos_script.specs.Links.{Carry, Restarts}
use Rattle.sercos_answer.specs.Answer.{Answer}
use Rattle.sercos_answer.specs.Lines.{lines_of}
use Rattle.sercos_checking.specs.declared.verdict.Verdict.TheVariants.{Clean, Violation}
use Rattle.sercos_checking.specs.Checking.{verdict_of, violation_text, verdict_text}
use Rattle.sercos_document.specs.declared.refusal.BadDocument.{BadDocument}
use Rattle.sercos_law_run.specs.Journal.Runs.{IsClear}
use Rattle.sercos_opened.specs.Kept.{document_run}
use Rattle.sercos_replay.specs.Stations.{Station, station_of, station_differs}
use Rattle.sercos_replay.specs.Replaying.{place_text, number_line, place_answer, verdict_answer, replay_answer}
use Rattle.sercos_replay.specs.Asking.{Asks, Agrees, Differs, Breaks, Replays, cycles_in}
use Rattle.sercos_config.specs.Views.{DocumentView}
use Rattle.sercos_config.specs.Document.{document_of}
use Rattle.sercos_app.specs.OwnRun.{AgreesThroughout, DiffersNoEarlier, IsCalm, IsOwnRun, ReplaysItsRing}
use Rattle.sercos_app.specs.Answer.{command_answer}
use Rattle.sercos_call.specs.TopCall.{writes_nothing, ReadsWhole, IsAnswer}
use Rattle.sercos_app.specs.TopCall.{PlaceTold, AgreementTold, BreachTold}
use Rattle.sercos_call.specs.Outcome.{SourceChange, SinkChange}
use Rattle.sercos_call.proofs.Outcomes.{told_whole}
use Rattle.sercos_app.specs.Outcome.{Ends}
use Rattle.sercos_app.proofs.Outcomes.{answered_by, answers_told, done_whole, no_whole}

told-place : (address : ℕ) (bytes : List ℕ) (left left' held held' : Option (List ℕ)) → Replays address bytes → ReadsWhole left left' bytes
    → Appends held held' (replay_answer address bytes).output → Differs address bytes → PlaceTold address left left' held held'
unfolding place_answer
told-place address bytes left left' held held' says input written d =
    let answer : (replay_answer address bytes).output ≡ place_text d.place = ap (λ (a : Answer). a.output) (says.tells d.s d.capture d.asks ∙ ap (λ o. place_answer o (length (cycles_in d.capture))) d.first) in
    record { bytes = bytes; read = input; station = d.s; capture = d.capture; asks = d.asks; place = d.place; first = d.first; written = subst (Appends held held') answer written }

told-breach : (address : ℕ) (bytes : List ℕ) (left left' held held' : Option (List ℕ)) → Replays address bytes → ReadsWhole left left' bytes
    → Appends held held' (replay_answer address bytes).output → Breaks address bytes → BreachTold address left left' held held'
unfolding verdict_answer verdict_text
told-breach address bytes left left' held held' says input written b =
    let answer : (replay_answer address bytes).output ≡ violation_text b.line b.rule = ap (λ (a : Answer). a.output) (says.breaks b) in
    record { bytes = bytes; read = input; breaks = b; written = subst (Appends held held') answer written }

told-agreement : (address : ℕ) (bytes : List ℕ) (left left' held held' : Option (List ℕ)) → Replays address bytes → ReadsWhole left left' bytes
    → Appends held held' (replay_answer address bytes).output → Agrees address bytes → AgreementTold address left left' held held'
unfolding place_answer
told-agreement address bytes left left' held held' says input written d =
    let answer : (replay_answer address bytes).output ≡ number_line (codes "agrees ") (length (cycles_in d.capture)) =
    ap (λ (a : Answer). a.output) (says.tells d.s d.capture d.asks ∙ ap (λ o. place_answer o (length (cycles_in d.capture))) d.same) in
    record { bytes = bytes; read = input; station = d.s; capture = d.capture; asks = d.asks; none = d.same; written = subst (Appends held held') answer written }

no-replay : (carry : Carry) (restarts : Restarts) (address : ℕ) (bytes : List ℕ) (left left' held held' : Option (List ℕ)) → Replays address bytes → (command_answer carry restarts (Replay address) bytes).status ≡ No
    → ReadsWhole left left' bytes → Appends held held' (command_answer carry restarts (Replay address) bytes).output → PlaceTold address left left' held held' ⊎ BreachTold address left left' held held'
unfolding command_answer
no-replay carry restarts address bytes left left' held held' says at input written =
    elim (says.no at) [ inl d ↦ inl (told-place address bytes left left' held held' says input written d) | inr b ↦ inr (told-breach address bytes left left' held held' says input written b) ]

done-replay : (carry : Carry) (restarts : Restarts) (address : ℕ) (bytes : List ℕ) (left left' held held' : Option (List ℕ)) → Replays address bytes → (command_answer carry restarts (Replay address) bytes).status ≡ Done
    → ReadsWhole left left' bytes → Appends held held' (command_answer carry restarts (Replay address) bytes).output → AgreementTold address left left' held held'
unfolding command_answer
done-replay carry restarts address bytes left left' held held' says at input written = told-agreement address bytes left left' held held' says input written (says.done at)

pub at_differs : {carry : Carry} {restarts : Restarts} {words : List (List ℕ)} {source : SourceChange} {sink : SinkChange} {Unread Unwritten : Type 0} {status : Status} → Ends carry restarts words source sink Unread Unwritten status
    → (address : ℕ) → status ≡ No → form_of words ≡ Some (Replay address) → PlaceTold address source.left source.left' sink.held sink.held' ⊎ BreachTold address source.left source.left' sink.held sink.held'
unfolding writes_nothing reads_input
at_differs out address e f =
    let a = answered_by out (Replay address) f (ap writes_nothing e) in
    let whole = no_whole _ _ (Replay address) a.bytes _ _ a.ends e in
    no-replay _ _ address a.bytes _ _ _ _ a.says.replays whole.0 a.input whole.1

pub at_agrees : {carry : Carry} {restarts : Restarts} {words : List (List ℕ)} {source : SourceChange} {sink : SinkChange} {Unread Unwritten : Type 0} {status : Status} → Ends carry restarts words source sink Unread Unwritten status
    → (address : ℕ) → status ≡ Done → form_of words ≡ Some (Replay address) → AgreementTold address source.left source.left' sink.held sink.held'
unfolding writes_nothing reads_input
at_agrees out address e f =
    let a = answered_by out (Replay address) f (ap writes_nothing e) in
    let whole = done_whole _ _ (Replay address) a.bytes _ _ a.ends e in
    done-replay _ _ address a.bytes _ _ _ _ a.says.replays whole.0 a.input whole.1

-- the answer to an input that asks for a replay
pub at_replays : {carry : Carry} {restarts : Restarts} {words : List (List ℕ)} {source : SourceChange} {sink : SinkChange} {Unread Unwritten : Type 0} {status : Status} → Ends carry restarts words source sink Unread Unwritten status
    → (address : ℕ) (bytes capture : List ℕ) (station : Station) → form_of words ≡ Some (Replay address) → source.left ≡ Some bytes → length bytes ≤ 1048576 → Asks address bytes station capture
    → (Rose source.faults source.faults' → ⊥) → (Rose sink.faults sink.faults' → ⊥)
    → (status ≡ Memory) ⊎ IsAnswer (place_answer (station_differs station (cycles_in capture)) (length (cycles_in capture))) status sink.held sink.held'
unfolding reads_input command_answer
at_replays {sink = sink} {status = status} out address bytes capture station f told fits asks well taken =
    elim (answers_told out (Replay address) bytes f refl told fits well taken) [
      | inl none ↦ inl none
      | inr (says, is) ↦ inr (subst (λ (a : Answer). IsAnswer a status sink.held sink.held') (says.replays.tells station capture asks) is)
    ]

-- the answer to an input that is a document and what `run` writes of it, undisturbed
pub at_calm : {carry : Carry} {restarts : Restarts} {words : List (List ℕ)} {source : SourceChange} {sink : SinkChange} {Unread Unwritten : Type 0} {status : Status} → Ends carry restarts words source sink Unread Unwritten status
    → (address : ℕ) (bytes : List ℕ) (over : Carry) (again : Restarts) (d : DocumentView) (own : IsOwnRun over again address bytes d) → form_of words ≡ Some (Replay address) → source.left ≡ Some bytes → length bytes ≤ 1048576
    → IsCalm over again d → (Rose source.faults source.faults' → ⊥) → (Rose sink.faults sink.faults' → ⊥)
    → (status ≡ Memory) ⊎ (AgreesThroughout address bytes own.capture × IsAnswer (place_answer None (length (cycles_in own.capture))) status sink.held sink.held')
unfolding reads_input command_answer
at_calm {sink = sink} {status = status} out address bytes over again d own f told fits calm well taken =
    elim (answers_told out (Replay address) bytes f refl told fits well taken) [
      | inl none ↦ inl none
      | inr (says, is) ↦
          let agrees = says.own.agrees over again d own calm in
          inr (agrees, subst (λ (a : Answer). IsAnswer a status sink.held sink.held') agrees.replays is)
    ]

-- THE ANSWER No to an input that is a document and what `run` writes of it: the parts of the input are these.
same_pair : (a b : List ℕ × List ℕ) → Some a ≡ Some b → a ≡ b
same_pair a b e = cc

same_parts : (a c b d : List ℕ) → ◌≡◌ {A = Option (List ℕ × List ℕ)} (Some (a, b)) (Some (c, d)) → (a ≡ c) × (b ≡ d)
same_parts a c b d e = let pair = same_pair (a, b) (c, d) e in (ap (λ (p : List ℕ × List ℕ). p.0) pair, ap (λ (p : List ℕ × List ℕ). p.1) pair)

same_document : (a b : DocumentView) (read : Result DocumentView BadDocument) → read ≡ Ok a → read ≡ Ok b → a ≡ b
same_document a b read e f = cc

same_station : (a b : Station) → Some a ≡ Some b → a ≡ b
same_station a b e = cc

not_both : (count line rule : ℕ) → Clean count ≡ Violation line rule → ⊥
not_both count line rule e = cc

own_first : (over : Carry) (again : Restarts) (address : ℕ) (bytes : List ℕ) (d : DocumentView) (own : IsOwnRun over again address bytes d) (x : Differs address bytes)
    → station_differs own.station (cycles_in own.capture) ≡ Some x.place
own_first over again address bytes d own x =
    let (document, capture) = same_parts x.asks.document own.document x.capture own.capture (sym x.asks.divides ∙ own.divides) in
    let read = same_document x.asks.d d (document_of own.document) (sym (ap document_of document) ∙ x.asks.says) own.says in
    let station = same_station x.s own.station (sym x.asks.has_station ∙ ap (station_of address) read ∙ own.has_station) in
    sym (ap (λ (s : Station). station_differs s (cycles_in own.capture)) station) ∙ sym (ap (λ (text : List ℕ). station_differs x.s (cycles_in text)) capture) ∙ x.first

no_own : (over : Carry) (again : Restarts) (address : ℕ) (bytes : List ℕ) (d : DocumentView) (own : IsOwnRun over again address bytes d) (left left' held held' : Option (List ℕ)) → ReplaysItsRing address bytes
    → ReadsWhole left left' bytes → (replay_answer address bytes).status ≡ No → Appends held held' (replay_answer address bytes).output
    → DiffersNoEarlier own held held' ⊎ (BreachTold address left left' held held' × (IsClear (document_run over again d) → ⊥))
unfolding place_answer
no_own over again address bytes d own left left' held held' says input at written = elim (says.replays.no at) [
  | inl x ↦
      let first = own_first over again address bytes d own x in
      let answer : (replay_answer address bytes).output ≡ place_text x.place = ap (λ (a : Answer). a.output) (says.replays.tells x.s x.capture x.asks ∙ ap (λ o. place_answer o (length (cycles_in x.capture))) x.first) in
      inl (record { place = x.place; first = first; no_earlier = says.own.differs over again d own x.place first; written = subst (Appends held held') answer written })
  | inr b ↦
      let (document, capture) = same_parts b.document own.document b.capture own.capture (sym b.divides ∙ own.divides) in
      inr (
        told-breach address bytes left left' held held' says.replays input written b,
        λ clear. not_both (length (lines_of own.capture)) b.line b.rule (sym (says.own.clean over again d own clear) ∙ ap verdict_of (sym capture) ∙ b.violation),
      )
]

pub at_no_earlier : {carry : Carry} {restarts : Restarts} {words : List (List ℕ)} {source : SourceChange} {sink : SinkChange} {Unread Unwritten : Type 0} {status : Status} → Ends carry restarts words source sink Unread Unwritten status
    → (address : ℕ) (bytes : List ℕ) (over : Carry) (again : Restarts) (d : DocumentView) (own : IsOwnRun over again address bytes d) → status ≡ No → form_of words ≡ Some (Replay address) → source.left ≡ Some bytes
    → DiffersNoEarlier own sink.held sink.held' ⊎ (BreachTold address source.left source.left' sink.held sink.held' × (IsClear (document_run over again d) → ⊥))
unfolding writes_nothing reads_input command_answer
at_no_earlier {carry = carry} {restarts = restarts} {source = source} {sink = sink} out address bytes over again d own e f told =
    let a = answered_by out (Replay address) f (ap writes_nothing e) in
    let whole = no_whole carry restarts (Replay address) a.bytes _ _ a.ends e in
    let same : a.bytes ≡ bytes = told_whole bytes a.bytes source.left source.left' told a.input in
    no_own over again address bytes d own source.left source.left' sink.held sink.held' (subst (ReplaysItsRing address) same a.says) (subst (ReadsWhole source.left source.left') same a.input)
    (subst (λ (b : List ℕ). (replay_answer address b).status ≡ No) same whole.0) (subst (λ (b : List ℕ). Appends sink.held sink.held' (replay_answer address b).output) same whole.1)
