-- The result of opening the rings of documents.
use Rattle.std.specs.Prelude.{◌≡◌, ◌≢◌, ℕ, ◌+◌, List, ◌++◌, length, drop, Result, Ok, Err}
use Rattle.sercos_script.specs.Links.{Carry, Restarts}
use Rattle.sercos_document.specs.declared.refusal.BadDocument.{BadDocument}
use Rattle.sercos_document.specs.declared.refusal.BadDocument.TheVariants as bads
use Rattle.sercos_config.specs.Views.{DocumentView}
use Rattle.sercos_config.specs.Document.{document_of}
use Rattle.sercos_multi.specs.declared.part.Part.{Part}
use Rattle.sercos_multi.specs.declared.opening.Unopened.{Unopened}
use Rattle.sercos_multi.specs.declared.opening.Unopened.TheVariants as unopened
use Rattle.sercos_multi.specs.Asking.{documents_from, voice_of, voices_from}
use Rattle.sercos_multi.specs.Parts.{IsAt, AllAt}
use Rattle.sercos_multi.specs.RingRuns.{AreRuns, IsRingRun}

-- a ring of a part's contents
abbrev pub OpensPart : {L : Type 0} → (L → Carry) → (L → Restarts) → ℕ → List ℕ → Result (Part L) Unopened → Type 0
OpensPart carry_of restart_of n bytes (Ok p) = (d : DocumentView) × (document_of bytes ≡ Ok d) × IsAt carry_of restart_of p (voice_of n d) ×
    IsRingRun d
OpensPart carry_of restart_of n bytes (Err unopened.Memory) = Unit {0}
OpensPart carry_of restart_of n bytes (Err (unopened.Refused m bad)) = (m ≡ n) × (document_of bytes ≡ Err bad) × (bad ≢ bads.Memory)

-- the rings of all parts' contents
pub record OpensAll {L : Type 0} (carry_of : L → Carry) (restart_of : L → Restarts) (parts : List (List ℕ))
    (ps : List (Part L)) : Type 0 where
  pub documents : List DocumentView
  pub said : documents_from 1 parts ≡ Ok documents
  pub all : AllAt carry_of restart_of ps (voices_from 1 documents)
  pub runs : AreRuns documents

-- the contents of the documents so far, before those of the others
unfoldable pub joined : List DocumentView → Result (List DocumentView) (ℕ × BadDocument) → Result (List DocumentView) (ℕ × BadDocument)
joined documents (Ok more) = Ok (documents ++ more)
joined documents (Err refusal) = Err refusal

pub record AreOpened {L : Type 0} (carry_of : L → Carry) (restart_of : L → Restarts) (parts : List (List ℕ)) (n : ℕ)
    (ps : List (Part L)) : Type 0 where
  pub documents : List DocumentView
  pub count : length documents ≡ n
  pub left : documents_from 1 parts ≡ joined documents (documents_from (n + 1) (drop n parts))
  pub all : AllAt carry_of restart_of ps (voices_from 1 documents)
  pub runs : AreRuns documents
