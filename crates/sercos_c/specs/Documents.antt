-- The status of opening what a document describes, if there is memory.
use Rattle.std.specs.Prelude.{ℕ, Result, Ok, Err}
use Rattle.sercos_document.specs.declared.refusal.BadDocument.{BadDocument}
use Rattle.sercos_config.specs.Views.{DocumentView}
use Rattle.sercos_c.specs.Statuses.{done, refused}

abbrev pub document_status : Result DocumentView BadDocument → ℕ
document_status (Ok document) = done
document_status (Err why) = refused
