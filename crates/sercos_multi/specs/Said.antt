-- What opening all documents refuses.
use Rattle.std.specs.Prelude.{◌≡◌, ◌≢◌, ℕ, List, Err}
use Rattle.sercos_document.specs.declared.refusal.BadDocument.TheVariants as bads
use Rattle.sercos_multi.specs.declared.opening.Unopened.{Unopened}
use Rattle.sercos_multi.specs.declared.opening.Unopened.TheVariants as unopened
use Rattle.sercos_multi.specs.Asking.{documents_from}

abbrev pub IsRefusedIn : List (List ℕ) → Unopened → Type 0
IsRefusedIn parts unopened.Memory = Unit {0}
IsRefusedIn parts (unopened.Refused m bad) = (documents_from 1 parts ≡ Err (m, bad)) × (bad ≢ bads.Memory)
