-- A ring that is held, or none.
use Rattle.std.specs.Prelude.{◌≡◌, ◌⊎◌, ℕ, Result, Ok, Err, Bool, true, false, List, [], ◌∷◌, length, reverse, Option, Some}
use Rattle.sercos_block.specs.Rings.{wishes_of}
use Rattle.sercos_config.specs.Views.{DocumentView}
use Rattle.sercos_script.specs.Links.{Carry, Restarts}
use Rattle.sercos_script.specs.Scripts.{ScriptView, carried, restarts_at}
use Rattle.sercos_timing.specs.Views.{WishesView}
use Rattle.sercos_trace.specs.Views.{CycleView}
use Rattle.sercos_trace.specs.Texts.{cycle_text}
use Rattle.sercos_law_run.specs.Held.Opened.{IsOpened}
use Rattle.sercos_law_run.specs.Totals.Totals.{totals_of}
use Rattle.sercos_law_run.specs.Totals.Counting.{AreFew}
use Rattle.sercos_opened.specs.Kept.{script_carry, script_restarts}
use Rattle.sercos_ring.specs.Kept.{RingStandsFor}
use Rattle.sercos_config.specs.Document.{document_of}
use Rattle.sercos_document.specs.declared.refusal.BadDocument.{BadDocument}
use Rattle.sercos_document.specs.declared.refusal.BadDocument.TheVariants as bad
use Rattle.sercos_c.specs.Statuses.{done, refused}
use Rattle.sercos_c.specs.Documents.{document_status}
use Rattle.sercos_c.specs.declared.ring_station.RingStation.{RingStation}
use Rattle.sercos_c.specs.declared.station.Station.{Station}
use Rattle.sercos_c.specs.declared.station.Station.TheVariants as station

-- what a script carries, and which stations it restarts
abbrev pub carry_of : ScriptView → Carry
carry_of s = carried s.stations s.faults

abbrev pub restart_of : ScriptView → Restarts
restart_of s = restarts_at s.faults

-- A ring stands for the cycles that it has made of a document's run, under its script, the newest first.
pub record RingGoes (r : RingStation) (d : DocumentView) (j : List CycleView) : Type 0 where
  pub opened : IsOpened d.setup d.jobs
  pub stands : RingStandsFor carry_of restart_of r.ring d.setup d.jobs (script_carry d) (script_restarts d) j
  pub wishes_is : r.wishes ≡ wishes_of d.setup
  pub counted : r.totals ≡ totals_of (reverse j)
  pub few : AreFew r.totals (length j)
  pub cycles_is : r.cycles ≡ d.setup.cycles
  pub made_is : r.made ≡ length j

-- the lines of the cycle made last; none before the first
abbrev pub lines_of_newest : WishesView → List CycleView → List ℕ
lines_of_newest w [] = []
lines_of_newest w (v ∷ j) = cycle_text w v

-- whether it is one
abbrev pub is_ring : Option Station → Bool
is_ring (Some (station.Ring r)) = true
is_ring _ = false

-- the same of what a handle holds
abbrev pub HoldsRing : Option Station → DocumentView → List CycleView → Type 0
HoldsRing (Some (station.Ring r)) d j = RingGoes r d j
HoldsRing _ d j = ⊥

-- the bytes are a document, and its ring is held, before its first cycle
pub record OpensRing (bytes : List ℕ) (held : Option Station) : Type 0 where
  pub document : DocumentView
  pub is : document_of bytes ≡ Ok document
  pub goes : HoldsRing held document []

-- what opening it gives: the ring, or why there is none
abbrev pub IsRingOpening : List ℕ → Result RingStation BadDocument → Type 0
IsRingOpening bytes (Ok r) = (document_status (document_of bytes) ≡ done) × OpensRing bytes (Some (station.Ring r))
IsRingOpening bytes (Err why) = (why ≡ bad.Memory) ⊎ (document_status (document_of bytes) ≡ refused)
