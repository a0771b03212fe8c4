-- What a drive processes of an MDT: nothing, or the record that it took at its place.
use Rattle.sercos_law_run.proofs.Words.{ℕ, ◌&&◌, List, Option, Some, None, nat_le, cond_both, DriveView, Processed, processed_record, Told, Moment, phase_in, cycle_in, has_mst, blocks_in, commands_in, processed_at}

abbrev pub taken_at : DriveView → ℕ → List Moment → Told → Processed
taken_at d rate past t = processed_record (cycle_in past) (phase_in past) t.control t.info (blocks_in d past) (commands_in d rate past)

pub processed_keeps : (P : Option Processed → Type 0) (d : DriveView) (rate : ℕ) (told : Option Told) (past : List Moment) → P None
    → ((t : Told) → P (Some (taken_at d rate past t))) → P (processed_at d rate told past)
processed_keeps P d rate None past none some = none
processed_keeps P d rate (Some t) past none some = cond_both (has_mst past && nat_le 2 (phase_in past))
    (Some (taken_at d rate past t)) None P (λ on. some t) (λ off. none)
