-- The lines of one ring in a merged text.
use Rattle.std.specs.Prelude.{◌≡◌, ℕ, ◌+◌, ◌==◌, ◌<◌, ◌≤◌, if◌then◌else◌, List, [], ◌∷◌, length, reverse, slice_get, Some}
use Rattle.std.specs.List.{All, flat_map}
use Rattle.sercos_block.specs.Rings.{wishes_of}
use Rattle.sercos_trace.specs.Texts.{trace_of}
use Rattle.sercos_law_run.specs.Totals.Totals.{totals_of}
use Rattle.sercos_config.specs.Views.{DocumentView}
use Rattle.sercos_opened.specs.Kept.{script_run}
use Rattle.sercos_multi.specs.Divided.{lines_in}
use Rattle.sercos_multi.specs.Merged.{mark_of, merged}
use Rattle.sercos_multi.specs.Asking.{voices_from}

-- a line that begins with a mark, without it; nothing of any other line
unfoldable pub own_line : List ℕ → List ℕ → List ℕ
own_line [] line = line
own_line (m ∷ mark) [] = []
own_line (m ∷ mark) (byte ∷ line) = if byte == m then own_line mark line else []

-- the lines of a text that begin with a mark, each without it
unfoldable pub own_lines : List ℕ → List ℕ → List ℕ
own_lines mark text = flat_map (own_line mark) (lines_in text)

-- The lines of each ring, without their number, are the trace of the run of its document over its script alone. Places count from 0.
abbrev pub AreTraces : List DocumentView → List ℕ → Type 0
AreTraces documents text = (i : ℕ) (d : DocumentView) → slice_get documents i ≡ Some d
    → own_lines (mark_of (1 + i)) text ≡ trace_of (wishes_of d.setup) (reverse (script_run d)) (totals_of (reverse (script_run d)))

-- So it is of the merged text of at most 8 documents whose rings each have a cycle.
abbrev pub LinesAreTraces : Type 0
LinesAreTraces = (time : ℕ) (documents : List DocumentView) → 0 < time → length documents ≤ 8 → All (λ d. 1 ≤ d.setup.cycles) documents →
    AreTraces documents (merged time (voices_from 1 documents))
