-- The merged text of several rings on one cycle clock. Moments are in microseconds.
use Rattle.std.specs.Prelude.{ℕ, ◌+◌, ◌==◌, nat_le, Bool, true, false, if◌then◌else◌, List, [], ◌∷◌, ◌++◌, length, codes, decimal}
use Rattle.std.specs.List.{filter, flat_map, list_all, list_any, range_with_len, sum_by}
use Rattle.sercos_text.specs.Templates.{line_text}
use Rattle.sercos_text.specs.Templates.Value.{number}
use Rattle.sercos_timing.specs.Views.{WishesView}
use Rattle.sercos_trace.specs.Views.{CycleView}
use Rattle.sercos_trace.specs.Texts.{header_text, cycle_text, end_text}
use Rattle.sercos_trace.specs.declared.record.Totals.{Totals}
use Rattle.sercos_answer.specs.Answer.{line_feed}
use Rattle.sercos_trace.specs.Marked.{marked}

-- A ring from a moment on: its number, its planner's input, the totals of its whole run, the moment at which its next cycle
-- begins, and the cycles from there on, in their order.
pub record Voice : Type 0 where
  pub number : ℕ
  pub wishes : WishesView
  pub totals : Totals
  pub at : ℕ
  pub later : List CycleView

-- how long a cycle takes, by the common cycle time and the phase that is commanded in it
abbrev pub span : ℕ → ℕ → ℕ
span time phase = if nat_le phase 2 then 1000 else time

-- The cycles from the one on that begins at a moment, if one does. The first of them all begins at `at`.
unfoldable pub from_moment : ℕ → ℕ → List CycleView → ℕ → List CycleView
from_moment time at [] moment = []
from_moment time at (t ∷ later) moment = if at == moment then t ∷ later else from_moment time (at + span time t.phase) later moment

abbrev pub begun : ℕ → ℕ → Voice → List CycleView
begun time moment v = from_moment time v.at v.later moment

-- a cycle begins; one begins that is commanded phase 3 or 4
unfoldable pub is_cycle : List CycleView → Bool
is_cycle [] = false
is_cycle (t ∷ later) = true

unfoldable pub is_timed : List CycleView → Bool
is_timed [] = false
is_timed (t ∷ later) = nat_le 3 t.phase

-- the lines of the first of these cycles, and the end line after the last one
unfoldable pub first_text : WishesView → Totals → List CycleView → List ℕ
first_text w totals [] = []
first_text w totals (t ∷ []) = cycle_text w t ++ end_text totals
first_text w totals (t ∷ next ∷ later) = cycle_text w t

-- a ring's number and a space, before each of its lines
abbrev pub mark_of : ℕ → List ℕ
mark_of n = decimal n ++ 32 ∷ []

abbrev pub head_lines : Voice → List ℕ
head_lines v = marked (mark_of v.number) (header_text v.wishes)

abbrev pub lines_at : ℕ → ℕ → Voice → List ℕ
lines_at time moment v = marked (mark_of v.number) (first_text v.wishes v.totals (begun time moment v))

-- the line of a moment, a `D` standing for it, and the lines of the cycles that begin then; nothing if none does
abbrev pub moment_line : ℕ → List ℕ
moment_line moment = line_text (codes "t D") (number moment ∷ []) ++ line_feed

abbrev pub moment_text : ℕ → List Voice → ℕ → List ℕ
moment_text time voices moment =
    if list_any (λ v. is_cycle (begun time moment v)) voices then moment_line moment ++ flat_map (lines_at time moment) voices else []

-- every ring begins a cycle commanded phase 3 or 4 at this moment; and at how many of n moments they do
abbrev pub all_timed : ℕ → List Voice → ℕ → Bool
all_timed time voices moment = list_all (λ v. is_timed (begun time moment v)) voices

abbrev pub together : ℕ → List Voice → ℕ → ℕ → ℕ
together time voices moment n = length (filter (all_timed time voices) (range_with_len moment n))

abbrev pub together_line : ℕ → List ℕ
together_line n = line_text (codes "together D") (number n ∷ []) ++ line_feed

-- all cycles of a ring are over by this moment
abbrev pub over_by : ℕ → Voice → ℕ
over_by time v = v.at + sum_by (λ t. span time t.phase) v.later

-- the text of n moments, and the last line, if `count` moments were counted before
abbrev pub rest_text : ℕ → List Voice → ℕ → ℕ → ℕ → List ℕ
rest_text time voices moment n count =
    flat_map (moment_text time voices) (range_with_len moment n) ++ together_line (count + together time voices moment n)

-- the whole text: the heads, the moments, up to one at which all rings are done, and the last line
abbrev pub merged : ℕ → List Voice → List ℕ
merged time voices = flat_map head_lines voices ++ rest_text time voices 0 (sum_by (over_by time) voices) 0
