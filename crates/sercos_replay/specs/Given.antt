-- What a replay reports while lines are added, in other words: the first place that differs, if its telegram is there or the capture has
-- one of a later place. Places are ordered by cycle, and in a cycle MST, AT, MDT. Lists of lines have their newest line first.
use Rattle.std.specs.Prelude.{ℕ, ◌==◌, nat_lt, Bool, false, ◌&&◌, ◌||◌, if◌then◌else◌, List, [], ◌∷◌, Option, Some, None, is_some}
use Rattle.sercos_telegram.specs.declared.layout.Kind.{Kind}
use Rattle.sercos_telegram.specs.declared.layout.Kind.TheVariants as telegram
use Rattle.sercos_trace.specs.declared.reading.Line.{Line}
use Rattle.sercos_trace.specs.declared.reading.Line.TheVariants as line
use Rattle.sercos_replay.specs.Places.{PlaceView}

abbrev pub rank : Kind → ℕ
rank telegram.Mst = 0
rank telegram.At = 1
rank telegram.Mdt = 2

abbrev pub is_later : PlaceView → ℕ → Kind → Bool
is_later p cycle kind = nat_lt p.cycle cycle || ((cycle == p.cycle) && nat_lt (rank p.kind) (rank kind))

abbrev pub is_passed : List Line → PlaceView → Bool
is_passed [] p = false
is_passed (line.Telegram cycle sent ∷ before) p = is_later p cycle sent.kind || is_passed before p
is_passed (_ ∷ before) p = is_passed before p

abbrev pub if_given : List Line → Option PlaceView → Option PlaceView
if_given lines None = None
if_given lines (Some p) = if is_some p.found || is_passed lines p then Some p else None
