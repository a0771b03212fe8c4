-- A place of a capture at which a station may send something: what it was to send there, and what the capture has.
use Rattle.std.specs.Prelude.{ℕ, ℤ, Bool, true, false, not, ◌&&◌, if◌then◌else◌, List, length, Option, Some, None, option_map}
use Rattle.std.specs.Ordering.{int_eq}
use Rattle.std.specs.Str.{bytes_eq}
use Rattle.sercos_hdlc.specs.Stuffed.{frame_of}
use Rattle.sercos_telegram.specs.declared.layout.Kind.{Kind}
use Rattle.sercos_trace.specs.Views.{SentView}

-- The kind of both telegrams is that of the place.
pub record PlaceView : Type 0 where
  pub cycle : ℕ
  pub kind : Kind
  pub expected : Option SentView
  pub found : Option SentView

-- Both have the same start and the same content, or there are none. Telegrams of the same content have the same length.
abbrev pub is_same : SentView → SentView → Bool
is_same a b = int_eq a.start b.start && bytes_eq a.content b.content

abbrev pub agree : Option SentView → Option SentView → Bool
agree None None = true
agree (Some a) (Some b) = is_same a b
agree _ _ = false

abbrev pub differs : PlaceView → Bool
differs p = not (agree p.expected p.found)

-- the place, if the station deviated there
abbrev pub if_differs : PlaceView → Option PlaceView
if_differs p = if differs p then Some p else None

-- a place, if there is one
abbrev pub if_told : Bool → PlaceView → Option PlaceView
if_told told p = if told then Some p else None

-- a telegram of a kind that starts at a bit time, if one is to be sent
abbrev pub telegram_at : Kind → List ℕ → ℤ → SentView
telegram_at kind content start = record { kind = kind; start = start; bits = length (frame_of content); content = content }

abbrev pub expected_as : Kind → List ℕ → Option ℤ → Option SentView
expected_as kind content start = option_map (telegram_at kind content) start
