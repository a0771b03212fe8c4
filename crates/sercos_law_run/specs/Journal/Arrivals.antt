-- What arrives at a station of what was sent, over a link, and what is a frame of it.
use Rattle.std.specs.Prelude.{ℕ, suc, zero, ◌+◌, Bool, true, false, not, ◌&&◌, ◌||◌, if◌then◌else◌, List, Option, Some, None, is_none, option_and_then}
use lib.Pointwise.{pointwise}
use mathlib.Core.Bool.{beq}
use Rattle.sercos_hdlc.specs.Reason.{reason_of, content_of, plain}
use Rattle.sercos_hdlc.specs.Stuffed.{frame_of}
use Rattle.sercos_telegram.specs.declared.layout.Kind.{Kind}
use Rattle.sercos_script.specs.declared.link.Passage.{Passage}
use Rattle.sercos_script.specs.Links.{Carry}

abbrev pub passage : ℕ → Kind → ℕ → ℕ → Passage
passage cycle kind from to = record { cycle = cycle; kind = kind; from = from; to = to }

-- the bits that arrive of a telegram's frame, if any do
abbrev pub arrival : Carry → Passage → List ℕ → Option (List Bool)
arrival carry p content = carry p (frame_of content)

-- the content of bits that are a frame
unfoldable pub content_in : List Bool → Option (List ℕ)
content_in bits = if is_none (reason_of bits) then Some (content_of (plain bits)) else None

-- The content that arrives at a station, if a frame does. The station's own rules decide whether it takes
-- it.
abbrev pub heard : Carry → Passage → List ℕ → Option (List ℕ)
heard carry p content = option_and_then content_in (arrival carry p content)

abbrev pub are_same : List Bool → List Bool → Bool
are_same xs ys = pointwise beq xs ys

-- An arrival is unseen, that is undetected damage, if it isn't what was sent, and is a frame anyway.
unfoldable pub is_unseen : List Bool → Option (List Bool) → Bool
is_unseen sent None = false
is_unseen sent (Some came) = not (are_same came sent) && is_none (reason_of came)

abbrev pub unseen_at : Carry → Passage → List ℕ → ℕ
unseen_at carry p content = if is_unseen (frame_of content) (arrival carry p content) then 1 else 0

-- An arrival is disturbed if it isn't what was sent.
abbrev pub is_disturbed : List Bool → Option (List Bool) → Bool
is_disturbed sent None = true
is_disturbed sent (Some came) = not (are_same came sent)

-- the sum of the values of a function below n
abbrev pub sum_below : ℕ → (ℕ → ℕ) → ℕ
sum_below zero f = 0
sum_below (suc n) f = sum_below n f + f n

abbrev pub any_below : ℕ → (ℕ → Bool) → Bool
any_below zero f = false
any_below (suc n) f = any_below n f || f n

abbrev pub disturbed_at : Carry → Passage → List ℕ → Bool
disturbed_at carry p content = is_disturbed (frame_of content) (arrival carry p content)
