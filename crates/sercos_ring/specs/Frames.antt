-- What is kept of the frame of a telegram that a station sends in a cycle. Used in proofs only.
use Rattle.std.specs.Prelude.{◌≡◌, ℕ, ◌≤◌, true, false, List, length, Some}
use Rattle.sercos_hdlc.specs.Stuffed.{frame_of}
use Rattle.sercos_telegram.specs.declared.layout.Kind.{Kind}
use Rattle.sercos_script.specs.Links.{Carry, IsQuiet}
use Rattle.sercos_law_run.specs.Journal.Arrivals.{content_in}
use Rattle.sercos_ring.specs.declared.receiving.Framed.{Framed}

-- Its length, and its bits if they are made. If they aren't, the link doesn't change this telegram,
-- so that the bits aren't needed.
pub record IsSent (carry : Carry) (cycle : ℕ) (kind : Kind) (from : ℕ) (content : List ℕ) (sent : Framed) : Type 0 where
  pub whole : content_in (frame_of content) ≡ Some content
  pub len : sent.len ≡ length (frame_of content)
  pub bound : sent.len ≤ 19696
  pub made : sent.is_made ≡ true → sent.bits ≡ frame_of content
  pub quiet : sent.is_made ≡ false → IsQuiet carry cycle kind from
