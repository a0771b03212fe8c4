-- What a call writes to the front of a room, `out`, and the number of bytes that it reports.
use Rattle.std.specs.Prelude.{◌≡◌, ℕ, nat_le, if◌then◌else◌, List, ◌++◌, length, drop}
use Rattle.sercos_c.specs.Statuses.{done, write_fault}

-- the room afterwards: the content, and then what was there; all as it was if it has no room for the content
abbrev pub with_front : List ℕ → List ℕ → List ℕ
with_front content before = if nat_le (length content) (length before) then content ++ drop (length content) before else before

-- the content was written; if there is no room for it, nothing was
pub record IsPut (content before after : List ℕ) (count result : ℕ) : Type 0 where
  pub status : result ≡ (if nat_le (length content) (length before) then done else write_fault)
  pub written : count ≡ (if nat_le (length content) (length before) then length content else 0)
  pub out : after ≡ with_front content before

-- nothing was written, and the status is this one
pub record IsNothing (answer : ℕ) (before after : List ℕ) (count result : ℕ) : Type 0 where
  pub status : result ≡ answer
  pub written : count ≡ 0
  pub out : after ≡ before
