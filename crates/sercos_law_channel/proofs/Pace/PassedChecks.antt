-- How a check comes to count as passed.
use Rattle.sercos_law_channel.proofs.Words.{◌≡◌, ℕ, ◌+◌, ◌≤◌, ◌&&◌, [], ◌∷◌, min, refl, ap, ◌∙◌, arith, if◌then◌else◌, nat_le, Option, Some, None, is_none, true, List, ◌==◌, Block, CommandHistory, is_command, eq-eqb, cond-true, le-leb, with_data, ends_well, Wrote, Other, with_call, find_set, from_setting, from_cancel, set_in, first_passed_in, PassesBySetting, PassesLast, StaysPassed, StaysPassedLast, and_from}

set_from : (end : ℕ) (o : Option ℕ) → (first : ℕ) × (from_setting end o ≡ Some first) × (first ≤ end)
set_from end None = (end, refl, omega arith)
set_from end (Some first) = (min first end, refl, omega arith)

-- a check that is set, and one that is cancelled: S-0-0127 or S-0-0128
by_setting : (raw : ℕ) (c : CommandHistory) (blocks : List Block) (cycle : ℕ) → is_command blocks raw ≡ true
    → find_set raw (set_in c) ≡ None → ends_well c.rate raw (with_data raw (3 ∷ 0 ∷ []) blocks) ≡ true
    → (first : ℕ) × (first_passed_in raw (with_call (if is_command blocks raw then Wrote raw 3 cycle (with_data raw (3 ∷ 0 ∷ []) blocks)
    else Other cycle) c) ≡ Some first) × (first ≤ cycle + c.time)
by_setting raw c blocks cycle command unset well =
    let from = set_from (cycle + c.time) (first_passed_in raw c) in (
      from.0,
      rw command (cond-true ((raw == raw) && (is_none (find_set raw (set_in c))
          && ends_well c.rate raw (with_data raw (3 ∷ 0 ∷ []) blocks))) _ _ (and_from _ _ (eq-eqb raw raw refl) (and_from _ _ (ap is_none unset) well)) ∙ from.1),
      from.2,
    )

by_cancel : (raw : ℕ) (c : CommandHistory) (blocks : List Block) (cycle first : ℕ) → is_command blocks raw ≡ true
    → first_passed_in raw c ≡ Some first → first ≤ cycle → first_passed_in raw (with_call (if is_command blocks raw
    then Wrote raw 0 cycle (with_data raw (0 ∷ 0 ∷ []) blocks) else Other cycle) c) ≡ Some first
by_cancel raw c blocks cycle first command is le =
    rw command (cond-true (raw == raw) _ _ (eq-eqb raw raw refl) ∙
    (ap (from_cancel cycle) is ∙ cond-true (nat_le first cycle) (Some first) None (le-leb first cycle le)))

pub passes_by_setting : PassesBySetting
passes_by_setting = by_setting 127

pub passes_last : PassesLast
passes_last = by_setting 128

pub stays_passed : StaysPassed
stays_passed = by_cancel 127

pub stays_passed_last : StaysPassedLast
stays_passed_last = by_cancel 128
