-- Marks before the lines of a text in parts.
use Rattle.std.proofs.Common.{◌≡◌, ℕ, Bool, true, false, if◌then◌else◌, List, [], ◌∷◌, ◌++◌, refl, sym, ◌∙◌, ap, append_assoc}
use Rattle.sercos_trace.specs.Marked.{is_feed, marked_from, marked, begins_after, AreLines, NoFeed}

pub begins_parts : (begins : Bool) (a b : List ℕ) → begins_after begins (a ++ b) ≡ begins_after (begins_after begins a) b
unfolding begins_after
begins_parts begins [] b = refl
begins_parts begins (x ∷ a) b = begins_parts (is_feed x) a b

pub marked_parts : (begins : Bool) (mark a b : List ℕ) → marked_from begins mark (a ++ b) ≡ marked_from begins mark a ++ marked_from (begins_after begins a) mark b
unfolding marked_from begins_after
marked_parts begins mark [] b = refl
marked_parts begins mark (x ∷ a) b =
    ap (λ t. (if begins then mark else []) ++ x ∷ t) (marked_parts (is_feed x) mark a b)
    ∙ sym (append_assoc (if begins then mark else []) (x ∷ marked_from (is_feed x) mark a) (marked_from (begins_after (is_feed x) a) mark b))

pub marked_then : (mark a b : List ℕ) → AreLines a → marked mark (a ++ b) ≡ marked mark a ++ marked mark b
unfolding marked
marked_then mark a b whole = marked_parts true mark a b ∙ ap (λ begins. marked_from true mark a ++ marked_from begins mark b) whole

pub lines_then : (a b : List ℕ) → AreLines a → AreLines b → AreLines (a ++ b)
lines_then a b first second = begins_parts true a b ∙ ap (λ begins. begins_after begins b) first ∙ second

pub no_lines : AreLines []
unfolding begins_after
no_lines = refl

pub lines_one : (begins : Bool) (a : List ℕ) → begins_after begins (a ++ 10 ∷ []) ≡ true
unfolding begins_after
lines_one begins [] = refl
lines_one begins (x ∷ a) = lines_one (is_feed x) a

pub marked_none : (mark : List ℕ) → marked mark [] ≡ []
unfolding marked marked_from
marked_none mark = refl

-- a line with its line feed has one mark
inner_marked : (mark line : List ℕ) → NoFeed line → marked_from false mark (line ++ 10 ∷ []) ≡ line ++ 10 ∷ []
unfolding marked_from
inner_marked mark [] none = refl
inner_marked mark (byte ∷ line) none = rw (none.0, inner_marked mark line none.1) refl

pub line_marked : (mark line : List ℕ) → NoFeed line → marked mark (line ++ 10 ∷ []) ≡ mark ++ (line ++ 10 ∷ [])
unfolding marked marked_from
line_marked mark [] none = refl
line_marked mark (byte ∷ line) none = rw (none.0, inner_marked mark line none.1) refl

pub marked_by_none : (begins : Bool) (text : List ℕ) → marked_from begins [] text ≡ text
unfolding marked_from
marked_by_none begins [] = refl
marked_by_none true (byte ∷ bytes) = ap (λ t. byte ∷ t) (marked_by_none (is_feed byte) bytes)
marked_by_none false (byte ∷ bytes) = ap (λ t. byte ∷ t) (marked_by_none (is_feed byte) bytes)
