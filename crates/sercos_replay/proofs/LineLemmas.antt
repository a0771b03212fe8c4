-- The lines of a capture, one by one.
use Rattle.std.proofs.Common.{◌≡◌, ℕ, ◌+◌, ◌<◌, ◌≤◌, Bool, true, false, List, [], ◌∷◌, length, Option, Some, None, is_some, if◌then◌else◌, not, refl, sym, ◌∙◌, ap, subst, arith}
use Rattle.std.specs.Option.{option_or, option_map}
use Rattle.std.specs.Bool.{then_some}
use Rattle.std.proofs.lemmas.Option.{none-some}
use Rattle.sercos_trace.specs.declared.reading.Line.{Line}
use Rattle.sercos_trace.specs.declared.reading.Line.TheVariants as line
use Rattle.sercos_trace.specs.Lines.{line_in}
use Rattle.sercos_trace.specs.Views.{SentView}
use Rattle.sercos_telegram.specs.declared.layout.Kind.{Kind}
use Rattle.sercos_telegram.specs.declared.layout.Kind.TheVariants as telegram
use Rattle.sercos_check.specs.Tests.{can_follow, TellsFollowing}
use Rattle.sercos_check.specs.Verdicts.{rule_broken, IsClean}
use Rattle.sercos_answer.specs.Lines.{lines_of}
use Rattle.sercos_answer.proofs.CutLemmas.{Cut, lines_of-cut}
use Rattle.sercos_checking.specs.declared.verdict.Verdict.TheVariants as verdict
use Rattle.sercos_checking.specs.Checking.{read_as, grammar_fault, shape_fault, column_of, capture_fault, first_violation, verdict_by, verdict_of}
use Rattle.sercos_replay.specs.Cycles.{Cycle, cycles_of, with_at, with_mdt, with_telegram}
use Rattle.sercos_replay.specs.declared.station.Replay.{Replay}
use Rattle.sercos_replay.specs.Stations.{Station, ReplayStandsFor, IsGiven, kind_cycle, mst_cycle, lines_after, lines_read}
use Rattle.sercos_replay.specs.Replaying.{first_cycle}

-- ---- the first MST

pub other_cycle : (l : Line) → ((cycle : ℕ) (sent : SentView) → l ≡ line.Telegram cycle sent → ⊥) → mst_cycle l ≡ None
unfolding mst_cycle
other_cycle line.Version not = refl
other_cycle (line.Ring rate cycle control gap drives) not = refl
other_cycle (line.Drive wish) not = refl
other_cycle (line.Order addresses) not = refl
other_cycle (line.Telegram cycle sent) not = absurd (not cycle sent refl)
other_cycle line.Other not = refl
other_cycle line.End not = refl

pub unread_cycle : (text : List ℕ) → None ≡ line_in text → mst_cycle (read_as text) ≡ None
unfolding read_as mst_cycle
unread_cycle text e = rw (← e) refl

pub cycle-more : (rest line others : List ℕ) → Cut rest line others → mst_cycle (read_as line) ≡ None → first_cycle (lines_of rest) ≡ first_cycle (lines_of others)
unfolding first_cycle
cycle-more rest line others cut none = rw (lines_of-cut rest line others cut, none) refl

pub cycle-here : (rest line others : List ℕ) (cycle : ℕ) → Cut rest line others → mst_cycle (read_as line) ≡ Some cycle → first_cycle (lines_of rest) ≡ Some cycle
unfolding first_cycle
cycle-here rest line others cycle cut some = rw (lines_of-cut rest line others cut, some) refl

pub no_lines : (rest : List ℕ) → length rest ≡ 0 → lines_of rest ≡ []
unfolding lines_of
no_lines [] none = refl
no_lines (byte ∷ rest) none = absurd (omega (arith, none))

pub cycle-none : (rest : List ℕ) → length rest ≡ 0 → first_cycle (lines_of rest) ≡ None
unfolding first_cycle
cycle-none rest none = rw (no_lines rest none) refl

-- ---- how many cycles begin with a line

abbrev one_if : Option ℕ → ℕ
one_if None = 0
one_if (Some cycle) = 1

at_count : (sent : SentView) (j : List Cycle) → length (with_at sent j) ≡ length j + 0
at_count sent [] = omega arith
at_count sent (t ∷ j) = omega arith

mdt_count : (sent : SentView) (j : List Cycle) → length (with_mdt sent j) ≡ length j + 0
mdt_count sent [] = omega arith
mdt_count sent (t ∷ j) = omega arith

telegram_count : (kind : Kind) (cycle : ℕ) (sent : SentView) (j : List Cycle) → length (with_telegram kind cycle sent j) ≡ length j + one_if (kind_cycle kind cycle)
unfolding kind_cycle
telegram_count telegram.Mst cycle sent j = omega arith
telegram_count telegram.At cycle sent j = at_count sent j
telegram_count telegram.Mdt cycle sent j = mdt_count sent j

line_count : (l : Line) (before : List Line) → length (cycles_of (l ∷ before)) ≡ length (cycles_of before) + one_if (mst_cycle l)
unfolding mst_cycle
line_count line.Version before = omega arith
line_count (line.Ring rate cycle control gap drives) before = omega arith
line_count (line.Drive wish) before = omega arith
line_count (line.Order addresses) before = omega arith
line_count (line.Telegram cycle sent) before = telegram_count sent.kind cycle sent (cycles_of before)
line_count line.Other before = omega arith
line_count line.End before = omega arith

pub count_begun : (l : Line) (before : List Line) (cycle : Option ℕ) (begun : ℕ) → cycle ≡ mst_cycle l → begun ≡ (if is_some cycle then 1 else 0) → length (cycles_of (l ∷ before)) ≡ length (cycles_of before) + begun
count_begun l before cycle begun is value = line_count l before ∙ ap (λ (n : ℕ). length (cycles_of before) + n) (ap one_if (sym is) ∙ by cycle ∙ sym value)
  where
    by : (o : Option ℕ) → one_if o ≡ (if is_some o then 1 else 0)
    by None = refl
    by (Some x) = refl

-- ---- a clean line

some≢none : {A : Type 0} {x : A} → Some x ≡ None → ⊥
some≢none e = cc

-- a text without a column at which it is refused has no fault of grammar, and can follow
good_grammar : (before : List Line) (text : List ℕ) → column_of before text ≡ None → grammar_fault text ≡ None
unfolding column_of
good_grammar before text e = by (grammar_fault text) e
  where
    by : (o : Option ℕ) → option_or o (shape_fault before text) ≡ None → o ≡ None
    by None e = refl
    by (Some place) e = absurd (some≢none e)

good_shape : (before : List Line) (text : List ℕ) → column_of before text ≡ None → can_follow before (read_as text) ≡ true
unfolding column_of shape_fault
good_shape before text e = by (grammar_fault text) (can_follow before (read_as text)) e
  where
    by : (o : Option ℕ) (can : Bool) → option_or o (then_some (not can) 1) ≡ None → can ≡ true
    by None true e = refl
    by None false e = absurd (some≢none e)
    by (Some place) can e = absurd (some≢none e)

pub clean_line : TellsFollowing → (before : List Line) (text : List ℕ) → IsClean before → column_of before text ≡ None → rule_broken before (read_as text) ≡ None → IsClean (read_as text ∷ before)
clean_line tells before text clean good kept = (clean, (tells before (read_as text)).0 (good_shape before text good), kept)

pub unread_refused : (before : List Line) (text : List ℕ) (column : ℕ) → column_of before text ≡ None → grammar_fault text ≡ Some column → ⊥
unread_refused before text column good bad = none-some _ (sym (good_grammar before text good) ∙ bad)

pub line_given : TellsFollowing → (before : List Line) (text : List ℕ) (l : Line) (old new : Replay) (begun : ℕ) → IsClean before → column_of before text ≡ None → rule_broken before (read_as text) ≡ None → read_as text ≡ l
    → ((s : Station) (before : List Line) → ReplayStandsFor old s before → IsClean (l ∷ before) → ReplayStandsFor new s (l ∷ before))
    → ((before : List Line) → length (cycles_of (l ∷ before)) ≡ length (cycles_of before) + begun) → IsGiven old new before (read_as text) begun
line_given tells before text l old new begun clean good kept is stands count =
    let all = clean_line tells before text clean good kept in
    record {
      clean = all;
      stands = λ s now. subst (λ (x : Line). ReplayStandsFor new s (x ∷ before)) (sym is) (stands s before now (subst (λ (x : Line). IsClean (x ∷ before)) is all));
      count = ap (λ (x : Line). length (cycles_of (x ∷ before))) is ∙ count before;
    }

-- ---- all lines

-- What was given of a text, and what is left of it: both are clean.
pub record Giving (old new : Replay) (cycles : ℕ) (rest text : List ℕ) : Type 0 where
  pub before : List Line
  pub clean : IsClean before
  pub fault : capture_fault before (lines_of rest) ≡ None
  pub violation : first_violation before (lines_of rest) ≡ None
  pub lines : lines_after before (lines_of rest) ≡ lines_read text
  pub stands : (s : Station) → ReplayStandsFor old s [] → ReplayStandsFor new s before
  pub count : cycles ≡ length (cycles_of before)
  pub few : cycles + length rest ≤ length text

clean_fault : (text : List ℕ) (count : ℕ) → verdict_of text ≡ verdict.Clean count → capture_fault [] (lines_of text) ≡ None
unfolding verdict_of verdict_by
clean_fault text count e = by (capture_fault [] (lines_of text)) (first_violation [] (lines_of text)) e
  where
    by : (f v : Option (ℕ × ℕ)) → verdict_by f v (length (lines_of text)) ≡ verdict.Clean count → f ≡ None
    by None v e = refl
    by (Some fault) v e = absurd (cc)

clean_violation : (text : List ℕ) (count : ℕ) → verdict_of text ≡ verdict.Clean count → first_violation [] (lines_of text) ≡ None
unfolding verdict_of verdict_by
clean_violation text count e = by (capture_fault [] (lines_of text)) (first_violation [] (lines_of text)) e
  where
    by : (f v : Option (ℕ × ℕ)) → verdict_by f v (length (lines_of text)) ≡ verdict.Clean count → v ≡ None
    by None None e = refl
    by None (Some broken) e = absurd (cc)
    by (Some fault) v e = absurd (cc)

pub giving-begun : (replay : Replay) (text : List ℕ) (count : ℕ) → verdict_of text ≡ verdict.Clean count → Giving replay replay 0 text text
unfolding lines_read
giving-begun replay text count is = record {
  before = [];
  clean = tt;
  fault = clean_fault text count is;
  violation = clean_violation text count is;
  lines = refl;
  stands = λ s stands. stands;
  count = refl;
  few = omega arith;
}

or_left : {A : Type 0} (a b : Option A) → option_or a b ≡ None → a ≡ None
or_left None b e = refl
or_left (Some x) b e = absurd (some≢none e)

or_right : {A : Type 0} (a b : Option A) → option_or a b ≡ None → b ≡ None
or_right None b e = e
or_right (Some x) b e = absurd (some≢none e)

map_none : {A B : Type 0} (f : A → B) (a : Option A) → option_map f a ≡ None → a ≡ None
map_none f None e = refl
map_none f (Some x) e = absurd (some≢none e)

fault-cut : (before : List Line) (rest line others : List ℕ) → Cut rest line others → capture_fault before (lines_of rest) ≡ None → capture_fault before (line ∷ lines_of others) ≡ None
fault-cut before rest line others cut e = ap (capture_fault before) (sym (lines_of-cut rest line others cut)) ∙ e

violation-cut : (before : List Line) (rest line others : List ℕ) → Cut rest line others → first_violation before (lines_of rest) ≡ None → first_violation before (line ∷ lines_of others) ≡ None
violation-cut before rest line others cut e = ap (first_violation before) (sym (lines_of-cut rest line others cut)) ∙ e

column_good : (before : List Line) (line : List ℕ) (texts : List (List ℕ)) → capture_fault before (line ∷ texts) ≡ None → column_of before line ≡ None
unfolding capture_fault
column_good before line texts e = map_none (λ column. (length before + 1, column)) (column_of before line) (or_left _ _ e)

others_good : (before : List Line) (line : List ℕ) (texts : List (List ℕ)) → capture_fault before (line ∷ texts) ≡ None → capture_fault (read_as line ∷ before) texts ≡ None
unfolding capture_fault
others_good before line texts e = or_right (option_map (λ column. (length before + 1, column)) (column_of before line)) _ e

rule_good : (before : List Line) (line : List ℕ) (texts : List (List ℕ)) → first_violation before (line ∷ texts) ≡ None → rule_broken before (read_as line) ≡ None
unfolding first_violation
rule_good before line texts e = map_none (λ rule. (length before + 1, rule)) (rule_broken before (read_as line)) (or_left _ _ e)

others_kept : (before : List Line) (line : List ℕ) (texts : List (List ℕ)) → first_violation before (line ∷ texts) ≡ None → first_violation (read_as line ∷ before) texts ≡ None
unfolding first_violation
others_kept before line texts e = or_right (option_map (λ rule. (length before + 1, rule)) (rule_broken before (read_as line))) _ e

lines-cut : (before : List Line) (rest line others text : List ℕ) → Cut rest line others → lines_after before (lines_of rest) ≡ lines_read text → lines_after (read_as line ∷ before) (lines_of others) ≡ lines_read text
unfolding lines_after
lines-cut before rest line others text cut e = ap (lines_after before) (sym (lines_of-cut rest line others cut)) ∙ e

pub giving-more : (old new new' : Replay) (cycles begun : ℕ) (rest line others text : List ℕ) → Giving old new cycles rest text → Cut rest line others → length others < length rest → begun ≤ 1
    → ((before : List Line) → IsClean before → column_of before line ≡ None → rule_broken before (read_as line) ≡ None → IsGiven new new' before (read_as line) begun)
    → Giving old new' (cycles + begun) others text
giving-more old new new' cycles begun rest line others text now cut shorter bound given =
    let f = fault-cut now.before rest line others cut now.fault in
    let v = violation-cut now.before rest line others cut now.violation in
    let is = given now.before now.clean (column_good now.before line (lines_of others) f) (rule_good now.before line (lines_of others) v) in
    let few = now.few in
    record {
      before = read_as line ∷ now.before;
      clean = is.clean;
      fault = others_good now.before line (lines_of others) f;
      violation = others_kept now.before line (lines_of others) v;
      lines = lines-cut now.before rest line others text cut now.lines;
      stands = λ s stands. is.stands s (now.stands s stands);
      count = ap (λ (n : ℕ). n + begun) now.count ∙ sym is.count;
      few = omega (arith, few, shorter, bound);
    }

ended_lines : (before : List Line) (rest text : List ℕ) → length rest ≡ 0 → lines_after before (lines_of rest) ≡ lines_read text → before ≡ lines_read text
unfolding lines_after
ended_lines before rest text none e = ap (lines_after before) (sym (no_lines rest none)) ∙ e

pub giving-stands : (old new : Replay) (cycles : ℕ) (rest text : List ℕ) → Giving old new cycles rest text → length rest ≡ 0 → (s : Station) → ReplayStandsFor old s [] → ReplayStandsFor new s (lines_read text)
giving-stands old new cycles rest text now none s stands =
    subst (λ (lines : List Line). ReplayStandsFor new s lines) (ended_lines now.before rest text none now.lines) (now.stands s stands)

pub giving-count : (old new : Replay) (cycles : ℕ) (rest text : List ℕ) → Giving old new cycles rest text → length rest ≡ 0 → cycles ≡ length (cycles_of (lines_read text))
giving-count old new cycles rest text now none = now.count ∙ ap (λ (lines : List Line). length (cycles_of lines)) (ended_lines now.before rest text none now.lines)
