-- The lines of one ring over all moments are its trace.
use Rattle.std.proofs.Common.{◌≡◌, ℕ, zero, suc, ◌+◌, ◌<◌, ◌≤◌, ◌==◌, Bool, true, false, ◌||◌, if◌then◌else◌, List, [], ◌∷◌, ◌++◌, length, reverse, Some, refl, sym, ◌∙◌, ap, subst, arith, append_assoc, append-nil}
use Rattle.std.specs.Prelude.{nat_le, slice_get}
use Rattle.std.specs.List.{flat_map, list_any, range_with_len, sum_by}
use Rattle.std.proofs.lemmas.Bool.Decides.{nat_tests}
use Rattle.std.proofs.lemmas.List.Sums.{sum_by-cons}
use Rattle.std.proofs.lemmas.List.{length-reverse}
use Rattle.sercos_block.specs.Rings.{wishes_of}
use Rattle.sercos_timing.specs.Views.{WishesView}
use Rattle.sercos_trace.specs.Views.{CycleView}
use Rattle.sercos_trace.specs.declared.record.Totals.{Totals}
use Rattle.sercos_trace.specs.Marked.{marked, AreLines}
use Rattle.sercos_trace.specs.Texts.{header_text, cycle_text, end_text, trace_of}
use Rattle.sercos_law_run.proofs.Theorems.{all_at, length-run_of}
use Rattle.sercos_config.specs.Views.{DocumentView}
use Rattle.sercos_opened.specs.Kept.{script_carry, script_restarts, script_run}
use Rattle.sercos_multi.specs.Going.{Each}
use Rattle.sercos_multi.specs.Merged.{Voice, span, from_moment, begun, is_cycle, first_text, mark_of, head_lines, lines_at, moment_line, moment_text, together, together_line, over_by}
use Rattle.sercos_multi.specs.Asking.{voice_of, voices_from}
use Rattle.sercos_multi.specs.OwnLines.{own_lines, LinesAreTraces}
use Rattle.sercos_multi.proofs.MomentLemmas.{none_before, range_same}
use Rattle.sercos_multi.proofs.OpenLemmas.{mark_is}
use Rattle.sercos_trace.proofs.MarkLemmas.{lines_then, no_lines}
use Rattle.sercos_multi.proofs.OwnLemmas.{own_parts, own_none, own_marked, other_marked, marked_whole, moment_own, together_own, moment_whole}
use Rattle.sercos_multi.proofs.TextLines.{all_whole, header_whole, first_whole}

-- ---- of several rings, the lines of one

is_digit : (n : ℕ) → n < 10 → (48 + n == 10) ≡ false
is_digit n below = grind (arith, nat_tests)

no_t : (n : ℕ) → n < 10 → (116 == 48 + n) ≡ false
no_t n below = grind (arith, nat_tests)

own_of : (n : ℕ) (text : List ℕ) → n < 10 → own_lines (mark_of n) (marked (mark_of n) text) ≡ text
own_of n text below = subst (λ m. own_lines m (marked m text) ≡ text) (mark_is n below) (own_marked (48 + n) text (is_digit n below))

other_of : (n u : ℕ) (text : List ℕ) → n < 10 → u < 10 → (u == n) ≡ false → own_lines (mark_of n) (marked (mark_of u) text) ≡ []
other_of n u text below under other =
    let differ : (48 + u == 48 + n) ≡ false = grind (arith, nat_tests, other) in
    subst (λ m. own_lines m (marked (mark_of u) text) ≡ []) (mark_is n below)
    (subst (λ m. own_lines ((48 + n) ∷ 32 ∷ []) (marked m text) ≡ []) (mark_is u under) (other_marked (48 + n) (48 + u) text (is_digit u under) differ))

whole_of : (u : ℕ) (text : List ℕ) → u < 10 → AreLines text → AreLines (marked (mark_of u) text)
whole_of u text under whole = subst (λ m. AreLines (marked m text)) (mark_is u under) (marked_whole (48 + u) text whole)

same_number : (u n : ℕ) → (u == n) ≡ true → u ≡ n
same_number u n is = grind (arith, nat_tests)

-- what a ring with a number has of a text for each ring
abbrev picked : ℕ → (Voice → List ℕ) → List Voice → List ℕ
picked n f vs = flat_map (λ u. if u.number == n then f u else []) vs

abbrev for_each : (Voice → List ℕ) → List Voice → List ℕ
for_each f vs = flat_map (λ u. marked (mark_of u.number) (f u)) vs

abbrev AreBelow : List Voice → Type 0
AreBelow vs = Each (λ u. u.number < 10) vs

each_whole : (f : Voice → List ℕ) (vs : List Voice) → ((u : Voice) → AreLines (f u)) → AreBelow vs → AreLines (for_each f vs)
unfolding Each
each_whole f [] whole below = no_lines
each_whole f (u ∷ vs) whole below = lines_then (marked (mark_of u.number) (f u)) (for_each f vs) (whole_of u.number (f u) below.0 (whole u)) (each_whole f vs whole below.1)

own_each : (n : ℕ) (f : Voice → List ℕ) (vs : List Voice) → n < 10 → ((u : Voice) → AreLines (f u)) → AreBelow vs → own_lines (mark_of n) (for_each f vs) ≡ picked n f vs
unfolding Each
own_each n f [] number whole below = own_none (mark_of n)
own_each n f (u ∷ vs) number whole below =
    own_parts (mark_of n) (marked (mark_of u.number) (f u)) (for_each f vs) (whole_of u.number (f u) below.0 (whole u))
    ∙ ap (λ t. t ++ own_lines (mark_of n) (for_each f vs)) (by (u.number == n) refl)
    ∙ ap (λ t. (if u.number == n then f u else []) ++ t) (own_each n f vs number whole below.1)
  where
    by : (b : Bool) → (u.number == n) ≡ b → own_lines (mark_of n) (marked (mark_of u.number) (f u)) ≡ (if b then f u else [])
    by true is = let same = same_number u.number n is in subst (λ m. own_lines (mark_of n) (marked (mark_of m) (f u)) ≡ f u) (sym same) (own_of n (f u) number)
    by false is = other_of n u.number (f u) number below.0 is

-- ---- at a moment

none_here : (n time moment : ℕ) (vs : List Voice) → list_any (λ u. is_cycle (begun time moment u)) vs ≡ false → picked n (λ u. first_text u.wishes u.totals (begun time moment u)) vs ≡ []
unfolding is_cycle first_text
none_here n time moment [] none = refl
none_here n time moment (u ∷ vs) none = by (begun time moment u) none (u.number == n) (none_here n time moment vs)
  where
    by : (here : List CycleView) → (is_cycle here || list_any (λ u. is_cycle (begun time moment u)) vs) ≡ false → (b : Bool)
        → (list_any (λ u. is_cycle (begun time moment u)) vs ≡ false → picked n (λ u. first_text u.wishes u.totals (begun time moment u)) vs ≡ [])
        → (if b then first_text u.wishes u.totals here else []) ++ picked n (λ u. first_text u.wishes u.totals (begun time moment u)) vs ≡ []
    by [] so true rest = rest so
    by [] so false rest = rest so
    by (t ∷ later) so b rest = absurd (cc)

own_moment : (n time moment : ℕ) (vs : List Voice) → n < 10 → AreBelow vs → own_lines (mark_of n) (moment_text time vs moment) ≡ picked n (λ u. first_text u.wishes u.totals (begun time moment u)) vs
own_moment n time moment vs number below = by (list_any (λ u. is_cycle (begun time moment u)) vs) refl
  where
    by : (b : Bool) → list_any (λ u. is_cycle (begun time moment u)) vs ≡ b
        → own_lines (mark_of n) (if b then moment_line moment ++ flat_map (lines_at time moment) vs else []) ≡ picked n (λ u. first_text u.wishes u.totals (begun time moment u)) vs
    by true is =
        own_parts (mark_of n) (moment_line moment) (flat_map (lines_at time moment) vs) (moment_whole moment)
        ∙ ap (λ t. t ++ own_lines (mark_of n) (flat_map (lines_at time moment) vs)) (subst (λ m. own_lines m (moment_line moment) ≡ []) (mark_is n number) (moment_own (48 + n) moment (no_t n number)))
        ∙ own_each n (λ u. first_text u.wishes u.totals (begun time moment u)) vs number (λ u. first_whole u.wishes u.totals (begun time moment u)) below
    by false is = own_none (mark_of n) ∙ sym (none_here n time moment vs is)

moment_lines : (time moment : ℕ) (vs : List Voice) → AreBelow vs → AreLines (moment_text time vs moment)
moment_lines time moment vs below = by (list_any (λ u. is_cycle (begun time moment u)) vs)
  where
    by : (b : Bool) → AreLines (if b then moment_line moment ++ flat_map (lines_at time moment) vs else [])
    by true = lines_then (moment_line moment) (flat_map (lines_at time moment) vs) (moment_whole moment)
        (each_whole (λ u. first_text u.wishes u.totals (begun time moment u)) vs (λ u. first_whole u.wishes u.totals (begun time moment u)) below)
    by false = no_lines

-- ---- over all moments

own_moments : (n time : ℕ) (vs : List Voice) (f : ℕ → List ℕ) (m k : ℕ) → n < 10 → AreBelow vs → ((i : ℕ) → picked n (λ u. first_text u.wishes u.totals (begun time i u)) vs ≡ f i)
    → own_lines (mark_of n) (flat_map (moment_text time vs) (range_with_len m k)) ≡ flat_map f (range_with_len m k)
own_moments n time vs f m zero number below is = own_none (mark_of n)
own_moments n time vs f m (suc k) number below is =
    own_parts (mark_of n) (moment_text time vs m) (flat_map (moment_text time vs) (range_with_len (m + 1) k)) (moment_lines time m vs below)
    ∙ ap (λ t. t ++ own_lines (mark_of n) (flat_map (moment_text time vs) (range_with_len (m + 1) k))) (own_moment n time m vs number below ∙ is m)
    ∙ ap (λ t. f m ++ t) (own_moments n time vs f (m + 1) k number below is)

moments_whole : (time : ℕ) (vs : List Voice) (m k : ℕ) → AreBelow vs → AreLines (flat_map (moment_text time vs) (range_with_len m k))
moments_whole time vs m k below = all_whole (moment_text time vs) (range_with_len m k) (λ i. moment_lines time i vs below)

-- the text of cycles with the end line after the last one
abbrev all_text : WishesView → Totals → List CycleView → List ℕ
all_text w totals [] = []
all_text w totals (t ∷ later) = first_text w totals (t ∷ later) ++ all_text w totals later

cycles_text : (w : WishesView) (totals : Totals) (t : CycleView) (later : List CycleView) → all_text w totals (t ∷ later) ≡ flat_map (cycle_text w) (t ∷ later) ++ end_text totals
unfolding first_text
cycles_text w totals t [] = append-nil (cycle_text w t ++ end_text totals) ∙ ap (λ x. x ++ end_text totals) (sym (append-nil (cycle_text w t)))
cycles_text w totals t (next ∷ later) = ap (λ x. cycle_text w t ++ x) (cycles_text w totals next later) ∙ sym (append_assoc (cycle_text w t) (flat_map (cycle_text w) (next ∷ later)) (end_text totals))

nothing_left : (w : WishesView) (totals : Totals) (time at m k : ℕ) → flat_map (λ i. first_text w totals (from_moment time at [] i)) (range_with_len m k) ≡ []
unfolding first_text from_moment
nothing_left w totals time at m zero = refl
nothing_left w totals time at m (suc k) = nothing_left w totals time at (m + 1) k

span_some : (time phase : ℕ) → 0 < time → 0 < span time phase
span_some time phase some = by (nat_le phase 2)
  where
    by : (b : Bool) → 0 < (if b then 1000 else time)
    by true = omega arith
    by false = some

abbrev ending : ℕ → ℕ → List CycleView → ℕ
ending time at later = at + sum_by (λ t. span time t.phase) later

run_moments : (w : WishesView) (totals : Totals) (time at : ℕ) (later : List CycleView) (m k : ℕ) → 0 < time → m ≤ at → ending time at later ≤ m + k
    → flat_map (λ i. first_text w totals (from_moment time at later i)) (range_with_len m k) ≡ all_text w totals later
unfolding from_moment first_text
run_moments w totals time at [] m k some from enough = nothing_left w totals time at m k
run_moments w totals time at (t ∷ later) m zero some from enough =
    let long = span_some time t.phase some in
    let sum = sum_by-cons (λ (u : CycleView). span time u.phase) t later in
    absurd (omega (arith, long, sum, from, enough))
run_moments w totals time at (t ∷ later) m (suc k) some from enough = by (at == m) refl (λ at' later' from' enough'. run_moments w totals time at' later' (m + 1) k some from' enough')
  where
    by : (b : Bool) → (at == m) ≡ b
        → ((at' : ℕ) (later' : List CycleView) → m + 1 ≤ at' → ending time at' later' ≤ m + 1 + k → flat_map (λ i. first_text w totals (from_moment time at' later' i)) (range_with_len (m + 1) k) ≡ all_text w totals later')
        → first_text w totals (if b then t ∷ later else from_moment time (at + span time t.phase) later m)
        ++ flat_map (λ i. first_text w totals (from_moment time at (t ∷ later) i)) (range_with_len (m + 1) k)
        ≡ all_text w totals (t ∷ later)
    by true is rest =
        let here = same_number at m is in
        let long = span_some time t.phase some in
        let sum = sum_by-cons (λ (u : CycleView). span time u.phase) t later in
        ap (λ x. first_text w totals (t ∷ later) ++ x)
        (range_same (λ i. first_text w totals (from_moment time at (t ∷ later) i)) (λ i. first_text w totals (from_moment time (at + span time t.phase) later i)) (m + 1) k
        (λ i above. let past : (at == i) ≡ false = grind (arith, nat_tests, here, above) in ap (λ (b : Bool). first_text w totals (if b then t ∷ later else from_moment time (at + span time t.phase) later i)) past)
        ∙ rest (at + span time t.phase) later (omega (arith, here, long)) (omega (arith, enough, sum)))
    by false is rest =
        let below : m < at = grind (arith, nat_tests, is, from) in
        ap (λ x. first_text w totals x ++ flat_map (λ i. first_text w totals (from_moment time at (t ∷ later) i)) (range_with_len (m + 1) k)) (none_before time (at + span time t.phase) later m (omega (arith, below)))
        ∙ rest at (t ∷ later) (omega (arith, below)) (omega (arith, enough))

-- ---- the rings of documents

picked_none : (n : ℕ) (f : Voice → List ℕ) (k : ℕ) (documents : List DocumentView) → n < k → picked n f (voices_from k documents) ≡ []
unfolding voices_from
picked_none n f k [] above = refl
picked_none n f k (d ∷ documents) above =
    let other : (k == n) ≡ false = grind (arith, nat_tests, above) in rw other (picked_none n f (k + 1) documents (omega (arith, above)))

picked_one : (f : Voice → List ℕ) (k i : ℕ) (documents : List DocumentView) (d : DocumentView) → slice_get documents i ≡ Some d → picked (k + i) f (voices_from k documents) ≡ f (voice_of (k + i) d)
unfolding voices_from
picked_one f k i [] d there = absurd (cc)
picked_one f k zero (x ∷ documents) d there =
    let is : x ≡ d = cc in
    let same : (k == k + 0) ≡ true = grind (arith, nat_tests) in
    let number : k ≡ k + 0 = omega arith in
    rw same (ap (λ t. f (voice_of k x) ++ t) (picked_none (k + 0) f (k + 1) documents (omega arith)) ∙ append-nil (f (voice_of k x)) ∙ ap (λ y. f (voice_of k y)) is ∙ ap (λ j. f (voice_of j d)) number)
picked_one f k (suc i) (x ∷ documents) d there =
    let other : (k == k + suc i) ≡ false = grind (arith, nat_tests) in
    let number : k + 1 + i ≡ k + suc i = omega arith in
    rw other (subst (λ j. picked j f (voices_from (k + 1) documents) ≡ f (voice_of j d)) number (picked_one f (k + 1) i documents d there))

voices_below : (k : ℕ) (documents : List DocumentView) → k + length documents ≤ 10 → AreBelow (voices_from k documents)
unfolding Each voices_from
voices_below k [] few = tt
voices_below k (d ∷ documents) few = (omega (arith, few), voices_below (k + 1) documents (omega (arith, few)))

over_enough : (time k i : ℕ) (documents : List DocumentView) (d : DocumentView) → slice_get documents i ≡ Some d → over_by time (voice_of (k + i) d) ≤ sum_by (over_by time) (voices_from k documents)
unfolding voices_from
over_enough time k i [] d there = absurd (cc)
over_enough time k zero (x ∷ documents) d there =
    let is : x ≡ d = cc in
    let sum = sum_by-cons (over_by time) (voice_of k x) (voices_from (k + 1) documents) in
    let same : over_by time (voice_of k x) ≡ over_by time (voice_of (k + 0) d) = ap (λ y. over_by time (voice_of k y)) is in
    omega (arith, sum, same)
over_enough time k (suc i) (x ∷ documents) d there =
    let sum = sum_by-cons (over_by time) (voice_of k x) (voices_from (k + 1) documents) in
    let number : k + 1 + i ≡ k + suc i = omega arith in
    let rest = over_enough time (k + 1) i documents d there in
    let same : over_by time (voice_of (k + 1 + i) d) ≡ over_by time (voice_of (k + suc i) d) = refl in
    omega (arith, sum, rest, same)

run_some : (w : WishesView) (totals : Totals) (run : List CycleView) → 0 < length run → header_text w ++ (all_text w totals run ++ []) ≡ trace_of w run totals
run_some w totals [] some = absurd (omega (arith, some))
run_some w totals (t ∷ later) some = ap (λ x. header_text w ++ x) (append-nil (all_text w totals (t ∷ later)) ∙ cycles_text w totals t later)

place_below : (i : ℕ) (documents : List DocumentView) (d : DocumentView) → slice_get documents i ≡ Some d → i < length documents
place_below i [] d there = absurd (cc)
place_below zero (x ∷ documents) d there = omega arith
place_below (suc i) (x ∷ documents) d there = let rest = place_below i documents d there in omega (arith, rest)

reversed_some : (run : List CycleView) (n : ℕ) → length run ≡ n → 1 ≤ n → 0 < length (reverse run)
reversed_some run n is some = let same = length-reverse run in omega (arith, same, is, some)

pub lines_are_traces : LinesAreTraces
lines_are_traces time documents some few all i d there =
    let cycles : 1 ≤ d.setup.cycles = all_at (λ (d : DocumentView). 1 ≤ d.setup.cycles) documents i d all there in
    let v : Voice = voice_of (1 + i) d in
    let place = place_below i documents d there in
    let number : 1 + i < 10 = omega (arith, place, few) in
    let below : AreBelow (voices_from 1 documents) = voices_below 1 documents (omega (arith, few)) in
    let len : ℕ = sum_by (over_by time) (voices_from 1 documents) in
    let moments = flat_map (moment_text time (voices_from 1 documents)) (range_with_len 0 len) in
    let last = together_line (0 + together time (voices_from 1 documents) 0 len) in
    let enough = over_enough time 1 i documents d there in
    let heads =
    own_parts (mark_of (1 + i)) (flat_map head_lines (voices_from 1 documents)) (moments ++ last) (each_whole (λ u. header_text u.wishes) (voices_from 1 documents) (λ u. header_whole u.wishes) below)
    ∙ ap (λ t. t ++ own_lines (mark_of (1 + i)) (moments ++ last))
    (own_each (1 + i) (λ u. header_text u.wishes) (voices_from 1 documents) number (λ u. header_whole u.wishes) below ∙ picked_one (λ u. header_text u.wishes) 1 i documents d there) in
    let rest =
    own_parts (mark_of (1 + i)) moments last (moments_whole time (voices_from 1 documents) 0 len below)
    ∙ ap (λ t. t ++ own_lines (mark_of (1 + i)) last)
    (own_moments (1 + i) time (voices_from 1 documents) (λ m. first_text v.wishes v.totals (from_moment time v.at v.later m)) 0 len number below (λ m. picked_one (λ u. first_text u.wishes u.totals (begun time m u)) 1 i documents d there)
    ∙ run_moments v.wishes v.totals time 0 v.later 0 len some (omega arith) (omega (arith, enough)))
    ∙ ap (λ t. all_text v.wishes v.totals v.later ++ t) (subst (λ m. own_lines m last ≡ []) (mark_is (1 + i) number) (together_own (48 + (1 + i)) (0 + together time (voices_from 1 documents) 0 len) (no_t (1 + i) number))) in
    heads ∙ ap (λ t. header_text (wishes_of d.setup) ++ t) rest ∙ run_some v.wishes v.totals v.later (reversed_some (script_run d) d.setup.cycles (length-run_of d.setup d.jobs (script_carry d) (script_restarts d) d.setup.cycles) cycles)
