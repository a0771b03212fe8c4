-- What a replay tells of a clean capture is the first place that differs, if its telegram is there or one of a later place was given.
use Rattle.std.proofs.Common.{◌≡◌, ℕ, ◌+◌, ◌<◌, ◌≤◌, ◌==◌, nat_lt, Bool, true, false, cond, ◌&&◌, ◌||◌, if◌then◌else◌, unwrap_or, List, [], ◌∷◌, Option, Some, None, is_some, refl, sym, ◌∙◌, ap, subst, arith}
use Rattle.std.specs.Option.{option_or}
use Rattle.std.proofs.lemmas.Bool.{eqb-true, eq-eqb, false≢true, false_from_ne_true}
use Rattle.std.proofs.lemmas.Bool.Decides.{Decides-ltb}
use Rattle.std.proofs.lemmas.Option.{none-some}
use Rattle.sercos_telegram.specs.declared.layout.Kind.{Kind}
use Rattle.sercos_telegram.specs.declared.layout.Kind.TheVariants as telegram
use Rattle.sercos_step.specs.declared.request.Job.{Job}
use Rattle.sercos_block.specs.Views.{DriveView}
use Rattle.sercos_trace.specs.Views.{SentView}
use Rattle.sercos_trace.specs.declared.reading.Line.{Line}
use Rattle.sercos_trace.specs.declared.reading.Line.TheVariants as line
use Rattle.sercos_seat.specs.Ring.{Known}
use Rattle.sercos_timing.specs.Views.{WishesView}
use Rattle.sercos_check.specs.declared.marks.Command.{Command}
use Rattle.sercos_check.specs.Seen.{Told, is_mst, command_of, command_before}
use Rattle.sercos_check.specs.Rules.{is_next_cycle, is_same_cycle, is_in_order, is_alone, order_of}
use Rattle.sercos_check.specs.Shape.{wishes_by}
use Rattle.sercos_check.specs.Verdicts.{told, IsClean}
use Rattle.sercos_replay.specs.Cycles.{Cycle, at_after, mdt_after, with_at, with_mdt, with_telegram, cycles_of, newest_cycle}
use Rattle.sercos_replay.specs.Places.{PlaceView, differs, if_differs}
use Rattle.sercos_replay.specs.Differences.{at_found, at_place, drive_differs, if_passed, drive_tells, mst_place, mdt_place, master_differs, master_tells}
use Rattle.sercos_replay.specs.Given.{rank, is_later, is_passed, if_given}
use Rattle.sercos_replay.proofs.CleanLemmas.{number_of, at-newest, mdt-newest, newest-command, order-kept}

first_true : (a b : Bool) → (a && b) ≡ true → a ≡ true
first_true true b is = refl
first_true false b is = is

-- THE NUMBERS of the cycles of a clean capture.
abbrev NumberOf : Kind → ℕ → Option Command → Type 0
NumberOf telegram.Mst cycle command = is_next_cycle command cycle ≡ true
NumberOf telegram.At cycle command = is_same_cycle command cycle ≡ true
NumberOf telegram.Mdt cycle command = is_same_cycle command cycle ≡ true

abbrev AreNumbered : List Line → Type 0
AreNumbered [] = Unit {0}
AreNumbered (line.Telegram cycle sent ∷ before) = NumberOf sent.kind cycle (command_before (told before)) × AreNumbered before
AreNumbered (_ ∷ before) = AreNumbered before

number_by : (w : WishesView) (before : List Told) (cycle : ℕ) (sent : SentView) (kind : Kind) → order_of kind w before (record { cycle = cycle; sent = sent }) ≡ true
    → NumberOf kind cycle (command_before before)
number_by w before cycle sent telegram.Mst kept = kept
number_by w before cycle sent telegram.At kept =
    first_true (is_same_cycle (command_before before) cycle) _ (first_true (is_in_order w before (record { cycle = cycle; sent = sent })) (is_alone before sent) kept)
number_by w before cycle sent telegram.Mdt kept = first_true (is_same_cycle (command_before before) cycle) _ kept

numbered : (lines : List Line) → IsClean lines → AreNumbered lines
numbered [] clean = tt
numbered (line.Version ∷ lines) clean = numbered lines clean.0
numbered (line.Ring rate cycle control gap drives ∷ lines) clean = numbered lines clean.0
numbered (line.Drive wish ∷ lines) clean = numbered lines clean.0
numbered (line.Order addresses ∷ lines) clean = numbered lines clean.0
numbered (line.Telegram cycle sent ∷ lines) clean = (
  number_by (wishes_by lines) (told lines) cycle sent sent.kind (order-kept (wishes_by lines) (told lines) (record { cycle = cycle; sent = sent }) clean.2),
  numbered lines clean.0,
)
numbered (line.Other ∷ lines) clean = numbered lines clean.0
numbered (line.End ∷ lines) clean = numbered lines clean.0

-- each telegram is of a cycle below n
abbrev AreBelow : ℕ → List Line → Type 0
AreBelow n [] = Unit {0}
AreBelow n (line.Telegram cycle sent ∷ before) = (cycle < n) × AreBelow n before
AreBelow n (_ ∷ before) = AreBelow n before

more_below : (m n : ℕ) (lines : List Line) → m ≤ n → AreBelow m lines → AreBelow n lines
more_below m n [] le all = tt
more_below m n (line.Version ∷ lines) le all = more_below m n lines le all
more_below m n (line.Ring rate cycle control gap drives ∷ lines) le all = more_below m n lines le all
more_below m n (line.Drive wish ∷ lines) le all = more_below m n lines le all
more_below m n (line.Order addresses ∷ lines) le all = more_below m n lines le all
more_below m n (line.Telegram cycle sent ∷ lines) le all = let low = all.0 in (omega (arith, low, le), more_below m n lines le all.1)
more_below m n (line.Other ∷ lines) le all = more_below m n lines le all
more_below m n (line.End ∷ lines) le all = more_below m n lines le all

same_next : (command : Option Command) (cycle n : ℕ) → is_same_cycle command cycle ≡ true → is_next_cycle command n ≡ true → cycle < n
same_next None cycle n same next = absurd (false≢true same)
same_next (Some c) cycle n same next = let one = eqb-true cycle c.cycle same in let other = eqb-true n (c.cycle + 1) next in omega (arith, one, other)

below : (lines : List Line) → AreNumbered lines → (n : ℕ) → is_next_cycle (command_before (told lines)) n ≡ true → AreBelow n lines
below [] all n next = tt
below (line.Version ∷ lines) all n next = below lines all n next
below (line.Ring rate cycle control gap drives ∷ lines) all n next = below lines all n next
below (line.Drive wish ∷ lines) all n next = below lines all n next
below (line.Order addresses ∷ lines) all n next = below lines all n next
below (line.Telegram cycle sent ∷ lines) all n next = by sent.kind all.0 next (below lines all.1)
  where
    by : (kind : Kind) → NumberOf kind cycle (command_before (told lines))
        → is_next_cycle (if is_mst kind then Some (command_of (record { cycle = cycle; sent = sent })) else command_before (told lines)) n ≡ true
        → ((m : ℕ) → is_next_cycle (command_before (told lines)) m ≡ true → AreBelow m lines) → (cycle < n) × AreBelow n lines
    by telegram.Mst number next before =
        let same = eqb-true n (cycle + 1) next in
        (omega (arith, same), more_below cycle n lines (omega (arith, same)) (before cycle number))
    by telegram.At number next before = (same_next (command_before (told lines)) cycle n number next, before n next)
    by telegram.Mdt number next before = (same_next (command_before (told lines)) cycle n number next, before n next)
below (line.Other ∷ lines) all n next = below lines all n next
below (line.End ∷ lines) all n next = below lines all n next

-- WHICH PLACES ARE PASSED.
not_later : (p : PlaceView) (cycle : ℕ) (kind : Kind) → cycle < p.cycle → is_later p cycle kind ≡ false
not_later p cycle kind low =
    let before : nat_lt p.cycle cycle ≡ false = false_from_ne_true _ (λ is. let up = (Decides-ltb p.cycle cycle).0 is in omega (arith, up, low)) in
    let other : (cycle == p.cycle) ≡ false = false_from_ne_true _ (λ is. let same = eqb-true cycle p.cycle is in omega (arith, same, low)) in
    rw (before, other) refl

not_passed : (lines : List Line) (p : PlaceView) → AreBelow p.cycle lines → is_passed lines p ≡ false
not_passed [] p all = refl
not_passed (line.Version ∷ lines) p all = not_passed lines p all
not_passed (line.Ring rate cycle control gap drives ∷ lines) p all = not_passed lines p all
not_passed (line.Drive wish ∷ lines) p all = not_passed lines p all
not_passed (line.Order addresses ∷ lines) p all = not_passed lines p all
not_passed (line.Telegram cycle sent ∷ lines) p all = ap (λ b. b || is_passed lines p) (not_later p cycle sent.kind all.0) ∙ not_passed lines p all.1
not_passed (line.Other ∷ lines) p all = not_passed lines p all
not_passed (line.End ∷ lines) p all = not_passed lines p all

or_true : (b : Bool) → (b || true) ≡ true
or_true true = refl
or_true false = refl

-- a place of an older cycle
old_passed : (lines : List Line) (p : PlaceView) → p.cycle < newest_cycle (cycles_of lines) → is_passed lines p ≡ true
old_passed [] p low = absurd (omega (arith, low))
old_passed (line.Version ∷ lines) p low = old_passed lines p low
old_passed (line.Ring rate cycle control gap drives ∷ lines) p low = old_passed lines p low
old_passed (line.Drive wish ∷ lines) p low = old_passed lines p low
old_passed (line.Order addresses ∷ lines) p low = old_passed lines p low
old_passed (line.Telegram cycle sent ∷ lines) p low = by sent.kind low (old_passed lines p)
  where
    by : (kind : Kind) → p.cycle < newest_cycle (with_telegram kind cycle sent (cycles_of lines)) → (p.cycle < newest_cycle (cycles_of lines) → is_passed lines p ≡ true)
        → (is_later p cycle kind || is_passed lines p) ≡ true
    by telegram.Mst low before = ap (λ b. (b || ((cycle == p.cycle) && nat_lt (rank p.kind) 0)) || is_passed lines p) ((Decides-ltb p.cycle cycle).1 low)
    by telegram.At low before = ap (λ b. is_later p cycle telegram.At || b) (before (subst (λ n. p.cycle < n) (at-newest sent (cycles_of lines)) low)) ∙ or_true _
    by telegram.Mdt low before = ap (λ b. is_later p cycle telegram.Mdt || b) (before (subst (λ n. p.cycle < n) (mdt-newest sent (cycles_of lines)) low)) ∙ or_true _
old_passed (line.Other ∷ lines) p low = old_passed lines p low
old_passed (line.End ∷ lines) p low = old_passed lines p low

-- a place of the newest cycle: that of the AT is passed when the MDT has come, and that of the MDT isn't
abbrev has_cycle : List Cycle → Bool
has_cycle [] = false
has_cycle (t ∷ j) = true

abbrev newest_mdt : List Cycle → Bool
newest_mdt [] = false
newest_mdt (t ∷ j) = is_some t.mdt

has_cycle-at : (sent : SentView) (j : List Cycle) → has_cycle (with_at sent j) ≡ has_cycle j
has_cycle-at sent [] = refl
has_cycle-at sent (t ∷ j) = refl

has_cycle-mdt : (sent : SentView) (j : List Cycle) → has_cycle (with_mdt sent j) ≡ has_cycle j
has_cycle-mdt sent [] = refl
has_cycle-mdt sent (t ∷ j) = refl

newest_mdt-at : (sent : SentView) (j : List Cycle) → newest_mdt (with_at sent j) ≡ newest_mdt j
newest_mdt-at sent [] = refl
newest_mdt-at sent (t ∷ j) = by t.mdt refl
  where
    by : (m : Option SentView) → t.mdt ≡ m → is_some (at_after m sent t).mdt ≡ is_some t.mdt
    by None is = refl
    by (Some mdt) is = refl

newest_mdt-mdt : (sent : SentView) (j : List Cycle) → has_cycle j ≡ true → newest_mdt (with_mdt sent j) ≡ true
newest_mdt-mdt sent [] has = absurd (false≢true has)
newest_mdt-mdt sent (t ∷ j) has = by t.mdt refl
  where
    by : (m : Option SentView) → t.mdt ≡ m → is_some (mdt_after m sent t).mdt ≡ true
    by None is = refl
    by (Some mdt) is = ap (λ (o : Option SentView). is_some o) is

and_false : (b : Bool) → (b && false) ≡ false
and_false true = refl
and_false false = refl

not_above : (n : ℕ) → nat_lt n n ≡ false
not_above n = false_from_ne_true _ (λ is. let up = (Decides-ltb n n).0 is in omega (arith, up))

or_false : (b : Bool) → (b || false) ≡ b
or_false true = refl
or_false false = refl

-- among the places of one cycle the kind decides
level : (p : PlaceView) (cycle : ℕ) (kind : Kind) → p.cycle ≡ cycle → is_later p cycle kind ≡ nat_lt (rank p.kind) (rank kind)
level p cycle kind is =
    ap (λ n. nat_lt n cycle || ((cycle == n) && nat_lt (rank p.kind) (rank kind))) is
    ∙ ap (λ b. b || ((cycle == cycle) && nat_lt (rank p.kind) (rank kind))) (not_above cycle)
    ∙ ap (λ b. b && nat_lt (rank p.kind) (rank kind)) (eq-eqb cycle cycle refl)

same_number : (command : Option Command) (cycle : ℕ) → is_same_cycle command cycle ≡ true → cycle ≡ number_of command
same_number None cycle same = absurd (false≢true same)
same_number (Some c) cycle same = eqb-true cycle c.cycle same

at_passed : (lines : List Line) → AreNumbered lines → (p : PlaceView) → p.kind ≡ telegram.At → has_cycle (cycles_of lines) ≡ true → p.cycle ≡ newest_cycle (cycles_of lines)
    → is_passed lines p ≡ newest_mdt (cycles_of lines)
at_passed [] all p kind has is = refl
at_passed (line.Version ∷ lines) all p kind has is = at_passed lines all p kind has is
at_passed (line.Ring rate cycle control gap drives ∷ lines) all p kind has is = at_passed lines all p kind has is
at_passed (line.Drive wish ∷ lines) all p kind has is = at_passed lines all p kind has is
at_passed (line.Order addresses ∷ lines) all p kind has is = at_passed lines all p kind has is
at_passed (line.Telegram cycle sent ∷ lines) all p at has is = by sent.kind all.0 has is (at_passed lines all.1 p at)
  where
    by : (kind : Kind) → NumberOf kind cycle (command_before (told lines)) → has_cycle (with_telegram kind cycle sent (cycles_of lines)) ≡ true
        → p.cycle ≡ newest_cycle (with_telegram kind cycle sent (cycles_of lines))
        → (has_cycle (cycles_of lines) ≡ true → p.cycle ≡ newest_cycle (cycles_of lines) → is_passed lines p ≡ newest_mdt (cycles_of lines))
        → (is_later p cycle kind || is_passed lines p) ≡ newest_mdt (with_telegram kind cycle sent (cycles_of lines))
    by telegram.Mst number has is before =
        ap (λ b. b || is_passed lines p) (level p cycle telegram.Mst is ∙ ap (λ k. nat_lt (rank k) 0) at)
        ∙ not_passed lines p (below lines all.1 p.cycle (ap (is_next_cycle (command_before (told lines))) is ∙ number))
    by telegram.At number has is before =
        let newest : p.cycle ≡ newest_cycle (cycles_of lines) = is ∙ at-newest sent (cycles_of lines) in
        let same : p.cycle ≡ cycle = newest ∙ newest-command lines ∙ sym (same_number (command_before (told lines)) cycle number) in
        ap (λ b. b || is_passed lines p) (level p cycle telegram.At same ∙ ap (λ k. nat_lt (rank k) 1) at)
        ∙ before (sym (has_cycle-at sent (cycles_of lines)) ∙ has) newest
        ∙ sym (newest_mdt-at sent (cycles_of lines))
    by telegram.Mdt number has is before =
        let newest : p.cycle ≡ newest_cycle (cycles_of lines) = is ∙ mdt-newest sent (cycles_of lines) in
        let same : p.cycle ≡ cycle = newest ∙ newest-command lines ∙ sym (same_number (command_before (told lines)) cycle number) in
        ap (λ b. b || is_passed lines p) (level p cycle telegram.Mdt same ∙ ap (λ k. nat_lt (rank k) 2) at)
        ∙ sym (newest_mdt-mdt sent (cycles_of lines) (sym (has_cycle-mdt sent (cycles_of lines)) ∙ has))
at_passed (line.Other ∷ lines) all p kind has is = at_passed lines all p kind has is
at_passed (line.End ∷ lines) all p kind has is = at_passed lines all p kind has is

mdt_passed : (lines : List Line) → AreNumbered lines → (p : PlaceView) → p.kind ≡ telegram.Mdt → p.cycle ≡ newest_cycle (cycles_of lines) → is_passed lines p ≡ false
mdt_passed [] all p kind is = refl
mdt_passed (line.Version ∷ lines) all p kind is = mdt_passed lines all p kind is
mdt_passed (line.Ring rate cycle control gap drives ∷ lines) all p kind is = mdt_passed lines all p kind is
mdt_passed (line.Drive wish ∷ lines) all p kind is = mdt_passed lines all p kind is
mdt_passed (line.Order addresses ∷ lines) all p kind is = mdt_passed lines all p kind is
mdt_passed (line.Telegram cycle sent ∷ lines) all p mdt is = by sent.kind all.0 is (mdt_passed lines all.1 p mdt)
  where
    by : (kind : Kind) → NumberOf kind cycle (command_before (told lines)) → p.cycle ≡ newest_cycle (with_telegram kind cycle sent (cycles_of lines))
        → (p.cycle ≡ newest_cycle (cycles_of lines) → is_passed lines p ≡ false) → (is_later p cycle kind || is_passed lines p) ≡ false
    by telegram.Mst number is before =
        ap (λ b. b || is_passed lines p) (level p cycle telegram.Mst is ∙ ap (λ k. nat_lt (rank k) 0) mdt)
        ∙ not_passed lines p (below lines all.1 p.cycle (ap (is_next_cycle (command_before (told lines))) is ∙ number))
    by telegram.At number is before =
        let newest : p.cycle ≡ newest_cycle (cycles_of lines) = is ∙ at-newest sent (cycles_of lines) in
        let same : p.cycle ≡ cycle = newest ∙ newest-command lines ∙ sym (same_number (command_before (told lines)) cycle number) in
        ap (λ b. b || is_passed lines p) (level p cycle telegram.At same ∙ ap (λ k. nat_lt (rank k) 1) mdt) ∙ before newest
    by telegram.Mdt number is before =
        let newest : p.cycle ≡ newest_cycle (cycles_of lines) = is ∙ mdt-newest sent (cycles_of lines) in
        let same : p.cycle ≡ cycle = newest ∙ newest-command lines ∙ sym (same_number (command_before (told lines)) cycle number) in
        ap (λ b. b || is_passed lines p) (level p cycle telegram.Mdt same ∙ ap (λ k. nat_lt (rank k) 2) mdt) ∙ before newest
mdt_passed (line.Other ∷ lines) all p kind is = mdt_passed lines all p kind is
mdt_passed (line.End ∷ lines) all p kind is = mdt_passed lines all p kind is

-- A DIFFERENCE of an older cycle is of a lower cycle.
abbrev AreOlder : ℕ → List Cycle → Type 0
AreOlder n [] = Unit {0}
AreOlder n (t ∷ j) = (t.cycle < n) × AreOlder n j

abbrev IsTailOlder : List Cycle → Type 0
IsTailOlder [] = Unit {0}
IsTailOlder (t ∷ j) = AreOlder t.cycle j

older-at : (n : ℕ) (sent : SentView) (j : List Cycle) → AreOlder n j → AreOlder n (with_at sent j)
older-at n sent [] all = tt
older-at n sent (t ∷ j) all = (by t.mdt, all.1)
  where
    by : (m : Option SentView) → (at_after m sent t).cycle < n
    by None = all.0
    by (Some mdt) = all.0

older-mdt : (n : ℕ) (sent : SentView) (j : List Cycle) → AreOlder n j → AreOlder n (with_mdt sent j)
older-mdt n sent [] all = tt
older-mdt n sent (t ∷ j) all = (by t.mdt, all.1)
  where
    by : (m : Option SentView) → (mdt_after m sent t).cycle < n
    by None = all.0
    by (Some mdt) = all.0

older : (n : ℕ) (lines : List Line) → AreBelow n lines → AreOlder n (cycles_of lines)
older n [] all = tt
older n (line.Version ∷ lines) all = older n lines all
older n (line.Ring rate cycle control gap drives ∷ lines) all = older n lines all
older n (line.Drive wish ∷ lines) all = older n lines all
older n (line.Order addresses ∷ lines) all = older n lines all
older n (line.Telegram cycle sent ∷ lines) all = by sent.kind (older n lines all.1)
  where
    by : (kind : Kind) → AreOlder n (cycles_of lines) → AreOlder n (with_telegram kind cycle sent (cycles_of lines))
    by telegram.Mst before = (all.0, before)
    by telegram.At before = older-at n sent (cycles_of lines) before
    by telegram.Mdt before = older-mdt n sent (cycles_of lines) before
older n (line.Other ∷ lines) all = older n lines all
older n (line.End ∷ lines) all = older n lines all

tail-at : (sent : SentView) (j : List Cycle) → IsTailOlder j → IsTailOlder (with_at sent j)
tail-at sent [] all = tt
tail-at sent (t ∷ j) all = by t.mdt
  where
    by : (m : Option SentView) → AreOlder (at_after m sent t).cycle j
    by None = all
    by (Some mdt) = all

tail-mdt : (sent : SentView) (j : List Cycle) → IsTailOlder j → IsTailOlder (with_mdt sent j)
tail-mdt sent [] all = tt
tail-mdt sent (t ∷ j) all = by t.mdt
  where
    by : (m : Option SentView) → AreOlder (mdt_after m sent t).cycle j
    by None = all
    by (Some mdt) = all

tail_older : (lines : List Line) → AreNumbered lines → IsTailOlder (cycles_of lines)
tail_older [] all = tt
tail_older (line.Version ∷ lines) all = tail_older lines all
tail_older (line.Ring rate cycle control gap drives ∷ lines) all = tail_older lines all
tail_older (line.Drive wish ∷ lines) all = tail_older lines all
tail_older (line.Order addresses ∷ lines) all = tail_older lines all
tail_older (line.Telegram cycle sent ∷ lines) all = by sent.kind all.0 (tail_older lines all.1)
  where
    by : (kind : Kind) → NumberOf kind cycle (command_before (told lines)) → IsTailOlder (cycles_of lines) → IsTailOlder (with_telegram kind cycle sent (cycles_of lines))
    by telegram.Mst number before = older cycle lines (below lines all.1 cycle number)
    by telegram.At number before = tail-at sent (cycles_of lines) before
    by telegram.Mdt number before = tail-mdt sent (cycles_of lines) before
tail_older (line.Other ∷ lines) all = tail_older lines all
tail_older (line.End ∷ lines) all = tail_older lines all

some_same : (x y : PlaceView) → Some x ≡ Some y → x ≡ y
some_same x y e = ap (λ (o : Option PlaceView). unwrap_or o x) e

place_is : (p x : PlaceView) → if_differs p ≡ Some x → p ≡ x
place_is p x e = by (differs p) e
  where
    by : (b : Bool) → (if b then Some p else None) ≡ Some x → p ≡ x
    by true e = some_same p x e
    by false e = absurd (none-some x e)

drive-older : (d : DriveView) (rate n : ℕ) (j : List Cycle) (x : PlaceView) → AreOlder n j → drive_differs d rate j ≡ Some x → x.cycle < n
drive-older d rate n [] x all e = absurd (none-some x e)
drive-older d rate n (t ∷ j) x all e = by (drive_differs d rate j) refl e (drive-older d rate n j x all.1)
  where
    by : (o : Option PlaceView) → drive_differs d rate j ≡ o → option_or o (if_differs (at_place d rate t j)) ≡ Some x → (drive_differs d rate j ≡ Some x → x.cycle < n) → x.cycle < n
    by None is e before = subst (λ q. q.cycle < n) (place_is (at_place d rate t j) x e) all.0
    by (Some y) is e before = before (is ∙ e)

master-older : (s : Known) (jobs : List Job) (n : ℕ) (j : List Cycle) (x : PlaceView) → AreOlder n j → master_differs s jobs j ≡ Some x → x.cycle < n
master-older s jobs n [] x all e = absurd (none-some x e)
master-older s jobs n (t ∷ j) x all e = by (master_differs s jobs j) refl e (master-older s jobs n j x all.1)
  where
    second : (o : Option PlaceView) → if_differs (mst_place s jobs t j) ≡ o → option_or o (if_differs (mdt_place s jobs t j)) ≡ Some x → x.cycle < n
    second None is e = subst (λ q. q.cycle < n) (place_is (mdt_place s jobs t j) x e) all.0
    second (Some y) is e = subst (λ q. q.cycle < n) (place_is (mst_place s jobs t j) x (is ∙ e)) all.0

    by : (o : Option PlaceView) → master_differs s jobs j ≡ o → option_or o (option_or (if_differs (mst_place s jobs t j)) (if_differs (mdt_place s jobs t j))) ≡ Some x
        → (master_differs s jobs j ≡ Some x → x.cycle < n) → x.cycle < n
    by None is e before = second (if_differs (mst_place s jobs t j)) refl e
    by (Some y) is e before = before (is ∙ e)

-- WHAT IS TOLD.
old_given : (lines : List Line) (x : PlaceView) → x.cycle < newest_cycle (cycles_of lines) → Some x ≡ if_given lines (Some x)
old_given lines x low = sym (
    ap (λ b. cond (is_some x.found || b) (Some x) None) (old_passed lines x low)
    ∙ ap (λ b. cond b (Some x) None) (or_true (is_some x.found)))

new_given : (lines : List Line) (p : PlaceView) (b : Bool) → b ≡ (is_some p.found || is_passed lines p) → if_passed b p ≡ if_given lines (if_differs p)
new_given lines p b is = by (differs p) b is
  where
    by : (d b : Bool) → b ≡ (is_some p.found || is_passed lines p) → (if b then (if d then Some p else None) else None) ≡ if_given lines (if d then Some p else None)
    by true b is = ap (λ c. cond c (Some p) None) is
    by false true is = refl
    by false false is = refl

drive-in : (d : DriveView) (rate : ℕ) (lines : List Line) (j : List Cycle) → AreNumbered lines → cycles_of lines ≡ j → drive_tells d rate j ≡ if_given lines (drive_differs d rate j)
drive-in d rate lines [] all is = refl
drive-in d rate lines (t ∷ j) all is = by (drive_differs d rate j) refl
  where
    by : (o : Option PlaceView) → drive_differs d rate j ≡ o
        → option_or o (if_passed (is_some (at_found d t) || is_some t.mdt) (at_place d rate t j)) ≡ if_given lines (option_or o (if_differs (at_place d rate t j)))
    by None e = new_given lines (at_place d rate t j) _ (
        ap (λ b. is_some (at_found d t) || b)
        (sym (at_passed lines all (at_place d rate t j) refl (ap has_cycle is) (sym (ap newest_cycle is)) ∙ ap newest_mdt is)))
    by (Some x) e = old_given lines x (subst (λ c. x.cycle < newest_cycle c) (sym is) (drive-older d rate t.cycle j x (subst IsTailOlder is (tail_older lines all)) e))

pub drive_given : (d : DriveView) (rate : ℕ) (lines : List Line) → IsClean lines → drive_tells d rate (cycles_of lines) ≡ if_given lines (drive_differs d rate (cycles_of lines))
drive_given d rate lines clean = drive-in d rate lines (cycles_of lines) (numbered lines clean) refl

master-in : (s : Known) (jobs : List Job) (lines : List Line) (j : List Cycle) → AreNumbered lines → cycles_of lines ≡ j → master_tells s jobs j ≡ if_given lines (master_differs s jobs j)
master-in s jobs lines [] all is = refl
master-in s jobs lines (t ∷ j) all is = by (master_differs s jobs j) refl
  where
    second : (d : Bool) → option_or (if d then Some (mst_place s jobs t j) else None) (if_passed (is_some t.mdt) (mdt_place s jobs t j))
        ≡ if_given lines (option_or (if d then Some (mst_place s jobs t j) else None) (if_differs (mdt_place s jobs t j)))
    second true = refl
    second false = new_given lines (mdt_place s jobs t j) _ (
        sym (ap (λ b. is_some t.mdt || b) (mdt_passed lines all (mdt_place s jobs t j) refl (sym (ap newest_cycle is))) ∙ or_false (is_some t.mdt)))

    by : (o : Option PlaceView) → master_differs s jobs j ≡ o
        → option_or o (option_or (if_differs (mst_place s jobs t j)) (if_passed (is_some t.mdt) (mdt_place s jobs t j)))
        ≡ if_given lines (option_or o (option_or (if_differs (mst_place s jobs t j)) (if_differs (mdt_place s jobs t j))))
    by None e = second (differs (mst_place s jobs t j))
    by (Some x) e = old_given lines x (subst (λ c. x.cycle < newest_cycle c) (sym is) (master-older s jobs t.cycle j x (subst IsTailOlder is (tail_older lines all)) e))

pub master_given : (s : Known) (jobs : List Job) (lines : List Line) → IsClean lines → master_tells s jobs (cycles_of lines) ≡ if_given lines (master_differs s jobs (cycles_of lines))
master_given s jobs lines clean = master-in s jobs lines (cycles_of lines) (numbered lines clean) refl
