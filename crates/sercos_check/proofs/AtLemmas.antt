-- What is kept after an AT.
use Rattle.std.proofs.Common.{◌≡◌, ℕ, ℤ, pos, ◌*◌, ◌+ℤ◌, ◌<◌, Bool, true, false, List, ◌∷◌, length, get_or, refl, sym, ap, subst, ◌∙◌, arith, true≢false}
use Rattle.std.specs.Prelude.{Option, Some, None, ◌&&◌, ◌||◌, ◌==◌, nat_lt, slice_index, set, option_map, if◌then◌else◌}
use Rattle.std.specs.Int.Signed.{le_z}
use Rattle.std.proofs.lemmas.List.{get_or-set_same, get_or-set_other}
use Rattle.std.proofs.lemmas.Bool.{eqb-true, eq-eqb}
use Rattle.std.proofs.lemmas.Int.{ints}
use Rattle.std.specs.List.{find}
use Rattle.sercos_telegram.specs.declared.layout.Kind.{Kind}
use Rattle.sercos_telegram.specs.declared.layout.Kind.TheVariants as telegram
use Rattle.sercos_timing.specs.Views.{WishesView}
use Rattle.sercos_trace.specs.Views.{SentView}
use Rattle.sercos_check.specs.declared.marks.Mark.{Mark}
use Rattle.sercos_check.specs.Seen.{Told, address_of, slave_of, in_cycle, has_at_from, is_at_of, wish_for, mark_of, end_of}
use Rattle.sercos_check.specs.Kept.{SeenState, SeenStandsFor, with_at, later, is_from}

le_trans : (a b c : ℤ) → le_z a b ≡ true → le_z b c ≡ true → le_z a c ≡ true
le_trans a b c first second = grind (arith, ints)

le_total : (a b c : ℤ) → le_z a b ≡ false → le_z a c ≡ true → le_z b c ≡ true
le_total a b c first second = grind (arith, ints)

implied : (p q : Bool) → (p ≡ true → q ≡ true) → p ≡ (p && q)
implied true q so = sym (so refl)
implied false q so = refl

implied_by : (p q : Bool) → (q ≡ true → p ≡ true) → q ≡ (p && q)
implied_by true q so = refl
implied_by false true so = sym (so refl)
implied_by false false so = refl

later_of : (le : Bool) (earlier time start : ℤ) → le_z earlier time ≡ le →
    is_from (if le then Some time else Some earlier) start ≡ (le_z time start && le_z earlier start)
later_of true earlier time start is = implied (le_z time start) (le_z earlier start) (λ more. le_trans earlier time start is more)
later_of false earlier time start is = implied_by (le_z time start) (le_z earlier start) (λ more. le_total earlier time start is more)

from_later : (free : Option ℤ) (time start : ℤ) → is_from (later free time) start ≡ (le_z time start && is_from free start)
from_later None time start = implied (le_z time start) true (λ _. refl)
from_later (Some earlier) time start = later_of (le_z earlier time) earlier time start refl

-- one slot is set
slot : {A : Type 0} (same : Bool) (xs : List A) (i j : ℕ) (y d : A) → (i == j) ≡ same → i < length xs → get_or (set xs i y) j d ≡ (if same then y else get_or xs j d)
slot true xs i j y d is within = rw (← eqb-true i j is) (get_or-set_same xs i y d within)
slot false xs i j y d is within = get_or-set_other xs i j y d (λ e. true≢false (sym (eq-eqb i j (sym e)) ∙ is))

heard_at : (some : Bool) (heard : List Bool) (before : Bool) (address a : ℕ) → address < length heard → get_or heard a false ≡ before →
    get_or (if some then set heard address true else heard) a false ≡ ((some && (address == a)) || before)
heard_at false heard before address a within is = is
heard_at true heard before address a within is = slot (address == a) heard address a true false refl within ∙ by (address == a)
  where
    by : (same : Bool) → (if same then true else get_or heard a false) ≡ (same || before)
    by true = refl
    by false = is

mark_at : (marks : List (Option Mark)) (before : Option SentView) (s : SentView) (k slave : ℕ) → k < length marks → get_or marks slave None ≡ option_map mark_of before →
    get_or (set marks k (Some (mark_of s))) slave None ≡ option_map mark_of (if k == slave then Some s else before)
mark_at marks before s k slave within is = slot (k == slave) marks k slave (Some (mark_of s)) None refl within ∙ by (k == slave)
  where
    by : (same : Bool) → (if same then Some (mark_of s) else get_or marks slave None) ≡ option_map mark_of (if same then Some s else before)
    by true = refl
    by false = is

of_at : (v : SeenState) (w : WishesView) (before : List Told) (cycle : ℕ) (start : ℤ) (bits : ℕ) (content : List ℕ) → slice_index content 0 < 256 → (wish_for w (slice_index content 0)).slave < 256 → length v.heard ≡ 256 → length v.marks ≡ 256 →
    SeenStandsFor v w before → SeenStandsFor (with_at v w (record { kind = telegram.At; start = start; bits = bits; content = content })) w ((record { cycle = cycle; sent = record { kind = telegram.At; start = start; bits = bits; content = content } }) ∷ before)
of_at v w before cycle start bits content address slave heard marks stands =
    let s : SentView = record { kind = telegram.At; start = start; bits = bits; content = content } in
    let time : ℤ = end_of (mark_of s) +ℤ pos (w.rate * (wish_for w (address_of s)).times.tatmt) in
    record {
      command_is = stands.command_is;
      newest_is = refl;
      mdt_is = stands.mdt_is;
      heard_is = λ a byte. heard_at (nat_lt 0 (length content)) v.heard (has_at_from a before) (address_of s) a (omega (arith, address, heard)) (stands.heard_is a byte);
      marks_are = λ k byte. mark_at v.marks (find (is_at_of w k) (in_cycle before)) s (slave_of w s) k (omega (arith, slave, marks)) (stands.marks_are k byte);
      free_is = λ start. from_later v.free_at time start ∙ ap (λ rest. le_z time start && rest) (stands.free_is start);
    }

pub at_stands : (v : SeenState) (w : WishesView) (before : List Told) (cycle : ℕ) (s : SentView) → s.kind ≡ telegram.At → address_of s < 256 → slave_of w s < 256 → length v.heard ≡ 256 → length v.marks ≡ 256 →
    SeenStandsFor v w before → SeenStandsFor (with_at v w s) w ((record { cycle = cycle; sent = s }) ∷ before)
at_stands v w before cycle s kind address slave heard marks stands =
    subst (λ (k : Kind). SeenStandsFor (with_at v w (of k)) w ((record { cycle = cycle; sent = of k }) ∷ before)) (sym kind) (of_at v w before cycle s.start s.bits s.content address slave heard marks stands)
  where
    of : Kind → SentView
    of k = record { kind = k; start = s.start; bits = s.bits; content = s.content }
