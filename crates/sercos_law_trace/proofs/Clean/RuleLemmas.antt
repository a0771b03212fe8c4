-- The telegrams of one cycle keep the rules, if each does after those before it in the cycle.
use Rattle.sercos_law_trace.proofs.Words.{◌≡◌, ℕ, ℤ, pos, ◌*◌, nat_lt, Bool, true, false, not, ◌&&◌, ◌||◌, List, [], ◌∷◌, ◌++◌, length, Option, Some, None, option_map, refl, ◌∙◌, ap, slice_index, list_all, list_any, find, frame_of, Kind, WishesView, SentView, Said, Sent, Command, Note, Rule, Told, is_mdt, is_mst, command_before, phase_of, in_cycle, newest_of, wish_for, slave_of, mark_of, note_of, is_at_from, is_at_of, is_next_cycle, goes_on, keeps_frame, layout_of, is_next_phase, start_of, is_cyclic, is_cyclic_at, is_cyclic_mdt, is_after_gap, is_after_mark, is_after_transition, has_room, first_broken, broken_rule, sent_at, sent_mst, sent_mdt, ats_said, told_after, KeepRules}
use Rattle.sercos_telegram.specs.declared.layout.Kind.TheVariants as kinds
use Rattle.sercos_check.specs.declared.rule.Rule.TheVariants as rules
use Rattle.sercos_check.specs.Seen.{address_of}

-- THE RULES of a telegram, by the newest MST before it and the telegrams of its cycle before it, the newest first.
abbrev pub newest_by : WishesView → List SentView → Option Note
newest_by w seen = option_map (note_of w) (newest_of seen)

abbrev pub has_mdt_by : List SentView → Bool
has_mdt_by seen = list_any (λ (s : SentView). is_mdt s.kind) seen

abbrev pub has_at_by : ℕ → List SentView → Bool
has_at_by address seen = list_any (is_at_from address) seen

abbrev pub goes_by : WishesView → Option Command → List SentView → ℕ → ℤ → Bool
goes_by w command seen cycle start = goes_on command (newest_by w seen) (has_mdt_by seen) cycle start

abbrev pub order_by : Kind → WishesView → Option Command → List SentView → ℕ → SentView → Bool
order_by kinds.Mst w command seen cycle s = is_next_cycle command cycle
order_by kinds.At w command seen cycle s = goes_by w command seen cycle s.start && not (nat_lt 0 (length s.content) && has_at_by (address_of s) seen)
order_by kinds.Mdt w command seen cycle s = goes_by w command seen cycle s.start

abbrev pub recovery_by : WishesView → Option Command → List SentView → SentView → Bool
recovery_by w command seen s =
    not (is_cyclic_at (phase_of command) s.kind)
    || is_after_mark (option_map mark_of (find (is_at_of w (slave_of w s)) seen)) (w.rate * (wish_for w (address_of s)).times.tatat) s.start

abbrev pub transition_by : WishesView → Option Command → List SentView → SentView → Bool
transition_by w command seen s = not (is_cyclic_mdt (phase_of command) s.kind) || list_all (is_after_transition w s.start) seen

abbrev pub gap_by : WishesView → Option Command → List SentView → SentView → Bool
gap_by w command seen s = not (is_cyclic (phase_of command) s.kind) || is_after_gap w (newest_by w seen) s

abbrev pub phase_by : Option Command → SentView → Bool
phase_by command s = not (is_mst s.kind) || is_next_phase command (slice_index s.content 1)

abbrev pub end_by : WishesView → Option Command → SentView → Bool
end_by w command s = not (is_cyclic_mdt (phase_of command) s.kind) || has_room w s

-- the nine rules, with whether each is kept
abbrev pub tests_by : Bool → Bool → Bool → Bool → Bool → Bool → Bool → Bool → Bool → List (Rule × Bool)
tests_by a b c d e f g h i =
    (rules.Order, a)
    ∷ (rules.Frame, b)
    ∷ (rules.Layout, c)
    ∷ (rules.Phase, d)
    ∷ (rules.Start, e)
    ∷ (rules.Gap, f)
    ∷ (rules.Recovery, g)
    ∷ (rules.Transition, h)
    ∷ (rules.End, i)
    ∷ []

abbrev pub broken_by : WishesView → Option Command → List SentView → ℕ → SentView → Option Rule
broken_by w command seen cycle s = first_broken (tests_by
    (order_by s.kind w command seen cycle s)
    (keeps_frame s)
    (layout_of s.kind w (phase_of command) s)
    (phase_by command s)
    (start_of s.kind w (phase_of command) s)
    (gap_by w command seen s)
    (recovery_by w command seen s)
    (transition_by w command seen s)
    (end_by w command s))

-- none is broken, if each is kept, those of the cyclic telegrams also because none is sent
pub none_early : {a b c d e late : Bool} (f g h i w x y z : Bool) → a ≡ true → b ≡ true → c ≡ true → d ≡ true → e ≡ true → late ≡ false
    → first_broken (tests_by a b c d e (not (late && w) || f) (not (late && x) || g) (not (late && y) || h) (not (late && z) || i)) ≡ None
unfolding first_broken
none_early f g h i w x y z ka kb kc kd ke none = rw (ka, kb, kc, kd, ke, none) refl

pub none_broken : (a b c d e f g h i : Bool) → a ≡ true → b ≡ true → c ≡ true → d ≡ true → e ≡ true → f ≡ true → g ≡ true → h ≡ true → i ≡ true
    → first_broken (tests_by a b c d e f g h i) ≡ None
unfolding first_broken
none_broken a b c d e f g h i ka kb kc kd ke kf kg kh ki = rw (ka, kb, kc, kd, ke, kf, kg, kh, ki) refl

pub rule_so : (w : WishesView) (before : List Told) (cycle : ℕ) (k : Kind) (start : ℤ) (bits : ℕ) (content : List ℕ)
    (command : Option Command) (seen : List SentView) →
    command_before before ≡ command → in_cycle before ≡ seen →
    (let s : SentView = record { kind = k; start = start; bits = bits; content = content } in
    broken_rule w before (record { cycle = cycle; sent = s }) ≡ broken_by w command seen cycle s)
rule_so w before cycle kinds.Mst start bits content command seen is are = rw (is, are) refl
rule_so w before cycle kinds.At start bits content command seen is are = rw (is, are) refl
rule_so w before cycle kinds.Mdt start bits content command seen is are = rw (is, are) refl

-- what was seen after some ATs, the newest first
abbrev pub seen_of : ℕ → SentView → List Said → List SentView
seen_of rate mst [] = mst ∷ []
seen_of rate mst (s ∷ done) = sent_at rate s.start s.content ∷ seen_of rate mst done

abbrev pub mdt_at : ℕ → Sent → SentView
mdt_at rate m = record { kind = kinds.Mdt; start = pos (rate * m.start); bits = length (frame_of m.content); content = m.content }

-- Each AT keeps the rules after those before it, and so does the MDT, if there is one.
abbrev pub AreRuled : WishesView → ℕ → Command → SentView → List Said → List Said → Option Sent → Type 0
AreRuled w rate c mst done [] None = Unit {0}
AreRuled w rate c mst done [] (Some m) = broken_by w (Some c) (seen_of rate mst done) c.cycle (mdt_at rate m) ≡ None
AreRuled w rate c mst done (s ∷ ats) m = (broken_by w (Some c) (seen_of rate mst done) c.cycle (sent_at rate s.start s.content) ≡ None) × AreRuled w rate c mst (s ∷ done) ats m

-- so all of the cycle do, and its command is the newest one
pub record AreKept (w : WishesView) (c : Command) (after : List Told) : Type 0 where
  pub kept : KeepRules w after
  pub command : command_before after ≡ Some c

rest_kept : (w : WishesView) (rate : ℕ) (c : Command) (mst : SentView) (ats : List Said) (done : List Said) (m : Option Sent) (before : List Told) → command_before before ≡ Some c → in_cycle before ≡ seen_of rate mst done → KeepRules w before
    → AreRuled w rate c mst done ats m → AreKept w c (told_after c.cycle (ats_said rate ats ++ sent_mdt rate m) before)
rest_kept w rate c mst [] done None before is are kept ruled = record { kept = kept; command = is }
rest_kept w rate c mst [] done (Some m) before is are kept ruled = record {
  kept = (kept, rule_so w before c.cycle kinds.Mdt (pos (rate * m.start)) (length (frame_of m.content)) m.content (Some c) (seen_of rate mst done) is are ∙ ruled);
  command = is;
}
rest_kept w rate c mst (s ∷ ats) done m before is are kept ruled =
    rest_kept w rate c mst ats (s ∷ done) m _ is (ap (λ (l : List SentView). sent_at rate s.start s.content ∷ l) are)
    (kept, rule_so w before c.cycle kinds.At (pos (rate * s.start)) (length (frame_of s.content)) s.content (Some c) (seen_of rate mst done) is are ∙ ruled.0) ruled.1

-- A WHOLE CYCLE: the MST keeps the rules after those before it, and then the others do.
abbrev pub command_at : ℕ → List ℕ → Command
command_at cycle mst = record { cycle = cycle; phase = slice_index mst 1 }

pub cycle_kept : (w : WishesView) (rate cycle : ℕ) (mst : List ℕ) (ats : List Said) (m : Option Sent) (before : List Told) → KeepRules w before → broken_rule w before (record { cycle = cycle; sent = sent_mst mst }) ≡ None
    → AreRuled w rate (command_at cycle mst) (sent_mst mst) [] ats m → AreKept w (command_at cycle mst) (told_after cycle (sent_mst mst ∷ ats_said rate ats ++ sent_mdt rate m) before)
cycle_kept w rate cycle mst ats m before kept first ruled = rest_kept w rate (command_at cycle mst) (sent_mst mst) ats [] m ((record { cycle = cycle; sent = sent_mst mst }) ∷ before) refl refl (kept, first) ruled
