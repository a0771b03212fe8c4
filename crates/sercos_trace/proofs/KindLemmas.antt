-- The kinds of lines, one after the other; after each field of a kind's template comes a space, or nothing.
use Rattle.std.proofs.Common.{◌≡◌, ℕ, ◌+◌, ◌<◌, ◌≤◌, max, cond, true, List, [], ◌∷◌, length, get_or, drop, Option, Some, None, is_none, refl, sym, ap, ◌∙◌, arith}
use Rattle.std.proofs.lemmas.List.{at_drop_more, at_drop_all}
use Rattle.sercos_text.specs.Templates.{line_fault, is_template, field_of}
use Rattle.sercos_trace.specs.Kinds.{template_of, tail_for, later, kinds_fault, first_kind}
use Rattle.sercos_trace.specs.declared.kind.LineKind.{LineKind}
use Rattle.sercos_trace.specs.declared.kind.LineKind.TheVariants as kind

pub templates : (kind : LineKind) → is_template (template_of kind) ≡ true
unfolding is_template template_of field_of
templates kind.Version = refl
templates kind.Ring = refl
templates kind.Drive = refl
templates kind.Order = refl
templates kind.Mst = refl
templates kind.Phase = refl
templates kind.At = refl
templates kind.Mdt = refl
templates kind.Complete = refl
templates kind.Refused = refl
templates kind.Broken = refl
templates kind.Plan = refl
templates kind.Slot = refl
templates kind.NoFit = refl
templates kind.RuleAt = refl
templates kind.RuleSum = refl
templates kind.StopRefused = refl
templates kind.StopConfig = refl
templates kind.Check127 = refl
templates kind.Check128 = refl
templates kind.FallMst = refl
templates kind.FallAt = refl
templates kind.FallStep = refl
templates kind.FallRestart = refl
templates kind.End = refl

later-later : (a b : ℕ) (o : Option ℕ) → later (Some a) (later (Some b) o) ≡ later (Some (max a b)) o
unfolding later
later-later a b None = refl
later-later a b (Some c) = ap Some (omega arith)

pub later-front : (o : Option ℕ) → o ≡ later (Some 0) o
unfolding later
later-front None = refl
later-front (Some c) = ap Some (omega arith)

later-none : (a : ℕ) (o : Option ℕ) → later (Some a) (later None o) ≡ None
unfolding later
later-none a o = refl

next_kind : (kinds : List LineKind) (line : List ℕ) (i : ℕ) (d : LineKind) → i < length kinds → kinds_fault (drop i kinds) line ≡ later (line_fault (tail_for (get_or kinds i d)) (template_of (get_or kinds i d)) line) (kinds_fault (drop (i + 1) kinds) line)
unfolding kinds_fault
next_kind kinds line i d inside = at_drop_more (λ k. kinds_fault k line) kinds i d inside

pub kind_refused : (kinds : List LineKind) (line : List ℕ) (i last place : ℕ) (d : LineKind) (whole : Option ℕ) → i < length kinds → whole ≡ later (Some last) (kinds_fault (drop i kinds) line) → Some place ≡ line_fault (tail_for (get_or kinds i d)) (template_of (get_or kinds i d)) line → whole ≡ later (Some (max last place)) (kinds_fault (drop (i + 1) kinds) line)
kind_refused kinds line i last place d whole inside is refused =
    let next = rw (← refused) at (next_kind kinds line i d inside) in
    is ∙ ap (later (Some last)) next ∙ later-later last place (kinds_fault (drop (i + 1) kinds) line)

pub kind_taken : (kinds : List LineKind) (line : List ℕ) (i last : ℕ) (d : LineKind) (whole : Option ℕ) → i < length kinds → whole ≡ later (Some last) (kinds_fault (drop i kinds) line) → None ≡ line_fault (tail_for (get_or kinds i d)) (template_of (get_or kinds i d)) line → None ≡ whole
kind_taken kinds line i last d whole inside is taken =
    let next = rw (← taken) at (next_kind kinds line i d inside) in
    sym (is ∙ ap (later (Some last)) next ∙ later-none last (kinds_fault (drop (i + 1) kinds) line))

pub kinds_end : (kinds : List LineKind) (line : List ℕ) (i last : ℕ) (whole : Option ℕ) → length kinds ≤ i → whole ≡ later (Some last) (kinds_fault (drop i kinds) line) → Some last ≡ whole
unfolding kinds_fault later
kinds_end kinds line i last whole ended is =
    let none : kinds_fault (drop i kinds) line ≡ Some 0 = at_drop_all (λ k. kinds_fault k line) kinds i ended in
    sym (is ∙ ap (later (Some last)) none ∙ ap Some (omega arith))

-- the first kind of those that are left is that of all
next_first : (kinds : List LineKind) (line : List ℕ) (i : ℕ) (d : LineKind) → i < length kinds
    → first_kind (drop i kinds) line ≡ cond (is_none (line_fault (tail_for (get_or kinds i d)) (template_of (get_or kinds i d)) line)) (Some (get_or kinds i d)) (first_kind (drop (i + 1) kinds) line)
unfolding first_kind
next_first kinds line i d inside = at_drop_more (λ k. first_kind k line) kinds i d inside

pub first_refused : (kinds : List LineKind) (line : List ℕ) (i place : ℕ) (d : LineKind) (whole : Option LineKind) → i < length kinds → first_kind (drop i kinds) line ≡ whole
    → Some place ≡ line_fault (tail_for (get_or kinds i d)) (template_of (get_or kinds i d)) line → first_kind (drop (i + 1) kinds) line ≡ whole
first_refused kinds line i place d whole inside is refused =
    let next = rw (← refused) at (next_first kinds line i d inside) in
    sym next ∙ is

pub first_taken : (kinds : List LineKind) (line : List ℕ) (i : ℕ) (d : LineKind) (whole : Option LineKind) → i < length kinds → first_kind (drop i kinds) line ≡ whole
    → None ≡ line_fault (tail_for (get_or kinds i d)) (template_of (get_or kinds i d)) line → whole ≡ Some (get_or kinds i d)
first_taken kinds line i d whole inside is taken =
    let next = rw (← taken) at (next_first kinds line i d inside) in
    sym is ∙ next

-- where all kinds have a fault, there is no first one without
none_by : (fault rest : Option ℕ) (place : ℕ) (kind : LineKind) (first : Option LineKind) → Some place ≡ later fault rest → ((b : ℕ) → Some b ≡ rest → first ≡ None)
    → cond (is_none fault) (Some kind) first ≡ None
unfolding later
none_by None rest place kind first is others = cc
none_by (Some a) None place kind first is others = cc
none_by (Some a) (Some b) place kind first is others = others b refl

pub no_kind : (kinds : List LineKind) (line : List ℕ) (place : ℕ) → Some place ≡ kinds_fault kinds line → first_kind kinds line ≡ None
unfolding kinds_fault first_kind
no_kind [] line place is = refl
no_kind (kind ∷ kinds) line place is =
    none_by (line_fault (tail_for kind) (template_of kind) line) (kinds_fault kinds line) place kind (first_kind kinds line) is (λ b rest. no_kind kinds line b rest)
