-- What faults do to a passage: one pass through them, in any order, does what they do link by link.
use Rattle.std.proofs.Common.{◌≡◌, ◌≤◌, ◌<◌, ℕ, ◌+◌, ◌-◌, ◌==◌, nat_le, nat_lt, Bool, true, false, not, cond, ◌&&◌, ◌||◌, List, [], ◌∷◌, suc, zero, take, drop, set, length, get_or, Option, Some, None, option_and_then, if◌then◌else◌, refl, sym, ◌∙◌, ap, subst, ◌⊎◌, inl, inr, arith}
use Rattle.std.specs.List.{All, filter, list_any, swap}
use Rattle.std.specs.List.Sorted.{IsPermutation}
use Rattle.std.proofs.lemmas.Bool.{cases_eq, cases_lt, ne_eqb, eq-eqb, le-leb, lt-leb, lt-ltb, le-ltb, true≢false}
use Rattle.std.proofs.lemmas.List.{drop_more, get_or-drop, length-drop, drop_all, take_all}
use Rattle.std.proofs.lemmas.List.Elements.{All-head, All-tail, All-from_get_or}
use Rattle.std.proofs.lemmas.List.Sorted.{IsPermutation-keeps}
use Rattle.sercos_script.specs.declared.link.Passage.{Passage}
use Rattle.sercos_script.specs.declared.effect.Way.{Way}
use Rattle.sercos_script.specs.declared.fault.Damage.{Damage}
use Rattle.sercos_script.specs.declared.fault.Damage.TheVariants.{Lose, Flip, Cut, Deaf, Restart}
use Rattle.sercos_script.specs.declared.fault.Fault.{Fault}
use Rattle.sercos_script.specs.Links.{arrived}
use Rattle.sercos_script.specs.Lanes.{reach_of, AreByReach}
use Rattle.sercos_script.specs.Scripts.{concerns, flipped, over_fault, over_link, over_links, is_deaf, carried, links_between}
use Rattle.sercos_script.specs.Ways.{has_link, over_way, over_passage, over_all}

-- The link on which a damage acts. One that acts on no link counts as on link 0.
abbrev link_of : Damage → ℕ
link_of (Lose at) = at
link_of (Flip at bit) = at
link_of (Cut at bit) = at
link_of (Deaf station) = 0
link_of (Restart station) = 0

-- A fault does nothing on another link.
pub other_link : (d : Damage) (link : ℕ) (bits : List Bool) → (link_of d ≡ link → ⊥) → over_fault d link bits ≡ Some bits
other_link (Lose at) link bits not = rw (ne_eqb at link not) refl
other_link (Flip at bit) link bits not = rw (ne_eqb at link not) refl
other_link (Cut at bit) link bits not = rw (ne_eqb at link not) refl
other_link (Deaf station) link bits not = refl
other_link (Restart station) link bits not = refl

-- a step that two functions do alike
pub alike : (f g : List Bool → Option (List Bool)) → ((bits : List Bool) → f bits ≡ g bits) → (o : Option (List Bool)) → option_and_then f o ≡ option_and_then g o
alike f g same None = refl
alike f g same (Some bits) = same bits

-- one step after another
chained : (f g : List Bool → Option (List Bool)) (o : Option (List Bool)) → option_and_then f (option_and_then g o) ≡ option_and_then (λ bits. option_and_then f (g bits)) o
chained f g None = refl
chained f g (Some bits) = refl

through : (o : Option (List Bool)) → option_and_then (λ bits. Some bits) o ≡ o
through None = refl
through (Some bits) = refl

-- A fault that acts on no link of the path does nothing.
beside : (f : Fault) (fs : List Fault) (link count : ℕ) (bits : List Bool) → ((at : ℕ) → link ≤ at → at < link + count → link_of f.damage ≡ at → ⊥)
    → over_links (f ∷ fs) link count bits ≡ over_links fs link count bits
beside f fs link zero bits off = refl
beside f fs link (suc more) bits off =
    rw (other_link f.damage link bits (off link (omega arith) (omega arith)))
    (alike (over_links (f ∷ fs) (link + 1) more) (over_links fs (link + 1) more) (λ came. beside f fs (link + 1) more came (λ at low high. off at (omega arith) (omega arith))) (over_link fs link bits))

-- `flipped`, bit by bit
abbrev turned : List Bool → ℕ → List Bool
turned [] place = []
turned (b ∷ bits) zero = not b ∷ bits
turned (b ∷ bits) (suc place) = b ∷ turned bits place

turned_is : (place : ℕ) (bits : List Bool) → flipped place bits ≡ turned bits place
turned_is place [] = rw (le-ltb place 0 (omega arith)) refl
turned_is zero (b ∷ bits) = rw (lt-ltb 0 (length (b ∷ bits)) (omega arith)) refl
turned_is (suc place) (b ∷ bits) = by (cases_lt place (length bits)) (turned_is place bits)
  where
    by : (place < length bits) ⊎ (length bits ≤ place) → flipped place bits ≡ turned bits place → flipped (suc place) (b ∷ bits) ≡ b ∷ turned bits place
    by (inl lt) is = rw (lt-ltb (suc place) (length (b ∷ bits)) (omega (arith, lt))) (ap (λ (xs : List Bool). b ∷ xs) (rw (lt-ltb place (length bits) lt) at is))
    by (inr le) is = rw (le-ltb (suc place) (length (b ∷ bits)) (omega (arith, le))) (ap (λ (xs : List Bool). b ∷ xs) (rw (le-ltb place (length bits) le) at is))

turned_twice : (bits : List Bool) (m n : ℕ) → turned (turned bits m) n ≡ turned (turned bits n) m
turned_twice [] m n = refl
turned_twice (b ∷ bits) zero zero = refl
turned_twice (b ∷ bits) zero (suc n) = refl
turned_twice (b ∷ bits) (suc m) zero = refl
turned_twice (b ∷ bits) (suc m) (suc n) = ap (λ (xs : List Bool). b ∷ xs) (turned_twice bits m n)

turned_cut : (bits : List Bool) (m n : ℕ) → take n (turned bits m) ≡ turned (take n bits) m
turned_cut bits m zero = refl
turned_cut [] m (suc n) = refl
turned_cut (b ∷ bits) zero (suc n) = refl
turned_cut (b ∷ bits) (suc m) (suc n) = ap (λ (xs : List Bool). b ∷ xs) (turned_cut bits m n)

cut_twice : (bits : List Bool) (m n : ℕ) → take n (take m bits) ≡ take m (take n bits)
cut_twice bits zero zero = refl
cut_twice bits zero (suc n) = refl
cut_twice bits (suc m) zero = refl
cut_twice [] (suc m) (suc n) = refl
cut_twice (b ∷ bits) (suc m) (suc n) = ap (λ (xs : List Bool). b ∷ xs) (cut_twice bits m n)

-- what can be done to bits
data Deed : Type 0 where
  Nothing : Deed
  Loses : Deed
  Flips : ℕ → Deed
  Cuts : ℕ → Deed

abbrev does : Deed → List Bool → Option (List Bool)
does Nothing bits = Some bits
does Loses bits = None
does (Flips place) bits = Some (turned bits place)
does (Cuts count) bits = Some (take count bits)

deeds_commute : (a b : Deed) (bits : List Bool) → option_and_then (does b) (does a bits) ≡ option_and_then (does a) (does b bits)
deeds_commute Nothing Nothing bits = refl
deeds_commute Nothing Loses bits = refl
deeds_commute Nothing (Flips n) bits = refl
deeds_commute Nothing (Cuts n) bits = refl
deeds_commute Loses Nothing bits = refl
deeds_commute Loses Loses bits = refl
deeds_commute Loses (Flips n) bits = refl
deeds_commute Loses (Cuts n) bits = refl
deeds_commute (Flips m) Nothing bits = refl
deeds_commute (Flips m) Loses bits = refl
deeds_commute (Flips m) (Flips n) bits = ap (λ (xs : List Bool). Some xs) (turned_twice bits m n)
deeds_commute (Flips m) (Cuts n) bits = ap (λ (xs : List Bool). Some xs) (turned_cut bits m n)
deeds_commute (Cuts m) Nothing bits = refl
deeds_commute (Cuts m) Loses bits = refl
deeds_commute (Cuts m) (Flips n) bits = ap (λ (xs : List Bool). Some xs) (sym (turned_cut bits n m))
deeds_commute (Cuts m) (Cuts n) bits = ap (λ (xs : List Bool). Some xs) (cut_twice bits m n)

-- two steps that each do a deed
commute : (s t : List Bool → Option (List Bool)) (a b : Deed) → ((bits : List Bool) → s bits ≡ does a bits) → ((bits : List Bool) → t bits ≡ does b bits) → (bits : List Bool) → option_and_then t (s bits) ≡ option_and_then s (t bits)
commute s t a b one other bits = rw (one bits, other bits) (alike t (does b) other (does a bits) ∙ deeds_commute a b bits ∙ sym (alike s (does a) one (does b bits)))

picked : (c : Bool) (a b : Deed) (bits : List Bool) → (if c then does a bits else does b bits) ≡ does (if c then a else b) bits
picked true a b bits = refl
picked false a b bits = refl

-- the deed of a damage on a link, and on a way
abbrev on_link : Damage → ℕ → Deed
on_link (Lose at) link = if at == link then Loses else Nothing
on_link (Flip at bit) link = if at == link then Flips bit else Nothing
on_link (Cut at bit) link = if at == link then Cuts bit else Nothing
on_link (Deaf station) link = Nothing
on_link (Restart station) link = Nothing

on_link_is : (d : Damage) (link : ℕ) (bits : List Bool) → over_fault d link bits ≡ does (on_link d link) bits
on_link_is (Lose at) link bits = picked (at == link) Loses Nothing bits
on_link_is (Flip at bit) link bits = rw (turned_is bit bits) (picked (at == link) (Flips bit) Nothing bits)
on_link_is (Cut at bit) link bits = picked (at == link) (Cuts bit) Nothing bits
on_link_is (Deaf station) link bits = refl
on_link_is (Restart station) link bits = refl

abbrev on_way : Damage → Way → Deed
on_way (Lose at) way = if has_link way at then Loses else Nothing
on_way (Flip at bit) way = if has_link way at then Flips bit else Nothing
on_way (Cut at bit) way = if has_link way at then Cuts bit else Nothing
on_way (Deaf station) way = if station == way.to then Loses else Nothing
on_way (Restart station) way = Nothing

on_way_is : (d : Damage) (way : Way) (bits : List Bool) → over_way d way bits ≡ does (on_way d way) bits
on_way_is (Lose at) way bits = picked (has_link way at) Loses Nothing bits
on_way_is (Flip at bit) way bits = rw (turned_is bit bits) (picked (has_link way at) (Flips bit) Nothing bits)
on_way_is (Cut at bit) way bits = picked (has_link way at) (Cuts bit) Nothing bits
on_way_is (Deaf station) way bits = picked (station == way.to) Loses Nothing bits
on_way_is (Restart station) way bits = refl

on_passage_is : (p : Passage) (way : Way) (f : Fault) (bits : List Bool) → over_passage p way f bits ≡ does (if concerns p f then on_way f.damage way else Nothing) bits
on_passage_is p way f bits = rw (on_way_is f.damage way bits) (picked (concerns p f) (on_way f.damage way) Nothing bits)

passages_commute : (p : Passage) (way : Way) (f g : Fault) (bits : List Bool) → option_and_then (over_passage p way g) (over_passage p way f bits) ≡ option_and_then (over_passage p way f) (over_passage p way g bits)
passages_commute p way f g bits =
    commute (over_passage p way f) (over_passage p way g) (if concerns p f then on_way f.damage way else Nothing) (if concerns p g then on_way g.damage way else Nothing) (on_passage_is p way f) (on_passage_is p way g) bits

-- what a fault does on its link goes before what others do on any link
earlier : (d : Damage) (at : ℕ) (fs : List Fault) (link : ℕ) (bits : List Bool) → option_and_then (over_fault d at) (over_link fs link bits) ≡ option_and_then (over_link fs link) (over_fault d at bits)
earlier d at [] link bits = sym (through (over_fault d at bits))
earlier d at (g ∷ fs) link bits =
    chained (over_fault d at) (over_link fs link) (over_fault g.damage link bits)
    ∙ alike (λ came. option_and_then (over_fault d at) (over_link fs link came)) (λ came. option_and_then (over_link fs link) (over_fault d at came)) (λ came. earlier d at fs link came) (over_fault g.damage link bits)
    ∙ sym (chained (over_link fs link) (over_fault d at) (over_fault g.damage link bits))
    ∙ ap (λ (o : Option (List Bool)). option_and_then (over_link fs link) o) (commute (over_fault g.damage link) (over_fault d at) (on_link g.damage link) (on_link d at) (on_link_is g.damage link) (on_link_is d at) bits)
    ∙ chained (over_link fs link) (over_fault g.damage link) (over_fault d at bits)

lt_from : {link at : ℕ} → link ≤ at → (at ≡ link → ⊥) → link < at
lt_from {link} {at} le differs = by (cases_lt link at)
  where
    by : (link < at) ⊎ (at ≤ link) → link < at
    by (inl lt) = lt
    by (inr ge) = absurd (differs (omega arith))

-- A fault of a link on the path goes before the others.
first : (f : Fault) (fs : List Fault) (link count : ℕ) (bits : List Bool) → link ≤ link_of f.damage → link_of f.damage < link + count
    → over_links (f ∷ fs) link count bits ≡ option_and_then (over_links fs link count) (over_fault f.damage (link_of f.damage) bits)
first f fs link zero bits low high = absurd (omega (arith, low, high))
first f fs link (suc more) bits low high = by (cases_eq (link_of f.damage) link) (λ next came. first f fs (link + 1) more came next (omega arith))
  where
    d : Damage
    d = f.damage

    by : (link_of d ≡ link) ⊎ (link_of d ≡ link → ⊥)
        → (link + 1 ≤ link_of d → (came : List Bool) → over_links (f ∷ fs) (link + 1) more came ≡ option_and_then (over_links fs (link + 1) more) (over_fault d (link_of d) came))
        → over_links (f ∷ fs) link (suc more) bits ≡ option_and_then (over_links fs link (suc more)) (over_fault d (link_of d) bits)
    by (inl same) onward =
        let after : (came : List Bool) → option_and_then (over_links (f ∷ fs) (link + 1) more) (over_link fs link came) ≡ over_links fs link (suc more) came =
        λ came. alike (over_links (f ∷ fs) (link + 1) more) (over_links fs (link + 1) more) (λ bs. beside f fs (link + 1) more bs (λ at near far is. omega (arith, near, is, same))) (over_link fs link came) in
        chained (over_links (f ∷ fs) (link + 1) more) (over_link fs link) (over_fault d link bits)
        ∙ alike (λ came. option_and_then (over_links (f ∷ fs) (link + 1) more) (over_link fs link came)) (over_links fs link (suc more)) after (over_fault d link bits)
        ∙ ap (λ at. option_and_then (over_links fs link (suc more)) (over_fault d at bits)) (sym same)
    by (inr differs) onward =
        rw (other_link d link bits differs)
        (alike (over_links (f ∷ fs) (link + 1) more) (λ came. option_and_then (over_links fs (link + 1) more) (over_fault d (link_of d) came)) (onward (omega (arith, lt_from low differs))) (over_link fs link bits)
        ∙ sym (chained (over_links fs (link + 1) more) (over_fault d (link_of d)) (over_link fs link bits))
        ∙ ap (λ (o : Option (List Bool)). option_and_then (over_links fs (link + 1) more) o) (earlier d (link_of d) fs link bits)
        ∙ chained (over_links fs (link + 1) more) (over_link fs link) (over_fault d (link_of d) bits))

-- what a fault does on a path
abbrev on_path : Damage → ℕ → ℕ → List Bool → Option (List Bool)
on_path d link count bits = if nat_le link (link_of d) && nat_lt (link_of d) (link + count) then over_fault d (link_of d) bits else Some bits

-- One fault, and then the others.
over_first : (f : Fault) (fs : List Fault) (link count : ℕ) (bits : List Bool) → over_links (f ∷ fs) link count bits ≡ option_and_then (over_links fs link count) (on_path f.damage link count bits)
over_first f fs link count bits = by (cases_lt (link_of f.damage) link) (cases_lt (link_of f.damage) (link + count))
  where
    at : ℕ
    at = link_of f.damage

    by : (at < link) ⊎ (link ≤ at) → (at < link + count) ⊎ (link + count ≤ at) → over_links (f ∷ fs) link count bits ≡ option_and_then (over_links fs link count) (on_path f.damage link count bits)
    by (inl below) _ = beside f fs link count bits (λ place near far is. omega (arith, near, is, below)) ∙ rw (lt-leb link at below) refl
    by (inr from) (inr past) = beside f fs link count bits (λ place near far is. omega (arith, far, is, past)) ∙ rw (le-leb link at from, le-ltb at (link + count) past) refl
    by (inr from) (inl inside) = first f fs link count bits from inside ∙ rw (le-leb link at from, lt-ltb at (link + count) inside) refl

either : (c : Bool) (o : Option (List Bool)) → (if c then o else o) ≡ o
either true o = refl
either false o = refl

-- What a damage does on a way to a station that it doesn't make deaf.
hears : (d : Damage) (way : Way) (bits : List Bool) → is_deaf way.to d ≡ false → over_way d way bits ≡ on_path d way.link way.count bits
hears (Lose at) way bits not = rw (eq-eqb at at refl) refl
hears (Flip at bit) way bits not = rw (eq-eqb at at refl) refl
hears (Cut at bit) way bits not = rw (eq-eqb at at refl) refl
hears (Deaf station) way bits not = rw not (sym (either (nat_le way.link 0 && nat_lt 0 (way.link + way.count)) (Some bits)))
hears (Restart station) way bits not = sym (either (nat_le way.link 0 && nat_lt 0 (way.link + way.count)) (Some bits))

deafened : (d : Damage) (way : Way) (bits : List Bool) → is_deaf way.to d ≡ true → over_way d way bits ≡ None
deafened (Lose at) way bits deaf = absurd (true≢false (sym deaf))
deafened (Flip at bit) way bits deaf = absurd (true≢false (sym deaf))
deafened (Cut at bit) way bits deaf = absurd (true≢false (sym deaf))
deafened (Deaf station) way bits deaf = rw deaf refl
deafened (Restart station) way bits deaf = absurd (true≢false (sym deaf))

held_back : (c : Bool) (g : List Bool → Option (List Bool)) (o : Option (List Bool)) → (if c then None else option_and_then g o) ≡ option_and_then (λ came. if c then None else g came) o
held_back true g None = refl
held_back true g (Some bits) = refl
held_back false g None = refl
held_back false g (Some bits) = refl

pub over_none : (link count : ℕ) (bits : List Bool) → over_links [] link count bits ≡ Some bits
over_none link zero bits = refl
over_none link (suc more) bits = over_none (link + 1) more bits

-- what is done link by link, if no fault makes the receiver deaf
abbrev by_links : Passage → Way → List Fault → List Bool → Option (List Bool)
by_links p way faults bits =
    if list_any (λ (f : Fault). is_deaf way.to f.damage) (filter (concerns p) faults) then None else over_links (filter (concerns p) faults) way.link way.count bits

by_links_is : (p : Passage) (way : Way) (faults : List Fault) (bits : List Bool) → by_links p way faults bits ≡ over_all (over_passage p way) faults bits
by_links_is p way [] bits = over_none way.link way.count bits
by_links_is p way (f ∷ faults) bits = by (concerns p f) (λ came. by_links_is p way faults came)
  where
    others : List Fault
    others = filter (concerns p) faults

    deaf : Fault → Bool
    deaf g = is_deaf way.to g.damage

    rest : List Bool → Option (List Bool)
    rest came = over_all (over_passage p way) faults came

    by : (c : Bool) → ((came : List Bool) → (if list_any deaf others then None else over_links others way.link way.count came) ≡ rest came)
        → (if list_any deaf (cond c (f ∷ others) others) then None else over_links (cond c (f ∷ others) others) way.link way.count bits)
        ≡ option_and_then rest (if c then over_way f.damage way bits else Some bits)
    by false same = same bits
    by true same = at (is_deaf way.to f.damage) refl
      where
        at : (c : Bool) → is_deaf way.to f.damage ≡ c
            → (if c || list_any deaf others then None else over_links (f ∷ others) way.link way.count bits) ≡ option_and_then rest (over_way f.damage way bits)
        at true is = rw (deafened f.damage way bits is) refl
        at false is =
            rw (over_first f others way.link way.count bits, hears f.damage way bits is)
            (held_back (list_any deaf others) (over_links others way.link way.count) (on_path f.damage way.link way.count bits)
            ∙ alike (λ came. if list_any deaf others then None else over_links others way.link way.count came) rest same (on_path f.damage way.link way.count bits))

-- A damage that acts on longer frames alone does nothing.
short : (d : Damage) (way : Way) (bits : List Bool) → length bits < reach_of d → over_way d way bits ≡ Some bits
unfolding reach_of
short (Lose at) way bits beyond = absurd (omega (arith, beyond))
short (Flip at bit) way bits beyond = rw (le-ltb bit (length bits) (omega (arith, beyond))) (either (has_link way at) (Some bits))
short (Cut at bit) way bits beyond = rw (take_all bit bits (omega (arith, beyond))) (either (has_link way at) (Some bits))
short (Deaf station) way bits beyond = absurd (omega (arith, beyond))
short (Restart station) way bits beyond = absurd (omega (arith, beyond))

all_short : (p : Passage) (way : Way) (faults : List Fault) (bits : List Bool) → All (λ (f : Fault). length bits < reach_of f.damage) faults → over_all (over_passage p way) faults bits ≡ Some bits
all_short p way [] bits beyond = refl
all_short p way (f ∷ faults) bits beyond =
    rw (short f.damage way bits (All-head (λ (g : Fault). length bits < reach_of g.damage) f faults beyond), either (concerns p f) (Some bits))
    (all_short p way faults bits (All-tail (λ (g : Fault). length bits < reach_of g.damage) f faults beyond))

-- one fault more
pub next_lets : (p : Passage) (way : Way) (faults : List Fault) (i : ℕ) (d : Fault) (bits came : List Bool) → i < length faults → arrived true came ≡ over_passage p way (get_or faults i d) bits
    → over_all (over_passage p way) (drop (i + 1) faults) came ≡ over_all (over_passage p way) (drop i faults) bits
next_lets p way faults i d bits came inside is = rw (drop_more faults i d inside, ← is) refl

pub next_holds : (p : Passage) (way : Way) (faults : List Fault) (i : ℕ) (d : Fault) (bits came : List Bool) → i < length faults → arrived false came ≡ over_passage p way (get_or faults i d) bits
    → None ≡ over_all (over_passage p way) (drop i faults) bits
next_holds p way faults i d bits came inside is = rw (drop_more faults i d inside, ← is) refl

pub path_end : (p : Passage) (way : Way) (faults : List Fault) (i : ℕ) (bits : List Bool) → length faults ≤ i → Some bits ≡ over_all (over_passage p way) (drop i faults) bits
path_end p way faults i bits past = rw (drop_all i faults past) refl

-- From a fault on that acts on longer frames alone, none does anything.
pub rest_short : (p : Passage) (way : Way) (faults : List Fault) (i : ℕ) (d : Fault) (bits : List Bool) → AreByReach faults → length bits < reach_of (get_or faults i d).damage
    → Some bits ≡ over_all (over_passage p way) (drop i faults) bits
rest_short p way faults i d bits sorted beyond =
    sym (all_short p way (drop i faults) bits
    (All-from_get_or (λ (f : Fault). length bits < reach_of f.damage) (drop i faults) d
    (λ k below. let within : k < length faults - i = rw (length-drop i faults) at below in
    subst (λ (f : Fault). length bits < reach_of f.damage) (sym (get_or-drop i faults k d)) (omega (arith, beyond, sorted i (i + k) d (omega arith) (omega arith))))))

-- Where steps commute, the order of the faults doesn't matter.
module _ (step : Fault → List Bool → Option (List Bool)) (swaps : (f g : Fault) (bits : List Bool) → option_and_then (step g) (step f bits) ≡ option_and_then (step f) (step g bits)) where
  two : (f g : Fault) (fs : List Fault) (bits : List Bool) → over_all step (f ∷ g ∷ fs) bits ≡ over_all step (g ∷ f ∷ fs) bits
  two f g fs bits = sym (chained (over_all step fs) (step g) (step f bits)) ∙ ap (λ (o : Option (List Bool)). option_and_then (over_all step fs) o) (swaps f g bits) ∙ chained (over_all step fs) (step f) (step g bits)

  to_front : (fs : List Fault) (k : ℕ) (f d : Fault) (bits : List Bool) → k < length fs → over_all step (get_or fs k d ∷ set fs k f) bits ≡ over_all step (f ∷ fs) bits
  to_front [] k f d bits inside = absurd (omega (arith, inside))
  to_front (g ∷ fs) zero f d bits inside = two g f fs bits
  to_front (g ∷ fs) (suc k) f d bits inside =
      let within : k < length fs = omega (arith, inside) in
      two (get_or fs k d) g (set fs k f) bits ∙ alike (over_all step (get_or fs k d ∷ set fs k f)) (over_all step (f ∷ fs)) (λ came. to_front fs k f d came within) (step g bits) ∙ two g f fs bits

  exchanged : (fs : List Fault) (i j : ℕ) (d : Fault) (bits : List Bool) → i < length fs → j < length fs → over_all step (set (set fs i (get_or fs j d)) j (get_or fs i d)) bits ≡ over_all step fs bits
  exchanged [] i j d bits one other = absurd (omega (arith, one))
  exchanged (f ∷ fs) zero zero d bits one other = refl
  exchanged (f ∷ fs) zero (suc j) d bits one other = to_front fs j f d bits (omega (arith, other))
  exchanged (f ∷ fs) (suc i) zero d bits one other = to_front fs i f d bits (omega (arith, one))
  exchanged (f ∷ fs) (suc i) (suc j) d bits one other =
      let first_in : i < length fs = omega (arith, one) in
      let second_in : j < length fs = omega (arith, other) in
      alike (over_all step (set (set fs i (get_or fs j d)) j (get_or fs i d))) (over_all step fs) (λ came. exchanged fs i j d came first_in second_in) (step f bits)

  swapped : (fs : List Fault) (i j : ℕ) (bits : List Bool) → i < length fs → j < length fs → over_all step (swap fs i j) bits ≡ over_all step fs bits
  swapped [] i j bits one other = refl
  swapped (d ∷ fs) i j bits one other = exchanged (d ∷ fs) i j d bits one other

  reordered : (xs ys : List Fault) (bits : List Bool) → IsPermutation xs ys → over_all step ys bits ≡ over_all step xs bits
  reordered xs ys bits same = IsPermutation-keeps xs (λ (fs : List Fault). over_all step fs bits ≡ over_all step xs bits) refl (λ fs i j one other is. swapped fs i j bits one other ∙ is) ys same

-- the way of a passage in a ring
abbrev pub way_of : ℕ → Passage → Way
way_of stations p = record { link = p.from; count = links_between stations p.from p.to; to = p.to }

-- what arrives of a passage
pub carried_is : (stations : ℕ) (faults : List Fault) (p : Passage) (bits : List Bool) → carried stations faults p bits ≡ over_all (over_passage p (way_of stations p)) faults bits
unfolding carried
carried_is stations faults p bits = by_links_is p (way_of stations p) faults bits

pub carried-reordered : (stations : ℕ) (xs ys : List Fault) (p : Passage) (bits : List Bool) → IsPermutation xs ys → carried stations ys p bits ≡ carried stations xs p bits
carried-reordered stations xs ys p bits same =
    carried_is stations ys p bits ∙ reordered (over_passage p (way_of stations p)) (passages_commute p (way_of stations p)) xs ys bits same ∙ sym (carried_is stations xs p bits)
