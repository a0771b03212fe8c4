-- If no own block of a drive was outside its limits at opening, none ever is.
use Rattle.sercos_law_run.proofs.Words.{◌≡◌, ℕ, Bool, true, false, ◌||◌, List, [], ◌∷◌, Option, Some, None, refl, sym, ap, ap₂, ◌∙◌, subst, arith, ◌==◌, nat_lt, cond, then_some, filter, list_all, list_any, and_parts, eq-eqb, eqb-true, false≢true, or_parts, nat_tests, same_Some, none_of-or, none_of-then, is_built_in, blocks_fault, find_block, store_of, write_fault, put_fault, is_short, is_long, is_invalid, is_below, is_above, DriveView, Block, is_outside, list_bytes, unfit_for_phase_3, unfit_for_phase_4, is_own_outside, data_fault, are_ascending, cases_Bool, inl, inr}
use Rattle.sercos_law_run.proofs.Start.OwnLemmas.{own_at_opening}
use Rattle.sercos_law_run.proofs.Undisturbed.Checks.BlockStays.{IsAt, Stays}
use Rattle.sercos_law_run.proofs.Undisturbed.CycleHeld.{second_none}

-- A TEST THAT NO BLOCK PASSES, by the number of the block and by the list
pub all_at : (q : Block → Bool) (n : ℕ) (blocks : List Block) (b : Block) → list_all q blocks ≡ true → find_block n blocks ≡ Some b → (q b ≡ true) × ((b.idn.raw == n) ≡ true)
all_at q n [] b all found = absurd (cc)
all_at q n (c ∷ blocks) b all found = let parts = and_parts (q c) (list_all q blocks) all in elim (cases_Bool (c.idn.raw == n)) [
  | inl is ↦ subst (λ (y : Block). (q y ≡ true) × ((y.idn.raw == n) ≡ true)) (same_Some c b (rw is at found)) (parts.0, is)
  | inr is ↦ all_at q n blocks b parts.1 (rw is at found)
]

pub found_number : (n : ℕ) (blocks : List Block) (b : Block) → find_block n blocks ≡ Some b → b.idn.raw ≡ n
found_number n [] b found = absurd (cc)
found_number n (c ∷ blocks) b found = elim (cases_Bool (c.idn.raw == n)) [
  | inl is ↦ ap (λ (x : Block). x.idn.raw) (sym (same_Some c b (rw is at found))) ∙ eqb-true c.idn.raw n is
  | inr is ↦ found_number n blocks b (rw is at found)
]

pub none_at : (p : Block → Bool) (n : ℕ) (blocks : List Block) → list_any p blocks ≡ false → IsAt n (λ b. p b ≡ false) blocks
none_at p n [] none b found = absurd (cc)
none_at p n (c ∷ blocks) none b found = let parts = or_parts (p c) (list_any p blocks) none in elim (cases_Bool (c.idn.raw == n)) [
  | inl on ↦ subst (λ (y : Block). p y ≡ false) (same_Some c b (rw on at found)) parts.0
  | inr off ↦ none_at p n blocks parts.1 b (rw off at found)
]

pub none_any : (p : Block → Bool) (blocks : List Block) → filter p blocks ≡ [] → list_any p blocks ≡ false
none_any p [] none = refl
none_any p (b ∷ blocks) none =
    elim (cases_Bool (p b)) [ inl on ↦ absurd (let all = rw on at none in cc) | inr off ↦ rw off (none_any p blocks (rw off at none)) ]

pub none_listed : (p : Block → Bool) (blocks : List Block) → are_ascending blocks ≡ true → ((n : ℕ) → IsAt n (λ b. p b ≡ false) blocks) → filter p blocks ≡ []
unfolding are_ascending
none_listed p [] ascending each = refl
none_listed p (c ∷ blocks) ascending each =
    let parts = and_parts (list_all (λ (d : Block). nat_lt c.idn.raw d.idn.raw) blocks) (are_ascending blocks) ascending in
    let here : p c ≡ false = each c.idn.raw c (ap (λ (x : Bool). cond x (Some c) (find_block c.idn.raw blocks)) (eq-eqb c.idn.raw c.idn.raw refl)) in
    ap (λ (x : Bool). cond x (c ∷ filter p blocks) (filter p blocks)) here ∙ none_listed p blocks parts.1 (λ n b found. each n b (
    let is = all_at (λ (d : Block). nat_lt c.idn.raw d.idn.raw) n blocks b parts.0 found in
    let apart : (c.idn.raw == n) ≡ false = grind (arith, nat_tests, is.0, is.1) in
    ap (λ (x : Bool). cond x (Some c) (find_block n blocks)) apart ∙ found))

-- WHAT CAN BE WRITTEN lies within the limits.
below_same : (b : Block) (bytes : List ℕ) (o : Option ℕ) → is_below (record b { value = bytes }) bytes o ≡ is_below b bytes o
below_same b bytes None = refl
below_same b bytes (Some limit) = refl

above_same : (b : Block) (bytes : List ℕ) (o : Option ℕ) → is_above (record b { value = bytes }) bytes o ≡ is_above b bytes o
above_same b bytes None = refl
above_same b bytes (Some limit) = refl

pub within : (b : Block) (bytes : List ℕ) → data_fault b bytes ≡ None → is_outside (record b { value = bytes }) ≡ false
unfolding data_fault
within b bytes none =
    let two = none_of-or (then_some (is_long b bytes) 0x7003) _ (none_of-or (then_some (is_short b bytes) 0x7002) _ none).1 in
    let four = none_of-or (then_some (is_below b bytes b.min) 0x7006) _ (none_of-or (then_some (is_invalid b bytes) 0x7008) _ two.1).1 in
    ap₂ (λ (x y : Bool). x || y) (below_same b bytes b.min ∙ none_of-then (is_below b bytes b.min) 0x7006 four.0) (above_same b bytes b.max ∙ none_of-then (is_above b bytes b.max) 0x7007 four.1)

-- the bytes of a write that isn't refused
pub no_data_fault : (o : Option Block) (b : Block) (phase : ℕ) (bytes : List ℕ) → o ≡ Some b → put_fault o phase bytes ≡ None → data_fault b bytes ≡ None
no_data_fault o b phase bytes found allowed = second_none (write_fault (Some b) phase) (data_fault b bytes) (sym (ap (λ (x : Option Block). put_fault x phase bytes) found) ∙ allowed)

built_in_own : (b : Block) (bytes : List ℕ) → is_built_in b.idn.raw ≡ true → is_own_outside (record b { value = bytes }) ≡ false
built_in_own b bytes built = elim (cases_Bool (is_built_in b.idn.raw)) [ inl on ↦ rw on | inr off ↦ absurd (false≢true (sym off ∙ built)) ]

-- SO NO OWN BLOCK gets outside its limits.
pub own_stays : (d : DriveView) → blocks_fault [] d.blocks ≡ None → list_any is_outside d.blocks ≡ false → (n : ℕ) → Stays d n (λ b. is_own_outside b ≡ false)
own_stays d rules none n = record {
  first = none_at is_own_outside n (store_of d) (own_at_opening d rules ∙ none);
  write = λ blocks phase bytes stored allowed b found. elim (cases_Bool (is_built_in b.idn.raw))
      [ inl on ↦ rw on | inr off ↦ rw off (within b bytes (no_data_fault (find_block n blocks) b phase bytes found allowed)) ];
  list_3 = λ rate blocks stored same b found. built_in_own b (list_bytes (unfit_for_phase_3 rate blocks)) (ap is_built_in (found_number n blocks b found ∙ sym same));
  list_4 = λ blocks stored same b found. built_in_own b (list_bytes (unfit_for_phase_4 blocks)) (ap is_built_in (found_number n blocks b found ∙ sym same));
}
