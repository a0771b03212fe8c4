-- A list without a fault spells its items, and the text of items is read as them.
use Rattle.std.proofs.Common.{◌≡◌, ℕ, zero, suc, ◌+◌, ◌<◌, ◌≤◌, Bool, true, false, not, ◌==◌, lit<, List, [], ◌∷◌, ◌++◌, length, take, drop, get_or, None, refl, sym, ap, ◌∙◌, arith, add-zero, decimal, append_assoc, length-append}
use Rattle.std.specs.Bool.{then_some}
use Rattle.std.proofs.lemmas.Bool.Decides.{nat_tests}
use Rattle.std.proofs.lemmas.List.{take_at, drop_at, drop-drop, append-nil, take-append-drop}
use Rattle.sercos_model.proofs.FaultLemmas.{none_of-or, none_of-then, none_of-map}
use Rattle.sercos_idn.specs.Idns.{idn_text, four_digits}
use Rattle.sercos_idn.proofs.IdnLemmas.{IsSpelled-idn_fault, spelled_raw-below, idn_text-spelled_raw, idn_fault-idn_text, spelled_raw-idn_text}
use Rattle.sercos_text.specs.Fields.{behind}
use Rattle.sercos_text.specs.Lists.{item_fault, item_len, item_of, item_text, IsItem, listed_fault, listed_len, goes_on, list_fault, list_len, list_of, list_text, AreItems}
use Rattle.sercos_text.specs.declared.list.Item.{Item}
use Rattle.sercos_text.specs.declared.list.Item.TheVariants.{Address, Ident}
use Rattle.sercos_text.proofs.ValueLaws.{IsRest, IsGood-number_fault, number_fault-IsGood, number_spelled, reads_number}

pub record ItemSpells (item : Item) (text : List ℕ) : Type 0 where
  pub is : IsItem item (item_of item text)
  pub text_is : text ≡ item_text item (item_of item text) ++ drop (item_len item text) text

pub item_spells : (item : Item) (text : List ℕ) → item_fault item text ≡ None → ItemSpells item text
unfolding item_fault item_len item_of item_text IsItem
item_spells Address text none = let good = IsGood-number_fault 255 text none in record { is = good.most_is; text_is = number_spelled 255 text (lit< tt) good }
item_spells Ident text none =
    let spelled = IsSpelled-idn_fault (take 8 text) none in
    record {
      is = spelled_raw-below (take 8 text) spelled;
      text_is = sym (take-append-drop 8 text) ∙ ap (λ front. front ++ drop 8 text) (idn_text-spelled_raw (take 8 text) spelled);
    }

pub record ItemReads (item : Item) (value : ℕ) (rest : List ℕ) : Type 0 where
  pub none : item_fault item (item_text item value ++ rest) ≡ None
  pub len : item_len item (item_text item value ++ rest) ≡ length (item_text item value)
  pub given : item_of item (item_text item value ++ rest) ≡ value

eight : (raw : ℕ) → length (idn_text raw) ≡ 8
unfolding idn_text four_digits
eight raw = refl

pub item_reads : (item : Item) (value : ℕ) (rest : List ℕ) → IsItem item value → IsRest rest → ItemReads item value rest
unfolding item_fault item_len item_of item_text IsItem
item_reads Address n rest is ends =
    let reads = reads_number n rest (omega (arith, is)) ends in
    record {
      none = number_fault-IsGood 255 (decimal n ++ rest) (record { some = reads.some; lead = reads.lead; most_is = omega (arith, reads.number, is) });
      len = reads.len;
      given = reads.number;
    }
item_reads Ident raw rest is ends =
    let front = take_at (idn_text raw) rest 8 (eight raw) in
    record {
      none = rw front (idn_fault-idn_text raw is);
      len = sym (eight raw);
      given = rw front (spelled_raw-idn_text raw is);
    }

pub record ListSpells (item : Item) (most : ℕ) (text : List ℕ) : Type 0 where
  pub are : AreItems item (list_of item most text)
  pub some : 0 < length (list_of item most text)
  pub few : length (list_of item most text) ≤ most
  pub text_is : text ≡ list_text item (list_of item most text) ++ drop (list_len item most text) text

space_is : (text : List ℕ) → (get_or text 0 0 == 32) ≡ true → text ≡ 32 ∷ drop 1 text
space_is [] is = cc
space_is (c ∷ text) is = let e : c ≡ 32 = grind (arith, nat_tests) in ap (λ b. b ∷ text) e

-- one item and what comes after it
record Listed (item : Item) (text : List ℕ) : Type 0 where
  is : IsItem item (item_of item (drop 1 text))
  text_is : text ≡ 32 ∷ (item_text item (item_of item (drop 1 text)) ++ drop (listed_len item text) text)

listed_spells : (item : Item) (text : List ℕ) → listed_fault item text ≡ None → Listed item text
unfolding listed_fault
listed_spells item text none =
    let parts = none_of-or (then_some (not (get_or text 0 0 == 32)) 0) (behind 1 (item_fault item (drop 1 text))) none in
    let space = is_space (get_or text 0 0 == 32) (none_of-then _ 0 parts.0) in
    let spells = item_spells item (drop 1 text) (none_of-map _ (item_fault item (drop 1 text)) parts.1) in
    record {
      is = spells.is;
      text_is = space_is text space ∙ ap (λ t. 32 ∷ t) (spells.text_is ∙ ap (λ t. item_text item (item_of item (drop 1 text)) ++ t) (drop-drop (item_len item (drop 1 text)) 1 text));
    }
  where
    is_space : (test : Bool) → not test ≡ false → test ≡ true
    is_space true is = refl
    is_space false is = cc

list_spells_by : (item : Item) (most : ℕ) (text : List ℕ) (more : Bool) → goes_on (drop (listed_len item text) text) ≡ more → Listed item text → (more ≡ true → ListSpells item most (drop (listed_len item text) text)) → ListSpells item (suc most) text
unfolding list_of list_len list_text AreItems
list_spells_by item most text false is first rest =
    let value : ℕ = item_of item (drop 1 text) in
    record {
      are = rw is (first.is, tt);
      some = rw is (omega arith);
      few = rw is (omega arith);
      text_is = rw (is, append-nil (item_text item value), add-zero) first.text_is;
    }
list_spells_by item most text true is first rest =
    let value : ℕ = item_of item (drop 1 text) in
    let behind_it : List ℕ = drop (listed_len item text) text in
    let others = rest refl in
    let joined : behind_it ≡ list_text item (list_of item most behind_it) ++ drop (listed_len item text + list_len item most behind_it) text =
    others.text_is ∙ ap (λ t. list_text item (list_of item most behind_it) ++ t) (drop-drop (list_len item most behind_it) (listed_len item text) text) in
    record {
      are = rw is (first.is, others.are);
      some = rw is (omega arith);
      few = rw is (omega (arith, others.few));
      text_is = rw (is, append_assoc (item_text item value)) (first.text_is ∙ ap (λ t. 32 ∷ (item_text item value ++ t)) joined);
    }

pub list_spells : (item : Item) (most : ℕ) (text : List ℕ) → list_fault item most text ≡ None → ListSpells item most text
unfolding list_fault
list_spells item zero text none = absurd (cc)
list_spells item (suc most) text none =
    let parts = none_of-or (listed_fault item text) _ none in
    let behind_it : List ℕ = drop (listed_len item text) text in
    list_spells_by item most text (goes_on behind_it) refl (listed_spells item text parts.0)
    (λ more. list_spells item most behind_it (none_of-map _ (list_fault item most behind_it) (rw more at parts.1)))

pub record ListReads (item : Item) (most : ℕ) (values : List ℕ) : Type 0 where
  pub none : list_fault item most (list_text item values) ≡ None
  pub len : list_len item most (list_text item values) ≡ length (list_text item values)
  pub given : list_of item most (list_text item values) ≡ values

rest_is : (item : Item) (values : List ℕ) → IsRest (list_text item values)
unfolding list_text
rest_is item [] = refl
rest_is item (value ∷ values) = refl

listed_passes : (item : Item) (text : List ℕ) → item_fault item text ≡ None → listed_fault item (32 ∷ text) ≡ None
unfolding listed_fault
listed_passes item text none = rw none refl

-- what comes after the first item
front_gone : (item : Item) (value : ℕ) (rest : List ℕ) → ItemReads item value rest → drop (listed_len item (32 ∷ (item_text item value ++ rest))) (32 ∷ (item_text item value ++ rest)) ≡ rest
front_gone item value rest reads =
    let size : listed_len item (32 ∷ (item_text item value ++ rest)) ≡ suc (length (item_text item value)) = omega (arith, reads.len) in
    rw size (drop_at (item_text item value) rest (length (item_text item value)) refl)

pub list_reads : (item : Item) (most : ℕ) (values : List ℕ) → AreItems item values → 0 < length values → length values ≤ most → ListReads item most values
unfolding AreItems list_text list_fault list_len list_of
list_reads item most [] are some few = absurd (omega arith)
list_reads item zero (value ∷ values) are some few = absurd (omega arith)
list_reads item (suc most) (value ∷ []) are some few =
    let reads = item_reads item value [] are.0 refl in
    let gone = front_gone item value [] reads in
    let first = listed_passes item (item_text item value ++ []) reads.none in
    record {
      none = rw (first, gone) refl;
      len = rw gone (omega (arith, reads.len, length-append (item_text item value) []));
      given = rw (gone, reads.given) refl;
    }
list_reads item (suc most) (value ∷ next ∷ values) are some few =
    let others = list_reads item most (next ∷ values) are.1 (omega arith) (omega arith) in
    let rest : List ℕ = list_text item (next ∷ values) in
    let reads = item_reads item value rest are.0 refl in
    let gone = front_gone item value rest reads in
    let first = listed_passes item (item_text item value ++ rest) reads.none in
    record {
      none = rw (first, gone) (rw (others.none) refl);
      len = rw (gone, others.len) (omega (arith, reads.len, length-append (item_text item value) rest));
      given = rw (gone, reads.given, others.given) refl;
    }
