-- If each check for phase 3 was set well, each that is set ends well. The status that a complete one gives isn't that of a command
-- that runs.
use Rattle.sercos_law_run.proofs.Words.{◌≡◌, ◌⊎◌, inl, inr, ℕ, zero, suc, ◌-◌, ◌<◌, ◌≤◌, Bool, true, false, not, ◌&&◌, ◌||◌, List, [], ◌∷◌, ◌++◌, length, refl, sym, ap, ap₂, ◌∙◌, subst, arith, if◌then◌else◌, length-append, ◌==◌, Option, Some, None, is_some, slice_index, list_all, and_parts, cond_both, eqb-true, leb-true, nat_tests, Idn, Answer, bytes_in, a_step, polling, steps_of, result_of, is_whole, answer_words, outcome_of, Block, with_data, SetCommand, is_command, ends_well, Wrote, CommandHistory, with_call, find_set, without, with_set, set_in, Write, command_value, commands_with, View, processed_in, kept_in, write_of, is_well_set, are_well_set, AreSetWell, StandWell, cases_Bool, Request, Outcome, same_Some, AreStepAnswers}

-- THE SETTINGS
without_well : (raw : ℕ) (set : List SetCommand) → list_all is_well_set set ≡ true → list_all is_well_set (without raw set) ≡ true
without_well raw [] all = refl
without_well raw (s ∷ set) all = elim (cases_Bool (not (s.idn.raw == raw))) [
  | inl on ↦
      rw on (ap₂ (λ (a b : Bool). a && b) (and_parts (is_well_set s) _ all).0 (without_well raw set (and_parts (is_well_set s) _ all).1))
  | inr off ↦ rw off (without_well raw set (and_parts (is_well_set s) _ all).1)
]

append_well : (set : List SetCommand) (s : SetCommand) → list_all is_well_set set ≡ true → is_well_set s ≡ true → list_all is_well_set (set ++ s ∷ []) ≡ true
append_well [] s all well = ap (λ (v : Bool). v && true) well
append_well (x ∷ set) s all well = let parts = and_parts (is_well_set x) _ all in ap₂ (λ (a b : Bool). a && b) parts.0 (append_well set s parts.1 well)

with_set_well : (s : SetCommand) (set : List SetCommand) → list_all is_well_set set ≡ true → is_well_set s ≡ true → list_all is_well_set (with_set s set) ≡ true
with_set_well s set all well = cond_both (is_some (find_set s.idn.raw set)) set (set ++ s ∷ [])
    (λ v. list_all is_well_set v ≡ true) (λ on. all) (λ off. append_well set s all well)

write_well : (raw value cycle : ℕ) (blocks : List Block) (c : CommandHistory) → are_well_set c ≡ true → (raw ≡ 127 → (value == 0) ≡ false → ends_well c.rate 127 blocks ≡ true) → are_well_set (with_call (Wrote raw value cycle blocks) c) ≡ true
write_well raw value cycle blocks c all well = elim (cases_Bool (value == 0)) [
  | inl on ↦ rw on (without_well raw (set_in c) all)
  | inr off ↦ rw off (with_set_well (record { idn = record { raw = raw }; cycle = cycle; well = ends_well c.rate raw blocks }) (set_in c) all
      (elim (cases_Bool (raw == 127)) [
        | inl on ↦
            ap₂ (λ (x y : Bool). not x || y) on
            (ap (λ (n : ℕ). ends_well c.rate n blocks) (eqb-true raw 127 on) ∙ well (eqb-true raw 127 on) off)
        | inr other ↦ ap (λ (x : Bool). not x || ends_well c.rate raw blocks) other
      ]))
]

behind_well : (o : Option Write) (blocks : List Block) (c : CommandHistory) → are_well_set c ≡ true → ((w : Write) → o ≡ Some w → w.raw ≡ 127 → (command_value w == 0) ≡ false → ends_well c.rate 127 (with_data 127 w.bytes blocks) ≡ true) → are_well_set (commands_with o blocks c) ≡ true
behind_well None blocks c all well = all
behind_well (Some w) blocks c all well = elim (cases_Bool (is_command blocks w.raw)) [
  | inl on ↦ rw on (write_well w.raw (command_value w) w.cycle (with_data w.raw w.bytes blocks) c all (λ is sets. ap (λ (n : ℕ). ends_well c.rate 127 (with_data n w.bytes blocks)) is ∙ well w refl is sets))
  | inr off ↦ rw off all
]

pub stand_well : (views : List View) → AreSetWell views → StandWell views
stand_well [] are = tt
stand_well (v ∷ []) are = (tt, ap (list_all is_well_set) are.1)
stand_well (v ∷ u ∷ past) are =
    let before = stand_well (u ∷ past) are.0 in (
      before,
      elim are.1 [
        | inl none ↦ ap (list_all is_well_set) none
        | inr same ↦ ap (list_all is_well_set) same ∙ behind_well (write_of (processed_in u past) (kept_in u past)) u.blocks u.commands before.1 are.0.2
      ],
    )

-- the setting that is found
pub found_well : (set : List SetCommand) (s : SetCommand) → list_all is_well_set set ≡ true → find_set 127 set ≡ Some s → s.well ≡ true
found_well [] s all found = absurd (cc)
found_well (x ∷ set) s all found = let parts = and_parts (is_well_set x) _ all in elim (cases_Bool (x.idn.raw == 127)) [
  | inl on ↦ ap (λ (y : SetCommand). y.well) (sym (same_Some x s (rw on at found))) ∙ sym (ap (λ (v : Bool). not v || x.well) on) ∙ parts.0
  | inr off ↦ found_well set s parts.1 (rw off at found)
]

-- THE STATUS of a complete command isn't 7.
last_word : ℕ → List ℕ → ℕ
last_word x [] = x
last_word x (y ∷ words) = last_word y words

polls_end : (x : ℕ) (words : List ℕ) (c : ℕ) → suc (length words) < length (polling (x ∷ words)) → length (polling (x ∷ words ++ c ∷ [])) ≤ suc (suc (length words)) → last_word x words ≡ 7 → ⊥
unfolding last_word
polls_end x [] c going whole seven = by (x == 7) refl whole
  where
    by : (v : Bool) → (x == 7) ≡ v → length (a_step false true 1 0 ∷ (if v then a_step false true 1 0 ∷ (if c == 7 then a_step false true 1 0 ∷ [] else a_step true true 7 0 ∷ []) else a_step true true 7 0 ∷ [])) ≤ 2 → ⊥
    by true on whole = elim (cases_Bool (c == 7)) [ inl on ↦ omega (arith, (rw on at whole)) | inr off ↦ omega (arith, (rw off at whole)) ]
    by false off whole = let on : (x == 7) ≡ true = ap (λ (n : ℕ). n == 7) seven in cc
polls_end x (y ∷ words) c going whole seven = by (x == 7) going whole (λ a b. polls_end y words c a b seven)
  where
    by : (v : Bool) → suc (suc (length words)) < length (a_step false true 1 0 ∷ (if v then polling (y ∷ words) else a_step true true 7 0 ∷ [])) →
        length (a_step false true 1 0 ∷ (if v then polling (y ∷ words ++ c ∷ []) else a_step true true 7 0 ∷ [])) ≤ suc (suc (suc (length words))) →
        (suc (length words) < length (polling (y ∷ words)) → length (polling (y ∷ words ++ c ∷ [])) ≤ suc (suc (length words)) → ⊥) → ⊥
    by true going whole more = more (omega (arith, going)) (omega (arith, whole))
    by false going whole more = omega (arith, going)

get_last : (x : ℕ) (words : List ℕ) (c n : ℕ) → n ≡ length words → slice_index (x ∷ words ++ c ∷ []) n ≡ last_word x words
unfolding last_word
get_last x [] c zero is = refl
get_last x [] c (suc n) is = absurd (omega arith)
get_last x (y ∷ words) c zero is = absurd (omega arith)
get_last x (y ∷ words) c (suc n) is = get_last y words c n (omega arith)

-- what it gives is not 7
pub complete_status : (i : Idn) (a : Answer) (h : List Answer) (bytes : List ℕ) → AreStepAnswers (Request.Command i) (a ∷ h) → outcome_of (Request.Command i) (a ∷ h) ≡ Some (Outcome.Complete bytes) →
    (x : ℕ) × (bytes ≡ bytes_in (x ∷ [])) × (x ≡ 7 → ⊥)
complete_status i a h bytes are complete = elim (cases_Bool a.error) [
  | inl on ↦ let complete = rw on at complete in absurd (cc)
  | inr off ↦
      let done = rw off at complete in
      elim (cases_Bool (is_whole (Request.Command i) (answer_words h ++ a.word ∷ []))) [
        | inl whole ↦
            let e = ends (answer_words h) refl (leb-true (length (steps_of (Request.Command i) (answer_words h ++ a.word ∷ []))) (length (answer_words h ++ a.word ∷ [])) whole) in
            (e.0, sym (cc) ∙ e.1, e.2)
        | inr whole ↦ let done = rw whole at done in absurd (cc)
      ]
]
  where
    goes_on : (words : List ℕ) → answer_words h ≡ words → (words ≡ []) ⊎ (length words < length (steps_of (Request.Command i) words))
    goes_on words same = on h same are.1
      where
        not_whole : (ws : List ℕ) (v : Bool) → is_whole (Request.Command i) ws ≡ v → (if v then Some (Outcome.Complete (result_of (Request.Command i) ws)) else None) ≡ None → length ws < length (steps_of (Request.Command i) ws)
        not_whole ws true whole none = absurd (cc)
        not_whole ws false whole none = grind (arith, nat_tests, whole)

        on : (g : List Answer) → answer_words g ≡ words → outcome_of (Request.Command i) g ≡ None → (words ≡ []) ⊎ (length words < length (steps_of (Request.Command i) words))
        on [] is none = inl (sym is)
        on (b ∷ g) is none = inr (subst (λ (ws : List ℕ). length ws < length (steps_of (Request.Command i) ws)) is
            (elim (cases_Bool b.error) [
              | inl bad ↦ let none = rw bad at none in absurd (cc)
              | inr off ↦ not_whole (answer_words (b ∷ g)) (is_whole (Request.Command i) (answer_words (b ∷ g))) refl (rw off at none)
            ]))

    ends : (words : List ℕ) → answer_words h ≡ words → length (steps_of (Request.Command i) (words ++ a.word ∷ [])) ≤ length (words ++ a.word ∷ []) → (x : ℕ) × (result_of (Request.Command i) (words ++ a.word ∷ []) ≡ bytes_in (x ∷ [])) × (x ≡ 7 → ⊥)
    ends [] is whole = absurd (omega (arith, whole))
    ends (p ∷ []) is whole = absurd (omega (arith, whole))
    ends (p ∷ q ∷ []) is whole = absurd (elim (cases_Bool (a.word == 7)) [
      | inl on ↦ omega (arith, (rw on at whole))
      | inr off ↦ omega (arith, (rw off at whole))
    ])
    ends (p ∷ q ∷ x ∷ words) is whole = (
      last_word x words,
      ap (λ (n : ℕ). bytes_in (n ∷ [])) at,
      λ seven. polls_end x words a.word (elim (goes_on (p ∷ q ∷ x ∷ words) is) [ inl none ↦ absurd (cc) | inr less ↦ omega (arith, less) ])
          (let l = long in omega (arith, whole)) seven,
    )
      where
        long : length (words ++ a.word ∷ []) ≡ suc (length words)
        long = let e = length-append words (a.word ∷ []) in omega arith

        at : slice_index (p ∷ q ∷ x ∷ words ++ a.word ∷ []) (length (p ∷ q ∷ x ∷ words ++ a.word ∷ []) - 2) ≡ last_word x words
        at = let e : length (p ∷ q ∷ x ∷ words ++ a.word ∷ []) - 2 ≡ suc (suc (length words)) = let l = long in omega arith in ap (slice_index (p ∷ q ∷ x ∷ words ++ a.word ∷ [])) e ∙ get_last x words a.word (length words) refl
