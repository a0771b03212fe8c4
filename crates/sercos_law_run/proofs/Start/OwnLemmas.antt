-- Which of a drive's own blocks are outside their limits, during the start-up.
use Rattle.sercos_law_run.proofs.Words.{◌≡◌, ℕ, ◌==◌, true, false, cond, ◌||◌, List, [], ◌∷◌, ◌++◌, None, refl, sym, ◌∙◌, ap, list_any, filter, eqb-true, list_any-append, list_any-IsPermutation, Block, is_built_in, has_block, blocks_fault, with_data, store_of, DriveView, or_parts, store_of-permutes, is_outside, is_command, command_value, is_own_outside, OwnStay, OwnAtOpening, built_in, cases_Bool, inl, inr}
use Rattle.sercos_law_run.proofs.Start.BlockFinds.{first_is_new}
use Rattle.sercos_law_run.proofs.Start.LaterLemmas.{after_check}

-- a built-in block isn't one of them
no_own : (b : Block) (blocks : List Block) → is_built_in b.idn.raw ≡ true → filter is_own_outside (b ∷ blocks) ≡ filter is_own_outside blocks
no_own b blocks built = elim (cases_Bool (is_built_in b.idn.raw)) [ inl on ↦ rw on | inr off ↦ rw off (let e = sym off ∙ built in cc) ]

pub leaves_own : (blocks : List Block) (raw : ℕ) (bytes : List ℕ) → is_built_in raw ≡ true → filter is_own_outside (with_data raw bytes blocks) ≡ filter is_own_outside blocks
leaves_own [] raw bytes built = refl
leaves_own (b ∷ blocks) raw bytes built = elim (cases_Bool (b.idn.raw == raw)) [
  | inl e ↦
      rw e (let here : is_built_in b.idn.raw ≡ true = ap is_built_in (eqb-true b.idn.raw raw e) ∙ built in
      no_own (record b { value = bytes }) (with_data raw bytes blocks) here ∙ (leaves_own blocks raw bytes built)
      ∙ sym (no_own b blocks here))
  | inr e ↦ rw e (ap (λ (rest : List Block). cond (is_own_outside b) (b ∷ rest) rest) (leaves_own blocks raw bytes built))
]

pub own_stay : OwnStay
own_stay w c blocks built = elim (cases_Bool (is_command blocks w.raw)) [
  | inl on ↦ rw on (after_check c (with_data w.raw w.bytes blocks) w.raw (command_value w)
      (λ after. filter is_own_outside after ≡ filter is_own_outside (with_data w.raw w.bytes blocks)) refl
      (leaves_own (with_data w.raw w.bytes blocks) 21 _ refl) (λ two. leaves_own (with_data w.raw w.bytes blocks) 22 _ refl)
      ∙ leaves_own blocks w.raw w.bytes built)
  | inr off ↦ rw off (leaves_own blocks w.raw w.bytes built)
]

-- at opening
own_outside : (before own : List Block) → blocks_fault before own ≡ None → list_any is_own_outside own ≡ list_any is_outside own
own_outside before [] none = refl
own_outside before (b ∷ own) none =
    let (new, rest) = first_is_new before b own none in
    let (own_number, _) = or_parts (is_built_in b.idn.raw) (has_block b.idn.raw before) new.number in
    (elim (cases_Bool (is_built_in b.idn.raw)) [
      | inl on ↦ rw on (let e = sym on ∙ own_number in let more = own_outside (before ++ b ∷ []) own rest in cc)
      | inr off ↦ rw off (ap (λ x. is_outside b || x) (own_outside (before ++ b ∷ []) own rest))
    ])

none_built_in : (d : DriveView) → list_any is_own_outside (built_in d) ≡ false
unfolding built_in
none_built_in d = refl

pub own_at_opening : OwnAtOpening
own_at_opening d none =
    sym (list_any-IsPermutation is_own_outside (built_in d ++ d.blocks) (store_of d) (store_of-permutes d))
    ∙ list_any-append is_own_outside (built_in d) d.blocks ∙ ap (λ x. x || list_any is_own_outside d.blocks) (none_built_in d) ∙ own_outside [] d.blocks none
