-- As long as built-in blocks alone are written to a drive, those of its own that are outside their limits are the same as at opening; so
-- if a check for phase 4 is set that ends well, there are none.
use Rattle.sercos_law_run.proofs.Words.{◌≡◌, ℕ, suc, arith, true, List, [], ◌∷◌, length, Option, Some, None, refl, sym, ap, ◌∙◌, subst, ◌==◌, eqb-true, none-some, is_built_in, with_data, store_of, DriveView, Block, is_outside, is_command, ends_well, Wrote, CommandHistory, with_call, find_set, set_in, SetCommand, Processed, Write, added_on, with_added, command_value, blocks_with, commands_with, DriveCall, Mst, Mdt, mst_got, mdt_got, Moment, phase_in, records_in, writes_in, blocks_in, blocks_after, commands_in, write_in, commands_after, reset_in, annals, stands_in, ends_in, is_own_outside, length_map, unfit_for_phase_4, cases_Bool, cases_Option, inl, inr, same_Some, list_all, map, Given, given_of, and_parts, DriveRestart, processed_at, filter}
use Rattle.sercos_law_run.proofs.Held.Processed.{processed_keeps, taken_at}
use Rattle.sercos_law_run.proofs.Start.OwnLemmas.{leaves_own, own_stay}
use Rattle.sercos_law_run.proofs.Settings.Histories.{set_elsewhere, set_cancelled, set_new, set_stays}

-- each of these writes is to a built-in block
abbrev pub AreBuiltIn : List Write → Type 0
AreBuiltIn writes = list_all (λ (g : Given). is_built_in g.raw) (map given_of writes) ≡ true

-- a check for phase 4 that is set is such a one
abbrev pub Say : (SetCommand → Type 0) → CommandHistory → Type 0
Say such c = (s : SetCommand) → find_set 128 (set_in c) ≡ Some s → such s

-- what a check for phase 4 says that is set, and ends well
abbrev pub SaysOwn : DriveView → CommandHistory → Type 0
SaysOwn d c = (s : SetCommand) → find_set 128 (set_in c) ≡ Some s → s.well ≡ true → filter is_own_outside (store_of d) ≡ []

pub record IsOwn (d : DriveView) (blocks : List Block) (c : CommandHistory) : Type 0 where
  pub same : filter is_own_outside blocks ≡ filter is_own_outside (store_of d)
  pub says : SaysOwn d c

-- if nothing is outside, no own block is
none_own : (blocks : List Block) → (length (filter is_outside blocks) == 0) ≡ true → filter is_own_outside blocks ≡ []
none_own [] none = refl
none_own (b ∷ blocks) none = elim (cases_Bool (is_outside b)) [
  | inl on ↦ absurd (omega (arith, eqb-true (suc (length (filter is_outside blocks))) 0 (rw on at none)))
  | inr off ↦
      let rest = none_own blocks (rw off at none) in
      elim (cases_Bool (is_built_in b.idn.raw)) [ inl own ↦ rw own rest | inr own ↦ rw (own, off) rest ]
]

well_own : (rate : ℕ) (blocks : List Block) → ends_well rate 128 blocks ≡ true → filter is_own_outside blocks ≡ []
unfolding unfit_for_phase_4
well_own rate blocks well = none_own blocks (sym (ap (λ (n : ℕ). n == 0) (length_map (λ (b : Block). b.idn) (filter is_outside blocks))) ∙ well)

-- ONE WRITE
pub say_written : (such : SetCommand → Type 0) (raw value cycle : ℕ) (blocks : List Block) (c : CommandHistory) → (raw ≡ 128 → such (record { idn = record { raw = raw }; cycle = cycle; well = ends_well c.rate raw blocks })) → Say such c
    → Say such (with_call (Wrote raw value cycle blocks) c)
say_written such raw value cycle blocks c sets say s found = elim (cases_Bool (raw == 128)) [
  | inr off ↦ say s (sym (set_elsewhere 128 raw value cycle blocks c off) ∙ found)
  | inl on ↦
      let here : raw ≡ 128 = eqb-true raw 128 on in
      let at = subst (λ (n : ℕ). find_set n (set_in (with_call (Wrote raw value cycle blocks) c)) ≡ Some s) (sym here) found in
      elim (cases_Bool (value == 0)) [
        | inl zero ↦ absurd (none-some s (sym (set_cancelled raw value cycle blocks c zero) ∙ at))
        | inr some ↦ elim (cases_Option (find_set raw (set_in c))) [
          | inr (x, was) ↦ say s (subst (λ (n : ℕ). find_set n (set_in c) ≡ Some s) here
              (was ∙ sym (set_stays raw value cycle blocks c x some was) ∙ at))
          | inl none ↦ subst such (same_Some _ s (sym (set_new raw value cycle blocks c some none) ∙ at)) (sets here)
        ]
      ]
]

-- A RESET sets nothing.
says_reset : (d : DriveView) (phase : ℕ) (c : CommandHistory) → SaysOwn d c → SaysOwn d (reset_in phase c)
says_reset d phase c says = elim (cases_Bool (phase == 0)) [ inl on ↦ rw on (λ s found well. absurd (cc)) | inr off ↦ rw off says ]

-- what a record that is processed leaves so
abbrev IsAfter : DriveView → ℕ → List Moment → Option Processed → Type 0
IsAfter d rate past o = AreBuiltIn (with_added (write_in o (records_in past)) (writes_in past)) → IsOwn d (blocks_in d past)
    (commands_in d rate past)
    → IsOwn d (blocks_after o (records_in past) (blocks_in d past)) (commands_after o (records_in past) (commands_in d rate past))

-- WHATEVER A DRIVE IS GIVEN
pub own_so : (d : DriveView) (rate : ℕ) (h : List DriveCall) → AreBuiltIn (writes_in (annals d rate h)) → IsOwn d (blocks_in d (annals d rate h)) (commands_in d rate (annals d rate h))
own_so d rate [] are = record { same = refl; says = λ s found well. absurd (cc) }
own_so d rate (Mst cycle content ∷ h) are =
    let own = own_so d rate h are in
    record { same = own.same; says = says_reset d (stands_in d rate cycle (mst_got content) (annals d rate h)) (commands_in d rate (annals d rate h)) own.says }
own_so d rate (DriveRestart ∷ h) are = record { same = (own_so d rate h are).same; says = λ s found well. absurd (cc) }
own_so d rate (Mdt content ∷ h) are =
    let told = mdt_got d.address (phase_in past) (blocks_in d past) content in
    let by = processed_keeps (IsAfter d rate past) d rate told past (λ are own. own)
    (λ t. one_write (added_on (taken_at d rate past t) (records_in past))) in
    let own = by are (own_so d rate h (elim (cases_Option (write_in (processed_at d rate told past) (records_in past))) [
      | inl none ↦ let are = rw none at are in are
      | inr some ↦ let are = rw some.1 at are in (and_parts (is_built_in some.0.raw) _ are).1
    ])) in
    record { same = own.same; says = says_reset d (ends_in told past) (commands_after (processed_at d rate told past) (records_in past) (commands_in d rate past)) own.says }
  where
    past : List Moment
    past = annals d rate h

    one_write : (w : Option Write) → AreBuiltIn (with_added w (writes_in past)) → IsOwn d (blocks_in d past) (commands_in d rate past)
        → IsOwn d (blocks_with w (commands_in d rate past) (blocks_in d past))
        (commands_with w (blocks_in d past) (commands_in d rate past))
    one_write None are own = own
    one_write (Some w) are own = record {
      same = own_stay w (commands_in d rate past) (blocks_in d past) (and_parts (is_built_in w.raw) _ are).0 ∙ own.same;
      says = elim (cases_Bool (is_command (blocks_in d past) w.raw)) [
        | inl on ↦ rw on (say_written (λ s. s.well ≡ true → filter is_own_outside (store_of d) ≡ []) w.raw (command_value w) w.cycle
            (with_data w.raw w.bytes (blocks_in d past)) (commands_in d rate past)
            (λ number well. sym (leaves_own (blocks_in d past) w.raw w.bytes (and_parts (is_built_in w.raw) _ are).0 ∙ own.same)
            ∙ well_own (commands_in d rate past).rate (with_data w.raw w.bytes (blocks_in d past))
            (ap (λ (n : ℕ). ends_well (commands_in d rate past).rate n (with_data w.raw w.bytes (blocks_in d past))) (sym number)
            ∙ well)) own.says)
        | inr off ↦ rw off own.says
      ];
    }
