-- The lists that the checks read and write.
use Rattle.std.proofs.Common.{◌≡◌, ℕ, zero, suc, ◌+◌, ◌*◌, ◌<◌, ◌≤◌, ◌/◌, Bool, true, false, cond, List, [], ◌∷◌, ◌++◌, length, Option, Some, IfSome, slice_get, take, drop, map, option_map, append_assoc, append-nil, length-drop, unwrap_or, refl, sym, ◌∙◌, ap, arith}
use Rattle.std.specs.List.{filter}
use Rattle.sercos_idn.specs.declared.idn.Idn.{Idn}
use Rattle.sercos_block.specs.declared.block.Block.{Block}
use Rattle.sercos_command.specs.Checks.{idns_in, listed_if, is_outside, unfit_for_phase_4}

-- a rule more
pub found_more : (old : List Idn) {new : List Idn} (raw : ℕ) (broken test : Bool) (rest : List Idn) → new ≡ old ++ listed_if raw broken [] → broken ≡ test
    → old ++ listed_if raw test rest ≡ new ++ rest
found_more old {new} raw broken test rest added is = rw (added, is) (by test)
  where
    by : (test : Bool) → old ++ listed_if raw test rest ≡ (old ++ listed_if raw test []) ++ rest
    by true = sym (append_assoc old (record { raw = raw } ∷ []) rest)
    by false = rw append-nil refl

pub found_first : {found : List Idn} (rest : List Idn) → found ≡ [] → rest ≡ found ++ rest
found_first rest none = rw none refl

-- the bytes that are left
idns_in-short : (bytes : List ℕ) → length bytes < 2 → idns_in bytes ≡ []
idns_in-short [] short = refl
idns_in-short (low ∷ []) short = refl
idns_in-short (low ∷ high ∷ bytes) short = absurd (omega arith)

pub idns_in-end : {idns : List Idn} (bytes : List ℕ) (place : ℕ) → length bytes / 2 ≤ place → idns ++ idns_in (drop (2 * place) bytes) ≡ idns_in bytes → idns ≡ idns_in bytes
idns_in-end {idns} bytes place done whole =
    let none = idns_in-short (drop (2 * place) bytes) (omega (arith, length-drop (2 * place) bytes)) in
    sym (append-nil idns) ∙ rw none at whole

-- a block more
pub unfit_more : (blocks : List Block) (index : ℕ) (idn : Idn) (outside : Bool) → IfSome (slice_get blocks index) (λ b. outside ≡ is_outside b)
    → option_map (λ b. b.idn) (slice_get blocks index) ≡ Some idn
    → unfit_for_phase_4 (take (index + 1) blocks) ≡ unfit_for_phase_4 (take index blocks) ++ listed_if idn.raw outside []
unfolding unfit_for_phase_4
unfit_more [] index idn outside says at = cc
unfit_more (b ∷ blocks) zero idn outside says at = by (is_outside b) says
  where
    by : (is : Bool) → outside ≡ is → map (λ (b : Block). b.idn) (cond is (b ∷ []) []) ≡ listed_if idn.raw outside []
    by true e = rw e (ap (λ (i : Idn). i ∷ []) (ap (λ (o : Option Idn). unwrap_or o idn) at))
    by false e = rw e refl
unfit_more (b ∷ blocks) (suc index) idn outside says at =
    let next : suc index + 1 ≡ suc (index + 1) = omega arith in
    rw next (by (is_outside b) (unfit_more blocks index idn outside says at))
  where
    by : (is : Bool) → unfit_for_phase_4 (take (index + 1) blocks) ≡ unfit_for_phase_4 (take index blocks) ++ listed_if idn.raw outside []
        → map (λ (b : Block). b.idn) (cond is (b ∷ filter is_outside (take (index + 1) blocks)) (filter is_outside (take (index + 1) blocks)))
        ≡ map (λ (b : Block). b.idn) (cond is (b ∷ filter is_outside (take index blocks)) (filter is_outside (take index blocks))) ++ listed_if idn.raw outside []
    by true e = ap (λ (rest : List Idn). b.idn ∷ rest) e
    by false e = e
