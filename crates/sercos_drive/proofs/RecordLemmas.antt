-- What each record was handed with, and that no phase is above 4.
use Rattle.std.proofs.Common.{◌≡◌, ℕ, ◌+◌, ◌≤◌, ◌==◌, nat_le, nat_lt, Bool, true, false, cond, not, ◌&&◌, List, [], ◌∷◌, Option, Some, None, IfSome, is_none, refl, arith}
use Rattle.std.specs.Bool.{then_some}
use Rattle.std.specs.Option.{option_or}
use Rattle.std.specs.Prelude.{slice_index}
use Rattle.std.proofs.lemmas.Bool.{and_parts}
use Rattle.std.proofs.lemmas.Bool.Decides.{nat_tests}
use Rattle.sercos_telegram.specs.declared.layout.Layout.{Layout}
use Rattle.sercos_telegram.specs.declared.layout.Layout.TheVariants.{BadField}
use Rattle.sercos_telegram.specs.Faults.{head_fault, mst_fault}
use Rattle.sercos_block.specs.Views.{DriveView}
use Rattle.sercos_service_drive.specs.Log.{Processed, processed_record}
use Rattle.sercos_drive.specs.declared.hearing.Told.{Told}
use Rattle.sercos_drive.specs.Heard.{DriveCall, Mst, Mdt, Restart, mst_in, mst_got, mdt_got}
use Rattle.sercos_drive.specs.Moments.{Moment, AtMdt, phase_in, cycle_in, has_mst, has_missed, blocks_in, commands_in}
use Rattle.sercos_drive.specs.Annals.{may_rise, stands_in, takes, ends_in, mdt_moment, annals, phase_at}
use Rattle.sercos_drive.specs.Laws.{WereHanded}

pub mst_below : (content : List ℕ) → IfSome (mst_in content) (λ p. p ≤ 4)
unfolding mst_in mst_fault
mst_below content = by (head_fault 2 255 content) (nat_lt 4 (slice_index content 1)) refl
  where
    by : (head : Option Layout) (above : Bool) → nat_lt 4 (slice_index content 1) ≡ above
        → IfSome (cond (is_none (option_or head (then_some above (BadField 1)))) (Some (slice_index content 1)) None) (λ p. p ≤ 4)
    by None false e = grind (arith, nat_tests)
    by None true e = tt
    by (Some fault) above e = tt

got_below : (content : Option (List ℕ)) → IfSome (mst_got content) (λ p. p ≤ 4)
got_below None = tt
got_below (Some content) = mst_below content

either_below : (b : Bool) (p q : ℕ) → p ≤ 4 → q ≤ 4 → cond b p q ≤ 4
either_below true p q one other = one
either_below false p q one other = other

pub stands_below : (d : DriveView) (rate cycle : ℕ) (got : Option ℕ) (past : List Moment) → IfSome got (λ p. p ≤ 4) → phase_in past ≤ 4 → stands_in d rate cycle got past ≤ 4
stands_below d rate cycle None past got below = either_below (has_mst past) (phase_in past) 0 below (omega arith)
stands_below d rate cycle (Some phase) past got below =
    either_below (phase == phase_in past) phase _ got (either_below ((phase == phase_in past + 1) && may_rise d rate cycle phase past) phase 0 got (omega arith))

-- no phase is above 4
pub phase_below : (d : DriveView) (rate : ℕ) (h : List DriveCall) → phase_at d rate h ≤ 4
phase_below d rate [] = omega arith
phase_below d rate (Mst cycle content ∷ h) = stands_below d rate cycle (mst_got content) (annals d rate h) (got_below content) (phase_below d rate h)
phase_below d rate (Mdt content ∷ h) = let told = mdt_got d.address (phase_in (annals d rate h)) (blocks_in d (annals d rate h)) content in
    either_below (nat_le 3 (phase_in (annals d rate h)) && (not (takes told (annals d rate h)) && has_missed (annals d rate h))) 0 (phase_in (annals d rate h)) (omega arith) (phase_below d rate h)
phase_below d rate (Restart ∷ h) = omega arith

handed-after : (d : DriveView) (rate : ℕ) (told : Option Told) (past : List Moment) → phase_in past ≤ 4 → WereHanded d rate past → WereHanded d rate (mdt_moment d rate told past ∷ past)
handed-after d rate None past below rest = rest
handed-after d rate (Some told) past below rest = by (has_mst past && nat_le 2 (phase_in past)) refl
  where
    t : Processed
    t = processed_record (cycle_in past) (phase_in past) told.control told.info (blocks_in d past) (commands_in d rate past)

    by : (b : Bool) → (has_mst past && nat_le 2 (phase_in past)) ≡ b → WereHanded d rate (AtMdt (takes (Some told) past) (cond b (Some t) None) (ends_in (Some told) past) ∷ past)
    by true e =
        let (_, two) = and_parts (has_mst past) (nat_le 2 (phase_in past)) e in
        let above : 2 ≤ phase_in past = grind (arith, nat_tests) in
        (record { cycle_is = refl; phase_is = refl; processed = (above, below); blocks_are = refl; commands_are = refl }, rest)
    by false e = rest

-- each record was handed with what the definitions say
pub handed : (d : DriveView) (rate : ℕ) (h : List DriveCall) → WereHanded d rate (annals d rate h)
handed d rate [] = tt
handed d rate (Mst cycle content ∷ h) = handed d rate h
handed d rate (Mdt content ∷ h) = handed-after d rate (mdt_got d.address (phase_in (annals d rate h)) (blocks_in d (annals d rate h)) content) (annals d rate h) (phase_below d rate h) (handed d rate h)
handed d rate (Restart ∷ h) = handed d rate h
