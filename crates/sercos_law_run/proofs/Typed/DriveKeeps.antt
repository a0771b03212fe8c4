-- What a drive keeps, whatever it hears: its blocks are a store, and the records that it took fit.
use Rattle.sercos_law_run.proofs.Words.{◌≡◌, ℕ, ◌+◌, ◌<◌, ◌==◌, nat_le, Bool, true, false, ◌&&◌, List, [], ◌∷◌, length, Option, Some, None, IfSome, is_none, refl, sym, subst, arith, and_parts, cond_both, leb-true, AreBytes, AreBytes-bytes_of, none_of, reason_of, plain, control_element, word_at, single_fault, joint_fault, Block, blocks_fault, is_address, is_ring, are_times, store_of, IsStore, DriveView, RingView, number_at, carried_len, Processed, AreThose, added_on, Told, DriveCall, Mst, Mdt, mst_got, told_at, lies_within, mdt_got, Moment, phase_in, has_mst, records_in, blocks_in, blocks_after, ends_in, stands_in, annals, Carry, Restarts, SentView, CycleView, arrival, passage, mdt_in, no_drive, drive_at, with_restart, mdt_heard, drive_calls, given_before, given_mst, IsTyped, AreTyped, IsRecord, AreRecords, Keeps, IsStore-store_of, control_of, is_drive, are_drive_numbers, has_blocks, single_in, content_in, cases_Bool, cases_Option, inl, inr, allowed, DriveRestart, processed_at, Kind, joint_in, content_read}
use Rattle.sercos_drive.specs.Moments.{with_record}
use Rattle.sercos_law_run.proofs.Journal.StationLemmas.{drives_so, drive_so}
use Rattle.sercos_law_run.proofs.Typed.Words.{read_word}
use Rattle.sercos_law_run.proofs.Typed.StoreStays.{blocks_stay}
use Rattle.sercos_law_run.proofs.Typed.Records.{added_bytes}
use Rattle.sercos_law_run.proofs.Cited.{handed_those}

-- AT OPENING: the first store of a drive
opened : (others : List DriveView) (d : DriveView) → is_drive others d ≡ true → IsTyped d → IsStore (store_of d)
unfolding is_drive has_blocks are_drive_numbers
opened others d is typed =
    let rest = (and_parts _ _ is).1 in
    let blocks = (and_parts _ _ (and_parts _ _ rest).1).0 in
    let parts : (nat_le (length d.blocks) 36 ≡ true) × (is_none (blocks_fault [] d.blocks) ≡ true) = and_parts (nat_le (length d.blocks) 36) (is_none (blocks_fault [] d.blocks)) blocks in
    let after_slave = (and_parts (is_address d.slave) _ ((and_parts (is_address d.address) _ ((and_parts _ _ rest).0)).1)).1 in
    let after_command = (and_parts (nat_le d.command 200) _ ((and_parts (nat_le d.busy 20) _ after_slave).1)).1 in
    let limits = (and_parts (are_times d.times) _ after_command).1 in
    let both : (nat_le d.cycle_min 64000 ≡ true) × (nat_le d.cycle_max 64000 ≡ true) = and_parts (nat_le d.cycle_min 64000) (nat_le d.cycle_max 64000) limits in
    IsStore-store_of d (none_of _ parts.1) (leb-true _ _ parts.0) typed.blocks (omega (arith, (leb-true _ _ both.0)))
    (omega (arith, (leb-true _ _ both.1)))

-- WHAT ARRIVES are bytes
abbrev pub IsHeard : Option (List ℕ) → Type 0
IsHeard content = IfSome content AreBytes

read_bytes : (bits : List Bool) → IsHeard (content_in bits)
unfolding content_in
read_bytes bits =
    cond_both (is_none (reason_of bits)) (Some (content_read (plain bits))) None IsHeard (λ on. AreBytes-bytes_of _) (λ off. tt)

abbrev pub AreHeard : List DriveCall → Type 0
AreHeard [] = Unit {0}
AreHeard (Mst cycle content ∷ h) = AreHeard h
AreHeard (Mdt content ∷ h) = IsHeard content × AreHeard h
AreHeard (DriveRestart ∷ h) = AreHeard h

restart_heard : (b : Bool) (h : List DriveCall) → AreHeard h → AreHeard (with_restart b h)
restart_heard true h are = are
restart_heard false h are = are

mdt_bytes : (carry : Carry) (cycle station : ℕ) (mdt : Option (List ℕ)) → IsHeard (mdt_heard carry cycle station mdt)
mdt_bytes carry cycle station None = tt
mdt_bytes carry cycle station (Some mdt) = elim (cases_Option (arrival carry (passage cycle Kind.Mdt 0 station) mdt))
    [ inl none ↦ rw none tt | inr (bits, some) ↦ rw some (read_bytes bits) ]

pub all_heard : (carry : Carry) (restarts : Restarts) (station : ℕ) (j : List CycleView) → AreHeard (drive_calls carry restarts station j)
all_heard carry restarts station [] = tt
all_heard carry restarts station (t ∷ j) = (mdt_bytes carry (length j) station (mdt_in t.sent), restart_heard (restarts (length j) station) (drive_calls carry restarts station j) (all_heard carry restarts station j))

pub mst_heard : (carry : Carry) (restarts : Restarts) (sent : List SentView) (j : List CycleView) (k : ℕ) → AreHeard (given_mst carry restarts sent j k)
mst_heard carry restarts sent j k = restart_heard (restarts (length j) (k + 1)) (given_before carry restarts j k) (all_heard carry restarts (k + 1) j)

-- WHAT IS TOLD: the element and the word fit
abbrev pub IsTold : Option Told → Type 0
IsTold told = IfSome told (λ x. (x.control.element < 8) × (x.info < 65536))

told_there : (content : List ℕ) (place : ℕ) → AreBytes content → IsTold (Some (told_at content place))
unfolding control_of
told_there content place are = (control_element (word_at content place), read_word content (place + 2) are)

single_told : (address : ℕ) (content : List ℕ) → AreBytes content → IsTold (single_in address content)
unfolding single_in
single_told address content are = cond_both (is_none (single_fault address content)) (Some (told_at content 1)) None
    IsTold (λ on. told_there content 1 are) (λ off. tt)

joint_told : (blocks : List Block) (content : List ℕ) → AreBytes content → IsTold (joint_in blocks content)
unfolding joint_in
joint_told blocks content are = elim (cases_Bool (lies_within (number_at blocks 10) (number_at blocks 9) (carried_len blocks 24) && is_none (joint_fault (number_at blocks 10) content))) [
  | inl on ↦ rw on (told_there content (number_at blocks 9) are)
  | inr off ↦ rw off tt
]

got_told : (address phase : ℕ) (blocks : List Block) (content : Option (List ℕ)) → IsHeard content → IsTold (mdt_got address phase blocks content)
got_told address phase blocks None are = tt
got_told address phase blocks (Some content) are = cond_both (nat_le 3 phase) (joint_in blocks content) (single_in address content)
    IsTold (λ on. joint_told blocks content are) (λ off. single_told address content are)

-- WHAT IS KEPT after any calls
processed : (d : DriveView) (rate : ℕ) (told : Option Told) (past : List Moment) → IsTold told → IsStore (blocks_in d past) → IfSome (processed_at d rate told past) (λ t. IsRecord t × (t.blocks ≡ blocks_in d past))
processed d rate None past is store = tt
processed d rate (Some told) past is store = elim (cases_Bool (has_mst past && nat_le 2 (phase_in past))) [
  | inl on ↦ rw on (record { blocks = store; element = is.0; word = is.1 }, refl)
  | inr off ↦ rw off tt
]

after_record : (d : DriveView) (past : List Moment) (o : Option Processed) → Keeps d past → AreThose (blocks_in d past) (records_in past) → IfSome o (λ t. IsRecord t × (t.blocks ≡ blocks_in d past)) →
    IsStore (blocks_after o (records_in past) (blocks_in d past)) × AreRecords (with_record o (records_in past))
after_record d past None keeps those is = (keeps.store, keeps.records)
after_record d past (Some t) keeps those is = (
  blocks_stay (added_on t (records_in past)) t.commands t.phase t.blocks is.0.blocks (allowed t (records_in past) (subst (λ (b : List Block). AreThose b (records_in past)) (sym is.1) those))
      (added_bytes t (records_in past) is.0.word keeps.records),
  (is.0, keeps.records),
)

pub keeps_typed : (d : DriveView) (rate : ℕ) (h : List DriveCall) → IsStore (store_of d) → AreHeard h → Keeps d (annals d rate h)
keeps_typed d rate [] store are = record { store = store; records = tt }
keeps_typed d rate (Mst cycle content ∷ h) store are =
    let before = keeps_typed d rate h store are in
    record {
      store = before.store;
      records = cond_both ((stands_in d rate cycle (mst_got content) (annals d rate h)) == 0) []
          (records_in (annals d rate h)) AreRecords (λ on. tt) (λ off. before.records);
    }
keeps_typed d rate (Mdt content ∷ h) store are =
    let before = keeps_typed d rate h store are.1 in
    let told : Option Told = mdt_got d.address (phase_in (annals d rate h)) (blocks_in d (annals d rate h)) content in
    let after = after_record d (annals d rate h) (processed_at d rate told (annals d rate h)) before (handed_those d rate h)
    (processed d rate told (annals d rate h) (got_told d.address (phase_in (annals d rate h)) (blocks_in d (annals d rate h)) content are.0) before.store) in
    record { store = after.0; records = cond_both ((ends_in told (annals d rate h)) == 0) [] _ AreRecords (λ on. tt) (λ off. after.1) }
keeps_typed d rate (DriveRestart ∷ h) store are = record { store = (keeps_typed d rate h store are).store; records = tt }

-- a drive of a typed ring
pub drive_keeps : (r : RingView) → is_ring r ≡ true → AreTyped r → (k : ℕ) → k < length r.drives → (h : List DriveCall) → AreHeard h → Keeps (drive_at r k) (annals (drive_at r k) r.rate h)
drive_keeps r valid typed k below h are =
    let (others, is) = drive_so [] r.drives k no_drive (drives_so r valid) below in
    keeps_typed (drive_at r k) r.rate h (opened others (drive_at r k) is (typed k below)) are
