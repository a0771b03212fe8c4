-- What a block of a drive keeps through a run: it is so at opening, and each accepted write and each list of a check leaves it so.
use Rattle.sercos_law_run.proofs.Words.{◌≡◌, ℕ, true, List, [], ◌∷◌, Option, Some, None, subst, arith, ◌==◌, IfSome, nat_tests, same_Some, find_block, with_data, store_of, put_fault, are_ascending, DriveView, Block, unfit_for_phase_3, unfit_for_phase_4, list_bytes, is_command, CommandHistory, Write, added_on, command_value, blocks_with, DriveCall, Mst, Mdt, mdt_got, phase_in, records_in, blocks_in, blocks_after, commands_in, annals, IsStoreOf, allowed, with_check_list, cases_Bool, inl, inr, DriveRestart}
use Rattle.sercos_law_run.proofs.Start.KeptLemmas.{writes_keep}
use Rattle.sercos_law_run.proofs.Held.Processed.{processed_keeps, taken_at}
use Rattle.sercos_law_run.proofs.Held.StoreOf.{store_of_so}
use Rattle.sercos_law_run.proofs.Cited.{handed_those}
use Rattle.sercos_law_run.proofs.Start.LaterLemmas.{after_check}

-- so it is of the block with this number
abbrev pub IsAt : ℕ → (Block → Type 0) → List Block → Type 0
IsAt n such blocks = (b : Block) → find_block n blocks ≡ Some b → such b

-- a write to another block leaves it, and one to it makes it what it writes
pub written_at : (n raw : ℕ) (bytes : List ℕ) (such : Block → Type 0) (blocks : List Block) → (raw ≡ n → (b : Block) → find_block n blocks ≡ Some b → such (record b { value = bytes })) → IsAt n such blocks → IsAt n such (with_data raw bytes blocks)
written_at n raw bytes such [] to_it is c found = absurd (cc)
written_at n raw bytes such (b ∷ blocks) to_it is c found = elim (cases_Bool (b.idn.raw == n)) [
  | inl of_n ↦ elim (cases_Bool (b.idn.raw == raw)) [
    | inl of_raw ↦
        let number : raw ≡ n = grind (arith, nat_tests, of_raw, of_n) in
        subst such (same_Some (record b { value = bytes }) c (rw (of_raw, of_n) at found)) (to_it number b (rw of_n))
    | inr of_raw ↦ subst such (same_Some b c (rw (of_raw, of_n) at found)) (is b (rw of_n))
  ]
  | inr of_n ↦
      let rest : IsAt n such (with_data raw bytes blocks) =
      written_at n raw bytes such blocks (λ same c found. to_it same c (rw of_n found)) (λ c found. is c (rw of_n found)) in
      elim (cases_Bool (b.idn.raw == raw)) [ inl is ↦ rest c (rw (is, of_n) at found) | inr is ↦ rest c (rw (is, of_n) at found) ]
]

-- It is so at opening, each accepted write to the block leaves it so, and the lists of the checks do.
pub record Stays (d : DriveView) (n : ℕ) (such : Block → Type 0) : Type 0 where
  pub first : IsAt n such (store_of d)
  pub write : (blocks : List Block) (phase : ℕ) (bytes : List ℕ) → IsStoreOf d blocks → put_fault (find_block n blocks) phase bytes ≡ None → (b : Block) → find_block n blocks ≡ Some b → such (record b { value = bytes })
  pub list_3 : (rate : ℕ) (blocks : List Block) → IsStoreOf d blocks → 21 ≡ n → (b : Block) → find_block n blocks ≡ Some b → such (record b { value = list_bytes (unfit_for_phase_3 rate blocks) })
  pub list_4 : (blocks : List Block) → IsStoreOf d blocks → 22 ≡ n → (b : Block) → find_block n blocks ≡ Some b → such (record b { value = list_bytes (unfit_for_phase_4 blocks) })

module _ (d : DriveView) (n : ℕ) (such : Block → Type 0) (stays : Stays d n such) where
  listed : (c : CommandHistory) (raw value : ℕ) (blocks : List Block) → IsStoreOf d blocks → IsAt n such blocks → IsAt n such (with_check_list c raw value blocks)
  listed c raw value blocks stored is = after_check c blocks raw value (IsAt n such) is
      (written_at n 21 (list_bytes (unfit_for_phase_3 c.rate blocks)) such blocks (stays.list_3 c.rate blocks stored) is)
      (λ two. written_at n 22 (list_bytes (unfit_for_phase_4 blocks)) such blocks (stays.list_4 blocks stored) is)

  next : (blocks : List Block) (o : Option Write) (c : CommandHistory) (phase : ℕ) → are_ascending blocks ≡ true → IsStoreOf d blocks → IfSome o (λ (w : Write). put_fault (find_block w.raw blocks) phase w.bytes ≡ None) → IsAt n such blocks → IsAt n such (blocks_with o c blocks)
  next blocks None c phase ascending stored allowed is = is
  next blocks (Some w) c phase ascending stored allowed is = elim (cases_Bool (is_command blocks w.raw)) [
    | inl on ↦ rw on (listed c w.raw (command_value w) (with_data w.raw w.bytes blocks) ((writes_keep d blocks w.raw phase w.bytes ascending stored).0 allowed) written)
    | inr off ↦ rw off written
  ]
    where
      written : IsAt n such (with_data w.raw w.bytes blocks)
      written = written_at n w.raw w.bytes such blocks (λ same b found. stays.write blocks phase w.bytes stored (subst (λ (m : ℕ). put_fault (find_block m blocks) phase w.bytes ≡ None) same allowed) b found) is

  -- SO IT IS whatever the drive is given.
  pub stays_at : (rate : ℕ) (h : List DriveCall) → are_ascending (store_of d) ≡ true → IsAt n such (blocks_in d (annals d rate h))
  stays_at rate [] ascending = stays.first
  stays_at rate (Mst cycle content ∷ h) ascending = stays_at rate h ascending
  stays_at rate (DriveRestart ∷ h) ascending = stays_at rate h ascending
  stays_at rate (Mdt content ∷ h) ascending =
      let past = annals d rate h in
      let before = store_of_so d rate h ascending in
      let is = stays_at rate h ascending in
      processed_keeps (λ o. IsAt n such (blocks_after o (records_in past) (blocks_in d past))) d rate
      (mdt_got d.address (phase_in past) (blocks_in d past) content) past is (λ t.
      let one = taken_at d rate past t in
      next (blocks_in d past) (added_on one (records_in past)) (commands_in d rate past) (phase_in past) before.1 before.0
      (allowed one (records_in past) (handed_those d rate h)) is)
