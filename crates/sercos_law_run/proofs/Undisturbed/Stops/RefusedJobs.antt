-- Of the requests of phase 2 a drive can refuse the write of the cycle time alone.
use Rattle.sercos_law_run.proofs.Words.{◌≡◌, ◌⊎◌, inl, inr, ℕ, zero, suc, ◌+◌, ◌<◌, ◌≤◌, true, false, List, [], ◌∷◌, ◌++◌, ◌-◌, length, map, Option, Some, None, refl, sym, ap, ◌∙◌, subst, arith, ◌==◌, is_some, option_map, slice_get, slice_index, option_or, and_parts, cases_lt, false≢true, same_Some, Code, Idn, Request, bytes_in, PlanView, built_in_block, row, cyclic_len, blocks_fault, find_block, store_of, DriveView, Block, Zero, CycleTime, Empty, idn, declared_times, reads, reads_count, writes, writes_word, writes_list, Known, MemberView, member, member_of, write_cause_in, Allows, AreSmall, IsTransfer, is_start_number, jobs_of, says_shape, attribute_of, built_in, are_cyclic, cases_Option}
use Rattle.sercos_law_run.proofs.Start.BlockFinds.{find_store_of, carry_alike}
use Rattle.sercos_law_run.proofs.Agenda.AgendaTasks.{IsIn, First, After, is_in, mapped}
use Rattle.sercos_law_run.proofs.Agenda.StopCauses.{element_asked}
use Rattle.sercos_law_run.proofs.Held.AnsweredRuns.{Time, Attribute, is_read_request}
use Rattle.sercos_law_run.proofs.Undisturbed.JobPlaces.{reading, later}
use Rattle.sercos_law_run.proofs.Undisturbed.Stops.RefusedSteps.{IsCaused, write_caused, always_3, data_reads_well, reads_well, command_well}
use Rattle.sercos_law_run.proofs.Undisturbed.Stops.RefusedCauses.{number_free, cycle_refused, list_free, check_free_3, check_3, allows_3, found_3}
use Rattle.sercos_law_run.proofs.Undisturbed.Stops.RefusedRuns.{IsRefused, IsCycle}
use Rattle.sercos_law_run.proofs.Undisturbed.Arriving.Small.{never_both}

-- the blocks of the start-up's writes
abbrev number_block : DriveView → ℕ → Block
number_block d raw = built_in_block d (row raw 0x60110001 false Zero)

abbrev cycle_block : DriveView → Block
cycle_block d = built_in_block d (row 2 0x60110001 false CycleTime)

abbrev list_block : DriveView → ℕ → Block
list_block d raw = built_in_block d (row raw 0x60550001 false (Empty 32))

cyclic_at : (blocks : List Block) (idns : List Idn) (j : ℕ) (i : Idn) → are_cyclic blocks idns ≡ true → slice_get idns j ≡ Some i → is_some (cyclic_len blocks i.raw) ≡ true
unfolding are_cyclic
cyclic_at blocks [] j i are got = absurd (cc)
cyclic_at blocks (x ∷ idns) zero i are got = let same : x ≡ i = cc in subst (λ (y : Idn). is_some (cyclic_len blocks y.raw) ≡ true) same (and_parts (is_some (cyclic_len blocks x.raw)) _ are).0
cyclic_at blocks (x ∷ idns) (suc j) i are got = cyclic_at blocks idns j i (and_parts (is_some (cyclic_len blocks x.raw)) _ are).1 got

cyclic_append : (blocks : List Block) (xs ys : List Idn) → are_cyclic blocks xs ≡ true → are_cyclic blocks ys ≡ true → are_cyclic blocks (xs ++ ys) ≡ true
unfolding are_cyclic
cyclic_append blocks [] ys first second = second
cyclic_append blocks (x ∷ xs) ys first second = let parts = and_parts (is_some (cyclic_len blocks x.raw)) _ first in rw parts.0 (cyclic_append blocks xs ys parts.1 second)

module _ (d : DriveView) (rules : blocks_fault [] d.blocks ≡ None) (small : AreSmall (store_of d)) (at : are_cyclic d.blocks d.at ≡ true)
    (mdt : are_cyclic d.blocks d.mdt ≡ true) (few_at : length d.at ≤ 16) (few_mdt : length d.mdt ≤ 16) (s : Known) (k : ℕ)
    (member_so : member s k ≡ member_of d) (cycle_small : s.cycle < 65536) (code : Code) where
  -- A READ is never refused.
  pub found_time : (raw : ℕ) → option_map (λ (b : Block). b.step) (find_block raw (built_in d)) ≡ Some 0 → (b : Block) × (find_block raw (store_of d) ≡ Some b)
  found_time raw built = elim (cases_Option (find_block raw (built_in d))) [
    | inl is ↦ let none = rw is at built in absurd (cc)
    | inr (b, is) ↦ (b, find_store_of raw d rules ∙ ap (λ (o : Option Block). option_or o (find_block raw d.blocks)) is)
  ]

  found_cyclic : (i : Idn) → is_some (cyclic_len d.blocks i.raw) ≡ true → (b : Block) × (find_block i.raw (store_of d) ≡ Some b)
  found_cyclic i cyclic = elim (cases_Option (find_block i.raw (store_of d))) [
    | inl is ↦ absurd (false≢true (rw is at (ap (λ (o : Option ℕ). is_some o) (carry_alike d (store_of d) rules refl i.raw) ∙ cyclic)))
    | inr (b, is) ↦ (b, is)
  ]

  read_never : (n : ℕ) (q : Request) → slice_get (reads (member s k)) n ≡ Some q → IsRefused d q code 2 → ⊥
  read_never n q got ref = elim (is_read_request (member s k) n q got) [
    | Time raw built same ↦
        let b = found_time raw (built d) in
        never_both ref.e.answer.error ref.error (data_reads_well (idn raw) b.0 (store_of d) b.1 ref.e ref.entries ref.log (subst (λ (x : Request). IsTransfer x (store_of d) ref.e ref.entries ref.log) same ref.transfer))
    | Attribute i same ↦ attribute (is_in (map (λ raw. Request.Read (idn raw) 7) declared_times) (map (λ i. Request.Read i 3) ((member s k).at ++ (member s k).mdt)) n q got) i same
  ]
    where
      attribute : IsIn (map (λ raw. Request.Read (idn raw) 7) declared_times) (map (λ i. Request.Read i 3) ((member s k).at ++ (member s k).mdt)) n q → (i : Idn) → q ≡ Request.Read i 3 → ⊥
      attribute (First less is) i same =
          let f = mapped (λ raw. Request.Read (idn raw) 7) declared_times n q is in
          let e : 7 ≡ 3 = sym (ap element_asked f.2) ∙ ap element_asked same in omega (arith, e)
      attribute (After j place is) i same =
          let f = mapped (λ i. Request.Read i 3) ((member s k).at ++ (member s k).mdt) j q is in
          let there : slice_get (d.at ++ d.mdt) j ≡ Some f.0 = sym (ap (λ (m : MemberView). slice_get (m.at ++ m.mdt) j) member_so) ∙ f.1 in
          let b = found_cyclic f.0 (cyclic_at d.blocks (d.at ++ d.mdt) j f.0 (cyclic_append d.blocks d.at d.mdt at mdt) there) in
          never_both ref.e.answer.error ref.error (reads_well f.0 3 b.0 (store_of d) b.1 refl always_3 ref.e ref.entries ref.log
          (subst (λ (x : Request). IsTransfer x (store_of d) ref.e ref.entries ref.log) f.2 ref.transfer))

  -- A WRITE
  caused_by : (raw : ℕ) (bytes : List ℕ) (b : Block) (q : Request) → find_block raw (store_of d) ≡ Some b → q ≡ Request.Write (idn raw) 7 bytes → (ref : IsRefused d q code 2) → IsCaused (idn raw) bytes b ref.e
  caused_by raw bytes b q found same ref =
      write_caused (idn raw) bytes b (says_shape b (small raw b found)) (store_of d) found ref.e ref.entries ref.log (subst (λ (x : Request). IsTransfer x (store_of d) ref.e ref.entries ref.log) same ref.transfer) ref.error

  number_never : (raw value : ℕ) (q : Request) → find_block raw (store_of d) ≡ Some (number_block d raw) → is_start_number raw ≡ true → q ≡ writes_word raw value → (ref : IsRefused d q code 2) → ref.e.processed.phase ≡ 2 → IsCycle d s.cycle q code
  unfolding attribute_of
  number_never raw value q found start same ref two =
      absurd (number_free d rules ref.e ref.stored raw value (number_block d raw) two refl start (caused_by raw (bytes_in (value ∷ [])) (number_block d raw) q found same ref))

  cycle_is : (q : Request) → find_block 2 (store_of d) ≡ Some (cycle_block d) → q ≡ writes_word 2 s.cycle → (ref : IsRefused d q code 2) → ref.e.processed.phase ≡ 2 → IsCycle d s.cycle q code
  unfolding attribute_of
  cycle_is q found same ref two = record {
    asks = same;
    limit = elim (cycle_refused d rules ref.e ref.stored s.cycle (cycle_block d) cycle_small two refl (caused_by 2 (bytes_in (s.cycle ∷ [])) (cycle_block d) q found same ref)) [
      | inl (low, is) ↦ inl (low, sym ref.code_is ∙ is)
      | inr (high, is) ↦ inr (high, sym ref.code_is ∙ is)
    ];
  }

  list_never : (raw : ℕ) (idns : List Idn) (q : Request) → find_block raw (store_of d) ≡ Some (list_block d raw) → ((raw == 16) ≡ true) ⊎ ((raw == 24) ≡ true) → length idns ≤ 16 → q ≡ writes_list raw idns → (ref : IsRefused d q code 2) → ref.e.processed.phase ≡ 2 → IsCycle d s.cycle q code
  unfolding attribute_of
  list_never raw idns q found which few same ref two =
      absurd (list_free d rules ref.e ref.stored raw idns (list_block d raw) two refl which few (caused_by raw (bytes_in (map (λ i. i.raw) idns)) (list_block d raw) q found same ref))

  write_is : (p : PlanView) (i : ℕ) (q : Request) → slice_get (writes s p k) i ≡ Some q → (ref : IsRefused d q code 2) → ref.e.processed.phase ≡ 2 → IsCycle d s.cycle q code
  unfolding built_in
  write_is p zero q got ref two = number_never 1 s.control q (find_store_of 1 d rules) refl (sym (same_Some _ q got)) ref two
  write_is p (suc zero) q got ref two = cycle_is q (find_store_of 2 d rules) (sym (same_Some _ q got)) ref two
  write_is p (suc (suc zero)) q got ref two = number_never 6 (slice_index p.t1 k) q (find_store_of 6 d rules) refl (sym (same_Some _ q got)) ref two
  write_is p (suc (suc (suc zero))) q got ref two = number_never 7 p.t4 q (find_store_of 7 d rules) refl (sym (same_Some _ q got)) ref two
  write_is p (suc (suc (suc (suc zero)))) q got ref two = number_never 8 p.t3 q (find_store_of 8 d rules) refl (sym (same_Some _ q got)) ref two
  write_is p (suc (suc (suc (suc (suc zero))))) q got ref two = number_never 9 (slice_index p.position k) q (find_store_of 9 d rules) refl (sym (same_Some _ q got)) ref two
  write_is p (suc (suc (suc (suc (suc (suc zero)))))) q got ref two = number_never 10 p.mdt_len q (find_store_of 10 d rules) refl (sym (same_Some _ q got)) ref two
  write_is p (suc (suc (suc (suc (suc (suc (suc zero))))))) q got ref two = number_never 15 7 q (find_store_of 15 d rules) refl (sym (same_Some _ q got)) ref two
  write_is p (suc (suc (suc (suc (suc (suc (suc (suc zero)))))))) q got ref two = list_never 16 (member s k).at q (find_store_of 16 d rules)
      (inl refl) (subst (λ (m : MemberView). length m.at ≤ 16) (sym member_so) few_at) (sym (same_Some _ q got)) ref two
  write_is p (suc (suc (suc (suc (suc (suc (suc (suc (suc zero))))))))) q got ref two = list_never 24 (member s k).mdt q
      (find_store_of 24 d rules) (inr refl) (subst (λ (m : MemberView). length m.mdt ≤ 16) (sym member_so) few_mdt)
      (sym (same_Some _ q got)) ref two
  write_is p (suc (suc (suc (suc (suc (suc (suc (suc (suc (suc zero)))))))))) q got ref two = number_never 89 p.t2 q (find_store_of 89 d rules) refl (sym (same_Some _ q got)) ref two
  write_is p (suc (suc (suc (suc (suc (suc (suc (suc (suc (suc (suc i))))))))))) q got ref two = absurd (cc)

  -- THE CHECK is never refused.
  check_never : (q : Request) → q ≡ Request.Command (idn 127) → (ref : IsRefused d q code 2) → ref.e.processed.phase ≡ 2 → ⊥
  unfolding attribute_of
  check_never q same ref two =
      never_both ref.e.answer.error ref.error
      (command_well (idn 127) (check_3 d) (store_of d) (found_3 d rules) refl ref.e ref.entries ref.log (subst (λ (x : Request). IsTransfer x (store_of d) ref.e ref.entries ref.log) same ref.transfer)
      (subst (λ (n : ℕ). Allows (check_3 d) n) (sym two) (allows_3 d)) (ap (λ (n : ℕ). write_cause_in (find_block 127 ref.e.processed.blocks) n true (3 ∷ [])) two ∙ check_free_3 d rules ref.e ref.stored))

  -- SO IT IS THE CYCLE TIME.
  pub refused_job : (plan : Option PlanView) (n : ℕ) (q : Request) → n < reads_count (member s k) + 12 → slice_get (jobs_of s plan k) n ≡ Some q → (ref : IsRefused d q code 2) → ref.e.processed.phase ≡ 2 → IsCycle d s.cycle q code
  refused_job plan n q less got ref two = elim (cases_lt n (reads_count (member s k))) [
    | inl early ↦ absurd (read_never n q (sym (reading s k plan n early) ∙ got) ref)
    | inr late ↦ by plan got
  ]
    where
      by : (o : Option PlanView) → slice_get (jobs_of s o k) n ≡ Some q → IsCycle d s.cycle q code
      by None there = absurd (read_never n q there ref)
      by (Some p) there = which (is_in (writes s p k) (Request.Command (idn 127) ∷ Request.Command (idn 128) ∷ Request.Read (idn 22) 7 ∷ []) (n - reads_count (member s k)) q
          (sym (later s k p n (n - reads_count (member s k)) (omega (arith, late_place))) ∙ there))
        where
          late_place : reads_count (member s k) ≤ n
          late_place = elim (cases_lt n (reads_count (member s k))) [
            | inl early ↦ absurd (read_never n q (sym (reading s k plan n early) ∙ got) ref)
            | inr late ↦ omega (arith, late)
          ]

          which : IsIn (writes s p k) (Request.Command (idn 127) ∷ Request.Command (idn 128) ∷ Request.Read (idn 22) 7 ∷ []) (n - reads_count (member s k)) q → IsCycle d s.cycle q code
          which (First low is) = write_is p (n - reads_count (member s k)) q is ref two
          which (After zero place is) = absurd (check_never q (sym (same_Some (Request.Command (idn 127)) q is)) ref two)
          which (After (suc j) place is) = absurd (omega (arith, place, less, late_place))
