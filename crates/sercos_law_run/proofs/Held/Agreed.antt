-- A drive that holds the plan agrees with the MDT that the master lays.
use Rattle.sercos_law_run.proofs.Words.{◌≡◌, ℕ, zero, suc, ◌+◌, ◌<◌, true, List, [], ◌∷◌, map, length, take, Option, Some, None, refl, sym, ap, ◌∙◌, subst, arith, ◌==◌, slice_index, slice_get, unwrap_or, is_some, concat, slice_get_within, Request, WishesView, PlanView, IsValid, Fits, positions, record_bytes, Wish, Block, is_ring, record_len, is_built_in, has_block, blocks_fault, find_block, store_of, DriveView, RingView, length_wishes, data_at, number_at, carried_len, Held, held_of, wishes_given, writes, Known, known_of, IsStoreOf, start_up, Holds, held_in, AreStoredWhole, Past, outcomes, records_from, stored, View, all_writes, store_in, is_plain, start_numbers, AreHeld, holds_newest, wishes_of, cases_Bool, inl, inr, some_there}
use Rattle.sercos_law_run.proofs.Slots.Places.{record_place_is, length_records}
use Rattle.sercos_law_run.specs.Start.Held.{written_by}
use Rattle.sercos_law_run.proofs.Start.PlanNumbers.{HasNumbers, has_numbers}
use Rattle.sercos_law_run.proofs.Start.CheckPasses.{wish_is}
use Rattle.sercos_law_run.proofs.Start.LaterLemmas.{has_of}
use Rattle.sercos_law_run.proofs.Views.Members.{members_count}
use Rattle.sercos_law_run.proofs.Views.Received.{Agrees}
use Rattle.sercos_law_run.proofs.Held.HoldsRuns.{held_at}
use Rattle.sercos_law_run.proofs.Held.Laid.{records_of, records_concat, records_take, records_lengths}
use Rattle.sercos_law_run.proofs.Agenda.WritesDone.{writes_data}
use Rattle.sercos_law_run.proofs.Start.HeldLemmas.{holds_plan, writes_start_up}
use Rattle.sercos_law_run.proofs.Start.LaterLemmas.{stores_start_up_whole}
use Rattle.sercos_law_run.proofs.Start.Lengths.{are_as_long}
use Rattle.sercos_law_run.proofs.Agenda.AgendaTasks.{mapped}
pub use Rattle.sercos_law_channel.proofs.Options.{all_at}

-- a place of the ring has a wish
pub wishes_count : (r : RingView) → length (wishes_of r).drives ≡ length r.drives
unfolding wishes_of
wishes_count r = length_wishes r.drives

pub agrees_so : (r : RingView) (p : Past) (plan : PlanView) (k : ℕ) (d : DriveView) (blocks : List Block) → IsValid (wishes_of r)
    → Fits (wishes_of r) plan → k < length r.drives → slice_get r.drives k ≡ Some d → blocks_fault [] d.blocks ≡ None → IsStoreOf d blocks
    → Holds blocks (start_up r.control r.cycle plan k d.at d.mdt) → wishes_given (known_of r) (outcomes p) ≡ wishes_of r
    → Agrees (known_of r) p k blocks
agrees_so r p plan k d blocks valid fits below at rules stored_so holds same =
    let s : Known = known_of r in
    let n = length s.drives in
    let drives : List Wish = (wishes_of r).drives in
    let count = members_count r in
    let wide = wishes_count r in
    let held : held_in blocks ≡ held_of plan k = holds_plan r plan k d blocks valid fits at holds in
    let position : number_at blocks 9 ≡ slice_index plan.position k = ap (λ (h : Held). h.position) held in
    let mdt_len : number_at blocks 10 ≡ plan.mdt_len = ap (λ (h : Held). h.mdt_len) held in
    let lengths : map length (records_of s p 0 n) ≡ map (λ (w : Wish). w.record_len) drives = records_lengths s p ∙ ap (λ (w : WishesView). map (λ (x : Wish). x.record_len) w.drives) same in
    let there : slice_index plan.position k ≡ slice_index (positions 1 drives) k = ap (λ (l : List ℕ). slice_index l k) fits.rule_12.0 in
    let laid : 1 + length (concat (take k (records_of s p 0 n))) ≡ slice_index (positions 1 drives) k = record_place_is 1 (records_of s p 0 n) drives k lengths (omega (arith, below, wide)) in
    let before : concat (take k (records_of s p 0 n)) ≡ records_from s p 0 k = ap concat (records_take s p 0 k n (omega (arith, below, count))) ∙ records_concat s p 0 k in
    let first : length (concat (take k (records_of s p 0 n))) ≡ length (records_from s p 0 k) = ap (λ (l : List ℕ). length l) before in
    let whole : length (records_from s p 0 n) ≡ record_bytes drives = ap (λ (l : List ℕ). length l) (sym (records_concat s p 0 n)) ∙ length_records (records_of s p 0 n) drives lengths in
    let numbers : HasNumbers (wishes_of r) plan k = has_numbers (wishes_of r) plan k valid fits (omega (arith, below, wide)) in
    let carried : carried_len blocks 24 ≡ record_len d = (are_as_long d blocks rules stored_so).1 holds.1.1.1.1.1.1.1.1.1.0 in
    record {
      place = position ∙ there ∙ sym laid ∙ ap (λ (m : ℕ). 1 + m) first;
      within = omega (arith, numbers.record_end, ap (λ (w : Wish). w.record_len) (wish_is r k d at), carried, position, mdt_len);
      long = mdt_len ∙ fits.rule_12.1 ∙ sym whole;
    }

-- WHAT A DRIVE HOLDS by its writes, its store holds.
-- a block with the number is found
has_some : (raw : ℕ) (blocks : List Block) → has_block raw blocks ≡ true → is_some (find_block raw blocks) ≡ true
has_some raw [] has = cc
has_some raw (b ∷ blocks) has =
    elim (cases_Bool (b.idn.raw == raw)) [ inl on ↦ rw on | inr off ↦ rw off (has_some raw blocks (rw off at has)) ]

-- the data of each value, by its place
pub holds_by : (blocks : List Block) (values : List (ℕ × List ℕ)) → ((i : ℕ) (v : ℕ × List ℕ) → slice_get values i ≡ Some v → data_at blocks v.0 ≡ v.1) → Holds blocks values
holds_by blocks [] each = tt
holds_by blocks (v ∷ values) each = (each 0 v refl, holds_by blocks values (λ i x got. each (suc i) x got))

pub whole_at : (blocks : List Block) (values : List (ℕ × List ℕ)) (i : ℕ) (v : ℕ × List ℕ) → AreStoredWhole blocks values → slice_get values i ≡ Some v → (b : Block) → find_block v.0 blocks ≡ Some b → stored b v.1 ≡ v.1
whole_at blocks [] i v whole got b found = absurd (cc)
whole_at blocks (x ∷ values) zero v whole got b found = let same : x ≡ v = cc in subst (λ (y : ℕ × List ℕ). stored b y.1 ≡ y.1) same (whole.0 b (ap (λ (y : ℕ × List ℕ). find_block y.0 blocks) same ∙ found))
whole_at blocks (x ∷ values) (suc i) v whole got b found = whole_at blocks values i v whole.1 got b found

pub held_holds : (r : RingView) (plan : PlanView) (k : ℕ) (d : DriveView) (views : List View) → is_ring r ≡ true → IsValid (wishes_of r)
    → Fits (wishes_of r) plan → slice_get r.drives k ≡ Some d → blocks_fault [] d.blocks ≡ None
    → AreHeld (store_of d) (all_writes views) (writes (known_of r) plan k)
    → Holds (store_in (store_of d) views) (start_up r.control r.cycle plan k d.at d.mdt)
held_holds r plan k d views valid_ring valid fits at rules held =
    subst (λ (l : List (ℕ × List ℕ)). Holds (store_in (store_of d) views) l) same (holds_by (store_in (store_of d) views) (map written_by (writes (known_of r) plan k)) each)
  where
    same : map written_by (writes (known_of r) plan k) ≡ start_up r.control r.cycle plan k d.at d.mdt
    same = writes_start_up r plan k d valid_ring valid fits at

    each : (i : ℕ) (v : ℕ × List ℕ) → slice_get (map written_by (writes (known_of r) plan k)) i ≡ Some v → data_at (store_in (store_of d) views) v.0 ≡ v.1
    each i v got =
        let (q, there, is) = mapped written_by (writes (known_of r) plan k) i v got in
        let (w, bytes, write, number) = writes_data (known_of r) plan k i (slice_get_within (writes (known_of r) plan k) i q there) in
        let one : q ≡ Request.Write w 7 bytes = cc in
        let pair : v ≡ (w.raw, bytes) = is ∙ ap written_by one in
        let (b, found) = some_there (find_block w.raw (store_of d))
        (has_some w.raw (store_of d) (has_of w.raw d (store_of d) refl (all_at is_built_in start_numbers i w.raw refl number))) in
        let holding : data_at (store_in (store_of d) views) w.raw ≡ stored b bytes =
        holds_newest (store_of d) views w.raw b (all_at is_plain start_numbers i w.raw refl number) found
        ∙ ap (λ (o : Option (List ℕ)). unwrap_or o b.value) (held_at (store_of d) (all_writes views) (writes (known_of r) plan k) i (Request.Write w 7 bytes) held write b found) in
        let kept : stored b bytes ≡ bytes = whole_at (store_of d) (start_up r.control r.cycle plan k d.at d.mdt) i (w.raw, bytes) (stores_start_up_whole d (store_of d) r.control r.cycle k plan rules refl)
        (ap (λ (l : List (ℕ × List ℕ)). slice_get l i) (sym same) ∙ got ∙ ap (λ (x : ℕ × List ℕ). Some x) pair) b found in
        subst (λ (x : ℕ × List ℕ). data_at (store_in (store_of d) views) x.0 ≡ x.1) (sym pair) (holding ∙ kept)
