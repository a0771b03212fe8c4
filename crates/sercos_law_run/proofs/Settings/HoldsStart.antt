-- If the check for phase 3 has been begun, a drive's store holds the start-up values of the plan.
use Rattle.sercos_law_run.proofs.Words.{◌≡◌, ℕ, zero, suc, List, [], ◌∷◌, map, refl, sym, ap, ◌∙◌, subst, Option, Some, None, option_map, unwrap_or, slice_get, slice_get_within, Attribute, Idn, PlanView, Block, find_block, data_at, get_map, Known, writes, Holds, IsProtectedLater, AreProtectedLater, AreStoredWhole, View, epoch_begun, AreSound, AreSmall, store_in, is_plain, StaysWritten, start_numbers, IsWrittenLast, holds_newest, IsViewRun, Request}
use Rattle.sercos_law_run.specs.Start.Held.{written_by}
use Rattle.sercos_law_run.proofs.Agenda.WritesDone.{writes_data}
use Rattle.sercos_law_run.proofs.Held.Agreed.{whole_at, holds_by, all_at}

protected_at : (blocks : List Block) (values : List (ℕ × List ℕ)) (i : ℕ) (v : ℕ × List ℕ) → AreProtectedLater blocks values → slice_get values i ≡ Some v → IsProtectedLater blocks v.0
protected_at blocks [] i v are got = absurd (cc)
protected_at blocks (x ∷ values) zero v are got = let same : x ≡ v = cc in subst (λ (y : ℕ × List ℕ). IsProtectedLater blocks y.0) same are.0
protected_at blocks (x ∷ values) (suc i) v are got = protected_at blocks values i v are.1 got

found_there : (o : Option Block) (a : Attribute) → option_map (λ (b : Block). b.attribute) o ≡ Some a → (b : Block) × (o ≡ Some b)
found_there None a has = absurd (cc)
found_there (Some b) a has = (b, refl)

module _ (busy : ℕ) (stays : StaysWritten busy) (s : Known) (plan : PlanView) (k : ℕ) (blocks : List Block) (small : AreSmall blocks)
    (protected : AreProtectedLater blocks (map written_by (writes s plan k)))
    (whole : AreStoredWhole blocks (map written_by (writes s plan k))) (past : List View) (run : IsViewRun busy past)
    (sound : AreSound blocks past)
    (each : (i : ℕ) (idn : Idn) (bytes : List ℕ) → slice_get (writes s plan k) i ≡ Some (Request.Write idn 7 bytes) → IsWrittenLast blocks (epoch_begun past) idn bytes)
  where
    -- a value that was written
    held_one : (i : ℕ) (idn : Idn) (bytes : List ℕ) → slice_get (writes s plan k) i ≡ Some (Request.Write idn 7 bytes) → slice_get start_numbers i ≡ Some idn.raw → data_at (store_in blocks past) idn.raw ≡ bytes
    held_one i idn bytes there number =
        let got : slice_get (map written_by (writes s plan k)) i ≡ Some (idn.raw, bytes) = get_map written_by (writes s plan k) i ∙ ap (option_map written_by) there in
        let (a, has, second, third, fourth) = protected_at blocks (map written_by (writes s plan k)) i (idn.raw, bytes) protected got in
        let (b, found) = found_there (find_block idn.raw blocks) a has in
        let last = each i idn bytes there in
        holds_newest blocks past idn.raw b (all_at is_plain start_numbers i idn.raw refl number) found
        ∙ ap (λ (o : Option (List ℕ)). unwrap_or o b.value) (stays blocks past last.newer last.older last.one idn bytes last.whole b small run sound last.split last.asks last.complete found last.away)
        ∙ whole_at blocks (map written_by (writes s plan k)) i (idn.raw, bytes) whole got b found

    -- THE STORE holds all of them
    pub holds_start : Holds (store_in blocks past) (map written_by (writes s plan k))
    holds_start = holds_by (store_in blocks past) (map written_by (writes s plan k)) (λ i v got.
        let (idn, bytes, there, number) = writes_data s plan k i (slice_get_within (map written_by (writes s plan k)) i v got) in
        let same : Some (idn.raw, bytes) ≡ Some v = sym (get_map written_by (writes s plan k) i ∙ ap (option_map written_by) there) ∙ got in
        let one : ◌≡◌ {A = ℕ × List ℕ} (idn.raw, bytes) v = ap (λ (o : Option (ℕ × List ℕ)). unwrap_or o v) same in
        subst (λ (x : ℕ × List ℕ). data_at (store_in blocks past) x.0 ≡ x.1) one (held_one i idn bytes there number))
