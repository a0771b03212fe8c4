-- The slots of a cycle are those of the telegrams that are sent in it.
use Rattle.sercos_law_run.proofs.Words.{IsSending, MdtSlot, ◌≡◌, ◌≢◌, ℕ, zero, suc, ◌<◌, ◌==◌, List, [], ◌∷◌, ◌++◌, length, slice_index, slice_index_or, refl, sym, ◌∙◌, ap, subst, arith, All, filter, position_or_len, eq-eqb, ne_eqb, All-cons, All-nil, All-push, Kind, Wish, WishesView, no_wish, AreDistinct, addresses, IsValid, AtSlot, SentView, is_mdt, bit_time, at_slot, mdt_slot, IsInCycleBy, IsInCycle, IsAtOf, AreAtsOf, SendsSlots, ◌*◌, Option, PlanView, Held, AreOnPlan, StartOnPlan}
use Rattle.sercos_telegram.specs.declared.layout.Kind.TheVariants.{Mdt}
use Rattle.sercos_telegram.specs.Kinds.{is_mst}
use Rattle.sercos_law_run.specs.Slots.Sending.{place_of, ats_in}

-- the place of an address is that of its drive
pub address_at : (ds : List Wish) (k : ℕ) → k < length ds → slice_index (addresses ds) k ≡ (slice_index_or ds k no_wish).address
address_at [] k in' = absurd (omega arith)
address_at (d ∷ ds) zero in' = refl
address_at (d ∷ ds) (suc k) in' = address_at ds k (omega arith)

length_addresses : (ds : List Wish) → length (addresses ds) ≡ length ds
length_addresses [] = refl
length_addresses (d ∷ ds) = ap suc (length_addresses ds)

pub place_by : (ds : List Wish) (k : ℕ) → AreDistinct (addresses ds) → k < length ds → position_or_len (λ (d : Wish). d.address == (slice_index_or ds k no_wish).address) ds ≡ k
place_by [] k apart in' = absurd (omega arith)
place_by (d ∷ ds) zero apart in' = rw (eq-eqb d.address d.address refl) refl
place_by (d ∷ ds) (suc k) apart in' =
    let count = length_addresses ds in
    let other : d.address ≢ (slice_index_or ds k no_wish).address =
    λ e. apart 0 (suc k) (omega arith) (omega arith) (e ∙ sym (address_at ds k (omega arith))) in
    let rest = place_by ds k (λ i j less below. apart (suc i) (suc j) (omega arith) (omega arith)) (omega arith) in
    rw (ne_eqb d.address (slice_index_or ds k no_wish).address other, rest) (omega arith)

-- one AT
at_of : (w : WishesView) (s : SentView) (a : AtSlot) → IsValid w → IsAtOf w s a → at_slot w s ≡ a
at_of w s a valid h = rw (ap (place_of w) h.3 ∙ place_by w.drives a.drive valid.drives.apart h.4, ap bit_time h.1, h.2) refl

-- what there is among the ATs and the MDT
ats_of : (w : WishesView) (sent : List SentView) (ats : List AtSlot) (last : SentView) → IsValid w → AreAtsOf w sent ats → last.kind ≡ Mdt
    → (ats_in w (sent ++ last ∷ []) ≡ ats) × (filter (λ (s : SentView). is_mst s.kind) (sent ++ last ∷ []) ≡ []) × (filter (λ (s : SentView). is_mdt s.kind) (sent ++ last ∷ []) ≡ last ∷ []) × (All IsInCycle sent)
ats_of w [] [] last valid are kind = (rw kind refl, rw kind refl, rw kind refl, All-nil IsInCycle)
ats_of w [] (a ∷ ats) last valid are kind = absurd are
ats_of w (s ∷ sent) [] last valid are kind = absurd are
ats_of w (s ∷ sent) (a ∷ ats) last valid are kind =
    let (more, none, one, cycle) = ats_of w sent ats last valid are.1 kind in
    let at = are.0.0 in
    let P : Kind → Type 0 = λ k. IsInCycleBy k s.start s.bits in
    (rw (at, at_of w s a valid are.0, more) refl, rw (at, none) refl, rw (at, one) refl, All-cons IsInCycle s sent (subst P (sym at) (a.start, are.0.1)) cycle)

pub sends_slots : SendsSlots
sends_slots w held ats mdt mst sent last valid is apart =
    let (are, none, one, cycle) = ats_of w sent ats last valid is.are_ats is.mdt_kind in
    let slot : mdt_slot mdt.records last ≡ mdt = rw ((ap bit_time is.mdt_start), is.mdt_bits) refl in
    let at_mst : ats_in w (mst ∷ (sent ++ last ∷ [])) ≡ ats = rw is.mst_kind are in
    let P : Kind → Type 0 = λ k. IsInCycleBy k mst.start mst.bits in
    let Q : Kind → Type 0 = λ k. IsInCycleBy k last.start last.bits in
    record {
      in_cycle = All-cons IsInCycle mst (sent ++ last ∷ []) (subst P (sym is.mst_kind) is.mst_end) (All-push IsInCycle sent last cycle (subst Q (sym is.mdt_kind) (mdt.start, is.mdt_start)));
      mst = mst;
      one_mst = rw (is.mst_kind, none) refl;
      mdt = last;
      one_mdt = rw is.mst_kind one;
      content = is.mdt_is;
      apart = rw (at_mst, slot) apart;
    }

-- so what is sent in slots on a plan starts by it
pub starts_on_plan : (w : WishesView) (p : PlanView) (held : ℕ → Option Held) (ats : List AtSlot) (mdt : MdtSlot) (mst : SentView) (sent : List SentView) (last : SentView)
    → IsValid w → IsSending w ats mdt mst sent last → AreOnPlan w p held ats mdt → StartOnPlan w p (mst ∷ (sent ++ last ∷ []))
starts_on_plan w p held ats mdt mst sent last valid is on =
    let (are, none, one, cycle) = ats_of w sent ats last valid is.are_ats is.mdt_kind in
    let at_mst : ats_in w (mst ∷ (sent ++ last ∷ [])) ≡ ats = rw is.mst_kind are in
    let one_mdt : filter (λ (s : SentView). is_mdt s.kind) (mst ∷ (sent ++ last ∷ [])) ≡ last ∷ [] = rw is.mst_kind one in
    let A : AtSlot → Type 0 = λ s. s.start ≡ w.rate * slice_index p.t1 s.drive in
    let M : SentView → Type 0 = λ s. bit_time s.start ≡ w.rate * p.t2 in
    record {
      ats = subst (λ (l : List AtSlot). All A l) (sym at_mst) (λ i d inside.
          let (h, got, start) = on.starts i d inside in
          start ∙ ap (λ (x : Held). w.rate * x.t1) (on.holds (slice_index_or ats i d).drive h (on.drives i d inside) got));
      mdt = subst (λ (l : List SentView). All M l) (sym one_mdt) (All-cons M last [] (ap bit_time is.mdt_start ∙ on.mdt_start) (All-nil M));
    }
