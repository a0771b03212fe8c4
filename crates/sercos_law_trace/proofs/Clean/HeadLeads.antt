-- The head of a trace passes a check of captures, and spells the wishes.
use Rattle.sercos_law_trace.proofs.Words.{◌≡◌, ℕ, suc, ◌<◌, ◌≤◌, ◌==◌, false, List, [], ◌∷◌, ◌++◌, length, map, refl, sym, ◌∙◌, ap, subst, arith, append_assoc, append-nil, All, flat_map, nat_tests, All-head, All-tail, Wish, wish, IsValid, AreDistinct, AreBelow, addresses, number, WishesView, Address, Line, line_of, ReadsBack, drive_values, drive_text, address_at, ring_text, order_text, header_text, awaited_after, drives_left, drive_or_order, places, wishes_by, TellsFollowing, told, place_by, AreItems, IsItem, tail_text, IsTail, addresses_in, field_of, AreOf, IsOf, part_left, numbers_in, template_of, tail_for, line_by, length_map}
use Rattle.sercos_text.specs.Templates.{IsPart}
use Rattle.sercos_trace.specs.declared.kind.LineKind.TheVariants as kind
use Rattle.sercos_trace.specs.declared.reading.Line.TheVariants as line
use Rattle.sercos_check.specs.declared.awaited.Awaited.TheVariants as awaited
use Rattle.sercos_law_trace.proofs.Clean.PassLemmas.{Goes, Leads, leads_none, leads_both, with_passes, of_passes}
use Rattle.sercos_law_trace.proofs.Clean.LineLeads.{Stands}

-- The numbers of the head fit their fields.
pub record FitsDrive (d : Wish) : Type 0 where
  pub address : d.address ≤ 255
  pub slave : d.slave ≤ 255
  pub t1min : d.times.t1min ≤ 65535
  pub tatmt : d.times.tatmt ≤ 65535
  pub t4min : d.times.t4min ≤ 65535
  pub tatat : d.times.tatat ≤ 65535
  pub tmtsy : d.times.tmtsy ≤ 65535
  pub tmtsg : d.times.tmtsg ≤ 65535
  pub at_len : d.at_len ≤ 65535
  pub record_len : d.record_len ≤ 65535

pub record FitsHead (w : WishesView) : Type 0 where
  pub rate : w.rate ≤ 255
  pub cycle : w.cycle ≤ 65535
  pub control : w.control ≤ 65535
  pub gap : w.gap ≤ 65535
  pub drives : All FitsDrive w.drives

ring_fits : (a b c d e : ℕ) → a ≤ 255 → b ≤ 65535 → c ≤ 65535 → d ≤ 65535 → e ≤ 255 → AreOf (template_of kind.Ring) (number a ∷ number b ∷ number c ∷ number d ∷ number e ∷ [])
unfolding template_of AreOf IsPart IsOf field_of part_left
ring_fits a b c d e pa pb pc pd pe = (tt, (tt, (tt, (tt, (tt, (pa, (tt, (pb, (tt, (pc, (tt, (pd, (tt, (pe, tt))))))))))))))

drive_fits : (d : Wish) → FitsDrive d → AreOf (template_of kind.Drive) (drive_values d)
unfolding template_of AreOf IsPart IsOf field_of part_left
drive_fits d is = (tt, (tt, (tt, (tt, (tt, (tt, (is.address, (tt, (is.slave, (tt, (is.t1min, (tt, (is.tatmt, (tt, (is.t4min, (tt, (is.tatat, (tt, (is.tmtsy, (tt, (is.tmtsg, (tt, (is.at_len, (tt, (is.record_len, tt)))))))))))))))))))))))))

-- the places of the addresses
places_back : (w : WishesView) (order : List ℕ) → AreDistinct (addresses w.drives) → AreBelow order (length w.drives) → places w.drives (map (address_at w) order) ≡ order
places_back w [] apart below = refl
places_back w (k ∷ order) apart below =
    ap (λ (n : ℕ). n ∷ places w.drives (map (address_at w) order)) (place_by w.drives k apart (below 0 (omega arith)))
    ∙ ap (λ (l : List ℕ). k ∷ l) (places_back w order apart (λ i low. below (suc i) (omega (arith, low))))

-- the addresses of the order
addresses_fit : (w : WishesView) (order : List ℕ) → ((k : ℕ) → k < length w.drives → (wish w k).address ≤ 254) → AreBelow order (length w.drives) → AreItems Address (map (address_at w) order)
unfolding AreItems IsItem
addresses_fit w [] low below = tt
addresses_fit w (k ∷ order) low below = (let is = low k (below 0 (omega arith)) in omega (arith, is), addresses_fit w order low (λ i less. below (suc i) (omega (arith, less))))

order_tail : (w : WishesView) → IsValid w → IsTail (tail_for kind.Order) (map (address_at w) w.order)
unfolding tail_for IsTail
order_tail w valid =
    let long = length_map (address_at w) w.order in
    let count = valid.order.count in (
      addresses_fit w w.order (λ k low. (valid.drives.wishes k low).address.1) valid.order.within,
      omega (arith, long, count, valid.drives.some),
      omega (arith, long, count, valid.drives.few),
    )

-- WITHIN THE HEAD: the wishes of these drives have come, and the others are still to come.
record InHead (w : WishesView) (done rest : List Wish) (lines : List Line) : Type 0 where
  awaits : awaited_after lines ≡ drive_or_order (length rest)
  left : drives_left lines ≡ length rest
  wishes : wishes_by lines ≡ record { rate = w.rate; cycle = w.cycle; control = w.control; gap = w.gap; order = []; drives = done }
  telegrams : told lines ≡ []

a_drive : (n : ℕ) → drive_or_order (suc n) ≡ awaited.Drive
a_drive n = let other : (suc n == 0) ≡ false = grind (arith, nat_tests) in rw other refl

module _ (tells : TellsFollowing) (law : ReadsBack) (w : WishesView) where
  abbrev IsFirst : List Line → Type 0
  IsFirst lines = lines ≡ line.Version ∷ []

  version_leads : Leads (line_of kind.Version []) (λ lines. lines ≡ []) IsFirst
  unfolding line_by tail_for tail_text IsTail template_of AreOf IsPart IsOf field_of part_left
  version_leads lines is = subst (λ (l : List Line). Goes (line_of kind.Version []) IsFirst l) (sym is) (of_passes tells law IsFirst kind.Version [] line.Version []
      (tt, (tt, (tt, (tt, (tt, (tt, (tt, (tt, tt)))))))) refl refl refl (refl, tt) refl refl)

  ring_leads : FitsHead w → length w.drives ≤ 255 → Leads (ring_text w) IsFirst (InHead w [] w.drives)
  unfolding line_by tail_for tail_text IsTail numbers_in
  ring_leads fits few lines is = subst (λ (l : List Line). Goes (ring_text w) (InHead w [] w.drives) l) (sym is)
      (of_passes tells law (InHead w [] w.drives) kind.Ring _ (line.Ring w.rate w.cycle w.control w.gap (length w.drives)) (line.Version ∷ []) (ring_fits w.rate w.cycle w.control w.gap (length w.drives) fits.rate fits.cycle fits.control fits.gap few)
      refl refl refl (refl, tt) refl (record { awaits = refl; left = refl; wishes = refl; telegrams = refl }))

  drive_leads : (d : Wish) (done rest : List Wish) → FitsDrive d → Leads (drive_text d) (InHead w done (d ∷ rest)) (InHead w (done ++ d ∷ []) rest)
  unfolding line_by tail_for tail_text IsTail numbers_in
  drive_leads d done rest fits lines is =
      of_passes tells law (InHead w (done ++ d ∷ []) rest) kind.Drive (drive_values d) (line.Drive d) lines (drive_fits d fits) refl refl refl (is.awaits ∙ a_drive (length rest), tt) refl
      (record {
        awaits = ap drive_or_order (omega (arith, is.left));
        left = omega (arith, is.left);
        wishes = ap (λ (v : WishesView). record v { drives = v.drives ++ d ∷ [] }) is.wishes;
        telegrams = is.telegrams;
      })

  drives_lead : (rest done : List Wish) → All FitsDrive rest → Leads (flat_map drive_text rest) (InHead w done rest) (InHead w (done ++ rest) [])
  drives_lead [] done all = subst (λ (l : List Wish). Leads [] (InHead w done []) (InHead w l [])) (sym (append-nil done)) (leads_none (InHead w done []))
  drives_lead (d ∷ rest) done all =
      leads_both (drive_text d) (flat_map drive_text rest) (InHead w done (d ∷ rest)) (InHead w (done ++ d ∷ []) rest) (InHead w (done ++ d ∷ rest) [])
      (drive_leads d done rest (All-head FitsDrive d rest all))
      (subst (λ (l : List Wish). Leads (flat_map drive_text rest) (InHead w (done ++ d ∷ []) rest) (InHead w l [])) (append_assoc done (d ∷ []) rest) (drives_lead rest (done ++ d ∷ []) (All-tail FitsDrive d rest all)))

  with_order : (lines : List Line) → IsValid w → InHead w w.drives [] lines → wishes_by (line.Order (record { items = map (address_at w) w.order }) ∷ lines) ≡ w
  with_order lines valid is =
      ap (λ (v : WishesView). record v { order = places v.drives (map (address_at w) w.order) }) is.wishes
      ∙ ap (λ (l : List ℕ). record { rate = w.rate; cycle = w.cycle; control = w.control; gap = w.gap; order = l; drives = w.drives })
      (places_back w w.order valid.drives.apart valid.order.within)

  order_leads : IsValid w → Leads (order_text w) (InHead w w.drives []) (Stands w [])
  unfolding line_by tail_for addresses_in template_of AreOf IsPart IsOf field_of part_left
  order_leads valid lines is =
      with_passes tells law (Stands w []) kind.Order [] (map (address_at w) w.order) (line.Order (record { items = map (address_at w) w.order })) lines
      (tt, (tt, (tt, (tt, (tt, tt))))) (order_tail w valid) refl
      (is.awaits, subst IsValid (sym (with_order lines valid is)) valid) refl
      (record { awaits = refl; wishes = with_order lines valid is; telegrams = is.telegrams })

  pub header_leads : IsValid w → FitsHead w → Leads (header_text w) (λ lines. lines ≡ []) (Stands w [])
  header_leads valid fits =
      leads_both (line_of kind.Version []) (ring_text w ++ (flat_map drive_text w.drives ++ order_text w)) (λ lines. lines ≡ []) IsFirst (Stands w []) version_leads
      (leads_both (ring_text w) (flat_map drive_text w.drives ++ order_text w) IsFirst (InHead w [] w.drives) (Stands w []) (ring_leads fits (let few = valid.drives.few in omega (arith, few)))
      (leads_both (flat_map drive_text w.drives) (order_text w) (InHead w [] w.drives) (InHead w w.drives []) (Stands w []) (drives_lead w.drives [] fits.drives) (order_leads valid)))
