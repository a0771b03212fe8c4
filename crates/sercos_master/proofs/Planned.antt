-- Where there is a plan, it is the plan of what was read in this epoch.
use Rattle.sercos_master.proofs.Words.{◌≡◌, ℕ, suc, ◌+◌, ◌<◌, ◌≤◌, true, List, [], ◌∷◌, ◌++◌, length, take, drop, refl, sym, ap, ap₂, ◌∙◌, subst, arith, length-append, nat_le, Option, Some, None, Ok, slice_get, leb-true, le-leb, get_or_from_slice_get, slice_get_within, take-append-le, drop-append-le, length-drop, Outcome, record_bytes, PlanView, WishesView, Wish, planned, begun_by, Known, Task, MemberView, member, no_member, bytes_of, long_in, given, reads_count, is_read, words_given, at_attributes, mdt_attributes, times_given, wish_given, wishes_from, wishes_given, outcomes_in, with_outcome, Call, Past, IsPlanned, outcomes, after_taken, all_read, settled, ready_to_send, after_mdt, past}
use Rattle.sercos_seat.proofs.Seats.{before_end}
use Rattle.sercos_master.proofs.Keeping.{came_back, going, past_keeps, settled_keeps, stopped}
use Rattle.sercos_master.proofs.Configured.{leaves, all_pass, begun_adds, mdt_adds, each_passes}
pub use Rattle.sercos_master.proofs.Configured.{Adds, at_adds}

-- AN OUTCOME AFTER THE READS changes nothing of what they gave.
words_append : (xs ys : List Outcome) → words_given (xs ++ ys) ≡ words_given xs ++ words_given ys
words_append [] ys = refl
words_append (x ∷ xs) ys = ap (λ (l : List ℕ). long_in (bytes_of x) ∷ l) (words_append xs ys)

words_long : (xs : List Outcome) → length (words_given xs) ≡ length xs
words_long [] = refl
words_long (x ∷ xs) = ap (λ n. suc n) (words_long xs)

pub part_before : (all : List Outcome) (o : Outcome) (m n : ℕ) → n + m ≤ length all → take n (drop m (words_given (all ++ o ∷ []))) ≡ take n (drop m (words_given all))
part_before all o m n less =
    let long = words_long all in
    ap (λ (l : List ℕ). take n (drop m l)) (words_append all (o ∷ []))
    ∙ (ap (take n) (drop-append-le m (words_given all) (words_given (o ∷ [])) (omega (arith, long, less)))
    ∙ take-append-le n (drop m (words_given all)) (words_given (o ∷ [])) (omega (arith, long, length-drop m (words_given all), less)))

pub wish_stays : (d : MemberView) (all : List Outcome) (o : Option Outcome) → is_read d all ≡ true → wish_given d (with_outcome o all) ≡ wish_given d all
wish_stays d all None read = refl
wish_stays d all (Some o) read = wish (times_so all o many) (ats d all o many) (records d all o many)
  where
    many : reads_count d ≤ length all
    many = leb-true (reads_count d) (length all) read

    times_so : (all : List Outcome) (o : Outcome) → reads_count d ≤ length all → times_given (all ++ o ∷ []) ≡ times_given all
    times_so all o many =
        let same : (i : ℕ) → i < 6 → given (all ++ o ∷ []) i ≡ given all i = λ i less. before_end all o i (λ e. omega (arith, less, e, many)) in
        rw (same 0 (omega arith), same 1 (omega arith), same 2 (omega arith), same 3 (omega arith), same 4 (omega arith), same 5 (omega arith)) refl

    ats : (d : MemberView) (all : List Outcome) (o : Outcome) → reads_count d ≤ length all → at_attributes d (all ++ o ∷ []) ≡ at_attributes d all
    ats d all o many = part_before all o 6 (length d.at) (omega arith)

    records : (d : MemberView) (all : List Outcome) (o : Outcome) → reads_count d ≤ length all → mdt_attributes d (all ++ o ∷ []) ≡ mdt_attributes d all
    records d all o many = part_before all o (6 + length d.at) (length d.mdt) (omega arith)

    wish : times_given (all ++ o ∷ []) ≡ times_given all → at_attributes d (all ++ o ∷ []) ≡ at_attributes d all → mdt_attributes d (all ++ o ∷ []) ≡ mdt_attributes d all → wish_given d (all ++ o ∷ []) ≡ wish_given d all
    wish a b c = rw (a, b, c) refl

pub read_stays : (d : MemberView) (all : List Outcome) (o : Option Outcome) → is_read d all ≡ true → is_read d (with_outcome o all) ≡ true
read_stays d all None read = read
read_stays d all (Some o) read = let many = leb-true (reads_count d) (length all) read in let one = length-append all (o ∷ []) in le-leb (reads_count d) (length (all ++ o ∷ [])) (omega arith)

-- what the ring asks is the same where what each drive asks is
wishes_same : (drives : List MemberView) (k : ℕ) (f g : ℕ → List Outcome) → ((j : ℕ) (d : MemberView) → slice_get drives j ≡ Some d → wish_given d (g (k + j)) ≡ wish_given d (f (k + j))) → wishes_from drives k g ≡ wishes_from drives k f
wishes_same [] k f g same = refl
wishes_same (d ∷ drives) k f g same =
    let first : wish_given d (g k) ≡ wish_given d (f k) = let z : k + 0 ≡ k = omega arith in subst (λ (n : ℕ). wish_given d (g n) ≡ wish_given d (f n)) z (same 0 d refl) in
    ap₂ (λ (w : Wish) (ws : List Wish). w ∷ ws) first
    (wishes_same drives (k + 1) f g (λ j e got. let n : k + suc j ≡ (k + 1) + j = omega arith in subst (λ (m : ℕ). wish_given e (g m) ≡ wish_given e (f m)) n (same (suc j) e got)))

-- where outcomes come after the reads alone, these stay, and what the ring asks
pub asks_same : (s : Known) (p q : Past) → Adds p q → all_read s p ≡ true → (all_read s q ≡ true) × (wishes_given s (outcomes q) ≡ wishes_given s (outcomes p))
asks_same s p q adds all = (
  all_pass (length s.drives) 0 (λ k. is_read (member s k) (outcomes q k)) (λ j low high. ap (is_read (member s j)) (adds j).1
      ∙ read_stays (member s j) (outcomes p j) (adds j).0 (each_passes (length s.drives) 0 (λ k. is_read (member s k) (outcomes p k)) all j low high)),
  ap asked (wishes_same s.drives 0 (outcomes p) (outcomes q) (λ j d got. each j d got)),
)
  where
    asked : List Wish → WishesView
    asked w = record { rate = s.rate; cycle = s.cycle; control = s.control; gap = s.gap; order = s.order; drives = w }

    each : (j : ℕ) (d : MemberView) → slice_get s.drives j ≡ Some d → wish_given d (outcomes q (0 + j)) ≡ wish_given d (outcomes p (0 + j))
    each j d got =
        let zero_is : 0 + j ≡ j = omega arith in
        let below = slice_get_within s.drives j d got in
        let passes : is_read (member s j) (outcomes p j) ≡ true = each_passes (length s.drives) 0 (λ k. is_read (member s k) (outcomes p k)) all j (omega arith) (omega (arith, below)) in
        let read : is_read d (outcomes p j) ≡ true = subst (λ (m : MemberView). is_read m (outcomes p j) ≡ true) (get_or_from_slice_get s.drives j d no_member got) passes in
        subst (λ (n : ℕ). wish_given d (outcomes q n) ≡ wish_given d (outcomes p n)) (sym zero_is) (ap (wish_given d) (adds j).1 ∙ wish_stays d (outcomes p j) (adds j).0 read)

stays_planned : (s : Known) (p q : Past) → Adds p q → q.plan ≡ p.plan → IsPlanned s p → IsPlanned s q
stays_planned s p q adds same is plan has =
    let before = is plan (sym same ∙ has) in
    let after = asks_same s p q adds before.read in
    record {
      read = after.0;
      fits = subst (λ (w : WishesView). nat_le (record_bytes w.drives) 2047 ≡ true) (sym after.1) before.fits;
      planned_is = ap planned after.1 ∙ before.planned_is;
    }

settled_planned : (s : Known) (p : Past) → IsPlanned s p → IsPlanned s (settled s p)
settled_planned s p is = settled_keeps (IsPlanned s) s p (λ rests. is)
    (λ x none brings. stays_planned s p (stopped x p) (λ j. (None, refl)) refl is)
    (λ plan makes other has. let same : plan ≡ other = cc in let by = makes.by_reads in
    record { read = by.read; fits = by.fits; planned_is = by.planned_is ∙ ap (λ (x : PlanView). Ok x) same })

-- and so it is where the MDT is sent
pub sent_planned : (s : Known) (p : Past) → IsPlanned s p → IsPlanned s (ready_to_send s p)
sent_planned s p is =
    stays_planned s (settled s p) (ready_to_send s p) (λ j. (None, begun_adds s (settled s p) j)) refl (settled_planned s p is)

mdt_planned : (s : Known) (p : Past) → IsPlanned s p → IsPlanned s (after_mdt s p)
mdt_planned s p is = stays_planned s (ready_to_send s p) (after_mdt s p) (λ j. (None, mdt_adds s p j ∙ sym (begun_adds s (settled s p) j ∙ ap (λ calls. outcomes_in (begun_by (calls j))) (leaves s p).calls))) refl (sent_planned s p is)

-- after any calls
pub is_planned : (s : Known) (requests : ℕ → List Task) (h : List Call) → IsPlanned s (past s requests h)
is_planned s requests = past_keeps (IsPlanned s) s requests (record {
  first = λ plan has. absurd (cc);
  mst = λ h whole is. stays_planned s (past s requests h) (came_back whole (past s requests h)) (λ j. (None, refl)) refl is;
  taken = λ h k content inside taken is. stays_planned s (past s requests h) (after_taken k content (past s requests h))
      (at_adds k content (past s requests h)) refl is;
  mdt = λ h. mdt_planned s (past s requests h);
  on = λ h done at is. stays_planned s (past s requests h) (going done (past s requests h)) (λ j. (None, refl)) refl is;
  new = λ h cycle is plan has. absurd (cc);
})
