-- MST and MDT are whole: bytes, and no more than a telegram has.
use Rattle.sercos_law_run.proofs.Words.{◌≡◌, ℕ, zero, suc, ◌+◌, ◌<◌, ◌≤◌, ◌==◌, Bool, true, false, List, [], ◌∷◌, length, Option, Some, None, is_some, slice_index_or, sym, ◌∙◌, ap, subst, arith, if◌then◌else◌, length-append, nat_le, option_map, All, All-head, All-tail, AreBytes-append, AreBytes-take, all_drives, mst_content, PlanView, Known, IsKnown, MemberView, member, no_member, len_or_none, mdt_attributes, word_said, value_said, values_said, fields_length, Past, IsPlanned, outcomes, seen_at, records_upto, Sent, said_to, record_to, records_from, idle, single, joint, mdt_said, fits_planned, AreBytes, cases_Bool, cases_Option, inl, inr, StepSaid}
pub use Rattle.sercos_master.proofs.Configured.{phase_low}
use Rattle.sercos_law_run.proofs.Typed.Ats.{IsContent, fields_bytes, address_bytes}

pub mst_whole : (phase : ℕ) → phase ≤ 4 → IsContent (mst_content phase)
unfolding AreBytes
mst_whole phase low = record { bytes = (omega arith, (omega (arith, low), tt)); some = omega arith; most = omega arith }

-- THE RECORDS of an MDT
value_bytes : (cycle len : ℕ) → AreBytes (value_said cycle len)
unfolding AreBytes
value_bytes cycle len = AreBytes-take len _ (omega arith, (omega arith, (omega arith, (omega arith, tt))))

values_bytes : (cycle : ℕ) (words : List ℕ) → AreBytes (values_said cycle words)
unfolding AreBytes
values_bytes cycle [] = tt
values_bytes cycle (word ∷ words) = AreBytes-append (value_said cycle (len_or_none word)) (values_said cycle words) (value_bytes cycle (len_or_none word)) (values_bytes cycle words)

records_bytes : (s : Known) (p : Past) (k n : ℕ) → AreBytes (records_from s p k n)
unfolding AreBytes
records_bytes s p k zero = tt
records_bytes s p k (suc n) = AreBytes-append (record_to s p k) (records_from s p (k + 1) n)
    (fields_bytes (word_said (said_to p k)) (said_to p k).step.word _ (values_bytes p.cycle (mdt_attributes (member s k) (outcomes p k)))) (records_bytes s p (k + 1) n)

records_long : (s : Known) (p : Past) (k n : ℕ) → length (records_upto s (seen_at p) p.cycle k) + length (records_from s p k n) ≡ length (records_upto s (seen_at p) p.cycle (k + n))
records_long s p k zero = let e : k + 0 ≡ k = omega arith in rw e (omega arith)
records_long s p k (suc n) =
    let next : length (records_upto s (seen_at p) p.cycle (suc k)) ≡ length (records_upto s (seen_at p) p.cycle k) + length (record_to s p k) = length-append (records_upto s (seen_at p) p.cycle k) (record_to s p k) in
    let e : k + 1 ≡ suc k = omega arith in
    let f : k + 1 + n ≡ k + suc n = omega arith in
    let rest : length (records_upto s (seen_at p) p.cycle (suc k)) + length (records_from s p (k + 1) n) ≡ length (records_upto s (seen_at p) p.cycle (k + suc n)) =
    ap (λ (i : ℕ). length (records_upto s (seen_at p) p.cycle i) + length (records_from s p (k + 1) n)) (sym e) ∙ records_long s p (k + 1) n ∙ ap (λ (i : ℕ). length (records_upto s (seen_at p) p.cycle i)) f in
    omega (arith, length-append (record_to s p k) (records_from s p (k + 1) n), next, rest)

-- THE MDT
member_low : (drives : List MemberView) (k : ℕ) → All (λ (d : MemberView). (1 ≤ d.address) × (d.address ≤ 254)) drives → (slice_index_or drives k no_member).address < 256
member_low [] k all = omega arith
member_low (d ∷ drives) zero all = omega (arith, (All-head (λ (x : MemberView). (1 ≤ x.address) × (x.address ≤ 254)) d drives all).1)
member_low (d ∷ drives) (suc k) all = member_low drives k (All-tail (λ (x : MemberView). (1 ≤ x.address) × (x.address ≤ 254)) d drives all)

single_whole : (s : Known) (said : StepSaid) (k : ℕ) → IsKnown s → IsContent (single s said k).content
unfolding AreBytes
single_whole s said k known =
    let long = fields_length (word_said said) said.step.word [] in
    record { bytes = address_bytes (member s k).address _ (member_low s.drives k known.addresses) (fields_bytes (word_said said) said.step.word [] tt); some = omega arith; most = omega (arith, long) }

joint_whole : (s : Known) (p : Past) (plan : PlanView) → IsPlanned s p → p.plan ≡ Some plan → IsContent (joint s p plan).content
joint_whole s p plan planned is =
    let fits : 1 + length (records_upto s (seen_at p) p.cycle (length s.drives)) ≤ 2048 = fits_planned s p planned (ap is_some is) in
    let z : 0 + length s.drives ≡ length s.drives = omega arith in
    let long : 0 + length (records_from s p 0 (length s.drives)) ≡ length (records_upto s (seen_at p) p.cycle (length s.drives)) = records_long s p 0 (length s.drives) ∙ ap (λ (i : ℕ). length (records_upto s (seen_at p) p.cycle i)) z in
    record { bytes = address_bytes all_drives _ (omega arith) (records_bytes s p 0 (length s.drives)); some = omega arith; most = omega (arith, fits, long) }

pub mdt_whole : (s : Known) (p : Past) (m : Sent) → IsKnown s → IsPlanned s p → mdt_said s p ≡ Some m → IsContent m.content
mdt_whole s p m known planned said = elim (cases_Bool (p.now.phase == 1)) [
  | inl on ↦ to_one (λ i. idle) p.now.addressed (rw on at said)
  | inr is ↦ elim (cases_Bool (p.now.phase == 2)) [
    | inl on ↦ to_one (said_to p) p.now.addressed (rw on at (rw is at said))
    | inr off ↦ third (nat_le 3 p.now.phase) (rw off at (rw is at said))
  ]
]
  where
    same_content : (x : Sent) → Some x ≡ Some m → IsContent x.content → IsContent m.content
    same_content x e is = let same : x ≡ m = cc in subst (λ (y : Sent). IsContent y.content) same is

    to_one : (word : ℕ → StepSaid) (o : Option ℕ) → option_map (λ i. single s (word i) i) o ≡ Some m → IsContent m.content
    to_one word None e = cc
    to_one word (Some i) e = same_content (single s (word i) i) e (single_whole s (word i) i known)

    third : (b : Bool) → (if b then option_map (joint s p) p.plan else None) ≡ Some m → IsContent m.content
    third true e = elim (cases_Option p.plan) [
      | inl has ↦ let e = rw has at e in cc
      | inr (plan, has) ↦ same_content (joint s p plan) (rw has at e) (joint_whole s p plan planned has)
    ]
    third false e = cc
