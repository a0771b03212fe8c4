-- A drive that is addressed in a cycle of phase 1 sends its AT in the next.
use Rattle.sercos_law_run.proofs.Words.{◌≡◌, ℕ, ◌||◌, Bool, true, ◌&&◌, List, ◌∷◌, length, Option, Some, refl, ◌∙◌, ap, arith, if◌then◌else◌, ◌==◌, nat_le, is_some, is_none, slice_index, at_fault, head_fault-none, DriveView, DriveCall, Mst, Mdt, mst_got, mdt_got, Moment, phase_in, cycle_in, has_mst, has_taken, blocks_in, annals, stands_in, Said, said_in, sends, values_in}
use Rattle.sercos_law_run.proofs.Undisturbed.Arriving.Speaking.{speaks}

stands_one : (n other : ℕ) → n ≡ 1 → (if 1 == n then 1 else other) ≡ 1
stands_one n other one = rw one refl

took_one : (got : Bool) (n : ℕ) (some : Bool) → got ≡ true → n ≡ 1 → some ≡ true → (got && (nat_le 1 n && some)) ≡ true
took_one got n some a b c = rw (a, b, c) refl

sends_one : (got : Bool) (n : ℕ) (took : Bool) → got ≡ true → n ≡ 1 → took ≡ true → (got && (nat_le 3 n || (nat_le 1 n && took))) ≡ true
sends_one got n took a b c = rw (a, b, c) refl

-- what it sends
pub record SaysOne (d : DriveView) (rate : ℕ) (past : List Moment) : Type 0 where
  pub says : Said
  pub said_is : said_in d rate past ≡ Some says
  pub head : slice_index says.content 0 ≡ d.address
  pub reads : is_none (at_fault d.address 4 says.content) ≡ true

says_one : (d : DriveView) (rate : ℕ) (past : List Moment) → sends past ≡ true → phase_in past ≡ 1 → SaysOne d rate past
says_one d rate past sending one =
    let speaking = speaks d rate past sending in
    let none : length (values_in (cycle_in past) (phase_in past) (blocks_in d past)) ≡ 0 = rw one refl in
    record {
      says = speaking.says;
      said_is = speaking.is;
      head = speaking.address;
      reads = ap (λ o. is_none o) (head_fault-none 5 d.address speaking.says.content (omega (arith, speaking.long, none)) speaking.address);
    }

pub sends_next : (d : DriveView) (rate cycle : ℕ) (h : List DriveCall) (mdt mst : Option (List ℕ)) → has_mst (annals d rate h) ≡ true → phase_in (annals d rate h) ≡ 1
    → is_some (mdt_got d.address (phase_in (annals d rate h)) (blocks_in d (annals d rate h)) mdt) ≡ true → mst_got mst ≡ Some 1
    → SaysOne d rate (annals d rate (Mst cycle mst ∷ Mdt mdt ∷ h))
sends_next d rate cycle h mdt mst got one told comes = says_one d rate (annals d rate (Mst cycle mst ∷ Mdt mdt ∷ h)) sending stood
  where
    past : List Moment
    past = annals d rate h

    ended : phase_in (annals d rate (Mdt mdt ∷ h)) ≡ 1
    ended = rw one refl

    stood : phase_in (annals d rate (Mst cycle mst ∷ Mdt mdt ∷ h)) ≡ 1
    stood = ap (λ (o : Option ℕ). stands_in d rate cycle o (annals d rate (Mdt mdt ∷ h))) comes
        ∙ stands_one (phase_in (annals d rate (Mdt mdt ∷ h))) _ ended

    took : has_taken (annals d rate (Mdt mdt ∷ h)) ≡ true
    took = took_one (has_mst past) (phase_in past) (is_some (mdt_got d.address (phase_in past) (blocks_in d past) mdt)) got one told

    sending : sends (annals d rate (Mst cycle mst ∷ Mdt mdt ∷ h)) ≡ true
    sending = sends_one (is_some (mst_got mst)) (phase_in (annals d rate (Mst cycle mst ∷ Mdt mdt ∷ h))) (has_taken (annals d rate (Mdt mdt ∷ h))) (ap (λ (o : Option ℕ). is_some o) comes) stood took
