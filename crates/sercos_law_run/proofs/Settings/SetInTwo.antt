-- A drive accepts a setting of the check for phase 3 in phase 2 alone, and after the check has been begun.
use Rattle.sercos_law_run.proofs.Words.{◌≡◌, ℕ, true, List, [], ◌∷◌, length, refl, sym, ap, ◌∙◌, subst, arith, ◌==◌, Option, Some, None, IfSome, and_parts, eqb-true, beq, Request, Block, find_block, put_fault, Processed, ahs, reply_of, log_of, Write, with_added, writes_of, added_on, takes_effect, Begun, step_at, step_or_none, master_says, View, standing, stood_in, record_in, processed_in, with_record, kept_in, command, command_in, with_heard, with_begun, unless_restart, epoch_begun, epoch_records, begun_in, log_in, write_of, AreSound, AreSmall, AreExact, Nothing, Record, processes, processed_phase, said_of, written, kept_same, cycle_exact, those_kept, those_since, those_moved, IsProtectedLater, cases_Bool, inl, inr, allowed, IsViewRun, StepSaid}
use Rattle.sercos_law_run.proofs.Settings.Givers.{IsGiven, gives_newest, given_heard}
use Rattle.sercos_law_run.proofs.Start.KeptLemmas.{bare, in_two}

-- a write comes with a step of operation data
writes_data : (t : Processed) (h : List Processed) (w : Write) → added_on t h ≡ Some w → (t.step.element == 7) ≡ true
writes_data t h w is = elim (cases_Bool (beq t.mhs (ahs h))) [
  | inl again ↦ let is = rw again at is in absurd (cc)
  | inr new ↦ elim (cases_Bool (takes_effect (record { processed = t; answer = reply_of t (log_of h) }))) [
    | inl on ↦ (and_parts (t.step.element == 7) _ (and_parts t.step.write _ on).1).0
    | inr on ↦ let is = rw (new, on) at is in absurd (cc)
  ]
]

-- each request begins with its opening, and that writes element 1
opens_first : (r : Request) → (step_or_none (step_at r [])).element ≡ 1
opens_first (Request.Read i e) = refl
opens_first (Request.Write i e bytes) = refl
opens_first (Request.Command i) = refl

-- so if a step of operation data is said, no request begins in this cycle
none_begins : (o : Option Request) (begun : List Begun) → ((master_says (with_begun o begun)).step.element == 7) ≡ true → with_begun o begun ≡ begun
none_begins None begun seven = refl
none_begins (Some r) begun seven = let e : 1 ≡ 7 = sym (opens_first r) ∙ eqb-true (master_says (with_begun (Some r) begun)).step.element 7 seven in absurd (omega (arith, e))

going : (v : View) (past : List View) (begun : List Begun) → v.phase ≡ 2 → v.phase ≡ command_in v past → (unless_restart v begun ≡ begun) × (command past ≡ 2)
going v past begun two commanded = elim (cases_Bool v.master_restarts) [
  | inl on ↦ absurd (omega (arith, (rw on at (sym commanded ∙ two))))
  | inr off ↦ rw off (refl, (rw off at (sym commanded ∙ two)))
]

-- What a setting of the check for phase 3 says of its cycle: phase 2 is commanded, the write isn't refused, and a request that was
-- begun in this epoch, before the cycle, gives something to the check's identifier number.
pub record IsSetIn (blocks : List Block) (v : View) (past : List View) (w : Write) : Type 0 where
  pub phase : ℕ
  pub none : put_fault (find_block w.raw v.blocks) phase w.bytes ≡ None
  pub two : command past ≡ 2
  pub given : IsGiven blocks (epoch_begun past) w.raw

module _ (busy : ℕ) (blocks : List Block) (small : AreSmall blocks) (v : View) (past : List View) (run : IsViewRun busy (v ∷ past)) (sound : AreSound blocks (v ∷ past)) where
  pub set_in : (w : Write) → IsProtectedLater v.blocks w.raw → write_of (processed_in v past) (kept_in v past) ≡ Some w → IsSetIn blocks v past w
  set_in w (a, has, second, third, fourth) is = elim (processes v past) [
    | Nothing none ↦ let no : Some w ≡ None = sym is ∙ ap (λ (o : Option Processed). write_of o (kept_in v past)) none in absurd (cc)
    | Record s got came two some ↦
        let t = record_in v (length past) (stood_in v (standing past)) s in
        let adds_it = sym (ap (λ (o : Option Processed). write_of o (kept_in v past)) some) ∙ is in
        let fault : put_fault (find_block w.raw v.blocks) (stood_in v (standing past)) w.bytes ≡ None =
        subst (λ (o : Option Write). IfSome o (λ w. put_fault (find_block w.raw v.blocks) (stood_in v (standing past)) w.bytes ≡ None))
        adds_it (allowed t (kept_in v past)
        (those_moved blocks v.blocks (kept_in v past) sound.1.0 (those_kept blocks v past (those_since blocks past sound.0)))) in
        let commanded = sym (processed_phase v past came (omega (arith, two))) ∙ in_two a (stood_in v (standing past)) third fourth
        (bare (find_block w.raw v.blocks) (stood_in v (standing past)) w.bytes a has fault) in
        let grown = ap (λ (o : Option Processed). writes_of (log_of (with_record o (unless_restart v (epoch_records past))))) some
        ∙ sym (written t (unless_restart v (epoch_records past)))
        ∙ ap (λ (o : Option Write). with_added o (writes_of (log_of (unless_restart v (epoch_records past)))))
        (ap (added_on t) (sym (kept_same busy v past run t some)) ∙ adds_it) in
        let said = said_of busy v past run.1.sent s got in
        let before = none_begins v.begins (with_heard v.heard (unless_restart v (epoch_begun past)))
        (ap (λ (x : StepSaid). x.step.element == 7) (sym said) ∙ writes_data t (kept_in v past) w adds_it) ∙ ap (with_heard v.heard)
        (going v past (epoch_begun past) commanded run.1.commanded).0 in
        let gave = given_heard blocks v.heard (epoch_begun past) w.raw
        (subst (λ (l : List Begun). IsGiven blocks l w.raw) before
        (gives_newest blocks (begun_in v past) (log_in v past) w _
        (subst (AreExact blocks (begun_in v past) (log_in v past)) grown (cycle_exact blocks busy small v past run sound)))) in
        record { phase = t.phase; none = fault; two = (going v past [] commanded run.1.commanded).1; given = gave }
  ]
