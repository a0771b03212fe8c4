-- In phase 1 a drive that is addressed in an undisturbed cycle is heard in the next.
use Rattle.sercos_law_run.proofs.Words.{cases_Bool, ◌≡◌, inl, inr, ℕ, ◌+◌, ◌<◌, ◌≤◌, Bool, true, false, List, [], ◌∷◌, length, Option, Some, None, refl, sym, ◌∙◌, ap, subst, arith, ◌==◌, nat_le, is_some, is_none, slice_index, nat_tests, mst_content, at_fault, Job, RingView, Mst, mst_got, mdt_got, phase_in, has_mst, blocks_in, annals, CycleView, record_said, Known, MemberView, known_of, tasks_for, Past, place_of, addressed_before, is_mst, fall_of, next_phase, goes_on, after_end, idle, single, mdt_said, same_place, Carry, Restarts, heard, passage, mst_in, ats_in, mdt_in, drive_at, station_of, with_restart, mdt_heard, disturbs_mdt, given_before, given_mst, master_calls, begins, own_mst, content_of, contents, said_below, looks_back, IsNext, IsRun, at_start, behind_mst, behind_ats, behind_mdt, after_mst, phase_got, IsSpelled, IsOpened, IsUndisturbed}
use Rattle.sercos_telegram.specs.declared.layout.Kind.TheVariants as kinds
use Rattle.sercos_law_run.proofs.Journal.RunLemmas.{ats_in-said, mdt_in-said}
use Rattle.sercos_law_run.proofs.Views.MasterSame.{begun_cycle, ats_none}
use Rattle.sercos_law_run.proofs.Views.Members.{member_is}
use Rattle.sercos_law_run.specs.Views.Spelled.{IsWhole}
use Rattle.sercos_law_run.proofs.Views.Codecs.{mst_clear, single_clear}
use Rattle.sercos_law_run.proofs.Views.ViewRuns.{started}
use Rattle.sercos_law_run.proofs.Headline.HeadlineRuns.{spelled_in}
use Rattle.sercos_law_run.proofs.Undisturbed.Arriving.Comes.{IsCalm, calm_in, calm_at, own_mst_whole}
use Rattle.sercos_law_run.proofs.Undisturbed.Arriving.Taken.{IsAmong, among_said}
use Rattle.sercos_law_run.proofs.Undisturbed.Arriving.AtsTaken.{IsWanted, takes_ats}
use Rattle.sercos_law_run.proofs.Undisturbed.Arriving.SendsNext.{SaysOne, sends_next}
use Rattle.sercos_law_run.proofs.Typed.Mdts.{phase_low}
use Rattle.sercos_law_run.proofs.Undisturbed.Arriving.Addressed.{place_found, some_got}
use Rattle.sercos_law_run.proofs.Undisturbed.Arriving.Arrivals.{heard_sent}

-- the MDT of a cycle of phase 1
single_said : (s : Known) (p : Past) (k : ℕ) → p.now.phase ≡ 1 → p.now.addressed ≡ Some k → mdt_said s p ≡ Some (single s idle k)
single_said s p k one to = let is : (p.now.phase == 1) ≡ true = grind (arith, nat_tests, one) in rw (is, to) refl

-- the master goes on from a cycle at whose end it doesn't fall
end_on : (s : Known) (p : Past) → 1 ≤ (after_end s p).now.phase → after_end s p ≡ goes_on (next_phase s p) p
end_on s p later = elim (cases_Bool (is_some (fall_of s p))) [
  | inl on ↦ let later = rw on at later in absurd (omega (arith, later))
  | inr off ↦ rw off refl
]

module _ (r : RingView) (jobs : List Job) (carry : Carry) (restarts : Restarts) (opened : IsOpened r jobs) where
  -- A CYCLE that is calm
  module _ (t : CycleView) (j : List CycleView) (next : IsNext r jobs carry restarts t j) (calm : IsCalm r carry restarts (length j) t.sent)
    where
      spelled : IsSpelled r jobs carry restarts t j
      spelled = spelled_in r jobs carry restarts opened t j next

      start_low : (at_start r jobs carry restarts j).now.phase ≤ 4
      start_low = phase_low (known_of r) (tasks_for (known_of r) jobs) (begins r carry restarts j)

      mst_is : mst_in t.sent ≡ mst_content (at_start r jobs carry restarts j).now.phase
      mst_is = ap mst_in next.sent

      -- the MST comes to each drive, and back
      pub phase_comes : (k : ℕ) → k < length r.drives → phase_got carry t.sent j k ≡ Some t.phase
      phase_comes k below =
          ap mst_got (heard_sent carry (passage (length j) kinds.Mst 0 (k + 1)) (mst_in t.sent) spelled.mst (calm.mst k below) ∙ ap (λ (c : List ℕ). Some c) mst_is)
          ∙ mst_clear (at_start r jobs carry restarts j).now.phase (Some (mst_content (at_start r jobs carry restarts j).now.phase)) start_low (inr refl)
          ∙ ap (λ (n : ℕ). Some n) (sym next.phase)

      pub mst_whole : (behind_mst r jobs carry restarts t.sent j).now.whole ≡ true
      mst_whole = ap (is_mst (at_start r jobs carry restarts j).now.phase) (heard_sent carry (passage (length j) kinds.Mst 0 0) (mst_in t.sent) spelled.mst calm.own ∙ ap (λ (c : List ℕ). Some c) mst_is)
          ∙ own_mst_whole (at_start r jobs carry restarts j).now.phase start_low

      -- the master doesn't restart
      pub starts_so : at_start r jobs carry restarts j ≡ looks_back r jobs (master_calls r carry restarts j)
      starts_so = started r jobs (restarts (length j) 0) (master_calls r carry restarts j)
          ∙ ap (λ (b : Bool). begun_cycle b (looks_back r jobs (master_calls r carry restarts j))) (calm.stays 0 (omega arith))

      -- the MDT to one drive comes to it
      pub mdt_comes : (k : ℕ) → k < length r.drives → (behind_mdt r jobs carry restarts t.sent j).now.phase ≡ 1 → (behind_mdt r jobs carry restarts t.sent j).now.addressed ≡ Some k
          → mdt_heard carry (length j) (k + 1) (mdt_in t.sent) ≡ Some ((drive_at r k).address ∷ record_said idle [])
      mdt_comes k below one to = by (mdt_in t.sent) (ap mdt_in next.sent
          ∙ mdt_in-said r.rate (said_below (length r.drives) (drive_at r) r.rate (given_mst carry restarts t.sent j)) _
          ∙ ap content_of said) (calm.mdt k below)
        where
          said : mdt_said (known_of r) (behind_mdt r jobs carry restarts t.sent j) ≡ Some (single (known_of r) idle k)
          said = single_said (known_of r) (behind_mdt r jobs carry restarts t.sent j) k one to

          mine : (single (known_of r) idle k).content ≡ (drive_at r k).address ∷ record_said idle []
          mine = ap (λ (m : MemberView). m.address ∷ record_said idle []) (member_is r k)

          by : (o : Option (List ℕ)) → o ≡ Some (single (known_of r) idle k).content → disturbs_mdt carry (length j) o k ≡ false → mdt_heard carry (length j) (k + 1) o ≡ Some ((drive_at r k).address ∷ record_said idle [])
          by None none calm = cc
          by (Some c) some on =
              let same : c ≡ (single (known_of r) idle k).content = cc in
              heard_sent carry (passage (length j) kinds.Mdt 0 (k + 1)) c (subst IsWhole (sym same) (spelled.mdt (single (known_of r) idle k) said)) on ∙ ap (λ (l : List ℕ). Some l) (same ∙ mine)

  -- TWO CYCLES
  module _ (t before : CycleView) (j : List CycleView) (run : IsRun r jobs carry restarts (t ∷ before ∷ j))
      (now_calm : IsUndisturbed r carry restarts t (before ∷ j)) (then_calm : IsUndisturbed r carry restarts before j) where
    calm : IsCalm r carry restarts (length (before ∷ j)) t.sent
    calm = calm_in r carry restarts t (before ∷ j) now_calm

    -- the cycle before ended without a fall, if a phase above 0 is commanded
    pub goes_so : 1 ≤ t.phase → at_start r jobs carry restarts (before ∷ j) ≡ goes_on (next_phase (known_of r) (behind_mdt r jobs carry restarts before.sent j)) (behind_mdt r jobs carry restarts before.sent j)
    goes_so later =
        let is : at_start r jobs carry restarts (before ∷ j) ≡ after_end (known_of r) (behind_mdt r jobs carry restarts before.sent j) = starts_so t (before ∷ j) run.1 calm in
        is ∙ end_on (known_of r) (behind_mdt r jobs carry restarts before.sent j) (subst (λ (p : Past). 1 ≤ p.now.phase) is (subst (λ (n : ℕ). 1 ≤ n) run.1.phase later))

    pub heard_next : (k : ℕ) → k < length r.drives → t.phase ≡ 1 → (behind_mdt r jobs carry restarts before.sent j).now.phase ≡ 1 → (behind_mdt r jobs carry restarts before.sent j).now.addressed ≡ Some k
        → phase_in (after_mst r carry restarts before.sent j k) ≡ 1 → (behind_ats r jobs carry restarts t.sent (before ∷ j)).now.heard k ≡ true
    heard_next k below one was_one to stands =
        takes_ats r jobs carry (length (before ∷ j)) k (behind_mst r jobs carry restarts t.sent (before ∷ j)) says.says.content (ats_in t.sent) (own_mst carry (length (before ∷ j)) (mst_in t.sent) (begins r carry restarts (before ∷ j)))
        (ats_none (known_of r) k (λ content. Unit {0}) (behind_mst r jobs carry restarts t.sent (before ∷ j))) wanted came (inl among)
      where
        p : Past
        p = behind_mst r jobs carry restarts t.sent (before ∷ j)

        -- the drive
        got : has_mst (annals (drive_at r k) r.rate (given_mst carry restarts before.sent j k)) ≡ true
        got = ap (λ (o : Option ℕ). is_some o) (phase_comes before j run.0.1 (calm_in r carry restarts before j then_calm) k below)

        told : is_some (mdt_got (drive_at r k).address (phase_in (after_mst r carry restarts before.sent j k)) (blocks_in (drive_at r k) (after_mst r carry restarts before.sent j k)) (mdt_heard carry (length j) (k + 1) (mdt_in before.sent))) ≡ true
        told = subst (λ (o : Option (List ℕ)). is_some (mdt_got (drive_at r k).address (phase_in (after_mst r carry restarts before.sent j k)) (blocks_in (drive_at r k) (after_mst r carry restarts before.sent j k)) o) ≡ true)
            (sym (mdt_comes before j run.0.1 (calm_in r carry restarts before j then_calm) k below was_one to))
            (some_got _ idle (single_clear idle (drive_at r k).address (phase_in (after_mst r carry restarts before.sent j k)) (blocks_in (drive_at r k) (after_mst r carry restarts before.sent j k)) (omega (arith, stands)) (omega arith) (omega arith)))

        says : SaysOne (drive_at r k) r.rate (annals (drive_at r k) r.rate (given_mst carry restarts t.sent (before ∷ j) k))
        says = subst (λ (b : Bool). SaysOne (drive_at r k) r.rate (annals (drive_at r k) r.rate (Mst (length (before ∷ j)) (heard carry (passage (length (before ∷ j)) kinds.Mst 0 (k + 1)) (mst_in t.sent)) ∷ with_restart b (given_before carry restarts (before ∷ j) k))))
            (sym (calm.stays (k + 1) (omega (arith, below))))
            (sends_next (drive_at r k) r.rate (length (before ∷ j)) (given_mst carry restarts before.sent j k) (mdt_heard carry (length j) (k + 1) (mdt_in before.sent)) (heard carry (passage (length (before ∷ j)) kinds.Mst 0 (k + 1)) (mst_in t.sent)) got stands told
            (phase_comes t (before ∷ j) run.1 calm k below ∙ ap (λ (n : ℕ). Some n) one))

        -- its AT
        ats_are : ats_in t.sent ≡ contents (said_below (length r.drives) (drive_at r) r.rate (given_mst carry restarts t.sent (before ∷ j)))
        ats_are = ap ats_in run.1.sent ∙ ats_in-said r.rate (said_below (length r.drives) (drive_at r) r.rate (given_mst carry restarts t.sent (before ∷ j))) (mdt_said (known_of r) (behind_mdt r jobs carry restarts t.sent (before ∷ j)))

        among : IsAmong says.says.content (ats_in t.sent)
        among = subst (λ (l : List (List ℕ)). IsAmong says.says.content l) (sym ats_are)
            (among_said (length r.drives) (drive_at r) r.rate (given_mst carry restarts t.sent (before ∷ j)) k says.says below says.said_is)

        came : heard carry (passage (length (before ∷ j)) kinds.At (station_of r (slice_index says.says.content 0)) 0) says.says.content ≡ Some says.says.content
        came = heard_sent carry (passage (length (before ∷ j)) kinds.At (station_of r (slice_index says.says.content 0)) 0) says.says.content
            ((spelled t (before ∷ j) run.1 calm).ats says.says.content (record { place = k; says = says.says; inside = below; said = says.said_is; content_is = refl }))
            (calm_at r carry (length (before ∷ j)) says.says.content (ats_in t.sent) among calm.ats)

        wanted : IsWanted (known_of r) (behind_mst r jobs carry restarts t.sent (before ∷ j)) k says.says.content
        wanted = record {
          early = ap (λ (n : ℕ). nat_le 3 n) (sym run.1.phase ∙ one);
          awaited = rw (
            (sym run.1.phase ∙ one),
            (ap (λ (x : Past). addressed_before x.turns) (goes_so (omega (arith, one))) ∙ to),
            same_place k,
          ) refl;
          placed = ap (place_of (known_of r)) says.head ∙ place_found r k opened.valid below;
          reads = subst (λ (a : ℕ). is_none (at_fault a 4 says.says.content) ≡ true) (ap (λ (m : MemberView). m.address) (sym (member_is r k))) says.reads;
        }
