-- What is said in the next cycle of a typed ring is spelled.
use Rattle.sercos_law_run.proofs.Words.{ℕ, ◌+◌, List, refl, sym, ap, subst, arith, frame_of, cycle_in, commands_in, records_in, known_of, tasks_for, mst_in, drive_at, given_before, given_mst, begins, middle, behind_mdt, after_mst, KeepsAlways, KeepsWithin, SpelledNext, IsRing-is_ring, is_planned, content_in}
use Rattle.sercos_law_run.proofs.Views.Received.{address_of}
use Rattle.sercos_law_run.specs.Views.Spelled.{IsWhole}
use Rattle.sercos_law_run.proofs.Typed.Steps.{says}
use Rattle.sercos_law_run.proofs.Typed.DriveKeeps.{all_heard, mst_heard, drive_keeps}
use Rattle.sercos_law_run.proofs.Typed.Replies.{shows_word}
use Rattle.sercos_law_run.proofs.Typed.Ats.{IsContent, at_content}
use Rattle.sercos_law_run.proofs.Typed.Plans.{ring_known, ring_timed, all_members}
use Rattle.sercos_law_run.proofs.Typed.Begun.{tasks_so, typed_past}
use Rattle.sercos_law_run.proofs.Typed.Mdts.{phase_low, mst_whole, mdt_whole}
use Rattle.sercos_law_run.proofs.Cited.{frame_only, frame_reads, is_framed}

module _ where
  -- a content has a frame that gives it back
  whole : (content : List ℕ) → IsContent content → IsWhole content
  unfolding content_in
  whole content is =
      let framed = is_framed content is.bytes is.some is.most in
      rw (frame_reads content (frame_of content) framed, sym (frame_only content (frame_of content) framed)) refl

  pub keeps_always : KeepsAlways
  keeps_always r carry restarts j k valid typed below = drive_keeps r valid typed k below (given_before carry restarts j k) (all_heard carry restarts (k + 1) j)

  pub keeps_within : KeepsWithin
  keeps_within r carry restarts sent j k valid typed below = drive_keeps r valid typed k below (given_mst carry restarts sent j k) (mst_heard carry restarts sent j k)

  pub spelled_next : SpelledNext
  spelled_next r jobs carry restarts t j valid typed jobs_typed next =
      let s = known_of r in
      let known = ring_known IsRing-is_ring r valid typed in
      let p = behind_mdt r jobs carry restarts t.sent j in
      record {
        mst = whole (mst_in t.sent) (subst IsContent (sym (ap mst_in next.sent)) (mst_whole _ (phase_low s (tasks_for s jobs) (begins r carry restarts j))));
        ats = λ content is.
            let high = (address_of r is.place valid is.inside).1 in
            whole content (subst IsContent (sym is.content_is) (at_content (drive_at r is.place) r.rate (given_mst carry restarts t.sent j is.place) is.says (omega (arith, high)) (keeps_within r carry restarts t.sent j is.place valid typed is.inside) is.said));
        mdt = λ m said. whole m.content (mdt_whole s p m known (is_planned s (tasks_for s jobs) (middle r carry restarts t.sent j)) said);
        shown = λ i below. shows_word (drive_at r i).busy (cycle_in (after_mst r carry restarts t.sent j i)) (commands_in (drive_at r i) r.rate (after_mst r carry restarts t.sent j i)) (records_in (after_mst r carry restarts t.sent j i))
            (keeps_within r carry restarts t.sent j i valid typed below).records;
        said = λ i. says _ ((typed_past s known (ring_timed r known valid) (λ k. all_members r k valid typed) (tasks_for s jobs) (is_planned s (tasks_for s jobs)) (λ k. tasks_so s jobs k jobs_typed) (middle r carry restarts t.sent j)).begun i);
      }
