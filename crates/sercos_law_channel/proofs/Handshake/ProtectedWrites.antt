-- Where a block is write protected, or fixed, no record adds a write to it.
use Rattle.sercos_law_channel.proofs.Words.{inr, inl, cases_Option, cases_Bool, ◌≡◌, ℕ, Bool, true, false, not, ◌&&◌, List, [], ◌∷◌, length, refl, sym, ap, ◌∙◌, subst, arith, if◌then◌else◌, ◌==◌, Option, Some, None, IfSome, option_map, option_and_then, then_some, and_parts, cond-false, cond_both, not-true, beq, none_of-or, none_of-then, Answer, Block, is_fixed, is_protected, find_block, write_fault, data_fault, put_fault, Processed, Entry, ahs, open_idn, run_before, in_order, is_first_word, write_cause_in, reply_of, log_of, Write, AreAlike, AreThose, written_by, with_added, adds, added_on, those_moved, View, standing, stood_in, record_in, processed_in, with_record, kept_in_phase, kept_unless, since_reset, kept_in, write_of, all_writes, AreSound, newest_to, StaysProtected, StaysQuiet, StaysFixed, write_cause, no_cause, ne_eqb, allowed}
use Rattle.sercos_law_channel.proofs.Handshake.AttributeReplies.{alike_there, reply-data}
use Rattle.sercos_law_channel.proofs.Handshake.PhaseMoves.{processed_phase, of_processed}

-- a write is to the identifier number that is open
written_raw : (t : Processed) (run : List Processed) (o : Option ℕ) (w : Write) → option_and_then (written_by t run) o ≡ Some w → o ≡ Some w.raw
written_raw t run None w is = absurd (cc)
written_raw t run (Some raw) w is = elim (cases_Option (find_block raw t.blocks)) [
  | inl none ↦ let is = rw none at is in absurd (cc)
  | inr some ↦ let is = rw some.1 at is in ap (λ (x : Option Write). option_map (λ (w : Write). w.raw) x) is
]

bare : (b : Block) (phase : ℕ) (last : Bool) (words : List ℕ) → write_cause b phase last words ≡ None → is_protected b.attribute phase ≡ false
unfolding write_cause
bare b phase last words none = none_of-then (is_protected b.attribute phase) 0x7005 (none_of-or (then_some (is_protected b.attribute phase) 0x7005) _ (none_of-or (then_some (is_first_word words && is_fixed b) 0x7004) _ none).1).0

-- what a step writes is not protected
adds_bare : (t : Processed) (log : List Entry) (w : Write) (blocks : List Block) (b : Block) → adds t log ≡ Some w → AreAlike t.blocks blocks → find_block w.raw blocks ≡ Some b → is_protected b.attribute t.phase ≡ false
adds_bare t log w blocks b is alike found = by (t.step.write && ((t.step.element == 7) && (t.step.last && not (reply_of t log).error))) refl is
  where
    by : (v : Bool) → (t.step.write && ((t.step.element == 7) && (t.step.last && not (reply_of t log).error))) ≡ v → (if v then option_and_then (written_by t (run_before true 7 log)) (open_idn log) else None) ≡ Some w → is_protected b.attribute t.phase ≡ false
    by false off is = absurd (cc)
    by true on is =
        let parts = and_parts t.step.write _ on in
        let more = and_parts (t.step.element == 7) _ parts.1 in
        let well = not-true (reply_of t log).error (and_parts t.step.last _ more.1).1 in
        let opened = written_raw t (run_before true 7 log) (open_idn log) w is in
        let words = in_order (run_before t.step.write t.step.element log) (t.step.word ∷ []) in
        let none = no_cause (write_cause_in (find_block w.raw t.blocks) t.phase t.step.last words) 0 (ap (λ (a : Answer). a.error) (sym (reply-data t log w.raw parts.0 more.0 opened)) ∙ well) in
        let (c, there, same) = alike_there w.raw t.blocks blocks b alike found in
        ap (λ (x : Block). is_protected x.attribute t.phase) (sym same) ∙ bare c t.phase t.step.last words
        (sym (ap (λ (o : Option Block). write_cause_in o t.phase t.step.last words) there) ∙ none)

pub added_bare : (t : Processed) (h : List Processed) (w : Write) (blocks : List Block) (b : Block) → added_on t h ≡ Some w → AreAlike t.blocks blocks → find_block w.raw blocks ≡ Some b → is_protected b.attribute t.phase ≡ false
added_bare t h w blocks b is alike found = elim (cases_Bool (beq t.mhs (ahs h))) [
  | inl on ↦ let is = rw on at is in absurd (cc)
  | inr off ↦ let is = rw off at is in adds_bare t (log_of h) w blocks b is alike found
]

-- a write to another identifier number
newest-other : (o : Option Write) (raw : ℕ) (writes : List Write) → ((w : Write) → o ≡ Some w → (w.raw == raw) ≡ false) → newest_to raw (with_added o writes) ≡ newest_to raw writes
newest-other None raw writes other = refl
newest-other (Some w) raw writes other = cond-false (w.raw == raw) _ _ (other w refl)

pub stays_protected : StaysProtected
stays_protected blocks v past raw b found alike on =
    of_processed v past (λ o. newest_to raw (with_added (write_of o (kept_in v past)) (all_writes past)) ≡ newest_to raw
    (all_writes past)) refl
    (λ s got came two. newest-other (added_on (record_in v (length past) (stood_in v (standing past)) s) (kept_in v past)) raw
    (all_writes past)
    (other (record_in v (length past) (stood_in v (standing past)) s) alike
    (ap (is_protected b.attribute) (processed_phase v past came (omega arith)) ∙ on)))
  where
    other : (t : Processed) → AreAlike t.blocks blocks → is_protected b.attribute t.phase ≡ true → (w : Write) → added_on t (kept_in v past) ≡ Some w → (w.raw == raw) ≡ false
    other t same kept w is = ne_eqb w.raw raw (λ at. let off = added_bare t (kept_in v past) w blocks b is same (ap (λ (n : ℕ). find_block n blocks) at ∙ found) in cc)

pub stays_quiet : StaysQuiet
stays_quiet v past low = of_processed v past (λ o. with_added (write_of o (kept_in v past)) (all_writes past) ≡ all_writes past) refl
    (λ s got came two. let phase = processed_phase v past came (omega arith) in absurd (omega arith))

-- A fixed block.

free : (c : Block) (phase : ℕ) (bytes : List ℕ) → put_fault (Some c) phase bytes ≡ None → is_fixed c ≡ false
free c phase bytes none =
    let write = (none_of-or (write_fault (Some c) phase) (data_fault c bytes) none).0 in
    none_of-then (is_fixed c) 0x7004 (none_of-or (then_some (is_fixed c) 0x7004) (then_some (is_protected c.attribute phase) 0x7005) write).0

added_free : (blocks : List Block) (raw : ℕ) (b : Block) (t : Processed) (h : List Processed) (w : Write) → find_block raw blocks ≡ Some b → is_fixed b ≡ true →
    AreThose blocks h → AreAlike t.blocks blocks → added_on t h ≡ Some w → (w.raw == raw) ≡ false
added_free blocks raw b t h w found fixed those alike is = ne_eqb w.raw raw (λ at.
    let none : put_fault (find_block w.raw t.blocks) t.phase w.bytes ≡ None = subst (λ (o : Option Write). IfSome o (λ w. put_fault (find_block w.raw t.blocks) t.phase w.bytes ≡ None)) is (allowed t h (those_moved blocks t.blocks h alike those)) in
    let (c, there, same) = alike_there raw t.blocks blocks b alike found in
    let off = ap is_fixed (sym same) ∙ free c t.phase w.bytes (sym (ap (λ (o : Option Block). put_fault o t.phase w.bytes) there) ∙ ap
    (λ (n : ℕ). put_fault (find_block n t.blocks) t.phase w.bytes) (sym at) ∙ none) in
    cc)

those_in_phase : (blocks : List Block) (n : ℕ) (h : List Processed) → AreThose blocks h → AreThose blocks (kept_in_phase n h)
those_in_phase blocks n h those = cond_both (n == 0) [] h (AreThose blocks) (λ on. tt) (λ off. those)

pub those_kept : (blocks : List Block) (v : View) (past : List View) → AreThose blocks (since_reset past) → AreThose blocks (kept_in v past)
those_kept blocks v past those = those_in_phase blocks (stood_in v (standing past)) (kept_unless v.drive_restarts (since_reset past))
    (cond_both v.drive_restarts [] (since_reset past) (AreThose blocks) (λ on. tt) (λ off. those))

pub those_since : (blocks : List Block) (past : List View) → AreSound blocks past → AreThose blocks (since_reset past)
those_since blocks [] sound = tt
those_since blocks (v ∷ past) sound =
    let kept = those_kept blocks v past (those_since blocks past sound.0) in
    those_in_phase blocks (standing (v ∷ past)).ended (with_record (processed_in v past) (kept_in v past))
    (of_processed v past (λ o. AreThose blocks (with_record o (kept_in v past))) kept (λ s got came two. (sound.1.0, kept)))

pub stays_fixed : StaysFixed
stays_fixed blocks [] raw b sound found fixed = refl
stays_fixed blocks (v ∷ past) raw b sound found fixed =
    of_processed v past (λ o. newest_to raw (with_added (write_of o (kept_in v past)) (all_writes past)) ≡ newest_to raw
    (all_writes past)) refl
    (λ s got came two. newest-other (added_on (record_in v (length past) (stood_in v (standing past)) s) (kept_in v past)) raw
    (all_writes past)
    (λ w is. added_free blocks raw b (record_in v (length past) (stood_in v (standing past)) s) (kept_in v past) w found fixed
    (those_kept blocks v past (those_since blocks past sound.0)) sound.1.0 is))
    ∙ stays_fixed blocks past raw b sound.0 found fixed
