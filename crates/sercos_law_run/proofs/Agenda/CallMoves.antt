-- With each call of the master each channel goes by moves.
use Rattle.sercos_law_run.proofs.Words.{◌≡◌, inl, inr, ℕ, ◌<◌, Bool, true, false, not, ◌&&◌, List, [], ◌∷◌, length, refl, sym, ap, ap₂, ◌∙◌, subst, arith, if◌then◌else◌, ◌==◌, Option, Some, is_none, slice_index, and_parts, not-true, cases_eq, status_of, word_at, at_fault, begun_by, last_outcome, trouble_by, Known, Task, member, is_checked, is_ready, is_done_in, Call, HearMst, HearAt, End, Restart, Past, outcomes, is_awaited, wanted_len, after_taken, after_at, place_of, is_done, settled, begun, sent_to, is_sent_to, addressed_in, ready_to_send, past, hearing, none_troubled, no_stop_before, settles, each_passes, at_keeps, begins_next, end_keeps, settled_keeps, same_place, CallsAreMoves, GoesByMoves, AreMoves, newest, Channel, channel_at, new_channel, IsNextTask, IsDoneWith, Steps, Stays, Identifies, Hears, Plans, Begins, Moves, Within, Ends, Falls, cases_Bool, cases_Option, other_place, task_begun, MasterMdt, ChannelCall}
use Rattle.sercos_law_run.proofs.Views.MasterSame.{done_below}

module _ (s : Known) (k : ℕ) where
  -- an AT
  taken_moves : (i : ℕ) (content : List ℕ) (p : Past) → p.now.heard i ≡ false → Steps s k (channel_at p k) (channel_at (after_taken i content p) k)
  taken_moves i content p free = elim (cases_eq k i) [
    | inl same ↦ subst (λ (j : ℕ). Steps s k (channel_at p k) (channel_at (after_taken j content p) k)) same (here (subst (λ (j : ℕ). p.now.heard j ≡ false) (sym same) free))
    | inr other ↦ Stays (ap put (other_place k i other))
  ]
    where
      here : p.now.heard k ≡ false → Steps s k (channel_at p k) (channel_at (after_taken k content p) k)
      here off = subst (λ (on : Bool). Steps s k (channel_at p k) (record {
        phase = p.now.phase;
        waiting = p.waiting k;
        plan = p.plan;
        tasks = p.tasks k;
        begun = begun_by (if on then (hearing (p.now.phase == 1) k content p).calls else p.calls k);
        heard = if on then true else p.now.heard k;
        report = if on then (hearing (p.now.phase == 1) k content p).report else p.now.report k;
      })) (sym (same_place k)) (elim (cases_Bool (p.now.phase == 1)) [
        | inl on ↦ rw on (Identifies refl)
        | inr is ↦ rw is (Hears (status_of (word_at content 1)) (word_at content 3) off refl)
      ])

      put : Bool → Channel
      put on = record {
        phase = p.now.phase;
        waiting = p.waiting k;
        plan = p.plan;
        tasks = p.tasks k;
        begun = begun_by (if on then (hearing (p.now.phase == 1) i content p).calls else p.calls k);
        heard = if on then true else p.now.heard k;
        report = if on then (hearing (p.now.phase == 1) i content p).report else p.now.report k;
      }

  pub at_moves : (content : List ℕ) (p : Past) → Steps s k (channel_at p k) (channel_at (after_at s content p) k)
  at_moves content p = at_keeps (λ q. Steps s k (channel_at p k) (channel_at q k)) s (place_of s (slice_index content 0)) content p
      (Stays refl) (λ i place on.
      let more = (and_parts (is_awaited p i) (not (p.now.heard i) && is_none (at_fault (member s i).address (wanted_len s p i) content)) on).1 in
      taken_moves i content p (not-true (p.now.heard i) (and_parts (not (p.now.heard i)) _ more).0))

  -- what is looked for when the MDT is due
  pub settled_moves : (p : Past) → Steps s k (channel_at p k) (channel_at (settled s p) k)
  settled_moves p = settled_keeps (λ q. Steps s k (channel_at p k) (channel_at q k)) s p (λ rests. Stays refl) (λ x none brings. Stays refl)
      (λ plan makes. Plans plan makes.none makes.two refl)

  module _ (there : k < length s.drives) where
    -- what is begun, after the answers of the cycle are looked at
    pub begun_moves : (p : Past) → Steps s k (channel_at (settled s p) k) (channel_at (begun s (settled s p)) k)
    begun_moves p =
        elim (cases_Option (task_begun s (settled s p) k)) [ inl is ↦ Stays (rw is refl) | inr (t, is) ↦ Begins t (next t is) (rw is refl) ]
      where
        next : (t : Task) → task_begun s (settled s p) k ≡ Some t → IsNextTask s k (channel_at (settled s p) k) t
        next t is =
            let b = begins_next s (settled s p) k t is in
            let none = none_troubled s p 0 (length s.drives) k (no_stop_before s p b.unstopped) (omega arith) (omega (arith, there)) in
            let same = settles s p in record {
              two = b.late;
              idle = b.idle;
              next = b.next;
              in_phase = b.in_phase;
              well = ap₂ (λ (l : List Task) (c : List ChannelCall). trouble_by (member s k).address l (last_outcome (begun_by c))) (ap (λ (f : ℕ → List Task). f k) same.tasks) (ap (λ (f : ℕ → List ChannelCall). f k) same.calls) ∙ none;
            }

    pub sent_same : (addressed : Option ℕ) (p : Past) → channel_at (sent_to addressed p) k ≡ channel_at p k
    sent_same addressed p = elim (cases_Bool (is_sent_to p addressed k)) [ inl on ↦ rw on | inr off ↦ rw off ]

    -- the end of the cycle
    pub end_done : (p : Past) → is_done s p ≡ true → IsDoneWith s k (channel_at p k)
    end_done p done = record {
      below = done_below p.now.phase s p done;
      checked = λ two. each_passes (length s.drives) 0 (λ j. is_checked (member s j) (outcomes p j)) (subst (λ (n : ℕ). is_done_in n s p ≡ true) two done) k (omega arith) (omega (arith, there));
      ready = λ three. each_passes (length s.drives) 0 (λ j. is_ready (member s j) (outcomes p j)) (subst (λ (n : ℕ). is_done_in n s p ≡ true) three done) k (omega arith) (omega (arith, there));
    }

    -- so each call is moves
    pub call_moves : (requests : ℕ → List Task) (call : Call) (h : List Call) → GoesByMoves s k (channel_at (past s requests h) k) (channel_at (past s requests (call ∷ h)) k)
    call_moves requests (HearMst content) h = ([], tt, refl)
    call_moves requests (HearAt content) h = (channel_at (past s requests (HearAt content ∷ h)) k ∷ [], (tt, Within (at_moves content (past s requests h))), refl)
    call_moves requests MasterMdt h =
        let p = past s requests h in
        (channel_at (begun s (settled s p)) k ∷ channel_at (settled s p) k ∷ [], ((tt, Within (settled_moves p)), Within (begun_moves p)), sent_same (addressed_in s (ready_to_send s p)) (ready_to_send s p))
    call_moves requests End h = (
      channel_at (past s requests (End ∷ h)) k ∷ [],
      (
        tt,
        end_keeps (λ q. Moves s k (channel_at (past s requests h) k) (channel_at q k)) s (past s requests h) (Falls refl)
            (λ done is. Ends done (λ up. end_done (past s requests h) (is ∙ up)) refl),
      ),
      refl,
    )
    call_moves requests Restart h = (channel_at (past s requests (Restart ∷ h)) k ∷ [], (tt, Falls refl), refl)

    -- what each move keeps holds after any calls
    module _ (keeps : Channel → Type 0) (step : (c d : Channel) → Moves s k c d → keeps c → keeps d) where
      along : (c : Channel) (channels : List Channel) → AreMoves s k c channels → keeps c → keeps (newest c channels)
      along c [] are is = is
      along c (d ∷ channels) are is = step (newest c channels) d are.1 (along c channels are.0 is)

      pub always : (requests : ℕ → List Task) → keeps (new_channel (requests k)) → (h : List Call) → keeps (channel_at (past s requests h) k)
      always requests first [] = first
      always requests first (call ∷ h) =
          let moves = call_moves requests call h in
          subst keeps (sym moves.2) (along (channel_at (past s requests h) k) moves.0 moves.1 (always requests first h))

pub calls_are_moves : CallsAreMoves
calls_are_moves s requests call h k there = call_moves s k there requests call h
