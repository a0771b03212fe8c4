-- What a drive keeps of its calls is what the views of its cycles give.
use Rattle.sercos_law_run.proofs.Words.{◌≡◌, ℕ, ◌+◌, Bool, true, false, ◌&&◌, List, [], ◌∷◌, Option, Some, None, refl, sym, ◌∙◌, ap, ap₂, if◌then◌else◌, ◌==◌, nat_le, is_some, option_map, Block, DriveView, store_of, Processed, Write, with_added, added_on, blocks_with, said_by, Told, DriveCall, mst_got, Moment, AtMst, phase_in, cycle_in, has_mst, has_missed, records_in, writes_in, blocks_in, blocks_after, write_in, commands_in, annals, may_rise, stands_in, takes, ends_in, mdt_moment, View, Standing, afresh, moved, stood_from, got_in, takes_in, standing_after, record_in, processed_of, with_record, kept_in_phase, kept_unless, write_of, with_restart, or_self_left, cases_Bool, inl, inr}
use Rattle.sercos_service_master.specs.Begun.{Said}
use Rattle.sercos_drive.specs.Moments.{with_record as with_record_in}
use Rattle.sercos_drive.specs.Annals.{processed_in}

-- the two words of a record, as what the master says
abbrev pub said_to : Told → Said
said_to t = said_by t.control t.info

-- The moments of a drive give this standing, these records, writes and blocks.
pub record IsSame (d : DriveView) (past : List Moment) (f : Standing) (h : List Processed) (w : List Write) (b : List Block) : Type 0 where
  pub ended : phase_in past ≡ f.ended
  pub got : has_mst past ≡ f.got_mst
  pub missed : has_missed past ≡ f.missed_mdt
  pub records : records_in past ≡ h
  pub writes : writes_in past ≡ w
  pub blocks : blocks_in d past ≡ b

-- before the first cycle
pub same_first : (d : DriveView) (rate : ℕ) → IsSame d (annals d rate []) afresh [] [] (store_of d)
same_first d rate = record { ended = refl; got = refl; missed = refl; records = refl; writes = refl; blocks = refl }

-- after a restart
pub same_restarted : (d : DriveView) (rate : ℕ) (restarts : Bool) (calls : List DriveCall) (f : Standing) (h : List Processed) (w : List Write) (b : List Block)
    → IsSame d (annals d rate calls) f h w b → IsSame d (annals d rate (with_restart restarts calls)) (if restarts then afresh else f) (kept_unless restarts h) w b
same_restarted d rate true calls f h w b s = record { ended = refl; got = refl; missed = refl; records = refl; writes = s.writes; blocks = s.blocks }
same_restarted d rate false calls f h w b s = s

-- AT THE MST'S PLACE
stood_same : (d : DriveView) (rate cycle : ℕ) (past : List Moment) (phase : ℕ) (comes checked : Bool) (f : Standing) → phase_in past ≡ f.ended → has_mst past ≡ f.got_mst
    → checked ≡ may_rise d rate cycle phase past
    → stands_in d rate cycle (if comes then Some phase else None) past ≡ (if comes then moved checked phase f.ended else (if f.got_mst then f.ended else 0))
stood_same d rate cycle past phase false checked f ended got passed = rw (ended, got) refl
stood_same d rate cycle past phase true checked f ended got passed =
    rw (passed, or_self_left (nat_le phase 2) _) (ap
    (λ (q : ℕ). if phase == q then phase else (if (phase == q + 1) && may_rise d rate cycle phase past then phase else 0)) ended)

some_got : (comes : Bool) (phase : ℕ) → is_some (if comes then Some phase else None) ≡ comes
some_got true phase = refl
some_got false phase = refl

-- what stands at the MST's place
abbrev pub standing_at : View → Standing → Standing
standing_at v f = record { got_mst = v.mst_comes; missed_mdt = f.missed_mdt; ended = stood_from v f }

pub same_at_mst : (d : DriveView) (rate cycle : ℕ) (past : List Moment) (came : Option (List ℕ)) (v : View) (f : Standing) (h : List Processed) (w : List Write) (b : List Block)
    → mst_got came ≡ (if v.mst_comes then Some v.phase else None) → v.checked ≡ may_rise d rate cycle v.phase past → IsSame d past f h w b
    → IsSame d (AtMst cycle (is_some (mst_got came)) (stands_in d rate cycle (mst_got came) past) ∷ past) (standing_at v f) (kept_in_phase (stood_from v f) h) w b
same_at_mst d rate cycle past came v f h w b got passed s =
    let stood : stands_in d rate cycle (mst_got came) past ≡ stood_from v f =
    ap (λ (o : Option ℕ). stands_in d rate cycle o past) got ∙ stood_same d rate cycle past v.phase v.mst_comes v.checked f s.ended s.got passed in
    record {
      ended = stood;
      got = ap (λ (o : Option ℕ). is_some o) got ∙ some_got v.mst_comes v.phase;
      missed = s.missed;
      records = ap₂ (λ (n : ℕ) (l : List Processed). kept_in_phase n l) stood s.records;
      writes = s.writes;
      blocks = s.blocks;
    }

-- AT THE MDT'S PLACE
pub processed_same : (d : DriveView) (rate cycle : ℕ) (past : List Moment) (told : Option Told) (v : View) (stood : ℕ) → cycle_in past ≡ cycle → phase_in past ≡ stood → has_mst past ≡ v.mst_comes
    → v.blocks ≡ blocks_in d past → v.commands ≡ commands_in d rate past → processed_in d rate told past ≡ processed_of v cycle stood (option_map said_to told)
processed_same d rate cycle past None v stood now ended got blocks commands = refl
processed_same d rate cycle past (Some t) v stood now ended got blocks commands = rw (now, ended, got, blocks, commands) refl

some_map : {A B : Type 0} (f : A → B) (o : Option A) → is_some (option_map f o) ≡ is_some o
some_map f None = refl
some_map f (Some x) = refl

-- each record that was processed was processed on the blocks and with the commands of the cycle
blocks_same : (v : View) (cycle stood : ℕ) (o : Option Said) (h : List Processed) (b : List Block) → v.blocks ≡ b
    → blocks_after (processed_of v cycle stood o) h b ≡ blocks_with (write_of (processed_of v cycle stood o) h) v.commands b
blocks_same v cycle stood None h b same = refl
blocks_same v cycle stood (Some s) h b same = elim (cases_Bool (v.mst_comes && nat_le 2 stood)) [
  | inl on ↦ rw on (ap (λ (l : List Block). blocks_with (added_on (record_in v cycle stood s) h) v.commands l) same)
  | inr off ↦ rw off
]

writes_same : (o : Option Processed) (h : List Processed) → write_in o h ≡ write_of o h
writes_same None h = refl
writes_same (Some t) h = refl

records_same : (o : Option Processed) (h : List Processed) → with_record_in o h ≡ with_record o h
records_same None h = refl
records_same (Some t) h = refl

pub same_at_mdt : (d : DriveView) (rate cycle : ℕ) (past : List Moment) (told : Option Told) (v : View) (f : Standing) (h : List Processed) (w : List Write) (b : List Block)
    → cycle_in past ≡ cycle → option_map said_to told ≡ got_in v → v.blocks ≡ blocks_in d past → v.commands ≡ commands_in d rate past
    → IsSame d past (standing_at v f) h w b
    → let o : Option Processed = processed_of v cycle (stood_from v f) (got_in v) in
    IsSame d (mdt_moment d rate told past ∷ past) (standing_after v (stood_from v f) f) (kept_in_phase (standing_after v (stood_from v f) f).ended (with_record o h))
    (with_added (write_of o h) w) (blocks_with (write_of o h) v.commands b)
same_at_mdt d rate cycle past told v f h w b now told_is blocks commands s =
    let stood : ℕ = stood_from v f in
    let one : processed_in d rate told past ≡ processed_of v cycle stood (got_in v) =
    processed_same d rate cycle past told v stood now s.ended s.got blocks commands ∙ ap (processed_of v cycle stood) told_is in
    let some : is_some told ≡ is_some (got_in v) = sym (some_map said_to told) ∙ ap (λ (x : Option Said). is_some x) told_is in
    let took : takes told past ≡ takes_in v stood = rw (s.got, s.ended, some) refl in
    let ended : ends_in told past ≡ (standing_after v stood f).ended = rw (took, s.ended, s.missed) refl in
    record {
      ended = ended;
      got = s.got;
      missed = rw (took, s.ended) refl;
      records = ap₂ (λ (n : ℕ) (l : List Processed). kept_in_phase n l) ended (rw (one, s.records) (records_same _ h));
      writes = rw (one, s.records, s.writes) (ap (λ (x : Option Write). with_added x w) (writes_same _ h));
      blocks = rw (one, s.records, s.blocks) (blocks_same v cycle stood (got_in v) h b (blocks ∙ s.blocks));
    }
