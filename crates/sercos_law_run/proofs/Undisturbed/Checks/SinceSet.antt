-- What is so of a drive's blocks while its check for phase 4 is set, and then stays so, is so at each step that was accepted since. Each list
-- has its newest item first.
use Rattle.sercos_law_run.proofs.Words.{◌≡◌, ◌⊎◌, inl, inr, Bool, true, false, List, [], ◌∷◌, ◌++◌, length, Option, refl, sym, subst, if◌then◌else◌, is_some, beq, Block, CommandHistory, find_set, set_in, Processed, Entry, ahs, reply_of, log_of, View, standing, stood_in, record_in, kept_in, accepted_of, all_entries, Processes, Nothing, Record, processes}

abbrev pub IsSet : CommandHistory → Type 0
IsSet c = is_some (find_set 128 (set_in c)) ≡ true

-- at one of these steps the check was set
abbrev pub WasSet : List Entry → Type 0
WasSet [] = ⊥
WasSet (e ∷ entries) = IsSet e.processed.commands ⊎ WasSet entries

abbrev pub HaveSince : (List Block → Type 0) → List Entry → Type 0
HaveSince such [] = Unit {0}
HaveSince such (e ∷ entries) = HaveSince such entries × (WasSet (e ∷ entries) → such e.processed.blocks)

-- In each cycle the blocks are so if the check is set, or if they were so in the cycle before.
abbrev pub StaysFrom : (List Block → Type 0) → View → List View → Type 0
StaysFrom such v [] = Unit {0}
StaysFrom such v (u ∷ past) = such u.blocks → such v.blocks

abbrev pub AreKept : (List Block → Type 0) → List View → Type 0
AreKept such [] = Unit {0}
AreKept such (v ∷ past) = AreKept such past × (IsSet v.commands → such v.blocks) × StaysFrom such v past

abbrev LastHas : (List Block → Type 0) → List View → Type 0
LastHas such [] = Unit {0}
LastHas such (v ∷ past) = WasSet (all_entries (v ∷ past)) → such v.blocks

pub since_so : (such : List Block → Type 0) (past : List View) → AreKept such past → HaveSince such (all_entries past) × LastHas such past
since_so such [] kept = (tt, tt)
since_so such (v ∷ past) kept = by (processes v past) (since_so such past kept.0)
  where
    earlier : (older : List View) → StaysFrom such v older → LastHas such older → WasSet (all_entries older) → such v.blocks
    earlier [] stays last was = absurd was
    earlier (u ∷ older) stays last was = stays (last was)

    now : (e : Entry) → e.processed.commands ≡ v.commands → (WasSet (all_entries past) → such v.blocks) → WasSet (e ∷ all_entries past) → such v.blocks
    now e commands before (inl on) = kept.1 (subst IsSet commands on)
    now e commands before (inr was) = before was

    one : (same : Bool) (e : Entry) → e.processed.blocks ≡ v.blocks → e.processed.commands ≡ v.commands → HaveSince such (all_entries past) → (WasSet (all_entries past) → such v.blocks)
        → HaveSince such (if same then all_entries past else e ∷ all_entries past) × (WasSet (if same then all_entries past else e ∷ all_entries past) → such v.blocks)
    one true e blocks commands have before = (have, before)
    one false e blocks commands have before = ((have, λ was. subst such (sym blocks) (now e commands before was)), λ was. now e commands before was)

    by : Processes v past → HaveSince such (all_entries past) × LastHas such past → HaveSince such (all_entries (v ∷ past)) × (WasSet (all_entries (v ∷ past)) → such v.blocks)
    by (Nothing none) before =
        subst (λ (o : Option Processed). HaveSince such (accepted_of o (kept_in v past) (all_entries past)) × (WasSet (accepted_of o (kept_in v past) (all_entries past)) → such v.blocks)) (sym none)
        (before.0, earlier past kept.2 before.1)
    by (Record s got came two some) before =
        subst (λ (o : Option Processed). HaveSince such (accepted_of o (kept_in v past) (all_entries past)) × (WasSet (accepted_of o (kept_in v past) (all_entries past)) → such v.blocks)) (sym some)
        (one (beq s.mhs (ahs (kept_in v past))) (record { processed = record_in v (length past) (stood_in v (standing past)) s; answer = reply_of (record_in v (length past) (stood_in v (standing past)) s) (log_of (kept_in v past)) }) refl refl before.0
        (earlier past kept.2 before.1))

-- AT A STEP, if the check was set at one before it
pub since_at : (such : List Block → Type 0) (front : List Entry) (e : Entry) (rest : List Entry) → HaveSince such (front ++ e ∷ rest) → WasSet rest → such e.processed.blocks
since_at such [] e rest have was = have.1 (inr was)
since_at such (x ∷ front) e rest have was = since_at such front e rest have.0 was

pub was_more : (front rest : List Entry) → WasSet rest → WasSet (front ++ rest)
was_more [] rest was = was
was_more (x ∷ front) rest was = inr (was_more front rest was)
