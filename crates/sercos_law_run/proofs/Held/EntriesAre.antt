-- What is so of the blocks and procedure commands of a drive in each cycle is so where each step was accepted.
use Rattle.sercos_law_run.proofs.Words.{Bool, true, false, List, [], ◌∷◌, ◌++◌, length, Option, sym, subst, if◌then◌else◌, ℕ, CommandHistory, Processed, Entry, View, standing, stood_in, record_in, kept_in, accepted_of, all_entries, Processes, Nothing, Record, processes, entry_behind, same_Some, Some, ap, ◌≡◌, ◌==◌, StepSaid, cases_Bool, inl, inr}

abbrev pub EntriesAre : (Processed → Type 0) → List Entry → Type 0
EntriesAre such [] = Unit {0}
EntriesAre such (e ∷ entries) = EntriesAre such entries × such e.processed

abbrev pub ViewsAre : (View → Type 0) → List View → Type 0
ViewsAre so [] = Unit {0}
ViewsAre so (v ∷ past) = ViewsAre so past × so v

pub entries_are : (such : Processed → Type 0) (so : View → Type 0)
    → ((v : View) (cycle stood : ℕ) (s : StepSaid) → so v → such (record_in v cycle stood s))
    → (past : List View) → ViewsAre so past → EntriesAre such (all_entries past)
entries_are such so each [] are = tt
entries_are such so each (v ∷ past) are = by (processes v past) (entries_are such so each past are.0)
  where
    taken : (same : Bool) (entry : Entry) → such entry.processed → EntriesAre such (all_entries past)
        → EntriesAre such (if same then all_entries past else entry ∷ all_entries past)
    taken true entry is before = before
    taken false entry is before = (before, is)

    by : Processes v past → EntriesAre such (all_entries past) → EntriesAre such (all_entries (v ∷ past))
    by (Nothing none) before = subst (λ (o : Option Processed). EntriesAre such (accepted_of o (kept_in v past) (all_entries past)))
        (sym none) before
    by (Record s got came two some) before =
        subst (λ (o : Option Processed). EntriesAre such (accepted_of o (kept_in v past) (all_entries past))) (sym some)
        (taken _ _ (each v (length past) (stood_in v (standing past)) s are.1) before)

pub entry_is : (such : Processed → Type 0) (front : List Entry) (e : Entry) (rest : List Entry) → EntriesAre such (front ++ e ∷ rest)
    → such e.processed
entry_is such [] e rest are = are.1
entry_is such (x ∷ front) e rest are = entry_is such front e rest are.0

-- an entry of a part, by how many come before it
pub record IsIn (e : Entry) (part : List Entry) : Type 0 where
  pub front : List Entry
  pub rest : List Entry
  pub split : part ≡ front ++ e ∷ rest

pub entry_in : (n : ℕ) (part : List Entry) (e : Entry) → entry_behind n part ≡ Some e → IsIn e part
entry_in n [] e got = absurd (cc)
entry_in n (x ∷ part) e got = elim (cases_Bool (length part == n)) [
  | inl on ↦ record { front = []; rest = part; split = ap (λ (y : Entry). y ∷ part) (same_Some x e (rw on at got)) }
  | inr off ↦
      let is = entry_in n part e (rw off at got) in
      record { front = x ∷ is.front; rest = is.rest; split = ap (λ (l : List Entry). x ∷ l) is.split }
]

-- what the procedure commands say
abbrev pub EntriesSay : (CommandHistory → Type 0) → List Entry → Type 0
EntriesSay such = EntriesAre (λ t. such t.commands)

abbrev pub ViewsSay : (CommandHistory → Type 0) → List View → Type 0
ViewsSay such = ViewsAre (λ v. such v.commands)

pub entries_say : (such : CommandHistory → Type 0) (past : List View) → ViewsSay such past → EntriesSay such (all_entries past)
entries_say such = entries_are (λ t. such t.commands) (λ v. such v.commands) (λ v cycle stood s is. is)
