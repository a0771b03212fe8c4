-- A bench for the definitions: a master, and drives that answer each step at once, with telegrams that are lost and drives that
-- refuse. A drive answers what the master's channel waits for, so this tries the master alone.
use Rattle.sercos_master.proofs.Words.{ℕ, zero, suc, ◌+◌, ◌-◌, ◌/◌, ◌%◌, ◌==◌, nat_le, Bool, true, false, not, ◌&&◌, ◌||◌, if◌then◌else◌, List, [], ◌∷◌, ◌++◌, length, replicate, Option, Some, None, slice_index, slice_index_or, cond, mst_content, word_bytes, Request, Answer, Begun, mhs_in, begun_by, EventsView, is_place, Known, Task, member, Past, Turn, new_epoch, after_mst, after_at, after_mdt, after_end, after_restart, addressed_before, events_told, restart_told}
use Rattle.sercos_step.specs.declared.request.Request.TheVariants as request

-- what happens in a cycle: the master restarts; its MST is lost; the AT of a drive is lost
pub record Script : Type 0 where
  pub restarts : ℕ → Bool
  pub mst_lost : ℕ → Bool
  pub at_lost : ℕ → ℕ → Bool

-- a drive, by identifier number: the words of the operation data, the attribute, the code with which the last word of a write is
-- refused, or 0, and the data status of a procedure command that was set
pub record Drive : Type 0 where
  pub words : ℕ → List ℕ
  pub attribute : ℕ → ℕ
  pub refuses : ℕ → ℕ
  pub status : ℕ → ℕ

-- values by place as a table, so that each is computed once
abbrev listed : {A : Type 0} → ℕ → ℕ → (ℕ → A) → List A
listed k zero f = []
listed k (suc n) f = f k ∷ listed (k + 1) n f

abbrev looked_up : {A : Type 0} → List A → A → ℕ → A
looked_up xs x k = slice_index_or xs k x

abbrev tabled : {A : Type 0} → ℕ → A → (ℕ → A) → ℕ → A
tabled n x f = looked_up (listed 0 n f) x

abbrev tabled_turn : ℕ → Turn → Turn
tabled_turn n t = record t { heard = tabled n false t.heard; report = tabled n None t.report }

abbrev pub computed : Known → Past → Past
computed s p = record p {
  waiting = tabled (length s.drives) [] p.waiting;
  now = tabled_turn (length s.drives) p.now;
  calls = tabled (length s.drives) [] p.calls;
  tasks = tabled (length s.drives) [] p.tasks;
}

-- The answer to a step of a request, by how many were answered before. Each has the step that opens the data block, and two that
-- read its attribute.
abbrev last_of_write : ℕ → ℕ → Bool
last_of_write raw i = if (raw == 16) || (raw == 24) then i == 5 else (if raw == 47 then i == 4 else i == 3)

abbrev attribute_word : Drive → ℕ → ℕ → ℕ
attribute_word d raw i = if i == 1 then d.attribute raw % 65536 else d.attribute raw / 65536

abbrev answer_for : Drive → Request → ℕ → Answer
answer_for d (request.Read idn e) i =
    record { error = false; word = if i == 0 then 0 else (if nat_le 3 i then slice_index (d.words idn.raw) (i - 3) else attribute_word d idn.raw i) }
answer_for d (request.Write idn e bytes) i =
    if last_of_write idn.raw i && not (d.refuses idn.raw == 0) then record { error = true; word = d.refuses idn.raw }
    else record { error = false; word = if (i == 0) || nat_le 3 i then 0 else attribute_word d idn.raw i }
answer_for d (request.Command idn) i = record { error = false; word = if i == 2 then d.status idn.raw else 0 }

abbrev answer_to : Drive → List Begun → Answer
answer_to d [] = record { error = false; word = 0 }
answer_to d (b ∷ past) = answer_for d b.request (length b.answers)

abbrev status_word : Bool → Answer → ℕ
status_word ahs a = cond ahs 1 0 + cond a.error 4 0

abbrev at_of : Known → ℕ → Drive → ℕ → List Begun → List ℕ
at_of s values d k begun = (member s k).address ∷ word_bytes (status_word (mhs_in begun) (answer_to d begun)) ++ word_bytes (answer_to d begun).word ++ replicate values 0

abbrev sends_at : Past → ℕ → Bool
sends_at p k = nat_le 3 p.now.phase || (nat_le 1 p.now.phase && is_place k (addressed_before p.turns))

abbrev values_in : Past → ℕ
values_in p = if nat_le 3 p.now.phase then 4 else 0

abbrev hear_from : Known → List Drive → Script → ℕ → Past → Past
hear_from s [] x k p = p
hear_from s (d ∷ drives) x k p =
    hear_from s drives x (k + 1) (if sends_at p k && not (x.at_lost p.cycle k) then computed s (after_at s (at_of s (values_in p) d k (begun_by (p.calls k))) p) else p)

abbrev restarted : Script → Past → Past
restarted x p = if x.restarts p.cycle then after_restart p else p

abbrev mst_of : Script → Past → Option (List ℕ)
mst_of x p = if x.mst_lost p.cycle then None else Some (mst_content p.now.phase)

abbrev heard_mst : Script → Past → Past
heard_mst x p = after_mst (mst_of x p) p

-- a cycle up to its MDT, and whole
abbrev pub before_end : Known → List Drive → Script → Past → Past
before_end s drives x p = computed s (after_mdt s (hear_from s drives x 0 (heard_mst x (restarted x p))))

abbrev pub run : Known → (ℕ → List Task) → List Drive → Script → ℕ → Past
run s requests drives x zero = new_epoch 0 requests
run s requests drives x (suc n) = computed s (after_end s (before_end s drives x (run s requests drives x n)))

abbrev pub no_events : EventsView
no_events = record { outcomes = []; plan = None; stop = None; fall = None }

abbrev events_before : Known → Script → Past → EventsView
events_before s x p = if x.restarts p.cycle then restart_told s p no_events else no_events

-- what is reported in cycle n
abbrev pub events : Known → (ℕ → List Task) → List Drive → Script → ℕ → EventsView
events s requests drives x n =
    events_told s (before_end s drives x (run s requests drives x n)) (events_before s x (run s requests drives x n))

abbrev pub quiet : Script
quiet = record { restarts = λ c. false; mst_lost = λ c. false; at_lost = λ c k. false }
