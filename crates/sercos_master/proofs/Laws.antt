-- Laws on what the master looks back on, after any calls.
use Rattle.sercos_master.proofs.Words.{◌≡◌, ℕ, zero, suc, ◌+◌, ◌==◌, Bool, true, false, List, [], ◌∷◌, Option, Some, None, ap, subst, refl, sym, ◌∙◌, arith, if◌then◌else◌, none-some, slice_get, drop, Job, Known, Task, tasks_from, tasks_for, member, Past, Call, past, after_at_of, settled, count_requests, AreWaiting}
use Rattle.sercos_master.proofs.Keeping.{at_keeps, past_keeps}
use Rattle.sercos_master.proofs.Configured.{leaves}

-- what waits for the next epoch changes with an epoch alone
pub waiting_at : (s : Known) (place : Option ℕ) (content : List ℕ) (p : Past) → (after_at_of s place content p).waiting ≡ p.waiting
waiting_at s place content p = at_keeps (λ q. q.waiting ≡ p.waiting) s place content p refl (λ k there is. refl)

pub waiting_settled : (s : Known) (p : Past) → (settled s p).waiting ≡ p.waiting
waiting_settled s p = (leaves s p).waiting

pub get_dropped : {A : Type 0} (n : ℕ) (xs : List A) (i : ℕ) → slice_get (drop n xs) i ≡ slice_get xs (n + i)
get_dropped zero xs i = ap (slice_get xs) (omega arith)
get_dropped (suc n) [] i = refl
get_dropped (suc n) (x ∷ xs) i = let e : suc n + i ≡ suc (n + i) = omega arith in rw e (get_dropped n xs i)

abbrev phase_in : Option Task → ℕ
phase_in None = 4
phase_in (Some t) = t.phase

one_waits : (b : Bool) (t : Task) (tasks : List Task) → t.phase ≡ 4 → AreWaiting tasks → AreWaiting (if b then t ∷ tasks else tasks)
one_waits false t tasks four all j x e = all j x e
one_waits true t tasks four all zero x e = sym (ap phase_in e) ∙ four
one_waits true t tasks four all (suc j) x e = all j x e

pub tasks_wait : (address i : ℕ) (jobs : List Job) → AreWaiting (tasks_from address i jobs)
tasks_wait address i [] j t e = absurd (none-some _ e)
tasks_wait address i (job ∷ jobs) j t e =
    one_waits (job.drive == address) (record { phase = 4; number = Some i; request = job.request }) (tasks_from address (i + 1) jobs) refl (tasks_wait address (i + 1) jobs) j t e

-- the requests that wait are of phase 4, always
pub all_waiting : (s : Known) (requests : ℕ → List Task) (h : List Call) → ((k : ℕ) → AreWaiting (requests k)) → (k : ℕ) → AreWaiting ((past s requests h).waiting k)
all_waiting s requests h all k = past_keeps (λ p. AreWaiting (p.waiting k)) s requests (record {
  first = all k;
  mst = λ h whole are. are;
  taken = λ h i content inside is are. are;
  mdt = λ h are. subst (λ w. AreWaiting (w k)) (sym (waiting_settled s (past s requests h))) are;
  on = λ h done is are. are;
  new = λ h cycle are. λ i t e. are ((count_requests ((past s requests h).tasks k)) + i) t
      (sym (get_dropped (count_requests ((past s requests h).tasks k)) ((past s requests h).waiting k) i) ∙ e);
}) h

pub jobs_waiting : (s : Known) (jobs : List Job) (h : List Call) (k : ℕ) → AreWaiting ((past s (tasks_for s jobs) h).waiting k)
jobs_waiting s jobs h k = all_waiting s (tasks_for s jobs) h (λ i. tasks_wait (member s i).address 1 jobs) k
