-- What each record of an epoch keeps is so of all its records; and an entry of their log is that of a record, with those before it.
use Rattle.sercos_law_run.proofs.Words.{◌≡◌, Bool, true, false, List, [], ◌∷◌, ◌++◌, length, refl, sym, ap, ◌∙◌, subst, if◌then◌else◌, beq, cond_both, Option, Some, Processed, Entry, ahs, accepted, answered, log_of, reply_of, with_record, View, epoch_records, unless_restart, processed_in, record_in, stood_in, standing, Nothing, Record, processes}

pub epoch_next : (P : List Processed → Type 0) (v : View) (past : List View) → P []
    → ((t : Processed) → processed_in v past ≡ Some t → t.blocks ≡ v.blocks → t.commands ≡ v.commands → P
    (unless_restart v (epoch_records past)) → P (t ∷ unless_restart v (epoch_records past)))
    → P (epoch_records past) → P (epoch_records (v ∷ past))
epoch_next P v past none one all =
    let kept = cond_both v.master_restarts [] (epoch_records past) P (λ on. none) (λ off. all) in
    cond_both v.falls [] _ P (λ on. none) (λ off. (elim (processes v past) [
      | Nothing nothing ↦ subst (λ (o : Option Processed). P (with_record o (unless_restart v (epoch_records past)))) (sym nothing) kept
      | Record s got came two some ↦ subst (λ (o : Option Processed). P (with_record o (unless_restart v (epoch_records past)))) (sym some)
          (one (record_in v (length past) (stood_in v (standing past)) s) some refl refl kept)
    ]))

-- The property goes on to the records before each.
pub at_entry : (P : List Processed → Type 0) → ((t : Processed) (h : List Processed) → P (t ∷ h) → P h)
    → (h : List Processed) (newer : List Entry) (e : Entry) (behind : List Entry)
    → P h → log_of h ≡ newer ++ e ∷ behind → (kept : List Processed) × (log_of kept ≡ behind) × P (e.processed ∷ kept)
at_entry P before [] [] e behind all is = absurd (cc)
at_entry P before [] (x ∷ newer) e behind all is = absurd (cc)
at_entry P before (t ∷ h) newer e behind all is = by (beq t.mhs (ahs h)) is (λ n more. at_entry P before h n e behind (before t h all) more)
  where
    one : (x : Entry) (n : List Entry) → x ∷ log_of h ≡ n ++ e ∷ behind → x.processed ≡ t
        → ((m : List Entry) → log_of h ≡ m ++ e ∷ behind → (kept : List Processed) × (log_of kept ≡ behind) × P (e.processed ∷ kept))
        → (kept : List Processed) × (log_of kept ≡ behind) × P (e.processed ∷ kept)
    one x [] is taken more =
        let first : x ≡ e = cc in
        let rest : log_of h ≡ behind = cc in
        (h, rest, subst (λ (y : Processed). P (y ∷ h)) (sym taken ∙ ap (λ (z : Entry). z.processed) first) all)
    one x (y ∷ n) is taken more = let rest : log_of h ≡ n ++ e ∷ behind = cc in more n rest

    by : (v : Bool) → answered (if v then accepted h else t ∷ accepted h) ≡ newer ++ e ∷ behind
        → ((m : List Entry) → log_of h ≡ m ++ e ∷ behind → (kept : List Processed) × (log_of kept ≡ behind) × P (e.processed ∷ kept))
        → (kept : List Processed) × (log_of kept ≡ behind) × P (e.processed ∷ kept)
    by true is more = more newer is
    by false is more = one (record { processed = t; answer = reply_of t (log_of h) }) newer is refl more
