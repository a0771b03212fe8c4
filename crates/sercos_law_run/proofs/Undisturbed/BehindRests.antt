-- Behind requests that have ended whatever comes is begun after them.
use Rattle.sercos_law_run.proofs.Words.{◌≡◌, Bool, true, false, if◌then◌else◌, List, [], ◌∷◌, ◌++◌, Option, Some, None, refl, sym, ap, subst, is_none, Request, Step, Begun, open_in, answers_it, answer_in, Heard, View, with_heard, with_begun, epoch_begun, begun_in, GoesOn, inl, inr, cases_Bool}
use Rattle.sercos_law_run.proofs.Agenda.OneTurn.{idle_hears}

-- these requests were begun first, and the recent ones after them
abbrev pub Follow : List Begun → List Begun → Type 0
Follow old now = (recent : List Begun) × (now ≡ recent ++ old)

heard_behind : (o : Option Heard) (recent old : List Begun) → open_in old ≡ None → Follow old (with_heard o (recent ++ old))
heard_behind None recent old rests = (recent, refl)
heard_behind (Some a) [] old rests = ([], idle_hears a.status a.word old (ap (λ (x : Option Step). is_none x) rests))
heard_behind (Some a) (b ∷ recent) old rests = elim (cases_Bool (answers_it (b ∷ (recent ++ old)) a.status)) [
  | inl on ↦ rw on (record b { answers = answer_in a.status a.word ∷ b.answers } ∷ recent, refl)
  | inr off ↦ rw off (b ∷ recent, refl)
]

begun_behind : (o : Option Request) (old now : List Begun) → Follow old now → Follow old (with_begun o now)
begun_behind None old now is = is
begun_behind (Some r) old now (recent, is) = (record { request = r; answers = [] } ∷ recent, ap (λ (l : List Begun). record { request = r; answers = [] } ∷ l) is)

-- in a cycle in which the master doesn't restart
pub follow_in : (v : View) (past : List View) (old : List Begun) → v.master_restarts ≡ false → open_in old ≡ None → Follow old (epoch_begun past) → Follow old (begun_in v past)
follow_in v past old stays rests (recent, is) = by v.master_restarts stays
  where
    by : (b : Bool) → b ≡ false → Follow old (with_begun v.begins (with_heard v.heard (if b then [] else epoch_begun past)))
    by true on = absurd (cc)
    by false off = begun_behind v.begins old (with_heard v.heard (epoch_begun past)) (subst (λ (l : List Begun). Follow old (with_heard v.heard l)) (sym is) (heard_behind v.heard recent old rests))

-- .. and neither falls in any of several
pub follow_on : (cycles past : List View) (old : List Begun) → GoesOn cycles → open_in old ≡ None → Follow old (epoch_begun past)
    → Follow old (epoch_begun (cycles ++ past))
follow_on [] past old goes rests is = is
follow_on (v ∷ cycles) past old goes rests is = elim (cases_Bool v.falls) [
  | inl on ↦ let on = rw on at goes.1 in absurd (cc)
  | inr off ↦ rw off (follow_in v (cycles ++ past) old goes.2 rests (follow_on cycles past old goes.0 rests is))
]
