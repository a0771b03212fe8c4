-- The newest cycle, by whether its MDT has come.
use Rattle.std.proofs.Common.{◌≡◌, List, [], ◌∷◌, ◌++◌, Some, None, sym, ap}
use Rattle.sercos_trace.specs.Views.{SentView}
use Rattle.sercos_replay.specs.Cycles.{Cycle, at_after, mdt_after, with_at, with_mdt}

pub with_at-open : (sent : SentView) (t : Cycle) (j : List Cycle) → t.mdt ≡ None → with_at sent (t ∷ j) ≡ record t { ats = t.ats ++ sent ∷ [] } ∷ j
with_at-open sent t j none = ap (λ m. at_after m sent t ∷ j) none

pub with_at-closed : (sent mdt : SentView) (t : Cycle) (j : List Cycle) → t.mdt ≡ Some mdt → with_at sent (t ∷ j) ≡ t ∷ j
with_at-closed sent mdt t j some = ap (λ m. at_after m sent t ∷ j) some

pub with_mdt-open : (sent : SentView) (t : Cycle) (j : List Cycle) → t.mdt ≡ None → with_mdt sent (t ∷ j) ≡ record t { mdt = Some sent } ∷ j
with_mdt-open sent t j none = ap (λ m. mdt_after m sent t ∷ j) none

pub with_mdt-closed : (sent mdt : SentView) (t : Cycle) (j : List Cycle) → t.mdt ≡ Some mdt → with_mdt sent (t ∷ j) ≡ t ∷ j
with_mdt-closed sent mdt t j some = ap (λ m. mdt_after m sent t ∷ j) some

-- a cycle with no MDT is itself
pub without_mdt : (t : Cycle) → t.mdt ≡ None → record t { mdt = None } ≡ t
without_mdt t none = ap (λ m. record t { mdt = m }) (sym none)
