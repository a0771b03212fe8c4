-- A drive that is in the commanded phase stays so in an undisturbed cycle.
use Rattle.sercos_law_run.proofs.Words.{◌≡◌, ◌⊎◌, inl, inr, ℕ, ◌+◌, true, false, List, ◌∷◌, sym, ap, ◌∙◌, View, commanded, up_by, IsPassed, IsUp, IsWhole}
use Rattle.sercos_law_channel.specs.Handshake.Runs.{IsRun}
use Rattle.sercos_law_channel.proofs.Theorems.{next_phase}

pub phase_next : (busy : ℕ) (v u : View) (past : List View) → IsRun busy (v ∷ u ∷ past) → u.falls ≡ false → v.master_restarts ≡ false → (u.phase ≡ v.phase) ⊎ (u.phase + 1 ≡ v.phase)
phase_next busy v u past run stays goes_on = elim (commanded v (u ∷ past) run.1.commanded) [
  | inl r ↦ let both : true ≡ false = sym r.0 ∙ goes_on in absurd (cc)
  | inr c ↦ elim (next_phase u past stays) [ inl same ↦ inl (sym same ∙ sym c.1) | inr up ↦ inr (sym up ∙ sym c.1) ]
]

pub up_next : (v u : View) (past : List View) → IsWhole v (u ∷ past) → IsPassed v (u ∷ past) → (u.phase ≡ v.phase) ⊎ (u.phase + 1 ≡ v.phase) → IsUp u past → IsUp v (u ∷ past)
up_next v u past whole passed next up = up_by v (u ∷ past) whole passed (elim next [ inl same ↦ inl (up.1 ∙ same) | inr more ↦ inr (ap (λ (n : ℕ). n + 1) up.1 ∙ more) ])
