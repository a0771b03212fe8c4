-- The state of the master's end of a channel, and the calls that led to it. Used in proofs alone.
use Rattle.std.specs.Prelude.{◌≡◌, ℕ, ◌≤◌, Bool, true, false, List, [], ◌∷◌, min, Option, None, IfSome, is_some, is_none, option_map, unwrap_or}
use Rattle.sercos_step.specs.Kept.{TransferView, TransferStandsFor}
use Rattle.sercos_service_master.specs.Begun.{Begun, open_in, mhs_in}
use Rattle.sercos_service_master.specs.Calls.{Call, begun_by, age_of, AreCalls}

-- The transfer in progress, if there is one; MHS; and the number of cycles that ended since the
-- open step was first sent, if it was, counted up to 64.
pub record MasterView : Type 0 where
  pub transfer : Option TransferView
  pub mhs : Bool
  pub age : Option ℕ

-- the invariant of every channel: a transfer that is kept isn't done, and without one no cycles are
-- counted
pub record IsChannel (v : MasterView) : Type 0 where
  pub goes_on : IfSome v.transfer (λ t. t.done ≡ false)
  pub counted : unwrap_or v.age 0 ≤ 64
  pub idle : is_none v.transfer ≡ true → v.age ≡ None

-- a transfer isn't done, and its state is that after the newest request and its answers
abbrev pub IsAtWork : TransferView → List Begun → Type 0
IsAtWork t [] = ⊥
IsAtWork t (b ∷ past) = (t.done ≡ false) × TransferStandsFor t b.request b.answers

-- the channel's state is that after its calls, the newest first
pub record MasterStandsFor (v : MasterView) (h : List Call) : Type 0 where
  pub each_in_turn : AreCalls h
  pub mhs_is : v.mhs ≡ mhs_in (begun_by h)
  pub open_is : is_some v.transfer ≡ is_some (open_in (begun_by h))
  pub work_is : IfSome v.transfer (λ t. IsAtWork t (begun_by h))
  pub age_is : v.age ≡ option_map (λ age. min age 64) (age_of h)
