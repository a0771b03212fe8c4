-- The test whether a request names an element that a transfer takes.
use Rattle.std.proofs.Common.{◌≡◌, ℕ, ◌≤◌, true, nat_le, ◌&&◌, refl, arith}
use Rattle.std.proofs.lemmas.Bool.Decides.{nat_tests}
use Rattle.sercos_step.specs.declared.request.Request.{Request}
use Rattle.sercos_step.specs.declared.request.Request.TheVariants as request
use Rattle.sercos_step.specs.Steps.{IsRequest}
use Rattle.sercos_seat.specs.Ring.{is_request}

within : (low e : ℕ) → (nat_le low e && nat_le e 7) ≡ true → (low ≤ e) × (e ≤ 7)
within low e is = (grind (arith, nat_tests, is), grind (arith, nat_tests, is))

is_within : (low e : ℕ) → low ≤ e → e ≤ 7 → (nat_le low e && nat_le e 7) ≡ true
is_within low e above below = grind (arith, nat_tests, above, below)

pub takes : (r : Request) → is_request r ≡ true → IsRequest r
takes (request.Read idn e) is = within 1 e is
takes (request.Write idn e bytes) is = within 2 e is
takes (request.Command idn) is = tt

pub is_one : (r : Request) → IsRequest r → is_request r ≡ true
is_one (request.Read idn e) is = is_within 1 e is.0 is.1
is_one (request.Write idn e bytes) is = is_within 2 e is.0 is.1
is_one (request.Command idn) is = refl
