-- Transfers that are refused at the cancel, worked out from the definitions: so neither condition of the law can be left out.
use Rattle.sercos_law_channel.proofs.Words.{◌≡◌, ℕ, Bool, true, false, List, [], ◌∷◌, refl, arith, Option, Some, None, Attribute, Two, Request, Step, Answer, a_step, outcome_of, Block, CommandHistory, Entry, good, refused, writes_of, replies_of, IsTransfer, setting, bytes_written, write_cause}
use Rattle.sercos_idn.specs.declared.kinds.Form.TheVariants as forms
use Rattle.sercos_step.specs.declared.request.Request.TheVariants as request
use Rattle.sercos_step.specs.declared.request.Outcome.TheVariants as outcome

-- a procedure command, or a number, of two bytes, that is write protected from phase 3 on or in no phase
abbrev pub attribute : Bool → Bool → Attribute
attribute command protected = record {
  factor = 1;
  length = Two;
  command = command;
  form = forms.Unsigned;
  decimals = 0;
  protect2 = false;
  protect3 = protected;
  protect4 = protected;
  decimals_in_range = omega arith;
  command_is_two = λ on. refl;
}

abbrev pub block_of : Attribute → Option ℕ → List ℕ → Block
block_of a min value = record { idn = record { raw = 1 }; attribute = a; name = None; unit = None; min = min; max = None; value = value; max_len = 0; fixed = false; step = 0; fails = false }

abbrev pub commands : CommandHistory
commands = record { rate = 2; time = 3; calls = [] }

abbrev asked : Request
asked = request.Command (record { raw = 1 })

abbrev entry : ℕ → ℕ → Bool → Block → Step → Answer → Entry
entry cycle phase mhs b step answer = record { processed = record { cycle = cycle; phase = phase; mhs = mhs; step = step; blocks = b ∷ []; commands = commands }; answer = answer }

-- it is set in phase 2, and its data status is 0
abbrev others : Block → List Entry
others b = entry 2 2 true b (a_step false true 1 0) (good 0) ∷ entry 1 2 false b (a_step true true 7 3) (good 0) ∷ entry 0 2 true b (a_step true true 1 1) (good 0) ∷ []

abbrev last : ℕ → Block → ℕ → Entry
last phase b code = entry 3 phase false b (a_step true true 7 0) (refused code)

-- a procedure command that is write protected at the cancel, and wasn't at the setting
abbrev command : Block
command = block_of (attribute true true) None (0 ∷ 0 ∷ [])

transfer : IsTransfer asked (command ∷ []) (last 3 command 0x7005) (others command) []
unfolding bytes_written write_cause
transfer = record { steps = refl; in_turn = (((tt, refl), refl), refl); goes_on = refl; replies = ((((tt, refl), refl), refl), refl); alike = ((((tt, refl), refl), refl), refl) }

is_refused : (outcome_of asked (replies_of (last 3 command 0x7005 ∷ others command)) ≡ Some (outcome.Refused (record { raw = 0x7005 })))
    × (writes_of (last 3 command 0x7005 ∷ others command) ≡ setting 1 3 (entry 1 2 false command (a_step true true 7 3) (good 0)) ∷ [])
unfolding bytes_written
is_refused = (refl, refl)

-- a number whose minimum is 1
abbrev number : Block
number = block_of (attribute false true) (Some 1) (0 ∷ 0 ∷ [])

number_transfer : IsTransfer asked (number ∷ []) (last 2 number 0x7006) (others number) []
unfolding bytes_written write_cause
number_transfer = record { steps = refl; in_turn = (((tt, refl), refl), refl); goes_on = refl; replies = ((((tt, refl), refl), refl), refl); alike = ((((tt, refl), refl), refl), refl) }

number_refused : (outcome_of asked (replies_of (last 2 number 0x7006 ∷ others number)) ≡ Some (outcome.Refused (record { raw = 0x7006 })))
    × (writes_of (last 2 number 0x7006 ∷ others number) ≡ setting 1 3 (entry 1 2 false number (a_step true true 7 3) (good 0)) ∷ [])
unfolding bytes_written
number_refused = (refl, refl)
