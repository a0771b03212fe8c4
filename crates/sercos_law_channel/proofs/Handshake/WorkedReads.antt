-- A read worked out from the definitions: of a number of four bytes, 64500, that grows by 10 in each cycle.
use Rattle.sercos_law_channel.proofs.Words.{◌≡◌, ℕ, Bool, true, false, List, [], ◌∷◌, refl, arith, Some, None, Attribute, Four, Request, Step, a_step, outcome_of, Block, IsStore, Processed, Entry, good, replies_of, IsTransfer, entry_behind, bytes_at, AreBytes, attribute_fault, attribute_of, element_of, data_in, element_words}
use Rattle.sercos_idn.specs.declared.kinds.Form.TheVariants as forms
use Rattle.sercos_step.specs.declared.request.Request.TheVariants as request
use Rattle.sercos_step.specs.declared.request.Outcome.TheVariants as outcome
use Rattle.sercos_block.specs.Stores.{are_ascending, is_sound, is_typed}
use Rattle.sercos_law_channel.proofs.Handshake.WorkedCommands.{commands}

abbrev number : Attribute
number = record {
  factor = 1;
  length = Four;
  command = false;
  form = forms.Signed;
  decimals = 0;
  protect2 = false;
  protect3 = false;
  protect4 = false;
  decimals_in_range = omega arith;
  command_is_two = λ off. absurd (cc);
}

abbrev block : Block
block = record { idn = record { raw = 51 }; attribute = number; name = None; unit = None; min = None; max = None; value = 0xf4 ∷ 0xfb ∷ 0 ∷ 0 ∷ []; max_len = 0; fixed = false; step = 10; fails = false }

abbrev asked : Request
asked = request.Read (record { raw = 51 }) 7

abbrev records_in : ℕ → Bool → Step → Processed
records_in cycle mhs step = record { cycle = cycle; phase = 2; mhs = mhs; step = step; blocks = block ∷ []; commands = commands }

abbrev entry : ℕ → Bool → Step → ℕ → Entry
entry cycle mhs step word = record { processed = records_in cycle mhs step; answer = good word }

abbrev last : Entry
last = entry 104 true (a_step false true 7 0) 0

abbrev selection : Entry
selection = entry 103 false (a_step false false 7 0) 0xfffa

abbrev others : List Entry
others = selection ∷ entry 102 true (a_step false true 3 0) 0x22 ∷ entry 101 false (a_step false false 3 0) 1 ∷ entry 100 true (a_step true true 1 51) 0 ∷ []

-- the premises of the law on reads hold of it
transfer : IsTransfer asked (block ∷ []) last others []
unfolding attribute_fault attribute_of element_of element_words data_in
transfer = record { steps = refl; in_turn = ((((tt, refl), refl), refl), refl); goes_on = refl; replies = (((((tt, refl), refl), refl), refl), refl); alike = (((((tt, refl), refl), refl), refl), refl) }

completes : outcome_of asked (replies_of (last ∷ others)) ≡ Some (outcome.Complete (0xfa ∷ 0xff ∷ 0 ∷ 0 ∷ []))
unfolding attribute_fault attribute_of
completes = refl

store : IsStore (block ∷ [])
unfolding are_ascending is_sound is_typed
store = record { few = omega arith; ascending = refl; sound = refl; typed = refl }

bytes : AreBytes block.value
unfolding AreBytes
bytes = (omega arith, (omega arith, (omega arith, (omega arith, tt))))

-- the selection, and the bytes then
selects : (entry_behind 3 (last ∷ others) ≡ Some selection)
    × (bytes_at 51 7 block (records_in 103 false (a_step false false 7 0)) ≡ 0xfa ∷ 0xff ∷ 0 ∷ 0 ∷ [])
unfolding data_in
selects = (refl, refl)
