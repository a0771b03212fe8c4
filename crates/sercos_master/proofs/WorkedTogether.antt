-- What happens together in one cycle, computed from the definitions: two falls, two stops, two outcomes of one drive; and data records
-- that are too long for an MDT.
use Rattle.sercos_master.proofs.Words.{◌≡◌, ℕ, ◌+◌, ◌==◌, nat_le, ◌&&◌, if◌then◌else◌, List, [], ◌∷◌, ◌++◌, map, replicate, Some, refl, range_with_len, Outcome, record_bytes, wishes_given, last_long_stop, Known}
use Rattle.sercos_step.specs.declared.request.Outcome.TheVariants as outcome
use Rattle.sercos_trace.specs.declared.events.Stop.TheVariants as stop
use Rattle.sercos_trace.specs.declared.events.Fall.TheVariants as fall
use Rattle.sercos_telegram.specs.Faults as Faults
use Rattle.sercos_telegram.specs.Spells as Spells
use Rattle.sercos_telegram.specs.Words as Words
use Rattle.sercos_block.specs.Rings as Rings
use Rattle.sercos_idn.specs.Codes as Codes
use Rattle.sercos_idn.specs.Attributes as Attributes
use Rattle.sercos_plan.specs.ChainOf as ChainOf
use Rattle.sercos_plan.specs.LeastTimes as LeastTimes
use Rattle.sercos_master.proofs.Bench.{Script, Drive, events, no_events, quiet}
use Rattle.sercos_master.proofs.Runs.{idn, ring, drive, no_requests, write_and_read, holding_1, losing, losing_msts, invalid, two, both}

-- TWO FALLS. In 120 and 121 the own MSTs are lost and the drive's ATs: the ring falls for its MSTs alone.
abbrev losing_all : ℕ → ℕ → Script
losing_all first last = record quiet {
  mst_lost = λ c. nat_le first c && nat_le c last;
  at_lost = λ c k. nat_le first c && nat_le c last;
}

-- In 200 and 201 the ATs of both drives are lost: it falls for the first drive; and for the second one, if that one's alone are lost.
mst_first : (events ring no_requests (drive ∷ []) (losing_all 120 121) 121 ≡ record no_events { fall = Some fall.MstLost })
    × (events two no_requests both (losing 200 201) 201 ≡ record no_events { fall = Some (fall.AtLost 1) })
    × (events two no_requests both (record quiet { at_lost = λ c k. (k == 1) && (nat_le 200 c && nat_le c 201) }) 201
    ≡ record no_events { fall = Some (fall.AtLost 2) })
unfolding Faults.mst_fault Faults.head_fault Spells.word_bytes Spells.word_at Spells.fields Words.status_of Rings.attribute_in Codes.attribute_fault Attributes.attribute_of ChainOf.chain_of LeastTimes.least_plan LeastTimes.least_t2 LeastTimes.least_t3
mst_first = (refl, refl, refl)

-- TWO STOPS. In 188 both drives' lists of what is outside its limits have been read: the stop is that of the first drive, and no other
-- is reported.
abbrev both_invalid : List Drive
both_invalid = invalid ∷ invalid ∷ []

not_yet : (events two no_requests both_invalid quiet 187 ≡ no_events)
    × (events two no_requests both_invalid quiet 188
    ≡ record no_events { stop = Some (stop.Check128 1 (record { items = idn 32778 ∷ [] })) })
    × (events two no_requests both_invalid quiet 189 ≡ no_events)
unfolding Faults.mst_fault Faults.head_fault Spells.word_bytes Spells.word_at Spells.fields Words.status_of Rings.attribute_in Codes.attribute_fault Attributes.attribute_of ChainOf.chain_of LeastTimes.least_plan LeastTimes.least_t2 LeastTimes.least_t3
not_yet = (refl, refl, refl)

-- TWO OUTCOMES. In 105 the write is complete, the read is begun, and the ring falls for its MSTs, which breaks the read.
two_outcomes : events ring write_and_read holding_1 (losing_msts 104 105) 105
    ≡ record no_events { outcomes = (1, outcome.Complete []) ∷ (2, outcome.Broken) ∷ []; fall = Some fall.MstLost }
unfolding Faults.mst_fault Faults.head_fault Spells.word_bytes Spells.word_at Spells.fields Words.status_of Rings.attribute_in Codes.attribute_fault Attributes.attribute_of ChainOf.chain_of LeastTimes.least_plan LeastTimes.least_t2 LeastTimes.least_t3
two_outcomes = refl

-- RECORDS TOO LONG. No ring document has records of more than 2,047 bytes; undetected damage may have the master read that each of
-- sixteen numbers of 31 drives has four bytes, but for the last drive's last one, which has two. Then that drive's fifteenth is named.
abbrev sixteen : List ℕ
sixteen = range_with_len 100 16

abbrev many : Known
many = record {
  rate = 4;
  cycle = 250;
  control = 250;
  gap = 5;
  order = range_with_len 0 31;
  drives = map (λ k. record { address = k + 1; slave = k + 1; at = []; mdt = map idn sixteen }) (range_with_len 0 31);
}

abbrev long_word : Outcome
long_word = outcome.Complete (1 ∷ 0 ∷ 34 ∷ 0 ∷ [])

abbrev short_word : Outcome
short_word = outcome.Complete (1 ∷ 0 ∷ 17 ∷ 0 ∷ [])

abbrev damaged : ℕ → List Outcome
damaged k = replicate 6 (outcome.Complete (10 ∷ 0 ∷ [])) ++ replicate 15 long_word ++ (if k == 30 then short_word else long_word) ∷ []

too_long : (record_bytes (wishes_given many damaged).drives ≡ 2106)
    × (last_long_stop many.drives 0 damaged ≡ Some (stop.BadConfig 31 (idn 114) 0x00220001))
unfolding Rings.attribute_in Codes.attribute_fault Attributes.attribute_of
too_long = (refl, refl)
