-- Captures whose verdicts are worked out by hand. The checker computes them from the definitions.
use Rattle.std.proofs.Common.{◌≡◌, ℕ, pos, negsuc, inl, inr, List, [], ◌∷◌, refl, arith, ap, sym, Bool, true, false}
use Rattle.std.proofs.lemmas.Bool.{false≢true}
use Rattle.sercos_model.specs.Bits.{low_bits, bits_of, number_of, is_odd}
use Rattle.sercos_model.specs.CheckSequence.{fcs_of, divided, added, sum_of}
use Rattle.sercos_hdlc.specs.Stuffed.{stuffed, frame_of}
use Rattle.sercos_telegram.specs.declared.layout.Kind.TheVariants as telegram
use Rattle.sercos_telegram.specs.Faults.{mst_fault, head_fault}
use Rattle.sercos_timing.specs.Examples.{small_drive, two_drives}
use Rattle.sercos_timing.proofs.Worked.{two_drives_valid}
use Rattle.sercos_trace.specs.declared.reading.Line.{Line}
use Rattle.sercos_trace.specs.declared.reading.Line.TheVariants as line
use Rattle.sercos_check.specs.declared.trouble.Trouble.TheVariants as trouble
use Rattle.sercos_check.specs.declared.awaited.Awaited.{Awaited}
use Rattle.sercos_check.specs.declared.awaited.Awaited.TheVariants as awaited
use Rattle.sercos_check.specs.Rules.{first_broken}
use Rattle.sercos_check.specs.Shape.{wishes_by}
use Rattle.sercos_check.specs.Verdicts.{IsClean, IsTrouble, IsWhole, IsShort}

-- the lines before the order of a ring of two drives, the newest first
abbrev drives : List Line
drives = line.Drive (small_drive 2 2 12 5 10) ∷ line.Drive (small_drive 1 1 10 5 10) ∷ line.Ring 4 250 250 5 2 ∷ line.Version ∷ []

abbrev order : ℕ → ℕ → Line
order first second = line.Order (record { items = first ∷ second ∷ [] })

abbrev head : List Line
head = order 1 2 ∷ drives

spelled : wishes_by head ≡ two_drives 250 10
spelled = refl

-- an MST of phase 3, and an AT of eight zeros after the address
abbrev mst : Line
mst = line.Telegram 0 (record { kind = telegram.Mst; start = negsuc 49; bits = 50; content = 255 ∷ 3 ∷ [] })

abbrev at : ℕ → ℕ → ℕ → Line
at address start bits = line.Telegram 0 (record { kind = telegram.At; start = pos start; bits = bits; content = address ∷ 0 ∷ 0 ∷ 0 ∷ 0 ∷ 0 ∷ 0 ∷ 0 ∷ 0 ∷ [] })

ring_clean : IsClean (line.Ring 4 250 250 5 2 ∷ line.Version ∷ [])
ring_clean = ((tt, (refl, tt), refl), (refl, tt), refl)

drives_clean : IsClean drives
drives_clean = ((ring_clean, (refl, tt), refl), (refl, tt), refl)

head_clean : IsClean head
head_clean = (drives_clean, (refl, two_drives_valid), refl)

-- a head alone is a clean capture; one that ends early isn't, nor is the empty text
head_is_whole : IsWhole head 5
head_is_whole = (head_clean, refl, refl)

ends_early : IsShort drives (trouble.Grammar 5)
ends_early = (drives_clean, refl, refl)

empty_is_short : IsShort [] (trouble.Grammar 1)
empty_is_short = (tt, refl, refl)

-- a drive line too few
abbrev is_drive : Awaited → Bool
is_drive awaited.Drive = true
is_drive _ = false

too_few_drives : IsTrouble (order 1 2 ∷ line.Drive (small_drive 1 1 10 5 10) ∷ line.Ring 4 250 250 5 2 ∷ line.Version ∷ []) (trouble.Grammar 4)
too_few_drives = inr ((ring_clean, (refl, tt), refl), (λ can. false≢true (sym (ap is_drive can.0)), refl))

-- an order with an address that no drive has, or one that lists a drive twice
no_such_drive : IsTrouble (order 1 3 ∷ drives) (trouble.Grammar 5)
no_such_drive = inr (drives_clean, (λ can. let low = can.1.order.within 1 (omega arith) in omega (arith, low), refl))

drive_twice : IsTrouble (order 2 2 ∷ drives) (trouble.Grammar 5)
drive_twice = inr (drives_clean, (λ can. can.1.order.once 0 1 (omega arith) (omega arith) refl, refl))

-- a line after the end
end_clean : IsClean (line.End ∷ head)
end_clean = (head_clean, (refl, tt), refl)

abbrev is_cycle : Awaited → Bool
is_cycle awaited.Cycle = true
is_cycle _ = false

second_end : IsTrouble (line.End ∷ line.End ∷ head) (trouble.Grammar 7)
second_end = inr (end_clean, (λ can. false≢true (ap is_cycle can.0), refl))

-- two ATs after an MST
mst_clean : IsClean (mst ∷ head)
unfolding frame_of stuffed low_bits bits_of number_of is_odd fcs_of divided added sum_of mst_fault head_fault first_broken
mst_clean = (head_clean, (refl, tt), refl)

at_clean : IsClean (at 1 40 105 ∷ mst ∷ head)
unfolding frame_of stuffed low_bits bits_of number_of is_odd fcs_of divided added sum_of mst_fault head_fault first_broken
at_clean = (mst_clean, (refl, tt), refl)

ats_are_whole : IsWhole (at 2 184 104 ∷ at 1 40 105 ∷ mst ∷ head) 8
unfolding frame_of stuffed low_bits bits_of number_of is_odd fcs_of divided added sum_of mst_fault head_fault first_broken
ats_are_whole = ((at_clean, (refl, tt), refl), refl, refl)

-- the second within the gap after the first
too_near : IsTrouble (at 2 140 104 ∷ at 1 40 105 ∷ mst ∷ head) (trouble.Violation 8 6)
unfolding frame_of stuffed low_bits bits_of number_of is_odd fcs_of divided added sum_of mst_fault head_fault first_broken
too_near = inr (at_clean, ((refl, tt), refl, refl))

-- the first a bit longer than its frame; the line after it changes nothing
too_long : IsTrouble (at 2 184 104 ∷ at 1 40 106 ∷ mst ∷ head) (trouble.Violation 7 2)
unfolding frame_of stuffed low_bits bits_of number_of is_odd fcs_of divided added sum_of mst_fault head_fault first_broken
too_long = inl (inr (mst_clean, ((refl, tt), refl, refl)))

-- the second of one byte: not the length of its frame
too_short : IsTrouble (line.Telegram 0 (record { kind = telegram.At; start = pos 184; bits = 104; content = 2 ∷ [] }) ∷ at 1 40 105 ∷ mst ∷ head) (trouble.Violation 8 2)
unfolding frame_of stuffed low_bits bits_of number_of is_odd fcs_of divided added sum_of mst_fault head_fault first_broken
too_short = inr (at_clean, ((refl, tt), refl, refl))
