-- A script without a flip only cuts.
use Rattle.std.proofs.Common.{◌≡◌, ℕ, zero, suc, ◌+◌, ◌==◌, Bool, false, List, [], ◌∷◌, ◌++◌, take, drop, Option, Some, None, option_and_then, sym, ◌∙◌, ap, append_assoc, append-nil, take-append-drop}
use Rattle.std.specs.List.{filter, list_any}
use Rattle.std.proofs.lemmas.Bool.{cond_both, or_parts, true≢false}
use Rattle.sercos_script.specs.declared.fault.Damage.{Damage}
use Rattle.sercos_script.specs.declared.fault.Damage.TheVariants.{Lose, Flip, Cut, Deaf, Restart}
use Rattle.sercos_script.specs.declared.fault.Fault.{Fault}
use Rattle.sercos_script.specs.Scripts.{concerns, over_fault, over_link, over_links, is_deaf, links_between, carried}
use Rattle.sercos_script.specs.Cuts.{is_flip, has_flip, IsCut, UnflippedOnlyCuts}

whole : (bits : List Bool) → IsCut bits (Some bits)
whole bits = ([], sym (append-nil bits))

-- what is cut again is cut
cut_again : (f : List Bool → Option (List Bool)) → ((came : List Bool) → IsCut came (f came)) → (bits : List Bool) (o : Option (List Bool)) → IsCut bits o → IsCut bits (option_and_then f o)
cut_again f cuts bits None is = tt
cut_again f cuts bits (Some came) (rest, is) = by (f came) (cuts came)
  where
    by : (o : Option (List Bool)) → IsCut came o → IsCut bits o
    by None cut = tt
    by (Some left) (more, cut) = (more ++ rest, is ∙ ap (λ (l : List Bool). l ++ rest) cut ∙ append_assoc left more rest)

fault_cuts : (d : Damage) → is_flip d ≡ false → (link : ℕ) (bits : List Bool) → IsCut bits (over_fault d link bits)
fault_cuts (Lose at) plain link bits = cond_both (at == link) None (Some bits) (IsCut bits) (λ _. tt) (λ _. whole bits)
fault_cuts (Flip at bit) plain link bits = absurd (true≢false plain)
fault_cuts (Cut at bit) plain link bits = cond_both (at == link) (Some (take bit bits)) (Some bits) (IsCut bits) (λ _. (drop bit bits, sym (take-append-drop bit bits))) (λ _. whole bits)
fault_cuts (Deaf station) plain link bits = whole bits
fault_cuts (Restart station) plain link bits = whole bits

-- those faults that a test selects, on one link
link_cuts : (test : Fault → Bool) (faults : List Fault) → has_flip faults ≡ false → (link : ℕ) (bits : List Bool) → IsCut bits (over_link (filter test faults) link bits)
link_cuts test [] plain link bits = whole bits
link_cuts test (f ∷ faults) plain link bits =
    let (one, others) = or_parts (is_flip f.damage) (has_flip faults) plain in
    let cuts : (came : List Bool) → IsCut came (over_link (filter test faults) link came) = link_cuts test faults others link in
    cond_both (test f) (f ∷ filter test faults) (filter test faults) (λ (l : List Fault). IsCut bits (over_link l link bits)) (λ _. cut_again (over_link (filter test faults) link) cuts bits (over_fault f.damage link bits) (fault_cuts f.damage one link bits)) (λ _. cuts bits)

links_cut : (faults : List Fault) → ((link : ℕ) (bits : List Bool) → IsCut bits (over_link faults link bits)) → (link count : ℕ) (bits : List Bool) → IsCut bits (over_links faults link count bits)
links_cut faults cuts link zero bits = whole bits
links_cut faults cuts link (suc more) bits = cut_again (over_links faults (link + 1) more) (links_cut faults cuts (link + 1) more) bits (over_link faults link bits) (cuts link bits)

pub unflipped_only_cuts : UnflippedOnlyCuts
unfolding carried
unflipped_only_cuts stations faults plain p bits =
    cond_both (list_any (λ (f : Fault). is_deaf p.to f.damage) (filter (concerns p) faults)) _ _ (IsCut bits) (λ _. tt) (λ _. links_cut (filter (concerns p) faults) (link_cuts (concerns p) faults plain) p.from (links_between stations p.from p.to) bits)
