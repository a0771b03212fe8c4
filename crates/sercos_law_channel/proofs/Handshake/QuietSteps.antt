-- Steps that write no operation data add no write.
use Rattle.sercos_law_channel.proofs.Words.{◌≡◌, ℕ, Bool, true, false, not, ◌&&◌, List, [], ◌∷◌, ◌++◌, length, drop, refl, ◌∙◌, if◌then◌else◌, ◌==◌, list_all, cond_both, Step, Request, shape_of, words_told, reading, asks_attribute, steps_of, answer_words, Entry, takes_effect, replies_of, WritesNothing, is_silent}
use Rattle.sercos_step.specs.declared.request.Request.TheVariants as request
use Rattle.sercos_law_channel.proofs.Options.{all_at}
use Rattle.sercos_law_channel.proofs.Handshake.TransferSteps.{newest_step, without_newest, adds_none}
use Rattle.sercos_law_channel.proofs.Handshake.StepTests.{attribute_passes, reading_passes, run_passes}

abbrev is_quiet : Step → Bool
is_quiet s = not (s.write && (s.element == 7))

abbrev are_quiet : List Step → Bool
are_quiet steps = list_all is_quiet steps

other_quiet : (v : Bool) (x y : List Step) → not v ≡ true → are_quiet y ≡ true → are_quiet (if v then x else y) ≡ true
other_quiet true x y off of_y = absurd (cc)
other_quiet false x y off of_y = of_y

request_quiet : (r : Request) (words : List ℕ) → is_silent r ≡ true → are_quiet (steps_of r words) ≡ true
request_quiet (request.Read idn e) words silent = cond_both (asks_attribute e) _ _ (λ l. are_quiet l ≡ true)
    (λ on. attribute_passes is_quiet (λ attribute after. reading (shape_of e attribute) e after) (drop 1 words) (λ last word. refl)
    (λ word after. reading_passes is_quiet (shape_of e word) e after (λ last word. refl)))
    (λ off. reading_passes is_quiet (shape_of e 0) e (drop 1 words) (λ last word. refl))
request_quiet (request.Write idn e bytes) words silent = other_quiet (e == 7) _ _ silent (run_passes is_quiet true e (words_told (shape_of e 0) bytes) (λ last word. silent))
request_quiet (request.Command idn) words silent = absurd (cc)

quiet_effect : (e : Entry) → is_quiet e.processed.step ≡ true → takes_effect e ≡ false
quiet_effect e quiet = by e.processed.step.write (e.processed.step.element == 7) quiet
  where
    by : (w v : Bool) → not (w && v) ≡ true → (w && (v && (e.processed.step.last && not e.answer.error))) ≡ false
    by true true off = absurd (cc)
    by true false off = refl
    by false v off = refl

-- a read, and a write of another element, adds no write
pub writes_nothing : WritesNothing
writes_nothing r blocks e [] log silent is =
    let steps = request_quiet r [] silent in
    adds_none e log (quiet_effect e (all_at is_quiet (steps_of r []) 0 e.processed.step steps (newest_step r blocks log e [] is)))
writes_nothing r blocks e (d ∷ entries) log silent is =
    let words = answer_words (replies_of (d ∷ entries)) in
    let steps = request_quiet r words silent in
    adds_none e ((d ∷ entries) ++ log) (quiet_effect e (all_at is_quiet (steps_of r words) (length words) e.processed.step steps (newest_step r blocks log e (d ∷ entries) is)))
    ∙ writes_nothing r blocks d entries log silent (without_newest r blocks log e d entries is)
