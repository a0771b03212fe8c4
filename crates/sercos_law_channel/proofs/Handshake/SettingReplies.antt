-- Where the setting of a procedure command isn't refused, the block has two bytes, and its cancel isn't refused either, unless
-- it is write protected then.
use Rattle.sercos_law_channel.proofs.Words.{◌≡◌, ℕ, ◌/◌, ◌%◌, ◌<◌, Bool, true, false, not, ◌&&◌, List, [], ◌∷◌, refl, ap, ap₂, sym, ◌∙◌, arith, ◌==◌, ◌||◌, Option, Some, None, int_lt, then_some, option_or, none_of-or, none_of-then, Length, is_list, Step, Answer, a_step, Block, is_number, bits_in, meant, is_fixed, is_protected, find_block, is_below, is_above, Processed, Entry, open_idn, run_before, answer_by, is_first_word, ends_early, is_over, is_uneven, is_no_command_value, write_cause_in, reply_of, AreAlike, without_data, no_cause, bytes_written, write_cause, and-false, and_right, not_from_true, in_order}
use Rattle.sercos_idn.specs.declared.kinds.Length.TheVariants as len
use Rattle.sercos_law_channel.proofs.Handshake.AttributeReplies.{alike_there, reply-data}

-- A block that takes one word as the last has two bytes.
two_wanted : (l : Length) → (b : Block) → b.attribute.length ≡ l → ends_early b true (3 ∷ []) ≡ false → l ≡ len.Two
two_wanted len.Two b is fits = refl
two_wanted len.Four b is fits = let off : true ≡ false = rw is at fits in absurd (cc)
two_wanted len.List1 b is fits = let off : true ≡ false = rw is at fits in absurd (cc)
two_wanted len.List2 b is fits = let off : true ≡ false = rw is at fits in absurd (cc)
two_wanted len.List4 b is fits = let off : true ≡ false = rw is at fits in absurd (cc)

-- what a block is that takes a setting in a phase
pub record Allows (b : Block) (phase : ℕ) : Type 0 where
  pub two : b.attribute.length ≡ len.Two
  pub loose : is_fixed b ≡ false
  pub bare : is_protected b.attribute phase ≡ false

allows : (b : Block) (phase : ℕ) → write_cause b phase true (3 ∷ []) ≡ None → Allows b phase
unfolding write_cause
allows b phase none =
    let first = none_of-or (then_some (is_first_word (3 ∷ []) && is_fixed b) 0x7004) _ none in
    let second = none_of-or (then_some (is_protected b.attribute phase) 0x7005) _ first.1 in
    let third = none_of-or (then_some (ends_early b true (3 ∷ [])) 0x7002) _ second.1 in
    record {
      two = two_wanted b.attribute.length b refl (none_of-then (ends_early b true (3 ∷ [])) 0x7002 third.0);
      loose = none_of-then (is_first_word (3 ∷ []) && is_fixed b) 0x7004 first.0;
      bare = none_of-then (is_protected b.attribute phase) 0x7005 second.0;
    }

Allows-alike : (c b : Block) (phase : ℕ) → without_data c ≡ without_data b → Allows c phase → Allows b phase
Allows-alike c b phase same a = record {
  two = ap (λ (x : Block). x.attribute.length) (sym same) ∙ a.two;
  loose = ap is_fixed (sym same) ∙ a.loose;
  bare = ap (λ (x : Block). is_protected x.attribute phase) (sym same) ∙ a.bare;
}

pub two_bytes : (b : Block) (word : ℕ) → word < 256 → b.attribute.length ≡ len.Two → bytes_written b (word ∷ []) ≡ word ∷ 0 ∷ []
unfolding bytes_written
two_bytes b word small two = let low : word % 256 ≡ word = omega arith in let high : word / 256 ≡ 0 = omega arith in rw (two, low, high) refl

-- the reply to a last word of operation data
reply-word : (raw word : ℕ) (t : Processed) (all : List Entry) → t.step ≡ a_step true true 7 word → open_idn all ≡ Some raw → run_before true 7 all ≡ [] →
    reply_of t all ≡ answer_by (write_cause_in (find_block raw t.blocks) t.phase true (word ∷ [])) 0
reply-word raw word t all is opened before =
    reply-data t all raw (ap (λ (s : Step). s.write) is) (ap (λ (s : Step). s.element == 7) is) opened
    ∙ ap₂ (λ (s : Step) (run : List Processed). answer_by (write_cause_in (find_block raw t.blocks) t.phase s.last
    (in_order run (s.word ∷ []))) 0)
    is (ap (λ (s : Step). run_before s.write s.element all) is ∙ before)

pub set_allows : (raw : ℕ) (t : Processed) (all : List Entry) (blocks : List Block) (b : Block) → t.step ≡ a_step true true 7 3 → open_idn all ≡ Some raw → run_before true 7 all ≡ [] → AreAlike t.blocks blocks → find_block raw blocks ≡ Some b →
    (reply_of t all).error ≡ false → Allows b t.phase
set_allows raw t all blocks b is opened before alike found well =
    let (c, there, same) = alike_there raw t.blocks blocks b alike found in
    let none = no_cause _ 0 (ap (λ (a : Answer). a.error) (sym (reply-word raw 3 t all is opened before)) ∙ well) in
    Allows-alike c b t.phase same (allows c t.phase (sym (ap (λ (o : Option Block). write_cause_in o t.phase true (3 ∷ [])) there) ∙ none))

-- there is no cause against a cancel
or_none : (o p : Option ℕ) → o ≡ None → p ≡ None → option_or o p ≡ None
or_none None p none rest = rest
or_none (Some code) p none rest = absurd (cc)

then_none : (test : Bool) (code : ℕ) → test ≡ false → then_some test code ≡ None
then_none true code off = absurd (cc)
then_none false code off = refl

is_setting : (b : Block) → b.attribute.length ≡ len.Two → (is_uneven b (0 ∷ []) || is_no_command_value b true (0 ∷ [])) ≡ false
unfolding bytes_written
is_setting b two = rw two (and-false b.attribute.command)

below_none : (b : Block) (bytes : List ℕ) (o : Option ℕ) → is_number b.attribute ≡ false → is_below b bytes o ≡ false
below_none b bytes None off = refl
below_none b bytes (Some limit) off = ap (λ (v : Bool). v && int_lt (meant b.attribute (bits_in b.attribute bytes)) (meant b.attribute limit)) off

above_none : (b : Block) (bytes : List ℕ) (o : Option ℕ) → is_number b.attribute ≡ false → is_above b bytes o ≡ false
above_none b bytes None off = refl
above_none b bytes (Some limit) off = ap (λ (v : Bool). v && int_lt (meant b.attribute limit) (meant b.attribute (bits_in b.attribute bytes))) off

cancel_free : (b : Block) (phase : ℕ) → b.attribute.command ≡ true → Allows b phase → write_cause b phase true (0 ∷ []) ≡ None
unfolding write_cause
cancel_free b phase command a =
    let number = and_right (not (is_list b.attribute.length)) (not b.attribute.command) (not_from_true b.attribute.command command) in
    or_none _ _ (then_none (is_fixed b) 0x7004 a.loose)
    (or_none _ _ (then_none (is_protected b.attribute phase) 0x7005 a.bare)
    (or_none _ _ (then_none (ends_early b true (0 ∷ [])) 0x7002 (rw a.two refl))
    (or_none _ _ (then_none (is_over b true (0 ∷ [])) 0x7003 (rw a.two refl))
    (or_none _ _ (then_none (is_uneven b (0 ∷ []) || is_no_command_value b true (0 ∷ [])) 0x7008 (is_setting b a.two))
    (or_none _ _ (then_none (is_below b (bytes_written b (0 ∷ [])) b.min) 0x7006 (below_none b (bytes_written b (0 ∷ [])) b.min number))
    (then_none (is_above b (bytes_written b (0 ∷ [])) b.max) 0x7007 (above_none b (bytes_written b (0 ∷ [])) b.max number)))))))

-- so it isn't refused
pub cancels_well : (raw : ℕ) (t : Processed) (all : List Entry) (blocks : List Block) (b : Block) → t.step ≡ a_step true true 7 0 → open_idn all ≡ Some raw → run_before true 7 all ≡ [] → AreAlike t.blocks blocks → find_block raw blocks ≡ Some b →
    b.attribute.command ≡ true → Allows b t.phase → (reply_of t all).error ≡ false
cancels_well raw t all blocks b is opened before alike found command a =
    let (c, there, same) = alike_there raw t.blocks blocks b alike found in
    let none = cancel_free c t.phase (ap (λ (x : Block). x.attribute.command) same ∙ command) (Allows-alike b c t.phase (sym same) a) in
    ap (λ (x : Answer). x.error) (reply-word raw 0 t all is opened before ∙ ap (λ (o : Option ℕ). answer_by o 0)
    (ap (λ (o : Option Block). write_cause_in o t.phase true (0 ∷ [])) there ∙ none))
