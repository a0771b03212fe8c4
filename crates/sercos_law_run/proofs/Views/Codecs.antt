-- What was said is read back from what was sent.
use Rattle.sercos_law_run.proofs.Words.{◌≡◌, ◌⊎◌, inl, inr, ℕ, zero, suc, ◌+◌, ◌*◌, ◌/◌, ◌%◌, ◌<◌, ◌≤◌, Bool, true, false, ◌&&◌, List, [], ◌∷◌, ◌++◌, length, refl, sym, ap, ap₂, ◌∙◌, arith, if◌then◌else◌, cond, ◌==◌, nat_le, Option, Some, None, is_some, is_none, option_map, slice_index, le-leb, nat_tests, has, all_drives, mst_content, single_fault, joint_fault, head_fault-none, Block, number_at, carried_len, Shown, shown_by, said_by, mst_got, told_at, lies_within, mdt_got, shown_word, word_said, record_said, control_of, status_of, word_at, word_bytes, fields, head_fault, mst_fault, single_in}
use Rattle.sercos_service_master.specs.Begun.{Said}
use Rattle.sercos_drive.specs.Heard.{mst_in, joint_in}
use Rattle.sercos_law_run.proofs.Views.DriveSame.{said_to}

-- THE MST
pub mst_sound : (p : ℕ) → p ≤ 4 → mst_fault (all_drives ∷ p ∷ []) ≡ None
unfolding mst_fault head_fault
mst_sound p low = grind (arith, nat_tests, low)

mst_read : (p : ℕ) → p ≤ 4 → mst_in (all_drives ∷ p ∷ []) ≡ Some p
unfolding mst_in
mst_read p low = rw (mst_sound p low) refl

pub mst_clear : (p : ℕ) (came : Option (List ℕ)) → p ≤ 4 → (came ≡ None) ⊎ (came ≡ Some (mst_content p)) → mst_got came ≡ (if is_some came then Some p else None)
mst_clear p came low (inl none) = rw none refl
mst_clear p came low (inr same) = rw same (mst_read p low)

-- THE WORDS of a record, or of an AT, wherever it stands in a content
word_next : (x : ℕ) (xs : List ℕ) (n : ℕ) → word_at (x ∷ xs) (suc n) ≡ word_at xs n
unfolding word_at
word_next x xs n = let e : suc n + 1 ≡ suc (n + 1) = omega arith in rw e refl

pub first_word : (front : List ℕ) (w i position : ℕ) (values rest : List ℕ) → w < 65536 → length front ≡ position → word_at (front ++ fields w i values ++ rest) position ≡ w
unfolding word_at fields word_bytes
first_word [] w i zero values rest low is = omega arith
first_word [] w i (suc position) values rest low is = absurd (omega arith)
first_word (x ∷ front) w i zero values rest low is = absurd (omega arith)
first_word (x ∷ front) w i (suc position) values rest low is = word_next x (front ++ fields w i values ++ rest) position ∙ first_word front w i position values rest low (omega arith)

pub second_word : (front : List ℕ) (w i position : ℕ) (values rest : List ℕ) → i < 65536 → length front ≡ position → word_at (front ++ fields w i values ++ rest) (position + 2) ≡ i
unfolding word_at fields word_bytes
second_word [] w i zero values rest low is = omega arith
second_word [] w i (suc position) values rest low is = absurd (omega arith)
second_word (x ∷ front) w i zero values rest low is = absurd (omega arith)
second_word (x ∷ front) w i (suc position) values rest low is = let e : suc position + 2 ≡ suc (position + 2) = omega arith in ap (word_at (x ∷ (front ++ fields w i values ++ rest))) e ∙ word_next x (front ++ fields w i values ++ rest) (position + 2) ∙ second_word front w i position values rest low (omega arith)

-- THE CONTROL WORD
bit : (a b c : Bool) (e : ℕ) → (has (cond a 1 0 + cond b 2 0 + cond c 4 0 + 8 * e) 1 ≡ a) × (has (cond a 1 0 + cond b 2 0 + cond c 4 0 + 8 * e) 2 ≡ b) × (has (cond a 1 0 + cond b 2 0 + cond c 4 0 + 8 * e) 4 ≡ c)
bit true true true e = (grind (arith, nat_tests), grind (arith, nat_tests), grind (arith, nat_tests))
bit true true false e = (grind (arith, nat_tests), grind (arith, nat_tests), grind (arith, nat_tests))
bit true false true e = (grind (arith, nat_tests), grind (arith, nat_tests), grind (arith, nat_tests))
bit true false false e = (grind (arith, nat_tests), grind (arith, nat_tests), grind (arith, nat_tests))
bit false true true e = (grind (arith, nat_tests), grind (arith, nat_tests), grind (arith, nat_tests))
bit false true false e = (grind (arith, nat_tests), grind (arith, nat_tests), grind (arith, nat_tests))
bit false false true e = (grind (arith, nat_tests), grind (arith, nat_tests), grind (arith, nat_tests))
bit false false false e = (grind (arith, nat_tests), grind (arith, nat_tests), grind (arith, nat_tests))

element : (a b c : Bool) (e : ℕ) → e < 8 → (cond a 1 0 + cond b 2 0 + cond c 4 0 + 8 * e) / 8 % 8 ≡ e
element true true true e low = omega arith
element true true false e low = omega arith
element true false true e low = omega arith
element true false false e low = omega arith
element false true true e low = omega arith
element false true false e low = omega arith
element false false true e low = omega arith
element false false false e low = omega arith

-- what a control word and an information word say is what was said
pub said_back : (said : Said) → said.step.element < 8 → said_by (control_of (word_said said)) said.step.word ≡ said
unfolding control_of
said_back said low =
    let bits = bit said.mhs said.step.write said.step.last said.step.element in
    made bits.0 bits.1 bits.2 (element said.mhs said.step.write said.step.last said.step.element low)
  where
    make : Bool → Bool → Bool → ℕ → Said
    make a b c e = record { mhs = a; step = record { write = b; last = c; element = e; word = said.step.word } }

    made : {a b c : Bool} {e : ℕ} → a ≡ said.mhs → b ≡ said.step.write → c ≡ said.step.last → e ≡ said.step.element → make a b c e ≡ said
    made p q r t = rw (p, q, r, t) refl

small_word : (said : Said) → said.step.element < 8 → word_said said < 65536
small_word said low = by said.mhs said.step.write said.step.last
  where
    by : (a b c : Bool) → cond a 1 0 + cond b 2 0 + cond c 4 0 + 8 * said.step.element < 65536
    by true true true = omega arith
    by true true false = omega arith
    by true false true = omega arith
    by true false false = omega arith
    by false true true = omega arith
    by false true false = omega arith
    by false false true = omega arith
    by false false false = omega arith

-- what stands at a position is what was said there
pub told_back : (said : Said) (front values rest : List ℕ) (position : ℕ) → said.step.element < 8 → said.step.word < 65536 → length front ≡ position → said_to (told_at (front ++ record_said said values ++ rest) position) ≡ said
told_back said front values rest position low small is =
    ap₂ (λ (w i : ℕ). said_by (control_of w) i) (first_word front (word_said said) said.step.word position values rest (small_word said low) is) (second_word front (word_said said) said.step.word position values rest small is)
    ∙ said_back said low

-- THE MDT of phase 2: the drive gets the record where the address is its own, and else none
single_sound : (address w i : ℕ) → single_fault address (address ∷ fields w i []) ≡ None
unfolding fields word_bytes
single_sound address w i = head_fault-none 5 address (address ∷ fields w i []) refl refl

single_wrong : (address other w i : ℕ) → (other == address) ≡ false → is_none (single_fault address (other ∷ fields w i [])) ≡ false
unfolding head_fault fields word_bytes
single_wrong address other w i off = rw off refl

pub single_clear : (said : Said) (address phase : ℕ) (blocks : List Block) → phase ≤ 2 → said.step.element < 8 → said.step.word < 65536 → option_map said_to (mdt_got address phase blocks (Some (address ∷ record_said said []))) ≡ Some said
unfolding single_in fields word_bytes
single_clear said address phase blocks early low small =
    let not_late : nat_le 3 phase ≡ false = grind (arith, nat_tests, early) in
    rw (not_late, single_sound address (word_said said) said.step.word) (ap (λ (x : Said). Some x) (told_back said (address ∷ []) [] [] 1 low small refl))

pub single_other : (said : Said) (address other phase : ℕ) (blocks : List Block) → phase ≤ 2 → (other == address) ≡ false → mdt_got address phase blocks (Some (other ∷ record_said said [])) ≡ None
unfolding single_in
single_other said address other phase blocks early off =
    let not_late : nat_le 3 phase ≡ false = grind (arith, nat_tests, early) in
    rw (not_late, single_wrong address other (word_said said) said.step.word off) refl

-- THE MDT of phases 3 and 4: the drive gets the record at its place, where its length and places are these
pub joint_clear : (said : Said) (address phase : ℕ) (blocks : List Block) (front values rest : List ℕ) → 3 ≤ phase → said.step.element < 8 → said.step.word < 65536 → slice_index (front ++ record_said said values ++ rest) 0 ≡ all_drives →
    1 ≤ number_at blocks 9 → length front ≡ number_at blocks 9 → number_at blocks 9 + carried_len blocks 24 ≤ number_at blocks 10 + 1 → length (front ++ record_said said values ++ rest) ≡ 1 + number_at blocks 10 →
    option_map said_to (mdt_got address phase blocks (Some (front ++ record_said said values ++ rest))) ≡ Some said
unfolding joint_in
joint_clear said address phase blocks front values rest late low small head one place within long =
    let is_late : nat_le 3 phase ≡ true = le-leb 3 phase late in
    let lies : lies_within (number_at blocks 10) (number_at blocks 9) (carried_len blocks 24) ≡ true = ap₂ (λ (a b : Bool). a && b) (le-leb 1 (number_at blocks 9) one) (le-leb (number_at blocks 9 + carried_len blocks 24) (number_at blocks 10 + 1) within) in
    let sound : joint_fault (number_at blocks 10) (front ++ record_said said values ++ rest) ≡ None = head_fault-none (1 + number_at blocks 10) all_drives (front ++ record_said said values ++ rest) long head in
    rw (is_late, lies, sound) (ap (λ (x : Said). Some x) (told_back said front values rest (number_at blocks 9) low small place))

-- THE AT: what is heard of it is what the drive shows
status_bits : (a b c d : Bool) → (has (0 + cond a 1 0 + cond b 2 0 + cond c 4 0 + cond d 32 0) 1 ≡ a) × (has (0 + cond a 1 0 + cond b 2 0 + cond c 4 0 + cond d 32 0) 2 ≡ b) × (has (0 + cond a 1 0 + cond b 2 0 + cond c 4 0 + cond d 32 0) 4 ≡ c) × (has (0 + cond a 1 0 + cond b 2 0 + cond c 4 0 + cond d 32 0) 32 ≡ d) × (0 + cond a 1 0 + cond b 2 0 + cond c 4 0 + cond d 32 0 < 65536)
status_bits true true true true = (refl, refl, refl, refl, omega arith)
status_bits true true true false = (refl, refl, refl, refl, omega arith)
status_bits true true false true = (refl, refl, refl, refl, omega arith)
status_bits true true false false = (refl, refl, refl, refl, omega arith)
status_bits true false true true = (refl, refl, refl, refl, omega arith)
status_bits true false true false = (refl, refl, refl, refl, omega arith)
status_bits true false false true = (refl, refl, refl, refl, omega arith)
status_bits true false false false = (refl, refl, refl, refl, omega arith)
status_bits false true true true = (refl, refl, refl, refl, omega arith)
status_bits false true true false = (refl, refl, refl, refl, omega arith)
status_bits false true false true = (refl, refl, refl, refl, omega arith)
status_bits false true false false = (refl, refl, refl, refl, omega arith)
status_bits false false true true = (refl, refl, refl, refl, omega arith)
status_bits false false true false = (refl, refl, refl, refl, omega arith)
status_bits false false false true = (refl, refl, refl, refl, omega arith)
status_bits false false false false = (refl, refl, refl, refl, omega arith)

pub at_clear : (s : Shown) (address : ℕ) (values : List ℕ) → s.word < 65536
    → shown_by (status_of (word_at (address ∷ fields (shown_word s) s.word values) 1)) (word_at (address ∷ fields (shown_word s) s.word values) 3) ≡ s
unfolding status_of
at_clear s address values small =
    let bits = status_bits s.ahs s.busy s.error s.change in
    ap₂ (λ (w i : ℕ). shown_by (status_of w) i)
    (ap (λ (l : List ℕ). word_at (address ∷ l) 1) (sym (no_rest (fields (shown_word s) s.word values))) ∙ first_word (address ∷ []) (shown_word s) s.word 1 values [] bits.4 refl)
    (ap (λ (l : List ℕ). word_at (address ∷ l) 3) (sym (no_rest (fields (shown_word s) s.word values))) ∙ second_word (address ∷ []) (shown_word s) s.word 1 values [] small refl)
    ∙ made bits.0 bits.1 bits.2 bits.3
  where
    no_rest : (xs : List ℕ) → xs ++ [] ≡ xs
    no_rest [] = refl
    no_rest (x ∷ xs) = ap (λ (l : List ℕ). x ∷ l) (no_rest xs)

    make : Bool → Bool → Bool → Bool → Shown
    make a b c d = record { ahs = a; busy = b; error = c; change = d; word = s.word }

    made : {a b c d : Bool} → a ≡ s.ahs → b ≡ s.busy → c ≡ s.error → d ≡ s.change → make a b c d ≡ s
    made p q r t = rw (p, q, r, t) refl
