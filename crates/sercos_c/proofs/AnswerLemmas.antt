-- What a sink over a slice holds after the top call, and what was returned.
use Rattle.std.proofs.Common.{◌≡◌, ◌<◌, ◌≤◌, ◌⊎◌, inl, inr, ℕ, Bool, true, false, List, [], ◌∷◌, ◌++◌, get_or, drop, take, length, Option, Some, refl, sym, ap, ◌∙◌, subst, append-nil, arith}
use Rattle.std.specs.Prelude.{IsTrue, if◌then◌else◌}
use Rattle.std.proofs.lemmas.List.{append_cancel_left, length-take, take_all}
use Rattle.std.proofs.lemmas.Bool.{le-leb, lt-leb}
use Rattle.sercos_model.proofs.StreamLemmas.{not_risen}
use Rattle.sercos_model.specs.Streams.{Rose, last_count}
use Rattle.sercos_io.specs.declared.status.Status.{Status}
use Rattle.sercos_io.specs.declared.status.Status.TheVariants.{Done, No, BadWords, Refused, ReadFault, WriteFault, Memory, TooLong}
use Rattle.sercos_answer.specs.Answer.{Answer}
use Rattle.sercos_call.specs.TopCall.{HasInput, IsInput, IsAnswer, IsCutShort, fault_status, writes_nothing}
use Rattle.sercos_c.specs.Answers.{IsCalled, IsReturned, Told}

-- something was appended
abbrev pub HasMore : List ℕ → List ℕ → Type 0
HasMore held held' = (text : List ℕ) × (held' ≡ held ++ text)

-- whatever the status
pub appended : (status : Status) (held held' : List ℕ) → (IsTrue (writes_nothing status) → held' ≡ held) → (status ≡ Done → HasMore held held')
    → (status ≡ No → HasMore held held') → (status ≡ Refused → HasMore held held') → (status ≡ WriteFault → HasMore held held') → HasMore held held'
unfolding writes_nothing
appended Done held held' nothing done nay refused fault = done refl
appended No held held' nothing done nay refused fault = nay refl
appended BadWords held held' nothing done nay refused fault = ([], nothing refl ∙ sym (append-nil held))
appended Refused held held' nothing done nay refused fault = refused refl
appended ReadFault held held' nothing done nay refused fault = ([], nothing refl ∙ sym (append-nil held))
appended WriteFault held held' nothing done nay refused fault = fault refl
appended Memory held held' nothing done nay refused fault = ([], nothing refl ∙ sym (append-nil held))
appended TooLong held held' nothing done nay refused fault = ([], nothing refl ∙ sym (append-nil held))

-- the two numbers that a sink over a slice has before its bytes stay
pub marks : (a b a' b' : ℕ) (front front' : List ℕ) → HasMore (a ∷ b ∷ front) (a' ∷ b' ∷ front') → (a' ≡ a) × (b' ≡ b)
marks a b a' b' front front' (text, is) = (ap (λ l. get_or l 0 0) is, ap (λ l. get_or l 1 0) is)

-- and where there were no bytes, what was appended are those that it has now
pub whole : (a b a' b' : ℕ) (front front' : List ℕ) → front ≡ [] → HasMore (a ∷ b ∷ front) (a' ∷ b' ∷ front')
    → a' ∷ b' ∷ front' ≡ (a ∷ b ∷ front) ++ front'
whole a b a' b' front front' empty (text, is) =
    is ∙ ap (λ l. (a ∷ b ∷ front) ++ l) (sym (ap (drop 2) is ∙ ap (λ l. l ++ text) empty))

pub told : (T : Option (List ℕ) → Option (List ℕ) → Option (List ℕ) → Option (List ℕ) → Type 0) (input left held held' text : List ℕ)
    → held' ≡ held ++ text → T (Some input) (Some left) (Some held) (Some held') → Told T input text
told T input left held held' text is says = (Some left, held, subst (λ (h : List ℕ). T (Some input) (Some left) (Some held) (Some h)) is says)

pub told_without : (T : Option (List ℕ) → Option (List ℕ) → Type 0) (held held' text : List ℕ) → held' ≡ held ++ text → T (Some held) (Some held')
    → (h : List ℕ) × T (Some h) (Some (h ++ text))
told_without T held held' text is says = (held, subst (λ (h : List ℕ). T (Some held) (Some h)) is says)

-- a slice has its bytes, whether they are read or not
pub has_input : (reads : Bool) (bytes : List ℕ) → HasInput reads (Some bytes) (if reads then bytes else [])
has_input true bytes = refl
has_input false bytes = tt

-- a long input is read, and so is the whole slice
pub is_read : (reads : Bool) (bytes : List ℕ) → 1048577 ≤ length (if reads then bytes else []) → (reads ≡ true) × (1048577 ≤ length bytes)
is_read true bytes long = (refl, long)
is_read false bytes long = absurd (omega arith)

-- what was read
pub input_is : (reads : Bool) (bytes left read : List ℕ) → IsInput reads (Some bytes) (Some left) read → read ≡ (if reads then bytes else [])
input_is true bytes left read is = sym (is.consumed ∙ ap (λ l. read ++ l) is.ended ∙ append-nil read)
input_is false bytes left read is = is.1

-- an answer was written whole
pub returned : (a : Answer) (held held' text : List ℕ) (room : ℕ) (status : Status) → IsAnswer a status (Some held) (Some held') → held' ≡ held ++ text
    → length text ≤ room → IsReturned a room status text
returned a held held' text room status is all few =
    let same : text ≡ a.output = append_cancel_left held text a.output (sym all ∙ is.written) in
    let fits : length a.output ≤ room = subst (λ (l : List ℕ). length l ≤ room) same few in
    record {
      status_is = is.status_is ∙ sym (ap (λ (b : Bool). if b then a.status else fault_status a.status) (le-leb _ _ fits));
      text_is = same ∙ sym (take_all room a.output fits);
    }

-- and one was cut where the room ended
pub cut : (reads : Bool) (answer : List ℕ → Answer) (bytes left held held' text : List ℕ) (room : ℕ) (status : Status)
    → IsCutShort reads answer status (Some bytes) (Some left) (Some held) (Some held') → held' ≡ held ++ text → length text ≡ room
    → IsReturned (answer (if reads then bytes else [])) room status text
cut reads answer bytes left held held' text room status is all full =
    let a : Answer = answer is.bytes in
    let same : text ≡ take is.count a.output = append_cancel_left held text (take is.count a.output) (sym all ∙ is.written) in
    let count : is.count ≡ room = omega (arith, ap length same, length-take is.count a.output, is.short, full) in
    let short : room < length a.output = subst (λ (n : ℕ). n < length a.output) count is.short in
    let here : is.bytes ≡ (if reads then bytes else []) = input_is reads bytes left is.bytes is.read in
    subst (λ (l : List ℕ). IsReturned (answer l) room status text) here (record {
      status_is = sym is.status_is ∙ sym (ap (λ (b : Bool). if b then a.status else fault_status a.status) (lt-leb _ _ short));
      text_is = same ∙ ap (λ n. take n a.output) count;
    })

-- a status is that of a failed write, or of a refusal, whose write may have failed, or another
pub by_status : {A : Type 0} (status : Status) → (status ≡ WriteFault → A) → (status ≡ Refused → A)
    → ((status ≡ WriteFault → ⊥) → (status ≡ Refused → ⊥) → A) → A
by_status Done fault refused other = other (λ e. absurd (cc)) (λ e. absurd (cc))
by_status No fault refused other = other (λ e. absurd (cc)) (λ e. absurd (cc))
by_status BadWords fault refused other = other (λ e. absurd (cc)) (λ e. absurd (cc))
by_status Refused fault refused other = refused refl
by_status ReadFault fault refused other = other (λ e. absurd (cc)) (λ e. absurd (cc))
by_status WriteFault fault refused other = fault refl
by_status Memory fault refused other = other (λ e. absurd (cc)) (λ e. absurd (cc))
by_status TooLong fault refused other = other (λ e. absurd (cc)) (λ e. absurd (cc))

-- no memory is an answer to everything
pub no_memory : (words : List (List ℕ)) (input : List ℕ) (room : ℕ) → IsCalled words input room Memory []
no_memory words input room = record {
  no_form = λ none. inl refl;
  too_long = λ some long. inl refl;
  answered = λ some few. inl refl;
  nothing = λ is. refl;
  readable = λ is. absurd (cc);
  promises = record {
    none_fits = λ is form. absurd (cc);
    least = λ is form. absurd (cc);
    margins = λ is form. absurd (cc);
    chain = λ is form. absurd (cc);
    violation = λ is form. absurd (cc);
    clean = λ is form. absurd (cc);
    differs = λ address is form. absurd (cc);
    agrees = λ address is form. absurd (cc);
    traced = λ is form. absurd (cc);
    summed = λ n is form. absurd (cc);
    saved = λ is form. absurd (cc);
    unsaved = λ is form. absurd (cc);
    restored = λ is form. absurd (cc);
    unrestored = λ is form. absurd (cc);
  };
}

pub take_none : (n : ℕ) (l : List ℕ) → n ≡ 0 → take n l ≡ []
take_none n l none = ap (λ k. take k l) none

pub taken_few : (p n : ℕ) (l : List ℕ) → length l ≡ n → length (take p l) ≤ n
taken_few p n l is = omega (arith, length-take p l, is)

pub taken_full : (p n : ℕ) (l : List ℕ) → length l ≡ n → p ≡ length l → length (take p l) ≡ n
taken_full p n l is full = omega (arith, length-take p l, is, full)

-- the count of faults of a sink over a slice
abbrev pub faults_if : Bool → ℕ
faults_if full = if full then last_count else 0

pub faultless : (a b : Bool) → a ≡ false → b ≡ false → Rose (faults_if a) (faults_if b) → ⊥
faultless true b none same rose = absurd (cc)
faultless false true none same rose = absurd (cc)
faultless false false none same rose = not_risen 0 0 refl (omega arith) rose

pub unequal : (a b : Bool) → a ≡ false → b ≡ true → faults_if b ≡ faults_if a → ⊥
unequal true b none full is = absurd (cc)
unequal false false none full is = absurd (cc)
unequal false true none full is = omega (arith, is)

-- what is returned, by whether the room was full
pub answered : (answer : List ℕ → Answer) (reads : Bool) (input left held held' text : List ℕ) (room : ℕ) (full : Bool) (status : Status)
    → held' ≡ held ++ text → length text ≤ room → (full ≡ true → length text ≡ room)
    → (full ≡ false → (status ≡ Memory) ⊎ IsAnswer (answer (if reads then input else [])) status (Some held) (Some held'))
    → (status ≡ WriteFault → IsCutShort reads answer WriteFault (Some input) (Some left) (Some held) (Some held'))
    → (full ≡ true → status ≡ Refused → IsCutShort reads answer Refused (Some input) (Some left) (Some held) (Some held'))
    → (full ≡ true → (status ≡ WriteFault → ⊥) → (status ≡ Refused → ⊥) → ⊥)
    → (status ≡ Memory) ⊎ IsReturned (answer (if reads then input else [])) room status text
answered answer reads input left held held' text room false status all few filled answers fault refused well =
    elim (answers refl) [
      | inl memory ↦ inl memory
      | inr is ↦ inr (returned (answer (if reads then input else [])) held held' text room status is all few)
    ]
answered answer reads input left held held' text room true status all few filled answers fault refused well =
    by_status status
    (λ is. inr (subst (λ (s : Status). IsReturned (answer (if reads then input else [])) room s text) (sym is)
    (cut reads answer input left held held' text room WriteFault (fault is) all (filled refl))))
    (λ is. inr (subst (λ (s : Status). IsReturned (answer (if reads then input else [])) room s text) (sym is)
    (cut reads answer input left held held' text room Refused (refused refl is) all (filled refl))))
    (λ no_fault no_refusal. absurd (well refl no_fault no_refusal))
