-- What is read from a part of a document, or its first refusal. Parts are read one after the other,
-- up to the first that is refused. `Memory` is not a refusal: any call may return it.
use Rattle.std.specs.Prelude.{◌≡◌, ◌⊎◌, Bool, true, false, Option, Some, None, Result, Ok, Err}
use Rattle.sercos_document.specs.declared.refusal.BadDocument.{BadDocument}
use Rattle.sercos_document.specs.declared.refusal.BadDocument.TheVariants.{Memory}

-- what is read, or the refusal
abbrev pub Answer : Type 0 → Type 0
Answer A = Result A BadDocument

-- the second part is read if the first isn't refused
infixl 10 ◌>>=◌
abbrev pub ◌>>=◌ : {A B : Type 0} → Answer A → (A → Answer B) → Answer B
(Ok x) >>= f = f x
(Err e) >>= f = Err e

-- the same, if the second part doesn't depend on the first
infixl 10 ◌>>◌
abbrev pub ◌>>◌ : {A B : Type 0} → Answer A → Answer B → Answer B
(Ok x) >> next = next
(Err e) >> next = Err e

-- the refusal is the wanted one, or `Memory`
abbrev pub Refuses : BadDocument → BadDocument → Type 0
Refuses bad wanted = (bad ≡ Memory) ⊎ (bad ≡ wanted)

-- the result of a call is the wanted one, or `Memory`
abbrev pub Gives : {A : Type 0} → Result A BadDocument → Answer A → Type 0
Gives (Ok x) wanted = wanted ≡ Ok x
Gives (Err bad) wanted = (bad ≡ Memory) ⊎ (wanted ≡ Err bad)

-- the same for a result that contracts see as other data
abbrev pub Shows : {A B : Type 0} → (A → B) → Result A BadDocument → Answer B → Type 0
Shows see (Ok x) wanted = wanted ≡ Ok (see x)
Shows see (Err bad) wanted = (bad ≡ Memory) ⊎ (wanted ≡ Err bad)

-- this refusal, unless the test holds
unfoldable pub demand : Bool → BadDocument → Answer (Unit {0})
demand true bad = Ok tt
demand false bad = Err bad

-- the value; this refusal if there is no value
abbrev pub or_refused : {A : Type 0} → BadDocument → Option A → Answer A
or_refused bad (Some x) = Ok x
or_refused bad None = Err bad
