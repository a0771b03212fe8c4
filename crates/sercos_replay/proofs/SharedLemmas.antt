-- What the replay of a drive and the one of the master have in common: what is kept stays right with one line more.
use Rattle.std.proofs.Common.{◌≡◌, ◌⊎◌, inl, inr, ℕ, Bool, true, false, List, [], ◌∷◌, ◌++◌, Option, Some, None, refl, sym, ◌∙◌, ap, subst}
use Rattle.std.proofs.lemmas.Bool.{false≢true}
use Rattle.std.proofs.lemmas.Option.{none-some}
use Rattle.sercos_telegram.specs.declared.layout.Kind.{Kind}
use Rattle.sercos_telegram.specs.declared.layout.Kind.TheVariants as telegram
use Rattle.sercos_trace.specs.Views.{SentView}
use Rattle.sercos_trace.specs.declared.reading.Line.{Line}
use Rattle.sercos_trace.specs.declared.reading.Line.TheVariants as line
use Rattle.sercos_replay.specs.Cycles.{Cycle, begun, with_at, with_mdt, with_telegram, cycles_of}
use Rattle.sercos_replay.specs.Places.{PlaceView, if_told}
use Rattle.sercos_replay.specs.Kept.{GoesIn, Goes, ToldOr}
use Rattle.sercos_replay.proofs.CycleLemmas.{with_at-open, with_at-closed, with_mdt-open, with_mdt-closed, without_mdt}

-- the cycle with an AT more
abbrev pub with_ats : Cycle → SentView → Cycle
with_ats t sent = record t { ats = t.ats ++ sent ∷ [] }

-- What a replay tells while lines come, and the difference of its station. What is told is the difference, in a cycle with its MDT
-- the whole one, and it is told again with each telegram more.
pub record Tells (tells differs : List Cycle → Option PlaceView) : Type 0 where
  pub none : tells [] ≡ None
  pub before : (t : Cycle) (j : List Cycle) (x : PlaceView) → differs j ≡ Some x → tells (t ∷ j) ≡ Some x
  pub after : (t : Cycle) (j : List Cycle) (x : PlaceView) → tells (t ∷ j) ≡ Some x → differs (t ∷ j) ≡ Some x
  pub whole : (t : Cycle) (j : List Cycle) (mdt : SentView) → t.mdt ≡ Some mdt → tells (t ∷ j) ≡ differs (t ∷ j)
  pub at : (t : Cycle) (j : List Cycle) (sent : SentView) (x : PlaceView) → t.mdt ≡ None → tells (t ∷ j) ≡ Some x → tells (with_ats t sent ∷ j) ≡ Some x
  pub mdt : (t : Cycle) (j : List Cycle) (sent : SentView) (x : PlaceView) → t.mdt ≡ None → tells (t ∷ j) ≡ Some x
      → differs (record t { mdt = Some sent } ∷ j) ≡ Some x

-- A replay of either station: what it keeps, and what holds while the newest cycle awaits its MDT and what while no cycle is open.
pub record AnyReplay : Type 1 where
  pub is_open : Bool
  pub has_told : Bool
  pub told : PlaceView
  pub tells : List Cycle → Option PlaceView
  pub differs : List Cycle → Option PlaceView
  pub Awaits : Cycle → List Cycle → Type 0
  pub Rests : List Cycle → Type 0
  pub telling : Tells tells differs
  pub open_is : (t : Cycle) (j : List Cycle) → Awaits t j → is_open ≡ true
  pub mdt_is : (t : Cycle) (j : List Cycle) → Awaits t j → t.mdt ≡ None
  pub agrees : (t : Cycle) (j : List Cycle) → Awaits t j → tells (t ∷ j) ≡ None
  pub closed_is : (j : List Cycle) → Rests j → is_open ≡ false
  pub before : (j : List Cycle) → Rests j → differs j ≡ None

abbrev pub ReplayGoes : AnyReplay → List Cycle → Type 0
ReplayGoes r j = Goes r.Awaits r.Rests j

abbrev pub ReplayStands : AnyReplay → List Cycle → Type 0
ReplayStands r j = ToldOr r.has_told r.told (r.tells j) (ReplayGoes r j)

abbrev pub ReplayEnds : AnyReplay → List Cycle → Type 0
ReplayEnds r j = ToldOr r.has_told r.told (r.differs j) (r.Rests j)

-- BY WHETHER A DIFFERENCE WAS TOLD.
or-kept : (b : Bool) (told : PlaceView) (first : Option PlaceView) (Holds : Type 0) → (Holds → first ≡ None) → ToldOr b told first Holds → first ≡ if_told b told
or-kept true told first Holds none is = is
or-kept false told first Holds none holds = none holds

kept-or : (b : Bool) (told : PlaceView) (first : Option PlaceView) (Holds : Type 0) → first ≡ if_told b told → (first ≡ None → Holds) → ToldOr b told first Holds
kept-or true told first Holds kept holds = kept
kept-or false told first Holds kept holds = holds kept

-- a line that is no telegram begins no cycle, and adds nothing to one
next-line : (P : List Cycle → Type 0) (lines : List Line) (l : Line)
    → ((cycle : ℕ) (sent : SentView) → l ≡ line.Telegram cycle sent → P (with_telegram sent.kind cycle sent (cycles_of lines)))
    → P (cycles_of lines) → P (cycles_of (l ∷ lines))
next-line P lines line.Version next here = here
next-line P lines (line.Ring rate cycle control gap drives) next here = here
next-line P lines (line.Drive wish) next here = here
next-line P lines (line.Order addresses) next here = here
next-line P lines (line.Telegram cycle sent) next here = next cycle sent refl
next-line P lines line.Other next here = here
next-line P lines line.End next here = here

pub other-line : (P : List Cycle → Type 0) (lines : List Line) (l : Line) → ((cycle : ℕ) (sent : SentView) → l ≡ line.Telegram cycle sent → ⊥)
    → P (cycles_of lines) → P (cycles_of (l ∷ lines))
other-line P lines l not here = next-line P lines l (λ cycle sent is. absurd (not cycle sent is)) here

module _ (r : AnyReplay) where
  goes-none : (j : List Cycle) → ReplayGoes r j → r.tells j ≡ None
  goes-none [] goes = r.telling.none
  goes-none (t ∷ j) goes = by t.mdt refl goes
    where
      by : (m : Option SentView) → t.mdt ≡ m → GoesIn r.Awaits r.Rests m t j → r.tells (t ∷ j) ≡ None
      by None is a = r.agrees t j a
      by (Some mdt) is rests = r.telling.whole t j mdt is ∙ r.before (t ∷ j) rests

  stands-kept : (j : List Cycle) → ReplayStands r j → r.tells j ≡ if_told r.has_told r.told
  stands-kept j stands = or-kept r.has_told r.told (r.tells j) (ReplayGoes r j) (goes-none j) stands

  ends-kept : (j : List Cycle) → ReplayEnds r j → r.differs j ≡ if_told r.has_told r.told
  ends-kept j ends = or-kept r.has_told r.told (r.differs j) (r.Rests j) (r.before j) ends

  awaits-goes : (t : Cycle) (j : List Cycle) → r.Awaits t j → ReplayGoes r (t ∷ j)
  awaits-goes t j a = subst (λ m. GoesIn r.Awaits r.Rests m t j) (sym (r.mdt_is t j a)) a

  pub kept-stands : (t : Cycle) (j : List Cycle) → r.tells (t ∷ j) ≡ if_told r.has_told r.told → (r.tells (t ∷ j) ≡ None → r.Awaits t j) → ReplayStands r (t ∷ j)
  kept-stands t j kept awaits = kept-or r.has_told r.told (r.tells (t ∷ j)) (ReplayGoes r (t ∷ j)) kept (λ none. awaits-goes t j (awaits none))

  pub kept-ends : (j : List Cycle) → r.differs j ≡ if_told r.has_told r.told → (r.differs j ≡ None → r.Rests j) → ReplayEnds r j
  kept-ends j kept rests = kept-or r.has_told r.told (r.differs j) (r.Rests j) kept rests

  goes-stands : (j : List Cycle) → r.has_told ≡ false → ReplayGoes r j → ReplayStands r j
  goes-stands j not goes = subst (λ b. ToldOr b r.told (r.tells j) (ReplayGoes r j)) (sym not) goes

  pub awaits-stands : (t : Cycle) (j : List Cycle) → r.has_told ≡ false → r.Awaits t j → ReplayStands r (t ∷ j)
  awaits-stands t j not a = goes-stands (t ∷ j) not (awaits-goes t j a)

  pub stands-goes : (j : List Cycle) → r.has_told ≡ false → ReplayStands r j → ReplayGoes r j
  stands-goes j not stands = subst (λ b. ToldOr b r.told (r.tells j) (ReplayGoes r j)) not stands

  pub rests-ends : (j : List Cycle) → r.has_told ≡ false → r.Rests j → ReplayEnds r j
  rests-ends j not rests = subst (λ b. ToldOr b r.told (r.differs j) (r.Rests j)) (sym not) rests

  pub ends-rests : (j : List Cycle) → r.has_told ≡ false → ReplayEnds r j → r.Rests j
  ends-rests j not ends = subst (λ b. ToldOr b r.told (r.differs j) (r.Rests j)) not ends

  stands-told : (j : List Cycle) → r.has_told ≡ true → ReplayStands r j → r.tells j ≡ Some r.told
  stands-told j has stands = stands-kept j stands ∙ ap (λ b. if_told b r.told) has

  told-stands : (j : List Cycle) → r.has_told ≡ true → r.tells j ≡ Some r.told → ReplayStands r j
  told-stands j has told = subst (λ b. ToldOr b r.told (r.tells j) (ReplayGoes r j)) (sym has) told

  told-ends : (j : List Cycle) → r.has_told ≡ true → r.differs j ≡ Some r.told → ReplayEnds r j
  told-ends j has told = subst (λ b. ToldOr b r.told (r.differs j) (r.Rests j)) (sym has) told

  -- BY WHETHER THE NEWEST CYCLE IS OPEN.
  pub with_open : (j : List Cycle) (P : List Cycle → Type 0) → ((t : Cycle) (before : List Cycle) → r.Awaits t before → P (t ∷ before)) → r.is_open ≡ true
      → ReplayGoes r j → P j
  with_open [] P f opened goes = absurd (false≢true (sym (r.closed_is [] goes) ∙ opened))
  with_open (t ∷ j) P f opened goes = by t.mdt goes
    where
      by : (m : Option SentView) → GoesIn r.Awaits r.Rests m t j → P (t ∷ j)
      by None a = f t j a
      by (Some mdt) rests = absurd (false≢true (sym (r.closed_is (t ∷ j) rests) ∙ opened))

  -- none is open: no AT and no MDT counts
  abbrev IsAtRest : List Cycle → Type 0
  IsAtRest j = r.Rests j × ((sent : SentView) → with_at sent j ≡ j) × ((sent : SentView) → with_mdt sent j ≡ j)

  at_rest : (j : List Cycle) → r.is_open ≡ false → ReplayGoes r j → IsAtRest j
  at_rest [] closed goes = (goes, λ sent. refl, λ sent. refl)
  at_rest (t ∷ j) closed goes = by t.mdt refl goes
    where
      by : (m : Option SentView) → t.mdt ≡ m → GoesIn r.Awaits r.Rests m t j → IsAtRest (t ∷ j)
      by None is a = absurd (false≢true (sym closed ∙ r.open_is t j a))
      by (Some mdt) is rests = (rests, λ sent. with_at-closed sent mdt t j is, λ sent. with_mdt-closed sent mdt t j is)

  pub closed-ends : (j : List Cycle) → r.has_told ≡ false → r.is_open ≡ false → ReplayGoes r j → ReplayEnds r j
  closed-ends j not closed goes = rests-ends j not (at_rest j closed goes).0

  pub at-left : (j : List Cycle) (sent : SentView) → r.has_told ≡ false → r.is_open ≡ false → ReplayGoes r j → ReplayStands r (with_at sent j)
  at-left j sent not closed goes = subst (ReplayStands r) (sym ((at_rest j closed goes).1 sent)) (goes-stands j not goes)

  pub mdt-left : (j : List Cycle) (sent : SentView) → r.has_told ≡ false → r.is_open ≡ false → ReplayGoes r j → ReplayStands r (with_mdt sent j)
  mdt-left j sent not closed goes = subst (ReplayStands r) (sym ((at_rest j closed goes).2 sent)) (goes-stands j not goes)

  -- THE CYCLE ENDS, with an MDT or without one.
  ended-stands : (t : Cycle) (j : List Cycle) (mdt : SentView) → ReplayEnds r (record t { mdt = Some mdt } ∷ j) → ReplayStands r (record t { mdt = Some mdt } ∷ j)
  ended-stands t j mdt ends = by r.has_told ends
    where
      c : Cycle
      c = record t { mdt = Some mdt }

      by : (b : Bool) → ToldOr b r.told (r.differs (c ∷ j)) (r.Rests (c ∷ j)) → ToldOr b r.told (r.tells (c ∷ j)) (r.Rests (c ∷ j))
      by true told = r.telling.whole c j mdt refl ∙ told
      by false rests = rests

  pub ended-without : (t : Cycle) (j : List Cycle) → t.mdt ≡ None → ReplayEnds r (record t { mdt = None } ∷ j) → ReplayEnds r (t ∷ j)
  ended-without t j none ends = subst (λ c. ReplayEnds r (c ∷ j)) (without_mdt t none) ends

  -- WHAT WAS TOLD is told again.
  pub told-before : (cycle : ℕ) (sent : SentView) (j : List Cycle) → r.has_told ≡ true → ReplayEnds r j → ReplayStands r (begun cycle sent ∷ j)
  told-before cycle sent j has ends =
      told-stands (begun cycle sent ∷ j) has (r.telling.before (begun cycle sent) j r.told (ends-kept j ends ∙ ap (λ b. if_told b r.told) has))

  tells-differs : (j : List Cycle) (x : PlaceView) → r.tells j ≡ Some x → r.differs j ≡ Some x
  tells-differs [] x told = absurd (none-some x (sym r.telling.none ∙ told))
  tells-differs (t ∷ j) x told = r.telling.after t j x told

  stays : (j : List Cycle) (kind : Kind) (cycle : ℕ) (sent : SentView) (x : PlaceView) → r.tells j ≡ Some x → r.tells (with_telegram kind cycle sent j) ≡ Some x
  stays j telegram.Mst cycle sent x told = r.telling.before (begun cycle sent) j x (tells-differs j x told)
  stays [] telegram.At cycle sent x told = told
  stays [] telegram.Mdt cycle sent x told = told
  stays (t ∷ j) telegram.At cycle sent x told = by t.mdt refl
    where
      by : (m : Option SentView) → t.mdt ≡ m → r.tells (with_at sent (t ∷ j)) ≡ Some x
      by None is = ap r.tells (with_at-open sent t j is) ∙ r.telling.at t j sent x is told
      by (Some mdt) is = ap r.tells (with_at-closed sent mdt t j is) ∙ told
  stays (t ∷ j) telegram.Mdt cycle sent x told = by t.mdt refl
    where
      by : (m : Option SentView) → t.mdt ≡ m → r.tells (with_mdt sent (t ∷ j)) ≡ Some x
      by None is = ap r.tells (with_mdt-open sent t j is) ∙ r.telling.whole (record t { mdt = Some sent }) j sent refl ∙ r.telling.mdt t j sent x is told
      by (Some mdt) is = ap r.tells (with_mdt-closed sent mdt t j is) ∙ told

  pub told-again : (lines : List Line) (l : Line) → r.has_told ≡ true → ReplayStands r (cycles_of lines) → ReplayStands r (cycles_of (l ∷ lines))
  told-again lines l has stands = told-stands (cycles_of (l ∷ lines)) has (next-line (λ c. r.tells c ≡ Some r.told) lines l
      (λ cycle sent is. stays (cycles_of lines) sent.kind cycle sent r.told (stands-told (cycles_of lines) has stands)) (stands-told (cycles_of lines) has stands))

  pub finished-before : (j : List Cycle) → r.has_told ≡ true → (ReplayStands r j ⊎ ReplayEnds r j) → ReplayEnds r j
  finished-before j has (inl stands) = told-ends j has (tells-differs j r.told (stands-told j has stands))
  finished-before j has (inr ends) = ends

-- FROM ONE STATE TO THE NEXT: a telegram is taken, or the capture ends.
pub at-taken : (v w : AnyReplay) (j : List Cycle) (sent : SentView) → v.is_open ≡ true
    → ((t : Cycle) (before : List Cycle) → v.Awaits t before → ReplayStands w (with_ats t sent ∷ before)) → ReplayGoes v j → ReplayStands w (with_at sent j)
at-taken v w j sent opened f goes = with_open v j (λ c. ReplayStands w (with_at sent c))
    (λ t before a. subst (ReplayStands w) (sym (with_at-open sent t before (v.mdt_is t before a))) (f t before a)) opened goes

pub mdt-taken : (v w : AnyReplay) (j : List Cycle) (sent : SentView) → v.is_open ≡ true
    → ((t : Cycle) (before : List Cycle) → v.Awaits t before → ReplayEnds w (record t { mdt = Some sent } ∷ before)) → ReplayGoes v j → ReplayStands w (with_mdt sent j)
mdt-taken v w j sent opened f goes = with_open v j (λ c. ReplayStands w (with_mdt sent c))
    (λ t before a. subst (ReplayStands w) (sym (with_mdt-open sent t before (v.mdt_is t before a))) (ended-stands w t before sent (f t before a))) opened goes

pub finished : (v w : AnyReplay) (j : List Cycle) → v.has_told ≡ false → (ReplayGoes v j → v.has_told ≡ false → ReplayEnds w j)
    → (v.Rests j → v.has_told ≡ false → ReplayEnds w j) → (ReplayStands v j ⊎ ReplayEnds v j) → ReplayEnds w j
finished v w j not goes rests (inl stands) = goes (stands-goes v j not stands) not
finished v w j not goes rests (inr ends) = rests (ends-rests v j not ends) not
