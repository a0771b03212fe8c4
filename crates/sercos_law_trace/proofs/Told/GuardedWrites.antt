-- In phase 4 nothing is written to a block that is write protected in phase 4: so no request that is begun in phase 4 ends as a complete
-- write to it.
use Rattle.sercos_law_trace.proofs.Words.{◌≡◌, ℕ, ◌+◌, ◌≤◌, ◌==◌, Bool, true, false, List, [], ◌∷◌, ◌++◌, length, map, Option, Some, None, refl, sym, ap, ◌∙◌, subst, arith, if◌then◌else◌, length-append, none-some, is_some, and_parts, Idn, Request, Outcome, Answer, outcome_of, Block, is_protected, find_block, Processed, Entry, log_of, Write, with_added, writes_of, added_on, Begun, open_in, answers_it, answer_in, with_answer, Given, given_of, written_to, given_by, AreWrites, Complete, Refused, Broken, AreExact, Heard, View, standing, stood_in, record_in, with_record, processed_in, command, with_heard, with_begun, epoch_begun, begun_in, epoch_records, epoch_log, log_in, records_in_views, AreSound, AreSmall, cycle_exact, Processes, Nothing, Record, processes, processed_phase, added_bare, written, command_below, ne_eqb, cases_Option, inl, inr, eq-eqb}
use Rattle.sercos_step.specs.declared.request.Request.TheVariants as request
use Rattle.sercos_step.specs.declared.request.Outcome.TheVariants as outcome
use Rattle.sercos_law_channel.specs.Handshake.Runs.{IsRun}
use Rattle.sercos_law_channel.proofs.Handshake.EpochRuns.{commanded}

-- COUNTS. How many of these are to a number
abbrev pub count_given : ℕ → List Given → ℕ
count_given raw [] = 0
count_given raw (g ∷ given) = (if g.raw == raw then 1 else 0) + count_given raw given

abbrev pub count_writes : ℕ → List Write → ℕ
count_writes raw writes = count_given raw (map given_of writes)

-- what a request with this outcome has given: all of it if it is complete, and nothing otherwise
abbrev given_if : Option Outcome → List Given → List Given
given_if (Some (outcome.Complete bytes)) given = given
given_if _ given = []

-- how many the complete ones of these requests have given to the number
abbrev pub count_complete : ℕ → List Block → List Begun → ℕ
count_complete raw blocks [] = 0
count_complete raw blocks (b ∷ begun) = count_given raw (given_if (outcome_of b.request b.answers) (given_by blocks b.request)) + count_complete raw blocks begun

-- each of these has ended
abbrev pub HaveEnded : List Begun → Type 0
HaveEnded [] = Unit {0}
HaveEnded (b ∷ begun) = HaveEnded begun × ((o : Outcome) × (outcome_of b.request b.answers ≡ Some o))

count_append : (raw : ℕ) (xs ys : List Write) → count_writes raw (xs ++ ys) ≡ count_writes raw xs + count_writes raw ys
count_append raw [] ys = omega arith
count_append raw (x ∷ xs) ys = let more = count_append raw xs ys in omega (arith, more)

complete_append : (raw : ℕ) (blocks : List Block) (xs ys : List Begun) → count_complete raw blocks (xs ++ ys) ≡ count_complete raw blocks xs + count_complete raw blocks ys
complete_append raw blocks [] ys = omega arith
complete_append raw blocks (x ∷ xs) ys = let more = complete_append raw blocks xs ys in omega (arith, more)

-- A transfer that has ended has written what it has given, and any has written at least that.
own_same : (raw : ℕ) (blocks : List Block) (b : Begun) (own : List Write) (o : Outcome) → outcome_of b.request b.answers ≡ Some o → AreWrites blocks b own
    → count_writes raw own ≡ count_given raw (given_if (outcome_of b.request b.answers) (given_by blocks b.request))
own_same raw blocks b own o ended (Complete bytes complete has is) = ap (count_given raw) is ∙ sym (ap (λ (x : Option Outcome). count_given raw (given_if x (given_by blocks b.request))) complete)
own_same raw blocks b own o ended (Refused code refused none) = ap (count_writes raw) none ∙ sym (ap (λ (x : Option Outcome). count_given raw (given_if x (given_by blocks b.request))) refused)
own_same raw blocks b own o ended (Broken later on is) = absurd (none-some _ (sym on ∙ ended))

own_least : (raw : ℕ) (blocks : List Block) (b : Begun) (own : List Write) → AreWrites blocks b own → count_given raw (given_if (outcome_of b.request b.answers) (given_by blocks b.request)) ≤ count_writes raw own
own_least raw blocks b own writes = elim (cases_Option (outcome_of b.request b.answers)) [
  | inl on ↦ rw on (omega arith)
  | inr (o, ended) ↦ let same = own_same raw blocks b own o ended writes in omega (arith, same)
]

exact_least : (raw : ℕ) (blocks : List Block) (begun : List Begun) (entries : List Entry) (writes : List Write) → AreExact blocks begun entries writes → count_complete raw blocks begun ≤ count_writes raw writes
exact_least raw blocks [] entries writes exact = omega arith
exact_least raw blocks (b ∷ begun) entries writes (part, rest, own, others, of_entries, of_writes, exact, behind) =
    let parts = ap (count_writes raw) of_writes ∙ count_append raw own others in
    omega (arith, parts, own_least raw blocks b own exact.writes, exact_least raw blocks begun rest others behind)

exact_same : (raw : ℕ) (blocks : List Block) (begun : List Begun) (entries : List Entry) (writes : List Write) → HaveEnded begun → AreExact blocks begun entries writes → count_writes raw writes ≡ count_complete raw blocks begun
exact_same raw blocks [] entries writes ended exact = ap (count_writes raw) exact.1
exact_same raw blocks (b ∷ begun) entries writes ended (part, rest, own, others, of_entries, of_writes, exact, behind) =
    let parts = ap (count_writes raw) of_writes ∙ count_append raw own others in
    omega (arith, parts, own_same raw blocks b own ended.1.0 ended.1.1 exact.writes, exact_same raw blocks begun rest others ended.0 behind)

-- WHAT IS KEPT while phase 4 is commanded. The requests of the epoch begin with those of the phases before, at most `few`, none of which is
-- open any more. What was written to the number in the epoch is no more than what these have given.
pub record IsGuarded (few raw : ℕ) (blocks : List Block) (begun : List Begun) (writes : List Write) : Type 0 where
  pub newer : List Begun
  pub start : List Begun
  pub split : begun ≡ newer ++ start
  pub short : length start ≤ few
  pub rests : open_in start ≡ None
  pub counted : count_writes raw writes ≤ count_complete raw blocks start

-- where the phase rises in these cycles, all requests have ended, and they are at most so many
abbrev pub AreFewAtRise : ℕ → List View → Type 0
AreFewAtRise few [] = Unit {0}
AreFewAtRise few (v ∷ past) = AreFewAtRise few past × (v.rises ≡ true → (length (begun_in v past) ≤ few) × HaveEnded (begun_in v past))

module _ (few raw : ℕ) (blocks : List Block) where
  answered : (a : Answer) (newer start : List Begun) (writes : List Write) → is_some (open_in (newer ++ start)) ≡ true → length start ≤ few → open_in start ≡ None → count_writes raw writes ≤ count_complete raw blocks start
      → IsGuarded few raw blocks (with_answer a (newer ++ start)) writes
  answered a [] start writes opened short rests counted = let none : is_some (open_in start) ≡ false = ap (λ o. is_some o) rests in absurd (cc)
  answered a (x ∷ newer) start writes opened short rests counted = record { newer = record x { answers = a ∷ x.answers } ∷ newer; start = start; split = refl; short = short; rests = rests; counted = counted }

  heard_guarded : (o : Option Heard) (begun : List Begun) (writes : List Write) → IsGuarded few raw blocks begun writes → IsGuarded few raw blocks (with_heard o begun) writes
  heard_guarded None begun writes is = is
  heard_guarded (Some h) begun writes is = by (answers_it begun h.status) refl
    where
      by : (b : Bool) → answers_it begun h.status ≡ b → IsGuarded few raw blocks (if b then with_answer (answer_in h.status h.word) begun else begun) writes
      by false off = is
      by true on = subst (λ (l : List Begun). IsGuarded few raw blocks (with_answer (answer_in h.status h.word) l) writes) (sym is.split)
          (answered (answer_in h.status h.word) is.newer is.start writes (ap (λ (l : List Begun). is_some (open_in l)) (sym is.split) ∙ (and_parts (is_some (open_in begun)) _ on).0) is.short is.rests is.counted)

  begun_guarded : (o : Option Request) (begun : List Begun) (writes : List Write) → IsGuarded few raw blocks begun writes → IsGuarded few raw blocks (with_begun o begun) writes
  begun_guarded None begun writes is = is
  begun_guarded (Some q) begun writes is = record {
    newer = (record { request = q; answers = [] }) ∷ is.newer;
    start = is.start;
    split = ap (λ (l : List Begun). (record { request = q; answers = [] }) ∷ l) is.split;
    short = is.short;
    rests = is.rests;
    counted = is.counted;
  }

  fewer : (begun : List Begun) (xs ys : List Write) → count_writes raw ys ≤ count_writes raw xs → IsGuarded few raw blocks begun xs → IsGuarded few raw blocks begun ys
  fewer begun xs ys less is = let counted = is.counted in record { newer = is.newer; start = is.start; split = is.split; short = is.short; rests = is.rests; counted = omega (arith, less, counted) }

-- a write to another number
added_elsewhere : (raw : ℕ) (o : Option Write) (writes : List Write) → ((w : Write) → o ≡ Some w → (w.raw == raw) ≡ false) → count_writes raw (with_added o writes) ≡ count_writes raw writes
added_elsewhere raw None writes other = refl
added_elsewhere raw (Some w) writes other = let none = ap {B = ℕ} (λ (b : Bool). if b then 1 else 0) (other w refl) in omega (arith, none)

-- the requests before a place
behind : (newer start xs older : List Begun) (one : Begun) → newer ++ start ≡ xs ++ one ∷ older → length start ≤ length older → (middle : List Begun) × (older ≡ middle ++ start)
behind [] start xs older one same short = let all = ap (λ (l : List Begun). length l) same in let parts = length-append xs (one ∷ older) in absurd (omega (arith, all, parts, short))
behind (x ∷ newer) start [] older one same short = let rest : newer ++ start ≡ older = cc in (newer, sym rest)
behind (x ∷ newer) start (y ∷ xs) older one same short = let rest : newer ++ start ≡ xs ++ one ∷ older = cc in behind newer start xs older one rest short

-- Phase 4 is the last.
pub phase_most : (busy : ℕ) (v : View) (past : List View) → IsRun busy (v ∷ past) → v.phase ≤ 4
phase_most busy v past run = elim (commanded v past run.1.commanded) [
  | inl zero ↦ omega (arith, zero.1)
  | inr on ↦ let low = command_below busy past run.0 in omega (arith, on.1, low)
]

module _ (busy few : ℕ) (blocks : List Block) (small : AreSmall blocks) (idn : Idn) (b : Block) (found : find_block idn.raw blocks ≡ Some b) (guard : is_protected b.attribute 4 ≡ true) where
  -- a record of phase 4
  taken_guarded : (v : View) (past : List View) → AreSound blocks (v ∷ past) → v.phase ≡ 4 → (h : List Processed) → count_writes idn.raw (writes_of (log_of (with_record (processed_in v past) h))) ≤ count_writes idn.raw (writes_of (log_of h))
  taken_guarded v past sound four h = by (processes v past)
    where
      by : Processes v past → count_writes idn.raw (writes_of (log_of (with_record (processed_in v past) h))) ≤ count_writes idn.raw (writes_of (log_of h))
      by (Nothing none) = omega (arith, ap (λ (o : Option Processed). count_writes idn.raw (writes_of (log_of (with_record o h)))) none)
      by (Record s got came two some) =
          let t : Processed = record_in v (length past) (stood_in v (standing past)) s in
          let bare = λ (w : Write) (is : added_on t h ≡ Some w). (ne_eqb w.raw idn.raw (λ at.
          let off = added_bare (record_in v (length past) (stood_in v (standing past)) s) h w blocks b is sound.1.0
          (ap (λ (n : ℕ). find_block n blocks) at ∙ found) in
          let on : is_protected b.attribute (stood_in v (standing past)) ≡ true = ap (is_protected b.attribute)
          (processed_phase v past came (omega (arith, two)) ∙ four) ∙ guard in cc)) in
          let same = ap (λ (o : Option Processed). count_writes idn.raw (writes_of (log_of (with_record o h)))) some ∙ sym (ap (count_writes idn.raw) (written t h)) ∙ added_elsewhere idn.raw (added_on t h) (writes_of (log_of h)) bare in
          omega (arith, same)

  -- a cycle of phase 4
  in_four : (v : View) (past : List View) → IsRun busy (v ∷ past) → AreSound blocks (v ∷ past) → v.phase ≡ 4 → (command past ≡ 4 → IsGuarded few idn.raw blocks (epoch_begun past) (writes_of (epoch_log past)))
      → IsGuarded few idn.raw blocks (begun_in v past) (writes_of (log_in v past))
  in_four v past run sound four before = by v.master_restarts run.1.commanded
    where
      by : (b : Bool) → v.phase ≡ (if b then 0 else command past) → IsGuarded few idn.raw blocks (with_begun v.begins (with_heard v.heard (if b then [] else epoch_begun past))) (writes_of (log_of (with_record (processed_in v past) (if b then [] else epoch_records past))))
      by true is = absurd (omega (arith, is, four))
      by false is = fewer few idn.raw blocks _ (writes_of (epoch_log past)) _ (taken_guarded v past sound four (epoch_records past))
          (begun_guarded few idn.raw blocks v.begins _ (writes_of (epoch_log past)) (heard_guarded few idn.raw blocks v.heard (epoch_begun past) (writes_of (epoch_log past)) (before (sym is ∙ four))))

  -- the rise to phase 4
  at_rise : (v : View) (past : List View) → IsRun busy (v ∷ past) → AreSound blocks (v ∷ past) → v.rises ≡ true → (length (begun_in v past) ≤ few) × HaveEnded (begun_in v past)
      → IsGuarded few idn.raw blocks (begun_in v past) (writes_of (log_in v past))
  at_rise v past run sound on (short, ended) = record {
    newer = [];
    start = begun_in v past;
    split = refl;
    short = short;
    rests = run.1.rests on;
    counted = let same = exact_same idn.raw blocks (begun_in v past) (log_in v past) (writes_of (log_in v past)) ended (cycle_exact blocks busy small v past run sound) in omega (arith, same);
  }

  pub guarded : (past : List View) → IsRun busy past → AreSound blocks past → AreFewAtRise few past → command past ≡ 4 → IsGuarded few idn.raw blocks (epoch_begun past) (writes_of (epoch_log past))
  guarded [] run sound fews four = absurd (omega (arith, four))
  guarded (v ∷ past) run sound fews four = by v.falls v.rises refl four (guarded past run.0 sound.0 fews.0)
    where
      by : (falls rises : Bool) → v.rises ≡ rises → (if falls then 0 else (if rises then v.phase + 1 else v.phase)) ≡ 4 → (command past ≡ 4 → IsGuarded few idn.raw blocks (epoch_begun past) (writes_of (epoch_log past)))
          → IsGuarded few idn.raw blocks (if falls then [] else begun_in v past) (writes_of (log_of (if falls then [] else records_in_views v past)))
      by true rises on is before = absurd (omega (arith, is))
      by false true on is before = at_rise v past run sound on (fews.1 on)
      by false false on is before = in_four v past run sound is before

  -- SO NO REQUEST after these is a complete write to the block.
  pub never_complete : (v : View) (past : List View) → IsRun busy (v ∷ past) → AreSound blocks (v ∷ past) → AreFewAtRise few past → v.phase ≡ 4 → (newer older : List Begun) (one : Begun) (bytes whole : List ℕ) → begun_in v past ≡ newer ++ one ∷ older
      → few ≤ length older → one.request ≡ request.Write idn 7 bytes → outcome_of one.request one.answers ≡ Some (outcome.Complete whole) → ⊥
  never_complete v past run sound fews four newer older one bytes whole split late asks complete =
      let is = in_four v past run sound four (guarded past run.0 sound.0 fews) in
      let least = exact_least idn.raw blocks (begun_in v past) (log_in v past) (writes_of (log_in v past)) (cycle_exact blocks busy small v past run sound) in
      let middle = behind is.newer is.start newer older one (sym is.split ∙ split) (omega (arith, is.short, late)) in
      let all = ap (count_complete idn.raw blocks) split ∙ complete_append idn.raw blocks newer (one ∷ older) in
      let rest = ap (count_complete idn.raw blocks) middle.1 ∙ complete_append idn.raw blocks middle.0 is.start in
      omega (arith, least, is.counted, all, rest, one_given)
    where
      one_given : count_given idn.raw (given_if (outcome_of one.request one.answers) (given_by blocks one.request)) ≡ 1
      one_given = ap (λ (o : Option Outcome). count_given idn.raw (given_if o (given_by blocks one.request))) complete ∙ ap (λ (q : Request). count_given idn.raw (given_by blocks q)) asks
          ∙ ap (λ (o : Option Block). count_given idn.raw (written_to idn.raw bytes o)) found ∙ ap {B = ℕ} (λ (x : Bool). (if x then 1 else 0) + 0) (eq-eqb idn.raw idn.raw refl)
