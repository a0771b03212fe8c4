-- The last write to a block, from cycle to cycle and through all epochs.
use Rattle.sercos_law_trace.proofs.Words.{inr, inl, cases_Bool, ◌≡◌, ℕ, true, false, not, List, [], ◌∷◌, ◌++◌, Option, Some, None, refl, sym, ap, ◌∙◌, subst, append_assoc, ◌==◌, is_some, IfSome, list_all, and_parts, cond_both, Idn, Request, Outcome, Answer, outcome_of, Block, find_block, Entry, Write, Begun, open_in, step_at, answers_it, answer_in, with_answer, stored, Heard, View, with_heard, with_begun, unless_restart, epoch_begun, begun_in, leaving, begun_ago, all_begun, Given, given_by, AreExact, newest_to, GiveElsewhere, IsWrittenLast}
use Rattle.sercos_step.specs.declared.request.Request.TheVariants as request
use Rattle.sercos_step.specs.declared.request.Outcome.TheVariants as outcome
use Rattle.sercos_law_channel.proofs.Theorems.{newest_of}
use Rattle.sercos_law_trace.proofs.Told.EntryLemmas.{both_begun}

-- a request gives nothing to the number
abbrev pub Elsewhere : ℕ → List Block → Request → Type 0
Elsewhere raw blocks r = list_all (λ (g : Given). not (g.raw == raw)) (given_by blocks r) ≡ true

-- the newest write
pub newest_last : (blocks : List Block) (begun : List Begun) (idn : Idn) (bytes : List ℕ) (block : Block) (entries : List Entry) (writes : List Write) → find_block idn.raw blocks ≡ Some block → AreExact blocks begun entries writes
    → IsWrittenLast blocks begun idn bytes → newest_to idn.raw writes ≡ Some (stored block bytes)
newest_last blocks begun idn bytes block entries writes found exact last =
    newest_of blocks last.older last.one idn bytes last.whole block last.asks last.complete found last.newer entries writes (subst (λ (l : List Begun). AreExact blocks l entries writes) last.split exact) last.away

-- From cycle to cycle.
module _ (blocks : List Block) (idn : Idn) (bytes : List ℕ) where
  abbrev Last : List Begun → Type 0
  Last begun = IsWrittenLast blocks begun idn bytes

  last_begun : (o : Option Request) (xs rest : List Begun) → IfSome o (Elsewhere idn.raw blocks) → Last (xs ++ rest) → Last (with_begun o xs ++ rest)
  last_begun None xs rest away last = last
  last_begun (Some q) xs rest away last = record {
    newer = (record { request = q; answers = [] }) ∷ last.newer;
    one = last.one;
    older = last.older;
    split = ap (λ (l : List Begun). (record { request = q; answers = [] }) ∷ l) last.split;
    asks = last.asks;
    whole = last.whole;
    complete = last.complete;
    away = (last.away, away);
  }

  never_open : (q : Request) (answers : List Answer) (o : Outcome) → outcome_of q answers ≡ Some o → is_some (step_at q answers) ≡ true → ⊥
  never_open q answers o ended opened = let none : is_some (step_at q answers) ≡ false = rw ended refl in absurd (cc)

  one_answer : (a : Answer) (x : Begun) (xs newer older : List Begun) (one : Begun) (whole : List ℕ) → is_some (step_at x.request x.answers) ≡ true → x ∷ xs ≡ newer ++ one ∷ older → one.request ≡ request.Write idn 7 bytes
      → outcome_of one.request one.answers ≡ Some (outcome.Complete whole) → GiveElsewhere idn.raw blocks newer → Last (record x { answers = a ∷ x.answers } ∷ xs)
  one_answer a x xs [] older one whole opened split asks complete away =
      let same : one ≡ x = cc in
      absurd (never_open x.request x.answers (outcome.Complete whole) (subst (λ (b : Begun). outcome_of b.request b.answers ≡ Some (outcome.Complete whole)) same complete) opened)
  one_answer a x xs (y ∷ newer) older one whole opened split asks complete away =
      let same : y ≡ x = cc in
      let rest : xs ≡ newer ++ one ∷ older = cc in record {
        newer = record x { answers = a ∷ x.answers } ∷ newer;
        one = one;
        older = older;
        split = ap (λ (l : List Begun). record x { answers = a ∷ x.answers } ∷ l) rest;
        asks = asks;
        whole = whole;
        complete = complete;
        away = (away.0, subst (λ (b : Begun). Elsewhere idn.raw blocks b.request) same away.1);
      }

  last_answer : (a : Answer) (xs rest : List Begun) → is_some (open_in xs) ≡ true → Last (xs ++ rest) → Last (with_answer a xs ++ rest)
  last_answer a [] rest opened last = last
  last_answer a (x ∷ xs) rest opened last = one_answer a x (xs ++ rest) last.newer last.older last.one last.whole opened last.split last.asks last.complete last.away

  last_heard : (h : Option Heard) (xs rest : List Begun) → Last (xs ++ rest) → Last (with_heard h xs ++ rest)
  last_heard None xs rest last = last
  last_heard (Some h) xs rest last = cond_both (answers_it xs h.status) (with_answer (answer_in h.status h.word) xs) xs
      (λ v. Last (v ++ rest))
      (λ on. last_answer (answer_in h.status h.word) xs rest (and_parts (is_some (open_in xs)) _ on).0 last) (λ off. last)

  -- a cycle in which nothing is begun that gives anything to the number
  pub last_next : (v : View) (past : List View) → IfSome v.begins (Elsewhere idn.raw blocks) → IsWrittenLast blocks (all_begun past) idn bytes → IsWrittenLast blocks (all_begun (v ∷ past)) idn bytes
  last_next v past away last =
      let ago : List Begun = leaving v.master_restarts (epoch_begun past) (begun_ago past) in
      subst (λ (l : List Begun). IsWrittenLast blocks l idn bytes) (sym (both_begun v.falls (begun_in v past) ago))
      (last_begun v.begins (with_heard v.heard (unless_restart v (epoch_begun past))) ago away (elim (cases_Bool v.master_restarts) [
        | inl on ↦ rw on (last_heard v.heard [] (epoch_begun past ++ begun_ago past) last)
        | inr off ↦ rw off (last_heard v.heard (epoch_begun past) (begun_ago past) last)
      ]))

  -- the cycle in which it is told
  pub last_now : (v : View) (past : List View) → IsWrittenLast blocks (begun_in v past) idn bytes → IsWrittenLast blocks (all_begun (v ∷ past)) idn bytes
  last_now v past last =
      let ago : List Begun = leaving v.master_restarts (epoch_begun past) (begun_ago past) in record {
        newer = last.newer;
        one = last.one;
        older = last.older ++ ago;
        split = both_begun v.falls (begun_in v past) ago ∙ ap (λ (l : List Begun). l ++ ago) last.split ∙ append_assoc last.newer (last.one ∷ last.older) ago;
        asks = last.asks;
        whole = last.whole;
        complete = last.complete;
        away = last.away;
      }
