-- One more AT is sent.
use Rattle.std.proofs.Common.{◌≡◌, ℕ, suc, zero, ◌+◌, ◌<◌, List, [], ◌∷◌, ◌++◌, Option, Some, None, length, refl, sym, ◌∙◌, ap, arith, append_assoc, append-nil}
use Rattle.std.proofs.lemmas.List.{take_more}
use Rattle.std.specs.Prelude.{take, slice_index_or, unwrap_or}
use Rattle.sercos_block.specs.Views.{DriveView, RingView}
use Rattle.sercos_trace.specs.Views.{SentView}
use Rattle.sercos_drive.specs.Heard.{DriveCall}
use Rattle.sercos_drive.specs.Says.{Said, drive_says}
use Rattle.sercos_master.specs.declared.master.AnyMaster.{AnyMaster}
use Rattle.sercos_master.specs.Annals.{Call}
use Rattle.sercos_law_run.specs.Journal.Arrivals.{sum_below}
use Rattle.sercos_script.specs.Links.{Carry}
use Rattle.sercos_law_run.specs.Journal.Runs.{sent_at, ats_said, at_calls, unseen_ats, contents, unseen_mdt}
use Rattle.sercos_ring.specs.Sendings.{AreSent, said_by, with_first}
use Rattle.sercos_ring.specs.declared.turns.AtTurn.{AtTurn}

at_calls-append : (r : RingView) (carry : Carry) (cycle : ℕ) (xs ys : List (List ℕ)) (h : List Call) → at_calls r carry cycle (xs ++ ys) h ≡ at_calls r carry cycle ys (at_calls r carry cycle xs h)
at_calls-append r carry cycle [] ys h = refl
at_calls-append r carry cycle (x ∷ xs) ys h = at_calls-append r carry cycle xs ys _

unseen_ats-append : (r : RingView) (carry : Carry) (cycle : ℕ) (xs ys : List (List ℕ)) → unseen_ats r carry cycle (xs ++ ys) ≡ unseen_ats r carry cycle xs + unseen_ats r carry cycle ys
unseen_ats-append r carry cycle [] ys = omega arith
unseen_ats-append r carry cycle (x ∷ xs) ys = let others = unseen_ats-append r carry cycle xs ys in omega (arith, others)

contents-append : (xs ys : List Said) → contents (xs ++ ys) ≡ contents xs ++ contents ys
contents-append [] ys = refl
contents-append (x ∷ xs) ys = ap (λ (cs : List (List ℕ)). x.content ∷ cs) (contents-append xs ys)

ats_said-append : (rate : ℕ) (xs ys : List Said) → ats_said rate (xs ++ ys) ≡ ats_said rate xs ++ ats_said rate ys
ats_said-append rate [] ys = refl
ats_said-append rate (x ∷ xs) ys = ap (λ (cs : List SentView). sent_at rate x.start x.content ∷ cs) (ats_said-append rate xs ys)

pub sent_then : (r : RingView) (carry : Carry) (cycle rate : ℕ) (xs ys : List Said) (a b e : List SentView) (m n o : AnyMaster) (u v : ℕ)
    → AreSent r carry cycle rate xs a b m n u → AreSent r carry cycle rate ys b e n o v → AreSent r carry cycle rate (xs ++ ys) a e m o (u + v)
sent_then r carry cycle rate xs ys a b e m n o u v first second = record {
  sent = second.sent ∙ ap (λ (l : List SentView). l ++ ats_said rate ys) first.sent ∙ append_assoc a (ats_said rate xs) (ats_said rate ys) ∙ ap (λ (l : List SentView). a ++ l) (sym (ats_said-append rate xs ys));
  heard = λ s jobs h before. rw (contents-append xs ys, at_calls-append r carry cycle (contents xs) (contents ys) h) (second.heard s jobs _ (first.heard s jobs h before));
  count = rw (contents-append xs ys, unseen_ats-append r carry cycle (contents xs) (contents ys), first.count, second.count) refl;
}

-- nothing is sent
pub sent_none : (r : RingView) (carry : Carry) (cycle rate : ℕ) (a : List SentView) (m : AnyMaster) → AreSent r carry cycle rate [] a a m m 0
sent_none r carry cycle rate a m = record { sent = sym (append-nil a); heard = λ s jobs h before. before; count = refl }

said_by-append : (d : ℕ → DriveView) (rate : ℕ) (h : ℕ → List DriveCall) (xs ys : List AtTurn) → said_by d rate h (xs ++ ys) ≡ said_by d rate h xs ++ said_by d rate h ys
said_by-append d rate h [] ys = refl
said_by-append d rate h (x ∷ xs) ys = by (drive_says (d x.place) rate (h x.place)) (said_by-append d rate h xs ys)
  where
    by : (o : Option Said) → said_by d rate h (xs ++ ys) ≡ said_by d rate h xs ++ said_by d rate h ys
        → with_first o (said_by d rate h (xs ++ ys)) ≡ with_first o (said_by d rate h xs) ++ said_by d rate h ys
    by None e = e
    by (Some s) e = ap (λ (ss : List Said). s ∷ ss) e

pub said_by-next : (d : ℕ → DriveView) (rate : ℕ) (h : ℕ → List DriveCall) (turns : List AtTurn) (k : ℕ) (x : AtTurn) (s : Said) → k < length turns
    → drive_says (d (slice_index_or turns k x).place) rate (h (slice_index_or turns k x).place) ≡ Some s → said_by d rate h (take k turns) ++ s ∷ [] ≡ said_by d rate h (take (k + 1) turns)
said_by-next d rate h turns k x s below says =
    let one : said_by d rate h (slice_index_or turns k x ∷ []) ≡ s ∷ [] = rw says refl in
    rw (take_more turns k x below, said_by-append d rate h (take k turns) (slice_index_or turns k x ∷ []), one) refl

pub no_unseen : (n : ℕ) (carry : Carry) (cycle : ℕ) → 0 ≡ sum_below n (unseen_mdt carry cycle None)
no_unseen zero carry cycle = refl
no_unseen (suc n) carry cycle = let others = no_unseen n carry cycle in omega (arith, others)

-- a drive says one thing
pub said_at : (o : Option Said) (x s : Said) → Some x ≡ o → o ≡ Some s → x ≡ s
said_at o x s is says = ap (λ (o : Option Said). unwrap_or o x) (is ∙ says)

pub never_said : (o : Option Said) (s : Said) → None ≡ o → o ≡ Some s → ⊥
never_said o s is says = none≢some (is ∙ says)
  where
    none≢some : {x : Said} → None ≡ Some x → ⊥
    none≢some e = cc
