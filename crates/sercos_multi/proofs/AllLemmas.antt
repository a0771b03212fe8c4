-- The documents of an input, opened one after the other.
use Rattle.std.proofs.Common.{◌≡◌, ℕ, zero, suc, ◌+◌, ◌<◌, ◌≤◌, Bool, true, false, if◌then◌else◌, List, [], ◌∷◌, ◌++◌, length, drop, Result, Ok, Err, refl, sym, ◌∙◌, ap, subst, arith, append_assoc, append-nil}
use Rattle.sercos_script.specs.Links.{Carry, Restarts}
use Rattle.sercos_document.specs.declared.refusal.BadDocument.{BadDocument}
use Rattle.sercos_config.specs.Views.{DocumentView}
use Rattle.sercos_config.specs.Document.{document_of}
use Rattle.sercos_multi.specs.declared.part.Part.{Part}
use Rattle.sercos_multi.specs.declared.opening.Unopened.{Unopened}
use Rattle.sercos_multi.specs.declared.opening.Unopened.TheVariants as unopened
use Rattle.sercos_multi.specs.Divided.{parts_of, parts_after}
use Rattle.sercos_multi.specs.Going.{AllAre}
use Rattle.sercos_multi.specs.Asking.{documents_from, voice_of, voices_from, with_document}
use Rattle.sercos_multi.specs.Opening.{AreOpened, OpensAll, OpensPart, joined}
use Rattle.sercos_multi.specs.Parts.{AllAt, IsAt}
use Rattle.sercos_multi.specs.Said.{IsRefusedIn}
use Rattle.std.proofs.lemmas.List.Elements.{All-nil, All-push}
use Rattle.sercos_multi.specs.RingRuns.{IsRingRun}
use Rattle.sercos_multi.proofs.ListLemmas.{dropped_all}

joined_more : (documents : List DocumentView) (n : ℕ) (d : DocumentView) (r : Result (List DocumentView) (ℕ × BadDocument)) → joined documents (with_document n (Ok d) r) ≡ joined (documents ++ d ∷ []) r
unfolding joined with_document
joined_more documents n d (Ok more) = ap (λ l. Ok l) (sym (append_assoc documents (d ∷ []) more))
joined_more documents n d (Err refusal) = refl

voices_push : (n : ℕ) (documents : List DocumentView) (d : DocumentView) (m : ℕ) → m ≡ n + length documents → voices_from n (documents ++ d ∷ []) ≡ voices_from n documents ++ voice_of m d ∷ []
unfolding voices_from
voices_push n [] d m is = let same : n ≡ m = omega (arith, is) in ap (λ i. voice_of i d ∷ []) same
voices_push n (x ∷ documents) d m is = ap (λ l. voice_of n x ∷ l) (voices_push (n + 1) documents d m (omega (arith, is)))

all_push : {X Y : Type 0} (R : X → Y → Type 0) (xs : List X) (ys : List Y) (x : X) (y : Y) → AllAre R xs ys → R x y → AllAre R (xs ++ x ∷ []) (ys ++ y ∷ [])
unfolding AllAre
all_push R [] [] x y all one = (one, tt)
all_push R [] (z ∷ ys) x y all one = absurd all
all_push R (z ∷ xs) [] x y all one = absurd all
all_push R (z ∷ xs) (u ∷ ys) x y all one = (all.0, all_push R xs ys x y all.1 one)

drop_next : {X : Type 0} (xs : List X) (k : ℕ) (x : X) (tail : List X) → drop k xs ≡ x ∷ tail → drop (k + 1) xs ≡ tail
drop_next [] zero x tail is = absurd (cc)
drop_next [] (suc k) x tail is = absurd (cc)
drop_next (y ∷ xs) zero x tail is = cc
drop_next (y ∷ xs) (suc k) x tail is = let next : suc k + 1 ≡ suc (k + 1) = omega arith in ap (λ i. drop i (y ∷ xs)) next ∙ drop_next xs k x tail is

-- none is opened
pub none_opened : {L : Type 0} (carry_of : L → Carry) (restart_of : L → Restarts) (parts : List (List ℕ)) (ps : List (Part L)) → ps ≡ [] → AreOpened carry_of restart_of parts 0 ps
unfolding joined AllAre voices_from
none_opened carry_of restart_of parts ps is = record {
  documents = [];
  count = refl;
  left = by (documents_from 1 parts);
  all = subst (λ l. AllAt carry_of restart_of l []) (sym is) tt;
  runs = All-nil IsRingRun;
}
  where
    by : (r : Result (List DocumentView) (ℕ × BadDocument)) → r ≡ joined [] r
    by (Ok more) = refl
    by (Err refusal) = refl

-- the part that comes next
pub record IsPart (parts : List (List ℕ)) (n : ℕ) (part : List ℕ) : Type 0 where
  pub tail : List (List ℕ)
  pub here : drop n parts ≡ part ∷ tail
  pub next : drop (n + 1) parts ≡ tail

pub part_is : (parts : List (List ℕ)) (n : ℕ) (rest part after : List ℕ) (more : Bool) → drop n parts ≡ parts_of rest → parts_of rest ≡ part ∷ parts_after more after → IsPart parts n part
part_is parts n rest part after more at cut = record {
  tail = parts_after more after;
  here = at ∙ cut;
  next = drop_next parts n part (parts_after more after) (at ∙ cut);
}

pub text_after : (parts : List (List ℕ)) (n : ℕ) (rest part after : List ℕ) (more : Bool) → drop n parts ≡ parts_of rest → parts_of rest ≡ part ∷ parts_after more after → n + 1 < length parts → drop (n + 1) parts ≡ parts_of after
text_after parts n rest part after more at cut below = by more (drop_next parts n part (parts_after more after) (at ∙ cut))
  where
    left_some : (k : ℕ) (xs : List (List ℕ)) → k < length xs → 0 < length (drop k xs)
    left_some zero xs below = below
    left_some (suc k) [] below = absurd (omega (arith, below))
    left_some (suc k) (x ∷ xs) below = left_some k xs (omega (arith, below))

    by : (more : Bool) → drop (n + 1) parts ≡ (if more then parts_of after else []) → drop (n + 1) parts ≡ parts_of after
    by true is = is
    by false is = let some = left_some (n + 1) parts below in let none = ap length is in absurd (omega (arith, some, none))

-- one more is opened, and one is refused
pub one_opened : {L : Type 0} (carry_of : L → Carry) (restart_of : L → Restarts) (parts : List (List ℕ)) (n : ℕ) (ps new : List (Part L)) (p : Part L) (part : List ℕ)
    → AreOpened carry_of restart_of parts n ps → IsPart parts n part → ((d : DocumentView) × (document_of part ≡ Ok d) × IsAt carry_of restart_of p (voice_of (n + 1) d) × IsRingRun d) → new ≡ ps ++ p ∷ [] → AreOpened carry_of restart_of parts (n + 1) new
unfolding documents_from
one_opened carry_of restart_of parts n ps new p part now is opens pushed =
    let (d, said, at, run) = opens in
    let count = now.count in
    record {
      documents = now.documents ++ d ∷ [];
      count = length_push now.documents d ∙ ap (λ i. i + 1) count;
      left =
          now.left ∙ ap (λ l. joined now.documents (documents_from (n + 1) l)) is.here
          ∙ ap (λ r. joined now.documents (with_document (n + 1) r (documents_from (n + 1 + 1) is.tail))) said
          ∙ joined_more now.documents (n + 1) d (documents_from (n + 1 + 1) is.tail)
          ∙ ap (λ l. joined (now.documents ++ d ∷ []) (documents_from (n + 1 + 1) l)) (sym is.next);
      all =
          subst (λ l. AllAt carry_of restart_of l (voices_from 1 (now.documents ++ d ∷ []))) (sym pushed)
          (subst (λ vs. AllAt carry_of restart_of (ps ++ p ∷ []) vs) (sym (voices_push 1 now.documents d (n + 1) (omega (arith, count))))
          (all_push (IsAt carry_of restart_of) ps (voices_from 1 now.documents) p (voice_of (n + 1) d) now.all at));
      runs = All-push IsRingRun now.documents d now.runs run;
    }
  where
    length_push : (documents : List DocumentView) (d : DocumentView) → length (documents ++ d ∷ []) ≡ length documents + 1
    length_push [] d = refl
    length_push (x ∷ documents) d = let rest = length_push documents d in omega (arith, rest)

pub one_refused : {L : Type 0} (carry_of : L → Carry) (restart_of : L → Restarts) (parts : List (List ℕ)) (n : ℕ) (ps : List (Part L)) (part : List ℕ) (why : Unopened)
    → AreOpened carry_of restart_of parts n ps → IsPart parts n part → OpensPart carry_of restart_of (n + 1) part (Err why) → IsRefusedIn parts why
unfolding documents_from with_document joined
one_refused carry_of restart_of parts n ps part unopened.Memory now is opens = tt
one_refused carry_of restart_of parts n ps part (unopened.Refused m bad) now is opens =
    let (number, said, some) = opens in (
      now.left ∙ ap (λ l. joined now.documents (documents_from (n + 1) l)) is.here
          ∙ ap (λ r. joined now.documents (with_document (n + 1) r (documents_from (n + 1 + 1) is.tail))) said
          ∙ ap (λ i. Err (i, bad)) (sym number),
      some,
    )

pub all_opened : {L : Type 0} (carry_of : L → Carry) (restart_of : L → Restarts) (parts : List (List ℕ)) (n : ℕ) (ps : List (Part L)) → length parts ≤ n → AreOpened carry_of restart_of parts n ps → OpensAll carry_of restart_of parts ps
unfolding documents_from joined
all_opened carry_of restart_of parts n ps few now = record {
  documents = now.documents;
  said = now.left ∙ ap (λ l. joined now.documents (documents_from (n + 1) l)) (dropped_parts parts n few) ∙ ap (λ l. Ok l) (append-nil now.documents);
  all = now.all;
  runs = now.runs;
}
  where
    dropped_parts : (xs : List (List ℕ)) (k : ℕ) → length xs ≤ k → drop k xs ≡ []
    dropped_parts xs k few = dropped_all xs k few
