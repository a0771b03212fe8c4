-- Each request that the master begins is one that a transfer takes.
use Rattle.sercos_law_run.proofs.Words.{◌≡◌, ℕ, zero, suc, List, [], ◌∷◌, drop, Option, Some, None, refl, sym, ap, ◌∙◌, subst, same_Some, slice_get, Idn, Request, Outcome, PlanView, Block, blocks_fault, store_of, DriveView, Begun, idn, Known, Task, member, IsSound, IsTask, OfReads, OfWrites, Checks3, Lists3, Checks4, Lists4, OfWaiting, AreBegunTasks, IsTypedRequest, attribute_of, built_in}
use Rattle.sercos_law_run.proofs.Start.BlockFinds.{find_store_of}
use Rattle.sercos_law_run.proofs.Held.AnsweredRuns.{Time, Attribute, is_read_request}
use Rattle.sercos_law_run.proofs.Agenda.WritesDone.{writes_data}

-- a typed request is sound, but for what it sets
typed_sound : (blocks : List Block) (r : Request) → IsTypedRequest r → ((i : Idn) → r ≡ Request.Command i → IsSound blocks (Request.Command i)) → IsSound blocks r
typed_sound blocks (Request.Read i e) typed sets = typed.1
typed_sound blocks (Request.Write i e bytes) typed sets = (typed.1.0, typed.2)
typed_sound blocks (Request.Command i) typed sets = sets i refl

-- the checks are procedure commands of each drive
check_127 : (d : DriveView) → blocks_fault [] d.blocks ≡ None → IsSound (store_of d) (Request.Command (idn 127))
unfolding built_in attribute_of
check_127 d rules = rw (find_store_of 127 d rules) refl

check_128 : (d : DriveView) → blocks_fault [] d.blocks ≡ None → IsSound (store_of d) (Request.Command (idn 128))
unfolding built_in attribute_of
check_128 d rules = rw (find_store_of 128 d rules) refl

-- what a task sets
sets_so : (s : Known) (k : ℕ) (by_then : Option PlanView) (waiting : List Task) (outs : List Outcome) (t : Task) (d : DriveView)
    → blocks_fault [] d.blocks ≡ None → ((j : ℕ) (x : Task) → slice_get waiting j ≡ Some x → IsSound (store_of d) x.request)
    → IsTask s k by_then waiting outs t → (i : Idn) → t.request ≡ Request.Command i → IsSound (store_of d) (Request.Command i)
sets_so s k by_then waiting outs t d rules waits (OfReads r less found is) i sets = elim (is_read_request (member s k) _ r found) [
  | Time raw built e ↦ let wrong : Request.Read (idn raw) 7 ≡ Request.Command i = sym e ∙ sym (ap (λ (x : Task). x.request) is) ∙ sets in absurd (cc)
  | Attribute x e ↦ let wrong : Request.Read x 3 ≡ Request.Command i = sym e ∙ sym (ap (λ (y : Task). y.request) is) ∙ sets in absurd (cc)
]
sets_so s k by_then waiting outs t d rules waits (OfWrites p n r planned less at found is) i sets =
    let (w, bytes, got, number) = writes_data s p k n less in
    let wrong : Request.Write w 7 bytes ≡ Request.Command i = same_Some (Request.Write w 7 bytes) r (sym got ∙ found) ∙ sym (ap (λ (x : Task). x.request) is) ∙ sets in
    absurd (cc)
sets_so s k by_then waiting outs t d rules waits (Checks3 p planned at is) i sets =
    subst (λ q. IsSound (store_of d) q) (sym (ap (λ (x : Task). x.request) is) ∙ sets) (check_127 d rules)
sets_so s k by_then waiting outs t d rules waits (Lists3 at failed is) i sets =
    let wrong : Request.Read (idn 21) 7 ≡ Request.Command i = sym (ap (λ (x : Task). x.request) is) ∙ sets in absurd (cc)
sets_so s k by_then waiting outs t d rules waits (Checks4 at checked is) i sets =
    subst (λ q. IsSound (store_of d) q) (sym (ap (λ (x : Task). x.request) is) ∙ sets) (check_128 d rules)
sets_so s k by_then waiting outs t d rules waits (Lists4 at failed is) i sets =
    let wrong : Request.Read (idn 22) 7 ≡ Request.Command i = sym (ap (λ (x : Task). x.request) is) ∙ sets in absurd (cc)
sets_so s k by_then waiting outs t d rules waits (OfWaiting j at ready found) i sets = subst (λ q. IsSound (store_of d) q) sets (waits j t found)

-- the newest of the requests that were begun
pub newest_sound : (s : Known) (k phase : ℕ) (plan : Option PlanView) (waiting : List Task) (d : DriveView) (begun : List Begun) (tasks : List Task) → blocks_fault [] d.blocks ≡ None
    → ((j : ℕ) (x : Task) → slice_get waiting j ≡ Some x → IsSound (store_of d) x.request) → AreBegunTasks s k plan waiting phase begun tasks
    → (b : Begun) (older : List Begun) → begun ≡ b ∷ older → IsTypedRequest b.request → IsSound (store_of d) b.request
newest_sound s k phase plan waiting d [] [] rules waits are b older is typed = cc
newest_sound s k phase plan waiting d [] (t ∷ tasks) rules waits are b older is typed = cc
newest_sound s k phase plan waiting d (c ∷ others) [] rules waits are b older is typed = absurd are
newest_sound s k phase plan waiting d (c ∷ others) (t ∷ tasks) rules waits are b older is typed =
    let same : c ≡ b = cc in
    let asks : b.request ≡ t.request = sym (ap (λ (x : Begun). x.request) same) ∙ are.1.asks in
    typed_sound (store_of d) b.request typed (λ i sets. sets_so s k are.1.by_then waiting _ t d rules waits are.1.task i (sym asks ∙ sets))

pub got_behind : {A : Type 0} (xs : List A) (n j : ℕ) (x : A) → slice_get (drop n xs) j ≡ Some x → (i : ℕ) × (slice_get xs i ≡ Some x)
got_behind xs zero j x got = (j, got)
got_behind [] (suc n) j x got = absurd (cc)
got_behind (y ∷ xs) (suc n) j x got = let (i, there) = got_behind xs n j x got in (suc i, there)
