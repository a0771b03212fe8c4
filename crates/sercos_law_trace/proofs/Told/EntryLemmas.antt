-- The steps that a drive accepted in a run, and the transfers that they are parts of.
use Rattle.sercos_law_trace.proofs.Words.{cases_Bool, ◌≡◌, ◌⊎◌, inl, inr, ℕ, ◌==◌, Bool, true, false, if◌then◌else◌, List, [], ◌∷◌, ◌++◌, length, Option, Some, None, refl, sym, ap, subst, ◌∙◌, append_assoc, cond_both, nat_le, ◌&&◌, beq, Job, Block, IsStore, RingView, Processed, Entry, ahs, reply_of, log_of, Write, Begun, store_at, Carry, Restarts, CycleView, View, processed_of, processed_in, kept_in, stood_in, standing, got_in, begun_in, epoch_begun, all_begun, all_entries, accepted_of, leaving, begun_ago, AreExact, IsExact, AreParts, entry_behind, OnStores, drive_at, given_mst, view_of, views_of, views_count}
use Rattle.sercos_service_master.specs.Begun.{Said}

-- this step is among those that a drive accepted
abbrev pub HasAccepted : Entry → List Entry → Type 0
HasAccepted e [] = ⊥
HasAccepted e (x ∷ entries) = (x ≡ e) ⊎ HasAccepted e entries

left_in : (e : Entry) (xs ys : List Entry) → HasAccepted e xs → HasAccepted e (xs ++ ys)
left_in e [] ys has = absurd has
left_in e (x ∷ xs) ys (inl is) = inl is
left_in e (x ∷ xs) ys (inr has) = inr (left_in e xs ys has)

right_in : (e : Entry) (xs ys : List Entry) → HasAccepted e ys → HasAccepted e (xs ++ ys)
right_in e [] ys has = has
right_in e (x ∷ xs) ys has = inr (right_in e xs ys has)

-- each of them was accepted on the blocks of a store
pub on_store : (e : Entry) (entries : List Entry) → OnStores entries → HasAccepted e entries → IsStore e.processed.blocks
on_store e [] stores has = absurd has
on_store e (x ∷ entries) stores (inl is) = subst (λ (y : Entry). IsStore y.processed.blocks) is stores.1
on_store e (x ∷ entries) stores (inr has) = on_store e entries stores.0 has

pub behind_in : (count : ℕ) (e : Entry) (entries : List Entry) → entry_behind count entries ≡ Some e → HasAccepted e entries
behind_in count e [] is = absurd (cc)
behind_in count e (x ∷ entries) is = elim (cases_Bool (length entries == count)) [
  | inl on ↦ let same : x ≡ e = cc in inl same
  | inr off ↦ let is = rw off at is in inr (behind_in count e entries is)
]

-- A request that was begun in a cycle is among all that were begun.
pub both_begun : (falls : Bool) (begun ago : List Begun) → (if falls then [] else begun) ++ leaving falls begun ago ≡ begun ++ ago
both_begun true begun ago = refl
both_begun false begun ago = refl

pub record IsBegunIn (all newer : List Begun) (b : Begun) : Type 0 where
  pub older : List Begun
  pub split : all ≡ newer ++ b ∷ older

pub begun_among : (v : View) (past : List View) (newer older : List Begun) (b : Begun) → begun_in v past ≡ newer ++ b ∷ older → IsBegunIn (all_begun (v ∷ past)) newer b
begun_among v past newer older b split =
    let ago : List Begun = leaving v.master_restarts (epoch_begun past) (begun_ago past) in record {
      older = older ++ ago;
      split = both_begun v.falls (begun_in v past) ago ∙ ap (λ xs. xs ++ ago) split ∙ append_assoc newer (b ∷ older) ago;
    }

-- The steps that were accepted of exact transfers are their parts.
parts_of : (blocks : List Block) (begun : List Begun) (entries : List Entry) (writes : List Write) → AreExact blocks begun entries writes → AreParts begun entries
parts_of blocks [] entries writes exact = exact.0
parts_of blocks (b ∷ begun) entries writes (part, rest, own, others, entries_are, writes_are, exact, more) = (part, rest, entries_are, exact.part_of, parts_of blocks begun rest others more)

-- Among exact transfers each is exact, with a part of the steps accepted, which comes between the parts of the later ones and of the earlier ones.
pub record IsOneOf (blocks : List Block) (newer : List Begun) (b : Begun) (older : List Begun) (entries : List Entry) : Type 0 where
  pub after : List Entry
  pub part : List Entry
  pub behind : List Entry
  pub own : List Write
  pub split : entries ≡ after ++ part ++ behind
  pub later_parts : AreParts newer after
  pub exact : IsExact blocks b part own
  pub earlier_parts : AreParts older behind

pub one_exact : (blocks : List Block) (newer older : List Begun) (b : Begun) (entries : List Entry) (writes : List Write) → AreExact blocks (newer ++ b ∷ older) entries writes → IsOneOf blocks newer b older entries
one_exact blocks [] older b entries writes (part, rest, own, others, entries_are, writes_are, exact, more) =
    record { after = []; part = part; behind = rest; own = own; split = entries_are; later_parts = refl; exact = exact; earlier_parts = parts_of blocks older rest others more }
one_exact blocks (x ∷ newer) older b entries writes (part, rest, own, others, entries_are, writes_are, exact, more) =
    let one = one_exact blocks newer older b rest others more in record {
      after = part ++ one.after;
      part = one.part;
      behind = one.behind;
      own = one.own;
      split = entries_are ∙ ap (λ l. part ++ l) one.split ∙ sym (append_assoc part (one.after ++ one.part) one.behind) ∙ ap (λ l. l ++ one.behind) (sym (append_assoc part one.after one.part));
      later_parts = (part, one.after, refl, exact.part_of, one.later_parts);
      exact = one.exact;
      earlier_parts = one.earlier_parts;
    }

-- and the steps of its part are among all
pub among_all : {blocks : List Block} {newer older : List Begun} {b : Begun} {entries : List Entry} (one : IsOneOf blocks newer b older entries) (e : Entry) → HasAccepted e one.part → HasAccepted e entries
among_all one e has = subst (HasAccepted e) (sym one.split) (left_in e (one.after ++ one.part) one.behind (right_in e one.after one.part has))

-- A step that was accepted in a run was accepted in one of its cycles, on the blocks that the drive then had.
processed_so : (v : View) (cycle stood : ℕ) (got : Option Said) (t : Processed) → processed_of v cycle stood got ≡ Some t → (t.cycle ≡ cycle) × (t.blocks ≡ v.blocks)
processed_so v cycle stood None t is = absurd (cc)
processed_so v cycle stood (Some s) t is = by (v.mst_comes && nat_le 2 stood) is
  where
    by : (b : Bool) → (if b then Some (record { cycle = cycle; phase = stood; mhs = s.mhs; step = s.step; blocks = v.blocks; commands = v.commands }) else None) ≡ Some t → (t.cycle ≡ cycle) × (t.blocks ≡ v.blocks)
    by true is = let same : record { cycle = cycle; phase = stood; mhs = s.mhs; step = s.step; blocks = v.blocks; commands = v.commands } ≡ t = cc in (sym (ap (λ (x : Processed). x.cycle) same), sym (ap (λ (x : Processed). x.blocks) same))
    by false is = absurd (cc)

-- the newest step, or one before it
newest_or : (processed : Option Processed) (h : List Processed) (entries : List Entry) (e : Entry) → HasAccepted e (accepted_of processed h entries) → (processed ≡ Some e.processed) ⊎ HasAccepted e entries
newest_or None h entries e has = inr has
newest_or (Some t) h entries e has = by (beq t.mhs (ahs h)) has
  where
    by : (b : Bool) → HasAccepted e (if b then entries else (record { processed = t; answer = reply_of t (log_of h) }) ∷ entries) → (Some t ≡ Some e.processed) ⊎ HasAccepted e entries
    by true has = inr has
    by false (inl is) = inl (ap (λ (x : Entry). Some x.processed) is)
    by false (inr has) = inr has

pub one_more : (processed : Option Processed) (h : List Processed) (entries : List Entry) (e : Entry) → HasAccepted e entries → HasAccepted e (accepted_of processed h entries)
one_more None h entries e has = has
one_more (Some t) h entries e has = cond_both (beq t.mhs (ahs h)) entries ((record { processed = t; answer = reply_of t (log_of h) }) ∷ entries)
    (HasAccepted e) (λ on. has) (λ off. inr has)

pub record IsAcceptedIn (r : RingView) (carry : Carry) (restarts : Restarts) (k : ℕ) (run : List CycleView) (e : Entry) : Type 0 where
  pub newer : List CycleView
  pub cycle : CycleView
  pub older : List CycleView
  pub cut : run ≡ newer ++ cycle ∷ older
  pub at : e.processed.cycle ≡ length older
  pub blocks : e.processed.blocks ≡ store_at (drive_at r k) r.rate (given_mst carry restarts cycle.sent older k)

pub accepted_in : (r : RingView) (jobs : List Job) (carry : Carry) (restarts : Restarts) (k : ℕ) (run : List CycleView) (e : Entry) → HasAccepted e (all_entries (views_of r jobs carry restarts k run)) → IsAcceptedIn r carry restarts k run e
accepted_in r jobs carry restarts k [] e has = absurd has
accepted_in r jobs carry restarts k (t ∷ j) e has =
    by (newest_or (processed_in (view_of r jobs carry restarts k t j) (views_of r jobs carry restarts k j)) (kept_in (view_of r jobs carry restarts k t j) (views_of r jobs carry restarts k j)) (all_entries (views_of r jobs carry restarts k j)) e has)
    (accepted_in r jobs carry restarts k j e)
  where
    by : (processed_in (view_of r jobs carry restarts k t j) (views_of r jobs carry restarts k j) ≡ Some e.processed) ⊎ HasAccepted e (all_entries (views_of r jobs carry restarts k j))
        → (HasAccepted e (all_entries (views_of r jobs carry restarts k j)) → IsAcceptedIn r carry restarts k j e) → IsAcceptedIn r carry restarts k (t ∷ j) e
    by (inl is) rest =
        let so = processed_so (view_of r jobs carry restarts k t j) (length (views_of r jobs carry restarts k j)) (stood_in (view_of r jobs carry restarts k t j) (standing (views_of r jobs carry restarts k j))) (got_in (view_of r jobs carry restarts k t j)) e.processed is in
        record { newer = []; cycle = t; older = j; cut = refl; at = so.0 ∙ views_count r jobs carry restarts k j; blocks = so.1 }
    by (inr has) rest =
        let one = rest has in
        record { newer = t ∷ one.newer; cycle = one.cycle; older = one.older; cut = ap (λ l. t ∷ l) one.cut; at = one.at; blocks = one.blocks }

-- and it stays accepted in a longer run
pub accepted_later : (r : RingView) (jobs : List Job) (carry : Carry) (restarts : Restarts) (k : ℕ) (later j : List CycleView) (e : Entry) → HasAccepted e (all_entries (views_of r jobs carry restarts k j))
    → HasAccepted e (all_entries (views_of r jobs carry restarts k (later ++ j)))
accepted_later r jobs carry restarts k [] j e has = has
accepted_later r jobs carry restarts k (t ∷ later) j e has =
    one_more (processed_in (view_of r jobs carry restarts k t (later ++ j)) (views_of r jobs carry restarts k (later ++ j))) (kept_in (view_of r jobs carry restarts k t (later ++ j)) (views_of r jobs carry restarts k (later ++ j)))
    (all_entries (views_of r jobs carry restarts k (later ++ j))) e (accepted_later r jobs carry restarts k later j e has)
