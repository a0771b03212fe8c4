-- What no write changes of a store.
use Rattle.sercos_law_run.proofs.Words.{cases_Option, ◌≡◌, ℕ, ◌≤◌, ◌==◌, nat_lt, true, false, not, ◌&&◌, List, [], ◌∷◌, map, Option, Some, None, IfSome, option_map, refl, sym, ◌∙◌, ap, arith, then_some, list_all, and_parts, nat_tests, none_of-or, none_of-then, Block, is_fixed, is_protected, find_block, with_value, with_data, write_fault, put_fault, store_of, with_data-nowhere, data_at, is_given, kept, WritesKeep, WritesHold, RefuseAlike, data_fault, are_ascending, Attribute, eqb-true, false≢true, cases_Bool, inl, inr}
use Rattle.sercos_law_run.proofs.Start.BlockFinds.{kept_field, same_kept}

-- a block whose value may change
abbrev pub Changes : Block → Type 0
Changes b = (is_fixed b && not (is_given b.idn.raw)) ≡ false

kept_written : (raw : ℕ) (bytes : List ℕ) (b : Block) → Changes b → kept (with_value raw bytes b) ≡ kept b
kept_written raw bytes b changes = elim (cases_Bool (b.idn.raw == raw)) [ inl on ↦ rw on (rw changes refl) | inr off ↦ rw off ]

pub above_none : (low raw : ℕ) (blocks : List Block) → raw ≤ low → list_all (λ c. nat_lt low c.idn.raw) blocks ≡ true → find_block raw blocks ≡ None
above_none low raw [] under above = refl
above_none low raw (c ∷ blocks) under above =
    let (here, rest) = and_parts (nat_lt low c.idn.raw) (list_all (λ c. nat_lt low c.idn.raw) blocks) above in
    let other : (c.idn.raw == raw) ≡ false = grind (arith, nat_tests) in rw other (above_none low raw blocks under rest)

keeps_by : (raw : ℕ) (bytes : List ℕ) (blocks : List Block) → are_ascending blocks ≡ true → IfSome (find_block raw blocks) Changes → map kept (with_data raw bytes blocks) ≡ map kept blocks
unfolding are_ascending
keeps_by raw bytes [] up changes = refl
keeps_by raw bytes (b ∷ blocks) up changes =
    let (above, rest) = and_parts (list_all (λ c. nat_lt b.idn.raw c.idn.raw) blocks) (are_ascending blocks) up in
    (elim (cases_Bool (b.idn.raw == raw)) [
      | inl e ↦ let more = keeps_by raw bytes blocks rest in
          let under : raw ≤ b.idn.raw = grind (arith, nat_tests) in
          rw (kept_written raw bytes b (rw e at changes), with_data-nowhere blocks raw bytes (above_none b.idn.raw raw blocks under above))
          refl
      | inr e ↦ rw (e, keeps_by raw bytes blocks rest (rw e at changes)) refl
    ])

-- if a write isn't refused, the block isn't write protected
pub bare : (o : Option Block) (phase : ℕ) (bytes : List ℕ) (a : Attribute) → option_map (λ (b : Block). b.attribute) o ≡ Some a → put_fault o phase bytes ≡ None → is_protected a phase ≡ false
bare None phase bytes a has none = absurd (cc)
bare (Some b) phase bytes a has none =
    let same : b.attribute ≡ a = cc in
    let write = (none_of-or (write_fault (Some b) phase) (data_fault b bytes) none).0 in
    ap (λ (x : Attribute). is_protected x phase) (sym same) ∙ none_of-then (is_protected b.attribute phase) 0x7005 (none_of-or (then_some (is_fixed b) 0x7004) (then_some (is_protected b.attribute phase) 0x7005) write).1

-- so the phase is 2, if the block is write protected in phases 3 and 4
pub in_two : (a : Attribute) (phase : ℕ) → a.protect3 ≡ true → a.protect4 ≡ true → is_protected a phase ≡ false → phase ≡ 2
in_two a phase three four off = elim (cases_Bool (phase == 2)) [
  | inl two ↦ eqb-true phase 2 two
  | inr two ↦ elim (cases_Bool (phase == 3)) [
    | inl other ↦ absurd (false≢true (sym (rw (two, other) at off) ∙ three))
    | inr other ↦ absurd (false≢true (sym (rw (two, other) at off) ∙ four))
  ]
]

given_may : (raw : ℕ) (blocks : List Block) → is_given raw ≡ true → IfSome (find_block raw blocks) Changes
given_may raw [] given = tt
given_may raw (b ∷ blocks) given = elim (cases_Bool (b.idn.raw == raw)) [
  | inl e ↦
      rw (e, eqb-true b.idn.raw raw e, given) (elim (cases_Bool (is_fixed b)) [ inl on ↦ rw on | inr off ↦ rw off ])
  | inr e ↦ rw e (given_may raw blocks given)
]

pub writes_keep : WritesKeep
writes_keep d blocks raw phase bytes up is = (
  (λ none. keeps_by raw bytes blocks up (elim (cases_Option (find_block raw blocks)) [
    | inl none_is ↦ rw none_is tt
    | inr some ↦ rw some.1 (let none = rw some.1 at none in
        let (write, _) = none_of-or (write_fault (Some some.0) phase) (data_fault some.0 bytes) none in
        let (fixed, _) = none_of-or (then_some (is_fixed some.0) 0x7004) (then_some (is_protected some.0.attribute phase) 0x7005) write in
        rw (none_of-then (is_fixed some.0) 0x7004 fixed) refl)
  ]) ∙ is),
  (λ given. keeps_by raw bytes blocks up (given_may raw blocks given) ∙ is),
)

pub stays : (blocks : List Block) (raw other : ℕ) (bytes : List ℕ) → (other == raw) ≡ false → data_at (with_data raw bytes blocks) other ≡ data_at blocks other
stays [] raw other bytes es = refl
stays (c ∷ cs) raw other bytes es = let rest = stays cs raw other bytes es in elim (cases_Bool (c.idn.raw == other)) [
  | inl eo ↦ let er : (c.idn.raw == raw) ≡ false = grind (arith, nat_tests, eo, es) in rw (er, eo)
  | inr eo ↦ elim (cases_Bool (c.idn.raw == raw)) [ inl er ↦ rw (er, eo) rest | inr er ↦ rw (er, eo) rest ]
]

-- the operation data after a write
pub writes_hold : WritesHold
writes_hold [] raw other bytes has = cc
writes_hold (b ∷ blocks) raw other bytes has = elim (cases_Bool (b.idn.raw == raw)) [
  | inl er ↦ elim (cases_Bool (other == raw)) [
    | inl es ↦ let eo : (b.idn.raw == other) ≡ true = grind (arith, nat_tests, er, es) in rw (er, eo, es)
    | inr es ↦ let eo : (b.idn.raw == other) ≡ false = grind (arith, nat_tests, er, es) in rw (er, eo, es) (stays blocks raw other bytes es)
  ]
  | inr er ↦ elim (cases_Bool (b.idn.raw == other)) [
    | inl eo ↦ let es : (other == raw) ≡ false = grind (arith, nat_tests, er, eo) in rw (er, eo, es)
    | inr eo ↦ rw (er, eo) (writes_hold blocks raw other bytes (rw er at has))
  ]
]

-- what is refused doesn't depend on the operation data
put_kept : (o : Option Block) (phase : ℕ) (bytes : List ℕ) → put_fault (option_map kept o) phase bytes ≡ put_fault o phase bytes
unfolding data_fault
put_kept None phase bytes = refl
put_kept (Some b) phase bytes = kept_field (λ b. put_fault (Some b) phase bytes) (λ b. refl) b

pub refuse_alike : RefuseAlike
refuse_alike d blocks is raw phase bytes =
    sym (put_kept (find_block raw blocks) phase bytes) ∙ ap (λ (o : Option Block). put_fault o phase bytes) (same_kept raw d blocks is) ∙ put_kept (find_block raw (store_of d)) phase bytes
