-- What a scan says of the rules on flags.
use Rattle.std.proofs.Common.{◌≡◌, ◌≢◌, ℕ, ◌+◌, ◌-◌, ◌<◌, ◌≤◌, ◌==◌, ◌&&◌, ◌||◌, Bool, true, false, not, cond, List, [], ◌∷◌, ◌++◌, inl, inr, Option, Some, None, length, take, drop, get_or, refl, sym, ap, ◌∙◌, arith, length-append, append_assoc, leb}
use Rattle.std.specs.Option.{option_or}
use Rattle.std.proofs.lemmas.List.{append-nil, take_at, length-drop, get_or-drop, get_or-append-add}
use Rattle.std.proofs.lemmas.Bool.{eq-eqb, ne_eqb, le-leb, lt-leb, cases_eq, cases_lt, and_parts, leb-true, lt-ltb, le-ltb, eqb-false, or_parts}
use Rattle.sercos_hdlc.specs.declared.bad_frame.BadFrame.{BadFrame}
use Rattle.sercos_hdlc.specs.declared.bad_frame.BadFrame.TheVariants as bad
use Rattle.sercos_hdlc.specs.Reason.{opens, six_place, ends_in_five, unstuffed, ones_at, closing_at, body, plain, given, no_open, no_close, runs_on, zero_missing, after, unclosed, unreadable, reason_of}
use Rattle.sercos_hdlc.specs.Sought.{ones_then, IsBehindZero, IsFound}
use Rattle.sercos_hdlc.specs.Scanned.{IsScan}
use Rattle.sercos_hdlc.specs.Enclosed.{IsEnclosed}
use Rattle.sercos_hdlc.specs.declared.scan.Scan.{Scan}
use Rattle.sercos_hdlc.proofs.RunLemmas.{six_place-ones_then_end, six_place-six}
use Rattle.sercos_hdlc.proofs.SoughtLemmas.{opens-agree, opens-short}
use Rattle.sercos_hdlc.proofs.ScanLemmas.{sought_of, found_of}

option_or_assoc : (a b c : Option BadFrame) → option_or (option_or a b) c ≡ option_or a (option_or b c)
option_or_assoc None b c = refl
option_or_assoc (Some reason) b c = refl

-- the nine rules, one after another
rules_of : (bits : List Bool) → reason_of bits ≡ option_or (no_open bits) (option_or (no_close bits) (option_or (runs_on bits) (option_or (zero_missing bits) (option_or (unreadable (plain bits)) (after bits)))))
unfolding reason_of unclosed
rules_of bits =
    let rest = option_or (zero_missing bits) (option_or (unreadable (plain bits)) (after bits)) in
    option_or_assoc (no_open bits) (option_or (no_close bits) (runs_on bits)) rest ∙ ap (option_or (no_open bits)) (option_or_assoc (no_close bits) (runs_on bits) rest)

applies : (test : Bool) (reason : BadFrame) (others : Option BadFrame) → test ≡ true → option_or (given test reason) others ≡ Some reason
unfolding given
applies true reason others h = refl
applies false reason others h = cc

passes : (test : Bool) (reason : BadFrame) (others : Option BadFrame) → test ≡ false → option_or (given test reason) others ≡ others
unfolding given
passes true reason others h = cc
passes false reason others h = refl

pub not_open : (bits : List Bool) → opens bits ≡ false → reason_of bits ≡ Some bad.NoOpen
not_open bits h = rules_of bits ∙ applies (not (opens bits)) bad.NoOpen _ (ap not h)

opened : (bits : List Bool) → opens bits ≡ true → reason_of bits ≡ option_or (no_close bits) (option_or (runs_on bits) (option_or (zero_missing bits) (option_or (unreadable (plain bits)) (after bits))))
opened bits h = rules_of bits ∙ passes (not (opens bits)) bad.NoOpen _ (ap not h)

pub not_closed : (bits : List Bool) → opens bits ≡ true → length bits ≤ ones_at bits + 6 → reason_of bits ≡ Some (bad.NoClose (length bits))
not_closed bits h few = opened bits h ∙ applies (leb (length bits) (ones_at bits + 6)) (bad.NoClose (length bits)) _ (le-leb (length bits) (ones_at bits + 6) few)

closed : (bits : List Bool) → opens bits ≡ true → ones_at bits + 6 < length bits → reason_of bits ≡ option_or (runs_on bits) (option_or (zero_missing bits) (option_or (unreadable (plain bits)) (after bits)))
closed bits h many = opened bits h ∙ passes (leb (length bits) (ones_at bits + 6)) (bad.NoClose (length bits)) _ (lt-leb (length bits) (ones_at bits + 6) many)

pub runs : (bits : List Bool) → opens bits ≡ true → ones_at bits + 6 < length bits → ((ones_at bits == 8) || get_or bits (ones_at bits + 6) false) ≡ true → reason_of bits ≡ Some (bad.Abort (ones_at bits))
runs bits h many test = closed bits h many ∙ applies ((ones_at bits == 8) || get_or bits (ones_at bits + 6) false) (bad.Abort (ones_at bits)) _ test

apart : (bits : List Bool) → opens bits ≡ true → ones_at bits + 6 < length bits → ((ones_at bits == 8) || get_or bits (ones_at bits + 6) false) ≡ false → reason_of bits ≡ option_or (zero_missing bits) (option_or (unreadable (plain bits)) (after bits))
apart bits h many test = closed bits h many ∙ passes ((ones_at bits == 8) || get_or bits (ones_at bits + 6) false) (bad.Abort (ones_at bits)) _ test

-- how many bits a scan that agrees with the flag has
pub opens_of : (bits given : List Bool) (scan : Scan) → IsScan bits given scan → 8 ≤ scan.taken → opens bits ≡ scan.agrees
opens_of bits given scan h behind = opens-agree bits (omega (arith, h.taken_all)) ∙ sym h.flag_first

pub short_of : (bits given : List Bool) (scan : Scan) → IsScan bits given scan → scan.taken < 8 → opens bits ≡ false
short_of bits given scan h short = opens-short bits (omega (arith, h.taken_all))

-- no six ones were found
pub none_found : (bits given : List Bool) (scan : Scan) → IsScan bits given scan → 8 ≤ scan.taken → scan.ones ≤ 5 → ones_at bits ≡ length bits
none_found bits given scan h behind few =
    let sought = sought_of h.way few in
    let six = sought.six [] in
    omega (arith, six, h.taken_all, ap six_place (append-nil (drop 8 bits)), six_place-ones_then_end scan.ones few, length-drop 8 bits)

-- the first six ones were found
module _ (bits given : List Bool) (scan : Scan) (h : IsScan bits given scan) (behind : 8 ≤ scan.taken) (six : 5 < scan.ones) where
  found : IsFound (drop 8 bits) scan.ones scan.closing scan.seventh scan.dropped given
  found = found_of h.way six

  pub ones_found : ones_at bits ≡ scan.closing + 1
  unfolding found
  ones_found =
      let place = found.sought.six (true ∷ found.more) in
      omega (arith, ap six_place found.whole, place, six_place-six found.more, found.place, found.sought.few)

  pub closing_found : closing_at bits ≡ scan.closing
  closing_found = omega (arith, ones_found)

  pub next_found : get_or bits (ones_at bits + 6) false ≡ scan.seventh
  unfolding found
  next_found =
      let behind_eight : 8 + (length found.before + 1) ≡ ones_at bits + 6 = omega (arith, ones_found, found.place) in
      ap (λ n. get_or bits n false) (sym behind_eight) ∙ sym (get_or-drop 8 bits (length found.before + 1) false) ∙ ap (λ b. get_or b (length found.before + 1) false) found.whole ∙ get_or-append-add found.before (true ∷ found.more) 1 false ∙ sym found.next

  behind_zero : scan.closing ≢ 7 → IsBehindZero found.before 5 scan.dropped given
  unfolding found
  behind_zero other =
      elim found.sought.last_zero [
        | inl all ↦ absurd (other (omega (arith, all, found.place)))
        | inr zero_before ↦ zero_before
      ]

  body_found : (z : IsBehindZero found.before 5 scan.dropped given) → body bits ≡ z.body
  unfolding found
  body_found z =
      let bits_are : drop 8 bits ≡ z.body ++ (false ∷ ones_then 5 (true ∷ found.more)) = found.whole ∙ ap (λ b. b ++ (true ∷ found.more)) z.whole ∙ append_assoc z.body (false ∷ ones_then 5 []) (true ∷ found.more) in
      let long : length z.body ≡ closing_at bits - 8 = omega (arith, closing_found, found.place, ap length z.whole, length-append z.body (false ∷ ones_then 5 [])) in
      ap (take (closing_at bits - 8)) bits_are ∙ take_at z.body (false ∷ ones_then 5 (true ∷ found.more)) (closing_at bits - 8) long

  pub ends_found : scan.closing ≢ 7 → ends_in_five (body bits) ≡ scan.dropped
  unfolding found
  ends_found other =
      let z = behind_zero other in
      ap ends_in_five (body_found z) ∙ z.ends

  pub plain_found : scan.closing ≢ 7 → scan.dropped ≡ false → given ≡ plain bits ++ (false ∷ ones_then 5 [])
  unfolding found
  plain_found other kept =
      let z = behind_zero other in
      z.before ∙ ap (λ d. unstuffed 0 z.body ++ (cond d [] (false ∷ []) ++ ones_then 5 [])) kept ∙ ap (λ b. unstuffed 0 b ++ (false ∷ ones_then 5 [])) (sym (body_found z))

  test_found : (test : Bool) → test ≡ ((scan.closing == 7) || scan.seventh) → ((ones_at bits == 8) || get_or bits (ones_at bits + 6) false) ≡ test
  test_found test is =
      let same : (ones_at bits == 8) ≡ (scan.closing == 7) = elim (cases_eq scan.closing 7) [
        | inl seven ↦ eq-eqb (ones_at bits) 8 (omega (arith, ones_found)) ∙ sym (eq-eqb scan.closing 7 seven)
        | inr other ↦ ne_eqb (ones_at bits) 8 (λ e. other (omega (arith, ones_found))) ∙ sym (ne_eqb scan.closing 7 other)
      ] in
      ap (λ v. v || get_or bits (ones_at bits + 6) false) same ∙ ap (λ v. (scan.closing == 7) || v) next_found ∙ sym is

  pub no_close_found : scan.agrees ≡ true → scan.taken ≤ scan.closing + 7 → reason_of bits ≡ Some (bad.NoClose scan.taken)
  no_close_found open_flag few =
      not_closed bits (opens_of bits given scan h behind ∙ open_flag) (omega (arith, ones_found, h.taken_all)) ∙ ap (λ n. Some (bad.NoClose n)) (sym h.taken_all)

  pub runs_found : scan.agrees ≡ true → scan.closing + 7 < scan.taken → ((scan.closing == 7) || scan.seventh) ≡ true → reason_of bits ≡ Some (bad.Abort (scan.closing + 1))
  runs_found open_flag many test =
      runs bits (opens_of bits given scan h behind ∙ open_flag) (omega (arith, ones_found, h.taken_all)) (test_found true (sym test)) ∙ ap (λ n. Some (bad.Abort n)) ones_found

  left_found : scan.agrees ≡ true → scan.closing + 7 < scan.taken → ((scan.closing == 7) || scan.seventh) ≡ false → reason_of bits ≡ option_or (zero_missing bits) (option_or (unreadable (plain bits)) (after bits))
  left_found open_flag many test =
      apart bits (opens_of bits given scan h behind ∙ open_flag) (omega (arith, ones_found, h.taken_all)) (test_found false (sym test))

  other_than : ((scan.closing == 7) || scan.seventh) ≡ false → scan.closing ≢ 7
  other_than test = eqb-false scan.closing 7 (or_parts (scan.closing == 7) scan.seventh test).0

  pub missing_found : scan.agrees ≡ true → scan.closing + 7 < scan.taken → ((scan.closing == 7) || scan.seventh) ≡ false → scan.dropped ≡ true → reason_of bits ≡ Some (bad.Abort scan.closing)
  missing_found open_flag many test missing =
      left_found open_flag many test ∙ applies (ends_in_five (body bits)) (bad.Abort (closing_at bits)) _ (ends_found (other_than test) ∙ missing) ∙ ap (λ n. Some (bad.Abort n)) closing_found

  pub enclosed_found : scan.agrees ≡ true → scan.closing + 7 < scan.taken → ((scan.closing == 7) || scan.seventh) ≡ false → scan.dropped ≡ false → (len : ℕ) → len ≡ scan.plain_len - 6 → IsEnclosed bits given scan.closing len
  enclosed_found open_flag many test kept len is =
      let whole = plain_found (other_than test) kept in
      record {
        left = left_found open_flag many test ∙ passes (ends_in_five (body bits)) (bad.Abort (closing_at bits)) _ (ends_found (other_than test) ∙ kept);
        place = closing_found;
        whole = whole;
        all = omega (arith, is, h.plain_all, ap length whole, length-append (plain bits) (false ∷ ones_then 5 []));
      }

-- the other ways to refuse
pub no_open_scan : (bits given : List Bool) (scan : Scan) (test : Bool) → IsScan bits given scan → test ≡ (leb 8 scan.taken && scan.agrees) → test ≡ false → reason_of bits ≡ Some bad.NoOpen
no_open_scan bits given scan test h is closed_flag =
    elim (cases_lt scan.taken 8) [
      | inl short ↦ not_open bits (short_of bits given scan h short)
      | inr behind ↦ not_open bits (opens_of bits given scan h behind ∙ sym (ap (λ v. v && scan.agrees) (le-leb 8 scan.taken behind)) ∙ sym is ∙ closed_flag)
    ]

pub no_close_scan : (bits given : List Bool) (scan : Scan) → IsScan bits given scan → 8 ≤ scan.taken → scan.agrees ≡ true → scan.ones ≤ 5 → reason_of bits ≡ Some (bad.NoClose scan.taken)
no_close_scan bits given scan h behind open_flag few =
    not_closed bits (opens_of bits given scan h behind ∙ open_flag) (omega (arith, none_found bits given scan h behind few)) ∙ ap (λ n. Some (bad.NoClose n)) (sym h.taken_all)

pub open_parts : (taken : ℕ) (agrees test : Bool) → test ≡ (leb 8 taken && agrees) → test ≡ true → (8 ≤ taken) × (agrees ≡ true)
open_parts taken agrees test is open_flag =
    let parts = and_parts (leb 8 taken) agrees (sym is ∙ open_flag) in
    (leb-true 8 taken parts.0, parts.1)

-- bits after the closing flag
pub after_some : (bits : List Bool) (closing taken : ℕ) → closing_at bits ≡ closing → taken ≡ length bits → closing + 8 < taken → Some (bad.After (closing + 8)) ≡ after bits
unfolding given
after_some bits closing taken place all more =
    rw (lt-ltb (closing_at bits + 8) (length bits) (omega arith), place) refl

pub after_none : (bits : List Bool) (closing taken : ℕ) → closing_at bits ≡ closing → taken ≡ length bits → taken ≤ closing + 8 → None ≡ after bits
unfolding given
after_none bits closing taken place all none =
    rw (le-ltb (closing_at bits + 8) (length bits) (omega arith)) refl
