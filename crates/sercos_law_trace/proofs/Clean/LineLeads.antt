-- The lines of a trace that are no telegrams pass a check of captures.
use Rattle.sercos_law_trace.proofs.Words.{◌≡◌, ℕ, ℤ, zero, suc, ◌<◌, ◌≤◌, Bool, true, false, List, [], ◌∷◌, ◌++◌, length, take, drop, reverse, Option, Some, None, option_map, refl, sym, ◌∙◌, ap, ap₂, subst, arith, if◌then◌else◌, All, flat_map, beq, flat_map-append, reverse_onto, All-head, All-tail, All-take, All-drop, Kind, Outcome, WishesView, PlanView, ChainView, Value, number, signed, bytes, LineKind, Line, Move, Totals, Stop, Fall, line_of, line_with, SentView, EventsView, CycleView, ReadsBack, sent_kind, sent_text, move_text, ended_text, outcome_text, plan_line, slot_text, slots_text, link_text, bound_text, chain_text, events_text, moves_text, cycle_text, end_text, Told, rule_number, broken_rule, awaited_after, wishes_by, has_head, TellsFollowing, told, FitsLine, FitLines, told_after, told_in, KeepRules, FitsMove, FitsEnded, FitsSlot, FitsPlan, FitsLink, FitsChain, FitsStop, FitsFall, FitsEvents, FitsCycle, FitTotals, tail_text, IsTail, field_of, AreOf, IsOf, part_left, numbers_in, signed_by, bytes_by, template_of, tail_for, line_by, plan_text, stop_text, fall_text}
use Rattle.sercos_telegram.specs.declared.layout.Kind.TheVariants as telegram
use Rattle.sercos_step.specs.declared.request.Outcome.TheVariants as outcome
use Rattle.sercos_text.specs.Templates.{IsPart}
use Rattle.sercos_trace.specs.declared.kind.LineKind.TheVariants as kind
use Rattle.sercos_trace.specs.declared.reading.Line.TheVariants as line
use Rattle.sercos_trace.specs.declared.events.Stop.TheVariants as stop
use Rattle.sercos_trace.specs.declared.events.Fall.TheVariants as fall
use Rattle.sercos_check.specs.declared.awaited.Awaited.TheVariants as awaited
use Rattle.sercos_law_trace.proofs.Clean.PassLemmas.{Leads, leads_none, leads_both, leads_all, line_for, with_passes, of_passes}

-- After the head: these are the wishes, and these telegrams have come.
pub record Stands (w : WishesView) (before : List Told) (lines : List Line) : Type 0 where
  pub awaits : awaited_after lines ≡ awaited.Cycle
  pub wishes : wishes_by lines ≡ w
  pub telegrams : told lines ≡ before

module _ (tells : TellsFollowing) (law : ReadsBack) where
  -- a line that isn't that of a telegram
  other_with : (w : WishesView) (before : List Told) (k : LineKind) (values : List Value) (items : List ℕ) → AreOf (template_of k) values → IsTail (tail_for k) items → line_for k values items ≡ line.Other
      → Leads (line_with k values items) (Stands w before) (Stands w before)
  other_with w before k values items are tail is lines stands =
      with_passes tells law (Stands w before) k values items line.Other lines are tail is (stands.awaits, tt) refl (record { awaits = refl; wishes = stands.wishes; telegrams = stands.telegrams })

  other_of : (w : WishesView) (before : List Told) (k : LineKind) (values : List Value) → AreOf (template_of k) values → IsTail (tail_for k) [] → tail_text (tail_for k) [] ≡ [] → line_for k values [] ≡ line.Other
      → Leads (line_of k values) (Stands w before) (Stands w before)
  other_of w before k values are tail none is lines stands =
      of_passes tells law (Stands w before) k values line.Other lines are tail none is (stands.awaits, tt) refl (record { awaits = refl; wishes = stands.wishes; telegrams = stands.telegrams })

  module _ (w : WishesView) (before : List Told) where
    abbrev Stays : List ℕ → Type 0
    Stays text = Leads text (Stands w before) (Stands w before)

    both : (a b : List ℕ) → Stays a → Stays b → Stays (a ++ b)
    both a b one two = leads_both a b (Stands w before) (Stands w before) (Stands w before) one two

    moves_stay : (cycle : ℕ) (late : Bool) (moves : List Move) → All (FitsMove cycle) moves → Stays (moves_text cycle late moves)
    unfolding line_by tail_for tail_text IsTail
    moves_stay cycle late moves all = leads_all (λ (m : Move). if beq m.late late then move_text cycle m else []) (FitsMove cycle) (Stands w before) (λ m are. by m are (beq m.late late)) moves all
      where
        by : (m : Move) → FitsMove cycle m → (b : Bool) → Stays (if b then move_text cycle m else [])
        by m are true = other_of w before kind.Phase _ are refl refl refl
        by m are false = leads_none (Stands w before)

    ended_stays : (cycle i : ℕ) (o : Outcome) → FitsEnded cycle i o → Stays (ended_text cycle i o)
    unfolding line_by tail_for tail_text IsTail
    ended_stays cycle i (outcome.Complete list) are = other_of w before kind.Complete _ are refl refl refl
    ended_stays cycle i (outcome.Refused code) are = other_of w before kind.Refused _ are refl refl refl
    ended_stays cycle i outcome.Broken are = other_of w before kind.Broken _ are refl refl refl

    slots_stay : (cycle : ℕ) (p : PlanView) (n : ℕ) → n ≤ length w.drives → ((k : ℕ) → k < length w.drives → FitsSlot cycle w p k) → Stays (slots_text cycle w p n)
    unfolding line_by tail_for tail_text IsTail
    slots_stay cycle p zero low each = leads_none (Stands w before)
    slots_stay cycle p (suc n) low each =
        both (slots_text cycle w p n) (slot_text cycle w p n) (slots_stay cycle p n (omega (arith, low)) each)
        (other_of w before kind.Slot _ (each n (omega (arith, low))) refl refl refl)

    plan_stays : (cycle : ℕ) (p : Option PlanView) → FitsPlan cycle w p → Stays (plan_text cycle w p)
    unfolding plan_text line_by tail_for tail_text IsTail
    plan_stays cycle None are = leads_none (Stands w before)
    plan_stays cycle (Some p) are = both (plan_line cycle p) (slots_text cycle w p (length w.drives)) (other_of w before kind.Plan _ are.0 refl refl refl) (slots_stay cycle p (length w.drives) (omega arith) are.1)

    chain_stays : (cycle : ℕ) (c : ChainView) → FitsChain cycle c → Stays (chain_text cycle c)
    unfolding line_by tail_for tail_text IsTail
    chain_stays cycle c are =
        both (line_of kind.NoFit (number cycle ∷ [])) (flat_map (link_text cycle) c.links ++ bound_text cycle c) (other_of w before kind.NoFit _ are.0 refl refl refl)
        (both (flat_map (link_text cycle) c.links) (bound_text cycle c) (leads_all (link_text cycle) (FitsLink cycle) (Stands w before)
        (λ l is. other_of w before kind.RuleAt _ is refl refl refl) c.links are.1) (other_of w before kind.RuleSum _ are.2 refl refl refl))

    stop_stays : (cycle : ℕ) (o : Option Stop) → FitsStop cycle o → Stays (stop_text cycle o)
    unfolding stop_text line_by tail_for tail_text IsTail
    stop_stays cycle None are = leads_none (Stands w before)
    stop_stays cycle (Some (stop.NoFit c)) are = chain_stays cycle c are
    stop_stays cycle (Some (stop.Refused drive idn code)) are = other_of w before kind.StopRefused _ are refl refl refl
    stop_stays cycle (Some (stop.BadConfig drive idn attribute)) are = other_of w before kind.StopConfig _ are refl refl refl
    stop_stays cycle (Some (stop.Check127 drive list)) are = other_with w before kind.Check127 _ _ are.0 are.1 refl
    stop_stays cycle (Some (stop.Check128 drive list)) are = other_with w before kind.Check128 _ _ are.0 are.1 refl

    fall_stays : (cycle : ℕ) (o : Option Fall) → FitsFall cycle o → Stays (fall_text cycle o)
    unfolding fall_text line_by tail_for tail_text IsTail
    fall_stays cycle None are = leads_none (Stands w before)
    fall_stays cycle (Some fall.MstLost) are = other_of w before kind.FallMst _ are refl refl refl
    fall_stays cycle (Some (fall.AtLost drive)) are = other_of w before kind.FallAt _ are refl refl refl
    fall_stays cycle (Some (fall.StepLimit drive)) are = other_of w before kind.FallStep _ are refl refl refl
    fall_stays cycle (Some fall.Restart) are = other_of w before kind.FallRestart _ are refl refl refl

    events_stay : (cycle : ℕ) (e : EventsView) → FitsEvents w cycle e → Stays (events_text w cycle e)
    events_stay cycle e are =
        both (flat_map (outcome_text cycle) e.outcomes) (plan_text cycle w e.plan ++ (stop_text cycle e.stop ++ fall_text cycle e.fall))
        (leads_all (outcome_text cycle) (λ (r : ℕ × Outcome). FitsEnded cycle r.0 r.1) (Stands w before) (λ r is. ended_stays cycle r.0 r.1 is) e.outcomes are.outcomes)
        (both (plan_text cycle w e.plan) (stop_text cycle e.stop ++ fall_text cycle e.fall) (plan_stays cycle e.plan are.plan)
        (both (stop_text cycle e.stop) (fall_text cycle e.fall) (stop_stays cycle e.stop are.stop) (fall_stays cycle e.fall are.fall)))

  -- TELEGRAMS
  abbrev values_of : ℕ → ℤ → ℕ → List ℕ → List Value
  values_of cycle start bits content = number cycle ∷ signed start ∷ number bits ∷ bytes content ∷ []

  are_values : (k : Kind) (cycle : ℕ) (start : ℤ) (bits : ℕ) (content : List ℕ) → FitsLine cycle (record { kind = k; start = start; bits = bits; content = content }) → AreOf (template_of (sent_kind k)) (values_of cycle start bits content)
  unfolding template_of AreOf IsPart IsOf field_of part_left
  are_values telegram.Mst cycle start bits content is = (tt, (tt, (is.number, (tt, (is.start, (tt, (is.bits, (tt, ((is.bytes, is.few), tt)))))))))
  are_values telegram.At cycle start bits content is = (tt, (tt, (is.number, (tt, (is.start, (tt, (is.bits, (tt, ((is.bytes, is.few), tt)))))))))
  are_values telegram.Mdt cycle start bits content is = (tt, (tt, (is.number, (tt, (is.start, (tt, (is.bits, (tt, ((is.bytes, is.few), tt)))))))))

  module _ (w : WishesView) where
    abbrev with_told : ℕ → SentView → List Told → List Told
    with_told cycle s before = (record { cycle = cycle; sent = s }) ∷ before

    rule_so : (before : List Told) (lines : List Line) (cycle : ℕ) (s : SentView) → Stands w before lines → broken_rule w before (record { cycle = cycle; sent = s }) ≡ None → option_map rule_number (broken_rule (wishes_by lines) (told lines) (record { cycle = cycle; sent = s })) ≡ None
    rule_so before lines cycle s stands kept =
        ap (option_map rule_number) (ap₂ (λ (v : WishesView) (l : List Told). broken_rule v l (record { cycle = cycle; sent = s })) stands.wishes stands.telegrams ∙ kept)

    next_stands : (before : List Told) (lines : List Line) (cycle : ℕ) (s : SentView) → Stands w before lines → Stands w (with_told cycle s before) (line.Telegram cycle s ∷ lines)
    next_stands before lines cycle s stands = record { awaits = refl; wishes = stands.wishes; telegrams = ap (λ (l : List Told). with_told cycle s l) stands.telegrams }

    sent_leads : (before : List Told) (cycle : ℕ) (k : Kind) (start : ℤ) (bits : ℕ) (content : List ℕ) → FitsLine cycle (record { kind = k; start = start; bits = bits; content = content })
        → broken_rule w before (record { cycle = cycle; sent = record { kind = k; start = start; bits = bits; content = content } }) ≡ None
        → Leads (sent_text cycle (record { kind = k; start = start; bits = bits; content = content })) (Stands w before) (Stands w (with_told cycle (record { kind = k; start = start; bits = bits; content = content }) before))
    unfolding line_by tail_for tail_text IsTail numbers_in signed_by bytes_by
    sent_leads before cycle telegram.Mst start bits content fits kept lines stands =
        of_passes tells law (Stands w (with_told cycle (record { kind = telegram.Mst; start = start; bits = bits; content = content }) before)) kind.Mst (values_of cycle start bits content) (line.Telegram cycle (record { kind = telegram.Mst; start = start; bits = bits; content = content })) lines (are_values telegram.Mst cycle start bits content fits) refl refl refl (stands.awaits, tt) (rule_so before lines cycle (record { kind = telegram.Mst; start = start; bits = bits; content = content }) stands kept)
        (next_stands before lines cycle (record { kind = telegram.Mst; start = start; bits = bits; content = content }) stands)
    sent_leads before cycle telegram.At start bits content fits kept lines stands =
        of_passes tells law (Stands w (with_told cycle (record { kind = telegram.At; start = start; bits = bits; content = content }) before)) kind.At (values_of cycle start bits content) (line.Telegram cycle (record { kind = telegram.At; start = start; bits = bits; content = content })) lines (are_values telegram.At cycle start bits content fits) refl refl refl (stands.awaits, tt) (rule_so before lines cycle (record { kind = telegram.At; start = start; bits = bits; content = content }) stands kept)
        (next_stands before lines cycle (record { kind = telegram.At; start = start; bits = bits; content = content }) stands)
    sent_leads before cycle telegram.Mdt start bits content fits kept lines stands =
        of_passes tells law (Stands w (with_told cycle (record { kind = telegram.Mdt; start = start; bits = bits; content = content }) before)) kind.Mdt (values_of cycle start bits content) (line.Telegram cycle (record { kind = telegram.Mdt; start = start; bits = bits; content = content })) lines (are_values telegram.Mdt cycle start bits content fits) refl refl refl (stands.awaits, tt) (rule_so before lines cycle (record { kind = telegram.Mdt; start = start; bits = bits; content = content }) stands kept)
        (next_stands before lines cycle (record { kind = telegram.Mdt; start = start; bits = bits; content = content }) stands)

    kept_before : (cycle : ℕ) (sent : List SentView) (before : List Told) → KeepRules w (told_after cycle sent before) → KeepRules w before
    kept_before cycle [] before kept = kept
    kept_before cycle (s ∷ sent) before kept = (kept_before cycle sent (with_told cycle s before) kept).0

    sents_lead : (cycle : ℕ) (sent : List SentView) (before : List Told) → All (FitsLine cycle) sent → KeepRules w (told_after cycle sent before) → Leads (flat_map (sent_text cycle) sent) (Stands w before) (Stands w (told_after cycle sent before))
    sents_lead cycle [] before all kept = leads_none (Stands w before)
    sents_lead cycle (s ∷ sent) before all kept =
        leads_both (sent_text cycle s) (flat_map (sent_text cycle) sent) (Stands w before) (Stands w (with_told cycle s before)) (Stands w (told_after cycle sent (with_told cycle s before)))
        (sent_leads before cycle s.kind s.start s.bits s.content (All-head (FitsLine cycle) s sent all) (kept_before cycle sent (with_told cycle s before) kept).1)
        (sents_lead cycle sent (with_told cycle s before) (All-tail (FitsLine cycle) s sent all) kept)

    -- A CYCLE, and all
    first_told : (cycle : ℕ) (sent : List SentView) (before : List Told) → told_after cycle (drop 1 sent) (told_after cycle (take 1 sent) before) ≡ told_after cycle sent before
    first_told cycle [] before = refl
    first_told cycle (s ∷ sent) before = refl

    cycle_leads : (t : CycleView) (before : List Told) → All (FitsLine t.cycle) t.sent → FitsCycle w t → KeepRules w (told_after t.cycle t.sent before) → Leads (cycle_text w t) (Stands w before) (Stands w (told_after t.cycle t.sent before))
    cycle_leads t before all fits kept =
        let early = moves_text t.cycle false t.moves in
        let late = moves_text t.cycle true t.moves in
        let events = events_text w t.cycle t.events in
        let mst = flat_map (sent_text t.cycle) (take 1 t.sent) in
        let others = flat_map (sent_text t.cycle) (drop 1 t.sent) in
        let first : List Told = told_after t.cycle (take 1 t.sent) before in
        let last : List Told = told_after t.cycle t.sent before in
        let whole : KeepRules w (told_after t.cycle (drop 1 t.sent) first) = subst (KeepRules w) (sym (first_told t.cycle t.sent before)) kept in
        leads_both mst (early ++ (others ++ (late ++ events))) (Stands w before) (Stands w first) (Stands w last)
        (sents_lead t.cycle (take 1 t.sent) before (All-take (FitsLine t.cycle) 1 t.sent all) (kept_before t.cycle (drop 1 t.sent) first whole))
        (leads_both early (others ++ (late ++ events)) (Stands w first) (Stands w first) (Stands w last) (moves_stay w first t.cycle false t.moves fits.moves)
        (leads_both others (late ++ events) (Stands w first) (Stands w last) (Stands w last)
        (subst (λ (l : List Told). Leads others (Stands w first) (Stands w l)) (first_told t.cycle t.sent before) (sents_lead t.cycle (drop 1 t.sent) first (All-drop (FitsLine t.cycle) 1 t.sent all) whole))
        (leads_both late events (Stands w last) (Stands w last) (Stands w last) (moves_stay w last t.cycle true t.moves fits.moves) (events_stay w last t.cycle t.events fits.events))))

    pub journal_leads : (j : List CycleView) → FitLines j → All (FitsCycle w) j → KeepRules w (told_in j) → Leads (flat_map (cycle_text w) (reverse j)) (Stands w []) (Stands w (told_in j))
    journal_leads [] all fits kept = leads_none (Stands w [])
    journal_leads (t ∷ j) all fits kept =
        let before = journal_leads j (All-tail (λ (u : CycleView). All (FitsLine u.cycle) u.sent) t j all) (All-tail (FitsCycle w) t j fits) (kept_before t.cycle t.sent (told_in j) kept) in
        let here = cycle_leads t (told_in j) (All-head (λ (u : CycleView). All (FitsLine u.cycle) u.sent) t j all) (All-head (FitsCycle w) t j fits) kept in
        let order : flat_map (cycle_text w) (reverse (t ∷ j)) ≡ flat_map (cycle_text w) (reverse j) ++ (cycle_text w t ++ []) = ap (flat_map (cycle_text w)) (reverse_onto j t []) ∙ flat_map-append (cycle_text w) (reverse j) (t ∷ []) in
        subst (λ text. Leads text (Stands w []) (Stands w (told_in (t ∷ j)))) (sym order)
        (leads_both (flat_map (cycle_text w) (reverse j)) (cycle_text w t ++ []) (Stands w []) (Stands w (told_in j)) (Stands w (told_in (t ∷ j))) before
        (leads_both (cycle_text w t) [] (Stands w (told_in j)) (Stands w (told_in (t ∷ j))) (Stands w (told_in (t ∷ j))) here (leads_none (Stands w (told_in (t ∷ j))))))

    -- THE END
    pub end_leads : (t : Totals) (before : List Told) → FitTotals t → Leads (end_text t) (Stands w before) (λ lines. has_head lines ≡ true)
    unfolding line_by tail_for tail_text IsTail
    end_leads t before are lines stands = of_passes tells law (λ lines. has_head lines ≡ true) kind.End _ line.End lines are refl refl refl (stands.awaits, tt) refl refl
