-- The trace of a run is read back as its telegrams.
use Rattle.std.proofs.Common.{◌≡◌, ℕ, ℤ, pos, zero, suc, Bool, true, false, List, [], ◌∷◌, ◌++◌, length, take, drop, reverse, Option, Some, None, refl, ap, sym, ◌∙◌, subst, append_assoc, append-nil, if◌then◌else◌}
use Rattle.std.specs.Prelude.{unwrap_or}
use Rattle.std.specs.List.{All, flat_map}
use mathlib.Core.Bool.{beq}
use Rattle.std.proofs.lemmas.Grind.{flat_map-append, reverse_onto}
use Rattle.std.proofs.lemmas.List.Elements.{All-head, All-tail, All-take, All-drop}
use Rattle.sercos_telegram.specs.declared.layout.Kind.{Kind}
use Rattle.sercos_telegram.specs.declared.layout.Kind.TheVariants as telegram
use Rattle.sercos_step.specs.declared.request.Outcome.{Outcome}
use Rattle.sercos_step.specs.declared.request.Outcome.TheVariants as outcome
use Rattle.sercos_timing.specs.Views.{WishesView, PlanView}
use Rattle.sercos_plan.specs.Views.{ChainView}
use Rattle.sercos_text.specs.Tails.{tail_text, IsTail, addresses_in}
use Rattle.sercos_text.specs.Templates.{Value, field_of, AreOf, IsPart, IsOf, part_left, line_text, numbers_in, signed_by, bytes_by}
use Rattle.sercos_text.specs.Templates.Value.{number, signed, bytes}
use Rattle.sercos_trace.specs.declared.kind.LineKind.{LineKind}
use Rattle.sercos_trace.specs.declared.kind.LineKind.TheVariants as kind
use Rattle.sercos_trace.specs.declared.reading.Line.{Line}
use Rattle.sercos_trace.specs.declared.reading.Line.TheVariants as line
use Rattle.sercos_trace.specs.declared.record.Move.{Move}
use Rattle.sercos_trace.specs.declared.events.Stop.{Stop}
use Rattle.sercos_trace.specs.declared.events.Stop.TheVariants as stop
use Rattle.sercos_trace.specs.declared.events.Fall.{Fall}
use Rattle.sercos_trace.specs.declared.events.Fall.TheVariants as fall
use Rattle.sercos_trace.specs.Kinds.{template_of, tail_for, line_of, line_with}
use Rattle.sercos_trace.specs.Views.{SentView, EventsView, CycleView}
use Rattle.sercos_trace.specs.Lines.{line_by, line_in, ReadsBack}
use Rattle.sercos_trace.specs.Texts.{drive_text, sent_kind, sent_text, move_text, ended_text, outcome_text, plan_line, slot_text, slots_text, plan_text, link_text, bound_text, chain_text, stopped_text, stop_text, fell_text, fall_text, events_text, moves_text, cycle_text, ring_text, order_text, header_text, end_text, trace_of}
use Rattle.sercos_answer.specs.Lines as answer
use Rattle.sercos_checking.specs.Checking.{read_as}
use Rattle.sercos_replay.specs.Captured.{lines_with, lines_of, telegrams}
use Rattle.sercos_replay.specs.Stations.{lines_after, lines_read}
use Rattle.sercos_replay.specs.Traced.{FitsLine, FitLines, ReadsTraces, TracesDiffer}
use Rattle.sercos_replay.specs.Undisturbed.{CapturesDiffer}
use Rattle.sercos_block.specs.Rings.{wishes_of}
use Rattle.sercos_trace.specs.Marked.{NoFeed}
use Rattle.sercos_trace.proofs.FeedLemmas.{NoFeed-append, lines_of-line, line_no_feed, tail_no_feed, template_no_feed}
use Rattle.sercos_replay.proofs.SilentLemmas.{is_telegram, silent_kind}

-- The lines of a text, read after others, add these telegrams, the newest first.
record After (text : List ℕ) (told : List Line) (before : List Line) (rest : List ℕ) : Type 0 where
  lines : List Line
  reads : lines_after before (answer.lines_of (text ++ rest)) ≡ lines_after lines (answer.lines_of rest)
  adds : telegrams lines ≡ told ++ telegrams before

abbrev Tells : List ℕ → List Line → Type 0
Tells text told = (before : List Line) (rest : List ℕ) → After text told before rest

tells_nothing : Tells [] []
tells_nothing before rest = record { lines = before; reads = refl; adds = refl }

tells_both : (a b : List ℕ) (first second : List Line) → Tells a first → Tells b second → Tells (a ++ b) (second ++ first)
tells_both a b first second one two before rest =
    let here = one before (b ++ rest) in
    let there = two here.lines rest in
    record {
      lines = there.lines;
      reads = ap (λ text. lines_after before (answer.lines_of text)) (append_assoc a b rest) ∙ here.reads ∙ there.reads;
      adds = there.adds ∙ ap (λ lines. second ++ lines) here.adds ∙ sym (append_assoc second first (telegrams before));
    }

silent_both : (a b : List ℕ) → Tells a [] → Tells b [] → Tells (a ++ b) []
silent_both a b one two = tells_both a b [] [] one two

-- one line
tells_line : (text : List ℕ) (told : List Line) → NoFeed text → ((before : List Line) → telegrams (read_as text ∷ before) ≡ told ++ telegrams before) → Tells (text ++ 10 ∷ []) told
unfolding lines_after
tells_line text told none reads before rest = record {
  lines = read_as text ∷ before;
  reads = ap (λ all. lines_after before (answer.lines_of all)) (append_assoc text (10 ∷ []) rest) ∙ ap (lines_after before) (lines_of-line text rest none);
  adds = reads before;
}

silent_with : (k : LineKind) (values : List Value) (items : List ℕ) → is_telegram k ≡ false → Tells (line_with k values items) []
silent_with k values items other =
    tells_line (line_text (template_of k) values ++ tail_text (tail_for k) items) []
    (NoFeed-append (line_text (template_of k) values) (tail_text (tail_for k) items) (line_no_feed (template_of k) values (template_no_feed k)) (tail_no_feed (tail_for k) items))
    (λ before. silent_kind k values (tail_text (tail_for k) items) before other)

silent_of : (k : LineKind) (values : List Value) → is_telegram k ≡ false → Tells (line_of k values) []
silent_of k values other =
    tells_line (line_text (template_of k) values) [] (line_no_feed (template_of k) values (template_no_feed k))
    (λ before. ap (λ text. telegrams (read_as text ∷ before)) (sym (append-nil (line_text (template_of k) values))) ∙ silent_kind k values [] before other)

silent_all : {X : Type 0} (f : X → List ℕ) (xs : List X) → ((x : X) → Tells (f x) []) → Tells (flat_map f xs) []
silent_all f [] each = tells_nothing
silent_all f (x ∷ xs) each = silent_both (f x) (flat_map f xs) (each x) (silent_all f xs each)

-- the parts of a trace that have no telegram
silent_move : (cycle : ℕ) (m : Move) → Tells (move_text cycle m) []
silent_move cycle m = silent_of kind.Phase _ refl

silent_moves : (cycle : ℕ) (late : Bool) (moves : List Move) → Tells (moves_text cycle late moves) []
silent_moves cycle late moves = silent_all (λ (m : Move). if beq m.late late then move_text cycle m else []) moves (λ m. by m (beq m.late late))
  where
    by : (m : Move) (b : Bool) → Tells (if b then move_text cycle m else []) []
    by m true = silent_move cycle m
    by m false = tells_nothing

silent_ended : (cycle i : ℕ) (o : Outcome) → Tells (ended_text cycle i o) []
silent_ended cycle i (outcome.Complete list) = silent_of kind.Complete _ refl
silent_ended cycle i (outcome.Refused code) = silent_of kind.Refused _ refl
silent_ended cycle i outcome.Broken = silent_of kind.Broken _ refl

silent_slots : (cycle : ℕ) (w : WishesView) (p : PlanView) (n : ℕ) → Tells (slots_text cycle w p n) []
silent_slots cycle w p zero = tells_nothing
silent_slots cycle w p (suc n) = silent_both (slots_text cycle w p n) (slot_text cycle w p n) (silent_slots cycle w p n) (silent_of kind.Slot _ refl)

silent_plan : (cycle : ℕ) (w : WishesView) (p : Option PlanView) → Tells (plan_text cycle w p) []
unfolding plan_text
silent_plan cycle w None = tells_nothing
silent_plan cycle w (Some p) = silent_both (plan_line cycle p) (slots_text cycle w p (length w.drives)) (silent_of kind.Plan _ refl) (silent_slots cycle w p (length w.drives))

silent_chain : (cycle : ℕ) (c : ChainView) → Tells (chain_text cycle c) []
silent_chain cycle c =
    silent_both (line_of kind.NoFit (number cycle ∷ [])) (flat_map (link_text cycle) c.links ++ bound_text cycle c) (silent_of kind.NoFit _ refl)
    (silent_both (flat_map (link_text cycle) c.links) (bound_text cycle c) (silent_all (link_text cycle) c.links (λ l. silent_of kind.RuleAt _ refl)) (silent_of kind.RuleSum _ refl))

silent_stopped : (cycle : ℕ) (s : Stop) → Tells (stopped_text cycle s) []
silent_stopped cycle (stop.NoFit c) = silent_chain cycle c
silent_stopped cycle (stop.Refused drive idn code) = silent_of kind.StopRefused _ refl
silent_stopped cycle (stop.BadConfig drive idn attribute) = silent_of kind.StopConfig _ refl
silent_stopped cycle (stop.Check127 drive list) = silent_with kind.Check127 _ _ refl
silent_stopped cycle (stop.Check128 drive list) = silent_with kind.Check128 _ _ refl

silent_stop : (cycle : ℕ) (s : Option Stop) → Tells (stop_text cycle s) []
unfolding stop_text
silent_stop cycle None = tells_nothing
silent_stop cycle (Some s) = silent_stopped cycle s

silent_fell : (cycle : ℕ) (f : Fall) → Tells (fell_text cycle f) []
silent_fell cycle fall.MstLost = silent_of kind.FallMst _ refl
silent_fell cycle (fall.AtLost drive) = silent_of kind.FallAt _ refl
silent_fell cycle (fall.StepLimit drive) = silent_of kind.FallStep _ refl
silent_fell cycle fall.Restart = silent_of kind.FallRestart _ refl

silent_fall : (cycle : ℕ) (f : Option Fall) → Tells (fall_text cycle f) []
unfolding fall_text
silent_fall cycle None = tells_nothing
silent_fall cycle (Some f) = silent_fell cycle f

silent_events : (w : WishesView) (cycle : ℕ) (e : EventsView) → Tells (events_text w cycle e) []
silent_events w cycle e =
    silent_both (flat_map (outcome_text cycle) e.outcomes) (plan_text cycle w e.plan ++ (stop_text cycle e.stop ++ fall_text cycle e.fall))
    (silent_all (outcome_text cycle) e.outcomes (λ r. silent_ended cycle r.0 r.1))
    (silent_both (plan_text cycle w e.plan) (stop_text cycle e.stop ++ fall_text cycle e.fall) (silent_plan cycle w e.plan)
    (silent_both (stop_text cycle e.stop) (fall_text cycle e.fall) (silent_stop cycle e.stop) (silent_fall cycle e.fall)))

silent_header : (w : WishesView) → Tells (header_text w) []
silent_header w =
    silent_both (line_of kind.Version []) (ring_text w ++ (flat_map drive_text w.drives ++ order_text w)) (silent_of kind.Version [] refl)
    (silent_both (ring_text w) (flat_map drive_text w.drives ++ order_text w) (silent_of kind.Ring _ refl)
    (silent_both (flat_map drive_text w.drives) (order_text w) (silent_all drive_text w.drives (λ d. silent_of kind.Drive _ refl)) (silent_with kind.Order [] _ refl)))

-- the telegrams of a cycle
abbrev told_sent : ℕ → List SentView → List Line
told_sent cycle [] = []
told_sent cycle (s ∷ sent) = told_sent cycle sent ++ line.Telegram cycle s ∷ []

abbrev telegram_values : ℕ → ℤ → ℕ → List ℕ → List Value
telegram_values cycle start bits content = number cycle ∷ signed start ∷ number bits ∷ bytes content ∷ []

are_values : (k : Kind) (cycle : ℕ) (start : ℤ) (bits : ℕ) (content : List ℕ) → FitsLine cycle (record { kind = k; start = start; bits = bits; content = content }) → AreOf (template_of (sent_kind k)) (telegram_values cycle start bits content)
unfolding template_of AreOf IsPart IsOf field_of part_left
are_values telegram.Mst cycle start bits content is = (tt, (tt, (is.number, (tt, (is.start, (tt, (is.bits, (tt, ((is.bytes, is.few), tt)))))))))
are_values telegram.At cycle start bits content is = (tt, (tt, (is.number, (tt, (is.start, (tt, (is.bits, (tt, ((is.bytes, is.few), tt)))))))))
are_values telegram.Mdt cycle start bits content is = (tt, (tt, (is.number, (tt, (is.start, (tt, (is.bits, (tt, ((is.bytes, is.few), tt)))))))))

line_is : (k : Kind) (cycle : ℕ) (start : ℤ) (bits : ℕ) (content addresses : List ℕ)
    → line_by (sent_kind k) (numbers_in (telegram_values cycle start bits content)) (signed_by (pos 0) (telegram_values cycle start bits content)) (bytes_by [] (telegram_values cycle start bits content)) addresses
    ≡ line.Telegram cycle (record { kind = k; start = start; bits = bits; content = content })
unfolding line_by numbers_in signed_by bytes_by
line_is telegram.Mst cycle start bits content addresses = refl
line_is telegram.At cycle start bits content addresses = refl
line_is telegram.Mdt cycle start bits content addresses = refl

-- the line of a telegram has no tail
abbrev telegram_text : Kind → List Value → List ℕ
telegram_text k values = line_text (template_of (sent_kind k)) values

telegram_in : ReadsBack → (k : Kind) (values : List Value) → AreOf (template_of (sent_kind k)) values
    → line_in (telegram_text k values) ≡ Some (line_by (sent_kind k) (numbers_in values) (signed_by (pos 0) values) (bytes_by [] values) [])
unfolding tail_for tail_text IsTail addresses_in
telegram_in law telegram.Mst values are = ap line_in (sym (append-nil (telegram_text telegram.Mst values))) ∙ law kind.Mst values [] are refl
telegram_in law telegram.At values are = ap line_in (sym (append-nil (telegram_text telegram.At values))) ∙ law kind.At values [] are refl
telegram_in law telegram.Mdt values are = ap line_in (sym (append-nil (telegram_text telegram.Mdt values))) ∙ law kind.Mdt values [] are refl

reads_telegram : ReadsBack → (k : Kind) (cycle : ℕ) (start : ℤ) (bits : ℕ) (content : List ℕ) → FitsLine cycle (record { kind = k; start = start; bits = bits; content = content })
    → read_as (telegram_text k (telegram_values cycle start bits content)) ≡ line.Telegram cycle (record { kind = k; start = start; bits = bits; content = content })
unfolding read_as
reads_telegram law k cycle start bits content is =
    ap (λ (o : Option Line). unwrap_or o line.Other) (telegram_in law k (telegram_values cycle start bits content) (are_values k cycle start bits content is)) ∙ line_is k cycle start bits content []

tells_sent : ReadsBack → (cycle : ℕ) (s : SentView) → FitsLine cycle s → Tells (sent_text cycle s) (line.Telegram cycle s ∷ [])
unfolding telegrams
tells_sent law cycle s is =
    tells_line (telegram_text s.kind (telegram_values cycle s.start s.bits s.content)) (line.Telegram cycle s ∷ [])
    (line_no_feed (template_of (sent_kind s.kind)) (telegram_values cycle s.start s.bits s.content) (template_no_feed (sent_kind s.kind)))
    (λ before. ap (λ l. telegrams (l ∷ before)) (reads_telegram law s.kind cycle s.start s.bits s.content is))

tells_sents : ReadsBack → (cycle : ℕ) (sent : List SentView) → All (FitsLine cycle) sent → Tells (flat_map (sent_text cycle) sent) (told_sent cycle sent)
tells_sents law cycle [] all = tells_nothing
tells_sents law cycle (s ∷ sent) all =
    tells_both (sent_text cycle s) (flat_map (sent_text cycle) sent) (line.Telegram cycle s ∷ []) (told_sent cycle sent) (tells_sent law cycle s (All-head (FitsLine cycle) s sent all)) (tells_sents law cycle sent (All-tail (FitsLine cycle) s sent all))

-- the MST, and the telegrams after it
first_told : (cycle : ℕ) (sent : List SentView) → (told_sent cycle (drop 1 sent) ++ []) ++ told_sent cycle (take 1 sent) ≡ told_sent cycle sent
first_told cycle [] = refl
first_told cycle (s ∷ sent) = ap (λ told. told ++ line.Telegram cycle s ∷ []) (append-nil (told_sent cycle sent))

tells_cycle : ReadsBack → (w : WishesView) (t : CycleView) → All (FitsLine t.cycle) t.sent → Tells (cycle_text w t) (told_sent t.cycle t.sent)
tells_cycle law w t all =
    let early = moves_text t.cycle false t.moves in
    let late = moves_text t.cycle true t.moves in
    let events = events_text w t.cycle t.events in
    let mst = flat_map (sent_text t.cycle) (take 1 t.sent) in
    let others = flat_map (sent_text t.cycle) (drop 1 t.sent) in
    subst (Tells (cycle_text w t)) (first_told t.cycle t.sent)
    (tells_both mst (early ++ (others ++ (late ++ events))) (told_sent t.cycle (take 1 t.sent)) (told_sent t.cycle (drop 1 t.sent) ++ [])
    (tells_sents law t.cycle (take 1 t.sent) (All-take (FitsLine t.cycle) 1 t.sent all))
    (tells_both early (others ++ (late ++ events)) [] (told_sent t.cycle (drop 1 t.sent)) (silent_moves t.cycle false t.moves)
    (tells_both others (late ++ events) (told_sent t.cycle (drop 1 t.sent)) [] (tells_sents law t.cycle (drop 1 t.sent) (All-drop (FitsLine t.cycle) 1 t.sent all))
    (silent_both late events (silent_moves t.cycle true t.moves) (silent_events w t.cycle t.events)))))

lines_with_told : (cycle : ℕ) (sent : List SentView) (lines : List Line) → told_sent cycle sent ++ telegrams lines ≡ telegrams (lines_with cycle sent lines)
unfolding telegrams
lines_with_told cycle [] lines = refl
lines_with_told cycle (s ∷ sent) lines = append_assoc (told_sent cycle sent) (line.Telegram cycle s ∷ []) (telegrams lines) ∙ lines_with_told cycle sent (line.Telegram cycle s ∷ lines)

tells_journal : ReadsBack → (w : WishesView) (j : List CycleView) → FitLines j → Tells (flat_map (cycle_text w) (reverse j)) (telegrams (lines_of j))
unfolding telegrams
tells_journal law w [] all = tells_nothing
tells_journal law w (t ∷ j) all =
    let before = tells_journal law w j (All-tail (λ (t : CycleView). All (FitsLine t.cycle) t.sent) t j all) in
    let here = tells_cycle law w t (All-head (λ (t : CycleView). All (FitsLine t.cycle) t.sent) t j all) in
    let order : flat_map (cycle_text w) (reverse (t ∷ j)) ≡ flat_map (cycle_text w) (reverse j) ++ (cycle_text w t ++ []) = ap (flat_map (cycle_text w)) (reverse_onto j t []) ∙ flat_map-append (cycle_text w) (reverse j) (t ∷ []) in
    subst (λ text. Tells text (telegrams (lines_of (t ∷ j)))) (sym order)
    (subst (Tells (flat_map (cycle_text w) (reverse j) ++ (cycle_text w t ++ []))) (lines_with_told t.cycle t.sent (lines_of j))
    (tells_both (flat_map (cycle_text w) (reverse j)) (cycle_text w t ++ []) (telegrams (lines_of j)) (told_sent t.cycle t.sent) before (tells_both (cycle_text w t) [] (told_sent t.cycle t.sent) [] here tells_nothing)))

pub reads_traces : ReadsBack → ReadsTraces
unfolding lines_read lines_after answer.lines_of telegrams
reads_traces law w j t all =
    let header = header_text w in
    let cycles = flat_map (cycle_text w) (reverse j) in
    let end = end_text t in
    let told = telegrams (lines_of j) in
    let whole : Tells (header ++ (cycles ++ end)) (told ++ []) = tells_both header (cycles ++ end) [] told (silent_header w) (tells_both cycles end told [] (tells_journal law w j all) (silent_of kind.End _ refl)) in
    let after = whole [] [] in
    let lines : lines_after [] (answer.lines_of (header ++ (cycles ++ end))) ≡ after.lines = ap (λ text. lines_after [] (answer.lines_of text)) (sym (append-nil (header ++ (cycles ++ end)))) ∙ after.reads in
    ap telegrams lines ∙ after.adds ∙ append-nil (told ++ []) ∙ append-nil told

-- so a station differs in the trace of a run as it does in its telegrams
pub traces : ReadsTraces → CapturesDiffer → TracesDiffer
traces reads captured address d s carry restarts j t place has is differs =
    captured address d s (trace_of (wishes_of d.setup) (reverse j) t) carry restarts j place has
    (record { ring = is.ring; typed = is.typed; jobs = is.jobs; run = is.run; same = reads (wishes_of d.setup) j t is.fit }) differs
