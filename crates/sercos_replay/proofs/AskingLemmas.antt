-- Where the answer is that all agrees, and what it is where a replay is asked for.
use Rattle.std.proofs.Common.{◌≡◌, ◌⊎◌, inl, inr, ℕ, List, length, Option, Some, None, Result, Ok, Err, refl, sym, ◌∙◌, ap}
use Rattle.sercos_io.specs.declared.status.Status.TheVariants.{Done, No, Refused}
use Rattle.sercos_trace.specs.declared.reading.Line.{Line}
use Rattle.sercos_document.specs.declared.refusal.BadDocument.{BadDocument}
use Rattle.sercos_config.specs.Views.{DocumentView}
use Rattle.sercos_config.specs.Document.{document_of}
use Rattle.sercos_answer.specs.Answer.{Answer}
use Rattle.sercos_checking.specs.declared.verdict.Verdict.{Verdict}
use Rattle.sercos_checking.specs.declared.verdict.Verdict.TheVariants as verdict
use Rattle.sercos_checking.specs.Checking.{verdict_of, verdict_status}
use Rattle.sercos_replay.specs.Cycles.{cycles_of}
use Rattle.sercos_replay.specs.Places.{PlaceView}
use Rattle.sercos_replay.specs.Divided.{divided}
use Rattle.sercos_replay.specs.Stations.{Station, station_of, station_differs, lines_read}
use Rattle.sercos_replay.specs.Replaying.{place_answer, station_answer, verdict_answer, late_start, ruled_answer, started_answer, judged_answer, capture_answer, found_answer, document_answer, parts_answer, replay_answer}
use Rattle.sercos_replay.specs.Asking.{Asks, cycles_in, Agrees, Differs, Breaks, Replays}

no≢done : No ≡ Done → ⊥
no≢done e = cc

refused≢no : Refused ≡ No → ⊥
refused≢no e = cc

refused≢done : Refused ≡ Done → ⊥
refused≢done e = cc

done_place : (o : Option PlaceView) (cycles : ℕ) → (place_answer o cycles).status ≡ Done → o ≡ None
unfolding place_answer
done_place None cycles e = refl
done_place (Some p) cycles e = absurd (no≢done e)

-- what the answer Done says of a capture
record IsSame (v : Verdict) (start : Option ℕ) (s : Station) (lines : List Line) : Type 0 where
  count : ℕ
  clean : v ≡ verdict.Clean count
  starts : start ≡ None
  same : station_differs s (cycles_of lines) ≡ None

done_judged : (v : Verdict) (start : Option ℕ) (s : Station) (lines : List Line) → (judged_answer v start s lines).status ≡ Done → IsSame v start s lines
unfolding judged_answer started_answer ruled_answer verdict_answer verdict_status station_answer
done_judged (verdict.Refused number column) start s lines e = absurd (refused≢done e)
done_judged (verdict.Violation number rule) (Some cycle) s lines e = absurd (refused≢done e)
done_judged (verdict.Violation number rule) None s lines e = absurd (no≢done e)
done_judged (verdict.Clean count) (Some cycle) s lines e = absurd (refused≢done e)
done_judged (verdict.Clean count) None s lines e = record { count = count; clean = refl; starts = refl; same = done_place _ _ e }

done_capture : (s : Station) (capture : List ℕ) → (capture_answer s capture).status ≡ Done → IsSame (verdict_of capture) (late_start capture) s (lines_read capture)
unfolding capture_answer
done_capture s capture e = done_judged (verdict_of capture) (late_start capture) s (lines_read capture) e

done_found : (address : ℕ) (bytes document capture : List ℕ) (d : DocumentView) (found : Option Station) → divided bytes ≡ Some (document, capture) → document_of document ≡ Ok d → station_of address d ≡ found
    → (found_answer found address capture).status ≡ Done → Agrees address bytes
unfolding found_answer
done_found address bytes document capture d None divides says has e = absurd (refused≢done e)
done_found address bytes document capture d (Some s) divides says has e =
    let is = done_capture s capture e in
    record {
      s = s;
      capture = capture;
      asks = record { document = document; divides = divides; d = d; says = says; has_station = has; count = is.count; clean = is.clean; starts = is.starts };
      same = is.same;
    }

done_document : (address : ℕ) (bytes document capture : List ℕ) (read : Result DocumentView BadDocument) → divided bytes ≡ Some (document, capture) → document_of document ≡ read
    → (document_answer read address capture).status ≡ Done → Agrees address bytes
unfolding document_answer
done_document address bytes document capture (Ok d) divides says e = done_found address bytes document capture d (station_of address d) divides says refl e
done_document address bytes document capture (Err bad) divides says e = absurd (refused≢done e)

done_parts : (address : ℕ) (bytes : List ℕ) (parts : Option (List ℕ × List ℕ)) → divided bytes ≡ parts → (parts_answer parts address).status ≡ Done → Agrees address bytes
unfolding parts_answer
done_parts address bytes None divides e = absurd (refused≢done e)
done_parts address bytes (Some parts) divides e = done_document address bytes parts.0 parts.1 (document_of parts.0) divides refl e

done_agrees : (address : ℕ) (bytes : List ℕ) → (replay_answer address bytes).status ≡ Done → Agrees address bytes
unfolding replay_answer
done_agrees address bytes e = done_parts address bytes (divided bytes) refl e

-- what the answer No says of a capture
data IsOther (v : Verdict) (start : Option ℕ) (s : Station) (lines : List Line) : Type 0 where
  at_place : (count : ℕ) (place : PlaceView) → v ≡ verdict.Clean count → start ≡ None → station_differs s (cycles_of lines) ≡ Some place → IsOther v start s lines
  at_line : (line rule : ℕ) → v ≡ verdict.Violation line rule → start ≡ None → IsOther v start s lines

no_place : (o : Option PlaceView) (cycles : ℕ) → (place_answer o cycles).status ≡ No → (place : PlaceView) × (o ≡ Some place)
unfolding place_answer
no_place None cycles e = absurd (no≢done (sym e))
no_place (Some p) cycles e = (p, refl)

no_judged : (v : Verdict) (start : Option ℕ) (s : Station) (lines : List Line) → (judged_answer v start s lines).status ≡ No → IsOther v start s lines
unfolding judged_answer started_answer ruled_answer verdict_answer verdict_status station_answer
no_judged (verdict.Refused number column) start s lines e = absurd (refused≢no e)
no_judged (verdict.Violation number rule) (Some cycle) s lines e = absurd (refused≢no e)
no_judged (verdict.Violation number rule) None s lines e = at_line number rule refl refl
no_judged (verdict.Clean count) (Some cycle) s lines e = absurd (refused≢no e)
no_judged (verdict.Clean count) None s lines e = let (place, is) = no_place _ _ e in at_place count place refl refl is

no_capture : (s : Station) (capture : List ℕ) → (capture_answer s capture).status ≡ No → IsOther (verdict_of capture) (late_start capture) s (lines_read capture)
unfolding capture_answer
no_capture s capture e = no_judged (verdict_of capture) (late_start capture) s (lines_read capture) e

no_station : (address : ℕ) (bytes document capture : List ℕ) (d : DocumentView) (s : Station) → divided bytes ≡ Some (document, capture) → document_of document ≡ Ok d → station_of address d ≡ Some s
    → IsOther (verdict_of capture) (late_start capture) s (lines_read capture) → Differs address bytes ⊎ Breaks address bytes
no_station address bytes document capture d s divides says has (at_place count place clean starts first) =
    inl (record {
      s = s;
      capture = capture;
      asks = record { document = document; divides = divides; d = d; says = says; has_station = has; count = count; clean = clean; starts = starts };
      place = place;
      first = first;
    })
no_station address bytes document capture d s divides says has (at_line line rule violation starts) =
    inr (record { document = document; capture = capture; divides = divides; d = d; says = says; s = s; has_station = has; line = line; rule = rule; violation = violation; starts = starts })

no_found : (address : ℕ) (bytes document capture : List ℕ) (d : DocumentView) (found : Option Station) → divided bytes ≡ Some (document, capture) → document_of document ≡ Ok d → station_of address d ≡ found
    → (found_answer found address capture).status ≡ No → Differs address bytes ⊎ Breaks address bytes
unfolding found_answer
no_found address bytes document capture d None divides says has e = absurd (refused≢no e)
no_found address bytes document capture d (Some s) divides says has e = no_station address bytes document capture d s divides says has (no_capture s capture e)

no_document : (address : ℕ) (bytes document capture : List ℕ) (read : Result DocumentView BadDocument) → divided bytes ≡ Some (document, capture) → document_of document ≡ read
    → (document_answer read address capture).status ≡ No → Differs address bytes ⊎ Breaks address bytes
unfolding document_answer
no_document address bytes document capture (Ok d) divides says e = no_found address bytes document capture d (station_of address d) divides says refl e
no_document address bytes document capture (Err bad) divides says e = absurd (refused≢no e)

no_parts : (address : ℕ) (bytes : List ℕ) (parts : Option (List ℕ × List ℕ)) → divided bytes ≡ parts → (parts_answer parts address).status ≡ No → Differs address bytes ⊎ Breaks address bytes
unfolding parts_answer
no_parts address bytes None divides e = absurd (refused≢no e)
no_parts address bytes (Some parts) divides e = no_document address bytes parts.0 parts.1 (document_of parts.0) divides refl e

no_differs : (address : ℕ) (bytes : List ℕ) → (replay_answer address bytes).status ≡ No → Differs address bytes ⊎ Breaks address bytes
unfolding replay_answer
no_differs address bytes e = no_parts address bytes (divided bytes) refl e

breaks_tells : (address : ℕ) (bytes : List ℕ) (b : Breaks address bytes) → replay_answer address bytes ≡ verdict_answer (verdict.Violation b.line b.rule)
unfolding replay_answer parts_answer document_answer found_answer capture_answer judged_answer started_answer ruled_answer
breaks_tells address bytes b = rw (b.divides, b.says, b.has_station, b.violation, b.starts) refl

asked : (address : ℕ) (bytes : List ℕ) (s : Station) (capture : List ℕ) → Asks address bytes s capture → replay_answer address bytes ≡ place_answer (station_differs s (cycles_in capture)) (length (cycles_in capture))
unfolding replay_answer parts_answer document_answer found_answer capture_answer judged_answer started_answer ruled_answer station_answer
asked address bytes s capture asks = rw (asks.divides, asks.says, asks.has_station, asks.clean, asks.starts) refl

none_done : (o : Option PlaceView) (cycles : ℕ) → o ≡ None → (place_answer o cycles).status ≡ Done
unfolding place_answer
none_done o cycles e = rw e refl

agrees_done : (address : ℕ) (bytes : List ℕ) → Agrees address bytes → (replay_answer address bytes).status ≡ Done
agrees_done address bytes is =
    ap (λ (answer : Answer). answer.status) (asked address bytes is.s is.capture is.asks) ∙ none_done _ (length (cycles_in is.capture)) is.same

pub replays : (address : ℕ) (bytes : List ℕ) → Replays address bytes
replays address bytes = record { done = done_agrees address bytes; agrees = agrees_done address bytes; no = no_differs address bytes; breaks = breaks_tells address bytes; tells = asked address bytes }
