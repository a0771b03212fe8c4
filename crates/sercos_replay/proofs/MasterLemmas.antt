-- What a replay of the master keeps stays right with one line more.
use Rattle.std.proofs.Common.{◌≡◌, ℕ, Bool, true, false, List, [], ◌∷◌, ◌++◌, Option, Some, None, is_some, refl, sym, ◌∙◌, ap, subst}
use Rattle.std.specs.Option.{option_or}
use Rattle.std.proofs.lemmas.Option.{none-some}
use Rattle.sercos_model.proofs.OptionLemmas.{option_or-none, option_or-some}
use Rattle.sercos_step.specs.declared.request.Job.{Job}
use Rattle.sercos_trace.specs.Views.{SentView}
use Rattle.sercos_seat.specs.Ring.{Known}
use Rattle.sercos_master.specs.declared.master.AnyMaster.{AnyMaster}
use Rattle.sercos_master.specs.Annals.{Call, HearMst, HearAt, End}
use Rattle.sercos_master.specs.Any.{AnyStandsFor}
use Rattle.sercos_master.specs.Says.{mdt_said}
use Rattle.sercos_replay.specs.declared.master_replay.MasterReplay.{MasterReplay}
use Rattle.sercos_replay.specs.Cycles.{Cycle, begun}
use Rattle.sercos_replay.specs.Places.{PlaceView, if_differs}
use Rattle.sercos_replay.specs.Differences.{at_calls, heard_calls, mdt_calls, master_calls, looks_back, mst_place_of, mst_place, mdt_place_of, mdt_place, master_differs, if_passed, master_tells}
use Rattle.sercos_replay.specs.Kept.{HasMaster, master_kept, MasterAwaits, MasterRests, MasterStandsIn, MasterEndsIn}
use Rattle.sercos_replay.proofs.OptionLemmas.{or-none, or-stays}
use Rattle.sercos_replay.proofs.SharedLemmas.{with_ats, Tells, AnyReplay, kept-stands, kept-ends}

-- WHAT IS TOLD of the newest cycle.
tells-mdt : (s : Known) (jobs : List Job) (t : Cycle) (j : List Cycle) (mdt : SentView) → t.mdt ≡ Some mdt → master_tells s jobs (t ∷ j) ≡ master_differs s jobs (t ∷ j)
tells-mdt s jobs t j mdt some =
    ap (λ (m : Option SentView). option_or (master_differs s jobs j) (option_or (if_differs (mst_place s jobs t j)) (if_passed (is_some m) (mdt_place s jobs t j)))) some

tells-open : (s : Known) (jobs : List Job) (t : Cycle) (j : List Cycle) → t.mdt ≡ None
    → master_tells s jobs (t ∷ j) ≡ option_or (master_differs s jobs j) (option_or (if_differs (mst_place s jobs t j)) None)
tells-open s jobs t j none =
    ap (λ (m : Option SentView). option_or (master_differs s jobs j) (option_or (if_differs (mst_place s jobs t j)) (if_passed (is_some m) (mdt_place s jobs t j)))) none

pub awaits-none : (v : MasterReplay) (s : Known) (jobs : List Job) (t : Cycle) (j : List Cycle) → MasterAwaits v s jobs t j → master_tells s jobs (t ∷ j) ≡ None
awaits-none v s jobs t j a =
    tells-open s jobs t j a.mdt_is
    ∙ or-none (master_differs s jobs j) _ a.before
    ∙ or-none (if_differs (mst_place s jobs t j)) None a.agrees

-- with each telegram more it is told again
tells-differs : (s : Known) (jobs : List Job) (t : Cycle) (j : List Cycle) (x : PlaceView) → master_tells s jobs (t ∷ j) ≡ Some x → master_differs s jobs (t ∷ j) ≡ Some x
tells-differs s jobs t j x told =
    or-stays (master_differs s jobs j) _ _ x (λ e. or-stays (if_differs (mst_place s jobs t j)) _ _ x (by (is_some t.mdt)) e) told
  where
    by : (b : Bool) → if_passed b (mdt_place s jobs t j) ≡ Some x → if_differs (mdt_place s jobs t j) ≡ Some x
    by true e = e
    by false e = absurd (none-some x e)

-- in an opened cycle only what comes before its MDT's place is told
mdt-stays : (s : Known) (jobs : List Job) (t : Cycle) (j : List Cycle) (sent : SentView) (x : PlaceView) → t.mdt ≡ None → master_tells s jobs (t ∷ j) ≡ Some x
    → master_differs s jobs (record t { mdt = Some sent } ∷ j) ≡ Some x
mdt-stays s jobs t j sent x none told =
    or-stays (master_differs s jobs j) (option_or (if_differs (mst_place s jobs t j)) None) (option_or (if_differs (mst_place s jobs t j)) (if_differs (mdt_place s jobs (record t { mdt = Some sent }) j))) x
    (λ e. or-stays (if_differs (mst_place s jobs t j)) None _ x (λ n. absurd (none-some x n)) e)
    (sym (tells-open s jobs t j none) ∙ told)

pub master_telling : (s : Known) (jobs : List Job) → Tells (master_tells s jobs) (master_differs s jobs)
master_telling s jobs = record {
  none = refl;
  before = λ t j x some. option_or-some (master_differs s jobs j) _ x some;
  after = tells-differs s jobs;
  whole = tells-mdt s jobs;
  at = λ t j sent x none told. tells-open s jobs (with_ats t sent) j none ∙ sym (tells-open s jobs t j none) ∙ told;
  mdt = mdt-stays s jobs;
}

abbrev pub replay_of_master : MasterReplay → Known → List Job → AnyReplay
replay_of_master v s jobs = record {
  is_open = v.is_open;
  has_told = v.differs;
  told = v.told.value;
  tells = master_tells s jobs;
  differs = master_differs s jobs;
  Awaits = MasterAwaits v s jobs;
  Rests = MasterRests v s jobs;
  telling = master_telling s jobs;
  open_is = λ t j a. a.open_is;
  mdt_is = λ t j a. a.mdt_is;
  agrees = awaits-none v s jobs;
  closed_is = λ j r. r.open_is;
  before = λ j r. r.before;
}

-- THE MASTER is there.
pub is_there : (o : Option AnyMaster) (m : AnyMaster) (s : Known) (jobs : List Job) (h : List Call) → o ≡ Some m → HasMaster o s jobs h → AnyStandsFor m s jobs h
is_there o m s jobs h is has = subst (λ o. HasMaster o s jobs h) is has

pub not_there : (o : Option AnyMaster) (s : Known) (jobs : List Job) (h : List Call) → o ≡ None → HasMaster o s jobs h → ⊥
not_there o s jobs h is has = subst (λ o. HasMaster o s jobs h) is has

-- THE CYCLE ENDS.
pub ended : (v w : MasterReplay) (s : Known) (jobs : List Job) (t : Cycle) (j : List Cycle) (mdt : Option SentView) → MasterAwaits v s jobs t j
    → w.rate ≡ v.rate → w.is_open ≡ false
    → if_differs (mdt_place_of v.rate v.cycle (mdt_said s (looks_back s jobs (mdt_calls t (master_calls j)))) mdt) ≡ master_kept w
    → HasMaster w.master s jobs (End ∷ mdt_calls t (master_calls j)) → MasterEndsIn w s jobs (record t { mdt = mdt } ∷ j)
ended v w s jobs t j mdt a rate opened place has = kept-ends (replay_of_master w s jobs) (cycle ∷ j)
    (or-none (master_differs s jobs j) _ a.before ∙ or-none (if_differs (mst_place s jobs t j)) _ a.agrees ∙ here)
    (λ none. record { rate_is = rate ∙ a.rate_is; open_is = opened; stands = has; before = none })
  where
    cycle : Cycle
    cycle = record t { mdt = mdt }

    here : if_differs (mdt_place s jobs cycle j) ≡ master_kept w
    here =
        ap (λ r. if_differs (mdt_place_of r t.cycle (mdt_said s (looks_back s jobs (mdt_calls t (master_calls j)))) mdt)) (sym a.rate_is)
        ∙ ap (λ c. if_differs (mdt_place_of v.rate c (mdt_said s (looks_back s jobs (mdt_calls t (master_calls j)))) mdt)) (sym a.cycle_is)
        ∙ place

-- A CYCLE BEGINS.
pub began : (v w : MasterReplay) (s : Known) (jobs : List Job) (cycle : ℕ) (sent : SentView) (j : List Cycle) → MasterRests v s jobs j
    → w.rate ≡ v.rate → w.cycle ≡ cycle → w.is_open ≡ true
    → if_differs (mst_place_of cycle (looks_back s jobs (master_calls j)) sent) ≡ master_kept w
    → HasMaster w.master s jobs (HearMst (Some sent.content) ∷ master_calls j) → MasterStandsIn w s jobs (begun cycle sent ∷ j)
began v w s jobs cycle sent j r rate cycle_is opened place has = kept-stands (replay_of_master w s jobs) (begun cycle sent) j (told ∙ place)
    (λ none. record { rate_is = rate ∙ r.rate_is; cycle_is = cycle_is; open_is = opened; mdt_is = refl; stands = has; before = r.before; agrees = sym told ∙ none })
  where
    told : master_tells s jobs (begun cycle sent ∷ j) ≡ if_differs (mst_place s jobs (begun cycle sent) j)
    told = or-none (master_differs s jobs j) _ r.before ∙ option_or-none (if_differs (mst_place s jobs (begun cycle sent) j))

-- AN AT COMES.
at_calls-more : (ats : List SentView) (sent : SentView) (h : List Call) → at_calls (ats ++ sent ∷ []) h ≡ HearAt sent.content ∷ at_calls ats h
at_calls-more [] sent h = refl
at_calls-more (s ∷ ats) sent h = at_calls-more ats sent (HearAt s.content ∷ h)

pub heard : (v w : MasterReplay) (s : Known) (jobs : List Job) (t : Cycle) (j : List Cycle) (sent : SentView) → MasterAwaits v s jobs t j
    → w.rate ≡ v.rate → w.cycle ≡ v.cycle → w.is_open ≡ v.is_open
    → HasMaster w.master s jobs (HearAt sent.content ∷ heard_calls t (master_calls j)) → MasterAwaits w s jobs (with_ats t sent) j
heard v w s jobs t j sent a rate cycle opened has = record {
  rate_is = rate ∙ a.rate_is;
  cycle_is = cycle ∙ a.cycle_is;
  open_is = opened ∙ a.open_is;
  mdt_is = a.mdt_is;
  stands = subst (HasMaster w.master s jobs) (sym (at_calls-more t.ats sent (HearMst (Some t.mst.content) ∷ master_calls j))) has;
  before = a.before;
  agrees = a.agrees;
}
