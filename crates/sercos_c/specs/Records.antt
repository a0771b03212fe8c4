-- Records of cycles in which nothing is sent.
use Rattle.std.specs.Prelude.{ℕ, List, [], None}
use Rattle.sercos_trace.specs.Views.{CycleView, EventsView, SentView}

-- no events
abbrev pub no_events : EventsView
no_events = record { outcomes = []; plan = None; stop = None; fall = None }

-- the record of a cycle in which nothing has happened yet, but for these telegrams
abbrev pub of_nothing : ℕ → List SentView → CycleView
of_nothing cycle sent = record { cycle = cycle; phase = 0; sent = sent; moves = []; events = no_events; unseen = 0 }

-- the record of a cycle that has these events alone
abbrev pub silent_record : ℕ → EventsView → CycleView
silent_record cycle events = record { cycle = cycle; phase = 0; sent = []; moves = []; events = events; unseen = 0 }
