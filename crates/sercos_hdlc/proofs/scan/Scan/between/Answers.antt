use Rattle.std.proofs.Common.{arith, sym, ◌∙◌}
use Rattle.sercos_hdlc.proofs.ClosingLemmas.{open_parts, no_open_scan, no_close_scan, no_close_found, runs_found, missing_found, enclosed_found}
use Rattle.sercos_hdlc.proofs.scan.Scan.between.Goals as goal

pub returns-then-not-opens-clause-reason : goal.returns-then-not-opens-clause-reason
returns-then-not-opens-clause-reason c = λ bits plain h. no_open_scan bits plain c.args.self.now c.opens.result h c.opens.ensures.value c.if-not-opens.true

pub returns-then-self-lt6-clause-reason : goal.returns-then-self-lt6-clause-reason
returns-then-self-lt6-clause-reason c =
    let opened = open_parts c.args.self.now.taken c.args.self.now.agrees c.opens.result c.opens.ensures.value c.if-not-opens.false in
    λ bits plain h. no_close_scan bits plain c.args.self.now h opened.0 opened.1 (omega arith)

pub returns-then-self-clause-reason : goal.returns-then-self-clause-reason
returns-then-self-clause-reason c =
    let opened = open_parts c.args.self.now.taken c.args.self.now.agrees c.opens.result c.opens.ensures.value c.if-not-opens.false in
    λ bits plain h. no_close_found bits plain c.args.self.now h opened.0 (omega arith) opened.1 (omega arith)

pub returns-then-runs_on-clause-reason : goal.returns-then-runs_on-clause-reason
returns-then-runs_on-clause-reason c =
    let opened = open_parts c.args.self.now.taken c.args.self.now.agrees c.opens.result c.opens.ensures.value c.if-not-opens.false in
    λ bits plain h. runs_found bits plain c.args.self.now h opened.0 (omega arith) opened.1 (omega arith) (sym c.runs_on.ensures.value ∙ c.if-runs_on.true)

pub returns-then-self-2-clause-reason : goal.returns-then-self-2-clause-reason
returns-then-self-2-clause-reason c =
    let opened = open_parts c.args.self.now.taken c.args.self.now.agrees c.opens.result c.opens.ensures.value c.if-not-opens.false in
    λ bits plain h. missing_found bits plain c.args.self.now h opened.0 (omega arith) opened.1 (omega arith) (sym c.runs_on.ensures.value ∙ c.if-runs_on.false) c.if-self-2.true

pub returns-clause-plain : goal.returns-clause-plain
returns-clause-plain c =
    let opened = open_parts c.args.self.now.taken c.args.self.now.agrees c.opens.result c.opens.ensures.value c.if-not-opens.false in
    λ bits plain h. enclosed_found bits plain c.args.self.now h opened.0 (omega arith) opened.1 (omega arith) (sym c.runs_on.ensures.value ∙ c.if-runs_on.false) c.if-self-2.false c.saturating_sub.result (omega arith)
