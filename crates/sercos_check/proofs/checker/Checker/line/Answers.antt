use Rattle.std.proofs.Common.{ap, Some, inl, inr, refl, ◌∷◌, ◌+◌}
use Rattle.std.proofs.lemmas.Bool.{false≢true}
use Rattle.sercos_check.proofs.CheckerLemmas.{stopped, running, count, next_count, no_fault, no_trouble, one_trouble, going}
use Rattle.sercos_check.proofs.checker.Checker.line.Goals as goal

pub returns-in-Some-clause-ok : goal.returns-in-Some-clause-ok
returns-in-Some-clause-ok c = λ lines stands.
    (λ e. absurd (false≢true e), λ clean. absurd (no_trouble lines _ clean.0 (stopped _ _ lines _ c.self.view_is c.in-Some.is stands)))

pub returns-in-Some-clause-trouble : goal.returns-in-Some-clause-trouble
returns-in-Some-clause-trouble c = λ lines stands t first.
    ap Some (one_trouble (c.args.line.now ∷ lines) _ t (inl (stopped _ _ lines _ c.self.view_is c.in-Some.is stands)) first)

pub returns-in-Some-take-clause-stands : goal.returns-in-Some-take-clause-stands
returns-in-Some-take-clause-stands c = λ lines stands.
    let now = running _ _ lines c.self.view_is c.in_default.is stands in
    let number = next_count _ _ lines c.args.line.now c.self.view_is stands in
    record { count = number; stands = inr (now.clean, c.in-Some-take.ensures.fault lines now.head now.seen (ap (λ n. n + 1) (count _ _ lines c.self.view_is stands))) }

pub returns-in-Some-take-clause-ok : goal.returns-in-Some-take-clause-ok
returns-in-Some-take-clause-ok c = λ lines stands.
    let now = running _ _ lines c.self.view_is c.in_default.is stands in
    let fault = c.in-Some-take.ensures.fault lines now.head now.seen (ap (λ n. n + 1) (count _ _ lines c.self.view_is stands)) in
    (λ e. absurd (false≢true e), λ clean. absurd (no_fault lines _ _ clean.1 clean.2 fault))

pub returns-in-Some-take-clause-err : goal.returns-in-Some-take-clause-err
returns-in-Some-take-clause-err c = λ lines stands.
    let now = running _ _ lines c.self.view_is c.in_default.is stands in
    inr (now.clean, c.in-Some-take.ensures.fault lines now.head now.seen (ap (λ n. n + 1) (count _ _ lines c.self.view_is stands)))

pub returns-in-Some-take-clause-trouble : goal.returns-in-Some-take-clause-trouble
returns-in-Some-take-clause-trouble c = λ lines stands t first.
    let now = running _ _ lines c.self.view_is c.in_default.is stands in
    let fault = c.in-Some-take.ensures.fault lines now.head now.seen (ap (λ n. n + 1) (count _ _ lines c.self.view_is stands)) in
    ap Some (one_trouble (c.args.line.now ∷ lines) _ t (inr (now.clean, fault)) first)

pub returns-in-None-clause-stands : goal.returns-in-None-clause-stands
returns-in-None-clause-stands c = λ lines stands.
    let now = running _ _ lines c.self.view_is c.in_default.is stands in
    let next = c.in-None.ensures.clean lines now.head now.seen in
    let number = next_count _ _ lines c.args.line.now c.self.view_is stands in
    going _ (c.args.line.now ∷ lines) c.in_default.is number (record { clean = (now.clean, next.can, next.kept); head = next.stands; seen = next.are_seen })

pub returns-in-None-clause-ok : goal.returns-in-None-clause-ok
returns-in-None-clause-ok c = λ lines stands.
    let now = running _ _ lines c.self.view_is c.in_default.is stands in
    let next = c.in-None.ensures.clean lines now.head now.seen in
    (λ e. (now.clean, next.can, next.kept), λ clean. refl)

pub returns-in-None-clause-trouble : goal.returns-in-None-clause-trouble
returns-in-None-clause-trouble c = λ lines stands t first.
    let now = running _ _ lines c.self.view_is c.in_default.is stands in
    let next = c.in-None.ensures.clean lines now.head now.seen in
    absurd (no_trouble (c.args.line.now ∷ lines) t (now.clean, next.can, next.kept) first)
