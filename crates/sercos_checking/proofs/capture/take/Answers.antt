use Rattle.std.proofs.Common.{◌≡◌, ℕ, List, Some, sym, ap, ◌∙◌, subst, ◌∷◌}
use Rattle.sercos_trace.specs.declared.reading.Line.{Line}
use Rattle.sercos_trace.specs.Lines.{line_in}
use Rattle.sercos_checking.specs.Taken.{HasTaken}
use Rattle.sercos_checking.proofs.CheckingLemmas.{read_good, grammar-none, grammar-bad, column-bad, column-misplaced, column-none}
use Rattle.sercos_checking.proofs.capture.take.Goals as goal

-- the line that the reader keeps is the one that was read
kept : (l m : Line) (text : List ℕ) → m ≡ l → Some l ≡ line_in text → Some m ≡ line_in text
kept l m text same read = ap (λ (l : Line). Some l) same ∙ read

pub returns-in-Err-clause-column : goal.returns-in-Err-clause-column
returns-in-Err-clause-column c = λ before taken. sym (column-bad before _ _ (grammar-bad _ _ c.in-Err.ensures.err))

pub returns-then-not-follows-clause-column : goal.returns-then-not-follows-clause-column
returns-then-not-follows-clause-column c = λ before taken.
    sym (column-misplaced before _ _ (grammar-none _ c.in_default.ensures.err) (read_good _ _ (kept _ c.line-line.result.now _ c.line-line.ensures c.in_default.ensures.ok))
    (sym (c.follows.ensures.value before taken.shape_stands taken.shaped) ∙ c.if-not-follows.true))

pub returns-clause-column : goal.returns-clause-column
returns-clause-column c = λ before taken.
    sym (column-none before _ _ (grammar-none _ c.in_default.ensures.err) (read_good _ _ (kept _ c.line-line.result.now _ c.line-line.ensures c.in_default.ensures.ok))
    (sym (c.follows.ensures.value before taken.shape_stands taken.shaped) ∙ c.if-not-follows.false))

pub returns-clause-taken : goal.returns-clause-taken
returns-clause-taken c = λ before taken.
    let can = (c.test_law.ensures.follows before _).0 (sym (c.follows.ensures.value before taken.shape_stands taken.shaped) ∙ c.if-not-follows.false) in
    subst (λ l. HasTaken c.follows.new.shape c.line-trouble.new.self (l ∷ before)) (sym (read_good _ _ (kept _ c.line-line.result.now _ c.line-line.ensures c.in_default.ensures.ok)))
    (record {
      shape_stands = c.follows.ensures.stands before taken.shape_stands;
      rules_stand = c.line-trouble.ensures.stands before taken.rules_stand;
      shaped = (can, taken.shaped);
    })
