use Rattle.sercos_document.specs.Lines.{line_of}
use Rattle.sercos_document.proofs.RefusalLines.{missing_line, kind_line, twice_line, unknown_line}
use Rattle.sercos_document.proofs.line.write_refusal.Goals as goal

pub returns-in-Toml-clause-err : goal.returns-in-Toml-clause-err
unfolding line_of
returns-in-Toml-clause-err g c = rw c.in-Toml.is c.write_all.ensures.err

pub returns-in-Missing-clause-ok : goal.returns-in-Missing-clause-ok
returns-in-Missing-clause-ok g c = rw (missing_line _ _ _ c.in-Missing.is c.as_slice.ensures) c.write_path.ensures.ok

pub returns-in-Missing-clause-err : goal.returns-in-Missing-clause-err
returns-in-Missing-clause-err g c = rw (missing_line _ _ _ c.in-Missing.is c.as_slice.ensures) c.write_path.ensures.err

pub returns-in-Missing-clause-room : goal.returns-in-Missing-clause-room
returns-in-Missing-clause-room g c = rw (missing_line _ _ _ c.in-Missing.is c.as_slice.ensures) c.write_path.ensures.room

pub returns-in-Kind-clause-ok : goal.returns-in-Kind-clause-ok
returns-in-Kind-clause-ok g c = rw (kind_line _ _ _ c.in-Kind.is c.as_slice-in-Kind.ensures) c.write_path-in-Kind.ensures.ok

pub returns-in-Kind-clause-err : goal.returns-in-Kind-clause-err
returns-in-Kind-clause-err g c = rw (kind_line _ _ _ c.in-Kind.is c.as_slice-in-Kind.ensures) c.write_path-in-Kind.ensures.err

pub returns-in-Kind-clause-room : goal.returns-in-Kind-clause-room
returns-in-Kind-clause-room g c = rw (kind_line _ _ _ c.in-Kind.is c.as_slice-in-Kind.ensures) c.write_path-in-Kind.ensures.room

pub returns-in-Twice-clause-ok : goal.returns-in-Twice-clause-ok
returns-in-Twice-clause-ok g c = rw (twice_line _ _ _ c.in-Twice.is c.as_slice-in-Twice.ensures) c.write_path-in-Twice.ensures.ok

pub returns-in-Twice-clause-err : goal.returns-in-Twice-clause-err
returns-in-Twice-clause-err g c = rw (twice_line _ _ _ c.in-Twice.is c.as_slice-in-Twice.ensures) c.write_path-in-Twice.ensures.err

pub returns-in-Twice-clause-room : goal.returns-in-Twice-clause-room
returns-in-Twice-clause-room g c = rw (twice_line _ _ _ c.in-Twice.is c.as_slice-in-Twice.ensures) c.write_path-in-Twice.ensures.room

pub returns-in-Unknown-clause-ok : goal.returns-in-Unknown-clause-ok
returns-in-Unknown-clause-ok g c = rw (unknown_line _ _ _ c.in-Unknown.is c.as_slice-in-Unknown.ensures) c.write_path-in-Unknown.ensures.ok

pub returns-in-Unknown-clause-err : goal.returns-in-Unknown-clause-err
returns-in-Unknown-clause-err g c = rw (unknown_line _ _ _ c.in-Unknown.is c.as_slice-in-Unknown.ensures) c.write_path-in-Unknown.ensures.err

pub returns-in-Unknown-clause-room : goal.returns-in-Unknown-clause-room
returns-in-Unknown-clause-room g c = rw (unknown_line _ _ _ c.in-Unknown.is c.as_slice-in-Unknown.ensures) c.write_path-in-Unknown.ensures.room
