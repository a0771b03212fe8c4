-- What was appended, and the text of what is left of the template, make up the line.
use Rattle.std.proofs.Common.{◌≡◌, ◌+◌, ◌≤◌, ◌++◌, length, drop, map, sum_by}
use Rattle.sercos_text.specs.Given.{value_of, most_bytes}
use Rattle.sercos_text.specs.Templates.{line_text}
use Rattle.sercos_text.proofs.writer.push_line.Given as goal

abbrev pub invariant-loop-letter : goal.invariant-loop-letter
invariant-loop-letter l = record {
  within : l.next ≤ length l.values;
  whole : l.line ++ line_text (drop l.letter-index l.template) (map value_of (drop l.next l.values)) ≡ l.initial.line ++ line_text l.template (map value_of l.values);
  room : length l.line + sum_by most_bytes (map value_of (drop l.next l.values)) ≤ length l.initial.line + l.letter-index + sum_by most_bytes (map value_of l.values);
}
