use Rattle.std.proofs.Common.{◌≡◌, ◌+◌, ◌*◌, ◌≤◌, ◌++◌, length, drop, map}
use Rattle.sercos_idn.specs.declared.idn.Idn.{Idn}
use Rattle.sercos_text.specs.Lists.{list_text}
use Rattle.sercos_text.specs.declared.list.Item.TheVariants.{Ident}
use Rattle.sercos_text.proofs.writer.push_listed.Given as goal

abbrev pub invariant-loop-idn : goal.invariant-loop-idn
invariant-loop-idn l = record {
  whole : l.line ++ list_text Ident (map (λ (idn : Idn). idn.raw) (drop l.idn-index l.idns)) ≡ l.initial.line ++ list_text Ident (map (λ (idn : Idn). idn.raw) l.idns);
  room : length l.line ≤ length l.initial.line + 9 * l.idn-index;
}
